use Rattle.std.proofs.Common.{◌≡◌, ◌++◌, map}
use Rattle.sg_state.specs.Opening.{edge_of}
use Rattle.jv_layout.specs.Skeleton.{below, lang_edge}
use Rattle.jv_layout.proofs.tables.Layout.add_lang_edges.Given as goal

abbrev pub invariant-loop-f : goal.invariant-loop-f
invariant-loop-f l = map edge_of l.edges.items ≡ map edge_of l.initial.edges.items ++ map (lang_edge l.self) (below l.f)
