use Rattle.std.proofs.Common.{ℕ, List, [], map, refl, sym, ap, subst}
use Rattle.jv_tree.specs.DeclTree.{tree_of}
use Rattle.sc_sources.specs.Sources.{ReadsAll, nothing}
use Rattle.sc_sources.proofs.reading.Reading.new.Goals as goal

pub returns : goal.returns
returns c = record {
  outcomes = [];
  reads = subst (λ (names : List (List ℕ)). ReadsAll [] [] names []) (sym c.new.ensures) nothing;
  trees = ap (map tree_of) c.new-2.ensures.items;
  faults = c.empty.ensures;
  files = refl;
}
