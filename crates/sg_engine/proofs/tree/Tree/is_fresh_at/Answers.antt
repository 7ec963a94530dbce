use Rattle.std.proofs.Common.{◌≡◌, not, sym, ◌∙◌}
use Rattle.sg_base.specs.PathTree.{path_at}
use Rattle.sg_base.specs.Scope.{is_scope}
use Rattle.sg_query.specs.Steps.{is_fresh}
use Rattle.sg_engine.specs.Tree.{paths_of, left_of}
use Rattle.sg_engine.proofs.Passing.{fresh_elsewhere}
use Rattle.sg_engine.proofs.tree.Tree.is_fresh_at.Goals as goal

pub returns-then-not-may_pass : goal.returns-then-not-may_pass
returns-then-not-may_pass g c =
    let t = c.args.self.now in
    let fresh : is_fresh t.start (path_at (paths_of t.nodes.items) c.args.place) c.args.t ≡ not (is_scope c.args.t t.start) =
    fresh_elsewhere c.requires.tree.0 t.start t.nodes.items (left_of t) t.found.items t.explored t.going (c.requires.tree.1).0 c.args.t c.args.place c.requires.there (c.may_pass.ensures c.if-not-may_pass.true) in
    c.ne.ensures ∙ sym fresh
