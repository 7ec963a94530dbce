use Rattle.std.proofs.Common.{sym}
use Rattle.sg_base.specs.PathTree.{path_at}
use Rattle.sg_base.proofs.Trees.{end_pushed}
use Rattle.sg_base.proofs.path_tree.PathTree.end.Goals as goal

pub returns-in-Some : goal.returns-in-Some
returns-in-Some c =
    let e = c.in-Some.ensures in
    sym (end_pushed c.args.self.now.start (path_at c.args.self.now.paths c.in-Some.field-0-0) (path_at c.args.self.now.paths c.args.place) c.in-Some.step e.1)
