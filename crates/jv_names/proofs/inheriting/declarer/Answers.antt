use Rattle.std.proofs.Common.{◌∙◌}
use Rattle.jv_names.proofs.Paths.{declarer_some}
use Rattle.jv_names.proofs.inheriting.declarer.Goals as goal

pub returns-in-Some : goal.returns-in-Some
returns-in-Some c =
    let e = c.in-Some.ensures in
    c.end.ensures ∙ declarer_some c.args.path.now.start c.in-Some.before.start c.in-Some.before.steps c.args.path.now.steps c.in-Some.field-0-1 e.0 e.1
