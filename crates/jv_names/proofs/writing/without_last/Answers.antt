use Rattle.std.proofs.Common.{sym, ◌∙◌, ap}
use Rattle.jv_names.specs.Written.{without_last}
use Rattle.jv_names.proofs.Parting.{without_of}
use Rattle.jv_names.proofs.writing.without_last.Goals as goal

pub returns-in-Some : goal.returns-in-Some
returns-in-Some c = sym (ap without_last c.in-Some.ensures.cases.0 ∙ without_of c.in-Some.before.now c.in-Some.field-0-0.now)
