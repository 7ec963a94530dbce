use Rattle.std.proofs.Common.{sym, ◌∙◌, ap}
use Rattle.jv_names.specs.Written.{last_name}
use Rattle.jv_names.proofs.Parting.{last_of}
use Rattle.jv_names.proofs.writing.last_name.Goals as goal

pub returns-in-Some : goal.returns-in-Some
returns-in-Some c = sym (ap last_name c.in-Some.ensures.cases.0 ∙ last_of c.in-Some.field-0-1.now c.in-Some.last.now)
