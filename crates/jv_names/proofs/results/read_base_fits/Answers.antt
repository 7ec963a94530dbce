use Rattle.std.proofs.Common.{rules}
use Rattle.jv_names.proofs.ResultSteps.{class_err}
use Rattle.jv_names.proofs.results.read_base_fits.Goals as goal

pub returns-in_err-answer : goal.returns-in_err-answer
returns-in_err-answer c = search (rules, class_err) depth 8
