use Rattle.jv_header.proofs.Programs.{are_programs}
use Rattle.jv_header.proofs.laws.headers_are_programs.Goals as goal

pub returns : goal.returns
returns c = are_programs
