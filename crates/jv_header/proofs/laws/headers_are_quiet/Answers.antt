use Rattle.jv_header.proofs.Programs.{are_quiet}
use Rattle.jv_header.proofs.laws.headers_are_quiet.Goals as goal

pub returns : goal.returns
returns c = are_quiet
