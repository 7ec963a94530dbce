use Rattle.sg_headers.proofs.Headers.{closed_headers_are_greatest as proved}
use Rattle.sg_headers.proofs.Outcomes.{runs_leave_alike as alike}
use Rattle.sg_headers.proofs.Sticking.{stuck_where_headers_wait as waits}
use Rattle.sg_headers.proofs.laws.closed_headers_are_greatest.Goals as goal

pub returns-clause-greatest : goal.returns-clause-greatest
returns-clause-greatest g c = proved _ _ _ _ _

pub returns-clause-alike : goal.returns-clause-alike
returns-clause-alike g c = alike _ _ _ _ _

pub returns-clause-stuck : goal.returns-clause-stuck
returns-clause-stuck g c = waits _ _ _ _ _
