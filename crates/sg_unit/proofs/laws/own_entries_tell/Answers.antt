use Rattle.sg_unit.proofs.Telling.{own_allow, run_allows, own_entries_run, own_entries_reply}
use Rattle.sg_unit.proofs.laws.own_entries_tell.Goals as goal

pub returns-clause-allow : goal.returns-clause-allow
returns-clause-allow g c = own_allow _ _ _ _

pub returns-clause-allowed : goal.returns-clause-allowed
returns-clause-allowed g c = run_allows _ _ _ _

pub returns-clause-own : goal.returns-clause-own
returns-clause-own g c = own_entries_run _ _ _ _

pub returns-clause-reply : goal.returns-clause-reply
returns-clause-reply g c = own_entries_reply _ _ _ _
