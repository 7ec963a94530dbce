use Rattle.sg_unit.proofs.Small.{lonely_get_stuck, askers_do_not_end, holders_alone_add, waiters_are_woken, answers_are_handed}
use Rattle.sg_unit.proofs.laws.small_runs_are_told_apart.Goals as goal

pub returns-clause-stuck : goal.returns-clause-stuck
returns-clause-stuck g c = lonely_get_stuck _ _ _ _

pub returns-clause-asks : goal.returns-clause-asks
returns-clause-asks g c = askers_do_not_end _ _ _ _

pub returns-clause-holds : goal.returns-clause-holds
returns-clause-holds g c = holders_alone_add _ _ _ _

pub returns-clause-woken : goal.returns-clause-woken
returns-clause-woken g c = waiters_are_woken g.row.I.Denot g.row.R.Denot g.row.I-Datum.Denot g.row.I-Pred.Denot

pub returns-clause-handed : goal.returns-clause-handed
returns-clause-handed g c = answers_are_handed _ _ _ _
