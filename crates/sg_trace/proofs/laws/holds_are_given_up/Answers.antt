use Rattle.sg_trace.proofs.Telling.{holds_were_held as before_proved, rows_are_given_up as rows_proved, given_up_stays as stays_proved}
use Rattle.sg_trace.proofs.laws.holds_are_given_up.Goals as goal

pub returns-clause-before : goal.returns-clause-before
returns-clause-before g c = before_proved _ _ _ _

pub returns-clause-rows : goal.returns-clause-rows
returns-clause-rows g c = rows_proved _ _ _ _

pub returns-clause-stays : goal.returns-clause-stays
returns-clause-stays g c = stays_proved _ _ _ _
