use Rattle.sg_strata.proofs.Ranks.{graphs_are_unique, graphs_are_sound, rows_stand}
use Rattle.sg_strata.proofs.laws.stratified_graphs_are_unique.Goals as goal

pub returns-clause-unique : goal.returns-clause-unique
returns-clause-unique g c = graphs_are_unique _ _

pub returns-clause-sound : goal.returns-clause-sound
returns-clause-sound g c = graphs_are_sound _ _

pub returns-clause-stands : goal.returns-clause-stands
returns-clause-stands g c = rows_stand _ _
