-- What contracts see of the script of a unit.
use Rattle.std.specs.Prelude.{ℕ, List}
use Rattle.std.specs.Global.{Global}
use Rattle.std.specs.declared.sync.Arc.{Arc}
use Rattle.sg_query.specs.declared.answer.Answer.{Answer}
use Rattle.sg_query.specs.declared.query.Query.{Query}
use Rattle.jv_instance.specs.declared.datum.JavaDatum.{JavaDatum}
use Rattle.jv_instance.specs.declared.pred.JavaPred.{JavaPred}
use Rattle.jv_unit.specs.declared.folder.Folder.{Folder}

-- its folder, its number, and the replies that have come to it
pub record ScriptOf : Type 0 where
  pub alloc : Global
  pub folder : Arc Folder Global
  pub unit : ℕ
  pub replies : List (Query JavaPred × Answer JavaDatum)
