-- What the script of a unit keeps.
use Rattle.std.specs.Prelude.{◌≡◌, ℕ, ◌+◌, ◌<◌, List, ◌++◌, [], ◌∷◌, length, slice_get, Option, Some, None, Result}
use Rattle.std.specs.Arc.{arc_value}
use Rattle.sg_query.specs.declared.answer.Answer.{Answer}
use Rattle.sg_query.specs.declared.query.Query.{Query}
use Rattle.sg_query.specs.Query.{KindOf}
use Rattle.sg_state.specs.Held.{HeldOf}
use Rattle.sg_unit.specs.Served.{AreNew}
use Rattle.sg_reading.specs.declared.stop.Stop.{Stop}
use Rattle.sg_reading.specs.Stop.{Reads}
use Rattle.sg_script.specs.declared.write.Write.{Write}
use Rattle.sg_script.specs.Script.{Stage}
use Rattle.jv_instance.specs.declared.datum.JavaDatum.{JavaDatum}
use Rattle.jv_instance.specs.declared.pred.JavaPred.{JavaPred}
use Rattle.sg_script.specs.declared.follower.Follower.{Follower}
use Rattle.sg_script.specs.Following.{FollowsPlan}
use Rattle.jv_diag.specs.Plain.{DiagOf}
use Rattle.jv_instance.specs.declared.java.Java.{Java}
use Rattle.jv_names.specs.Replies.{reply_to}
use Rattle.jv_unit.specs.Folder.{FolderOf}
use Rattle.jv_unit.specs.Kept.{folder_of, IsWhole}
use Rattle.jv_unit.specs.Plans.{JavaPlan, java_plan}
use Rattle.jv_unit.specs.Script.{ScriptOf}

-- one of Java's units: a follower of its script, which comes to diagnostics
abbrev pub JavaUnit : Type 0
JavaUnit = Follower ScriptOf Java (List DiagOf) JavaDatum JavaPred

-- what the unit does
abbrev pub plan_of : ScriptOf → JavaPlan
plan_of s = java_plan (folder_of (arc_value s.folder)) s.unit

-- the folder is whole, and has the unit: one for each file, and behind these one for each type
pub record IsUnit (s : ScriptOf) : Type 0 where
  pub whole : IsWhole (arc_value s.folder)
  pub within : s.unit < length (arc_value s.folder).layout.files + length (arc_value s.folder).layout.types

-- one script is another with one reply more
abbrev pub PutsReply : ScriptOf → Query JavaPred → Answer JavaDatum → ScriptOf → Type 0
PutsReply before q a s = s ≡ record { alloc = before.alloc; folder = before.folder; unit = before.unit; replies = before.replies ++ (q, a) ∷ [] }

-- what a call that reads a stage gives
abbrev pub ReadsStageOf : (Query JavaPred → Option (Answer JavaDatum)) → List (Stage JavaDatum JavaPred) → ℕ → Result (List (Write JavaDatum)) (Stop (Query JavaPred)) → Type 0
ReadsStageOf reply stages n x = (s : Stage JavaDatum JavaPred) → slice_get stages n ≡ Some s → Reads reply s.rule x

-- ---- the units of a folder

-- a unit of a folder that has given nothing: its plan is that of its number, and it follows that plan
pub record IsUnitOf (w : FolderOf) (u : ℕ) (v : JavaUnit) : Type 0 where
  pub plan : plan_of v.script ≡ java_plan w u
  pub follows : FollowsPlan {I = Java} (plan_of v.script) (reply_to v.script.replies) v.asked v.pending v.stage v.ended [] None
  pub ready : IsUnit v.script

-- one such unit for each file and each type of the folder, listed by number
pub record AreUnitsOf (w : FolderOf) (units : List JavaUnit) : Type 0 where
  pub count : length units ≡ length w.layout.files + length w.layout.types
  pub each : (u : ℕ) (v : JavaUnit) → slice_get units u ≡ Some v → IsUnitOf w u v

-- units with which a driver may begin a run over an opening by a table of kinds: one for each number, none of which has given anything
abbrev pub AreNewUnits : HeldOf JavaDatum → List KindOf → List JavaUnit → Type 0
AreNewUnits opening kinds units =
    AreNew {I = Java} (λ v. (plan_of v.script).unit) (λ v. plan_of v.script) (λ p. p.opening) (λ p. p.kinds)
    (λ v past last. FollowsPlan {I = Java} (plan_of v.script) (reply_to v.script.replies) v.asked v.pending v.stage v.ended past last × IsUnit v.script) opening kinds units
