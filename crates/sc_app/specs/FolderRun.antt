-- The run of a folder's checkers.
use Rattle.std.specs.Prelude.{◌≡◌, ℕ, ◌+◌, ◌<◌, ◌==◌, ◌⊎◌, Bool, List, [], length, Option}
use Rattle.sg_core.specs.declared.phase.Phase.TheVariants.{Ended, Stuck}
use Rattle.sg_core.specs.Core.{CoreOf, IsCore, IsPhase, run}
use Rattle.sg_query.specs.declared.answer.Answer.{Answer}
use Rattle.sg_query.specs.declared.query.Query.{Query}
use Rattle.sg_script.specs.declared.write.Write.{Write}
use Rattle.sg_script.specs.Following.{FollowsPlan}
use Rattle.sg_script.specs.Owing.{OwesEdge, OwesDatum, AsksIn, ComesTo}
use Rattle.sg_script.specs.Script.{setting_by}
use Rattle.sg_serial.specs.Serial.{IsServedBy}
use Rattle.sg_state.specs.Opening.{opened_of}
use Rattle.sg_unit.specs.Own.{own}
use Rattle.sg_unit.specs.Run.{Setting}
use Rattle.sg_unit.specs.Served.{IsHonestBy}
use Rattle.sg_unit.specs.Trace.{told}
use Rattle.jv_diag.specs.Plain.{DiagOf}
use Rattle.jv_instance.specs.declared.datum.JavaDatum.{JavaDatum}
use Rattle.jv_instance.specs.declared.java.Java.{Java}
use Rattle.jv_instance.specs.declared.pred.JavaPred.{JavaPred}
use Rattle.jv_instance.specs.Data.{is_wanted, name_of}
use Rattle.jv_layout.specs.Skeleton.{skeleton_of}
use Rattle.jv_unit.specs.Folder.{FolderOf}
use Rattle.jv_unit.specs.Plans.{JavaPlan, java_plan}
use Rattle.jv_unit.specs.Scripts.{JavaUnit, AreNewUnits, AreUnitsOf}

-- ---- runs

-- how Java's data are compared
abbrev pub same_datum : JavaDatum → JavaDatum → Bool
same_datum a b = name_of a == name_of b

-- a core of Java's units
abbrev pub JavaCore : Type 0
JavaCore = CoreOf Java (List DiagOf) JavaDatum JavaPred

-- the setting of a plan's run, with Java's ways to compare data
abbrev pub setting_of_plan : JavaPlan → Setting JavaDatum JavaPred
setting_of_plan p = setting_by is_wanted same_datum p

-- a unit follows its plan by its entries, whatever it keeps
pub record FollowsBy (w : FolderOf) (c : JavaCore) (u : ℕ) : Type 0 where
  pub reply : Query JavaPred → Option (Answer JavaDatum)
  pub asked : Option (Query JavaPred)
  pub pending : List (Write JavaDatum)
  pub stage : ℕ
  pub ended : Bool
  pub follows : FollowsPlan {I = Java} (java_plan w u) reply asked pending stage ended (told (own u c.log)).past (told (own u c.log)).last

-- a core stands at the opening of a folder's layout, and these are the folder's units, which have given nothing yet
pub record IsBegun (w : FolderOf) (c : JavaCore) (us : List JavaUnit) : Type 0 where
  pub opening : c.opening ≡ opened_of (skeleton_of w.layout)
  pub kinds : c.kinds ≡ w.kinds
  pub log : c.log ≡ []
  pub units : AreUnitsOf w us
  pub new : AreNewUnits c.opening c.kinds us

-- a core whose run is over: it began with the opening of a folder's layout and its kinds, it is legal, it has ended or is stuck, and each unit of the
-- folder follows its plan by its entries, and is honest by them
pub record IsFolderRun (w : FolderOf) (c : JavaCore) : Type 0 where
  pub opening : c.opening ≡ opened_of (skeleton_of w.layout)
  pub kinds : c.kinds ≡ w.kinds
  pub core : IsCore is_wanted same_datum c
  pub over : IsPhase (run is_wanted same_datum c) Ended ⊎ IsPhase (run is_wanted same_datum c) Stuck
  pub follows : (u : ℕ) → u < length w.layout.files + length w.layout.types → FollowsBy w c u
  pub honest : (u : ℕ) → u < length w.layout.files + length w.layout.types
      → IsHonestBy {I = Java} is_wanted same_datum (λ p. p.opening) (λ p. p.kinds) (λ p. OwesEdge (setting_of_plan p) p.stages) (λ p. OwesDatum (setting_of_plan p) p.stages)
      (λ p. AsksIn (setting_of_plan p) p.stages p.ending) (λ p. ComesTo (setting_of_plan p) p.ending) (own u c.log) u (java_plan w u)

-- a folder without its table of kinds, at which no rule looks
abbrev pub ruled : FolderOf → FolderOf
ruled w = record { layout = w.layout; names = w.names; files = w.files; kinds = [] }

-- the entries of a run's log are made in this order: first each number's unit makes one, where it can, and then the least unit that can
abbrev pub IsServedIn : List ℕ → JavaCore → Type 0
IsServedIn order c = let start : JavaCore = record { opening = c.opening; kinds = c.kinds; log = [] } in IsServedBy (run is_wanted same_datum start) order c.log
