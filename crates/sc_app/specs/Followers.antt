-- Units that follow scripts, and their run.
use Rattle.std.specs.Prelude.{Bool, List, Option}
use Rattle.sg_core.specs.Core.{CoreOf}
use Rattle.sg_core.specs.Over.{HasRun}
use Rattle.sg_query.specs.declared.answer.Answer.{Answer}
use Rattle.sg_query.specs.declared.query.Query.{Query}
use Rattle.sg_query.specs.Query.{KindOf}
use Rattle.sg_script.specs.declared.follower.Follower.{Follower}
use Rattle.sg_script.specs.Following.{FollowsPlan}
use Rattle.sg_script.specs.Owing.{AsksIn, ComesTo, OwesDatum, OwesEdge}
use Rattle.sg_script.specs.Script.{Plan, setting_by}
use Rattle.sg_state.specs.Held.{HeldOf}
use Rattle.sg_unit.specs.declared.op.Op.{Op}
use Rattle.sg_unit.specs.Served.{AreNew}
use Rattle.sg_unit.specs.Trace.{Past}

-- scripts with these plans, with these replies so far, and ready where this holds of them
module _ {S I R D P : Type 0} (plan : S → Plan R D P) (reply : S → Query P → Option (Answer D)) (is_ready : S → Type 0) where
  -- a unit stands for a trace: it follows its script's plan by the replies so far, and the script is ready
  abbrev pub FollowsScript : Follower S I R D P → Past I R D P → Option (Op I R D P) → Type 0
  FollowsScript f past last = FollowsPlan {I = I} (plan f.script) (reply f.script) f.asked f.pending f.stage f.ended past last × is_ready f.script

  -- units that have given nothing, one for each number of the opening, by these kinds
  abbrev pub AreNewFollowers : HeldOf D → List KindOf → List (Follower S I R D P) → Type 0
  AreNewFollowers opening kinds units =
      AreNew {I = I} (λ f. (plan f.script).unit) (λ f. plan f.script) (λ p. p.opening) (λ p. p.kinds) FollowsScript opening kinds units

  -- the run of these units on a core is over, with these ways to compare data: each follows its script by its entries, and is honest by what its plan
  -- owes
  abbrev pub HasRunFollowers : (P → D → Bool) → (D → D → Bool) → CoreOf I R D P → List (Follower S I R D P) → CoreOf I R D P → Type 0
  HasRunFollowers wants same old units c =
      HasRun {I = I} wants same (λ p. p.opening) (λ p. p.kinds) (λ p. OwesEdge (setting_by wants same p) p.stages) (λ p. OwesDatum (setting_by wants same p) p.stages)
      (λ p. AsksIn (setting_by wants same p) p.stages p.ending) (λ p. ComesTo (setting_by wants same p) p.ending) (λ f. (plan f.script).unit) (λ f. plan f.script) FollowsScript old units c
