-- Where a follower stands, by its fields and the members of its script's type.
use Rattle.std.specs.Prelude.{ℕ, Bool, Option, length}
use Rattle.sg_script.specs.declared.follower.Follower.{Follower}
use Rattle.sg_script.specs.declared.script.Script.{Ghosts as ScriptOf}
use Rattle.sg_script.specs.Following.{FollowsPlan, steps_left}
use Rattle.sg_script.specs.Owing.{OwesEdge, OwesDatum, AsksIn, ComesTo}
use Rattle.sg_script.specs.Script.{Plan, setting_by}
use Rattle.sg_unit.specs.declared.op.Op.{Op}
use Rattle.sg_unit.specs.declared.reply.Reply.{Reply}
use Rattle.sg_unit.specs.Trace.{Past}
use Rattle.sg_unit.specs.Unit.{GoesOn, GivesOwed}

module _ {S I R D P : Type 0} (script : ScriptOf S I R D P) where
  -- the follower follows its script's plan by this trace
  abbrev pub Follows : Follower S I R D P → Past I R D P → Option (Op I R D P) → Type 0
  Follows f past last = FollowsPlan (script.plan f.script) (script.reply f.script) f.asked f.pending f.stage f.ended past last

  -- so it does, and its script can be read
  abbrev pub FollowsReady : Follower S I R D P → Past I R D P → Option (Op I R D P) → Type 0
  FollowsReady f = λ past last. Follows f past last × script.is_ready f.script

  -- how many more operations it gives at most
  abbrev pub operations_left : Follower S I R D P → ℕ
  operations_left f = steps_left (script.plan f.script) (script.reply f.script) f.asked (length f.pending) f.stage f.ended

-- the plan's unit, with these ways to compare data
module _ {I R D P : Type 0} (wants : P → D → Bool) (same : D → D → Bool) (plan : Plan R D P) where
  -- for each trace that it stood for, it stands for the next one, and its operation meets its condition
  abbrev pub GoesOnByPlan : (Past I R D P → Option (Op I R D P) → Type 0) → (Past I R D P → Option (Op I R D P) → Type 0) → Option (Reply I D P) → Op I R D P → Type 0
  GoesOnByPlan = GoesOn (setting_by wants same plan) plan.unit

  -- for each trace that it stood for, and each graph that answers as it was told, it gave by now what the plan owes there
  abbrev pub GivesOwedByPlan : (Past I R D P → Option (Op I R D P) → Type 0) → Option (Reply I D P) → Op I R D P → Type 0
  GivesOwedByPlan = GivesOwed (setting_by wants same plan) plan.unit (OwesEdge (setting_by wants same plan) plan.stages) (OwesDatum (setting_by wants same plan) plan.stages) (AsksIn (setting_by wants same plan) plan.stages plan.ending) (ComesTo (setting_by wants same plan) plan.ending)
