use Rattle.std.proofs.Common.{◌≡◌, None, length, ◌≤◌}
use Rattle.sg_script.specs.Following.{FollowsPlan}
use Rattle.sg_unit.specs.Trace.{Past}
use Rattle.sg_script.proofs.follower.Follower.read_on.Given as goal

abbrev pub invariant-loop-stage : goal.invariant-loop-stage
invariant-loop-stage g l =
    (l.self ≡ l.fn.self) × (l.self.script ≡ l.fn.self.script) × (l.self.asked ≡ l.fn.self.asked) × (l.self.pending ≡ l.fn.self.pending) × (l.self.ended ≡ l.fn.self.ended)
    × (l.fn.self.stage ≤ l.stage) × (l.count ≡ length (g.S.Script.plan l.fn.self.script).stages)
    × ((past : Past g.row.S-Inst.Denot g.row.S-Outcome.Denot g.row.S-Inst-Datum.Denot g.row.S-Inst-Pred.Denot)
    → FollowsPlan (g.S.Script.plan l.fn.self.script) (g.S.Script.reply l.fn.self.script) l.fn.self.asked l.fn.self.pending l.fn.self.stage l.fn.self.ended past None
    → FollowsPlan (g.S.Script.plan l.fn.self.script) (g.S.Script.reply l.fn.self.script) l.fn.self.asked l.fn.self.pending l.stage l.fn.self.ended past None)
