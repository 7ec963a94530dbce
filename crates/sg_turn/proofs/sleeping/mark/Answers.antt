use Rattle.std.proofs.Common.{rules, arith}
use Rattle.sg_turn.proofs.RuleSteps.{marks}
use Rattle.sg_turn.proofs.sleeping.mark.Goals as goal

pub store-requires : goal.store-requires
store-requires g c = (search rules, search rules, marks _ _ _ _ _ _ _ c.args.seat.now.me 1 (omega arith))
