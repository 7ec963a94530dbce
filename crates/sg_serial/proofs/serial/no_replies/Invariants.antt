use Rattle.std.proofs.Common.{◌≡◌, None, replicate}
use Rattle.sg_serial.proofs.serial.no_replies.Given as goal

abbrev pub invariant-loop-unit : goal.invariant-loop-unit
invariant-loop-unit g l = l.replies.items ≡ replicate l._unit None
