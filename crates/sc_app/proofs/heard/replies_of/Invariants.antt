use Rattle.std.proofs.Common.{take}
use Rattle.sg_unit.specs.Own.{own}
use Rattle.sg_unit.specs.Trace.{told}
use Rattle.sc_app.specs.Heard.{Hears}
use Rattle.sc_app.proofs.heard.replies_of.Given as goal

-- what the unit heard by the entries so far
abbrev pub invariant-loop-entry : goal.invariant-loop-entry
invariant-loop-entry l = Hears l.heard (told (own l.fn.unit (take l.entry-index l.log)))
