-- Operations and their replies.
use Rattle.std.specs.Prelude.{ℕ, List, [], Bool, true, false}
use Rattle.sg_unit.specs.declared.op.Op.{Op}
use Rattle.sg_unit.specs.declared.op.Op.TheVariants.{Fresh, AddEdge, SetDatum, CloseRow, Ask, Advance, Take, End}
use Rattle.sg_unit.specs.declared.reply.Reply.{Reply}
use Rattle.sg_unit.specs.declared.reply.Reply.TheVariants.{Made, Done, Moved, Ready, Suspended, Answer as Answered, Stuck}

-- whether the unit goes on after the operation: after each but its end
abbrev pub goes_on : {I R D P : Type 0} → Op I R D P → Bool
goes_on (Fresh labels datum) = true
goes_on (AddEdge from label to) = true
goes_on (SetDatum s d) = true
goes_on (CloseRow s l) = true
goes_on (Ask q) = true
goes_on Advance = true
goes_on Take = true
goes_on (End x) = false

-- the units that a reply wakes
abbrev pub woken_by : {I D P : Type 0} → Reply I D P → List ℕ
woken_by (Done woken) = woken
woken_by (Made s) = []
woken_by Moved = []
woken_by Ready = []
woken_by Suspended = []
woken_by (Answered a) = []
woken_by Stuck = []

-- whether a unit that waits or not waits after this reply to itself
abbrev pub waits_by : {I D P : Type 0} → Bool → Reply I D P → Bool
waits_by waits (Done woken) = waits
waits_by waits (Made s) = waits
waits_by waits Moved = waits
waits_by waits Ready = false
waits_by waits Suspended = true
waits_by waits (Answered a) = waits
waits_by waits Stuck = true

-- whether the operation is an ask
abbrev pub is_ask : {I R D P : Type 0} → Op I R D P → Bool
is_ask (Fresh labels datum) = false
is_ask (AddEdge from label to) = false
is_ask (SetDatum s d) = false
is_ask (CloseRow s l) = false
is_ask (Ask q) = true
is_ask Advance = false
is_ask Take = false
is_ask (End x) = false
