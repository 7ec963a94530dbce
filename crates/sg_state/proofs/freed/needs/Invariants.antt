use Rattle.std.proofs.Common.{[], take}
use Rattle.sg_state.specs.Freed.{Adds, IsFreeRow, IsFreeDatum, holds_of}
use Rattle.sg_state.proofs.freed.needs.Given as goal

abbrev pub invariant-loop-s : goal.invariant-loop-s
invariant-loop-s g l = Adds [] l.rows.items (IsFreeRow (holds_of l.places.entries) l.unit (take l.s-index l.list)) × Adds [] l.unset.items (IsFreeDatum (holds_of l.places.entries) l.unit (take l.s-index l.list))
