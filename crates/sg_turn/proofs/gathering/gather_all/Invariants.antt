use Rattle.std.proofs.Common.{◌≡◌, ◌++◌, List, length, [], All, false, vec_len}
use Rattle.sg_turn.specs.Stage.{IsFree}
use Rattle.sg_turn.specs.TurnSeat.{Known, known, Keeps}
use Rattle.sg_turn.proofs.gathering.gather_all.Given as goal

abbrev pub invariant-loop-other : goal.invariant-loop-other
invariant-loop-other g l = record {
  same : (l.gatherer.table_id ≡ l.fn.first.turn) × (record (known l.fn.first.turn l.gatherer.me.0) { kept = l.fn.first.kept } ≡ l.fn.first) × IsFree l.gatherer.me.0.stage × (l.gatherer.me.1 ≡ []);
  left : All (λ s. (s.turn ≡ l.fn.first.turn) × (s.inside ≡ false) × (s.kept ≡ [])) l.left.items;
  done : (done : List (Known g.row.V-Entry.Denot g.row.V-Root.Denot)) × (l.fn.others.items ≡ l.left.items ++ done) × All (λ s. Keeps l.gatherer.me.0 s.number s.mine) done × (length l.gatherer.me.0.kept ≡ length done);
}

abbrev pub decreases-loop-other : goal.decreases-loop-other
decreases-loop-other g l = vec_len l.left
