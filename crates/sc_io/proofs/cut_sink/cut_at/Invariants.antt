use Rattle.std.proofs.Common.{◌≡◌, drop}
use Rattle.sc_io.specs.CutSink.{cut_at}
use Rattle.sc_io.proofs.cut_sink.cut_at.Given as goal

abbrev pub invariant-loop-number : goal.invariant-loop-number
invariant-loop-number l = cut_at l.cuts l.put ≡ cut_at (drop l.number-index l.cuts) l.put
