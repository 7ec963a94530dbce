use Rattle.std.proofs.Common.{◌≡◌, drop}
use Rattle.sg_script.specs.Example.{reply_to}
use Rattle.sg_small.proofs.reader.Reader.find.Given as goal

abbrev pub invariant-loop-pair : goal.invariant-loop-pair
invariant-loop-pair l = reply_to l.pair-items l.query ≡ reply_to (drop l.pair-index l.pair-items) l.query
