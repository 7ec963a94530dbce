use Rattle.std.proofs.Common.{◌≡◌, drop}
use Rattle.sg_script.specs.Example.{reply_to}
use Rattle.sg_small.specs.Reader.{first_missing}
use Rattle.sg_small.proofs.reader.Reader.missing.Given as goal

abbrev pub invariant-loop-scope : goal.invariant-loop-scope
invariant-loop-scope l = first_missing (reply_to l.self.replies) l.scope-items ≡ first_missing (reply_to l.self.replies) (drop l.scope-index l.scope-items)
