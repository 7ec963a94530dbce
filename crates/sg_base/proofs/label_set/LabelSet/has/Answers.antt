use Rattle.std.proofs.Common.{◌<◌}
use Rattle.sg_base.proofs.Bits.{Has_small}
use Rattle.sg_base.proofs.label_set.LabelSet.has.Goals as goal

pub returns-clause-below : goal.returns-clause-below
returns-clause-below c = λ m h.
    let fits : c.args.self < 65536 = rw c.self.view_is at c.self.invariant in
    Has_small c.args.self m fits h
