use Rattle.std.proofs.Common.{◌<◌}
use Rattle.sg_base.proofs.Bits.{Has_with, with_Has}
use Rattle.sg_base.proofs.label_set.LabelSet.with.Goals as goal

pub returns : goal.returns
returns c =
    let bound : c.args.l < 16 = rw c.number.ensures.value at c.number.ensures.below in
    λ m. rw (c.number.ensures.value, c.self.view_is) (Has_with _ _ m bound, with_Has _ _ m bound)
