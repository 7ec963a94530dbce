use Rattle.sg_base.proofs.Bits.{Has_either, either_Has}
use Rattle.sg_base.proofs.label_set.LabelSet.union.Goals as goal

pub returns : goal.returns
returns c = λ m. rw (c.self.view_is, c.other.view_is) (Has_either _ _ m, either_Has _ _ m)
