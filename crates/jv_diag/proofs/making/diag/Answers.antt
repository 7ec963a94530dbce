use Rattle.jv_diag.proofs.Filling.{text_below}
use Rattle.jv_diag.proofs.making.diag.Goals as goal

pub text_of-requires : goal.text_of-requires
text_of-requires c = text_below c.args.code _ c.requires
