use Rattle.std.proofs.Common.{refl}
use Rattle.jv_layout.proofs.laws.examples_have_skeletons.Goals as goal

pub returns-clause-one_class : goal.returns-clause-one_class
returns-clause-one_class c = refl

pub returns-clause-two_files : goal.returns-clause-two_files
returns-clause-two_files c = refl
