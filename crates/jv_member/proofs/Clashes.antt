-- The code of each clash takes one text.
use Rattle.std.proofs.Common.{◌≡◌, Some, refl}
use Rattle.jv_diag.specs.Text.{takes}
use Rattle.jv_member.specs.declared.clash.ClashKind.{ClashKind}
use Rattle.jv_member.specs.declared.clash.ClashKind.TheVariants.{Static, Final, Weaker, Result, Params, Defaults}
use Rattle.jv_member.specs.Clashes.{clash_code}

pub clash_takes : (k : ClashKind) → takes (clash_code k) ≡ Some 1
clash_takes Static = refl
clash_takes Final = refl
clash_takes Weaker = refl
clash_takes Result = refl
clash_takes Params = refl
clash_takes Defaults = refl
