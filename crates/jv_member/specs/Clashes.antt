-- What may be wrong with methods of one name.
use Rattle.std.specs.Prelude.{ℕ}
use Rattle.jv_diag.specs.declared.codes.TheConstants.{DEFAULTS_MEET, OTHER_RESULT, OVERLOADED, OVERRIDES_FINAL, STATIC_AND_INSTANCE, WEAKER_ACCESS}
use Rattle.jv_member.specs.declared.clash.ClashKind.{ClashKind}
use Rattle.jv_member.specs.declared.clash.ClashKind.TheVariants.{Static, Final, Weaker, Result, Params, Defaults}

-- the code of the diagnostic
abbrev pub clash_code : ClashKind → ℕ
clash_code Static = STATIC_AND_INSTANCE
clash_code Final = OVERRIDES_FINAL
clash_code Weaker = WEAKER_ACCESS
clash_code Result = OTHER_RESULT
clash_code Params = OVERLOADED
clash_code Defaults = DEFAULTS_MEET
