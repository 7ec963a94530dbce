-- Local variables that come into scope.
use Rattle.std.specs.Prelude.{◌≡◌, List, length, take}
use Rattle.jv_expr.specs.declared.local.Local.{Local}

-- the new variables are the old ones, with others behind them
pub record AddsLocals (old new : List Local) : Type 0 where
  pub first : take (length old) new ≡ old
