-- A fault of the first part is the fault of the whole.
use Rattle.std.proofs.Common.{◌≡◌, List, length, Result, Ok, Err, refl}
use Rattle.jv_grammar.specs.declared.terminal.Terminal.{Terminal}
use Rattle.jv_grammar.specs.Reader.{◌>>=◌}
use Rattle.jv_parse_expr.specs.declared.fault.Fault.{Fault}
use Rattle.jv_parse_expr.specs.declared.fault.Fault.TheVariants.{OutOfMemory, Refused}
use Rattle.jv_parse_expr.specs.View.{Fails}

pub fails_bind : {A B : Type 0} (e : Fault) (r : Result A (List Terminal)) (f : A → Result B (List Terminal)) → Fails e r → Fails e (r >>= f)
fails_bind OutOfMemory r f h = tt
fails_bind (Refused n) (Ok x) f h = cc
fails_bind (Refused n) (Err xs) f h = h

pub refuses : {A : Type 0} (e : Fault) (r : Result A (List Terminal)) (xs : List Terminal) → e ≡ Refused (length xs) → r ≡ Err xs → Fails e r
refuses e r xs h at = rw (h, at) refl
