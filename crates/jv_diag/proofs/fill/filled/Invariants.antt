use Rattle.std.proofs.Common.{◌≡◌, ◌++◌, ℕ, List, map, drop}
use Rattle.std.specs.Str.{chars, encode_utf8_all}
use Rattle.std.specs.String.{string_bytes}
use Rattle.jv_diag.specs.Text.{filled}
use Rattle.jv_diag.proofs.fill.filled.Given as goal

-- what was put together, and what the characters and the arguments that are left add to it
abbrev pub invariant-loop-c : goal.invariant-loop-c
invariant-loop-c l = (cs : List ℕ) × (encode_utf8_all cs ≡ l.c-iterator.rest.now) × (string_bytes l.text ++ filled cs (drop l.next (map (λ a. a.now) l.args)) ≡ filled (chars l.template) (map (λ a. a.now) l.args))
