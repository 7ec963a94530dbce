-- Few terminals have few brackets.
use Rattle.std.proofs.Common.{ℕ, ◌≤◌, List, [], ◌∷◌, length, arith}
use Rattle.jv_grammar.specs.declared.terminal.Terminal.{Terminal}
use Rattle.jv_grammar.specs.Load.{IsClosed, nothing, terminal, group, BeginsWithPairs, none, pair, HasFewBrackets}

closed_shorter : {ts us : List Terminal} → IsClosed ts us → length us ≤ length ts
closed_shorter nothing = omega arith
closed_shorter (terminal o c r) = omega (arith, closed_shorter r)
closed_shorter (group o i c r) = omega (arith, closed_shorter i, closed_shorter r)

pairs_shorter : {n : ℕ} {ts : List Terminal} → BeginsWithPairs n ts → n ≤ length ts
pairs_shorter none = omega arith
pairs_shorter (pair i r) = omega (arith, closed_shorter i, pairs_shorter r)

pub short_has_few : (ts : List Terminal) → length ts ≤ 200 → HasFewBrackets ts
short_has_few [] l = tt
short_has_few (t ∷ ts) l = ((λ n b. omega (arith, pairs_shorter b)), short_has_few ts (omega arith))
