-- The array of open brackets, and the stack that it stands for.
use Rattle.std.proofs.Common.{◌≡◌, ℕ, zero, suc, ◌+◌, ◌<◌, ◌≤◌, List, [], ◌∷◌, length, get_or, Bool, refl, ap, sym, subst, arith}
use Rattle.std.proofs.Math.ListN.{set}
use Rattle.std.proofs.lemmas.List.{get_or-set_same, get_or-set_other}
use Rattle.jv_grammar.specs.declared.load.Opening.{Opening}
use Rattle.jv_grammar.specs.declared.load.OpenBrackets.{OpenBrackets}
use Rattle.jv_grammar.specs.Load.{base, Nesting}
use Rattle.jv_grammar.specs.Nesting.{no_opening, stack_of, nesting_of, IsRising, IsSound}

-- there are at most as many open brackets as the base says
stack_is_short : (os : List Opening) → IsRising os → length os ≤ base os
stack_is_short [] r = omega arith
stack_is_short (o ∷ os) r = let h : length os ≤ base os = stack_is_short os r.1 in let k = r.0 in omega arith

length-stack_of : (xs : List Opening) (n : ℕ) → length (stack_of xs n) ≡ n
length-stack_of xs zero = refl
length-stack_of xs (suc n) = ap suc (length-stack_of xs n)

depth_is_low : (xs : List Opening) (n load : ℕ) → base (stack_of xs n) ≤ load → IsRising (stack_of xs n) → n ≤ load
depth_is_low xs n load low r =
    let h : length (stack_of xs n) ≤ base (stack_of xs n) = stack_is_short _ r in
    let e : length (stack_of xs n) ≡ n = length-stack_of xs n in
    omega arith

-- a write above the stack does not touch it
stack_of-set : (xs : List Opening) (i n : ℕ) (o : Opening) → n ≤ i → stack_of (set xs i o) n ≡ stack_of xs n
stack_of-set xs i zero o l = refl
stack_of-set xs i (suc n) o l =
    let here : get_or (set xs i o) n no_opening ≡ get_or xs n no_opening = get_or-set_other xs i n o no_opening (λ e. omega arith) in
    let rest : stack_of (set xs i o) n ≡ stack_of xs n = stack_of-set xs i n o (omega arith) in
    cc

pushed : (xs : List Opening) (n k : ℕ) (o : Opening) → k ≡ suc n → n < length xs → stack_of (set xs n o) k ≡ o ∷ stack_of xs n
pushed xs n k o e l =
    let here : get_or (set xs n o) n no_opening ≡ o = get_or-set_same xs n o no_opening l in
    let rest : stack_of (set xs n o) n ≡ stack_of xs n = stack_of-set xs n n o (omega arith) in
    let both : stack_of (set xs n o) (suc n) ≡ o ∷ stack_of xs n = cc in
    subst (λ k. stack_of (set xs n o) k ≡ o ∷ stack_of xs n) (sym e) both

-- no more brackets are open than the load says
pub few_are_open : (n : OpenBrackets) → IsSound (nesting_of n) → n.depth ≤ n.load
few_are_open n s = depth_is_low n.stack n.depth n.load s.low s.rising

abbrev with_stack : ℕ → List Opening → Nesting
with_stack load stack = record { load = load; stack = stack }

-- an open bracket more
pub opened : (n : OpenBrackets) (is_list : Bool) → n.depth < length n.stack
    → nesting_of (record { load = n.load + 1; depth = n.depth + 1; stack = set n.stack n.depth (record { load = n.load; is_list = is_list }) })
    ≡ record { load = n.load + 1; stack = record { load = n.load; is_list = is_list } ∷ stack_of n.stack n.depth }
opened n b l =
    let o : Opening = record { load = n.load; is_list = b } in
    let e : stack_of (set n.stack n.depth o) (n.depth + 1) ≡ o ∷ stack_of n.stack n.depth = pushed n.stack n.depth (n.depth + 1) o (omega arith) l in
    ap (λ s. with_stack (n.load + 1) s) e
