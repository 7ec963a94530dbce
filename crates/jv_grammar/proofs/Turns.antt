-- The turns of the loop that looks for the first deep terminal.
use Rattle.std.proofs.Common.{◌≡◌, ℕ, zero, suc, ◌+◌, ◌<◌, ◌≤◌, Bool, true, false, nat_eq, List, [], ◌∷◌, Option, None, Some, if◌then◌else◌, slice_get, get_or, drop, length, refl, sym, ap, subst, arith, ◌∙◌}
use Rattle.std.proofs.Math.Seq.{drop-cons}
use Rattle.std.proofs.lemmas.Bool.{eqb-true}
use Rattle.std.proofs.lemmas.List.{drop_all}
use Rattle.jv_grammar.specs.declared.terminal.Terminal.{Terminal}
use Rattle.jv_grammar.specs.declared.terminal.Terminal.TheVariants.{Ident}
use Rattle.jv_grammar.specs.Load.{after, first, loads_from, Nesting}
use Rattle.jv_grammar.specs.Nesting.{IsSound}
use Rattle.jv_grammar.proofs.Deep.{find_deep}
use Rattle.jv_grammar.proofs.Loads.{within_after}

-- what stands at no place of a list
abbrev pub no_terminal : Terminal
no_terminal = Ident (record { at = 0; id = record { 0 = 0 } })

first-drop : (ts : List Terminal) (i : ℕ) → first (drop i ts) ≡ slice_get ts i
first-drop [] zero = refl
first-drop [] (suc i) = refl
first-drop (t ∷ ts) zero = refl
first-drop (t ∷ ts) (suc i) = first-drop ts i

-- the loads of a rest: that of its first terminal, and then those of the rest behind it
loads_of_rest : (ts : List Terminal) (i : ℕ) (d : Terminal) (before : Option Terminal) (n m : Nesting) → i < length ts
    → m ≡ after before (get_or ts i d) (slice_get ts (i + 1)) n
    → loads_from before n (drop i ts) ≡ m.load ∷ loads_from (Some (get_or ts i d)) m (drop (i + 1) ts)
loads_of_rest ts i d before n m l e =
    let j : i + 1 ≡ suc i = omega arith in
    let f : first (drop (suc i) ts) ≡ slice_get ts (suc i) = first-drop ts (suc i) in
    let k : slice_get ts (i + 1) ≡ first (drop (suc i) ts) = ap (slice_get ts) j ∙ sym f in
    let a : after before (get_or ts i d) (first (drop (suc i) ts)) n ≡ m = ap (λ x. after before (get_or ts i d) x n) (sym k) ∙ sym e in
    ap (loads_from before n) (drop-cons ts i d l)
    ∙ ap (λ (m : Nesting). m.load ∷ loads_from (Some (get_or ts i d)) m (drop (suc i) ts)) a
    ∙ ap (λ j. m.load ∷ loads_from (Some (get_or ts i d)) m (drop j ts)) (sym j)

pub stops : (ts : List Terminal) (i : ℕ) (d : Terminal) (before : Option Terminal) (n m : Nesting) → i < length ts
    → m ≡ after before (get_or ts i d) (slice_get ts (i + 1)) n → m.load ≡ 201
    → find_deep i (loads_from before n (drop i ts)) ≡ Some i
stops ts i d before n m l e h = rw (loads_of_rest ts i d before n m l e, h) refl

later : (i x : ℕ) (xs : List ℕ) → (x ≡ 201 → ⊥) → find_deep i (x ∷ xs) ≡ find_deep (i + 1) xs
later i x xs h = at (nat_eq x 201) refl
  where
    at : (b : Bool) → nat_eq x 201 ≡ b → (if b then Some i else find_deep (i + 1) xs) ≡ find_deep (i + 1) xs
    at true e = absurd (h (eqb-true x 201 e))
    at false e = refl

pub goes : (ts : List Terminal) (i : ℕ) (d : Terminal) (before : Option Terminal) (n m : Nesting) → i < length ts
    → m ≡ after before (get_or ts i d) (slice_get ts (i + 1)) n → (m.load ≡ 201 → ⊥)
    → find_deep i (loads_from before n (drop i ts)) ≡ find_deep (i + 1) (loads_from (Some (get_or ts i d)) m (drop (i + 1) ts))
goes ts i d before n m l e h = rw (loads_of_rest ts i d before n m l e) (later i m.load (loads_from (Some (get_or ts i d)) m (drop (i + 1) ts)) h)

pub ends : (ts : List Terminal) (i : ℕ) (before : Option Terminal) (n : Nesting) → length ts ≤ i
    → find_deep i (loads_from before n (drop i ts)) ≡ None
ends ts i before n l = rw (drop_all i ts l) refl

pub sound_next : (before : Option Terminal) (t : Terminal) (behind : Option Terminal) (n m : Nesting) → m ≡ after before t behind n
    → IsSound n → IsSound m
sound_next before t behind n m e s = subst IsSound (sym e) (within_after before t behind n s).sound

pub low_next : (before : Option Terminal) (t : Terminal) (behind : Option Terminal) (n m : Nesting) → m ≡ after before t behind n
    → IsSound n → n.load ≤ 200 → (m.load ≡ 201 → ⊥) → m.load ≤ 200
low_next before t behind n m e s l h =
    let k : m.load ≤ n.load + 1 = subst (λ (m : Nesting). m.load ≤ n.load + 1) (sym e) (within_after before t behind n s).load in
    omega arith
