-- What one terminal does to the load and to the stack.
use Rattle.std.proofs.Common.{◌≡◌, ℕ, ◌+◌, ◌≤◌, ◌⊎◌, inl, inr, Bool, true, false, not, ◌&&◌, ◌||◌, nat_eq, List, [], ◌∷◌, Option, if◌then◌else◌, refl, sym, subst, arith, true≢false}
use Rattle.std.proofs.lemmas.Bool.{eqb-true}
use Rattle.jv_grammar.specs.declared.terminal.Terminal.{Terminal}
use Rattle.jv_grammar.specs.declared.terminal.Terminal.TheVariants.{Ident, Keyword, Literal, Minimum, MinimumLong, Punct}
use Rattle.jv_grammar.specs.declared.load.Opening.{Opening}
use Rattle.jv_grammar.specs.Load.{is_mark, is_there, is_opening, is_closing, goes_on, is_chain, ends_part, base, opens, closes, is_unmatched, after, Nesting}
use Rattle.jv_grammar.specs.Nesting.{IsRising, IsSound}

branch : {A : Type 0} (P : A → Type 0) (b : Bool) (x y : A) → (b ≡ true → P x) → (b ≡ false → P y) → P (if b then x else y)
branch P true x y f g = f refl
branch P false x y f g = g refl

-- which of three tests passes
one_of_three : (a b c : Bool) → (a || b || c) ≡ true → (a ≡ true) ⊎ ((b ≡ true) ⊎ (c ≡ true))
one_of_three true b c e = inl refl
one_of_three false true c e = inr (inl refl)
one_of_three false false true e = inr (inr refl)
one_of_three false false false e = absurd (true≢false (sym e))

-- what holds of the marks of three numbers
marked : (P : Terminal → Type 0) (i j k : ℕ) (t : Terminal) → ((at : ℕ) → P (Punct at i)) → ((at : ℕ) → P (Punct at j)) → ((at : ℕ) → P (Punct at k))
    → (is_mark i t || is_mark j t || is_mark k t) ≡ true → P t
marked P i j k (Punct at o) a b c e = elim (one_of_three (nat_eq o i) (nat_eq o j) (nat_eq o k) e) [
  | inl h ↦ subst (λ n. P (Punct at n)) (sym (eqb-true o i h)) (a at)
  | inr (inl h) ↦ subst (λ n. P (Punct at n)) (sym (eqb-true o j h)) (b at)
  | inr (inr h) ↦ subst (λ n. P (Punct at n)) (sym (eqb-true o k h)) (c at)
]
marked P i j k (Ident n) a b c e = absurd (true≢false (sym e))
marked P i j k (Keyword at n) a b c e = absurd (true≢false (sym e))
marked P i j k (Literal at n) a b c e = absurd (true≢false (sym e))
marked P i j k (Minimum at) a b c e = absurd (true≢false (sym e))
marked P i j k (MinimumLong at) a b c e = absurd (true≢false (sym e))

opening_is_no_chain : (before : Option Terminal) (t : Terminal) (behind : Option Terminal) → is_opening t ≡ true → is_chain before t behind ≡ false
opening_is_no_chain before t behind e = marked (λ t. is_chain before t behind ≡ false) 0 4 2 t (λ at. refl) (λ at. refl) (λ at. refl) e

pub closing_is_no_opening : (t : Terminal) → is_closing t ≡ true → is_opening t ≡ false
closing_is_no_opening t e = marked (λ t. is_opening t ≡ false) 1 5 3 t (λ at. refl) (λ at. refl) (λ at. refl) e

-- The stack behind a terminal.
pub record Pushed (stack : List Opening) (after : List Opening) : Type 0 where
  pub opening : Opening
  pub is : after ≡ opening ∷ stack

and_both : (a b : Bool) → (a && b) ≡ true → (a ≡ true) × (b ≡ true)
and_both true b e = (refl, e)
and_both false b e = absurd (true≢false (sym e))

pub pushes : (before : Option Terminal) (t : Terminal) (behind : Option Terminal) (n : Nesting)
    → is_opening t ≡ true → Pushed n.stack (after before t behind n).stack
pushes before t behind n e = branch (λ (m : Nesting). Pushed n.stack m.stack) (is_unmatched t n.stack) _ _
    (λ i. absurd (true≢false (let k = closing_is_no_opening t (and_both _ _ i).0 in cc (e, k))))
    (λ i. branch (λ (m : Nesting). Pushed n.stack m.stack) (is_opening t) _ _
    (λ o. record { opening = _; is = refl })
    (λ o. absurd (true≢false (cc (e, o)))))

pub pops : (before : Option Terminal) (t : Terminal) (behind : Option Terminal) (load : ℕ) (o : Opening) (os : List Opening)
    → is_closing t ≡ true → (after before t behind (record { load = load; stack = o ∷ os })).stack ≡ os
pops before t behind load o os e = branch (λ (m : Nesting). m.stack ≡ os) (is_unmatched t (o ∷ os)) _ _
    (λ i. absurd (true≢false (sym (and_both (is_closing t) false i).1)))
    (λ i. branch (λ (m : Nesting). m.stack ≡ os) (is_opening t) _ _
    (λ i. absurd (true≢false (let k = closing_is_no_opening t e in cc (i, k))))
    (λ i. branch (λ (m : Nesting). m.stack ≡ os) (is_closing t) _ _ (λ i. refl) (λ i. absurd (true≢false (cc (e, i))))))

pub keeps : (before : Option Terminal) (t : Terminal) (behind : Option Terminal) (n : Nesting)
    → is_opening t ≡ false → is_closing t ≡ false → (after before t behind n).stack ≡ n.stack
keeps before t behind n o c = branch (λ (m : Nesting). m.stack ≡ n.stack) (is_unmatched t n.stack) _ _ (λ i. refl)
    (λ i. branch (λ (m : Nesting). m.stack ≡ n.stack) (is_opening t) _ _
    (λ i. absurd (true≢false (cc (o, i))))
    (λ i. branch (λ (m : Nesting). m.stack ≡ n.stack) (is_closing t) _ _
    (λ i. absurd (true≢false (cc (c, i))))
    (λ i. branch (λ (m : Nesting). m.stack ≡ n.stack) (ends_part t behind) _ _ (λ i. refl) (λ i. refl))))

-- A sound nesting whose load is at most a number.
pub record IsWithin (most : ℕ) (n : Nesting) : Type 0 where
  pub sound : IsSound n
  pub load : n.load ≤ most

opened_within : (before : Option Terminal) (t : Terminal) (n : Nesting) → IsSound n → IsWithin (n.load + 1) (opens before t n)
opened_within before t n s = record { sound = record { low = omega arith; rising = (s.low, s.rising) }; load = omega arith }

closed_within : (t : Terminal) (behind : Option Terminal) (load : ℕ) (os : List Opening) → base os ≤ load → IsRising os
    → IsWithin load (closes t behind load os)
closed_within t behind load [] l r = record { sound = record { low = omega arith; rising = tt }; load = omega arith }
closed_within t behind load (o ∷ os) l r =
    let low : base os ≤ o.load = r.0 in
    branch (λ (k : ℕ). IsWithin load (record { load = k; stack = os })) (is_mark 3 t && not (o.is_list || is_there goes_on behind)) _ _
    (λ b. record { sound = record { low = omega arith; rising = r.1 }; load = omega arith })
    (λ b. record { sound = record { low = omega arith; rising = r.1 }; load = omega arith })

chained : (most : ℕ) (b : Bool) (m : Nesting) → IsWithin most m
    → IsWithin (most + 1) (record { load = if b then m.load + 1 else m.load; stack = m.stack })
chained most true m w = let l = w.load in let s = w.sound.low in record { sound = record { low = omega arith; rising = w.sound.rising }; load = omega arith }
chained most false m w = let l = w.load in let s = w.sound.low in record { sound = record { low = omega arith; rising = w.sound.rising }; load = omega arith }

unchained : (most : ℕ) (b : Bool) (m : Nesting) → b ≡ false → IsWithin most m
    → IsWithin most (record { load = if b then m.load + 1 else m.load; stack = m.stack })
unchained most true m e w = absurd (true≢false e)
unchained most false m e w = w

-- A terminal leaves a sound nesting sound, and adds at most one to the load.
pub within_after : (before : Option Terminal) (t : Terminal) (behind : Option Terminal) (n : Nesting) → IsSound n
    → IsWithin (n.load + 1) (after before t behind n)
within_after before t behind n s = branch (IsWithin (n.load + 1)) (is_unmatched t n.stack) _ _ (λ i. record { sound = s; load = omega arith })
    (λ i. branch (λ (m : Nesting). IsWithin (n.load + 1) (record { load = if is_chain before t behind then m.load + 1 else m.load; stack = m.stack }))
    (is_opening t) _ _
    (λ o. unchained (n.load + 1) (is_chain before t behind) (opens before t n) (opening_is_no_chain before t behind o) (opened_within before t n s))
    (λ o. chained n.load (is_chain before t behind) _ (branch (IsWithin n.load) (is_closing t) _ _
    (λ c. closed_within t behind n.load n.stack s.low s.rising)
    (λ c. branch (IsWithin n.load) (ends_part t behind) _ _
    (λ p. record { sound = record { low = omega arith; rising = s.rising }; load = s.low })
    (λ p. record { sound = s; load = omega arith })))))
