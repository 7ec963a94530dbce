-- What a reader's result says of its parts, and a test of the first terminal of it.
use Rattle.std.proofs.Common.{◌≡◌, ℕ, ◌||◌, ◌&&◌, not, ◌⊎◌, inl, inr, Bool, true, false, cond, nat_eq, List, [], ◌∷◌, refl, sym, ap, ◌∙◌, subst, true≢false, Ok, Err, Result}
use Rattle.std.specs.List.{list_any}
use borrow.Author.Tests.{eqb-true}
use Rattle.jv_tree.specs.declared.name.Ident.{Ident as Identifier}
use Rattle.jv_grammar.specs.declared.terminal.Terminal.{Terminal}
use Rattle.jv_grammar.specs.declared.terminal.Terminal.TheVariants.{Ident, Keyword, Literal, Minimum, MinimumLong, Punct}
use Rattle.jv_grammar.specs.TypeGrammar.{is_mark, starts}
use Rattle.jv_grammar.specs.Reader.{◌>>=◌, rest_of, closed, starts_ident}

pub bind_ok : {A B : Type 0} (r : Result A (List Terminal)) (f : A → Result B (List Terminal)) (y : B) → (r >>= f) ≡ Ok y → (x : A) × (r ≡ Ok x) × (f x ≡ Ok y)
bind_ok (Ok x) f y h = (x, refl, h)
bind_ok (Err e) f y h = cc

-- the same, for what follows from it
pub bind_then : {A B C : Type 0} (r : Result A (List Terminal)) (f : A → Result B (List Terminal)) (y : B) → (r >>= f) ≡ Ok y → ((x : A) → r ≡ Ok x → f x ≡ Ok y → C) → C
bind_then (Ok x) f y h go = go x refl h
bind_then (Err e) f y h go = cc

pub chosen : {A : Type 0} (b : Bool) (x y z : A) → cond b x y ≡ z → ((b ≡ true) × (x ≡ z)) ⊎ ((b ≡ false) × (y ≡ z))
chosen true x y z h = inl (refl, h)
chosen false x y z h = inr (refl, h)

abbrev pub fails : {A : Type 0} → List Terminal → Result A (List Terminal)
fails e = Err e

abbrev pub gives : {A : Type 0} → A → Result A (List Terminal)
gives x = Ok x

pub err_ok : {A : Type 0} {e : List Terminal} {y : A} → fails e ≡ gives y → ⊥
err_ok h = cc

pub ok_is : {A : Type 0} {x y : A} → gives x ≡ gives y → x ≡ y
ok_is h = cc

-- a test is true or false
pub either : (b : Bool) → (b ≡ true) ⊎ (b ≡ false)
either true = inl refl
either false = inr refl

pub both : (a b : Bool) → a && b ≡ true → (a ≡ true) × (b ≡ true)
both true b h = (refl, h)
both false b h = absurd (true≢false (sym h))

pub or_either : (a b : Bool) → a || b ≡ true → (a ≡ true) ⊎ (b ≡ true)
or_either true b h = inl refl
or_either false b h = inr h

pub or_false : (a b : Bool) → a || b ≡ false → (a ≡ false) × (b ≡ false)
or_false true b h = absurd (true≢false h)
or_false false b h = (refl, h)

pub not_true : (b : Bool) → not b ≡ true → b ≡ false
not_true true h = absurd (true≢false (sym h))
not_true false h = refl

pub mark_is : (n : ℕ) (x : Terminal) → is_mark n x ≡ true → (p : ℕ) × (x ≡ Punct p n)
mark_is n (Ident i) h = absurd (true≢false (sym h))
mark_is n (Keyword p k) h = absurd (true≢false (sym h))
mark_is n (Literal p l) h = absurd (true≢false (sym h))
mark_is n (Minimum p) h = absurd (true≢false (sym h))
mark_is n (MinimumLong p) h = absurd (true≢false (sym h))
mark_is n (Punct p o) h = (p, ap (λ k. Punct p k) (eqb-true o n h))

pub starts_is : (n : ℕ) (xs : List Terminal) → starts n xs ≡ true → (p : ℕ) × (xs ≡ Punct p n ∷ rest_of xs)
starts_is n [] h = absurd (true≢false (sym h))
starts_is n (x ∷ xs) h = let m = mark_is n x h in (m.0, ap (λ y. y ∷ xs) m.1)

pub ident_is : (xs : List Terminal) → starts_ident xs ≡ true → (i : Identifier) × (xs ≡ Ident i ∷ rest_of xs)
ident_is [] h = absurd (true≢false (sym h))
ident_is (Ident i ∷ xs) h = (i, refl)
ident_is (x ∷ xs) h = absurd (true≢false (sym h))

-- the mark n behind, and what follows
pub closed_ok : {A : Type 0} (n : ℕ) (x : A) (xs : List Terminal) (r : A × List Terminal) → closed n x xs ≡ Ok r → (p : ℕ) × (xs ≡ Punct p n ∷ r.1) × (r.0 ≡ x)
closed_ok {A} n x xs r h = elim (chosen (starts n xs) _ _ _ h) [
  | inl w ↦ (let st = starts_is n xs w.0 in
      (st.0, st.1 ∙ ap (λ (z : A × List Terminal). Punct st.0 n ∷ z.1) (ok_is w.1), sym (ap (λ (z : A × List Terminal). z.0) (ok_is w.1))))
  | inr w ↦ absurd (err_ok w.1)
]

-- what holds of each number of a list
abbrev pub Each : (ℕ → Type 0) → List ℕ → Type 0
Each P [] = Unit {0}
Each P (n ∷ ns) = P n × Each P ns

pub among : (P : ℕ → Type 0) (ns : List ℕ) (o : ℕ) → Each P ns → list_any (nat_eq o) ns ≡ true → P o
among P [] o e h = absurd (true≢false (sym h))
among P (n ∷ ns) o e h = elim (or_either (nat_eq o n) (list_any (nat_eq o) ns) h) [
  | inl w ↦ subst P (sym (eqb-true o n w)) e.0
  | inr w ↦ among P ns o e.1 w
]
