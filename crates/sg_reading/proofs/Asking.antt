-- What rules in turn ask and end with, whatever the answers.
use Rattle.std.proofs.Common.{◌≡◌, List, [], ◌∷◌, Option, Some, None, inl, inr, refl, subst, arith}
use Rattle.std.specs.List.{Contains}
use Rattle.std.proofs.lemmas.List.Elements.{Contains-append_right, Contains-append_cases}
use Rattle.sg_reading.specs.Reading.{Reading, done, ask, AllAsked, AllEnds, and_then, or_else, first_found, on_found, each}
use Rattle.sg_reading.proofs.Readings.{Contains-first, Contains-sole}

module _ {Q A U : Type 0} where
  pub any_ends : (r : Reading Q A U) → AllEnds (λ v. Unit {0}) r
  any_ends (done v) = tt
  any_ends (ask q next) = λ a. any_ends (next a)

  pub AllAsked-more : (K L : Q → Type 0) (r : Reading Q A U) → ((q : Q) → K q → L q) → AllAsked K r → AllAsked L r
  AllAsked-more K L (done v) f h = tt
  AllAsked-more K L (ask q next) f h = (f q h.0, λ a. AllAsked-more K L (next a) f (h.1 a))

  pub AllEnds-more : (K L : U → Type 0) (r : Reading Q A U) → ((v : U) → K v → L v) → AllEnds K r → AllEnds L r
  AllEnds-more K L (done v) f h = f v h
  AllEnds-more K L (ask q next) f h = λ a. AllEnds-more K L (next a) f (h a)

module _ {Q A U W : Type 0} where
  -- the second rule asks queries of the kind wherever the first may end
  pub and_then-asked_where : (K : Q → Type 0) (E : U → Type 0) (r : Reading Q A U) (f : U → Reading Q A W) → AllAsked K r → AllEnds E r → ((v : U) → E v → AllAsked K (f v)) → AllAsked K (and_then r f)
  and_then-asked_where K E (done v) f h e k = k v e
  and_then-asked_where K E (ask q next) f h e k = (h.0, λ a. and_then-asked_where K E (next a) f (h.1 a) (e a) k)

  pub and_then-asked : (K : Q → Type 0) (r : Reading Q A U) (f : U → Reading Q A W) → AllAsked K r → ((v : U) → AllAsked K (f v)) → AllAsked K (and_then r f)
  and_then-asked K r f h k = and_then-asked_where K (λ v. Unit {0}) r f h (any_ends r) (λ v t. k v)

  pub and_then-ends : (E : U → Type 0) (F : W → Type 0) (r : Reading Q A U) (f : U → Reading Q A W) → AllEnds E r → ((v : U) → E v → AllEnds F (f v)) → AllEnds F (and_then r f)
  and_then-ends E F (done v) f e k = k v e
  and_then-ends E F (ask q next) f e k = λ a. and_then-ends E F (next a) f (e a) k

module _ {Q A U : Type 0} where
  pub or_else-asked : (K : Q → Type 0) (found : Option U) (next : Reading Q A (Option U)) → AllAsked K next → AllAsked K (or_else found next)
  or_else-asked K (Some v) next h = tt
  or_else-asked K None next h = h

  pub or_else-ends : (E : Option U → Type 0) (found : Option U) (next : Reading Q A (Option U)) → E found → AllEnds E next → AllEnds E (or_else found next)
  or_else-ends E (Some v) next e h = e
  or_else-ends E None next e h = h

module _ {Q A X U : Type 0} where
  -- what holds of the rule for each thing holds of the rules for all of them
  pub each-asked : (K : Q → Type 0) (f : X → Reading Q A U) (xs : List X) → ((x : X) → Contains xs x → AllAsked K (f x)) → AllAsked K (each f xs)
  each-asked K f [] h = tt
  each-asked K f (x ∷ xs) h =
      and_then-asked K (f x) (λ v. and_then (each f xs) (λ vs. done (v ∷ vs))) (h x (Contains-first x xs))
      (λ v. and_then-asked K (each f xs) (λ vs. done (v ∷ vs)) (each-asked K f xs (λ y c. h y (Contains-append_right (x ∷ []) xs y c))) (λ vs. tt))

  pub each-ends : (E : U → Type 0) (f : X → Reading Q A U) (xs : List X) → ((x : X) → Contains xs x → AllEnds E (f x)) → AllEnds (λ vs. (v : U) → Contains vs v → E v) (each f xs)
  each-ends E f [] h = λ v c. absurd (omega (arith, c.1))
  each-ends E f (x ∷ xs) h =
      and_then-ends E (λ vs. (v : U) → Contains vs v → E v) (f x) (λ v. and_then (each f xs) (λ vs. done (v ∷ vs))) (h x (Contains-first x xs))
      (λ v e. and_then-ends (λ vs. (w : U) → Contains vs w → E w) (λ vs. (w : U) → Contains vs w → E w) (each f xs) (λ vs. done (v ∷ vs)) (each-ends E f xs (λ y c. h y (Contains-append_right (x ∷ []) xs y c)))
      (λ vs k w c. elim (Contains-append_cases (v ∷ []) vs w c) [ inl one ↦ subst E (Contains-sole v w one) e | inr more ↦ k w more ]))

  -- a value that was found is one that a rule for one of the things ends with
  pub first_found-asked : (K : Q → Type 0) (f : X → Reading Q A (Option U)) (xs : List X) → ((x : X) → Contains xs x → AllAsked K (f x)) → AllAsked K (first_found f xs)
  first_found-asked K f [] h = tt
  first_found-asked K f (x ∷ xs) h =
      and_then-asked K (f x) (λ found. or_else found (first_found f xs)) (h x (Contains-first x xs))
      (λ found. or_else-asked K found (first_found f xs) (first_found-asked K f xs (λ y c. h y (Contains-append_right (x ∷ []) xs y c))))

  pub first_found-ends : (E : Option U → Type 0) (f : X → Reading Q A (Option U)) (xs : List X) → E None → ((x : X) → Contains xs x → AllEnds E (f x)) → AllEnds E (first_found f xs)
  first_found-ends E f [] none h = none
  first_found-ends E f (x ∷ xs) none h =
      and_then-ends E E (f x) (λ found. or_else found (first_found f xs)) (h x (Contains-first x xs))
      (λ found e. or_else-ends E found (first_found f xs) e (first_found-ends E f xs none (λ y c. h y (Contains-append_right (x ∷ []) xs y c))))

module _ {Q A U W : Type 0} where
  pub on_found-asked : (K : Q → Type 0) (found : Option U) (next : U → Reading Q A (Option W)) → ((v : U) → found ≡ Some v → AllAsked K (next v)) → AllAsked K (on_found found next)
  on_found-asked K (Some v) next h = h v refl
  on_found-asked K None next h = tt

  pub on_found-ends : (E : Option W → Type 0) (found : Option U) (next : U → Reading Q A (Option W)) → E None → ((v : U) → found ≡ Some v → AllEnds E (next v)) → AllEnds E (on_found found next)
  on_found-ends E (Some v) next none h = h v refl
  on_found-ends E None next none h = none
