-- Rules that look at something only by asking queries.
use Rattle.std.specs.Prelude.{◌≡◌, List, [], ◌∷◌, ◌⊎◌, ◌↔◌, Option, Some, None}
use Rattle.std.specs.List.{Contains}

-- a rule: it ends with a value, or it asks a query and goes on with the answer
pub data Reading (Q A U : Type 0) : Type 0 where
  done : U → Reading Q A U
  ask : Q → (A → Reading Q A U) → Reading Q A U

-- by these answers the rule ends with this value, after these queries in this order
abbrev pub Gives : {Q A U : Type 0} → (Q → A → Type 0) → Reading Q A U → U → List Q → Type 0
Gives R (done v) w qs = (v ≡ w) × (qs ≡ [])
Gives {Q} {A} R (ask q next) w qs = (a : A) × R q a × (rest : List Q) × (qs ≡ q ∷ rest) × Gives R (next a) w rest

-- by these answers the rule comes to this query, whether or not that has an answer
abbrev pub Asks : {Q A U : Type 0} → (Q → A → Type 0) → Reading Q A U → Q → Type 0
Asks R (done v) p = ⊥
Asks {Q} {A} R (ask q next) p = (q ≡ p) ⊎ ((a : A) × R q a × Asks R (next a) p)

-- the query has no answer
abbrev pub HasNoAnswer : {Q A : Type 0} → (Q → A → Type 0) → Q → Type 0
HasNoAnswer {Q} {A} R q = (a : A) → R q a → ⊥

-- by these answers the rule comes to this query, which has none
abbrev pub Needs : {Q A U : Type 0} → (Q → A → Type 0) → Reading Q A U → Q → Type 0
Needs R r q = Asks R r q × HasNoAnswer R q

-- a query has one answer at most
abbrev pub IsFunctional : {Q A : Type 0} → (Q → A → Type 0) → Type 0
IsFunctional {Q} {A} R = (q : Q) (a b : A) → R q a → R q b → a ≡ b

-- the listed queries have the same answers here and there
abbrev pub AnswersAlike : {Q A : Type 0} → (Q → A → Type 0) → (Q → A → Type 0) → List Q → Type 0
AnswersAlike {Q} {A} R S qs = (q : Q) (a : A) → Contains qs q → (R q a) ↔ (S q a)

-- the queries that the rule comes to here have the same answers here and there
abbrev pub AskedAlike : {Q A U : Type 0} → (Q → A → Type 0) → (Q → A → Type 0) → Reading Q A U → Type 0
AskedAlike {Q} {A} R S r = (q : Q) (a : A) → Asks R r q → (R q a) ↔ (S q a)

-- each query that the rule may come to is of this kind, whatever the answers
abbrev pub AllAsked : {Q A U : Type 0} → (Q → Type 0) → Reading Q A U → Type 0
AllAsked P (done v) = Unit {0}
AllAsked {Q} {A} P (ask q next) = P q × ((a : A) → AllAsked P (next a))

-- each value that the rule may end with is of this kind, whatever the answers
abbrev pub AllEnds : {Q A U : Type 0} → (U → Type 0) → Reading Q A U → Type 0
AllEnds P (done v) = P v
AllEnds {Q} {A} P (ask q next) = (a : A) → AllEnds P (next a)

-- one rule after another
abbrev pub and_then : {Q A U W : Type 0} → Reading Q A U → (U → Reading Q A W) → Reading Q A W
and_then (done v) f = f v
and_then (ask q next) f = ask q (λ a. and_then (next a) f)

-- a rule for each thing of a list, one after another
abbrev pub each : {Q A X U : Type 0} → (X → Reading Q A U) → List X → Reading Q A (List U)
each f [] = done []
each f (x ∷ xs) = and_then (f x) (λ v. and_then (each f xs) (λ vs. done (v ∷ vs)))

-- the value that was found, or else the next rule
abbrev pub or_else : {Q A U : Type 0} → Option U → Reading Q A (Option U) → Reading Q A (Option U)
or_else (Some v) next = done (Some v)
or_else None next = next

-- a rule for one thing of a list after another, until one finds a value
abbrev pub first_found : {Q A X U : Type 0} → (X → Reading Q A (Option U)) → List X → Reading Q A (Option U)
first_found f [] = done None
first_found f (x ∷ xs) = and_then (f x) (λ found. or_else found (first_found f xs))

-- a rule that goes on where a value was found
abbrev pub on_found : {Q A U W : Type 0} → Option U → (U → Reading Q A (Option W)) → Reading Q A (Option W)
on_found (Some v) next = next v
on_found None next = done None
