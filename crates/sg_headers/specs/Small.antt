-- Small programs of three types, whose headers look at the supertypes of types one after another.
use Rattle.std.specs.Prelude.{◌≡◌, ℕ, zero, suc, List, [], ◌∷◌, Bool, true, false, cond, IsTrue, Option, Some, None, ◌↔◌}
use Rattle.std.specs.List.{Contains}
use Rattle.sg_base.specs.declared.scope.Scope.{Scope}
use Rattle.sg_query.specs.declared.answer.Answer.{Answer}
use Rattle.sg_query.specs.declared.query.Query.{Query}
use Rattle.sg_reading.specs.Reading.{Reading, done, ask}
use Rattle.sg_state.specs.Held.{HeldOf}
use Rattle.sg_state.specs.Opening.{nobody}
use Rattle.sg_unit.specs.Example.{one_step}
use Rattle.sg_unit.specs.Run.{Setting, asked_by}
use Rattle.sg_strata.specs.Program.{Program, IsProgram, IsQuiet, state_with, IsFirstOpen, IsHeaderRow, IsNeeded}
use Rattle.sg_strata.specs.Strata.{lower, IsGreatest}

-- ---- three types

-- the first of three types
abbrev pub first : Scope
first = record { unit = nobody; serial = 0 }

-- the second
abbrev pub second : Scope
second = record { unit = nobody; serial = 1 }

-- the third
abbrev pub third : Scope
third = record { unit = nobody; serial = 2 }

-- all three
abbrev pub three_types : List Scope
three_types = first ∷ second ∷ third ∷ []

-- each of three units holds the row with label 0 of its type
abbrev pub three : {D : Type 0} → HeldOf D
three = record {
  graph = record { scopes = three_types; edges = []; given = [] };
  row_holds = (record { scope = first; label = 0; unit = 0 }) ∷ (record { scope = second; label = 0; unit = 1 }) ∷ (record { scope = third; label = 0; unit = 2 }) ∷ [];
  datum_holds = [];
  made = 0 ∷ 0 ∷ 0 ∷ [];
  rest = [];
}

-- the setting of their runs, where queries take one step with label 0
abbrev pub three_setting : {D P : Type 0} → (P → D → Bool) → (D → D → Bool) → Setting D P
three_setting wants same = record { opening = three; kinds = one_step; wants = wants; same = same }

-- the first of three things for 0, the second for 1, and else the third
abbrev pub pick : {X : Type 0} → X → X → X → ℕ → X
pick a b c zero = a
pick a b c (suc zero) = b
pick a b c (suc (suc n)) = c

-- this for the first type, this for the second, and this for the third
abbrev pub by_type : {X : Type 0} → X → X → X → Scope → X
by_type a b c s = pick a b c s.serial

-- ---- programs

-- the query that looks at the supertypes of a type
abbrev pub row_query : {P : Type 0} → P → Scope → Query P
row_query x s = record { start = s; kind = 0; pred = x }

-- a header that looks at the supertypes of these types, one after another, and gives these
abbrev pub looking : {D P : Type 0} → P → List Scope → List Scope → Reading (Query P) (Answer D) (List Scope)
looking x [] ts = done ts
looking x (s ∷ ss) ts = ask (row_query x s) (λ a. looking x ss ts)

-- the types whose supertypes each header looks at, and the supertypes that it gives
pub record Small : Type 0 where
  pub looks : Scope → List Scope
  pub gives : Scope → List Scope

-- the program with these headers
abbrev pub small_program : {D P : Type 0} → (P → D → Bool) → (D → D → Bool) → P → Small → Program (Query P) D
small_program wants same x m = record {
  skeleton = (three).graph;
  types = three_types;
  header = λ c. looking x (m.looks c) (m.gives c);
  signatures = [];
  super_label = 0;
  signature_label = 1;
  asked = λ q. asked_by (three_setting wants same) q;
}

-- two types that are above one another, whose headers look at nothing
abbrev pub in_circle : Small
in_circle = record { looks = λ s. []; gives = by_type (second ∷ []) (first ∷ []) [] }

-- the first header looks at the second type's supertypes, which are the first type, and so at its own
abbrev pub through_itself : Small
through_itself = record { looks = by_type (second ∷ first ∷ []) [] []; gives = by_type (third ∷ []) (first ∷ []) [] }

-- each header looks at the supertypes of the types behind it
abbrev pub in_ranks : Small
in_ranks = record { looks = by_type (second ∷ third ∷ []) (third ∷ []) []; gives = by_type (third ∷ []) (third ∷ []) [] }

-- two headers that look at one another's supertypes
abbrev pub crossing : Small
crossing = record { looks = by_type (second ∷ []) (first ∷ []) []; gives = by_type (third ∷ []) (third ∷ []) [] }

-- a header that looks at its own supertypes, and two that look at nothing
abbrev pub turning : Small
turning = record { looks = by_type (first ∷ []) [] []; gives = by_type (second ∷ []) (third ∷ []) [] }

-- ---- what is known of one

-- the first of these types that is outside the set
abbrev pub first_out : (Scope → Bool) → List Scope → Option Scope
first_out in_set [] = None
first_out in_set (s ∷ ss) = cond (in_set s) (first_out in_set ss) (Some s)

-- the set is the greatest, with these ranks, and each other type waits for the supertypes of the first type outside that its header looks at
pub record IsSolved {D P : Type 0} (wants : P → D → Bool) (same : D → D → Bool) (x : P) (m : Small) (in_set : Scope → Bool) (rank : Scope → ℕ) (waits : Scope → Scope) : Type 0 where
  pub program : IsProgram (small_program wants same x m)
  pub quiet : IsQuiet (small_program wants same x m)
  pub ranks : (c : Scope) → Contains three_types c → IsTrue (in_set c) → IsHeaderRow (small_program wants same x m) (state_with (small_program wants same x m) (lower in_set rank c) m.gives) c (m.gives c)
  pub greatest : IsGreatest (small_program wants same x m) in_set m.gives
  pub first_open : (c : Scope) → Contains three_types c → in_set c ≡ false → IsFirstOpen (small_program wants same x m) (state_with (small_program wants same x m) in_set m.gives) c (row_query x (waits c))
  pub needs : (c : Scope) → Contains three_types c → in_set c ≡ false → (t : Scope) → (IsNeeded (small_program wants same x m) (state_with (small_program wants same x m) in_set m.gives) (row_query x (waits c)) t) ↔ (t ≡ waits c)

-- the five programs: all types of the first and the third are in the set, whatever they are above; of the second and the last all but the first type
-- are, which waits for itself; and of the fourth only the third type is, where the others wait for one another
abbrev pub SmallProgramsAreSolved : Type 0 → Type 0 → Type 0
SmallProgramsAreSolved D P =
    (wants : P → D → Bool) (same : D → D → Bool) (x : P)
    → IsSolved wants same x in_circle (λ s. true) (λ s. 0) (λ s. s)
    × IsSolved wants same x through_itself (by_type false true true) (λ s. 0) (λ s. first)
    × IsSolved wants same x in_ranks (λ s. true) (by_type 2 1 0) (λ s. s)
    × IsSolved wants same x crossing (by_type false false true) (λ s. 0) (by_type second first third)
    × IsSolved wants same x turning (by_type false true true) (λ s. 0) (λ s. first)
