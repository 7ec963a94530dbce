-- Small units of two, each of which holds a row, and may ask along the row of the other.
use Rattle.std.specs.Prelude.{◌≡◌, ℕ, zero, suc, ◌<◌, List, [], ◌∷◌, ◌==◌, Bool, true, false, Option, Some, None, length}
use Rattle.sg_base.specs.declared.scope.Scope.{Scope}
use Rattle.sg_query.specs.declared.query.Query.{Query}
use Rattle.sg_query.specs.Query.{KindOf}
use Rattle.sg_state.specs.Held.{HeldOf}
use Rattle.sg_state.specs.Opening.{nobody}
use Rattle.sg_unit.specs.declared.op.Op.{Op}
use Rattle.sg_unit.specs.declared.op.Op.TheVariants.{AddEdge, CloseRow, Ask, End}
use Rattle.sg_unit.specs.declared.reply.Reply.{Reply}
use Rattle.sg_unit.specs.Run.{Setting}
use Rattle.sg_unit.specs.Trace.{Past}
use Rattle.sg_unit.specs.Unit.{setting_of, CanBeHanded, GoesOn, GivesOwed}

-- the two scopes
abbrev pub first : Scope
first = record { unit = nobody; serial = 0 }

-- the second scope
abbrev pub second : Scope
second = record { unit = nobody; serial = 1 }

-- unit 0 holds the row of the first scope with label 0, and unit 1 that of the second
abbrev pub crossed : {D : Type 0} → HeldOf D
crossed = record {
  graph = record { scopes = first ∷ second ∷ []; edges = []; given = [] };
  row_holds = (record { scope = first; label = 0; unit = 0 }) ∷ (record { scope = second; label = 0; unit = 1 }) ∷ [];
  datum_holds = [];
  made = 0 ∷ 0 ∷ [];
  rest = [];
}

-- the number of a unit, by whether it is the second
abbrev pub number_of : Bool → ℕ
number_of false = 0
number_of true = 1

-- the scope whose row it holds, and the other one
abbrev pub own_scope : Bool → Scope
own_scope false = first
own_scope true = second

-- the scope whose row the other unit holds
abbrev pub other_scope : Bool → Scope
other_scope false = second
other_scope true = first

-- the query along the other's row
abbrev pub across : {P : Type 0} → Bool → P → Query P
across b p = record { start = other_scope b; kind = 0; pred = p }

-- what a unit gives after so many operations: one that asks asks along the other's row, and ends; one that does not adds an edge to its
-- own row, closes that, and ends
abbrev pub worker_op : {I R D P : Type 0} → Bool → Bool → P → R → ℕ → Op I R D P
worker_op b true p x zero = Ask (across b p)
worker_op b true p x (suc n) = End x
worker_op b false p x zero = AddEdge (own_scope b) 0 (other_scope b)
worker_op b false p x (suc zero) = CloseRow (own_scope b) 0
worker_op b false p x (suc (suc n)) = End x

-- the traces after so many operations
abbrev pub GaveSo : {I R D P : Type 0} → Bool → Bool → P → R → ℕ → Past I R D P → Option (Op I R D P) → Type 0
GaveSo b a p x zero past given = (past ≡ []) × (given ≡ None)
GaveSo b a p x (suc zero) past given = (past ≡ []) × (given ≡ Some (worker_op b a p x 0))
GaveSo {I} {R} {D} {P} b a p x (suc (suc zero)) past given =
    (y : Reply I D P) × (past ≡ (worker_op b a p x 0, y) ∷ []) × (given ≡ Some (worker_op b a p x 1))
GaveSo {I} {R} {D} {P} b a p x (suc (suc (suc n))) past given =
    (y : Reply I D P) × (w : Reply I D P) × (past ≡ (worker_op b a p x 0, y) ∷ (worker_op b a p x 1, w) ∷ []) × (given ≡ Some (worker_op b a p x 2))

-- the unit stands for these traces, where the table has a kind
abbrev pub WorkerStands : {I R D P : Type 0} → List KindOf → Bool → Bool → P → R → ℕ → Past I R D P → Option (Op I R D P) → Type 0
WorkerStands ks b a p x n past given = (0 < length ks) × GaveSo b a p x n past given

-- what stays of a unit: whether it is the second, whether it asks, and its table
abbrev pub fixed_part : Bool → Bool → List KindOf → Bool × Bool × List KindOf
fixed_part b a ks = (b, a, ks)

-- the edge that a unit owes, which does not ask
abbrev pub IsWorkersEdge : Bool → Bool → Scope → ℕ → Scope → Type 0
IsWorkersEdge b true s l t = ⊥
IsWorkersEdge b false s l t = (s ≡ own_scope b) × (l ≡ 0) × (t ≡ other_scope b)

-- the query that a unit may ask, which asks
abbrev pub IsWorkersQuery : {P : Type 0} → Bool → Bool → P → Query P → Type 0
IsWorkersQuery b true p q = q ≡ across b p
IsWorkersQuery b false p q = ⊥

-- ---- such a unit where data are numbers, and so are predicates, each of which wants the number that it equals; it asks for 5, and ends with 7

-- the setting that opens so
abbrev pub crossed_numbers : List KindOf → Setting ℕ ℕ
crossed_numbers ks = setting_of (λ p d. p == d) (λ a b. a == b) crossed ks

-- the unit stands for a trace after which it can be handed this
abbrev pub WorkerCanBeHanded : {I : Type 0} → List KindOf → Bool → Bool → ℕ → Option (Reply I ℕ ℕ) → Type 0
WorkerCanBeHanded ks b a n last = CanBeHanded {R = ℕ} (crossed_numbers ks) (number_of b) (WorkerStands ks b a 5 7 n) last

-- the old unit goes on to the new one with such an operation
abbrev pub WorkerSteps : {I : Type 0} → List KindOf → Bool → Bool → ℕ → List KindOf → Bool → Bool → ℕ → Option (Reply I ℕ ℕ) → Op I ℕ ℕ ℕ → Type 0
WorkerSteps ks b a n ks' b' a' n' = GoesOn (crossed_numbers ks) (number_of b) (WorkerStands ks b a 5 7 n) (WorkerStands ks' b' a' 5 7 n')

-- what the unit gave by now is what it owes
abbrev pub WorkerGivesOwed : {I : Type 0} → List KindOf → Bool → Bool → ℕ → Option (Reply I ℕ ℕ) → Op I ℕ ℕ ℕ → Type 0
WorkerGivesOwed ks b a n = GivesOwed (crossed_numbers ks) (number_of b) (λ _. IsWorkersEdge b a) (λ _ _ _. ⊥) (λ _ q. IsWorkersQuery b a 5 q) (λ _ x. x ≡ 7) (WorkerStands ks b a 5 7 n)

-- the old unit and the new one have one fixed part and one number
abbrev pub WorkerStays : List KindOf → Bool → Bool → List KindOf → Bool → Bool → Type 0
WorkerStays ks b a ks' b' a' = (fixed_part b' a' ks' ≡ fixed_part b a ks) × (number_of b' ≡ number_of b)
