-- Units that a driver serves: how they begin, what is kept of each, and what is handed on of it.
use Rattle.std.specs.Prelude.{◌≡◌, ℕ, List, [], Bool, Option, Some, None, cond, length, slice_get}
use Rattle.sg_base.specs.declared.scope.Scope.{Scope}
use Rattle.sg_base.specs.Graph.{GraphOf}
use Rattle.sg_query.specs.declared.query.Query.{Query}
use Rattle.sg_query.specs.Query.{KindOf}
use Rattle.sg_state.specs.Held.{HeldOf}
use Rattle.sg_unit.specs.declared.entry.Entry.{Entry}
use Rattle.sg_unit.specs.declared.op.Op.{Op}
use Rattle.sg_unit.specs.declared.reply.Reply.{Reply}
use Rattle.sg_unit.specs.declared.unit.Unit.{Ghosts as UnitOf}
use Rattle.sg_unit.specs.Honest.{IsHonest}
use Rattle.sg_unit.specs.Operation.{is_ask}
use Rattle.sg_unit.specs.Trace.{Past, told}
use Rattle.sg_unit.specs.Unit.{setting_of}

-- the unit has given nothing, and has this number, opening and kinds
abbrev pub IsNew : {I R D P V F : Type 0} → (V → ℕ) → (V → F) → (F → HeldOf D) → (F → List KindOf) → (V → Past I R D P → Option (Op I R D P) → Type 0) → HeldOf D → List KindOf → ℕ → V → Type 0
IsNew number fixed opening kinds stands begins table u v =
    (number v ≡ u) × (opening (fixed v) ≡ begins) × (kinds (fixed v) ≡ table) × stands v [] None

-- one new unit for each number of the opening, listed by number
abbrev pub AreNew : {I R D P V F : Type 0} → (V → ℕ) → (V → F) → (F → HeldOf D) → (F → List KindOf) → (V → Past I R D P → Option (Op I R D P) → Type 0) → HeldOf D → List KindOf → List V → Type 0
AreNew {V = V} number fixed opening kinds stands begins table units =
    (length units ≡ length begins.made) × ((u : ℕ) (v : V) → slice_get units u ≡ Some v → IsNew number fixed opening kinds stands begins table u v)

-- some unit with this number and this fixed part stands for these entries
abbrev pub SomeStands : {I R D P V F : Type 0} → (V → ℕ) → (V → F) → (V → Past I R D P → Option (Op I R D P) → Type 0) → List (Entry I R D P) → ℕ → F → Type 0
SomeStands {V = V} number fixed stands mine u f = (v : V) × (number v ≡ u) × (fixed v ≡ f) × stands v (told mine).past (told mine).last

-- the reply that waits to be handed to a unit after an operation that it gave: an ask has none until its answer is taken
abbrev pub waits_next : {I R D P : Type 0} → Op I R D P → Reply I D P → Option (Reply I D P)
waits_next op y = cond (is_ask op) None (Some y)

-- units whose fixed parts have these openings and kinds, and owe these edges, data, queries and results in each graph
module _ {I R D P F : Type 0} (wants : P → D → Bool) (same : D → D → Bool) (opening : F → HeldOf D) (kinds : F → List KindOf) (edges : F → GraphOf D → Scope → ℕ → Scope → Type 0) (data_at : F → GraphOf D → Scope → D → Type 0) (asks : F → GraphOf D → Query P → Type 0) (result : F → GraphOf D → R → Type 0) where
  -- a unit with this number and this fixed part is honest by the trace that these entries tell
  abbrev pub IsHonestBy : List (Entry I R D P) → ℕ → F → Type 0
  IsHonestBy mine u f = IsHonest (setting_of wants same (opening f) (kinds f)) u (edges f) (data_at f) (asks f) (result f) (told mine).past (told mine).last

  -- the unit has this number and this fixed part, stands for these entries, by which it is honest, and this reply waits to be handed to it
  pub record IsServed {V : Type 0} (number : V → ℕ) (fixed : V → F) (stands : V → Past I R D P → Option (Op I R D P) → Type 0) (mine : List (Entry I R D P)) (u : ℕ) (f : F) (v : V) (y : Option (Reply I D P)) : Type 0 where
    pub numbered : number v ≡ u
    pub fixed_part : fixed v ≡ f
    pub stood : stands v (told mine).past (told mine).last
    pub waiting : y ≡ (told mine).reply
    pub honest : IsHonestBy mine u f

-- the same of a unit, by the members of its type
abbrev pub IsServedUnit : {V I R D P : Type 0} → (P → D → Bool) → (D → D → Bool) → (unit : UnitOf V I R D P) → List (Entry I R D P) → ℕ → unit.Fixed → V → Option (Reply I D P) → Type 0
IsServedUnit wants same unit = IsServed wants same unit.opening unit.kinds unit.owes_edge unit.owes_datum unit.may_ask unit.comes_to unit.number unit.fixed unit.stands
