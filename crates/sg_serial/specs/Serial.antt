-- Units that are served one at a time.
use Rattle.std.specs.Prelude.{◌≡◌, ℕ, zero, suc, ◌+◌, List, [], ◌∷◌, ◌++◌, Bool, Option, Some, Result, IfOk, MatchOption, ◌⊎◌, length, slice_get}
use Rattle.sg_base.specs.declared.instance.Instance.{Ghosts as InstanceOf}
use Rattle.sg_base.specs.declared.scope.Scope.{Scope}
use Rattle.sg_base.specs.Graph.{GraphOf}
use Rattle.sg_query.specs.declared.query.Query.{Query}
use Rattle.sg_query.specs.Query.{KindOf}
use Rattle.sg_state.specs.Held.{HeldOf}
use Rattle.sg_unit.specs.declared.entry.Entry.{Entry}
use Rattle.sg_unit.specs.declared.op.Op.{Op}
use Rattle.sg_unit.specs.declared.reply.Reply.{Reply}
use Rattle.sg_unit.specs.declared.unit.Unit.{Ghosts as UnitOf}
use Rattle.sg_unit.specs.Bound.{weight}
use Rattle.sg_unit.specs.Own.{own}
use Rattle.sg_unit.specs.Run.{Setting, RunOf, after, run_from, NoAsk}
use Rattle.sg_unit.specs.Served.{IsServed}
use Rattle.sg_unit.specs.Trace.{Past}
use Rattle.sg_core.specs.Core.{CoreOf, IsRunnable, IsLeastRunnable, setting, run}

-- units whose fixed parts have these openings and kinds, and owe these edges, data, queries and results in each graph, and which have these
-- numbers and fixed parts and stand for these traces
module _ {I R D P V F : Type 0} (wants : P → D → Bool) (same : D → D → Bool) (opening_at : F → HeldOf D) (kinds_at : F → List KindOf) (edges : F → GraphOf D → Scope → ℕ → Scope → Type 0) (data_at : F → GraphOf D → Scope → D → Type 0) (asks : F → GraphOf D → Query P → Type 0) (result : F → GraphOf D → R → Type 0)
    (number : V → ℕ) (fixed : V → F) (stands : V → Past I R D P → Option (Op I R D P) → Type 0) where
  -- while it runs, each unit of the list is one that was given, and is served
  pub record IsTeam (start units : List V) (replies : List (Option (Reply I D P))) (c : CoreOf I R D P) : Type 0 where
    pub started : length start ≡ length c.opening.made
    pub counted : length units ≡ length c.opening.made
    pub handed : length replies ≡ length c.opening.made
    pub named : (u : ℕ) (w : V) → slice_get start u ≡ Some w → (opening_at (fixed w) ≡ c.opening) × (kinds_at (fixed w) ≡ c.kinds)
    pub each : (u : ℕ) (w v : V) (y : Option (Reply I D P)) → slice_get start u ≡ Some w → slice_get units u ≡ Some v → slice_get replies u ≡ Some y → IsServed wants same opening_at kinds_at edges data_at asks result number fixed stands (own u c.log) u (fixed w) v y

-- the same of units, by the members of their type and of its instance
abbrev pub IsTeamOf : {V I R D P : Type 0} → InstanceOf I D P → UnitOf V I R D P → List V → List V → List (Option (Reply I D P)) → CoreOf I R D P → Type 0
IsTeamOf inst unit = IsTeam inst.wants inst.same_datum unit.opening unit.kinds unit.owes_edge unit.owes_datum unit.may_ask unit.comes_to unit.number unit.fixed unit.stands

-- if the old ones are so, the new ones are so where the result is well
abbrev pub StaysTeam : {V I R D P A E : Type 0} → InstanceOf I D P → UnitOf V I R D P → List V → List V → List (Option (Reply I D P)) → CoreOf I R D P → Result A E → List V → List (Option (Reply I D P)) → CoreOf I R D P → Type 0
StaysTeam inst unit start units replies c result units' replies' c' = IsTeamOf inst unit start units replies c → IfOk result (λ _. IsTeamOf inst unit start units' replies' c')

-- ---- which unit steps when

-- no unit runs, or this is the least one that runs, and it asks nothing
abbrev pub IsNextIdle : {D P : Type 0} → RunOf D P → Option ℕ → Type 0
IsNextIdle r next = MatchOption next ((u : ℕ) → IsRunnable r u → ⊥) (λ u. IsLeastRunnable r u × NoAsk r u)

-- each choice in turn makes one entry of its unit where that runs, and is passed by otherwise; and these are all entries
abbrev pub AreChosen : {I R D P : Type 0} → RunOf D P → List ℕ → List (Entry I R D P) → Type 0
AreChosen r [] log = log ≡ []
AreChosen {I} {R} {D} {P} r (u ∷ us) log =
    (IsRunnable r u × ((e : Entry I R D P) × (rest : List (Entry I R D P)) × (log ≡ e ∷ rest) × (e.unit ≡ u) × AreChosen (after r e) us rest))
    ⊎ ((IsRunnable r u → ⊥) × AreChosen r us log)

-- each entry is of the least unit that runs
abbrev pub AreLeastFirst : {I R D P : Type 0} → RunOf D P → List (Entry I R D P) → Type 0
AreLeastFirst r [] = Unit {0}
AreLeastFirst r (e ∷ es) = IsLeastRunnable r e.unit × AreLeastFirst (after r e) es

-- first come the entries of the choices, and then those of the least units that run
abbrev pub IsServedBy : {I R D P : Type 0} → RunOf D P → List ℕ → List (Entry I R D P) → Type 0
IsServedBy {I} {R} {D} {P} r order log =
    (chosen : List (Entry I R D P)) × (others : List (Entry I R D P)) × (log ≡ chosen ++ others) × AreChosen r order chosen × AreLeastFirst (run_from r chosen) others

-- ---- while it runs

-- the log gained one entry, which is of this unit
abbrev pub AddsEntryOf : {I R D P : Type 0} → CoreOf I R D P → CoreOf I R D P → ℕ → Type 0
AddsEntryOf {I} {R} {D} {P} old new u = (e : Entry I R D P) × (new.log ≡ old.log ++ e ∷ []) × (e.unit ≡ u)

-- the log gained one entry of this unit if that runs, and nothing otherwise
abbrev pub StepsIfRunnable : {I R D P : Type 0} → (P → D → Bool) → (D → D → Bool) → CoreOf I R D P → CoreOf I R D P → ℕ → Type 0
StepsIfRunnable wants same old new u =
    (IsRunnable (run wants same old) u × AddsEntryOf old new u) ⊎ ((IsRunnable (run wants same old) u → ⊥) × (new.log ≡ old.log))

-- the log gained entries, each of the least unit that runs
abbrev pub AddsLeastFirst : {I R D P : Type 0} → (P → D → Bool) → (D → D → Bool) → CoreOf I R D P → CoreOf I R D P → Type 0
AddsLeastFirst {I} {R} {D} {P} wants same old new =
    (more : List (Entry I R D P)) × (new.log ≡ old.log ++ more) × AreLeastFirst (run wants same old) more

-- the sum of a measure over a list
abbrev pub sum_of : {V : Type 0} → (V → ℕ) → List V → ℕ
sum_of measure [] = 0
sum_of measure (v ∷ vs) = measure v + sum_of measure vs

-- the sum of the weights of the units below a number
abbrev pub total : {D P : Type 0} → Setting D P → RunOf D P → ℕ → ℕ
total z r zero = 0
total z r (suc n) = total z r n + weight z r n

-- how many more advances and takes there can be at most while nobody writes
abbrev pub asks_left : {I R D P : Type 0} → (P → D → Bool) → (D → D → Bool) → CoreOf I R D P → ℕ
asks_left wants same c = total (setting wants same c) (run wants same c) (length c.opening.made)

-- the core went on from the old one
abbrev pub GoesOnFrom : {I R D P : Type 0} → CoreOf I R D P → CoreOf I R D P → Type 0
GoesOnFrom old new = (new.opening ≡ old.opening) × (new.kinds ≡ old.kinds)
