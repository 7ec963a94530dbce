-- Units that are run by several workers at one desk.
use Rattle.std.specs.Prelude.{◌≡◌, ◌<◌, ◌⊎◌, ℕ, List, [], Bool, true, false, Option, Some, None, All, length, slice_get}
use Rattle.std.specs.List.{Contains}
use Rattle.sg_base.specs.declared.instance.Instance.{Ghosts as InstanceGhosts}
use Rattle.sg_base.specs.declared.scope.Scope.{Scope}
use Rattle.sg_base.specs.Graph.{GraphOf}
use Rattle.sg_query.specs.Query.{KindOf}
use Rattle.sg_query.specs.declared.query.Query.{Query}
use Rattle.sg_state.specs.Held.{HeldOf}
use Rattle.sg_unit.specs.declared.entry.Entry.{Entry}
use Rattle.sg_unit.specs.declared.op.Op.{Op}
use Rattle.sg_unit.specs.declared.seat.Seat.{Ghosts as SeatGhosts}
use Rattle.sg_unit.specs.declared.unit.Unit.{Ghosts as UnitGhosts}
use Rattle.sg_unit.specs.Run.{run_of}
use Rattle.sg_unit.specs.Served.{SomeStands, IsHonestBy}
use Rattle.sg_unit.specs.Trace.{Past}
use Rattle.sg_unit.specs.Unit.{setting_of}
use Rattle.sg_pool.specs.declared.doing.Doing.{Doing}
use Rattle.sg_pool.specs.declared.doing.Doing.TheVariants.{Gives, Advances, Takes, HasEnded}
use Rattle.sg_pool.specs.Driving.{RunningOf, MetStuck}

-- whether nothing comes next
abbrev pub has_ended : Doing → Bool
has_ended HasEnded = true
has_ended Gives = false
has_ended Advances = false
has_ended Takes = false

-- each unit's seat has the number of its place in the list
abbrev pub AreNumbered : {V S : Type 0} → (S → ℕ) → List (RunningOf V S) → Type 0
AreNumbered {V} {S} number_at units = (u : ℕ) (r : RunningOf V S) → slice_get units u ≡ Some r → number_at r.seat ≡ u

-- the unit sits at the desk, where that is named, under a number of the run, and has the fixed part of the unit that the run began with under that number
pub record IsAtSite {V F S K : Type 0} (fixed : V → F) (number_at : S → ℕ) (Sits : K → S → Type 0) (desk : Option K) (start : List V) (r : RunningOf V S) : Type 0 where
  pub sits : (d : K) → desk ≡ Some d → Sits d r.seat
  pub within : number_at r.seat < length start
  pub part : (v : V) → slice_get start (number_at r.seat) ≡ Some v → fixed r.unit ≡ fixed v

-- the unit and the seat have this number, which is one of the run's, and are both new; and the seat's run is the unit's
pub record IsNewAt {I R D P V F S : Type 0} (number : V → ℕ) (fixed : V → F) (opening : F → HeldOf D) (kinds : F → List KindOf) (stands : V → Past I R D P → Option (Op I R D P) → Type 0)
    (number_at : S → ℕ) (mine : S → List (Entry I R D P)) (spent : S → Bool) (begins : S → HeldOf D) (table : S → List KindOf) (u : ℕ) (v : V) (s : S) : Type 0 where
  pub numbers : (number v ≡ u) × (number_at s ≡ u) × (u < length (begins s).made)
  pub new : stands v [] None × (mine s ≡ []) × (spent s ≡ false)
  pub run : (begins s ≡ opening (fixed v)) × (table s ≡ kinds (fixed v))

module _ {I R D P V F S K : Type 0} (wants : P → D → Bool) (same : D → D → Bool) (opening : F → HeldOf D) (kinds : F → List KindOf) (edges : F → GraphOf D → Scope → ℕ → Scope → Type 0) (data_at : F → GraphOf D → Scope → D → Type 0) (asks : F → GraphOf D → Query P → Type 0) (result : F → GraphOf D → R → Type 0)
    (number : V → ℕ) (fixed : V → F) (stands : V → Past I R D P → Option (Op I R D P) → Type 0)
    (number_at : S → ℕ) (mine : S → List (Entry I R D P)) (spent : S → Bool) (begins : S → HeldOf D) (table : S → List KindOf) (Sits : K → S → Type 0) where
  -- the unit of the seat has ended
  abbrev pub EndedAt : S → Type 0
  EndedAt s = (run_of (setting_of wants same (begins s) (table s)) (mine s)).live (number_at s) ≡ false

  -- what is handed on of the seat with this number, whose unit had this fixed part: it is one of this desk, and can be used; the desk's run is the unit's;
  -- and some unit with the number and the fixed part stands for its entries, by which it is honest
  pub record IsPooled (d : K) (u : ℕ) (f : F) (s : S) : Type 0 where
    pub numbered : number_at s ≡ u
    pub sits : Sits d s
    pub unspent : spent s ≡ false
    pub run : (begins s ≡ opening f) × (table s ≡ kinds f)
    pub stood : SomeStands number fixed stands (mine s) u f
    pub honest : IsHonestBy wants same opening kinds edges data_at asks result (mine s) u f

  -- there is a seat for each unit that was given, in their order; and every unit has ended, or some entry was answered that every live unit waits
  pub record HasPooled (d : K) (start : List (RunningOf V S)) (seats : List S) : Type 0 where
    pub counted : length seats ≡ length start
    pub each : (u : ℕ) (r : RunningOf V S) (s : S) → slice_get start u ≡ Some r → slice_get seats u ≡ Some s → IsPooled d u (fixed r.unit) s
    pub over : All EndedAt seats ⊎ ((s : S) × Contains seats s × MetStuck (mine s))

  -- what is known of a unit of a run that met no want of memory
  pub record IsKept (desk : Option K) (start : List V) (r : RunningOf V S) : Type 0 where
    pub sits : (d : K) → desk ≡ Some d → Sits d r.seat
    pub part : (v : V) → slice_get start (number_at r.seat) ≡ Some v → fixed r.unit ≡ fixed v
    pub unspent : spent r.seat ≡ false
    pub run : (begins r.seat ≡ opening (fixed r.unit)) × (table r.seat ≡ kinds (fixed r.unit))
    pub stood : SomeStands number fixed stands (mine r.seat) (number_at r.seat) (fixed r.unit)
    pub honest : IsHonestBy wants same opening kinds edges data_at asks result (mine r.seat) (number_at r.seat) (fixed r.unit)
    pub ended : has_ended r.doing ≡ true → EndedAt r.seat
    pub stuck : r.stuck ≡ true → MetStuck (mine r.seat)

-- ---- the same, by the words of an instance, a unit and a seat

-- each unit and the seat of its place in the list have that place as their number and are both new; and the seat's run is the unit's
abbrev pub AreNewlySeated : {I R D P V S : Type 0} → UnitGhosts V I R D P → SeatGhosts S I R D P → List V → List S → Type 0
AreNewlySeated {V = V} {S = S} unit seat units seats =
    (u : ℕ) (v : V) (s : S) → slice_get units u ≡ Some v → slice_get seats u ≡ Some s → IsNewAt unit.number unit.fixed unit.opening unit.kinds unit.stands seat.number seat.mine seat.spent seat.opening seat.kinds u v s

module _ {I R D P V S K : Type 0} (instance : InstanceGhosts I D P) (unit : UnitGhosts V I R D P) (seat : SeatGhosts S I R D P) (Sits : K → S → Type 0) where
  -- what is handed on of these units that were run at this desk: a seat for each in their order, and every unit has ended, or some entry was answered that every live unit waits
  abbrev pub ArePooled : K → List (RunningOf V S) → List S → Type 0
  ArePooled d start seats =
      HasPooled instance.wants instance.same_datum unit.opening unit.kinds unit.owes_edge unit.owes_datum unit.may_ask unit.comes_to unit.number unit.fixed unit.stands seat.number seat.mine seat.spent seat.opening seat.kinds Sits d start seats

  -- what is known of a unit of a run at this desk, where that is named, that began with these units and met no want of memory
  abbrev pub IsKeptJob : Option K → List V → RunningOf V S → Type 0
  IsKeptJob desk start r =
      IsKept instance.wants instance.same_datum unit.opening unit.kinds unit.owes_edge unit.owes_datum unit.may_ask unit.comes_to unit.number unit.fixed unit.stands seat.number seat.mine seat.spent seat.opening seat.kinds Sits desk start r

-- each of these units has ended, or some entry of one was answered that every live unit waits
abbrev pub IsOver : {V S : Type 0} → List (RunningOf V S) → Type 0
IsOver {V} {S} jobs = All (λ j. has_ended j.doing ≡ true) jobs ⊎ ((j : RunningOf V S) × Contains jobs j × (j.stuck ≡ true))
