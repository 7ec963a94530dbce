-- Units that are driven at a desk, each by one worker at a time.
use Rattle.std.specs.Prelude.{◌≡◌, ℕ, List, [], ◌∷◌, ◌++◌, Bool, false, IsTrue, Option, Some, None}
use Rattle.std.specs.List.{Contains}
use Rattle.sg_base.specs.declared.instance.Instance.{Ghosts as InstanceGhosts}
use Rattle.sg_base.specs.declared.scope.Scope.{Scope}
use Rattle.sg_base.specs.Graph.{GraphOf}
use Rattle.sg_query.specs.Query.{KindOf}
use Rattle.sg_query.specs.declared.query.Query.{Query}
use Rattle.sg_state.specs.Held.{HeldOf}
use Rattle.sg_unit.specs.declared.entry.Entry.{Entry}
use Rattle.sg_unit.specs.declared.op.Op.{Op}
use Rattle.sg_unit.specs.declared.op.Op.TheVariants.{Fresh, AddEdge, SetDatum, CloseRow, Ask, Advance, Take, End}
use Rattle.sg_unit.specs.declared.reply.Reply.{Reply}
use Rattle.sg_unit.specs.declared.reply.Reply.TheVariants.{Made, Done, Moved, Ready, Suspended, Answer as Answered, Stuck}
use Rattle.sg_unit.specs.declared.seat.Seat.{Ghosts as SeatGhosts}
use Rattle.sg_unit.specs.declared.unit.Unit.{Ghosts as UnitGhosts}
use Rattle.sg_unit.specs.Own.{IsOwnRun}
use Rattle.sg_unit.specs.Run.{RunOf, run_of, NoAsk, IsOpenAsk, IsReadyAsk}
use Rattle.sg_unit.specs.Served.{IsServed}
use Rattle.sg_unit.specs.Trace.{Past}
use Rattle.sg_unit.specs.Unit.{setting_of}
use Rattle.sg_pool.specs.declared.doing.Doing.{Doing}
use Rattle.sg_pool.specs.declared.doing.Doing.TheVariants.{Gives, Advances, Takes, HasEnded}
use Rattle.sg_pool.specs.declared.after.After.{After}
use Rattle.sg_pool.specs.declared.after.After.TheVariants.{Goes, Waits, IsStuck}

-- what comes next for a live unit: it gives an operation, its ask goes on, or its answer is taken; or it has ended
abbrev pub IsDoing : {D P : Type 0} → RunOf D P → ℕ → Doing → Type 0
IsDoing r u Gives = IsTrue (r.live u) × NoAsk r u
IsDoing r u Advances = IsTrue (r.live u) × IsOpenAsk (r.asks u)
IsDoing r u Takes = IsTrue (r.live u) × IsReadyAsk (r.asks u)
IsDoing r u HasEnded = r.live u ≡ false

-- what comes after an operation that the unit gave
abbrev pub doing_after : {I R D P : Type 0} → Op I R D P → Doing
doing_after (Fresh labels datum) = Gives
doing_after (AddEdge from label to) = Gives
doing_after (SetDatum s d) = Gives
doing_after (CloseRow s l) = Gives
doing_after (Ask q) = Advances
doing_after Advance = Advances
doing_after Take = Gives
doing_after (End x) = HasEnded

-- what comes after an advance with this reply
abbrev pub doing_advanced : {I D P : Type 0} → Reply I D P → Doing
doing_advanced Ready = Takes
doing_advanced Moved = Advances
doing_advanced Suspended = Advances
doing_advanced Stuck = Advances
doing_advanced (Made s) = Advances
doing_advanced (Done woken) = Advances
doing_advanced (Answered a) = Advances

-- whether the unit goes on after this reply, waits, or every live unit waits
abbrev pub after_of : {I D P : Type 0} → Reply I D P → After
after_of Suspended = Waits
after_of Stuck = IsStuck
after_of Ready = Goes
after_of Moved = Goes
after_of (Made s) = Goes
after_of (Done woken) = Goes
after_of (Answered a) = Goes

-- some entry was answered that every live unit waits
abbrev pub MetStuck : {I R D P : Type 0} → List (Entry I R D P) → Type 0
MetStuck {I} {R} {D} {P} mine = (e : Entry I R D P) × Contains mine e × (e.reply ≡ Stuck)

-- the entries have one more, which is of the unit with this number, and whose reply told this
abbrev pub AddsOne : {I R D P : Type 0} → List (Entry I R D P) → ℕ → After → List (Entry I R D P) → Type 0
AddsOne {I} {R} {D} {P} mine u a new = (e : Entry I R D P) × (new ≡ mine ++ e ∷ []) × (e.unit ≡ u) × (a ≡ after_of e.reply)

-- the units that the operation with this reply lets go on
abbrev pub woken_of : {I D P : Type 0} → Option (Reply I D P) → List ℕ
woken_of None = []
woken_of (Some Suspended) = []
woken_of (Some Stuck) = []
woken_of (Some Ready) = []
woken_of (Some Moved) = []
woken_of (Some (Made s)) = []
woken_of (Some (Done woken)) = woken
woken_of (Some (Answered a)) = []

module _ {I R D P V F : Type 0} (wants : P → D → Bool) (same : D → D → Bool) (opening : F → HeldOf D) (kinds : F → List KindOf) (edges : F → GraphOf D → Scope → ℕ → Scope → Type 0) (data_at : F → GraphOf D → Scope → D → Type 0) (asks : F → GraphOf D → Query P → Type 0) (result : F → GraphOf D → R → Type 0)
    (number : V → ℕ) (fixed : V → F) (stands : V → Past I R D P → Option (Op I R D P) → Type 0) where
  -- the unit is served by these entries of its number, which are its own run at a desk whose run begins with these, and this comes next for it
  pub record IsDriven (begins : HeldOf D) (table : List KindOf) (mine : List (Entry I R D P)) (u : ℕ) (v : V) (y : Option (Reply I D P)) (d : Doing) : Type 0 where
    pub run : (begins ≡ opening (fixed v)) × (table ≡ kinds (fixed v))
    pub own : IsOwnRun (setting_of wants same (opening (fixed v)) (kinds (fixed v))) u mine
    pub doing : IsDoing (run_of (setting_of wants same (opening (fixed v)) (kinds (fixed v))) mine) u d
    pub served : IsServed wants same opening kinds edges data_at asks result number fixed stands mine u (fixed v) v y

-- the same, by the words of an instance, a unit and a seat
module _ {I R D P V S : Type 0} (instance : InstanceGhosts I D P) (unit : UnitGhosts V I R D P) (seat : SeatGhosts S I R D P) where
  -- the unit is driven by the entries of this seat and under its number, at a desk whose run is the seat's, and this comes next for it
  abbrev pub IsDrivenAt : S → V → Option (Reply I D P) → Doing → Type 0
  IsDrivenAt s v y d =
      IsDriven instance.wants instance.same_datum unit.opening unit.kinds unit.owes_edge unit.owes_datum unit.may_ask unit.comes_to unit.number unit.fixed unit.stands (seat.opening s) (seat.kinds s) (seat.mine s) (seat.number s) v y d

module _ {I R D P S : Type 0} (instance : InstanceGhosts I D P) (seat : SeatGhosts S I R D P) where
  -- whether the unit of the seat is live, as its entries tell
  abbrev pub is_live_at : S → Bool
  is_live_at s = (run_of (setting_of instance.wants instance.same_datum (seat.opening s) (seat.kinds s)) (seat.mine s)).live (seat.number s)

-- ---- what contracts see of a unit that is driven

-- the unit, its seat, what comes next, whether some entry of it was answered that every live unit waits, and whether want of memory was met
pub record RunningOf (V S : Type 0) : Type 0 where
  pub unit : V
  pub seat : S
  pub doing : Doing
  pub stuck : Bool
  pub failed : Bool
