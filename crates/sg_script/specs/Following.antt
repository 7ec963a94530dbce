-- Units that follow scripts: what may come next, and where a unit stands.
use Rattle.std.specs.Prelude.{◌≡◌, ℕ, ◌+◌, ◌*◌, ◌-◌, ◌^◌, List, [], ◌∷◌, ◌++◌, Bool, true, false, cond, Option, Some, None, ◌⊎◌, ◌↔◌, length, take, map}
use Rattle.std.specs.List.{flat_map, range_with_len}
use Rattle.sg_base.specs.declared.scope.Scope.{Scope}
use Rattle.sg_query.specs.declared.answer.Answer.{Answer}
use Rattle.sg_query.specs.declared.query.Query.{Query}
use Rattle.sg_reading.specs.Reading.{Reading, Gives, Needs}
use Rattle.sg_reading.specs.Stop.{Replied}
use Rattle.sg_script.specs.declared.write.Write.{Write}
use Rattle.sg_script.specs.declared.write.Write.TheVariants.{AddEdge as Adds, SetDatum as Sets, CloseRow as Closes}
use Rattle.sg_unit.specs.Orderly.{Did, IsOrderly, WasTold}
use Rattle.sg_script.specs.Script.{Stage, Plan, AreGiven, IsSound}
use Rattle.sg_unit.specs.declared.op.Op.{Op}
use Rattle.sg_unit.specs.declared.op.Op.TheVariants.{Fresh, AddEdge, SetDatum, CloseRow, Ask, Advance, Take, End}
use Rattle.sg_unit.specs.Trace.{Past}

-- ---- what was written

-- the operation that does a write
abbrev pub op_of : {I R D P : Type 0} → Write D → Op I R D P
op_of (Adds from label to) = AddEdge from label to
op_of (Sets s d) = SetDatum s d
op_of (Closes s label) = CloseRow s label

-- what an operation writes
abbrev pub written : {I R D P : Type 0} → Op I R D P → List (Write D)
written (Fresh labels datum) = []
written (AddEdge from label to) = Adds from label to ∷ []
written (SetDatum s d) = Sets s d ∷ []
written (CloseRow s label) = Closes s label ∷ []
written (Ask q) = []
written Advance = []
written Take = []
written (End x) = []

-- what the last operation writes, where there is one
abbrev pub written_last : {I R D P : Type 0} → Option (Op I R D P) → List (Write D)
written_last None = []
written_last (Some op) = written op

-- what was written by now
abbrev pub writes_in : {I R D P : Type 0} → Past I R D P → List (Write D)
writes_in [] = []
writes_in (x ∷ xs) = written x.0 ++ writes_in xs

-- what is asked
abbrev pub asked_last : {I R D P : Type 0} → Option (Op I R D P) → Option (Query P)
asked_last None = None
asked_last (Some (Fresh labels datum)) = None
asked_last (Some (AddEdge from label to)) = None
asked_last (Some (SetDatum s d)) = None
asked_last (Some (CloseRow s label)) = None
asked_last (Some (Ask q)) = Some q
asked_last (Some Advance) = None
asked_last (Some Take) = None
asked_last (Some (End x)) = None

-- whether the unit ended
abbrev pub is_end : {I R D P : Type 0} → Option (Op I R D P) → Bool
is_end None = false
is_end (Some (Fresh labels datum)) = false
is_end (Some (AddEdge from label to)) = false
is_end (Some (SetDatum s d)) = false
is_end (Some (CloseRow s label)) = false
is_end (Some (Ask q)) = false
is_end (Some Advance) = false
is_end (Some Take) = false
is_end (Some (End x)) = true

-- ---- what may come next

-- one of the stages gives this write next: those before it were written, and this much of its own
pub record MayWrite {I R D P : Type 0} (stages : List (Stage D P)) (past : Past I R D P) (w : Write D) : Type 0 where
  pub before : List (Stage D P)
  pub stage : Stage D P
  pub later : List (Stage D P)
  pub split : stages ≡ before ++ stage ∷ later
  pub earlier : List (Write D)
  pub given : AreGiven (WasTold past) before earlier
  pub front : List (Write D)
  pub behind : List (Write D)
  pub queries : List (Query P)
  pub gives : Gives (WasTold past) stage.rule (front ++ w ∷ behind) queries
  pub wrote : writes_in past ≡ earlier ++ front

-- one of the stages reads this query next: those before it were written
pub record MayAskInStage {I R D P : Type 0} (stages : List (Stage D P)) (past : Past I R D P) (q : Query P) : Type 0 where
  pub before : List (Stage D P)
  pub stage : Stage D P
  pub later : List (Stage D P)
  pub split : stages ≡ before ++ stage ∷ later
  pub earlier : List (Write D)
  pub given : AreGiven (WasTold past) before earlier
  pub wrote : writes_in past ≡ earlier
  pub needs : Needs (WasTold past) stage.rule q

-- all stages were written
abbrev pub WroteAll : {I R D P : Type 0} → List (Stage D P) → Past I R D P → Type 0
WroteAll {D = D} stages past = AreGiven (WasTold past) stages (writes_in past)

-- what a unit may give next that follows the script
abbrev pub MayFollow : {I R D P : Type 0} → List (Stage D P) → Reading (Query P) (Answer D) R → Past I R D P → Op I R D P → Type 0
MayFollow stages ending past (Fresh labels datum) = ⊥
MayFollow stages ending past (AddEdge from label to) = MayWrite stages past (Adds from label to)
MayFollow stages ending past (SetDatum s d) = MayWrite stages past (Sets s d)
MayFollow stages ending past (CloseRow s label) = MayWrite stages past (Closes s label)
MayFollow stages ending past (Ask q) = MayAskInStage stages past q ⊎ (WroteAll stages past × Needs (WasTold past) ending q)
MayFollow stages ending past Advance = ⊥
MayFollow stages ending past Take = ⊥
MayFollow {P = P} stages ending past (End x) = WroteAll stages past × ((qs : List (Query P)) × Gives (WasTold past) ending x qs)

-- ---- where a unit stands

-- the unit follows a sound plan by this trace: it knows what it was told, has read so many stages, and gave what they give but for these writes
pub record FollowsPlan {I R D P : Type 0} (plan : Plan R D P) (reply : Query P → Option (Answer D)) (asked : Option (Query P)) (pending : List (Write D)) (n : ℕ) (ended : Bool) (past : Past I R D P) (last : Option (Op I R D P)) : Type 0 where
  pub sound : IsSound plan
  pub told : (q : Query P) (a : Answer D) → (Replied reply q a) ↔ (WasTold past q a)
  pub orderly : IsOrderly (MayFollow plan.stages plan.ending) past last
  pub asks : asked ≡ asked_last last
  pub over : ended ≡ is_end last
  pub all : List (Write D)
  pub given : AreGiven (WasTold past) (take n plan.stages) all
  pub wrote : (writes_in past ++ written_last last) ++ pending ≡ all
  pub going : (x : R) → Did past (End x) → ⊥

-- ---- how long it goes on

-- all queries that start in a graph of these scopes, with so many kinds and these predicates
abbrev pub all_queries : {P : Type 0} → List Scope → ℕ → List P → List (Query P)
all_queries scopes kinds preds =
    flat_map (λ s. flat_map (λ k. map (λ p. record { start = s; kind = k; pred = p }) preds) (range_with_len 0 kinds)) scopes

-- one where there is nothing
abbrev pub one_if_none : {A : Type 0} → Option A → ℕ
one_if_none None = 1
one_if_none (Some a) = 0

-- how many of the queries have no reply
abbrev pub unreplied : {Q A : Type 0} → (Q → Option A) → List Q → ℕ
unreplied reply [] = 0
unreplied reply (q ∷ qs) = one_if_none (reply q) + unreplied reply qs

-- how many more operations a follower gives at most: it asks each query once, and gives fewer than 2^64 writes at a stage
abbrev pub steps_left : {R D P : Type 0} → Plan R D P → (Query P → Option (Answer D)) → Option (Query P) → ℕ → ℕ → Bool → ℕ
steps_left plan reply asked pending n ended =
    2 * unreplied reply (all_queries plan.opening.graph.scopes (length plan.kinds) plan.preds) + (one_if_none asked + ((length plan.stages - n) * 2 ^ 64 + (pending + cond ended 0 1)))
