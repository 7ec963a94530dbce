-- The laws, from the lemmas.
use Rattle.std.proofs.Common.{◌≡◌, List, [], ◌∷◌, ◌++◌, inl, inr, refl, sym, ap, ◌∙◌, subst, append_assoc}
use Rattle.std.proofs.lemmas.List.{append-nil}
use Rattle.sg_query.specs.declared.answer.Answer.{Answer}
use Rattle.sg_query.specs.declared.query.Query.{Query}
use Rattle.sg_query.specs.Answer.{IsAnswer}
use Rattle.sg_query.proofs.Settling.{settled_stay_settled}
use Rattle.sg_state.specs.Held.{state_of}
use Rattle.sg_state.specs.Opening.{IsOpening}
use Rattle.sg_unit.specs.declared.entry.Entry.{Entry}
use Rattle.sg_unit.specs.declared.op.Op.{Op}
use Rattle.sg_unit.specs.Trace.{Past}
use Rattle.sg_unit.specs.Run.{Setting, asked_by, run_of}
use Rattle.sg_unit.specs.Step.{IsRun}
use Rattle.sg_unit.proofs.Pasts.{none_is_orderly, call_keeps_orderly}
use Rattle.sg_trace.specs.Law.{TracesTellAsks, EntriesFollowTraces, WritesAreEntries, ToldAnswersStand, EdgesAreAdded, HoldsWereHeld, RowsAreGivenUp, GivenUpStays, NewUnitsAreOrderly, CallsKeepOrderly}
use Rattle.sg_trace.specs.Tells.{WasSettled}
use Rattle.sg_trace.proofs.Fronts.{front_is_run, front_follows, asked_run}
use Rattle.sg_trace.proofs.Holding.{held_before, datum_held_before, scope_before, edge_origin, added_edge, given_up, closed_stays, set_stays}
use Rattle.sg_trace.proofs.Traces.{trace_tells, gave_here, told_settled, did_entry}

module _ {I R D P : Type 0} where
  -- a list and nothing behind
  pub whole : (log : List (Entry I R D P)) → log ≡ log ++ []
  whole log = sym (append-nil log)

  -- a list in two parts, with nothing behind
  parts : (front more : List (Entry I R D P)) → front ++ more ≡ front ++ (more ++ [])
  parts front more = ap (λ (l : List (Entry I R D P)). front ++ l) (sym (append-nil more))

  -- what was settled with an answer by some entries has it in each later graph
  pub settled_stands : (z : Setting D P) → IsOpening z.opening → (front rest : List (Entry I R D P)) → IsRun z (front ++ rest) → (q : Query P) (a : Answer D) → WasSettled z front q a → IsAnswer (run_of z (front ++ rest)).held.graph (asked_by z q) a
  settled_stands z ok front rest run q a w =
      let all : front ++ rest ≡ w.before ++ (w.behind ++ rest) = ap (λ (l : List (Entry I R D P)). l ++ rest) w.split ∙ append_assoc w.before w.behind rest in
      let whole : IsRun z (w.before ++ (w.behind ++ rest)) = subst (λ (l : List (Entry I R D P)). IsRun z l) all run in
      let ran : IsRun z w.before = front_is_run z ok w.before (w.behind ++ rest) whole in
      let follows = front_follows z ok w.before (w.behind ++ rest) whole in
      let stays = settled_stay_settled D (state_of (run_of z w.before).held) (state_of (run_of z (w.before ++ (w.behind ++ rest))).held) (asked_by z q) (((asked_run z ok w.before ran).sound).held).graph w.start follows w.settled in
      subst (λ (l : List (Entry I R D P)). IsAnswer (run_of z l).held.graph (asked_by z q) a) (sym all) ((stays.1 a).1 w.answer)

pub traces_tell_asks : (I R D P : Type 0) → TracesTellAsks I R D P
traces_tell_asks I R D P z log u run = trace_tells z u log run

pub entries_follow_traces : (I R D P : Type 0) → EntriesFollowTraces I R D P
entries_follow_traces I R D P z front e rest ok run given = gave_here z ok (front ++ e ∷ rest) run e.unit front e rest refl refl given

pub writes_are_entries : (I R D P : Type 0) → WritesAreEntries I R D P
writes_are_entries I R D P z log u op ok run written did = did_entry z ok log run u log [] (whole log) op did.0 written did.1

pub told_answers_stand : (I R D P : Type 0) → ToldAnswersStand I R D P
told_answers_stand I R D P z log more u q a ok run was =
    let w = told_settled z ok (log ++ more) run u log more refl q a was in (w, settled_stands z ok log more run q a w)

pub edges_are_added : (I R D P : Type 0) → EdgesAreAdded I R D P
edges_are_added I R D P z log s l t ok run = (
  (λ e. edge_origin z ok log run log [] (whole log) s l t e),
  (λ e. elim e [
    | inl o ↦ (front_follows z ok [] log run).extends.edges s l t o
    | inr a ↦ added_edge z ok log run a.0 log [] (whole log) s l t a.1
  ]),
)

pub holds_were_held : (I R D P : Type 0) → HoldsWereHeld I R D P
holds_were_held I R D P z log more ok run none =
    let same = parts log more in (
      (λ s. scope_before z ok (log ++ more) run none log more [] same s),
      (λ u s l. held_before z ok (log ++ more) run none log more [] same u s l),
      (λ u s. datum_held_before z ok (log ++ more) run none log more [] same u s),
    )

pub rows_are_given_up : (I R D P : Type 0) → RowsAreGivenUp I R D P
rows_are_given_up I R D P z log u s l ok run start = given_up z ok log run log [] (whole log) u s l start

pub given_up_stays : (I R D P : Type 0) → GivenUpStays I R D P
given_up_stays I R D P z log u s ok run none = (
  (λ l a h. closed_stays z ok log run none u log [] (whole log) s l a h),
  (λ d a h. set_stays z ok log run none u log [] (whole log) s d a h),
)

pub new_units_are_orderly : {I R D P : Type 0} (May : Past I R D P → Op I R D P → Type 0) → NewUnitsAreOrderly May
new_units_are_orderly May = none_is_orderly May

pub calls_keep_orderly : {I R D P : Type 0} (May : Past I R D P → Op I R D P → Type 0) → CallsKeepOrderly May
calls_keep_orderly May z u past given last op old h may = call_keeps_orderly May z u past given last op old h may
