-- The states of a run follow each other.
use Rattle.std.proofs.Common.{◌≡◌, ℕ, ◌<◌, List, [], ◌∷◌, ◌++◌, Bool, true, false, IsTrue, ◌&&◌, eqb, cond, inl, refl, sym, ◌∙◌, subst, arith, length, ltb-true}
use Rattle.sg_base.specs.State.{State, Follows}
use Rattle.sg_base.proofs.Chaining.{follow}
use Rattle.sg_state.specs.Held.{state_of, IsHeld}
use Rattle.sg_state.specs.Opening.{IsOpening}
use Rattle.sg_state.specs.Write.Write.{fresh, add_edge, set_datum, close_row, end_unit}
use Rattle.sg_state.proofs.Extending.{writes_extend}
use Rattle.sg_unit.specs.declared.entry.Entry.{Entry}
use Rattle.sg_unit.specs.declared.op.Op.{Op}
use Rattle.sg_unit.specs.declared.op.Op.TheVariants.{Fresh, AddEdge, SetDatum, CloseRow, Ask, Advance, Take, End}
use Rattle.sg_unit.specs.Law.{StatesFollow}
use Rattle.sg_unit.specs.Operation.{goes_on}
use Rattle.sg_unit.specs.Run.{Setting, RunOf, units_of, opened, held_after, after, run_from, run_of}
use Rattle.sg_unit.specs.Step.{May, IsStep, IsRunFrom}
use Rattle.sg_unit.proofs.Writes.{fresh_held, made_long, edge_held, datum_held, close_held, end_held}

pub follows_self : {D : Type 0} (s : State D) → Follows s s
follows_self s = record {
  extends = record { scopes = λ s c. c; edges = λ s l t c. c; given = λ s d c. c; further_edges = λ s l t c. inl c; further_given = λ s d c. inl c };
  rows = λ s l o. inl o;
  data_at = λ s o. inl o;
}

-- what is known of every run
pub record IsSoundRun {D P : Type 0} (z : Setting D P) (r : RunOf D P) : Type 0 where
  pub held : IsHeld r.held
  pub units : length r.held.made ≡ units_of z
  pub below : (u : ℕ) → IsTrue (r.live u) → u < units_of z

pub opened_sound : {D P : Type 0} (z : Setting D P) → IsOpening z.opening → IsSoundRun z (opened z)
opened_sound z ok = record { held = ok.held; units = refl; below = λ u l. ltb-true u (units_of z) l }

pub in_run : {D P : Type 0} (z : Setting D P) (r : RunOf D P) → IsSoundRun z r → (u : ℕ) → IsTrue (r.live u) → u < length r.held.made
in_run z r ok u live = let b = ok.below u live in omega (arith, b, ok.units)

module _ {I R D P : Type 0} (z : Setting D P) where
  pub op_follows : (r : RunOf D P) → IsSoundRun z r → (u : ℕ) (op : Op I R D P) → May z r u op → Follows (state_of r.held) (state_of (held_after r.held u op))
  op_follows r ok u (Fresh labels datum) m = writes_extend D r.held (fresh u labels datum ∷ []) ok.held (in_run z r ok u m.0, tt)
  op_follows r ok u (AddEdge from label to) m = writes_extend D r.held (add_edge u from label to ∷ []) ok.held (((m.1).1, (m.1).2), tt)
  op_follows r ok u (SetDatum s d) m = writes_extend D r.held (set_datum u s d ∷ []) ok.held ((m.1).1, tt)
  op_follows r ok u (CloseRow s l) m = writes_extend D r.held (close_row u s l ∷ []) ok.held ((m.1).1, tt)
  op_follows r ok u (Ask q) m = follows_self (state_of r.held)
  op_follows r ok u Advance m = follows_self (state_of r.held)
  op_follows r ok u Take m = follows_self (state_of r.held)
  op_follows r ok u (End x) m = writes_extend D r.held (end_unit u ∷ []) ok.held (tt, tt)

  pub op_held : (r : RunOf D P) → IsSoundRun z r → (u : ℕ) (op : Op I R D P) → May z r u op → IsHeld (held_after r.held u op) × (length (held_after r.held u op).made ≡ length r.held.made)
  op_held r ok u (Fresh labels datum) m = (fresh_held r.held u labels datum ok.held (in_run z r ok u m.0), made_long r.held u labels datum)
  op_held r ok u (AddEdge from label to) m = (edge_held r.held ok.held u (record { from = from; label = label; to = to }) (m.1).1 (m.1).2, refl)
  op_held r ok u (SetDatum s d) m = (datum_held r.held ok.held u s d (m.1).1, refl)
  op_held r ok u (CloseRow s l) m = (close_held r.held ok.held u s l, refl)
  op_held r ok u (Ask q) m = (ok.held, refl)
  op_held r ok u Advance m = (ok.held, refl)
  op_held r ok u Take m = (ok.held, refl)
  op_held r ok u (End x) m = (end_held r.held ok.held u, refl)

  -- a unit that is live after an entry was live before it
  pub was_live : (r : RunOf D P) (e : Entry I R D P) (u : ℕ) → IsTrue ((after r e).live u) → IsTrue (r.live u)
  was_live r e u l = both (eqb e.unit u) (r.live u) (goes_on e.op) l
    where
      both : (b c d : Bool) → IsTrue (cond b (c && d) c) → IsTrue c
      both true true d l = refl
      both true false d l = l
      both false c d l = l

  pub step_sound : (r : RunOf D P) → IsSoundRun z r → (e : Entry I R D P) → IsStep z r e → IsSoundRun z (after r e)
  step_sound r ok e s =
      let k = op_held r ok e.unit e.op s.may in
      record { held = k.0; units = k.1 ∙ ok.units; below = λ u l. ok.below u (was_live r e u l) }

  pub run_follows : (r : RunOf D P) → IsSoundRun z r → (es : List (Entry I R D P)) → IsRunFrom z r es → Follows (state_of r.held) (state_of (run_from r es).held)
  run_follows r ok [] s = follows_self (state_of r.held)
  run_follows r ok (e ∷ es) s =
      follow D (state_of r.held) (state_of (after r e).held) (state_of (run_from (after r e) es).held)
      (op_follows r ok e.unit e.op (s.0).may)
      (run_follows (after r e) (step_sound r ok e s.0) es s.1)

  pub run_sound : (r : RunOf D P) → IsSoundRun z r → (es : List (Entry I R D P)) → IsRunFrom z r es → IsSoundRun z (run_from r es)
  run_sound r ok [] s = ok
  run_sound r ok (e ∷ es) s = run_sound (after r e) (step_sound r ok e s.0) es s.1

  pub front_run : (r : RunOf D P) (log more : List (Entry I R D P)) → IsRunFrom z r (log ++ more) → IsRunFrom z r log × IsRunFrom z (run_from r log) more
  front_run r [] more s = (tt, s)
  front_run r (e ∷ log) more s = let k = front_run (after r e) log more s.1 in ((s.0, k.0), k.1)

pub run_append : {I R D P : Type 0} (r : RunOf D P) (log more : List (Entry I R D P)) → run_from r (log ++ more) ≡ run_from (run_from r log) more
run_append r [] more = refl
run_append r (e ∷ log) more = run_append (after r e) log more

pub states_follow : (I R D P : Type 0) → StatesFollow I R D P
states_follow I R D P z log more ok run =
    let parts = front_run z (opened z) log more run in
    let start = opened_sound z ok in
    subst (λ (x : RunOf D P). Follows (state_of (run_of z log).held) (state_of x.held)) (sym (run_append (opened z) log more))
    (run_follows z (run_of z log) (run_sound z (opened z) start log parts.0) more parts.1)
