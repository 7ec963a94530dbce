-- Runs, own entries and traces grow by one entry.
use Rattle.std.proofs.Common.{◌≡◌, ℕ, List, [], ◌∷◌, ◌++◌, true, false, cond, eqb, inl, inr, refl, sym, ap, subst}
use Rattle.std.proofs.lemmas.Bool.{cases_Bool}
use Rattle.sg_unit.specs.declared.entry.Entry.{Entry}
use Rattle.sg_unit.specs.Law.{RunsGrow, RunsHold, OwnRunsGrow, TracesGrow}
use Rattle.sg_unit.specs.Own.{own, KnowsScope, IsOwnStep, IsOwnRunFrom}
use Rattle.sg_unit.specs.Run.{Setting, RunOf, opened, after, run_from, run_of}
use Rattle.sg_unit.specs.Step.{IsStep, IsRunFrom}
use Rattle.sg_unit.specs.Trace.{Trace, told_after, told_from, untold}
use Rattle.sg_unit.proofs.Steps.{run_append}
use Rattle.sg_unit.proofs.Telling.{meets_alike, within_self}

module _ {I R D P : Type 0} (z : Setting D P) where
  run_push : (r : RunOf D P) (log : List (Entry I R D P)) (e : Entry I R D P) → IsRunFrom z r log → IsStep z (run_from r log) e → IsRunFrom z r (log ++ e ∷ [])
  run_push r [] e run s = (s, tt)
  run_push r (x ∷ log) e run s = (run.0, run_push (after r x) log e run.1 s)

  own_push : (u : ℕ) (r : RunOf D P) (mine : List (Entry I R D P)) (e : Entry I R D P) → IsOwnRunFrom z u r mine → IsOwnStep z u (run_from r mine) e → IsOwnRunFrom z u r (mine ++ e ∷ [])
  own_push u r [] e run s = (s, tt)
  own_push u r (x ∷ mine) e run s = (run.0, own_push u (after r x) mine e run.1 s)

told_push : {I R D P : Type 0} (t : Trace I R D P) (mine : List (Entry I R D P)) (e : Entry I R D P) → told_from t (mine ++ e ∷ []) ≡ told_after (told_from t mine) e.op e.reply
told_push t [] e = refl
told_push t (x ∷ mine) e = told_push (told_after t x.op x.reply) mine e

pub runs_grow : (I R D P : Type 0) → RunsGrow I R D P
runs_grow I R D P z log e run s = run_push z (opened z) log e run s

pub runs_hold : (I R D P : Type 0) → RunsHold I R D P
runs_hold I R D P z log e = run_append (opened z) log (e ∷ [])

pub own_runs_grow : (I R D P : Type 0) → OwnRunsGrow I R D P
own_runs_grow I R D P z mine u op y run may replied =
    own_push z u (opened z) mine (record { unit = u; op = op; reply = y }) run (record {
      unit = refl;
      live = may.0;
      meets = meets_alike u z (run_of z mine) (run_of z mine) (within_self u (run_of z mine)).alike (KnowsScope z mine) (λ s. Unit {0}) op (λ s i h. tt) may.1;
      replies = replied;
    })

pub traces_grow : (I R D P : Type 0) → TracesGrow I R D P
traces_grow I R D P mine e = told_push untold mine e

-- ---- a unit's own entries in a log that grows

pub own_grows : {I R D P : Type 0} (u : ℕ) (log : List (Entry I R D P)) (e : Entry I R D P) → eqb e.unit u ≡ true → own u (log ++ e ∷ []) ≡ own u log ++ e ∷ []
own_grows u [] e b = subst (λ c. cond c (e ∷ []) [] ≡ e ∷ []) (sym b) refl
own_grows u (x ∷ log) e b =
    elim (cases_Bool (eqb x.unit u)) [
      | inl c ↦ subst (λ d. cond d (x ∷ own u (log ++ e ∷ [])) (own u (log ++ e ∷ [])) ≡ cond d (x ∷ own u log) (own u log) ++ e ∷ []) (sym c) (ap (λ es. x ∷ es) (own_grows u log e b))
      | inr c ↦ subst (λ d. cond d (x ∷ own u (log ++ e ∷ [])) (own u (log ++ e ∷ [])) ≡ cond d (x ∷ own u log) (own u log) ++ e ∷ []) (sym c) (own_grows u log e b)
    ]

pub own_stays : {I R D P : Type 0} (u : ℕ) (log : List (Entry I R D P)) (e : Entry I R D P) → eqb e.unit u ≡ false → own u (log ++ e ∷ []) ≡ own u log
own_stays u [] e b = subst (λ c. cond c (e ∷ []) [] ≡ []) (sym b) refl
own_stays u (x ∷ log) e b =
    elim (cases_Bool (eqb x.unit u)) [
      | inl c ↦ subst (λ d. cond d (x ∷ own u (log ++ e ∷ [])) (own u (log ++ e ∷ [])) ≡ cond d (x ∷ own u log) (own u log)) (sym c) (ap (λ es. x ∷ es) (own_stays u log e b))
      | inr c ↦ subst (λ d. cond d (x ∷ own u (log ++ e ∷ [])) (own u (log ++ e ∷ [])) ≡ cond d (x ∷ own u log) (own u log)) (sym c) (own_stays u log e b)
    ]
