-- Which unit steps when: choices and least units, one entry after another.
use Rattle.std.proofs.Common.{◌≡◌, ℕ, List, [], ◌∷◌, ◌++◌, Bool, inl, inr, refl, sym, ap, ◌∙◌, subst, append_assoc}
use Rattle.std.proofs.lemmas.List.{append-nil}
use Rattle.sg_query.specs.Query.{KindOf}
use Rattle.sg_state.specs.Held.{HeldOf}
use Rattle.sg_unit.specs.declared.entry.Entry.{Entry}
use Rattle.sg_unit.specs.Run.{RunOf, opened, after, run_from}
use Rattle.sg_unit.specs.Unit.{setting_of}
use Rattle.sg_unit.proofs.Steps.{run_append}
use Rattle.sg_core.specs.Core.{CoreOf, IsRunnable, IsLeastRunnable, setting, run}
use Rattle.sg_serial.specs.Serial.{GoesOnFrom, AreChosen, AreLeastFirst, IsServedBy, AddsEntryOf, StepsIfRunnable, AddsLeastFirst}

-- ---- entries

-- one more choice, whose unit runs
chosen_runs : {I R D P : Type 0} (r : RunOf D P) (us : List ℕ) (u : ℕ) (log : List (Entry I R D P)) (e : Entry I R D P) → AreChosen r us log → IsRunnable (run_from r log) u → e.unit ≡ u → AreChosen r (us ++ u ∷ []) (log ++ e ∷ [])
chosen_runs {I} {R} {D} {P} r [] u log e chosen runs at =
    inl (subst (λ (l : List (Entry I R D P)). IsRunnable (run_from r l) u) chosen runs, (e, [], ap (λ (l : List (Entry I R D P)). l ++ e ∷ []) chosen, at, refl))
chosen_runs {I} {R} {D} {P} r (v ∷ us) u log e chosen runs at =
    elim chosen [
      | inl k ↦
          let runs_there = subst (λ (l : List (Entry I R D P)). IsRunnable (run_from r l) u) (k.1).2 runs in
          inl (k.0, ((k.1).0, (k.1).1 ++ e ∷ [], ap (λ (l : List (Entry I R D P)). l ++ e ∷ []) (k.1).2, (k.1).3, chosen_runs (after r (k.1).0) us u (k.1).1 e (k.1).4 runs_there at))
      | inr k ↦ inr (k.0, chosen_runs r us u log e k.1 runs at)
    ]

-- one more choice, which is passed by
chosen_passes : {I R D P : Type 0} (r : RunOf D P) (us : List ℕ) (u : ℕ) (log : List (Entry I R D P)) → AreChosen r us log → (IsRunnable (run_from r log) u → ⊥) → AreChosen r (us ++ u ∷ []) log
chosen_passes {I} {R} {D} {P} r [] u log chosen stays =
    inr ((λ runs. stays (subst (λ (l : List (Entry I R D P)). IsRunnable (run_from r l) u) (sym chosen) runs)), chosen)
chosen_passes {I} {R} {D} {P} r (v ∷ us) u log chosen stays =
    elim chosen [
      | inl k ↦
          inl (
            k.0,
            (
              (k.1).0,
              (k.1).1,
              (k.1).2,
              (k.1).3,
              chosen_passes (after r (k.1).0) us u (k.1).1 (k.1).4
                  (λ runs. stays (subst (λ (l : List (Entry I R D P)). IsRunnable (run_from r l) u) (sym (k.1).2) runs)),
            ),
          )
      | inr k ↦ inr (k.0, chosen_passes r us u log k.1 stays)
    ]

-- entries of least units, and more of them
least_append : {I R D P : Type 0} (r : RunOf D P) (log more : List (Entry I R D P)) → AreLeastFirst r log → AreLeastFirst (run_from r log) more → AreLeastFirst r (log ++ more)
least_append r [] more first later = later
least_append r (e ∷ log) more first later = (first.0, least_append (after r e) log more first.1 later)

-- the entries of the choices and of least units, and more of least units
served_append : {I R D P : Type 0} (r : RunOf D P) (order : List ℕ) (log more : List (Entry I R D P)) → IsServedBy r order log → AreLeastFirst (run_from r log) more → IsServedBy r order (log ++ more)
served_append {I} {R} {D} {P} r order log more served later =
    let there : run_from r log ≡ run_from (run_from r served.0) served.1 = ap (λ (l : List (Entry I R D P)). run_from r l) served.2 ∙ run_append r served.0 served.1 in (
      served.0,
      served.1 ++ more,
      ap (λ (l : List (Entry I R D P)). l ++ more) served.2 ∙ append_assoc served.0 served.1 more,
      served.3,
      least_append (run_from r served.0) served.1 more served.4 (subst (λ (x : RunOf D P). AreLeastFirst x more) there later),
    )

-- ---- cores

module _ {I R D P : Type 0} (wants : P → D → Bool) (same : D → D → Bool) where
  -- what a core holds that went on from another, by what its log gained
  run_more : (c d : CoreOf I R D P) (more : List (Entry I R D P)) → GoesOnFrom c d → d.log ≡ c.log ++ more → run wants same d ≡ run_from (run wants same c) more
  run_more c d more goes gained =
      ap (λ (o : HeldOf D). run_from (opened (setting_of wants same o d.kinds)) d.log) goes.0
      ∙ ap (λ (ks : List KindOf). run_from (opened (setting_of wants same c.opening ks)) d.log) goes.1
      ∙ ap (λ (l : List (Entry I R D P)). run_from (opened (setting wants same c)) l) gained
      ∙ run_append (opened (setting wants same c)) c.log more

  -- the same from a core whose log is empty
  run_whole : (c d : CoreOf I R D P) → c.log ≡ [] → GoesOnFrom c d → run wants same d ≡ run_from (run wants same c) d.log
  run_whole c d empty goes = run_more c d d.log goes (ap (λ (l : List (Entry I R D P)). l ++ d.log) (sym empty))

  pub adds_one : (c d : CoreOf I R D P) (u : ℕ) → AddsEntryOf c d u → IsLeastRunnable (run wants same c) u → AddsLeastFirst wants same c d
  adds_one c d u adds least = (adds.0 ∷ [], adds.1, (subst (λ (n : ℕ). IsLeastRunnable (run wants same c) n) (sym adds.2) least, tt))

  pub adds_none : (c : CoreOf I R D P) → AddsLeastFirst wants same c c
  adds_none c = ([], sym (append-nil c.log), tt)

  pub adds_more : (c d e : CoreOf I R D P) → GoesOnFrom c d → AddsLeastFirst wants same c d → AddsLeastFirst wants same d e → AddsLeastFirst wants same c e
  adds_more c d e goes first later = (
    first.0 ++ later.0,
    later.1 ∙ ap (λ (l : List (Entry I R D P)). l ++ later.0) first.1 ∙ append_assoc c.log first.0 later.0,
    least_append (run wants same c) first.0 later.0 first.2 (subst (λ (x : RunOf D P). AreLeastFirst x later.0) (run_more c d first.0 goes first.1) later.2),
  )

  -- the same core still
  pub adds_same : (c d e : CoreOf I R D P) → AddsLeastFirst wants same c d → e ≡ d → AddsLeastFirst wants same c e
  adds_same c d e adds is = subst (λ (x : CoreOf I R D P). AddsLeastFirst wants same c x) (sym is) adds

  pub least_same : (c d : CoreOf I R D P) (u : ℕ) → IsLeastRunnable (run wants same c) u → d ≡ c → IsLeastRunnable (run wants same d) u
  least_same c d u least is = subst (λ (x : CoreOf I R D P). IsLeastRunnable (run wants same x) u) (sym is) least

  pub chosen_more : (c d e : CoreOf I R D P) (us : List ℕ) (u : ℕ) → c.log ≡ [] → GoesOnFrom c d → AreChosen (run wants same c) us d.log → StepsIfRunnable wants same d e u → AreChosen (run wants same c) (us ++ u ∷ []) e.log
  chosen_more c d e us u empty goes chosen steps =
      let there : run wants same d ≡ run_from (run wants same c) d.log = run_whole c d empty goes in
      elim steps [
        | inl k ↦
            subst (λ (l : List (Entry I R D P)). AreChosen (run wants same c) (us ++ u ∷ []) l) (sym (k.1).1)
            (chosen_runs (run wants same c) us u d.log (k.1).0 chosen (subst (λ (x : RunOf D P). IsRunnable x u) there k.0) (k.1).2)
        | inr k ↦
            subst (λ (l : List (Entry I R D P)). AreChosen (run wants same c) (us ++ u ∷ []) l) (sym k.1)
            (chosen_passes (run wants same c) us u d.log chosen (λ runs. k.0 (subst (λ (x : RunOf D P). IsRunnable x u) (sym there) runs)))
      ]

  pub served_chosen : (r : RunOf D P) (order : List ℕ) (log : List (Entry I R D P)) → AreChosen r order log → IsServedBy r order log
  served_chosen r order log chosen = (log, [], sym (append-nil log), chosen, tt)

  pub served_more : (c d e : CoreOf I R D P) (order : List ℕ) → c.log ≡ [] → GoesOnFrom c d → IsServedBy (run wants same c) order d.log → AddsLeastFirst wants same d e → IsServedBy (run wants same c) order e.log
  served_more c d e order empty goes served later =
      subst (λ (l : List (Entry I R D P)). IsServedBy (run wants same c) order l) (sym later.1)
      (served_append (run wants same c) order d.log later.0 served (subst (λ (x : RunOf D P). AreLeastFirst x later.0) (run_whole c d empty goes) later.2))
