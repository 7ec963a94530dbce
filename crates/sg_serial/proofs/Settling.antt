-- Asks come to an end, and a run in which no unit can go on is over.
use Rattle.std.proofs.Common.{◌≡◌, ◌≢◌, ℕ, zero, suc, ◌<◌, [], ◌∷◌, ◌++◌, ◌⊎◌, Bool, true, false, IsTrue, eqb, inl, inr, refl, sym, ap, ◌∙◌, subst, arith, length, Option, Some, None, MatchOption}
use Rattle.std.proofs.lemmas.Bool.{cases_Bool}
use Rattle.std.proofs.lemmas.Bool.Decides.{nat_tests}
use Rattle.sg_unit.specs.declared.entry.Entry.{Entry}
use Rattle.sg_unit.specs.declared.op.Op.{Op}
use Rattle.sg_unit.specs.declared.op.Op.TheVariants.{Advance, Take}
use Rattle.sg_unit.specs.declared.reply.Reply.{Reply}
use Rattle.sg_unit.specs.Bound.{weight}
use Rattle.sg_unit.specs.Run.{Setting, RunOf, opened, run_of, after}
use Rattle.sg_unit.proofs.Falling.{asks_fall}
use Rattle.sg_unit.proofs.Growing.{runs_hold}
use Rattle.sg_unit.proofs.Steps.{run_sound, opened_sound}
use Rattle.sg_unit.proofs.Writes.{is_num, num_is}
use Rattle.sg_core.specs.declared.phase.Phase.TheVariants.{Ended, Stuck}
use Rattle.sg_core.specs.Core.{CoreOf, IsCore, IsRunnable, IsPhase, Applies, entry, setting, run}
use Rattle.sg_serial.specs.Serial.{GoesOnFrom, total, asks_left}

total_same : {D P : Type 0} (z : Setting D P) (r t : RunOf D P) (n : ℕ) → ((v : ℕ) → v < n → weight z t v ≡ weight z r v) → total z t n ≡ total z r n
total_same z r t zero h = refl
total_same z r t (suc n) h =
    let a : total z t n ≡ total z r n = total_same z r t n (λ v b. h v (omega (arith, b))) in
    let b : weight z t n ≡ weight z r n = h n (omega arith) in
    omega (arith, a, b)

strictly : (u n : ℕ) → u < suc n → eqb n u ≡ false → u < n
strictly u n lt e = grind (arith, nat_tests)

total_falls : {D P : Type 0} (z : Setting D P) (r t : RunOf D P) (u n : ℕ) → u < n → weight z t u < weight z r u → ((v : ℕ) → v ≢ u → weight z t v ≡ weight z r v) → total z t n < total z r n
total_falls z r t u zero lt f same = absurd (omega (arith, lt))
total_falls z r t u (suc n) lt f same =
    elim (cases_Bool (eqb n u)) [
      | inl e ↦
          let at : n ≡ u = is_num n u e in
          let a : total z t n ≡ total z r n = total_same z r t n (λ v b. same v (λ k. let x : v ≡ u = k in absurd (omega (arith, b, at, x)))) in
          let b : weight z t n < weight z r n = subst (λ (x : ℕ). weight z t x < weight z r x) (sym at) f in
          omega (arith, a, b)
      | inr e ↦
          let apart : n ≢ u = (λ k. let x : eqb u u ≡ false = subst (λ (y : ℕ). eqb y u ≡ false) k e in let y : true ≡ false = sym (num_is u) ∙ x in cc) in
          let b : weight z t n ≡ weight z r n = same n apart in
          let a : total z t n < total z r n = total_falls z r t u n (strictly u n lt e) f same in
          omega (arith, a, b)
    ]

-- some unit below a number is live, or none
live_below : {D P : Type 0} (r : RunOf D P) (n : ℕ) → ((u : ℕ) × IsTrue (r.live u)) ⊎ ((u : ℕ) → u < n → IsTrue (r.live u) → ⊥)
live_below r zero = inr (λ u l k. absurd (omega (arith, l)))
live_below r (suc n) =
    elim (cases_Bool (r.live n)) [
      | inl b ↦ inl (n, b)
      | inr b ↦ elim (live_below r n) [
        | inl k ↦ inl k
        | inr none ↦ inr (λ u l k. elim (cases_Bool (eqb n u)) [
          | inl e ↦ absurd (let t = subst (λ (x : ℕ). r.live x ≡ true) (sym (is_num n u e)) k in let f = sym b ∙ t in cc)
          | inr e ↦ none u (strictly u n l e) k
        ])
      ]
    ]

module _ {I R D P : Type 0} (wants : P → D → Bool) (same : D → D → Bool) where
  -- a unit that runs is one of the core's
  pub within : (c : CoreOf I R D P) (u : ℕ) → IsCore wants same c → IsRunnable (run wants same c) u → u < length c.opening.made
  within c u core runs = (run_sound (setting wants same c) (opened (setting wants same c)) (opened_sound (setting wants same c) core.opens) c.log core.runs).below u runs.0

  pub push_falls : (c d : CoreOf I R D P) (u : ℕ) (op : Op I R D P) (y : Reply I D P) → IsCore wants same c → IsRunnable (run wants same c) u → Applies wants same c d u op y → (op ≡ Advance) ⊎ (op ≡ Take) → asks_left wants same d < asks_left wants same c
  push_falls c d u op y core runs applied push =
      let z : Setting D P = setting wants same c in
      let r : RunOf D P = run wants same c in
      let e : Entry I R D P = entry u op y in
      let f = asks_fall I R D P z c.log u op y core.opens core.runs applied.1 runs.1 push in
      let h : total z (after r e) (length c.opening.made) < total z r (length c.opening.made) = total_falls z r (after r e) u (length c.opening.made) (within c u core runs) f.0 f.1 in
      let later : run_of z (c.log ++ e ∷ []) ≡ after r e = runs_hold I R D P z c.log e in
      subst (λ (x : CoreOf I R D P). asks_left wants same x < asks_left wants same c) (sym applied.0)
      (subst (λ (x : RunOf D P). total z x (length c.opening.made) < total z r (length c.opening.made)) (sym later) h)

  pub goes_on : (c d : CoreOf I R D P) (u : ℕ) (op : Op I R D P) (y : Reply I D P) → Applies wants same c d u op y → GoesOnFrom c d
  goes_on c d u op y applied = (ap (λ (x : CoreOf I R D P). x.opening) applied.0, ap (λ (x : CoreOf I R D P). x.kinds) applied.0)

  pub from_there : (c d e : CoreOf I R D P) → GoesOnFrom c d → GoesOnFrom d e → GoesOnFrom c e
  from_there c d e a b = (b.0 ∙ a.0, b.1 ∙ a.1)

  pub over : (c : CoreOf I R D P) → IsCore wants same c → ((u : ℕ) → IsRunnable (run wants same c) u → ⊥) → IsPhase (run wants same c) Ended ⊎ IsPhase (run wants same c) Stuck
  over c core none =
      let below = (run_sound (setting wants same c) (opened (setting wants same c)) (opened_sound (setting wants same c) core.opens) c.log core.runs).below in
      elim (live_below (run wants same c) (length c.opening.made)) [
        | inl k ↦ inr (k, (λ u l. elim (cases_Bool ((run wants same c).waits u)) [ inl w ↦ w | inr w ↦ absurd (none u (l, w)) ]))
        | inr out ↦ inl (λ u l. out u (below u l) l)
      ]

pub none_left : (A : Type 0) (B : ℕ → Type 0) (o : Option ℕ) → MatchOption o A B → ((x : ℕ) → o ≡ Some x → ⊥) → A
none_left A B None m n = m
none_left A B (Some x) m n = absurd (n x refl)

pub some_left : (A : Type 0) (B : ℕ → Type 0) (o : Option ℕ) (x : ℕ) → MatchOption o A B → o ≡ Some x → B x
some_left A B o x m is = subst (λ (p : Option ℕ). MatchOption p A B) is m
