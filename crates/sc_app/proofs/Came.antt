-- What the units of a run came to.
use Rattle.std.proofs.Common.{◌≡◌, Result, Ok, Err, OnOk, ℕ, ◌+◌, ◌<◌, length, ◌==◌, ◌&&◌, List, [], ◌∷◌, ◌++◌, Bool, true, false, true≢false, cond, IsTrue, ◌⊎◌, inl, inr, refl, sym, ap, ◌∙◌, subst, arith}
use Rattle.std.specs.List.{Contains}
use Rattle.std.proofs.lemmas.Bool.{cases_lt, ltb-true}
use Rattle.std.proofs.lemmas.Bool.Decides.{eqb_tells}
use Rattle.std.proofs.lemmas.List.Elements.{Contains-append_left, Contains-append_right, Contains-append_cases}
use Rattle.sg_base.proofs.Finite.{nothing_in, single}
use Rattle.sg_core.specs.Core.{EndedWith, IsCore, entry, setting}
use Rattle.sg_unit.specs.declared.entry.Entry.{Entry}
use Rattle.sg_unit.specs.declared.op.Op.{Op}
use Rattle.sg_unit.specs.declared.op.Op.TheVariants.{Fresh, AddEdge, SetDatum, CloseRow, Ask, Advance, Take, End}
use Rattle.sg_unit.specs.declared.reply.Reply.{Reply}
use Rattle.sg_unit.specs.Operation.{goes_on}
use Rattle.sg_unit.specs.Run.{Setting, RunOf, opened, after}
use Rattle.sg_unit.specs.Step.{IsRunFrom}
use Rattle.jv_diag.specs.Plain.{DiagOf}
use Rattle.jv_instance.specs.Data.{is_wanted}
use Rattle.sc_app.specs.FolderRun.{JavaCore, same_datum}
use Rattle.sc_app.specs.Results.{CameTo, CameToBelow}

-- ---- a unit ends once

dead_stays : (b l g : Bool) → l ≡ false → cond b (l && g) l ≡ false
dead_stays true l g e = ap (λ (x : Bool). x && g) e
dead_stays false l g e = e

was_live : (b l g : Bool) → IsTrue (cond b (l && g) l) → IsTrue l
was_live true true g h = refl
was_live true false g h = h
was_live false l g h = h

dies : (b l : Bool) → b ≡ true → cond b (l && false) l ≡ false
dies true true e = refl
dies true false e = refl
dies false l e = absurd (true≢false (sym e))

-- the outcome of an end
abbrev outcome_or : {I R D P : Type 0} → R → Op I R D P → R
outcome_or x (Fresh labels datum) = x
outcome_or x (AddEdge from label to) = x
outcome_or x (SetDatum s d) = x
outcome_or x (CloseRow s label) = x
outcome_or x (Ask q) = x
outcome_or x Advance = x
outcome_or x Take = x
outcome_or x (End y) = y

eqb-self : (n : ℕ) → (n == n) ≡ true
eqb-self n = elim (eqb_tells n n) [ inl same ↦ same.0 | inr other ↦ absurd (other.1 refl) ]

module _ {I R D P : Type 0} (z : Setting D P) where
  in_two : (k : Entry I R D P) (ks : List (Entry I R D P)) (w : Entry I R D P) → Contains (k ∷ ks) w → (w ≡ k) ⊎ Contains ks w
  in_two k ks w c = elim (Contains-append_cases (k ∷ []) ks w c) [ inl here ↦ inl (single k w here) | inr there ↦ inr there ]

  -- who is not live does not end
  not_again : (r : RunOf D P) (u : ℕ) (es : List (Entry I R D P)) → IsRunFrom z r es → r.live u ≡ false → (x : R) → EndedWith es u x → ⊥
  not_again r u [] run dead x (y, c) = nothing_in (entry u (End x) y) c
  not_again r u (e ∷ es) run dead x (y, c) =
      elim (in_two e es (entry u (End x) y) c) [
        | inl same ↦ absurd (true≢false (sym run.0.may.0 ∙ (sym (ap (λ (k : Entry I R D P). r.live k.unit) same) ∙ dead)))
        | inr later ↦ not_again (after r e) u es run.1 (dead_stays (e.unit == u) (r.live u) (goes_on e.op) dead) x (y, later)
      ]

  -- an end is the last of its unit
  dead_after : (r : RunOf D P) (u : ℕ) (e : Entry I R D P) (x : R) (y : Reply I D P) → entry u (End x) y ≡ e → (after r e).live u ≡ false
  dead_after r u e x y same = subst (λ (k : Entry I R D P). (after r k).live u ≡ false) same (dies (u == u) (r.live u) (eqb-self u))

  once_from : (r : RunOf D P) (u : ℕ) (es : List (Entry I R D P)) → IsRunFrom z r es → (x x' : R) → EndedWith es u x → EndedWith es u x' → x' ≡ x
  once_from r u [] run x x' (y, c) k = absurd (nothing_in (entry u (End x) y) c)
  once_from r u (e ∷ es) run x x' (y, c) (y', c') =
      elim (in_two e es (entry u (End x) y) c) [
        | inl same ↦ elim (in_two e es (entry u (End x') y') c') [
          | inl other ↦ ap (λ (k : Entry I R D P). outcome_or x k.op) (other ∙ sym same)
          | inr later ↦ absurd (not_again (after r e) u es run.1 (dead_after r u e x y same) x' (y', later))
        ]
        | inr first ↦ elim (in_two e es (entry u (End x') y') c') [
          | inl other ↦ absurd (not_again (after r e) u es run.1 (dead_after r u e x' y' other) x (y, first))
          | inr later ↦ once_from (after r e) u es run.1 x x' (y, first) (y', later)
        ]
      ]

  -- only units of the opening end
  ends_below : (r : RunOf D P) (n u : ℕ) (es : List (Entry I R D P)) → ((v : ℕ) → IsTrue (r.live v) → v < n) → IsRunFrom z r es → (x : R) → EndedWith es u x → u < n
  ends_below r n u [] live run x (y, c) = absurd (nothing_in (entry u (End x) y) c)
  ends_below r n u (e ∷ es) live run x (y, c) =
      elim (in_two e es (entry u (End x) y) c) [
        | inl same ↦ live u (ap (λ (k : Entry I R D P). r.live k.unit) same ∙ run.0.may.0)
        | inr later ↦ ends_below (after r e) n u es (λ v h. live v (was_live (e.unit == v) (r.live v) (goes_on e.op) h)) run.1 x (y, later)
      ]

-- what follows from what holds where a result is Ok
pub on_ok_more : {A E : Type 0} (r : Result A E) (P Q : Type 0) → OnOk r P → (P → Q) → OnOk r Q
on_ok_more (Ok x) P Q h f = f h
on_ok_more (Err e) P Q h f = tt

-- ---- the diagnostics of all units

module _ (c : JavaCore) where
  pub none_below : (ds : List DiagOf) → ds ≡ [] → CameToBelow c 0 ds
  none_below ds e d = ((λ k. absurd (nothing_in d (subst (λ (z : List DiagOf). Contains z d) e k))), (λ k. absurd (omega (arith, k.1))))

  widened : (n : ℕ) (d : DiagOf) → (u : ℕ) × (u < n) × (x : List DiagOf) × EndedWith c.log u x × Contains x d → (u : ℕ) × (u < n + 1) × (x : List DiagOf) × EndedWith c.log u x × Contains x d
  widened n d (u, h, x, ended, k) = (u, omega (arith, h), x, ended, k)

  narrowed : (n : ℕ) (d : DiagOf) (P : Type 0) → ((x : List DiagOf) → EndedWith c.log n x → Contains x d → P) → ((u : ℕ) × (u < n) × (x : List DiagOf) × EndedWith c.log u x × Contains x d → P)
      → (u : ℕ) × (u < n + 1) × (x : List DiagOf) × EndedWith c.log u x × Contains x d → P
  narrowed n d P here below (u, h, x, ended, k) =
      elim (cases_lt u n) [
        | inl less ↦ below (u, less, x, ended, k)
        | inr more ↦ let same : u ≡ n = omega (arith, h, more) in here x (subst (λ (v : ℕ). EndedWith c.log v x) same ended) k
      ]

  pub one_more_came : (n : ℕ) (ds x more : List DiagOf) → CameToBelow c n ds → EndedWith c.log n x → ((y : List DiagOf) → EndedWith c.log n y → y ≡ x) → more ≡ ds ++ x → CameToBelow c (n + 1) more
  one_more_came n ds x more h ended once e d = (
    λ k. elim (Contains-append_cases ds x d (subst (λ (z : List DiagOf). Contains z d) e k)) [
      | inl old ↦ widened n d ((h d).0 old)
      | inr new ↦ (n, omega arith, x, ended, new)
    ],
    λ k. subst (λ (z : List DiagOf). Contains z d) (sym e)
        (narrowed n d (Contains (ds ++ x) d) (λ y last i. Contains-append_right ds x d (subst (λ (z : List DiagOf). Contains z d) (once y last) i)) (λ j. Contains-append_left ds x d ((h d).1 j)) k),
  )

  pub none_more_came : (n : ℕ) (ds : List DiagOf) → CameToBelow c n ds → ((x : List DiagOf) → EndedWith c.log n x → ⊥) → CameToBelow c (n + 1) ds
  none_more_came n ds h none d = ((λ k. widened n d ((h d).0 k)), narrowed n d (Contains ds d) (λ y last i. absurd (none y last)) (h d).1)

  pub all_came : (n : ℕ) (ds : List DiagOf) → CameToBelow c n ds → ((u : ℕ) (x : List DiagOf) → EndedWith c.log u x → u < n) → CameTo c ds
  all_came n ds h below d = ((λ k. let j = (h d).0 k in (j.0, j.2, j.3, j.4)), λ k. (h d).1 (k.0, below k.0 k.1 k.2, k.1, k.2, k.3))

module _ (c : JavaCore) (core : IsCore is_wanted same_datum c) where
  pub came_once : (u : ℕ) (x y : List DiagOf) → EndedWith c.log u x → EndedWith c.log u y → y ≡ x
  came_once u x y = once_from (setting is_wanted same_datum c) (opened (setting is_wanted same_datum c)) u c.log core.runs x y

  pub came_below : (u : ℕ) (x : List DiagOf) → EndedWith c.log u x → u < length c.opening.made
  came_below u x = ends_below (setting is_wanted same_datum c) (opened (setting is_wanted same_datum c)) (length c.opening.made) u c.log (λ v h. ltb-true v (length c.opening.made) h) core.runs x
