-- The facts that are asked of a run can be met: a stratified set is left by a run that closes the rows in the order of their ranks.
use Rattle.std.proofs.Common.{◌≡◌, ℕ, suc, ◌+◌, ◌<◌, List, [], ◌∷◌, Bool, true, false, ◌&&◌, nat_lt, inl, inr, refl, sym, ap, ◌∙◌, subst, arith, lt-ltb}
use Rattle.std.specs.List.{Contains}
use Rattle.sg_base.specs.declared.scope.Scope.{Scope}
use Rattle.sg_base.specs.State.{State, IsOpen}
use Rattle.sg_base.proofs.Finite.{nothing_in, Contains-cons}
use Rattle.sg_query.specs.State.{IsSettled}
use Rattle.sg_reading.proofs.Readings.{Gives-more, Asks-more}
use Rattle.sg_strata.specs.Law.{StuckSetsHaveRuns}
use Rattle.sg_strata.specs.Program.{Program, state_with, AnswersSettled, IsFirstOpen}
use Rattle.sg_strata.specs.Run.{AnsweredBy, closed_before, IsHeaderRun}
use Rattle.sg_strata.specs.Strata.{lower, IsStratified}
use Rattle.sg_strata.proofs.Greatest.{state_with-agree}

-- a number above the ranks of all listed types
above : (rank : Scope → ℕ) (cs : List Scope) → (n : ℕ) × ((c : Scope) → Contains cs c → rank c < n)
above rank [] = (0, λ c i. absurd (nothing_in c i))
above rank (c ∷ cs) =
    let rest = above rank cs in (
      suc (rank c) + rest.0,
      λ d i. elim (Contains-cons c d cs i) [
        | inl e ↦ let same : rank d ≡ rank c = ap rank e in omega arith
        | inr more ↦ let below : rank d < rest.0 = rest.1 d more in omega arith
      ],
    )

module _ {Q D : Type 0} (p : Program Q D) (in_set : Scope → Bool) (row : Scope → List Scope) (st : IsStratified p in_set row) (last : ℕ) (below : (c : Scope) → Contains p.types c → st.rank c < last) where
  closed_at_last : (c : Scope) → Contains p.types c → (b : Bool) → in_set c ≡ b → closed_before in_set st.rank last c ≡ in_set c
  closed_at_last c i true e = ap (λ (b : Bool). b && nat_lt (st.rank c) last) e ∙ (lt-ltb (st.rank c) last (below c i) ∙ sym e)
  closed_at_last c i false e = ap (λ (b : Bool). b && nat_lt (st.rank c) last) e ∙ sym e

  last_is : state_with p (closed_before in_set st.rank last) row ≡ state_with p in_set row
  last_is = state_with-agree p (closed_before in_set st.rank last) in_set row (λ c i. closed_at_last c i (in_set c) refl)

  pub run_of : ((c : Scope) → Contains p.types c → in_set c ≡ false → (q : Q) × IsFirstOpen p (state_with p in_set row) c q) → IsHeaderRun p in_set row
  run_of stuck = record {
    at = λ n. state_with p (closed_before in_set st.rank n) row;
    last = last;
    moment = st.rank;
    ended = λ c i m. below c i;
    moments = λ n b. record {
      edges = λ s l t k o. ((λ e. e), (λ e. e));
      open_there = λ s l o. o;
      given = λ s d k. ((λ e. e), (λ e. e));
      unset = λ s u. u;
    };
    read = λ c i m. (
      (st.stands c i m).0,
      Gives-more (AnswersSettled p (state_with p (lower in_set st.rank c) row)) (AnsweredBy p (λ n. state_with p (closed_before in_set st.rank n) row) (st.rank c)) (p.header c) (row c) (st.stands c i m).0
          (λ q a k s. record { time = st.rank c; before = omega arith; settled = s.0; answer = s.1 }) (st.stands c i m).1,
    );
    waits = λ c i out.
        let q = stuck c i out in (
          q.0,
          (
            Asks-more (AnswersSettled p (state_with p in_set row)) (AnsweredBy p (λ n. state_with p (closed_before in_set st.rank n) row) last) (p.header c) q.0
                (λ r a s. let t = subst (λ (h : State D). AnswersSettled p h r a) (sym last_is) s in record { time = last; before = omega arith; settled = t.0; answer = t.1 }) q.1.0,
            λ s. q.1.1 (subst (λ (h : State D). IsSettled h (p.asked q.0)) last_is s),
          ),
        );
    shut = λ s l k o. subst (λ (h : State D). IsOpen h s l) last_is o;
  }

pub stuck_has_run : (Q D : Type 0) → StuckSetsHaveRuns Q D
stuck_has_run Q D p in_set row st stuck = let bound = above st.rank p.types in run_of p in_set row st bound.0 bound.1 stuck
