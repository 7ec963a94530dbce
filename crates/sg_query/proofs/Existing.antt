-- Each query has an answer in a sound graph.
use Rattle.std.proofs.Common.{◌≡◌, ℕ, zero, suc, ◌≤◌, ◌+◌, ◌-◌, List, [], ◌∷◌, ◌++◌, ◌⊎◌, ◌↔◌, Bool, IsTrue, inl, inr, refl, sym, ap, ◌∙◌, subst, length, map, arith, length-append}
use Rattle.std.proofs.lemmas.Bool.{cases_Bool, cases_lt}
use Rattle.std.proofs.lemmas.List.{append-nil}
use Rattle.std.specs.List.{Contains}
use Rattle.std.specs.declared.cmp.Ordering.{Ordering}
use Rattle.std.specs.declared.cmp.Ordering.TheVariants.{Less, Equal, Greater}
use Rattle.sg_base.specs.declared.scope.Scope.{Scope}
use Rattle.sg_base.specs.declared.step.Step.{Step}
use Rattle.sg_base.specs.Graph.{GraphOf, IsGraph}
use Rattle.sg_base.specs.List.{IsDistinct, IsRising, MoreThan}
use Rattle.sg_base.specs.Path.{end_of, word_of}
use Rattle.sg_base.proofs.Edges.{one_datum}
use Rattle.sg_base.proofs.Finite.{nothing_in, single, Contains-head, Contains-cons, Contains-tail, Contains-map, map-Contains, each_map, each_from, each_at}
use Rattle.sg_base.proofs.Rising.{turned}
use Rattle.sg_base.proofs.Scopes.{equal_path}
use Rattle.sg_expr.specs.Tree.{ExprOf}
use Rattle.sg_order.specs.Path.{IsPathBefore}
use Rattle.sg_query.specs.declared.answer.Answer.{Answer}
use Rattle.sg_query.specs.declared.answer.Answer.TheVariants.{Paths, TooMany}
use Rattle.sg_query.specs.declared.found.Found.{Found}
use Rattle.sg_query.specs.Answer.{most_paths, IsAnswer, found_cmp}
use Rattle.sg_query.specs.Law.{AnswersExist}
use Rattle.sg_query.specs.Query.{Asked}
use Rattle.sg_query.specs.Walk.{IsGoing, IsFound, AreArrived, GoesOnFrom, one_more}
use Rattle.sg_query.proofs.Answering.{visible_paths}
use Rattle.sg_query.proofs.Deciding.{both, holds, belongs, continues, comes_before, some_of, datum_at, gather}
use Rattle.sg_query.proofs.Gathering.{length-GathersOn}
use Rattle.sg_query.proofs.Shadowing.{IsShown, shown_once, shown_all}
use Rattle.sg_query.proofs.Sorting.{found_total}
use Rattle.sg_query.proofs.Walking.{Walked, walked_first, walked_next, too_many_go, not_too_many, all_found}

-- ---- sorting

compared : (o : Ordering) → (o ≡ Less) ⊎ ((o ≡ Equal) ⊎ (o ≡ Greater))
compared Less = inl refl
compared Equal = inr (inl refl)
compared Greater = inr (inr refl)

module _ {D : Type 0} where
  -- a rising list of these paths and one more
  abbrev WithOne : List (Found D) → Found D → Type 0
  WithOne xs f = (ys : List (Found D)) × IsRising found_cmp ys × ((h : Found D) → (Contains ys h) ↔ (Contains xs h ⊎ (h ≡ f)))

  with_one : (f : Found D) (xs : List (Found D)) → IsRising found_cmp xs → (Contains (map (λ h. h.path) xs) f.path → ⊥) → WithOne xs f
  with_one f [] r n = (
    f ∷ [],
    (tt, tt),
    λ h. ((λ c. inr (single f h c)), (λ k. elim k [ inl c ↦ absurd (nothing_in h c) | inr e ↦ subst (Contains (f ∷ [])) (sym e) (Contains-head f []) ])),
  )
  with_one f (x ∷ xs) r n =
      elim (compared (found_cmp x f)) [
        | inl e ↦
            let k : WithOne xs f = with_one f xs r.1 (λ c. n (Contains-tail x.path f.path (map (λ h. h.path) xs) c)) in (
              x ∷ k.0,
              (each_from (λ y. found_cmp x y ≡ Less) k.0 (λ y c. elim ((k.2 y).0 c) [ inl m ↦ each_at (λ z. found_cmp x z ≡ Less) xs r.0 y m | inr s ↦ subst (λ (t : Found D). found_cmp x t ≡ Less) (sym s) e ]), k.1),
              λ h. (
                (λ c. elim (Contains-cons x h k.0 c) [
                  | inl s ↦ inl (subst (Contains (x ∷ xs)) (sym s) (Contains-head x xs))
                  | inr m ↦ elim ((k.2 h).0 m) [ inl i ↦ inl (Contains-tail x h xs i) | inr s ↦ inr s ]
                ]),
                (λ v. elim v [
                  | inl c ↦ elim (Contains-cons x h xs c) [
                    | inl s ↦ subst (Contains (x ∷ k.0)) (sym s) (Contains-head x k.0)
                    | inr m ↦ Contains-tail x h k.0 ((k.2 h).1 (inl m))
                  ]
                  | inr s ↦ Contains-tail x h k.0 ((k.2 h).1 (inr s))
                ]),
              ),
            )
        | inr other ↦ elim other [
          | inl e ↦ absurd (n (subst (Contains (map (λ h. h.path) (x ∷ xs))) (equal_path x.path f.path e) (Contains-head x.path (map (λ h. h.path) xs))))
          | inr e ↦
              let less : found_cmp f x ≡ Less = turned found_cmp found_total f x e in (
                f ∷ x ∷ xs,
                ((less, each_map (λ z. found_cmp x z ≡ Less) (λ z. found_cmp f z ≡ Less) (λ z k. found_total.trans f x z less k) xs r.0), r),
                λ h. (
                  (λ c. elim (Contains-cons f h (x ∷ xs) c) [ inl s ↦ inr s | inr m ↦ inl m ]),
                  (λ v. elim v [ inl m ↦ Contains-tail f h (x ∷ xs) m | inr s ↦ subst (Contains (f ∷ x ∷ xs)) (sym s) (Contains-head f (x ∷ xs)) ]),
                ),
              )
        ]
      ]

  abbrev Sorted : List (Found D) → Type 0
  Sorted xs = (ys : List (Found D)) × IsRising found_cmp ys × ((h : Found D) → (Contains ys h) ↔ (Contains xs h))

  sorted : (xs : List (Found D)) → IsDistinct (map (λ f. f.path) xs) → Sorted xs
  sorted [] d = ([], tt, λ h. ((λ c. c), (λ c. c)))
  sorted (x ∷ xs) d =
      let k : Sorted xs = sorted xs d.1 in
      let m = with_one x k.0 k.1 (λ c.
      let y = Contains-map (λ (h : Found D). h.path) k.0 x.path c in
      d.0 (subst (Contains (map (λ f. f.path) xs)) (sym y.2) (map-Contains (λ (h : Found D). h.path) xs y.0 ((k.2 y.0).0 y.1)))) in (
        m.0,
        m.1,
        λ h. (
          (λ c. elim ((m.2 h).0 c) [ inl i ↦ Contains-tail x h xs ((k.2 h).0 i) | inr s ↦ subst (Contains (x ∷ xs)) (sym s) (Contains-head x xs) ]),
          (λ c. elim (Contains-cons x h xs c) [ inl s ↦ (m.2 h).1 (inr s) | inr i ↦ (m.2 h).1 (inl ((k.2 h).1 i)) ]),
        ),
      )

-- ---- walking

last_of : (pss : List (List Step)) → (pss ≡ []) ⊎ ((rest : List (List Step)) × (p : List Step) × (pss ≡ rest ++ p ∷ []))
last_of [] = inl refl
last_of (q ∷ pss) =
    elim (last_of pss) [
      | inl none ↦ inr ([], q, ap (λ (t : List (List Step)). q ∷ t) none)
      | inr h ↦ inr (q ∷ h.0, h.1, ap (λ (t : List (List Step)). q ∷ t) h.2)
    ]

-- how a walk ends
abbrev Ends : {D : Type 0} → GraphOf D → ExprOf → Scope → (D → Bool) → ℕ → Type 0
Ends {D} g e start wants most =
    MoreThan most (GoesOnFrom g e start) ⊎ ((all : List (Found D)) × (MoreThan most (GoesOnFrom g e start) → ⊥) × AreArrived g e wants start all)

module _ {D : Type 0} (g : GraphOf D) (ok : IsGraph g) (e : ExprOf) (start : Scope) (wants : D → Bool) (most : ℕ) where
  going_at : (ps : List Step) → ((qs : List Step) × IsGoing e ps qs) ⊎ ((qs : List Step) → IsGoing e ps qs → ⊥)
  going_at ps = elim (continues e (word_of ps)) [ inl c ↦ inl (ps, (refl, c)) | inr n ↦ inr (λ qs k. n k.1) ]

  found_at : (ps : List Step) → ((f : Found D) × IsFound g e wants start ps f) ⊎ ((f : Found D) → IsFound g e wants start ps f → ⊥)
  found_at ps =
      elim (belongs e (word_of ps)) [
        | inr n ↦ inr (λ f k. n (k.1).0)
        | inl i ↦ elim (datum_at g.given (end_of start ps)) [
          | inr n ↦ inr (λ f k. n f.datum (k.1).1)
          | inl d ↦ elim (cases_Bool (wants d.0)) [
            | inl t ↦ inl (record { path = record { start = start; steps = ps }; datum = d.0 }, (refl, (i, d.1, t)))
            | inr b ↦ inr (λ f k.
                let same : d.0 ≡ f.datum = one_datum g.given ok.data_rise (end_of start ps) d.0 f.datum d.1 (k.1).1 in
                let t : IsTrue (wants d.0) = subst (λ (x : D). IsTrue (wants x)) (sym same) (k.1).2 in
                absurd (cc))
          ]
        ]
      ]

  ended : (done left : List (List Step)) (found : List (Found D)) → Walked g ok e start wants done left found → length done + length left ≤ most → left ≡ [] → Ends g e start wants most
  ended done left found w fits none =
      let last : Walked g ok e start wants done [] found = subst (λ (t : List (List Step)). Walked g ok e start wants done t found) none w in
      inr (found, not_too_many g ok e start wants done found last most (omega (arith, fits)), all_found g ok e start wants done found last)

  walk : (fuel : ℕ) (done left : List (List Step)) (found : List (Found D)) → Walked g ok e start wants done left found → length done + length left ≤ most → most ≤ length done + fuel → Ends g e start wants most
  walk zero done left found w fits enough =
      elim (last_of left) [
        | inl none ↦ ended done left found w fits none
        | inr s ↦ absurd (omega (arith, fits, enough, ap length s.2, length-append s.0 (s.1 ∷ [])))
      ]
  walk (suc fuel) done left found w fits enough =
      elim (last_of left) [
        | inl none ↦ ended done left found w fits none
        | inr s ↦
            let rest = s.0 in
            let p = s.1 in
            let there : Walked g ok e start wants done (rest ++ p ∷ []) found = subst (λ (t : List (List Step)). Walked g ok e start wants done t found) s.2 w in
            let size : length left ≡ length rest + 1 = ap length s.2 ∙ length-append rest (p ∷ []) in
            let pss = one_more g start p in
            let going = gather (IsGoing e) going_at pss in
            let new = gather (IsFound g e wants start) found_at pss in
            elim (cases_lt most (length done + 1 + length (rest ++ going.0))) [
              | inl over ↦
                  inl (too_many_go g ok e start wants done rest p found there most (most - (length done + 1)) pss [] (rest ++ going.0) (sym (append-nil pss)) (going.0, refl, going.1) (omega (arith, fits, size)) (omega (arith, over, fits, size)))
              | inr within ↦
                  walk fuel (p ∷ done) (rest ++ going.0) (found ++ new.0)
                  (walked_next g ok e start wants done rest p found there (rest ++ going.0) (found ++ new.0) (going.0, refl, going.1) (new.0, refl, new.1))
                  (omega (arith, within)) (omega (arith, enough))
            ]
      ]

  ends : 1 ≤ most → Ends g e start wants most
  ends few =
      let going = gather (IsGoing e) going_at ([] ∷ []) in
      let new = gather (IsFound g e wants start) found_at ([] ∷ []) in
      let short = length-GathersOn (IsGoing e) ([] ∷ []) going.0 (going.0, refl, going.1) in
      walk most [] going.0 new.0 (walked_first g ok e start wants going.0 new.0 (going.0, refl, going.1) (new.0, refl, new.1)) (omega (arith, short, few)) (omega arith)

module _ {D : Type 0} (g : GraphOf D) (q : Asked D) where
  shown_at : (all : List (Found D)) (f : Found D) → ((h : Found D) × IsShown q.same q.order all f h) ⊎ ((h : Found D) → IsShown q.same q.order all f h → ⊥)
  shown_at all f =
      elim (some_of (λ (h : Found D). IsTrue (q.same f.datum h.datum) × IsPathBefore q.order h.path.steps f.path.steps) (λ h. both (holds (q.same f.datum h.datum)) (comes_before q.order h.path.steps f.path.steps)) all) [
        | inl s ↦ inr (λ h k. k.1 (s.0, s.1, (s.2).0, (s.2).1))
        | inr n ↦ inl (f, (refl, λ h. n (h.0, h.1, (h.2, h.3))))
      ]

  answer_of : (most : ℕ) → most ≡ most_paths → Ends g q.expr q.start q.wants most → (a : Answer D) × IsAnswer g q a
  answer_of most is w =
      elim (subst (λ (m : ℕ). Ends g q.expr q.start q.wants m) is w) [
        | inl m ↦ (TooMany, m)
        | inr k ↦
            let shown = gather (IsShown q.same q.order k.0) (shown_at k.0) k.0 in
            let r = sorted shown.0 (shown_once q.same q.order k.0 k.0 shown.0 shown.1 (k.2).once) in
            let left = shown_all q.same q.order k.0 shown.0 shown.1 in (
              Paths r.0,
              (
                k.1,
                record {
                  rising = r.1;
                  visible = visible_paths g q k.0 r.0 k.2 (λ f. ((λ c. (left f).0 ((r.2 f).0 c)), (λ v. (r.2 f).1 ((left f).1 v))));
                },
              ),
            )
      ]

pub answers_exist : (D : Type 0) → AnswersExist D
answers_exist D g q ok = answer_of g q most_paths refl (ends g ok q.expr q.start q.wants most_paths (omega arith))
