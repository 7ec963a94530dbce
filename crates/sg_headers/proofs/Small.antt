-- The small programs have these ranks, first open queries and greatest sets.
use Rattle.std.proofs.Common.{◌≡◌, ℕ, ◌<◌, ◌≤◌, List, [], ◌∷◌, ◌++◌, Bool, true, false, IsTrue, cond, Some, None, inl, inr, refl, sym, ap, subst, arith, length}
use Rattle.std.proofs.lemmas.Bool.{cases_Bool}
use Rattle.std.specs.List.{Contains}
use Rattle.sg_base.specs.declared.scope.Scope.{Scope}
use Rattle.sg_base.specs.declared.step.Step.{Step}
use Rattle.sg_base.specs.Graph.{Edge, IsGraph, HasScope}
use Rattle.sg_base.specs.Label.{Word}
use Rattle.sg_base.specs.Path.{end_of, word_of}
use Rattle.sg_base.specs.State.{State}
use Rattle.sg_base.proofs.Finite.{nothing_in, single, Contains-head, Contains-tail, Contains-cons, each_at, pigeons}
use Rattle.sg_query.specs.declared.answer.Answer.{Answer}
use Rattle.sg_query.specs.declared.query.Query.{Query}
use Rattle.sg_query.specs.State.{IsSettled, GoesOnClosed}
use Rattle.sg_query.proofs.Existing.{answers_exist}
use Rattle.sg_reading.specs.Reading.{Gives, Asks, AllAsked, AllEnds}
use Rattle.sg_strata.specs.Program.{Program, IsProgram, IsPlain, IsQuiet, state_with, graph_with, AnswersSettled, IsFirstOpen, IsHeaderRow, IsNeeded}
use Rattle.sg_strata.specs.Strata.{lower, IsStratified}
use Rattle.sg_strata.proofs.Greatest.{stuck_is_greatest}
use Rattle.sg_strata.proofs.Growing.{is_graph}
use Rattle.sg_headers.specs.Small.{first, second, third, three_types, three, by_type, row_query, looking, Small, small_program, in_circle, through_itself, in_ranks, crossing, turning, first_out, IsSolved, SmallProgramsAreSolved}
use Rattle.sg_headers.proofs.Headers.{open_type, type_open}

-- ---- words of one label

no_word : (ps : List Step) (l : ℕ) (v : Word) → (word_of ps ++ l ∷ []) ++ v ≡ [] → ⊥
no_word [] l v e = let k : l ∷ v ≡ [] = e in cc
no_word (s ∷ ps) l v e = let k : s.label ∷ ((word_of ps ++ l ∷ []) ++ v) ≡ [] = e in cc

one_label : (ps : List Step) (l : ℕ) (v : Word) → (word_of ps ++ l ∷ []) ++ v ≡ 0 ∷ [] → (ps ≡ []) × (l ≡ 0)
one_label [] l v e = (refl, (let k : l ∷ v ≡ 0 ∷ [] = e in cc))
one_label (s ∷ ps) l v e =
    let k : s.label ∷ ((word_of ps ++ l ∷ []) ++ v) ≡ 0 ∷ [] = e in
    let t : (word_of ps ++ l ∷ []) ++ v ≡ [] = cc in
    absurd (no_word ps l v t)

none_behind : (w v : Word) → w ++ v ≡ [] → v ≡ []
none_behind [] v e = e
none_behind (l ∷ w) v e = absurd (let k : l ∷ (w ++ v) ≡ [] = e in cc)

no_steps : (ps : List Step) (v : Word) → (v ≡ [] → ⊥) → word_of ps ++ v ≡ 0 ∷ [] → Contains ([] ∷ []) ps
no_steps [] v some e = Contains-head (let x : List Step = [] in x) []
no_steps (s ∷ ps) v some e =
    let k : s.label ∷ (word_of ps ++ v) ≡ 0 ∷ [] = e in
    let t : word_of ps ++ v ≡ [] = cc in
    absurd (some (none_behind (word_of ps) v t))

no_one : (w : Word) → w ≡ 0 ∷ [] → Contains w 1 → ⊥
no_one w e c = let k : 1 ≡ 0 = single 0 1 (subst (λ (v : Word). Contains v 1) e c) in absurd (omega (arith, k))

differ : (b : Bool) → b ≡ true → b ≡ false → ⊥
differ true t f = cc
differ false t f = cc

-- ---- the first type outside a set

out_of : (f : Scope → Bool) (ss : List Scope) (s : Scope) → first_out f ss ≡ Some s → Contains ss s × (f s ≡ false)
out_of f [] s e = absurd (let k : None ≡ Some s = e in cc)
out_of f (y ∷ ss) s e =
    elim (cases_Bool (f y)) [
      | inl b ↦ let k = out_of f ss s (subst (λ (c : Bool). cond c (first_out f ss) (Some y) ≡ Some s) b e) in (Contains-tail y s ss k.0, k.1)
      | inr b ↦
          let k : Some y ≡ Some s = subst (λ (c : Bool). cond c (first_out f ss) (Some y) ≡ Some s) b e in
          let same : y ≡ s = cc in
          (subst (λ (t : Scope). Contains (y ∷ ss) t) same (Contains-head y ss), subst (λ (t : Scope). f t ≡ false) same b)
    ]

-- what holds of the three holds of each
of_three : (K : Scope → Type 0) → K first → K second → K third → (c : Scope) → Contains three_types c → K c
of_three K a b d c i =
    elim (Contains-cons first c (second ∷ third ∷ []) i) [
      | inl e ↦ subst K (sym e) a
      | inr j ↦ elim (Contains-cons second c (third ∷ []) j) [ inl e ↦ subst K (sym e) b | inr k ↦ subst K (sym (single third c k)) d ]
    ]

has_first : Contains three_types first
has_first = Contains-head first (second ∷ third ∷ [])

has_second : Contains three_types second
has_second = Contains-tail first second (second ∷ third ∷ []) (Contains-head second (third ∷ []))

has_third : Contains three_types third
has_third = Contains-tail first third (second ∷ third ∷ []) (Contains-tail second third (third ∷ []) (Contains-head third []))

three_graph : (D : Type 0) → IsGraph (three {D = D}).graph
three_graph D = record {
  scopes_rise = ((refl, (refl, tt)), ((refl, tt), (tt, tt)));
  edges_rise = tt;
  data_rise = tt;
  labelled = λ s l t e. absurd (nothing_in (let x : Edge = record { from = s; label = l; to = t } in x) e);
  source = λ s l t e. absurd (nothing_in (let x : Edge = record { from = s; label = l; to = t } in x) e);
  target = λ s l t e. absurd (nothing_in (let x : Edge = record { from = s; label = l; to = t } in x) e);
  placed = λ s d e. absurd (nothing_in (let x : Scope × D = (s, d) in x) e);
}

-- all that the headers look at and give are the three types
pub record IsWithin (m : Small) : Type 0 where
  pub looks : (c : Scope) → Contains three_types c → (s : Scope) → Contains (m.looks c) s → Contains three_types s
  pub gives : (c : Scope) → Contains three_types c → (t : Scope) → Contains (m.gives c) t → Contains three_types t

module _ {D P : Type 0} (wants : P → D → Bool) (same : D → D → Bool) (x : P) (m : Small) (within : IsWithin m) where
  abbrev p : Program (Query P) D
  p = small_program wants same x m

  asks_types : (ss ts : List Scope) → ((s : Scope) → Contains ss s → Contains three_types s) → AllAsked (λ (q : Query P). HasScope p.skeleton (p.asked q).start) (looking {D = D} x ss ts)
  asks_types [] ts h = tt
  asks_types (s ∷ ss) ts h = (h s (Contains-head s ss), λ a. asks_types ss ts (λ t c. h t (Contains-tail s t ss c)))

  asks_plain : (ss ts : List Scope) → AllAsked (IsPlain p) (looking {D = D} x ss ts)
  asks_plain [] ts = tt
  asks_plain (s ∷ ss) ts = (record { words = no_one; start = λ n. nothing_in s n }, λ a. asks_plain ss ts)

  ends_in : (K : List Scope → Type 0) (ss ts : List Scope) → K ts → AllEnds K (looking {D = D} {P = P} x ss ts)
  ends_in K [] ts k = k
  ends_in K (s ∷ ss) ts k = λ a. ends_in K ss ts k

  pub program : IsProgram p
  program = record {
    graph = three_graph D;
    labelled = omega arith;
    placed = λ c i. i;
    asks = λ c i. asks_types (m.looks c) (m.gives c) (within.looks c i);
    gives = λ c i. ends_in (λ ts. (t : Scope) → Contains ts t → Contains three_types t) (m.looks c) (m.gives c) (within.gives c i);
  }

  pub quiet : IsQuiet p
  quiet = record {
    asks = λ c i. asks_plain (m.looks c) (m.gives c);
    gives = λ c i. ends_in (λ ts. (t : Scope) → Contains ts t → Contains [] t → ⊥) (m.looks c) (m.gives c) (λ t c n. nothing_in t n);
    reached = λ s l t e n. absurd (nothing_in t n);
  }

  module _ (closed : Scope → Bool) where
    abbrev h : State D
    h = state_with p closed m.gives

    -- where the type's row is closed, the query that looks at it is settled
    settled : (s : Scope) → IsTrue (closed s) → IsSettled h (p.asked (row_query x s))
    settled s is = inl (
      (λ t l b.
          let one = one_label b.0 l (b.3).0 (b.3).1 in
          let at : s ≡ t = subst (λ (ps : List Step). end_of s ps ≡ t) one.0 b.2 in
          let o = open_type p closed m.gives t l b.4 in
          differ (closed t) (subst (λ (c : Scope). closed c ≡ true) at is) o.2),
      (λ t b. nothing_in t b.4),
    )

    blocked : (s : Scope) → Contains three_types s → closed s ≡ false → IsNeeded p h (row_query x s) s
    blocked s i out = (i, ([], ((tt, ((λ c. nothing_in s c), tt)), tt), refl, ([], refl), type_open p closed m.gives s 0 i refl out))

    unsettled : (s : Scope) → Contains three_types s → closed s ≡ false → IsSettled h (p.asked (row_query x s)) → ⊥
    unsettled s i out (inl free) = free.0 s 0 (blocked s i out).1
    unsettled s i out (inr many) =
        let few : length many.0 ≤ 1 = pigeons many.0 ([] ∷ []) many.2 (λ ps c. let g = each_at (GoesOnClosed h (p.asked (row_query x s))) many.0 many.3 ps c in no_steps ps (g.1).0 (g.1).1 (g.1).2) in
        let most : 4096 < length many.0 = many.1 in
        absurd (omega (arith, few, most))

    needed : (s t : Scope) → IsNeeded p h (row_query x s) t → t ≡ s
    needed s t b = let one = one_label (b.1).0 0 ((b.1).3).0 ((b.1).3).1 in sym (subst (λ (ps : List Step). end_of s ps ≡ t) one.0 (b.1).2)

    module _ (sound : (c : Scope) → Contains three_types c → IsTrue (closed c) → (t : Scope) → Contains (m.gives c) t → Contains three_types t) where
      graph : IsGraph (graph_with p closed m.gives)
      graph = is_graph p program closed m.gives sound

      answer : (s : Scope) → IsTrue (closed s) → (a : Answer D) × AnswersSettled p h (row_query x s) a
      answer s is = let a = answers_exist D h.graph (p.asked (row_query x s)) graph in (a.0, (settled s is, a.1))

      reads : (ss ts : List Scope) → ((s : Scope) → Contains ss s → IsTrue (closed s)) → (qs : List (Query P)) × Gives (AnswersSettled p h) (looking {D = D} x ss ts) ts qs
      reads [] ts all = ([], (refl, refl))
      reads (s ∷ ss) ts all =
          let a = answer s (all s (Contains-head s ss)) in
          let more = reads ss ts (λ t c. all t (Contains-tail s t ss c)) in
          (row_query x s ∷ more.0, (a.0, a.1, more.0, refl, more.1))

      comes_to : (ss ts : List Scope) (s : Scope) → first_out closed ss ≡ Some s → Asks (AnswersSettled p h) (looking {D = D} x ss ts) (row_query x s)
      comes_to [] ts s e = absurd (let k : None ≡ Some s = e in cc)
      comes_to (y ∷ ss) ts s e =
          elim (cases_Bool (closed y)) [
            | inl b ↦ let a = answer y b in inr (a.0, a.1, comes_to ss ts s (subst (λ (c : Bool). cond c (first_out closed ss) (Some y) ≡ Some s) b e))
            | inr b ↦
                let k : Some y ≡ Some s = subst (λ (c : Bool). cond c (first_out closed ss) (Some y) ≡ Some s) b e in
                let here : y ≡ s = cc in
                inl (ap (λ (t : Scope). row_query x t) here)
          ]

  module _ (in_set : Scope → Bool) (rank : Scope → ℕ) (waits : Scope → Scope) (below : (c : Scope) → Contains three_types c → IsTrue (in_set c) → (s : Scope) → Contains (m.looks c) s → IsTrue (lower in_set rank c s)) (out : (c : Scope) → Contains three_types c → in_set c ≡ false → first_out in_set (m.looks c) ≡ Some (waits c)) where
    rows : (c : Scope) → Contains three_types c → IsTrue (in_set c) → IsHeaderRow p (state_with p (lower in_set rank c) m.gives) c (m.gives c)
    rows c i is = reads (lower in_set rank c) (λ d j k. within.gives d j) (m.looks c) (m.gives c) (below c i is)

    opens : (c : Scope) → Contains three_types c → in_set c ≡ false → IsFirstOpen p (state_with p in_set m.gives) c (row_query x (waits c))
    opens c i f =
        let o = out_of in_set (m.looks c) (waits c) (out c i f) in
        (comes_to in_set (λ d j k. within.gives d j) (m.looks c) (m.gives c) (waits c) (out c i f), unsettled in_set (waits c) (within.looks c i (waits c) o.0) o.1)

    stratified : IsStratified p in_set m.gives
    stratified = record { rank = rank; stands = rows }

    pub solved : IsSolved wants same x m in_set rank waits
    solved = record {
      program = program;
      quiet = quiet;
      ranks = rows;
      greatest = stuck_is_greatest (Query P) D p in_set m.gives program stratified (λ c i f. (row_query x (waits c), opens c i f));
      first_open = opens;
      needs = λ c i f t. (
        (λ n. needed in_set (waits c) t n),
        (λ e.
            let o = out_of in_set (m.looks c) (waits c) (out c i f) in
            subst (λ (s : Scope). IsNeeded p (state_with p in_set m.gives) (row_query x (waits c)) s) (sym e) (blocked in_set (waits c) (within.looks c i (waits c) o.0) o.1)),
      );
    }

-- ---- the five programs

nothing : (xs : List Scope) → xs ≡ [] → (s : Scope) → Contains xs s → Contains three_types s
nothing xs e s c = absurd (nothing_in s (subst (λ (l : List Scope). Contains l s) e c))

one_of : (y : Scope) → Contains three_types y → (s : Scope) → Contains (y ∷ []) s → Contains three_types s
one_of y i s c = subst (λ (t : Scope). Contains three_types t) (sym (single y s c)) i

two_of : (y z : Scope) → Contains three_types y → Contains three_types z → (s : Scope) → Contains (y ∷ z ∷ []) s → Contains three_types s
two_of y z i j s c = elim (Contains-cons y s (z ∷ []) c) [ inl e ↦ subst (λ (t : Scope). Contains three_types t) (sym e) i | inr k ↦ one_of z j s k ]

none_of : (s : Scope) → Contains [] s → Contains three_types s
none_of s c = absurd (nothing_in s c)

-- what holds of the listed ones
of_none : (K : Scope → Type 0) (s : Scope) → Contains [] s → K s
of_none K s c = absurd (nothing_in s c)

of_one : (K : Scope → Type 0) (y : Scope) → K y → (s : Scope) → Contains (y ∷ []) s → K s
of_one K y k s c = subst K (sym (single y s c)) k

of_two : (K : Scope → Type 0) (y z : Scope) → K y → K z → (s : Scope) → Contains (y ∷ z ∷ []) s → K s
of_two K y z k j s c = elim (Contains-cons y s (z ∷ []) c) [ inl e ↦ subst K (sym e) k | inr i ↦ of_one K z j s i ]

abbrev Looks : Small → Scope → Type 0
Looks m c = (s : Scope) → Contains (m.looks c) s → Contains three_types s

abbrev GivesTypes : Small → Scope → Type 0
GivesTypes m c = (t : Scope) → Contains (m.gives c) t → Contains three_types t

abbrev Below : Small → (Scope → Bool) → (Scope → ℕ) → Scope → Type 0
Below m in_set rank c = IsTrue (in_set c) → (s : Scope) → Contains (m.looks c) s → IsTrue (lower in_set rank c s)

abbrev Waits : Small → (Scope → Bool) → (Scope → Scope) → Scope → Type 0
Waits m in_set waits c = in_set c ≡ false → first_out in_set (m.looks c) ≡ Some (waits c)

circle_within : IsWithin in_circle
circle_within = record {
  looks = of_three (Looks in_circle) none_of none_of none_of;
  gives = of_three (GivesTypes in_circle) (one_of second has_second) (one_of first has_first) none_of;
}

through_within : IsWithin through_itself
through_within = record {
  looks = of_three (Looks through_itself) (two_of second first has_second has_first) none_of none_of;
  gives = of_three (GivesTypes through_itself) (one_of third has_third) (one_of first has_first) none_of;
}

ranks_within : IsWithin in_ranks
ranks_within = record {
  looks = of_three (Looks in_ranks) (two_of second third has_second has_third) (one_of third has_third) none_of;
  gives = of_three (GivesTypes in_ranks) (one_of third has_third) (one_of third has_third) none_of;
}

crossing_within : IsWithin crossing
crossing_within = record {
  looks = of_three (Looks crossing) (one_of second has_second) (one_of first has_first) none_of;
  gives = of_three (GivesTypes crossing) (one_of third has_third) (one_of third has_third) none_of;
}

turning_within : IsWithin turning
turning_within = record {
  looks = of_three (Looks turning) (one_of first has_first) none_of none_of;
  gives = of_three (GivesTypes turning) (one_of second has_second) (one_of third has_third) none_of;
}

pub small_programs_are_solved : (D P : Type 0) → SmallProgramsAreSolved D P
small_programs_are_solved D P wants same x = (
  solved wants same x in_circle circle_within (λ s. true) (λ s. 0) (λ s. s)
      (of_three (Below in_circle (λ s. true) (λ s. 0)) (λ i s c. absurd (nothing_in s c)) (λ i s c. absurd (nothing_in s c)) (λ i s c. absurd (nothing_in s c)))
      (λ c i f. absurd (let e : true ≡ false = f in cc)),
  solved wants same x through_itself through_within (by_type false true true) (λ s. 0) (λ s. first)
      (of_three (Below through_itself (by_type false true true) (λ s. 0)) (λ i. absurd (let e : false ≡ true = i in cc)) (λ i s c. absurd (nothing_in s c)) (λ i s c. absurd (nothing_in s c)))
      (of_three (Waits through_itself (by_type false true true) (λ s. first)) (λ f. refl) (λ f. absurd (let e : true ≡ false = f in cc)) (λ f. absurd (let e : true ≡ false = f in cc))),
  solved wants same x in_ranks ranks_within (λ s. true) (by_type 2 1 0) (λ s. s)
      (of_three (Below in_ranks (λ s. true) (by_type 2 1 0)) (λ i. of_two (λ s. IsTrue (lower (λ t. true) (by_type 2 1 0) first s)) second third refl refl) (λ i. of_one (λ s. IsTrue (lower (λ t. true) (by_type 2 1 0) second s)) third refl) (λ i s c. absurd (nothing_in s c)))
      (λ c i f. absurd (let e : true ≡ false = f in cc)),
  solved wants same x crossing crossing_within (by_type false false true) (λ s. 0) (by_type second first third)
      (of_three (Below crossing (by_type false false true) (λ s. 0)) (λ i. absurd (let e : false ≡ true = i in cc)) (λ i. absurd (let e : false ≡ true = i in cc)) (λ i s c. absurd (nothing_in s c)))
      (of_three (Waits crossing (by_type false false true) (by_type second first third)) (λ f. refl) (λ f. refl) (λ f. absurd (let e : true ≡ false = f in cc))),
  solved wants same x turning turning_within (by_type false true true) (λ s. 0) (λ s. first)
      (of_three (Below turning (by_type false true true) (λ s. 0)) (λ i. absurd (let e : false ≡ true = i in cc)) (λ i s c. absurd (nothing_in s c)) (λ i s c. absurd (nothing_in s c)))
      (of_three (Waits turning (by_type false true true) (λ s. first)) (λ f. refl) (λ f. absurd (let e : true ≡ false = f in cc)) (λ f. absurd (let e : true ≡ false = f in cc))),
)
