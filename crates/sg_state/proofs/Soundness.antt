-- Tests of an opening, and what they say.
use Rattle.std.proofs.Common.{◌≡◌, ℕ, zero, suc, ◌+◌, ◌<◌, List, [], ◌∷◌, ◌++◌, ◌↔◌, Bool, true, false, not, ◌&&◌, eqb, nat_lt, IsTrue, inl, inr, refl, sym, ap, ◌∙◌, subst, map, length, take, drop, get_or, ◌-◌, Result, Ok, Err, arith}
use Rattle.std.proofs.lemmas.Bool.{cases_Bool}
use Rattle.std.proofs.lemmas.Bool.Decides.{nat_tests}
use Rattle.std.proofs.lemmas.List.{length-drop, length-map, take-append-drop}
use Rattle.std.proofs.lemmas.List.Elements.{Contains-append_cases, Contains-get_or}
use Rattle.std.proofs.Math.ListN.{get_or-map}
use Rattle.std.proofs.Math.Seq.{take-length}
use Rattle.std.specs.Cmp.{IsTotalOrder}
use Rattle.std.specs.List.{Contains, list_all, list_any}
use Rattle.std.specs.List.Sorted.{IsBinarySearchResult, IsSearchInRange, IsNonDecreasingBy}
use Rattle.std.specs.Ordering.{ordering_index}
use Rattle.std.specs.Result.{is_ok}
use Rattle.std.specs.declared.cmp.Ordering.{Ordering}
use Rattle.std.specs.declared.cmp.Ordering.TheVariants.{Less, Equal, Greater}
use Rattle.sg_base.specs.declared.scope.Scope.{Scope}
use Rattle.sg_base.specs.Graph.{Edge}
use Rattle.sg_base.specs.List.{IsDistinct, IsRising}
use Rattle.sg_base.specs.Scope.{is_scope, scope_cmp, scope_total}
use Rattle.sg_base.proofs.Finite.{nothing_in, Contains-head, Contains-cons, Contains-tail, map-Contains, Contains-map, each_map, each_at, Distinct-append, Distinct-left}
use Rattle.sg_base.proofs.Rising.{answers_rise, each_take, each_drop}
use Rattle.sg_base.proofs.Scopes.{equal_scope, scope_itself, number_same, number_itself, both_true}
use Rattle.sg_state.specs.Held.{RowHold, DatumHold}
use Rattle.sg_state.specs.Listed.{lists}
use Rattle.sg_state.specs.Opening.{OpeningOf, IsSoundOpening, data_of, nobody, edge_of, row_hold_of, held_datum_of}
use Rattle.sg_state.proofs.Among.{any_here, any_from, any_to}
use Rattle.sg_state.proofs.Beginning.{map_twice}
use Rattle.sg_state.proofs.OpenLists.{Distinct-right, Distinct-apart}

-- ---- tests of all and of some

pub same_bool : (a b : Bool) → ((IsTrue a) ↔ (IsTrue b)) → a ≡ b
same_bool true true h = refl
same_bool true false h = sym (h.0 refl)
same_bool false true h = h.1 refl
same_bool false false h = refl

both : (a b : Bool) → a ≡ true → b ≡ true → (a && b) ≡ true
both a b e f = ap (λ (x : Bool). x && b) e ∙ f

pub all_from : {X : Type 0} (p : X → Bool) (xs : List X) → list_all p xs ≡ true → (x : X) → Contains xs x → p x ≡ true
all_from p [] t x c = absurd (nothing_in x c)
all_from {X} p (y ∷ ys) t x c =
    let h = both_true (p y) (list_all p ys) t in
    elim (Contains-cons y x ys c) [ inl e ↦ subst (λ (z : X). p z ≡ true) (sym e) h.0 | inr m ↦ all_from p ys h.1 x m ]

pub all_to : {X : Type 0} (p : X → Bool) (xs : List X) → ((x : X) → Contains xs x → p x ≡ true) → list_all p xs ≡ true
all_to p [] h = refl
all_to p (y ∷ ys) h = both (p y) (list_all p ys) (h y (Contains-head y ys)) (all_to p ys (λ x c. h x (Contains-tail y x ys c)))

pub map_itself : {X : Type 0} (xs : List X) → map (λ x. x) xs ≡ xs
map_itself [] = refl
map_itself {X} (x ∷ xs) = ap (λ (ys : List X). x ∷ ys) (map_itself xs)

pub lists_from : (scopes : List Scope) (s : Scope) → lists scopes s ≡ true → Contains scopes s
lists_from scopes s t = subst (λ (xs : List Scope). Contains xs s) (map_itself scopes) (any_from (λ (x : Scope). x) s scopes t)

pub lists_to : (scopes : List Scope) (s : Scope) → Contains scopes s → lists scopes s ≡ true
lists_to scopes s c = any_to (λ (x : Scope). x) s scopes (subst (λ (xs : List Scope). Contains xs s) (sym (map_itself scopes)) c)

-- ---- rising by neighbours

pub rises_by : {X : Type 0} (R : X → X → Ordering) (total : IsTotalOrder R) (xs : List X) → ((k : ℕ) (d : X) → k + 1 < length xs → R (get_or xs k d) (get_or xs (k + 1) d) ≡ Less) → IsRising R xs
rises_by R total [] h = tt
rises_by R total (x ∷ []) h = (tt, tt)
rises_by R total (x ∷ y ∷ ys) h =
    let rest = rises_by R total (y ∷ ys) (λ k d lt. subst (λ (n : ℕ). R (get_or (y ∷ ys) k d) (get_or (x ∷ y ∷ ys) n d) ≡ Less) (next k) (h (suc k) d (omega (arith, lt)))) in
    let first = h 0 x (omega arith) in
    ((first, each_map (λ z. R y z ≡ Less) (λ z. R x z ≡ Less) (λ z e. total.trans x y z first e) ys rest.0), rest)
  where
    next : (k : ℕ) → suc k + 1 ≡ suc (k + 1)
    next k = omega arith

-- ---- a search by rising keys

module _ (holds : List (ℕ × Scope)) (up : IsRising scope_cmp (map (λ k. k.1) holds)) (s : Scope) where
  answers_by : IsNonDecreasingBy (λ (k : ℕ × Scope). ordering_index (scope_cmp k.1 s)) holds
  answers_by i j d le lt =
      let key : ℕ × Scope → Scope = λ k. k.1 in
      let is = length-map holds key in
      rw (get_or-map key holds i d, get_or-map key holds j d) at (answers_rise scope_cmp scope_total (map key holds) up s i j d.1 le (omega (arith, lt, is)))

  pub found_held : (r : Result ℕ ℕ) → IsSearchInRange r (length holds) → IsBinarySearchResult (λ (k : ℕ × Scope). scope_cmp k.1 s) holds r → is_ok r ≡ list_any (λ k. is_scope k.1 s) holds
  found_held (Ok at) within hit =
      let key : ℕ × Scope → Scope = λ k. k.1 in
      let k : ℕ × Scope = get_or holds at (0, s) in
      let there = subst (λ (t : Scope). Contains (map key holds) t) (equal_scope k.1 s (hit (0, s))) (map-Contains key holds k (Contains-get_or holds at (0, s) within)) in
      sym (any_to key s holds there)
  found_held (Err at) within parts =
      elim (cases_Bool (any_here key s holds)) [ inl t ↦ absurd (not_here (Contains-map key holds s (any_from key s holds t))) | inr t ↦ sym t ]
    where
      key : ℕ × Scope → Scope
      key k = k.1

      not_here : (k : ℕ × Scope) × Contains holds k × (s ≡ k.1) → ⊥
      not_here h =
          let p = parts answers_by in
          let same : scope_cmp (h.0).1 s ≡ Equal = subst (λ (t : Scope). scope_cmp t s ≡ Equal) h.2 (scope_itself s) in
          elim (Contains-append_cases (take at holds) (drop at holds) h.0 (subst (λ (ks : List (ℕ × Scope)). Contains ks h.0) (sym (take-append-drop at holds)) h.1)) [
            | inl c ↦ let less = each_at (λ (k : ℕ × Scope). scope_cmp k.1 s ≡ Less) (take at holds) (each_take (λ (k : ℕ × Scope). scope_cmp k.1 s ≡ Less) holds at within p.0) h.0 c in absurd (cc)
            | inr c ↦ let more = each_at (λ (k : ℕ × Scope). scope_cmp k.1 s ≡ Greater) (drop at holds) (each_drop (λ (k : ℕ × Scope). scope_cmp k.1 s ≡ Greater) holds at p.1) h.0 c in absurd (cc)
          ]

-- ---- distinct from a place on

not_distinct_suc : {X Y : Type 0} (f : X → Y) (xs : List X) (i : ℕ) (d : X) → i < length xs → Contains (map f (drop (suc i) xs)) (f (get_or xs i d)) → IsDistinct (map f xs) → ⊥
not_distinct_suc f [] i d lt c distinct = omega (arith, lt)
not_distinct_suc f (x ∷ xs) zero d lt c distinct = distinct.0 c
not_distinct_suc f (x ∷ xs) (suc i) d lt c distinct = not_distinct_suc f xs i d (omega (arith, lt)) c distinct.1

distinct_suc : {X Y : Type 0} (f : X → Y) (xs : List X) (i : ℕ) (d : X) → i < length xs → (Contains (map f (drop (suc i) xs)) (f (get_or xs i d)) → ⊥) → IsDistinct (map f (drop (suc i) xs)) → IsDistinct (map f (drop i xs))
distinct_suc f [] i d lt none after = absurd (omega (arith, lt))
distinct_suc f (x ∷ xs) zero d lt none after = (none, after)
distinct_suc f (x ∷ xs) (suc i) d lt none after = distinct_suc f xs i d (omega (arith, lt)) none after

-- what lies behind a place of a list
abbrev pub rest_of : {X : Type 0} → List X → ℕ → List X
rest_of xs i = take (length xs - (i + 1)) (drop (i + 1) xs)

rest_is : {X : Type 0} (xs : List X) (i : ℕ) → rest_of xs i ≡ drop (suc i) xs
rest_is {X} xs i =
    ap (λ (n : ℕ). take n (drop (i + 1) xs)) (sym (length-drop (i + 1) xs)) ∙ (take-length (drop (i + 1) xs) ∙ ap (λ (n : ℕ). drop n xs) (next i))
  where
    next : (k : ℕ) → k + 1 ≡ suc k
    next k = omega arith

module _ {X : Type 0} (f : X → Scope) (xs : List X) (i : ℕ) (x : X) (is : x ≡ get_or xs i x) (lt : i < length xs) where
  pub stands_again : any_here f (f x) (rest_of xs i) ≡ true → IsDistinct (map f xs) → ⊥
  stands_again t =
      not_distinct_suc f xs i x lt (subst (λ (s : Scope). Contains (map f (drop (suc i) xs)) s) (ap f is) (subst (λ (ys : List X). Contains (map f ys) (f x)) (rest_is xs i) (any_from f (f x) (rest_of xs i) t)))

  pub stands_once : any_here f (f x) (rest_of xs i) ≡ false → (IsDistinct (map f (drop i xs)) → IsDistinct (map f xs)) → IsDistinct (map f (drop (i + 1) xs)) → IsDistinct (map f xs)
  stands_once lone before after =
      before (distinct_suc f xs i x lt (λ c.
      let t : any_here f (f x) (rest_of xs i) ≡ true = any_to f (f x) (rest_of xs i) (subst (λ (ys : List X). Contains (map f ys) (f x)) (sym (rest_is xs i)) (subst (λ (s : Scope). Contains (map f (drop (suc i) xs)) s) (ap f (sym is)) c)) in
      cc) (subst (λ (n : ℕ). IsDistinct (map f (drop n xs))) (next i) after))
    where
      next : (k : ℕ) → k + 1 ≡ suc k
      next k = omega arith

pub any_default : {X : Type 0} (xs : List X) (i : ℕ) (d e : X) → i < length xs → get_or xs i d ≡ get_or xs i e
any_default [] i d e lt = absurd (omega (arith, lt))
any_default (x ∷ xs) zero d e lt = refl
any_default (x ∷ xs) (suc i) d e lt = any_default xs i d e (omega (arith, lt))

pub distinct_itself : (b : Bool) (xs : List Scope) → ((IsTrue b) ↔ (IsDistinct (map (λ s. s) xs))) → (IsTrue b) ↔ (IsDistinct xs)
distinct_itself b xs h = ((λ t. subst (λ (ys : List Scope). IsDistinct ys) (map_itself xs) (h.0 t)), (λ d. h.1 (subst (λ (ys : List Scope). IsDistinct ys) (sym (map_itself xs)) d)))

-- ---- one datum for each scope

pub one_each : {D : Type 0} (given : List (Scope × D)) (holds : List (ℕ × Scope)) → (list_all (λ p. not (list_any (λ k. is_scope k.1 p.0) holds)) given ≡ true) → IsDistinct (map (λ p. p.0) given) → IsDistinct (map (λ k. k.1) holds) → IsDistinct (map (λ p. p.0) given ++ map (λ k. k.scope) (map held_datum_of holds))
one_each {D} given holds none a b =
    rw (map_twice held_datum_of (λ (k : DatumHold). k.scope) holds) (Distinct-append (map (λ p. p.0) given) (map (λ k. k.1) holds) a b (λ s c k.
    let p = Contains-map (λ (p : Scope × D). p.0) given s c in
    let t : list_any (λ k. is_scope k.1 (p.0).0) holds ≡ true = any_to (λ (k : ℕ × Scope). k.1) (p.0).0 holds (subst (λ (x : Scope). Contains (map (λ k. k.1) holds) x) p.2 k) in
    never (list_any (λ k. is_scope k.1 (p.0).0) holds) (all_from (λ (p : Scope × D). not (list_any (λ k. is_scope k.1 p.0) holds)) given none p.0 p.1) t))
  where
    never : (x : Bool) → not x ≡ true → x ≡ true → ⊥
    never true n t = absurd (cc)
    never false n t = absurd (cc)

pub each_one : {D : Type 0} (given : List (Scope × D)) (holds : List (ℕ × Scope)) → IsDistinct (map (λ p. p.0) given ++ map (λ k. k.scope) (map held_datum_of holds)) → IsDistinct (map (λ p. p.0) given) × IsDistinct (map (λ k. k.1) holds) × (list_all (λ p. not (list_any (λ k. is_scope k.1 p.0) holds)) given ≡ true)
each_one {D} given holds d =
    let e : IsDistinct (map (λ p. p.0) given ++ map (λ k. k.1) holds) = subst (λ (xs : List Scope). IsDistinct (map (λ p. p.0) given ++ xs)) (map_twice held_datum_of (λ (k : DatumHold). k.scope) holds) d in (
      Distinct-left (map (λ p. p.0) given) (map (λ k. k.1) holds) e,
      Distinct-right (map (λ p. p.0) given) (map (λ k. k.1) holds) e,
      all_to (λ (p : Scope × D). not (list_any (λ k. is_scope k.1 p.0) holds)) given (λ p c. unless (list_any (λ k. is_scope k.1 p.0) holds) (λ t.
          Distinct-apart (map (λ p. p.0) given) (map (λ k. k.1) holds) e p.0 (map-Contains (λ (p : Scope × D). p.0) given p c) (any_from (λ (k : ℕ × Scope). k.1) p.0 holds t))),
    )
  where
    unless : (x : Bool) → (x ≡ true → ⊥) → not x ≡ true
    unless true n = absurd (n refl)
    unless false n = refl

-- ---- a sound opening

below_from : (a b : ℕ) → nat_lt a b ≡ true → a < b
below_from a b t = grind (arith, nat_tests)

below_to : (a b : ℕ) → a < b → nat_lt a b ≡ true
below_to a b t = grind (arith, nat_tests)

module _ {D : Type 0} (scopes : List Scope) (edges : List (Scope × ℕ × Scope)) (given : List (Scope × D)) (rows : List (ℕ × Scope × ℕ)) (held : List (ℕ × Scope)) (units : ℕ) where
  abbrev the_opening : OpeningOf D
  the_opening = record { scopes = scopes; edges = map edge_of edges; given = given; row_holds = map row_hold_of rows; datum_holds = map held_datum_of held; units = units }

  abbrev nobodys_test : Bool
  nobodys_test = list_all (λ s. eqb s.unit nobody) scopes

  abbrev edges_test : Bool
  edges_test = list_all (λ e. nat_lt e.1 16 && (lists scopes e.0 && lists scopes e.2)) edges

  abbrev given_test : Bool
  given_test = list_all (λ p. lists scopes p.0) given

  abbrev rows_test : Bool
  rows_test = list_all (λ k. nat_lt k.0 units && (nat_lt k.2 16 && lists scopes k.1)) rows

  abbrev held_test : Bool
  held_test = list_all (λ k. nat_lt k.0 units && lists scopes k.1) held

  pub sound_from : units < nobody → IsDistinct scopes → (nobodys_test && (edges_test && (given_test && (rows_test && held_test)))) ≡ true → IsDistinct (data_of the_opening) → IsSoundOpening the_opening
  sound_from few distinct tests one =
      let a = both_true nobodys_test (edges_test && (given_test && (rows_test && held_test))) tests in
      let b = both_true edges_test (given_test && (rows_test && held_test)) a.1 in
      let c = both_true given_test (rows_test && held_test) b.1 in
      let d = both_true rows_test held_test c.1 in
      record {
        distinct = distinct;
        nobodys = λ s m. number_same s.unit nobody (all_from (λ (s : Scope). eqb s.unit nobody) scopes a.0 s m);
        edges = λ e m.
            let x = Contains-map edge_of edges e m in
            let t = both_true (nat_lt (x.0).1 16) (lists scopes (x.0).0 && lists scopes (x.0).2) (all_from (λ (e : Scope × ℕ × Scope). nat_lt e.1 16 && (lists scopes e.0 && lists scopes e.2)) edges b.0 x.0 x.1) in
            let v = both_true (lists scopes (x.0).0) (lists scopes (x.0).2) t.1 in
            subst (λ (y : Edge). Contains scopes y.from × (y.label < 16) × Contains scopes y.to) (sym x.2) (lists_from scopes (x.0).0 v.0, below_from (x.0).1 16 t.0, lists_from scopes (x.0).2 v.1);
        given = λ s e m. lists_from scopes s (all_from (λ (p : Scope × D). lists scopes p.0) given c.0 (s, e) m);
        row_holds = λ k m.
            let x = Contains-map row_hold_of rows k m in
            let t = both_true (nat_lt (x.0).0 units) (nat_lt (x.0).2 16 && lists scopes (x.0).1) (all_from (λ (k : ℕ × Scope × ℕ). nat_lt k.0 units && (nat_lt k.2 16 && lists scopes k.1)) rows d.0 x.0 x.1) in
            let v = both_true (nat_lt (x.0).2 16) (lists scopes (x.0).1) t.1 in
            subst (λ (y : RowHold). Contains scopes y.scope × (y.label < 16) × (y.unit < units)) (sym x.2) (lists_from scopes (x.0).1 v.1, below_from (x.0).2 16 v.0, below_from (x.0).0 units t.0);
        datum_holds = λ k m.
            let x = Contains-map held_datum_of held k m in
            let t = both_true (nat_lt (x.0).0 units) (lists scopes (x.0).1) (all_from (λ (k : ℕ × Scope). nat_lt k.0 units && lists scopes k.1) held d.1 x.0 x.1) in
            subst (λ (y : DatumHold). Contains scopes y.scope × (y.unit < units)) (sym x.2) (lists_from scopes (x.0).1 t.1, below_from (x.0).0 units t.0);
        one_datum = one;
        few = few;
      }

  pub sound_to : IsSoundOpening the_opening → (nobodys_test && (edges_test && (given_test && (rows_test && held_test)))) ≡ true
  sound_to s =
      both nobodys_test (edges_test && (given_test && (rows_test && held_test))) (all_to (λ (s : Scope). eqb s.unit nobody) scopes (λ x m. subst (λ (n : ℕ). eqb n nobody ≡ true) (sym (s.nobodys x m)) (number_itself nobody)))
      (both edges_test (given_test && (rows_test && held_test)) (all_to (λ (e : Scope × ℕ × Scope). nat_lt e.1 16 && (lists scopes e.0 && lists scopes e.2)) edges (λ x m.
      let k = s.edges (edge_of x) (map-Contains edge_of edges x m) in
      both (nat_lt x.1 16) (lists scopes x.0 && lists scopes x.2) (below_to x.1 16 k.1) (both (lists scopes x.0) (lists scopes x.2) (lists_to scopes x.0 k.0) (lists_to scopes x.2 k.2))))
      (both given_test (rows_test && held_test) (all_to (λ (p : Scope × D). lists scopes p.0) given (λ x m. lists_to scopes x.0 (s.given x.0 x.1 m)))
      (both rows_test held_test (all_to (λ (k : ℕ × Scope × ℕ). nat_lt k.0 units && (nat_lt k.2 16 && lists scopes k.1)) rows (λ x m.
      let k = s.row_holds (row_hold_of x) (map-Contains row_hold_of rows x m) in
      both (nat_lt x.0 units) (nat_lt x.2 16 && lists scopes x.1) (below_to x.0 units k.2) (both (nat_lt x.2 16) (lists scopes x.1) (below_to x.2 16 k.1) (lists_to scopes x.1 k.0))))
      (all_to (λ (k : ℕ × Scope). nat_lt k.0 units && lists scopes k.1) held (λ x m.
      let k = s.datum_holds (held_datum_of x) (map-Contains held_datum_of held x m) in
      both (nat_lt x.0 units) (lists scopes x.1) (below_to x.0 units k.1) (lists_to scopes x.1 k.0))))))
