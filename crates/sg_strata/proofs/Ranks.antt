-- Two stratified pairs with one set have one graph.
use Rattle.std.proofs.Common.{◌≡◌, ℕ, zero, suc, ◌<◌, List, [], ◌∷◌, ◌++◌, map, Bool, true, false, ◌&&◌, nat_lt, IsTrue, refl, sym, ap, ◌∙◌, arith, ltb-true}
use Rattle.std.specs.List.{Contains, filter, flat_map}
use Rattle.sg_base.specs.declared.scope.Scope.{Scope}
use Rattle.sg_base.specs.Graph.{Edge, GraphOf, HasScope, edge_cmp}
use Rattle.sg_base.specs.State.{State}
use Rattle.sg_base.proofs.Finite.{Contains-head, Contains-tail, Contains-filter}
use Rattle.sg_query.proofs.Answering.{answers_are_one}
use Rattle.sg_reading.specs.Reading.{Gives, IsFunctional}
use Rattle.sg_reading.proofs.Readings.{Gives-more, Gives-within, Gives-ends, Gives-same}
use Rattle.sg_strata.specs.Law.{StratifiedGraphsAreSound, StratifiedGraphsAreUnique, StratifiedRowsStand}
use Rattle.sg_strata.specs.List.{set_of}
use Rattle.sg_strata.specs.Program.{Program, IsProgram, row_edges, state_with, graph_with, AnswersIn, AnswersSettled}
use Rattle.sg_strata.specs.Strata.{lower, IsStratified}
use Rattle.sg_strata.proofs.Growing.{IsPart, Inside, is_graph, settled_moves}

-- ---- two tests at once

pub and_left : (a b : Bool) → IsTrue (a && b) → IsTrue a
and_left true b h = refl
and_left false b h = h

pub and_right : (a b : Bool) → IsTrue (a && b) → IsTrue b
and_right true b h = h
and_right false b h = let z : false ≡ true = h in cc

pub and_both : (a b : Bool) → IsTrue a → IsTrue b → IsTrue (a && b)
and_both true b h k = k
and_both false b h k = h

flat_map-agree : {X Y : Type 0} (f g : X → List Y) (xs : List X) → ((x : X) → Contains xs x → f x ≡ g x) → flat_map f xs ≡ flat_map g xs
flat_map-agree f g [] h = refl
flat_map-agree {X} {Y} f g (x ∷ xs) h =
    ap (λ (ys : List Y). ys ++ flat_map f xs) (h x (Contains-head x xs)) ∙ ap (λ (ys : List Y). g x ++ ys) (flat_map-agree f g xs (λ y c. h y (Contains-tail x y xs c)))

module _ {Q D : Type 0} (p : Program Q D) where
  pub one_in : (g : GraphOf D) → IsFunctional (AnswersIn p g)
  one_in g q a b h k = answers_are_one D g (p.asked q) a b h k

  pub one_settled : (h : State D) → IsFunctional (AnswersSettled p h)
  one_settled h q a b s t = answers_are_one D h.graph (p.asked q) a b s.1 t.1

  module _ (ok : IsProgram p) where
    -- what a header reads in a state, it reads in each state with more supertypes
    pub read_later : (first : Scope → Bool) (row : Scope → List Scope) (second : Scope → Bool) (row' : Scope → List Scope) → IsPart p first row second row' → Inside p first row → (c : Scope) → Contains p.types c → (ts : List Scope) (qs : List Q) → Gives (AnswersSettled p (state_with p first row)) (p.header c) ts qs → Gives (AnswersSettled p (state_with p second row')) (p.header c) ts qs
    read_later first row second row' part inside c i ts qs g =
        Gives-within (λ q. HasScope p.skeleton (p.asked q).start) (AnswersSettled p (state_with p first row)) (AnswersSettled p (state_with p second row')) (p.header c) ts qs (ok.asks c i)
        (λ q a start s. settled_moves p ok first row second row' part inside q a start s) g

    -- and in the graph of such a state
    carried : (first : Scope → Bool) (row : Scope → List Scope) (second : Scope → Bool) (row' : Scope → List Scope) → IsPart p first row second row' → Inside p first row → (c : Scope) → Contains p.types c → (ts : List Scope) (qs : List Q) → Gives (AnswersSettled p (state_with p first row)) (p.header c) ts qs → Gives (AnswersIn p (graph_with p second row')) (p.header c) ts qs
    carried first row second row' part inside c i ts qs g =
        Gives-more (AnswersSettled p (state_with p second row')) (AnswersIn p (graph_with p second row')) (p.header c) ts qs (λ q a k s. s.1) (read_later first row second row' part inside c i ts qs g)

    module _ (in_set : Scope → Bool) where
      pub stratified_inside : (row : Scope → List Scope) → IsStratified p in_set row → Inside p in_set row
      stratified_inside row st c i m =
          Gives-ends (λ ts. (t : Scope) → Contains ts t → HasScope p.skeleton t) (AnswersSettled p (state_with p (lower in_set st.rank c) row)) (p.header c) (row c) (st.stands c i m).0 (ok.gives c i) (st.stands c i m).1

      pub lower_inside : (row : Scope → List Scope) (rank : Scope → ℕ) (c : Scope) → Inside p in_set row → Inside p (lower in_set rank c) row
      lower_inside row rank c h d i m = h d i (and_left (in_set d) (nat_lt (rank d) (rank c)) m)

      -- each header gives in the whole graph what it gave
      pub row_in : (row : Scope → List Scope) (st : IsStratified p in_set row) (c : Scope) (i : Contains p.types c) (m : IsTrue (in_set c)) → Gives (AnswersIn p (graph_with p in_set row)) (p.header c) (row c) (st.stands c i m).0
      row_in row st c i m =
          carried (lower in_set st.rank c) row in_set row
          (record { within = λ d j l. and_left (in_set d) (nat_lt (st.rank d) (st.rank c)) l; same = λ d j l. refl })
          (lower_inside row st.rank c (stratified_inside row st)) c i (row c) (st.stands c i m).0 (st.stands c i m).1

    -- a rival's type whose lower types are in the set, with the same supertypes, has the supertypes that its header gives in the set's graph
    pub rival_row : (in_set other : Scope → Bool) (row row' : Scope → List Scope) (st : IsStratified p in_set row) (st' : IsStratified p other row') (c : Scope) → (i : Contains p.types c) (m : IsTrue (in_set c)) (m' : IsTrue (other c)) → IsPart p (lower other st'.rank c) row' in_set row → row' c ≡ row c
    rival_row in_set other row row' st st' c i m m' part =
        (Gives-same (AnswersIn p (graph_with p in_set row)) (one_in (graph_with p in_set row)) (p.header c) (row' c) (row c) (st'.stands c i m').0 (st.stands c i m).0
        (carried (lower other st'.rank c) row' in_set row part (lower_inside other row' st'.rank c (stratified_inside other row' st')) c i (row' c) (st'.stands c i m').0 (st'.stands c i m').1)
        (row_in in_set row st c i m)).0

    module _ (in_set : Scope → Bool) (row row' : Scope → List Scope) (st : IsStratified p in_set row) (st' : IsStratified p in_set row') where
      -- by the ranks of the second pair
      agree : (n : ℕ) (c : Scope) → Contains p.types c → IsTrue (in_set c) → st'.rank c < n → row' c ≡ row c
      agree zero c i m b = absurd (omega (arith, b))
      agree (suc n) c i m b =
          rival_row in_set in_set row row' st st' c i m m (record {
            within = λ d j l. and_left (in_set d) (nat_lt (st'.rank d) (st'.rank c)) l;
            same = λ d j l. agree n d j (and_left (in_set d) (nat_lt (st'.rank d) (st'.rank c)) l) (omega (arith, b, ltb-true (st'.rank d) (st'.rank c) (and_right (in_set d) (nat_lt (st'.rank d) (st'.rank c)) l)));
          })

      pub rows_agree : (c : Scope) → Contains p.types c → IsTrue (in_set c) → row c ≡ row' c
      rows_agree c i m = sym (agree (suc (st'.rank c)) c i m (omega arith))

pub graphs_are_unique : (Q D : Type 0) → StratifiedGraphsAreUnique Q D
graphs_are_unique Q D p in_set row row' ok st st' =
    ap (λ (es : List Edge). record { scopes = p.skeleton.scopes; edges = set_of edge_cmp (p.skeleton.edges ++ es); given = p.skeleton.given })
    (flat_map-agree (row_edges p row) (row_edges p row') (filter in_set p.types)
    (λ c i. let k = Contains-filter in_set p.types c i in
    ap (λ (ts : List Scope). map (λ t. record { from = c; label = p.super_label; to = t }) ts) (rows_agree p ok in_set row row' st st' c k.0 k.1)))

pub graphs_are_sound : (Q D : Type 0) → StratifiedGraphsAreSound Q D
graphs_are_sound Q D p in_set row ok st = is_graph p ok in_set row (stratified_inside p ok in_set row st)

pub rows_stand : (Q D : Type 0) → StratifiedRowsStand Q D
rows_stand Q D p in_set row ok st c i m = ((st.stands c i m).0, row_in p ok in_set row st c i m)
