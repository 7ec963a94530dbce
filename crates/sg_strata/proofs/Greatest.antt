-- A stratified set whose other types all have an open query is the greatest.
use Rattle.std.proofs.Common.{◌≡◌, ℕ, zero, suc, ◌<◌, List, [], ◌∷◌, ◌++◌, map, Bool, true, false, ◌&&◌, nat_lt, not, IsTrue, refl, sym, ap, ◌∙◌, subst, arith, ltb-true, cond}
use Rattle.std.specs.List.{Contains, filter, flat_map}
use Rattle.sg_base.specs.declared.scope.Scope.{Scope}
use Rattle.sg_base.specs.Graph.{edge_cmp}
use Rattle.sg_base.specs.State.{State}
use Rattle.sg_base.proofs.Finite.{Contains-head, Contains-tail}
use Rattle.sg_reading.specs.Reading.{Gives}
use Rattle.sg_reading.proofs.Readings.{Gives-no_need}
use Rattle.sg_strata.specs.Law.{GreatestIsUnique, StuckSetsAreGreatest}
use Rattle.sg_strata.specs.List.{set_of}
use Rattle.sg_strata.specs.Program.{Program, IsProgram, row_edges, state_with, AnswersSettled, IsFirstOpen, IsHeaderRow}
use Rattle.sg_strata.specs.Strata.{lower, IsStratified}
use Rattle.sg_strata.proofs.Growing.{IsPart}
use Rattle.sg_strata.proofs.Ranks.{and_left, and_right, one_settled, read_later, stratified_inside, lower_inside, rival_row, graphs_are_unique}

is_in : (b : Bool) → (b ≡ false → ⊥) → IsTrue b
is_in true h = refl
is_in false h = absurd (h refl)

module _ {Q D : Type 0} (p : Program Q D) (ok : IsProgram p) (in_set : Scope → Bool) (row : Scope → List Scope) (st : IsStratified p in_set row) (stuck : (c : Scope) → Contains p.types c → in_set c ≡ false → (q : Q) × IsFirstOpen p (state_with p in_set row) c q) (other : Scope → Bool) (row' : Scope → List Scope) (st' : IsStratified p other row') where
  -- the rival's type is in the set, with the same supertypes
  record Reached (c : Scope) : Type 0 where
    pub inside : IsTrue (in_set c)
    pub same : row' c ≡ row c

  -- by the ranks of the rival
  reached : (n : ℕ) (c : Scope) → Contains p.types c → IsTrue (other c) → st'.rank c < n → Reached c
  reached zero c i m b = absurd (omega (arith, b))
  reached (suc n) c i m b =
      let below : (d : Scope) → Contains p.types d → IsTrue (lower other st'.rank c d) → Reached d =
      λ d j l. reached n d j (and_left (other d) (nat_lt (st'.rank d) (st'.rank c)) l) (omega (arith, b, ltb-true (st'.rank d) (st'.rank c) (and_right (other d) (nat_lt (st'.rank d) (st'.rank c)) l))) in
      let part : IsPart p (lower other st'.rank c) row' in_set row = record { within = λ d j l. (below d j l).inside; same = λ d j l. (below d j l).same } in
      let read : Gives (AnswersSettled p (state_with p in_set row)) (p.header c) (row' c) (st'.stands c i m).0 =
      read_later p ok (lower other st'.rank c) row' in_set row part (lower_inside p ok other row' st'.rank c (stratified_inside p ok other row' st')) c i (row' c) (st'.stands c i m).0 (st'.stands c i m).1 in
      let member : IsTrue (in_set c) =
      is_in (in_set c) (λ out. let q = stuck c i out in
      Gives-no_need (AnswersSettled p (state_with p in_set row)) (one_settled p (state_with p in_set row)) (p.header c) (row' c) (st'.stands c i m).0 q.0 read (q.1.0, λ a s. q.1.1 s.0)) in
      record { inside = member; same = rival_row p ok in_set other row row' st st' c i member m part }

  pub rival_within : (c : Scope) → Contains p.types c → IsTrue (other c) → IsTrue (in_set c)
  rival_within c i m = (reached (suc (st'.rank c)) c i m (omega arith)).inside

pub stuck_is_greatest : (Q D : Type 0) → StuckSetsAreGreatest Q D
stuck_is_greatest Q D p in_set row ok st stuck =
    record { stratified = st; greatest = λ other row' st' c i m. rival_within p ok in_set row st stuck other row' st' c i m }

same_tests : (a b : Bool) → (IsTrue a → IsTrue b) → (IsTrue b → IsTrue a) → a ≡ b
same_tests true b f g = sym (f refl)
same_tests false true f g = g refl
same_tests false false f g = refl

filter-agree : {X : Type 0} (f g : X → Bool) (xs : List X) → ((x : X) → Contains xs x → f x ≡ g x) → filter f xs ≡ filter g xs
filter-agree f g [] h = refl
filter-agree {X} f g (x ∷ xs) h =
    ap (λ (b : Bool). cond b (x ∷ filter f xs) (filter f xs)) (h x (Contains-head x xs)) ∙ ap (λ (ys : List X). cond (g x) (x ∷ ys) ys) (filter-agree f g xs (λ y c. h y (Contains-tail x y xs c)))

module _ {Q D : Type 0} (p : Program Q D) where
  -- a state depends on what its test says of types alone
  pub state_with-agree : (closed closed' : Scope → Bool) (row : Scope → List Scope) → ((c : Scope) → Contains p.types c → closed c ≡ closed' c) → state_with p closed row ≡ state_with p closed' row
  state_with-agree closed closed' row h =
      ap (λ (cs : List Scope). record {
        graph = record { scopes = p.skeleton.scopes; edges = set_of edge_cmp (p.skeleton.edges ++ flat_map (row_edges p row) cs); given = p.skeleton.given };
        open_rows = map (λ (c : Scope). (c, p.super_label)) (filter (λ c. not (closed c)) p.types);
        unset = p.signatures;
      })
      (filter-agree closed closed' p.types h)
      ∙ ap (λ (cs : List Scope). record {
        graph = record { scopes = p.skeleton.scopes; edges = set_of edge_cmp (p.skeleton.edges ++ flat_map (row_edges p row) (filter closed' p.types)); given = p.skeleton.given };
        open_rows = map (λ (c : Scope). (c, p.super_label)) cs;
        unset = p.signatures;
      })
      (filter-agree (λ c. not (closed c)) (λ c. not (closed' c)) p.types (λ c i. ap not (h c i)))

  stratified_along : (in_set in_set' : Scope → Bool) (row : Scope → List Scope) → ((c : Scope) → Contains p.types c → in_set c ≡ in_set' c) → IsStratified p in_set row → IsStratified p in_set' row
  stratified_along in_set in_set' row h st = record {
    rank = st.rank;
    stands = λ c i m.
        subst (λ (s : State D). IsHeaderRow p s c (row c))
        (state_with-agree (lower in_set st.rank c) (lower in_set' st.rank c) row (λ d j. ap (λ (b : Bool). b && nat_lt (st.rank d) (st.rank c)) (h d j)))
        (st.stands c i (h c i ∙ m));
  }

pub greatest_is_one : (Q D : Type 0) → GreatestIsUnique Q D
greatest_is_one Q D p in_set in_set' row row' ok st st' =
    let same : (c : Scope) → Contains p.types c → in_set' c ≡ in_set c =
    λ c i. same_tests (in_set' c) (in_set c) (st.greatest in_set' row' st'.stratified c i) (st'.greatest in_set row st.stratified c i) in (
      (λ c i. sym (same c i)),
      (graphs_are_unique Q D p in_set row row' ok st.stratified (stratified_along p in_set' in_set row' same st'.stratified)
          ∙ ap (λ (s : State D). s.graph) (state_with-agree p in_set in_set' row' (λ c i. sym (same c i)))),
    )
