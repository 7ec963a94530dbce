-- Graphs that get scopes, edges or data, list by list.
use Rattle.std.proofs.Common.{◌≡◌, List, [], ◌∷◌, ◌++◌, ◌⊎◌, ◌↔◌, inl, inr, refl, sym, ap, ◌∙◌, subst, map}
use Rattle.std.proofs.lemmas.List.Elements.{Contains-append_cases, Contains-append_left, Contains-append_right}
use Rattle.std.specs.Cmp.{on_total}
use Rattle.std.specs.List.{Contains, flat_map}
use Rattle.std.specs.Ordering.{on}
use Rattle.sg_base.specs.declared.scope.Scope.{Scope}
use Rattle.sg_base.specs.Graph.{Edge, GraphOf, HasScope, IsGraph, AddsScope, AddsEdge, AddsDatum, edge_cmp, edge_total}
use Rattle.sg_base.specs.List.{IsDistinct}
use Rattle.sg_base.specs.Scope.{scope_cmp, scope_total}
use Rattle.sg_base.proofs.Finite.{nothing_in, single, Contains-head, Contains-tail, map-Contains, Contains-map, flat_map-Contains, Contains-flat_map}
use Rattle.sg_base.proofs.Rising.{rising_one}
use Rattle.sg_state.proofs.RisingLists.{rises_by_keys}
use Rattle.sg_state.specs.Gains.{Gains, GainsScopes, GainsEdges, GainsData, Left, ScopesLeft, EdgesLeft, DataLeft}

-- ---- lists

pub gains_one : {X : Type 0} (old new : List X) (y : X) → ((x : X) → (Contains new x) ↔ (Contains old x ⊎ (x ≡ y))) → Gains old new (y ∷ [])
gains_one {X} old new y h x = (
  (λ c. elim ((h x).0 c) [ inl m ↦ inl m | inr e ↦ inr (subst (λ (z : X). Contains (y ∷ []) z) (sym e) (Contains-head y [])) ]),
  (λ s. elim s [ inl m ↦ (h x).1 (inl m) | inr m ↦ (h x).1 (inr (single y x m)) ]),
)

pub gains_none : {X : Type 0} (old : List X) → Gains old old []
gains_none old x = ((λ c. inl c), (λ s. elim s [ inl c ↦ c | inr n ↦ absurd (nothing_in x n) ]))

-- lists with the same things
pub same_things : {X : Type 0} (xs ys zs : List X) → ((x : X) → (Contains xs x) ↔ (Contains ys x)) → ((x : X) → (Contains ys x) ↔ (Contains zs x)) → (x : X) → (Contains xs x) ↔ (Contains zs x)
same_things xs ys zs h k x = ((λ c. (k x).0 ((h x).0 c)), (λ c. (h x).1 ((k x).1 c)))

module _ {X : Type 0} (xs ys : List X) (same : (x : X) → (Contains xs x) ↔ (Contains ys x)) where
  pub same_images : {Y : Type 0} (f : X → Y) (y : Y) → (Contains (map f xs) y) ↔ (Contains (map f ys) y)
  same_images {Y} f y = (
    (λ c. let h = Contains-map f xs y c in subst (λ (z : Y). Contains (map f ys) z) (sym h.2) (map-Contains f ys h.0 ((same h.0).0 h.1))),
    (λ c. let h = Contains-map f ys y c in subst (λ (z : Y). Contains (map f xs) z) (sym h.2) (map-Contains f xs h.0 ((same h.0).1 h.1))),
  )

  pub same_parts : {Y : Type 0} (f : X → List Y) (y : Y) → (Contains (flat_map f xs) y) ↔ (Contains (flat_map f ys) y)
  same_parts f y = (
    (λ c. let h = Contains-flat_map f xs y c in flat_map-Contains f ys h.0 y ((same h.0).0 h.1) h.2),
    (λ c. let h = Contains-flat_map f ys y c in flat_map-Contains f xs h.0 y ((same h.0).1 h.1) h.2),
  )

  gains_same : (old new : List X) → Gains old new xs → Gains old new ys
  gains_same old new gains x = (
    (λ c. elim ((gains x).0 c) [ inl m ↦ inl m | inr m ↦ inr ((same x).0 m) ]),
    (λ s. (gains x).1 (elim s [ inl m ↦ inl m | inr m ↦ inr ((same x).1 m) ])),
  )

module _ {D : Type 0} (old new : GraphOf D) where
  pub scopes_by : (xs ys : List Scope) → ((x : Scope) → (Contains xs x) ↔ (Contains ys x)) → GainsScopes old new xs → GainsScopes old new ys
  scopes_by xs ys same h = record { scopes = gains_same xs ys same old.scopes new.scopes h.scopes; edges = h.edges; given = h.given }

  pub edges_by : (xs ys : List Edge) → ((x : Edge) → (Contains xs x) ↔ (Contains ys x)) → GainsEdges old new xs → GainsEdges old new ys
  edges_by xs ys same h = record { scopes = h.scopes; edges = gains_same xs ys same old.edges new.edges h.edges; given = h.given }

  pub data_by : (xs ys : List (Scope × D)) → ((x : Scope × D) → (Contains xs x) ↔ (Contains ys x)) → GainsData old new xs → GainsData old new ys
  data_by xs ys same h = record { scopes = h.scopes; edges = h.edges; given = gains_same xs ys same old.given new.given h.given }

left_start : {X : Type 0} (old all : List X) → Left old old all all
left_start old all x = ((λ h. h), (λ h. h))

left_next : {X : Type 0} (old now new some rest all : List X) → Left old now (some ++ rest) all → Gains now new some → Left old new rest all
left_next old now new some rest all left gains x = (
  (λ h. elim h [
    | inl c ↦ elim ((gains x).0 c) [ inl m ↦ (left x).0 (inl m) | inr m ↦ (left x).0 (inr (Contains-append_left some rest x m)) ]
    | inr c ↦ (left x).0 (inr (Contains-append_right some rest x c))
  ]),
  (λ h. elim ((left x).1 h) [
    | inl c ↦ inl ((gains x).1 (inl c))
    | inr c ↦ elim (Contains-append_cases some rest x c) [ inl m ↦ inl ((gains x).1 (inr m)) | inr m ↦ inr m ]
  ]),
)

left_end : {X : Type 0} (old now all : List X) → Left old now [] all → Gains old now all
left_end old now all left x = (
  (λ c. (left x).0 (inl c)),
  (λ h. elim ((left x).1 h) [ inl c ↦ c | inr n ↦ absurd (nothing_in x n) ]),
)

module _ {D : Type 0} where
  -- ---- scopes
  pub scopes_start : (g : GraphOf D) (all : List Scope) → ScopesLeft g g all all
  scopes_start g all = record { scopes = left_start g.scopes all; edges = refl; given = refl }

  pub scopes_next : (old now new : GraphOf D) (s : Scope) (rest all : List Scope) → ScopesLeft old now (s ∷ rest) all → AddsScope now new s → ScopesLeft old new rest all
  scopes_next old now new s rest all left adds = record {
    scopes = left_next old.scopes now.scopes new.scopes (s ∷ []) rest all left.scopes (gains_one now.scopes new.scopes s adds.scopes);
    edges = adds.edges ∙ left.edges;
    given = adds.given ∙ left.given;
  }

  pub scopes_end : (old now : GraphOf D) (all : List Scope) → ScopesLeft old now [] all → GainsScopes old now all
  scopes_end old now all left = record { scopes = left_end old.scopes now.scopes all left.scopes; edges = left.edges; given = left.given }

  -- ---- edges
  pub edge_gained : (old new : GraphOf D) (e : Edge) → AddsEdge old new e.from e.label e.to → GainsEdges old new (e ∷ [])
  edge_gained old new e adds = record { scopes = adds.scopes; edges = gains_one old.edges new.edges e adds.edges; given = adds.given }

  pub edges_start : (g : GraphOf D) (all : List Edge) → ((e : Edge) → Contains all e → HasScope g e.from × HasScope g e.to) → EdgesLeft g g all all
  edges_start g all there = record { scopes = refl; edges = left_start g.edges all; given = refl; there = there }

  pub edges_some : (old now : GraphOf D) (some rest all : List Edge) → EdgesLeft old now (some ++ rest) all → (e : Edge) → Contains some e → HasScope now e.from × HasScope now e.to
  edges_some old now some rest all left e c = left.there e (Contains-append_left some rest e c)

  pub edges_next : (old now new : GraphOf D) (some rest all : List Edge) → EdgesLeft old now (some ++ rest) all → GainsEdges now new some → EdgesLeft old new rest all
  edges_next old now new some rest all left gains = record {
    scopes = gains.scopes ∙ left.scopes;
    edges = left_next old.edges now.edges new.edges some rest all left.edges gains.edges;
    given = gains.given ∙ left.given;
    there = λ e c.
        let h = left.there e (Contains-append_right some rest e c) in
        (subst (λ (xs : List Scope). Contains xs e.from) (sym gains.scopes) h.0, subst (λ (xs : List Scope). Contains xs e.to) (sym gains.scopes) h.1);
  }

  pub edges_end : (old now : GraphOf D) (all : List Edge) → EdgesLeft old now [] all → GainsEdges old now all
  edges_end old now all left = record { scopes = left.scopes; edges = left_end old.edges now.edges all left.edges; given = left.given }

  -- ---- data
  pub datum_gained : (old new : GraphOf D) (s : Scope) (d : D) → AddsDatum old new s d → GainsData old new ((s, d) ∷ [])
  datum_gained old new s d adds = record {
    scopes = adds.scopes;
    edges = adds.edges;
    given = gains_one old.given new.given (s, d) (λ q. (
      (λ c. elim ((adds.given q.0 q.1).0 c) [ inl m ↦ inl m | inr e ↦ inr (both q.0 q.1 e.0 e.1) ]),
      (λ h. (adds.given q.0 q.1).1 (elim h [ inl m ↦ inl m | inr e ↦ inr (ap (λ (p : Scope × D). p.0) e, ap (λ (p : Scope × D). p.1) e) ])),
    ));
  }
    where
      both : (t : Scope) (e : D) → t ≡ s → e ≡ d → let p : Scope × D = (t, e) in let q : Scope × D = (s, d) in p ≡ q
      both t e a b = rw (a, b) refl

  pub nothing_gained : (g : GraphOf D) → GainsData g g []
  nothing_gained g = record { scopes = refl; edges = refl; given = gains_none g.given }

  pub data_start : (g : GraphOf D) (all : List (Scope × D)) (keys : List Scope) → g.given ≡ [] → ((s : Scope) → Contains keys s → HasScope g s) → IsDistinct keys → DataLeft g g all all keys
  data_start g all keys none there distinct = record {
    scopes = refl;
    edges = refl;
    given = left_start g.given all;
    there = there;
    none = λ s c d h. let q : Scope × D = (s, d) in nothing_in q (subst (λ (xs : List (Scope × D)). Contains xs q) none h);
    distinct = distinct;
  }

  pub data_next : (old now new : GraphOf D) (s : Scope) (some rest all : List (Scope × D)) (keys : List Scope) → DataLeft old now (some ++ rest) all (s ∷ keys) → ((q : Scope × D) → Contains some q → q.0 ≡ s) → GainsData now new some → DataLeft old new rest all keys
  data_next old now new s some rest all keys left own gains = record {
    scopes = gains.scopes ∙ left.scopes;
    edges = gains.edges ∙ left.edges;
    given = left_next old.given now.given new.given some rest all left.given gains.given;
    there = λ t c. subst (λ (xs : List Scope). Contains xs t) (sym gains.scopes) (left.there t (Contains-tail s t keys c));
    none = λ t c d h. elim ((gains.given (t, d)).0 h) [
      | inl m ↦ left.none t (Contains-tail s t keys c) d m
      | inr m ↦ (left.distinct).0 (subst (λ (x : Scope). Contains keys x) (own (t, d) m) c)
    ];
    distinct = (left.distinct).1;
  }

  pub data_end : (old now : GraphOf D) (all : List (Scope × D)) → DataLeft old now [] all [] → GainsData old now all
  data_end old now all left = record { scopes = left.scopes; edges = left.edges; given = left_end old.given now.given all left.given }

-- ---- the graph of a held graph, part by part

graph_by : {D : Type 0} (a b : GraphOf D) → a.scopes ≡ b.scopes → a.edges ≡ b.edges → a.given ≡ b.given → a ≡ b
graph_by a b s e g = λ i. record { scopes = s i; edges = e i; given = g i }

from_nothing : {X : Type 0} (old new more : List X) → Gains old new more → old ≡ [] → (x : X) → (Contains new x) ↔ (Contains more x)
from_nothing {X} old new more gains none x = (
  (λ c. elim ((gains x).0 c) [ inl n ↦ absurd (nothing_in x (subst (λ (xs : List X). Contains xs x) none n)) | inr m ↦ m ]),
  (λ c. (gains x).1 (inr c)),
)

module _ {D : Type 0} (h g0 g1 : GraphOf D) (sound : IsGraph h) (none : g0 ≡ record { scopes = []; edges = []; given = [] }) (a : GainsScopes g0 g1 h.scopes) where
  pub has_scopes : (s : Scope) → HasScope h s → HasScope g1 s
  has_scopes s c = (a.scopes s).1 (inr c)

  pub has_ends : (e : Edge) → Contains h.edges e → HasScope g1 e.from × HasScope g1 e.to
  has_ends e c = (has_scopes e.from (sound.source e.from e.label e.to c), has_scopes e.to (sound.target e.from e.label e.to c))

  module _ (g2 : GraphOf D) (b : GainsEdges g1 g2 h.edges) where
    pub still_scopes : (s : Scope) → HasScope h s → HasScope g2 s
    still_scopes s c = subst (λ (xs : List Scope). Contains xs s) (sym b.scopes) (has_scopes s c)

    pub still_none : g2.given ≡ []
    still_none = b.given ∙ (a.given ∙ ap (λ (g : GraphOf D). g.given) none)

    module _ (g3 : GraphOf D) (c : GainsData g2 g3 h.given) (up : IsGraph g3) where
      pub same_graph : g3 ≡ h
      same_graph =
          graph_by g3 h
          (rising_one scope_cmp scope_total g3.scopes h.scopes up.scopes_rise sound.scopes_rise (subst (λ (xs : List Scope). (s : Scope) → (Contains xs s) ↔ (Contains h.scopes s)) (sym (c.scopes ∙ b.scopes)) (from_nothing g0.scopes g1.scopes h.scopes a.scopes (ap (λ (g : GraphOf D). g.scopes) none))))
          (rising_one edge_cmp edge_total g3.edges h.edges up.edges_rise sound.edges_rise (subst (λ (xs : List Edge). (e : Edge) → (Contains xs e) ↔ (Contains h.edges e)) (sym c.edges) (from_nothing g1.edges g2.edges h.edges b.edges (a.edges ∙ ap (λ (g : GraphOf D). g.edges) none))))
          (rising_one (on (λ p. p.0) scope_cmp) (on_total (λ p. p.0) scope_total) g3.given h.given (rises_by_keys scope_cmp g3.given up.data_rise) (rises_by_keys scope_cmp h.given sound.data_rise) (from_nothing g2.given g3.given h.given c.given still_none))
