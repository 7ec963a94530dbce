-- What is settled, and what is looked at, in graphs of two scopes.
use Rattle.std.proofs.Common.{◌≡◌, ℕ, ◌≤◌, List, [], ◌∷◌, ◌++◌, inl, inr, refl, sym, ap, ◌∙◌, subst, length, arith}
use Rattle.std.specs.List.{Contains}
use Rattle.sg_base.specs.declared.scope.Scope.{Scope}
use Rattle.sg_base.specs.declared.step.Step.{Step}
use Rattle.sg_base.specs.Graph.{Edge, HasEdge, IsWalk, IsGraph, HasScope}
use Rattle.sg_base.specs.Label.{Word}
use Rattle.sg_base.specs.List.{MoreThan}
use Rattle.sg_base.specs.Path.{end_of, word_of}
use Rattle.sg_base.specs.State.{State, IsOpen, IsClosedPath}
use Rattle.sg_base.proofs.Finite.{nothing_in, single, Contains-head, Contains-tail, Contains-cons, each_at, pigeons}
use Rattle.sg_expr.specs.Tree.{one_label}
use Rattle.sg_expr.specs.Word.{IsViable, IsContinuable}
use Rattle.sg_query.specs.Answer.{most_paths}
use Rattle.sg_query.specs.Example.{home, away, out_edge, back_edge, out_step, two_scopes, finished, open_row, open_both, unset_datum, open_elsewhere, further_edge, one_step, WaitsAreToldApart, LooksAreToldApart}
use Rattle.sg_query.specs.State.{GoesOnClosed, IsSettled}

-- ---- words and paths

back_nil : (w v : Word) → w ++ v ≡ [] → v ≡ []
back_nil [] v e = e
back_nil (x ∷ w) v e = absurd (cc)

not_nil : (w : Word) (l : ℕ) (v : Word) → (w ++ l ∷ []) ++ v ≡ [] → ⊥
not_nil [] l v e = cc
not_nil (x ∷ w) l v e = cc

-- a path that one step goes on from has no step
no_step_before : (ps : List Step) (l : ℕ) → IsViable (one_label 1) (word_of ps ++ l ∷ []) → (ps ≡ []) × (l ≡ 1)
no_step_before [] l v = let e : l ∷ v.0 ≡ 1 ∷ [] = v.1 in (refl, cc)
no_step_before (p ∷ ps) l v =
    let e : p.label ∷ ((word_of ps ++ l ∷ []) ++ v.0) ≡ 1 ∷ [] = v.1 in
    let rest : (word_of ps ++ l ∷ []) ++ v.0 ≡ [] = cc in
    absurd (not_nil (word_of ps) l v.0 rest)

no_step_behind : (ps : List Step) → IsContinuable (one_label 1) (word_of ps) → ps ≡ []
no_step_behind [] k = refl
no_step_behind (p ∷ ps) k =
    let e : p.label ∷ (word_of ps ++ k.0) ≡ 1 ∷ [] = k.2 in
    let rest : word_of ps ++ k.0 ≡ [] = cc in
    absurd (k.1 (back_nil (word_of ps) k.0 rest))

few_go_on : (h : State ℕ) → MoreThan most_paths (GoesOnClosed h one_step) → ⊥
few_go_on h m =
    let at_most : length m.0 ≤ 1 =
    pigeons m.0 ([] ∷ []) m.2
    (λ ps c. subst (λ (t : List Step). Contains ([] ∷ []) t) (sym (no_step_behind ps (each_at (GoesOnClosed h one_step) m.0 m.3 ps c).1)) (Contains-head [] [])) in
    omega (arith, m.1, at_most)

apart : home ≡ away → ⊥
apart e = let n : 0 ≡ 1 = ap (λ (s : Scope). s.serial) e in omega (arith, n)

no_path : (h : State ℕ) → IsClosedPath h home []
no_path h = ((tt, (nothing_in home, tt)), tt)

out_path : (given open_rows : List (Scope × ℕ)) (unset : List Scope) → (Contains open_rows (home, 1) → ⊥) → IsClosedPath (two_scopes (out_edge ∷ []) given open_rows unset) home (out_step ∷ [])
out_path given open_rows unset shut =
    (((Contains-head out_edge [], tt), ((λ c. apart (single away home c)), (nothing_in away, tt))), (shut, tt))

-- ---- the graph

home_there : HasScope finished.graph home
home_there = Contains-head home (away ∷ [])

away_there : HasScope finished.graph away
away_there = Contains-tail home away (away ∷ []) (Contains-head away [])

only_edge : (s : Scope) (l : ℕ) (t : Scope) → HasEdge finished.graph s l t → record { from = s; label = l; to = t } ≡ out_edge
only_edge s l t e = single out_edge (record { from = s; label = l; to = t }) e

finished_is_sound : IsGraph finished.graph
finished_is_sound = record {
  scopes_rise = ((refl, tt), (tt, tt));
  edges_rise = (tt, tt);
  data_rise = (tt, tt);
  labelled = λ s l t e. let one : l ≡ 1 = ap (λ (x : Edge). x.label) (only_edge s l t e) in omega (arith, one);
  source = λ s l t e. subst (HasScope finished.graph) (sym (ap (λ (x : Edge). x.from) (only_edge s l t e))) home_there;
  target = λ s l t e. subst (HasScope finished.graph) (sym (ap (λ (x : Edge). x.to) (only_edge s l t e))) away_there;
  placed = λ s d e. subst (HasScope finished.graph) (sym (ap (λ (p : Scope × ℕ). p.0) (single (away, 7) (s, d) e))) away_there;
}

-- ---- what waits

not_elsewhere : IsOpen open_elsewhere home 1 → ⊥
not_elsewhere c =
    elim (Contains-cons (home, 2) (home, 1) ((away, 1) ∷ (away, 2) ∷ []) c) [
      | inl e ↦ let n : 1 ≡ 2 = ap (λ (r : Scope × ℕ). r.1) e in omega (arith, n)
      | inr k ↦ elim (Contains-cons (away, 1) (home, 1) ((away, 2) ∷ []) k) [
        | inl e ↦ apart (ap (λ (r : Scope × ℕ). r.0) e)
        | inr j ↦ apart (ap (λ (r : Scope × ℕ). r.0) (single (away, 2) (home, 1) j))
      ]
    ]

ends_away : (ps : List Step) → word_of ps ≡ 1 ∷ [] → IsWalk open_elsewhere.graph home ps → end_of home ps ≡ away
ends_away [] e w = absurd (cc)
ends_away (p ∷ []) e w = ap (λ (x : Edge). x.to) (single out_edge (record { from = home; label = p.label; to = p.to }) w.0)
ends_away (p ∷ r ∷ rs) e w = absurd (cc)

settled_elsewhere : IsSettled open_elsewhere one_step
settled_elsewhere = inl (
  (λ s l b.
      let at = no_step_before b.0 l b.3 in
      let here : s ≡ home = sym b.2 ∙ ap (end_of home) at.0 in
      not_elsewhere (subst (λ (t : Scope). IsOpen open_elsewhere t 1) here (subst (λ (n : ℕ). IsOpen open_elsewhere s n) at.1 b.4))),
  (λ s b. apart (sym (single home s b.4) ∙ (sym b.2 ∙ ends_away b.0 b.3 (b.1).0.0))),
)

-- no closed path goes through the open row
not_through : (ps : List Step) → IsClosedPath open_both home ps → end_of home ps ≡ away → ⊥
not_through [] c e = apart e
not_through (p ∷ ps) c e =
    let along : p.label ≡ 1 = ap (λ (x : Edge). x.label) (single out_edge (record { from = home; label = p.label; to = p.to }) (c.0).0.0) in
    (c.1).0 (subst (λ (n : ℕ). IsOpen open_both home n) (sym along) (Contains-head (home, 1) ((away, 2) ∷ [])))

pub waits_apart : WaitsAreToldApart
waits_apart = record {
  sound = finished_is_sound;
  waits_for_row = λ s. elim s [ inl free ↦ free.0 home 1 ([], no_path open_row, refl, ([], refl), Contains-head (home, 1) []) | inr many ↦ few_go_on open_row many ];
  row_closes = record {
    extends = record { scopes = λ s i. i; edges = λ s l t e. e; given = λ s d e. e; further_edges = λ s l t e. inl e; further_given = λ s d e. inl e };
    rows = λ s l o. absurd (nothing_in (s, l) o);
    data_at = λ s u. absurd (nothing_in s u);
  };
  waits_for_datum = λ s. elim s [
    | inl free ↦ free.1 away (out_step ∷ [], out_path [] [] (away ∷ []) (nothing_in (home, 1)), refl, refl, Contains-head away [])
    | inr many ↦ few_go_on unset_datum many
  ];
  datum_comes = record {
    extends = record {
      scopes = λ s i. i;
      edges = λ s l t e. e;
      given = λ s d e. absurd (nothing_in (s, d) e);
      further_edges = λ s l t e. inl e;
      further_given = λ s d e. inr (inl (subst (λ (t : Scope). Contains (away ∷ []) t) (sym (ap (λ (p : Scope × ℕ). p.0) (single (away, 7) (s, d) e))) (Contains-head away [])));
    };
    rows = λ s l o. absurd (nothing_in (s, l) o);
    data_at = λ s u. absurd (nothing_in s u);
  };
  settled = inl ((λ s l b. nothing_in (s, l) b.4), (λ s b. nothing_in s b.4));
  settled_elsewhere = settled_elsewhere;
  not_yet = λ b. not_through b.0 b.1 b.2;
  row_behind = (
    out_step ∷ [],
    out_path ((away, 7) ∷ []) ((away, 2) ∷ []) [] (λ c. apart (ap (λ (r : Scope × ℕ). r.0) (single (away, 2) (home, 1) c))),
    refl,
    ([], (1 ∷ [], 2 ∷ [], refl, refl, refl)),
    Contains-head (away, 2) [],
  );
  still_blocked = record {
    rows = λ s l b. elim (Contains-cons (home, 1) (s, l) ((away, 2) ∷ []) b.4) [
      | inl e ↦ subst (λ (r : Scope × ℕ). Contains ((home, 1) ∷ []) r) (sym e) (Contains-head (home, 1) [])
      | inr k ↦ absurd (not_through b.0 b.1 (b.2 ∙ ap (λ (r : Scope × ℕ). r.0) (single (away, 2) (s, l) k)))
    ];
    data_at = λ s b. absurd (nothing_in s b.4);
  };
  set_free = λ still.
      let shown : Contains ((away, 2) ∷ []) (home, 1) = still.rows home 1 ([], no_path open_both, refl, (2 ∷ [], (1 ∷ [], 2 ∷ [], refl, refl, refl)), Contains-head (home, 1) ((away, 2) ∷ [])) in
      apart (ap (λ (r : Scope × ℕ). r.0) (single (away, 2) (home, 1) shown));
}

-- ---- what is looked at

not_back : Contains (out_edge ∷ []) back_edge → ⊥
not_back c = apart (sym (ap (λ (x : Edge). x.from) (single out_edge back_edge c)))

is_back : Contains (out_edge ∷ back_edge ∷ []) back_edge
is_back = Contains-tail out_edge back_edge (back_edge ∷ []) (Contains-head back_edge [])

-- an edge from the first scope is there in both graphs or in none
same_edges : (l : ℕ) (s t : Scope) → s ≡ home → HasEdge further_edge.graph s l t → HasEdge finished.graph s l t
same_edges l s t here c =
    elim (Contains-cons out_edge (record { from = s; label = l; to = t }) (back_edge ∷ []) c) [
      | inl e ↦ subst (λ (x : Edge). Contains (out_edge ∷ []) x) (sym e) (Contains-head out_edge [])
      | inr k ↦ absurd (apart (sym here ∙ ap (λ (x : Edge). x.from) (single back_edge (record { from = s; label = l; to = t }) k)))
    ]

same_edge : (x : Edge) → Contains (out_edge ∷ []) x → Contains (out_edge ∷ back_edge ∷ []) x
same_edge x c = subst (λ (y : Edge). Contains (out_edge ∷ back_edge ∷ []) y) (sym (single out_edge x c)) (Contains-head out_edge (back_edge ∷ []))

pub looks_apart : LooksAreToldApart
looks_apart = record {
  row_open = λ i. i.2 (Contains-head (home, 1) []);
  row_closed = (no_path finished, ([], refl), nothing_in (home, 1));
  datum_unset = λ i. i.2 (Contains-head away []);
  datum_set = (out_path ((away, 7) ∷ []) [] [] (nothing_in (home, 1)), refl, nothing_in away);
  may_not_come = λ x. elim (x.further_edges away 2 home is_back) [
    | inl old ↦ not_back old
    | inr other ↦ elim other [ inl o ↦ nothing_in (away, 2) o | inr m ↦ m away_there ]
  ];
  alike = record {
    edges = λ ps l t c v o. (
      same_edge (record { from = end_of home ps; label = l; to = t }),
      same_edges l (end_of home ps) t (ap (end_of home) (no_step_before ps l v).0),
    );
    rows = λ ps l c v o. absurd (nothing_in (end_of home ps, l) o);
    given = λ ps d c i u. ((λ e. e), (λ e. e));
    unset = λ ps c i u. absurd (nothing_in (end_of home ps) u);
  };
  unlike = λ a.
      not_back ((a.edges (out_step ∷ []) 2 home (out_path ((away, 7) ∷ []) [] [] (nothing_in (home, 1))) ([], (1 ∷ [], 2 ∷ [], refl, refl, refl)) (nothing_in (away, 2))).1 is_back);
}
