-- The parts of rows, and that writes keep them.
use Rattle.std.proofs.Common.{◌≡◌, ℕ, List, [], ◌∷◌, ◌⊎◌, Bool, true, false, cond, inl, inr, sym, ap, ◌∙◌, subst, refl}
use Rattle.std.specs.List.{Contains}
use Rattle.std.specs.Ordering.{on}
use Rattle.sg_base.specs.declared.scope.Scope.{Scope}
use Rattle.sg_base.specs.Graph.{Edge, HasScope, HasEdge, HasDatum, edge_cmp, edge_total}
use Rattle.sg_base.specs.List.{IsRising}
use Rattle.sg_base.specs.Scope.{scope_cmp}
use Rattle.sg_base.specs.State.{IsOpen, Follows}
use Rattle.sg_base.proofs.Edges.{one_datum}
use Rattle.sg_base.proofs.Finite.{nothing_in, Contains-head, Contains-cons, Contains-tail}
use Rattle.sg_state.specs.Held.{HeldOf, IsHeld, is_given, put, state_of, with_edge}
use Rattle.sg_state.specs.Rest.{KeepsRows, RowsSplit, RestStays}
use Rattle.sg_state.specs.Write.{Write, after, after_all}
use Rattle.sg_state.specs.Write.Write.{fresh, add_edge, set_datum, close_row, end_unit}
use Rattle.sg_state.proofs.Among.{pair_to}
use Rattle.sg_state.proofs.Equals.{equal_edge, held_by}
use Rattle.sg_state.proofs.Extending.{put_from, put_stays, unset_from, writes_extend}
use Rattle.sg_state.proofs.Keyed.{same_key}
use Rattle.sg_state.proofs.RisingLists.{Contains-put, is_put}
use Rattle.sg_state.proofs.Views.{an_edge}

in_or_out : (xs : List Edge) (x : Edge) → Contains xs x ⊎ (Contains xs x → ⊥)
in_or_out [] x = inr (λ c. nothing_in x c)
in_or_out (y ∷ ys) x =
    elim (same_key edge_cmp edge_total equal_edge y x) [
      | inl e ↦ inl (subst (λ (z : Edge). Contains (y ∷ ys) z) (sym e) (Contains-head y ys))
      | inr n ↦ elim (in_or_out ys x) [
        | inl c ↦ inl (Contains-tail y x ys c)
        | inr m ↦ inr (λ c. elim (Contains-cons y x ys c) [ inl e ↦ n e | inr k ↦ m k ])
      ]
    ]

-- ---- the parts are the row

pub rows_split : (D : Type 0) → RowsSplit D
rows_split D key h held = record {
  all = λ s l t. (
    (λ e. elim (in_or_out h.rest (an_edge s l t)) [
      | inl r ↦ inl r
      | inr n ↦ elim (held.rest_or_given s l t e) [ inl r ↦ inl r | inr d ↦ inr (key d.0, (e, n, d.0, d.1, refl)) ]
    ]),
    (λ x. elim x [ inl r ↦ held.rest_edges s l t r | inr k ↦ (k.1).0 ]),
  );
  apart = λ s l k t r x. x.1 r;
  one_key = λ s l j k t a b. sym a.4 ∙ (ap key (one_datum h.graph.given (held.graph).data_rise t a.2 b.2 a.3 b.3) ∙ b.4);
}

-- ---- an edge that is there is added again

pub edge_again : {D : Type 0} (h : HeldOf D) (s : Scope) (l : ℕ) (t : Scope) → IsHeld h → HasEdge h.graph s l t → h ≡ with_edge h (an_edge s l t)
edge_again {D} h s l t held e =
    held_by h (with_edge h (an_edge s l t)) refl (same h.graph.edges (held.graph).edges_rise e) refl refl refl refl (rest_again (is_given h.graph t) refl)
  where
    same : (xs : List Edge) → IsRising edge_cmp xs → Contains xs (an_edge s l t) → xs ≡ put edge_cmp xs (an_edge s l t)
    same xs up c = is_put edge_cmp edge_total xs xs (an_edge s l t) (λ y k. equal_edge (an_edge s l t) y) up up (λ z. ((λ m. inl m), (λ m. elim m [ inl k ↦ k | inr i ↦ subst (λ (y : Edge). Contains xs y) (sym i) c ])))

    rest_again : (b : Bool) → is_given h.graph t ≡ b → h.rest ≡ cond b h.rest (put edge_cmp h.rest (an_edge s l t))
    rest_again true g = refl
    rest_again false g =
        elim (held.rest_or_given s l t e) [
          | inl r ↦ same h.rest held.rest_rises r
          | inr d ↦ absurd (let yes : is_given h.graph t ≡ true = pair_to h.graph.given t d.0 d.1 in cc)
        ]

-- ---- each write keeps the rest

-- the rest stays, and no edge to a scope with a datum becomes one of it; the rest are edges
record KeepsRest {D : Type 0} (before after : HeldOf D) : Type 0 where
  pub stays : (e : Edge) → Contains before.rest e → Contains after.rest e
  pub none : (e : Edge) (d : D) → HasDatum before.graph e.to d → Contains after.rest e → Contains before.rest e
  pub edges : ((e : Edge) → Contains before.rest e → Contains before.graph.edges e) → (e : Edge) → Contains after.rest e → Contains after.graph.edges e

same_rest : {D : Type 0} (before after : HeldOf D) → after.rest ≡ before.rest → after.graph.edges ≡ before.graph.edges → KeepsRest before after
same_rest before after r g = record {
  stays = λ e c. subst (λ (xs : List Edge). Contains xs e) (sym r) c;
  none = λ e d k c. subst (λ (xs : List Edge). Contains xs e) r c;
  edges = λ all e c. subst (λ (xs : List Edge). Contains xs e) (sym g) (all e (subst (λ (xs : List Edge). Contains xs e) r c));
}

abbrev with_rest : {D : Type 0} → HeldOf D → Edge → Bool → HeldOf D
with_rest h x b = record { graph = record { scopes = h.graph.scopes; edges = put edge_cmp h.graph.edges x; given = h.graph.given }; row_holds = h.row_holds; datum_holds = h.datum_holds; made = h.made; rest = cond b h.rest (put edge_cmp h.rest x) }

rest_by : {D : Type 0} (h : HeldOf D) (x : Edge) (b : Bool) → is_given h.graph x.to ≡ b → KeepsRest h (with_rest h x b)
rest_by h x true g = record {
  stays = λ e c. c;
  none = λ e d k c. c;
  edges = λ all e c. put_stays edge_cmp h.graph.edges x e (all e c);
}
rest_by h x false g = record {
  stays = λ e c. put_stays edge_cmp h.rest x e c;
  none = λ e d k c. elim (put_from edge_cmp h.rest x e c) [
    | inl m ↦ m
    | inr i ↦ absurd (let yes : is_given h.graph x.to ≡ true = pair_to h.graph.given x.to d (subst (λ (y : Edge). HasDatum h.graph y.to d) i k) in cc)
  ];
  edges = λ all e c. elim (put_from edge_cmp h.rest x e c) [
    | inl m ↦ put_stays edge_cmp h.graph.edges x e (all e m)
    | inr i ↦ subst (λ (y : Edge). Contains (put edge_cmp h.graph.edges x) y) (sym i) ((Contains-put edge_cmp edge_total h.graph.edges x (λ y k. equal_edge x y) x).1 (inr refl))
  ];
}

one_keeps : {D : Type 0} (h : HeldOf D) (w : Write D) → KeepsRest h (after h w)
one_keeps h (fresh u labels datum) = same_rest h (after h (fresh u labels datum)) refl refl
one_keeps h (add_edge u s l t) = rest_by h (an_edge s l t) (is_given h.graph t) refl
one_keeps h (set_datum u s d) = same_rest h (after h (set_datum u s d)) refl refl
one_keeps h (close_row u s l) = same_rest h (after h (close_row u s l)) refl refl
one_keeps h (end_unit u) = same_rest h (after h (end_unit u)) refl refl

given_stays : {D : Type 0} (h : HeldOf D) (w : Write D) (s : Scope) (d : D) → HasDatum h.graph s d → HasDatum (after h w).graph s d
given_stays h (fresh u labels datum) s d c = c
given_stays h (add_edge u r l t) s d c = c
given_stays h (set_datum u r x) s d c = put_stays (on (λ p. p.0) scope_cmp) h.graph.given (r, x) (s, d) c
given_stays h (close_row u r l) s d c = c
given_stays h (end_unit u) s d c = c

all_keep : {D : Type 0} (ws : List (Write D)) (h : HeldOf D) → KeepsRest h (after_all h ws)
all_keep [] h = same_rest h h refl refl
all_keep (w ∷ ws) h =
    let one = one_keeps h w in
    let more = all_keep ws (after h w) in
    record {
      stays = λ e c. more.stays e (one.stays e c);
      none = λ e d k c. one.none e d k (more.none e d (given_stays h w e.to d k) c);
      edges = λ all e c. more.edges (one.edges all) e c;
    }

module _ {D : Type 0} (key : D → ℕ) (h now : HeldOf D) (held : IsHeld h) (keeps : KeepsRest h now) (follows : Follows (state_of h) (state_of now)) where
  before : (s : Scope) (l : ℕ) (t : Scope) → HasScope h.graph s → (IsOpen (state_of h) s l → ⊥) → HasEdge now.graph s l t → HasEdge h.graph s l t
  before s l t there closed e =
      elim ((follows.extends).further_edges s l t e) [
        | inl k ↦ k
        | inr m ↦ elim m [ inl o ↦ absurd (closed o) | inr n ↦ absurd (n there) ]
      ]

  given_before : (t : Scope) (d : D) → HasDatum h.graph t d → HasScope h.graph t → (x : D) → HasDatum now.graph t x → HasDatum h.graph t x
  given_before t d g there x c =
      elim ((follows.extends).further_given t x c) [
        | inl k ↦ k
        | inr m ↦ elim m [ inl o ↦ absurd (let u = unset_from h t o in held.unset u.0 t d u.1 g) | inr n ↦ absurd (n there) ]
      ]

  rows_kept : KeepsRows key h now
  rows_kept = record {
    rest = λ s l t r. keeps.stays (an_edge s l t) r;
    keyed = λ s l k t x. ((follows.extends).edges s l t x.0, (λ r. x.1 (keeps.none (an_edge s l t) x.2 x.3 r)), x.2, (follows.extends).given t x.2 x.3, x.4);
    closed_rest = λ s l t there closed r. elim (held.rest_or_given s l t (before s l t there closed (keeps.edges (λ e c. held.rest_edges e.from e.label e.to c) (an_edge s l t) r))) [
      | inl c ↦ c
      | inr d ↦ keeps.none (an_edge s l t) d.0 d.1 r
    ];
    closed_keyed = λ s l k t there closed x.
        let e = before s l t there closed x.0 in
        elim (held.rest_or_given s l t e) [
          | inl r ↦ absurd (x.1 (keeps.stays (an_edge s l t) r))
          | inr d ↦ (e, (λ r. x.1 (keeps.stays (an_edge s l t) r)), x.2, given_before t d.0 d.1 ((held.graph).target s l t e) x.2 x.3, x.4)
        ];
  }

pub rest_stays : (D : Type 0) → RestStays D
rest_stays D key h ws held lawful = rows_kept key h (after_all h ws) held (all_keep ws h) (writes_extend D h ws held lawful)
