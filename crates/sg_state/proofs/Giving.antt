-- The scopes of an opening get what they have, one thing after another.
use Rattle.std.proofs.Common.{◌≡◌, ℕ, zero, suc, ◌+◌, ◌<◌, List, [], ◌∷◌, ◌++◌, ◌⊎◌, ◌↔◌, inl, inr, refl, sym, ap, ◌∙◌, subst, map, length, take, get_or, arith}
use Rattle.std.proofs.lemmas.List.{take_more}
use Rattle.std.proofs.lemmas.List.Elements.{Contains-append_cases, Contains-append_left, Contains-append_right, Contains-push}
use Rattle.std.specs.BTreeMap.{insert_entry}
use Rattle.std.specs.List.{Contains}
use Rattle.sg_base.specs.declared.scope.Scope.{Scope}
use Rattle.sg_base.specs.Graph.{Edge}
use Rattle.sg_base.specs.List.{IsDistinct, IsRising}
use Rattle.sg_base.specs.Scope.{scope_cmp, scope_total}
use Rattle.sg_base.proofs.Finite.{nothing_in, single, Contains-head, Contains-cons, Contains-tail, map-Contains, Contains-map, each_from, each_at}
use Rattle.sg_base.proofs.Scopes.{equal_scope}
use Rattle.sg_state.specs.declared.slot.Slot.{Slot}
use Rattle.sg_state.specs.declared.slot.Slot.TheVariants.{Given, Waits, Empty}
use Rattle.sg_state.specs.Held.{RowHold, DatumHold}
use Rattle.sg_state.specs.Place.{PlaceOf, HasTarget, HasHolder, IsPlace, KeepsPlace, AddsTarget, AddsHolder}
use Rattle.sg_state.specs.Opening.{held_datum_of}
use Rattle.sg_state.specs.View.{ArePlaces, AreBare, ChangesPlace, Gives, HasKey, EdgeAt, HoldAt, SlotAt, IsListed, KeepsLists}
use Rattle.sg_state.proofs.Changing.{changed_places}
use Rattle.sg_state.proofs.Keyed.{found-Contains, insert_adds, at_inserts, at_adds, at_changes, at_here}
use Rattle.sg_state.proofs.Views.{an_edge, a_row_hold, a_datum_hold, key_from, key_to}
use Rattle.sg_state.proofs.Equals.{row_hold_by, datum_hold_by}
use Rattle.sg_state.proofs.Writing.{keys_stay, keeps_edges, keeps_holds, keeps_slots}
use Rattle.sg_base.proofs.Scopes.{edge_by}

-- ---- one more thing of a list

pub one_more : {X : Type 0} (list : List X) (i : ℕ) (d : X) → i < length list → (x : X) → (Contains (take (i + 1) list) x) ↔ (Contains (take i list) x ⊎ (x ≡ get_or list i d))
one_more {X} list i d lt x =
    rw (take_more list i d lt) (
      (λ c. elim (Contains-append_cases (take i list) (get_or list i d ∷ []) x c) [ inl k ↦ inl k | inr k ↦ inr (single (get_or list i d) x k) ]),
      (λ h. elim h [
        | inl k ↦ Contains-append_left (take i list) (get_or list i d ∷ []) x k
        | inr e ↦ subst (λ (t : X). Contains (take i list ++ get_or list i d ∷ []) t) (sym e) (Contains-push (take i list) (get_or list i d))
      ]),
    )

pub one_more_map : {X Y : Type 0} (f : X → Y) (list : List X) (i : ℕ) (d : X) → i < length list → (y : Y) → (Contains (map f (take (i + 1) list)) y) ↔ (Contains (map f (take i list)) y ⊎ (y ≡ f (get_or list i d)))
one_more_map {X} {Y} f list i d lt y = (
  (λ c.
      let h = Contains-map f (take (i + 1) list) y c in
      elim ((one_more list i d lt h.0).0 h.1) [
        | inl k ↦ inl (subst (λ (z : Y). Contains (map f (take i list)) z) (sym h.2) (map-Contains f (take i list) h.0 k))
        | inr e ↦ inr (h.2 ∙ ap f e)
      ]),
  (λ h. elim h [
    | inl c ↦
        let k = Contains-map f (take i list) y c in
        subst (λ (z : Y). Contains (map f (take (i + 1) list)) z) (sym k.2) (map-Contains f (take (i + 1) list) k.0 ((one_more list i d lt k.0).1 (inl k.1)))
    | inr e ↦ subst (λ (z : Y). Contains (map f (take (i + 1) list)) z) (sym e) (map-Contains f (take (i + 1) list) (get_or list i d) ((one_more list i d lt (get_or list i d)).1 (inr refl)))
  ]),
)

pub at_place : {X : Type 0} (list : List X) (i : ℕ) (d : X) → i < length list → Contains list (get_or list i d)
at_place [] i d lt = absurd (omega (arith, lt))
at_place (x ∷ xs) zero d lt = Contains-head x xs
at_place (x ∷ xs) (suc i) d lt = Contains-tail x (get_or xs i d) xs (at_place xs i d (omega (arith, lt)))

pub at_place_map : {X Y : Type 0} (f : X → Y) (list : List X) (i : ℕ) (d : X) → i < length list → Contains (map f list) (f (get_or list i d))
at_place_map f list i d lt = map-Contains f list (get_or list i d) (at_place list i d lt)

-- what stands at a place of a list with distinct images has an image that is not one of those before it
pub new_image : {X Y : Type 0} (f : X → Y) (list : List X) (i : ℕ) (d : X) → i < length list → IsDistinct (map f list) → Contains (map f (take i list)) (f (get_or list i d)) → ⊥
new_image f [] i d lt distinct c = absurd (omega (arith, lt))
new_image f (x ∷ xs) zero d lt distinct c = nothing_in (f x) c
new_image {X} {Y} f (x ∷ xs) (suc i) d lt distinct c =
    elim (Contains-cons (f x) (f (get_or xs i d)) (map f (take i xs)) c) [
      | inl e ↦ distinct.0 (subst (λ (y : Y). Contains (map f xs) y) e (at_place_map f xs i d (omega (arith, lt))))
      | inr m ↦ new_image f xs i d (omega (arith, lt)) distinct.1 m
    ]

pub new_thing : {X : Type 0} (list : List X) (i : ℕ) (d : X) → i < length list → IsDistinct list → Contains (take i list) (get_or list i d) → ⊥
new_thing [] i d lt distinct c = absurd (omega (arith, lt))
new_thing (x ∷ xs) zero d lt distinct c = nothing_in x c
new_thing {X} (x ∷ xs) (suc i) d lt distinct c =
    elim (Contains-cons x (get_or xs i d) (take i xs) c) [
      | inl e ↦ distinct.0 (subst (λ (y : X). Contains xs y) e (at_place xs i d (omega (arith, lt))))
      | inr m ↦ new_thing xs i d (omega (arith, lt)) distinct.1 m
    ]

-- ---- places with nothing

pub bare_none : {D : Type 0} (es : List (Scope × PlaceOf D)) → es ≡ [] → AreBare es []
bare_none {D} es e = rw e (record {
  places = record { keys_rise = tt; each = tt };
  keys = λ s. ((λ h. absurd (nothing_in (s, h.0) h.1)), (λ c. absurd (nothing_in s c)));
  edges = λ s l t h. nothing_in (s, h.0) h.1;
  holds = λ s l u h. nothing_in (s, h.0) h.1;
  empty = λ s p c. absurd (nothing_in (s, p) c);
})

pub bare_more : {D : Type 0} (es : List (Scope × PlaceOf D)) (xs ys : List Scope) (s : Scope) (p : PlaceOf D) → p ≡ record { rows = []; slot = Empty } → AreBare es xs → (Contains xs s → ⊥) → ((x : Scope) → (Contains ys x) ↔ (Contains xs x ⊎ (x ≡ s))) → IsRising scope_cmp (map (λ q. q.0) (insert_entry scope_cmp es s p)) → AreBare (insert_entry scope_cmp es s p) ys
bare_more {D} es xs ys s p bare b none more up = record {
  places = record {
    keys_rise = up;
    each = each_from (λ (q : Scope × PlaceOf D). IsPlace q.1) (insert_entry scope_cmp es s p) (λ q c. elim ((adds q).0 c) [
      | inl k ↦ each_at (λ (q : Scope × PlaceOf D). IsPlace q.1) es (b.places).each q k
      | inr e ↦ subst (λ (x : Scope × PlaceOf D). IsPlace x.1) (sym e) (rw bare (record { labels_rise = tt; labelled = tt; targets_rise = tt; holders_rise = tt }))
    ]);
  };
  keys = λ j. (
    (λ h. (more j).1 (elim ((adds (j, h.0)).0 h.1) [ inl c ↦ inl ((b.keys j).0 (h.0, c)) | inr e ↦ inr (ap (λ (q : Scope × PlaceOf D). q.0) e) ])),
    (λ c. elim ((more j).0 c) [
      | inl k ↦ let h = (b.keys j).1 k in (h.0, (adds (j, h.0)).1 (inl h.1))
      | inr e ↦ (p, (adds (j, p)).1 (inr (ap (λ (x : Scope). let q : Scope × PlaceOf D = (x, p) in q) e)))
    ]),
  );
  edges = λ j l t h. elim ((at (λ (q : PlaceOf D). HasTarget q l t) j).0 h) [ inl k ↦ b.edges j l t k | inr k ↦ no_target l t k.1 ];
  holds = λ j l u h. elim ((at (λ (q : PlaceOf D). HasHolder q l u) j).0 h) [ inl k ↦ b.holds j l u k | inr k ↦ no_holder l u k.1 ];
  empty = λ j q c. elim ((adds (j, q)).0 c) [
    | inl k ↦ b.empty j q k
    | inr e ↦ ap (λ (x : Scope × PlaceOf D). (x.1).slot) e ∙ ap (λ (x : PlaceOf D). x.slot) bare
  ];
}
  where
    absent : (q : PlaceOf D) → Contains es (s, q) → ⊥
    absent q c = none ((b.keys s).0 (q, c))

    adds : (q : Scope × PlaceOf D) → (Contains (insert_entry scope_cmp es s p) q) ↔ (Contains es q ⊎ (q ≡ (s, p)))
    adds q = insert_adds scope_cmp scope_total equal_scope es s p absent q

    at : (A : PlaceOf D → Type 0) (j : Scope) → ((q : PlaceOf D) × Contains (insert_entry scope_cmp es s p) (j, q) × A q) ↔ (((q : PlaceOf D) × Contains es (j, q) × A q) ⊎ ((j ≡ s) × A p))
    at A j = at_inserts scope_cmp scope_total equal_scope es s p absent A j

    no_target : (l : ℕ) (t : Scope) → HasTarget p l t → ⊥
    no_target l t h = let k : HasTarget {D = D} (record { rows = []; slot = Empty }) l t = subst (λ (x : PlaceOf D). HasTarget x l t) bare h in nothing_in (l, k.0) k.1

    no_holder : (l u : ℕ) → HasHolder p l u → ⊥
    no_holder l u h = let k : HasHolder {D = D} (record { rows = []; slot = Empty }) l u = subst (λ (x : PlaceOf D). HasHolder x l u) bare h in nothing_in (l, k.0) k.1

-- ---- one more thing of the opening

-- what is new is what was new, and one thing more
grow : (O M N C E B : Type 0) → ((N) ↔ (M ⊎ E)) → ((M) ↔ (O ⊎ C)) → ((B) ↔ (C ⊎ E)) → (N) ↔ (O ⊎ B)
grow O M N C E B n m b = (
  (λ x. elim (n.0 x) [
    | inl y ↦ elim (m.0 y) [ inl o ↦ inl o | inr c ↦ inr (b.1 (inl c)) ]
    | inr e ↦ inr (b.1 (inr e))
  ]),
  (λ x. n.1 (elim x [
    | inl o ↦ inl (m.1 (inl o))
    | inr y ↦ elim (b.0 y) [ inl c ↦ inl (m.1 (inr c)) | inr e ↦ inr e ]
  ])),
)

keep : (M N X : Type 0) → ((N) ↔ (M)) → ((M) ↔ (X)) → (N) ↔ (X)
keep M N X n m = ((λ x. m.0 (n.0 x)), (λ x. n.1 (m.1 x)))

pub gives_none : {D : Type 0} (es : List (Scope × PlaceOf D)) → ArePlaces es → Gives es es [] [] [] []
gives_none es ok = record {
  places = ok;
  keys = refl;
  edges = λ s l t. ((λ h. inl h), (λ h. elim h [ inl a ↦ a | inr c ↦ absurd (nothing_in (an_edge s l t) c) ]));
  holds = λ s l u. ((λ h. inl h), (λ h. elim h [ inl a ↦ a | inr c ↦ absurd (nothing_in (a_row_hold s l u) c) ]));
  given = λ s d. ((λ h. inl h), (λ h. elim h [ inl a ↦ a | inr c ↦ absurd (nothing_in (s, d) c) ]));
  waits = λ s u. ((λ h. inl h), (λ h. elim h [ inl a ↦ a | inr c ↦ absurd (nothing_in (a_datum_hold s u) c) ]));
  empty = λ s h n m. h;
}

module _ {D : Type 0} (old mid new : List (Scope × PlaceOf D)) (edges : List Edge) (rows : List RowHold) (given : List (Scope × D)) (held : List DatumHold) (s : Scope) (g : Gives old mid edges rows given held) where
  still_there : (j : Scope) → HasKey old j → HasKey mid j
  still_there j h = key_from mid j (subst (λ (xs : List Scope). Contains xs j) (sym g.keys) (key_to old j h))

  pub here_still : HasKey old s → HasKey mid s
  here_still h = still_there s h

  pub gives_edge : (l : ℕ) (t : Scope) (longer : List Edge) → ((e : Edge) → (Contains longer e) ↔ (Contains edges e ⊎ (e ≡ an_edge s l t))) → ChangesPlace (λ p q. AddsTarget p q l t) mid new s → Gives old new longer rows given held
  gives_edge l t longer more h =
      let ok : ArePlaces mid = g.places in
      let here = found-Contains scope_cmp scope_total equal_scope mid s h.0 h.2 in
      record {
        places = changed_places mid s ok (λ p q. AddsTarget p q l t) new h;
        keys = keys_stay mid new [] s ok h.0 h.1 h.2 h.3 ∙ g.keys;
        edges = λ j m x. grow (EdgeAt old j m x) (EdgeAt mid j m x) (EdgeAt new j m x) (Contains edges (an_edge j m x)) ((j ≡ s) × ((m ≡ l) × (x ≡ t))) (Contains longer (an_edge j m x))
            (rw h.3 (at_adds scope_cmp scope_total equal_scope mid ok.keys_rise s h.0 h.1 here (λ (y : PlaceOf D). HasTarget y m x) ((m ≡ l) × (x ≡ t)) ((h.4).targets m x) j))
            (g.edges j m x) (
              (λ c. elim ((more (an_edge j m x)).0 c) [ inl k ↦ inl k | inr e ↦ inr (ap (λ (y : Edge). y.from) e, (ap (λ (y : Edge). y.label) e, ap (λ (y : Edge). y.to) e)) ]),
              (λ c. (more (an_edge j m x)).1 (elim c [ inl k ↦ inl k | inr e ↦ inr (edge_by (an_edge j m x) (an_edge s l t) e.0 (e.1).0 (e.1).1) ])),
            );
        holds = λ j m u. keep (HoldAt mid j m u) (HoldAt new j m u) (HoldAt old j m u ⊎ Contains rows (a_row_hold j m u)) (keeps_holds mid new [] s ok h.0 h.1 h.2 h.3 (h.4).holders j m u) (g.holds j m u);
        given = λ j d. keep (SlotAt mid j (Given d)) (SlotAt new j (Given d)) (SlotAt old j (Given d) ⊎ Contains given (j, d)) (keeps_slots mid new [] s ok h.0 h.1 h.2 h.3 (h.4).slot j (Given d)) (g.given j d);
        waits = λ j u. keep (SlotAt mid j (Waits u)) (SlotAt new j (Waits u)) (SlotAt old j (Waits u) ⊎ Contains held (a_datum_hold j u)) (keeps_slots mid new [] s ok h.0 h.1 h.2 h.3 (h.4).slot j (Waits u)) (g.waits j u);
        empty = λ j e n m. (keeps_slots mid new [] s ok h.0 h.1 h.2 h.3 (h.4).slot j Empty).1 (g.empty j e n m);
      }

  pub gives_row : (l u : ℕ) (longer : List RowHold) → ((k : RowHold) → (Contains longer k) ↔ (Contains rows k ⊎ (k ≡ a_row_hold s l u))) → ChangesPlace (λ p q. AddsHolder p q l u) mid new s → Gives old new edges longer given held
  gives_row l u longer more h =
      let ok : ArePlaces mid = g.places in
      let here = found-Contains scope_cmp scope_total equal_scope mid s h.0 h.2 in
      record {
        places = changed_places mid s ok (λ p q. AddsHolder p q l u) new h;
        keys = keys_stay mid new [] s ok h.0 h.1 h.2 h.3 ∙ g.keys;
        edges = λ j m x. keep (EdgeAt mid j m x) (EdgeAt new j m x) (EdgeAt old j m x ⊎ Contains edges (an_edge j m x)) (keeps_edges mid new [] s ok h.0 h.1 h.2 h.3 (h.4).targets j m x) (g.edges j m x);
        holds = λ j m v. grow (HoldAt old j m v) (HoldAt mid j m v) (HoldAt new j m v) (Contains rows (a_row_hold j m v)) ((j ≡ s) × ((m ≡ l) × (v ≡ u))) (Contains longer (a_row_hold j m v))
            (rw h.3 (at_adds scope_cmp scope_total equal_scope mid ok.keys_rise s h.0 h.1 here (λ (y : PlaceOf D). HasHolder y m v) ((m ≡ l) × (v ≡ u)) ((h.4).holders m v) j))
            (g.holds j m v) (
              (λ c. elim ((more (a_row_hold j m v)).0 c) [ inl k ↦ inl k | inr e ↦ inr (ap (λ (y : RowHold). y.scope) e, (ap (λ (y : RowHold). y.label) e, ap (λ (y : RowHold). y.unit) e)) ]),
              (λ c. (more (a_row_hold j m v)).1 (elim c [ inl k ↦ inl k | inr e ↦ inr (row_hold_by (a_row_hold j m v) (a_row_hold s l u) e.0 (e.1).0 (e.1).1) ])),
            );
        given = λ j d. keep (SlotAt mid j (Given d)) (SlotAt new j (Given d)) (SlotAt old j (Given d) ⊎ Contains given (j, d)) (keeps_slots mid new [] s ok h.0 h.1 h.2 h.3 (h.4).slot j (Given d)) (g.given j d);
        waits = λ j v. keep (SlotAt mid j (Waits v)) (SlotAt new j (Waits v)) (SlotAt old j (Waits v) ⊎ Contains held (a_datum_hold j v)) (keeps_slots mid new [] s ok h.0 h.1 h.2 h.3 (h.4).slot j (Waits v)) (g.waits j v);
        empty = λ j e n m. (keeps_slots mid new [] s ok h.0 h.1 h.2 h.3 (h.4).slot j Empty).1 (g.empty j e n m);
      }

  -- ---- a datum where there was none

  module _ (x : Slot D) (some : x ≡ Empty → ⊥) (h : ChangesPlace (λ p q. q ≡ record { rows = p.rows; slot = x }) mid new s) (none : SlotAt mid s Empty) where
    here : Contains mid (s, h.0)
    here = found-Contains scope_cmp scope_total equal_scope mid s h.0 h.2

    was : (h.0).slot ≡ Empty
    was = at_here scope_cmp scope_total equal_scope mid (g.places).keys_rise s h.0 h.1 here (λ (y : PlaceOf D). y.slot ≡ Empty) none

    now : (h.1).slot ≡ x
    now = ap (λ (y : PlaceOf D). y.slot) h.4

    rows_same : (h.1).rows ≡ (h.0).rows
    rows_same = ap (λ (y : PlaceOf D). y.rows) h.4

    slot_set : (y : Slot D) → (y ≡ Empty → ⊥) → (j : Scope) → (SlotAt new j y) ↔ (SlotAt mid j y ⊎ ((j ≡ s) × (y ≡ x)))
    slot_set y full j =
        rw h.3 (at_adds scope_cmp scope_total equal_scope mid (g.places).keys_rise s h.0 h.1 here (λ (z : PlaceOf D). z.slot ≡ y) (y ≡ x)
        ((λ e. inr (sym e ∙ now)), (λ c. elim c [ inl e ↦ absurd (full (sym e ∙ was)) | inr e ↦ now ∙ sym e ])) j)

    slot_kept : (j : Scope) → (j ≡ s → ⊥) → SlotAt mid j Empty → SlotAt new j Empty
    slot_kept j n e =
        subst (λ (xs : List (Scope × PlaceOf D)). SlotAt xs j Empty) (sym h.3)
        ((at_changes scope_cmp scope_total equal_scope mid (g.places).keys_rise s h.0 h.1 here (λ (z : PlaceOf D). z.slot ≡ Empty) (λ (i : Scope). i ≡ s → ⊥)
        ((λ e. absurd (some (sym now ∙ e))), (λ e. absurd (e.0 refl))) (λ i n. n) j).1 (n, e))

    slot_edges : (j : Scope) (m : ℕ) (t : Scope) → (EdgeAt new j m t) ↔ (EdgeAt old j m t ⊎ Contains edges (an_edge j m t))
    slot_edges j m t = keep (EdgeAt mid j m t) (EdgeAt new j m t) (EdgeAt old j m t ⊎ Contains edges (an_edge j m t)) (keeps_edges mid new [] s g.places h.0 h.1 h.2 h.3 (λ m t. rw rows_same ((λ a. a), (λ a. a))) j m t) (g.edges j m t)

    slot_holds : (j : Scope) (m u : ℕ) → (HoldAt new j m u) ↔ (HoldAt old j m u ⊎ Contains rows (a_row_hold j m u))
    slot_holds j m u = keep (HoldAt mid j m u) (HoldAt new j m u) (HoldAt old j m u ⊎ Contains rows (a_row_hold j m u)) (keeps_holds mid new [] s g.places h.0 h.1 h.2 h.3 (λ m u. rw rows_same ((λ a. a), (λ a. a))) j m u) (g.holds j m u)

    slot_other : (y : Slot D) → (y ≡ Empty → ⊥) → (y ≡ x → ⊥) → (j : Scope) → (SlotAt new j y) ↔ (SlotAt mid j y)
    slot_other y full other j =
        let k = slot_set y full j in
        ((λ a. elim (k.0 a) [ inl b ↦ b | inr e ↦ absurd (other e.1) ]), (λ a. k.1 (inl a)))

  pub gives_given : (d : D) (longer : List (Scope × D)) → ((q : Scope × D) → (Contains longer q) ↔ (Contains given q ⊎ (q ≡ (s, d)))) → ChangesPlace (λ p q. q ≡ record { rows = p.rows; slot = Given d }) mid new s → SlotAt mid s Empty → Gives old new edges rows longer held
  gives_given d longer more h none = record {
    places = changed_places mid s g.places (λ p q. q ≡ record { rows = p.rows; slot = Given d }) new h;
    keys = keys_stay mid new [] s g.places h.0 h.1 h.2 h.3 ∙ g.keys;
    edges = slot_edges (Given d) (given_full d) h none;
    holds = slot_holds (Given d) (given_full d) h none;
    given = λ j e. grow (SlotAt old j (Given e)) (SlotAt mid j (Given e)) (SlotAt new j (Given e)) (Contains given (j, e)) ((j ≡ s) × (Given e ≡ Given d)) (Contains longer (j, e))
        (slot_set (Given d) (given_full d) h none (Given e) (given_full e) j) (g.given j e) (
          (λ c. elim ((more (j, e)).0 c) [ inl k ↦ inl k | inr q ↦ inr (ap (λ (z : Scope × D). z.0) q, ap (λ (z : Scope × D). Given z.1) q) ]),
          (λ c. (more (j, e)).1 (elim c [ inl k ↦ inl k | inr q ↦ inr (ap (λ (x : Scope). let z : Scope × D = (x, e) in z) q.0 ∙ ap (λ (x : D). let z : Scope × D = (s, x) in z) (given_one e d q.1)) ])),
        );
    waits = λ j u. keep (SlotAt mid j (Waits u)) (SlotAt new j (Waits u)) (SlotAt old j (Waits u) ⊎ Contains held (a_datum_hold j u)) (slot_other (Given d) (given_full d) h none (Waits u) (waits_full u) (waits_given u d) j) (g.waits j u);
    empty = λ j e n m. slot_kept (Given d) (given_full d) h none j
        (λ same. n (subst (λ (x : Scope). Contains (map (λ p. p.0) longer) x) (sym same) (map-Contains (λ (p : Scope × D). p.0) longer (s, d) ((more (s, d)).1 (inr refl)))))
        (g.empty j e (λ c. (let k = Contains-map (λ (p : Scope × D). p.0) given j c in n (subst (λ (x : Scope). Contains (map (λ p. p.0) longer) x) (sym k.2) (map-Contains (λ (p : Scope × D). p.0) longer k.0 ((more k.0).1 (inl k.1)))))) m);
  }
    where
      given_full : (e : D) → Given e ≡ Empty → ⊥
      given_full e k = cc

      waits_full : (u : ℕ) → (let y : Slot D = Waits u in y) ≡ Empty → ⊥
      waits_full u k = cc

      waits_given : (u : ℕ) (e : D) → Waits u ≡ Given e → ⊥
      waits_given u e k = cc

      given_one : (a b : D) → Given a ≡ Given b → a ≡ b
      given_one a b e = cc

  pub gives_datum : (u : ℕ) (longer : List DatumHold) → ((k : DatumHold) → (Contains longer k) ↔ (Contains held k ⊎ (k ≡ a_datum_hold s u))) → ChangesPlace (λ p q. q ≡ record { rows = p.rows; slot = Waits u }) mid new s → SlotAt mid s Empty → Gives old new edges rows given longer
  gives_datum u longer more h none = record {
    places = changed_places mid s g.places (λ p q. q ≡ record { rows = p.rows; slot = Waits u }) new h;
    keys = keys_stay mid new [] s g.places h.0 h.1 h.2 h.3 ∙ g.keys;
    edges = slot_edges (Waits u) (waits_full u) h none;
    holds = slot_holds (Waits u) (waits_full u) h none;
    given = λ j d. keep (SlotAt mid j (Given d)) (SlotAt new j (Given d)) (SlotAt old j (Given d) ⊎ Contains given (j, d)) (slot_other (Waits u) (waits_full u) h none (Given d) (given_full d) (given_waits u d) j) (g.given j d);
    waits = λ j v. grow (SlotAt old j (Waits v)) (SlotAt mid j (Waits v)) (SlotAt new j (Waits v)) (Contains held (a_datum_hold j v)) ((j ≡ s) × ((let y : Slot D = Waits v in y) ≡ Waits u)) (Contains longer (a_datum_hold j v))
        (slot_set (Waits u) (waits_full u) h none (Waits v) (waits_full v) j) (g.waits j v) (
          (λ c. elim ((more (a_datum_hold j v)).0 c) [ inl k ↦ inl k | inr q ↦ inr (ap (λ (z : DatumHold). z.scope) q, ap (λ (z : DatumHold). let y : Slot D = Waits z.unit in y) q) ]),
          (λ c. (more (a_datum_hold j v)).1 (elim c [ inl k ↦ inl k | inr q ↦ inr (datum_hold_by (a_datum_hold j v) (a_datum_hold s u) q.0 (waits_one v u q.1)) ])),
        );
    empty = λ j e n m. slot_kept (Waits u) (waits_full u) h none j
        (λ same. m (subst (λ (x : Scope). Contains (map (λ k. k.scope) longer) x) (sym same) (map-Contains (λ (k : DatumHold). k.scope) longer (a_datum_hold s u) ((more (a_datum_hold s u)).1 (inr refl)))))
        (g.empty j e n (λ c. (let k = Contains-map (λ (k : DatumHold). k.scope) held j c in m (subst (λ (x : Scope). Contains (map (λ k. k.scope) longer) x) (sym k.2) (map-Contains (λ (k : DatumHold). k.scope) longer k.0 ((more k.0).1 (inl k.1)))))));
  }
    where
      given_full : (e : D) → Given e ≡ Empty → ⊥
      given_full e k = cc

      waits_full : (u : ℕ) → (let y : Slot D = Waits u in y) ≡ Empty → ⊥
      waits_full u k = cc

      given_waits : (u : ℕ) (e : D) → Given e ≡ Waits u → ⊥
      given_waits u e k = cc

      waits_one : (a b : ℕ) → (let y : Slot D = Waits a in y) ≡ Waits b → a ≡ b
      waits_one a b e = cc

-- ---- a row that is made, and then a target

pub keeps_then_target : {D : Type 0} (old mid new : PlaceOf D) (l : ℕ) (t : Scope) → KeepsPlace old mid → AddsTarget mid new l t → AddsTarget old new l t
keeps_then_target old mid new l t k a = record {
  targets = λ m x. (
    (λ h. elim ((a.targets m x).0 h) [ inl y ↦ inl ((k.targets m x).0 y) | inr e ↦ inr e ]),
    (λ h. (a.targets m x).1 (elim h [ inl y ↦ inl ((k.targets m x).1 y) | inr e ↦ inr e ])),
  );
  holders = λ m u. ((λ h. (k.holders m u).0 ((a.holders m u).0 h)), (λ h. (a.holders m u).1 ((k.holders m u).1 h)));
  slot = a.slot ∙ k.slot;
}

-- ---- what a loop over a list has done, and its next thing

module _ {X : Type 0} (list : List X) (i : ℕ) (x : X) (is : x ≡ get_or list i x) (lt : i < length list) where
  pub next_there : Contains list x
  next_there = subst (λ (y : X). Contains list y) (sym is) (at_place list i x lt)

  pub next_more : {Y : Type 0} (f : X → Y) (y : Y) → (Contains (map f (take (i + 1) list)) y) ↔ (Contains (map f (take i list)) y ⊎ (y ≡ f x))
  next_more {Y} f y =
      let more = one_more_map f list i x lt y in (
        (λ c. elim (more.0 c) [ inl k ↦ inl k | inr e ↦ inr (e ∙ ap f (sym is)) ]),
        (λ h. more.1 (elim h [ inl k ↦ inl k | inr e ↦ inr (e ∙ ap f is) ])),
      )

  pub next_in : {Y : Type 0} (f : X → Y) → Contains (map f list) (f x)
  next_in {Y} f = map-Contains f list x next_there

  pub next_new : {Y : Type 0} (f : X → Y) → IsDistinct (map f list) → Contains (map f (take i list)) (f x) → ⊥
  next_new {Y} f distinct c = new_image f list i x lt distinct (subst (λ (y : Y). Contains (map f (take i list)) y) (ap f is) c)

-- the images of images
pub Contains-twice : {X Y Z : Type 0} (f : X → Y) (g : Y → Z) (xs : List X) (z : Z) → Contains (map g (map f xs)) z → Contains (map (λ x. g (f x)) xs) z
Contains-twice {X} {Y} {Z} f g xs z c =
    let y = Contains-map g (map f xs) z c in
    let x = Contains-map f xs y.0 y.1 in
    subst (λ (w : Z). Contains (map (λ x. g (f x)) xs) w) (ap g (sym x.2) ∙ sym y.2) (map-Contains (λ (x : X). g (f x)) xs x.0 x.1)

-- what was noted stays so, and the next thing is noted
module _ {X : Type 0} (unit_of : X → ℕ) (scope_of : X → Scope) (xs ys : List X) (x : X) (more : (y : X) → (Contains ys y) ↔ (Contains xs y ⊎ (y ≡ x))) (old new : List (ℕ × List Scope)) where
  pub noted_more : KeepsLists old new → IsListed new (unit_of x) (scope_of x) → ((y : X) → Contains xs y → IsListed old (unit_of y) (scope_of y)) → (y : X) → Contains ys y → IsListed new (unit_of y) (scope_of y)
  noted_more keeps here before y c =
      elim ((more y).0 c) [
        | inl k ↦ keeps (unit_of y) (scope_of y) (before y k)
        | inr e ↦ subst (λ (z : X). IsListed new (unit_of z) (scope_of z)) (sym e) here
      ]

-- a scope that has got no datum yet
pub datum_ready : {D : Type 0} (old mid : List (Scope × PlaceOf D)) (list : List (ℕ × Scope)) (i : ℕ) (x : ℕ × Scope) → Gives old mid [] [] [] (map held_datum_of (take i list)) → SlotAt old x.1 Empty → (Contains (map (λ k. k.1) (take i list)) x.1 → ⊥) → SlotAt mid x.1 Empty
datum_ready old mid list i x g empty none = g.empty x.1 empty (λ c. nothing_in x.1 c) (λ c. none (Contains-twice held_datum_of (λ (k : DatumHold). k.scope) (take i list) x.1 c))

-- ---- a list that is used up from its front

pub image_before : {X Y : Type 0} (f : X → Y) (ys : List X) (x : X) (rest : List X) → IsDistinct (map f (ys ++ x ∷ rest)) → Contains (map f ys) (f x) → ⊥
image_before f [] x rest d c = nothing_in (f x) c
image_before {X} {Y} f (y ∷ ys) x rest d c =
    elim (Contains-cons (f y) (f x) (map f ys) c) [
      | inl e ↦ d.0 (subst (λ (z : Y). Contains (map f (ys ++ x ∷ rest)) z) e (map-Contains f (ys ++ x ∷ rest) x (Contains-append_right ys (x ∷ rest) x (Contains-head x rest))))
      | inr m ↦ image_before f ys x rest d.1 m
    ]

pub given_ready : {D : Type 0} (old mid : List (Scope × PlaceOf D)) (list ys : List (Scope × D)) (x : Scope × D) (rest : List (Scope × D)) → ys ++ x ∷ rest ≡ list → Gives old mid [] [] ys [] → ((q : Scope × D) → Contains list q → SlotAt old q.0 Empty) → IsDistinct (map (λ p. p.0) list) → SlotAt mid x.0 Empty
given_ready {D} old mid list ys x rest e g empty distinct =
    g.empty x.0 (empty x (subst (λ (l : List (Scope × D)). Contains l x) e (Contains-append_right ys (x ∷ rest) x (Contains-head x rest))))
    (image_before (λ (p : Scope × D). p.0) ys x rest (subst (λ (l : List (Scope × D)). IsDistinct (map (λ p. p.0) l)) (sym e) distinct)) (λ n. nothing_in x.0 n)

pub pushed : {X : Type 0} (ys : List X) (y x : X) → (Contains (ys ++ y ∷ []) x) ↔ (Contains ys x ⊎ (x ≡ y))
pushed {X} ys y x = (
  (λ c. elim (Contains-append_cases ys (y ∷ []) x c) [ inl k ↦ inl k | inr k ↦ inr (single y x k) ]),
  (λ h. elim h [
    | inl k ↦ Contains-append_left ys (y ∷ []) x k
    | inr e ↦ subst (λ (t : X). Contains (ys ++ y ∷ []) t) (sym e) (Contains-push ys y)
  ]),
)

pub nothing_left : {X : Type 0} (l : List X) → length l ≡ 0 → l ≡ []
nothing_left [] h = refl
nothing_left (x ∷ xs) h = absurd (omega (arith, h))
