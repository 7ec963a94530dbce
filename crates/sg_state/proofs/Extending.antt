-- Each write extends the state before it, and so does any list of writes.
use Rattle.std.proofs.Common.{◌≡◌, ℕ, ◌+◌, ◌<◌, List, [], ◌∷◌, ◌⊎◌, Bool, true, false, not, eqb, inl, inr, sym, ap, subst, cond, fold, length, slice_index, slice_set, arith}
use Rattle.std.proofs.lemmas.Bool.{cases_eq}
use Rattle.std.proofs.Common.{get_or-set_same, get_or-set_other}
use Rattle.std.proofs.Math.ListN.{length-set}
use Rattle.std.specs.List.{Contains}
use Rattle.std.specs.Ordering.{match_ordering, on}
use Rattle.std.specs.declared.cmp.Ordering.{Ordering}
use Rattle.std.specs.declared.cmp.Ordering.TheVariants.{Less, Equal, Greater}
use Rattle.sg_base.specs.declared.scope.Scope.{Scope}
use Rattle.sg_base.specs.Graph.{Edge, HasScope, edge_cmp}
use Rattle.sg_base.specs.Scope.{scope_cmp}
use Rattle.sg_base.specs.State.{State, IsOpen, IsUnset, Follows}
use Rattle.sg_base.proofs.Chaining.{follow}
use Rattle.sg_base.proofs.Finite.{nothing_in, single, Contains-head, Contains-cons, Contains-tail, map-Contains, Contains-map, Contains-filter}
use Rattle.sg_state.specs.Held.{HeldOf, RowHold, DatumHold, HoldsRow, HoldsDatum, state_of, next_scope, put, labels_in, row_hold_cmp, datum_hold_cmp, is_row_hold, is_datum_hold, with_fresh, with_edge, with_datum, without_row, without_unit}
use Rattle.sg_state.specs.Write.{Write, May, after, AreLawful, after_all, WritesExtend}
use Rattle.sg_state.specs.Write.Write.{fresh, add_edge, set_datum, close_row, end_unit}

-- ---- one more thing

put_case : {X : Type 0} (R : X → X → Ordering) (xs : List X) (y x z : X) (o : Ordering) → (Contains (put R xs x) z → Contains xs z ⊎ (z ≡ x)) → Contains (match_ordering o (x ∷ y ∷ xs) (y ∷ xs) (y ∷ put R xs x)) z → Contains (y ∷ xs) z ⊎ (z ≡ x)
put_case R xs y x z Less rest c = elim (Contains-cons x z (y ∷ xs) c) [ inl s ↦ inr s | inr m ↦ inl m ]
put_case R xs y x z Equal rest c = inl c
put_case {X} R xs y x z Greater rest c =
    elim (Contains-cons y z (put R xs x) c) [
      | inl s ↦ inl (subst (λ (t : X). Contains (y ∷ xs) t) (sym s) (Contains-head y xs))
      | inr m ↦ elim (rest m) [ inl k ↦ inl (Contains-tail y z xs k) | inr s ↦ inr s ]
    ]

pub put_from : {X : Type 0} (R : X → X → Ordering) (xs : List X) (x z : X) → Contains (put R xs x) z → Contains xs z ⊎ (z ≡ x)
put_from R [] x z c = inr (single x z c)
put_from R (y ∷ ys) x z c = put_case R ys y x z (R x y) (put_from R ys x z) c

stays_case : {X : Type 0} (R : X → X → Ordering) (xs : List X) (y x z : X) (o : Ordering) → (Contains xs z → Contains (put R xs x) z) → Contains (y ∷ xs) z → Contains (match_ordering o (x ∷ y ∷ xs) (y ∷ xs) (y ∷ put R xs x)) z
stays_case R xs y x z Less rest c = Contains-tail x z (y ∷ xs) c
stays_case R xs y x z Equal rest c = c
stays_case {X} R xs y x z Greater rest c =
    elim (Contains-cons y z xs c) [
      | inl s ↦ subst (λ (t : X). Contains (y ∷ put R xs x) t) (sym s) (Contains-head y (put R xs x))
      | inr m ↦ Contains-tail y z (put R xs x) (rest m)
    ]

pub put_stays : {X : Type 0} (R : X → X → Ordering) (xs : List X) (x z : X) → Contains xs z → Contains (put R xs x) z
put_stays R [] x z c = absurd (nothing_in z c)
put_stays R (y ∷ ys) x z c = stays_case R ys y x z (R x y) (put_stays R ys x z) c

-- ---- holds and what is open

module _ {D : Type 0} (h : HeldOf D) where
  pub open_from : (s : Scope) (l : ℕ) → IsOpen (state_of h) s l → (u : ℕ) × HoldsRow h u s l
  open_from s l o =
      let k = Contains-map (λ (k : RowHold). (k.scope, k.label)) h.row_holds (s, l) o in
      let a : s ≡ (k.0).scope = ap (λ (p : Scope × ℕ). p.0) k.2 in
      let b : l ≡ (k.0).label = ap (λ (p : Scope × ℕ). p.1) k.2 in
      ((k.0).unit, subst (λ (x : Scope). HoldsRow h (k.0).unit x l) (sym a) (subst (λ (x : ℕ). HoldsRow h (k.0).unit (k.0).scope x) (sym b) k.1))

  pub open_to : (u : ℕ) (s : Scope) (l : ℕ) → HoldsRow h u s l → IsOpen (state_of h) s l
  open_to u s l k =
      let x : RowHold = record { scope = s; label = l; unit = u } in
      map-Contains (λ (k : RowHold). (k.scope, k.label)) h.row_holds x k

  pub unset_from : (s : Scope) → IsUnset (state_of h) s → (u : ℕ) × HoldsDatum h u s
  unset_from s o =
      let k = Contains-map (λ (k : DatumHold). k.scope) h.datum_holds s o in
      ((k.0).unit, subst (λ (x : Scope). HoldsDatum h (k.0).unit x) (sym k.2) k.1)

  pub unset_to : (u : ℕ) (s : Scope) → HoldsDatum h u s → IsUnset (state_of h) s
  unset_to u s k =
      let x : DatumHold = record { scope = s; unit = u } in
      map-Contains (λ (k : DatumHold). k.scope) h.datum_holds x k

  -- a unit has made the scopes with serials below its number of them
  abbrev HasSerials : Type 0
  HasSerials = (s : Scope) → HasScope h.graph s → s.unit < length h.made → s.serial < slice_index h.made s.unit

-- ---- one write

module _ {D : Type 0} (h : HeldOf D) where
  added_from : (u : ℕ) (t : Scope) (ls : List ℕ) (ks : List RowHold) (k : RowHold) → Contains (fold (λ (ks : List RowHold) (l : ℕ). put row_hold_cmp ks (record { scope = t; label = l; unit = u })) ks ls) k → Contains ks k ⊎ (k.scope ≡ t)
  added_from u t [] ks k c = inl c
  added_from u t (l ∷ ls) ks k c =
      elim (added_from u t ls (put row_hold_cmp ks (record { scope = t; label = l; unit = u })) k c) [
        | inl m ↦ elim (put_from row_hold_cmp ks (record { scope = t; label = l; unit = u }) k m) [ inl x ↦ inl x | inr e ↦ inr (ap (λ (x : RowHold). x.scope) e) ]
        | inr e ↦ inr e
      ]

  held_from : (u : ℕ) (t : Scope) (datum : Bool) (k : DatumHold) → Contains (cond datum (put datum_hold_cmp h.datum_holds (record { scope = t; unit = u })) h.datum_holds) k → Contains h.datum_holds k ⊎ (k.scope ≡ t)
  held_from u t true k c = elim (put_from datum_hold_cmp h.datum_holds (record { scope = t; unit = u }) k c) [ inl x ↦ inl x | inr e ↦ inr (ap (λ (x : DatumHold). x.scope) e) ]
  held_from u t false k c = inl c

  fresh_follows : HasSerials h → (u labels : ℕ) (datum : Bool) → u < length h.made → Follows (state_of h) (state_of (with_fresh h u labels datum))
  fresh_follows serials u labels datum lt =
      let new : (t : Scope) → t ≡ next_scope h u → HasScope h.graph t → ⊥ = λ t e c. is_new (subst (λ (x : Scope). HasScope h.graph x) e c) in
      record {
        extends = record {
          scopes = λ s c. put_stays scope_cmp h.graph.scopes (next_scope h u) s c;
          edges = λ s l t c. c;
          given = λ s d c. c;
          further_edges = λ s l t c. inl c;
          further_given = λ s d c. inl c;
        };
        rows = λ s l o.
            let k = open_from (with_fresh h u labels datum) s l o in
            elim (added_from u (next_scope h u) (labels_in labels) h.row_holds (record { scope = s; label = l; unit = k.0 }) k.1) [ inl x ↦ inl (open_to h k.0 s l x) | inr e ↦ inr (new s e) ];
        data_at = λ s o.
            let k = unset_from (with_fresh h u labels datum) s o in
            elim (held_from u (next_scope h u) datum (record { scope = s; unit = k.0 }) k.1) [ inl x ↦ inl (unset_to h k.0 s x) | inr e ↦ inr (new s e) ];
      }
    where
      is_new : HasScope h.graph (next_scope h u) → ⊥
      is_new c = let k : slice_index h.made u < slice_index h.made u = serials (next_scope h u) c lt in absurd (omega (arith, k))

  fresh_serials : HasSerials h → (u labels : ℕ) (datum : Bool) → u < length h.made → HasSerials (with_fresh h u labels datum)
  fresh_serials serials u labels datum lt s c below =
      elim (put_from scope_cmp h.graph.scopes (next_scope h u) s c) [
        | inl k ↦
            let was : s.serial < slice_index h.made s.unit = serials s k (same_length below) in
            elim (cases_eq s.unit u) [
              | inl e ↦ let now : slice_index (slice_set h.made u (slice_index h.made u + 1)) s.unit ≡ slice_index h.made s.unit + 1 = rw e (get_or-set_same h.made u (slice_index h.made u + 1) 0 lt) in omega (arith, was, now)
              | inr n ↦ let now : slice_index (slice_set h.made u (slice_index h.made u + 1)) s.unit ≡ slice_index h.made s.unit = get_or-set_other h.made u s.unit (slice_index h.made u + 1) 0 n in omega (arith, was, now)
            ]
        | inr e ↦
            let now : slice_index (slice_set h.made u (slice_index h.made u + 1)) u ≡ slice_index h.made u + 1 = get_or-set_same h.made u (slice_index h.made u + 1) 0 lt in
            let at : slice_index h.made u < slice_index (slice_set h.made u (slice_index h.made u + 1)) u = omega (arith, now) in
            subst (λ (t : Scope). t.serial < slice_index (slice_set h.made u (slice_index h.made u + 1)) t.unit) (sym e) at
      ]
    where
      same_length : s.unit < length (slice_set h.made u (slice_index h.made u + 1)) → s.unit < length h.made
      same_length b = omega (arith, b, length-set {A = ℕ})

  edge_follows : (u : ℕ) (s : Scope) (l : ℕ) (t : Scope) → HoldsRow h u s l → Follows (state_of h) (state_of (with_edge h (record { from = s; label = l; to = t })))
  edge_follows u s l t k = record {
    extends = record {
      scopes = λ j c. c;
      edges = λ j m x c. put_stays edge_cmp h.graph.edges (record { from = s; label = l; to = t }) (record { from = j; label = m; to = x }) c;
      given = λ j d c. c;
      further_edges = λ j m x c. elim (put_from edge_cmp h.graph.edges (record { from = s; label = l; to = t }) (record { from = j; label = m; to = x }) c) [
        | inl e ↦ inl e
        | inr e ↦ inr (inl (subst (λ (y : Edge). IsOpen (state_of h) y.from y.label) (sym e) (open_to h u s l k)))
      ];
      further_given = λ j d c. inl c;
    };
    rows = λ j m o. inl o;
    data_at = λ j o. inl o;
  }

  datum_follows : (u : ℕ) (s : Scope) (d : D) → HoldsDatum h u s → Follows (state_of h) (state_of (with_datum h u s d))
  datum_follows u s d k = record {
    extends = record {
      scopes = λ j c. c;
      edges = λ j m x c. c;
      given = λ j e c. put_stays (on (λ p. p.0) scope_cmp) h.graph.given (s, d) (j, e) c;
      further_edges = λ j m x c. inl c;
      further_given = λ j e c. elim (put_from (on (λ p. p.0) scope_cmp) h.graph.given (s, d) (j, e) c) [
        | inl x ↦ inl x
        | inr x ↦ inr (inl (subst (λ (y : Scope × D). IsUnset (state_of h) y.0) (sym x) (unset_to h u s k)))
      ];
    };
    rows = λ j m o. inl o;
    data_at = λ j o.
        let x = unset_from (with_datum h u s d) j o in
        inl (unset_to h x.0 j (Contains-filter (λ (k : DatumHold). not (is_datum_hold u s k)) h.datum_holds (record { scope = j; unit = x.0 }) x.1).0);
  }

  close_follows : (u : ℕ) (s : Scope) (l : ℕ) → Follows (state_of h) (state_of (without_row h u s l))
  close_follows u s l = record {
    extends = record { scopes = λ j c. c; edges = λ j m x c. c; given = λ j d c. c; further_edges = λ j m x c. inl c; further_given = λ j d c. inl c };
    rows = λ j m o.
        let x = open_from (without_row h u s l) j m o in
        inl (open_to h x.0 j m (Contains-filter (λ (k : RowHold). not (is_row_hold u s l k)) h.row_holds (record { scope = j; label = m; unit = x.0 }) x.1).0);
    data_at = λ j o. inl o;
  }

  end_follows : (u : ℕ) → Follows (state_of h) (state_of (without_unit h u))
  end_follows u = record {
    extends = record { scopes = λ j c. c; edges = λ j m x c. c; given = λ j d c. c; further_edges = λ j m x c. inl c; further_given = λ j d c. inl c };
    rows = λ j m o.
        let x = open_from (without_unit h u) j m o in
        inl (open_to h x.0 j m (Contains-filter (λ (k : RowHold). not (eqb k.unit u)) h.row_holds (record { scope = j; label = m; unit = x.0 }) x.1).0);
    data_at = λ j o.
        let x = unset_from (without_unit h u) j o in
        inl (unset_to h x.0 j (Contains-filter (λ (k : DatumHold). not (eqb k.unit u)) h.datum_holds (record { scope = j; unit = x.0 }) x.1).0);
  }

one_follows : {D : Type 0} (h : HeldOf D) (w : Write D) → HasSerials h → May h w → Follows (state_of h) (state_of (after h w)) × HasSerials (after h w)
one_follows h (fresh u labels datum) serials may = (fresh_follows h serials u labels datum may, fresh_serials h serials u labels datum may)
one_follows h (add_edge u s l t) serials may = (edge_follows h u s l t may.0, serials)
one_follows h (set_datum u s d) serials may = (datum_follows h u s d may, serials)
one_follows h (close_row u s l) serials may = (close_follows h u s l, serials)
one_follows h (end_unit u) serials may = (end_follows h u, serials)

-- nothing written changes nothing
stays : {D : Type 0} (h : State D) → Follows h h
stays h = record {
  extends = record { scopes = λ j c. c; edges = λ j m x c. c; given = λ j d c. c; further_edges = λ j m x c. inl c; further_given = λ j d c. inl c };
  rows = λ j m o. inl o;
  data_at = λ j o. inl o;
}

all_follow : {D : Type 0} (ws : List (Write D)) (h : HeldOf D) → HasSerials h → AreLawful h ws → Follows (state_of h) (state_of (after_all h ws))
all_follow [] h serials lawful = stays (state_of h)
all_follow {D} (w ∷ ws) h serials lawful =
    let one = one_follows h w serials lawful.0 in
    follow D (state_of h) (state_of (after h w)) (state_of (after_all (after h w) ws)) one.0 (all_follow ws (after h w) one.1 lawful.1)

pub writes_extend : (D : Type 0) → WritesExtend D
writes_extend D h ws held lawful = all_follow ws h held.serials lawful
