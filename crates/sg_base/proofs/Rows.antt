-- Rows of a graph: what a look-up finds, and what a new target does.
use Rattle.std.proofs.Common.{◌≡◌, List, [], ◌∷◌, ◌++◌, ◌⊎◌, ◌↔◌, Bool, true, false, cond, inl, inr, refl, sym, ap, ◌∙◌, subst, map, Option, Some, None, Result, Ok, Err}
use Rattle.std.proofs.lemmas.Bool.{cases_Bool}
use Rattle.std.proofs.lemmas.List.{append-nil, map-append}
use Rattle.std.proofs.lemmas.List.Elements.{filter-append, Contains-append_left, Contains-append_right, Contains-append_cases}
use Rattle.std.proofs.lemmas.Map.{keys-set_value}
use Rattle.std.specs.BTreeMap.{is_at, insert_entry}
use Rattle.std.specs.List.{Contains, AllByRecursion, filter}
use Rattle.std.specs.Map.{lookup, set_value}
use Rattle.std.specs.Result.{OnErr}
use Rattle.std.specs.Ordering.{is_eq, match_ordering, nat_cmp, ordering_then}
use Rattle.std.specs.declared.cmp.Ordering.{Ordering}
use Rattle.std.specs.declared.cmp.Ordering.TheVariants.{Less, Equal, Greater}
use Rattle.sg_base.specs.declared.row.Row.{Row}
use Rattle.sg_base.specs.declared.scope.Scope.{Scope}
use Rattle.sg_base.specs.Graph.{Edge, edge_cmp, is_in_row}
use Rattle.sg_base.specs.List.{IsRising}
use Rattle.sg_base.specs.Row.{AreRows, AddsTarget, edge_to, edges_to, edges_in, row_cmp}
use Rattle.sg_base.specs.Scope.{scope_cmp}
use Rattle.sg_base.proofs.Edges.{in_row, row_in}
use Rattle.sg_base.proofs.Finite.{nothing_in, map-Contains, Contains-map, filter-Contains, Contains-flat_map, filter-all, filter-none, each_from, each_at}
use Rattle.sg_base.proofs.Rising.{Rising-append}
use Rattle.sg_base.proofs.Scopes.{equal_row, row_itself, scope_itself, nat_itself, row_by, not_true}

abbrev Rows : Type 0
Rows = List (Row × List Scope)

-- ---- orders by case

pub equal_of : (o : Ordering) → is_eq o ≡ true → o ≡ Equal
equal_of Less h = absurd (cc)
equal_of Equal h = refl
equal_of Greater h = absurd (cc)

pub not_equal : (o : Ordering) → is_eq o ≡ false → (o ≡ Less) ⊎ (o ≡ Greater)
not_equal Less h = inl refl
not_equal Equal h = absurd (cc)
not_equal Greater h = inr refl

-- ---- edges of one row

edges_from : (r : Row) (ts : List Scope) (e : Edge) → Contains (edges_to r ts) e → (t : Scope) × Contains ts t × (e ≡ edge_to r t)
edges_from r ts e c = Contains-map (edge_to r) ts e c

targets_of : (r : Row) (ts : List Scope) → map (λ e. e.to) (edges_to r ts) ≡ ts
targets_of r [] = refl
targets_of r (t ∷ ts) = ap (λ (x : List Scope). t ∷ x) (targets_of r ts)

in_its_row : (r : Row) (ts : List Scope) → AllByRecursion (λ e. is_in_row r.from r.label e ≡ true) (edges_to r ts)
in_its_row r [] = tt
in_its_row r (t ∷ ts) = (row_in r.from r.label (edge_to r t) refl refl, in_its_row r ts)

other_row : (r k : Row) (e : Edge) (t : Scope) → e ≡ edge_to k t → (k ≡ r → ⊥) → is_in_row r.from r.label e ≡ false
other_row r k e t same n =
    not_true (is_in_row r.from r.label e) (λ h.
    let p = in_row r.from r.label e h in
    n (row_by k r (sym (ap (λ (x : Edge). x.from) same) ∙ p.0) (sym (ap (λ (x : Edge). x.label) same) ∙ p.1)))

-- what one more target adds to a row's edges
edges_more : (r : Row) (v w : List Scope) (t : Scope) → ((x : Scope) → (Contains w x) ↔ (Contains v x ⊎ (x ≡ t))) → (e : Edge) → (Contains (edges_to r w) e) ↔ (Contains (edges_to r v) e ⊎ (e ≡ edge_to r t))
edges_more r v w t more e = (
  (λ c.
      let h = edges_from r w e c in
      elim ((more h.0).0 h.1) [
        | inl k ↦ inl (subst (λ (x : Edge). Contains (edges_to r v) x) (sym h.2) (map-Contains (edge_to r) v h.0 k))
        | inr k ↦ inr (h.2 ∙ ap (edge_to r) k)
      ]),
  (λ s. elim s [
    | inl c ↦
        let h = edges_from r v e c in
        subst (λ (x : Edge). Contains (edges_to r w) x) (sym h.2) (map-Contains (edge_to r) w h.0 ((more h.0).1 (inl h.1)))
    | inr k ↦ subst (λ (x : Edge). Contains (edges_to r w) x) (sym k) (map-Contains (edge_to r) w t ((more t).1 (inr refl)))
  ]),
)

-- ---- a look-up

module _ (r : Row) where
  at_row : (k : Row) → is_at (row_cmp r) k ≡ true → k ≡ r
  at_row k h = sym (equal_row r k (equal_of (row_cmp r k) h))

  not_at_row : (k : Row) → is_at (row_cmp r) k ≡ false → k ≡ r → ⊥
  not_at_row k h e =
      let yes : is_at (row_cmp r) r ≡ true = ap is_eq (row_itself r) in
      let no : is_at (row_cmp r) r ≡ false = subst (λ (x : Row). is_at (row_cmp r) x ≡ false) e h in
      cc

  hit : (p : Row × List Scope) (ps : Rows) (v : List Scope) → is_at (row_cmp r) p.0 ≡ true → lookup (is_at (row_cmp r)) (p ∷ ps) ≡ Some v → v ≡ p.1
  hit p ps v e h =
      let at_once : Some p.1 ≡ Some v = sym (ap (λ (b : Bool). cond b (Some p.1) (lookup (is_at (row_cmp r)) ps)) e) ∙ h in
      cc

  miss : (p : Row × List Scope) (ps : Rows) (o : Option (List Scope)) → is_at (row_cmp r) p.0 ≡ false → lookup (is_at (row_cmp r)) (p ∷ ps) ≡ o → lookup (is_at (row_cmp r)) ps ≡ o
  miss p ps o e h = sym (ap (λ (b : Bool). cond b (Some p.1) (lookup (is_at (row_cmp r)) ps)) e) ∙ h

  hit_none : (p : Row × List Scope) (ps : Rows) → is_at (row_cmp r) p.0 ≡ true → lookup (is_at (row_cmp r)) (p ∷ ps) ≡ None → ⊥
  hit_none p ps e h =
      let at_once : Some p.1 ≡ None = sym (ap (λ (b : Bool). cond b (Some p.1) (lookup (is_at (row_cmp r)) ps)) e) ∙ h in
      cc

  -- the row's part of an append
  abbrev part : List Edge → List Scope
  part es = map (λ e. e.to) (filter (is_in_row r.from r.label) es)

  part-append : (xs ys : List Edge) → part (xs ++ ys) ≡ part xs ++ part ys
  part-append xs ys = ap (λ (es : List Edge). map (λ e. e.to) es) (filter-append (is_in_row r.from r.label) xs ys) ∙ map-append (λ (e : Edge). e.to) (filter (is_in_row r.from r.label) xs) (filter (is_in_row r.from r.label) ys)

  part-same : (ts : List Scope) → part (edges_to r ts) ≡ ts
  part-same ts = ap (λ (es : List Edge). map (λ e. e.to) es) (filter-all (is_in_row r.from r.label) (edges_to r ts) (in_its_row r ts)) ∙ targets_of r ts

  part-other : (es : List Edge) → ((e : Edge) → Contains es e → is_in_row r.from r.label e ≡ false) → part es ≡ []
  part-other es n = ap (λ (es : List Edge). map (λ e. e.to) es) (filter-none (is_in_row r.from r.label) es (each_from (λ e. is_in_row r.from r.label e ≡ false) es n))

  part-one : (k : Row) (ts : List Scope) → (k ≡ r → ⊥) → part (edges_to k ts) ≡ []
  part-one k ts n = part-other (edges_to k ts) (λ e c. let h = edges_from k ts e c in other_row r k e h.0 h.2 n)

  part-above : (k : Row) (ps : Rows) → k ≡ r → AllByRecursion (λ x. row_cmp k x ≡ Less) (map (λ p. p.0) ps) → part (edges_in ps) ≡ []
  part-above k ps same above =
      part-other (edges_in ps) (λ e c.
      let h = Contains-flat_map (λ (p : Row × List Scope). edges_to p.0 p.1) ps e c in
      let f = edges_from (h.0).0 (h.0).1 e h.2 in
      let less : row_cmp k (h.0).0 ≡ Less = each_at (λ x. row_cmp k x ≡ Less) (map (λ p. p.0) ps) above (h.0).0 (map-Contains (λ (p : Row × List Scope). p.0) ps h.0 h.1) in
      other_row r (h.0).0 e f.0 f.2 (λ again.
      let equal : row_cmp k (h.0).0 ≡ Equal = subst (λ (x : Row). row_cmp k x ≡ Equal) (same ∙ sym again) (row_itself k) in
      cc))

  -- the row that a look-up finds is the row among all edges
  pub part-found : (rows : Rows) (v : List Scope) → IsRising row_cmp (map (λ p. p.0) rows) → lookup (is_at (row_cmp r)) rows ≡ Some v → part (edges_in rows) ≡ v
  part-found [] v up h = absurd (cc)
  part-found (p ∷ ps) v up h =
      part-append (edges_to p.0 p.1) (edges_in ps) ∙ (elim (cases_Bool (is_at (row_cmp r) p.0)) [
        | inl e ↦
            let same : p.0 ≡ r = at_row p.0 e in
            let first : part (edges_to p.0 p.1) ≡ p.1 = subst (λ (k : Row). part (edges_to k p.1) ≡ p.1) (sym same) (part-same p.1) in
            let rest : part (edges_in ps) ≡ [] = part-above p.0 ps same up.0 in
            let value : v ≡ p.1 = hit p ps v e h in
            rw (first, rest, value) (append-nil p.1)
        | inr e ↦
            let first : part (edges_to p.0 p.1) ≡ [] = part-one p.0 p.1 (not_at_row p.0 e) in
            rw first (part-found ps v up.1 (miss p ps (Some v) e h))
      ])

  pub part-absent : (rows : Rows) → lookup (is_at (row_cmp r)) rows ≡ None → part (edges_in rows) ≡ []
  part-absent [] h = refl
  part-absent (p ∷ ps) h =
      part-append (edges_to p.0 p.1) (edges_in ps) ∙ (elim (cases_Bool (is_at (row_cmp r) p.0)) [
        | inl e ↦ absurd (hit_none p ps e h)
        | inr e ↦
            let first : part (edges_to p.0 p.1) ≡ [] = part-one p.0 p.1 (not_at_row p.0 e) in
            rw first (part-absent ps (miss p ps None e h))
      ])

  -- a target stands in its row
  pub target-found : (rows : Rows) (v : List Scope) → IsRising row_cmp (map (λ p. p.0) rows) → lookup (is_at (row_cmp r)) rows ≡ Some v → (t : Scope) → Contains (edges_in rows) (edge_to r t) → Contains v t
  target-found rows v up h t c =
      subst (λ (ts : List Scope). Contains ts t) (part-found rows v up h)
      (map-Contains (λ (e : Edge). e.to) (filter (is_in_row r.from r.label) (edges_in rows)) (edge_to r t) (filter-Contains (is_in_row r.from r.label) (edges_in rows) (edge_to r t) c (row_in r.from r.label (edge_to r t) refl refl)))

  pub target-absent : (rows : Rows) → lookup (is_at (row_cmp r)) rows ≡ None → (t : Scope) → Contains (edges_in rows) (edge_to r t) → ⊥
  target-absent rows h t c =
      nothing_in t (subst (λ (ts : List Scope). Contains ts t) (part-absent rows h)
      (map-Contains (λ (e : Edge). e.to) (filter (is_in_row r.from r.label) (edges_in rows)) (edge_to r t) (filter-Contains (is_in_row r.from r.label) (edges_in rows) (edge_to r t) c (row_in r.from r.label (edge_to r t) refl refl))))

  -- ---- a new target in a row that is there

  pub set-same : (rows : Rows) (v w : List Scope) → lookup (is_at (row_cmp r)) rows ≡ Some v → w ≡ v → set_value (is_at (row_cmp r)) rows w ≡ rows
  set-same [] v w h e = refl
  set-same (p ∷ ps) v w h e =
      elim (cases_Bool (is_at (row_cmp r) p.0)) [
        | inl t ↦
            let value : w ≡ p.1 = e ∙ hit p ps v t h in
            ap (λ (b : Bool). cond b ((p.0, w) ∷ ps) (p ∷ set_value (is_at (row_cmp r)) ps w)) t ∙ ap (λ (x : List Scope). let q : Row × List Scope = (p.0, x) in q ∷ ps) value
        | inr t ↦
            ap (λ (b : Bool). cond b ((p.0, w) ∷ ps) (p ∷ set_value (is_at (row_cmp r)) ps w)) t ∙ ap (λ (x : Rows). p ∷ x) (set-same ps v w (miss p ps (Some v) t h) e)
      ]

  -- what the first part has more, the whole has more
  more_left : (a b c : List Edge) (x : Edge) → ((e : Edge) → (Contains b e) ↔ (Contains a e ⊎ (e ≡ x))) → (e : Edge) → (Contains (b ++ c) e) ↔ (Contains (a ++ c) e ⊎ (e ≡ x))
  more_left a b c x h e = (
    (λ k. elim (Contains-append_cases b c e k) [
      | inl l ↦ elim ((h e).0 l) [ inl m ↦ inl (Contains-append_left a c e m) | inr m ↦ inr m ]
      | inr l ↦ inl (Contains-append_right a c e l)
    ]),
    (λ s. elim s [
      | inl k ↦ elim (Contains-append_cases a c e k) [ inl l ↦ Contains-append_left b c e ((h e).1 (inl l)) | inr l ↦ Contains-append_right b c e l ]
      | inr k ↦ Contains-append_left b c e ((h e).1 (inr k))
    ]),
  )

  more_right : (a b c : List Edge) (x : Edge) → ((e : Edge) → (Contains c e) ↔ (Contains b e ⊎ (e ≡ x))) → (e : Edge) → (Contains (a ++ c) e) ↔ (Contains (a ++ b) e ⊎ (e ≡ x))
  more_right a b c x h e = (
    (λ k. elim (Contains-append_cases a c e k) [
      | inl l ↦ inl (Contains-append_left a b e l)
      | inr l ↦ elim ((h e).0 l) [ inl m ↦ inl (Contains-append_right a b e m) | inr m ↦ inr m ]
    ]),
    (λ s. elim s [
      | inl k ↦ elim (Contains-append_cases a b e k) [ inl l ↦ Contains-append_left a c e l | inr l ↦ Contains-append_right a c e ((h e).1 (inl l)) ]
      | inr k ↦ Contains-append_right a c e ((h e).1 (inr k))
    ]),
  )

  module _ (t : Scope) where
    pub set-adds : (rows : Rows) (v w : List Scope) → lookup (is_at (row_cmp r)) rows ≡ Some v → ((x : Scope) → (Contains w x) ↔ (Contains v x ⊎ (x ≡ t))) → AddsTarget rows (set_value (is_at (row_cmp r)) rows w) r t
    set-adds [] v w h more = absurd (cc)
    set-adds (p ∷ ps) v w h more =
        elim (cases_Bool (is_at (row_cmp r) p.0)) [
          | inl e ↦
              let value : v ≡ p.1 = hit p ps v e h in
              let here : (x : Scope) → (Contains w x) ↔ (Contains p.1 x ⊎ (x ≡ t)) = subst (λ (ts : List Scope). (x : Scope) → (Contains w x) ↔ (Contains ts x ⊎ (x ≡ t))) value more in
              let to_row : (f : Edge) → (Contains (edges_to p.0 w) f) ↔ (Contains (edges_to p.0 p.1) f ⊎ (f ≡ edge_to r t)) =
              subst (λ (k : Row). (f : Edge) → (Contains (edges_to p.0 w) f) ↔ (Contains (edges_to p.0 p.1) f ⊎ (f ≡ edge_to k t))) (at_row p.0 e) (edges_more p.0 p.1 w t here) in
              subst (λ (b : Bool). AddsTarget (p ∷ ps) (cond b ((p.0, w) ∷ ps) (p ∷ set_value (is_at (row_cmp r)) ps w)) r t) (sym e)
              (more_left (edges_to p.0 p.1) (edges_to p.0 w) (edges_in ps) (edge_to r t) to_row)
          | inr e ↦
              subst (λ (b : Bool). AddsTarget (p ∷ ps) (cond b ((p.0, w) ∷ ps) (p ∷ set_value (is_at (row_cmp r)) ps w)) r t) (sym e)
              (more_right (edges_to p.0 p.1) (edges_in ps) (edges_in (set_value (is_at (row_cmp r)) ps w)) (edge_to r t) (set-adds ps v w (miss p ps (Some v) e h) more))
        ]

    -- ---- a new row

    pub insert-adds : (rows : Rows) (w : List Scope) → lookup (is_at (row_cmp r)) rows ≡ None → ((x : Scope) → (Contains w x) ↔ (Contains [] x ⊎ (x ≡ t))) → AddsTarget rows (insert_entry row_cmp rows r w) r t
    insert-adds [] w h more = more_left [] (edges_to r w) [] (edge_to r t) (edges_more r [] w t more)
    insert-adds (p ∷ ps) w h more =
        elim (cases_Bool (is_at (row_cmp r) p.0)) [
          | inl e ↦ absurd (hit_none p ps e h)
          | inr e ↦ elim (not_equal (row_cmp r p.0) e) [
            | inl less ↦
                subst (λ (o : Ordering). AddsTarget (p ∷ ps) (match_ordering o ((r, w) ∷ p ∷ ps) ((p.0, w) ∷ ps) (p ∷ insert_entry row_cmp ps r w)) r t) (sym less)
                (more_left [] (edges_to r w) (edges_in (p ∷ ps)) (edge_to r t) (edges_more r [] w t more))
            | inr greater ↦
                subst (λ (o : Ordering). AddsTarget (p ∷ ps) (match_ordering o ((r, w) ∷ p ∷ ps) ((p.0, w) ∷ ps) (p ∷ insert_entry row_cmp ps r w)) r t) (sym greater)
                (more_right (edges_to p.0 p.1) (edges_in ps) (edges_in (insert_entry row_cmp ps r w)) (edge_to r t) (insert-adds ps w (miss p ps None e h) more))
          ]
        ]

  -- ---- rows that rise

  set-targets : (P : List Scope → Type 0) (rows : Rows) (w : List Scope) → P w → AllByRecursion (λ p. P p.1) rows → AllByRecursion (λ p. P p.1) (set_value (is_at (row_cmp r)) rows w)
  set-targets P [] w k h = tt
  set-targets P (p ∷ ps) w k h =
      elim (cases_Bool (is_at (row_cmp r) p.0)) [
        | inl e ↦ subst (λ (b : Bool). AllByRecursion (λ (q : Row × List Scope). P q.1) (cond b ((p.0, w) ∷ ps) (p ∷ set_value (is_at (row_cmp r)) ps w))) (sym e) (k, h.1)
        | inr e ↦ subst (λ (b : Bool). AllByRecursion (λ (q : Row × List Scope). P q.1) (cond b ((p.0, w) ∷ ps) (p ∷ set_value (is_at (row_cmp r)) ps w))) (sym e) (h.0, set-targets P ps w k h.1)
      ]

  pub set-AreRows : (rows : Rows) (w : List Scope) → IsRising scope_cmp w → AreRows rows → AreRows (set_value (is_at (row_cmp r)) rows w)
  set-AreRows rows w up ok = record {
    rows_rise = subst (IsRising row_cmp) (sym (keys-set_value (is_at (row_cmp r)) rows w)) ok.rows_rise;
    targets_rise = set-targets (IsRising scope_cmp) rows w up ok.targets_rise;
  }

  insert-placed : (P : List Scope → Type 0) (p : Row × List Scope) (ps rest : Rows) (w : List Scope) → P w → AllByRecursion (λ q. P q.1) (p ∷ ps) → AllByRecursion (λ q. P q.1) rest → (o : Ordering) → AllByRecursion (λ q. P q.1) (match_ordering o ((r, w) ∷ p ∷ ps) ((p.0, w) ∷ ps) (p ∷ rest))
  insert-placed P p ps rest w k h m Less = (k, h)
  insert-placed P p ps rest w k h m Equal = (k, h.1)
  insert-placed P p ps rest w k h m Greater = (h.0, m)

  insert-targets : (P : List Scope → Type 0) (rows : Rows) (w : List Scope) → P w → AllByRecursion (λ p. P p.1) rows → AllByRecursion (λ p. P p.1) (insert_entry row_cmp rows r w)
  insert-targets P [] w k h = (k, tt)
  insert-targets P (p ∷ ps) w k h = insert-placed P p ps (insert_entry row_cmp ps r w) w k h (insert-targets P ps w k h.1) (row_cmp r p.0)

  pub insert-AreRows : (rows : Rows) (w : List Scope) → IsRising scope_cmp w → AreRows rows → IsRising row_cmp (map (λ p. p.0) (insert_entry row_cmp rows r w)) → AreRows (insert_entry row_cmp rows r w)
  insert-AreRows rows w up ok keys = record { rows_rise = keys; targets_rise = insert-targets (IsRising scope_cmp) rows w up ok.targets_rise }

-- ---- the edges of rows rise

then_less : (a b c : Ordering) → ordering_then a b ≡ Less → ordering_then a (ordering_then b c) ≡ Less
then_less Less b c h = refl
then_less Equal Less c h = refl
then_less Equal Equal c h = absurd (cc)
then_less Equal Greater c h = absurd (cc)
then_less Greater b c h = absurd (cc)

then_last : (a b c : Ordering) → a ≡ Equal → b ≡ Equal → c ≡ Less → ordering_then a (ordering_then b c) ≡ Less
then_last a b c h k l = ap (λ (o : Ordering). ordering_then o (ordering_then b c)) h ∙ (ap (λ (o : Ordering). ordering_then o c) k ∙ l)

Rising-edges_to : (r : Row) (ts : List Scope) → IsRising scope_cmp ts → IsRising edge_cmp (edges_to r ts)
Rising-edges_to r [] up = tt
Rising-edges_to r (t ∷ ts) up = (
  each_from (λ e. edge_cmp (edge_to r t) e ≡ Less) (edges_to r ts) (λ e c.
      let h = edges_from r ts e c in
      let to : scope_cmp t h.0 ≡ Less = each_at (λ x. scope_cmp t x ≡ Less) ts up.0 h.0 h.1 in
      subst (λ (x : Edge). edge_cmp (edge_to r t) x ≡ Less) (sym h.2) (then_last (scope_cmp r.from r.from) (nat_cmp r.label r.label) (scope_cmp t h.0) (scope_itself r.from) (nat_itself r.label) to)),
  Rising-edges_to r ts up.1,
)

rising_parts : (rows : Rows) → IsRising row_cmp (map (λ p. p.0) rows) → AllByRecursion (λ p. IsRising scope_cmp p.1) rows → IsRising edge_cmp (edges_in rows)
rising_parts [] up targets = tt
rising_parts (p ∷ ps) up targets =
    Rising-append edge_cmp (edges_to p.0 p.1) (edges_in ps) (Rising-edges_to p.0 p.1 targets.0) (rising_parts ps up.1 targets.1) (λ e f c d.
    let h = edges_from p.0 p.1 e c in
    let k = Contains-flat_map (λ (q : Row × List Scope). edges_to q.0 q.1) ps f d in
    let m = edges_from (k.0).0 (k.0).1 f k.2 in
    let less : row_cmp p.0 (k.0).0 ≡ Less = each_at (λ x. row_cmp p.0 x ≡ Less) (map (λ q. q.0) ps) up.0 (k.0).0 (map-Contains (λ (q : Row × List Scope). q.0) ps k.0 k.1) in
    let both : edge_cmp (edge_to p.0 h.0) (edge_to (k.0).0 m.0) ≡ Less =
    then_less (scope_cmp (p.0).from ((k.0).0).from) (nat_cmp (p.0).label ((k.0).0).label) (scope_cmp h.0 m.0) less in
    rw (h.2, m.2) both)

pub Rising-edges : (rows : Rows) → AreRows rows → IsRising edge_cmp (edges_in rows)
Rising-edges rows ok = rising_parts rows ok.rows_rise ok.targets_rise

-- what holds holds where a call fails
pub on_err : {T E : Type 0} {P : Type 0} (r : Result T E) → P → OnErr r P
on_err (Ok x) p = tt
on_err (Err e) p = p
