-- What each write does to what units hold, and that a held graph stays one.
use Rattle.std.proofs.Common.{◌≡◌, ℕ, zero, suc, ◌+◌, ◌<◌, List, [], ◌∷◌, ◌⊎◌, ◌↔◌, Bool, true, false, not, eqb, cond, inl, inr, refl, sym, ap, ◌∙◌, subst, arith, length, map, slice_index, get_or-set_same, get_or-set_other}
use Rattle.std.proofs.Math.ListN.{length-set}
use Rattle.std.proofs.lemmas.Bool.{cases_Bool}
use Rattle.std.proofs.lemmas.Bool.Decides.{nat_tests}
use Rattle.std.specs.Cmp.{on_total}
use Rattle.std.specs.List.{Contains, range_with_len}
use Rattle.std.specs.Int.{bit_at}
use Rattle.std.specs.Ordering.{on}
use Rattle.std.specs.declared.cmp.Ordering.{Ordering}
use Rattle.std.specs.declared.cmp.Ordering.TheVariants.{Less, Equal}
use Rattle.sg_base.specs.declared.scope.Scope.{Scope}
use Rattle.sg_base.specs.Graph.{Edge, HasScope, HasDatum, edge_cmp, edge_total}
use Rattle.sg_base.specs.List.{IsRising}
use Rattle.sg_base.specs.Scope.{scope_cmp, scope_total}
use Rattle.sg_base.proofs.Finite.{nothing_in, Contains-cons, Contains-map, map-Contains, Contains-filter, each_from, each_at}
use Rattle.sg_base.proofs.Growing.{scope_added, datum_added}
use Rattle.sg_base.proofs.Rising.{Rising-filter}
use Rattle.sg_base.proofs.Scopes.{equal_scope}
use Rattle.sg_state.specs.Held.{HeldOf, RowHold, DatumHold, HoldsRow, HoldsDatum, next_scope, IsHeld, is_given, put, labels_in, row_hold_cmp, row_hold_total, datum_hold_cmp, datum_hold_total, is_row_hold, is_datum_hold, with_fresh, with_edge, with_datum, without_row, without_unit}
use Rattle.sg_state.proofs.Among.{pair_from}
use Rattle.sg_state.proofs.RisingLists.{keys_rise, Contains-put, Rising-put, Rising-puts, Contains-puts}
use Rattle.sg_state.proofs.Equals.{equal_edge, equal_row_hold, equal_datum_hold}

pub is_num : (a b : ℕ) → eqb a b ≡ true → a ≡ b
is_num a b h = grind (arith, nat_tests)

pub num_is : (a : ℕ) → eqb a a ≡ true
num_is a = grind (arith, nat_tests)

pub apart : (a b : ℕ) → (a ≡ b → ⊥) → eqb a b ≡ false
apart a b h = elim (cases_Bool (eqb a b)) [ inl e ↦ absurd (h (is_num a b e)) | inr e ↦ e ]

in_range : (a n x : ℕ) → Contains (range_with_len a n) x → x < a + n
in_range a zero x c = absurd (nothing_in x c)
in_range a (suc n) x c =
    elim (Contains-cons a x (range_with_len (a + 1) n) c) [
      | inl e ↦ omega (arith, e)
      | inr k ↦ let b : x < a + 1 + n = in_range (a + 1) n x k in omega (arith, b)
    ]

below_16 : (labels l : ℕ) → Contains (labels_in labels) l → l < 16
below_16 labels l c = in_range 0 16 l (Contains-filter (λ (l : ℕ). eqb (bit_at labels l) 1) (range_with_len 0 16) l c).0

on_rise : {K V : Type 0} (R : K → K → Ordering) (es : List (K × V)) → IsRising R (map (λ p. p.0) es) → IsRising (on (λ p. p.0) R) es
on_rise R [] r = tt
on_rise {K} {V} R (p ∷ ps) r = (
  each_from (λ (q : K × V). R p.0 q.0 ≡ Less) ps (λ q c. each_at (λ (k : K). R p.0 k ≡ Less) (map (λ (q : K × V). q.0) ps) r.0 q.0 (map-Contains (λ (q : K × V). q.0) ps q c)),
  on_rise R ps r.1,
)

-- ---- a scope that is made

abbrev pub row_hold : Scope → ℕ → ℕ → RowHold
row_hold s l u = record { scope = s; label = l; unit = u }

abbrev pub datum_hold : Scope → ℕ → DatumHold
datum_hold s u = record { scope = s; unit = u }

datum_put : (ks : List DatumHold) (k x : DatumHold) (b : Bool) → (Contains (cond b (put datum_hold_cmp ks k) ks) x) ↔ (Contains ks x ⊎ ((x ≡ k) × (b ≡ true)))
datum_put ks k x true =
    let p = Contains-put datum_hold_cmp datum_hold_total ks k (λ y c e. equal_datum_hold k y e) x in
    ((λ c. elim (p.0 c) [ inl m ↦ inl m | inr e ↦ inr (e, refl) ]), (λ h. p.1 (elim h [ inl m ↦ inl m | inr e ↦ inr e.0 ])))
datum_put ks k x false = ((λ c. inl c), (λ h. elim h [ inl m ↦ m | inr e ↦ absurd (let z = e.1 in cc) ]))

module _ {D : Type 0} (h : HeldOf D) (u labels : ℕ) (datum : Bool) where
  pub fresh_scopes : (t : Scope) → (HasScope (with_fresh h u labels datum).graph t) ↔ (HasScope h.graph t ⊎ (t ≡ next_scope h u))
  fresh_scopes t = Contains-put scope_cmp scope_total h.graph.scopes (next_scope h u) (λ y c e. equal_scope (next_scope h u) y e) t

  pub fresh_rows : (v : ℕ) (t : Scope) (m : ℕ) → (HoldsRow (with_fresh h u labels datum) v t m) ↔ (HoldsRow h v t m ⊎ ((v ≡ u) × (t ≡ next_scope h u) × Contains (labels_in labels) m))
  fresh_rows v t m =
      let p = Contains-puts row_hold_cmp row_hold_total equal_row_hold (λ (l : ℕ). row_hold (next_scope h u) l u) (labels_in labels) h.row_holds (row_hold t m v) in (
        (λ c. elim (p.0 c) [
          | inl k ↦ inl k
          | inr k ↦
              let x = Contains-map (λ (l : ℕ). row_hold (next_scope h u) l u) (labels_in labels) (row_hold t m v) k in
              let label : m ≡ x.0 = ap (λ (y : RowHold). y.label) x.2 in
              inr (ap (λ (y : RowHold). y.unit) x.2, ap (λ (y : RowHold). y.scope) x.2, subst (λ (n : ℕ). Contains (labels_in labels) n) (sym label) x.1)
        ]),
        (λ k. p.1 (elim k [
          | inl k ↦ inl k
          | inr k ↦ inr (rw (k.0, k.1) (map-Contains (λ (l : ℕ). row_hold (next_scope h u) l u) (labels_in labels) m k.2))
        ])),
      )

  pub fresh_data : (v : ℕ) (t : Scope) → (HoldsDatum (with_fresh h u labels datum) v t) ↔ (HoldsDatum h v t ⊎ ((v ≡ u) × (t ≡ next_scope h u) × (datum ≡ true)))
  fresh_data v t =
      let p = datum_put h.datum_holds (datum_hold (next_scope h u) u) (datum_hold t v) datum in (
        (λ c. elim (p.0 c) [ inl k ↦ inl k | inr k ↦ inr (ap (λ (y : DatumHold). y.unit) k.0, ap (λ (y : DatumHold). y.scope) k.0, k.1) ]),
        (λ k. p.1 (elim k [ inl k ↦ inl k | inr k ↦ inr (rw (k.0, k.1) refl, k.2) ])),
      )

  module _ (lt : u < length h.made) where
    pub made_own : slice_index (with_fresh h u labels datum).made u ≡ slice_index h.made u + 1
    made_own = get_or-set_same h.made u (slice_index h.made u + 1) 0 lt

  pub made_other : (v : ℕ) → eqb u v ≡ false → slice_index (with_fresh h u labels datum).made v ≡ slice_index h.made v
  made_other v e = get_or-set_other h.made u v (slice_index h.made u + 1) 0 (λ s. differ v u e s)
    where
      differ : (a b : ℕ) → eqb b a ≡ false → a ≡ b → ⊥
      differ a b e s = grind (arith, nat_tests)

  pub made_long : length (with_fresh h u labels datum).made ≡ length h.made
  made_long = omega (arith, length-set {A = ℕ})

  module _ (ok : IsHeld h) (lt : u < length h.made) where
    pub is_new : (t : Scope) → t ≡ next_scope h u → HasScope h.graph t → ⊥
    is_new t e c = let k : slice_index h.made u < slice_index h.made u = ok.serials (next_scope h u) (subst (λ (x : Scope). HasScope h.graph x) e c) lt in absurd (omega (arith, k))

    more : (t : Scope) → HasScope h.graph t → HasScope (with_fresh h u labels datum).graph t
    more t c = (fresh_scopes t).1 (inl c)

    made_now : (t : Scope) → t ≡ next_scope h u → HasScope (with_fresh h u labels datum).graph t
    made_now t e = (fresh_scopes t).1 (inr e)

    serials_now : (s : Scope) → HasScope (with_fresh h u labels datum).graph s → s.unit < length (with_fresh h u labels datum).made → s.serial < slice_index (with_fresh h u labels datum).made s.unit
    serials_now s c below =
        let long : length (with_fresh h u labels datum).made ≡ length h.made = made_long in
        elim ((fresh_scopes s).0 c) [
          | inl k ↦
              let was : s.serial < slice_index h.made s.unit = ok.serials s k (omega (arith, below, long)) in
              elim (cases_Bool (eqb u s.unit)) [
                | inl e ↦
                    let same : slice_index (with_fresh h u labels datum).made s.unit ≡ slice_index h.made s.unit + 1 =
                    subst (λ (n : ℕ). slice_index (with_fresh h u labels datum).made n ≡ slice_index h.made n + 1) (is_num u s.unit e) (made_own lt) in
                    omega (arith, was, same)
                | inr e ↦ let same = made_other s.unit e in omega (arith, was, same)
              ]
          | inr e ↦
              let now : slice_index h.made u < slice_index (with_fresh h u labels datum).made u = (let k = made_own lt in omega (arith, k)) in
              subst (λ (t : Scope). t.serial < slice_index (with_fresh h u labels datum).made t.unit) (sym e) now
        ]

    pub fresh_held : IsHeld (with_fresh h u labels datum)
    fresh_held = record {
      graph = scope_added h.graph (with_fresh h u labels datum).graph.scopes ok.graph
          (Rising-put scope_cmp scope_total h.graph.scopes (next_scope h u) (λ y c e. equal_scope (next_scope h u) y e) (ok.graph).scopes_rise) more;
      rows_rise = Rising-puts row_hold_cmp row_hold_total equal_row_hold (λ (l : ℕ). row_hold (next_scope h u) l u) (labels_in labels) h.row_holds ok.rows_rise;
      data_rise = data_up datum;
      labelled = λ v s l k. elim ((fresh_rows v s l).0 k) [ inl x ↦ ok.labelled v s l x | inr x ↦ below_16 labels l x.2 ];
      row_at = λ v s l k. elim ((fresh_rows v s l).0 k) [ inl x ↦ more s (ok.row_at v s l x) | inr x ↦ made_now s x.1 ];
      datum_at = λ v s k. elim ((fresh_data v s).0 k) [ inl x ↦ more s (ok.datum_at v s x) | inr x ↦ made_now s x.1 ];
      unset = λ v s d k g. elim ((fresh_data v s).0 k) [ inl x ↦ ok.unset v s d x g | inr x ↦ is_new s x.1 ((ok.graph).placed s d g) ];
      alone = λ v w s k m. elim ((fresh_data v s).0 k) [
        | inl x ↦ elim ((fresh_data w s).0 m) [ inl y ↦ ok.alone v w s x y | inr y ↦ absurd (is_new s y.1 (ok.datum_at v s x)) ]
        | inr x ↦ elim ((fresh_data w s).0 m) [ inl y ↦ absurd (is_new s x.1 (ok.datum_at w s y)) | inr y ↦ x.0 ∙ sym y.0 ]
      ];
      row_holder = λ v s l k. longer v (elim ((fresh_rows v s l).0 k) [ inl x ↦ ok.row_holder v s l x | inr x ↦ subst (λ (n : ℕ). n < length h.made) (sym x.0) lt ]);
      datum_holder = λ v s k. longer v (elim ((fresh_data v s).0 k) [ inl x ↦ ok.datum_holder v s x | inr x ↦ subst (λ (n : ℕ). n < length h.made) (sym x.0) lt ]);
      serials = serials_now;
      rest_rises = ok.rest_rises;
      rest_edges = ok.rest_edges;
      rest_or_given = ok.rest_or_given;
    }
      where
        longer : (v : ℕ) → v < length h.made → v < length (with_fresh h u labels datum).made
        longer v k = omega (arith, k, made_long)

        data_up : (b : Bool) → IsRising datum_hold_cmp (cond b (put datum_hold_cmp h.datum_holds (datum_hold (next_scope h u) u)) h.datum_holds)
        data_up true = Rising-put datum_hold_cmp datum_hold_total h.datum_holds (datum_hold (next_scope h u) u) (λ y c e. equal_datum_hold (datum_hold (next_scope h u) u) y e) ok.data_rise
        data_up false = ok.data_rise

-- ---- what is held after the other writes was held before

module _ {D : Type 0} (h : HeldOf D) where
  -- a datum hold that stays when a unit sets a datum stood before, and is another
  pub datum_was : (u : ℕ) (s : Scope) (v : ℕ) (t : Scope) (d : D) → HoldsDatum (with_datum h u s d) v t → HoldsDatum h v t × (not (is_datum_hold u s (datum_hold t v)) ≡ true)
  datum_was u s v t d c = Contains-filter (λ (k : DatumHold). not (is_datum_hold u s k)) h.datum_holds (datum_hold t v) c

  pub close_was : (u : ℕ) (s : Scope) (l v : ℕ) (t : Scope) (m : ℕ) → HoldsRow (without_row h u s l) v t m → HoldsRow h v t m × (not (is_row_hold u s l (row_hold t m v)) ≡ true)
  close_was u s l v t m c = Contains-filter (λ (k : RowHold). not (is_row_hold u s l k)) h.row_holds (row_hold t m v) c

  pub end_row_was : (u v : ℕ) (t : Scope) (m : ℕ) → HoldsRow (without_unit h u) v t m → HoldsRow h v t m × (not (eqb v u) ≡ true)
  end_row_was u v t m c = Contains-filter (λ (k : RowHold). not (eqb k.unit u)) h.row_holds (row_hold t m v) c

  pub end_datum_was : (u v : ℕ) (t : Scope) → HoldsDatum (without_unit h u) v t → HoldsDatum h v t × (not (eqb v u) ≡ true)
  end_datum_was u v t c = Contains-filter (λ (k : DatumHold). not (eqb k.unit u)) h.datum_holds (datum_hold t v) c

-- ---- the other writes

module _ {D : Type 0} (h : HeldOf D) (ok : IsHeld h) where
  pub edge_held : (u : ℕ) (e : Edge) → HoldsRow h u e.from e.label → HasScope h.graph e.to → IsHeld (with_edge h e)
  edge_held u e k t =
      let puts : (x : Edge) → (Contains (put edge_cmp h.graph.edges e) x) ↔ (Contains h.graph.edges x ⊎ (x ≡ e)) = Contains-put edge_cmp edge_total h.graph.edges e (λ y c x. equal_edge e y x) in
      record {
        graph = record {
          scopes_rise = (ok.graph).scopes_rise;
          edges_rise = Rising-put edge_cmp edge_total h.graph.edges e (λ y c x. equal_edge e y x) (ok.graph).edges_rise;
          data_rise = (ok.graph).data_rise;
          labelled = λ s l x c. elim ((puts (record { from = s; label = l; to = x })).0 c) [
            | inl a ↦ (ok.graph).labelled s l x a
            | inr a ↦ subst (λ (n : ℕ). n < 16) (sym (ap (λ (y : Edge). y.label) a)) (ok.labelled u e.from e.label k)
          ];
          source = λ s l x c. elim ((puts (record { from = s; label = l; to = x })).0 c) [
            | inl a ↦ (ok.graph).source s l x a
            | inr a ↦ subst (λ (y : Scope). HasScope h.graph y) (sym (ap (λ (y : Edge). y.from) a)) (ok.row_at u e.from e.label k)
          ];
          target = λ s l x c. elim ((puts (record { from = s; label = l; to = x })).0 c) [
            | inl a ↦ (ok.graph).target s l x a
            | inr a ↦ subst (λ (y : Scope). HasScope h.graph y) (sym (ap (λ (y : Edge). y.to) a)) t
          ];
          placed = (ok.graph).placed;
        };
        rows_rise = ok.rows_rise;
        data_rise = ok.data_rise;
        labelled = ok.labelled;
        row_at = ok.row_at;
        datum_at = ok.datum_at;
        unset = ok.unset;
        alone = ok.alone;
        row_holder = ok.row_holder;
        datum_holder = ok.datum_holder;
        serials = ok.serials;
        rest_rises = rest_up (is_given h.graph e.to);
        rest_edges = λ s l x c. (puts (record { from = s; label = l; to = x })).1 (elim (rest_was (is_given h.graph e.to) (record { from = s; label = l; to = x }) c) [ inl a ↦ inl (ok.rest_edges s l x a) | inr a ↦ inr a ]);
        rest_or_given = λ s l x c. rest_or (is_given h.graph e.to) refl s l x ((puts (record { from = s; label = l; to = x })).0 c);
      }
    where
      rests : (x : Edge) → (Contains (put edge_cmp h.rest e) x) ↔ (Contains h.rest x ⊎ (x ≡ e))
      rests x = Contains-put edge_cmp edge_total h.rest e (λ y c z. equal_edge e y z) x

      rest_up : (b : Bool) → IsRising edge_cmp (cond b h.rest (put edge_cmp h.rest e))
      rest_up true = ok.rest_rises
      rest_up false = Rising-put edge_cmp edge_total h.rest e (λ y c z. equal_edge e y z) ok.rest_rises

      rest_was : (b : Bool) (x : Edge) → Contains (cond b h.rest (put edge_cmp h.rest e)) x → Contains h.rest x ⊎ (x ≡ e)
      rest_was true x c = inl c
      rest_was false x c = (rests x).0 c

      rest_or : (b : Bool) → is_given h.graph e.to ≡ b → (s : Scope) (l : ℕ) (x : Scope) → Contains h.graph.edges (record { from = s; label = l; to = x }) ⊎ ((let y : Edge = record { from = s; label = l; to = x } in y) ≡ e) → Contains (cond b h.rest (put edge_cmp h.rest e)) (record { from = s; label = l; to = x }) ⊎ ((d : D) × HasDatum h.graph x d)
      rest_or true g s l x (inl a) = ok.rest_or_given s l x a
      rest_or true g s l x (inr a) = let d = pair_from h.graph.given e.to g in inr (d.0, subst (λ (y : Scope). HasDatum h.graph y d.0) (sym (ap (λ (y : Edge). y.to) a)) d.1)
      rest_or false g s l x (inl a) = elim (ok.rest_or_given s l x a) [ inl r ↦ inl ((rests (record { from = s; label = l; to = x })).1 (inl r)) | inr d ↦ inr d ]
      rest_or false g s l x (inr a) = inl ((rests (record { from = s; label = l; to = x })).1 (inr a))

  pub datum_held : (u : ℕ) (s : Scope) (d : D) → HoldsDatum h u s → IsHeld (with_datum h u s d)
  datum_held u s d k =
      let puts : (x : Scope × D) → (Contains (put (on (λ p. p.0) scope_cmp) h.graph.given (s, d)) x) ↔ (Contains h.graph.given x ⊎ (x ≡ (s, d))) =
      Contains-put (on (λ (p : Scope × D). p.0) scope_cmp) (on_total (λ (p : Scope × D). p.0) scope_total) h.graph.given (s, d) (λ y c e. absurd (given_before y c e)) in
      record {
        graph = datum_added h.graph (put (on (λ p. p.0) scope_cmp) h.graph.given (s, d)) s d ok.graph
            (keys_rise scope_cmp (put (on (λ p. p.0) scope_cmp) h.graph.given (s, d)) (Rising-put (on (λ (p : Scope × D). p.0) scope_cmp) (on_total (λ (p : Scope × D). p.0) scope_total) h.graph.given (s, d) (λ y c e. absurd (given_before y c e)) (on_rise scope_cmp h.graph.given (ok.graph).data_rise)))
            puts (ok.datum_at u s k);
        rows_rise = ok.rows_rise;
        data_rise = Rising-filter datum_hold_cmp (λ (k : DatumHold). not (is_datum_hold u s k)) h.datum_holds ok.data_rise;
        labelled = ok.labelled;
        row_at = ok.row_at;
        datum_at = λ v t c. ok.datum_at v t (datum_was h u s v t d c).0;
        unset = λ v t e c g.
            let was = datum_was h u s v t d c in
            elim ((puts (t, e)).0 g) [
              | inl x ↦ ok.unset v t e was.0 x
              | inr x ↦
                  let at : t ≡ s = ap (λ (p : Scope × D). p.0) x in
                  let one : v ≡ u = ok.alone v u s (subst (λ (y : Scope). HoldsDatum h v y) at was.0) k in
                  is_it (is_datum_hold u s (datum_hold t v)) was.1 (the_hold v t one at)
            ];
        alone = λ v w t a b. ok.alone v w t (datum_was h u s v t d a).0 (datum_was h u s w t d b).0;
        row_holder = ok.row_holder;
        datum_holder = λ v t c. ok.datum_holder v t (datum_was h u s v t d c).0;
        serials = ok.serials;
        rest_rises = ok.rest_rises;
        rest_edges = ok.rest_edges;
        rest_or_given = λ t l x c. elim (ok.rest_or_given t l x c) [ inl r ↦ inl r | inr y ↦ inr (y.0, (puts (x, y.0)).1 (inl y.1)) ];
      }
    where
      given_before : (y : Scope × D) → Contains h.graph.given y → scope_cmp s y.0 ≡ Equal → ⊥
      given_before y c e = ok.unset u s y.1 k (subst (λ (x : Scope). HasDatum h.graph x y.1) (sym (equal_scope s y.0 e)) c)

      is_it : (b : Bool) → not b ≡ true → b ≡ true → ⊥
      is_it true n e = cc
      is_it false n e = cc

      the_hold : (v : ℕ) (t : Scope) → v ≡ u → t ≡ s → is_datum_hold u s (datum_hold t v) ≡ true
      the_hold v t e f = rw (e, f) (itself u s)
        where
          itself : (n : ℕ) (x : Scope) → is_datum_hold n x (datum_hold x n) ≡ true
          itself n x = grind (arith, nat_tests)

  pub close_held : (u : ℕ) (s : Scope) (l : ℕ) → IsHeld (without_row h u s l)
  close_held u s l = record {
    graph = ok.graph;
    rows_rise = Rising-filter row_hold_cmp (λ (k : RowHold). not (is_row_hold u s l k)) h.row_holds ok.rows_rise;
    data_rise = ok.data_rise;
    labelled = λ v t m c. ok.labelled v t m (close_was h u s l v t m c).0;
    row_at = λ v t m c. ok.row_at v t m (close_was h u s l v t m c).0;
    datum_at = ok.datum_at;
    unset = ok.unset;
    alone = ok.alone;
    row_holder = λ v t m c. ok.row_holder v t m (close_was h u s l v t m c).0;
    datum_holder = ok.datum_holder;
    serials = ok.serials;
    rest_rises = ok.rest_rises;
    rest_edges = ok.rest_edges;
    rest_or_given = ok.rest_or_given;
  }

  pub end_held : (u : ℕ) → IsHeld (without_unit h u)
  end_held u = record {
    graph = ok.graph;
    rows_rise = Rising-filter row_hold_cmp (λ (k : RowHold). not (eqb k.unit u)) h.row_holds ok.rows_rise;
    data_rise = Rising-filter datum_hold_cmp (λ (k : DatumHold). not (eqb k.unit u)) h.datum_holds ok.data_rise;
    labelled = λ v t m c. ok.labelled v t m (end_row_was h u v t m c).0;
    row_at = λ v t m c. ok.row_at v t m (end_row_was h u v t m c).0;
    datum_at = λ v t c. ok.datum_at v t (end_datum_was h u v t c).0;
    unset = λ v t d c g. ok.unset v t d (end_datum_was h u v t c).0 g;
    alone = λ v w t a b. ok.alone v w t (end_datum_was h u v t a).0 (end_datum_was h u w t b).0;
    row_holder = λ v t m c. ok.row_holder v t m (end_row_was h u v t m c).0;
    datum_holder = λ v t c. ok.datum_holder v t (end_datum_was h u v t c).0;
    serials = ok.serials;
    rest_rises = ok.rest_rises;
    rest_edges = ok.rest_edges;
    rest_or_given = ok.rest_or_given;
  }
