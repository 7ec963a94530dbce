-- The scopes of an opening, once they have what the opening lists, are its held graph.
use Rattle.std.proofs.Common.{◌≡◌, ℕ, ◌<◌, List, [], ◌∷◌, ◌⊎◌, ◌↔◌, true, not, inl, inr, refl, sym, ap, ◌∙◌, subst, map, length, replicate, arith}
use Rattle.std.proofs.lemmas.Bool.{cases_Bool}
use Rattle.std.proofs.lemmas.List.{length-replicate}
use Rattle.std.specs.Cmp.{on_total}
use Rattle.std.specs.List.{Contains, filter, flat_map}
use Rattle.std.specs.Ordering.{nat_cmp, on}
use Rattle.sg_base.specs.declared.scope.Scope.{Scope}
use Rattle.sg_base.specs.Graph.{Edge, edge_cmp, edge_total}
use Rattle.sg_base.specs.List.{IsDistinct, IsRising}
use Rattle.sg_base.specs.Scope.{scope_cmp, scope_total}
use Rattle.sg_base.proofs.Finite.{nothing_in, Distinct-left, map-Contains}
use Rattle.sg_base.proofs.Rising.{rising_one}
use Rattle.sg_base.proofs.Scopes.{equal_scope}
use Rattle.sg_state.specs.declared.part.Part.{Part}
use Rattle.sg_state.specs.declared.slot.Slot.TheVariants.{Given, Waits, Empty}
use Rattle.sg_state.specs.Held.{RowHold, DatumHold, row_hold_cmp, row_hold_total, datum_hold_cmp, datum_hold_total}
use Rattle.sg_state.specs.Opening.{OpeningOf, IsSoundOpening, gives, opened_of, nobody}
use Rattle.sg_state.specs.Part.{rest_in, ArePartsOf, AreParts}
use Rattle.sg_state.specs.Place.{PlaceOf}
use Rattle.sg_state.specs.View.{AreBare, Gives, HasKey, EdgeAt, HoldAt, SlotAt, IsKept, IsListed, edges_at, row_holds_at, given_of, datum_hold_of, seen}
use Rattle.sg_state.proofs.Among.{pair_to}
use Rattle.sg_state.proofs.InParts.{rest_rises, rest_from, rest_to}
use Rattle.sg_state.proofs.OpenLists.{Distinct-right, Distinct-apart, puts_rise}
use Rattle.sg_state.proofs.SoundOpenings.{gives_from, rest_is, scope_in, edge_in, given_in, row_hold_in, datum_hold_in, given_rises}
use Rattle.sg_state.proofs.Views.{an_edge, a_row_hold, a_datum_hold, edge_from, edge_to, hold_from, hold_to, given_from, given_to, waits_from, waits_to, key_from, key_to, edges_rise, holds_rise, given_rise, data_rise}
use Rattle.sg_state.proofs.Equals.{held_by, equal_edge, equal_row_hold, equal_datum_hold}

-- where nothing of a kind is new
none_new : {X : Type 0} (x : X) (N M : Type 0) → ((N) ↔ (M ⊎ Contains [] x)) → (N) ↔ (M)
none_new x N M h = ((λ n. elim (h.0 n) [ inl m ↦ m | inr c ↦ absurd (nothing_in x c) ]), (λ m. h.1 (inl m)))

-- where all of a kind is new
all_new : (N M C : Type 0) → ((N) ↔ (M ⊎ C)) → (M → ⊥) → (N) ↔ (C)
all_new N M C h none = ((λ n. elim (h.0 n) [ inl m ↦ absurd (none m) | inr c ↦ c ]), (λ c. h.1 (inr c)))

pub map_twice : {X Y Z : Type 0} (f : X → Y) (g : Y → Z) (xs : List X) → map g (map f xs) ≡ map (λ x. g (f x)) xs
map_twice f g [] = refl
map_twice {X} {Y} {Z} f g (x ∷ xs) = ap (λ (zs : List Z). g (f x) ∷ zs) (map_twice f g xs)

module _ {D : Type 0} (o : OpeningOf D) (sound : IsSoundOpening o) (e0 : List (Scope × PlaceOf D)) (bare : AreBare e0 o.scopes) where
  pub at_start : (s : Scope) → Contains o.scopes s → HasKey e0 s
  at_start s c = (bare.keys s).1 c

  pub edges_there : (e : Edge) → Contains o.edges e → HasKey e0 e.from × (e.label < 16)
  edges_there e c = let k = sound.edges e c in (at_start e.from k.0, k.1)

  pub held_datum_distinct : IsDistinct (map (λ k. k.scope) o.datum_holds)
  held_datum_distinct = Distinct-right (map (λ p. p.0) o.given) (map (λ k. k.scope) o.datum_holds) sound.one_datum

  pub given_distinct : IsDistinct (map (λ p. p.0) o.given)
  given_distinct = Distinct-left (map (λ p. p.0) o.given) (map (λ k. k.scope) o.datum_holds) sound.one_datum

  module _ (e1 : List (Scope × PlaceOf D)) (a : Gives e0 e1 o.edges [] [] []) where
    pub rows_there : (k : RowHold) → Contains o.row_holds k → HasKey e1 k.scope × (k.label < 16)
    rows_there k c =
        let h = sound.row_holds k c in
        (key_from e1 k.scope (subst (λ (xs : List Scope). Contains xs k.scope) (sym a.keys) (key_to e0 k.scope (at_start k.scope h.0))), h.1)

    module _ (e2 : List (Scope × PlaceOf D)) (b : Gives e1 e2 [] o.row_holds [] []) where
      empty_before : (s : Scope) → Contains o.scopes s → SlotAt e2 s Empty
      empty_before s c =
          let k = at_start s c in
          b.empty s (a.empty s (k.0, k.1, bare.empty s k.0 k.1) (λ n. nothing_in s n) (λ n. nothing_in s n)) (λ n. nothing_in s n) (λ n. nothing_in s n)

      pub data_empty : (k : DatumHold) → Contains o.datum_holds k → SlotAt e2 k.scope Empty
      data_empty k c = empty_before k.scope (sound.datum_holds k c).0

      module _ (e3 : List (Scope × PlaceOf D)) (c : Gives e2 e3 [] [] [] o.datum_holds) where
        pub given_empty : (q : Scope × D) → Contains o.given q → SlotAt e3 q.0 Empty
        given_empty q m =
            c.empty q.0 (empty_before q.0 (sound.given q.0 q.1 m)) (λ n. nothing_in q.0 n)
            (λ n. Distinct-apart (map (λ (p : Scope × D). p.0) o.given) (map (λ (k : DatumHold). k.scope) o.datum_holds) sound.one_datum q.0 (map-Contains (λ (p : Scope × D). p.0) o.given q m) n)

        module _ (e4 : List (Scope × PlaceOf D)) (d : Gives e3 e4 [] [] o.given []) where
          pub keys_are : (s : Scope) → (HasKey e4 s) ↔ (Contains o.scopes s)
          keys_are s =
              let same : map (λ p. p.0) e4 ≡ map (λ p. p.0) e0 = d.keys ∙ (c.keys ∙ (b.keys ∙ a.keys)) in (
                (λ h. (bare.keys s).0 (key_from e0 s (subst (λ (xs : List Scope). Contains xs s) same (key_to e4 s h)))),
                (λ m. key_from e4 s (subst (λ (xs : List Scope). Contains xs s) (sym same) (key_to e0 s (at_start s m)))),
              )

          pub edges_are : (s : Scope) (l : ℕ) (t : Scope) → (EdgeAt e4 s l t) ↔ (Contains o.edges (an_edge s l t))
          edges_are s l t =
              let x = an_edge s l t in
              let k4 = none_new x (EdgeAt e4 s l t) (EdgeAt e3 s l t) (d.edges s l t) in
              let k3 = none_new x (EdgeAt e3 s l t) (EdgeAt e2 s l t) (c.edges s l t) in
              let k2 = none_new x (EdgeAt e2 s l t) (EdgeAt e1 s l t) (b.edges s l t) in
              let k1 = all_new (EdgeAt e1 s l t) (EdgeAt e0 s l t) (Contains o.edges x) (a.edges s l t) (bare.edges s l t) in
              ((λ h. k1.0 (k2.0 (k3.0 (k4.0 h)))), (λ h. k4.1 (k3.1 (k2.1 (k1.1 h)))))

          holds_are : (s : Scope) (l u : ℕ) → (HoldAt e4 s l u) ↔ (Contains o.row_holds (a_row_hold s l u))
          holds_are s l u =
              let x = a_row_hold s l u in
              let k4 = none_new x (HoldAt e4 s l u) (HoldAt e3 s l u) (d.holds s l u) in
              let k3 = none_new x (HoldAt e3 s l u) (HoldAt e2 s l u) (c.holds s l u) in
              let k1 = none_new x (HoldAt e1 s l u) (HoldAt e0 s l u) (a.holds s l u) in
              let k2 = all_new (HoldAt e2 s l u) (HoldAt e1 s l u) (Contains o.row_holds x) (b.holds s l u) (λ h. bare.holds s l u (k1.0 h)) in
              ((λ h. k2.0 (k3.0 (k4.0 h))), (λ h. k4.1 (k3.1 (k2.1 h))))

          waits_are : (s : Scope) (u : ℕ) → (SlotAt e4 s (Waits u)) ↔ (Contains o.datum_holds (a_datum_hold s u))
          waits_are s u =
              let x = a_datum_hold s u in
              let k4 = none_new x (SlotAt e4 s (Waits u)) (SlotAt e3 s (Waits u)) (d.waits s u) in
              let k2 = none_new x (SlotAt e2 s (Waits u)) (SlotAt e1 s (Waits u)) (b.waits s u) in
              let k1 = none_new x (SlotAt e1 s (Waits u)) (SlotAt e0 s (Waits u)) (a.waits s u) in
              let k3 = all_new (SlotAt e3 s (Waits u)) (SlotAt e2 s (Waits u)) (Contains o.datum_holds x) (c.waits s u) (λ h. none_held (k1.0 (k2.0 h))) in
              ((λ h. k3.0 (k4.0 h)), (λ h. k4.1 (k3.1 h)))
            where
              none_held : SlotAt e0 s (Waits u) → ⊥
              none_held h = let e = sym (bare.empty s h.0 h.1) ∙ h.2 in cc

          pub given_are : (s : Scope) (x : D) → (SlotAt e4 s (Given x)) ↔ (Contains o.given (s, x))
          given_are s x =
              let q : Scope × D = (s, x) in
              let k3 = none_new q (SlotAt e3 s (Given x)) (SlotAt e2 s (Given x)) (c.given s x) in
              let k2 = none_new q (SlotAt e2 s (Given x)) (SlotAt e1 s (Given x)) (b.given s x) in
              let k1 = none_new q (SlotAt e1 s (Given x)) (SlotAt e0 s (Given x)) (a.given s x) in
              all_new (SlotAt e4 s (Given x)) (SlotAt e3 s (Given x)) (Contains o.given (s, x)) (d.given s x) (λ h. none_given (k1.0 (k2.0 (k3.0 h))))
            where
              none_given : SlotAt e0 s (Given x) → ⊥
              none_given h = let e = sym (bare.empty s h.0 h.1) ∙ h.2 in cc

          pub seen_is : (made : List ℕ) → made ≡ replicate o.units 0 → (rest : List Edge) → rest ≡ (opened_of o).rest → seen e4 made rest ≡ opened_of o
          seen_is made same rest is =
              held_by (seen e4 made rest) (opened_of o)
              (rising_one scope_cmp scope_total (map (λ p. p.0) e4) (opened_of o).graph.scopes (d.places).keys_rise (puts_rise scope_cmp scope_total equal_scope o.scopes) (λ s. (
                (λ m. (scope_in o sound s).1 ((keys_are s).0 (key_from e4 s m))),
                (λ m. key_to e4 s ((keys_are s).1 ((scope_in o sound s).0 m))),
              )))
              (rising_one edge_cmp edge_total (flat_map edges_at e4) (opened_of o).graph.edges (edges_rise e4 d.places) (puts_rise edge_cmp edge_total equal_edge o.edges) (λ e. (
                (λ m. (edge_in o sound e).1 ((edges_are e.from e.label e.to).0 (edge_from e4 e.from e.label e.to m))),
                (λ m. edge_to e4 e.from e.label e.to ((edges_are e.from e.label e.to).1 ((edge_in o sound e).0 m))),
              )))
              (rising_one (on (λ p. p.0) scope_cmp) (on_total (λ p. p.0) scope_total) (flat_map (λ p. given_of p.0 (p.1).slot) e4) (opened_of o).graph.given (given_rise e4 d.places) (given_rises o sound) (λ q. (
                (λ m. (given_in o sound q).1 ((given_are q.0 q.1).0 (given_from e4 q.0 q.1 m))),
                (λ m. given_to e4 q.0 q.1 ((given_are q.0 q.1).1 ((given_in o sound q).0 m))),
              )))
              (rising_one row_hold_cmp row_hold_total (flat_map row_holds_at e4) (opened_of o).row_holds (holds_rise e4 d.places) (puts_rise row_hold_cmp row_hold_total equal_row_hold o.row_holds) (λ k. (
                (λ m. (row_hold_in o sound k).1 ((holds_are k.scope k.label k.unit).0 (hold_from e4 k.scope k.label k.unit m))),
                (λ m. hold_to e4 k.scope k.label k.unit ((holds_are k.scope k.label k.unit).1 ((row_hold_in o sound k).0 m))),
              )))
              (rising_one datum_hold_cmp datum_hold_total (flat_map (λ p. datum_hold_of p.0 (p.1).slot) e4) (opened_of o).datum_holds (data_rise e4 d.places) (puts_rise datum_hold_cmp datum_hold_total equal_datum_hold o.datum_holds) (λ k. (
                (λ m. (datum_hold_in o sound k).1 ((waits_are k.scope k.unit).0 (waits_from e4 k.scope k.unit m))),
                (λ m. waits_to e4 k.scope k.unit ((waits_are k.scope k.unit).1 ((datum_hold_in o sound k).0 m))),
              )))
              same is

          -- what an edge's target has is what the opening gives
          not_given : (t : Scope) → ((x : D) → SlotAt e4 t (Given x) → ⊥) → (x : D) → Contains o.given (t, x) → ⊥
          not_given t n x c = n x ((given_are t x).1 c)

          module _ (key : D → ℕ) (ps : List (Part × List Scope)) (are : ArePartsOf key e4 o.edges ps) where
            pub rest_opened : rest_in ps ≡ (opened_of o).rest
            rest_opened =
                rising_one edge_cmp edge_total (rest_in ps) (opened_of o).rest (rest_rises ps) (puts_rise edge_cmp edge_total equal_edge (filter (λ e. not (gives o e.to)) o.edges)) (λ e. (
                  (λ c. let h = (are.rest e.from e.label e.to).0 (rest_from ps e.from e.label e.to c) in (rest_is o sound e).1 (h.0, not_given e.to h.1)),
                  (λ c. let h = (rest_is o sound e).0 c in rest_to ps e.from e.label e.to ((are.rest e.from e.label e.to).1 (h.0, (λ x k. h.1 x ((given_are e.to x).0 k))))),
                ))

            pub parts_opened : AreParts key e4 ps
            parts_opened = record {
              keyed = λ s l k t h. let x = (are.keyed s l k t).0 h in ((edges_are s l t).1 x.0, x.1, x.2, x.3);
              rest = λ s l t h. (edges_are s l t).1 ((are.rest s l t).0 h).0;
              each = λ s l t e. elim (cases_Bool (gives o t)) [
                | inl g ↦
                    let d = gives_from o sound t g in
                    let at = (given_are t d.0).1 d.1 in
                    inr (d.0, at, (are.keyed s l (key d.0) t).1 ((edges_are s l t).0 e, d.0, at, refl))
                | inr n ↦ inl ((are.rest s l t).1 ((edges_are s l t).0 e, (λ x k. let y : gives o t ≡ true = pair_to o.given t x ((given_are t x).0 k) in absurd (cc))))
              ];
              apart = λ s l k t a b. let y = (are.keyed s l k t).0 b in ((are.rest s l t).0 a).1 y.1 y.2;
            }

          pub opened_kept : (made : List ℕ) → made ≡ replicate o.units 0 → (units : List (ℕ × List Scope)) → IsRising nat_cmp (map (λ p. p.0) units) → ((k : RowHold) → Contains o.row_holds k → IsListed units k.unit k.scope) → ((k : DatumHold) → Contains o.datum_holds k → IsListed units k.unit k.scope) → IsKept e4 made units
          opened_kept made same units up rows data_ = record {
            places = d.places;
            lists_rise = up;
            targets = λ s l t h. (keys_are t).1 (sound.edges (an_edge s l t) ((edges_are s l t).0 h)).2;
            row_listed = λ s l u h. let k = (holds_are s l u).0 h in (below u (sound.row_holds (a_row_hold s l u) k).2, rows (a_row_hold s l u) k);
            datum_listed = λ s u h. let k = (waits_are s u).0 h in (below u (sound.datum_holds (a_datum_hold s u) k).1, data_ (a_datum_hold s u) k);
            serials = λ s h lt. absurd (let n : s.unit ≡ nobody = sound.nobodys s ((keys_are s).0 h) in let few : o.units < nobody = sound.few in let is = long in omega (arith, n, few, lt, is));
          }
            where
              long : length made ≡ o.units
              long = ap (λ (xs : List ℕ). length xs) same ∙ length-replicate o.units 0

              below : (u : ℕ) → u < o.units → u < length made
              below u h = let is = long in omega (arith, h, is)
