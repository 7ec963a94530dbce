-- Parts of rows with their targets, and what a new target does.
use Rattle.std.proofs.Common.{◌≡◌, ℕ, List, [], ◌⊎◌, ◌↔◌, Bool, true, false, cond, inl, inr, refl, sym, ap, ◌∙◌, subst}
use Rattle.std.specs.List.{Contains, flat_map}
use Rattle.sg_base.specs.declared.scope.Scope.{Scope}
use Rattle.sg_base.specs.Graph.{Edge, edge_cmp, edge_total}
use Rattle.sg_base.specs.List.{IsRising}
use Rattle.sg_base.specs.Scope.{scope_cmp, scope_total}
use Rattle.sg_base.proofs.Finite.{nothing_in, map-Contains, Contains-map, Contains-flat_map, flat_map-Contains}
use Rattle.sg_base.proofs.Rising.{rising_one}
use Rattle.sg_base.proofs.Scopes.{edge_by, equal_scope}
use Rattle.sg_state.specs.declared.part.Part.{Part}
use Rattle.sg_state.specs.declared.part.Part.TheVariants.{Keyed, Rest}
use Rattle.sg_state.specs.declared.slot.Slot.{Slot}
use Rattle.sg_state.specs.declared.slot.Slot.TheVariants.{Given}
use Rattle.sg_state.specs.Held.{is_given, put}
use Rattle.sg_state.specs.Part.{HasIn, rest_of, rest_in, KeepsParts, AddsIn, LosesIn, IsPartOf, ArePartsOf, AreParts}
use Rattle.sg_state.specs.Place.{PlaceOf}
use Rattle.sg_state.specs.View.{ArePlaces, EdgeAt, SlotAt, seen}
use Rattle.sg_state.proofs.Among.{pair_to, pair_none}
use Rattle.sg_state.proofs.Equals.{equal_edge}
use Rattle.sg_state.proofs.Keyed.{one_value}
use Rattle.sg_state.proofs.OpenLists.{puts_rise, puts_hold}
use Rattle.sg_state.proofs.RisingLists.{is_put}
use Rattle.sg_state.proofs.Views.{an_edge, given_from, given_to}

-- ---- parts are one where their scopes, labels and keys are

pub one_rest : (s t : Scope) (l m : ℕ) → Rest s l ≡ Rest t m → (s ≡ t) × (l ≡ m)
one_rest s t l m e = (cc, cc)

pub one_keyed : (s t : Scope) (l m j k : ℕ) → Keyed s l j ≡ Keyed t m k → (s ≡ t) × (l ≡ m) × (j ≡ k)
one_keyed s t l m j k e = (cc, cc, cc)

pub rest_not_keyed : (s t : Scope) (l m k : ℕ) → Rest s l ≡ Keyed t m k → ⊥
rest_not_keyed s t l m k e = cc

pub rest_by : (s t : Scope) (l m : ℕ) → s ≡ t → l ≡ m → Rest s l ≡ Rest t m
rest_by s t l m a b = rw (a, b) refl

pub keyed_by : (s t : Scope) (l m j k : ℕ) → s ≡ t → l ≡ m → j ≡ k → Keyed s l j ≡ Keyed t m k
keyed_by s t l m j k a b c = rw (a, b, c) refl

-- ---- the rest

module _ (ps : List (Part × List Scope)) where
  abbrev edges : List Edge
  edges = flat_map (λ p. rest_of p.0 p.1) ps

  pub rest_rises : IsRising edge_cmp (rest_in ps)
  rest_rises = puts_rise edge_cmp edge_total equal_edge edges

  in_rest : (p : Part) (xs : List Scope) (s : Scope) (l : ℕ) (t : Scope) → Contains ps (p, xs) → Contains (rest_of p xs) (an_edge s l t) → HasIn ps (Rest s l) t
  in_rest (Keyed r m k) xs s l t c e = absurd (nothing_in (an_edge s l t) e)
  in_rest (Rest r m) xs s l t c e =
      let h = Contains-map (an_edge r m) xs (an_edge s l t) e in
      let there : HasIn ps (Rest r m) h.0 = (xs, c, h.1) in
      subst (λ (x : Edge). HasIn ps (Rest x.from x.label) x.to) (sym h.2) there

  pub rest_from : (s : Scope) (l : ℕ) (t : Scope) → Contains (rest_in ps) (an_edge s l t) → HasIn ps (Rest s l) t
  rest_from s l t c =
      let h = Contains-flat_map (λ (p : Part × List Scope). rest_of p.0 p.1) ps (an_edge s l t) ((puts_hold edge_cmp edge_total equal_edge edges (an_edge s l t)).0 c) in
      in_rest (h.0).0 (h.0).1 s l t h.1 h.2

  pub rest_to : (s : Scope) (l : ℕ) (t : Scope) → HasIn ps (Rest s l) t → Contains (rest_in ps) (an_edge s l t)
  rest_to s l t h =
      (puts_hold edge_cmp edge_total equal_edge edges (an_edge s l t)).1
      (flat_map-Contains (λ (p : Part × List Scope). rest_of p.0 p.1) ps (Rest s l, h.0) (an_edge s l t) h.1 (map-Contains (an_edge s l) h.0 t h.2))

-- ---- more, and as before

module _ (old new : List (Part × List Scope)) where
  pub rest_same : ((s : Scope) (l : ℕ) (t : Scope) → (HasIn new (Rest s l) t) ↔ (HasIn old (Rest s l) t)) → rest_in new ≡ rest_in old
  rest_same same =
      rising_one edge_cmp edge_total (rest_in new) (rest_in old) (rest_rises new) (rest_rises old) (λ e. (
        (λ c. rest_to old e.from e.label e.to ((same e.from e.label e.to).0 (rest_from new e.from e.label e.to c))),
        (λ c. rest_to new e.from e.label e.to ((same e.from e.label e.to).1 (rest_from old e.from e.label e.to c))),
      ))

  pub rest_still : (s : Scope) (l k : ℕ) (t : Scope) → AddsIn old new (Keyed s l k) t → rest_in new ≡ rest_in old
  rest_still s l k t more =
      rest_same (λ r m x. (
        (λ h. elim ((more (Rest r m) x).0 h) [ inl o ↦ o | inr e ↦ absurd (rest_not_keyed r s m l k e.0) ]),
        (λ h. (more (Rest r m) x).1 (inl h)),
      ))

  pub rest_put : (s : Scope) (l : ℕ) (t : Scope) → AddsIn old new (Rest s l) t → rest_in new ≡ put edge_cmp (rest_in old) (an_edge s l t)
  rest_put s l t more =
      is_put edge_cmp edge_total (rest_in old) (rest_in new) (an_edge s l t) (λ y k. equal_edge (an_edge s l t) y) (rest_rises old) (rest_rises new) (λ e. (
        (λ c. elim ((more (Rest e.from e.label) e.to).0 (rest_from new e.from e.label e.to c)) [
          | inl h ↦ inl (rest_to old e.from e.label e.to h)
          | inr h ↦ let k = one_rest e.from s e.label l h.0 in inr (edge_by e (an_edge s l t) k.0 k.1 h.1)
        ]),
        (λ h. rest_to new e.from e.label e.to ((more (Rest e.from e.label) e.to).1 (elim h [
          | inl c ↦ inl (rest_from old e.from e.label e.to c)
          | inr x ↦ inr (ap (λ (y : Edge). Rest y.from y.label) x, ap (λ (y : Edge). y.to) x)
        ]))),
      ))

  pub undone : (mid : List (Part × List Scope)) (p : Part) (t : Scope) → AddsIn old mid p t → LosesIn mid new p t → (HasIn old p t → ⊥) → KeepsParts old new
  undone mid p t more less none q x = (
    (λ h. let k = (less q x).0 h in elim ((more q x).0 k.1) [ inl o ↦ o | inr e ↦ absurd (k.0 e) ]),
    (λ h. (less q x).1 ((λ e. none (subst (λ (y : Scope). HasIn old p y) e.1 (subst (λ (y : Part). HasIn old y x) e.0 h))), (more q x).1 (inl h))),
  )

-- ---- the parts of the rows

module _ {D : Type 0} (key : D → ℕ) (es : List (Scope × PlaceOf D)) (ps : List (Part × List Scope)) (ok : AreParts key es ps) where
  pub parts_after : (new : List (Scope × PlaceOf D)) → ((s : Scope) (l : ℕ) (t : Scope) → (EdgeAt new s l t) ↔ (EdgeAt es s l t)) → ((t : Scope) (d : D) → SlotAt es t (Given d) → SlotAt new t (Given d)) → AreParts key new ps
  parts_after new edges given = record {
    keyed = λ s l k t h. let x = ok.keyed s l k t h in ((edges s l t).1 x.0, x.1, given t x.1 x.2, x.3);
    rest = λ s l t h. (edges s l t).1 (ok.rest s l t h);
    each = λ s l t e. elim (ok.each s l t ((edges s l t).0 e)) [ inl h ↦ inl h | inr x ↦ inr (x.0, given t x.0 x.1, x.2) ];
    apart = ok.apart;
  }

  pub parts_kept : (qs : List (Part × List Scope)) → KeepsParts ps qs → AreParts key es qs
  parts_kept qs same = record {
    keyed = λ s l k t h. ok.keyed s l k t ((same (Keyed s l k) t).0 h);
    rest = λ s l t h. ok.rest s l t ((same (Rest s l) t).0 h);
    each = λ s l t e. elim (ok.each s l t e) [ inl h ↦ inl ((same (Rest s l) t).1 h) | inr x ↦ inr (x.0, x.1, (same (Keyed s l (key x.0)) t).1 x.2) ];
    apart = λ s l k t a b. ok.apart s l k t ((same (Rest s l) t).0 a) ((same (Keyed s l k) t).0 b);
  }

  module _ (s : Scope) (l : ℕ) (t : Scope) where
    pub none_in : (p : Part) → IsPartOf key es s l t p → (EdgeAt es s l t → ⊥) → HasIn ps p t → ⊥
    none_in (Keyed r m k) is none h = none (subst (λ (x : Scope). EdgeAt es x l t) is.0 (subst (λ (n : ℕ). EdgeAt es r n t) is.1 (ok.keyed r m k t h).0))
    none_in (Rest r m) is none h = none (subst (λ (x : Scope). EdgeAt es x l t) is.0 (subst (λ (n : ℕ). EdgeAt es r n t) is.1 (ok.rest r m t h)))

    pub rest_more : (made : List ℕ) (p : Part) (qs : List (Part × List Scope)) → IsPartOf key es s l t p → AddsIn ps qs p t → rest_in qs ≡ cond (is_given (seen es made (rest_in ps)).graph t) (rest_in ps) (put edge_cmp (rest_in ps) (an_edge s l t))
    rest_more made (Keyed r m k) qs is more =
        let yes : is_given (seen es made (rest_in ps)).graph t ≡ true = pair_to (seen es made (rest_in ps)).graph.given t is.2 (given_to es t is.2 is.3) in
        rest_still ps qs r m k t more ∙ sym (ap (λ (b : Bool). cond b (rest_in ps) (put edge_cmp (rest_in ps) (an_edge s l t))) yes)
    rest_more made (Rest r m) qs is more =
        let no : is_given (seen es made (rest_in ps)).graph t ≡ false = pair_none (seen es made (rest_in ps)).graph.given t (λ d c. is.2 d (given_from es t d c)) in
        rest_put ps qs s l t (subst (λ (x : Scope). AddsIn ps qs (Rest x l) t) is.0 (subst (λ (n : ℕ). AddsIn ps qs (Rest r n) t) is.1 more)) ∙ sym (ap (λ (b : Bool). cond b (rest_in ps) (put edge_cmp (rest_in ps) (an_edge s l t))) no)

    module _ (new : List (Scope × PlaceOf D)) (none : EdgeAt es s l t → ⊥) (edges : (j : Scope) (m : ℕ) (x : Scope) → (EdgeAt new j m x) ↔ (EdgeAt es j m x ⊎ ((j ≡ s) × ((m ≡ l) × (x ≡ t))))) (slots : (j : Scope) (x : Slot D) → (SlotAt new j x) ↔ (SlotAt es j x)) where
      here : EdgeAt new s l t
      here = (edges s l t).1 (inr (refl, (refl, refl)))

      later : (j : Scope) (m : ℕ) (x : Scope) → EdgeAt es j m x → EdgeAt new j m x
      later j m x e = (edges j m x).1 (inl e)

      pub parts_more : (p : Part) (qs : List (Part × List Scope)) → IsPartOf key es s l t p → AddsIn ps qs p t → AreParts key new qs
      parts_more (Keyed r n i) qs is more = record {
        keyed = λ j m k x h. elim ((more (Keyed j m k) x).0 h) [
          | inl o ↦ let y = ok.keyed j m k x o in (later j m x y.0, y.1, (slots x (Given y.1)).1 y.2, y.3)
          | inr e ↦
              let a = one_keyed j r m n k i e.0 in
              rw (a.0 ∙ is.0, a.1 ∙ is.1, a.2, e.1) (here, is.2, (slots t (Given is.2)).1 is.3, is.4)
        ];
        rest = λ j m x h. elim ((more (Rest j m) x).0 h) [ inl o ↦ later j m x (ok.rest j m x o) | inr e ↦ absurd (rest_not_keyed j r m n i e.0) ];
        each = λ j m x e. elim ((edges j m x).0 e) [
          | inl o ↦ elim (ok.each j m x o) [
            | inl h ↦ inl ((more (Rest j m) x).1 (inl h))
            | inr y ↦ inr (y.0, (slots x (Given y.0)).1 y.1, (more (Keyed j m (key y.0)) x).1 (inl y.2))
          ]
          | inr y ↦ inr (is.2, subst (λ (z : Scope). SlotAt new z (Given is.2)) (sym (y.1).1) ((slots t (Given is.2)).1 is.3), (more (Keyed j m (key is.2)) x).1 (inr (keyed_by j r m n (key is.2) i (y.0 ∙ sym is.0) ((y.1).0 ∙ sym is.1) is.4, (y.1).1)))
        ];
        apart = λ j m k x a b. elim ((more (Rest j m) x).0 a) [
          | inl o ↦ elim ((more (Keyed j m k) x).0 b) [
            | inl u ↦ ok.apart j m k x o u
            | inr e ↦ let y = one_keyed j r m n k i e.0 in none (subst (λ (z : Scope). EdgeAt es z l t) (y.0 ∙ is.0) (subst (λ (q : ℕ). EdgeAt es j q t) (y.1 ∙ is.1) (subst (λ (z : Scope). EdgeAt es j m z) e.1 (ok.rest j m x o))))
          ]
          | inr e ↦ rest_not_keyed j r m n i e.0
        ];
      }
      parts_more (Rest r n) qs is more = record {
        keyed = λ j m k x h. elim ((more (Keyed j m k) x).0 h) [
          | inl o ↦ let y = ok.keyed j m k x o in (later j m x y.0, y.1, (slots x (Given y.1)).1 y.2, y.3)
          | inr e ↦ absurd (rest_not_keyed r j n m k (sym e.0))
        ];
        rest = λ j m x h. elim ((more (Rest j m) x).0 h) [
          | inl o ↦ later j m x (ok.rest j m x o)
          | inr e ↦ let a = one_rest j r m n e.0 in rw (a.0 ∙ is.0, a.1 ∙ is.1, e.1) here
        ];
        each = λ j m x e. elim ((edges j m x).0 e) [
          | inl o ↦ elim (ok.each j m x o) [
            | inl h ↦ inl ((more (Rest j m) x).1 (inl h))
            | inr y ↦ inr (y.0, (slots x (Given y.0)).1 y.1, (more (Keyed j m (key y.0)) x).1 (inl y.2))
          ]
          | inr y ↦ inl ((more (Rest j m) x).1 (inr (rest_by j r m n (y.0 ∙ sym is.0) ((y.1).0 ∙ sym is.1), (y.1).1)))
        ];
        apart = λ j m k x a b. elim ((more (Keyed j m k) x).0 b) [
          | inl u ↦ elim ((more (Rest j m) x).0 a) [
            | inl o ↦ ok.apart j m k x o u
            | inr e ↦ let y = one_rest j r m n e.0 in none (subst (λ (z : Scope). EdgeAt es z l t) (y.0 ∙ is.0) (subst (λ (q : ℕ). EdgeAt es j q t) (y.1 ∙ is.1) (subst (λ (z : Scope). EdgeAt es j m z) e.1 (ok.keyed j m k x u).0)))
          ]
          | inr e ↦ rest_not_keyed r j n m k (sym e.0)
        ];
      }

-- ---- the parts of a list of edges

pub one_given : {D : Type 0} (es : List (Scope × PlaceOf D)) → ArePlaces es → (t : Scope) (a b : D) → SlotAt es t (Given a) → SlotAt es t (Given b) → a ≡ b
one_given {D} es ok t a b h k =
    let same = one_value scope_cmp scope_total equal_scope es ok.keys_rise t h.0 k.0 h.1 k.1 in
    given_one (sym h.2 ∙ (ap (λ (p : PlaceOf D). p.slot) same ∙ k.2))
  where
    given_one : Given a ≡ Given b → a ≡ b
    given_one e = cc

module _ {D : Type 0} (key : D → ℕ) (es : List (Scope × PlaceOf D)) (ok : ArePlaces es) (done more : List Edge) (s : Scope) (l : ℕ) (t : Scope) (next : (e : Edge) → (Contains more e) ↔ (Contains done e ⊎ (e ≡ an_edge s l t))) (old new : List (Part × List Scope)) (are : ArePartsOf key es done old) where
  pub parts_next : (p : Part) → IsPartOf key es s l t p → AddsIn old new p t → ArePartsOf key es more new
  parts_next (Keyed r n i) is adds = record {
    keyed = λ j m k x. (
      (λ h. elim ((adds (Keyed j m k) x).0 h) [
        | inl o ↦ let y = (are.keyed j m k x).0 o in ((next (an_edge j m x)).1 (inl y.0), y.1, y.2, y.3)
        | inr e ↦
            let a = one_keyed j r m n k i e.0 in
            ((next (an_edge j m x)).1 (inr (edge_by (an_edge j m x) (an_edge s l t) (a.0 ∙ is.0) (a.1 ∙ is.1) e.1)), is.2, subst (λ (z : Scope). SlotAt es z (Given is.2)) (sym e.1) is.3, is.4 ∙ sym a.2)
      ]),
      (λ h. elim ((next (an_edge j m x)).0 h.0) [
        | inl c ↦ (adds (Keyed j m k) x).1 (inl ((are.keyed j m k x).1 (c, h.1, h.2, h.3)))
        | inr e ↦
            let to : x ≡ t = ap (λ (y : Edge). y.to) e in
            let d : h.1 ≡ is.2 = one_given es ok t h.1 is.2 (subst (λ (z : Scope). SlotAt es z (Given h.1)) to h.2) is.3 in
            (adds (Keyed j m k) x).1 (inr (keyed_by j r m n k i (ap (λ (y : Edge). y.from) e ∙ sym is.0) (ap (λ (y : Edge). y.label) e ∙ sym is.1) (sym h.3 ∙ (ap key d ∙ is.4)), to))
      ]),
    );
    rest = λ j m x. (
      (λ h. elim ((adds (Rest j m) x).0 h) [
        | inl o ↦ let y = (are.rest j m x).0 o in ((next (an_edge j m x)).1 (inl y.0), y.1)
        | inr e ↦ absurd (rest_not_keyed j r m n i e.0)
      ]),
      (λ h. elim ((next (an_edge j m x)).0 h.0) [
        | inl c ↦ (adds (Rest j m) x).1 (inl ((are.rest j m x).1 (c, h.1)))
        | inr e ↦ absurd (h.1 is.2 (subst (λ (z : Scope). SlotAt es z (Given is.2)) (sym (ap (λ (y : Edge). y.to) e)) is.3))
      ]),
    );
  }
  parts_next (Rest r n) is adds = record {
    keyed = λ j m k x. (
      (λ h. elim ((adds (Keyed j m k) x).0 h) [
        | inl o ↦ let y = (are.keyed j m k x).0 o in ((next (an_edge j m x)).1 (inl y.0), y.1, y.2, y.3)
        | inr e ↦ absurd (rest_not_keyed r j n m k (sym e.0))
      ]),
      (λ h. elim ((next (an_edge j m x)).0 h.0) [
        | inl c ↦ (adds (Keyed j m k) x).1 (inl ((are.keyed j m k x).1 (c, h.1, h.2, h.3)))
        | inr e ↦ absurd (is.2 h.1 (subst (λ (z : Scope). SlotAt es z (Given h.1)) (ap (λ (y : Edge). y.to) e) h.2))
      ]),
    );
    rest = λ j m x. (
      (λ h. elim ((adds (Rest j m) x).0 h) [
        | inl o ↦ let y = (are.rest j m x).0 o in ((next (an_edge j m x)).1 (inl y.0), y.1)
        | inr e ↦
            let a = one_rest j r m n e.0 in
            ((next (an_edge j m x)).1 (inr (edge_by (an_edge j m x) (an_edge s l t) (a.0 ∙ is.0) (a.1 ∙ is.1) e.1)), (λ d k. is.2 d (subst (λ (z : Scope). SlotAt es z (Given d)) e.1 k)))
      ]),
      (λ h. elim ((next (an_edge j m x)).0 h.0) [
        | inl c ↦ (adds (Rest j m) x).1 (inl ((are.rest j m x).1 (c, h.1)))
        | inr e ↦ (adds (Rest j m) x).1 (inr (rest_by j r m n (ap (λ (y : Edge). y.from) e ∙ sym is.0) (ap (λ (y : Edge). y.label) e ∙ sym is.1), ap (λ (y : Edge). y.to) e))
      ]),
    );
  }

-- where there is no edge
pub no_parts : {D : Type 0} (key : D → ℕ) → AreParts key [] []
no_parts {D} key = record {
  keyed = λ s l k t h. absurd (nothing_in (Keyed s l k, h.0) h.1);
  rest = λ s l t h. absurd (nothing_in (Rest s l, h.0) h.1);
  each = λ s l t h. absurd (nothing_in (s, h.0) h.1);
  apart = λ s l k t a b. nothing_in (Rest s l, a.0) a.1;
}
