-- What look-ups of a row and of a datum find.
use Rattle.std.proofs.Common.{◌≡◌, ℕ, List, [], ◌∷◌, ◌==◌, length, arith, Bool, true, false, IsTrue, ◌↔◌, refl, sym, ap, ◌∙◌, subst, Option, Some, None, Bor}
use Rattle.std.proofs.lemmas.Bool.Decides.{nat_tests}
use Rattle.std.specs.BTreeMap.{is_at}
use Rattle.std.specs.Cmp.{nat_cmp_total}
use Rattle.std.specs.List.{Contains}
use Rattle.std.specs.Map.{lookup}
use Rattle.std.specs.Option.{option_copied, IfSome, IfNone, is_some}
use Rattle.std.specs.Ordering.{nat_cmp}
use Rattle.sg_base.specs.declared.scope.Scope.{Scope}
use Rattle.sg_base.specs.Graph.{Edge, GraphOf, HasScope, HasDatum, HasNoDatum, row_of}
use Rattle.sg_base.specs.List.{IsRising}
use Rattle.sg_base.specs.Scope.{scope_cmp, scope_total}
use Rattle.sg_base.specs.State.{IsOpen, IsUnset}
use Rattle.sg_base.proofs.Edges.{row_from, row_to, Rising-row}
use Rattle.sg_base.proofs.Finite.{nothing_in, Contains-head, each_at}
use Rattle.sg_base.proofs.Rising.{rising_one}
use Rattle.sg_base.proofs.Scopes.{equal_nat, equal_scope}
use Rattle.sg_state.specs.declared.row.Row.{Row}
use Rattle.sg_state.specs.declared.slot.Slot.{Slot}
use Rattle.sg_state.specs.declared.slot.Slot.TheVariants.{Given, Waits}
use Rattle.sg_state.specs.Held.{HeldOf, IsHeld, HoldsRow, HoldsDatum, state_of}
use Rattle.sg_state.specs.Place.{PlaceOf, IsPlace}
use Rattle.sg_state.specs.View.{ArePlaces, HasKey, RowAt, RowIs, SlotAt, EdgeAt, HoldAt, seen}
use Rattle.sg_state.proofs.Changing.{row_here}
use Rattle.sg_state.proofs.Extending.{open_from, open_to, unset_from}
use Rattle.sg_state.proofs.Keyed.{found-Contains, none_there, one_value}
use Rattle.sg_state.proofs.Views.{edge_from, edge_to, given_from, given_to, waits_from, waits_to, key_from, key_to}

module _ {D : Type 0} (es : List (Scope × PlaceOf D)) (s : Scope) (l : ℕ) where
  pub row_some : (p : PlaceOf D) → lookup (is_at (scope_cmp s)) es ≡ Some p → (o : Option (Bor Row)) → option_copied o ≡ lookup (is_at (nat_cmp l)) p.rows → IfSome o (λ r. RowIs es s l r.now)
  row_some p here None h = tt
  row_some p here (Some r) h = (p, found-Contains scope_cmp scope_total equal_scope es s p here, found-Contains nat_cmp nat_cmp_total equal_nat p.rows l r.now (sym h))

  pub row_none : (p : PlaceOf D) → lookup (is_at (scope_cmp s)) es ≡ Some p → (o : Option (Bor Row)) → option_copied o ≡ lookup (is_at (nat_cmp l)) p.rows → IfNone o (ArePlaces es → RowAt es s l → ⊥)
  row_none p here None h = λ ok r. (let k = row_here es s ok l p r here in none_there nat_cmp nat_cmp_total equal_nat p.rows l k.0 (sym h) k.1)
  row_none p here (Some r) h = tt

  module _ (ok : ArePlaces es) (r : Row) (is : RowIs es s l r) where
    one_row : (p : PlaceOf D) (q : Row) → Contains es (s, p) → Contains p.rows (l, q) → q ≡ r
    one_row p q c d =
        let same : p ≡ is.0 = one_value scope_cmp scope_total equal_scope es ok.keys_rise s p is.0 c is.1 in
        let place : IsPlace is.0 = each_at (λ (x : Scope × PlaceOf D). IsPlace x.1) es ok.each (s, is.0) is.1 in
        one_value nat_cmp nat_cmp_total equal_nat (is.0).rows place.labels_rise l q r (subst (λ (x : PlaceOf D). Contains x.rows (l, q)) same d) is.2

    pub holders_exact : (u : ℕ) → (Contains r.holders u) ↔ (HoldAt es s l u)
    holders_exact u = (
      (λ c. (is.0, is.1, (r, is.2, c))),
      (λ h. let k = h.2 in subst (λ (x : Row). Contains x.holders u) (one_row h.0 k.0 h.1 k.1) k.2),
    )

    pub targets_exact : (t : Scope) → (Contains r.targets t) ↔ (EdgeAt es s l t)
    targets_exact t = (
      (λ c. (is.0, is.1, (r, is.2, c))),
      (λ h. let k = h.2 in subst (λ (x : Row). Contains x.targets t) (one_row h.0 k.0 h.1 k.1) k.2),
    )

module _ {D : Type 0} (es : List (Scope × PlaceOf D)) (made : List ℕ) (rest : List Edge) (s : Scope) (l : ℕ) (held : IsHeld (seen es made rest)) where
  pub row_is : (ts : List Scope) → IsRising scope_cmp ts → ((t : Scope) → (Contains ts t) ↔ (EdgeAt es s l t)) → ts ≡ row_of (seen es made rest).graph s l
  row_is ts up same =
      let g : GraphOf D = (seen es made rest).graph in
      rising_one scope_cmp scope_total ts (row_of g s l) up (Rising-row g (held.graph).edges_rise s l) (λ t. (
        (λ c. row_to g s l t (edge_to es s l t ((same t).0 c))),
        (λ c. (same t).1 (edge_from es s l t (row_from g s l t c))),
      ))

-- ---- data

pub not_given : {D : Type 0} (es : List (Scope × PlaceOf D)) (s : Scope) → ArePlaces es → (x : Slot D) → SlotAt es s x → ((d : D) → x ≡ Given d → ⊥) → (d : D) → SlotAt es s (Given d) → ⊥
not_given {D} es s ok x h n d w =
    let same = one_value scope_cmp scope_total equal_scope es ok.keys_rise s h.0 w.0 h.1 w.1 in
    n d (sym h.2 ∙ (ap (λ (p : PlaceOf D). p.slot) same ∙ w.2))

module _ {D : Type 0} (es : List (Scope × PlaceOf D)) (made : List ℕ) (rest : List Edge) (s : Scope) where
  pub slot_waits : (x : Slot D) (u : ℕ) → SlotAt es s x → x ≡ Waits u → HoldsDatum (seen es made rest) u s
  slot_waits x u h e = waits_to es s u (h.0, h.1, h.2 ∙ e)

  pub slot_given : (x : Slot D) (d : D) → SlotAt es s x → x ≡ Given d → HasDatum (seen es made rest).graph s d
  slot_given x d h e = given_to es s d (h.0, h.1, h.2 ∙ e)

  pub slot_not_unset : ArePlaces es → (x : Slot D) → SlotAt es s x → ((u : ℕ) → x ≡ Waits u → ⊥) → IsUnset (state_of (seen es made rest)) s → ⊥
  slot_not_unset ok x h n o =
      let k = unset_from (seen es made rest) s o in
      let w = waits_from es s k.0 k.1 in
      let same = one_value scope_cmp scope_total equal_scope es ok.keys_rise s h.0 w.0 h.1 w.1 in
      n k.0 (sym h.2 ∙ (ap (λ (p : PlaceOf D). p.slot) same ∙ w.2))

  pub slot_not_given : ArePlaces es → (x : Slot D) → SlotAt es s x → ((d : D) → x ≡ Given d → ⊥) → HasNoDatum (seen es made rest).graph s
  slot_not_given ok x h n d o = not_given es s ok x h n d (given_from es s d o)

  pub none_unset : (HasKey es s → ⊥) → IsUnset (state_of (seen es made rest)) s → ⊥
  none_unset n o =
      let k = unset_from (seen es made rest) s o in
      let w = waits_from es s k.0 k.1 in
      n (w.0, w.1)

  pub none_given : (HasKey es s → ⊥) → HasNoDatum (seen es made rest).graph s
  none_given n d o = let w = given_from es s d o in n (w.0, w.1)

  pub scope_is : (o : Option (Bor (Slot D))) → IfSome o (λ x. SlotAt es s x.now) → IfNone o (HasKey es s → ⊥) → (IsTrue (is_some o)) ↔ (HasScope (seen es made rest).graph s)
  scope_is None h n = ((λ t. cc), (λ c. absurd (n (key_from es s c))))
  scope_is (Some x) h n = ((λ t. key_to es s (h.0, h.1)), (λ c. refl))

  pub no_waits : (u : ℕ) (d : D) → Given d ≡ Waits u → ⊥
  no_waits u d e = cc

pub closed_is : {D : Type 0} (h : HeldOf D) (s : Scope) (l : ℕ) (hs : List ℕ) (b : Bool) → b ≡ (length hs == 0) → ((u : ℕ) → (Contains hs u) ↔ (HoldsRow h u s l)) → (IsTrue b) ↔ (IsOpen (state_of h) s l → ⊥)
closed_is h s l [] b e same = (
  (λ t o. let k = open_from h s l o in nothing_in k.0 ((same k.0).1 k.1)),
  (λ n. e),
)
closed_is h s l (x ∷ xs) b e same = (
  (λ t. absurd (let f : b ≡ false = e ∙ not_empty x xs in cc)),
  (λ n. absurd (n (open_to h x s l ((same x).0 (Contains-head x xs))))),
)
  where
    not_empty : (x : ℕ) (xs : List ℕ) → (length (x ∷ xs) == 0) ≡ false
    not_empty x xs = grind (arith, nat_tests)

-- a row whose holders are these is open where there is one
pub open_is : {D : Type 0} (h : HeldOf D) (s : Scope) (l : ℕ) (hs : List ℕ) (b : Bool) → b ≡ (length hs == 0) → ((u : ℕ) → (Contains hs u) ↔ (HoldsRow h u s l)) → b ≡ false → IsOpen (state_of h) s l
open_is h s l [] b e same f = absurd (let t : b ≡ true = e in cc)
open_is h s l (x ∷ xs) b e same f = open_to h x s l ((same x).0 (Contains-head x xs))
