-- One scope's place changes.
use Rattle.std.proofs.Common.{◌≡◌, ℕ, List, sym, subst, Some, None}
use Rattle.std.proofs.lemmas.Map.{keys-set_value}
use Rattle.std.specs.BTreeMap.{is_at}
use Rattle.std.specs.Map.{lookup}
use Rattle.sg_base.specs.declared.scope.Scope.{Scope}
use Rattle.sg_base.specs.List.{IsRising}
use Rattle.sg_base.specs.Scope.{scope_cmp, scope_total}
use Rattle.sg_base.proofs.Finite.{each_at}
use Rattle.sg_base.proofs.Scopes.{equal_scope}
use Rattle.sg_state.specs.declared.slot.Slot.{Slot}
use Rattle.sg_state.specs.Place.{PlaceOf, HasRow, IsPlace}
use Rattle.sg_state.specs.View.{ArePlaces, ChangesPlace, HasKey, RowAt}
use Rattle.sg_state.proofs.Keyed.{found-Contains, none_there, at_here, each_set}

-- what a place may have says nothing of its datum
pub same_rows : {D : Type 0} (p : PlaceOf D) (x : Slot D) → IsPlace p → IsPlace {D = D} (record { rows = p.rows; slot = x })
same_rows p x ok = record { labels_rise = ok.labels_rise; labelled = ok.labelled; targets_rise = ok.targets_rise; holders_rise = ok.holders_rise }

module _ {D : Type 0} (es : List (Scope × PlaceOf D)) (s : Scope) where
  pub key_found : HasKey es s → lookup (is_at (scope_cmp s)) es ≡ None → ⊥
  key_found h none = none_there scope_cmp scope_total equal_scope es s h.0 none h.1

  pub row_found_at : (l : ℕ) → RowAt es s l → lookup (is_at (scope_cmp s)) es ≡ None → ⊥
  row_found_at l h none = none_there scope_cmp scope_total equal_scope es s h.0 none h.1

  module _ (ok : ArePlaces es) where
    pub place_ok : (p : PlaceOf D) → lookup (is_at (scope_cmp s)) es ≡ Some p → IsPlace p
    place_ok p here = each_at (λ (q : Scope × PlaceOf D). IsPlace q.1) es ok.each (s, p) (found-Contains scope_cmp scope_total equal_scope es s p here)

    pub row_here : (l : ℕ) (p : PlaceOf D) → RowAt es s l → lookup (is_at (scope_cmp s)) es ≡ Some p → HasRow p l
    row_here l p h here = at_here scope_cmp scope_total equal_scope es ok.keys_rise s p p (found-Contains scope_cmp scope_total equal_scope es s p here) (λ (q : PlaceOf D). HasRow q l) h

    pub changed_places : (R : PlaceOf D → PlaceOf D → Type 0) (new : List (Scope × PlaceOf D)) → ChangesPlace R es new s → ArePlaces new
    changed_places R new h =
        subst ArePlaces (sym h.3) (record {
          keys_rise = subst (IsRising scope_cmp) (sym (keys-set_value (is_at (scope_cmp s)) es h.1)) ok.keys_rise;
          each = each_set (is_at (scope_cmp s)) (λ (q : Scope × PlaceOf D). IsPlace q.1) es h.1 (λ k v p. h.5) ok.each;
        })
