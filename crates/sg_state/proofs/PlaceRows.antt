-- The rows of a scope: what a new row, a new target, a new holder and a holder that leaves do.
use Rattle.std.proofs.Common.{◌≡◌, ℕ, ◌<◌, List, [], ◌∷◌, ◌⊎◌, ◌↔◌, Bool, cond, inl, inr, refl, sym, ap, ◌∙◌, subst, map, Some, None}
use Rattle.std.proofs.lemmas.Bool.{cases_Bool}
use Rattle.std.proofs.lemmas.Map.{keys-set_value}
use Rattle.std.specs.BTreeMap.{is_at, insert_entry}
use Rattle.std.specs.Cmp.{nat_cmp_total}
use Rattle.std.specs.List.{Contains, AllByRecursion}
use Rattle.std.specs.Map.{lookup, set_value}
use Rattle.std.specs.Ordering.{nat_cmp}
use Rattle.sg_base.specs.declared.scope.Scope.{Scope}
use Rattle.sg_base.specs.List.{IsRising}
use Rattle.sg_base.specs.Scope.{scope_cmp}
use Rattle.sg_base.proofs.Finite.{nothing_in, each_from, each_at}
use Rattle.sg_base.proofs.Scopes.{equal_nat}
use Rattle.sg_state.specs.declared.row.Row.{Row}
use Rattle.sg_state.specs.declared.slot.Slot.{Slot}
use Rattle.sg_state.specs.Place.{PlaceOf, HasTarget, HasHolder, HasRow, IsPlace, KeepsPlace, AddsTarget, AddsHolder, LosesHolder}
use Rattle.sg_state.proofs.RisingLists.{Rising-put}
use Rattle.sg_state.proofs.ShortRows.{keys_put}
use Rattle.sg_state.proofs.Keyed.{found-Contains, none_there, insert_adds, at_changes, at_adds, at_keeps, at_inserts, each_set}

module _ {D : Type 0} (rows : List (ℕ × Row)) (slot : Slot D) where
  abbrev place : PlaceOf D
  place = record { rows = rows; slot = slot }

  abbrev with_rows : List (ℕ × Row) → PlaceOf D
  with_rows rs = record { rows = rs; slot = slot }

  module _ (ok : IsPlace place) where
    -- ---- a new row
    module _ (l : ℕ) (none : lookup (is_at (nat_cmp l)) rows ≡ None) where
      abbrev empty : Row
      empty = record { targets = []; holders = [] }

      absent : (r : Row) → Contains rows (l, r) → ⊥
      absent r c = none_there nat_cmp nat_cmp_total equal_nat rows l r none c

      pub made_same : KeepsPlace place (with_rows (insert_entry nat_cmp rows l empty))
      made_same = record {
        targets = λ m t.
            let k = at_inserts nat_cmp nat_cmp_total equal_nat rows l empty absent (λ (r : Row). Contains r.targets t) m in
            ((λ h. elim (k.0 h) [ inl a ↦ a | inr b ↦ absurd (nothing_in t b.1) ]), (λ h. k.1 (inl h)));
        holders = λ m u.
            let k = at_inserts nat_cmp nat_cmp_total equal_nat rows l empty absent (λ (r : Row). Contains r.holders u) m in
            ((λ h. elim (k.0 h) [ inl a ↦ a | inr b ↦ absurd (nothing_in u b.1) ]), (λ h. k.1 (inl h)));
        slot = refl;
      }

      pub made_there : HasRow (with_rows (insert_entry nat_cmp rows l empty)) l
      made_there = (empty, (insert_adds nat_cmp nat_cmp_total equal_nat rows l empty absent (l, empty)).1 (inr refl))

      each_insert : (P : ℕ × Row → Type 0) → P (l, empty) → AllByRecursion P rows → AllByRecursion P (insert_entry nat_cmp rows l empty)
      each_insert P p h =
          each_from P (insert_entry nat_cmp rows l empty) (λ q c. elim ((insert_adds nat_cmp nat_cmp_total equal_nat rows l empty absent q).0 c) [
            | inl k ↦ each_at P rows h q k
            | inr e ↦ subst P (sym e) p
          ])

      pub made_place : l < 16 → IsPlace (with_rows (insert_entry nat_cmp rows l empty))
      made_place below = record {
        labels_rise = subst (IsRising nat_cmp) (sym (keys_put rows l empty)) (Rising-put nat_cmp nat_cmp_total (map (λ r. r.0) rows) l (λ m c e. equal_nat l m e) ok.labels_rise);
        labelled = each_insert (λ r. r.0 < 16) below ok.labelled;
        targets_rise = each_insert (λ r. IsRising scope_cmp (r.1).targets) tt ok.targets_rise;
        holders_rise = each_insert (λ r. IsRising nat_cmp (r.1).holders) tt ok.holders_rise;
      }

    -- ---- a row that changes
    module _ (l : ℕ) (old new : Row) (here : lookup (is_at (nat_cmp l)) rows ≡ Some old) where
      abbrev changed : List (ℕ × Row)
      changed = set_value (is_at (nat_cmp l)) rows new

      there : Contains rows (l, old)
      there = found-Contains nat_cmp nat_cmp_total equal_nat rows l old here

      pub changed_place : IsRising scope_cmp new.targets → IsRising nat_cmp new.holders → IsPlace (with_rows changed)
      changed_place ts hs = record {
        labels_rise = subst (IsRising nat_cmp) (sym (keys-set_value (is_at (nat_cmp l)) rows new)) ok.labels_rise;
        labelled = each_set (is_at (nat_cmp l)) (λ r. r.0 < 16) rows new (λ k v h. h) ok.labelled;
        targets_rise = each_set (is_at (nat_cmp l)) (λ r. IsRising scope_cmp (r.1).targets) rows new (λ k v h. ts) ok.targets_rise;
        holders_rise = each_set (is_at (nat_cmp l)) (λ r. IsRising nat_cmp (r.1).holders) rows new (λ k v h. hs) ok.holders_rise;
      }

      targets_same : new.targets ≡ old.targets → (m : ℕ) (t : Scope) → (HasTarget (with_rows changed) m t) ↔ (HasTarget place m t)
      targets_same e m t =
          at_keeps nat_cmp nat_cmp_total equal_nat rows ok.labels_rise l old new there (λ (r : Row). Contains r.targets t)
          ((λ c. subst (λ (xs : List Scope). Contains xs t) e c), (λ c. subst (λ (xs : List Scope). Contains xs t) (sym e) c)) m

      holders_same : new.holders ≡ old.holders → (m u : ℕ) → (HasHolder (with_rows changed) m u) ↔ (HasHolder place m u)
      holders_same e m u =
          at_keeps nat_cmp nat_cmp_total equal_nat rows ok.labels_rise l old new there (λ (r : Row). Contains r.holders u)
          ((λ c. subst (λ (xs : List ℕ). Contains xs u) e c), (λ c. subst (λ (xs : List ℕ). Contains xs u) (sym e) c)) m

      pub target_added : (to : Scope) → ((t : Scope) → (Contains new.targets t) ↔ (Contains old.targets t ⊎ (t ≡ to))) → new.holders ≡ old.holders → AddsTarget place (with_rows changed) l to
      target_added to more same = record {
        targets = λ m t. at_adds nat_cmp nat_cmp_total equal_nat rows ok.labels_rise l old new there (λ (r : Row). Contains r.targets t) (t ≡ to) (more t) m;
        holders = holders_same same;
        slot = refl;
      }

      pub holder_added : (unit : ℕ) → ((u : ℕ) → (Contains new.holders u) ↔ (Contains old.holders u ⊎ (u ≡ unit))) → new.targets ≡ old.targets → AddsHolder place (with_rows changed) l unit
      holder_added unit more same = record {
        targets = targets_same same;
        holders = λ m u. at_adds nat_cmp nat_cmp_total equal_nat rows ok.labels_rise l old new there (λ (r : Row). Contains r.holders u) (u ≡ unit) (more u) m;
        slot = refl;
      }

      pub holder_lost : (unit : ℕ) → ((u : ℕ) → (Contains new.holders u) ↔ (Contains old.holders u × (u ≡ unit → ⊥))) → new.targets ≡ old.targets → LosesHolder place (with_rows changed) l unit
      holder_lost unit less same = record {
        targets = targets_same same;
        holders = λ m u. at_changes nat_cmp nat_cmp_total equal_nat rows ok.labels_rise l old new there (λ (r : Row). Contains r.holders u) (λ (j : ℕ). (j ≡ l) × (u ≡ unit) → ⊥)
            ((λ c. ((λ e. ((less u).0 c).1 e.1), ((less u).0 c).0)), (λ h. (less u).1 (h.1, (λ e. h.0 (refl, e))))) (λ j n e. n e.0) m;
        slot = refl;
      }

    -- the targets and the holders of a row that is found rise
    module _ (l : ℕ) (r : Row) (here : lookup (is_at (nat_cmp l)) rows ≡ Some r) where
      pub targets_at : IsRising scope_cmp r.targets
      targets_at = each_at (λ (q : ℕ × Row). IsRising scope_cmp (q.1).targets) rows ok.targets_rise (l, r) (found-Contains nat_cmp nat_cmp_total equal_nat rows l r here)

      pub holders_at : IsRising nat_cmp r.holders
      holders_at = each_at (λ (q : ℕ × Row). IsRising nat_cmp (q.1).holders) rows ok.holders_rise (l, r) (found-Contains nat_cmp nat_cmp_total equal_nat rows l r here)

    -- a label with no row loses no holder
    pub holder_absent : (l unit : ℕ) → lookup (is_at (nat_cmp l)) rows ≡ None → LosesHolder place place l unit
    holder_absent l unit none = record {
      targets = λ m t. ((λ h. h), (λ h. h));
      holders = λ m u. (
        (λ h. ((λ e. none_there nat_cmp nat_cmp_total equal_nat rows l h.0 none (subst (λ (j : ℕ). Contains rows (j, h.0)) e.0 h.1)), h)),
        (λ h. h.1),
      );
      slot = refl;
    }

    -- a row that is there is found
    pub row_found : (l : ℕ) → HasRow place l → lookup (is_at (nat_cmp l)) rows ≡ None → ⊥
    row_found l r none = none_there nat_cmp nat_cmp_total equal_nat rows l r.0 none r.1

-- a place that stays has what it has
pub kept_same : {D : Type 0} (p : PlaceOf D) → KeepsPlace p p
kept_same p = record { targets = λ l t. ((λ h. h), (λ h. h)); holders = λ l u. ((λ h. h), (λ h. h)); slot = refl }

-- a row that gets what it has stays as it was
pub set_same : {K V : Type 0} (test : K → Bool) (es : List (K × V)) (v w : V) → lookup test es ≡ Some v → w ≡ v → set_value test es w ≡ es
set_same test [] v w h e = refl
set_same {K} {V} test (p ∷ ps) v w h e =
    elim (cases_Bool (test p.0)) [
      | inl t ↦
          let first : Some p.1 ≡ Some v = sym (ap (λ (b : Bool). cond b (Some p.1) (lookup test ps)) t) ∙ h in
          let value : w ≡ p.1 = cc in
          ap (λ (b : Bool). cond b ((p.0, w) ∷ ps) (p ∷ set_value test ps w)) t ∙ ap (λ (x : V). let q : K × V = (p.0, x) in q ∷ ps) value
      | inr t ↦
          let rest : lookup test ps ≡ Some v = sym (ap (λ (b : Bool). cond b (Some p.1) (lookup test ps)) t) ∙ h in
          ap (λ (b : Bool). cond b ((p.0, w) ∷ ps) (p ∷ set_value test ps w)) t ∙ ap (λ (x : List (K × V)). p ∷ x) (set_same test ps v w rest e)
    ]
