-- Units that have given nothing yet.
use Rattle.std.proofs.Common.{◌≡◌, ℕ, zero, suc, ◌+◌, ◌<◌, List, [], ◌∷◌, ◌++◌, length, length-append, slice_get, Some, None, refl, sym, ap, ◌∙◌, subst, arith}
use Rattle.std.proofs.lemmas.List.{length-replicate}
use Rattle.std.specs.Arc.{arc_value}
use Rattle.sg_script.specs.Script.{IsSound}
use Rattle.sg_state.specs.Opening.{opened_of}
use Rattle.jv_layout.specs.Skeleton.{skeleton_of}
use Rattle.jv_unit.specs.declared.folder.Folder.{Folder}
use Rattle.jv_unit.specs.Kept.{folder_of, IsWhole}
use Rattle.jv_unit.specs.Folder.{FolderOf}
use Rattle.jv_unit.specs.Plans.{JavaPlan, java_plan}
use Rattle.jv_unit.specs.Script.{ScriptOf}
use Rattle.jv_unit.specs.Scripts.{JavaUnit, plan_of, AreNewUnits, AreUnitsOf, IsUnitOf}
use Rattle.jv_unit.proofs.Sound.{units_are_sound}

-- a script over a folder that is whole is sound
pub new_is_sound : (w : Folder) (u : ℕ) (s : ScriptOf) → arc_value s.folder ≡ w → s.unit ≡ u → IsWhole w → u < length w.layout.files + length w.layout.types → IsSound (plan_of s)
new_is_sound w u s folder unit whole within =
    subst (λ (z : Folder). IsSound (java_plan (folder_of z) s.unit)) (sym folder) (subst (λ (n : ℕ). IsSound (java_plan (folder_of w) n)) (sym unit) (units_are_sound (folder_of w) whole.folder u within))

-- ---- units by number

same_some : {V : Type 0} (v x : V) → Some v ≡ Some x → v ≡ x
same_some v x e = cc

-- what holds of each thing of a list by its place, and of one more at the end, holds of all
one_more : {V : Type 0} (P : ℕ → V → Type 0) (us : List V) (v : V) → ((u : ℕ) (x : V) → slice_get us u ≡ Some x → P u x) → P (length us) v → (u : ℕ) (x : V) → slice_get (us ++ v ∷ []) u ≡ Some x → P u x
one_more P [] v h p zero x e = subst (P 0) (same_some v x e) p
one_more P [] v h p (suc u) x e = absurd (let k : None ≡ Some x = e in cc)
one_more P (y ∷ ys) v h p zero x e = h zero x e
one_more P (y ∷ ys) v h p (suc u) x e = one_more (λ (n : ℕ). P (suc n)) ys v (λ n z k. h (suc n) z k) p u x e

-- the first units of a folder, so many
pub record AreFirst (w : FolderOf) (n : ℕ) (units : List JavaUnit) : Type 0 where
  pub count : length units ≡ n
  pub each : (u : ℕ) (v : JavaUnit) → slice_get units u ≡ Some v → IsUnitOf w u v

pub none_first : (w : FolderOf) (units : List JavaUnit) → units ≡ [] → AreFirst w 0 units
none_first w units e = subst (AreFirst w 0) (sym e) (record { count = refl; each = λ u v k. absurd (let z : None ≡ Some v = k in cc) })

pub one_more_first : (w : FolderOf) (n : ℕ) (units : List JavaUnit) (v : JavaUnit) (more : List JavaUnit) → AreFirst w n units → IsUnitOf w n v → more ≡ units ++ v ∷ [] → AreFirst w (n + 1) more
one_more_first w n units v more h k e =
    subst (AreFirst w (n + 1)) (sym e)
    (record {
      count = omega (arith, length-append units (v ∷ []), h.count);
      each = one_more (IsUnitOf w) units v h.each (subst (λ (i : ℕ). IsUnitOf w i v) (sym h.count) k);
    })

-- the units of a folder are those that the run of its plans begins with
module _ (w : FolderOf) (units : List JavaUnit) (h : AreUnitsOf w units) where
  pub units_are_new : AreNewUnits (opened_of (skeleton_of w.layout)) w.kinds units
  units_are_new = (
    h.count ∙ sym (length-replicate {A = ℕ} (length w.layout.files + length w.layout.types) 0),
    (λ u v e.
        let k = h.each u v e in (
          ap (λ (p : JavaPlan). p.unit) k.plan,
          ap (λ (p : JavaPlan). p.opening) k.plan,
          ap (λ (p : JavaPlan). p.kinds) k.plan,
          (k.follows, k.ready),
        )),
  )

pub all_units : (v w : Folder) (n : ℕ) (units : List JavaUnit) → v ≡ w → n ≡ length w.layout.files + length w.layout.types → AreFirst (folder_of v) n units → AreUnitsOf (folder_of w) units
all_units v w n units same count h =
    let k : AreFirst (folder_of w) n units = subst (λ (z : Folder). AreFirst (folder_of z) n units) same h in
    record { count = k.count ∙ count; each = k.each }
