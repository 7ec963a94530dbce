-- Who holds what when a folder's run begins: the units of files the rows of their imports, those of types their rows of supertypes and the
-- data of their members' signatures.
use Rattle.std.proofs.Common.{◌≡◌, ℕ, ◌+◌, ◌<◌, [], ◌∷◌, ◌⊎◌, length, inl, inr, refl, sym, ap, ◌∙◌, subst, arith, zero-add}
use Rattle.std.specs.List.{Contains}
use Rattle.std.proofs.lemmas.List.Elements.{Contains-append_cases}
use Rattle.std.proofs.lemmas.List.FromFn.{get_or-range_with_len, length-range_with_len}
use Rattle.sg_base.specs.declared.scope.Scope.{Scope}
use Rattle.sg_base.proofs.Finite.{single, Contains-head, Contains-tail, Contains-cons, Contains-flat_map}
use Rattle.sg_state.specs.declared.need.Need.TheVariants.{Row}
use Rattle.sg_state.specs.Held.{DatumHold, HeldOf, HoldsDatum, HoldsRow, RowHold}
use Rattle.sg_state.specs.Opening.{IsOpening, IsSoundOpening, opened_of}
use Rattle.sg_state.proofs.SoundOpenings.{datum_hold_in, row_hold_in, sound_openings_open}
use Rattle.jv_instance.specs.declared.datum.JavaDatum.{JavaDatum}
use Rattle.jv_instance.specs.declared.labels.TheConstants.{SIMP, ODI, EXT}
use Rattle.jv_layout.specs.Folder.{LayoutOf}
use Rattle.jv_layout.specs.Readers.{member_at}
use Rattle.jv_layout.specs.Scopes.{file_scope, signature_of_member, type_scope}
use Rattle.jv_layout.specs.Skeleton.{below, file_hold, file_holds, signature_hold, skeleton_of, type_hold, type_holds}
use Rattle.jv_layout.proofs.SoundLists.{from_below, from_image}
use Rattle.jv_layout.proofs.SoundSkeletons.{skeletons_are_sound}
use Rattle.jv_unit.specs.Folder.{FolderOf, IsFolderOf}
use Rattle.jv_unit.proofs.Sound.{file_is_stage, type_is_stage}

pub in_below : (n k : ℕ) → k < n → Contains (below n) k
in_below n k h = (k, omega (arith, h, length-range_with_len 0 n), get_or-range_with_len 0 n k k h ∙ zero-add k)

-- a row of the unit of a file
pub record IsFileRow (l : LayoutOf) (u : ℕ) (s : Scope) (k : ℕ) : Type 0 where
  pub file : u < length l.files
  pub scope : s ≡ file_scope l u
  pub label : (k ≡ SIMP) ⊎ (k ≡ ODI)

-- the row of the unit of a type
pub record IsTypeRow (l : LayoutOf) (u : ℕ) (s : Scope) (k : ℕ) : Type 0 where
  pub number : ℕ
  pub type : number < length l.types
  pub scope : s ≡ type_scope l number
  pub label : k ≡ EXT
  pub unit : u ≡ length l.files + number

-- a datum of the unit of a type
pub record IsTypeDatum (l : LayoutOf) (u : ℕ) (s : Scope) : Type 0 where
  pub number : ℕ
  pub member : number < length l.members
  pub scope : s ≡ signature_of_member l number
  pub unit : u ≡ length l.files + (member_at l number).owner

module _ (l : LayoutOf) (f : ℕ) (within : f < length l.files) (r : RowHold) where
  file_row : r.unit ≡ f → r.scope ≡ file_scope l f → (r.label ≡ SIMP) ⊎ (r.label ≡ ODI) → IsFileRow l r.unit r.scope r.label
  file_row unit scope label = record { file = subst (λ (n : ℕ). n < length l.files) (sym unit) within; scope = scope ∙ ap (file_scope l) (sym unit); label = label }

  file_row_among : Contains (file_hold l f) r → IsFileRow l r.unit r.scope r.label
  file_row_among c =
      let first : RowHold = record { scope = file_scope l f; label = SIMP; unit = f } in
      let second : RowHold = record { scope = file_scope l f; label = ODI; unit = f } in
      elim (Contains-cons first r (second ∷ []) c) [
        | inl e ↦ file_row (ap (λ (k : RowHold). k.unit) e) (ap (λ (k : RowHold). k.scope) e) (inl (ap (λ (k : RowHold). k.label) e))
        | inr m ↦
            let e : r ≡ second = single second r m in
            file_row (ap (λ (k : RowHold). k.unit) e) (ap (λ (k : RowHold). k.scope) e) (inr (ap (λ (k : RowHold). k.label) e))
      ]

-- what the run of a folder begins with
abbrev pub begun : FolderOf → HeldOf JavaDatum
begun w = opened_of (skeleton_of w.layout)

module _ (w : FolderOf) (h : IsFolderOf w) where
  pub skeleton_sound : IsSoundOpening (skeleton_of w.layout)
  skeleton_sound = skeletons_are_sound w.layout h.linked h.few

  pub begun_opens : IsOpening (begun w)
  begun_opens = sound_openings_open JavaDatum (skeleton_of w.layout) skeleton_sound

  pub row_cases : (u : ℕ) (s : Scope) (k : ℕ) → HoldsRow (begun w) u s k → IsFileRow w.layout u s k ⊎ IsTypeRow w.layout u s k
  row_cases u s k c =
      let r : RowHold = record { scope = s; label = k; unit = u } in
      elim (Contains-append_cases (file_holds w.layout) (type_holds w.layout) r ((row_hold_in (skeleton_of w.layout) skeleton_sound r).0 c)) [
        | inl m ↦
            let x = Contains-flat_map (file_hold w.layout) (below (length w.layout.files)) r m in
            inl (file_row_among w.layout x.0 (from_below (length w.layout.files) x.0 x.1) r x.2)
        | inr m ↦
            let x = from_image (type_hold w.layout) (length w.layout.types) r m in
            inr (record { number = x.0; type = x.1; scope = ap (λ (k : RowHold). k.scope) x.2; label = ap (λ (k : RowHold). k.label) x.2; unit = ap (λ (k : RowHold). k.unit) x.2 })
      ]

  pub datum_held : (u : ℕ) (s : Scope) → HoldsDatum (begun w) u s → IsTypeDatum w.layout u s
  datum_held u s c =
      let k : DatumHold = record { scope = s; unit = u } in
      let x = from_image (signature_hold w.layout) (length w.layout.members) k ((datum_hold_in (skeleton_of w.layout) skeleton_sound k).0 c) in
      record { number = x.0; member = x.1; scope = ap (λ (k : DatumHold). k.scope) x.2; unit = ap (λ (k : DatumHold). k.unit) x.2 }

  pub holds_file_row : (f : ℕ) → f < length w.layout.files → (k : ℕ) → (k ≡ SIMP) ⊎ (k ≡ ODI) → HoldsRow (begun w) f (file_scope w.layout f) k
  holds_file_row f within k label =
      let s = file_scope w.layout f in
      let stage = file_is_stage w h f within in
      elim label [
        | inl e ↦ subst (λ (n : ℕ). HoldsRow (begun w) f s n) (sym e) (stage.held (Row s SIMP) (Contains-head (Row s SIMP) (Row s ODI ∷ [])))
        | inr e ↦ subst (λ (n : ℕ). HoldsRow (begun w) f s n) (sym e) (stage.held (Row s ODI) (Contains-tail (Row s SIMP) (Row s ODI) (Row s ODI ∷ []) (Contains-head (Row s ODI) [])))
      ]

  pub holds_type_row : (t : ℕ) → t < length w.layout.types → HoldsRow (begun w) (length w.layout.files + t) (type_scope w.layout t) EXT
  holds_type_row t within =
      let s = type_scope w.layout t in
      (type_is_stage w h t within (length w.layout.files + t) refl).held (Row s EXT) (Contains-head (Row s EXT) [])
