-- A run may begin with the skeleton of a layout.
use Rattle.std.proofs.Common.{◌≡◌, ℕ, ◌+◌, ◌<◌, ◌≤◌, ◌^◌, List, [], ◌∷◌, ◌++◌, true, inl, inr, length, map, sym, ap, subst, append_assoc, arith}
use Rattle.std.specs.List.{Contains}
use Rattle.std.proofs.lemmas.List.{map-append}
use Rattle.std.proofs.lemmas.List.Elements.{Contains-append_cases}
use Rattle.sg_base.specs.declared.scope.Scope.{Scope}
use Rattle.sg_base.specs.List.{IsDistinct}
use Rattle.sg_base.proofs.Finite.{nothing_in, Contains-cons, Contains-flat_map, Distinct-append}
use Rattle.sg_state.specs.Held.{RowHold, DatumHold}
use Rattle.sg_state.specs.Opening.{IsSoundOpening, data_of}
use Rattle.sg_state.proofs.Beginning.{map_twice}
use Rattle.jv_instance.specs.declared.datum.JavaDatum.{JavaDatum}
use Rattle.jv_instance.specs.declared.labels.TheConstants.{SIMP, ODI}
use Rattle.jv_layout.specs.declared.place.Place.{Place}
use Rattle.jv_layout.specs.declared.place.Place.TheVariants.{Outside, Root, Unnamed, Package, File, Ty, Member, Signature}
use Rattle.jv_layout.specs.Fits.{is_inside}
use Rattle.jv_layout.specs.Folder.{LayoutOf}
use Rattle.jv_layout.specs.Laws.{IsScopeOf, SkeletonsAreSound}
use Rattle.jv_layout.specs.Linked.{IsLinked}
use Rattle.jv_layout.specs.Scopes.{scope_at, first_file, first_type, first_member, first_signature, scope_count, place_of, file_scope}
use Rattle.jv_layout.specs.Skeleton.{below, skeleton_of, package_datum, type_datum, member_datum, package_data, type_data, member_data, file_hold, file_holds, type_hold, type_holds, signature_hold, signature_holds}
use Rattle.jv_layout.proofs.SoundLists.{from_below, from_image, distinct_image, Each, each_joined, each_image}
use Rattle.jv_layout.proofs.SoundPlaces.{listed, few_serials, placed}
use Rattle.jv_layout.proofs.SoundEdges.{edges_fit, owner_below}

-- ---- scopes with the numbers from s on

abbrev block : ℕ → ℕ → List Scope
block s n = map (λ k. scope_at (s + k)) (below n)

one_number : (s a b : ℕ) → scope_at (s + a) ≡ scope_at (s + b) → a ≡ b
one_number s a b e = let h : s + a ≡ s + b = ap (λ (z : Scope). z.serial) e in omega arith

block_serials : (s n : ℕ) (z : Scope) → Contains (block s n) z → (s ≤ z.serial) × (z.serial < s + n)
block_serials s n z c =
    let h = from_image (λ k. scope_at (s + k)) n z c in
    let e : z.serial ≡ s + h.0 = ap (λ (y : Scope). y.serial) h.2 in
    (omega arith, omega (arith, h.1))

-- the list has scopes with serials from s on alone
abbrev IsFrom : ℕ → List Scope → Type 0
IsFrom s xs = (z : Scope) → Contains xs z → s ≤ z.serial

block_from : (s n : ℕ) (xs : List Scope) → IsFrom (s + n) xs → IsFrom s (block s n ++ xs)
block_from s n xs f z c = elim (Contains-append_cases (block s n) xs z c) [
  | inl k ↦ (block_serials s n z k).0
  | inr k ↦ let h : s + n ≤ z.serial = f z k in omega arith
]

block_distinct : (s n : ℕ) (xs : List Scope) → IsFrom (s + n) xs → IsDistinct xs → IsDistinct (block s n ++ xs)
block_distinct s n xs f d =
    Distinct-append (block s n) xs (distinct_image (λ k. scope_at (s + k)) n (one_number s)) d (λ z k m.
    let a : z.serial < s + n = (block_serials s n z k).1 in
    let b : s + n ≤ z.serial = f z m in
    absurd (omega arith))

module _ (l : LayoutOf) where
  -- ---- data: packages, types, members, and at last signatures

  data_in_order : data_of (skeleton_of l) ≡ block 2 (length l.packages) ++ (block (first_type l) (length l.types) ++ (block (first_member l) (length l.members) ++ block (first_signature l) (length l.members)))
  data_in_order =
      let pack : map (λ (q : Scope × JavaDatum). q.0) (package_data l) ≡ block 2 (length l.packages) = map_twice (package_datum l) (λ (q : Scope × JavaDatum). q.0) (below (length l.packages)) in
      let type : map (λ (q : Scope × JavaDatum). q.0) (type_data l) ≡ block (first_type l) (length l.types) = map_twice (type_datum l) (λ (q : Scope × JavaDatum). q.0) (below (length l.types)) in
      let member : map (λ (q : Scope × JavaDatum). q.0) (member_data l) ≡ block (first_member l) (length l.members) = map_twice (member_datum l) (λ (q : Scope × JavaDatum). q.0) (below (length l.members)) in
      let held : map (λ (k : DatumHold). k.scope) (signature_holds l) ≡ block (first_signature l) (length l.members) = map_twice (signature_hold l) (λ (k : DatumHold). k.scope) (below (length l.members)) in
      let one = map-append (λ (q : Scope × JavaDatum). q.0) (package_data l ++ type_data l) (member_data l) in
      let two = map-append (λ (q : Scope × JavaDatum). q.0) (package_data l) (type_data l) in
      let right = append_assoc (block 2 (length l.packages) ++ block (first_type l) (length l.types)) (block (first_member l) (length l.members)) (block (first_signature l) (length l.members)) in
      let left = append_assoc (block 2 (length l.packages)) (block (first_type l) (length l.types)) (block (first_member l) (length l.members) ++ block (first_signature l) (length l.members)) in
      cc

  data_distinct : IsDistinct (data_of (skeleton_of l))
  data_distinct =
      let T = length l.types in
      let M = length l.members in
      let fourth : IsFrom (first_signature l) (block (first_signature l) M) = λ z c. (block_serials (first_signature l) M z c).0 in
      let third : IsFrom (first_member l) (block (first_member l) M ++ block (first_signature l) M) = block_from (first_member l) M (block (first_signature l) M) fourth in
      let second : IsFrom (first_type l) (block (first_type l) T ++ (block (first_member l) M ++ block (first_signature l) M)) = block_from (first_type l) T (block (first_member l) M ++ block (first_signature l) M) third in
      subst (λ (zs : List Scope). IsDistinct zs) (sym data_in_order) (
      block_distinct 2 (length l.packages) (block (first_type l) T ++ (block (first_member l) M ++ block (first_signature l) M)) (λ z c. let h : first_type l ≤ z.serial = second z c in omega arith) (
      block_distinct (first_type l) T (block (first_member l) M ++ block (first_signature l) M) third (
      block_distinct (first_member l) M (block (first_signature l) M) fourth (
      distinct_image (λ k. scope_at (first_signature l + k)) M (one_number (first_signature l))))))

  -- ---- each scope that is named is listed

  abbrev IsListed : Scope → Type 0
  IsListed s = Contains (skeleton_of l).scopes s

  listed_by : (s : Scope) (n : ℕ) → s ≡ scope_at n → n < scope_count l → IsListed s
  listed_by s n e h = subst IsListed (sym e) (listed l n h)

  listed_of : (p : Place) (s : Scope) → IsScopeOf l p s → is_inside p ≡ true → IsListed s
  listed_of Outside s h t = absurd (cc)
  listed_of Root s h t = listed_by s 0 h (omega arith)
  listed_of Unnamed s h t = listed_by s 1 h (omega arith)
  listed_of (Package p) s h t = listed_by s (2 + p) h.1 (omega (arith, h.0))
  listed_of (File f) s h t = listed_by s (first_file l + f) h.1 (omega (arith, h.0))
  listed_of (Ty u) s h t = listed_by s (first_type l + u) h.1 (omega (arith, h.0))
  listed_of (Member m) s h t = listed_by s (first_member l + m) h.1 (omega (arith, h.0))
  listed_of (Signature m) s h t = listed_by s (first_signature l + m) h.1 (omega (arith, h.0))

  inside_listed : (s : Scope) → is_inside (place_of l s) ≡ true → IsListed s
  inside_listed s t = listed_of (place_of l s) s (placed l s) t

  abbrev IsDatumListed : Scope × JavaDatum → Type 0
  IsDatumListed q = IsListed q.0

  data_listed : Each IsDatumListed (skeleton_of l).given
  data_listed =
      each_joined IsDatumListed (package_data l ++ type_data l) (member_data l) (
      each_joined IsDatumListed (package_data l) (type_data l)
      (each_image IsDatumListed (package_datum l) (below (length l.packages)) (λ p c. let h = from_below (length l.packages) p c in listed l (2 + p) (omega arith)))
      (each_image IsDatumListed (type_datum l) (below (length l.types)) (λ t c. let h = from_below (length l.types) t c in listed l (first_type l + t) (omega arith))))
      (each_image IsDatumListed (member_datum l) (below (length l.members)) (λ m c. let h = from_below (length l.members) m c in listed l (first_member l + m) (omega arith)))

  abbrev IsRowHoldOf : RowHold → Type 0
  IsRowHoldOf k = IsListed k.scope × (k.label < 16) × (k.unit < length l.files + length l.types)

  file_hold_of : (f : ℕ) → f < length l.files → Each IsRowHoldOf (file_hold l f)
  file_hold_of f h k c =
      let simp : RowHold = record { scope = file_scope l f; label = SIMP; unit = f } in
      let odi : RowHold = record { scope = file_scope l f; label = ODI; unit = f } in
      let here : IsListed (file_scope l f) = listed l (first_file l + f) (omega arith) in
      elim (Contains-cons simp k (odi ∷ []) c) [
        | inl e ↦ subst IsRowHoldOf (sym e) (here, omega arith, omega arith)
        | inr m ↦ elim (Contains-cons odi k [] m) [ inl e ↦ subst IsRowHoldOf (sym e) (here, omega arith, omega arith) | inr n ↦ absurd (nothing_in k n) ]
      ]

  row_holds_listed : Each IsRowHoldOf (skeleton_of l).row_holds
  row_holds_listed =
      each_joined IsRowHoldOf (file_holds l) (type_holds l)
      (λ k c. let h = Contains-flat_map (file_hold l) (below (length l.files)) k c in file_hold_of h.0 (from_below (length l.files) h.0 h.1) k h.2)
      (each_image IsRowHoldOf (type_hold l) (below (length l.types)) (λ t c. let h = from_below (length l.types) t c in (listed l (first_type l + t) (omega arith), omega arith, omega arith)))

  abbrev IsDatumHoldOf : DatumHold → Type 0
  IsDatumHoldOf k = IsListed k.scope × (k.unit < length l.files + length l.types)

  module _ (linked : IsLinked l) where
    datum_holds_listed : Each IsDatumHoldOf (skeleton_of l).datum_holds
    datum_holds_listed =
        each_image IsDatumHoldOf (signature_hold l) (below (length l.members)) (λ m c.
        let h = from_below (length l.members) m c in
        let o = owner_below l linked m h in
        (listed l (first_signature l + m) (omega arith), omega arith))

    pub sound : scope_count l < 2 ^ 31 → IsSoundOpening (skeleton_of l)
    sound few = record {
      distinct = distinct_image scope_at (scope_count l) (λ a b e. ap (λ (z : Scope). z.serial) e);
      nobodys = λ s c. (few_serials l s c).0;
      edges = λ e c. let h = edges_fit l linked e c in (inside_listed e.from h.0.source, h.1, inside_listed e.to h.0.target);
      given = λ s d c. data_listed (s, d) c;
      row_holds = row_holds_listed;
      datum_holds = datum_holds_listed;
      one_datum = data_distinct;
      few = omega arith;
    }

pub skeletons_are_sound : SkeletonsAreSound
skeletons_are_sound l linked few = sound l linked few
