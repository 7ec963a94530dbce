-- The edges of a skeleton go between scopes of the kinds that their labels join.
use Rattle.std.proofs.Common.{◌≡◌, ℕ, ◌<◌, ◌==◌, true, Option, Some, None, ◌++◌, length, get_or, refl, ap, ◌∙◌, arith}
use Rattle.std.specs.List.{Contains, filter}
use Rattle.std.proofs.lemmas.List.Elements.{All-get_or}
use Rattle.sg_base.specs.Graph.{Edge}
use Rattle.sg_base.proofs.Finite.{Contains-filter}
use Rattle.jv_instance.specs.declared.labels.TheConstants.{PKG, TYPE, PKGOF, ODI}
use Rattle.jv_layout.specs.declared.place.Place.{Place}
use Rattle.jv_layout.specs.declared.place.Place.TheVariants.{Root, Unnamed, Package, File, Ty, Member, Signature}
use Rattle.jv_layout.specs.declared.rows.MemberKind.{MemberKind}
use Rattle.jv_layout.specs.declared.rows.MemberKind.TheVariants.{Field, Method, Ctor, DefaultCtor}
use Rattle.jv_layout.specs.Folder.{LayoutOf}
use Rattle.jv_layout.specs.Fits.{may_step, is_inside}
use Rattle.jv_layout.specs.Laws.{IsFitting, SkeletonsFit}
use Rattle.jv_layout.specs.Linked.{IsBelow, IsLinked}
use Rattle.jv_layout.specs.Readers.{type_at, member_at, no_type, no_member, package_or_unnamed}
use Rattle.jv_layout.specs.Scopes.{place_of, package_scope, file_scope, type_scope, member_scope}
use Rattle.jv_layout.specs.Skeleton.{below, edge, skeleton_of, package_row_at, no_package, parent_scope, home_by, label_of, is_top, is_first_type, is_first_member, first_types, first_members, package_edge, file_edge, lang_edge, type_edge, self_edge, member_edge, signature_edge, package_edges, file_edges, lang_edges, type_edges, self_edges, member_edges, signature_edges}
use Rattle.jv_layout.proofs.SoundLists.{from_below, Each, each_joined, each_image}
use Rattle.jv_layout.proofs.SoundPlaces.{package_place, file_place, type_place, member_place, signature_place}

-- an edge that fits, with a label below 16
abbrev pub IsEdgeOf : LayoutOf → Edge → Type 0
IsEdgeOf l e = IsFitting l e × (e.label < 16)

module _ (l : LayoutOf) where
  -- where the places of its scopes are known
  fits_by : (e : Edge) (a b : Place) → place_of l e.from ≡ a → place_of l e.to ≡ b → is_inside a ≡ true → is_inside b ≡ true → may_step l a e.label b ≡ true → IsFitting l e
  fits_by e a b f t i j m = record {
    source = ap is_inside f ∙ i;
    target = ap is_inside t ∙ j;
    kinds = ap (λ (p : Place). may_step l p e.label (place_of l e.to)) f ∙ (ap (λ (p : Place). may_step l a e.label p) t ∙ m);
  }

  to_package : (o : Option ℕ) (p : ℕ) → IsBelow (length l.packages) o → p < length l.packages → IsEdgeOf l (edge (parent_scope o) PKG (package_scope p))
  to_package None p b h = (fits_by (edge (parent_scope None) PKG (package_scope p)) Root (Package p) refl (package_place l p h) refl refl refl, omega arith)
  to_package (Some q) p b h = (fits_by (edge (package_scope q) PKG (package_scope p)) (Package q) (Package p) (package_place l q b) (package_place l p h) refl refl refl, omega arith)

  own_package : (o : Option ℕ) (f : ℕ) → IsBelow (length l.packages) o → f < length l.files → IsEdgeOf l (edge (file_scope l f) PKGOF (package_or_unnamed o))
  own_package None f b h = (fits_by (edge (file_scope l f) PKGOF (package_or_unnamed None)) (File f) Unnamed (file_place l f h) refl refl refl refl, omega arith)
  own_package (Some q) f b h = (fits_by (edge (file_scope l f) PKGOF (package_scope q)) (File f) (Package q) (file_place l f h) (package_place l q b) refl refl refl, omega arith)

  lang_package : (o : Option ℕ) (f : ℕ) → IsBelow (length l.packages) o → f < length l.files → IsEdgeOf l (edge (file_scope l f) ODI (package_or_unnamed o))
  lang_package None f b h = (fits_by (edge (file_scope l f) ODI (package_or_unnamed None)) (File f) Unnamed (file_place l f h) refl refl refl refl, omega arith)
  lang_package (Some q) f b h = (fits_by (edge (file_scope l f) ODI (package_scope q)) (File f) (Package q) (file_place l f h) (package_place l q b) refl refl refl, omega arith)

  from_package : (o : Option ℕ) (t : ℕ) → IsBelow (length l.packages) o → t < length l.types → IsEdgeOf l (edge (package_or_unnamed o) TYPE (type_scope l t))
  from_package None t b h = (fits_by (edge (package_or_unnamed None) TYPE (type_scope l t)) Unnamed (Ty t) refl (type_place l t h) refl refl refl, omega arith)
  from_package (Some q) t b h = (fits_by (edge (package_scope q) TYPE (type_scope l t)) (Package q) (Ty t) (package_place l q b) (type_place l t h) refl refl refl, omega arith)

  -- a member, by its kind
  to_member : (k : MemberKind) (t m : ℕ) → (member_at l m).kind ≡ k → t < length l.types → m < length l.members → IsEdgeOf l (edge (type_scope l t) (label_of k) (member_scope l m))
  to_member Field t m e h g = (fits_by (edge (type_scope l t) (label_of Field) (member_scope l m)) (Ty t) (Member m) (type_place l t h) (member_place l m g) refl refl (ap (λ (k : MemberKind). label_of k == label_of Field) e), omega arith)
  to_member Method t m e h g = (fits_by (edge (type_scope l t) (label_of Method) (member_scope l m)) (Ty t) (Member m) (type_place l t h) (member_place l m g) refl refl (ap (λ (k : MemberKind). label_of k == label_of Method) e), omega arith)
  to_member Ctor t m e h g = (fits_by (edge (type_scope l t) (label_of Ctor) (member_scope l m)) (Ty t) (Member m) (type_place l t h) (member_place l m g) refl refl (ap (λ (k : MemberKind). label_of k == label_of Ctor) e), omega arith)
  to_member DefaultCtor t m e h g = (fits_by (edge (type_scope l t) (label_of DefaultCtor) (member_scope l m)) (Ty t) (Member m) (type_place l t h) (member_place l m g) refl refl (ap (λ (k : MemberKind). label_of k == label_of DefaultCtor) e), omega arith)

  first_type_below : (t : ℕ) → Contains (first_types l) t → t < length l.types
  first_type_below t c = from_below (length l.types) t (Contains-filter (is_first_type l) (below (length l.types)) t c).0

  first_member_below : (m : ℕ) → Contains (first_members l) m → m < length l.members
  first_member_below m c = from_below (length l.members) m (Contains-filter (is_first_member l) (below (length l.members)) m c).0

  module _ (linked : IsLinked l) where
    file_below : (f : ℕ) → f < length l.files → IsBelow (length l.packages) (get_or l.files f None)
    file_below f h = All-get_or (IsBelow (length l.packages)) l.files f None h linked.files

    type_file_below : (t : ℕ) → t < length l.types → (type_at l t).file < length l.files
    type_file_below t h = All-get_or (λ r. r.file < length l.files) l.types t no_type h linked.type_files

    pub owner_below : (m : ℕ) → m < length l.members → (member_at l m).owner < length l.types
    owner_below m h = All-get_or (λ r. r.owner < length l.types) l.members m no_member h linked.members

    from_home : (o : Option ℕ) (f t : ℕ) → IsBelow (length l.types) o → f < length l.files → t < length l.types → IsEdgeOf l (edge (home_by l o f) TYPE (type_scope l t))
    from_home None f t b g h = from_package (get_or l.files f None) t (file_below f g) h
    from_home (Some q) f t b g h = (fits_by (edge (type_scope l q) TYPE (type_scope l t)) (Ty q) (Ty t) (type_place l q b) (type_place l t h) refl refl refl, omega arith)

    -- each kind of edge
    packages_fit : Each (IsEdgeOf l) (package_edges l)
    packages_fit = each_image (IsEdgeOf l) (package_edge l) (below (length l.packages)) (λ p c.
        let h = from_below (length l.packages) p c in
        to_package (package_row_at l p).parent p (All-get_or (λ r. IsBelow (length l.packages) r.parent) l.packages p no_package h linked.packages) h)

    files_fit : Each (IsEdgeOf l) (file_edges l)
    files_fit = each_image (IsEdgeOf l) (file_edge l) (below (length l.files)) (λ f c.
        let h = from_below (length l.files) f c in
        own_package (get_or l.files f None) f (file_below f h) h)

    langs_fit : Each (IsEdgeOf l) (lang_edges l)
    langs_fit = each_image (IsEdgeOf l) (lang_edge l) (below (length l.files)) (λ f c.
        let h = from_below (length l.files) f c in
        lang_package (get_or l.files 0 None) f (file_below 0 (omega arith)) h)

    types_fit : Each (IsEdgeOf l) (type_edges l)
    types_fit = each_image (IsEdgeOf l) (type_edge l) (first_types l) (λ t c.
        let h = first_type_below t c in
        from_home (type_at l t).owner (type_at l t).file t (All-get_or (λ r. IsBelow (length l.types) r.owner) l.types t no_type h linked.owners) (type_file_below t h) h)

    selves_fit : Each (IsEdgeOf l) (self_edges l)
    selves_fit = each_image (IsEdgeOf l) (self_edge l) (filter (is_top l) (first_types l)) (λ t c.
        let h = first_type_below t (Contains-filter (is_top l) (first_types l) t c).0 in (
          fits_by (self_edge l t) (File (type_at l t).file) (Ty t) (file_place l (type_at l t).file (type_file_below t h)) (type_place l t h) refl refl refl,
          omega arith,
        ))

    members_fit : Each (IsEdgeOf l) (member_edges l)
    members_fit = each_image (IsEdgeOf l) (member_edge l) (first_members l) (λ m c.
        let h = first_member_below m c in
        to_member (member_at l m).kind (member_at l m).owner m refl (owner_below m h) h)

    signatures_fit : Each (IsEdgeOf l) (signature_edges l)
    signatures_fit = each_image (IsEdgeOf l) (signature_edge l) (below (length l.members)) (λ m c.
        let h = from_below (length l.members) m c in (
          fits_by (signature_edge l m) (Member m) (Signature m) (member_place l m h) (signature_place l m h) refl refl refl,
          omega arith,
        ))

    pub edges_fit : Each (IsEdgeOf l) (skeleton_of l).edges
    edges_fit =
        let P = IsEdgeOf l in
        each_joined P (package_edges l ++ file_edges l ++ lang_edges l ++ type_edges l ++ self_edges l ++ member_edges l) (signature_edges l) (
        each_joined P (package_edges l ++ file_edges l ++ lang_edges l ++ type_edges l ++ self_edges l) (member_edges l) (
        each_joined P (package_edges l ++ file_edges l ++ lang_edges l ++ type_edges l) (self_edges l) (
        each_joined P (package_edges l ++ file_edges l ++ lang_edges l) (type_edges l) (
        each_joined P (package_edges l ++ file_edges l) (lang_edges l) (
        each_joined P (package_edges l) (file_edges l) packages_fit files_fit) langs_fit) types_fit) selves_fit) members_fit) signatures_fit

pub skeletons_fit : SkeletonsFit
skeletons_fit l linked e c = (edges_fit l linked e c).0
