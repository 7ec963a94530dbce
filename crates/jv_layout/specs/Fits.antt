-- Which paths a layout's scopes let stand.
use Rattle.std.specs.Prelude.{ℕ, ◌==◌, Bool, true, false, ◌&&◌, ◌||◌, cond, List, [], ◌∷◌, take}
use Rattle.sg_base.specs.declared.step.Step.{Step}
use Rattle.sg_base.specs.Path.{PathOf}
use Rattle.jv_instance.specs.declared.labels.TheConstants.{PKG, TYPE, SELF, SIMP, PKGOF, ODI, EXT, FIELD, METH, CTOR, SIG}
use Rattle.jv_layout.specs.declared.place.Place.{Place}
use Rattle.jv_layout.specs.declared.place.Place.TheVariants.{Outside, Root, Unnamed, Package, File, Ty, Member, Signature}
use Rattle.jv_layout.specs.Folder.{LayoutOf}
use Rattle.jv_layout.specs.Scopes.{place_of}
use Rattle.jv_layout.specs.Readers.{member_at}
use Rattle.jv_layout.specs.Skeleton.{label_of}

-- the kinds of scopes
abbrev pub is_root : Place → Bool
is_root Root = true
is_root Outside = false
is_root Unnamed = false
is_root (Package p) = false
is_root (File f) = false
is_root (Ty t) = false
is_root (Member m) = false
is_root (Signature m) = false

-- whether a scope is a package, the unnamed one or another
abbrev pub is_package : Place → Bool
is_package Root = false
is_package Outside = false
is_package Unnamed = true
is_package (Package p) = true
is_package (File f) = false
is_package (Ty t) = false
is_package (Member m) = false
is_package (Signature m) = false

-- whether a scope is a file
abbrev pub is_file : Place → Bool
is_file Root = false
is_file Outside = false
is_file Unnamed = false
is_file (Package p) = false
is_file (File f) = true
is_file (Ty t) = false
is_file (Member m) = false
is_file (Signature m) = false

-- whether a scope is a type
abbrev pub is_type : Place → Bool
is_type Root = false
is_type Outside = false
is_type Unnamed = false
is_type (Package p) = false
is_type (File f) = false
is_type (Ty t) = true
is_type (Member m) = false
is_type (Signature m) = false

-- whether a scope is a member
abbrev pub is_member : Place → Bool
is_member Root = false
is_member Outside = false
is_member Unnamed = false
is_member (Package p) = false
is_member (File f) = false
is_member (Ty t) = false
is_member (Member m) = true
is_member (Signature m) = false

-- whether a scope is the signature of a member
abbrev pub is_signature : Place → Bool
is_signature Root = false
is_signature Outside = false
is_signature Unnamed = false
is_signature (Package p) = false
is_signature (File f) = false
is_signature (Ty t) = false
is_signature (Member m) = false
is_signature (Signature m) = true

-- whether a scope is a member whose edge has this label
abbrev pub is_member_by : LayoutOf → ℕ → Place → Bool
is_member_by l k (Member m) = label_of (member_at l m).kind == k
is_member_by l k Root = false
is_member_by l k Outside = false
is_member_by l k Unnamed = false
is_member_by l k (Package p) = false
is_member_by l k (File f) = false
is_member_by l k (Ty t) = false
is_member_by l k (Signature m) = false

-- whether an edge with the label may go from a scope of one kind to one of another
abbrev pub may_step : LayoutOf → Place → ℕ → Place → Bool
may_step l from k to =
    cond (k == PKG) ((is_root from || is_package from) && is_package to)
    (cond (k == TYPE) ((is_package from || is_type from) && is_type to)
    (cond (k == SELF) (is_file from && is_type to)
    (cond (k == SIMP) (is_file from && is_type to)
    (cond (k == PKGOF) (is_file from && is_package to)
    (cond (k == ODI) (is_file from && (is_package to || is_type to))
    (cond (k == EXT) (is_type from && is_type to)
    (cond ((k == FIELD) || ((k == METH) || (k == CTOR))) (is_type from && is_member_by l k to)
    (cond (k == SIG) (is_member from && is_signature to) false))))))))

-- whether each step goes between the kinds of scopes that its label joins
abbrev pub steps_fit : LayoutOf → Place → List Step → Bool
steps_fit l from [] = true
steps_fit l from (p ∷ ps) = may_step l from p.label (place_of l p.to) && steps_fit l (place_of l p.to) ps

-- whether a scope is one of the layout
abbrev pub is_inside : Place → Bool
is_inside Outside = false
is_inside Root = true
is_inside Unnamed = true
is_inside (Package p) = true
is_inside (File f) = true
is_inside (Ty t) = true
is_inside (Member m) = true
is_inside (Signature m) = true

-- whether each scope of a path is one of the layout, and each step goes between the kinds of scopes that its label joins
abbrev pub fits : LayoutOf → PathOf → Bool
fits l p = is_inside (place_of l p.start) && steps_fit l (place_of l p.start) p.steps

-- the path of so many steps at the beginning of another one
abbrev pub front_of : PathOf → ℕ → PathOf
front_of p k = record { start = p.start; steps = take k p.steps }
