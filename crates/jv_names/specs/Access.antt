-- Which types and members are accessible at a place (JLS 6.6).
use Rattle.std.specs.Prelude.{ℕ, List, [], ◌∷◌, Bool, true, false, cond, ◌&&◌, Option, Some, None, is_some}
use Rattle.sg_base.specs.declared.scope.Scope.{Scope}
use Rattle.sg_base.specs.Scope.{is_scope}
use Rattle.sg_reading.specs.Reading.{done, ask, and_then}
use Rattle.jv_instance.specs.declared.access.Access.{Access}
use Rattle.jv_instance.specs.declared.access.Access.TheVariants.{Public, Protected, Package, Private}
use Rattle.jv_instance.specs.declared.labels.TheConstants.{CTOR}
use Rattle.jv_layout.specs.Folder.{LayoutOf}
use Rattle.jv_layout.specs.Scopes.{place_of, file_scope}
use Rattle.jv_layout.specs.Fits.{is_member_by}
use Rattle.jv_layout.specs.Readers.{access_of, package_of, top_of, owner_scope, is_static_of}
use Rattle.jv_names.specs.declared.counts.Counts.TheVariants.{Supertypes}
use Rattle.jv_names.specs.declared.kinds.TheConstants.{SUPERS}
use Rattle.jv_names.specs.Ends.{has_end}
use Rattle.jv_names.specs.Replies.{Rule, for_any}

-- whether the place's file lies in the package of a type or a member
abbrev pub is_same_package : LayoutOf → ℕ → Scope → Bool
is_same_package l file s = is_scope (package_of l (file_scope l file)) (package_of l s)

-- whether the innermost body around the place lies in the outermost type of a type or a member; a place in no body does in none
abbrev pub is_same_top : LayoutOf → List Scope → Scope → Bool
is_same_top l [] s = false
is_same_top l (b ∷ bs) s = is_scope (top_of l b) (top_of l s)

-- whether a type is another one or has it among its supertypes
unfoldable pub has_super : LayoutOf → Scope → Scope → Rule Bool
has_super l above sub = ask (for_any SUPERS sub) (λ a. done (has_end l Supertypes above a))

-- whether a rule holds of one of the bodies, body by body outward until it does
abbrev pub some_body : (Scope → Rule Bool) → List Scope → Rule Bool
some_body f [] = done false
some_body f (b ∷ bs) = and_then (f b) (λ found. cond found (done true) (some_body f bs))

-- a member type that is declared in a type, by its access; a protected one is accessible in bodies of subtypes too
abbrev pub member_type_by : LayoutOf → ℕ → List Scope → Scope → Scope → Access → Rule Bool
member_type_by l file bodies t d Public = done true
member_type_by l file bodies t d Private = done (is_same_top l bodies t)
member_type_by l file bodies t d Package = done (is_same_package l file t)
member_type_by l file bodies t d Protected = cond (is_same_package l file t) (done true) (some_body (has_super l d) bodies)

-- a top-level type is accessible where it is public, or in its package
abbrev pub top_type_by : LayoutOf → ℕ → Scope → Access → Bool
top_type_by l file t Public = true
top_type_by l file t Protected = is_same_package l file t
top_type_by l file t Package = is_same_package l file t
top_type_by l file t Private = is_same_package l file t

-- whether a type is accessible, by the type that declares it; one that none declares is a top-level type
abbrev pub type_accessible_by : LayoutOf → ℕ → List Scope → Scope → Option Scope → Rule Bool
type_accessible_by l file bodies t None = done (top_type_by l file t (access_of l t))
type_accessible_by l file bodies t (Some d) = member_type_by l file bodies t d (access_of l t)

-- whether a type is accessible at a place of a file, within these bodies, innermost first
abbrev pub type_accessible : LayoutOf → ℕ → List Scope → Scope → Rule Bool
type_accessible l file bodies t = type_accessible_by l file bodies t (owner_scope l t)

-- ---- members (JLS 6.6.1, 6.6.2)

-- whether a receiver's type has the body among its supertypes; a static member, a simple name and `super` ask for none
abbrev pub receiver_fits : LayoutOf → Scope → Scope → Option Scope → Rule Bool
receiver_fits l m b None = done true
receiver_fits l m b (Some r) = cond (is_static_of l m) (done true) (has_super l b r)

-- whether a protected member is accessible within a body: the body has the declaring type among its supertypes, and the receiver fits it
unfoldable pub body_fits : LayoutOf → Scope → Scope → Option Scope → Scope → Rule Bool
body_fits l m d through b = and_then (has_super l d b) (λ found. cond found (receiver_fits l m b through) (done false))

-- whether a member is a constructor
abbrev pub is_constructor : LayoutOf → Scope → Bool
is_constructor l m = is_member_by l CTOR (place_of l m)

-- a protected member of another package; a constructor is reached by a super call alone
abbrev pub protected_elsewhere : LayoutOf → List Scope → Scope → Option Scope → Option Scope → Rule Bool
protected_elsewhere l bodies m through None = done false
protected_elsewhere l bodies m through (Some d) = cond (is_constructor l m && is_some through) (done false) (some_body (body_fits l m d through) bodies)

-- whether a member is accessible, by its access; a protected one is in its package, and elsewhere in bodies of subtypes
abbrev pub member_accessible_by : LayoutOf → ℕ → List Scope → Scope → Option Scope → Access → Rule Bool
member_accessible_by l file bodies m through Public = done true
member_accessible_by l file bodies m through Private = done (is_same_top l bodies m)
member_accessible_by l file bodies m through Package = done (is_same_package l file m)
member_accessible_by l file bodies m through Protected = cond (is_same_package l file m) (done true) (protected_elsewhere l bodies m through (owner_scope l m))

-- whether a field, a method or a constructor is accessible at a place of a file, within these bodies, through a receiver of this type, or without one
abbrev pub member_accessible : LayoutOf → ℕ → List Scope → Scope → Option Scope → Rule Bool
member_accessible l file bodies m through = member_accessible_by l file bodies m through (access_of l m)
