-- Laws of layouts: which scope has which place, and the graph with which a run begins.
use Rattle.std.specs.Prelude.{◌≡◌, ◌<◌, ◌^◌, true, length, ◌↔◌}
use Rattle.std.specs.List.{Contains}
use Rattle.sg_base.specs.declared.scope.Scope.{Scope}
use Rattle.sg_base.specs.Graph.{Edge}
use Rattle.sg_state.specs.Opening.{IsSoundOpening}
use Rattle.jv_layout.specs.declared.place.Place.{Place}
use Rattle.jv_layout.specs.declared.place.Place.TheVariants.{Outside, Root, Unnamed, Package, File, Ty, Member, Signature}
use Rattle.jv_layout.specs.Folder.{LayoutOf}
use Rattle.jv_layout.specs.Fits.{may_step, is_inside}
use Rattle.jv_layout.specs.Linked.{IsLinked}
use Rattle.jv_layout.specs.Scopes.{place_of, scope_count, root_scope, unnamed_scope, package_scope, file_scope, type_scope, member_scope, signature_of_member}
use Rattle.jv_layout.specs.Skeleton.{skeleton_of}

-- the scope stands for this row of the layout, and is none of the layout's where it is outside
abbrev pub IsScopeOf : LayoutOf → Place → Scope → Type 0
IsScopeOf l Outside s = Contains (skeleton_of l).scopes s → ⊥
IsScopeOf l Root s = s ≡ root_scope
IsScopeOf l Unnamed s = s ≡ unnamed_scope
IsScopeOf l (Package p) s = (p < length l.packages) × (s ≡ package_scope p)
IsScopeOf l (File f) s = (f < length l.files) × (s ≡ file_scope l f)
IsScopeOf l (Ty t) s = (t < length l.types) × (s ≡ type_scope l t)
IsScopeOf l (Member m) s = (m < length l.members) × (s ≡ member_scope l m)
IsScopeOf l (Signature m) s = (m < length l.members) × (s ≡ signature_of_member l m)

-- a scope has a place exactly if it stands for that row
abbrev pub ScopesHavePlaces : Type 0
ScopesHavePlaces = (l : LayoutOf) (s : Scope) (p : Place) → (place_of l s ≡ p) ↔ (IsScopeOf l p s)

-- the opening of a layout is one with which a run may begin
abbrev pub SkeletonsAreSound : Type 0
SkeletonsAreSound = (l : LayoutOf) → IsLinked l → scope_count l < 2 ^ 31 → IsSoundOpening (skeleton_of l)

-- an edge goes between scopes of the layout, of the kinds that its label joins
pub record IsFitting (l : LayoutOf) (e : Edge) : Type 0 where
  pub source : is_inside (place_of l e.from) ≡ true
  pub target : is_inside (place_of l e.to) ≡ true
  pub kinds : may_step l (place_of l e.from) e.label (place_of l e.to) ≡ true

-- each edge of an opening does so
abbrev pub SkeletonsFit : Type 0
SkeletonsFit = (l : LayoutOf) → IsLinked l → (e : Edge) → Contains (skeleton_of l).edges e → IsFitting l e
