-- Which members a type inherits (JLS 8.2, 8.4.8, 8.5, 9.2, 9.4.1).
use Rattle.std.specs.Prelude.{◌≡◌, ℕ, ◌<◌, ◌≤◌, List, [], ◌∷◌, Bool, true, not, ◌==◌, ◌&&◌, Option, Some, None, length, slice_index_or, take}
use Rattle.std.specs.List.{list_all}
use Rattle.sg_base.specs.declared.scope.Scope.{Scope}
use Rattle.sg_base.specs.declared.step.Step.{Step}
use Rattle.sg_base.specs.Path.{PathOf, end_of}
use Rattle.sg_base.specs.Scope.{is_scope}
use Rattle.sg_query.specs.declared.found.Found.{Found}
use Rattle.jv_instance.specs.declared.access.Access.{Access}
use Rattle.jv_instance.specs.declared.access.Access.TheVariants.{Public, Protected, Package, Private}
use Rattle.jv_instance.specs.declared.datum.JavaDatum.{JavaDatum}
use Rattle.jv_instance.specs.declared.labels.TheConstants.{EXT}
use Rattle.jv_layout.specs.Folder.{LayoutOf}
use Rattle.jv_layout.specs.Readers.{access_of, is_interface_method_of, is_static_of, package_of}

-- the scopes that steps leave, first to last
abbrev pub left_by : Scope → List Step → List Scope
left_by s [] = []
left_by s (p ∷ ps) = s ∷ left_by p.to ps

-- the scope that the last step leaves, which declares the member at the path's end; where there is no step, the scope itself
abbrev pub declarer : Scope → List Step → Scope
declarer s [] = s
declarer s (p ∷ []) = s
declarer s (p ∷ q ∷ ps) = declarer p.to (q ∷ ps)

-- no step goes to a supertype
abbrev pub has_no_super : List Step → Bool
has_no_super ps = list_all (λ p. not (p.label == EXT)) ps

-- each scope that the steps leave lies in this package
abbrev pub lies_in : LayoutOf → Scope → Scope → List Step → Bool
lies_in l home s ps = list_all (λ t. is_scope (package_of l t) home) (left_by s ps)

-- each scope that the steps leave lies in the package of the one that declares the member
abbrev pub stays_in_package : LayoutOf → Scope → List Step → Bool
stays_in_package l s ps = lies_in l (package_of l (declarer s ps)) s ps

-- by its access, the member at the end of the steps is inherited along them
abbrev pub inherited_by : LayoutOf → Access → Scope → List Step → Bool
inherited_by l Public s ps = true
inherited_by l Protected s ps = true
inherited_by l Package s ps = stays_in_package l s ps
inherited_by l Private s ps = has_no_super ps

-- the path ends in a static method of an interface and goes to a supertype
abbrev pub is_stray : LayoutOf → PathOf → Bool
is_stray l p = (is_interface_method_of l (end_of p.start p.steps) && is_static_of l (end_of p.start p.steps)) && not (has_no_super p.steps)

-- the member at the path's end is a member of the type at its start: a public or protected one, a private one of the type itself, or one of package
-- access where each type on the path lies in the package of the one that declares it; but a static method of an interface is one of that interface alone
abbrev pub is_inherited : LayoutOf → PathOf → Bool
is_inherited l p = not (is_stray l p) && inherited_by l (access_of l (end_of p.start p.steps)) p.start p.steps

-- an index, if there is one, of a path whose steps leave scopes of the declaring one's package alone
abbrev pub IsStaying : LayoutOf → List (Found JavaDatum) → Option ℕ → Type 0
IsStaying l fs None = Unit {0}
IsStaying l fs (Some j) = (j < length fs) × ((f : Found JavaDatum) → f ≡ slice_index_or fs j f → stays_in_package l f.path.start f.path.steps ≡ true)

-- so many steps at the beginning of the path at an index leave scopes of the declaring one's package alone
abbrev pub AreLeftInside : LayoutOf → List (Found JavaDatum) → ℕ → ℕ → Type 0
AreLeftInside l fs k n =
    (f : Found JavaDatum) → f ≡ slice_index_or fs k f → (n ≤ length f.path.steps) × (lies_in l (package_of l (declarer f.path.start f.path.steps)) f.path.start (take n f.path.steps) ≡ true)
