-- What is read from an answer: the ends of the paths that count.
use Rattle.std.specs.Prelude.{ℕ, List, [], ◌∷◌, Bool, true, false, not, cond, ◌==◌, ◌&&◌, ◌||◌, map, fold, Option, Some, None}
use Rattle.std.specs.List.{filter, list_all, list_any}
use Rattle.sg_base.specs.declared.scope.Scope.{Scope}
use Rattle.sg_base.specs.declared.step.Step.{Step}
use Rattle.sg_base.specs.Path.{PathOf, end_of}
use Rattle.sg_base.specs.Scope.{is_scope, scope_cmp}
use Rattle.sg_query.specs.declared.answer.Answer.{Answer}
use Rattle.sg_query.specs.declared.answer.Answer.TheVariants.{Paths, TooMany as TooManyPaths}
use Rattle.sg_query.specs.declared.found.Found.{Found}
use Rattle.sg_state.specs.Held.{put}
use Rattle.jv_instance.specs.declared.access.Access.{Access}
use Rattle.jv_instance.specs.declared.access.Access.TheVariants.{Public, Protected, Package as PackageAccess, Private}
use Rattle.jv_instance.specs.declared.datum.JavaDatum.{JavaDatum}
use Rattle.jv_instance.specs.declared.labels.TheConstants.{ODI, FIELD, METH, CTOR}
use Rattle.jv_layout.specs.declared.place.Place.{Place}
use Rattle.jv_layout.specs.Folder.{LayoutOf}
use Rattle.jv_layout.specs.Scopes.{place_of}
use Rattle.jv_layout.specs.Fits.{fits, is_package, is_type, is_member_by}
use Rattle.jv_layout.specs.Readers.{access_of, package_of}
use Rattle.jv_names.specs.declared.counts.Counts.{Counts}
use Rattle.jv_names.specs.declared.counts.Counts.TheVariants.{OwnPackages, OwnTypes, MemberTypes, FileTypes, Fields, Methods, Constructors, Supertypes}
use Rattle.jv_names.specs.declared.ends.Ends.{Ends}
use Rattle.jv_names.specs.declared.ends.Ends.TheVariants.{Scopes, TooMany as TooManyEnds}
use Rattle.jv_names.specs.declared.meaning.Meaning.{Meaning}
use Rattle.jv_names.specs.declared.meaning.Meaning.TheVariants.{One, Nothing, Ambiguous, TooMany}
use Rattle.jv_names.specs.Inherited.{is_inherited}

-- where a path ends
abbrev pub path_end : PathOf → Scope
path_end p = end_of p.start p.steps

-- by its access, a type may be imported on demand into a package: a public one, and one of package or protected access into its own (JLS 7.5.2)
abbrev pub opens_to : LayoutOf → Access → Scope → Scope → Bool
opens_to l Public outer t = true
opens_to l Protected outer t = is_scope (package_of l t) outer
opens_to l PackageAccess outer t = is_scope (package_of l t) outer
opens_to l Private outer t = false

-- the first step has this label
abbrev pub begins_with : ℕ → List Step → Bool
begins_with label [] = false
begins_with label (p ∷ ps) = p.label == label

-- a file sees the type at a path's end: not on demand, or one that is accessible from the file's package
abbrev pub is_seen : LayoutOf → PathOf → Bool
is_seen l p = not (begins_with ODI p.steps) || opens_to l (access_of l (path_end p)) (package_of l p.start) (path_end p)

-- what is looked for stands at the path's end: a package, a type, a field, a method or a constructor
abbrev pub is_sought : LayoutOf → Counts → Place → Bool
is_sought l OwnPackages at = is_package at
is_sought l OwnTypes at = is_type at
is_sought l MemberTypes at = is_type at
is_sought l FileTypes at = is_type at
is_sought l Fields at = is_member_by l FIELD at
is_sought l Methods at = is_member_by l METH at
is_sought l Constructors at = is_member_by l CTOR at
is_sought l Supertypes at = is_type at

-- member types, fields and methods count where they are inherited, and the types of a file where the file sees them
abbrev pub passes : LayoutOf → Counts → PathOf → Bool
passes l OwnPackages p = true
passes l OwnTypes p = true
passes l MemberTypes p = is_inherited l p
passes l FileTypes p = is_seen l p
passes l Fields p = is_inherited l p
passes l Methods p = is_inherited l p
passes l Constructors p = true
passes l Supertypes p = true

-- a found path counts: it fits the layout, ends in what is looked for, and passes
abbrev pub is_counted : LayoutOf → Counts → Found JavaDatum → Bool
is_counted l c f = fits l f.path && (is_sought l c (place_of l (path_end f.path)) && passes l c f.path)

-- the ends of the paths that count
abbrev pub counted_ends : LayoutOf → Counts → List (Found JavaDatum) → List Scope
counted_ends l c fs = map (λ f. path_end f.path) (filter (is_counted l c) fs)

-- these ends behind another one, where there is one
abbrev pub led_by : Option Scope → List Scope → List Scope
led_by None es = es
led_by (Some e) es = e ∷ es

-- the meaning by the ends that were found
abbrev pub meaning_of : List Scope → Meaning
meaning_of [] = Nothing
meaning_of (e ∷ es) = cond (list_all (is_scope e) es) (One e) Ambiguous

-- the meaning by an answer
abbrev pub answer_meaning : LayoutOf → Counts → Answer JavaDatum → Meaning
answer_meaning l c (Paths fs) = meaning_of (counted_ends l c fs)
answer_meaning l c TooManyPaths = TooMany

-- the distinct ends by an answer, rising
abbrev pub answer_ends : LayoutOf → Counts → Answer JavaDatum → Ends
answer_ends l c (Paths fs) = Scopes (fold (put scope_cmp) [] (counted_ends l c fs))
answer_ends l c TooManyPaths = TooManyEnds

-- whether a scope is one of the ends by an answer; where there are too many paths, it is none
abbrev pub has_end : LayoutOf → Counts → Scope → Answer JavaDatum → Bool
has_end l c s (Paths fs) = list_any (λ f. is_counted l c f && is_scope (path_end f.path) s) fs
has_end l c s TooManyPaths = false
