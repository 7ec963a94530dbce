-- Names as expressions ask queries of the layout, and are values and types of it.
use Rattle.std.proofs.Common.{◌==◌, not, ℕ, ◌<◌, Bool, true, false, cond, IsTrue, List, [], ◌∷◌, ◌++◌, All, Option, Some, None, IfSome, refl}
use Rattle.std.proofs.lemmas.List.Elements.{All-head, All-tail}
use Rattle.sg_base.specs.declared.scope.Scope.{Scope}
use Rattle.sg_reading.specs.Reading.{done, and_then}
use Rattle.jv_diag.specs.Plain.{DiagOf}
use Rattle.jv_instance.specs.declared.labels.TheConstants.{FIELD}
use Rattle.jv_layout.specs.Folder.{LayoutOf}
use Rattle.jv_layout.specs.Scopes.{place_of, root_scope}
use Rattle.jv_tree.specs.declared.name.Ident.{Ident}
use Rattle.jv_tree.specs.declared.names.NameId.{NameId}
use Rattle.jv_tree.specs.Numbered.{IsNumberedIdent, IsNumberedName}
use Rattle.jv_names.specs.declared.ends.Ends.{Ends}
use Rattle.jv_names.specs.declared.ends.Ends.TheVariants.{Scopes, TooMany as TooManyEnds}
use Rattle.jv_names.specs.declared.meaning.Meaning.{Meaning}
use Rattle.jv_names.specs.declared.meaning.Meaning.TheVariants.{One, Nothing, Ambiguous, TooMany}
use Rattle.jv_names.specs.declared.static_kind.StaticKind.TheVariants.{Fields}
use Rattle.jv_names.specs.Access.{type_accessible}
use Rattle.jv_names.specs.Bounds.{is_start, AreTypes, AsksIn, EndsOnly, IsMemberScope, IsPackageScope, IsTyIn, IsTypeScope, MeansOnly}
use Rattle.jv_names.specs.Members.{field}
use Rattle.jv_names.specs.Names.{member_type, package_type, subpackage}
use Rattle.jv_names.specs.Statics.{static_members}
use Rattle.jv_names.specs.TypeNames.{simple_type}
use Rattle.jv_names.specs.Written.{start_of, written}
use Rattle.jv_names.proofs.Bounds.{fields_stay_in, member_type_stays, package_starts, package_type_stays, simple_type_stays, statics_stay_in, subpackage_stays, type_accessible_stays}
use Rattle.jv_expr.specs.declared.denoted.Denoted.{Denoted}
use Rattle.jv_expr.specs.declared.denoted.Denoted.TheVariants.{Variable, TypeName, Package, Nothing as Unknown}
use Rattle.jv_expr.specs.declared.found_field.FoundField.{FoundField}
use Rattle.jv_expr.specs.declared.found_field.FoundField.TheVariants.{In, Imported, Several, TooMany as TooManyFields, Nowhere}
use Rattle.jv_expr.specs.declared.front.Front.{Front}
use Rattle.jv_expr.specs.declared.front.Front.TheVariants.{Value as ValueFront, TypeName as TypeFront}
use Rattle.jv_expr.specs.declared.local.Local.{Local}
use Rattle.jv_expr.specs.declared.value.Value.{Value}
use Rattle.jv_expr.specs.Bounds.{IsAnything, IsSiteIn}
use Rattle.jv_expr.specs.Checking.{Checking}
use Rattle.jv_expr.specs.Fields.{bad_named, field_found, field_on}
use Rattle.jv_expr.specs.Operators.{bad_value}
use Rattle.jv_expr.specs.Site.{SiteOf, has_instance, title, with_fault, with_fault_if, with_named}
use Rattle.jv_expr.specs.Variables.{as_variable, denoted, ended_front, ended_value, field_around, field_outward, further_parts, head_found, head_part, imported_field, in_body, in_import, latest, local_value, many_part, member_meant, name_front, name_value, next_part, next_part_of, or_field, or_head, or_imported, outward_value, package_meant, several_part, simple_name, static_meant, type_meant, type_part}
use Rattle.jv_names.specs.Replies.{Rule}
use Rattle.jv_expr.proofs.AskedFields.{IsFirstValueIn, bad_named_asks, field_found_asks, field_on_asks, named_field_asks}
use Rattle.jv_expr.proofs.AskedSteps.{done_asks, of_names, then_asks}

-- ---- what is found

-- the local variables in scope have types of the layout
abbrev pub IsLocalIn : LayoutOf → Local → Type 0
IsLocalIn l v = IsTyIn l v.ty

abbrev pub AreLocalsIn : LayoutOf → List Local → Type 0
AreLocalsIn l vs = All (IsLocalIn l) vs

-- where a field was found, that is a field, in the body of a type or imported
abbrev pub IsFoundIn : LayoutOf → FoundField → Type 0
IsFoundIn l (In b m) = IsTypeScope l b × IsMemberScope l FIELD m
IsFoundIn l (Imported m) = IsMemberScope l FIELD m
IsFoundIn l Several = Unit {0}
IsFoundIn l TooManyFields = Unit {0}
IsFoundIn l Nowhere = Unit {0}

-- a name stands for what the layout has
abbrev pub IsDenotedIn : LayoutOf → Denoted → Type 0
IsDenotedIn l (Variable v) = IsTyIn l v.ty
IsDenotedIn l (TypeName t behind) = IsTypeScope l t
IsDenotedIn l (Package p) = IsPackageScope l p
IsDenotedIn l Unknown = Unit {0}

abbrev pub IsFrontIn : LayoutOf → Front → Type 0
IsFrontIn l (ValueFront v) = IsTyIn l v.ty
IsFrontIn l (TypeFront t) = IsTypeScope l t

abbrev pub IsFirstDenotedIn : LayoutOf → Denoted × List DiagOf → Type 0
IsFirstDenotedIn l p = IsDenotedIn l p.0

abbrev pub IsFirstFrontIn : LayoutOf → Front × List DiagOf → Type 0
IsFirstFrontIn l p = IsFrontIn l p.0

module _ (l : LayoutOf) where
  one_more : (b : Bool) (v : Local) (found : Option Local) → IsLocalIn l v → IfSome found (IsLocalIn l) → IfSome (cond b (Some v) found) (IsLocalIn l)
  one_more true v found h k = h
  one_more false v found h k = k

  pub latest_in : (vs : List Local) (n : NameId) (found : Option Local) → AreLocalsIn l vs → IfSome found (IsLocalIn l) → IfSome (latest vs n found) (IsLocalIn l)
  latest_in [] n found h k = k
  latest_in (v ∷ vs) n found h k =
      latest_in vs n (cond (v.name.0 == n.0) (Some v) found) (All-tail (IsLocalIn l) v vs h) (one_more (v.name.0 == n.0) v found (All-head (IsLocalIn l) v vs h) k)

module _ (site : SiteOf) (count : ℕ) (is : IsSiteIn count site) where
  abbrev L : LayoutOf
  L = site.layout

  -- ---- simple names

  in_body_asks : (b : Scope) (m : Meaning) (next : Rule FoundField) → IsTypeScope L b → MeansOnly (IsMemberScope L FIELD) m → AsksIn L count (IsFoundIn L) next → AsksIn L count (IsFoundIn L) (in_body b m next)
  in_body_asks b (One m) next h k n = done_asks L count (IsFoundIn L) (In b m) (h, k)
  in_body_asks b Nothing next h k n = n
  in_body_asks b Ambiguous next h k n = done_asks L count (IsFoundIn L) Several tt
  in_body_asks b TooMany next h k n = done_asks L count (IsFoundIn L) TooManyFields tt

  pub field_outward_asks : (bs : List Scope) (n : NameId) → AreTypes L bs → n.0 < count → AsksIn L count (IsFoundIn L) (field_outward L bs n)
  unfolding field_outward
  field_outward_asks [] n h k = done_asks L count (IsFoundIn L) Nowhere tt
  field_outward_asks (b ∷ bs) n h k =
      then_asks L count (MeansOnly (IsMemberScope L FIELD)) (IsFoundIn L) (field L b n) (λ m. in_body b m (field_outward L bs n))
      (of_names L count (MeansOnly (IsMemberScope L FIELD)) (field L b n) (fields_stay_in L count b n (All-head (IsTypeScope L) b bs h) k))
      (λ m e. in_body_asks b m (field_outward L bs n) (All-head (IsTypeScope L) b bs h) e (field_outward_asks bs n (All-tail (IsTypeScope L) b bs h) k))

  in_import_asks : (e : Ends) (next : Rule FoundField) → EndsOnly (IsMemberScope L FIELD) e → AsksIn L count (IsFoundIn L) next → AsksIn L count (IsFoundIn L) (in_import e next)
  in_import_asks TooManyEnds next h k = done_asks L count (IsFoundIn L) TooManyFields tt
  in_import_asks (Scopes []) next h k = k
  in_import_asks (Scopes (m ∷ [])) next h k = done_asks L count (IsFoundIn L) (Imported m) (All-head (IsMemberScope L FIELD) m [] h)
  in_import_asks (Scopes (m ∷ n ∷ ms)) next h k = done_asks L count (IsFoundIn L) Several tt

  -- of the fields of a name that single imports bring, or that those on demand bring
  brought_fields_ask : (all : Bool) (n : NameId) → n.0 < count → AsksIn L count (EndsOnly (IsMemberScope L FIELD)) (static_members L site.file all Fields n)
  brought_fields_ask all n k = of_names L count (EndsOnly (IsMemberScope L FIELD)) (static_members L site.file all Fields n) (statics_stay_in L count site.file all Fields n is.named k)

  imported_field_asks : (n : NameId) → n.0 < count → AsksIn L count (IsFoundIn L) (imported_field L site.file n)
  unfolding imported_field
  imported_field_asks n k =
      let last : Rule FoundField = done Nowhere in
      let further : Rule FoundField = and_then (static_members L site.file true Fields n) (λ a. in_import a last) in
      then_asks L count (EndsOnly (IsMemberScope L FIELD)) (IsFoundIn L) (static_members L site.file false Fields n) (λ s. in_import s further) (brought_fields_ask false n k)
      (λ s h. in_import_asks s further h
      (then_asks L count (EndsOnly (IsMemberScope L FIELD)) (IsFoundIn L) (static_members L site.file true Fields n) (λ a. in_import a last) (brought_fields_ask true n k)
      (λ a e. in_import_asks a last e (done_asks L count (IsFoundIn L) Nowhere tt))))

  or_imported_asks : (n : NameId) (f : FoundField) → n.0 < count → IsFoundIn L f → AsksIn L count (IsFoundIn L) (or_imported L site.file n f)
  or_imported_asks n Nowhere k h = imported_field_asks n k
  or_imported_asks n (In b m) k h = done_asks L count (IsFoundIn L) (In b m) h
  or_imported_asks n (Imported m) k h = done_asks L count (IsFoundIn L) (Imported m) h
  or_imported_asks n Several k h = done_asks L count (IsFoundIn L) Several tt
  or_imported_asks n TooManyFields k h = done_asks L count (IsFoundIn L) TooManyFields tt

  pub field_around_asks : (n : NameId) → n.0 < count → AsksIn L count (IsFoundIn L) (field_around site n)
  unfolding field_around
  field_around_asks n k =
      then_asks L count (IsFoundIn L) (IsFoundIn L) (field_outward L site.bodies n) (or_imported L site.file n) (field_outward_asks site.bodies n is.bodies k) (λ f h. or_imported_asks n f k h)

  outward_asks : (i : Ident) (f : FoundField) (ds : List DiagOf) → IsFoundIn L f → AsksIn L count (IsFirstValueIn L) (outward_value site i f ds)
  outward_asks i (In b m) ds h = field_found_asks site count is None (has_instance site b) true i m ds tt h.1
  outward_asks i (Imported m) ds h = field_found_asks site count is None true false i m ds tt h
  outward_asks i Several ds h = bad_named_asks site count is i 43 ds
  outward_asks i TooManyFields ds h = bad_named_asks site count is i 41 ds
  outward_asks i Nowhere ds h = bad_named_asks site count is i 40 ds

  or_field_asks : (v : Option Local) (i : Ident) (ds : List DiagOf) → IfSome v (IsLocalIn L) → IsNumberedIdent count i → AsksIn L count (IsFirstValueIn L) (or_field site v i ds)
  or_field_asks None i ds h n =
      then_asks L count (IsFoundIn L) (IsFirstValueIn L) (field_around site i.id) (λ f. outward_value site i f ds) (field_around_asks i.id n) (λ f e. outward_asks i f ds e)
  or_field_asks (Some v) i ds h n = done_asks L count (IsFirstValueIn L) (local_value v, ds) h

  pub simple_name_asks : (vs : List Local) (i : Ident) (ds : List DiagOf) → AreLocalsIn L vs → IsNumberedIdent count i → AsksIn L count (IsFirstValueIn L) (simple_name site vs i ds)
  unfolding simple_name
  simple_name_asks vs i ds h n = or_field_asks (latest vs i.id None) i ds (latest_in L vs i.id None h tt) n

  -- ---- the parts of a name

  abbrev D : Denoted × List DiagOf → Type 0
  D = IsFirstDenotedIn L

  type_part_asks : (front : List Ident) (behind : Bool) (t : Scope) (ds : List DiagOf) → IsTypeScope L t → AsksIn L count D (type_part site front behind t ds)
  unfolding type_part
  type_part_asks front behind t ds h =
      then_asks L count IsAnything D (type_accessible L site.file site.bodies t) (λ ok. done (TypeName t behind, with_fault_if (not ok) site (start_of front) 22 (title site t ∷ []) ds))
      (of_names L count IsAnything (type_accessible L site.file site.bodies t) (type_accessible_stays L count site.file site.bodies t is.bodies))
      (λ ok e. done_asks L count D (TypeName t behind, with_fault_if (not ok) site (start_of front) 22 (title site t ∷ []) ds) h)

  several_asks : (front : List Ident) (ds : List DiagOf) → AsksIn L count D (several_part site front ds)
  several_asks front ds = done_asks L count D (Unknown, with_fault site (start_of front) 21 (written site.names front ∷ []) ds) tt

  many_asks : (i : Ident) (ds : List DiagOf) → AsksIn L count D (many_part site i ds)
  many_asks i ds = done_asks L count D (Unknown, with_named site i 41 ds) tt

  package_meant_asks : (front : List Ident) (i : Ident) (m : Meaning) (ds : List DiagOf) → MeansOnly (IsPackageScope L) m → AsksIn L count D (package_meant site front i m ds)
  package_meant_asks front i (One p) ds h = done_asks L count D (Package p, ds) h
  package_meant_asks front i Nothing ds h = done_asks L count D (Unknown, with_fault site (start_of front) 40 (written site.names front ∷ []) ds) tt
  package_meant_asks front i Ambiguous ds h = several_asks front ds
  package_meant_asks front i TooMany ds h = many_asks i ds

  type_meant_asks : (p : Scope) (front : List Ident) (i : Ident) (m : Meaning) (ds : List DiagOf) → IsTrue (is_start (place_of L p)) → IsNumberedIdent count i → MeansOnly (IsTypeScope L) m → AsksIn L count D (type_meant site p front i m ds)
  type_meant_asks p front i (One t) ds s n h = type_part_asks front false t ds h
  type_meant_asks p front i Nothing ds s n h =
      then_asks L count (MeansOnly (IsPackageScope L)) D (subpackage L p i.id) (λ k. package_meant site front i k ds)
      (of_names L count (MeansOnly (IsPackageScope L)) (subpackage L p i.id) (subpackage_stays L count i.id n p s)) (λ k e. package_meant_asks front i k ds e)
  type_meant_asks p front i Ambiguous ds s n h = several_asks front ds
  type_meant_asks p front i TooMany ds s n h = many_asks i ds

  as_variable_asks : (r : Checking Value) → AsksIn L count (IsFirstValueIn L) r → AsksIn L count D (as_variable r)
  as_variable_asks r h = then_asks L count (IsFirstValueIn L) D r (λ v. done (Variable v.0, v.1)) h (λ v e. done_asks L count D (Variable v.0, v.1) e)

  head_found_asks : (i : Ident) (f : FoundField) (ds : List DiagOf) → IsNumberedIdent count i → IsFoundIn L f → AsksIn L count D (head_found site i f ds)
  head_found_asks i (In b m) ds n h = as_variable_asks (outward_value site i (In b m) ds) (outward_asks i (In b m) ds h)
  head_found_asks i (Imported m) ds n h = as_variable_asks (outward_value site i (Imported m) ds) (outward_asks i (Imported m) ds h)
  head_found_asks i Several ds n h = as_variable_asks (outward_value site i Several ds) (outward_asks i Several ds tt)
  head_found_asks i TooManyFields ds n h = as_variable_asks (outward_value site i TooManyFields ds) (outward_asks i TooManyFields ds tt)
  head_found_asks i Nowhere ds n h =
      then_asks L count (MeansOnly (IsTypeScope L)) D (simple_type L site.file site.bodies i.id) (λ m. type_meant site root_scope (i ∷ []) i m ds)
      (of_names L count (MeansOnly (IsTypeScope L)) (simple_type L site.file site.bodies i.id) (simple_type_stays L count is.named i.id n site.file is.file site.bodies is.bodies))
      (λ m e. type_meant_asks root_scope (i ∷ []) i m ds refl n e)

  or_head_asks : (v : Option Local) (i : Ident) (ds : List DiagOf) → IfSome v (IsLocalIn L) → IsNumberedIdent count i → AsksIn L count D (or_head site v i ds)
  or_head_asks None i ds h n =
      then_asks L count (IsFoundIn L) D (field_around site i.id) (λ f. head_found site i f ds) (field_around_asks i.id n) (λ f e. head_found_asks i f ds n e)
  or_head_asks (Some v) i ds h n = done_asks L count D (Variable (local_value v), ds) h

  head_part_asks : (vs : List Local) (i : Ident) (ds : List DiagOf) → AreLocalsIn L vs → IsNumberedIdent count i → AsksIn L count D (head_part site vs i ds)
  unfolding head_part
  head_part_asks vs i ds h n = or_head_asks (latest vs i.id None) i ds (latest_in L vs i.id None h tt) n

  member_meant_asks : (front : List Ident) (i : Ident) (m : Meaning) (ds : List DiagOf) → MeansOnly (IsTypeScope L) m → AsksIn L count D (member_meant site front i m ds)
  member_meant_asks front i (One t) ds h = type_part_asks front true t ds h
  member_meant_asks front i Nothing ds h = done_asks L count D (Unknown, with_named site i 40 ds) tt
  member_meant_asks front i Ambiguous ds h = several_asks front ds
  member_meant_asks front i TooMany ds h = many_asks i ds

  static_meant_asks : (t : Scope) (front : List Ident) (i : Ident) (m : Meaning) (ds : List DiagOf) → IsTypeScope L t → IsNumberedIdent count i → MeansOnly (IsMemberScope L FIELD) m → AsksIn L count D (static_meant site t front i m ds)
  static_meant_asks t front i (One m) ds h n k = as_variable_asks (field_found site (Some t) false false i m ds) (field_found_asks site count is (Some t) false false i m ds h k)
  static_meant_asks t front i Nothing ds h n k =
      then_asks L count (MeansOnly (IsTypeScope L)) D (member_type L t i.id) (λ k. member_meant site front i k ds)
      (of_names L count (MeansOnly (IsTypeScope L)) (member_type L t i.id) (member_type_stays L count i.id n t h)) (λ m e. member_meant_asks front i m ds e)
  static_meant_asks t front i Ambiguous ds h n k = as_variable_asks (bad_named site i 43 ds) (bad_named_asks site count is i 43 ds)
  static_meant_asks t front i TooMany ds h n k = as_variable_asks (bad_named site i 41 ds) (bad_named_asks site count is i 41 ds)

  next_part_of_asks : (front : List Ident) (d : Denoted) (i : Ident) (ds : List DiagOf) → IsDenotedIn L d → IsNumberedIdent count i → AsksIn L count D (next_part_of site front d i ds)
  next_part_of_asks front (Variable v) i ds h n = as_variable_asks (field_on site false v.ty i ds) (field_on_asks site count is false v.ty i ds h n)
  next_part_of_asks front (TypeName t behind) i ds h n =
      then_asks L count (MeansOnly (IsMemberScope L FIELD)) D (field L t i.id) (λ m. static_meant site t front i m ds) (named_field_asks site count is t i h n) (λ m e. static_meant_asks t front i m ds h n e)
  next_part_of_asks front (Package p) i ds h n =
      then_asks L count (MeansOnly (IsTypeScope L)) D (package_type L p i.id) (λ m. type_meant site p front i m ds)
      (of_names L count (MeansOnly (IsTypeScope L)) (package_type L p i.id) (package_type_stays L count i.id n p h))
      (λ m e. type_meant_asks p front i m ds (package_starts (place_of L p) h) n e)
  next_part_of_asks front Unknown i ds h n = done_asks L count D (Unknown, ds) tt

  next_part_asks : (front : List Ident) (d : Denoted) (i : Ident) (ds : List DiagOf) → IsDenotedIn L d → IsNumberedIdent count i → AsksIn L count D (next_part site front d i ds)
  unfolding next_part
  next_part_asks front d i ds h n = next_part_of_asks front d i ds h n

  further_parts_asks : (front : List Ident) (d : Denoted) (js : List Ident) (ds : List DiagOf) → IsDenotedIn L d → IsNumberedName count js → AsksIn L count D (further_parts site front d js ds)
  further_parts_asks front d [] ds h n = done_asks L count D (d, ds) h
  further_parts_asks front d (i ∷ js) ds h n =
      then_asks L count D D (next_part site (front ++ i ∷ []) d i ds) (λ r. further_parts site (front ++ i ∷ []) r.0 js r.1) (next_part_asks (front ++ i ∷ []) d i ds h (All-head (IsNumberedIdent count) i js n))
      (λ r e. further_parts_asks (front ++ i ∷ []) r.0 js r.1 e (All-tail (IsNumberedIdent count) i js n))

  pub denoted_asks : (vs : List Local) (i : Ident) (js : List Ident) (ds : List DiagOf) → AreLocalsIn L vs → IsNumberedName count (i ∷ js) → AsksIn L count D (denoted site vs i js ds)
  unfolding denoted
  denoted_asks vs i js ds h n =
      then_asks L count D D (head_part site vs i ds) (λ d. further_parts site (i ∷ []) d.0 js d.1) (head_part_asks vs i ds h (All-head (IsNumberedIdent count) i js n))
      (λ d e. further_parts_asks (i ∷ []) d.0 js d.1 e (All-tail (IsNumberedIdent count) i js n))

  -- ---- names as values, and in front of the dot of a call

  ended_value_in : (i : Ident) (js : List Ident) (d : Denoted) (ds : List DiagOf) → IsDenotedIn L d → IsFirstValueIn L (ended_value site i js d ds)
  ended_value_in i js (Variable v) ds h = h
  ended_value_in i js (TypeName t true) ds h = tt
  ended_value_in i js (TypeName t false) ds h = tt
  ended_value_in i js (Package p) ds h = tt
  ended_value_in i js Unknown ds h = tt

  pub name_value_asks : (vs : List Local) (ids : List Ident) (ds : List DiagOf) → AreLocalsIn L vs → IsNumberedName count ids → AsksIn L count (IsFirstValueIn L) (name_value site vs ids ds)
  unfolding name_value
  name_value_asks vs [] ds h n = done_asks L count (IsFirstValueIn L) (bad_value, ds) tt
  name_value_asks vs (i ∷ []) ds h n = simple_name_asks vs i ds h (All-head (IsNumberedIdent count) i [] n)
  name_value_asks vs (i ∷ j ∷ js) ds h n =
      then_asks L count D (IsFirstValueIn L) (denoted site vs i (j ∷ js) ds) (λ d. done (ended_value site i (j ∷ js) d.0 d.1)) (denoted_asks vs i (j ∷ js) ds h n)
      (λ d e. done_asks L count (IsFirstValueIn L) (ended_value site i (j ∷ js) d.0 d.1) (ended_value_in i (j ∷ js) d.0 d.1 e))

  ended_front_in : (i : Ident) (js : List Ident) (d : Denoted) (ds : List DiagOf) → IsDenotedIn L d → IsFirstFrontIn L (ended_front site i js d ds)
  ended_front_in i js (Variable v) ds h = h
  ended_front_in i js (TypeName t behind) ds h = h
  ended_front_in i js (Package p) ds h = tt
  ended_front_in i js Unknown ds h = tt

  pub name_front_asks : (vs : List Local) (ids : List Ident) (ds : List DiagOf) → AreLocalsIn L vs → IsNumberedName count ids → AsksIn L count (IsFirstFrontIn L) (name_front site vs ids ds)
  unfolding name_front
  name_front_asks vs [] ds h n = done_asks L count (IsFirstFrontIn L) (ValueFront bad_value, ds) tt
  name_front_asks vs (i ∷ js) ds h n =
      then_asks L count D (IsFirstFrontIn L) (denoted site vs i js ds) (λ d. done (ended_front site i js d.0 d.1)) (denoted_asks vs i js ds h n)
      (λ d e. done_asks L count (IsFirstFrontIn L) (ended_front site i js d.0 d.1) (ended_front_in i js d.0 d.1 e))
