-- What rules of names ask and find, whatever the answers.
use Rattle.std.proofs.Common.{◌≡◌, ℕ, zero, suc, ◌<◌, ◌&&◌, ◌||◌, Bool, true, false, cond, IsTrue, IfSome, List, [], ◌∷◌, ◌++◌, Option, Some, None, length, fold, is_some, inl, inr, refl, sym, subst, arith}
use Rattle.std.specs.Prelude.{not}
use Rattle.std.specs.List.{All, Contains, filter, list_all}
use Rattle.std.specs.Option.{option_map}
use Rattle.std.proofs.lemmas.Bool.{and_parts}
use Rattle.std.proofs.lemmas.List.Elements.{All-nil, All-cons, All-head, All-tail, All-append, All-filter, All-push, All-weaker, All-contains, All-contains_itself}
use Rattle.sg_base.specs.declared.scope.Scope.{Scope}
use Rattle.sg_base.specs.Scope.{is_scope, scope_cmp, scope_total}
use Rattle.sg_base.proofs.Scopes.{equal_scope}
use Rattle.sg_state.specs.Held.{put}
use Rattle.sg_state.proofs.OpenLists.{puts_hold}
use Rattle.sg_state.proofs.RisingLists.{Contains-put}
use Rattle.sg_base.proofs.Finite.{Contains-head, Contains-map, Contains-filter}
use Rattle.sg_query.specs.declared.answer.Answer.{Answer}
use Rattle.sg_query.specs.declared.answer.Answer.TheVariants.{Paths, TooMany as TooManyPaths}
use Rattle.sg_query.specs.declared.found.Found.{Found}
use Rattle.sg_query.specs.declared.query.Query.{Query}
use Rattle.sg_reading.specs.Reading.{done, AllAsked, and_then}
use Rattle.sg_reading.proofs.Asking.{any_ends, AllEnds-more, and_then-asked_where, and_then-ends}
use Rattle.jv_instance.specs.declared.access.Access.{Access}
use Rattle.jv_instance.specs.declared.access.Access.TheVariants.{Public, Protected, Package as PackageAccess, Private}
use Rattle.jv_instance.specs.declared.labels.TheConstants.{FIELD, METH, SELF, SIMP, PKGOF, ODI}
use Rattle.jv_instance.specs.declared.type_base.TypeBase.TheVariants.{Boolean, Char, Int, Long, Void}
use Rattle.jv_instance.specs.declared.datum.JavaDatum.{JavaDatum}
use Rattle.jv_instance.specs.declared.pred.JavaPred.{JavaPred}
use Rattle.jv_layout.specs.declared.place.Place.{Place}
use Rattle.jv_layout.specs.declared.place.Place.TheVariants.{Outside, Root, Unnamed, Package, File, Ty, Member, Signature}
use Rattle.jv_layout.specs.Fits.{fits, is_member_by, is_package, is_type}
use Rattle.jv_layout.specs.Folder.{LayoutOf}
use Rattle.jv_layout.specs.Laws.{IsScopeOf}
use Rattle.jv_layout.specs.Linked.{IsLinked, IsBelow}
use Rattle.jv_layout.specs.Readers.{no_member, no_type, access_of, file_at, file_of, is_interface_method_of, member_at, owner_at, owner_scope, object_scope, is_static_of, statics_of, type_at}
use Rattle.jv_layout.specs.Scopes.{place_of, root_scope, file_scope, type_scope}
use Rattle.jv_layout.proofs.SoundPlaces.{placed, scopes_have_places}
use Rattle.jv_tree.specs.declared.name.Ident.{Ident}
use Rattle.jv_tree.specs.declared.names.NameId.{NameId}
use Rattle.jv_tree.specs.DeclTree.{ImportTree}
use Rattle.jv_tree.specs.Numbered.{IsNumberedIdent, IsNumberedName, IsNumberedBase, IsNumberedType, IsNumberedImport}
use Rattle.jv_tree.specs.TypeTree.{BaseTree, boolean, char, int, long, void, named, TypeTree}
use Rattle.jv_names.specs.declared.context.Context.{Context}
use Rattle.jv_names.specs.declared.context.Context.TheVariants.{TypeName, SingleImport, OnDemandImport}
use Rattle.jv_names.specs.declared.counts.Counts.{Counts}
use Rattle.jv_names.specs.declared.counts.Counts.TheVariants.{OwnPackages, OwnTypes, MemberTypes, FileTypes, Fields, Methods}
use Rattle.jv_names.specs.declared.ends.Ends.{Ends}
use Rattle.jv_names.specs.declared.ends.Ends.TheVariants.{Scopes, TooMany as TooManyEnds}
use Rattle.jv_names.specs.declared.kinds.TheConstants.{SUBPKG, OWNTYPE, MEMTYPE, FILETYPE, FIELDS, METHODS}
use Rattle.jv_names.specs.declared.meaning.Meaning.{Meaning}
use Rattle.jv_names.specs.declared.meaning.Meaning.TheVariants.{One, Nothing, Ambiguous, TooMany}
use Rattle.jv_names.specs.declared.qualifier.Qualifier.{Qualifier}
use Rattle.jv_names.specs.declared.qualifier.Qualifier.TheVariants.{InPackage, InType}
use Rattle.jv_names.specs.declared.resolved.Resolved.{Resolved}
use Rattle.jv_names.specs.declared.static_kind.StaticKind.{StaticKind}
use Rattle.jv_names.specs.declared.static_kind.StaticKind.TheVariants.{Types, Fields as StaticFields, Methods as StaticMethods}
use Rattle.jv_names.specs.Access.{is_same_package, has_super, some_body, member_type_by, type_accessible_by, type_accessible, receiver_fits, body_fits, is_constructor, protected_elsewhere, member_accessible_by, member_accessible}
use Rattle.jv_names.specs.Bodies.{outward, header_bodies}
use Rattle.jv_names.specs.Bounds.{is_start, IsNameQuery, IsTypeScope, IsPackageScope, AreTypes, MeansOnly, EndsOnly, IsMemberScope, AllMethodsStayIn, FieldsStayIn, MembersAmongStayIn, MethodsStayIn, BodiesAreTypes, IsMeant, IsResolvedIn, IsReferenceIn, IsBaseIn, IsBroughtOf, IsNamedIn, IsWrittenIn, ReferencesStayIn, StaticsStayIn, TypeNamesStayIn, WrittenTypesStayIn, StaysIn}
use Rattle.jv_names.specs.Ends.{begins_with, path_end, is_sought, passes, is_counted, counted_ends, meaning_of, answer_meaning, answer_ends}
use Rattle.jv_names.specs.Members.{all_methods, field, find_ends, is_of_class, is_replaced, lies_below, members_among, members_from, methods, stands_for, with_members}
use Rattle.jv_names.specs.Names.{look_up, or_next, member_type, ended, on_one, last_meaning, type_part, package_type, subpackage, further_parts, from_root, import_context, import_name, import_rule, sought_ids, takes_packages}
use Rattle.jv_names.specs.Reference.{refused, reference}
use Rattle.jv_names.specs.Replies.{Rule, for_name}
use Rattle.jv_names.specs.Statics.{brought_by, brought_from, brought_of, import_brings, is_asked, is_brought, kind_brought, kind_members, static_members, statics_of_type, together}
use Rattle.jv_names.specs.TypeNames.{decided_or, ends_by, file_answer, file_type, not_a_type, on_demand_type, simple_type, single_type, type_name, with_statics}
use Rattle.jv_names.specs.Written.{last_name, without_last}
use Rattle.jv_names.specs.WrittenTypes.{meant_base, plain_written, named_written, written_base, written_type}

-- ---- places

pub type_starts : (p : Place) → IsTrue (is_type p) → IsTrue (is_start p)
type_starts Outside h = h
type_starts Root h = refl
type_starts Unnamed h = refl
type_starts (Package p) h = refl
type_starts (File f) h = refl
type_starts (Ty t) h = refl
type_starts (Member m) h = h
type_starts (Signature m) h = h

pub package_starts : (p : Place) → IsTrue (is_package p) → IsTrue (is_start p)
package_starts Outside h = h
package_starts Root h = refl
package_starts Unnamed h = refl
package_starts (Package p) h = refl
package_starts (File f) h = refl
package_starts (Ty t) h = refl
package_starts (Member m) h = h
package_starts (Signature m) h = h

module _ (l : LayoutOf) where
  -- the scope for a row of a file and of a type
  pub file_starts : (f : ℕ) → f < length l.files → IsTrue (is_start (place_of l (file_scope l f)))
  file_starts f h = subst (λ (p : Place). IsTrue (is_start p)) (sym ((scopes_have_places l (file_scope l f) (File f)).1 (h, refl))) refl

  pub row_is_type : (t : ℕ) → t < length l.types → IsTypeScope l (type_scope l t)
  row_is_type t h = subst (λ (p : Place). IsTrue (is_type p)) (sym ((scopes_have_places l (type_scope l t) (Ty t)).1 (h, refl))) refl

  -- what holds of the place of each row of a type holds of a type's place
  type_at_place : (P : Place → Type 0) → ((t : ℕ) → t < length l.types → P (Ty t)) → (p : Place) (s : Scope) → IsTrue (is_type p) → IsScopeOf l p s → P p
  type_at_place P h (Ty t) s k at = h t at.0
  type_at_place P h Outside s k at = let e : false ≡ true = k in absurd (cc)
  type_at_place P h Root s k at = let e : false ≡ true = k in absurd (cc)
  type_at_place P h Unnamed s k at = let e : false ≡ true = k in absurd (cc)
  type_at_place P h (Package p) s k at = let e : false ≡ true = k in absurd (cc)
  type_at_place P h (File f) s k at = let e : false ≡ true = k in absurd (cc)
  type_at_place P h (Member m) s k at = let e : false ≡ true = k in absurd (cc)
  type_at_place P h (Signature m) s k at = let e : false ≡ true = k in absurd (cc)

  pub type_place : (P : Place → Type 0) → ((t : ℕ) → t < length l.types → P (Ty t)) → (s : Scope) → IsTypeScope l s → P (place_of l s)
  type_place P h s k = type_at_place P h (place_of l s) s k (placed l s)

  -- where there is a type, the first row is one
  pub object_is_type : (s : Scope) → IsTypeScope l s → IsTypeScope l (object_scope l)
  object_is_type s k = type_place (λ p. IsTypeScope l (object_scope l)) (λ t h. row_is_type 0 (omega (arith, h))) s k

  -- what holds of the place of each row of a member holds of a member's place
  member_at_row : (label : ℕ) (P : Place → Type 0) → ((m : ℕ) → m < length l.members → P (Member m)) → (p : Place) (s : Scope) → IsTrue (is_member_by l label p) → IsScopeOf l p s → P p
  member_at_row label P h (Member m) s k at = h m at.0
  member_at_row label P h Outside s k at = let e : false ≡ true = k in absurd (cc)
  member_at_row label P h Root s k at = let e : false ≡ true = k in absurd (cc)
  member_at_row label P h Unnamed s k at = let e : false ≡ true = k in absurd (cc)
  member_at_row label P h (Package p) s k at = let e : false ≡ true = k in absurd (cc)
  member_at_row label P h (File f) s k at = let e : false ≡ true = k in absurd (cc)
  member_at_row label P h (Ty t) s k at = let e : false ≡ true = k in absurd (cc)
  member_at_row label P h (Signature m) s k at = let e : false ≡ true = k in absurd (cc)

  module _ (linked : IsLinked l) where
    owner_row : (o : Option ℕ) → IsBelow (length l.types) o → IfSome (option_map (type_scope l) o) (IsTypeScope l)
    owner_row None h = tt
    owner_row (Some t) h = row_is_type t h

    -- a type stands in the body of a type or in none, and in a file of the layout
    pub owner_is_type : (s : Scope) → IsTypeScope l s → IfSome (owner_scope l s) (IsTypeScope l)
    owner_is_type s k = type_place (λ p. IfSome (owner_at l p) (IsTypeScope l)) (λ t h. owner_row (type_at l t).owner (linked.owners t no_type h)) s k

    -- a method stands in the body of a type
    pub owner_of_member : (s : Scope) → IsMemberScope l METH s → IfSome (owner_scope l s) (IsTypeScope l)
    owner_of_member s k =
        member_at_row METH (λ p. IfSome (owner_at l p) (IsTypeScope l)) (λ m h. row_is_type (member_at l m).owner (linked.members m no_member h)) (place_of l s) s k (placed l s)

    pub file_is_one : (s : Scope) → IsTypeScope l s → file_of l s < length l.files
    file_is_one s k = type_place (λ p. file_at l p < length l.files) (λ t h. linked.type_files t no_type h) s k

    pub outward_types : (n : ℕ) (o : Option Scope) → IfSome o (IsTypeScope l) → AreTypes l (outward l n o)
    outward_types zero o h = All-nil (IsTypeScope l)
    outward_types (suc n) None h = All-nil (IsTypeScope l)
    outward_types (suc n) (Some s) h = All-cons (IsTypeScope l) s (outward l n (owner_scope l s)) h (outward_types n (owner_scope l s) (owner_is_type s h))

    -- the bodies around a type's header are types
    pub header_bodies_types : (c : Scope) → IsTypeScope l c → AreTypes l (header_bodies l c)
    header_bodies_types c h = outward_types (length l.types) (owner_scope l c) (owner_is_type c h)

-- ---- what answers tell

module _ (l : LayoutOf) (c : Counts) where
  -- a scope is what is looked for
  abbrev pub IsSought : Scope → Type 0
  IsSought s = IsTrue (is_sought l c (place_of l s))

  pub counted_end : (fs : List (Found JavaDatum)) (s : Scope) → Contains (counted_ends l c fs) s → IsSought s
  counted_end fs s k =
      let h : (f : Found JavaDatum) × Contains (filter (is_counted l c) fs) f × (s ≡ path_end f.path) = Contains-map (λ (f : Found JavaDatum). path_end f.path) (filter (is_counted l c) fs) s k in
      let counted : is_counted l c h.0 ≡ true = (Contains-filter (is_counted l c) fs h.0 h.1).1 in
      subst IsSought (sym h.2) (and_parts (is_sought l c (place_of l (path_end h.0.path))) (passes l c h.0.path) (and_parts (fits l h.0.path) _ counted).1).0

  meaning_among : (P : Scope → Type 0) (es : List Scope) → ((s : Scope) → Contains es s → P s) → MeansOnly P (meaning_of es)
  meaning_among P [] h = tt
  meaning_among P (e ∷ es) h = elim (list_all (is_scope e) es) as (λ (b : Bool). MeansOnly P (cond b (One e) Ambiguous)) [
    | true ↦ h e (Contains-head e es)
    | false ↦ tt
  ]

  -- where an answer means one scope, it is what was looked for
  pub answer_sought : (a : Answer JavaDatum) → MeansOnly IsSought (answer_meaning l c a)
  answer_sought (Paths fs) = meaning_among IsSought (counted_ends l c fs) (counted_end fs)
  answer_sought TooManyPaths = tt

  -- the ends by an answer are what was looked for
  pub answer_ends_sought : (a : Answer JavaDatum) → EndsOnly IsSought (answer_ends l c a)
  answer_ends_sought (Paths fs) =
      All-weaker (Contains (fold (put scope_cmp) [] (counted_ends l c fs))) IsSought (λ s k. counted_end fs s ((puts_hold scope_cmp scope_total equal_scope (counted_ends l c fs) s).0 k)) (fold (put scope_cmp) [] (counted_ends l c fs)) (All-contains_itself (fold (put scope_cmp) [] (counted_ends l c fs)))
  answer_ends_sought TooManyPaths = tt

-- a set with one more scope of a kind has scopes of that kind alone
all_put : (P : Scope → Type 0) (xs : List Scope) (s : Scope) → All P xs → P s → All P (put scope_cmp xs s)
all_put P xs s h k =
    All-weaker (Contains (put scope_cmp xs s)) P
    (λ t there. elim ((Contains-put scope_cmp scope_total xs s (λ y c e. equal_scope s y e) t).0 there) [ inl c ↦ All-contains P xs t h c | inr e ↦ subst P (sym e) k ])
    (put scope_cmp xs s) (All-contains_itself (put scope_cmp xs s))

-- ---- rules in turn

module _ (l : LayoutOf) (count : ℕ) where
  pub then_stays : {U W : Type 0} (E : U → Type 0) (F : W → Type 0) (r : Rule U) (f : U → Rule W) → StaysIn l count E r → ((v : U) → E v → StaysIn l count F (f v)) → StaysIn l count F (and_then r f)
  then_stays E F r f h k = record {
    asks = and_then-asked_where (IsNameQuery l count) E r f h.asks h.ends (λ v e. (k v e).asks);
    ends = and_then-ends E F r f h.ends (λ v e. (k v e).ends);
  }

  pub done_stays : {U : Type 0} (E : U → Type 0) (v : U) → E v → StaysIn l count E (done v)
  done_stays E v h = record { asks = tt; ends = h }

  -- the values may be of a wider kind
  pub stays_wider : {U : Type 0} (E F : U → Type 0) (r : Rule U) → ((v : U) → E v → F v) → StaysIn l count E r → StaysIn l count F r
  stays_wider E F r f h = record { asks = h.asks; ends = AllEnds-more E F r f h.ends }

  -- ---- one query

  look_up_stays : (c : Counts) (q : Query JavaPred) → IsNameQuery l count q → StaysIn l count (MeansOnly (IsSought l c)) (look_up l c q)
  unfolding look_up
  look_up_stays c q h = record { asks = (h, λ a. tt); ends = answer_sought l c }

  find_ends_stays : (c : Counts) (q : Query JavaPred) → IsNameQuery l count q → StaysIn l count (EndsOnly (IsSought l c)) (find_ends l c q)
  unfolding find_ends
  find_ends_stays c q h = record { asks = (h, λ a. tt); ends = answer_ends_sought l c }

  has_super_asks : (above sub : Scope) → IsTypeScope l sub → AllAsked (IsNameQuery l count) (has_super l above sub)
  unfolding has_super
  has_super_asks above sub h = (record { start = type_starts (place_of l sub) h; kind = omega arith; plain = λ e. omega (arith, e); pred = tt }, λ a. tt)

  module _ (n : NameId) (numbered : n.0 < count) where
    pub member_type_stays : (t : Scope) → IsTypeScope l t → StaysIn l count (MeansOnly (IsTypeScope l)) (member_type l t n)
    member_type_stays t h = look_up_stays MemberTypes (for_name MEMTYPE t n) (record { start = type_starts (place_of l t) h; kind = omega arith; plain = λ e. omega (arith, e); pred = numbered })

    own_type_stays : (s : Scope) → IsTrue (is_start (place_of l s)) → StaysIn l count (MeansOnly (IsTypeScope l)) (look_up l OwnTypes (for_name OWNTYPE s n))
    own_type_stays s h = look_up_stays OwnTypes (for_name OWNTYPE s n) (record { start = h; kind = omega arith; plain = λ e. omega (arith, e); pred = numbered })

    pub type_part_stays : (context : Context) (t : Scope) → IsTypeScope l t → StaysIn l count (MeansOnly (IsTypeScope l)) (type_part l context t n)
    type_part_stays TypeName t h = member_type_stays t h
    type_part_stays SingleImport t h = own_type_stays t (type_starts (place_of l t) h)
    type_part_stays OnDemandImport t h = own_type_stays t (type_starts (place_of l t) h)

    pub package_type_stays : (p : Scope) → IsPackageScope l p → StaysIn l count (MeansOnly (IsTypeScope l)) (package_type l p n)
    package_type_stays p h = own_type_stays p (package_starts (place_of l p) h)

    pub subpackage_stays : (p : Scope) → IsTrue (is_start (place_of l p)) → StaysIn l count (MeansOnly (IsPackageScope l)) (subpackage l p n)
    subpackage_stays p h = look_up_stays OwnPackages (for_name SUBPKG p n) (record { start = h; kind = omega arith; plain = λ e. omega (arith, e); pred = numbered })

    -- ---- members

    pub field_stays : (class : Scope) → IsTypeScope l class → StaysIn l count (MeansOnly (IsMemberScope l FIELD)) (field l class n)
    field_stays class h = look_up_stays Fields (for_name FIELDS class n) (record { start = type_starts (place_of l class) h; kind = omega arith; plain = λ e. omega (arith, e); pred = numbered })

    all_methods_start : (s : Scope) → IsTrue (is_start (place_of l s)) → StaysIn l count (EndsOnly (IsMemberScope l METH)) (all_methods l s n)
    all_methods_start s h = find_ends_stays Methods (for_name METHODS s n) (record { start = h; kind = omega arith; plain = λ e. omega (arith, e); pred = numbered })

    pub all_methods_stay : (class : Scope) → IsTypeScope l class → StaysIn l count (EndsOnly (IsMemberScope l METH)) (all_methods l class n)
    all_methods_stay class h = all_methods_start class (type_starts (place_of l class) h)

  -- ---- names with dots

  module _ (context : Context) where
    ended_stays : (m : Meaning) (types : List Scope) → MeansOnly (IsMeant l context) m → AreTypes l types → StaysIn l count (IsResolvedIn l context) (ended m types)
    ended_stays m types h k = done_stays (IsResolvedIn l context) (record { meaning = m; types = types }) (record { meaning = h; types = k })

    on_one_stays : (P : Scope → Type 0) (m : Meaning) (types : List Scope) (found : Scope → Rule Resolved) (next : Rule Resolved) → MeansOnly P m → AreTypes l types
        → ((s : Scope) → P s → StaysIn l count (IsResolvedIn l context) (found s)) → StaysIn l count (IsResolvedIn l context) next → StaysIn l count (IsResolvedIn l context) (on_one m types found next)
    on_one_stays P (One s) types found next h k f g = f s h
    on_one_stays P Nothing types found next h k f g = g
    on_one_stays P Ambiguous types found next h k f g = ended_stays Ambiguous types tt k
    on_one_stays P TooMany types found next h k f g = ended_stays TooMany types tt k

  type_is_meant : (context : Context) (s : Scope) → IsTypeScope l s → IsMeant l context s
  type_is_meant TypeName s h = h
  type_is_meant SingleImport s h = h
  type_is_meant OnDemandImport s h = inl h

  -- what the parts so far mean is a type or a package of the layout
  abbrev pub IsQualifierIn : Qualifier → Type 0
  IsQualifierIn (InType t) = IsTypeScope l t
  IsQualifierIn (InPackage p) = IsPackageScope l p

  last_is_meant : (context : Context) (at : Qualifier) → IsQualifierIn at → MeansOnly (IsMeant l context) (last_meaning context at)
  last_is_meant context (InType t) h = type_is_meant context t h
  last_is_meant TypeName (InPackage p) h = tt
  last_is_meant SingleImport (InPackage p) h = tt
  last_is_meant OnDemandImport (InPackage p) h = inr h

  pub further_parts_stay : (context : Context) (at : Qualifier) (types : List Scope) (ids : List Ident) → IsQualifierIn at → AreTypes l types → IsNumberedName count ids → StaysIn l count (IsResolvedIn l context) (further_parts l context at types ids)
  further_parts_stay context at types [] h k numbered = ended_stays context (last_meaning context at) types (last_is_meant context at h) k
  further_parts_stay context (InType t) types (n ∷ ns) h k numbered =
      then_stays (MeansOnly (IsTypeScope l)) (IsResolvedIn l context) (type_part l context t n.id) (λ m. on_one m types (λ s. further_parts l context (InType s) (types ++ s ∷ []) ns) (ended Nothing types)) (type_part_stays n.id (All-head (IsNumberedIdent count) n ns numbered) context t h)
      (λ m means. on_one_stays context (IsTypeScope l) m types (λ s. further_parts l context (InType s) (types ++ s ∷ []) ns) (ended Nothing types) means k
      (λ s is. further_parts_stay context (InType s) (types ++ s ∷ []) ns is (All-push (IsTypeScope l) types s k is) (All-tail (IsNumberedIdent count) n ns numbered))
      (ended_stays context Nothing types tt k))
  further_parts_stay context (InPackage p) types (n ∷ ns) h k numbered =
      then_stays (MeansOnly (IsTypeScope l)) (IsResolvedIn l context) (package_type l p n.id) (λ m. on_one m types (λ s. further_parts l context (InType s) (types ++ s ∷ []) ns) (and_then (subpackage l p n.id) (λ k. on_one k types (λ q. further_parts l context (InPackage q) types ns) (ended Nothing types)))) (package_type_stays n.id (All-head (IsNumberedIdent count) n ns numbered) p h)
      (λ m means. on_one_stays context (IsTypeScope l) m types (λ s. further_parts l context (InType s) (types ++ s ∷ []) ns) (and_then (subpackage l p n.id) (λ k. on_one k types (λ q. further_parts l context (InPackage q) types ns) (ended Nothing types))) means k
      (λ s is. further_parts_stay context (InType s) (types ++ s ∷ []) ns is (All-push (IsTypeScope l) types s k is) (All-tail (IsNumberedIdent count) n ns numbered))
      (then_stays (MeansOnly (IsPackageScope l)) (IsResolvedIn l context) (subpackage l p n.id) (λ k. on_one k types (λ q. further_parts l context (InPackage q) types ns) (ended Nothing types)) (subpackage_stays n.id (All-head (IsNumberedIdent count) n ns numbered) p (package_starts (place_of l p) h))
      (λ m means. on_one_stays context (IsPackageScope l) m types (λ q. further_parts l context (InPackage q) types ns) (ended Nothing types) means k
      (λ q is. further_parts_stay context (InPackage q) types ns is k (All-tail (IsNumberedIdent count) n ns numbered))
      (ended_stays context Nothing types tt k))))

  pub from_root_stays : (context : Context) (n : Ident) (ns : List Ident) → IsNumberedName count (n ∷ ns) → StaysIn l count (IsResolvedIn l context) (from_root l context n ns)
  from_root_stays context n ns numbered =
      then_stays (MeansOnly (IsPackageScope l)) (IsResolvedIn l context) (subpackage l root_scope n.id) (λ k. on_one k [] (λ q. further_parts l context (InPackage q) [] ns) (ended Nothing [])) (subpackage_stays n.id (All-head (IsNumberedIdent count) n ns numbered) root_scope refl)
      (λ m means. on_one_stays context (IsPackageScope l) m [] (λ q. further_parts l context (InPackage q) [] ns) (ended Nothing []) means (All-nil (IsTypeScope l))
      (λ q is. further_parts_stay context (InPackage q) [] ns is (All-nil (IsTypeScope l)) (All-tail (IsNumberedIdent count) n ns numbered))
      (ended_stays context Nothing [] tt (All-nil (IsTypeScope l))))

  pub import_name_stays : (all : Bool) (ids : List Ident) → IsNumberedName count ids → StaysIn l count (IsResolvedIn l (import_context all)) (import_name l all ids)
  import_name_stays all [] numbered = ended_stays (import_context all) Nothing [] tt (All-nil (IsTypeScope l))
  import_name_stays all (n ∷ ns) numbered = from_root_stays (import_context all) n ns numbered

  pub without_last_numbered : (ids : List Ident) → IsNumberedName count ids → IsNumberedName count (without_last ids)
  without_last_numbered [] numbered = All-nil (IsNumberedIdent count)
  without_last_numbered (i ∷ []) numbered = All-nil (IsNumberedIdent count)
  without_last_numbered (i ∷ j ∷ is) numbered =
      All-cons (IsNumberedIdent count) i (without_last (j ∷ is)) (All-head (IsNumberedIdent count) i (j ∷ is) numbered) (without_last_numbered (j ∷ is) (All-tail (IsNumberedIdent count) i (j ∷ is) numbered))

  pub last_numbered : (ids : List Ident) → 0 < length ids → IsNumberedName count ids → (last_name ids).0 < count
  last_numbered [] some numbered = absurd (omega arith)
  last_numbered (i ∷ []) some numbered = All-head (IsNumberedIdent count) i [] numbered
  last_numbered (i ∷ j ∷ is) some numbered = last_numbered (j ∷ is) (omega arith) (All-tail (IsNumberedIdent count) i (j ∷ is) numbered)

  -- what an import means
  pub import_rule_stays : (i : ImportTree) → IsNumberedImport count i → StaysIn l count (IsResolvedIn l (import_context (takes_packages i))) (import_rule l i)
  import_rule_stays i numbered =
      import_name_stays (takes_packages i) (sought_ids i)
      (elim (i.is_static && not i.all) as (λ (b : Bool). IsNumberedName count (cond b (without_last i.name) i.name)) [ true ↦ without_last_numbered i.name numbered | false ↦ numbered ])

  -- ---- access

  some_body_asks : (P : Scope → Type 0) (f : Scope → Rule Bool) → ((b : Scope) → P b → AllAsked (IsNameQuery l count) (f b)) → (bodies : List Scope) → All P bodies → AllAsked (IsNameQuery l count) (some_body f bodies)
  some_body_asks P f h [] around = tt
  some_body_asks P f h (b ∷ bs) around =
      and_then-asked_where (IsNameQuery l count) (λ v. Unit {0}) (f b) (λ found. cond found (done true) (some_body f bs)) (h b (All-head P b bs around)) (any_ends (f b))
      (λ v u. elim v as (λ (v : Bool). AllAsked (IsNameQuery l count) (cond v (done true) (some_body f bs))) [ true ↦ tt | false ↦ some_body_asks P f h bs (All-tail P b bs around) ])

  member_type_asks : (file : ℕ) (bodies : List Scope) (t d : Scope) (access : Access) → AreTypes l bodies → AllAsked (IsNameQuery l count) (member_type_by l file bodies t d access)
  member_type_asks file bodies t d Public around = tt
  member_type_asks file bodies t d Private around = tt
  member_type_asks file bodies t d PackageAccess around = tt
  member_type_asks file bodies t d Protected around =
      elim (is_same_package l file t) as (λ (b : Bool). AllAsked (IsNameQuery l count) (cond b (done true) (some_body (has_super l d) bodies))) [ true ↦ tt | false ↦ some_body_asks (IsTypeScope l) (has_super l d) (has_super_asks d) bodies around ]

  accessible_asks : (file : ℕ) (bodies : List Scope) (t : Scope) (o : Option Scope) → AreTypes l bodies → AllAsked (IsNameQuery l count) (type_accessible_by l file bodies t o)
  accessible_asks file bodies t None around = tt
  accessible_asks file bodies t (Some d) around = member_type_asks file bodies t d (access_of l t) around

  pub type_accessible_stays : (file : ℕ) (bodies : List Scope) (t : Scope) → AreTypes l bodies → StaysIn l count (λ (b : Bool). Unit {0}) (type_accessible l file bodies t)
  type_accessible_stays file bodies t around = record { asks = accessible_asks file bodies t (owner_scope l t) around; ends = any_ends (type_accessible l file bodies t) }

  receiver_asks : (m b : Scope) (through : Option Scope) → IfSome through (IsTypeScope l) → AllAsked (IsNameQuery l count) (receiver_fits l m b through)
  receiver_asks m b None h = tt
  receiver_asks m b (Some r) h = elim (is_static_of l m) as (λ (s : Bool). AllAsked (IsNameQuery l count) (cond s (done true) (has_super l b r))) [ true ↦ tt | false ↦ has_super_asks b r h ]

  body_fits_asks : (m d : Scope) (through : Option Scope) → IfSome through (IsTypeScope l) → (b : Scope) → IsTypeScope l b → AllAsked (IsNameQuery l count) (body_fits l m d through b)
  unfolding body_fits
  body_fits_asks m d through h b k =
      and_then-asked_where (IsNameQuery l count) (λ v. Unit {0}) (has_super l d b) (λ found. cond found (receiver_fits l m b through) (done false)) (has_super_asks d b k) (any_ends (has_super l d b))
      (λ v u. elim v as (λ (v : Bool). AllAsked (IsNameQuery l count) (cond v (receiver_fits l m b through) (done false))) [ true ↦ receiver_asks m b through h | false ↦ tt ])

  elsewhere_asks : (bodies : List Scope) (m : Scope) (through o : Option Scope) → AreTypes l bodies → IfSome through (IsTypeScope l) → AllAsked (IsNameQuery l count) (protected_elsewhere l bodies m through o)
  elsewhere_asks bodies m through None around h = tt
  elsewhere_asks bodies m through (Some d) around h =
      elim (is_constructor l m && is_some through) as (λ (b : Bool). AllAsked (IsNameQuery l count) (cond b (done false) (some_body (body_fits l m d through) bodies))) [
        | true ↦ tt
        | false ↦ some_body_asks (IsTypeScope l) (body_fits l m d through) (body_fits_asks m d through h) bodies around
      ]

  member_asks : (file : ℕ) (bodies : List Scope) (m : Scope) (through : Option Scope) (access : Access) → AreTypes l bodies → IfSome through (IsTypeScope l) → AllAsked (IsNameQuery l count) (member_accessible_by l file bodies m through access)
  member_asks file bodies m through Public around h = tt
  member_asks file bodies m through Private around h = tt
  member_asks file bodies m through PackageAccess around h = tt
  member_asks file bodies m through Protected around h =
      elim (is_same_package l file m) as (λ (b : Bool). AllAsked (IsNameQuery l count) (cond b (done true) (protected_elsewhere l bodies m through (owner_scope l m)))) [ true ↦ tt | false ↦ elsewhere_asks bodies m through (owner_scope l m) around h ]

  pub member_accessible_stays : (file : ℕ) (bodies : List Scope) (m : Scope) (through : Option Scope) → AreTypes l bodies → IfSome through (IsTypeScope l) → StaysIn l count (λ (b : Bool). Unit {0}) (member_accessible l file bodies m through)
  member_accessible_stays file bodies m through around h = record { asks = member_asks file bodies m through (access_of l m) around h; ends = any_ends (member_accessible l file bodies m through) }

  -- ---- members among methods

  lies_below_asks : (above below : Option Scope) → IfSome below (IsTypeScope l) → AllAsked (IsNameQuery l count) (lies_below l above below)
  lies_below_asks None below h = tt
  lies_below_asks (Some j) None h = tt
  lies_below_asks (Some j) (Some d) h = elim (is_scope j d) as (λ (b : Bool). AllAsked (IsNameQuery l count) (cond b (done false) (has_super l j d))) [ true ↦ tt | false ↦ has_super_asks j d h ]

  module _ (linked : IsLinked l) where
    stands_for_asks : (m k : Scope) → IsMemberScope l METH k → AllAsked (IsNameQuery l count) (stands_for l m k)
    unfolding stands_for
    stands_for_asks m k h =
        elim (is_scope m k || is_static_of l k) as (λ (b : Bool). AllAsked (IsNameQuery l count) (cond b (done false) (cond (is_of_class l k) (done true) (lies_below l (owner_scope l m) (owner_scope l k))))) [
          | true ↦ tt
          | false ↦ elim (is_of_class l k) as (λ (b : Bool). AllAsked (IsNameQuery l count) (cond b (done true) (lies_below l (owner_scope l m) (owner_scope l k)))) [
            | true ↦ tt
            | false ↦ lies_below_asks (owner_scope l m) (owner_scope l k) (owner_of_member l linked k h)
          ]
        ]

    replaced_asks : (all : List Scope) → All (IsMemberScope l METH) all → (m : Scope) → AllAsked (IsNameQuery l count) (is_replaced l all m)
    replaced_asks all are m =
        elim (is_interface_method_of l m) as (λ (b : Bool). AllAsked (IsNameQuery l count) (cond b (some_body (stands_for l m) all) (done false))) [
          | true ↦ some_body_asks (IsMemberScope l METH) (stands_for l m) (stands_for_asks m) all are
          | false ↦ tt
        ]

    members_from_stay : (all kept ms : List Scope) → All (IsMemberScope l METH) all → All (IsMemberScope l METH) kept → All (IsMemberScope l METH) ms → StaysIn l count (All (IsMemberScope l METH)) (members_from l all kept ms)
    members_from_stay all kept [] are h k = done_stays (All (IsMemberScope l METH)) kept h
    members_from_stay all kept (m ∷ ms) are h k =
        then_stays (λ (b : Bool). Unit {0}) (All (IsMemberScope l METH)) (is_replaced l all m) (λ gone. members_from l all (cond gone kept (put scope_cmp kept m)) ms) (record { asks = replaced_asks all are m; ends = any_ends (is_replaced l all m) })
        (λ gone u. members_from_stay all (cond gone kept (put scope_cmp kept m)) ms are
        (elim gone as (λ (gone : Bool). All (IsMemberScope l METH) (cond gone kept (put scope_cmp kept m))) [ true ↦ h | false ↦ all_put (IsMemberScope l METH) kept m h (All-head (IsMemberScope l METH) m ms k) ])
        (All-tail (IsMemberScope l METH) m ms k))

    -- the members among methods are methods
    pub members_among_stay : (ms : List Scope) → All (IsMemberScope l METH) ms → StaysIn l count (All (IsMemberScope l METH)) (members_among l ms)
    unfolding members_among
    members_among_stay ms are = members_from_stay ms [] ms are (All-nil (IsMemberScope l METH)) are

    with_members_stay : (ends : Ends) → EndsOnly (IsMemberScope l METH) ends → StaysIn l count (EndsOnly (IsMemberScope l METH)) (with_members l ends)
    with_members_stay TooManyEnds h = done_stays (EndsOnly (IsMemberScope l METH)) TooManyEnds tt
    with_members_stay (Scopes ms) h =
        then_stays (All (IsMemberScope l METH)) (EndsOnly (IsMemberScope l METH)) (members_among l ms) (λ ks. done (Scopes ks)) (members_among_stay ms h) (λ ks are. done_stays (EndsOnly (IsMemberScope l METH)) (Scopes ks) are)

    methods_start : (n : NameId) → n.0 < count → (s : Scope) → IsTrue (is_start (place_of l s)) → StaysIn l count (EndsOnly (IsMemberScope l METH)) (methods l s n)
    methods_start n numbered s h =
        then_stays (EndsOnly (IsMemberScope l METH)) (EndsOnly (IsMemberScope l METH)) (all_methods l s n) (with_members l) (all_methods_start n numbered s h) with_members_stay

    pub methods_stay : (n : NameId) → n.0 < count → (class : Scope) → IsTypeScope l class → StaysIn l count (EndsOnly (IsMemberScope l METH)) (methods l class n)
    methods_stay n numbered class h = methods_start n numbered class (type_starts (place_of l class) h)

  -- ---- static imports

  all_puts : (P : Scope → Type 0) (xs ys : List Scope) → All P xs → All P ys → All P (fold (put scope_cmp) xs ys)
  all_puts P xs [] h k = h
  all_puts P xs (y ∷ ys) h k = all_puts P (put scope_cmp xs y) ys (all_put P xs y h (All-head P y ys k)) (All-tail P y ys k)

  brought_only : (P : Scope → Type 0) (file : ℕ) (e : Ends) → EndsOnly P e → EndsOnly P (brought_of l file e)
  brought_only P file (Scopes ms) h = all_puts P [] (filter (is_brought l file) ms) (All-nil P) (All-filter (is_brought l file) P ms h)
  brought_only P file TooManyEnds h = tt

  together_only : (P : Scope → Type 0) (a b : Ends) → EndsOnly P a → EndsOnly P b → EndsOnly P (together a b)
  together_only P (Scopes ms) (Scopes ks) h k = all_puts P ms ks h k
  together_only P (Scopes ms) TooManyEnds h k = tt
  together_only P TooManyEnds e h k = tt

  -- what a name means is a scope from which names are looked up
  meant_starts : (context : Context) (s : Scope) → IsMeant l context s → IsTrue (is_start (place_of l s))
  meant_starts TypeName s h = type_starts (place_of l s) h
  meant_starts SingleImport s h = type_starts (place_of l s) h
  meant_starts OnDemandImport s (inl h) = type_starts (place_of l s) h
  meant_starts OnDemandImport s (inr h) = package_starts (place_of l s) h

  module _ (linked : IsLinked l) (file : ℕ) (n : NameId) (numbered : n.0 < count) where
    kind_members_stay : (k : StaticKind) (t : Scope) → IsTrue (is_start (place_of l t)) → StaysIn l count (EndsOnly (IsBroughtOf l k)) (kind_members l k t n)
    kind_members_stay Types t h = find_ends_stays MemberTypes (for_name MEMTYPE t n) (record { start = h; kind = omega arith; plain = λ e. omega (arith, e); pred = numbered })
    kind_members_stay StaticFields t h = find_ends_stays Fields (for_name FIELDS t n) (record { start = h; kind = omega arith; plain = λ e. omega (arith, e); pred = numbered })
    kind_members_stay StaticMethods t h = methods_start linked n numbered t h

    kind_brought_stays : (k : StaticKind) (t : Scope) → IsTrue (is_start (place_of l t)) → StaysIn l count (EndsOnly (IsBroughtOf l k)) (kind_brought l file k t n)
    unfolding kind_brought
    kind_brought_stays k t h =
        then_stays (EndsOnly (IsBroughtOf l k)) (EndsOnly (IsBroughtOf l k)) (kind_members l k t n) (λ e. done (brought_of l file e)) (kind_members_stay k t h)
        (λ e only. done_stays (EndsOnly (IsBroughtOf l k)) (brought_of l file e) (brought_only (IsBroughtOf l k) file e only))

    brought_by_stays : (k : StaticKind) (context : Context) (m : Meaning) → MeansOnly (IsMeant l context) m → StaysIn l count (EndsOnly (IsBroughtOf l k)) (brought_by l file k n m)
    brought_by_stays k context (One t) h = kind_brought_stays k t (meant_starts context t h)
    brought_by_stays k context Nothing h = done_stays (EndsOnly (IsBroughtOf l k)) (Scopes []) (All-nil (IsBroughtOf l k))
    brought_by_stays k context Ambiguous h = done_stays (EndsOnly (IsBroughtOf l k)) (Scopes []) (All-nil (IsBroughtOf l k))
    brought_by_stays k context TooMany h = done_stays (EndsOnly (IsBroughtOf l k)) TooManyEnds tt

    import_brings_stays : (k : StaticKind) (i : ImportTree) → IsNumberedImport count i → StaysIn l count (EndsOnly (IsBroughtOf l k)) (import_brings l file k n i)
    unfolding import_brings
    import_brings_stays k i h =
        then_stays (IsResolvedIn l (import_context (takes_packages i))) (EndsOnly (IsBroughtOf l k)) (import_rule l i) (λ r. brought_by l file k n r.meaning) (import_rule_stays i h)
        (λ r is. brought_by_stays k (import_context (takes_packages i)) r.meaning is.meaning)

    brought_from_stay : (all : Bool) (k : StaticKind) (found : Ends) (is : List ImportTree) → EndsOnly (IsBroughtOf l k) found → All (IsNumberedImport count) is → StaysIn l count (EndsOnly (IsBroughtOf l k)) (brought_from l file all k n found is)
    brought_from_stay all k found [] h g = done_stays (EndsOnly (IsBroughtOf l k)) found h
    brought_from_stay all k found (i ∷ is) h g =
        elim (is_asked all n i) as (λ (b : Bool). StaysIn l count (EndsOnly (IsBroughtOf l k)) (cond b (and_then (import_brings l file k n i) (λ e. brought_from l file all k n (together found e) is)) (brought_from l file all k n found is))) [
          | true ↦ then_stays (EndsOnly (IsBroughtOf l k)) (EndsOnly (IsBroughtOf l k)) (import_brings l file k n i) (λ e. brought_from l file all k n (together found e) is) (import_brings_stays k i (All-head (IsNumberedImport count) i is g))
              (λ e only. brought_from_stay all k (together found e) is (together_only (IsBroughtOf l k) found e h only) (All-tail (IsNumberedImport count) i is g))
          | false ↦ brought_from_stay all k found is h (All-tail (IsNumberedImport count) i is g)
        ]

    -- all that one type brings of a name
    pub statics_of_type_stay : (t : Scope) → IsTrue (is_start (place_of l t)) → StaysIn l count (λ (e : Ends). Unit {0}) (statics_of_type l file t n)
    unfolding statics_of_type
    statics_of_type_stay t h =
        then_stays (EndsOnly (IsBroughtOf l Types)) (λ (e : Ends). Unit {0}) (kind_brought l file Types t n)
        (λ a. and_then (kind_brought l file StaticFields t n) (λ b. and_then (kind_brought l file StaticMethods t n) (λ c. done (together (together a b) c)))) (kind_brought_stays Types t h)
        (λ a only. then_stays (EndsOnly (IsBroughtOf l StaticFields)) (λ (e : Ends). Unit {0}) (kind_brought l file StaticFields t n)
        (λ b. and_then (kind_brought l file StaticMethods t n) (λ c. done (together (together a b) c))) (kind_brought_stays StaticFields t h)
        (λ b only. then_stays (EndsOnly (IsBroughtOf l StaticMethods)) (λ (e : Ends). Unit {0}) (kind_brought l file StaticMethods t n)
        (λ c. done (together (together a b) c)) (kind_brought_stays StaticMethods t h)
        (λ c only. done_stays (λ (e : Ends). Unit {0}) (together (together a b) c) tt)))

  -- ---- types that a file sees

  file_end : (label : ℕ) (fs : List (Found JavaDatum)) (s : Scope) → Contains (ends_by l label fs) s → IsTypeScope l s
  file_end label fs s k =
      let test = λ (f : Found JavaDatum). is_counted l FileTypes f && begins_with label f.path.steps in
      let h : (f : Found JavaDatum) × Contains (filter test fs) f × (s ≡ path_end f.path) = Contains-map (λ (f : Found JavaDatum). path_end f.path) (filter test fs) s k in
      let both : (is_counted l FileTypes h.0 && begins_with label h.0.path.steps) ≡ true = (Contains-filter test fs h.0 h.1).1 in
      let counted : is_counted l FileTypes h.0 ≡ true = (and_parts (is_counted l FileTypes h.0) (begins_with label h.0.path.steps) both).0 in
      subst (IsTypeScope l) (sym h.2) (and_parts (is_sought l FileTypes (place_of l (path_end h.0.path))) (passes l FileTypes h.0.path) (and_parts (fits l h.0.path) _ counted).1).0

  file_ends_types : (label : ℕ) (fs : List (Found JavaDatum)) → AreTypes l (ends_by l label fs)
  file_ends_types label fs = All-weaker (Contains (ends_by l label fs)) (IsTypeScope l) (file_end label fs) (ends_by l label fs) (All-contains_itself (ends_by l label fs))

  types_mean : (es : List Scope) → AreTypes l es → MeansOnly (IsTypeScope l) (meaning_of es)
  types_mean es h = meaning_among l FileTypes (IsTypeScope l) es (λ s k. All-contains (IsTypeScope l) es s h k)

  decided_stays : (es : List Scope) (next : Rule Meaning) → AreTypes l es → StaysIn l count (MeansOnly (IsTypeScope l)) next → StaysIn l count (MeansOnly (IsTypeScope l)) (decided_or es next)
  decided_stays [] next h k = k
  decided_stays (e ∷ es) next h k = done_stays (MeansOnly (IsTypeScope l)) (meaning_of (e ∷ es)) (types_mean (e ∷ es) h)

  with_statics_stay : (es : List Scope) (e : Ends) (f : List Scope → Rule Meaning) → AreTypes l es → EndsOnly (IsTypeScope l) e → ((ss : List Scope) → AreTypes l ss → StaysIn l count (MeansOnly (IsTypeScope l)) (f ss))
      → StaysIn l count (MeansOnly (IsTypeScope l)) (with_statics es e f)
  with_statics_stay es TooManyEnds f h k g = done_stays (MeansOnly (IsTypeScope l)) TooMany tt
  with_statics_stay es (Scopes ss) f h k g = g (ss ++ es) (All-append (IsTypeScope l) ss es k h)

  or_next_stays : (P : Scope → Type 0) (m : Meaning) (next : Rule Meaning) → MeansOnly P m → StaysIn l count (MeansOnly P) next → StaysIn l count (MeansOnly P) (or_next m next)
  or_next_stays P Nothing next h k = k
  or_next_stays P (One s) next h k = done_stays (MeansOnly P) (One s) h
  or_next_stays P Ambiguous next h k = done_stays (MeansOnly P) Ambiguous tt
  or_next_stays P TooMany next h k = done_stays (MeansOnly P) TooMany tt

  not_a_type_stays : (n : Ident) (ns : List Ident) → IsNumberedName count (n ∷ ns) → StaysIn l count (IsResolvedIn l TypeName) (not_a_type l n ns)
  not_a_type_stays n [] numbered = ended_stays TypeName Nothing [] tt (All-nil (IsTypeScope l))
  not_a_type_stays n (k ∷ ks) numbered = from_root_stays TypeName n (k ∷ ks) numbered

  -- ---- rules that look into static imports

  module _ (sound : IsNamedIn l count) where
    pub static_members_stay : (file : ℕ) (all : Bool) (k : StaticKind) (n : NameId) → n.0 < count → StaysIn l count (EndsOnly (IsBroughtOf l k)) (static_members l file all k n)
    unfolding static_members
    static_members_stay file all k n numbered = brought_from_stay sound.linked file n numbered all k (Scopes []) (statics_of l file) (All-nil (IsBroughtOf l k)) (sound.statics file)

    pub statics_of_type_stays : (file : ℕ) (t : Scope) (n : NameId) → IsTrue (is_start (place_of l t)) → n.0 < count → StaysIn l count (λ (e : Ends). Unit {0}) (statics_of_type l file t n)
    statics_of_type_stays file t n h numbered = statics_of_type_stay sound.linked file n numbered t h

    module _ (n : NameId) (numbered : n.0 < count) where
      on_demand_type_stays : (file : ℕ) (fs : List (Found JavaDatum)) → StaysIn l count (MeansOnly (IsTypeScope l)) (on_demand_type l file n fs)
      on_demand_type_stays file fs =
          then_stays (EndsOnly (IsTypeScope l)) (MeansOnly (IsTypeScope l)) (static_members l file true Types n) (λ e. with_statics (ends_by l ODI fs) e (λ ss. done (meaning_of ss))) (static_members_stay file true Types n numbered)
          (λ e only. with_statics_stay (ends_by l ODI fs) e (λ ss. done (meaning_of ss)) (file_ends_types ODI fs) only (λ ss are. done_stays (MeansOnly (IsTypeScope l)) (meaning_of ss) (types_mean ss are)))

      single_type_stays : (file : ℕ) (fs : List (Found JavaDatum)) → StaysIn l count (MeansOnly (IsTypeScope l)) (single_type l file n fs)
      single_type_stays file fs =
          then_stays (EndsOnly (IsTypeScope l)) (MeansOnly (IsTypeScope l)) (static_members l file false Types n)
          (λ e. with_statics (ends_by l SIMP fs) e (λ ss. decided_or ss (decided_or (ends_by l PKGOF fs) (on_demand_type l file n fs)))) (static_members_stay file false Types n numbered)
          (λ e only. with_statics_stay (ends_by l SIMP fs) e (λ ss. decided_or ss (decided_or (ends_by l PKGOF fs) (on_demand_type l file n fs))) (file_ends_types SIMP fs) only
          (λ ss are. decided_stays ss (decided_or (ends_by l PKGOF fs) (on_demand_type l file n fs)) are
          (decided_stays (ends_by l PKGOF fs) (on_demand_type l file n fs) (file_ends_types PKGOF fs) (on_demand_type_stays file fs))))

      file_answer_stays : (file : ℕ) (a : Answer JavaDatum) → StaysIn l count (MeansOnly (IsTypeScope l)) (file_answer l file n a)
      file_answer_stays file (Paths fs) = decided_stays (ends_by l SELF fs) (single_type l file n fs) (file_ends_types SELF fs) (single_type_stays file fs)
      file_answer_stays file TooManyPaths = done_stays (MeansOnly (IsTypeScope l)) TooMany tt

      pub file_type_stays : (file : ℕ) → file < length l.files → StaysIn l count (MeansOnly (IsTypeScope l)) (file_type l file n)
      file_type_stays file h = record {
        asks = (record { start = file_starts l file h; kind = omega arith; plain = λ e. omega (arith, e); pred = numbered }, λ a. (file_answer_stays file a).asks);
        ends = λ a. (file_answer_stays file a).ends;
      }

      pub simple_type_stays : (file : ℕ) → file < length l.files → (bodies : List Scope) → AreTypes l bodies → StaysIn l count (MeansOnly (IsTypeScope l)) (simple_type l file bodies n)
      simple_type_stays file below [] h = file_type_stays file below
      simple_type_stays file below (b ∷ bs) h =
          then_stays (MeansOnly (IsTypeScope l)) (MeansOnly (IsTypeScope l)) (member_type l b n) (λ m. or_next m (simple_type l file bs n)) (member_type_stays n numbered b (All-head (IsTypeScope l) b bs h))
          (λ m k. or_next_stays (IsTypeScope l) m (simple_type l file bs n) k (simple_type_stays file below bs (All-tail (IsTypeScope l) b bs h)))

    pub type_name_stays : (file : ℕ) (bodies : List Scope) (ids : List Ident) → file < length l.files → AreTypes l bodies → IsNumberedName count ids → StaysIn l count (IsResolvedIn l TypeName) (type_name l file bodies ids)
    type_name_stays file bodies [] below around numbered = ended_stays TypeName Nothing [] tt (All-nil (IsTypeScope l))
    type_name_stays file bodies (n ∷ ns) below around numbered =
        then_stays (MeansOnly (IsTypeScope l)) (IsResolvedIn l TypeName) (simple_type l file bodies n.id) (λ m. on_one m [] (λ s. further_parts l TypeName (InType s) (s ∷ []) ns) (not_a_type l n ns)) (simple_type_stays n.id (All-head (IsNumberedIdent count) n ns numbered) file below bodies around)
        (λ m means. on_one_stays TypeName (IsTypeScope l) m [] (λ s. further_parts l TypeName (InType s) (s ∷ []) ns) (not_a_type l n ns) means (All-nil (IsTypeScope l))
        (λ s is. further_parts_stay TypeName (InType s) (s ∷ []) ns is (All-cons (IsTypeScope l) s [] is (All-nil (IsTypeScope l))) (All-tail (IsNumberedIdent count) n ns numbered))
        (not_a_type_stays n ns numbered))

  -- ---- references

  pub refused_stays : (file : ℕ) (bodies so_far types : List Scope) → AreTypes l bodies → AreTypes l so_far → AreTypes l types → StaysIn l count (AreTypes l) (refused l file bodies so_far types)
  refused_stays file bodies so_far [] around h k = done_stays (AreTypes l) so_far h
  refused_stays file bodies so_far (t ∷ ts) around h k =
      then_stays (λ (b : Bool). Unit {0}) (AreTypes l) (type_accessible l file bodies t) (λ ok. refused l file bodies (cond ok so_far (so_far ++ t ∷ [])) ts) (type_accessible_stays file bodies t around)
      (λ ok u. refused_stays file bodies (cond ok so_far (so_far ++ t ∷ [])) ts around
      (elim ok as (λ (ok : Bool). AreTypes l (cond ok so_far (so_far ++ t ∷ []))) [ true ↦ h | false ↦ All-push (IsTypeScope l) so_far t h (All-head (IsTypeScope l) t ts k) ])
      (All-tail (IsTypeScope l) t ts k))

  -- the refused types behind what a name means
  pub referred_stays : (context : Context) (file : ℕ) (bodies : List Scope) (r : Rule Resolved) → AreTypes l bodies → StaysIn l count (IsResolvedIn l context) r
      → StaysIn l count (IsReferenceIn l context) (and_then r (λ r. and_then (refused l file bodies [] r.types) (λ ts. done (record { meaning = r.meaning; refused = ts }))))
  referred_stays context file bodies r around h =
      then_stays (IsResolvedIn l context) (IsReferenceIn l context) r (λ r. and_then (refused l file bodies [] r.types) (λ ts. done (record { meaning = r.meaning; refused = ts }))) h
      (λ r is. then_stays (AreTypes l) (IsReferenceIn l context) (refused l file bodies [] r.types) (λ ts. done (record { meaning = r.meaning; refused = ts })) (refused_stays file bodies [] r.types around (All-nil (IsTypeScope l)) is.types)
      (λ ts are. done_stays (IsReferenceIn l context) (record { meaning = r.meaning; refused = ts }) (record { meaning = is.meaning; refused = are })))

  module _ (sound : IsNamedIn l count) where
    pub reference_stays : (file : ℕ) (bodies : List Scope) (ids : List Ident) → file < length l.files → AreTypes l bodies → IsNumberedName count ids → StaysIn l count (IsReferenceIn l TypeName) (reference l file bodies ids)
    unfolding reference
    reference_stays file bodies ids below around numbered = referred_stays TypeName file bodies (type_name l file bodies ids) around (type_name_stays sound file bodies ids below around numbered)

  -- ---- types that are written

  meant_base_in : (m : Meaning) → MeansOnly (IsMeant l TypeName) m → IsBaseIn l (meant_base m)
  meant_base_in (One s) h = h
  meant_base_in Nothing h = tt
  meant_base_in Ambiguous h = tt
  meant_base_in TooMany h = tt

  module _ (sound : IsNamedIn l count) (names : List (List ℕ)) (file : ℕ) (bodies : List Scope) (below : file < length l.files) (around : AreTypes l bodies) where
    written_base_stays : (dims : ℕ) (b : BaseTree) → IsNumberedBase count b → StaysIn l count (IsWrittenIn l) (written_base l names file bodies dims b)
    written_base_stays dims boolean numbered = done_stays (IsWrittenIn l) (plain_written Boolean dims) tt
    written_base_stays dims char numbered = done_stays (IsWrittenIn l) (plain_written Char dims) tt
    written_base_stays dims int numbered = done_stays (IsWrittenIn l) (plain_written Int dims) tt
    written_base_stays dims long numbered = done_stays (IsWrittenIn l) (plain_written Long dims) tt
    written_base_stays dims void numbered = done_stays (IsWrittenIn l) (plain_written Void dims) tt
    written_base_stays dims (named ids) numbered =
        then_stays (IsReferenceIn l TypeName) (IsWrittenIn l) (reference l file bodies ids) (λ r. done (named_written l names file ids dims r)) (reference_stays sound file bodies ids below around numbered)
        (λ r is. done_stays (IsWrittenIn l) (named_written l names file ids dims r) (meant_base_in r.meaning is.meaning))

    pub written_type_stays : (t : TypeTree) → IsNumberedType count t → StaysIn l count (IsWrittenIn l) (written_type l names file bodies t)
    unfolding written_type
    written_type_stays t numbered = written_base_stays t.dims t.base numbered

-- ---- as laws

pub fields_stay_in : FieldsStayIn
fields_stay_in l count class n h numbered = field_stays l count n numbered class h

pub all_methods_stay_in : AllMethodsStayIn
all_methods_stay_in l count class n h numbered = all_methods_stay l count n numbered class h

pub methods_stay_in : MethodsStayIn
methods_stay_in l count class n linked h numbered = methods_stay l count linked n numbered class h

pub members_among_stay_in : MembersAmongStayIn
members_among_stay_in l count ms linked are = members_among_stay l count linked ms are

pub bodies_are_types : BodiesAreTypes
bodies_are_types l c linked h = (header_bodies_types l linked c h, All-cons (IsTypeScope l) c (header_bodies l c) h (header_bodies_types l linked c h))

pub type_names_stay_in : TypeNamesStayIn
type_names_stay_in l count file bodies ids sound below around numbered = type_name_stays l count sound file bodies ids below around numbered

pub statics_stay_in : StaticsStayIn
statics_stay_in l count file all k n sound numbered = static_members_stay l count sound file all k n numbered

pub references_stay_in : ReferencesStayIn
references_stay_in l count file bodies ids sound below around numbered = reference_stays l count sound file bodies ids below around numbered

pub written_types_stay_in : WrittenTypesStayIn
written_types_stay_in l count names file bodies t sound below around numbered = written_type_stays l count sound names file bodies below around t numbered
