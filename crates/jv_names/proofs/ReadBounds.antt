-- What is read beside names asks queries of the layout, and ends with what the layout has, whatever the answers.
use Rattle.std.proofs.Common.{◌≡◌, ◌==◌, ℕ, Bool, true, false, cond, IfSome, List, [], ◌∷◌, ◌++◌, ◌||◌, map, Option, Some, None, refl, arith}
use Rattle.std.specs.List.{All, Contains, filter}
use Rattle.std.proofs.lemmas.List.Elements.{All-nil, All-cons, All-head, All-tail, All-push, All-weaker, All-contains_itself}
use Rattle.sg_base.specs.declared.scope.Scope.{Scope}
use Rattle.sg_base.proofs.Finite.{Contains-head}
use Rattle.sg_query.specs.declared.answer.Answer.{Answer}
use Rattle.sg_query.specs.declared.answer.Answer.TheVariants.{Paths, TooMany as TooManyPaths}
use Rattle.sg_query.specs.declared.found.Found.{Found}
use Rattle.sg_query.specs.declared.query.Query.{Query}
use Rattle.sg_reading.specs.Reading.{done, and_then, AllAsked, AllEnds}
use Rattle.sg_reading.proofs.Asking.{any_ends, AllAsked-more, and_then-asked, and_then-ends}
use Rattle.jv_instance.specs.declared.datum.JavaDatum.{JavaDatum}
use Rattle.jv_instance.specs.declared.datum.JavaDatum.TheVariants.{Package, TypeName as TypeDatum, Member, Signature}
use Rattle.jv_instance.specs.declared.labels.TheConstants.{CTOR}
use Rattle.jv_instance.specs.declared.pred.JavaPred.{JavaPred}
use Rattle.jv_instance.specs.declared.ty.Ty.{Ty}
use Rattle.jv_instance.specs.declared.type_base.TypeBase.{TypeBase}
use Rattle.jv_instance.specs.declared.type_base.TypeBase.TheVariants.{Boolean, Char, Int, Long, Class, Null, Void, Bad}
use Rattle.jv_instance.specs.Types.{is_bad}
use Rattle.jv_layout.specs.Fits.{fits, is_type}
use Rattle.jv_layout.specs.Folder.{LayoutOf}
use Rattle.jv_layout.specs.Readers.{file_of, is_interface_of, is_static_of, object_scope}
use Rattle.jv_layout.specs.Scopes.{place_of}
use Rattle.jv_tree.specs.declared.name.Ident.{Ident}
use Rattle.jv_tree.specs.Numbered.{IsNumberedName, AreNumberedNames}
use Rattle.jv_types.specs.Conversion.{is_type as same_type, is_subtype}
use Rattle.jv_names.specs.declared.context.Context.TheVariants.{TypeName}
use Rattle.jv_names.specs.declared.counts.Counts.{Counts}
use Rattle.jv_names.specs.declared.counts.Counts.TheVariants.{Constructors, Supertypes}
use Rattle.jv_names.specs.declared.meaning.Meaning.{Meaning}
use Rattle.jv_names.specs.declared.meaning.Meaning.TheVariants.{One, Nothing, Ambiguous, TooMany}
use Rattle.jv_names.specs.Access.{has_super, some_body}
use Rattle.jv_names.specs.Bodies.{header_bodies}
use Rattle.jv_names.specs.Bounds.{IsNameQuery, IsLayoutQuery, IsListed, IsTypeScope, AreTypes, IsMemberScope, IsBaseIn, IsTyIn, IsReadIn, IsMeant, IsNamedIn, IsResolvedIn, MeansOnly, SignaturesAskIn, CtorsAskIn, SupersAskIn, ResultsAskIn, SuperclassesAskIn, InstancesAskIn, InstanceBodiesAreTypes}
use Rattle.jv_names.specs.Chosen.{fits_all, fits_or_bad}
use Rattle.jv_names.specs.Ends.{counted_ends}
use Rattle.jv_names.specs.Instances.{instances_from, has_enclosing}
use Rattle.jv_names.specs.Members.{find_ends}
use Rattle.jv_names.specs.Read.{SignatureOf, base_in, ty_in, signature_in, one_signature, answer_signature, signature_of, answer_supers, supers_of, is_under_object, base_fits, result_fits, one_ctor, answer_ctor, ctor_of}
use Rattle.jv_names.specs.Replies.{Rule}
use Rattle.jv_names.specs.Superclass.{meant_superclass, named_superclass, superclass}
use Rattle.jv_names.specs.TypeNames.{type_name}
use Rattle.jv_names.proofs.Bounds.{counted_end, file_is_one, header_bodies_types, object_is_type, type_name_stays}
use Rattle.jv_names.proofs.Listed.{start_is_listed, type_is_listed}

-- ---- what answers tell

module _ (l : LayoutOf) where
  -- a signature, where there is one, has types of the layout as its bases, or no class
  abbrev IsGivenIn : Option SignatureOf → Type 0
  IsGivenIn o = IfSome o (IsReadIn l)

  cleaned : (b : Bool) (s : Scope) → is_type (place_of l s) ≡ b → IsBaseIn l (cond b (Class s) Bad)
  cleaned true s e = e
  cleaned false s e = tt

  base_is_in : (b : TypeBase) → IsBaseIn l (base_in l b)
  base_is_in (Class s) = cleaned (is_type (place_of l s)) s refl
  base_is_in Boolean = tt
  base_is_in Char = tt
  base_is_in Int = tt
  base_is_in Long = tt
  base_is_in Null = tt
  base_is_in Void = tt
  base_is_in Bad = tt

  types_are_in : (ts : List Ty) → All (IsTyIn l) (map (ty_in l) ts)
  types_are_in [] = All-nil (IsTyIn l)
  types_are_in (t ∷ ts) = All-cons (IsTyIn l) (ty_in l t) (map (ty_in l) ts) (base_is_in t.base) (types_are_in ts)

  datum_given : (d : JavaDatum) → IsGivenIn (signature_in l d)
  datum_given (Signature n r ps) = (base_is_in r.base, types_are_in ps)
  datum_given (Package n) = tt
  datum_given (TypeDatum n) = tt
  datum_given (Member n) = tt

  one_given : (fs : List (Found JavaDatum)) → IsGivenIn (one_signature l fs)
  one_given [] = tt
  one_given (f ∷ []) = datum_given f.datum
  one_given (f ∷ g ∷ fs) = tt

  answer_given : (a : Answer JavaDatum) → IsGivenIn (answer_signature l a)
  answer_given (Paths fs) = one_given (filter (λ f. fits l f.path) fs)
  answer_given TooManyPaths = tt

  pub signature_given : (m : Scope) → AllEnds (λ (o : Option SignatureOf). IfSome o (IsReadIn l)) (signature_of l m)
  unfolding signature_of
  signature_given m = λ a. answer_given a

  -- ---- constructors and supertypes

  one_found : (ks : List Scope) → ((k : Scope) → Contains ks k → IsMemberScope l CTOR k) → IfSome (one_ctor l ks) (IsMemberScope l CTOR)
  one_found [] h = tt
  one_found (k ∷ []) h = h k (Contains-head k [])
  one_found (k ∷ m ∷ ks) h = tt

  answer_found : (a : Answer JavaDatum) → IfSome (answer_ctor l a) (IsMemberScope l CTOR)
  answer_found (Paths fs) = one_found (counted_ends l Constructors fs) (counted_end l Constructors fs)
  answer_found TooManyPaths = tt

  pub ctor_found : (c : Scope) → AllEnds (λ (o : Option Scope). IfSome o (IsMemberScope l CTOR)) (ctor_of l c)
  unfolding ctor_of
  ctor_found c = λ a. answer_found a

  answer_types : (a : Answer JavaDatum) → AreTypes l (answer_supers l a)
  answer_types (Paths fs) =
      All-weaker (Contains (counted_ends l Supertypes fs)) (IsTypeScope l) (counted_end l Supertypes fs) (counted_ends l Supertypes fs) (All-contains_itself (counted_ends l Supertypes fs))
  answer_types TooManyPaths = All-nil (IsTypeScope l)

  object_types : (b : Bool) (up : List Scope) → IsTypeScope l (object_scope l) → AreTypes l up → AreTypes l (cond b (up ++ object_scope l ∷ []) up)
  object_types true up o h = All-push (IsTypeScope l) up (object_scope l) h o
  object_types false up o h = h

  pub supers_found : (c : Scope) → IsTypeScope l c → AllEnds (AreTypes l) (supers_of l c)
  unfolding supers_of
  supers_found c is = λ a. object_types (is_interface_of l c) (answer_supers l a) (object_is_type l c is) (answer_types a)

  -- ---- superclasses

  superclass_is_type : (m : Meaning) → IsTypeScope l (object_scope l) → MeansOnly (IsMeant l TypeName) m → IsTypeScope l (meant_superclass l m)
  superclass_is_type (One s) o h = h
  superclass_is_type Nothing o h = o
  superclass_is_type Ambiguous o h = o
  superclass_is_type TooMany o h = o

  instances_types : (t : Scope) (bs : List Scope) → AreTypes l bs → AreTypes l (instances_from l t bs)
  instances_types t [] h = All-nil (IsTypeScope l)
  instances_types t (b ∷ bs) h =
      elim (is_static_of l t) as (λ (s : Bool). AreTypes l (cond s [] (b ∷ instances_from l b bs))) [
        | true ↦ All-nil (IsTypeScope l)
        | false ↦ All-cons (IsTypeScope l) b (instances_from l b bs) (All-head (IsTypeScope l) b bs h) (instances_types b bs (All-tail (IsTypeScope l) b bs h))
      ]

-- ---- what rules ask

module _ (l : LayoutOf) (count : ℕ) where
  abbrev pub Asked : Query JavaPred → Type 0
  Asked q = IsLayoutQuery l count q

  -- a query of names is one of the layout
  pub name_asked : (q : Query JavaPred) → IsNameQuery l count q → Asked q
  name_asked q h = record { start = start_is_listed l q.start h.start; kind = h.kind; pred = h.pred }

  pub cond_asked : {U : Type 0} (b : Bool) (r s : Rule U) → AllAsked Asked r → AllAsked Asked s → AllAsked Asked (cond b r s)
  cond_asked true r s h k = h
  cond_asked false r s h k = k

  pub signature_asks : (m : Scope) → IsListed l m → AllAsked Asked (signature_of l m)
  unfolding signature_of
  signature_asks m h = (record { start = h; kind = omega arith; pred = tt }, λ a. tt)

  pub find_asks : (c : Counts) (q : Query JavaPred) → Asked q → AllAsked Asked (find_ends l c q)
  unfolding find_ends
  find_asks c q h = (h, λ a. tt)

  pub ctor_asks : (c : Scope) → IsListed l c → AllAsked Asked (ctor_of l c)
  unfolding ctor_of
  ctor_asks c h = (record { start = h; kind = omega arith; pred = tt }, λ a. tt)

  pub supers_asks : (c : Scope) → IsListed l c → AllAsked Asked (supers_of l c)
  unfolding supers_of
  supers_asks c h = (record { start = h; kind = omega arith; pred = tt }, λ a. tt)

  pub super_asks : (above sub : Scope) → IsTypeScope l sub → AllAsked Asked (has_super l above sub)
  unfolding has_super
  super_asks above sub h = (record { start = type_is_listed l sub h; kind = omega arith; pred = tt }, λ a. tt)

  pub some_body_asks : (f : Scope → Rule Bool) → ((b : Scope) → IsTypeScope l b → AllAsked Asked (f b)) → (bodies : List Scope) → AreTypes l bodies → AllAsked Asked (some_body f bodies)
  some_body_asks f h [] around = tt
  some_body_asks f h (b ∷ bs) around =
      and_then-asked Asked (f b) (λ found. cond found (done true) (some_body f bs)) (h b (All-head (IsTypeScope l) b bs around))
      (λ found. cond_asked found (done true) (some_body f bs) tt (some_body_asks f h bs (All-tail (IsTypeScope l) b bs around)))

  -- ---- results

  base_asks : (s t : Ty) (a b : TypeBase) → IsBaseIn l a → AllAsked Asked (base_fits l s t a b)
  base_asks s t (Class a) (Class b) h =
      cond_asked (is_under_object l a b) (done true) (and_then (supers_of l a) (λ up. done (is_subtype up (object_scope l) s t))) tt
      (and_then-asked Asked (supers_of l a) (λ up. done (is_subtype up (object_scope l) s t)) (supers_asks a (type_is_listed l a h)) (λ up. tt))
  base_asks s t (Class a) Boolean h = tt
  base_asks s t (Class a) Char h = tt
  base_asks s t (Class a) Int h = tt
  base_asks s t (Class a) Long h = tt
  base_asks s t (Class a) Null h = tt
  base_asks s t (Class a) Void h = tt
  base_asks s t (Class a) Bad h = tt
  base_asks s t Boolean b h = tt
  base_asks s t Char b h = tt
  base_asks s t Int b h = tt
  base_asks s t Long b h = tt
  base_asks s t Null b h = tt
  base_asks s t Void b h = tt
  base_asks s t Bad b h = tt

  pub result_asks : (s t : Ty) → IsTyIn l s → AllAsked Asked (result_fits l s t)
  unfolding result_fits
  result_asks s t h =
      cond_asked (same_type s t) (done true) _ tt
      (cond_asked _ _ (done false) (cond_asked (s.dims == t.dims) (base_fits l s t s.base t.base) (done (is_subtype [] (object_scope l) s t)) (base_asks s t s.base t.base h) tt) tt)

  pub fits_or_bad_asks : (s t : Ty) → IsTyIn l s → AllAsked Asked (fits_or_bad l s t)
  unfolding fits_or_bad
  fits_or_bad_asks s t h = cond_asked (is_bad s || is_bad t) (done true) (result_fits l s t) tt (result_asks s t h)

  pub fits_all_asks : (t : Ty) (us : List Ty) → IsTyIn l t → AllAsked Asked (fits_all l t us)
  fits_all_asks t [] h = tt
  fits_all_asks t (u ∷ us) h =
      and_then-asked Asked (fits_or_bad l t u) (λ ok. cond ok (fits_all l t us) (done false)) (fits_or_bad_asks t u h)
      (λ ok. cond_asked ok (fits_all l t us) (done false) (fits_all_asks t us h) tt)

  -- ---- superclasses and enclosing instances

  module _ (c : Scope) (named : IsNamedIn l count) (is : IsTypeScope l c) where
    extended_asks : (ids : List Ident) → IsNumberedName count ids → AllAsked Asked (named_superclass l c ids)
    extended_asks ids numbered =
        and_then-asked Asked (type_name l (file_of l c) (header_bodies l c) ids) (λ r. done (meant_superclass l r.meaning))
        (AllAsked-more (IsNameQuery l count) Asked (type_name l (file_of l c) (header_bodies l c) ids) name_asked (type_name_stays l count named (file_of l c) (header_bodies l c) ids (file_is_one l named.linked c is) (header_bodies_types l named.linked c is) numbered).asks)
        (λ r. tt)

    extended_found : (ids : List Ident) → IsNumberedName count ids → AllEnds (IsTypeScope l) (named_superclass l c ids)
    extended_found ids numbered =
        and_then-ends (IsResolvedIn l TypeName) (IsTypeScope l) (type_name l (file_of l c) (header_bodies l c) ids) (λ r. done (meant_superclass l r.meaning))
        (type_name_stays l count named (file_of l c) (header_bodies l c) ids (file_is_one l named.linked c is) (header_bodies_types l named.linked c is) numbered).ends
        (λ r means. superclass_is_type l r.meaning (object_is_type l c is) means.meaning)

    pub superclass_asks : (ns : List (List Ident)) → AreNumberedNames count ns → AllAsked Asked (superclass l c ns)
    superclass_asks [] numbered = tt
    superclass_asks (n ∷ ns) numbered = extended_asks n (All-head (IsNumberedName count) n ns numbered)

    pub superclass_found : (ns : List (List Ident)) → AreNumberedNames count ns → AllEnds (IsTypeScope l) (superclass l c ns)
    superclass_found [] numbered = object_is_type l c is
    superclass_found (n ∷ ns) numbered = extended_found n (All-head (IsNumberedName count) n ns numbered)

  pub enclosing_asks : (bodies : List Scope) (s : Scope) (o : Option Scope) → AreTypes l bodies → AllAsked Asked (has_enclosing l bodies s o)
  enclosing_asks bodies s None around = tt
  enclosing_asks bodies s (Some o) around =
      cond_asked (is_static_of l s) (done true) (some_body (has_super l o) bodies) tt (some_body_asks (has_super l o) (super_asks o) bodies around)

-- ---- as laws

pub signatures_ask_in : SignaturesAskIn
signatures_ask_in l count m h = record { asks = signature_asks l count m h; ends = signature_given l m }

pub ctors_ask_in : CtorsAskIn
ctors_ask_in l count c is = record { asks = ctor_asks l count c (type_is_listed l c is); ends = ctor_found l c }

pub supers_ask_in : SupersAskIn
supers_ask_in l count c is = record { asks = supers_asks l count c (type_is_listed l c is); ends = supers_found l c is }

pub results_ask_in : ResultsAskIn
results_ask_in l count s t h = record { asks = result_asks l count s t h; ends = any_ends (result_fits l s t) }

pub superclasses_ask_in : SuperclassesAskIn
superclasses_ask_in l count c ns named is numbered = record { asks = superclass_asks l count c named is ns numbered; ends = superclass_found l count c named is ns numbered }

pub instances_ask_in : InstancesAskIn
instances_ask_in l count bodies s o around = record { asks = enclosing_asks l count bodies s o around; ends = any_ends (has_enclosing l bodies s o) }

pub instance_bodies_are_types : InstanceBodiesAreTypes
instance_bodies_are_types l c linked is = instances_types l c (header_bodies l c) (header_bodies_types l linked c is)
