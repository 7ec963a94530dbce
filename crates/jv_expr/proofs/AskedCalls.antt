-- Calls ask queries of the layout, and have types of it.
use Rattle.std.proofs.Common.{◌==◌, ◌&&◌, ◌||◌, not, nat_lt, ℕ, ◌<◌, Bool, true, false, cond, List, [], ◌∷◌, length, All, Option, Some, None, IfSome, is_some}
use Rattle.std.specs.List.{Contains}
use Rattle.std.proofs.lemmas.List.Elements.{All-nil, All-head, All-tail, All-weaker, All-contains, All-contains_itself}
use Rattle.sg_base.specs.declared.scope.Scope.{Scope}
use Rattle.sg_reading.specs.Reading.{done, and_then, each}
use Rattle.sg_reading.proofs.Asking.{any_ends, each-asked, each-ends}
use Rattle.jv_diag.specs.declared.codes.TheConstants.{ABSTRACT, AMBIGUOUS_NAME, INACCESSIBLE_MEMBER, NUMBER_OF_ARGUMENTS, TOO_MANY_PATHS, UNKNOWN_METHOD}
use Rattle.jv_diag.specs.Plain.{DiagOf}
use Rattle.jv_instance.specs.declared.labels.TheConstants.{METH, CTOR}
use Rattle.jv_instance.specs.declared.ty.Ty.{Ty}
use Rattle.jv_instance.specs.declared.type_base.TypeBase.{TypeBase}
use Rattle.jv_instance.specs.declared.type_base.TypeBase.TheVariants.{Boolean, Char, Int, Long, Class, Null, Void, Bad}
use Rattle.jv_instance.specs.Types.{is_bad}
use Rattle.jv_layout.specs.Folder.{LayoutOf, text_of}
use Rattle.jv_layout.specs.Linked.{IsLinked}
use Rattle.jv_layout.specs.Readers.{is_abstract_of, is_interface_of, object_scope, owner_scope}
use Rattle.jv_tree.specs.declared.name.Ident.{Ident}
use Rattle.jv_tree.specs.declared.names.NameId.{NameId}
use Rattle.jv_tree.specs.Numbered.{IsNumberedIdent}
use Rattle.jv_types.specs.Operators.{bad_type}
use Rattle.jv_names.specs.declared.context.Context.TheVariants.{TypeName}
use Rattle.jv_names.specs.declared.ends.Ends.{Ends}
use Rattle.jv_names.specs.declared.ends.Ends.TheVariants.{Scopes, TooMany}
use Rattle.jv_names.specs.declared.meaning.Meaning.{Meaning}
use Rattle.jv_names.specs.declared.meaning.Meaning.TheVariants.{One, Nothing, Ambiguous, TooMany as TooManyTypes}
use Rattle.jv_names.specs.declared.static_kind.StaticKind.TheVariants.{Methods}
use Rattle.jv_names.specs.Access.{member_accessible}
use Rattle.jv_names.specs.Bounds.{AreTypes, AsksIn, EndsOnly, IsBaseIn, IsMeant, IsMemberScope, IsReadIn, IsTyIn, IsTypeScope, MeansOnly}
use Rattle.jv_names.specs.Chosen.{first_concrete, first_fitting, fits_all}
use Rattle.jv_names.specs.Instances.{has_enclosing, instance_bodies}
use Rattle.jv_names.specs.Members.{methods}
use Rattle.jv_names.specs.Read.{SignatureOf, ctor_of, signature_of}
use Rattle.jv_names.specs.Statics.{static_members}
use Rattle.jv_names.specs.Superclass.{superclass}
use Rattle.jv_names.proofs.Bounds.{methods_stay_in, object_is_type, statics_stay_in}
use Rattle.jv_names.proofs.Listed.{member_is_listed}
use Rattle.jv_names.proofs.ReadBounds.{ctors_ask_in, fits_all_asks, instance_bodies_are_types, instances_ask_in, signatures_ask_in, superclasses_ask_in}
use Rattle.jv_expr.specs.declared.argument.Argument.{Argument}
use Rattle.jv_expr.specs.declared.value.Value.{Value}
use Rattle.jv_expr.specs.declared.front.Front.{Front}
use Rattle.jv_expr.specs.declared.front.Front.TheVariants.{Value as ValueFront, TypeName as TypeFront}
use Rattle.jv_expr.specs.Bounds.{IsAnything, IsSiteIn}
use Rattle.jv_expr.specs.Calls.{Manner, above_call, above_field, applied, applied_by, arguments_fit, bad_call, bad_super, bare_among, bare_call, bare_in, base_call, call_type, called_among, called_of, chosen, chosen_abstract, chosen_of, class_call, class_methods, class_text, class_type, ctor_call, ctor_called, front_call, imported, imported_among, imported_call, is_abstract_class, is_faulty_call, method_called, new_class, new_meant, or_objects, result_type, super_call, super_called, super_ctor, super_field, through, value_call, with_call, with_enclosing, with_super}
use Rattle.jv_expr.specs.Checking.{Checking}
use Rattle.jv_expr.specs.Fields.{class_field, result_of}
use Rattle.jv_expr.specs.Operators.{assigned_to, bad_value, unless_faulty}
use Rattle.jv_expr.specs.Site.{SiteOf, has_instance, has_this, with_fault, with_fault_if, with_named}
use Rattle.jv_expr.proofs.AskedConversions.{assigned_asks}
use Rattle.jv_expr.proofs.AskedFields.{IsFirstValueIn, accessible_asks, class_field_asks, result_in}
use Rattle.jv_expr.proofs.AskedOperators.{IsOptionIn, unless_in}
use Rattle.jv_expr.proofs.AskedSteps.{cond_asks, cond_keeps, done_asks, of_names, then_asks}
use Rattle.jv_expr.proofs.AskedVariables.{IsFrontIn}

-- ---- what is given

-- arguments have types of the layout
abbrev pub IsArgumentIn : LayoutOf → Argument → Type 0
IsArgumentIn l a = IsTyIn l a.ty

abbrev pub AreArgumentsIn : LayoutOf → List Argument → Type 0
AreArgumentsIn l as' = All (IsArgumentIn l) as'

-- a type with diagnostics is of the layout, and so is one that may be there
abbrev pub IsFirstTyIn : LayoutOf → Ty × List DiagOf → Type 0
IsFirstTyIn l p = IsTyIn l p.0

abbrev pub IsFirstOptionIn : LayoutOf → Option Ty × List DiagOf → Type 0
IsFirstOptionIn l p = IsOptionIn l p.0

abbrev pub IsMethodScope : LayoutOf → Scope → Type 0
IsMethodScope l m = IsMemberScope l METH m

abbrev pub IsSignatureIn : LayoutOf → Option SignatureOf → Type 0
IsSignatureIn l o = IfSome o (IsReadIn l)

-- ---- which of several methods is called

module _ (l : LayoutOf) (count : ℕ) where
  all_fit_asks : (t : Ty) (us : List Ty) → IsTyIn l t → AsksIn l count IsAnything (fits_all l t us)
  all_fit_asks t us h = record { asks = fits_all_asks l count t us h; ends = any_ends (fits_all l t us) }

  module _ (P : Scope → Type 0) where
    first_fitting_asks : (all : List Ty) (m : Scope) (ks : List Scope) (ts : List Ty) → P m → All P ks → All (IsTyIn l) ts → AsksIn l count P (first_fitting l all m ks ts)
    first_fitting_asks all m [] ts h k e = done_asks l count P m h
    first_fitting_asks all m (n ∷ ks) [] h k e = done_asks l count P m h
    first_fitting_asks all m (n ∷ ks) (t ∷ ts) h k e =
        then_asks l count IsAnything P (fits_all l t all) (λ ok. cond ok (done n) (first_fitting l all m ks ts)) (all_fit_asks t all (All-head (IsTyIn l) t ts e))
        (λ ok u. cond_asks l count P ok (done n) (first_fitting l all m ks ts) (done_asks l count P n (All-head P n ks k))
        (first_fitting_asks all m ks ts h (All-tail P n ks k) (All-tail (IsTyIn l) t ts e)))

    first_concrete_in : (ms : List Scope) → All P ms → IfSome (first_concrete l ms) P
    first_concrete_in [] h = tt
    first_concrete_in (m ∷ ms) h =
        cond_keeps (λ (o : Option Scope). IfSome o P) (is_abstract_of l m) (first_concrete l ms) (Some m) (first_concrete_in ms (All-tail P m ms h)) (All-head P m ms h)

  result_type_asks : (m : Scope) → IsMethodScope l m → AsksIn l count (IsTyIn l) (result_type l m)
  result_type_asks m h =
      then_asks l count (IsSignatureIn l) (IsTyIn l) (signature_of l m) (λ s. done (result_of s)) (signatures_ask_in l count m (member_is_listed l METH m h)) (λ s e. done_asks l count (IsTyIn l) (result_of s) (result_in l s e))

  abbrev AreFound : List Ty → Type 0
  AreFound ts = (t : Ty) → Contains ts t → IsTyIn l t

  result_types_ask : (ms : List Scope) → All (IsMethodScope l) ms → AsksIn l count AreFound (each (result_type l) ms)
  result_types_ask ms h = record {
    asks = each-asked _ (result_type l) ms (λ m c. (result_type_asks m (All-contains (IsMethodScope l) ms m h c)).asks);
    ends = each-ends (IsTyIn l) (result_type l) ms (λ m c. (result_type_asks m (All-contains (IsMethodScope l) ms m h c)).ends);
  }

  found_all : (ts : List Ty) → AreFound ts → All (IsTyIn l) ts
  found_all ts h = All-weaker (Contains ts) (IsTyIn l) h ts (All-contains_itself ts)

  chosen_abstract_asks : (m : Scope) (ms : List Scope) (o : Option Scope) → All (IsMethodScope l) (m ∷ ms) → IfSome o (IsMethodScope l) → AsksIn l count (IsMethodScope l) (chosen_abstract l m ms o)
  chosen_abstract_asks m ms (Some k) h e = done_asks l count (IsMethodScope l) k e
  chosen_abstract_asks m ms None h e =
      then_asks l count AreFound (IsMethodScope l) (each (result_type l) (m ∷ ms)) (λ ts. first_fitting l ts m (m ∷ ms) ts) (result_types_ask (m ∷ ms) h)
      (λ ts f. first_fitting_asks (IsMethodScope l) ts m (m ∷ ms) ts (All-head (IsMethodScope l) m ms h) h (found_all ts f))

  chosen_of_asks : (m : Scope) (ms : List Scope) → All (IsMethodScope l) (m ∷ ms) → AsksIn l count (IsMethodScope l) (chosen_of l m ms)
  chosen_of_asks m [] h = done_asks l count (IsMethodScope l) m (All-head (IsMethodScope l) m [] h)
  chosen_of_asks m (k ∷ ks) h = chosen_abstract_asks m (k ∷ ks) (first_concrete l (m ∷ k ∷ ks)) h (first_concrete_in (IsMethodScope l) (m ∷ k ∷ ks) h)

  pub chosen_asks : (m : Scope) (ms : List Scope) → All (IsMethodScope l) (m ∷ ms) → AsksIn l count (IsMethodScope l) (chosen l m ms)
  unfolding chosen
  chosen_asks m ms h = chosen_of_asks m ms h

  -- ---- the methods of a name

  abbrev AreMethods : Ends → Type 0
  AreMethods e = EndsOnly (IsMethodScope l) e

  module _ (linked : IsLinked l) where
    pub methods_asks : (c : Scope) (n : NameId) → IsTypeScope l c → n.0 < count → AsksIn l count AreMethods (methods l c n)
    methods_asks c n h k = of_names l count AreMethods (methods l c n) (methods_stay_in l count c n linked h k)

    or_objects_asks : (c : Scope) (n : NameId) (e : Ends) → IsTypeScope l c → n.0 < count → AreMethods e → AsksIn l count AreMethods (or_objects l c n e)
    or_objects_asks c n TooMany h k e = done_asks l count AreMethods TooMany tt
    or_objects_asks c n (Scopes []) h k e =
        cond_asks l count AreMethods (is_interface_of l c) (methods l (object_scope l) n) (done (Scopes [])) (methods_asks (object_scope l) n (object_is_type l c h) k) (done_asks l count AreMethods (Scopes []) (All-nil (IsMethodScope l)))
    or_objects_asks c n (Scopes (m ∷ ms)) h k e = done_asks l count AreMethods (Scopes (m ∷ ms)) e

    class_methods_asks : (c : Scope) (n : NameId) → IsTypeScope l c → n.0 < count → AsksIn l count AreMethods (class_methods l c n)
    unfolding class_methods
    class_methods_asks c n h k = then_asks l count AreMethods AreMethods (methods l c n) (or_objects l c n) (methods_asks c n h k) (λ e f. or_objects_asks c n e h k f)

-- ---- calls

module _ (site : SiteOf) (count : ℕ) (is : IsSiteIn count site) where
  abbrev L : LayoutOf
  L = site.layout

  arguments_fit_asks : (ps : List Ty) (as' : List Argument) (ds : List DiagOf) → AreArgumentsIn L as' → AsksIn L count IsAnything (arguments_fit site ps as' ds)
  arguments_fit_asks [] as' ds h = done_asks L count IsAnything ds tt
  arguments_fit_asks (p ∷ ps) [] ds h = done_asks L count IsAnything ds tt
  arguments_fit_asks (p ∷ ps) (a ∷ as') ds h =
      then_asks L count IsAnything IsAnything (assigned_to site a.at a.ty p ds) (λ ds. arguments_fit site ps as' ds) (assigned_asks site count a.at a.ty p ds (All-head (IsArgumentIn L) a as' h))
      (λ ds e. arguments_fit_asks ps as' ds (All-tail (IsArgumentIn L) a as' h))

  abbrev O : Option Ty × List DiagOf → Type 0
  O = IsFirstOptionIn L

  abbrev T : Ty × List DiagOf → Type 0
  T = IsFirstTyIn L

  applied_by_asks : (at : ℕ) (text : List ℕ) (as' : List Argument) (o : Option SignatureOf) (ds : List DiagOf) → AreArgumentsIn L as' → IsSignatureIn L o → AsksIn L count O (applied_by site at text as' o ds)
  applied_by_asks at text as' None ds h k = done_asks L count O (Some bad_type, ds) tt
  applied_by_asks at text as' (Some s) ds h k =
      cond_asks L count O (length s.params == length as') (and_then (arguments_fit site s.params as' ds) (λ ds. done (Some s.result, ds))) (done (None, with_fault site at NUMBER_OF_ARGUMENTS (text ∷ []) ds))
      (then_asks L count IsAnything O (arguments_fit site s.params as' ds) (λ ds. done (Some s.result, ds)) (arguments_fit_asks s.params as' ds h) (λ ds e. done_asks L count O (Some s.result, ds) k.0))
      (done_asks L count O (None, with_fault site at NUMBER_OF_ARGUMENTS (text ∷ []) ds) tt)

  pub applied_asks : (at : ℕ) (text : List ℕ) (as' : List Argument) (o : Option SignatureOf) (ds : List DiagOf) → AreArgumentsIn L as' → IsSignatureIn L o → AsksIn L count O (applied site at text as' o ds)
  unfolding applied
  applied_asks at text as' o ds h k = applied_by_asks at text as' o ds h k

  -- where a method is called through a receiver, that has a type of the layout
  abbrev pub IsMannerIn : Manner → Type 0
  IsMannerIn how = IfSome how.through (IsTypeScope L)

  call_type_in : (faulty : Bool) (o : Option Ty) → IsOptionIn L o → IsTyIn L (call_type faulty o)
  call_type_in faulty None h = tt
  call_type_in faulty (Some t) h = unless_in site count faulty t h

  module _ (as' : List Argument) (given : AreArgumentsIn L as') where
    method_called_asks : (how : Manner) (i : Ident) (m : Scope) (ds : List DiagOf) → IsMannerIn how → IsMethodScope L m → AsksIn L count T (method_called site how i as' m ds)
    unfolding method_called
    method_called_asks how i m ds h k =
        then_asks L count IsAnything T (member_accessible L site.file site.bodies m how.through)
        (λ ok. and_then (signature_of L m) (λ s. and_then (applied site i.at (text_of site.names i.id.0) as' s (with_call site how i m ok ds)) (λ r. done (call_type (is_faulty_call site how m ok) r.0, r.1))))
        (accessible_asks site count is m how.through h)
        (λ ok u. then_asks L count (IsSignatureIn L) T (signature_of L m) (λ s. and_then (applied site i.at (text_of site.names i.id.0) as' s (with_call site how i m ok ds)) (λ r. done (call_type (is_faulty_call site how m ok) r.0, r.1)))
        (signatures_ask_in L count m (member_is_listed L METH m k))
        (λ s e. then_asks L count O T (applied site i.at (text_of site.names i.id.0) as' s (with_call site how i m ok ds)) (λ r. done (call_type (is_faulty_call site how m ok) r.0, r.1))
        (applied_asks i.at (text_of site.names i.id.0) as' s (with_call site how i m ok ds) given e)
        (λ r f. done_asks L count T (call_type (is_faulty_call site how m ok) r.0, r.1) (call_type_in (is_faulty_call site how m ok) r.0 f))))

    bad_call_asks : (i : Ident) (code : ℕ) (ds : List DiagOf) → AsksIn L count T (bad_call site i code ds)
    bad_call_asks i code ds = done_asks L count T (bad_type, with_named site i code ds) tt

    called_of_asks : (how : Manner) (i : Ident) (ms : List Scope) (ds : List DiagOf) → IsMannerIn how → All (IsMethodScope L) ms → AsksIn L count T (called_of site how i as' ms ds)
    called_of_asks how i [] ds h k = bad_call_asks i UNKNOWN_METHOD ds
    called_of_asks how i (m ∷ ms) ds h k =
        then_asks L count (IsMethodScope L) T (chosen L m ms) (λ n. method_called site how i as' n ds) (chosen_asks L count m ms k) (λ n e. method_called_asks how i n ds h e)

    called_among_asks : (how : Manner) (i : Ident) (e : Ends) (ds : List DiagOf) → IsMannerIn how → EndsOnly (IsMethodScope L) e → AsksIn L count T (called_among site how i as' e ds)
    called_among_asks how i TooMany ds h k = bad_call_asks i TOO_MANY_PATHS ds
    called_among_asks how i (Scopes ms) ds h k = called_of_asks how i ms ds h k

    class_call_asks : (how : Manner) (c : Scope) (i : Ident) (ds : List DiagOf) → IsMannerIn how → IsTypeScope L c → IsNumberedIdent count i → AsksIn L count T (class_call site how c i as' ds)
    unfolding class_call
    class_call_asks how c i ds h k n =
        then_asks L count (EndsOnly (IsMethodScope L)) T (class_methods L c i.id) (λ e. called_among site how i as' e ds) (class_methods_asks L count is.named.linked c i.id k n) (λ e f. called_among_asks how i e ds h f)

    base_call_asks : (b : TypeBase) (i : Ident) (ds : List DiagOf) → IsBaseIn L b → IsNumberedIdent count i → AsksIn L count T (base_call site b i as' ds)
    base_call_asks (Class c) i ds h n = class_call_asks (through c) c i ds h h n
    base_call_asks Boolean i ds h n = bad_call_asks i UNKNOWN_METHOD ds
    base_call_asks Char i ds h n = bad_call_asks i UNKNOWN_METHOD ds
    base_call_asks Int i ds h n = bad_call_asks i UNKNOWN_METHOD ds
    base_call_asks Long i ds h n = bad_call_asks i UNKNOWN_METHOD ds
    base_call_asks Null i ds h n = bad_call_asks i UNKNOWN_METHOD ds
    base_call_asks Void i ds h n = bad_call_asks i UNKNOWN_METHOD ds
    base_call_asks Bad i ds h n = done_asks L count T (bad_type, ds) tt

    value_call_asks : (t : Ty) (i : Ident) (ds : List DiagOf) → IsTyIn L t → IsNumberedIdent count i → AsksIn L count T (value_call site t i as' ds)
    value_call_asks t i ds h n =
        let object : IsTypeScope L (object_scope L) = object_is_type L site.class is.class in
        cond_asks L count T (nat_lt 0 t.dims && not (is_bad t)) (class_call site (through (object_scope L)) (object_scope L) i as' ds) (base_call site t.base i as' ds)
        (class_call_asks (through (object_scope L)) (object_scope L) i ds object object n) (base_call_asks t.base i ds h n)

    pub front_call_asks : (f : Front) (i : Ident) (ds : List DiagOf) → IsFrontIn L f → IsNumberedIdent count i → AsksIn L count T (front_call site f i as' ds)
    unfolding front_call
    front_call_asks (ValueFront v) i ds h n = value_call_asks v.ty i ds h n
    front_call_asks (TypeFront t) i ds h n = class_call_asks (record { through = Some t; free = false; concrete = false; on_value = false }) t i ds h h n

    bare_among_asks : (b : Scope) (i : Ident) (ds : List DiagOf) (next : Checking Ty) (e : Ends) → EndsOnly (IsMethodScope L) e → AsksIn L count T next → AsksIn L count T (bare_among site b i as' ds next e)
    bare_among_asks b i ds next TooMany h k = bad_call_asks i TOO_MANY_PATHS ds
    bare_among_asks b i ds next (Scopes []) h k = k
    bare_among_asks b i ds next (Scopes (m ∷ ms)) h k = called_of_asks (record { through = None; free = has_instance site b; concrete = false; on_value = false }) i (m ∷ ms) ds tt h

    imported_among_asks : (i : Ident) (ds : List DiagOf) (next : Checking Ty) (e : Ends) → EndsOnly (IsMethodScope L) e → AsksIn L count T next → AsksIn L count T (imported_among site i as' ds next e)
    imported_among_asks i ds next TooMany h k = bad_call_asks i TOO_MANY_PATHS ds
    imported_among_asks i ds next (Scopes []) h k = k
    imported_among_asks i ds next (Scopes (m ∷ [])) h k = method_called_asks imported i m ds tt (All-head (IsMethodScope L) m [] h)
    imported_among_asks i ds next (Scopes (m ∷ n ∷ ms)) h k = bad_call_asks i AMBIGUOUS_NAME ds

    -- of the methods of a name that single imports bring, or that those on demand bring
    brought_methods_ask : (all : Bool) (i : Ident) → IsNumberedIdent count i → AsksIn L count (EndsOnly (IsMethodScope L)) (static_members L site.file all Methods i.id)
    brought_methods_ask all i n =
        of_names L count (EndsOnly (IsMethodScope L)) (static_members L site.file all Methods i.id) (statics_stay_in L count site.file all Methods i.id is.named n)

    imported_call_asks : (i : Ident) (ds : List DiagOf) → IsNumberedIdent count i → AsksIn L count T (imported_call site i as' ds)
    unfolding imported_call
    imported_call_asks i ds n =
        let last : Checking Ty = bad_call site i UNKNOWN_METHOD ds in
        let further : Checking Ty = and_then (static_members L site.file true Methods i.id) (imported_among site i as' ds last) in
        then_asks L count (EndsOnly (IsMethodScope L)) T (static_members L site.file false Methods i.id) (imported_among site i as' ds further) (brought_methods_ask false i n)
        (λ e f. imported_among_asks i ds further e f
        (then_asks L count (EndsOnly (IsMethodScope L)) T (static_members L site.file true Methods i.id) (imported_among site i as' ds last) (brought_methods_ask true i n)
        (λ e f. imported_among_asks i ds last e f (bad_call_asks i UNKNOWN_METHOD ds))))

    bare_in_asks : (bs : List Scope) (i : Ident) (ds : List DiagOf) → AreTypes L bs → IsNumberedIdent count i → AsksIn L count T (bare_in site bs i as' ds)
    bare_in_asks [] i ds h n = imported_call_asks i ds n
    bare_in_asks (b ∷ bs) i ds h n =
        then_asks L count (EndsOnly (IsMethodScope L)) T (methods L b i.id) (bare_among site b i as' ds (bare_in site bs i as' ds)) (methods_asks L count is.named.linked b i.id (All-head (IsTypeScope L) b bs h) n)
        (λ e f. bare_among_asks b i ds (bare_in site bs i as' ds) e f (bare_in_asks bs i ds (All-tail (IsTypeScope L) b bs h) n))

    pub bare_call_asks : (i : Ident) (ds : List DiagOf) → IsNumberedIdent count i → AsksIn L count T (bare_call site i as' ds)
    unfolding bare_call
    bare_call_asks i ds n = bare_in_asks site.bodies i ds is.bodies n

    -- ---- `super`

    above_asks : AsksIn L count (IsTypeScope L) (superclass L site.class site.extends)
    above_asks = superclasses_ask_in L count site.class site.extends is.named is.class is.extends

    above_call_asks : (i : Ident) (ds : List DiagOf) → IsNumberedIdent count i → AsksIn L count T (above_call site i as' ds)
    unfolding above_call
    above_call_asks i ds n =
        then_asks L count (IsTypeScope L) T (superclass L site.class site.extends) (λ s. class_call site (record { through = None; free = true; concrete = true; on_value = false }) s i as' ds) above_asks
        (λ s e. class_call_asks (record { through = None; free = true; concrete = true; on_value = false }) s i ds tt e n)

    pub super_call_asks : (at : ℕ) (i : Ident) (ds : List DiagOf) → IsNumberedIdent count i → AsksIn L count T (super_call site at i as' ds)
    unfolding super_call
    super_call_asks at i ds n =
        cond_asks L count T (is_interface_of L site.class) (done (bad_type, bad_super site at ds)) (and_then (above_call site i as' (with_super site at ds)) (λ r. done (cond (has_this site) r.0 bad_type, r.1)))
        (done_asks L count T (bad_type, bad_super site at ds) tt)
        (then_asks L count T T (above_call site i as' (with_super site at ds)) (λ r. done (cond (has_this site) r.0 bad_type, r.1)) (above_call_asks i (with_super site at ds) n)
        (λ r e. done_asks L count T (cond (has_this site) r.0 bad_type, r.1) (cond_keeps (IsTyIn L) (has_this site) r.0 bad_type e tt)))

    -- ---- constructors

    abbrev IsCtor : Option Scope → Type 0
    IsCtor o = IfSome o (IsMemberScope L CTOR)

    ctor_called_asks : (t : Option Scope) (c : Scope) (at : ℕ) (o : Option Scope) (ds : List DiagOf) → IfSome t (IsTypeScope L) → IsCtor o → AsksIn L count IsAnything (ctor_called site t c at as' o ds)
    ctor_called_asks t c at None ds h k = done_asks L count IsAnything (true, ds) tt
    ctor_called_asks t c at (Some m) ds h k =
        then_asks L count IsAnything IsAnything (member_accessible L site.file site.bodies m t)
        (λ ok. and_then (signature_of L m) (λ s. and_then (applied site at (class_text site c) as' s (with_fault_if (not ok) site at INACCESSIBLE_MEMBER (class_text site c ∷ []) ds)) (λ r. done (ok && is_some r.0, r.1))))
        (accessible_asks site count is m t h)
        (λ ok u. then_asks L count (IsSignatureIn L) IsAnything (signature_of L m) (λ s. and_then (applied site at (class_text site c) as' s (with_fault_if (not ok) site at INACCESSIBLE_MEMBER (class_text site c ∷ []) ds)) (λ r. done (ok && is_some r.0, r.1)))
        (signatures_ask_in L count m (member_is_listed L CTOR m k))
        (λ s e. then_asks L count O IsAnything (applied site at (class_text site c) as' s (with_fault_if (not ok) site at INACCESSIBLE_MEMBER (class_text site c ∷ []) ds)) (λ r. done (ok && is_some r.0, r.1))
        (applied_asks at (class_text site c) as' s (with_fault_if (not ok) site at INACCESSIBLE_MEMBER (class_text site c ∷ []) ds) given e)
        (λ r f. done_asks L count IsAnything (ok && is_some r.0, r.1) tt)))

    ctor_call_asks : (t : Option Scope) (c : Scope) (at : ℕ) (ds : List DiagOf) → IfSome t (IsTypeScope L) → IsTypeScope L c → AsksIn L count IsAnything (ctor_call site t c at as' ds)
    unfolding ctor_call
    ctor_call_asks t c at ds h k =
        then_asks L count IsCtor IsAnything (ctor_of L c) (λ o. ctor_called site t c at as' o ds) (ctors_ask_in L count c k) (λ o e. ctor_called_asks t c at o ds h e)

    new_class_asks : (c : Scope) (at : ℕ) (ds : List DiagOf) → IsTypeScope L c → AsksIn L count T (new_class site c at as' ds)
    unfolding new_class
    new_class_asks c at ds h =
        then_asks L count IsAnything T (ctor_call site (Some c) c at as' (with_fault_if (is_abstract_class site c) site at ABSTRACT (class_text site c ∷ []) ds))
        (λ called. and_then (has_enclosing L site.instances c (owner_scope L c)) (λ enclosed. done (unless_faulty (is_abstract_class site c || not (called.0 && enclosed)) (class_type c), with_enclosing enclosed site at c called.1)))
        (ctor_call_asks (Some c) c at (with_fault_if (is_abstract_class site c) site at ABSTRACT (class_text site c ∷ []) ds) h h)
        (λ called u. then_asks L count IsAnything T (has_enclosing L site.instances c (owner_scope L c)) (λ enclosed. done (unless_faulty (is_abstract_class site c || not (called.0 && enclosed)) (class_type c), with_enclosing enclosed site at c called.1))
        (instances_ask_in L count site.instances c (owner_scope L c) is.instances)
        (λ enclosed e. done_asks L count T (unless_faulty (is_abstract_class site c || not (called.0 && enclosed)) (class_type c), with_enclosing enclosed site at c called.1)
        (unless_in site count (is_abstract_class site c || not (called.0 && enclosed)) (class_type c) h)))

    pub new_meant_asks : (m : Meaning) (at : ℕ) (ds : List DiagOf) → MeansOnly (IsMeant L TypeName) m → AsksIn L count T (new_meant site m at as' ds)
    new_meant_asks (One c) at ds h = new_class_asks c at ds h
    new_meant_asks Nothing at ds h = done_asks L count T (bad_type, ds) tt
    new_meant_asks Ambiguous at ds h = done_asks L count T (bad_type, ds) tt
    new_meant_asks TooManyTypes at ds h = done_asks L count T (bad_type, ds) tt

    super_ctor_asks : (s : Scope) (at : ℕ) (ds : List DiagOf) → IsTypeScope L s → AsksIn L count IsAnything (super_ctor site s at as' ds)
    unfolding super_ctor
    super_ctor_asks s at ds h =
        then_asks L count IsAnything IsAnything (ctor_call site None s at as' ds)
        (λ called. and_then (has_enclosing L (instance_bodies L site.class) s (owner_scope L s)) (λ enclosed. done (with_enclosing enclosed site at s called.1)))
        (ctor_call_asks None s at ds tt h)
        (λ called u. then_asks L count IsAnything IsAnything (has_enclosing L (instance_bodies L site.class) s (owner_scope L s)) (λ enclosed. done (with_enclosing enclosed site at s called.1))
        (instances_ask_in L count (instance_bodies L site.class) s (owner_scope L s) (instance_bodies_are_types L site.class is.named.linked is.class))
        (λ enclosed e. done_asks L count IsAnything (with_enclosing enclosed site at s called.1) tt))

    pub super_called_asks : (at : ℕ) (ds : List DiagOf) → AsksIn L count IsAnything (super_called site at as' ds)
    unfolding super_called
    super_called_asks at ds =
        then_asks L count (IsTypeScope L) IsAnything (superclass L site.class site.extends) (λ s. cond (is_interface_of L s) (done ds) (super_ctor site s at as' ds)) above_asks
        (λ s e. cond_asks L count IsAnything (is_interface_of L s) (done ds) (super_ctor site s at as' ds) (done_asks L count IsAnything ds tt) (super_ctor_asks s at ds e))

  above_field_asks : (i : Ident) (ds : List DiagOf) → IsNumberedIdent count i → AsksIn L count (IsFirstValueIn L) (above_field site i ds)
  unfolding above_field
  above_field_asks i ds n =
      then_asks L count (IsTypeScope L) (IsFirstValueIn L) (superclass L site.class site.extends) (λ s. class_field site None false s i ds)
      (superclasses_ask_in L count site.class site.extends is.named is.class is.extends)
      (λ s e. class_field_asks site count is None false s i ds tt e n)

  pub super_field_asks : (at : ℕ) (i : Ident) (ds : List DiagOf) → IsNumberedIdent count i → AsksIn L count (IsFirstValueIn L) (super_field site at i ds)
  unfolding super_field
  super_field_asks at i ds n =
      cond_asks L count (IsFirstValueIn L) (is_interface_of L site.class) (done (bad_value, bad_super site at ds)) (and_then (above_field site i (with_super site at ds)) (λ v. done (cond (has_this site) v.0 bad_value, v.1)))
      (done_asks L count (IsFirstValueIn L) (bad_value, bad_super site at ds) tt)
      (then_asks L count (IsFirstValueIn L) (IsFirstValueIn L) (above_field site i (with_super site at ds)) (λ v. done (cond (has_this site) v.0 bad_value, v.1)) (above_field_asks i (with_super site at ds) n)
      (λ v e. done_asks L count (IsFirstValueIn L) (cond (has_this site) v.0 bad_value, v.1) (cond_keeps (λ (x : Value). IsTyIn L x.ty) (has_this site) v.0 bad_value e tt)))
