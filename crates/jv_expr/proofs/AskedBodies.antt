-- All that is checked of members' bodies asks queries of the layout, whatever the answers.
use Rattle.std.proofs.Common.{ℕ, Bool, false, List, [], ◌∷◌, ◌++◌, All, Option, Some, None, IfSome}
use Rattle.std.proofs.lemmas.List.Elements.{All-nil, All-cons, All-head, All-tail}
use Rattle.sg_base.specs.declared.scope.Scope.{Scope}
use Rattle.sg_reading.specs.Reading.{done, and_then}
use Rattle.jv_diag.specs.Plain.{DiagOf}
use Rattle.jv_instance.specs.declared.ty.Ty.{Ty}
use Rattle.jv_layout.specs.Folder.{LayoutOf}
use Rattle.jv_layout.specs.Readers.{is_static_of}
use Rattle.jv_tree.specs.declared.name.Ident.{Ident}
use Rattle.jv_tree.specs.ExprTree.{ExprTrees, InitTree}
use Rattle.jv_tree.specs.StmtTree.{StmtTrees, no_stmts, stmts}
use Rattle.jv_tree.specs.DeclTree.{ParamTree, MethodTree, CtorTree}
use Rattle.jv_tree.specs.Numbered.{AreNumberedNames, AreNumberedStmts, IsNumberedBody, IsNumberedCall, IsNumberedCtor, IsNumberedOption}
use Rattle.jv_types.specs.Operators.{bad_type, is_void}
use Rattle.jv_names.specs.Bounds.{AreTypes, AsksIn, IsListed, IsNamedIn, IsTyIn, IsTypeScope}
use Rattle.jv_names.specs.Instances.{instance_bodies}
use Rattle.jv_names.specs.Read.{SignatureOf, signature_of}
use Rattle.jv_names.proofs.Bounds.{bodies_are_types, file_is_one}
use Rattle.jv_names.proofs.ReadBounds.{instance_bodies_are_types, signatures_ask_in}
use Rattle.jv_expr.specs.declared.local.Local.{Local}
use Rattle.jv_expr.specs.Bodies.{body_by, call_site, ctor_body, ctor_rule, field_rule, given_result, has_params, member_instances, member_site, needed_signature, needs_types, optional_body, param_types, params_declared, statements_checked, super_checked}
use Rattle.jv_expr.specs.Bounds.{ConstructorsAskIn, FieldsAskIn, IsAnything, IsSiteIn, MethodsAskIn}
use Rattle.jv_expr.specs.Calls.{super_called}
use Rattle.jv_expr.specs.Fields.{result_of}
use Rattle.jv_expr.specs.Site.{SiteOf}
use Rattle.jv_expr.specs.Statements.{Scoped, checked, declared}
use Rattle.jv_expr.specs.Typed.{arguments_typed, init_typed}
use Rattle.jv_expr.proofs.AskedCalls.{IsArgumentIn, IsSignatureIn, super_called_asks}
use Rattle.jv_expr.proofs.AskedFields.{result_in}
use Rattle.jv_expr.proofs.AskedStatements.{IsScopedIn, checked_asks, declared_in}
use Rattle.jv_expr.proofs.AskedSteps.{cond_asks, cond_keeps, done_asks, then_asks}
use Rattle.jv_expr.proofs.AskedTyped.{AreFirstArgumentsIn, arguments_asks, init_asks}
use Rattle.jv_expr.proofs.AskedVariables.{AreLocalsIn, IsLocalIn}

-- ---- parameters

module _ (l : LayoutOf) where
  param_types_in : (s : Option SignatureOf) → IsSignatureIn l s → All (IsTyIn l) (param_types s)
  param_types_in None h = All-nil (IsTyIn l)
  param_types_in (Some s) h = h.1

  given_in : (s : Option SignatureOf) → IsSignatureIn l s → IfSome (given_result s) (IsTyIn l)
  given_in s h = cond_keeps (λ (o : Option Ty). IfSome o (IsTyIn l)) (is_void (result_of s)) None (Some (result_of s)) tt (result_in l s h)

module _ (site : SiteOf) where
  params_in : (ps : List ParamTree) (ts : List Ty) (vs : List Local) (ds : List DiagOf) → All (IsTyIn site.layout) ts → AreLocalsIn site.layout vs → IsScopedIn site.layout (params_declared site ps ts vs ds)
  params_in [] ts vs ds h k = k
  params_in (p ∷ ps) [] vs ds h k =
      let d : Scoped = declared site p.name bad_type p.is_final vs ds in
      params_in ps [] d.0 d.1 h (declared_in site p.name bad_type p.is_final vs ds tt k)
  params_in (p ∷ ps) (t ∷ ts) vs ds h k =
      let d : Scoped = declared site p.name t p.is_final vs ds in
      params_in ps ts d.0 d.1 (All-tail (IsTyIn site.layout) t ts h) (declared_in site p.name t p.is_final vs ds (All-head (IsTyIn site.layout) t ts h) k)

  -- the parameters of a signature
  signed_in : (ps : List ParamTree) (s : Option SignatureOf) → IsSignatureIn site.layout s → IsScopedIn site.layout (params_declared site ps (param_types s) [] [])
  signed_in ps s h = params_in ps (param_types s) [] [] (param_types_in site.layout s h) (All-nil (IsLocalIn site.layout))

-- ---- places of a type

module _ (l : LayoutOf) (count : ℕ) (names : List (List ℕ)) (c : Scope) (extends : List (List Ident)) (named : IsNamedIn l count) (is : IsTypeScope l c) (numbered : AreNumberedNames count extends) where
  outside : AreTypes l (instance_bodies l c)
  outside = instance_bodies_are_types l c named.linked is

  inside : AreTypes l (c ∷ instance_bodies l c)
  inside = All-cons (IsTypeScope l) c (instance_bodies l c) is outside

  instances_in : (m : Scope) → AreTypes l (member_instances l c m)
  instances_in m = cond_keeps (AreTypes l) (is_static_of l m) (instance_bodies l c) (c ∷ instance_bodies l c) outside inside

  site_in : (instances blanks : List Scope) (o : Option Ty) → AreTypes l instances → IfSome o (IsTyIn l) → IsSiteIn count (member_site l names c extends instances blanks o)
  site_in instances blanks o h k = record {
    named = named;
    file = file_is_one l named.linked c is;
    class = is;
    bodies = (bodies_are_types l c named.linked is).1;
    instances = h;
    extends = numbered;
    result = k;
  }

  -- ---- bodies

  module _ (site : SiteOf) (place : IsSiteIn count site) where
    statements_ask : (xs : StmtTrees) (s : Scoped) → IsScopedIn site.layout s → AreNumberedStmts count xs → AsksIn site.layout count IsAnything (statements_checked site xs s)
    statements_ask no_stmts s h n = done_asks site.layout count IsAnything s.1 tt
    statements_ask (stmts x xs) s h n =
        then_asks site.layout count (IsScopedIn site.layout) IsAnything (checked site false x s.0 []) (λ t. statements_checked site xs (t.0, s.1 ++ t.1)) (checked_asks site count place false x s.0 [] h n.0)
        (λ t e. statements_ask xs (t.0, s.1 ++ t.1) e n.1)

    super_asks : (o : Option (ℕ × ExprTrees)) (s : Scoped) → IsScopedIn site.layout s → IsNumberedCall count o → AsksIn site.layout count (IsScopedIn site.layout) (super_checked site o s)
    super_asks None s h n = done_asks site.layout count (IsScopedIn site.layout) s h
    super_asks (Some x) s h n =
        then_asks site.layout count (AreFirstArgumentsIn site.layout) (IsScopedIn site.layout) (arguments_typed site s.0 x.1 [] s.1) (λ as'. and_then (super_called site x.0 as'.0 as'.1) (λ ds. done (s.0, ds)))
        (arguments_asks site count place s.0 h x.1 [] s.1 (All-nil (IsArgumentIn site.layout)) n)
        (λ as' e. then_asks site.layout count IsAnything (IsScopedIn site.layout) (super_called site x.0 as'.0 as'.1) (λ ds. done (s.0, ds)) (super_called_asks site count place as'.0 e x.0 as'.1)
        (λ ds u. done_asks site.layout count (IsScopedIn site.layout) (s.0, ds) h))

  module _ (m : Scope) (listed : IsListed l m) where
    signature_asks : AsksIn l count (IsSignatureIn l) (signature_of l m)
    signature_asks = signatures_ask_in l count m listed

    needed_asks : (needed : Bool) → AsksIn l count (IsSignatureIn l) (needed_signature l m needed)
    unfolding needed_signature
    needed_asks needed = cond_asks l count (IsSignatureIn l) needed (signature_of l m) (done None) signature_asks (done_asks l count (IsSignatureIn l) None tt)

    field_asks : (x : Option InitTree) → IsNumberedOption count x → AsksIn l count IsAnything (field_rule l names c extends m x)
    field_asks None n = done_asks l count IsAnything [] tt
    field_asks (Some x) n =
        let site : SiteOf = member_site l names c extends (member_instances l c m) [] None in
        then_asks l count (IsSignatureIn l) IsAnything (signature_of l m) (λ s. init_typed site [] (result_of s) x []) signature_asks
        (λ s e. init_asks site count (site_in (member_instances l c m) [] None (instances_in m) tt) [] (All-nil (IsLocalIn l)) (result_of s) x [] n)

    body_asks : (ps : List ParamTree) (xs : StmtTrees) (s : Option SignatureOf) → AreNumberedStmts count xs → IsSignatureIn l s → AsksIn l count IsAnything (body_by l names c extends m ps xs s)
    body_asks ps xs s n e =
        let site : SiteOf = member_site l names c extends (member_instances l c m) [] (given_result s) in
        statements_ask site (site_in (member_instances l c m) [] (given_result s) (instances_in m) (given_in l s e)) xs (params_declared site ps (param_types s) [] []) (signed_in site ps s e) n

    optional_asks : (d : MethodTree) (o : Option StmtTrees) → IsNumberedBody count o → AsksIn l count IsAnything (optional_body l names c extends m d o)
    optional_asks d None n = done_asks l count IsAnything [] tt
    optional_asks d (Some xs) n =
        then_asks l count (IsSignatureIn l) IsAnything (needed_signature l m (needs_types d.params xs)) (λ s. body_by l names c extends m d.params xs s) (needed_asks (needs_types d.params xs)) (λ s e. body_asks d.params xs s n e)

    ctor_body_asks : (blanks : List Scope) (d : CtorTree) (s : Option SignatureOf) → IsNumberedCtor count d → IsSignatureIn l s → AsksIn l count IsAnything (ctor_body l names c extends blanks d s)
    ctor_body_asks blanks d s n e =
        let before : SiteOf = call_site l names c extends in
        let site : SiteOf = member_site l names c extends (c ∷ instance_bodies l c) blanks None in
        then_asks l count (IsScopedIn l) IsAnything (super_checked before d.call (params_declared before d.params (param_types s) [] [])) (λ t. statements_checked site d.body t)
        (super_asks before (site_in (instance_bodies l c) [] None outside tt) d.call (params_declared before d.params (param_types s) [] []) (signed_in before d.params s e) n.2)
        (λ t f. statements_ask site (site_in (c ∷ instance_bodies l c) blanks None inside tt) d.body t f n.3)

    ctor_asks : (blanks : List Scope) (d : CtorTree) → IsNumberedCtor count d → AsksIn l count IsAnything (ctor_rule l names c extends blanks m d)
    ctor_asks blanks d n =
        then_asks l count (IsSignatureIn l) IsAnything (needed_signature l m (has_params d.params)) (λ s. ctor_body l names c extends blanks d s) (needed_asks (has_params d.params)) (λ s e. ctor_body_asks blanks d s n e)

-- ---- as laws

pub fields_ask_in : FieldsAskIn
fields_ask_in l count names c extends m x named is numbered listed n = field_asks l count names c extends named is numbered m listed x n

pub methods_ask_in : MethodsAskIn
methods_ask_in l count names c extends m d named is numbered listed n = optional_asks l count names c extends named is numbered m listed d d.body n.3

pub constructors_ask_in : ConstructorsAskIn
constructors_ask_in l count names c extends blanks m d named is numbered listed n = ctor_asks l count names c extends named is numbered m listed blanks d n
