-- All that is checked of a type's members asks queries of the layout, whatever the answers.
use Rattle.std.proofs.Common.{ℕ, ◌<◌, ◌||◌, not, nat_lt, Bool, true, false, cond, IfSome, List, [], ◌∷◌, Option, Some, None, length, fold, arith}
use Rattle.std.specs.List.{All, Contains, filter}
use Rattle.std.proofs.lemmas.List.Elements.{All-nil, All-cons, All-head, All-map, All-tail, All-weaker, All-contains, All-contains_itself, All-filter}
use Rattle.sg_base.specs.declared.scope.Scope.{Scope}
use Rattle.sg_base.specs.Scope.{is_scope, scope_cmp}
use Rattle.sg_query.specs.declared.query.Query.{Query}
use Rattle.sg_reading.specs.Reading.{done, AllAsked, AllEnds, and_then, each}
use Rattle.sg_reading.proofs.Asking.{AllAsked-more, AllEnds-more, and_then-asked, and_then-asked_where, each-asked, each-ends}
use Rattle.sg_state.specs.Held.{put}
use Rattle.jv_diag.specs.declared.codes.TheConstants.{OTHER_RESULT, OVERLOADED, OVERRIDES_FINAL, STATIC_AND_INSTANCE, WEAKER_ACCESS}
use Rattle.jv_instance.specs.declared.labels.TheConstants.{METH, CTOR}
use Rattle.jv_instance.specs.declared.pred.JavaPred.{JavaPred}
use Rattle.jv_instance.specs.declared.ty.Ty.{Ty}
use Rattle.jv_layout.specs.Duplicates.{is_duplicate}
use Rattle.jv_layout.specs.Folder.{LayoutOf}
use Rattle.jv_layout.specs.Linked.{IsLinked}
use Rattle.jv_layout.specs.Readers.{file_of, is_final_of, is_interface_of, members_of, object_scope, owner_scope}
use Rattle.jv_tree.specs.declared.name.Ident.{Ident}
use Rattle.jv_tree.specs.declared.names.NameId.{NameId}
use Rattle.jv_tree.specs.DeclTree.{type_decl}
use Rattle.jv_tree.specs.Numbered.{AreNumberedNames}
use Rattle.jv_names.specs.declared.counts.Counts.TheVariants.{Methods}
use Rattle.jv_names.specs.declared.ends.Ends.{Ends}
use Rattle.jv_names.specs.declared.ends.Ends.TheVariants.{Scopes, TooMany as TooManyEnds}
use Rattle.jv_names.specs.declared.kinds.TheConstants.{METHODS, ABOVE}
use Rattle.jv_names.specs.Access.{member_accessible}
use Rattle.jv_names.specs.Bodies.{member_bodies}
use Rattle.jv_names.specs.Bounds.{IsNamedIn, IsNameQuery, IsListed, IsTypeScope, IsTyIn, IsReadIn, IsMemberScope, EndsOnly}
use Rattle.jv_names.specs.Chosen.{fits_all}
use Rattle.jv_names.specs.Instances.{instance_bodies, has_enclosing}
use Rattle.jv_names.specs.Members.{find_ends, is_method_named, members_among, object_methods}
use Rattle.jv_names.specs.Replies.{Rule, for_any, for_name}
use Rattle.jv_names.specs.Superclass.{superclass}
use Rattle.jv_names.proofs.Bounds.{answer_ends_sought, bodies_are_types, member_accessible_stays, members_among_stay_in}
use Rattle.jv_names.proofs.Listed.{member_is_listed, members_listed, type_is_listed}
use Rattle.jv_names.proofs.ReadBounds.{Asked, signature_given, ctor_found, name_asked, cond_asked, signature_asks, find_asks, ctor_asks, fits_all_asks, result_asks, superclass_asks, superclass_found, enclosing_asks, instance_bodies_are_types}
use Rattle.jv_member.specs.Bounds.{IsNumberedOwn, MembersAskInLayout}
use Rattle.jv_member.specs.Constructors.{call_at, call_diags, call_of, calls_at, can_call, ctor_rule, only_class, takes_some}
use Rattle.jv_member.specs.Declaration.{joined}
use Rattle.jv_member.specs.Members.{Placed, check_by, member_calls, member_overrides, overrides, placed}
use Rattle.jv_member.specs.Overriding.{against, all_groups, code_diags, concrete_codes, declares_one, default_codes, first_concrete, group_diags, group_rule, groups_of, inherited_rule, is_other, is_weaker, meeting, meeting_code, meeting_codes, meets, met_codes, method_rule, on_whole, overriding, overriding_code, params_differ, results_of, signature_among, some_fits, static_differs, weaker_or_other, whole_methods, with_objects}
use Rattle.jv_member.specs.Own.{OwnMember, own_field, own_method, own_ctor, default_ctor, own_members}
use Rattle.jv_names.specs.Read.{SignatureOf, ctor_of, is_whole, result_fits, same_types, signature_of}
use Rattle.jv_member.proofs.Bounds.{own_members_are_numbered}
use Rattle.jv_member.proofs.GroupsListed.{IsGrouped, groups_all, puts_all}

-- ---- what answers tell

module _ (l : LayoutOf) where
  -- the result of a signature, where there is one, has a type of the layout as its base, or no class
  abbrev HasResultIn : SignatureOf → Type 0
  HasResultIn s = IsTyIn l s.result

  abbrev IsGivenIn : Option SignatureOf → Type 0
  IsGivenIn o = IfSome o HasResultIn

  has_result : (o : Option SignatureOf) → IfSome o (IsReadIn l) → IsGivenIn o
  has_result None h = tt
  has_result (Some s) h = h.0

  result_given : (m : Scope) → AllEnds IsGivenIn (signature_of l m)
  result_given m = AllEnds-more (λ (o : Option SignatureOf). IfSome o (IsReadIn l)) IsGivenIn (signature_of l m) has_result (signature_given l m)

  -- methods that are ends are listed
  listed_ends : (e : Ends) → EndsOnly (IsMemberScope l METH) e → EndsOnly (IsListed l) e
  listed_ends (Scopes ss) h = All-weaker (IsMemberScope l METH) (IsListed l) (member_is_listed l METH) ss h
  listed_ends TooManyEnds h = tt

  methods_found : (q : Query JavaPred) → AllEnds (EndsOnly (IsMemberScope l METH)) (find_ends l Methods q)
  unfolding find_ends
  methods_found q = λ a. answer_ends_sought l Methods a

  -- and so is a constructor
  listed_ctor : (o : Option Scope) → IfSome o (IsMemberScope l CTOR) → IfSome o (IsListed l)
  listed_ctor None h = tt
  listed_ctor (Some k) h = member_is_listed l CTOR k h

  ctor_listed : (c : Scope) → AllEnds (λ (o : Option Scope). IfSome o (IsListed l)) (ctor_of l c)
  ctor_listed c = AllEnds-more (λ (o : Option Scope). IfSome o (IsMemberScope l CTOR)) (λ (o : Option Scope). IfSome o (IsListed l)) (ctor_of l c) listed_ctor (ctor_found l c)

  -- ---- signatures of several methods

  -- the result of the signature of a method
  abbrev HasFit : Scope × SignatureOf → Type 0
  HasFit w = HasResultIn w.1

  whole_fit : (ms : List Scope) (ss : List (Option SignatureOf)) → All IsGivenIn ss → All HasFit (whole_methods ms ss)
  whole_fit [] ss h = All-nil HasFit
  whole_fit (m ∷ ms) [] h = All-nil HasFit
  whole_fit (m ∷ ms) (None ∷ ss) h = whole_fit ms ss (All-tail IsGivenIn None ss h)
  whole_fit (m ∷ ms) (Some s ∷ ss) h =
      elim (is_whole s) as (λ (b : Bool). All HasFit (cond b ((m, s) ∷ whole_methods ms ss) (whole_methods ms ss))) [
        | true ↦ All-cons HasFit (m, s) (whole_methods ms ss) (All-head IsGivenIn (Some s) ss h) (whole_fit ms ss (All-tail IsGivenIn (Some s) ss h))
        | false ↦ whole_fit ms ss (All-tail IsGivenIn (Some s) ss h)
      ]

  among_given : (m : Scope) (ws : List (Scope × SignatureOf)) → All HasFit ws → IsGivenIn (signature_among m ws)
  among_given m [] h = tt
  among_given m (w ∷ ws) h =
      elim (is_scope m w.0) as (λ (b : Bool). IsGivenIn (cond b (Some w.1) (signature_among m ws))) [
        | true ↦ All-head HasFit w ws h
        | false ↦ among_given m ws (All-tail HasFit w ws h)
      ]

-- ---- what rules ask

module _ (l : LayoutOf) (count : ℕ) where
  -- ---- pairs of methods

  weaker_asks : (m k : Scope) (a b : SignatureOf) → IsTyIn l a.result → AllAsked (Asked l count) (weaker_or_other l m k a b)
  weaker_asks m k a b h =
      cond_asked l count (is_weaker l m k) (done (Some WEAKER_ACCESS)) (and_then (result_fits l a.result b.result) (λ ok. done (cond ok None (Some OTHER_RESULT)))) tt
      (and_then-asked (Asked l count) (result_fits l a.result b.result) (λ ok. done (cond ok None (Some OTHER_RESULT))) (result_asks l count a.result b.result h) (λ ok. tt))

  overriding_code_asks : (m k : Scope) (a b : SignatureOf) → IsTyIn l a.result → AllAsked (Asked l count) (overriding_code l m k a b)
  overriding_code_asks m k a b h =
      cond_asked l count (not (same_types a.params b.params)) (done (Some OVERLOADED)) _ tt
      (cond_asked l count (static_differs l m k) (done (Some STATIC_AND_INSTANCE)) _ tt (cond_asked l count (is_final_of l k) (done (Some OVERRIDES_FINAL)) (weaker_or_other l m k a b) tt (weaker_asks m k a b h)))

  meeting_code_asks : (m k : Scope) (a b : SignatureOf) → IsTyIn l a.result → AllAsked (Asked l count) (meeting_code l m k a b)
  meeting_code_asks m k a b h = cond_asked l count (static_differs l m k) (done (Some STATIC_AND_INSTANCE)) (weaker_or_other l m k a b) tt (weaker_asks m k a b h)

  on_whole_asks : (a b : Option SignatureOf) (f : SignatureOf → SignatureOf → Rule (Option ℕ)) → IsGivenIn l a → ((x y : SignatureOf) → IsTyIn l x.result → AllAsked (Asked l count) (f x y)) → AllAsked (Asked l count) (on_whole a b f)
  on_whole_asks None b f h k = tt
  on_whole_asks (Some a) None f h k = tt
  on_whole_asks (Some a) (Some b) f h k = cond_asked l count _ (f a b) (done None) (k a b h) tt

  overriding_asks : (m k : Scope) → IsListed l m → IsListed l k → AllAsked (Asked l count) (overriding l m k)
  unfolding overriding
  overriding_asks m k h j =
      and_then-asked_where (Asked l count) (IsGivenIn l) (signature_of l m) (λ a. and_then (signature_of l k) (λ b. on_whole a b (overriding_code l m k))) (signature_asks l count m h) (result_given l m)
      (λ a given. and_then-asked (Asked l count) (signature_of l k) (λ b. on_whole a b (overriding_code l m k)) (signature_asks l count k j)
      (λ b. on_whole_asks a b (overriding_code l m k) given (overriding_code_asks m k)))

  -- ---- methods that a type declares

  objects_listed : (c : Scope) (n : NameId) (ks : List Scope) → All (IsListed l) ks → All (IsListed l) (with_objects l c n ks)
  objects_listed c n ks h =
      elim (is_interface_of l c) as (λ (b : Bool). All (IsListed l) (cond b (fold (put scope_cmp) ks (object_methods l n)) ks)) [
        | true ↦ puts_all (IsListed l) scope_cmp (object_methods l n) ks h (All-filter (is_method_named l n) (IsListed l) (members_of l (object_scope l)) (members_listed l (object_scope l)))
        | false ↦ h
      ]

  against_asks : (names : List (List ℕ)) (c : Scope) (type : Ident) (m : Scope) (i : Ident) (e : Ends) → IsListed l m → EndsOnly (IsListed l) e → AllAsked (Asked l count) (against l names c type m i e)
  against_asks names c type m i TooManyEnds h k = tt
  against_asks names c type m i (Scopes ks) h k =
      and_then-asked (Asked l count) (each (overriding l m) (with_objects l c i.id ks)) (λ codes. done (code_diags l names c i i.id codes))
      (each-asked (Asked l count) (overriding l m) (with_objects l c i.id ks) (λ x within. overriding_asks m x h (All-contains (IsListed l) (with_objects l c i.id ks) x (objects_listed c i.id ks k) within)))
      (λ codes. tt)

  method_rule_asks : (names : List (List ℕ)) (c : Scope) (type : Ident) (m : Scope) (i : Ident) → IsTypeScope l c → IsListed l m → i.id.0 < count → AllAsked (Asked l count) (method_rule l names c type m i)
  unfolding method_rule
  method_rule_asks names c type m i is h numbered =
      and_then-asked_where (Asked l count) (EndsOnly (IsMemberScope l METH)) (find_ends l Methods (for_name ABOVE c i.id)) (against l names c type m i)
      (find_asks l count Methods (for_name ABOVE c i.id) (record { start = type_is_listed l c is; kind = omega arith; pred = numbered }))
      (methods_found l (for_name ABOVE c i.id))
      (λ e found. against_asks names c type m i e h (listed_ends l e found))

  -- ---- methods that meet

  some_asks : (all ts : List Ty) → All (IsTyIn l) ts → AllAsked (Asked l count) (some_fits l all ts)
  some_asks all [] h = tt
  some_asks all (t ∷ ts) h =
      and_then-asked (Asked l count) (fits_all l t all) (λ ok. cond ok (done true) (some_fits l all ts)) (fits_all_asks l count t all (All-head (IsTyIn l) t ts h))
      (λ ok. cond_asked l count ok (done true) (some_fits l all ts) tt (some_asks all ts (All-tail (IsTyIn l) t ts h)))

  concrete_asks : (m : Scope) (o : Option SignatureOf) (ws : List (Scope × SignatureOf)) → IsGivenIn l o → AllAsked (Asked l count) (concrete_codes l m o ws)
  concrete_asks m None ws h = tt
  concrete_asks m (Some s) ws h = each-asked (Asked l count) (meets l m s) (filter (is_other m) ws) (λ w c. meeting_code_asks m w.0 s w.1 h)

  met_asks : (ms members : List Scope) (o : Option Scope) (ws : List (Scope × SignatureOf)) → All (HasFit l) ws → AllAsked (Asked l count) (met_codes l ms members o ws)
  met_asks ms members None ws h =
      cond_asked l count _ (and_then (some_fits l (results_of ws) (results_of ws)) (λ ok. done (cond ok (default_codes l members) (Some OTHER_RESULT ∷ [])))) (done (default_codes l members))
      (and_then-asked (Asked l count) (some_fits l (results_of ws) (results_of ws)) (λ ok. done (cond ok (default_codes l members) (Some OTHER_RESULT ∷ []))) (some_asks (results_of ws) (results_of ws) (All-map (IsTyIn l) (λ w. w.1.result) ws h)) (λ ok. tt)) tt
  met_asks ms members (Some m) ws h = concrete_asks m (signature_among m ws) ws (among_given l m ws h)

  meeting_asks : (c : Scope) (ms members : List Scope) → All (IsListed l) ms → AllAsked (Asked l count) (meeting l c ms members)
  unfolding meeting
  meeting_asks c ms members h =
      cond_asked l count (declares_one l c ms || nat_lt (length ms) 2) (done []) (and_then (each (signature_of l) ms) (λ ss. meeting_codes l ms members (whole_methods ms ss))) tt
      (and_then-asked_where (Asked l count) (λ ss. (o : Option SignatureOf) → Contains ss o → IsGivenIn l o) (each (signature_of l) ms) (λ ss. meeting_codes l ms members (whole_methods ms ss))
      (each-asked (Asked l count) (signature_of l) ms (λ m k. signature_asks l count m (All-contains (IsListed l) ms m h k)))
      (each-ends (IsGivenIn l) (signature_of l) ms (λ m k. result_given l m))
      (λ ss given. cond_asked l count (params_differ (whole_methods ms ss)) (done (Some OVERLOADED ∷ [])) (met_codes l ms members (first_concrete l ms) (whole_methods ms ss)) tt
      (met_asks ms members (first_concrete l ms) (whole_methods ms ss) (whole_fit l ms ss (All-weaker (Contains ss) (IsGivenIn l) given ss (All-contains_itself ss))))))

  all_methods_ask : (c : Scope) → IsTypeScope l c → AllAsked (Asked l count) (find_ends l Methods (for_any METHODS c))
  all_methods_ask c is = find_asks l count Methods (for_any METHODS c) (record { start = type_is_listed l c is; kind = omega arith; pred = tt })

  module _ (names : List (List ℕ)) (c : Scope) (type : Ident) where
    -- a scope is a method
    abbrev IsMethod : Scope → Type 0
    IsMethod = IsMemberScope l METH

    group_asks : IsLinked l → (g : NameId × List Scope) → All IsMethod g.1 → AllAsked (Asked l count) (group_rule l names c type g)
    unfolding group_rule
    group_asks linked g h =
        and_then-asked (Asked l count) (members_among l g.1) (λ members. and_then (meeting l c g.1 members) (λ codes. done (group_diags l names c type g.0 members codes)))
        (AllAsked-more (IsNameQuery l count) (Asked l count) (members_among l g.1) (name_asked l count) (members_among_stay_in l count g.1 linked h).asks)
        (λ members. and_then-asked (Asked l count) (meeting l c g.1 members) (λ codes. done (group_diags l names c type g.0 members codes))
        (meeting_asks c g.1 members (All-weaker IsMethod (IsListed l) (member_is_listed l METH) g.1 h)) (λ codes. tt))

    groups_ask : IsLinked l → (e : Ends) → EndsOnly IsMethod e → AllAsked (Asked l count) (all_groups l names c type e)
    groups_ask linked TooManyEnds h = tt
    groups_ask linked (Scopes ms) h =
        and_then-asked (Asked l count) (each (group_rule l names c type) (groups_of l ms)) (λ ds. done (joined ds))
        (each-asked (Asked l count) (group_rule l names c type) (groups_of l ms) (λ g k. group_asks linked g (All-contains (IsGrouped IsMethod l) (groups_of l ms) g (groups_all IsMethod l ms [] (All-nil (IsGrouped IsMethod l)) h) k)))
        (λ ds. tt)

    pub inherited_asks : IsLinked l → IsTypeScope l c → AllAsked (Asked l count) (inherited_rule l names c type)
    unfolding inherited_rule
    inherited_asks linked is =
        and_then-asked_where (Asked l count) (EndsOnly IsMethod) (find_ends l Methods (for_any METHODS c)) (all_groups l names c type)
        (all_methods_ask c is) (methods_found l (for_any METHODS c)) (groups_ask linked)

  -- ---- constructors

  module _ (names : List (List ℕ)) (c : Scope) (named : IsNamedIn l count) (is : IsTypeScope l c) where
    can_call_asks : (k : Option Scope) → IfSome k (IsListed l) → AllAsked (Asked l count) (can_call l c k)
    can_call_asks None h = tt
    can_call_asks (Some k) h =
        and_then-asked (Asked l count) (signature_of l k) (λ s. cond (takes_some s) (done false) (member_accessible l (file_of l c) (member_bodies l c) k None)) (signature_asks l count k h)
        (λ s. cond_asked l count (takes_some s) (done false) (member_accessible l (file_of l c) (member_bodies l c) k None) tt
        (AllAsked-more (IsNameQuery l count) (Asked l count) (member_accessible l (file_of l c) (member_bodies l c) k None) (name_asked l count) (member_accessible_stays l count (file_of l c) (member_bodies l c) k None (bodies_are_types l c named.linked is).1 tt).asks))

    call_asks : (at : ℕ) (s : Scope) → IsTypeScope l s → AllAsked (Asked l count) (call_diags l names c at s)
    unfolding call_diags
    call_asks at s h =
        and_then-asked_where (Asked l count) (λ (o : Option Scope). IfSome o (IsListed l)) (ctor_of l s) _ (ctor_asks l count s (type_is_listed l s h)) (ctor_listed l s)
        (λ k found. and_then-asked (Asked l count) (can_call l c k) _ (can_call_asks k found)
        (λ called. and_then-asked (Asked l count) (has_enclosing l (instance_bodies l c) s (owner_scope l s)) _ (enclosing_asks l count (instance_bodies l c) s (owner_scope l s) (instance_bodies_are_types l c named.linked is)) (λ enclosed. tt)))

    class_asks : (b : Bool) (at : ℕ) (s : Scope) → IsTypeScope l s → AllAsked (Asked l count) (call_of l names c at (cond b None (Some s)))
    class_asks true at s h = tt
    class_asks false at s h = call_asks at s h

    -- what a method is declared over
    pub overrides_ask : (type : Ident) (s : Scope) (m : OwnMember) → IsListed l s → IsNumberedOwn count m → AllAsked (Asked l count) (overrides l names c type s m)
    overrides_ask type s (own_field ms t v) h k = tt
    overrides_ask type s (own_method m) h k = cond_asked l count (is_duplicate l s) (done []) (method_rule l names c type s m.name) tt (method_rule_asks names c type s m.name is h k.1)
    overrides_ask type s (own_ctor m) h k = tt
    overrides_ask type s (default_ctor name) h k = tt

    module _ (extends : List (List Ident)) (numbered : AreNumberedNames count extends) where
      call_at_asks : (at : Option ℕ) → AllAsked (Asked l count) (call_at l names c extends at)
      call_at_asks None = tt
      call_at_asks (Some at) =
          cond_asked l count (is_scope c (object_scope l)) (done []) (and_then (superclass l c extends) (λ s. call_of l names c at (only_class l s))) tt
          (and_then-asked_where (Asked l count) (IsTypeScope l) (superclass l c extends) (λ s. call_of l names c at (only_class l s)) (superclass_asks l count c named is extends numbered) (superclass_found l count c named is extends numbered)
          (λ s h. class_asks (is_interface_of l s) at s h))

      pub ctor_rule_asks : (m : OwnMember) → AllAsked (Asked l count) (ctor_rule l names c extends m)
      unfolding ctor_rule
      ctor_rule_asks m = call_at_asks (calls_at m)

      -- ---- the whole

      -- a member has a scope of the opening, and its identifiers are numbered
      abbrev IsPlacedIn : Placed → Type 0
      IsPlacedIn p = IsListed l p.0 × IsNumberedOwn count p.1

      placed_in : (ss : List Scope) (ms : List OwnMember) → All (IsListed l) ss → All (IsNumberedOwn count) ms → All IsPlacedIn (placed ss ms)
      placed_in [] ms h k = All-nil IsPlacedIn
      placed_in (s ∷ ss) [] h k = All-nil IsPlacedIn
      placed_in (s ∷ ss) (m ∷ ms) h k =
          All-cons IsPlacedIn (s, m) (placed ss ms) (All-head (IsListed l) s ss h, All-head (IsNumberedOwn count) m ms k)
          (placed_in ss ms (All-tail (IsListed l) s ss h) (All-tail (IsNumberedOwn count) m ms k))

      check_asks : (type : Ident) (ps : List Placed) → All IsPlacedIn ps → AllAsked (Asked l count) (check_by l names c type extends ps)
      check_asks type ps h =
          and_then-asked_where (Asked l count) (EndsOnly (IsMemberScope l METH)) (find_ends l Methods (for_any METHODS c)) _ (all_methods_ask c is) (methods_found l (for_any METHODS c))
          (λ ends found. and_then-asked (Asked l count) (each (member_overrides l names c type) ps) _
          (each-asked (Asked l count) (member_overrides l names c type) ps (λ p k. let q = All-contains IsPlacedIn ps p h k in overrides_ask type p.0 p.1 q.0 q.1))
          (λ overs. and_then-asked (Asked l count) (all_groups l names c type ends) _ (groups_ask names c type named.linked ends found)
          (λ meets. and_then-asked (Asked l count) (each (member_calls l names c extends) ps) _ (each-asked (Asked l count) (member_calls l names c extends) ps (λ p k. ctor_rule_asks p.1)) (λ calls. tt))))

-- ---- as a law

pub members_ask_in_layout : MembersAskInLayout
members_ask_in_layout l count names c (type_decl name ms i es is xs) named type h =
    check_asks l count names c named type es h.1 name (placed (members_of l c) (own_members (type_decl name ms i es is xs)))
    (placed_in l count names c named type es h.1 (members_of l c) (own_members (type_decl name ms i es is xs)) (members_listed l c) (own_members_are_numbered count (type_decl name ms i es is xs) h))
