-- The places of members, and what is checked there.
use Rattle.std.proofs.Common.{◌≡◌, ℕ, List, [], ◌∷◌, Option, Some, None, IfSome, Result, Ok, Err, IfOk, refl, sym, ap, ◌∙◌, subst}
use Rattle.std.specs.Result.{IsErrAnd}
use Rattle.sg_base.specs.declared.scope.Scope.{Scope}
use Rattle.sg_query.specs.declared.answer.Answer.{Answer}
use Rattle.sg_query.specs.declared.query.Query.{Query}
use Rattle.sg_reading.specs.declared.stop.Stop.{Stop}
use Rattle.sg_reading.specs.declared.stop.Stop.TheVariants.{OutOfMemory}
use Rattle.sg_reading.specs.Progress.{HasResidual}
use Rattle.sg_reading.specs.Stop.{Reads}
use Rattle.sg_reading.proofs.Progress.{residual_behind, residual_here, residual_on, residual_reads}
use Rattle.sg_reading.proofs.Steps.{memory_reads, reading_steps, then_err, then_ok}
use Rattle.jv_diag.specs.Plain.{DiagOf}
use Rattle.jv_instance.specs.declared.datum.JavaDatum.{JavaDatum}
use Rattle.jv_instance.specs.declared.pred.JavaPred.{JavaPred}
use Rattle.jv_instance.specs.declared.ty.Ty.{Ty}
use Rattle.jv_layout.specs.Folder.{LayoutOf}
use Rattle.jv_tree.specs.declared.name.Ident.{Ident}
use Rattle.jv_tree.specs.ExprTree.{InitTree}
use Rattle.jv_tree.specs.StmtTree.{StmtTrees}
use Rattle.jv_tree.specs.DeclTree.{ParamTree, CtorTree}
use Rattle.jv_names.specs.Instances.{instance_bodies}
use Rattle.jv_names.specs.Read.{SignatureOf}
use Rattle.jv_names.specs.Replies.{Rule}
use Rattle.jv_expr.specs.declared.begun_body.BegunBody.{BegunBody}
use Rattle.jv_expr.specs.declared.local.Local.{Local}
use Rattle.jv_expr.specs.Bodies.{body_by, ctor_body, ctor_call, ctor_rule, given_result, has_params, member_instances, member_site, needed_signature, needs_types, param_types, params_declared, statements_checked, statements_rule, super_checked}
use Rattle.jv_expr.specs.Fields.{result_of}
use Rattle.jv_expr.specs.Progress.{IsBegun, begun_scope, behind, ctor_statements_left, left_of, method_statements_left, statements_left}
use Rattle.jv_expr.specs.Site.{SiteOf}
use Rattle.jv_expr.specs.Statements.{Scoped}
use Rattle.jv_expr.specs.Typed.{init_typed}
use Rattle.jv_expr.proofs.StatementEnds.{end_steps}
use Rattle.jv_expr.proofs.TopSteps.{begun_left}

-- ---- results

if_ok : {A E : Type 0} (P Q : A → Type 0) (r : Result A E) → ((x : A) → P x → Q x) → IfOk r P → IfOk r Q
if_ok P Q (Ok x) f h = f x h
if_ok P Q (Err e) f h = tt

if_some : {A : Type 0} (P Q : A → Type 0) (o : Option A) → ((x : A) → P x → Q x) → IfSome o P → IfSome o Q
if_some P Q None f h = tt
if_some P Q (Some x) f h = f x h

-- where nothing was begun
pub none_begun : (P : BegunBody → Type 0) (o : Option BegunBody) → o ≡ None → IfSome o P
none_begun P o e = subst (λ (z : Option BegunBody). IfSome z P) (sym e) tt

module _ (reply : Query JavaPred → Option (Answer JavaDatum)) where
  -- how a call ends that begins a body
  module _ (r : Rule Scoped) (e : Stop (Query JavaPred)) (x : Result BegunBody (Stop (Query JavaPred))) (is : IsErrAnd x (λ y. y ≡ e)) where
    pub begun_stops : Reads {U = Scoped} reply r (Err e) → Reads reply r (begun_scope x)
    begun_stops h = by x is
      where
        by : (x : Result BegunBody (Stop (Query JavaPred))) → IsErrAnd x (λ y. y ≡ e) → Reads reply r (begun_scope x)
        by (Ok b) k = absurd k
        by (Err y) k = subst (λ (z : Stop (Query JavaPred)). Reads {U = Scoped} reply r (Err z)) (sym k) h

    pub begun_memory : e ≡ OutOfMemory → Reads reply r (begun_scope x)
    begun_memory h = begun_stops (subst (λ (z : Stop (Query JavaPred)). Reads {U = Scoped} reply r (Err z)) (sym h) (memory_reads reply r))

  -- ---- a rule, and what is left of it

  module _ (all : Rule (List DiagOf)) (rest : BegunBody → Rule (List DiagOf)) where
    pub kept : (o : Option BegunBody) → IfSome o (λ b. HasResidual reply all (rest b)) → HasResidual reply all (left_of all rest o)
    kept None h = residual_here reply all all refl
    kept (Some b) h = h

    module _ (o : Option BegunBody) (b : BegunBody) (is : o ≡ Some b) (reached : HasResidual reply all (left_of all rest o)) where
      reached_begun : HasResidual reply all (rest b)
      reached_begun = subst (λ (z : Option BegunBody). HasResidual reply all (left_of all rest z)) is reached

      pub begun_reads : (x : Result (List DiagOf) (Stop (Query JavaPred))) → Reads reply (rest b) x → Reads reply all x
      begun_reads x h = residual_reads reply all (rest b) x reached_begun h

      pub begun_goes_on : (p : Option BegunBody) → IfSome p (λ c. HasResidual reply (rest b) (rest c)) → HasResidual reply all (left_of all rest p)
      begun_goes_on p h = kept p (if_some (λ c. HasResidual reply (rest b) (rest c)) (λ c. HasResidual reply all (rest c)) p (λ c k. residual_on reply all (rest b) (rest c) reached_begun k) h)

  module _ (l : LayoutOf) (names : List (List ℕ)) (c : Scope) (extends : List (List Ident)) where
    -- ---- initializers

    -- an initializer, at a place that was made
    pub init_case : (r : Result (List DiagOf) (Stop (Query JavaPred))) (m : Scope) (s : Option SignatureOf) (instances : List Scope) → instances ≡ member_instances l c m → (site : SiteOf) (t : Ty) (x : InitTree) → t ≡ result_of s
        → site ≡ member_site l names c extends instances [] None → Reads reply (init_typed site [] t x []) r → Reads reply (init_typed (member_site l names c extends (member_instances l c m) [] None) [] (result_of s) x []) r
    init_case r m s instances own site t x found made h =
        subst (λ (q : Rule (List DiagOf)). Reads reply q r) (λ i. init_typed ((made ∙ ap (λ (is : List Scope). member_site l names c extends is [] None) own) i) [] (found i) x []) h

    -- ---- methods

    module _ (m : Scope) (xs : StmtTrees) where
      abbrev left : BegunBody → Rule (List DiagOf)
      left b = method_statements_left l names c extends m xs b

      module _ (instances : List Scope) (own : instances ≡ member_instances l c m) (site : SiteOf) (b : BegunBody) (made : site ≡ member_site l names c extends instances [] b.result) where
        at_site : (d : BegunBody) → d.result ≡ b.result → statements_left site xs d ≡ left d
        at_site d same = λ i. statements_left ((made ∙ (λ j. member_site l names c extends (own j) [] (sym same j))) i) xs d

        pub method_case : (r : Result (List DiagOf) (Stop (Query JavaPred))) → Reads reply (statements_left site xs b) r → Reads reply (left b) r
        method_case r h = subst (λ (q : Rule (List DiagOf)). Reads reply q r) (at_site b refl) h

        pub method_goes_on : (o : Option BegunBody) → IfSome o (λ d. (d.result ≡ b.result) × HasResidual reply (statements_left site xs b) (statements_left site xs d)) → IfSome o (λ d. HasResidual reply (left b) (left d))
        method_goes_on o h =
            if_some (λ d. (d.result ≡ b.result) × HasResidual reply (statements_left site xs b) (statements_left site xs d)) (λ d. HasResidual reply (left b) (left d)) o
            (λ d k. subst (λ (q : Rule (List DiagOf)). HasResidual reply q (left d)) (at_site b refl) (subst (λ (q : Rule (List DiagOf)). HasResidual reply (statements_left site xs b) q) (at_site d k.0) k.1)) h

      -- from the start, behind the signature, where it is needed
      module _ (ps : List ParamTree) (s : Option SignatureOf) (signed : Reads reply (needed_signature l m (needs_types ps xs)) (Ok s)) (b : BegunBody) (begun : (ys : StmtTrees) → method_statements_left l names c extends m ys b ≡ body_by l names c extends m ps ys s) where
        pub start_case : (r : Result (List DiagOf) (Stop (Query JavaPred))) → Reads reply (left b) r → Reads reply (statements_rule l names c extends m ps xs) r
        start_case r h = then_ok reply (needed_signature l m (needs_types ps xs)) (λ s. body_by l names c extends m ps xs s) s r signed (subst (λ (q : Rule (List DiagOf)). Reads reply q r) (begun xs) h)

        pub start_goes_on : (o : Option BegunBody) → IfSome o (λ d. HasResidual reply (left b) (left d)) → IfSome o (λ d. HasResidual reply (statements_rule l names c extends m ps xs) (left d))
        start_goes_on o h =
            if_some (λ d. HasResidual reply (left b) (left d)) (λ d. HasResidual reply (statements_rule l names c extends m ps xs) (left d)) o
            (λ d k. residual_behind reply (needed_signature l m (needs_types ps xs)) (λ s. body_by l names c extends m ps xs s) s (left d) signed (subst (λ (q : Rule (List DiagOf)). HasResidual reply q (left d)) (begun xs) k)) h

    -- ---- constructors

    module _ (blanks : List Scope) (d : CtorTree) where
      abbrev ctor_rest : BegunBody → Rule (List DiagOf)
      ctor_rest b = ctor_statements_left l names c extends blanks d b

      module _ (inner : List Scope) (own : inner ≡ c ∷ instance_bodies l c) (site : SiteOf) (made : site ≡ member_site l names c extends inner blanks None) (b : BegunBody) where
        ctor_site : (a : BegunBody) → statements_left site d.body a ≡ ctor_rest a
        ctor_site a = λ i. statements_left ((made ∙ ap (λ (is : List Scope). member_site l names c extends is blanks None) own) i) d.body a

        pub ctor_case : (r : Result (List DiagOf) (Stop (Query JavaPred))) → Reads reply (statements_left site d.body b) r → Reads reply (ctor_rest b) r
        ctor_case r h = subst (λ (q : Rule (List DiagOf)). Reads reply q r) (ctor_site b) h

        pub ctor_goes_on : (o : Option BegunBody) → IfSome o (λ a. (a.result ≡ b.result) × HasResidual reply (statements_left site d.body b) (statements_left site d.body a)) → IfSome o (λ a. HasResidual reply (ctor_rest b) (ctor_rest a))
        ctor_goes_on o h =
            if_some (λ a. (a.result ≡ b.result) × HasResidual reply (statements_left site d.body b) (statements_left site d.body a)) (λ a. HasResidual reply (ctor_rest b) (ctor_rest a)) o
            (λ a k. subst (λ (q : Rule (List DiagOf)). HasResidual reply q (ctor_rest a)) (ctor_site b) (subst (λ (q : Rule (List DiagOf)). HasResidual reply (statements_left site d.body b) q) (ctor_site a) k.1)) h

      -- from the start, behind the signature, where it is needed, the parameters and the super call
      module _ (m : Scope) (s : Option SignatureOf) (signed : Reads reply (needed_signature l m (has_params d.params)) (Ok s)) where
        abbrev behind_call : Scoped → Rule (List DiagOf)
        behind_call t = statements_checked (member_site l names c extends (c ∷ instance_bodies l c) blanks None) d.body t

        pub call_stops : (e : Stop (Query JavaPred)) → Reads {U = Scoped} reply (ctor_call l names c extends d s) (Err e) → Reads {U = List DiagOf} reply (ctor_rule l names c extends blanks m d) (Err e)
        call_stops e h = then_ok reply (needed_signature l m (has_params d.params)) (λ s. ctor_body l names c extends blanks d s) s (Err e) signed (then_err reply (ctor_call l names c extends d s) behind_call e h)

        module _ (b : BegunBody) (none : b.count ≡ 0) (called : Reads {U = Scoped} reply (ctor_call l names c extends d s) (Ok (b.locals.items, b.diags))) where
          all_left : behind_call (b.locals.items, b.diags) ≡ ctor_rest b
          all_left = λ i. statements_checked (member_site l names c extends (c ∷ instance_bodies l c) blanks None) (behind (sym none i) d.body) (b.locals.items, b.diags)

          pub ctor_starts : (r : Result (List DiagOf) (Stop (Query JavaPred))) → Reads reply (ctor_rest b) r → Reads reply (ctor_rule l names c extends blanks m d) r
          ctor_starts r h =
              then_ok reply (needed_signature l m (has_params d.params)) (λ s. ctor_body l names c extends blanks d s) s r signed
              (then_ok reply (ctor_call l names c extends d s) behind_call (b.locals.items, b.diags) r called (subst (λ (q : Rule (List DiagOf)). Reads reply q r) (sym all_left) h))

          pub ctor_starts_on : (o : Option BegunBody) → IfSome o (λ a. HasResidual reply (ctor_rest b) (ctor_rest a)) → IfSome o (λ a. HasResidual reply (ctor_rule l names c extends blanks m d) (ctor_rest a))
          ctor_starts_on o h =
              if_some (λ a. HasResidual reply (ctor_rest b) (ctor_rest a)) (λ a. HasResidual reply (ctor_rule l names c extends blanks m d) (ctor_rest a)) o
              (λ a k.
              residual_behind reply (needed_signature l m (has_params d.params)) (λ s. ctor_body l names c extends blanks d s) s (ctor_rest a) signed
              (residual_behind reply (ctor_call l names c extends d s) behind_call (b.locals.items, b.diags) (ctor_rest a) called (subst (λ (q : Rule (List DiagOf)). HasResidual reply q (ctor_rest a)) (sym all_left) k))) h

    -- the super call, behind the parameters
    pub call_case : (d : CtorTree) (s : Option SignatureOf) (x : Result Scoped (Stop (Query JavaPred))) (outer : List Scope) (here : SiteOf) (ts : List Ty) (vs : List Local) (ds : List DiagOf) → outer ≡ instance_bodies l c → ts ≡ param_types s
        → here ≡ member_site l names c extends outer [] None → ◌≡◌ {A = Scoped} (vs, ds) (params_declared here d.params ts [] []) → Reads reply (super_checked here d.call (vs, ds)) x → Reads reply (ctor_call l names c extends d s) x
    call_case d s x outer here ts vs ds around types made declared h =
        subst (λ (q : Rule Scoped). Reads reply q x) (λ i. super_checked ((made ∙ ap (λ (is : List Scope). member_site l names c extends is [] None) around) i) d.call (params_declared ((made ∙ ap (λ (is : List Scope). member_site l names c extends is [] None) around) i) d.params (types i) [] []))
        (subst (λ (s : Scoped). Reads reply (super_checked here d.call s) x) declared h)

-- the body of a method, whose parameters are in scope
module _ (l : LayoutOf) (names : List (List ℕ)) (c : Scope) (extends : List (List Ident)) (m : Scope) (s : Option SignatureOf) (instances : List Scope) (own : instances ≡ member_instances l c m) (ps : List ParamTree) (ts : List Ty) (given : Option Ty) where
  begun_by : (site : SiteOf) (b : BegunBody) → given ≡ given_result s → ts ≡ param_types s → site ≡ member_site l names c extends instances [] given → IsBegun site.result (params_declared site ps ts [] []) b
      → (xs : StmtTrees) → method_statements_left l names c extends m xs b ≡ body_by l names c extends m ps xs s
  begun_by site b result types made is xs =
      let same : b.result ≡ given_result s = is.result ∙ (ap (λ (z : SiteOf). z.result) made ∙ result) in
      let place : site ≡ member_site l names c extends (member_instances l c m) [] (given_result s) = made ∙ (λ i. member_site l names c extends (own i) [] (result i)) in
      (λ i. statements_left (member_site l names c extends (member_instances l c m) [] (same i)) xs b)
      ∙ (begun_left (member_site l names c extends (member_instances l c m) [] (given_result s)) xs site.result (params_declared site ps ts [] []) b is
      ∙ (λ i. statements_checked (member_site l names c extends (member_instances l c m) [] (given_result s)) xs (params_declared (place i) ps (types i) [] [])))

  pub begin_case : {E : Type 0} (site : SiteOf) (r : Result BegunBody E) → given ≡ given_result s → ts ≡ param_types s → site ≡ member_site l names c extends instances [] given → IfOk r (IsBegun site.result (params_declared site ps ts [] []))
      → IfOk r (λ b. (xs : StmtTrees) → method_statements_left l names c extends m xs b ≡ body_by l names c extends m ps xs s)
  begin_case site r result types made h =
      if_ok (IsBegun site.result (params_declared site ps ts [] [])) (λ b. (xs : StmtTrees) → method_statements_left l names c extends m xs b ≡ body_by l names c extends m ps xs s) r (λ b is. begun_by site b result types made is) h

pub ruleset init_steps = (end_steps, init_case)

pub ruleset begin_steps = (end_steps, begin_case, begun_stops, begun_memory, call_case)

pub ruleset method_steps = (reading_steps, none_begun, kept, begun_reads, begun_goes_on, method_case, method_goes_on, start_case, start_goes_on)

pub ruleset ctor_steps = (reading_steps, none_begun, kept, begun_reads, begun_goes_on, ctor_case, ctor_goes_on, call_stops, ctor_starts, ctor_starts_on)
