-- What is read of the checks of a type, and how far their checker comes.
use Rattle.std.proofs.Common.{◌≡◌, ℕ, ◌+◌, ◌<◌, ◌≤◌, List, [], ◌++◌, Option, Some, None, Result, Ok, Err, MatchResult, suc, length, get_or, drop, refl, sym, ap, ◌∙◌, subst}
use Rattle.std.specs.Result.{IsErrAnd}
use Rattle.std.proofs.lemmas.List.{at_drop_more, at_drop_all}
use Rattle.sg_base.specs.declared.scope.Scope.{Scope}
use Rattle.sg_query.specs.declared.answer.Answer.{Answer}
use Rattle.sg_query.specs.declared.query.Query.{Query}
use Rattle.sg_reading.specs.declared.stop.Stop.{Stop}
use Rattle.sg_reading.specs.declared.stop.Stop.TheVariants.{NoReply, OutOfMemory}
use Rattle.sg_reading.specs.Progress.{HasResidual, here}
use Rattle.sg_reading.specs.Reading.{done, ask, and_then}
use Rattle.sg_reading.specs.Replies.{AddsReply}
use Rattle.sg_reading.specs.Stop.{Reads}
use Rattle.sg_reading.proofs.Progress.{residual_added, residual_behind, residual_here, residual_on, residual_reads}
use Rattle.sg_reading.proofs.Steps.{ask_err, ask_ok, done_reads, memory_stops, stops, then_err}
use Rattle.jv_diag.specs.Plain.{DiagOf}
use Rattle.jv_expr.specs.declared.body_progress.BodyProgress.{BodyProgress}
use Rattle.jv_expr.specs.declared.begun_body.BegunBody.{BegunBody}
use Rattle.jv_expr.specs.Bodies.{ctor_rule, method_rule}
use Rattle.jv_expr.specs.Progress.{ctor_left, ctor_statements_left, left_of, method_left, method_statements_left, optional_left}
use Rattle.jv_expr.specs.Bodies.{optional_body, statements_rule}
use Rattle.jv_expr.proofs.StatementEnds.{plain_memory, plain_stops}
use Rattle.jv_header.proofs.RowProgress.{dependence_so_far_added}
use Rattle.jv_instance.specs.declared.datum.JavaDatum.{JavaDatum}
use Rattle.jv_instance.specs.declared.pred.JavaPred.{JavaPred}
use Rattle.jv_layout.specs.Folder.{LayoutOf}
use Rattle.jv_layout.specs.Readers.{members_of_type}
use Rattle.jv_layout.specs.Scopes.{member_scope, type_scope}
use Rattle.jv_member.specs.declared.signature.Signature.{Signature}
use Rattle.jv_member.specs.Own.{OwnMember, own_field, own_method, own_ctor, default_ctor}
use Rattle.jv_names.specs.declared.kinds.TheConstants.{METHODS}
use Rattle.jv_names.specs.Replies.{Rule, for_any}
use Rattle.jv_tree.specs.declared.name.Ident.{Ident}
use Rattle.jv_tree.specs.DeclTree.{CtorTree, MethodTree}
use Rattle.jv_tree.specs.StmtTree.{StmtTrees}
use Rattle.jv_unit.specs.declared.begun_checks.BegunChecks.{BegunChecks}
use Rattle.jv_unit.specs.declared.begun_head.BegunHead.{BegunHead}
use Rattle.jv_unit.specs.declared.begun_type.BegunType.{BegunType}
use Rattle.jv_unit.specs.declared.begun_type.BegunType.TheVariants.{Head, Checks}
use Rattle.jv_unit.specs.Checks.{Check, declaration, methods, overriding, meeting, calling, body, checks_of}
use Rattle.jv_unit.specs.Folder.{FolderOf}
use Rattle.jv_unit.specs.MemberBodies.{member_body, member_flow, own_body, type_blanks}
use Rattle.jv_unit.specs.Owns.{own_at}
use Rattle.jv_unit.specs.Plans.{all_checks, body_rule, calling_rule, check_rule, declaration_part, declaration_rule, meeting_rule, member_signature, methods_rule, overriding_rule, type_ending, with_checks}
use Rattle.jv_unit.specs.Progress.{AreSoFar, IsCheckSoFar, IsHeadSoFar, IsSoFar, Replies, check_begun, check_in, check_left, head_left, member_left, own_left, whole_rule}
use Rattle.jv_unit.specs.Trees.{decl_at, extends_of}
use Rattle.jv_unit.proofs.CheckPlaces.{body_at, calling_at, declaration_at, meeting_at, methods_at, overriding_at}
use Rattle.jv_unit.proofs.HeadRules.{head_ends, head_so_far_first, head_stops, header_unknown}
use Rattle.jv_unit.proofs.Steps.{made}

-- ---- a body of which nothing was checked

none_left : (all : Rule (List DiagOf)) (rest : BegunBody → Rule (List DiagOf)) (o : Option BegunBody) → o ≡ None → left_of all rest o ≡ all
none_left all rest o e = ap (λ (z : Option BegunBody). left_of all rest z) e

module _ (l : LayoutOf) (names : List (List ℕ)) (c : Scope) (extends : List (List Ident)) (p : BodyProgress) (new : p.begun ≡ None) where
  new_optional : (m : Scope) (d : MethodTree) (o : Option StmtTrees) → optional_left l names c extends m d o p ≡ optional_body l names c extends m d o
  new_optional m d None = refl
  new_optional m d (Some xs) = none_left (statements_rule l names c extends m d.params xs) (method_statements_left l names c extends m xs) p.begun new

  new_own : (blanks : List Scope) (s : Scope) (o : OwnMember) → own_left l names c extends blanks s o p ≡ own_body l names c extends blanks s o
  new_own blanks s (own_field ms t v) = refl
  new_own blanks s (own_method m) = new_optional s m m.body
  new_own blanks s (own_ctor k) = none_left (ctor_rule l names c extends blanks s k) (ctor_statements_left l names c extends blanks k) p.begun new
  new_own blanks s (default_ctor name) = refl

  -- so all of it is left
  pub new_method : (reply : Replies) (s : Scope) (d : MethodTree) → HasResidual reply (method_rule l names c extends s d) (method_left l names c extends s d p)
  new_method reply s d = residual_here reply (method_rule l names c extends s d) (method_left l names c extends s d p) (sym (new_optional s d d.body))

  pub new_ctor : (reply : Replies) (blanks : List Scope) (s : Scope) (d : CtorTree) → HasResidual reply (ctor_rule l names c extends blanks s d) (ctor_left l names c extends blanks s d p)
  new_ctor reply blanks s d =
      residual_here reply (ctor_rule l names c extends blanks s d) (ctor_left l names c extends blanks s d p) (sym (none_left (ctor_rule l names c extends blanks s d) (ctor_statements_left l names c extends blanks d) p.begun new))

-- ---- one body

module _ (reply : Replies) (w : FolderOf) (t : ℕ) (blanks : List Scope) (m : ℕ) where
  new_body : (p : BodyProgress) → p.begun ≡ None → HasResidual reply (member_body w t blanks m) (member_left w t blanks m p)
  new_body p new =
      residual_here reply (member_body w t blanks m) (member_left w t blanks m p) (sym (new_own w.layout w.names (type_scope w.layout t) (extends_of (decl_at w.files t)) p new blanks (member_scope w.layout m) (own_at w.files m)))

  -- by what the code has of it
  module _ (l : LayoutOf) (names : List (List ℕ)) (c : Scope) (es : List (List Ident)) (bs : List Scope) (s : Scope) (o : OwnMember) (layout : l ≡ w.layout) (named : names ≡ w.names) (type : c ≡ type_scope w.layout t) (extends : es ≡ extends_of (decl_at w.files t)) (blank : bs ≡ blanks) (scope : s ≡ member_scope w.layout m) (own : o ≡ own_at w.files m) where
    body_is : own_body l names c es bs s o ≡ member_body w t blanks m
    body_is i = own_body (layout i) (named i) (type i) (extends i) (blank i) (scope i) (own i)

    left_is : (p : BodyProgress) → own_left l names c es bs s o p ≡ member_left w t blanks m p
    left_is p i = own_left (layout i) (named i) (type i) (extends i) (blank i) (scope i) (own i) p

    pub body_read : (x : Result (List DiagOf) (Stop (Query JavaPred))) → Reads reply (own_body l names c es bs s o) x → Reads reply (member_body w t blanks m) x
    body_read x h = subst (λ (r : Rule (List DiagOf)). Reads reply r x) body_is h

    pub body_reached : (p : BodyProgress) → HasResidual reply (own_body l names c es bs s o) (own_left l names c es bs s o p) → HasResidual reply (member_body w t blanks m) (member_left w t blanks m p)
    body_reached p h = subst (λ (r : Rule (List DiagOf)). HasResidual reply (member_body w t blanks m) r) (left_is p) (subst (λ (r : Rule (List DiagOf)). HasResidual reply r (own_left l names c es bs s o p)) body_is h)

    pub own_reached : (p : BodyProgress) → HasResidual reply (member_body w t blanks m) (member_left w t blanks m p) → HasResidual reply (own_body l names c es bs s o) (own_left l names c es bs s o p)
    own_reached p h =
        subst (λ (r : Rule (List DiagOf)). HasResidual reply (own_body l names c es bs s o) r) (sym (left_is p))
        (subst (λ (r : Rule (List DiagOf)). HasResidual reply r (member_left w t blanks m p)) (sym body_is) h)

  -- and the flow through it
  pub flow_unknown : (e : Stop (Query JavaPred)) (x : Result (List DiagOf) (Stop (Query JavaPred))) → IsErrAnd x (λ y. y ≡ e) → Reads {U = List DiagOf} reply (member_body w t blanks m) (Err e) → Reads reply (body_rule w t blanks m) x
  flow_unknown e x k h = stops reply (body_rule w t blanks m) e x k (then_err reply (member_body w t blanks m) (λ ds. done (ds ++ member_flow w t m)) e h)

  pub flow_read : (ds : List DiagOf) (x : Result (List DiagOf) (Stop (Query JavaPred))) → Reads reply (member_body w t blanks m) (Ok ds) → MatchResult x (λ es. es ≡ ds ++ member_flow w t m) (λ stop. stop ≡ OutOfMemory) → Reads reply (body_rule w t blanks m) x
  flow_read ds x h k = made reply (member_body w t blanks m) (λ ds. ds ++ member_flow w t m) ds x h k

-- ---- the declaration of a member

module _ (reply : Replies) (w : FolderOf) (t m : ℕ) where
  pub declaration_unknown : (e : Stop (Query JavaPred)) (x : Result (List DiagOf) (Stop (Query JavaPred))) → IsErrAnd x (λ y. y ≡ e) → Reads {U = Signature} reply (member_signature w t m) (Err e) → Reads reply (declaration_rule w t m) x
  declaration_unknown e x k h = stops reply (declaration_rule w t m) e x k (then_err reply (member_signature w t m) (λ s. done (s.diags ++ declaration_part w t m)) e h)

  pub declaration_read : (s : Signature) (x : Result (List DiagOf) (Stop (Query JavaPred))) → Reads reply (member_signature w t m) (Ok s) → MatchResult x (λ ds. ds ≡ s.diags ++ declaration_part w t m) (λ stop. stop ≡ OutOfMemory) → Reads reply (declaration_rule w t m) x
  declaration_read s x h k = made reply (member_signature w t m) (λ s. s.diags ++ declaration_part w t m) s x h k

-- ---- the methods of a type

module _ (reply : Replies) (w : FolderOf) (t : ℕ) (c : Scope) (type : c ≡ type_scope w.layout t) where
  pub methods_unknown : (e : Stop (Query JavaPred)) (x : Result (List DiagOf) (Stop (Query JavaPred))) → IsErrAnd x (λ y. y ≡ e) → (e ≡ NoReply (for_any METHODS c)) × (reply (for_any METHODS c) ≡ None) → Reads reply (methods_rule w t) x
  methods_unknown e x k h =
      let q : Query JavaPred = for_any METHODS c in
      stops reply (methods_rule w t) e x k
      (subst (λ (z : Stop (Query JavaPred)). Reads {U = List DiagOf} reply (methods_rule w t) (Err z)) (sym h.0)
      (subst (λ (d : Scope). Reads {U = List DiagOf} reply (ask (for_any METHODS d) (λ a. done [])) (Err (NoReply q))) type (ask_err reply q (λ a. done []) h.1)))

  pub methods_read : (a : Answer JavaDatum) (ds : List DiagOf) → reply (for_any METHODS c) ≡ Some a → ds ≡ [] → Reads reply (methods_rule w t) (Ok ds)
  methods_read a ds h e =
      subst (λ (d : Scope). Reads reply (ask (for_any METHODS d) (λ a. done [])) (Ok ds)) type
      (ask_ok reply (for_any METHODS c) (λ a. done []) a (Ok ds) h (done_reads reply [] ds (sym e)))

-- ---- one check

module _ (reply : Replies) (w : FolderOf) (t : ℕ) (blanks : List Scope) where
  pub new_reached : (c : Check) (p : BodyProgress) → p.begun ≡ None → IsCheckSoFar reply w t blanks c p
  unfolding check_begun check_left
  new_reached (declaration m) p new = here
  new_reached methods p new = here
  new_reached (overriding m) p new = here
  new_reached meeting p new = here
  new_reached (calling m) p new = here
  new_reached (body m) p new = new_body reply w t blanks m p new

  -- by its place
  module _ (place m k : ℕ) (number : m ≡ get_or (members_of_type w.layout t) k 0) (below : k < length (members_of_type w.layout t)) where
    abbrev ms : List ℕ
    ms = members_of_type w.layout t

    check_is : (f : ℕ → Check) (i : ℕ) → place ≡ i → get_or (checks_of ms) i meeting ≡ f (get_or ms k 0) → f m ≡ check_in w t place
    check_is f i at e = ap f number ∙ (sym e ∙ ap (λ (j : ℕ). get_or (checks_of ms) j meeting) (sym at))

    rule_at : (c : Check) (x : Result (List DiagOf) (Stop (Query JavaPred))) → c ≡ check_in w t place → Reads reply (check_rule w t blanks c) x → Reads reply (check_rule w t blanks (check_in w t place)) x
    rule_at c x e h = subst (λ (d : Check). Reads reply (check_rule w t blanks d) x) e h

    pub declaration_here : (x : Result (List DiagOf) (Stop (Query JavaPred))) → place ≡ k → Reads reply (declaration_rule w t m) x → Reads reply (check_rule w t blanks (check_in w t place)) x
    unfolding check_rule
    declaration_here x at h = rule_at (declaration m) x (check_is declaration k at (declaration_at ms k below)) h

    pub overriding_here : (x : Result (List DiagOf) (Stop (Query JavaPred))) → place ≡ length ms + suc k → Reads reply (overriding_rule w t m) x → Reads reply (check_rule w t blanks (check_in w t place)) x
    unfolding check_rule
    overriding_here x at h = rule_at (overriding m) x (check_is overriding (length ms + suc k) at (overriding_at ms k below)) h

    pub calling_here : (x : Result (List DiagOf) (Stop (Query JavaPred))) → place ≡ length ms + suc (length ms + suc k) → Reads reply (calling_rule w t m) x → Reads reply (check_rule w t blanks (check_in w t place)) x
    unfolding check_rule
    calling_here x at h = rule_at (calling m) x (check_is calling (length ms + suc (length ms + suc k)) at (calling_at ms k below)) h

    module _ (at : place ≡ length ms + suc (length ms + suc (length ms + k))) where
      body_place : body m ≡ check_in w t place
      body_place = check_is body (length ms + suc (length ms + suc (length ms + k))) at (body_at ms k below)

      pub body_here : (x : Result (List DiagOf) (Stop (Query JavaPred))) → Reads reply (body_rule w t blanks m) x → Reads reply (check_rule w t blanks (check_in w t place)) x
      unfolding check_rule
      body_here x h = rule_at (body m) x body_place h

      pub left_here : (p : BodyProgress) → HasResidual reply (member_body w t blanks m) (member_left w t blanks m p) → IsCheckSoFar reply w t blanks (check_in w t place) p
      unfolding check_begun check_left
      left_here p h = subst (λ (d : Check). IsCheckSoFar reply w t blanks d p) body_place h

      pub left_of_body : (p : BodyProgress) → IsCheckSoFar reply w t blanks (check_in w t place) p → HasResidual reply (member_body w t blanks m) (member_left w t blanks m p)
      unfolding check_begun check_left
      left_of_body p h = subst (λ (d : Check). IsCheckSoFar reply w t blanks d p) (sym body_place) h

  -- the two that are of no member
  module _ (place : ℕ) (x : Result (List DiagOf) (Stop (Query JavaPred))) where
    abbrev count : ℕ
    count = length (members_of_type w.layout t)

    alone_here : (c : Check) (i : ℕ) → place ≡ i → get_or (checks_of (members_of_type w.layout t)) i meeting ≡ c → Reads reply (check_rule w t blanks c) x → Reads reply (check_rule w t blanks (check_in w t place)) x
    alone_here c i at e h = subst (λ (d : Check). Reads reply (check_rule w t blanks d) x) (sym (ap (λ (j : ℕ). get_or (checks_of (members_of_type w.layout t)) j meeting) at ∙ e)) h

    pub methods_here : place ≡ count + 0 → Reads reply (methods_rule w t) x → Reads reply (check_rule w t blanks (check_in w t place)) x
    unfolding check_rule
    methods_here at h = alone_here methods (count + 0) at (methods_at (members_of_type w.layout t)) h

    pub meeting_here : place ≡ count + suc (count + 0) → Reads reply (meeting_rule w t) x → Reads reply (check_rule w t blanks (check_in w t place)) x
    unfolding check_rule
    meeting_here at h = alone_here meeting (count + suc (count + 0)) at (meeting_at (members_of_type w.layout t)) h

-- ---- all checks

module _ (reply : Replies) (w : FolderOf) (t : ℕ) (blanks : List Scope) (ds : List DiagOf) (cs : List Check) (i : ℕ) where
  abbrev behind : Check → List DiagOf → Rule (List DiagOf)
  behind c p = with_checks w t blanks (ds ++ p) (drop (i + 1) cs)

  checks_here : i < length cs → and_then (check_rule w t blanks (get_or cs i meeting)) (behind (get_or cs i meeting)) ≡ with_checks w t blanks ds (drop i cs)
  unfolding with_checks
  checks_here below = sym (at_drop_more (λ (ns : List Check). with_checks w t blanks ds ns) cs i meeting below)

  checks_end : length cs ≤ i → with_checks w t blanks ds (drop i cs) ≡ done ds
  unfolding with_checks
  checks_end past = at_drop_all (λ (ns : List Check). with_checks w t blanks ds ns) cs i past

module _ (reply : Replies) (w : FolderOf) (t : ℕ) (b : BegunChecks) (h : AreSoFar reply w t b) where
  abbrev all : List Check
  all = checks_of (members_of_type w.layout t)

  abbrev this : Check
  this = check_in w t b.place

  abbrev next : List DiagOf → Rule (List DiagOf)
  next p = with_checks w t b.blanks (b.diags ++ p) (drop (b.place + 1) all)

  -- the check in hand
  pub in_hand : IsCheckSoFar reply w t b.blanks this b.body
  in_hand = h.check

  -- with another progress in the same check
  pub so_far_inside : (c : BegunChecks) → c.place ≡ b.place → c.blanks ≡ b.blanks → c.diags ≡ b.diags → IsCheckSoFar reply w t b.blanks this c.body → AreSoFar reply w t c
  so_far_inside c place blank diags k =
      record {
        rest = subst (λ (r : Rule (List DiagOf)). HasResidual reply (whole_rule w t) r) (λ i. with_checks w t (sym blank i) (sym diags i) (drop (sym place i) all)) h.rest;
        check =
            subst (λ (bs : List Scope). IsCheckSoFar reply w t bs (check_in w t c.place) c.body) (sym blank)
            (subst (λ (n : ℕ). IsCheckSoFar reply w t b.blanks (check_in w t n) c.body) (sym place) k);
      }

  module _ (below : b.place < length all) where
    all_here : and_then (check_rule w t b.blanks this) next ≡ with_checks w t b.blanks b.diags (drop b.place all)
    all_here = checks_here reply w t b.blanks b.diags all b.place below

    -- where the check stops
    pub whole_stops : (e : Stop (Query JavaPred)) → Reads {U = List DiagOf} reply (check_rule w t b.blanks this) (Err e) → Reads {U = List DiagOf} reply (whole_rule w t) (Err e)
    whole_stops e g =
        residual_reads reply (whole_rule w t) (with_checks w t b.blanks b.diags (drop b.place all)) (Err e) h.rest
        (subst (λ (r : Rule (List DiagOf)). Reads {U = List DiagOf} reply r (Err e)) all_here (then_err reply (check_rule w t b.blanks this) next e g))

    -- behind the check
    pub so_far_behind : (c : BegunChecks) (p : List DiagOf) → Reads reply (check_rule w t b.blanks this) (Ok p) → c.place ≡ b.place + 1 → c.blanks ≡ b.blanks → c.diags ≡ b.diags ++ p → c.body.begun ≡ None → AreSoFar reply w t c
    so_far_behind c p g place blank diags new =
        record {
          rest =
              residual_on reply (whole_rule w t) (with_checks w t b.blanks b.diags (drop b.place all)) (with_checks w t c.blanks c.diags (drop c.place all)) h.rest
              (subst (λ (r : Rule (List DiagOf)). HasResidual reply r (with_checks w t c.blanks c.diags (drop c.place all))) all_here
              (residual_behind reply (check_rule w t b.blanks this) next p (with_checks w t c.blanks c.diags (drop c.place all)) g
              (residual_here reply (next p) (with_checks w t c.blanks c.diags (drop c.place all)) (λ i. with_checks w t (sym blank i) (sym diags i) (drop (sym place i) all)))));
          check = new_reached reply w t c.blanks (check_in w t c.place) c.body new;
        }

  -- at the end
  pub whole_ends : (ds : List DiagOf) → length all ≤ b.place → b.diags ≡ ds → Reads reply (whole_rule w t) (Ok ds)
  whole_ends ds past e =
      residual_reads reply (whole_rule w t) (with_checks w t b.blanks b.diags (drop b.place all)) (Ok ds) h.rest
      (subst (λ (r : Rule (List DiagOf)). Reads reply r (Ok ds)) (sym (checks_end reply w t b.blanks b.diags all b.place past)) (done_reads reply b.diags ds e))

-- ---- the whole

module _ (reply : Replies) (w : FolderOf) (t : ℕ) where
  pub so_far_first : (b : BegunChecks) → HasResidual reply (whole_rule w t) (all_checks w t b.diags) → b.place ≡ 0 → b.blanks ≡ type_blanks w t → b.body.begun ≡ None → AreSoFar reply w t b
  so_far_first b h place blank new =
      record {
        rest = subst (λ (r : Rule (List DiagOf)). HasResidual reply (whole_rule w t) r) (λ i. with_checks w t (sym blank i) b.diags (drop (sym place i) (checks_of (members_of_type w.layout t)))) h;
        check = new_reached reply w t b.blanks (check_in w t b.place) b.body new;
      }

  -- ---- what was begun

  pub none_so_far : (o : Option BegunType) → o ≡ None → IsSoFar reply w t o
  none_so_far o e = subst (λ (z : Option BegunType). IsSoFar reply w t z) (sym e) tt

  pub head_kept : (o : Option BegunType) (b : BegunHead) → o ≡ Some (Head b) → IsHeadSoFar reply w t b → IsSoFar reply w t o
  head_kept o b e h = subst (λ (z : Option BegunType). IsSoFar reply w t z) (sym e) h

  pub checks_kept : (o : Option BegunType) (b : BegunChecks) → o ≡ Some (Checks b) → AreSoFar reply w t b → IsSoFar reply w t o
  checks_kept o b e h = subst (λ (z : Option BegunType). IsSoFar reply w t z) (sym e) h

  pub head_begun : (o : Option BegunType) (b : BegunHead) → o ≡ Some (Head b) → IsSoFar reply w t o → IsHeadSoFar reply w t b
  head_begun o b e h = subst (λ (z : Option BegunType). IsSoFar reply w t z) e h

  pub checks_begun : (o : Option BegunType) (b : BegunChecks) → o ≡ Some (Checks b) → IsSoFar reply w t o → AreSoFar reply w t b
  checks_begun o b e h = subst (λ (z : Option BegunType). IsSoFar reply w t z) e h

-- a type's rule, by its name
pub whole_read : (reply : Replies) (w : FolderOf) (t : ℕ) (x : Result (List DiagOf) (Stop (Query JavaPred))) → Reads reply (whole_rule w t) x → Reads reply (type_ending w t) x
unfolding whole_rule
whole_read reply w t x h = h

-- a reply more leaves it so far
pub so_far_added : (old new : Replies) (q : Query JavaPred) (a : Answer JavaDatum) (w : FolderOf) (t : ℕ) (o : Option BegunType) → AddsReply old new q a → IsSoFar old w t o → IsSoFar new w t o
so_far_added old new q a w t None adds h = tt
so_far_added old new q a w t (Some (Head b)) adds h =
    record {
      rest = residual_added old new q a (whole_rule w t) (head_left w t b.header) adds h.rest;
      dependence = dependence_so_far_added old new q a w.layout (type_scope w.layout t) b.header.row b.dependence adds h.dependence;
    }
so_far_added old new q a w t (Some (Checks b)) adds h =
    record {
      rest = residual_added old new q a (whole_rule w t) (with_checks w t b.blanks b.diags (drop b.place (checks_of (members_of_type w.layout t)))) adds h.rest;
      check = residual_added old new q a (check_begun w t b.blanks (check_in w t b.place)) (check_left w t b.blanks (check_in w t b.place) b.body) adds h.check;
    }

pub ruleset checks_steps = (plain_stops, plain_memory, in_hand, so_far_inside, whole_stops, so_far_behind, whole_ends)

pub ruleset whole_steps = (stops, memory_stops, header_unknown, head_so_far_first, head_stops, head_ends, so_far_first, none_so_far, head_kept, checks_kept, head_begun, checks_begun)
