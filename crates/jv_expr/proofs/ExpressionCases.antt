-- The rule of each kind of expression.
use Rattle.std.proofs.Common.{◌≡◌, ℕ, Bool, List, Option, Result, sym, ap, ◌∙◌, subst, Global}
use Rattle.std.specs.Prelude.{Vec}
use Rattle.std.specs.declared.boxed.Box.{Box}
use Rattle.sg_query.specs.declared.answer.Answer.{Answer}
use Rattle.sg_query.specs.declared.query.Query.{Query}
use Rattle.sg_reading.specs.declared.stop.Stop.{Stop}
use Rattle.sg_reading.specs.Reading.{done, and_then}
use Rattle.sg_reading.specs.Stop.{Reads}
use Rattle.jv_diag.specs.Plain.{DiagOf}
use Rattle.jv_instance.specs.declared.datum.JavaDatum.{JavaDatum}
use Rattle.jv_instance.specs.declared.pred.JavaPred.{JavaPred}
use Rattle.jv_instance.specs.declared.ty.Ty.{Ty}
use Rattle.jv_instance.specs.declared.type_base.TypeBase.TheVariants.{Boolean, Char as CharBase, Int as IntBase, Long as LongBase, Null as NullBase}
use Rattle.jv_tree.specs.declared.expression.Expr.{Expr}
use Rattle.jv_tree.specs.declared.expression.ExprKind.{ExprKind, Int, Long, Char, Str, Bool as BoolKind, Null, This, Name as NameKind, SuperField}
use Rattle.jv_tree.specs.declared.expression.ExprKind.TheViews.{Field, Call, Index, New, NewArray, NewList, Pre, Post, Chain, Cast, Cond, Assign}
use Rattle.jv_tree.specs.declared.expression.Init.{Init}
use Rattle.jv_tree.specs.declared.expression.ExprKind.TheViews.{One, List as ListInit}
use Rattle.jv_tree.specs.declared.expression.Operand.{Operand, Of}
use Rattle.jv_tree.specs.declared.expression.ExprKind.TheViews.{Expr as ExprOperand}
use Rattle.jv_tree.specs.declared.expression.Target.{Target, Bare, Super}
use Rattle.jv_tree.specs.declared.expression.ExprKind.TheViews.{On}
use Rattle.jv_tree.specs.declared.name.Ident.{Ident}
use Rattle.jv_tree.specs.declared.name.Name.{Name}
use Rattle.jv_tree.specs.declared.type_ref.TypeRef.{TypeRef}
use Rattle.jv_tree.specs.ExprTree.{ExprTrees, InitTrees, LinkTrees, expr, call, target_tree, expr_tree, expr_trees, init_tree, init_trees, kind_tree, link_trees, operand_tree}
use Rattle.jv_tree.specs.Spine.{IsHead}
use Rattle.jv_tree.specs.TypeTree.{ids_of, type_tree}
use Rattle.jv_tree.proofs.Rows.{exprs_made, inits_made, links_made}
use Rattle.jv_types.specs.Operators.{plain}
use Rattle.jv_expr.specs.declared.local.Local.{Local}
use Rattle.jv_expr.specs.declared.value.Value.{Value}
use Rattle.jv_expr.specs.Behind.{array_made, assign_behind, bare_called, cast_behind, choice_behind, linked, list_made, new_called, super_behind}
use Rattle.jv_expr.specs.Calls.{super_field}
use Rattle.jv_expr.specs.Checking.{Checking}
use Rattle.jv_expr.specs.Operators.{assigned_to, binary_on, unary_on, value}
use Rattle.jv_expr.specs.Site.{SiteOf}
use Rattle.jv_expr.specs.Typed.{as_value, element_needed, init_typed, inits_typed, is_variable, link_typed, string_type, this_value, typed, with_list, written_at}
use Rattle.jv_expr.specs.Variables.{name_value}
use Rattle.jv_expr.proofs.Sizes.{head_sizes, operand_below, one_below, elements_below}
use Rattle.jv_expr.proofs.StatementEnds.{end_steps}

module _ (reply : Query JavaPred → Option (Answer JavaDatum)) (site : SiteOf) (vs : List Local) (ds : List DiagOf) where
  module _ (r : Result (Value × List DiagOf) (Stop (Query JavaPred))) where
    child : (f : Expr → Checking Value) (x y : Expr) → y ≡ x → Reads reply (f y) r → Reads reply (f x) r
    child f x y is h = subst (λ (x : Expr). Reads reply (f x) r) is h

    module _ (e : Expr) where
      by_kind : (k : ExprKind) → e.kind ≡ k → Reads reply (typed site vs (expr e.at (kind_tree k)) ds) r → Reads reply (typed site vs (expr_tree e) ds) r
      by_kind k is h = subst (λ (k : ExprKind). Reads reply (typed site vs (expr e.at (kind_tree k)) ds) r) (sym is) h

      pub int_case : e.kind ≡ Int → Reads reply (done (value (plain IntBase), ds)) r → Reads reply (typed site vs (expr_tree e) ds) r
      int_case is h = by_kind Int is h

      pub long_case : e.kind ≡ Long → Reads reply (done (value (plain LongBase), ds)) r → Reads reply (typed site vs (expr_tree e) ds) r
      long_case is h = by_kind Long is h

      pub char_case : e.kind ≡ Char → Reads reply (done (value (plain CharBase), ds)) r → Reads reply (typed site vs (expr_tree e) ds) r
      char_case is h = by_kind Char is h

      pub str_case : e.kind ≡ Str → Reads reply (done (value (string_type site), ds)) r → Reads reply (typed site vs (expr_tree e) ds) r
      str_case is h = by_kind Str is h

      pub bool_case : (b : Bool) → e.kind ≡ BoolKind b → Reads reply (done (value (plain Boolean), ds)) r → Reads reply (typed site vs (expr_tree e) ds) r
      bool_case b is h = by_kind (BoolKind b) is h

      pub null_case : e.kind ≡ Null → Reads reply (done (value (plain NullBase), ds)) r → Reads reply (typed site vs (expr_tree e) ds) r
      null_case is h = by_kind Null is h

      pub this_case : e.kind ≡ This → Reads reply (done (this_value site e.at ds)) r → Reads reply (typed site vs (expr_tree e) ds) r
      this_case is h = by_kind This is h

      pub name_case : (n : Name) → e.kind ≡ NameKind n → Reads reply (name_value site vs (ids_of n) ds) r → Reads reply (typed site vs (expr_tree e) ds) r
      name_case n is h = by_kind (NameKind n) is h

      pub super_field_case : (i : Ident) → e.kind ≡ SuperField i → Reads reply (super_field site e.at i ds) r → Reads reply (typed site vs (expr_tree e) ds) r
      super_field_case i is h = by_kind (SuperField i) is h

      module _ (t : Target) (i : Ident) (v : Vec Expr Global) (is : e.kind ≡ Call t i v) where
        by_target : (u : Target) → t ≡ u → Reads reply (typed site vs (expr e.at (call (target_tree u) i (expr_trees v.items))) ds) r → Reads reply (typed site vs (expr_tree e) ds) r
        by_target u same h =
            by_kind (Call t i v) is
            (subst (λ (xs : ExprTrees). Reads reply (typed site vs (expr e.at (call (target_tree t) i xs)) ds) r) (sym (exprs_made v))
            (subst (λ (u : Target). Reads reply (typed site vs (expr e.at (call (target_tree u) i (expr_trees v.items))) ds) r) (sym same) h))

        pub bare_case : t ≡ Bare → Reads reply (bare_called site vs i (expr_trees v.items) ds) r → Reads reply (typed site vs (expr_tree e) ds) r
        unfolding bare_called
        bare_case same h = by_target Bare same h

        pub super_case : t ≡ Super → Reads reply (super_behind site vs e.at i (expr_trees v.items) ds) r → Reads reply (typed site vs (expr_tree e) ds) r
        unfolding super_behind
        super_case same h = by_target Super same h

      pub new_case : (n : Name) (v : Vec Expr Global) → e.kind ≡ New n v → Reads reply (new_called site vs (ids_of n) (expr_trees v.items) ds) r → Reads reply (typed site vs (expr_tree e) ds) r
      unfolding new_called
      new_case n v is h = by_kind (New n v) is (subst (λ (xs : ExprTrees). Reads reply (new_called site vs (ids_of n) xs ds) r) (sym (exprs_made v)) h)

      pub array_case : (t : TypeRef) (v : Vec Expr Global) → e.kind ≡ NewArray t v → Reads reply (array_made site vs (type_tree t) (expr_trees v.items) ds) r → Reads reply (typed site vs (expr_tree e) ds) r
      unfolding array_made
      array_case t v is h = by_kind (NewArray t v) is (subst (λ (xs : ExprTrees). Reads reply (array_made site vs (type_tree t) xs ds) r) (sym (exprs_made v)) h)

      pub list_case : (t : TypeRef) (v : Vec Init Global) → e.kind ≡ NewList t v → Reads reply (list_made site vs (type_tree t) (init_trees v.items) ds) r → Reads reply (typed site vs (expr_tree e) ds) r
      unfolding list_made
      list_case t v is h = by_kind (NewList t v) is (subst (λ (xs : InitTrees). Reads reply (list_made site vs (type_tree t) xs ds) r) (sym (inits_made v)) h)

      unary : (x : Box Expr Global) (at op : ℕ) (y z : Expr) (place : ℕ) (variable : Bool) → y ≡ x.value → place ≡ x.value.at → z ≡ x.value → variable ≡ is_variable (expr_tree z)
          → Reads reply (and_then (typed site vs (expr_tree y) ds) (λ v. as_value (done (unary_on site at op place variable v.0 v.1)))) r
          → Reads reply (and_then (typed site vs (expr_tree x.value) ds) (λ v. as_value (done (unary_on site at op x.value.at (is_variable (expr_tree x.value)) v.0 v.1)))) r
      unary x at op y z place variable here starts there k h =
          let rule : Expr → ℕ → Bool → Checking Value = λ y place variable. and_then (typed site vs (expr_tree y) ds) (λ v. as_value (done (unary_on site at op place variable v.0 v.1))) in
          let same : variable ≡ is_variable (expr_tree x.value) = k ∙ ap (λ (z : Expr). is_variable (expr_tree z)) there in
          child (λ y. rule y x.value.at (is_variable (expr_tree x.value))) x.value y here (subst (λ (n : ℕ). Reads reply (rule y n (is_variable (expr_tree x.value))) r) starts (subst (λ (b : Bool). Reads reply (rule y place b) r) same h))

      pub pre_case : (at op : ℕ) (x : Box Expr Global) (y w z : Expr) (place : ℕ) (variable : Bool) → e.kind ≡ Pre at op x → y ≡ x.value → w ≡ x.value → place ≡ w.at → z ≡ x.value → variable ≡ is_variable (expr_tree z)
          → Reads reply (and_then (typed site vs (expr_tree y) ds) (λ v. as_value (done (unary_on site at op place variable v.0 v.1)))) r → Reads reply (typed site vs (expr_tree e) ds) r
      pre_case at op x y w z place variable is here near starts there k h = by_kind (Pre at op x) is (unary x at op y z place variable here (starts ∙ ap (λ (w : Expr). w.at) near) there k h)

      pub post_case : (at op : ℕ) (x : Box Expr Global) (y w z : Expr) (place : ℕ) (variable : Bool) → e.kind ≡ Post at op x → y ≡ x.value → w ≡ x.value → place ≡ w.at → z ≡ x.value → variable ≡ is_variable (expr_tree z)
          → Reads reply (and_then (typed site vs (expr_tree y) ds) (λ v. as_value (done (unary_on site at op place variable v.0 v.1)))) r → Reads reply (typed site vs (expr_tree e) ds) r
      post_case at op x y w z place variable is here near starts there k h = by_kind (Post at op x) is (unary x at op y z place variable here (starts ∙ ap (λ (w : Expr). w.at) near) there k h)

      pub chain_case : (x : Box Expr Global) (v : Vec (ℕ × ℕ × Operand) Global) (y : Expr) → e.kind ≡ Chain x v → y ≡ x.value → Reads reply (and_then (typed site vs (expr_tree y) ds) (λ w. linked site vs w.0.ty (link_trees v.items) w.1)) r → Reads reply (typed site vs (expr_tree e) ds) r
      unfolding linked
      chain_case x v y is here h =
          by_kind (Chain x v) is
          (subst (λ (xs : LinkTrees). Reads reply (and_then (typed site vs (expr_tree x.value) ds) (λ w. linked site vs w.0.ty xs w.1)) r) (sym (links_made v))
          (child (λ y. and_then (typed site vs (expr_tree y) ds) (λ w. linked site vs w.0.ty (link_trees v.items) w.1)) x.value y here h))

      pub cast_case : (t : TypeRef) (x : Box Expr Global) (y : Expr) → e.kind ≡ Cast t x → y ≡ x.value → Reads reply (and_then (written_at site (type_tree t) ds) (λ w. cast_behind site vs e.at w.0 (expr_tree y) w.1)) r → Reads reply (typed site vs (expr_tree e) ds) r
      unfolding cast_behind
      cast_case t x y is here h = by_kind (Cast t x) is (child (λ y. and_then (written_at site (type_tree t) ds) (λ w. cast_behind site vs e.at w.0 (expr_tree y) w.1)) x.value y here h)

      pub choice_case : (x x' x'' : Box Expr Global) (y y' y'' : Expr) → e.kind ≡ Cond x x' x'' → y ≡ x.value → y' ≡ x'.value → y'' ≡ x''.value
          → Reads reply (and_then (typed site vs (expr_tree y) ds) (λ u. and_then (typed site vs (expr_tree y') u.1) (λ v. choice_behind site vs e.at u.0.ty v.0.ty (expr_tree y'') v.1))) r → Reads reply (typed site vs (expr_tree e) ds) r
      unfolding choice_behind
      choice_case x x' x'' y y' y'' is here here' here'' h =
          let rule : Expr → Expr → Expr → Checking Value = λ y y' y''. and_then (typed site vs (expr_tree y) ds) (λ u. and_then (typed site vs (expr_tree y') u.1) (λ v. choice_behind site vs e.at u.0.ty v.0.ty (expr_tree y'') v.1)) in
          by_kind (Cond x x' x'') is (child (λ y. rule y x'.value x''.value) x.value y here (child (λ y'. rule y y' x''.value) x'.value y' here' (child (λ y''. rule y y' y'') x''.value y'' here'' h)))

      pub assign_case : (at op : ℕ) (x x' : Box Expr Global) (y y' w z : Expr) (place : ℕ) (variable : Bool) → e.kind ≡ Assign at op x x' → y ≡ x.value → y' ≡ x'.value → w ≡ x.value → place ≡ w.at → z ≡ x.value → variable ≡ is_variable (expr_tree z)
          → Reads reply (and_then (typed site vs (expr_tree y) ds) (λ v. assign_behind site vs at op place variable v.0 (expr_tree y') v.1)) r → Reads reply (typed site vs (expr_tree e) ds) r
      unfolding assign_behind
      assign_case at op x x' y y' w z place variable is here here' near starts there k h =
          let rule : Expr → Expr → ℕ → Bool → Checking Value = λ y y' place variable. and_then (typed site vs (expr_tree y) ds) (λ v. assign_behind site vs at op place variable v.0 (expr_tree y') v.1) in
          let same : variable ≡ is_variable (expr_tree x.value) = k ∙ ap (λ (z : Expr). is_variable (expr_tree z)) there in
          let placed : place ≡ x.value.at = starts ∙ ap (λ (w : Expr). w.at) near in
          by_kind (Assign at op x x') is
          (child (λ y. rule y x'.value x.value.at (is_variable (expr_tree x.value))) x.value y here
          (child (λ y'. rule y y' x.value.at (is_variable (expr_tree x.value))) x'.value y' here'
          (subst (λ (n : ℕ). Reads reply (rule y y' n (is_variable (expr_tree x.value))) r) placed (subst (λ (b : Bool). Reads reply (rule y y' place b) r) same h))))

  -- ---- operands and initializers

  module _ (t : Ty) (at op : ℕ) (x : Operand) (r : Result (Ty × List DiagOf) (Stop (Query JavaPred))) where
    pub operand_case : (y : Expr) → x ≡ ExprOperand y → Reads reply (and_then (typed site vs (expr_tree y) ds) (λ v. binary_on site at op t v.0.ty v.1)) r → Reads reply (link_typed site vs t at op (operand_tree x) ds) r
    operand_case y is h = subst (λ (x : Operand). Reads reply (link_typed site vs t at op (operand_tree x) ds) r) (sym is) h

    pub of_case : (u : TypeRef) → x ≡ Of u → Reads reply (and_then (written_at site (type_tree u) ds) (λ w. binary_on site at op t w.0 w.1)) r → Reads reply (link_typed site vs t at op (operand_tree x) ds) r
    of_case u is h = subst (λ (x : Operand). Reads reply (link_typed site vs t at op (operand_tree x) ds) r) (sym is) h

  module _ (t : Ty) (x : Init) (r : Result (List DiagOf) (Stop (Query JavaPred))) where
    pub one_case : (y : Expr) → x ≡ One y → Reads reply (and_then (typed site vs (expr_tree y) ds) (λ v. assigned_to site y.at v.0.ty t v.1)) r → Reads reply (init_typed site vs t (init_tree x) ds) r
    one_case y is h = subst (λ (x : Init). Reads reply (init_typed site vs t (init_tree x) ds) r) (sym is) h

    pub list_init_case : (at : ℕ) (v : Vec Init Global) (u : Ty) (ds' : List DiagOf) → x ≡ ListInit at v → u ≡ element_needed t → ds' ≡ with_list site at t ds → Reads reply (inits_typed site vs u (init_trees v.items) ds') r → Reads reply (init_typed site vs t (init_tree x) ds) r
    list_init_case at v u ds' is needed told h =
        subst (λ (x : Init). Reads reply (init_typed site vs t (init_tree x) ds) r) (sym is)
        (subst (λ (xs : InitTrees). Reads reply (inits_typed site vs (element_needed t) xs (with_list site at t ds)) r) (sym (inits_made v))
        (subst (λ (u : Ty). Reads reply (inits_typed site vs u (init_trees v.items) (with_list site at t ds)) r) needed
        (subst (λ (ds' : List DiagOf). Reads reply (inits_typed site vs u (init_trees v.items) ds') r) told h)))

-- a field, a call on an expression or an index is no head
module _ (e : Expr) (head : IsHead (expr_tree e)) where
  abbrev HasHead : ExprKind → Type 0
  HasHead k = IsHead (expr e.at (kind_tree k))

  pub no_field : (x : Box Expr Global) (i : Ident) → e.kind ≡ Field x i → ⊥
  no_field x i is = subst HasHead is head

  pub no_call : (t : Target) (i : Ident) (v : Vec Expr Global) (x : Box Expr Global) → e.kind ≡ Call t i v → t ≡ On x → ⊥
  no_call t i v x is on = subst (λ (u : Target). HasHead (Call u i v)) on (subst HasHead is head)

  pub no_index : (x y : Box Expr Global) → e.kind ≡ Index x y → ⊥
  no_index x y is = subst HasHead is head

pub ruleset expression_steps = (end_steps, int_case, long_case, char_case, str_case, bool_case, null_case, this_case, name_case, super_field_case, bare_case, super_case, new_case, array_case, list_case, pre_case, post_case, chain_case, cast_case, choice_case, assign_case, no_field, no_call, no_index, head_sizes)

pub ruleset operand_steps = (end_steps, operand_case, of_case, operand_below)

pub ruleset init_steps = (end_steps, one_case, list_init_case, one_below, elements_below)
