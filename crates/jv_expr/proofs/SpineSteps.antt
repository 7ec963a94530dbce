-- Steps along a spine: the first behind the head, and the others one behind another.
use Rattle.std.proofs.Common.{◌≡◌, ℕ, ◌+◌, ◌<◌, ◌≤◌, arith, Bool, false, List, [], ◌∷◌, Option, Some, None, Result, Ok, Err, drop, get_or, length, map, refl, sym, ap, ◌∙◌, subst}
use Rattle.std.proofs.lemmas.List.{at_drop_more, at_drop_all}
use Rattle.std.specs.Borrow.{Bor}
use Rattle.sg_query.specs.declared.answer.Answer.{Answer}
use Rattle.sg_query.specs.declared.query.Query.{Query}
use Rattle.sg_reading.specs.declared.stop.Stop.{Stop}
use Rattle.sg_reading.specs.Reading.{done, and_then}
use Rattle.sg_reading.specs.Stop.{Reads}
use Rattle.sg_reading.proofs.Sequences.{and_then-and_then, and_then-done}
use Rattle.sg_reading.proofs.Steps.{done_reads, then_ok, then_err}
use Rattle.jv_diag.specs.Plain.{DiagOf}
use Rattle.jv_instance.specs.declared.datum.JavaDatum.{JavaDatum}
use Rattle.jv_instance.specs.declared.pred.JavaPred.{JavaPred}
use Rattle.jv_tree.specs.declared.expression.Expr.{Expr}
use Rattle.jv_tree.specs.declared.name.Ident.{Ident}
use Rattle.jv_tree.specs.declared.name.Name.{Name}
use Rattle.jv_tree.specs.declared.spine.Step.{Step}
use Rattle.jv_tree.specs.declared.spine.StepKind.{StepKind}
use Rattle.jv_tree.specs.declared.spine.StepKind.TheVariants.{Field, Call, Index}
use Rattle.jv_tree.specs.ExprTree.{ExprTree, expr_tree, expr_trees}
use Rattle.jv_tree.specs.Spine.{StepKindTree, StepTree, field, call, index, outward, step_kind_tree, step_tree, stepped}
use Rattle.jv_tree.specs.TypeTree.{ids_of}
use Rattle.jv_expr.specs.declared.front.Front.{Front}
use Rattle.jv_expr.specs.declared.front.Front.TheVariants.{Value as ValueFront}
use Rattle.jv_expr.specs.declared.local.Local.{Local}
use Rattle.jv_expr.specs.declared.value.Value.{Value}
use Rattle.jv_expr.specs.Behind.{front_called, index_behind}
use Rattle.jv_expr.specs.Checking.{Checking}
use Rattle.jv_expr.specs.Fields.{field_on}
use Rattle.jv_expr.specs.Site.{SiteOf}
use Rattle.jv_expr.specs.Steps.{step_typed, steps_typed}
use Rattle.jv_expr.specs.Typed.{front_by, is_this, plain_name, typed}
use Rattle.jv_expr.specs.Variables.{name_front}
use Rattle.jv_expr.proofs.Sizes.{spine_sizes, step_below, step_sizes}
use Rattle.jv_expr.proofs.StatementEnds.{end_steps}

-- behind a step stands neither `this` nor a name
not_this : (x : ExprTree) (at : ℕ) (k : StepKindTree) → is_this (stepped x at k) ≡ false
not_this x at (field i) = refl
not_this x at (call i xs) = refl
not_this x at (index y) = refl

no_name : (x : ExprTree) (at : ℕ) (k : StepKindTree) → plain_name (stepped x at k) ≡ None
no_name x at (field i) = refl
no_name x at (call i xs) = refl
no_name x at (index y) = refl

module _ (site : SiteOf) (vs : List Local) where
  behind_step : (x : ExprTree) (at at' : ℕ) (k k' : StepKindTree) (ds : List DiagOf) → typed site vs (stepped (stepped x at k) at' k') ds ≡ and_then (typed site vs (stepped x at k) ds) (λ v. step_typed site vs v.0 at' k' v.1)
  unfolding front_called index_behind
  behind_step x at at' k (field i) ds = ap (λ (own : Bool). and_then (typed site vs (stepped x at k) ds) (λ v. field_on site own v.0.ty i v.1)) (not_this x at k)
  behind_step x at at' k (call i xs) ds =
      ap (λ (o : Option (List Ident)). and_then (front_by site vs o (typed site vs (stepped x at k) ds) ds) (λ f. front_called site vs f.0 i xs f.1)) (no_name x at k)
      ∙ and_then-and_then (typed site vs (stepped x at k) ds) (λ v. done (ValueFront v.0, v.1)) (λ f. front_called site vs f.0 i xs f.1)
  behind_step x at at' k (index y) ds = refl

  -- an expression is the first step behind its head, and then the others
  along : (x : ExprTree) (at : ℕ) (k : StepKindTree) (ss : List StepTree) (ds : List DiagOf) → typed site vs (outward (stepped x at k) ss) ds ≡ and_then (typed site vs (stepped x at k) ds) (λ v. steps_typed site vs v.0 ss v.1)
  along x at k [] ds = sym (and_then-done (typed site vs (stepped x at k) ds))
  along x at k (s ∷ ss) ds =
      along (stepped x at k) s.at s.kind ss ds
      ∙ ap (λ (r : Checking Value). and_then r (λ v. steps_typed site vs v.0 ss v.1)) (behind_step x at s.at k s.kind ds)
      ∙ and_then-and_then (typed site vs (stepped x at k) ds) (λ v. step_typed site vs v.0 s.at s.kind v.1) (λ v. steps_typed site vs v.0 ss v.1)

abbrev Valued : Type 0
Valued = Result (Value × List DiagOf) (Stop (Query JavaPred))

module _ (reply : Query JavaPred → Option (Answer JavaDatum)) (site : SiteOf) (vs : List Local) where
  -- ---- whole expressions

  module _ (x e : Expr) (all : List Step) (whole : outward (expr_tree x) (map step_tree all) ≡ expr_tree e) (ds : List DiagOf) (r : Valued) where
    pub head_alone : length all ≡ 0 → Reads reply (typed site vs (expr_tree x) ds) r → Reads reply (typed site vs (expr_tree e) ds) r
    head_alone none h = subst (λ (t : ExprTree). Reads reply (typed site vs t ds) r) whole (by all none)
      where
        by : (ss : List Step) → length ss ≡ 0 → Reads reply (typed site vs (outward (expr_tree x) (map step_tree ss)) ds) r
        by [] none = h
        by (s ∷ ss) none = absurd (omega (arith, none))

    pub head_stepped : (s : Step) (ss : List Step) → all ≡ s ∷ ss → Reads reply (and_then (typed site vs (stepped (expr_tree x) s.at (step_kind_tree s.kind)) ds) (λ v. steps_typed site vs v.0 (map step_tree ss) v.1)) r → Reads reply (typed site vs (expr_tree e) ds) r
    head_stepped s ss is h =
        subst (λ (t : ExprTree). Reads reply (typed site vs t ds) r) whole
        (subst (λ (l : List Step). Reads reply (typed site vs (outward (expr_tree x) (map step_tree l)) ds) r) (sym is)
        (subst (λ (q : Checking Value). Reads reply q r) (sym (along site vs (expr_tree x) s.at (step_kind_tree s.kind) (map step_tree ss) ds)) h))

  -- ---- the first step

  module _ (x : Expr) (at : ℕ) (k : StepKind) (ds : List DiagOf) (r : Valued) where
    by_first : (l : StepKind) → k ≡ l → Reads reply (typed site vs (stepped (expr_tree x) at (step_kind_tree l)) ds) r → Reads reply (typed site vs (stepped (expr_tree x) at (step_kind_tree k)) ds) r
    by_first l is h = subst (λ (l : StepKind). Reads reply (typed site vs (stepped (expr_tree x) at (step_kind_tree l)) ds) r) (sym is) h

    pub first_field : (i : Ident) (own : Bool) → k ≡ Field i → own ≡ is_this (expr_tree x) → Reads reply (and_then (typed site vs (expr_tree x) ds) (λ v. field_on site own v.0.ty i v.1)) r → Reads reply (typed site vs (stepped (expr_tree x) at (step_kind_tree k)) ds) r
    first_field i own is same h = by_first (Field i) is (subst (λ (b : Bool). Reads reply (and_then (typed site vs (expr_tree x) ds) (λ v. field_on site b v.0.ty i v.1)) r) same h)

    module _ (i : Ident) (xs : Bor (List Expr)) (is : k ≡ Call i xs) where
      abbrev behind : Front × List DiagOf → Checking Value
      behind f = front_called site vs f.0 i (expr_trees xs.now) f.1

      abbrev fronted : Option (List Ident) → Checking Value
      fronted o = and_then (front_by site vs o (typed site vs (expr_tree x) ds) ds) behind

      by_front : (o : Option (List Ident)) → plain_name (expr_tree x) ≡ o → Reads reply (fronted o) r → Reads reply (typed site vs (stepped (expr_tree x) at (step_kind_tree k)) ds) r
      unfolding front_called
      by_front o same h = by_first (Call i xs) is (subst (λ (o : Option (List Ident)). Reads reply (fronted o) r) (sym same) h)

      pub first_named : (n : Name) (ids : List Ident) → plain_name (expr_tree x) ≡ Some (ids_of n) → ids ≡ ids_of n → Reads reply (and_then (name_front site vs ids ds) behind) r → Reads reply (typed site vs (stepped (expr_tree x) at (step_kind_tree k)) ds) r
      first_named n ids same slice h = by_front (Some (ids_of n)) same (subst (λ (ids : List Ident). Reads reply (and_then (name_front site vs ids ds) behind) r) slice h)

      pub first_called : plain_name (expr_tree x) ≡ None → Reads reply (and_then (typed site vs (expr_tree x) ds) (λ v. behind (ValueFront v.0, v.1))) r → Reads reply (typed site vs (stepped (expr_tree x) at (step_kind_tree k)) ds) r
      first_called same h = by_front None same (subst (λ (q : Checking Value). Reads reply q r) (sym (and_then-and_then (typed site vs (expr_tree x) ds) (λ v. done (ValueFront v.0, v.1)) behind)) h)

    pub first_index : (y : Bor Expr) → k ≡ Index y → Reads reply (and_then (typed site vs (expr_tree x) ds) (λ v. index_behind site vs at v.0.ty (expr_tree y.now) v.1)) r → Reads reply (typed site vs (stepped (expr_tree x) at (step_kind_tree k)) ds) r
    unfolding index_behind
    first_index y is h = by_first (Index y) is h

  -- ---- a further step

  module _ (v : Value) (at : ℕ) (k : StepKind) (ds : List DiagOf) (r : Valued) where
    by_step : (l : StepKind) → k ≡ l → Reads reply (step_typed site vs v at (step_kind_tree l) ds) r → Reads reply (step_typed site vs v at (step_kind_tree k) ds) r
    by_step l is h = subst (λ (l : StepKind). Reads reply (step_typed site vs v at (step_kind_tree l) ds) r) (sym is) h

    pub then_field : (i : Ident) → k ≡ Field i → Reads reply (field_on site false v.ty i ds) r → Reads reply (step_typed site vs v at (step_kind_tree k) ds) r
    then_field i is h = by_step (Field i) is h

    pub then_called : (i : Ident) (xs : Bor (List Expr)) → k ≡ Call i xs → Reads reply (front_called site vs (ValueFront v) i (expr_trees xs.now) ds) r → Reads reply (step_typed site vs v at (step_kind_tree k) ds) r
    then_called i xs is h = by_step (Call i xs) is h

    pub then_index : (y : Bor Expr) → k ≡ Index y → Reads reply (index_behind site vs at v.ty (expr_tree y.now) ds) r → Reads reply (step_typed site vs v at (step_kind_tree k) ds) r
    then_index y is h = by_step (Index y) is h

  -- ---- further steps

  module _ (ss : List Step) (i : ℕ) (v : Value) (ds : List DiagOf) where
    module _ (s : Step) (below : i < length ss) (is : s ≡ get_or ss i s) where
      step_here : (r : Valued) → Reads reply (steps_typed site vs v (map step_tree (s ∷ drop (i + 1) ss)) ds) r → Reads reply (steps_typed site vs v (map step_tree (drop i ss)) ds) r
      step_here r h =
          subst (λ (u : Checking Value). Reads reply u r) (sym (at_drop_more (λ (l : List Step). steps_typed site vs v (map step_tree l) ds) ss i s below))
          (subst (λ (t : Step). Reads reply (steps_typed site vs v (map step_tree (t ∷ drop (i + 1) ss)) ds) r) is h)

      pub step_next : (w : Value) (ds' : List DiagOf) (r : Valued) → Reads {U = Value × List DiagOf} reply (step_typed site vs v s.at (step_kind_tree s.kind) ds) (Ok (w, ds')) → Reads reply (steps_typed site vs w (map step_tree (drop (i + 1) ss)) ds') r
          → Reads reply (steps_typed site vs v (map step_tree (drop i ss)) ds) r
      step_next w ds' r g h = step_here r (then_ok reply (step_typed site vs v s.at (step_kind_tree s.kind) ds) (λ u. steps_typed site vs u.0 (map step_tree (drop (i + 1) ss)) u.1) (w, ds') r g h)

      pub step_stop : (e : Stop (Query JavaPred)) → Reads {U = Value × List DiagOf} reply (step_typed site vs v s.at (step_kind_tree s.kind) ds) (Err e) → Reads {U = Value × List DiagOf} reply (steps_typed site vs v (map step_tree (drop i ss)) ds) (Err e)
      step_stop e g = step_here (Err e) (then_err reply (step_typed site vs v s.at (step_kind_tree s.kind) ds) (λ u. steps_typed site vs u.0 (map step_tree (drop (i + 1) ss)) u.1) e g)

    pub step_end : (w : Value × List DiagOf) → length ss ≤ i → ◌≡◌ {A = Value × List DiagOf} (v, ds) w → Reads reply (steps_typed site vs v (map step_tree (drop i ss)) ds) (Ok w)
    step_end w past is = subst (λ (u : Checking Value). Reads reply u (Ok w)) (sym (at_drop_all (λ (l : List Step). steps_typed site vs v (map step_tree l) ds) ss i past)) (done_reads reply (v, ds) w is)

pub ruleset spine_steps = (end_steps, head_alone, head_stepped, spine_sizes)

pub ruleset first_steps = (end_steps, first_field, first_named, first_called, first_index, step_sizes)

pub ruleset one_steps = (end_steps, then_field, then_called, then_index, step_sizes)

pub ruleset further_steps = (end_steps, step_next, step_stop, step_end, step_below)
