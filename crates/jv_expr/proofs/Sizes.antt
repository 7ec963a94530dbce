-- How many nodes trees have: what a call is handed has fewer than what its caller was handed.
use Rattle.std.proofs.Common.{◌≡◌, ℕ, zero, suc, ◌+◌, ◌<◌, ◌≤◌, List, [], ◌∷◌, map, length, get_or, refl, sym, ap, ◌∙◌, subst, arith, Global}
use Rattle.std.specs.Prelude.{Vec}
use Rattle.std.specs.Borrow.{Bor}
use Rattle.std.specs.declared.boxed.Box.{Box}
use Rattle.jv_tree.specs.declared.expression.Expr.{Expr}
use Rattle.jv_tree.specs.declared.expression.ExprKind.{ExprKind}
use Rattle.jv_tree.specs.declared.expression.ExprKind.TheViews.{Call, New, NewArray, NewList, Pre, Post, Chain, Cast, Cond, Assign, One, List as ListInit, Expr as ExprOperand}
use Rattle.jv_tree.specs.declared.expression.Init.{Init}
use Rattle.jv_tree.specs.declared.expression.Operand.{Operand}
use Rattle.jv_tree.specs.declared.expression.Target.{Target}
use Rattle.jv_tree.specs.declared.name.Ident.{Ident}
use Rattle.jv_tree.specs.declared.name.Name.{Name}
use Rattle.jv_tree.specs.declared.spine.Step.{Step}
use Rattle.jv_tree.specs.declared.spine.StepKind.{StepKind}
use Rattle.jv_tree.specs.declared.spine.StepKind.TheVariants.{Call as CallStep, Index as IndexStep}
use Rattle.jv_tree.specs.declared.type_ref.TypeRef.{TypeRef}
use Rattle.jv_tree.specs.ExprTree as e
use Rattle.jv_tree.specs.ExprTree.{ExprTree, KindTree, TargetTree, OperandTree, InitTree, ExprTrees, InitTrees, LinkTrees, expr_tree, expr_trees, init_tree, init_trees, kind_tree, link_trees, operand_tree, target_tree}
use Rattle.jv_tree.specs.Spine as s
use Rattle.jv_tree.specs.Spine.{StepKindTree, StepTree, outward, step_kind_tree, step_tree, stepped}
use Rattle.jv_tree.proofs.Rows.{exprs_made, inits_made, links_made}

abbrev mutual
  tree_size : ExprTree → ℕ
  tree_size (e.expr at k) = kind_size k

  kind_size : KindTree → ℕ
  kind_size e.int = 1
  kind_size e.long = 1
  kind_size e.char = 1
  kind_size e.str = 1
  kind_size (e.bool b) = 1
  kind_size e.null = 1
  kind_size e.this = 1
  kind_size (e.name ids) = 1
  kind_size (e.field x i) = tree_size x + 1
  kind_size (e.super_field i) = 1
  kind_size (e.call t i xs) = target_size t + trees_size xs + 1
  kind_size (e.index x y) = tree_size x + tree_size y + 1
  kind_size (e.new ids xs) = trees_size xs + 1
  kind_size (e.new_array t xs) = trees_size xs + 1
  kind_size (e.new_list t xs) = init_trees_size xs + 1
  kind_size (e.pre at op x) = tree_size x + 1
  kind_size (e.post at op x) = tree_size x + 1
  kind_size (e.chain x xs) = tree_size x + link_trees_size xs + 1
  kind_size (e.cast t x) = tree_size x + 1
  kind_size (e.choice x y z) = tree_size x + tree_size y + tree_size z + 1
  kind_size (e.assign at op x y) = tree_size x + tree_size y + 1

  target_size : TargetTree → ℕ
  target_size e.bare = 0
  target_size (e.on x) = tree_size x
  target_size e.super = 0

  operand_tree_size : OperandTree → ℕ
  operand_tree_size (e.operand x) = tree_size x + 1
  operand_tree_size (e.of_type t) = 1

  init_tree_size : InitTree → ℕ
  init_tree_size (e.one x) = tree_size x + 1
  init_tree_size (e.list at xs) = init_trees_size xs + 1

  trees_size : ExprTrees → ℕ
  trees_size e.no_exprs = 0
  trees_size (e.exprs x xs) = tree_size x + trees_size xs + 1

  init_trees_size : InitTrees → ℕ
  init_trees_size e.no_inits = 0
  init_trees_size (e.inits x xs) = init_tree_size x + init_trees_size xs + 1

  link_trees_size : LinkTrees → ℕ
  link_trees_size e.no_links = 0
  link_trees_size (e.links at op x xs) = operand_tree_size x + link_trees_size xs + 1

abbrev step_kind_size : StepKindTree → ℕ
step_kind_size (s.field i) = 1
step_kind_size (s.call i xs) = trees_size xs + 1
step_kind_size (s.index y) = tree_size y + 1

abbrev step_trees_size : List StepTree → ℕ
step_trees_size [] = 0
step_trees_size (s ∷ ss) = step_kind_size s.kind + step_trees_size ss

-- ---- of the code's trees

unfoldable pub expr_size : Expr → ℕ
expr_size x = tree_size (expr_tree x)

unfoldable pub exprs_size : List Expr → ℕ
exprs_size xs = trees_size (expr_trees xs)

unfoldable pub init_size : Init → ℕ
init_size x = init_tree_size (init_tree x)

unfoldable pub inits_size : List Init → ℕ
inits_size xs = init_trees_size (init_trees xs)

unfoldable pub operand_size : Operand → ℕ
operand_size x = operand_tree_size (operand_tree x)

unfoldable pub links_size : List (ℕ × ℕ × Operand) → ℕ
links_size xs = link_trees_size (link_trees xs)

unfoldable pub step_size : Step → ℕ
step_size s = step_kind_size (step_kind_tree s.kind)

unfoldable pub steps_size : List Step → ℕ
steps_size ss = step_trees_size (map step_tree ss)

-- ---- elements of lists

-- what is less for the first of a list, and no more for the rest, is so for each
module _ {X : Type 0} (f : X → ℕ) (g : List X → ℕ) (k : ℕ) (more : (x : X) (xs : List X) → f x + g xs + k ≤ g (x ∷ xs)) where
  element : (xs : List X) (i : ℕ) (d : X) → i < length xs → f (get_or xs i d) + k ≤ g xs
  element [] i d h = absurd (omega (arith, h))
  element (x ∷ xs) zero d h = omega (arith, more x xs)
  element (x ∷ xs) (suc i) d h = omega (arith, more x xs, element xs i d (omega (arith, h)))

module _ (xs : List Expr) (i : ℕ) (x : Expr) (below : i < length xs) (is : x ≡ get_or xs i x) where
  pub expr_below : expr_size x < exprs_size xs
  unfolding expr_size exprs_size
  expr_below = subst (λ (y : Expr). expr_size y < exprs_size xs) (sym is) (omega (arith, element expr_size exprs_size 1 (λ y ys. omega arith) xs i x below))

module _ (xs : List Init) (i : ℕ) (x : Init) (below : i < length xs) (is : x ≡ get_or xs i x) where
  pub init_below : init_size x < inits_size xs
  unfolding init_size inits_size
  init_below = subst (λ (y : Init). init_size y < inits_size xs) (sym is) (omega (arith, element init_size inits_size 1 (λ y ys. omega arith) xs i x below))

module _ (xs : List (ℕ × ℕ × Operand)) (i : ℕ) (x : ℕ × ℕ × Operand) (below : i < length xs) (is : x ≡ get_or xs i x) where
  pub link_below : operand_size x.2 < links_size xs
  unfolding operand_size links_size
  link_below = subst (λ (y : ℕ × ℕ × Operand). operand_size y.2 < links_size xs) (sym is) (omega (arith, element (λ (y : ℕ × ℕ × Operand). operand_size y.2) links_size 1 (λ y ys. omega arith) xs i x below))

module _ (ss : List Step) (i : ℕ) (s : Step) (below : i < length ss) (is : s ≡ get_or ss i s) where
  pub step_below : step_size s ≤ steps_size ss
  unfolding step_size steps_size
  step_below = subst (λ (t : Step). step_size t ≤ steps_size ss) (sym is) (omega (arith, element step_size steps_size 0 (λ t ts. omega arith) ss i s below))

-- ---- spines

stepped_size : (x : ExprTree) (at : ℕ) (k : StepKindTree) → tree_size (stepped x at k) ≡ tree_size x + step_kind_size k
stepped_size x at (s.field i) = refl
stepped_size x at (s.call i xs) = omega arith
stepped_size x at (s.index y) = omega arith

outward_size : (x : ExprTree) (ss : List StepTree) → tree_size (outward x ss) ≡ tree_size x + step_trees_size ss
outward_size x [] = omega arith
outward_size x (s ∷ ss) = omega (arith, outward_size (stepped x s.at s.kind) ss, stepped_size x s.at s.kind)

module _ (x e : Expr) (ss : List Step) (whole : outward (expr_tree x) (map step_tree ss) ≡ expr_tree e) where
  spine_size : expr_size x + steps_size ss ≡ expr_size e
  unfolding expr_size steps_size
  spine_size = sym (outward_size (expr_tree x) (map step_tree ss)) ∙ ap tree_size whole

  pub head_below : expr_size x ≤ expr_size e
  head_below = omega (arith, spine_size)

  module _ (s : Step) (rest : List Step) (is : ss ≡ s ∷ rest) where
    pub steps_parts : steps_size ss ≡ step_size s + steps_size rest
    unfolding step_size steps_size
    steps_parts = ap (λ (l : List Step). step_trees_size (map step_tree l)) is

    pub first_below : expr_size x + step_size s ≤ expr_size e
    first_below = omega (arith, spine_size, steps_parts)

    pub rest_below : steps_size rest ≤ expr_size e
    rest_below = omega (arith, spine_size, steps_parts)

-- ---- parts of an expression

module _ (e : Expr) where
  of_kind : (k : ExprKind) → e.kind ≡ k → expr_size e ≡ kind_size (kind_tree k)
  unfolding expr_size
  of_kind k is = ap (λ (k : ExprKind). kind_size (kind_tree k)) is

  module _ (y : Expr) where
    pub pre_below : (at op : ℕ) (x : Box Expr Global) → e.kind ≡ Pre at op x → y ≡ x.value → expr_size y < expr_size e
    unfolding expr_size
    pre_below at op x is here = omega (arith, of_kind (Pre at op x) is, ap expr_size here)

    pub post_below : (at op : ℕ) (x : Box Expr Global) → e.kind ≡ Post at op x → y ≡ x.value → expr_size y < expr_size e
    unfolding expr_size
    post_below at op x is here = omega (arith, of_kind (Post at op x) is, ap expr_size here)

    pub chain_below : (x : Box Expr Global) (v : Vec (ℕ × ℕ × Operand) Global) → e.kind ≡ Chain x v → y ≡ x.value → expr_size y < expr_size e
    unfolding expr_size
    chain_below x v is here = omega (arith, of_kind (Chain x v) is, ap expr_size here)

    pub cast_below : (t : TypeRef) (x : Box Expr Global) → e.kind ≡ Cast t x → y ≡ x.value → expr_size y < expr_size e
    unfolding expr_size
    cast_below t x is here = omega (arith, of_kind (Cast t x) is, ap expr_size here)

    module _ (x x' x'' : Box Expr Global) (is : e.kind ≡ Cond x x' x'') where
      pub condition_below : y ≡ x.value → expr_size y < expr_size e
      unfolding expr_size
      condition_below here = omega (arith, of_kind (Cond x x' x'') is, ap expr_size here)

      pub left_below : y ≡ x'.value → expr_size y < expr_size e
      unfolding expr_size
      left_below here = omega (arith, of_kind (Cond x x' x'') is, ap expr_size here)

      pub right_below : y ≡ x''.value → expr_size y < expr_size e
      unfolding expr_size
      right_below here = omega (arith, of_kind (Cond x x' x'') is, ap expr_size here)

    module _ (at op : ℕ) (x x' : Box Expr Global) (is : e.kind ≡ Assign at op x x') where
      pub variable_below : y ≡ x.value → expr_size y < expr_size e
      unfolding expr_size
      variable_below here = omega (arith, of_kind (Assign at op x x') is, ap expr_size here)

      pub assigned_below : y ≡ x'.value → expr_size y < expr_size e
      unfolding expr_size
      assigned_below here = omega (arith, of_kind (Assign at op x x') is, ap expr_size here)

  pub links_below : (x : Box Expr Global) (v : Vec (ℕ × ℕ × Operand) Global) → e.kind ≡ Chain x v → links_size v.items < expr_size e
  unfolding links_size
  links_below x v is = omega (arith, of_kind (Chain x v) is, ap link_trees_size (links_made v))

  pub call_below : (t : Target) (i : Ident) (v : Vec Expr Global) → e.kind ≡ Call t i v → exprs_size v.items < expr_size e
  unfolding exprs_size
  call_below t i v is = omega (arith, of_kind (Call t i v) is, ap trees_size (exprs_made v))

  pub new_below : (n : Name) (v : Vec Expr Global) → e.kind ≡ New n v → exprs_size v.items < expr_size e
  unfolding exprs_size
  new_below n v is = omega (arith, of_kind (New n v) is, ap trees_size (exprs_made v))

  pub array_below : (t : TypeRef) (v : Vec Expr Global) → e.kind ≡ NewArray t v → exprs_size v.items < expr_size e
  unfolding exprs_size
  array_below t v is = omega (arith, of_kind (NewArray t v) is, ap trees_size (exprs_made v))

  pub list_below : (t : TypeRef) (v : Vec Init Global) → e.kind ≡ NewList t v → inits_size v.items < expr_size e
  unfolding inits_size
  list_below t v is = omega (arith, of_kind (NewList t v) is, ap init_trees_size (inits_made v))

-- ---- parts of operands, initializers and steps

pub operand_below : (x : Operand) (y : Expr) → x ≡ ExprOperand y → expr_size y < operand_size x
unfolding expr_size operand_size
operand_below x y is = omega (arith, ap operand_size is)

pub one_below : (x : Init) (y : Expr) → x ≡ One y → expr_size y < init_size x
unfolding expr_size init_size
one_below x y is = omega (arith, ap init_size is)

pub elements_below : (x : Init) (at : ℕ) (v : Vec Init Global) → x ≡ ListInit at v → inits_size v.items < init_size x
unfolding init_size inits_size
elements_below x at v is = omega (arith, ap init_size is, ap init_trees_size (inits_made v))

pub arguments_below : (s : Step) (i : Ident) (xs : Bor (List Expr)) → s.kind ≡ CallStep i xs → exprs_size xs.now < step_size s
unfolding exprs_size step_size
arguments_below s i xs is = omega (arith, ap (λ (k : StepKind). step_kind_size (step_kind_tree k)) is)

pub place_below : (s : Step) (y : Bor Expr) → s.kind ≡ IndexStep y → expr_size y.now < step_size s
unfolding expr_size step_size
place_below s y is = omega (arith, ap (λ (k : StepKind). step_kind_size (step_kind_tree k)) is)

-- ---- by what is handed on

pub ruleset spine_sizes = (head_below, first_below, rest_below)

pub ruleset head_sizes = (pre_below, post_below, chain_below, cast_below, condition_below, left_below, right_below, variable_below, assigned_below, links_below, call_below, new_below, array_below, list_below)

pub ruleset step_sizes = (arguments_below, place_below)

pub ruleset element_sizes = (expr_below, init_below, link_below)
