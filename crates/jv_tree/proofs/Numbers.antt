-- What numbers of names keep where there are more names.
use Rattle.std.proofs.Common.{ℕ, ◌<◌, ◌≤◌, List, Option, None, Some, arith}
use Rattle.std.specs.List.{All}
use Rattle.std.proofs.lemmas.List.Elements.{All-weaker}
use Rattle.jv_tree.specs.declared.name.Ident.{Ident}
use Rattle.jv_tree.specs.TypeTree.{BaseTree, boolean, char, int, long, void, named, TypeTree}
use Rattle.jv_tree.specs.ExprTree as e
use Rattle.jv_tree.specs.ExprTree.{ExprTree, KindTree, TargetTree, OperandTree, InitTree, ExprTrees, InitTrees, LinkTrees}
use Rattle.jv_tree.specs.StmtTree as s
use Rattle.jv_tree.specs.StmtTree.{VarTree, StmtTree, StmtKindTree, StmtTrees, BranchTrees, ElseTree}
use Rattle.jv_tree.specs.DeclTree as d
use Rattle.jv_tree.specs.DeclTree.{ParamTree, MethodTree, CtorTree, TypeDeclTree, MemberTree, MemberTrees, ImportTree, UnitTree}
use Rattle.jv_tree.specs.Numbered.{IsNumberedIdent, IsNumberedName, AreNumberedNames, IsNumberedBase, IsNumberedExpr, IsNumberedKind, IsNumberedTarget, IsNumberedOperand, IsNumberedInit, AreNumberedExprs, AreNumberedInits, AreNumberedLinks, IsNumberedOption, IsNumberedVar, IsNumberedCondition, IsNumberedStmt, IsNumberedStmtKind, AreNumberedStmts, AreNumberedBranches, IsNumberedElse, IsNumberedParam, IsNumberedBody, IsNumberedMethod, IsNumberedCall, IsNumberedCtor, IsNumberedDecl, IsNumberedMember, AreNumberedMembers, IsNumberedPackage, IsNumberedImport, IsNumbered}

module _ (m n : ℕ) (more : m ≤ n) where
  ident_stays : (i : Ident) → IsNumberedIdent m i → IsNumberedIdent n i
  ident_stays i h = omega (arith, h, more)

  name_stays : (ids : List Ident) → IsNumberedName m ids → IsNumberedName n ids
  name_stays ids h = All-weaker (IsNumberedIdent m) (IsNumberedIdent n) ident_stays ids h

  names_stay : (ns : List (List Ident)) → AreNumberedNames m ns → AreNumberedNames n ns
  names_stay ns h = All-weaker (IsNumberedName m) (IsNumberedName n) name_stays ns h

  base_stays : (b : BaseTree) → IsNumberedBase m b → IsNumberedBase n b
  base_stays boolean h = tt
  base_stays char h = tt
  base_stays int h = tt
  base_stays long h = tt
  base_stays void h = tt
  base_stays (named ids) h = name_stays ids h

  mutual
    expr_stays : (x : ExprTree) → IsNumberedExpr m x → IsNumberedExpr n x
    expr_stays (e.expr at k) h = kind_stays k h

    kind_stays : (k : KindTree) → IsNumberedKind m k → IsNumberedKind n k
    kind_stays e.int h = tt
    kind_stays e.long h = tt
    kind_stays e.char h = tt
    kind_stays e.str h = tt
    kind_stays (e.bool b) h = tt
    kind_stays e.null h = tt
    kind_stays e.this h = tt
    kind_stays (e.name ids) h = name_stays ids h
    kind_stays (e.field x i) h = (expr_stays x h.0, ident_stays i h.1)
    kind_stays (e.super_field i) h = ident_stays i h
    kind_stays (e.call t i xs) h = (target_stays t h.0, ident_stays i h.1, exprs_stay xs h.2)
    kind_stays (e.index x y) h = (expr_stays x h.0, expr_stays y h.1)
    kind_stays (e.new ids xs) h = (name_stays ids h.0, exprs_stay xs h.1)
    kind_stays (e.new_array t xs) h = (base_stays t.base h.0, exprs_stay xs h.1)
    kind_stays (e.new_list t xs) h = (base_stays t.base h.0, inits_stay xs h.1)
    kind_stays (e.pre at o x) h = expr_stays x h
    kind_stays (e.post at o x) h = expr_stays x h
    kind_stays (e.chain x xs) h = (expr_stays x h.0, links_stay xs h.1)
    kind_stays (e.cast t x) h = (base_stays t.base h.0, expr_stays x h.1)
    kind_stays (e.choice x y z) h = (expr_stays x h.0, expr_stays y h.1, expr_stays z h.2)
    kind_stays (e.assign at o x y) h = (expr_stays x h.0, expr_stays y h.1)

    target_stays : (t : TargetTree) → IsNumberedTarget m t → IsNumberedTarget n t
    target_stays e.bare h = tt
    target_stays (e.on x) h = expr_stays x h
    target_stays e.super h = tt

    operand_stays : (x : OperandTree) → IsNumberedOperand m x → IsNumberedOperand n x
    operand_stays (e.operand x) h = expr_stays x h
    operand_stays (e.of_type t) h = base_stays t.base h

    init_stays : (x : InitTree) → IsNumberedInit m x → IsNumberedInit n x
    init_stays (e.one x) h = expr_stays x h
    init_stays (e.list at xs) h = inits_stay xs h

    exprs_stay : (xs : ExprTrees) → AreNumberedExprs m xs → AreNumberedExprs n xs
    exprs_stay e.no_exprs h = tt
    exprs_stay (e.exprs x xs) h = (expr_stays x h.0, exprs_stay xs h.1)

    inits_stay : (xs : InitTrees) → AreNumberedInits m xs → AreNumberedInits n xs
    inits_stay e.no_inits h = tt
    inits_stay (e.inits x xs) h = (init_stays x h.0, inits_stay xs h.1)

    links_stay : (xs : LinkTrees) → AreNumberedLinks m xs → AreNumberedLinks n xs
    links_stay e.no_links h = tt
    links_stay (e.links at o x xs) h = (operand_stays x h.0, links_stay xs h.1)

  option_stays : (x : Option InitTree) → IsNumberedOption m x → IsNumberedOption n x
  option_stays None h = tt
  option_stays (Some x) h = init_stays x h

  var_stays : (v : VarTree) → IsNumberedVar m v → IsNumberedVar n v
  var_stays v h = (ident_stays v.name h.0, option_stays v.init h.1)

  vars_stay : (vs : List VarTree) → All (IsNumberedVar m) vs → All (IsNumberedVar n) vs
  vars_stay vs h = All-weaker (IsNumberedVar m) (IsNumberedVar n) var_stays vs h

  condition_stays : (x : Option ExprTree) → IsNumberedCondition m x → IsNumberedCondition n x
  condition_stays None h = tt
  condition_stays (Some x) h = expr_stays x h

  mutual
    stmt_stays : (x : StmtTree) → IsNumberedStmt m x → IsNumberedStmt n x
    stmt_stays (s.stmt at k) h = stmt_kind_stays k h

    stmt_kind_stays : (k : StmtKindTree) → IsNumberedStmtKind m k → IsNumberedStmtKind n k
    stmt_kind_stays (s.block xs) h = stmts_stay xs h
    stmt_kind_stays s.empty h = tt
    stmt_kind_stays (s.local f t vs) h = (base_stays t.base h.0, vars_stay vs h.1)
    stmt_kind_stays (s.effect x) h = expr_stays x h
    stmt_kind_stays (s.if_else xs t) h = (branches_stay xs h.0, else_stays t h.1)
    stmt_kind_stays (s.while_loop x t) h = (expr_stays x h.0, stmt_stays t h.1)
    stmt_kind_stays (s.do_loop t x) h = (stmt_stays t h.0, expr_stays x h.1)
    stmt_kind_stays (s.for_loop xs x ys t) h = (stmts_stay xs h.0, condition_stays x h.1, exprs_stay ys h.2, stmt_stays t h.3)
    stmt_kind_stays (s.return x) h = condition_stays x h
    stmt_kind_stays s.break h = tt
    stmt_kind_stays s.continue h = tt

    stmts_stay : (xs : StmtTrees) → AreNumberedStmts m xs → AreNumberedStmts n xs
    stmts_stay s.no_stmts h = tt
    stmts_stay (s.stmts x xs) h = (stmt_stays x h.0, stmts_stay xs h.1)

    branches_stay : (xs : BranchTrees) → AreNumberedBranches m xs → AreNumberedBranches n xs
    branches_stay s.no_branches h = tt
    branches_stay (s.branches x t xs) h = (expr_stays x h.0, stmt_stays t h.1, branches_stay xs h.2)

    else_stays : (t : ElseTree) → IsNumberedElse m t → IsNumberedElse n t
    else_stays s.no_else h = tt
    else_stays (s.otherwise t) h = stmt_stays t h

  param_stays : (p : ParamTree) → IsNumberedParam m p → IsNumberedParam n p
  param_stays p h = (base_stays p.ty.base h.0, ident_stays p.name h.1)

  params_stay : (ps : List ParamTree) → All (IsNumberedParam m) ps → All (IsNumberedParam n) ps
  params_stay ps h = All-weaker (IsNumberedParam m) (IsNumberedParam n) param_stays ps h

  body_stays : (b : Option StmtTrees) → IsNumberedBody m b → IsNumberedBody n b
  body_stays None h = tt
  body_stays (Some xs) h = stmts_stay xs h

  call_stays : (x : Option (ℕ × ExprTrees)) → IsNumberedCall m x → IsNumberedCall n x
  call_stays None h = tt
  call_stays (Some x) h = exprs_stay x.1 h

  method_stays : (x : MethodTree) → IsNumberedMethod m x → IsNumberedMethod n x
  method_stays x h = (base_stays x.result.base h.0, ident_stays x.name h.1, params_stay x.params h.2, body_stays x.body h.3)

  ctor_stays : (x : CtorTree) → IsNumberedCtor m x → IsNumberedCtor n x
  ctor_stays x h = (ident_stays x.name h.0, params_stay x.params h.1, call_stays x.call h.2, stmts_stay x.body h.3)

  mutual
    decl_stays : (x : TypeDeclTree) → IsNumberedDecl m x → IsNumberedDecl n x
    decl_stays (d.type_decl i ms b es is xs) h = (ident_stays i h.0, names_stay es h.1, names_stay is h.2, members_stay xs h.3)

    member_stays : (x : MemberTree) → IsNumberedMember m x → IsNumberedMember n x
    member_stays (d.nested t) h = decl_stays t h
    member_stays (d.field ms t vs) h = (base_stays t.base h.0, vars_stay vs h.1)
    member_stays (d.method x) h = method_stays x h
    member_stays (d.ctor x) h = ctor_stays x h

    members_stay : (xs : MemberTrees) → AreNumberedMembers m xs → AreNumberedMembers n xs
    members_stay d.no_members h = tt
    members_stay (d.members x xs) h = (member_stays x h.0, members_stay xs h.1)

  package_stays : (x : Option (List Ident)) → IsNumberedPackage m x → IsNumberedPackage n x
  package_stays None h = tt
  package_stays (Some ids) h = name_stays ids h

  import_stays : (x : ImportTree) → IsNumberedImport m x → IsNumberedImport n x
  import_stays x h = name_stays x.name h

  pub unit_stays : (u : UnitTree) → IsNumbered m u → IsNumbered n u
  unit_stays u h = (
    package_stays u.package_name h.0,
    All-weaker (IsNumberedImport m) (IsNumberedImport n) import_stays u.imports h.1,
    All-weaker (IsNumberedDecl m) (IsNumberedDecl n) decl_stays u.types h.2,
  )
