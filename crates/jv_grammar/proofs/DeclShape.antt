-- What derives has the shape of the grammar, where its types have at most 200 pairs of brackets: declarations and files.
use Rattle.std.proofs.Common.{◌≡◌, ℕ, ◌≤◌, true, false, List, [], length, arith, refl, sym, true≢false, Some, None, Option}
use Rattle.std.specs.Prelude.{All}
use Rattle.std.proofs.lemmas.List.Elements.{All-nil, All-cons}
use Rattle.jv_tree.specs.declared.name.Ident.{Ident as Identifier}
use Rattle.jv_tree.specs.ExprTree.{ExprTrees}
use Rattle.jv_tree.specs.StmtTree.{VarTree, StmtTrees}
use Rattle.jv_tree.specs.DeclTree.{ParamTree, TypeDeclTree, MemberTree, MemberTrees, ImportTree, UnitTree, members}
use Rattle.jv_tree.specs.Shaped.{IsName, IsMod, AreShapedVars, AreShapedStmts, AreMods, IsShapedParam, IsShapedBlock, IsShapedCall, IsShapedOption, AreInitialized, IsShapedDecl, AreShapedMembers, IsPackage, IsShapedImport, IsShaped}
use Rattle.jv_grammar.specs.declared.terminal.Terminal.{Terminal}
use Rattle.jv_grammar.specs.Marks.{modifiers}
use Rattle.jv_grammar.specs.TypeGrammar.{DerivesNames, names_one, names_more}
use Rattle.jv_grammar.specs.DeclGrammar.{DerivesMods, mods_none, mods_more, DerivesParam, param_plain, param_final, DerivesSomeParams, some_params_one, some_params_more, DerivesParams, params_none, params_some, DerivesBody, body_block, body_none, DerivesCtor, ctor_plain, ctor_super, DerivesConstants, constants_one, constants_more, DerivesParent, parent_none, parent_some, DerivesParents, parents_none, parents_some, DerivesInterfaces, interfaces_none, interfaces_some, DerivesType, type_class, type_interface, DerivesClass, class, DerivesInterface, interface, DerivesMembers, members_none, members_more, members_empty, DerivesMember, member_type, member_field, member_method, member_ctor, DerivesImembers, imembers_none, imembers_more, imembers_empty, DerivesImember, imember_type, imember_field, imember_method, DerivesPackage, package_none, package_some, DerivesImport, import_one, import_all, import_static_one, import_static_all, DerivesImports, imports_none, imports_more, DerivesTypes, types_none, types_more, types_empty, Derives, file}
use Rattle.jv_grammar.specs.DeclWidth.{wide_param, wide_some_params, wide_params, wide_body, wide_ctor, wide_constants, wide_type, wide_class, wide_interface, wide_members, wide_member, wide_imembers, wide_imember, wide_types, wide_file}
use Rattle.jv_grammar.proofs.Read.{among}
use Rattle.jv_grammar.proofs.Shape.{shape_name, shape_ty, shape_result, shape_init, shape_args}
use Rattle.jv_grammar.proofs.StmtShape.{shape_vars, shape_block, shape_bstmts}

pub shape_mods : {ks : List ℕ} {xs ys : List Terminal} → DerivesMods ks xs ys → AreMods ks
shape_mods mods_none = All-nil IsMod
shape_mods (mods_more {k} {ks} m d) = All-cons IsMod k ks (among IsMod modifiers k (refl, (refl, (refl, (refl, (refl, (refl, (refl, tt))))))) m) (shape_mods d)

pub shape_names : {ns : List (List Identifier)} {xs ys : List Terminal} → DerivesNames ns xs ys → All IsName ns
shape_names (names_one {ids} d) = All-cons IsName ids [] (shape_name d) (All-nil IsName)
shape_names (names_more {ids} {ns} d r) = All-cons IsName ids ns (shape_name d) (shape_names r)

shape_param : {a : ParamTree} {xs ys : List Terminal} (d : DerivesParam a xs ys) → wide_param d ≤ 200 → IsShapedParam a
shape_param (param_plain d) w = shape_ty d w
shape_param (param_final d) w = shape_ty d w

shape_some_params : {bs : List ParamTree} {xs ys : List Terminal} (d : DerivesSomeParams bs xs ys) → wide_some_params d ≤ 200 → All IsShapedParam bs
shape_some_params (some_params_one {a} d) w = All-cons IsShapedParam a [] (shape_param d w) (All-nil IsShapedParam)
shape_some_params (some_params_more {a} {bs} d r) w = All-cons IsShapedParam a bs (shape_param d (omega arith)) (shape_some_params r (omega arith))

pub shape_params : {bs : List ParamTree} {xs ys : List Terminal} (d : DerivesParams bs xs ys) → wide_params d ≤ 200 → All IsShapedParam bs
shape_params params_none w = All-nil IsShapedParam
shape_params (params_some d) w = shape_some_params d w

pub shape_body : {b : Option StmtTrees} {xs ys : List Terminal} (d : DerivesBody b xs ys) → wide_body d ≤ 200 → IsShapedBlock b
shape_body (body_block d) w = shape_block d w
shape_body body_none w = tt

pub shape_ctor : {c : Option (ℕ × ExprTrees)} {ss : StmtTrees} {xs ys : List Terminal} (d : DerivesCtor c ss xs ys) → wide_ctor d ≤ 200 → IsShapedCall c × AreShapedStmts ss
shape_ctor (ctor_plain d) w = (tt, shape_bstmts d w)
shape_ctor (ctor_super a d) w = (shape_args a (omega arith), shape_bstmts d (omega arith))

abbrev HasShape : VarTree → Type 0
HasShape v = IsShapedOption v.init

abbrev HasValue : VarTree → Type 0
HasValue v = v.init ≡ None → ⊥

pub shape_constants : {vs : List VarTree} {xs ys : List Terminal} (d : DerivesConstants vs xs ys) → wide_constants d ≤ 200 → AreShapedVars vs × AreInitialized vs
shape_constants (constants_one {i} {x} d) w =
    ((omega arith, All-cons HasShape (record { name = i; init = Some x }) [] (shape_init d w) (All-nil HasShape)), All-cons HasValue (record { name = i; init = Some x }) [] (λ e. cc) (All-nil HasValue))
shape_constants (constants_more {i} {x} {vs} d r) w =
    let m = shape_constants r (omega arith) in
    ((omega arith, All-cons HasShape (record { name = i; init = Some x }) vs (shape_init d (omega arith)) m.0.1), All-cons HasValue (record { name = i; init = Some x }) vs (λ e. cc) m.1)

pub shape_parent : {ns : List (List Identifier)} {xs ys : List Terminal} → DerivesParent ns xs ys → All IsName ns × (length ns ≤ 1)
shape_parent parent_none = (All-nil IsName, omega arith)
shape_parent (parent_some {ids} d) = (All-cons IsName ids [] (shape_name d) (All-nil IsName), omega arith)

pub shape_parents : {ns : List (List Identifier)} {xs ys : List Terminal} → DerivesParents ns xs ys → All IsName ns
shape_parents parents_none = All-nil IsName
shape_parents (parents_some d) = shape_names d

pub shape_interfaces : {ns : List (List Identifier)} {xs ys : List Terminal} → DerivesInterfaces ns xs ys → All IsName ns
shape_interfaces interfaces_none = All-nil IsName
shape_interfaces (interfaces_some d) = shape_names d

mutual
  pub shape_type : {x : TypeDeclTree} {xs ys : List Terminal} (d : DerivesType x xs ys) → wide_type d ≤ 200 → IsShapedDecl x
  shape_type (type_class m d) w = shape_class m d w
  shape_type (type_interface m d) w = shape_interface m d w

  shape_class : {ks : List ℕ} {x : TypeDeclTree} {us xs ys : List Terminal} → DerivesMods ks us xs → (d : DerivesClass ks x xs ys) → wide_class d ≤ 200 → IsShapedDecl x
  shape_class m (class a b d) w =
      let e = shape_parent a in
      (shape_mods m, (e.0, e.1, shape_interfaces b), shape_members d w)

  shape_interface : {ks : List ℕ} {x : TypeDeclTree} {us xs ys : List Terminal} → DerivesMods ks us xs → (d : DerivesInterface ks x xs ys) → wide_interface d ≤ 200 → IsShapedDecl x
  shape_interface m (interface a d) w = (shape_mods m, (shape_parents a, refl), shape_imembers d w)

  pub shape_members : {ms : MemberTrees} {xs ys : List Terminal} (d : DerivesMembers ms xs ys) → wide_members d ≤ 200 → AreShapedMembers false ms
  shape_members members_none w = tt
  shape_members (members_more {ms} d r) w = shape_member ms d (omega arith) (shape_members r (omega arith))
  shape_members (members_empty r) w = shape_members r w

  shape_member : (ms : MemberTrees) {m : MemberTree} {xs ys : List Terminal} (d : DerivesMember m xs ys) → wide_member d ≤ 200 → AreShapedMembers false ms → AreShapedMembers false (members m ms)
  shape_member ms (member_type d) w s = (shape_type d w, s)
  shape_member ms (member_field m d v) w s = (shape_mods m, shape_ty d (omega arith), shape_vars v (omega arith), (λ e. absurd (true≢false (sym e))), s)
  shape_member ms (member_method m d q b) w s =
      ((shape_mods m, shape_result d (omega arith), shape_params q (omega arith), shape_body b (omega arith)), s)
  shape_member ms (member_ctor m q c) w s =
      let k = shape_ctor c (omega arith) in
      ((shape_mods m, shape_params q (omega arith), k.0, k.1), refl, s)

  pub shape_imembers : {ms : MemberTrees} {xs ys : List Terminal} (d : DerivesImembers ms xs ys) → wide_imembers d ≤ 200 → AreShapedMembers true ms
  shape_imembers imembers_none w = tt
  shape_imembers (imembers_more {ms} d r) w = shape_imember ms d (omega arith) (shape_imembers r (omega arith))
  shape_imembers (imembers_empty r) w = shape_imembers r w

  shape_imember : (ms : MemberTrees) {m : MemberTree} {xs ys : List Terminal} (d : DerivesImember m xs ys) → wide_imember d ≤ 200 → AreShapedMembers true ms → AreShapedMembers true (members m ms)
  shape_imember ms (imember_type d) w s = (shape_type d w, s)
  shape_imember ms (imember_field m d v) w s =
      let k = shape_constants v (omega arith) in
      (shape_mods m, shape_ty d (omega arith), k.0, (λ e. k.1), s)
  shape_imember ms (imember_method m d q b) w s =
      ((shape_mods m, shape_result d (omega arith), shape_params q (omega arith), shape_body b (omega arith)), s)

shape_package : {n : Option (List Identifier)} {xs ys : List Terminal} → DerivesPackage n xs ys → IsPackage n
shape_package package_none = tt
shape_package (package_some d) = shape_name d

shape_import : {i : ImportTree} {xs ys : List Terminal} → DerivesImport i xs ys → IsShapedImport i
shape_import (import_one d) = (shape_name d, λ e one. absurd (true≢false (sym e)))
shape_import (import_all d) = (shape_name d, λ e one. absurd (true≢false (sym e)))
shape_import (import_static_one d h) = (shape_name d, λ e one. h)
shape_import (import_static_all d) = (shape_name d, λ e one. absurd (true≢false one))

shape_imports : {is : List ImportTree} {xs ys : List Terminal} → DerivesImports is xs ys → All IsShapedImport is
shape_imports imports_none = All-nil IsShapedImport
shape_imports (imports_more {x} {is} d r) = All-cons IsShapedImport x is (shape_import d) (shape_imports r)

shape_types : {ts : List TypeDeclTree} {xs ys : List Terminal} (d : DerivesTypes ts xs ys) → wide_types d ≤ 200 → All IsShapedDecl ts
shape_types types_none w = All-nil IsShapedDecl
shape_types (types_more {x} {ts} d r) w = All-cons IsShapedDecl x ts (shape_type d (omega arith)) (shape_types r (omega arith))
shape_types (types_empty r) w = shape_types r w

pub shape_file : {xs : List Terminal} {u : UnitTree} (d : Derives xs u) → wide_file d ≤ 200 → IsShaped u
shape_file (file a b d) w = (shape_package a, shape_imports b, shape_types d w)
