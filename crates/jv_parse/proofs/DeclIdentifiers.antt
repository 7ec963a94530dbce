-- That a derivation of a file has the identifiers of its tree.
use Rattle.std.proofs.Common.{◌≡◌, ◌≤◌, ℕ, ◌+◌, List, [], ◌∷◌, length, Option, arith}
use Rattle.jv_tree.specs.declared.name.Ident.{Ident as Identifier}
use Rattle.jv_tree.specs.ExprTree.{ExprTrees}
use Rattle.jv_tree.specs.StmtTree.{VarTree, StmtTrees}
use Rattle.jv_tree.specs.DeclTree.{ParamTree, TypeDeclTree, MemberTree, MemberTrees, ImportTree, UnitTree}
use Rattle.jv_grammar.specs.declared.terminal.Terminal.{Terminal}
use Rattle.jv_grammar.specs.DeclGrammar.{DerivesMods, mods_none, mods_more, DerivesParam, param_plain, param_final, DerivesSomeParams, some_params_one, some_params_more, DerivesParams, params_none, params_some, DerivesBody, body_block, body_none, DerivesCtor, ctor_plain, ctor_super, DerivesConstants, constants_one, constants_more, DerivesParent, parent_none, parent_some, DerivesParents, parents_none, parents_some, DerivesInterfaces, interfaces_none, interfaces_some, DerivesType, type_class, type_interface, DerivesClass, class, DerivesInterface, interface, DerivesMembers, members_none, members_more, members_empty, DerivesMember, member_type, member_field, member_method, member_ctor, DerivesImembers, imembers_none, imembers_more, imembers_empty, DerivesImember, imember_type, imember_field, imember_method, DerivesPackage, package_none, package_some, DerivesImport, import_one, import_all, import_static_one, import_static_all, DerivesImports, imports_none, imports_more, DerivesTypes, types_none, types_more, types_empty, Derives, file}
use Rattle.jv_grammar.specs.declared.terminal.Terminal.TheVariants.{Ident, Keyword, Literal, Minimum, MinimumLong, Punct}
use Rattle.jv_parse.proofs.ExprIdentifiers.{counted_name, counted_names, counted_ty, counted_result, counted_args, counted_init}
use Rattle.jv_parse.proofs.StmtIdentifiers.{counted_vars, counted_block, counted_bstmts}
use Rattle.jv_tree.specs.Identifiers.{idents_names, idents_super_call, idents_stmts, idents_vars, idents_param, idents_params, idents_body, idents_decl, idents_decls, idents_member, idents_members, idents_package, idents_imports, idents_unit}
use Rattle.jv_parse.specs.Identifiers.{idents_terminals}

-- a derivation takes the identifiers of its tree, and no other
pub counted_mods : {ks : List ℕ} {xs ys : List Terminal} → DerivesMods ks xs ys → idents_terminals ys ≡ idents_terminals xs
counted_mods mods_none = omega arith
counted_mods (mods_more h d) = omega (arith, counted_mods d)

pub counted_param : {a : ParamTree} {xs ys : List Terminal} → DerivesParam a xs ys → idents_param a + idents_terminals ys ≡ idents_terminals xs
counted_param (param_plain d) = omega (arith, counted_ty d)
counted_param (param_final d) = omega (arith, counted_ty d)

pub counted_some_params : {bs : List ParamTree} {xs ys : List Terminal} → DerivesSomeParams bs xs ys → idents_params bs + idents_terminals ys ≡ idents_terminals xs
counted_some_params (some_params_one d) = omega (arith, counted_param d)
counted_some_params (some_params_more d r) = omega (arith, counted_param d, counted_some_params r)

pub counted_params : {bs : List ParamTree} {xs ys : List Terminal} → DerivesParams bs xs ys → idents_params bs + idents_terminals ys ≡ idents_terminals xs
counted_params params_none = omega arith
counted_params (params_some d) = omega (arith, counted_some_params d)

pub counted_body : {b : Option StmtTrees} {xs ys : List Terminal} → DerivesBody b xs ys → idents_body b + idents_terminals ys ≡ idents_terminals xs
counted_body (body_block d) = omega (arith, counted_block d)
counted_body body_none = omega arith

pub counted_ctor : {c : Option (ℕ × ExprTrees)} {ss : StmtTrees} {xs ys : List Terminal} → DerivesCtor c ss xs ys → idents_super_call c + idents_stmts ss + idents_terminals ys ≡ idents_terminals xs
counted_ctor (ctor_plain d) = omega (arith, counted_bstmts d)
counted_ctor (ctor_super a d) = omega (arith, counted_args a, counted_bstmts d)

pub counted_constants : {vs : List VarTree} {xs ys : List Terminal} → DerivesConstants vs xs ys → idents_vars vs + idents_terminals ys ≡ idents_terminals xs
counted_constants (constants_one d) = omega (arith, counted_init d)
counted_constants (constants_more d r) = omega (arith, counted_init d, counted_constants r)

pub counted_parent : {ns : List (List Identifier)} {xs ys : List Terminal} → DerivesParent ns xs ys → idents_names ns + idents_terminals ys ≡ idents_terminals xs
counted_parent parent_none = omega arith
counted_parent (parent_some d) = omega (arith, counted_name d)

pub counted_parents : {ns : List (List Identifier)} {xs ys : List Terminal} → DerivesParents ns xs ys → idents_names ns + idents_terminals ys ≡ idents_terminals xs
counted_parents parents_none = omega arith
counted_parents (parents_some d) = omega (arith, counted_names d)

pub counted_interfaces : {ns : List (List Identifier)} {xs ys : List Terminal} → DerivesInterfaces ns xs ys → idents_names ns + idents_terminals ys ≡ idents_terminals xs
counted_interfaces interfaces_none = omega arith
counted_interfaces (interfaces_some d) = omega (arith, counted_names d)

mutual
  pub counted_type : {x : TypeDeclTree} {xs ys : List Terminal} → DerivesType x xs ys → idents_decl x + idents_terminals ys ≡ idents_terminals xs
  counted_type (type_class m d) = omega (arith, counted_mods m, counted_class d)
  counted_type (type_interface m d) = omega (arith, counted_mods m, counted_interface d)

  pub counted_class : {ks : List ℕ} {x : TypeDeclTree} {xs ys : List Terminal} → DerivesClass ks x xs ys → idents_decl x + idents_terminals ys ≡ idents_terminals xs
  counted_class (class a b d) = omega (arith, counted_parent a, counted_interfaces b, counted_members d)

  pub counted_interface : {ks : List ℕ} {x : TypeDeclTree} {xs ys : List Terminal} → DerivesInterface ks x xs ys → idents_decl x + idents_terminals ys ≡ idents_terminals xs
  counted_interface (interface a d) = omega (arith, counted_parents a, counted_imembers d)

  pub counted_members : {ms : MemberTrees} {xs ys : List Terminal} → DerivesMembers ms xs ys → idents_members ms + idents_terminals ys ≡ idents_terminals xs
  counted_members members_none = omega arith
  counted_members (members_more d r) = omega (arith, counted_member d, counted_members r)
  counted_members (members_empty r) = omega (arith, counted_members r)

  pub counted_member : {m : MemberTree} {xs ys : List Terminal} → DerivesMember m xs ys → idents_member m + idents_terminals ys ≡ idents_terminals xs
  counted_member (member_type d) = omega (arith, counted_type d)
  counted_member (member_field m d v) = omega (arith, counted_mods m, counted_ty d, counted_vars v)
  counted_member (member_method m d q b) = omega (arith, counted_mods m, counted_result d, counted_params q, counted_body b)
  counted_member (member_ctor m q c) = omega (arith, counted_mods m, counted_params q, counted_ctor c)

  pub counted_imembers : {ms : MemberTrees} {xs ys : List Terminal} → DerivesImembers ms xs ys → idents_members ms + idents_terminals ys ≡ idents_terminals xs
  counted_imembers imembers_none = omega arith
  counted_imembers (imembers_more d r) = omega (arith, counted_imember d, counted_imembers r)
  counted_imembers (imembers_empty r) = omega (arith, counted_imembers r)

  pub counted_imember : {m : MemberTree} {xs ys : List Terminal} → DerivesImember m xs ys → idents_member m + idents_terminals ys ≡ idents_terminals xs
  counted_imember (imember_type d) = omega (arith, counted_type d)
  counted_imember (imember_field m d v) = omega (arith, counted_mods m, counted_ty d, counted_constants v)
  counted_imember (imember_method m d q b) = omega (arith, counted_mods m, counted_result d, counted_params q, counted_body b)

pub counted_package : {n : Option (List Identifier)} {xs ys : List Terminal} → DerivesPackage n xs ys → idents_package n + idents_terminals ys ≡ idents_terminals xs
counted_package package_none = omega arith
counted_package (package_some d) = omega (arith, counted_name d)

pub counted_import : {x : ImportTree} {xs ys : List Terminal} → DerivesImport x xs ys → length x.name + idents_terminals ys ≡ idents_terminals xs
counted_import (import_one d) = omega (arith, counted_name d)
counted_import (import_all d) = omega (arith, counted_name d)
counted_import (import_static_one d h) = omega (arith, counted_name d)
counted_import (import_static_all d) = omega (arith, counted_name d)

pub counted_imports : {is : List ImportTree} {xs ys : List Terminal} → DerivesImports is xs ys → idents_imports is + idents_terminals ys ≡ idents_terminals xs
counted_imports imports_none = omega arith
counted_imports (imports_more d r) = omega (arith, counted_import d, counted_imports r)

pub counted_types : {ts : List TypeDeclTree} {xs ys : List Terminal} → DerivesTypes ts xs ys → idents_decls ts + idents_terminals ys ≡ idents_terminals xs
counted_types types_none = omega arith
counted_types (types_more d r) = omega (arith, counted_type d, counted_types r)
counted_types (types_empty r) = omega (arith, counted_types r)

pub counted_file : (xs : List Terminal) (u : UnitTree) → Derives xs u → idents_unit u ≡ idents_terminals xs
counted_file xs u (file a b d) = omega (arith, counted_package a, counted_imports b, counted_types d)

-- no more of the terminals are identifiers than there are
few_idents : (xs : List Terminal) → idents_terminals xs ≤ length xs
few_idents [] = omega arith
few_idents (Ident i ∷ xs) = omega (arith, few_idents xs)
few_idents (Keyword p k ∷ xs) = omega (arith, few_idents xs)
few_idents (Literal p l ∷ xs) = omega (arith, few_idents xs)
few_idents (Minimum p ∷ xs) = omega (arith, few_idents xs)
few_idents (MinimumLong p ∷ xs) = omega (arith, few_idents xs)
few_idents (Punct p o ∷ xs) = omega (arith, few_idents xs)

pub few_in_file : (xs : List Terminal) (u : UnitTree) → Derives xs u → idents_unit u ≤ length xs
few_in_file xs u d = omega (arith, counted_file xs u d, few_idents xs)
