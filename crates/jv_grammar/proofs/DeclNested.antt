-- How deep declarations and files nest: no deeper than the load leaves room for.
use Rattle.std.proofs.Common.{ℕ, suc, true, List, [], Option, refl, arith}
use Rattle.jv_tree.specs.declared.name.Ident.{Ident as Identifier}
use Rattle.jv_tree.specs.TypeTree.{TypeTree}
use Rattle.jv_tree.specs.ExprTree.{ExprTrees}
use Rattle.jv_tree.specs.StmtTree.{VarTree, StmtTrees}
use Rattle.jv_tree.specs.DeclTree.{ParamTree, TypeDeclTree, MemberTree, MemberTrees, ImportTree, UnitTree}
use Rattle.jv_grammar.specs.declared.terminal.Terminal.{Terminal}
use Rattle.jv_grammar.specs.TypeGrammar.{DerivesName, DerivesNames, names_one, names_more, DerivesTy, DerivesResult}
use Rattle.jv_grammar.specs.DeclGrammar.{DerivesMods, mods_none, mods_more, DerivesParam, param_plain, param_final, DerivesSomeParams, some_params_one, some_params_more, DerivesParams, params_none, params_some, DerivesBody, body_block, body_none, DerivesCtor, ctor_plain, ctor_super, DerivesConstants, constants_one, constants_more, DerivesParent, parent_none, parent_some, DerivesParents, parents_none, parents_some, DerivesInterfaces, interfaces_none, interfaces_some, DerivesType, type_class, type_interface, DerivesClass, class, DerivesInterface, interface, DerivesMembers, members_none, members_more, members_empty, DerivesMember, member_type, member_field, member_method, member_ctor, DerivesImembers, imembers_none, imembers_more, imembers_empty, DerivesImember, imember_type, imember_field, imember_method, DerivesPackage, package_none, package_some, DerivesImport, import_one, import_all, import_static_one, import_static_all, DerivesImports, imports_none, imports_more, DerivesTypes, types_none, types_more, types_empty, Derives, file}
use Rattle.jv_grammar.proofs.DeclDepth.{deep_body, deep_ctor, deep_constants, deep_type, deep_class, deep_interface, deep_members, deep_member, deep_imembers, deep_imember, deep_types, deep_file}
use Rattle.jv_grammar.proofs.Stretches.{Parts, done, eased_parts, round, braces, part, parts, loose}
use Rattle.jv_grammar.proofs.Nested.{nests_name, nests_ty, nests_result, nests_args, parts_init}
use Rattle.jv_grammar.proofs.StmtNested.{parts_vars, nests_block, parts_bstmts}

pub parts_name : {most : ℕ} {b : Option Terminal} {ids : List Identifier} {xs ys : List Terminal} → DerivesName ids xs ys → Parts most b 1 xs ys
parts_name d = part (nests_name d)

parts_names : {most : ℕ} {b : Option Terminal} {ns : List (List Identifier)} {xs ys : List Terminal} → DerivesNames ns xs ys → Parts most b 1 xs ys
parts_names (names_one d) = parts_name d
parts_names (names_more d r) = parts (parts_name d) (λ c. loose refl (parts_names r))

pub parts_ty : {most : ℕ} {b : Option Terminal} {r : TypeTree} {xs ys : List Terminal} → DerivesTy r xs ys → Parts most b 1 xs ys
parts_ty d = part (nests_ty d)

pub parts_result : {most : ℕ} {b : Option Terminal} {r : TypeTree} {xs ys : List Terminal} → DerivesResult r xs ys → Parts most b 1 xs ys
parts_result d = part (nests_result d)

pub parts_mods : {most : ℕ} {b : Option Terminal} {ks : List ℕ} {xs ys : List Terminal} → DerivesMods ks xs ys → Parts most b 1 xs ys
parts_mods mods_none = part done
parts_mods (mods_more m d) = loose refl (parts_mods d)

parts_param : {most : ℕ} {b : Option Terminal} {a : ParamTree} {xs ys : List Terminal} → DerivesParam a xs ys → Parts most b 1 xs ys
parts_param (param_plain d) = parts (parts_ty d) (λ c. loose refl (part done))
parts_param (param_final d) = loose refl (parts (parts_ty d) (λ c. loose refl (part done)))

parts_some_params : {most : ℕ} {b : Option Terminal} {bs : List ParamTree} {xs ys : List Terminal} → DerivesSomeParams bs xs ys → Parts most b 1 xs ys
parts_some_params (some_params_one d) = parts_param d
parts_some_params (some_params_more d r) = parts (parts_param d) (λ c. loose refl (parts_some_params r))

pub parts_params : {most : ℕ} {b : Option Terminal} {bs : List ParamTree} {xs ys : List Terminal} → DerivesParams bs xs ys → Parts most b 1 xs ys
parts_params params_none = eased_parts (part (round (part done) done)) (omega arith)
parts_params (params_some d) = eased_parts (part (round (parts_some_params d) done)) (omega arith)

pub parts_body : {most : ℕ} {b : Option Terminal} {c : Option StmtTrees} {xs ys : List Terminal} (d : DerivesBody c xs ys) → Parts most b (suc (deep_body d)) xs ys
parts_body (body_block d) = part (nests_block d)
parts_body body_none = eased_parts (loose refl (part done)) (omega arith)

pub parts_ctor : {most : ℕ} {b : Option Terminal} {c : Option (ℕ × ExprTrees)} {ss : StmtTrees} {xs ys : List Terminal} (d : DerivesCtor c ss xs ys) → Parts most b (suc (deep_ctor d)) xs ys
parts_ctor (ctor_plain d) = eased_parts (part {ends = true} (braces refl (parts_bstmts d))) (omega arith)
parts_ctor (ctor_super a d) = eased_parts (part {ends = true} (braces refl (loose refl (parts (part (nests_args a)) (λ c. loose refl (parts_bstmts d)))))) (omega arith)

pub parts_constants : {most : ℕ} {b : Option Terminal} {vs : List VarTree} {xs ys : List Terminal} (d : DerivesConstants vs xs ys) → Parts most b (suc (deep_constants d)) xs ys
parts_constants (constants_one d) = loose refl (loose refl (parts_init refl d))
parts_constants (constants_more d r) = eased_parts (loose refl (loose refl (parts (parts_init refl d) (λ c. loose refl (parts_constants r))))) (omega arith)

pub parts_parent : {most : ℕ} {b : Option Terminal} {ns : List (List Identifier)} {xs ys : List Terminal} → DerivesParent ns xs ys → Parts most b 1 xs ys
parts_parent parent_none = part done
parts_parent (parent_some d) = loose refl (parts_name d)

pub parts_parents : {most : ℕ} {b : Option Terminal} {ns : List (List Identifier)} {xs ys : List Terminal} → DerivesParents ns xs ys → Parts most b 1 xs ys
parts_parents parents_none = part done
parts_parents (parents_some d) = loose refl (parts_names d)

pub parts_interfaces : {most : ℕ} {b : Option Terminal} {ns : List (List Identifier)} {xs ys : List Terminal} → DerivesInterfaces ns xs ys → Parts most b 1 xs ys
parts_interfaces interfaces_none = part done
parts_interfaces (interfaces_some d) = loose refl (parts_names d)

-- the braces of a type raise the load, and nest nothing: so the base leaves room for two levels more than the type has
mutual
  pub parts_type : {most : ℕ} {b : Option Terminal} {x : TypeDeclTree} {xs ys : List Terminal} (d : DerivesType x xs ys) → Parts most b (suc (suc (deep_type d))) xs ys
  parts_type (type_class m d) = eased_parts (parts (parts_mods m) (λ c. parts_class d)) (omega arith)
  parts_type (type_interface m d) = eased_parts (parts (parts_mods m) (λ c. parts_interface d)) (omega arith)

  pub parts_class : {most : ℕ} {b : Option Terminal} {ks : List ℕ} {x : TypeDeclTree} {xs ys : List Terminal} (d : DerivesClass ks x xs ys) → Parts most b (suc (suc (deep_class d))) xs ys
  parts_class (class p i d) = loose refl (loose refl (eased_parts (parts (parts_parent p) (λ c. parts (parts_interfaces i) (λ c. part {ends = true} (braces refl (parts_members d))))) (omega arith)))

  pub parts_interface : {most : ℕ} {b : Option Terminal} {ks : List ℕ} {x : TypeDeclTree} {xs ys : List Terminal} (d : DerivesInterface ks x xs ys) → Parts most b (suc (suc (deep_interface d))) xs ys
  parts_interface (interface p d) = loose refl (loose refl (eased_parts (parts (parts_parents p) (λ c. part {ends = true} (braces refl (parts_imembers d)))) (omega arith)))

  pub parts_members : {most : ℕ} {b : Option Terminal} {ms : MemberTrees} {xs ys : List Terminal} (d : DerivesMembers ms xs ys) → Parts most b (suc (deep_members d)) xs ys
  parts_members members_none = eased_parts (part done) (omega arith)
  parts_members (members_more d r) = eased_parts (parts (parts_member d) (λ c. parts_members r)) (omega arith)
  parts_members (members_empty r) = loose refl (parts_members r)

  pub parts_member : {most : ℕ} {b : Option Terminal} {m : MemberTree} {xs ys : List Terminal} (d : DerivesMember m xs ys) → Parts most b (suc (deep_member d)) xs ys
  parts_member (member_type d) = parts_type d
  parts_member (member_field m d v) = eased_parts (parts (parts_mods m) (λ c. parts (parts_ty d) (λ c. parts (parts_vars v) (λ c. loose refl (part done))))) (omega arith)
  parts_member (member_method m d q b) = eased_parts (parts (parts_mods m) (λ c. parts (parts_result d) (λ c. loose refl (parts (parts_params q) (λ c. parts_body b))))) (omega arith)
  parts_member (member_ctor m q c) = eased_parts (parts (parts_mods m) (λ e. loose refl (parts (parts_params q) (λ e. parts_ctor c)))) (omega arith)

  pub parts_imembers : {most : ℕ} {b : Option Terminal} {ms : MemberTrees} {xs ys : List Terminal} (d : DerivesImembers ms xs ys) → Parts most b (suc (deep_imembers d)) xs ys
  parts_imembers imembers_none = eased_parts (part done) (omega arith)
  parts_imembers (imembers_more d r) = eased_parts (parts (parts_imember d) (λ c. parts_imembers r)) (omega arith)
  parts_imembers (imembers_empty r) = loose refl (parts_imembers r)

  pub parts_imember : {most : ℕ} {b : Option Terminal} {m : MemberTree} {xs ys : List Terminal} (d : DerivesImember m xs ys) → Parts most b (suc (deep_imember d)) xs ys
  parts_imember (imember_type d) = parts_type d
  parts_imember (imember_field m d v) = eased_parts (parts (parts_mods m) (λ c. parts (parts_ty d) (λ c. parts (parts_constants v) (λ c. loose refl (part done))))) (omega arith)
  parts_imember (imember_method m d q b) = eased_parts (parts (parts_mods m) (λ c. parts (parts_result d) (λ c. loose refl (parts (parts_params q) (λ c. parts_body b))))) (omega arith)

pub parts_package : {most : ℕ} {b : Option Terminal} {n : Option (List Identifier)} {xs ys : List Terminal} → DerivesPackage n xs ys → Parts most b 1 xs ys
parts_package package_none = part done
parts_package (package_some d) = loose refl (parts (parts_name d) (λ c. loose refl (part done)))

parts_import : {most : ℕ} {b : Option Terminal} {x : ImportTree} {xs ys : List Terminal} → DerivesImport x xs ys → Parts most b 1 xs ys
parts_import (import_one d) = loose refl (parts (parts_name d) (λ c. loose refl (part done)))
parts_import (import_all d) = loose refl (parts (parts_name d) (λ c. loose refl (loose refl (loose refl (part done)))))
parts_import (import_static_one d h) = loose refl (loose refl (parts (parts_name d) (λ c. loose refl (part done))))
parts_import (import_static_all d) = loose refl (loose refl (parts (parts_name d) (λ c. loose refl (loose refl (loose refl (part done))))))

pub parts_imports : {most : ℕ} {b : Option Terminal} {is : List ImportTree} {xs ys : List Terminal} → DerivesImports is xs ys → Parts most b 1 xs ys
parts_imports imports_none = part done
parts_imports (imports_more d r) = parts (parts_import d) (λ c. parts_imports r)

pub parts_types : {most : ℕ} {b : Option Terminal} {ts : List TypeDeclTree} {xs ys : List Terminal} (d : DerivesTypes ts xs ys) → Parts most b (suc (deep_types d)) xs ys
parts_types types_none = part done
parts_types (types_more d r) = eased_parts (parts (parts_type d) (λ c. parts_types r)) (omega arith)
parts_types (types_empty r) = loose refl (parts_types r)

pub parts_file : {most : ℕ} {b : Option Terminal} {xs : List Terminal} {u : UnitTree} (d : Derives xs u) → Parts most b (suc (deep_file d)) xs []
parts_file (file p i d) = eased_parts (parts (parts_package p) (λ c. parts (parts_imports i) (λ c. parts_types d))) (omega arith)
