-- That a derivation of declarations takes terminals, and nests less deep than it takes them.
use Rattle.std.proofs.Common.{ℕ, ◌<◌, ◌≤◌, ◌+◌, List, length, Option, arith}
use Rattle.jv_tree.specs.declared.name.Ident.{Ident as Identifier}
use Rattle.jv_tree.specs.ExprTree.{ExprTrees}
use Rattle.jv_tree.specs.StmtTree.{VarTree, StmtTrees}
use Rattle.jv_tree.specs.DeclTree.{ParamTree, TypeDeclTree, MemberTree, MemberTrees, ImportTree, UnitTree}
use Rattle.jv_grammar.specs.declared.terminal.Terminal.{Terminal}
use Rattle.jv_grammar.specs.DeclGrammar.{DerivesMods, mods_none, mods_more, DerivesParam, param_plain, param_final, DerivesSomeParams, some_params_one, some_params_more, DerivesParams, params_none, params_some, DerivesBody, body_block, body_none, DerivesCtor, ctor_plain, ctor_super, DerivesConstants, constants_one, constants_more, DerivesParent, parent_none, parent_some, DerivesParents, parents_none, parents_some, DerivesInterfaces, interfaces_none, interfaces_some, DerivesType, type_class, type_interface, DerivesClass, class, DerivesInterface, interface, DerivesMembers, members_none, members_more, members_empty, DerivesMember, member_type, member_field, member_method, member_ctor, DerivesImembers, imembers_none, imembers_more, imembers_empty, DerivesImember, imember_type, imember_field, imember_method, DerivesPackage, package_none, package_some, DerivesImport, import_one, import_all, import_static_one, import_static_all, DerivesImports, imports_none, imports_more, DerivesTypes, types_none, types_more, types_empty, Derives, file}
use Rattle.jv_grammar.proofs.Depth.{less_name, less_names, less_ty, less_result, less_args, less_init, fits_args, fits_init}
use Rattle.jv_grammar.proofs.StmtDepth.{less_vars, less_block, less_bstmts, fits_vars, fits_block, fits_bstmts}
pub use Rattle.jv_grammar.specs.Depth.{deep_body, deep_ctor, deep_constants, deep_type, deep_class, deep_interface, deep_members, deep_member, deep_imembers, deep_imember, deep_types, deep_file}

-- a derivation takes at least one terminal; what may be left out takes any number
pub less_mods : {ks : List ℕ} {xs ys : List Terminal} → DerivesMods ks xs ys → length ys ≤ length xs
less_mods mods_none = omega arith
less_mods (mods_more h d) = omega (arith, less_mods d)

pub less_param : {a : ParamTree} {xs ys : List Terminal} → DerivesParam a xs ys → length ys < length xs
less_param (param_plain d) = omega (arith, less_ty d)
less_param (param_final d) = omega (arith, less_ty d)

pub less_some_params : {bs : List ParamTree} {xs ys : List Terminal} → DerivesSomeParams bs xs ys → length ys < length xs
less_some_params (some_params_one d) = less_param d
less_some_params (some_params_more d r) = omega (arith, less_param d, less_some_params r)

pub less_params : {bs : List ParamTree} {xs ys : List Terminal} → DerivesParams bs xs ys → length ys < length xs
less_params params_none = omega arith
less_params (params_some d) = omega (arith, less_some_params d)

pub less_body : {b : Option StmtTrees} {xs ys : List Terminal} → DerivesBody b xs ys → length ys < length xs
less_body (body_block d) = less_block d
less_body body_none = omega arith

pub less_ctor : {c : Option (ℕ × ExprTrees)} {ss : StmtTrees} {xs ys : List Terminal} → DerivesCtor c ss xs ys → length ys < length xs
less_ctor (ctor_plain d) = omega (arith, less_bstmts d)
less_ctor (ctor_super a d) = omega (arith, less_args a, less_bstmts d)

pub less_constants : {vs : List VarTree} {xs ys : List Terminal} → DerivesConstants vs xs ys → length ys < length xs
less_constants (constants_one d) = omega (arith, less_init d)
less_constants (constants_more d r) = omega (arith, less_init d, less_constants r)

pub less_parent : {ns : List (List Identifier)} {xs ys : List Terminal} → DerivesParent ns xs ys → length ys ≤ length xs
less_parent parent_none = omega arith
less_parent (parent_some d) = omega (arith, less_name d)

pub less_parents : {ns : List (List Identifier)} {xs ys : List Terminal} → DerivesParents ns xs ys → length ys ≤ length xs
less_parents parents_none = omega arith
less_parents (parents_some d) = omega (arith, less_names d)

pub less_interfaces : {ns : List (List Identifier)} {xs ys : List Terminal} → DerivesInterfaces ns xs ys → length ys ≤ length xs
less_interfaces interfaces_none = omega arith
less_interfaces (interfaces_some d) = omega (arith, less_names d)

mutual
  pub less_type : {x : TypeDeclTree} {xs ys : List Terminal} → DerivesType x xs ys → length ys < length xs
  less_type (type_class m d) = omega (arith, less_mods m, less_class d)
  less_type (type_interface m d) = omega (arith, less_mods m, less_interface d)

  pub less_class : {ks : List ℕ} {x : TypeDeclTree} {xs ys : List Terminal} → DerivesClass ks x xs ys → length ys < length xs
  less_class (class a b d) = omega (arith, less_parent a, less_interfaces b, less_members d)

  pub less_interface : {ks : List ℕ} {x : TypeDeclTree} {xs ys : List Terminal} → DerivesInterface ks x xs ys → length ys < length xs
  less_interface (interface a d) = omega (arith, less_parents a, less_imembers d)

  pub less_members : {ms : MemberTrees} {xs ys : List Terminal} → DerivesMembers ms xs ys → length ys ≤ length xs
  less_members members_none = omega arith
  less_members (members_more d r) = omega (arith, less_member d, less_members r)
  less_members (members_empty r) = omega (arith, less_members r)

  pub less_member : {m : MemberTree} {xs ys : List Terminal} → DerivesMember m xs ys → length ys < length xs
  less_member (member_type d) = less_type d
  less_member (member_field m d v) = omega (arith, less_mods m, less_ty d, less_vars v)
  less_member (member_method m d q b) = omega (arith, less_mods m, less_result d, less_params q, less_body b)
  less_member (member_ctor m q c) = omega (arith, less_mods m, less_params q, less_ctor c)

  pub less_imembers : {ms : MemberTrees} {xs ys : List Terminal} → DerivesImembers ms xs ys → length ys ≤ length xs
  less_imembers imembers_none = omega arith
  less_imembers (imembers_more d r) = omega (arith, less_imember d, less_imembers r)
  less_imembers (imembers_empty r) = omega (arith, less_imembers r)

  pub less_imember : {m : MemberTree} {xs ys : List Terminal} → DerivesImember m xs ys → length ys < length xs
  less_imember (imember_type d) = less_type d
  less_imember (imember_field m d v) = omega (arith, less_mods m, less_ty d, less_constants v)
  less_imember (imember_method m d q b) = omega (arith, less_mods m, less_result d, less_params q, less_body b)

pub less_package : {n : Option (List Identifier)} {xs ys : List Terminal} → DerivesPackage n xs ys → length ys ≤ length xs
less_package package_none = omega arith
less_package (package_some d) = omega (arith, less_name d)

pub less_import : {x : ImportTree} {xs ys : List Terminal} → DerivesImport x xs ys → length ys < length xs
less_import (import_one d) = omega (arith, less_name d)
less_import (import_all d) = omega (arith, less_name d)
less_import (import_static_one d h) = omega (arith, less_name d)
less_import (import_static_all d) = omega (arith, less_name d)

pub less_imports : {is : List ImportTree} {xs ys : List Terminal} → DerivesImports is xs ys → length ys ≤ length xs
less_imports imports_none = omega arith
less_imports (imports_more d r) = omega (arith, less_import d, less_imports r)

pub less_types : {ts : List TypeDeclTree} {xs ys : List Terminal} → DerivesTypes ts xs ys → length ys ≤ length xs
less_types types_none = omega arith
less_types (types_more d r) = omega (arith, less_type d, less_types r)
less_types (types_empty r) = omega (arith, less_types r)

-- a derivation nests less deep than it has terminals
pub fits_body : {b : Option StmtTrees} {xs ys : List Terminal} (d : DerivesBody b xs ys) → deep_body d + length ys < length xs
fits_body (body_block d) = fits_block d
fits_body body_none = omega arith

pub fits_ctor : {c : Option (ℕ × ExprTrees)} {ss : StmtTrees} {xs ys : List Terminal} (d : DerivesCtor c ss xs ys) → deep_ctor d + length ys < length xs
fits_ctor (ctor_plain d) = omega (arith, fits_bstmts d)
fits_ctor (ctor_super a d) = omega (arith, fits_args a, fits_bstmts d, less_bstmts d)

pub fits_constants : {vs : List VarTree} {xs ys : List Terminal} (d : DerivesConstants vs xs ys) → deep_constants d + length ys < length xs
fits_constants (constants_one d) = omega (arith, fits_init d)
fits_constants (constants_more d r) = omega (arith, fits_init d, fits_constants r)

mutual
  pub fits_type : {x : TypeDeclTree} {xs ys : List Terminal} (d : DerivesType x xs ys) → deep_type d + length ys < length xs
  fits_type (type_class m d) = omega (arith, less_mods m, fits_class d)
  fits_type (type_interface m d) = omega (arith, less_mods m, fits_interface d)

  pub fits_class : {ks : List ℕ} {x : TypeDeclTree} {xs ys : List Terminal} (d : DerivesClass ks x xs ys) → deep_class d + length ys < length xs
  fits_class (class a b d) = omega (arith, less_parent a, less_interfaces b, fits_members d)

  pub fits_interface : {ks : List ℕ} {x : TypeDeclTree} {xs ys : List Terminal} (d : DerivesInterface ks x xs ys) → deep_interface d + length ys < length xs
  fits_interface (interface a d) = omega (arith, less_parents a, fits_imembers d)

  pub fits_members : {ms : MemberTrees} {xs ys : List Terminal} (d : DerivesMembers ms xs ys) → deep_members d + length ys ≤ length xs
  fits_members members_none = omega arith
  fits_members (members_more d r) = omega (arith, fits_member d, fits_members r, less_member d, less_members r)
  fits_members (members_empty r) = omega (arith, fits_members r)

  pub fits_member : {m : MemberTree} {xs ys : List Terminal} (d : DerivesMember m xs ys) → deep_member d + length ys ≤ length xs
  fits_member (member_type d) = omega (arith, fits_type d)
  fits_member (member_field m d v) = omega (arith, less_mods m, less_ty d, fits_vars v)
  fits_member (member_method m d q b) = omega (arith, less_mods m, less_result d, less_params q, fits_body b)
  fits_member (member_ctor m q c) = omega (arith, less_mods m, less_params q, fits_ctor c)

  pub fits_imembers : {ms : MemberTrees} {xs ys : List Terminal} (d : DerivesImembers ms xs ys) → deep_imembers d + length ys ≤ length xs
  fits_imembers imembers_none = omega arith
  fits_imembers (imembers_more d r) = omega (arith, fits_imember d, fits_imembers r, less_imember d, less_imembers r)
  fits_imembers (imembers_empty r) = omega (arith, fits_imembers r)

  pub fits_imember : {m : MemberTree} {xs ys : List Terminal} (d : DerivesImember m xs ys) → deep_imember d + length ys ≤ length xs
  fits_imember (imember_type d) = omega (arith, fits_type d)
  fits_imember (imember_field m d v) = omega (arith, less_mods m, less_ty d, fits_constants v)
  fits_imember (imember_method m d q b) = omega (arith, less_mods m, less_result d, less_params q, fits_body b)

pub fits_types : {ts : List TypeDeclTree} {xs ys : List Terminal} (d : DerivesTypes ts xs ys) → deep_types d + length ys ≤ length xs
fits_types types_none = omega arith
fits_types (types_more d r) = omega (arith, fits_type d, fits_types r, less_type d, less_types r)
fits_types (types_empty r) = omega (arith, fits_types r)

pub fits_file : {xs : List Terminal} {u : UnitTree} (d : Derives xs u) → deep_file d ≤ length xs
fits_file (file a b d) = omega (arith, less_package a, less_imports b, fits_types d)
