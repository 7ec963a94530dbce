-- Where no more than 200 pairs of square brackets follow one another, no type that derives in declarations has more.
use Rattle.std.proofs.Common.{ℕ, ◌≤◌, List, Option, arith, refl}
use Rattle.jv_tree.specs.declared.name.Ident.{Ident as Identifier}
use Rattle.jv_tree.specs.ExprTree.{ExprTrees}
use Rattle.jv_tree.specs.StmtTree.{VarTree, StmtTrees}
use Rattle.jv_tree.specs.DeclTree.{ParamTree, TypeDeclTree, MemberTree, MemberTrees, ImportTree, UnitTree}
use Rattle.jv_grammar.specs.declared.terminal.Terminal.{Terminal}
use Rattle.jv_grammar.specs.DeclGrammar.{DerivesMods, mods_none, mods_more, DerivesParam, param_plain, param_final, DerivesSomeParams, some_params_one, some_params_more, DerivesParams, params_none, params_some, DerivesBody, body_block, body_none, DerivesCtor, ctor_plain, ctor_super, DerivesConstants, constants_one, constants_more, DerivesParent, parent_none, parent_some, DerivesParents, parents_none, parents_some, DerivesInterfaces, interfaces_none, interfaces_some, DerivesType, type_class, type_interface, DerivesClass, class, DerivesInterface, interface, DerivesMembers, members_none, members_more, members_empty, DerivesMember, member_type, member_field, member_method, member_ctor, DerivesImembers, imembers_none, imembers_more, imembers_empty, DerivesImember, imember_type, imember_field, imember_method, DerivesPackage, package_none, package_some, DerivesImport, import_one, import_all, import_static_one, import_static_all, DerivesImports, imports_none, imports_more, DerivesTypes, types_none, types_more, types_empty, Derives, file}
use Rattle.jv_grammar.specs.Load.{IsClosed, nothing, terminal, group, HasFewBrackets}
use Rattle.jv_grammar.specs.DeclWidth.{wide_param, wide_some_params, wide_params, wide_body, wide_ctor, wide_constants, wide_type, wide_class, wide_interface, wide_members, wide_member, wide_imembers, wide_imember, wide_types, HasFewPairs}
use Rattle.jv_grammar.proofs.ClosedBrackets.{closed_trans, few_behind}
use Rattle.jv_grammar.proofs.Few.{closed_name, closed_names, closed_ty, closed_result, closed_args, closed_init, few_ty, few_result, few_args, few_init}
use Rattle.jv_grammar.proofs.StmtFew.{closed_vars, closed_block, closed_bstmts, few_vars, few_block, few_bstmts}

-- each bracket of a derivation is closed in it
pub closed_mods : {ks : List ℕ} {xs ys : List Terminal} → DerivesMods ks xs ys → IsClosed xs ys
closed_mods mods_none = nothing
closed_mods (mods_more m d) = terminal refl refl (closed_mods d)

pub closed_param : {a : ParamTree} {xs ys : List Terminal} → DerivesParam a xs ys → IsClosed xs ys
closed_param (param_plain d) = closed_trans (closed_ty d) (terminal refl refl nothing)
closed_param (param_final d) = terminal refl refl (closed_trans (closed_ty d) (terminal refl refl nothing))

pub closed_some_params : {bs : List ParamTree} {xs ys : List Terminal} → DerivesSomeParams bs xs ys → IsClosed xs ys
closed_some_params (some_params_one d) = closed_param d
closed_some_params (some_params_more d r) = closed_trans (closed_param d) (terminal refl refl (closed_some_params r))

pub closed_params : {bs : List ParamTree} {xs ys : List Terminal} → DerivesParams bs xs ys → IsClosed xs ys
closed_params params_none = group refl nothing refl nothing
closed_params (params_some d) = group refl (closed_some_params d) refl nothing

pub closed_body : {b : Option StmtTrees} {xs ys : List Terminal} → DerivesBody b xs ys → IsClosed xs ys
closed_body (body_block d) = closed_block d
closed_body body_none = terminal refl refl nothing

pub closed_ctor : {c : Option (ℕ × ExprTrees)} {ss : StmtTrees} {xs ys : List Terminal} → DerivesCtor c ss xs ys → IsClosed xs ys
closed_ctor (ctor_plain d) = group refl (closed_bstmts d) refl nothing
closed_ctor (ctor_super a d) = group refl (terminal refl refl (closed_trans (closed_args a) (terminal refl refl (closed_bstmts d)))) refl nothing

pub closed_constants : {vs : List VarTree} {xs ys : List Terminal} → DerivesConstants vs xs ys → IsClosed xs ys
closed_constants (constants_one d) = terminal refl refl (terminal refl refl (closed_init d))
closed_constants (constants_more d r) = terminal refl refl (terminal refl refl (closed_trans (closed_init d) (terminal refl refl (closed_constants r))))

pub closed_parent : {ns : List (List Identifier)} {xs ys : List Terminal} → DerivesParent ns xs ys → IsClosed xs ys
closed_parent parent_none = nothing
closed_parent (parent_some d) = terminal refl refl (closed_name d)

pub closed_parents : {ns : List (List Identifier)} {xs ys : List Terminal} → DerivesParents ns xs ys → IsClosed xs ys
closed_parents parents_none = nothing
closed_parents (parents_some d) = terminal refl refl (closed_names d)

pub closed_interfaces : {ns : List (List Identifier)} {xs ys : List Terminal} → DerivesInterfaces ns xs ys → IsClosed xs ys
closed_interfaces interfaces_none = nothing
closed_interfaces (interfaces_some d) = terminal refl refl (closed_names d)

mutual
  pub closed_type : {x : TypeDeclTree} {xs ys : List Terminal} → DerivesType x xs ys → IsClosed xs ys
  closed_type (type_class m d) = closed_trans (closed_mods m) (closed_class d)
  closed_type (type_interface m d) = closed_trans (closed_mods m) (closed_interface d)

  pub closed_class : {ks : List ℕ} {x : TypeDeclTree} {xs ys : List Terminal} → DerivesClass ks x xs ys → IsClosed xs ys
  closed_class (class a b d) = terminal refl refl (terminal refl refl (closed_trans (closed_parent a) (closed_trans (closed_interfaces b) (group refl (closed_members d) refl nothing))))

  pub closed_interface : {ks : List ℕ} {x : TypeDeclTree} {xs ys : List Terminal} → DerivesInterface ks x xs ys → IsClosed xs ys
  closed_interface (interface a d) = terminal refl refl (terminal refl refl (closed_trans (closed_parents a) (group refl (closed_imembers d) refl nothing)))

  pub closed_members : {ms : MemberTrees} {xs ys : List Terminal} → DerivesMembers ms xs ys → IsClosed xs ys
  closed_members members_none = nothing
  closed_members (members_more d r) = closed_trans (closed_member d) (closed_members r)
  closed_members (members_empty r) = terminal refl refl (closed_members r)

  pub closed_member : {m : MemberTree} {xs ys : List Terminal} → DerivesMember m xs ys → IsClosed xs ys
  closed_member (member_type d) = closed_type d
  closed_member (member_field m d v) = closed_trans (closed_mods m) (closed_trans (closed_ty d) (closed_trans (closed_vars v) (terminal refl refl nothing)))
  closed_member (member_method m d q b) = closed_trans (closed_mods m) (closed_trans (closed_result d) (terminal refl refl (closed_trans (closed_params q) (closed_body b))))
  closed_member (member_ctor m q c) = closed_trans (closed_mods m) (terminal refl refl (closed_trans (closed_params q) (closed_ctor c)))

  pub closed_imembers : {ms : MemberTrees} {xs ys : List Terminal} → DerivesImembers ms xs ys → IsClosed xs ys
  closed_imembers imembers_none = nothing
  closed_imembers (imembers_more d r) = closed_trans (closed_imember d) (closed_imembers r)
  closed_imembers (imembers_empty r) = terminal refl refl (closed_imembers r)

  pub closed_imember : {m : MemberTree} {xs ys : List Terminal} → DerivesImember m xs ys → IsClosed xs ys
  closed_imember (imember_type d) = closed_type d
  closed_imember (imember_field m d v) = closed_trans (closed_mods m) (closed_trans (closed_ty d) (closed_trans (closed_constants v) (terminal refl refl nothing)))
  closed_imember (imember_method m d q b) = closed_trans (closed_mods m) (closed_trans (closed_result d) (terminal refl refl (closed_trans (closed_params q) (closed_body b))))

pub closed_package : {n : Option (List Identifier)} {xs ys : List Terminal} → DerivesPackage n xs ys → IsClosed xs ys
closed_package package_none = nothing
closed_package (package_some d) = terminal refl refl (closed_trans (closed_name d) (terminal refl refl nothing))

pub closed_import : {x : ImportTree} {xs ys : List Terminal} → DerivesImport x xs ys → IsClosed xs ys
closed_import (import_one d) = terminal refl refl (closed_trans (closed_name d) (terminal refl refl nothing))
closed_import (import_all d) = terminal refl refl (closed_trans (closed_name d) (terminal refl refl (terminal refl refl (terminal refl refl nothing))))
closed_import (import_static_one d h) = terminal refl refl (terminal refl refl (closed_trans (closed_name d) (terminal refl refl nothing)))
closed_import (import_static_all d) = terminal refl refl (terminal refl refl (closed_trans (closed_name d) (terminal refl refl (terminal refl refl (terminal refl refl nothing)))))

pub closed_imports : {is : List ImportTree} {xs ys : List Terminal} → DerivesImports is xs ys → IsClosed xs ys
closed_imports imports_none = nothing
closed_imports (imports_more d r) = closed_trans (closed_import d) (closed_imports r)

-- no type has more than 200 pairs
pub few_param : {a : ParamTree} {xs ys : List Terminal} → HasFewBrackets xs → (d : DerivesParam a xs ys) → wide_param d ≤ 200
few_param h (param_plain d) = few_ty h d
few_param h (param_final d) = few_ty h.1 d

pub few_some_params : {bs : List ParamTree} {xs ys : List Terminal} → HasFewBrackets xs → (d : DerivesSomeParams bs xs ys) → wide_some_params d ≤ 200
few_some_params h (some_params_one d) = few_param h d
few_some_params h (some_params_more d r) = omega (arith, few_param h d, few_some_params (few_behind (closed_param d) h).1 r)

pub few_params : {bs : List ParamTree} {xs ys : List Terminal} → HasFewBrackets xs → (d : DerivesParams bs xs ys) → wide_params d ≤ 200
few_params h params_none = omega arith
few_params h (params_some d) = few_some_params h.1 d

pub few_body : {b : Option StmtTrees} {xs ys : List Terminal} → HasFewBrackets xs → (d : DerivesBody b xs ys) → wide_body d ≤ 200
few_body h (body_block d) = few_block h d
few_body h body_none = omega arith

pub few_ctor : {c : Option (ℕ × ExprTrees)} {ss : StmtTrees} {xs ys : List Terminal} → HasFewBrackets xs → (d : DerivesCtor c ss xs ys) → wide_ctor d ≤ 200
few_ctor h (ctor_plain d) = few_bstmts h.1 d
few_ctor h (ctor_super a d) = omega (arith, few_args h.1.1 a, few_bstmts (few_behind (closed_args a) h.1.1).1 d)

pub few_constants : {vs : List VarTree} {xs ys : List Terminal} → HasFewBrackets xs → (d : DerivesConstants vs xs ys) → wide_constants d ≤ 200
few_constants h (constants_one d) = few_init h.1.1 d
few_constants h (constants_more d r) = omega (arith, few_init h.1.1 d, few_constants (few_behind (closed_init d) h.1.1).1 r)

mutual
  pub few_type : {x : TypeDeclTree} {xs ys : List Terminal} → HasFewBrackets xs → (d : DerivesType x xs ys) → wide_type d ≤ 200
  few_type h (type_class m d) = few_class (few_behind (closed_mods m) h) d
  few_type h (type_interface m d) = few_interface (few_behind (closed_mods m) h) d

  pub few_class : {ks : List ℕ} {x : TypeDeclTree} {xs ys : List Terminal} → HasFewBrackets xs → (d : DerivesClass ks x xs ys) → wide_class d ≤ 200
  few_class h (class a b d) = few_members (few_behind (closed_interfaces b) (few_behind (closed_parent a) h.1.1)).1 d

  pub few_interface : {ks : List ℕ} {x : TypeDeclTree} {xs ys : List Terminal} → HasFewBrackets xs → (d : DerivesInterface ks x xs ys) → wide_interface d ≤ 200
  few_interface h (interface a d) = few_imembers (few_behind (closed_parents a) h.1.1).1 d

  pub few_members : {ms : MemberTrees} {xs ys : List Terminal} → HasFewBrackets xs → (d : DerivesMembers ms xs ys) → wide_members d ≤ 200
  few_members h members_none = omega arith
  few_members h (members_more d r) = omega (arith, few_member h d, few_members (few_behind (closed_member d) h) r)
  few_members h (members_empty r) = few_members h.1 r

  pub few_member : {m : MemberTree} {xs ys : List Terminal} → HasFewBrackets xs → (d : DerivesMember m xs ys) → wide_member d ≤ 200
  few_member h (member_type d) = few_type h d
  few_member h (member_field m d v) =
      let k = few_behind (closed_mods m) h in
      omega (arith, few_ty k d, few_vars (few_behind (closed_ty d) k) v)
  few_member h (member_method m d q b) =
      let k = few_behind (closed_mods m) h in
      let l = (few_behind (closed_result d) k).1 in
      omega (arith, few_result k d, few_params l q, few_body (few_behind (closed_params q) l) b)
  few_member h (member_ctor m q c) =
      let k = (few_behind (closed_mods m) h).1 in
      omega (arith, few_params k q, few_ctor (few_behind (closed_params q) k) c)

  pub few_imembers : {ms : MemberTrees} {xs ys : List Terminal} → HasFewBrackets xs → (d : DerivesImembers ms xs ys) → wide_imembers d ≤ 200
  few_imembers h imembers_none = omega arith
  few_imembers h (imembers_more d r) = omega (arith, few_imember h d, few_imembers (few_behind (closed_imember d) h) r)
  few_imembers h (imembers_empty r) = few_imembers h.1 r

  pub few_imember : {m : MemberTree} {xs ys : List Terminal} → HasFewBrackets xs → (d : DerivesImember m xs ys) → wide_imember d ≤ 200
  few_imember h (imember_type d) = few_type h d
  few_imember h (imember_field m d v) =
      let k = few_behind (closed_mods m) h in
      omega (arith, few_ty k d, few_constants (few_behind (closed_ty d) k) v)
  few_imember h (imember_method m d q b) =
      let k = few_behind (closed_mods m) h in
      let l = (few_behind (closed_result d) k).1 in
      omega (arith, few_result k d, few_params l q, few_body (few_behind (closed_params q) l) b)

pub few_types : {ts : List TypeDeclTree} {xs ys : List Terminal} → HasFewBrackets xs → (d : DerivesTypes ts xs ys) → wide_types d ≤ 200
few_types h types_none = omega arith
few_types h (types_more d r) = omega (arith, few_type h d, few_types (few_behind (closed_type d) h) r)
few_types h (types_empty r) = few_types h.1 r

pub few_file : {xs : List Terminal} {u : UnitTree} → HasFewBrackets xs → (d : Derives xs u) → HasFewPairs d
few_file h (file a b d) = few_types (few_behind (closed_imports b) (few_behind (closed_package a) h)) d
