-- That the identifiers of a file are numbered where those of its terminals are.
use Rattle.std.proofs.Common.{ℕ, List, [], Option, Some}
use Rattle.jv_tree.specs.declared.name.Ident.{Ident as Identifier}
use Rattle.jv_tree.specs.ExprTree.{ExprTrees}
use Rattle.jv_tree.specs.StmtTree.{VarTree, StmtTrees}
use Rattle.jv_tree.specs.DeclTree.{ParamTree, TypeDeclTree, MemberTree, MemberTrees, ImportTree, UnitTree}
use Rattle.jv_grammar.specs.declared.terminal.Terminal.{Terminal}
use Rattle.jv_grammar.specs.DeclGrammar.{DerivesMods, mods_none, mods_more, DerivesParam, param_plain, param_final, DerivesSomeParams, some_params_one, some_params_more, DerivesParams, params_none, params_some, DerivesBody, body_block, body_none, DerivesCtor, ctor_plain, ctor_super, DerivesConstants, constants_one, constants_more, DerivesParent, parent_none, parent_some, DerivesParents, parents_none, parents_some, DerivesInterfaces, interfaces_none, interfaces_some, DerivesType, type_class, type_interface, DerivesClass, class, DerivesInterface, interface, DerivesMembers, members_none, members_more, members_empty, DerivesMember, member_type, member_field, member_method, member_ctor, DerivesImembers, imembers_none, imembers_more, imembers_empty, DerivesImember, imember_type, imember_field, imember_method, DerivesPackage, package_none, package_some, DerivesImport, import_one, import_all, import_static_one, import_static_all, DerivesImports, imports_none, imports_more, DerivesTypes, types_none, types_more, types_empty, Derives, file}
use Rattle.std.specs.List.{All}
use Rattle.std.proofs.lemmas.List.Elements.{All-cons, All-nil}
use Rattle.jv_tree.specs.Numbered.{IsNumberedName, AreNumberedNames, IsNumberedVar, AreNumberedStmts, IsNumberedParam, IsNumberedBody, IsNumberedCall, IsNumberedDecl, IsNumberedMember, AreNumberedMembers, IsNumberedPackage, IsNumberedImport, IsNumbered}
use Rattle.jv_parse.specs.Identifiers.{AreNumberedTerminals}
use Rattle.jv_parse.proofs.ExprNumbers.{numbered_name, numbered_names, numbered_ty, numbered_result, numbered_args, numbered_init}
use Rattle.jv_parse.proofs.StmtNumbers.{numbered_vars, numbered_block, numbered_bstmts}

module _ (n : ℕ) where
  -- a derivation gives its tree the identifiers of the terminals that it takes
  pub numbered_mods : {ks : List ℕ} {xs ys : List Terminal} → DerivesMods ks xs ys → AreNumberedTerminals n xs → AreNumberedTerminals n ys
  numbered_mods mods_none h = h
  numbered_mods (mods_more g d) h = numbered_mods d h

  pub numbered_param : {a : ParamTree} {xs ys : List Terminal} → DerivesParam a xs ys → AreNumberedTerminals n xs → IsNumberedParam n a × AreNumberedTerminals n ys
  numbered_param (param_plain d) h = let a = numbered_ty n d h in ((a.0, a.1.0), a.1.1)
  numbered_param (param_final d) h = let a = numbered_ty n d h in ((a.0, a.1.0), a.1.1)

  pub numbered_some_params : {bs : List ParamTree} {xs ys : List Terminal} → DerivesSomeParams bs xs ys → AreNumberedTerminals n xs → All (IsNumberedParam n) bs × AreNumberedTerminals n ys
  numbered_some_params (some_params_one {a} d) h = let x = numbered_param d h in (All-cons (IsNumberedParam n) a [] x.0 (All-nil (IsNumberedParam n)), x.1)
  numbered_some_params (some_params_more {a} {bs} d r) h = let x = numbered_param d h in let y = numbered_some_params r x.1 in (All-cons (IsNumberedParam n) a bs x.0 y.0, y.1)

  pub numbered_params : {bs : List ParamTree} {xs ys : List Terminal} → DerivesParams bs xs ys → AreNumberedTerminals n xs → All (IsNumberedParam n) bs × AreNumberedTerminals n ys
  numbered_params params_none h = (All-nil (IsNumberedParam n), h)
  numbered_params (params_some d) h = numbered_some_params d h

  pub numbered_body : {b : Option StmtTrees} {xs ys : List Terminal} → DerivesBody b xs ys → AreNumberedTerminals n xs → IsNumberedBody n b × AreNumberedTerminals n ys
  numbered_body (body_block d) h = numbered_block n d h
  numbered_body body_none h = (tt, h)

  pub numbered_ctor : {c : Option (ℕ × ExprTrees)} {ss : StmtTrees} {xs ys : List Terminal} → DerivesCtor c ss xs ys → AreNumberedTerminals n xs → (IsNumberedCall n c × AreNumberedStmts n ss) × AreNumberedTerminals n ys
  numbered_ctor (ctor_plain d) h = let a = numbered_bstmts n d h in ((tt, a.0), a.1)
  numbered_ctor (ctor_super r d) h = let a = numbered_args n r h in let b = numbered_bstmts n d a.1 in ((a.0, b.0), b.1)

  pub numbered_constants : {vs : List VarTree} {xs ys : List Terminal} → DerivesConstants vs xs ys → AreNumberedTerminals n xs → All (IsNumberedVar n) vs × AreNumberedTerminals n ys
  numbered_constants (constants_one {i} {x} d) h = let a = numbered_init n d h.1 in (All-cons (IsNumberedVar n) (record { name = i; init = Some x }) [] (h.0, a.0) (All-nil (IsNumberedVar n)), a.1)
  numbered_constants (constants_more {i} {x} {vs} d r) h = let a = numbered_init n d h.1 in let b = numbered_constants r a.1 in (All-cons (IsNumberedVar n) (record { name = i; init = Some x }) vs (h.0, a.0) b.0, b.1)

  pub numbered_parent : {ns : List (List Identifier)} {xs ys : List Terminal} → DerivesParent ns xs ys → AreNumberedTerminals n xs → AreNumberedNames n ns × AreNumberedTerminals n ys
  numbered_parent parent_none h = (All-nil (IsNumberedName n), h)
  numbered_parent (parent_some {ids} d) h = let a = numbered_name n d h in (All-cons (IsNumberedName n) ids [] a.0 (All-nil (IsNumberedName n)), a.1)

  pub numbered_parents : {ns : List (List Identifier)} {xs ys : List Terminal} → DerivesParents ns xs ys → AreNumberedTerminals n xs → AreNumberedNames n ns × AreNumberedTerminals n ys
  numbered_parents parents_none h = (All-nil (IsNumberedName n), h)
  numbered_parents (parents_some d) h = numbered_names n d h

  pub numbered_interfaces : {ns : List (List Identifier)} {xs ys : List Terminal} → DerivesInterfaces ns xs ys → AreNumberedTerminals n xs → AreNumberedNames n ns × AreNumberedTerminals n ys
  numbered_interfaces interfaces_none h = (All-nil (IsNumberedName n), h)
  numbered_interfaces (interfaces_some d) h = numbered_names n d h

  mutual
    pub numbered_type : {x : TypeDeclTree} {xs ys : List Terminal} → DerivesType x xs ys → AreNumberedTerminals n xs → IsNumberedDecl n x × AreNumberedTerminals n ys
    numbered_type (type_class m d) h = numbered_class d (numbered_mods m h)
    numbered_type (type_interface m d) h = numbered_interface d (numbered_mods m h)

    pub numbered_class : {ks : List ℕ} {x : TypeDeclTree} {xs ys : List Terminal} → DerivesClass ks x xs ys → AreNumberedTerminals n xs → IsNumberedDecl n x × AreNumberedTerminals n ys
    numbered_class (class a b d) h = let x = numbered_parent a h.1 in let y = numbered_interfaces b x.1 in let z = numbered_members d y.1 in ((h.0, x.0, y.0, z.0), z.1)

    pub numbered_interface : {ks : List ℕ} {x : TypeDeclTree} {xs ys : List Terminal} → DerivesInterface ks x xs ys → AreNumberedTerminals n xs → IsNumberedDecl n x × AreNumberedTerminals n ys
    numbered_interface (interface a d) h = let x = numbered_parents a h.1 in let z = numbered_imembers d x.1 in ((h.0, x.0, All-nil (IsNumberedName n), z.0), z.1)

    pub numbered_members : {ms : MemberTrees} {xs ys : List Terminal} → DerivesMembers ms xs ys → AreNumberedTerminals n xs → AreNumberedMembers n ms × AreNumberedTerminals n ys
    numbered_members members_none h = (tt, h)
    numbered_members (members_more d r) h = let a = numbered_member d h in let b = numbered_members r a.1 in ((a.0, b.0), b.1)
    numbered_members (members_empty r) h = numbered_members r h

    pub numbered_member : {m : MemberTree} {xs ys : List Terminal} → DerivesMember m xs ys → AreNumberedTerminals n xs → IsNumberedMember n m × AreNumberedTerminals n ys
    numbered_member (member_type d) h = numbered_type d h
    numbered_member (member_field m d v) h = let a = numbered_ty n d (numbered_mods m h) in let b = numbered_vars n v a.1 in ((a.0, b.0), b.1)
    numbered_member (member_method m d q b) h = let x = numbered_result n d (numbered_mods m h) in let y = numbered_params q x.1.1 in let z = numbered_body b y.1 in ((x.0, x.1.0, y.0, z.0), z.1)
    numbered_member (member_ctor m q c) h = let x = numbered_mods m h in let y = numbered_params q x.1 in let z = numbered_ctor c y.1 in ((x.0, y.0, z.0.0, z.0.1), z.1)

    pub numbered_imembers : {ms : MemberTrees} {xs ys : List Terminal} → DerivesImembers ms xs ys → AreNumberedTerminals n xs → AreNumberedMembers n ms × AreNumberedTerminals n ys
    numbered_imembers imembers_none h = (tt, h)
    numbered_imembers (imembers_more d r) h = let a = numbered_imember d h in let b = numbered_imembers r a.1 in ((a.0, b.0), b.1)
    numbered_imembers (imembers_empty r) h = numbered_imembers r h

    pub numbered_imember : {m : MemberTree} {xs ys : List Terminal} → DerivesImember m xs ys → AreNumberedTerminals n xs → IsNumberedMember n m × AreNumberedTerminals n ys
    numbered_imember (imember_type d) h = numbered_type d h
    numbered_imember (imember_field m d v) h = let a = numbered_ty n d (numbered_mods m h) in let b = numbered_constants v a.1 in ((a.0, b.0), b.1)
    numbered_imember (imember_method m d q b) h = let x = numbered_result n d (numbered_mods m h) in let y = numbered_params q x.1.1 in let z = numbered_body b y.1 in ((x.0, x.1.0, y.0, z.0), z.1)

  pub numbered_package : {o : Option (List Identifier)} {xs ys : List Terminal} → DerivesPackage o xs ys → AreNumberedTerminals n xs → IsNumberedPackage n o × AreNumberedTerminals n ys
  numbered_package package_none h = (tt, h)
  numbered_package (package_some d) h = numbered_name n d h

  pub numbered_import : {x : ImportTree} {xs ys : List Terminal} → DerivesImport x xs ys → AreNumberedTerminals n xs → IsNumberedImport n x × AreNumberedTerminals n ys
  numbered_import (import_one d) h = numbered_name n d h
  numbered_import (import_all d) h = numbered_name n d h
  numbered_import (import_static_one d l) h = numbered_name n d h
  numbered_import (import_static_all d) h = numbered_name n d h

  pub numbered_imports : {is : List ImportTree} {xs ys : List Terminal} → DerivesImports is xs ys → AreNumberedTerminals n xs → All (IsNumberedImport n) is × AreNumberedTerminals n ys
  numbered_imports imports_none h = (All-nil (IsNumberedImport n), h)
  numbered_imports (imports_more {x} {is} d r) h = let a = numbered_import d h in let b = numbered_imports r a.1 in (All-cons (IsNumberedImport n) x is a.0 b.0, b.1)

  pub numbered_types : {ts : List TypeDeclTree} {xs ys : List Terminal} → DerivesTypes ts xs ys → AreNumberedTerminals n xs → All (IsNumberedDecl n) ts × AreNumberedTerminals n ys
  numbered_types types_none h = (All-nil (IsNumberedDecl n), h)
  numbered_types (types_more {x} {ts} d r) h = let a = numbered_type d h in let b = numbered_types r a.1 in (All-cons (IsNumberedDecl n) x ts a.0 b.0, b.1)
  numbered_types (types_empty r) h = numbered_types r h

pub numbered_file : (n : ℕ) (xs : List Terminal) (u : UnitTree) → Derives xs u → AreNumberedTerminals n xs → IsNumbered n u
numbered_file n xs u (file a b d) h =
    let x = numbered_package n a h in let y = numbered_imports n b x.1 in let z = numbered_types n d y.1 in (x.0, y.0, z.0)
