-- The most pairs of brackets that a type in a derivation of declarations has.
use Rattle.std.specs.Prelude.{ℕ, max, ◌≤◌, List, Option}
use Rattle.jv_tree.specs.ExprTree.{ExprTrees}
use Rattle.jv_tree.specs.StmtTree.{VarTree, StmtTrees}
use Rattle.jv_tree.specs.DeclTree.{ParamTree, TypeDeclTree, MemberTree, MemberTrees, UnitTree}
use Rattle.jv_grammar.specs.declared.terminal.Terminal.{Terminal}
use Rattle.jv_grammar.specs.DeclGrammar.{DerivesParam, param_plain, param_final, DerivesSomeParams, some_params_one, some_params_more, DerivesParams, params_none, params_some, DerivesBody, body_block, body_none, DerivesCtor, ctor_plain, ctor_super, DerivesConstants, constants_one, constants_more, DerivesType, type_class, type_interface, DerivesClass, class, DerivesInterface, interface, DerivesMembers, members_none, members_more, members_empty, DerivesMember, member_type, member_field, member_method, member_ctor, DerivesImembers, imembers_none, imembers_more, imembers_empty, DerivesImember, imember_type, imember_field, imember_method, DerivesTypes, types_none, types_more, types_empty, Derives, file}
use Rattle.jv_grammar.specs.Width.{wide_ty, wide_result, wide_args, wide_init}
use Rattle.jv_grammar.specs.StmtWidth.{wide_vars, wide_block, wide_bstmts}

-- how many pairs of brackets the type of a parameter has
abbrev pub wide_param : {a : ParamTree} {xs ys : List Terminal} → DerivesParam a xs ys → ℕ
wide_param (param_plain d) = wide_ty d
wide_param (param_final d) = wide_ty d

-- the most pairs of brackets that a type of one or more parameters has
abbrev pub wide_some_params : {bs : List ParamTree} {xs ys : List Terminal} → DerivesSomeParams bs xs ys → ℕ
wide_some_params (some_params_one d) = wide_param d
wide_some_params (some_params_more d r) = max (wide_param d) (wide_some_params r)

-- the most pairs of brackets that a type of the parameters in parentheses has, and 0 for none
abbrev pub wide_params : {bs : List ParamTree} {xs ys : List Terminal} → DerivesParams bs xs ys → ℕ
wide_params params_none = 0
wide_params (params_some d) = wide_some_params d

-- the most pairs of brackets that a type in the body of a method has, and 0 without a body
abbrev pub wide_body : {b : Option StmtTrees} {xs ys : List Terminal} → DerivesBody b xs ys → ℕ
wide_body (body_block d) = wide_block d
wide_body body_none = 0

-- the most pairs of brackets that a type in the braces of a constructor has
abbrev pub wide_ctor : {c : Option (ℕ × ExprTrees)} {ss : StmtTrees} {xs ys : List Terminal} → DerivesCtor c ss xs ys → ℕ
wide_ctor (ctor_plain d) = wide_bstmts d
wide_ctor (ctor_super a d) = max (wide_args a) (wide_bstmts d)

-- the most pairs of brackets that a type in the initializers of constants has
abbrev pub wide_constants : {vs : List VarTree} {xs ys : List Terminal} → DerivesConstants vs xs ys → ℕ
wide_constants (constants_one d) = wide_init d
wide_constants (constants_more d r) = max (wide_init d) (wide_constants r)

abbrev mutual
  -- the most pairs of brackets that a type in a class or an interface has
  pub wide_type : {x : TypeDeclTree} {xs ys : List Terminal} → DerivesType x xs ys → ℕ
  wide_type (type_class m d) = wide_class d
  wide_type (type_interface m d) = wide_interface d

  -- the most pairs of brackets that a type in a class behind its modifiers has
  pub wide_class : {ks : List ℕ} {x : TypeDeclTree} {xs ys : List Terminal} → DerivesClass ks x xs ys → ℕ
  wide_class (class a b d) = wide_members d

  -- the most pairs of brackets that a type in an interface behind its modifiers has
  pub wide_interface : {ks : List ℕ} {x : TypeDeclTree} {xs ys : List Terminal} → DerivesInterface ks x xs ys → ℕ
  wide_interface (interface a d) = wide_imembers d

  -- the most pairs of brackets that a type in the members of a class has
  pub wide_members : {ms : MemberTrees} {xs ys : List Terminal} → DerivesMembers ms xs ys → ℕ
  wide_members members_none = 0
  wide_members (members_more d r) = max (wide_member d) (wide_members r)
  wide_members (members_empty r) = wide_members r

  -- the most pairs of brackets that a type in a member of a class has
  pub wide_member : {m : MemberTree} {xs ys : List Terminal} → DerivesMember m xs ys → ℕ
  wide_member (member_type d) = wide_type d
  wide_member (member_field m d v) = max (wide_ty d) (wide_vars v)
  wide_member (member_method m d q b) = max (wide_result d) (max (wide_params q) (wide_body b))
  wide_member (member_ctor m q c) = max (wide_params q) (wide_ctor c)

  -- the most pairs of brackets that a type in the members of an interface has
  pub wide_imembers : {ms : MemberTrees} {xs ys : List Terminal} → DerivesImembers ms xs ys → ℕ
  wide_imembers imembers_none = 0
  wide_imembers (imembers_more d r) = max (wide_imember d) (wide_imembers r)
  wide_imembers (imembers_empty r) = wide_imembers r

  -- the most pairs of brackets that a type in a member of an interface has
  pub wide_imember : {m : MemberTree} {xs ys : List Terminal} → DerivesImember m xs ys → ℕ
  wide_imember (imember_type d) = wide_type d
  wide_imember (imember_field m d v) = max (wide_ty d) (wide_constants v)
  wide_imember (imember_method m d q b) = max (wide_result d) (max (wide_params q) (wide_body b))

-- the most pairs of brackets that a type in the classes and interfaces of a file has
abbrev pub wide_types : {ts : List TypeDeclTree} {xs ys : List Terminal} → DerivesTypes ts xs ys → ℕ
wide_types types_none = 0
wide_types (types_more d r) = max (wide_type d) (wide_types r)
wide_types (types_empty r) = wide_types r

-- the most pairs of brackets that a type in a file has
abbrev pub wide_file : {xs : List Terminal} {u : UnitTree} → Derives xs u → ℕ
wide_file (file a b d) = wide_types d

-- no type in the derivation of a file has more than 200 pairs of brackets
abbrev pub HasFewPairs : {xs : List Terminal} {u : UnitTree} → Derives xs u → Type 0
HasFewPairs d = wide_file d ≤ 200
