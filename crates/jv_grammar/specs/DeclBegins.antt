-- What begins a declaration or a file. `BeginsX xs` says that the terminals of xs, all of them, begin X (see `TypeBegins`).
-- Modifiers are terminals: where they are begun they derive.
use Rattle.std.specs.Prelude.{ℕ, List, [], ◌∷◌, Option}
use Rattle.jv_tree.specs.declared.name.Ident.{Ident as Identifier}
use Rattle.jv_tree.specs.TypeTree.{TypeTree}
use Rattle.jv_tree.specs.ExprTree.{ExprTrees, InitTree}
use Rattle.jv_tree.specs.StmtTree.{VarTree, StmtTrees}
use Rattle.jv_tree.specs.DeclTree.{ParamTree, TypeDeclTree, MemberTree, MemberTrees, ImportTree, UnitTree}
use Rattle.jv_grammar.specs.declared.terminal.Terminal.{Terminal}
use Rattle.jv_grammar.specs.declared.terminal.Terminal.TheVariants.{Ident, Keyword, Punct}
use Rattle.jv_grammar.specs.Marks.{paren_open, brace_open, semicolon, comma, dot, equals_sign, star, word_class, word_extends, word_final, word_implements, word_import, word_interface, word_package, word_static, word_super}
use Rattle.jv_grammar.specs.TypeGrammar.{DerivesName, DerivesTy, DerivesResult}
use Rattle.jv_grammar.specs.ExprGrammar.{DerivesArgs, DerivesInit}
use Rattle.jv_grammar.specs.DeclGrammar.{DerivesMods, DerivesParam, DerivesSomeParams, DerivesParams, DerivesBody, DerivesCtor, DerivesConstants, DerivesParent, DerivesParents, DerivesInterfaces, DerivesType, DerivesClass, DerivesInterface, DerivesMembers, DerivesMember, DerivesImembers, DerivesImember, DerivesPackage, DerivesImport, DerivesImports, DerivesTypes, Derives}
use Rattle.jv_grammar.specs.TypeBegins.{BeginsName, BeginsNames, BeginsTy, BeginsResult}
use Rattle.jv_grammar.specs.ExprBegins.{BeginsArgs, BeginsInit}
use Rattle.jv_grammar.specs.StmtBegins.{BeginsVars, BeginsBlock, BeginsBstmts}

-- param = ["final"] ty Id
pub data BeginsParam : List Terminal → Type 0 where
  begun_param_none : BeginsParam []
  begun_param_ty : {xs : List Terminal} → BeginsTy xs → BeginsParam xs
  begun_param_final : {p : ℕ} {xs : List Terminal} → BeginsTy xs → BeginsParam (Keyword p word_final ∷ xs)
  begun_param_whole : {a : ParamTree} {xs : List Terminal} → DerivesParam a xs [] → BeginsParam xs

-- param {"," param}
pub data BeginsSomeParams : List Terminal → Type 0 where
  begun_some_params_none : BeginsSomeParams []
  begun_some_params_one : {xs : List Terminal} → BeginsParam xs → BeginsSomeParams xs
  begun_some_params_more : {a : ParamTree} {p : ℕ} {xs zs : List Terminal}
      → DerivesParam a xs (Punct p comma ∷ zs) → BeginsSomeParams zs → BeginsSomeParams xs
  begun_some_params_whole : {bs : List ParamTree} {xs : List Terminal} → DerivesSomeParams bs xs [] → BeginsSomeParams xs

-- params = "(" [param {"," param}] ")"
pub data BeginsParams : List Terminal → Type 0 where
  begun_params_none : BeginsParams []
  begun_params_some : {p : ℕ} {xs : List Terminal} → BeginsSomeParams xs → BeginsParams (Punct p paren_open ∷ xs)
  begun_params_whole : {bs : List ParamTree} {xs : List Terminal} → DerivesParams bs xs [] → BeginsParams xs

-- block | ";"
pub data BeginsBody : List Terminal → Type 0 where
  begun_body_none : BeginsBody []
  begun_body_block : {xs : List Terminal} → BeginsBlock xs → BeginsBody xs
  begun_body_whole : {b : Option StmtTrees} {xs : List Terminal} → DerivesBody b xs [] → BeginsBody xs

-- ctor = "{" ["super" args ";"] {bstmt} "}"
pub data BeginsCtor : List Terminal → Type 0 where
  begun_ctor_none : BeginsCtor []
  begun_ctor_plain : {p : ℕ} {xs : List Terminal} → BeginsBstmts xs → BeginsCtor (Punct p brace_open ∷ xs)
  begun_ctor_args : {p r : ℕ} {xs : List Terminal} → BeginsArgs xs → BeginsCtor (Punct p brace_open ∷ Keyword r word_super ∷ xs)
  begun_ctor_super : {es : ExprTrees} {p r u : ℕ} {xs zs : List Terminal}
      → DerivesArgs es xs (Punct u semicolon ∷ zs) → BeginsBstmts zs → BeginsCtor (Punct p brace_open ∷ Keyword r word_super ∷ xs)
  begun_ctor_whole : {c : Option (ℕ × ExprTrees)} {ss : StmtTrees} {xs : List Terminal} → DerivesCtor c ss xs [] → BeginsCtor xs

-- Id "=" init {"," Id "=" init}
pub data BeginsConstants : List Terminal → Type 0 where
  begun_constants_none : BeginsConstants []
  begun_constants_name : {i : Identifier} → BeginsConstants (Ident i ∷ [])
  begun_constants_one : {i : Identifier} {p : ℕ} {xs : List Terminal} → BeginsInit xs → BeginsConstants (Ident i ∷ Punct p equals_sign ∷ xs)
  begun_constants_more : {i : Identifier} {x : InitTree} {p q : ℕ} {xs zs : List Terminal}
      → DerivesInit x xs (Punct q comma ∷ zs) → BeginsConstants zs → BeginsConstants (Ident i ∷ Punct p equals_sign ∷ xs)
  begun_constants_whole : {vs : List VarTree} {xs : List Terminal} → DerivesConstants vs xs [] → BeginsConstants xs

-- ["extends" name]
pub data BeginsParent : List Terminal → Type 0 where
  begun_parent_none : BeginsParent []
  begun_parent_some : {p : ℕ} {xs : List Terminal} → BeginsName xs → BeginsParent (Keyword p word_extends ∷ xs)
  begun_parent_whole : {ns : List (List Identifier)} {xs : List Terminal} → DerivesParent ns xs [] → BeginsParent xs

-- ["extends" names]
pub data BeginsParents : List Terminal → Type 0 where
  begun_parents_none : BeginsParents []
  begun_parents_some : {p : ℕ} {xs : List Terminal} → BeginsNames xs → BeginsParents (Keyword p word_extends ∷ xs)
  begun_parents_whole : {ns : List (List Identifier)} {xs : List Terminal} → DerivesParents ns xs [] → BeginsParents xs

-- ["implements" names]
pub data BeginsInterfaces : List Terminal → Type 0 where
  begun_interfaces_none : BeginsInterfaces []
  begun_interfaces_some : {p : ℕ} {xs : List Terminal} → BeginsNames xs → BeginsInterfaces (Keyword p word_implements ∷ xs)
  begun_interfaces_whole : {ns : List (List Identifier)} {xs : List Terminal} → DerivesInterfaces ns xs [] → BeginsInterfaces xs

mutual
  -- type = {mod} (class | iface)
  pub data BeginsType : List Terminal → Type 0 where
    begun_type_none : BeginsType []
    begun_type_class : {ks : List ℕ} {xs zs : List Terminal} → DerivesMods ks xs zs → BeginsClass zs → BeginsType xs
    begun_type_interface : {ks : List ℕ} {xs zs : List Terminal} → DerivesMods ks xs zs → BeginsInterface zs → BeginsType xs
    begun_type_whole : {x : TypeDeclTree} {xs : List Terminal} → DerivesType x xs [] → BeginsType xs

  -- class = "class" Id ["extends" name] ["implements" names] "{" {member | ";"} "}", behind the modifiers
  pub data BeginsClass : List Terminal → Type 0 where
    begun_class_none : BeginsClass []
    begun_class_word : {p : ℕ} → BeginsClass (Keyword p word_class ∷ [])
    begun_class_parent : {i : Identifier} {p : ℕ} {xs : List Terminal} → BeginsParent xs → BeginsClass (Keyword p word_class ∷ Ident i ∷ xs)
    begun_class_interfaces : {i : Identifier} {ns : List (List Identifier)} {p : ℕ} {xs zs : List Terminal}
        → DerivesParent ns xs zs → BeginsInterfaces zs → BeginsClass (Keyword p word_class ∷ Ident i ∷ xs)
    begun_class_members : {i : Identifier} {ns os : List (List Identifier)} {p q : ℕ} {xs zs ws : List Terminal}
        → DerivesParent ns xs zs → DerivesInterfaces os zs (Punct q brace_open ∷ ws) → BeginsMembers ws
        → BeginsClass (Keyword p word_class ∷ Ident i ∷ xs)
    begun_class_whole : {ks : List ℕ} {x : TypeDeclTree} {xs : List Terminal} → DerivesClass ks x xs [] → BeginsClass xs

  -- iface = "interface" Id ["extends" names] "{" {imember | ";"} "}", behind the modifiers
  pub data BeginsInterface : List Terminal → Type 0 where
    begun_interface_none : BeginsInterface []
    begun_interface_word : {p : ℕ} → BeginsInterface (Keyword p word_interface ∷ [])
    begun_interface_parents : {i : Identifier} {p : ℕ} {xs : List Terminal}
        → BeginsParents xs → BeginsInterface (Keyword p word_interface ∷ Ident i ∷ xs)
    begun_interface_members : {i : Identifier} {ns : List (List Identifier)} {p q : ℕ} {xs zs : List Terminal}
        → DerivesParents ns xs (Punct q brace_open ∷ zs) → BeginsImembers zs → BeginsInterface (Keyword p word_interface ∷ Ident i ∷ xs)
    begun_interface_whole : {ks : List ℕ} {x : TypeDeclTree} {xs : List Terminal} → DerivesInterface ks x xs [] → BeginsInterface xs

  -- {member | ";"}
  pub data BeginsMembers : List Terminal → Type 0 where
    begun_members_none : BeginsMembers []
    begun_members_one : {xs : List Terminal} → BeginsMember xs → BeginsMembers xs
    begun_members_more : {m : MemberTree} {xs zs : List Terminal} → DerivesMember m xs zs → BeginsMembers zs → BeginsMembers xs
    begun_members_empty : {p : ℕ} {xs : List Terminal} → BeginsMembers xs → BeginsMembers (Punct p semicolon ∷ xs)
    begun_members_whole : {ms : MemberTrees} {xs : List Terminal} → DerivesMembers ms xs [] → BeginsMembers xs

  -- member = type | {mod} (ty vars ";" | (ty | "void") Id params (block | ";") | Id params ctor); what begins a `ty` begins a result
  pub data BeginsMember : List Terminal → Type 0 where
    begun_member_none : BeginsMember []
    begun_member_type : {xs : List Terminal} → BeginsType xs → BeginsMember xs
    begun_member_result : {ks : List ℕ} {xs zs : List Terminal} → DerivesMods ks xs zs → BeginsResult zs → BeginsMember xs
    begun_member_vars : {ks : List ℕ} {r : TypeTree} {xs zs ws : List Terminal}
        → DerivesMods ks xs zs → DerivesTy r zs ws → BeginsVars ws → BeginsMember xs
    begun_member_params : {ks : List ℕ} {r : TypeTree} {i : Identifier} {xs zs ws : List Terminal}
        → DerivesMods ks xs zs → DerivesResult r zs (Ident i ∷ ws) → BeginsParams ws → BeginsMember xs
    begun_member_body : {ks : List ℕ} {r : TypeTree} {i : Identifier} {bs : List ParamTree} {xs zs ws vs : List Terminal}
        → DerivesMods ks xs zs → DerivesResult r zs (Ident i ∷ ws) → DerivesParams bs ws vs → BeginsBody vs → BeginsMember xs
    begun_member_ctor_params : {ks : List ℕ} {i : Identifier} {xs zs : List Terminal}
        → DerivesMods ks xs (Ident i ∷ zs) → BeginsParams zs → BeginsMember xs
    begun_member_ctor : {ks : List ℕ} {i : Identifier} {bs : List ParamTree} {xs zs ws : List Terminal}
        → DerivesMods ks xs (Ident i ∷ zs) → DerivesParams bs zs ws → BeginsCtor ws → BeginsMember xs
    begun_member_whole : {m : MemberTree} {xs : List Terminal} → DerivesMember m xs [] → BeginsMember xs

  -- {imember | ";"}
  pub data BeginsImembers : List Terminal → Type 0 where
    begun_imembers_none : BeginsImembers []
    begun_imembers_one : {xs : List Terminal} → BeginsImember xs → BeginsImembers xs
    begun_imembers_more : {m : MemberTree} {xs zs : List Terminal} → DerivesImember m xs zs → BeginsImembers zs → BeginsImembers xs
    begun_imembers_empty : {p : ℕ} {xs : List Terminal} → BeginsImembers xs → BeginsImembers (Punct p semicolon ∷ xs)
    begun_imembers_whole : {ms : MemberTrees} {xs : List Terminal} → DerivesImembers ms xs [] → BeginsImembers xs

  -- imember = type | {mod} (ty Id "=" init {"," Id "=" init} ";" | (ty | "void") Id params (block | ";")); what begins a `ty` begins a result
  pub data BeginsImember : List Terminal → Type 0 where
    begun_imember_none : BeginsImember []
    begun_imember_type : {xs : List Terminal} → BeginsType xs → BeginsImember xs
    begun_imember_result : {ks : List ℕ} {xs zs : List Terminal} → DerivesMods ks xs zs → BeginsResult zs → BeginsImember xs
    begun_imember_constants : {ks : List ℕ} {r : TypeTree} {xs zs ws : List Terminal}
        → DerivesMods ks xs zs → DerivesTy r zs ws → BeginsConstants ws → BeginsImember xs
    begun_imember_params : {ks : List ℕ} {r : TypeTree} {i : Identifier} {xs zs ws : List Terminal}
        → DerivesMods ks xs zs → DerivesResult r zs (Ident i ∷ ws) → BeginsParams ws → BeginsImember xs
    begun_imember_body : {ks : List ℕ} {r : TypeTree} {i : Identifier} {bs : List ParamTree} {xs zs ws vs : List Terminal}
        → DerivesMods ks xs zs → DerivesResult r zs (Ident i ∷ ws) → DerivesParams bs ws vs → BeginsBody vs → BeginsImember xs
    begun_imember_whole : {m : MemberTree} {xs : List Terminal} → DerivesImember m xs [] → BeginsImember xs

-- ["package" name ";"]
pub data BeginsPackage : List Terminal → Type 0 where
  begun_package_none : BeginsPackage []
  begun_package_some : {p : ℕ} {xs : List Terminal} → BeginsName xs → BeginsPackage (Keyword p word_package ∷ xs)
  begun_package_whole : {n : Option (List Identifier)} {xs : List Terminal} → DerivesPackage n xs [] → BeginsPackage xs

-- "import" ["static"] name ["." "*"] ";"; a `.` behind the name is that of a begun name, too
pub data BeginsImport : List Terminal → Type 0 where
  begun_import_none : BeginsImport []
  begun_import_name : {p : ℕ} {xs : List Terminal} → BeginsName xs → BeginsImport (Keyword p word_import ∷ xs)
  begun_import_star : {ids : List Identifier} {p q r : ℕ} {xs : List Terminal}
      → DerivesName ids xs (Punct q dot ∷ Punct r star ∷ []) → BeginsImport (Keyword p word_import ∷ xs)
  begun_import_static_name : {p s : ℕ} {xs : List Terminal} → BeginsName xs → BeginsImport (Keyword p word_import ∷ Keyword s word_static ∷ xs)
  begun_import_static_star : {ids : List Identifier} {p q r s : ℕ} {xs : List Terminal}
      → DerivesName ids xs (Punct q dot ∷ Punct r star ∷ []) → BeginsImport (Keyword p word_import ∷ Keyword s word_static ∷ xs)
  begun_import_whole : {x : ImportTree} {xs : List Terminal} → DerivesImport x xs [] → BeginsImport xs

-- {"import" ["static"] name ["." "*"] ";"}
pub data BeginsImports : List Terminal → Type 0 where
  begun_imports_none : BeginsImports []
  begun_imports_one : {xs : List Terminal} → BeginsImport xs → BeginsImports xs
  begun_imports_more : {x : ImportTree} {xs zs : List Terminal} → DerivesImport x xs zs → BeginsImports zs → BeginsImports xs
  begun_imports_whole : {is : List ImportTree} {xs : List Terminal} → DerivesImports is xs [] → BeginsImports xs

-- {type | ";"}
pub data BeginsTypes : List Terminal → Type 0 where
  begun_types_none : BeginsTypes []
  begun_types_one : {xs : List Terminal} → BeginsType xs → BeginsTypes xs
  begun_types_more : {x : TypeDeclTree} {xs zs : List Terminal} → DerivesType x xs zs → BeginsTypes zs → BeginsTypes xs
  begun_types_empty : {p : ℕ} {xs : List Terminal} → BeginsTypes xs → BeginsTypes (Punct p semicolon ∷ xs)
  begun_types_whole : {ts : List TypeDeclTree} {xs : List Terminal} → DerivesTypes ts xs [] → BeginsTypes xs

-- file = ["package" name ";"] {"import" ["static"] name ["." "*"] ";"} {type | ";"}: the terminals, all of them, begin a file
pub data Begins : List Terminal → Type 0 where
  begun_file_none : Begins []
  begun_file_package : {xs : List Terminal} → BeginsPackage xs → Begins xs
  begun_file_imports : {n : Option (List Identifier)} {xs zs : List Terminal} → DerivesPackage n xs zs → BeginsImports zs → Begins xs
  begun_file_types : {n : Option (List Identifier)} {is : List ImportTree} {xs zs ws : List Terminal}
      → DerivesPackage n xs zs → DerivesImports is zs ws → BeginsTypes ws → Begins xs
  begun_file_whole : {u : UnitTree} {xs : List Terminal} → Derives xs u → Begins xs
