-- The grammar of declarations and files. `DerivesX d xs ys` says that X derives the terminals of xs up to ys, with the tree d; ys are
-- those that stand behind it.
use Rattle.std.specs.Prelude.{ℕ, ◌<◌, true, false, List, [], ◌∷◌, length, Option, Some, None}
use Rattle.jv_tree.specs.declared.name.Ident.{Ident as Identifier}
use Rattle.jv_tree.specs.TypeTree.{TypeTree}
use Rattle.jv_tree.specs.ExprTree.{ExprTrees, InitTree}
use Rattle.jv_tree.specs.StmtTree.{VarTree, StmtTrees}
use Rattle.jv_tree.specs.DeclTree as d
use Rattle.jv_tree.specs.DeclTree.{ParamTree, TypeDeclTree, MemberTree, MemberTrees, ImportTree, UnitTree}
use Rattle.jv_tree.specs.Shaped.{IsOneOf}
use Rattle.jv_grammar.specs.declared.terminal.Terminal.{Terminal}
use Rattle.jv_grammar.specs.declared.terminal.Terminal.TheVariants.{Ident, Keyword, Punct}
use Rattle.jv_grammar.specs.Marks.{paren_open, paren_close, brace_open, brace_close, semicolon, comma, dot, equals_sign, star, word_class, word_extends, word_final, word_implements, word_import, word_interface, word_package, word_static, word_super, modifiers}
use Rattle.jv_grammar.specs.TypeGrammar.{DerivesName, DerivesNames, DerivesTy, DerivesResult}
use Rattle.jv_grammar.specs.ExprGrammar.{DerivesArgs, DerivesInit}
use Rattle.jv_grammar.specs.StmtGrammar.{DerivesVars, DerivesBlock, DerivesBstmts}

-- {mod}, where mod = "public" | "protected" | "private" | "static" | "abstract" | "final" | "default"
pub data DerivesMods : List ℕ → List Terminal → List Terminal → Type 0 where
  mods_none : {ys : List Terminal} → DerivesMods [] ys ys
  mods_more : {p k : ℕ} {ks : List ℕ} {xs ys : List Terminal}
      → IsOneOf modifiers k → DerivesMods ks xs ys → DerivesMods (k ∷ ks) (Keyword p k ∷ xs) ys

-- param = ["final"] ty Id
pub data DerivesParam : ParamTree → List Terminal → List Terminal → Type 0 where
  param_plain : {r : TypeTree} {i : Identifier} {xs ys : List Terminal}
      → DerivesTy r xs (Ident i ∷ ys) → DerivesParam (record { is_final = false; ty = r; name = i }) xs ys
  param_final : {r : TypeTree} {i : Identifier} {p : ℕ} {xs ys : List Terminal}
      → DerivesTy r xs (Ident i ∷ ys) → DerivesParam (record { is_final = true; ty = r; name = i }) (Keyword p word_final ∷ xs) ys

-- param {"," param}
pub data DerivesSomeParams : List ParamTree → List Terminal → List Terminal → Type 0 where
  some_params_one : {a : ParamTree} {xs ys : List Terminal} → DerivesParam a xs ys → DerivesSomeParams (a ∷ []) xs ys
  some_params_more : {a : ParamTree} {bs : List ParamTree} {p : ℕ} {xs zs ys : List Terminal}
      → DerivesParam a xs (Punct p comma ∷ zs) → DerivesSomeParams bs zs ys → DerivesSomeParams (a ∷ bs) xs ys

-- params = "(" [param {"," param}] ")"
pub data DerivesParams : List ParamTree → List Terminal → List Terminal → Type 0 where
  params_none : {p q : ℕ} {ys : List Terminal} → DerivesParams [] (Punct p paren_open ∷ Punct q paren_close ∷ ys) ys
  params_some : {bs : List ParamTree} {p q : ℕ} {xs ys : List Terminal}
      → DerivesSomeParams bs xs (Punct q paren_close ∷ ys) → DerivesParams bs (Punct p paren_open ∷ xs) ys

-- block | ";"
pub data DerivesBody : Option StmtTrees → List Terminal → List Terminal → Type 0 where
  body_block : {ss : StmtTrees} {p : ℕ} {xs ys : List Terminal} → DerivesBlock p ss xs ys → DerivesBody (Some ss) xs ys
  body_none : {p : ℕ} {ys : List Terminal} → DerivesBody None (Punct p semicolon ∷ ys) ys

-- ctor = "{" ["super" args ";"] {bstmt} "}"; a call is where its `super` starts, and the arguments
pub data DerivesCtor : Option (ℕ × ExprTrees) → StmtTrees → List Terminal → List Terminal → Type 0 where
  ctor_plain : {ss : StmtTrees} {p q : ℕ} {xs ys : List Terminal}
      → DerivesBstmts ss xs (Punct q brace_close ∷ ys) → DerivesCtor None ss (Punct p brace_open ∷ xs) ys
  ctor_super : {es : ExprTrees} {ss : StmtTrees} {p q r u : ℕ} {xs zs ys : List Terminal}
      → DerivesArgs es xs (Punct u semicolon ∷ zs) → DerivesBstmts ss zs (Punct q brace_close ∷ ys)
      → DerivesCtor (Some (r, es)) ss (Punct p brace_open ∷ Keyword r word_super ∷ xs) ys

-- Id "=" init {"," Id "=" init}
pub data DerivesConstants : List VarTree → List Terminal → List Terminal → Type 0 where
  constants_one : {i : Identifier} {x : InitTree} {p : ℕ} {xs ys : List Terminal}
      → DerivesInit x xs ys → DerivesConstants (record { name = i; init = Some x } ∷ []) (Ident i ∷ Punct p equals_sign ∷ xs) ys
  constants_more : {i : Identifier} {x : InitTree} {vs : List VarTree} {p q : ℕ} {xs zs ys : List Terminal}
      → DerivesInit x xs (Punct q comma ∷ zs) → DerivesConstants vs zs ys
      → DerivesConstants (record { name = i; init = Some x } ∷ vs) (Ident i ∷ Punct p equals_sign ∷ xs) ys

-- ["extends" name]
pub data DerivesParent : List (List Identifier) → List Terminal → List Terminal → Type 0 where
  parent_none : {ys : List Terminal} → DerivesParent [] ys ys
  parent_some : {ids : List Identifier} {p : ℕ} {xs ys : List Terminal}
      → DerivesName ids xs ys → DerivesParent (ids ∷ []) (Keyword p word_extends ∷ xs) ys

-- ["extends" names]
pub data DerivesParents : List (List Identifier) → List Terminal → List Terminal → Type 0 where
  parents_none : {ys : List Terminal} → DerivesParents [] ys ys
  parents_some : {ns : List (List Identifier)} {p : ℕ} {xs ys : List Terminal}
      → DerivesNames ns xs ys → DerivesParents ns (Keyword p word_extends ∷ xs) ys

-- ["implements" names]
pub data DerivesInterfaces : List (List Identifier) → List Terminal → List Terminal → Type 0 where
  interfaces_none : {ys : List Terminal} → DerivesInterfaces [] ys ys
  interfaces_some : {ns : List (List Identifier)} {p : ℕ} {xs ys : List Terminal}
      → DerivesNames ns xs ys → DerivesInterfaces ns (Keyword p word_implements ∷ xs) ys

mutual
  -- type = {mod} (class | iface)
  pub data DerivesType : TypeDeclTree → List Terminal → List Terminal → Type 0 where
    type_class : {ks : List ℕ} {x : TypeDeclTree} {xs zs ys : List Terminal}
        → DerivesMods ks xs zs → DerivesClass ks x zs ys → DerivesType x xs ys
    type_interface : {ks : List ℕ} {x : TypeDeclTree} {xs zs ys : List Terminal}
        → DerivesMods ks xs zs → DerivesInterface ks x zs ys → DerivesType x xs ys

  -- class = "class" Id ["extends" name] ["implements" names] "{" {member | ";"} "}", behind the modifiers ks
  pub data DerivesClass : List ℕ → TypeDeclTree → List Terminal → List Terminal → Type 0 where
    class : {ks : List ℕ} {i : Identifier} {ns os : List (List Identifier)} {ms : MemberTrees} {p q r : ℕ} {xs zs ws ys : List Terminal}
        → DerivesParent ns xs zs → DerivesInterfaces os zs (Punct q brace_open ∷ ws) → DerivesMembers ms ws (Punct r brace_close ∷ ys)
        → DerivesClass ks (d.type_decl i ks false ns os ms) (Keyword p word_class ∷ Ident i ∷ xs) ys

  -- iface = "interface" Id ["extends" names] "{" {imember | ";"} "}", behind the modifiers ks
  pub data DerivesInterface : List ℕ → TypeDeclTree → List Terminal → List Terminal → Type 0 where
    interface : {ks : List ℕ} {i : Identifier} {ns : List (List Identifier)} {ms : MemberTrees} {p q r : ℕ} {xs zs ys : List Terminal}
        → DerivesParents ns xs (Punct q brace_open ∷ zs) → DerivesImembers ms zs (Punct r brace_close ∷ ys)
        → DerivesInterface ks (d.type_decl i ks true ns [] ms) (Keyword p word_interface ∷ Ident i ∷ xs) ys

  -- {member | ";"}
  pub data DerivesMembers : MemberTrees → List Terminal → List Terminal → Type 0 where
    members_none : {ys : List Terminal} → DerivesMembers d.no_members ys ys
    members_more : {m : MemberTree} {ms : MemberTrees} {xs zs ys : List Terminal}
        → DerivesMember m xs zs → DerivesMembers ms zs ys → DerivesMembers (d.members m ms) xs ys
    members_empty : {ms : MemberTrees} {p : ℕ} {xs ys : List Terminal} → DerivesMembers ms xs ys → DerivesMembers ms (Punct p semicolon ∷ xs) ys

  -- member = type | {mod} (ty vars ";" | (ty | "void") Id params (block | ";") | Id params ctor)
  pub data DerivesMember : MemberTree → List Terminal → List Terminal → Type 0 where
    member_type : {x : TypeDeclTree} {xs ys : List Terminal} → DerivesType x xs ys → DerivesMember (d.nested x) xs ys
    member_field : {ks : List ℕ} {r : TypeTree} {vs : List VarTree} {p : ℕ} {xs zs ws ys : List Terminal}
        → DerivesMods ks xs zs → DerivesTy r zs ws → DerivesVars vs ws (Punct p semicolon ∷ ys) → DerivesMember (d.field ks r vs) xs ys
    member_method : {ks : List ℕ} {r : TypeTree} {i : Identifier} {bs : List ParamTree} {b : Option StmtTrees} {xs zs ws vs ys : List Terminal}
        → DerivesMods ks xs zs → DerivesResult r zs (Ident i ∷ ws) → DerivesParams bs ws vs → DerivesBody b vs ys
        → DerivesMember (d.method (record { mods = ks; result = r; name = i; params = bs; body = b })) xs ys
    member_ctor : {ks : List ℕ} {i : Identifier} {bs : List ParamTree} {c : Option (ℕ × ExprTrees)} {b : StmtTrees} {xs zs ws ys : List Terminal}
        → DerivesMods ks xs (Ident i ∷ zs) → DerivesParams bs zs ws → DerivesCtor c b ws ys
        → DerivesMember (d.ctor (record { mods = ks; name = i; params = bs; call = c; body = b })) xs ys

  -- {imember | ";"}
  pub data DerivesImembers : MemberTrees → List Terminal → List Terminal → Type 0 where
    imembers_none : {ys : List Terminal} → DerivesImembers d.no_members ys ys
    imembers_more : {m : MemberTree} {ms : MemberTrees} {xs zs ys : List Terminal}
        → DerivesImember m xs zs → DerivesImembers ms zs ys → DerivesImembers (d.members m ms) xs ys
    imembers_empty : {ms : MemberTrees} {p : ℕ} {xs ys : List Terminal} → DerivesImembers ms xs ys → DerivesImembers ms (Punct p semicolon ∷ xs) ys

  -- imember = type | {mod} (ty Id "=" init {"," Id "=" init} ";" | (ty | "void") Id params (block | ";"))
  pub data DerivesImember : MemberTree → List Terminal → List Terminal → Type 0 where
    imember_type : {x : TypeDeclTree} {xs ys : List Terminal} → DerivesType x xs ys → DerivesImember (d.nested x) xs ys
    imember_field : {ks : List ℕ} {r : TypeTree} {vs : List VarTree} {p : ℕ} {xs zs ws ys : List Terminal}
        → DerivesMods ks xs zs → DerivesTy r zs ws → DerivesConstants vs ws (Punct p semicolon ∷ ys) → DerivesImember (d.field ks r vs) xs ys
    imember_method : {ks : List ℕ} {r : TypeTree} {i : Identifier} {bs : List ParamTree} {b : Option StmtTrees} {xs zs ws vs ys : List Terminal}
        → DerivesMods ks xs zs → DerivesResult r zs (Ident i ∷ ws) → DerivesParams bs ws vs → DerivesBody b vs ys
        → DerivesImember (d.method (record { mods = ks; result = r; name = i; params = bs; body = b })) xs ys

-- ["package" name ";"]
pub data DerivesPackage : Option (List Identifier) → List Terminal → List Terminal → Type 0 where
  package_none : {ys : List Terminal} → DerivesPackage None ys ys
  package_some : {ids : List Identifier} {p q : ℕ} {xs ys : List Terminal}
      → DerivesName ids xs (Punct q semicolon ∷ ys) → DerivesPackage (Some ids) (Keyword p word_package ∷ xs) ys

-- "import" ["static"] name ["." "*"] ";"; the name of a static import has two identifiers at least where `;` stands behind it
pub data DerivesImport : ImportTree → List Terminal → List Terminal → Type 0 where
  import_one : {ids : List Identifier} {p q : ℕ} {xs ys : List Terminal}
      → DerivesName ids xs (Punct q semicolon ∷ ys) → DerivesImport (record { name = ids; all = false; is_static = false }) (Keyword p word_import ∷ xs) ys
  import_all : {ids : List Identifier} {p q r u : ℕ} {xs ys : List Terminal}
      → DerivesName ids xs (Punct q dot ∷ Punct r star ∷ Punct u semicolon ∷ ys)
      → DerivesImport (record { name = ids; all = true; is_static = false }) (Keyword p word_import ∷ xs) ys
  import_static_one : {ids : List Identifier} {p q s : ℕ} {xs ys : List Terminal}
      → DerivesName ids xs (Punct q semicolon ∷ ys) → 1 < length ids
      → DerivesImport (record { name = ids; all = false; is_static = true }) (Keyword p word_import ∷ Keyword s word_static ∷ xs) ys
  import_static_all : {ids : List Identifier} {p q r s u : ℕ} {xs ys : List Terminal}
      → DerivesName ids xs (Punct q dot ∷ Punct r star ∷ Punct u semicolon ∷ ys)
      → DerivesImport (record { name = ids; all = true; is_static = true }) (Keyword p word_import ∷ Keyword s word_static ∷ xs) ys

-- {"import" ["static"] name ["." "*"] ";"}
pub data DerivesImports : List ImportTree → List Terminal → List Terminal → Type 0 where
  imports_none : {ys : List Terminal} → DerivesImports [] ys ys
  imports_more : {x : ImportTree} {is : List ImportTree} {xs zs ys : List Terminal}
      → DerivesImport x xs zs → DerivesImports is zs ys → DerivesImports (x ∷ is) xs ys

-- {type | ";"}
pub data DerivesTypes : List TypeDeclTree → List Terminal → List Terminal → Type 0 where
  types_none : {ys : List Terminal} → DerivesTypes [] ys ys
  types_more : {x : TypeDeclTree} {ts : List TypeDeclTree} {xs zs ys : List Terminal}
      → DerivesType x xs zs → DerivesTypes ts zs ys → DerivesTypes (x ∷ ts) xs ys
  types_empty : {ts : List TypeDeclTree} {p : ℕ} {xs ys : List Terminal} → DerivesTypes ts xs ys → DerivesTypes ts (Punct p semicolon ∷ xs) ys

-- file = ["package" name ";"] {"import" ["static"] name ["." "*"] ";"} {type | ";"}: the terminals, all of them, derive the tree
pub data Derives : List Terminal → UnitTree → Type 0 where
  file : {n : Option (List Identifier)} {is : List ImportTree} {ts : List TypeDeclTree} {xs zs ws : List Terminal}
      → DerivesPackage n xs zs → DerivesImports is zs ws → DerivesTypes ts ws []
      → Derives xs (record { package_name = n; imports = is; types = ts })
