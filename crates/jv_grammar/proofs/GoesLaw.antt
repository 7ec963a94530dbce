-- What begins a part is read to its end, by readers that may nest as deep as it does: one statement for each reader, callees first. They
-- speak of readers that nest at most n deep, for which completeness and these statements hold below. Heads, levels of operators and links are
-- spoken of where they are proved: a head that is a name may leave the dot behind it, and operators have the level that they stand in.
use Rattle.std.specs.Prelude.{◌<◌, ◌≤◌, ℕ, true, false, List, [], ◌∷◌, length}
use Rattle.jv_grammar.specs.declared.terminal.Terminal.{Terminal}
use Rattle.jv_grammar.specs.declared.terminal.Terminal.TheVariants.{Keyword}
use Rattle.jv_grammar.specs.Marks.{word_class, word_extends, word_implements, word_import, word_interface}
use Rattle.jv_grammar.specs.TypeReader.{name_of, base_of, pairs_of, ty_of, reference_of}
use Rattle.jv_grammar.specs.ExprReader.{Below, exprs_of, args_of, list_of, primary_of, post_of, unary_of, cond_of, expr_of, init_of, below}
use Rattle.jv_grammar.specs.StmtReader.{BelowStmt, vars_by, effects_by, first_by, optional_by, updates_by, block_by, stmt_by, bstmt_by, bstmts_by, below_stmt}
use Rattle.jv_grammar.specs.DeclReader.{names_of, parent_of, headed_of, params_of, constants_of, body_of, inner_of, BelowType, member_of, members_of, class_of, interface_of, below_type, type_of, types_of, package_of, import_of, imports_of, file_of}
use Rattle.jv_grammar.specs.TypeBegins.{BeginsName, BeginsNames, BeginsBase, BeginsPairs, BeginsTy, BeginsReference}
use Rattle.jv_grammar.specs.ExprBegins.{BeginsExpr, BeginsCond, BeginsUnary, BeginsCast, BeginsPlain, BeginsPost, BeginsPrimary, BeginsArgs, BeginsExprs, BeginsInit, BeginsList}
use Rattle.jv_grammar.specs.StmtBegins.{BeginsVars, BeginsEffects, BeginsFirst, BeginsOptional, BeginsUpdates, BeginsBlock, BeginsBstmts, BeginsBstmt, BeginsStmt}
use Rattle.jv_grammar.specs.DeclBegins.{BeginsParams, BeginsBody, BeginsCtor, BeginsConstants, BeginsParent, BeginsParents, BeginsInterfaces, BeginsType, BeginsClass, BeginsInterface, BeginsMembers, BeginsMember, BeginsImembers, BeginsImember, BeginsPackage, BeginsImport, BeginsImports, BeginsTypes, Begins}
use Rattle.jv_grammar.proofs.BegunDepth.{begun_deep_expr, begun_deep_cond, begun_deep_unary, begun_deep_cast, begun_deep_plain, begun_deep_post, begun_deep_primary, begun_deep_args, begun_deep_exprs, begun_deep_init, begun_deep_list, begun_deep_vars, begun_deep_effects, begun_deep_first, begun_deep_optional, begun_deep_updates, begun_deep_block, begun_deep_bstmts, begun_deep_bstmt, begun_deep_stmt, begun_deep_body, begun_deep_ctor, begun_deep_constants, begun_deep_type, begun_deep_class, begun_deep_interface, begun_deep_members, begun_deep_member, begun_deep_imembers, begun_deep_imember, begun_deep_types, begun_deep_file}
use Rattle.jv_grammar.proofs.Rows.{HasShortRows, begun_count_pairs}
use Rattle.jv_grammar.proofs.Ending.{Ends, all_of}

-- Names and types.
abbrev pub GoesName : Type 0
GoesName = (xs : List Terminal) → BeginsName xs → Ends (name_of xs)

abbrev pub GoesBase : Type 0
GoesBase = (xs : List Terminal) → BeginsBase xs → Ends (base_of xs)

abbrev pub GoesPairs : Type 0
GoesPairs = (xs : List Terminal) (d : BeginsPairs xs) (room : ℕ) → begun_count_pairs d ≤ room → Ends (pairs_of room xs)

abbrev pub GoesTy : Type 0
GoesTy = (xs : List Terminal) → BeginsTy xs → HasShortRows xs → Ends (ty_of xs)

abbrev pub GoesReference : Type 0
GoesReference = (xs : List Terminal) → BeginsReference xs → HasShortRows xs → Ends (reference_of xs)

-- The readers below read to its end what begins less than n deep; of no terminals they do so always.
pub record GoesBelow (n : ℕ) (b : Below) : Type 0 where
  pub no_expr : Ends (b.expr [])
  pub no_cond : Ends (b.cond [])
  pub no_unary : Ends (b.unary [])
  pub no_init : Ends (b.init [])
  pub expr : {xs : List Terminal} (d : BeginsExpr xs) → begun_deep_expr d < n → HasShortRows xs → Ends (b.expr xs)
  pub cond : {xs : List Terminal} (d : BeginsCond xs) → begun_deep_cond d < n → HasShortRows xs → Ends (b.cond xs)
  pub unary : {xs : List Terminal} (d : BeginsUnary xs) → begun_deep_unary d < n → HasShortRows xs → Ends (b.unary xs)
  pub init : {xs : List Terminal} (d : BeginsInit xs) → begun_deep_init d < n → HasShortRows xs → Ends (b.init xs)

-- Expressions, by readers below with `GoesBelow n b`.
abbrev pub GoesExprs : ℕ → Below → Type 0
GoesExprs n b = (xs : List Terminal) (d : BeginsExprs xs) (c : ℕ) → begun_deep_exprs d < n → HasShortRows xs → length xs ≤ c → Ends (exprs_of b.expr c xs)

abbrev pub GoesArgs : ℕ → Below → Type 0
GoesArgs n b = (xs : List Terminal) (d : BeginsArgs xs) → begun_deep_args d ≤ n → HasShortRows xs → Ends (args_of b.expr xs)

abbrev pub GoesList : ℕ → Below → Type 0
GoesList n b = (xs : List Terminal) (d : BeginsList xs) → begun_deep_list d ≤ n → HasShortRows xs → Ends (list_of b.init xs)

abbrev pub GoesPrimary : ℕ → Below → Type 0
GoesPrimary n b = (xs : List Terminal) (d : BeginsPrimary xs) → begun_deep_primary d ≤ n → HasShortRows xs → Ends (primary_of b xs)

abbrev pub GoesPost : ℕ → Below → Type 0
GoesPost n b = (xs : List Terminal) (d : BeginsPost xs) → begun_deep_post d ≤ n → HasShortRows xs → Ends (post_of b xs)

-- `(` and a type, or what stands behind a cast: the reader of unaries, since the end may leave it open whether a cast stands ahead
abbrev pub GoesCast : ℕ → Below → Type 0
GoesCast n b = (xs : List Terminal) (d : BeginsCast xs) → begun_deep_cast d ≤ n → HasShortRows xs → Ends (unary_of b xs)

abbrev pub GoesPlain : ℕ → Below → Type 0
GoesPlain n b = (xs : List Terminal) (d : BeginsPlain xs) → begun_deep_plain d ≤ n → HasShortRows xs → Ends (unary_of b xs)

abbrev pub GoesUnary : ℕ → Below → Type 0
GoesUnary n b = (xs : List Terminal) (d : BeginsUnary xs) → begun_deep_unary d ≤ n → HasShortRows xs → Ends (unary_of b xs)

abbrev pub GoesCond : ℕ → Below → Type 0
GoesCond n b = (xs : List Terminal) (d : BeginsCond xs) → begun_deep_cond d ≤ n → HasShortRows xs → Ends (cond_of b xs)

abbrev pub GoesExpr : ℕ → Below → Type 0
GoesExpr n b = (xs : List Terminal) (d : BeginsExpr xs) → begun_deep_expr d ≤ n → HasShortRows xs → Ends (expr_of b xs)

abbrev pub GoesInit : ℕ → Below → Type 0
GoesInit n b = (xs : List Terminal) (d : BeginsInit xs) → begun_deep_init d ≤ n → HasShortRows xs → Ends (init_of b xs)

-- so the readers of each level do
abbrev pub ReadersGo : Type 0
ReadersGo = (n : ℕ) → GoesBelow n (below n)

-- Statements.
abbrev pub GoesVars : Type 0
GoesVars = (n : ℕ) (xs : List Terminal) (d : BeginsVars xs) → begun_deep_vars d ≤ n → HasShortRows xs → Ends (vars_by (below n) xs)

abbrev pub GoesEffects : Type 0
GoesEffects = (n : ℕ) (xs : List Terminal) (d : BeginsEffects xs) → begun_deep_effects d ≤ n → HasShortRows xs → Ends (effects_by (below n) xs)

abbrev pub GoesFirst : Type 0
GoesFirst = (n : ℕ) (xs : List Terminal) (d : BeginsFirst xs) → begun_deep_first d ≤ n → HasShortRows xs → Ends (first_by (below n) xs)

abbrev pub GoesOptional : Type 0
GoesOptional = (n : ℕ) (xs : List Terminal) (d : BeginsOptional xs) → begun_deep_optional d ≤ n → HasShortRows xs → Ends (optional_by (below n) xs)

abbrev pub GoesUpdates : Type 0
GoesUpdates = (n : ℕ) (xs : List Terminal) (d : BeginsUpdates xs) → begun_deep_updates d ≤ n → HasShortRows xs → Ends (updates_by (below n) xs)

-- The readers below read statements to their end.
pub record GoesBelowStmt (n : ℕ) (l : BelowStmt) : Type 0 where
  pub no_stmt : Ends (l.stmt [])
  pub no_bstmts : Ends (l.bstmts [])
  pub stmt : {xs : List Terminal} (d : BeginsStmt xs) → begun_deep_stmt d < n → HasShortRows xs → Ends (l.stmt xs)
  pub bstmts : {xs : List Terminal} (d : BeginsBstmts xs) → begun_deep_bstmts d < n → HasShortRows xs → Ends (l.bstmts xs)

abbrev pub GoesBlock : ℕ → BelowStmt → Type 0
GoesBlock n l = (xs : List Terminal) (d : BeginsBlock xs) → begun_deep_block d ≤ n → HasShortRows xs → Ends (block_by l xs)

abbrev pub GoesStmt : ℕ → BelowStmt → Type 0
GoesStmt n l = (xs : List Terminal) (d : BeginsStmt xs) → begun_deep_stmt d ≤ n → HasShortRows xs → Ends (stmt_by (below n) l xs)

abbrev pub GoesBstmt : ℕ → BelowStmt → Type 0
GoesBstmt n l = (xs : List Terminal) (d : BeginsBstmt xs) → begun_deep_bstmt d ≤ n → HasShortRows xs → Ends (bstmt_by (below n) l xs)

abbrev pub GoesBstmts : ℕ → BelowStmt → Type 0
GoesBstmts n l = (xs : List Terminal) (d : BeginsBstmts xs) → begun_deep_bstmts d ≤ n → HasShortRows xs → Ends (bstmts_by (below n) l xs)

abbrev pub StatementsGo : Type 0
StatementsGo = (n : ℕ) → GoesBelowStmt n (below_stmt n)

-- Declarations.
abbrev pub GoesNames : Type 0
GoesNames = (xs : List Terminal) (d : BeginsNames xs) (c : ℕ) → length xs ≤ c → Ends (names_of c xs)

abbrev pub GoesParents : Type 0
GoesParents = ((xs : List Terminal) → BeginsParent xs → Ends (parent_of xs)) × ((xs : List Terminal) → BeginsParents xs → Ends (headed_of word_extends xs)) × ((xs : List Terminal) → BeginsInterfaces xs → Ends (headed_of word_implements xs))

abbrev pub GoesParams : Type 0
GoesParams = (xs : List Terminal) → BeginsParams xs → HasShortRows xs → Ends (params_of xs)

abbrev pub GoesConstants : Type 0
GoesConstants = (n : ℕ) (xs : List Terminal) (d : BeginsConstants xs) (c : ℕ) → begun_deep_constants d ≤ n → HasShortRows xs → length xs ≤ c → Ends (constants_of n c xs)

abbrev pub GoesBody : Type 0
GoesBody = (n : ℕ) (xs : List Terminal) (d : BeginsBody xs) → begun_deep_body d ≤ n → HasShortRows xs → Ends (body_of n xs)

abbrev pub GoesCtor : Type 0
GoesCtor = (n : ℕ) (xs : List Terminal) (d : BeginsCtor xs) → begun_deep_ctor d ≤ n → HasShortRows xs → Ends (inner_of n xs)

-- classes and interfaces nested in others, behind their modifiers
pub record GoesBelowType (n : ℕ) (nest : BelowType) : Type 0 where
  pub no_type : (ks : List ℕ) → Ends (nest ks [])
  pub class : {xs : List Terminal} (d : BeginsClass xs) (ks : List ℕ) → begun_deep_class d < n → HasShortRows xs → Ends (nest ks xs)
  pub interface : {xs : List Terminal} (d : BeginsInterface xs) (ks : List ℕ) → begun_deep_interface d < n → HasShortRows xs → Ends (nest ks xs)

abbrev pub GoesMember : ℕ → BelowType → Type 0
GoesMember n nest = (xs : List Terminal) (d : BeginsMember xs) → begun_deep_member d ≤ n → HasShortRows xs → Ends (member_of false n nest xs)

abbrev pub GoesImember : ℕ → BelowType → Type 0
GoesImember n nest = (xs : List Terminal) (d : BeginsImember xs) → begun_deep_imember d ≤ n → HasShortRows xs → Ends (member_of true n nest xs)

abbrev pub GoesMembers : ℕ → BelowType → Type 0
GoesMembers n nest = (xs : List Terminal) (d : BeginsMembers xs) (c : ℕ) → begun_deep_members d ≤ n → HasShortRows xs → length xs < c → Ends (members_of false n nest c xs)

abbrev pub GoesImembers : ℕ → BelowType → Type 0
GoesImembers n nest = (xs : List Terminal) (d : BeginsImembers xs) (c : ℕ) → begun_deep_imembers d ≤ n → HasShortRows xs → length xs < c → Ends (members_of true n nest c xs)

abbrev pub GoesClass : ℕ → BelowType → Type 0
GoesClass n nest = (p : ℕ) (xs : List Terminal) (d : BeginsClass (Keyword p word_class ∷ xs)) (ks : List ℕ) → begun_deep_class d ≤ n → HasShortRows xs → Ends (class_of n nest ks xs)

abbrev pub GoesInterface : ℕ → BelowType → Type 0
GoesInterface n nest = (p : ℕ) (xs : List Terminal) (d : BeginsInterface (Keyword p word_interface ∷ xs)) (ks : List ℕ) → begun_deep_interface d ≤ n → HasShortRows xs → Ends (interface_of n nest ks xs)

abbrev pub TypesGo : Type 0
TypesGo = (n : ℕ) → GoesBelowType n (below_type n)

abbrev pub GoesType : Type 0
GoesType = (n : ℕ) (xs : List Terminal) (d : BeginsType xs) → begun_deep_type d ≤ n → HasShortRows xs → Ends (type_of n xs)

abbrev pub GoesTypes : Type 0
GoesTypes = (n : ℕ) (xs : List Terminal) (d : BeginsTypes xs) (c : ℕ) → begun_deep_types d ≤ n → HasShortRows xs → length xs ≤ c → Ends (all_of (types_of n c xs))

abbrev pub GoesPackage : Type 0
GoesPackage = (xs : List Terminal) → BeginsPackage xs → Ends (package_of xs)

abbrev pub GoesImport : Type 0
GoesImport = (p : ℕ) (xs : List Terminal) → BeginsImport (Keyword p word_import ∷ xs) → Ends (import_of xs)

abbrev pub GoesImports : Type 0
GoesImports = (xs : List Terminal) → BeginsImports xs → (c : ℕ) → length xs < c → Ends (imports_of c xs)

-- what begins a file is read to its end
abbrev pub BegunFilesEnd : Type 0
BegunFilesEnd = (n : ℕ) (xs : List Terminal) (d : Begins xs) → begun_deep_file d ≤ n → HasShortRows xs → Ends (all_of (file_of n xs))
