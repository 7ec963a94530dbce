-- A reader that asks for one more terminal at the end was given what begins its part: one statement for each reader, callees first. They
-- speak of any readers below for which soundness and these statements hold.
use Rattle.std.specs.Prelude.{◌≡◌, ◌⊎◌, ℕ, Bool, true, false, List, [], ◌∷◌, Err}
use Rattle.jv_tree.specs.ExprTree.{ExprTree, InitTrees}
use Rattle.jv_tree.specs.Shaped.{IsOneOf}
use Rattle.jv_grammar.specs.declared.terminal.Terminal.{Terminal}
use Rattle.jv_grammar.specs.declared.terminal.Terminal.TheVariants.{Keyword, Punct}
use Rattle.jv_grammar.specs.declared.form.Form.{Form}
use Rattle.jv_grammar.specs.Marks.{paren_open, word_class, word_do, word_extends, word_final, word_for, word_if, word_implements, word_import, word_interface, word_new, word_return, word_super, word_while, signs}
use Rattle.jv_grammar.specs.ExprGrammar.{IsCast, DerivesPrimary, DerivesInits}
use Rattle.jv_grammar.specs.DeclGrammar.{DerivesMods}
use Rattle.jv_grammar.specs.Reader.{Reads}
use Rattle.jv_grammar.specs.TypeReader.{name_of, base_of, pairs_of, ty_of, reference_of}
use Rattle.jv_grammar.specs.ExprReader.{Below, exprs_of, args_of, inits_of, list_of, sizes_of, new_of, super_of, head_of, suffixes_of, primary_of, post_of, cast_of, signed_of, unary_of, links_of, bin_of, cond_of, expr_of, init_of, below}
use Rattle.jv_grammar.specs.StmtReader.{BelowStmt, var_by, vars_up_to, vars_by, final_by, plain_by, local_by, effect_by, effects_up_to, effects_by, first_by, optional_by, updates_by, block_by, effect_stmt_by, if_by, while_by, do_by, for_by, return_by, word_by, stmt_by, bstmt_by, bstmts_up_to, bstmts_by, below_stmt}
use Rattle.jv_grammar.specs.DeclReader.{names_of, parent_of, headed_of, param_of, some_params_of, params_of, constants_of, plain_of, inner_of, ctor_of, BelowType, member_of, members_of, class_of, interface_of, below_type, type_of, types_of, package_of, import_of, imports_of, file_of}
use Rattle.jv_grammar.specs.TypeBegins.{BeginsName, BeginsNames, BeginsBase, BeginsPairs, BeginsTy, BeginsReference}
use Rattle.jv_grammar.specs.ExprBegins.{BeginsListEnd, BeginsExpr, BeginsCond, BeginsBin, BeginsLinks, BeginsUnary, BeginsCast, BeginsPost, BeginsPrimary, BeginsHead, BeginsDims, BeginsArgs, BeginsExprs, BeginsInit, BeginsList, BeginsInits}
use Rattle.jv_grammar.specs.StmtBegins.{BeginsVar, BeginsVars, BeginsLocal, BeginsEffects, BeginsFirst, BeginsOptional, BeginsUpdates, BeginsBlock, BeginsBstmts, BeginsBstmt, BeginsStmt}
use Rattle.jv_grammar.specs.DeclBegins.{BeginsParam, BeginsSomeParams, BeginsParams, BeginsCtor, BeginsConstants, BeginsParent, BeginsParents, BeginsInterfaces, BeginsType, BeginsClass, BeginsInterface, BeginsMembers, BeginsMember, BeginsImembers, BeginsImember, BeginsPackage, BeginsImport, BeginsImports, BeginsTypes, Begins}
use Rattle.jv_grammar.proofs.Ending.{Stops, Ends, all_of}

-- where the reader asks for one more terminal, it was given what begins its part
abbrev pub IsStuck : {A : Type 0} → (List Terminal → Reads A) → (List Terminal → Type 0) → Type 0
IsStuck read Begun = (xs : List Terminal) → Stops (read xs) → Begun xs

-- Names and types.
abbrev pub StuckName : Type 0
StuckName = IsStuck name_of BeginsName

abbrev pub StuckBase : Type 0
StuckBase = IsStuck base_of BeginsBase

abbrev pub StuckPairs : Type 0
StuckPairs = (room : ℕ) → IsStuck (pairs_of room) BeginsPairs

abbrev pub StuckTy : Type 0
StuckTy = IsStuck ty_of BeginsTy

abbrev pub StuckReference : Type 0
StuckReference = IsStuck reference_of BeginsReference

-- The readers of what is nested one level deeper.
pub record StuckBelow (b : Below) : Type 0 where
  pub expr : IsStuck b.expr BeginsExpr
  pub cond : IsStuck b.cond BeginsCond
  pub unary : IsStuck b.unary BeginsUnary
  pub init : IsStuck b.init BeginsInit

-- Expressions.
abbrev pub StuckExprs : Below → Type 0
StuckExprs b = (c : ℕ) → IsStuck (exprs_of b.expr c) BeginsExprs

abbrev pub StuckArgs : Below → Type 0
StuckArgs b = IsStuck (args_of b.expr) BeginsArgs

-- elements, or all of them and the end of their list
abbrev pub BeginsElements : List Terminal → Type 0
BeginsElements xs = BeginsInits xs ⊎ ((is : InitTrees) × (zs : List Terminal) × DerivesInits is xs zs × BeginsListEnd zs)

abbrev pub StuckInits : Below → Type 0
StuckInits b = (c : ℕ) → IsStuck (inits_of b.init c) BeginsElements

abbrev pub StuckList : Below → Type 0
StuckList b = IsStuck (list_of b.init) BeginsList

-- sizes, or pairs behind the last of them
abbrev pub BeginsSizes : List Terminal → Type 0
BeginsSizes xs = BeginsDims xs ⊎ BeginsPairs xs

abbrev pub StuckSizes : Below → Type 0
StuckSizes b = (room : ℕ) → IsStuck (sizes_of b.expr room) BeginsSizes

abbrev pub StuckNew : Below → Type 0
StuckNew b = (p : ℕ) → IsStuck (new_of b p) (λ xs. BeginsHead (Keyword p word_new ∷ xs))

abbrev pub StuckSuper : Below → Type 0
StuckSuper b = (p : ℕ) → IsStuck (super_of b p) (λ xs. BeginsHead (Keyword p word_super ∷ xs))

abbrev pub StuckHead : Below → Type 0
StuckHead b = IsStuck (head_of b) BeginsHead

-- behind a primary that was read
abbrev pub StuckSuffixes : Below → Type 0
StuckSuffixes b = (c : ℕ) (f : Form) (e : ExprTree) (ws xs : List Terminal) → DerivesPrimary f e ws xs → Stops (suffixes_of b c f e xs) → BeginsPrimary ws

-- what begins as a cast is no primary: soundness asks for it where a head has parentheses
abbrev pub IsNoCast : List Terminal → Type 0
IsNoCast xs = (p : ℕ) (zs : List Terminal) → xs ≡ Punct p paren_open ∷ zs → IsCast zs → ⊥

abbrev pub StuckPrimary : Below → Type 0
StuckPrimary b = (xs : List Terminal) → IsNoCast xs → Stops (primary_of b xs) → BeginsPrimary xs

abbrev pub StuckPost : Below → Type 0
StuckPost b = (xs : List Terminal) → IsNoCast xs → Stops (post_of b xs) → BeginsPost xs

abbrev pub StuckCast : Below → Type 0
StuckCast b = (p : ℕ) → IsStuck (cast_of b p) (λ xs. BeginsCast (Punct p paren_open ∷ xs))

abbrev pub StuckSigned : Below → Type 0
StuckSigned b = (p o : ℕ) → IsOneOf signs o → IsStuck (signed_of b p o) (λ xs. BeginsUnary (Punct p o ∷ xs))

abbrev pub StuckUnary : Below → Type 0
StuckUnary b = IsStuck (unary_of b) BeginsUnary

abbrev pub StuckLinks : Below → Type 0
StuckLinks b = (level : List ℕ) (tighter : List (List ℕ)) → IsStuck (bin_of b tighter) (BeginsBin tighter) → (c : ℕ) → IsStuck (links_of (bin_of b tighter) level c) (BeginsLinks level tighter)

abbrev pub StuckBin : Below → Type 0
StuckBin b = (rest : List (List ℕ)) → IsStuck (bin_of b rest) (BeginsBin rest)

abbrev pub StuckCond : Below → Type 0
StuckCond b = IsStuck (cond_of b) BeginsCond

abbrev pub StuckExpr : Below → Type 0
StuckExpr b = IsStuck (expr_of b) BeginsExpr

abbrev pub StuckInit : Below → Type 0
StuckInit b = IsStuck (init_of b) BeginsInit

-- so the readers of each level do
abbrev pub ReadersAreStuck : Type 0
ReadersAreStuck = (n : ℕ) → StuckBelow (below n)

-- Statements. An effect is stuck where its expression is, and where all of it is no effect.
abbrev pub StuckVar : Below → Type 0
StuckVar b = IsStuck (var_by b) BeginsVar

abbrev pub StuckVars : Below → Type 0
StuckVars b = ((c : ℕ) → IsStuck (vars_up_to b c) BeginsVars) × IsStuck (vars_by b) BeginsVars

abbrev pub StuckLocal : Below → Type 0
StuckLocal b = ((p : ℕ) → IsStuck (final_by b p) (λ xs. BeginsLocal (Keyword p word_final ∷ xs))) × IsStuck (plain_by b) BeginsLocal × IsStuck (local_by b) BeginsLocal

abbrev pub StuckEffect : Below → Type 0
StuckEffect b = IsStuck (effect_by b) BeginsExpr

abbrev pub StuckEffects : Below → Type 0
StuckEffects b = ((c : ℕ) → IsStuck (effects_up_to b c) BeginsEffects) × IsStuck (effects_by b) BeginsEffects

abbrev pub StuckForParts : Below → Type 0
StuckForParts b = IsStuck (first_by b) BeginsFirst × IsStuck (optional_by b) BeginsOptional × IsStuck (updates_by b) BeginsUpdates

-- The readers of what is nested one statement deeper.
pub record StuckBelowStmt (l : BelowStmt) : Type 0 where
  pub stmt : IsStuck l.stmt BeginsStmt
  pub bstmts : IsStuck l.bstmts BeginsBstmts

abbrev pub StuckBlock : BelowStmt → Type 0
StuckBlock l = IsStuck (block_by l) BeginsBlock

abbrev pub StuckEffectStmt : Below → Type 0
StuckEffectStmt b = IsStuck (effect_stmt_by b) BeginsStmt

-- statements behind their keyword, which is at p
abbrev pub StuckIf : Below → BelowStmt → Type 0
StuckIf b l = (p : ℕ) → IsStuck (if_by b l p) (λ xs. BeginsStmt (Keyword p word_if ∷ xs))

abbrev pub StuckWhile : Below → BelowStmt → Type 0
StuckWhile b l = (p : ℕ) → IsStuck (while_by b l p) (λ xs. BeginsStmt (Keyword p word_while ∷ xs))

abbrev pub StuckDo : Below → BelowStmt → Type 0
StuckDo b l = (p : ℕ) → IsStuck (do_by b l p) (λ xs. BeginsStmt (Keyword p word_do ∷ xs))

abbrev pub StuckFor : Below → BelowStmt → Type 0
StuckFor b l = (p : ℕ) → IsStuck (for_by b l p) (λ xs. BeginsStmt (Keyword p word_for ∷ xs))

abbrev pub StuckReturn : Below → Type 0
StuckReturn b = (p : ℕ) → IsStuck (return_by b p) (λ xs. BeginsStmt (Keyword p word_return ∷ xs))

abbrev pub StuckWord : Below → BelowStmt → Type 0
StuckWord b l = (p k : ℕ) → IsStuck (word_by b l p k) (λ xs. BeginsStmt (Keyword p k ∷ xs))

abbrev pub StuckStmt : Below → BelowStmt → Type 0
StuckStmt b l = IsStuck (stmt_by b l) BeginsStmt

abbrev pub StuckBstmt : Below → BelowStmt → Type 0
StuckBstmt b l = IsStuck (bstmt_by b l) BeginsBstmt

abbrev pub StuckBstmts : Below → BelowStmt → Type 0
StuckBstmts b l = ((c : ℕ) → IsStuck (bstmts_up_to b l c) BeginsBstmts) × IsStuck (bstmts_by b l) BeginsBstmts

abbrev pub StatementsAreStuck : Type 0
StatementsAreStuck = (n : ℕ) → StuckBelowStmt (below_stmt n)

-- Declarations; a class or an interface has no members without a closing brace, so members are stuck or go on.
abbrev pub StuckNames : Type 0
StuckNames = (c : ℕ) → IsStuck (names_of c) BeginsNames

abbrev pub StuckParents : Type 0
StuckParents = IsStuck parent_of BeginsParent × IsStuck (headed_of word_extends) BeginsParents × IsStuck (headed_of word_implements) BeginsInterfaces

abbrev pub StuckParam : Type 0
StuckParam = IsStuck param_of BeginsParam

abbrev pub StuckSomeParams : Type 0
StuckSomeParams = (c : ℕ) → IsStuck (some_params_of c) BeginsSomeParams

abbrev pub StuckParams : Type 0
StuckParams = IsStuck params_of BeginsParams

abbrev pub StuckConstants : Type 0
StuckConstants = (n c : ℕ) → IsStuck (constants_of n c) BeginsConstants

-- what begins a member, of a class or of an interface
abbrev pub BeginsMemberIn : Bool → List Terminal → Type 0
BeginsMemberIn true xs = BeginsImember xs
BeginsMemberIn false xs = BeginsMember xs

abbrev pub BeginsMembersIn : Bool → List Terminal → Type 0
BeginsMembersIn true xs = BeginsImembers xs
BeginsMembersIn false xs = BeginsMembers xs

-- behind modifiers that were read
abbrev pub StuckPlain : Type 0
StuckPlain = (i : Bool) (n : ℕ) (ks : List ℕ) (ws xs : List Terminal) → DerivesMods ks ws xs → Stops (plain_of i n ks xs) → BeginsMemberIn i ws

abbrev pub StuckInner : Type 0
StuckInner = (n : ℕ) → IsStuck (inner_of n) BeginsCtor

abbrev pub StuckCtor : Type 0
StuckCtor = (n : ℕ) (ks : List ℕ) (ws xs : List Terminal) → DerivesMods ks ws xs → Stops (ctor_of n ks xs) → BeginsMember ws

-- the reader of what is nested deeper: what stands behind the modifiers
abbrev pub StuckBelowType : BelowType → Type 0
StuckBelowType nest = (ks : List ℕ) (ws xs : List Terminal) → DerivesMods ks ws xs → Stops (nest ks xs) → BeginsType ws

abbrev pub StuckMember : Type 0
StuckMember = (i : Bool) (n : ℕ) (nest : BelowType) → StuckBelowType nest → IsStuck (member_of i n nest) (BeginsMemberIn i)

-- These use what the readers of nested types give, which the readers of each level do soundly.
abbrev pub StuckMembers : Type 0
StuckMembers = (i : Bool) (n m c : ℕ) → IsStuck (members_of i n (below_type m) c) (BeginsMembersIn i)

abbrev pub StuckClass : Type 0
StuckClass = (n m : ℕ) (ks : List ℕ) (p : ℕ) → IsStuck (class_of n (below_type m) ks) (λ xs. BeginsClass (Keyword p word_class ∷ xs))

abbrev pub StuckInterface : Type 0
StuckInterface = (n m : ℕ) (ks : List ℕ) (p : ℕ) → IsStuck (interface_of n (below_type m) ks) (λ xs. BeginsInterface (Keyword p word_interface ∷ xs))

abbrev pub TypesAreStuck : Type 0
TypesAreStuck = (n : ℕ) → StuckBelowType (below_type n)

abbrev pub StuckType : Type 0
StuckType = (n : ℕ) → IsStuck (type_of n) BeginsType

-- the types of a file end it, so nothing is left where they are read
abbrev pub StuckTypes : Type 0
StuckTypes = (n c : ℕ) (xs : List Terminal) → types_of n c xs ≡ Err [] → BeginsTypes xs

abbrev pub StuckPackage : Type 0
StuckPackage = IsStuck package_of BeginsPackage

abbrev pub StuckImport : Type 0
StuckImport = IsStuck import_of (λ xs. (p : ℕ) → BeginsImport (Keyword p word_import ∷ xs))

abbrev pub StuckImports : Type 0
StuckImports = (c : ℕ) → IsStuck (imports_of c) BeginsImports

-- where the reader of a file comes to the end of the terminals, they begin a file
abbrev pub EndedFilesBegin : Type 0
EndedFilesBegin = (n : ℕ) (xs : List Terminal) → Ends (all_of (file_of n xs)) → Begins xs
