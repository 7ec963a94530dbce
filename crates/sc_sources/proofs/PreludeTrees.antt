-- The sources of the prelude have tokens and trees: their tokens are scanned, and their trees are read.
use Rattle.std.proofs.Common.{◌≡◌, ℕ, true, List, [], length, Option, None, Some, Result, Ok, Err, refl, sym, subst}
use Rattle.std.specs.Str.{IsAscii}
use Rattle.std.proofs.lemmas.Str.{IsUtf8-from_ascii, chars-IsAscii}
use Rattle.unicode_ident.proofs.Computing.{unicode_ident}
use Rattle.jv_lex.specs.Source.{Follows, Tokenizes}
use Rattle.jv_lex.specs.declared.token.Token.{Token}
use Rattle.jv_lex.proofs.Tables.{is_ascii, IsAscii-from_is_ascii}
use Rattle.jv_tree.specs.DeclTree.{UnitTree}
use Rattle.jv_grammar.specs.declared.terminal.Terminal.{Terminal}
use Rattle.jv_grammar.specs.Load.{loads_of}
use Rattle.jv_grammar.specs.TypeReader.{name_of, base_of, pairs_of, ty_of, declares}
use Rattle.jv_grammar.specs.ExprReader.{run_of, exprs_of, args_of, head_of, suffixes_of, primary_of, steps_of, post_of, unary_of, links_of, bin_of, cond_of, expr_of, init_of, below}
use Rattle.jv_grammar.specs.StmtReader.{var_by, vars_up_to, vars_by, effect_by, block_by, effect_stmt_by, word_by, stmt_by, bstmt_by, bstmts_up_to, bstmts_by, below_stmt, return_by, optional_by}
use Rattle.jv_grammar.specs.DeclReader.{mods_of, names_of, parent_of, headed_of, param_of, some_params_of, params_of, constants_of, field_of, method_of, typed_of, plain_of, call_of, inner_of, ctor_of, behind_mods, member_of, members_of, braced_of, class_of, interface_of, decl_of, below_type, type_of, types_of, package_of, path_of, listed_of, import_of, imports_of, file_of}
use Rattle.jv_grammar.proofs.Deep.{find_deep, is_shallow}
use Rattle.jv_grammar.proofs.WholeFiles.{found_file, one_shallow}
use Rattle.jv_parse.specs.Naming.{names_with}
use Rattle.jv_parse.specs.Parse.{terminals_of}
use Rattle.jv_parse.proofs.Answered.{tree_read}
use Rattle.sc_sources.specs.Sources.{object_source, string_source, tree, Reads, parsed, nothing, next}
use Rattle.sc_sources.specs.Law.{PreludeIsRead}
use Rattle.sc_sources.proofs.Scanner.{scan, scan_sound}

-- the tokens that were scanned, and the tree that was read
abbrev scanned : Option (List Token) → List Token
scanned None = []
scanned (Some ts) = ts

abbrev tree_in : Result UnitTree (List Terminal) → UnitTree
tree_in (Ok u) = u
tree_in (Err e) = record { package_name = None; imports = []; types = [] }

-- a source of ASCII reads as a tree, where its tokens are scanned and its tree is read from terminals that are nowhere deep
module _ (bytes : List ℕ) (old : List (List ℕ)) (ts : List Token) (u : UnitTree) where
  tokenized : is_ascii bytes ≡ true → scan (length bytes) (length bytes) bytes ≡ Some ts → Tokenizes bytes ts
  tokenized a h =
      let ascii : IsAscii bytes = IsAscii-from_is_ascii bytes a in
      record {
        utf8 = IsUtf8-from_ascii bytes ascii;
        tokens = subst (λ (cs : List ℕ). Follows (length bytes) None cs ts) (sym (chars-IsAscii bytes ascii)) (scan_sound (length bytes) (length bytes) None bytes ts h);
      }

  source_read : is_ascii bytes ≡ true → scan (length bytes) (length bytes) bytes ≡ Some ts → find_deep 0 (loads_of (terminals_of bytes (names_with bytes old ts) ts)) ≡ None
      → file_of 20 (terminals_of bytes (names_with bytes old ts) ts) ≡ Ok u → Reads bytes old (names_with bytes old ts) (tree u)
  source_read a h s r =
      let xs : List Terminal = terminals_of bytes (names_with bytes old ts) ts in
      parsed (tokenized a h) (tree_read xs 20 u ((is_shallow xs None s).0 refl) found_file one_shallow r)

-- all readers
readers : Unit {0}
unfolding name_of base_of pairs_of ty_of declares run_of exprs_of args_of head_of suffixes_of primary_of steps_of post_of unary_of links_of bin_of cond_of expr_of init_of below var_by vars_up_to vars_by effect_by block_by effect_stmt_by word_by stmt_by bstmt_by bstmts_up_to bstmts_by below_stmt return_by optional_by mods_of names_of parent_of headed_of param_of some_params_of params_of constants_of field_of method_of typed_of plain_of call_of inner_of ctor_of behind_mods member_of members_of braced_of class_of interface_of decl_of below_type type_of types_of package_of path_of listed_of import_of imports_of file_of
readers = tt

-- ---- the source of Object

object_tokens : List Token
object_tokens = scanned (scan (length object_source) (length object_source) object_source)

object_names : List (List ℕ)
object_names = names_with object_source [] object_tokens

object_terminals : List Terminal
object_terminals = terminals_of object_source object_names object_tokens

object_tree : UnitTree
object_tree = tree_in (file_of 20 object_terminals)

object_scanned : scan (length object_source) (length object_source) object_source ≡ Some object_tokens
unfolding object_tokens unicode_ident
object_scanned = refl

object_shallow : find_deep 0 (loads_of object_terminals) ≡ None
unfolding object_tokens object_names object_terminals unicode_ident
object_shallow = refl

object_parsed : file_of 20 object_terminals ≡ Ok object_tree
unfolding object_tokens object_names object_terminals object_tree unicode_ident readers
object_parsed = refl

object_read : Reads object_source [] object_names (tree object_tree)
unfolding object_names object_terminals
object_read = source_read object_source [] object_tokens object_tree refl object_scanned object_shallow object_parsed

-- ---- the source of String

string_tokens : List Token
string_tokens = scanned (scan (length string_source) (length string_source) string_source)

string_names : List (List ℕ)
string_names = names_with string_source object_names string_tokens

string_terminals : List Terminal
string_terminals = terminals_of string_source string_names string_tokens

string_tree : UnitTree
string_tree = tree_in (file_of 20 string_terminals)

string_scanned : scan (length string_source) (length string_source) string_source ≡ Some string_tokens
unfolding string_tokens unicode_ident
string_scanned = refl

string_shallow : find_deep 0 (loads_of string_terminals) ≡ None
unfolding string_tokens string_names string_terminals object_tokens object_names unicode_ident
string_shallow = refl

string_parsed : file_of 20 string_terminals ≡ Ok string_tree
unfolding string_tokens string_names string_terminals string_tree object_tokens object_names unicode_ident readers
string_parsed = refl

string_read : Reads string_source object_names string_names (tree string_tree)
unfolding string_names string_terminals
string_read = source_read string_source object_names string_tokens string_tree refl string_scanned string_shallow string_parsed

pub prelude_read : PreludeIsRead
prelude_read = (string_names, object_tree, string_tree, next object_read (next string_read nothing))
