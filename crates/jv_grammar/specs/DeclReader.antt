-- Reading declarations and files.
use Rattle.std.specs.Prelude.{ℕ, zero, suc, Bool, true, false, ◌&&◌, ◌||◌, not, nat_eq, nat_lt, List, [], ◌∷◌, length, Option, None, Some, Result, Ok, Err, if◌then◌else◌}
use Rattle.std.specs.List.{list_any}
use Rattle.jv_tree.specs.declared.name.Ident.{Ident as Identifier}
use Rattle.jv_tree.specs.TypeTree.{void, TypeTree}
use Rattle.jv_tree.specs.ExprTree.{ExprTrees}
use Rattle.jv_tree.specs.StmtTree.{VarTree, StmtTrees}
use Rattle.jv_tree.specs.DeclTree as d
use Rattle.jv_tree.specs.DeclTree.{ParamTree, TypeDeclTree, MemberTree, MemberTrees, ImportTree, UnitTree}
use Rattle.jv_grammar.specs.declared.terminal.Terminal.{Terminal}
use Rattle.jv_grammar.specs.declared.terminal.Terminal.TheVariants.{Ident, Keyword}
use Rattle.jv_grammar.specs.Marks.{paren_open, paren_close, brace_open, brace_close, semicolon, comma, dot, equals_sign, star, word_class, word_extends, word_final, word_implements, word_import, word_interface, word_package, word_static, word_super, word_void, modifiers}
use Rattle.jv_grammar.specs.TypeGrammar.{starts, starts_word}
use Rattle.jv_grammar.specs.Reader.{Reads, ◌>>=◌, rest_of, closed}
use Rattle.jv_grammar.specs.TypeReader.{name_of, ty_of}
use Rattle.jv_grammar.specs.ExprReader.{args_of, init_of, below}
use Rattle.jv_grammar.specs.StmtReader.{vars_of, block_of, bstmts_of}

-- an identifier
abbrev pub ident_of : List Terminal → Reads Identifier
ident_of (Ident i ∷ xs) = Ok (i, xs)
ident_of xs = Err xs

-- an identifier with a `(` behind it
abbrev pub calls : List Terminal → Bool
calls (Ident i ∷ xs) = starts paren_open xs
calls xs = false

-- the longest list of modifiers
unfoldable pub mods_of : List Terminal → List ℕ × List Terminal
mods_of (Keyword p k ∷ xs) = if list_any (nat_eq k) modifiers then (k ∷ (mods_of xs).0, (mods_of xs).1) else ([], Keyword p k ∷ xs)
mods_of xs = ([], xs)

-- names with commas between them, at most as many as counted
unfoldable pub names_of : ℕ → List Terminal → Reads (List (List Identifier))
names_of zero xs = Err xs
names_of (suc c) xs = name_of xs >>= λ r.
    if starts comma r.1
    then (names_of c (rest_of r.1) >>= λ s. Ok (r.0 ∷ s.0, s.1))
    else Ok (r.0 ∷ [], r.1)

-- a name behind `extends`, or else none
unfoldable pub parent_of : List Terminal → Reads (List (List Identifier))
parent_of xs = if starts_word word_extends xs then (name_of (rest_of xs) >>= λ r. Ok (r.0 ∷ [], r.1)) else Ok ([], xs)

-- names behind the keyword w, or else none
unfoldable pub headed_of : ℕ → List Terminal → Reads (List (List Identifier))
headed_of w xs = if starts_word w xs then names_of (length xs) (rest_of xs) else Ok ([], xs)

-- a parameter behind its `final` or without one
abbrev pub named_of : Bool → List Terminal → Reads ParamTree
named_of f xs = ty_of xs >>= λ r. ident_of r.1 >>= λ s. Ok (record { is_final = f; ty = r.0; name = s.0 }, s.1)

-- a parameter, with a `final` in front or without one
unfoldable pub param_of : List Terminal → Reads ParamTree
param_of xs = if starts_word word_final xs then named_of true (rest_of xs) else named_of false xs

-- parameters with commas between them, at most as many as counted
unfoldable pub some_params_of : ℕ → List Terminal → Reads (List ParamTree)
some_params_of zero xs = Err xs
some_params_of (suc c) xs = param_of xs >>= λ r.
    if starts comma r.1
    then (some_params_of c (rest_of r.1) >>= λ s. Ok (r.0 ∷ s.0, s.1))
    else Ok (r.0 ∷ [], r.1)

-- parameters in parentheses
unfoldable pub params_of : List Terminal → Reads (List ParamTree)
params_of xs =
    if starts paren_open xs
    then (if starts paren_close (rest_of xs) then Ok ([], rest_of (rest_of xs))
    else (some_params_of (length xs) (rest_of xs) >>= λ r. closed paren_close r.0 r.1))
    else Err xs

-- constants with commas between them, at most as many as counted
unfoldable pub constants_of : ℕ → ℕ → List Terminal → Reads (List VarTree)
constants_of n zero xs = Err xs
constants_of n (suc c) xs = ident_of xs >>= λ i. closed equals_sign i.0 i.1 >>= λ j. init_of (below n) j.1 >>= λ r.
    if starts comma r.1
    then (constants_of n c (rest_of r.1) >>= λ s. Ok (record { name = j.0; init = Some r.0 } ∷ s.0, s.1))
    else Ok (record { name = j.0; init = Some r.0 } ∷ [], r.1)

-- the variables of a field; those of an interface have initializers
abbrev pub fields_in : Bool → ℕ → List Terminal → Reads (List VarTree)
fields_in true n xs = constants_of n (length xs) xs
fields_in false n xs = vars_of n xs

-- what stands behind the parameters of a method: a block or `;`
abbrev pub body_of : ℕ → List Terminal → Reads (Option StmtTrees)
body_of n xs = if starts semicolon xs then Ok (None, rest_of xs) else (block_of n xs >>= λ r. Ok (Some r.0.1, r.1))

-- fields behind their modifiers and their type
unfoldable pub field_of : Bool → ℕ → List ℕ → TypeTree → List Terminal → Reads MemberTree
field_of i n ks r xs = fields_in i n xs >>= λ v. closed semicolon (d.field ks r v.0) v.1

-- a method behind its modifiers and its result
unfoldable pub method_of : ℕ → List ℕ → TypeTree → List Terminal → Reads MemberTree
method_of n ks r xs = ident_of xs >>= λ j. params_of j.1 >>= λ q. body_of n q.1 >>= λ b.
    Ok (d.method (record { mods = ks; result = r; name = j.0; params = q.0; body = b.0 }), b.1)

-- fields or a method behind their modifiers
unfoldable pub typed_of : Bool → ℕ → List ℕ → List Terminal → Reads MemberTree
typed_of i n ks xs = ty_of xs >>= λ r. if calls r.1 then method_of n ks r.0 r.1 else field_of i n ks r.0 r.1

-- fields or a method behind their modifiers; the result of a method may be `void`
unfoldable pub plain_of : Bool → ℕ → List ℕ → List Terminal → Reads MemberTree
plain_of i n ks (Keyword p k ∷ xs) =
    if nat_eq k word_void then method_of n ks (record { at = p; base = void; dims = 0 }) xs else typed_of i n ks (Keyword p k ∷ xs)
plain_of i n ks xs = typed_of i n ks xs

-- the call that a constructor begins with, or else none
unfoldable pub call_of : ℕ → List Terminal → Reads (Option (ℕ × ExprTrees))
call_of n (Keyword p k ∷ xs) =
    if nat_eq k word_super && starts paren_open xs
    then (args_of (below n).expr xs >>= λ r. closed semicolon (Some (p, r.0)) r.1)
    else Ok (None, Keyword p k ∷ xs)
call_of n xs = Ok (None, xs)

-- the braces of a constructor
unfoldable pub inner_of : ℕ → List Terminal → Reads (Option (ℕ × ExprTrees) × StmtTrees)
inner_of n xs =
    if starts brace_open xs
    then (call_of n (rest_of xs) >>= λ c. bstmts_of n c.1 >>= λ s. closed brace_close (c.0, s.0) s.1)
    else Err xs

-- a constructor behind its modifiers
unfoldable pub ctor_of : ℕ → List ℕ → List Terminal → Reads MemberTree
ctor_of n ks xs = ident_of xs >>= λ j. params_of j.1 >>= λ q. inner_of n q.1 >>= λ b.
    Ok (d.ctor (record { mods = ks; name = j.0; params = q.0; call = b.0.0; body = b.0.1 }), b.1)

-- The reader of classes and interfaces one nesting level below, behind their modifiers.
abbrev pub BelowType : Type 0
BelowType = List ℕ → List Terminal → Reads TypeDeclTree

-- the terminals begin a class or an interface behind its modifiers
abbrev pub begins_type : List Terminal → Bool
begins_type xs = starts_word word_class xs || starts_word word_interface xs

-- a member behind its modifiers; an interface has no constructors
unfoldable pub behind_mods : Bool → ℕ → BelowType → List ℕ → List Terminal → Reads MemberTree
behind_mods i n nest ks xs =
    if begins_type xs then (nest ks xs >>= λ r. Ok (d.nested r.0, r.1))
    else if not i && calls xs then ctor_of n ks xs
    else plain_of i n ks xs

-- a member with its modifiers
unfoldable pub member_of : Bool → ℕ → BelowType → List Terminal → Reads MemberTree
member_of i n nest xs = behind_mods i n nest (mods_of xs).0 (mods_of xs).1

-- members up to a `}`, which is taken with them; at most as many members and `;` as counted
unfoldable pub members_of : Bool → ℕ → BelowType → ℕ → List Terminal → Reads MemberTrees
members_of i n nest zero xs = Err xs
members_of i n nest (suc c) xs =
    if starts brace_close xs then Ok (d.no_members, rest_of xs)
    else if starts semicolon xs then members_of i n nest c (rest_of xs)
    else (member_of i n nest xs >>= λ r. members_of i n nest c r.1 >>= λ s. Ok (d.members r.0 s.0, s.1))

-- the members of a class or an interface in braces
unfoldable pub braced_of : Bool → ℕ → BelowType → List Terminal → Reads MemberTrees
braced_of i n nest xs = if starts brace_open xs then members_of i n nest (length xs) (rest_of xs) else Err xs

-- a class behind its keyword
unfoldable pub class_of : ℕ → BelowType → List ℕ → List Terminal → Reads TypeDeclTree
class_of n nest ks xs = ident_of xs >>= λ j. parent_of j.1 >>= λ a. headed_of word_implements a.1 >>= λ b. braced_of false n nest b.1 >>= λ m.
    Ok (d.type_decl j.0 ks false a.0 b.0 m.0, m.1)

-- an interface behind its keyword
unfoldable pub interface_of : ℕ → BelowType → List ℕ → List Terminal → Reads TypeDeclTree
interface_of n nest ks xs = ident_of xs >>= λ j. headed_of word_extends j.1 >>= λ a. braced_of true n nest a.1 >>= λ m.
    Ok (d.type_decl j.0 ks true a.0 [] m.0, m.1)

-- a class or an interface behind its modifiers
unfoldable pub decl_of : ℕ → BelowType → List ℕ → List Terminal → Reads TypeDeclTree
decl_of n nest ks xs =
    if starts_word word_class xs then class_of n nest ks (rest_of xs)
    else if starts_word word_interface xs then interface_of n nest ks (rest_of xs)
    else Err xs

-- the reader of what is nested less than n deep
unfoldable pub below_type : ℕ → BelowType
below_type zero ks xs = Err xs
below_type (suc n) ks xs = decl_of n (below_type n) ks xs

-- a class or an interface with its modifiers
unfoldable pub type_of : ℕ → List Terminal → Reads TypeDeclTree
type_of n xs = decl_of n (below_type n) (mods_of xs).0 (mods_of xs).1

-- the types of a file up to its end; at most as many types and `;` as counted
unfoldable pub types_of : ℕ → ℕ → List Terminal → Result (List TypeDeclTree) (List Terminal)
types_of n c [] = Ok []
types_of n zero xs = Err xs
types_of n (suc c) xs =
    if starts semicolon xs then types_of n c (rest_of xs)
    else (type_of n xs >>= λ r. types_of n c r.1 >>= λ s. Ok (r.0 ∷ s))

-- the package of a file, or else none
unfoldable pub package_of : List Terminal → Reads (Option (List Identifier))
package_of xs = if starts_word word_package xs then (name_of (rest_of xs) >>= λ r. closed semicolon (Some r.0) r.1) else Ok (None, xs)

-- a name, and whether `. *` stands behind it; at most as many identifiers as counted, of a static import where the flag says so
unfoldable pub path_of : Bool → ℕ → List Terminal → Reads ImportTree
path_of s zero xs = Err xs
path_of s (suc c) xs = ident_of xs >>= λ i.
    if starts dot i.1
    then (if starts star (rest_of i.1) then Ok (record { name = i.0 ∷ []; all = true; is_static = s }, rest_of (rest_of i.1))
    else (path_of s c (rest_of i.1) >>= λ r. Ok (record { name = i.0 ∷ r.0.name; all = r.0.all; is_static = s }, r.1)))
    else Ok (record { name = i.0 ∷ []; all = false; is_static = s }, i.1)

-- a single static import of one identifier
abbrev pub stands_alone : ImportTree → Bool
stands_alone i = i.is_static && (not i.all && nat_lt (length i.name) 2)

-- an import behind its words
unfoldable pub listed_of : Bool → List Terminal → Reads ImportTree
listed_of s xs = path_of s (length xs) xs >>= λ r. if stands_alone r.0 then Err r.1 else closed semicolon r.0 r.1

-- an import behind its keyword
unfoldable pub import_of : List Terminal → Reads ImportTree
import_of xs = if starts_word word_static xs then listed_of true (rest_of xs) else listed_of false xs

-- imports, at most as many as counted
unfoldable pub imports_of : ℕ → List Terminal → Reads (List ImportTree)
imports_of zero xs = Err xs
imports_of (suc c) xs =
    if starts_word word_import xs
    then (import_of (rest_of xs) >>= λ r. imports_of c r.1 >>= λ s. Ok (r.0 ∷ s.0, s.1))
    else Ok ([], xs)

-- a file that nests at most n deep: all terminals of it are taken
unfoldable pub file_of : ℕ → List Terminal → Result UnitTree (List Terminal)
file_of n xs = package_of xs >>= λ p. imports_of (suc (length p.1)) p.1 >>= λ i. types_of n (length i.1) i.1 >>= λ t.
    Ok (record { package_name = p.0; imports = i.0; types = t })
