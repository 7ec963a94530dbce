-- What the trees of a folder declare: its packages, files, types and members, in the order of their scopes.
use Rattle.std.specs.Prelude.{ℕ, ◌+◌, ◌-◌, ◌==◌, ◌||◌, nat_lt, Bool, true, false, List, [], ◌∷◌, ◌++◌, length, map, take, fold, Option, None, Some, if◌then◌else◌}
use Rattle.std.specs.List.{filter, list_any, flat_map, position_from, range_with_len, slice_index_or}
use Rattle.std.specs.Ordering.{is_eq, nat_cmp, on}
use Rattle.std.specs.Cmp.Lexicographic.{slice_cmp}
use Rattle.std.specs.declared.cmp.Ordering.{Ordering}
use Rattle.sg_state.specs.Held.{put}
use Rattle.jv_tree.specs.declared.name.Ident.{Ident}
use Rattle.jv_tree.specs.declared.names.NameId.{NameId}
use Rattle.jv_tree.specs.StmtTree.{VarTree}
use Rattle.jv_tree.specs.DeclTree.{TypeDeclTree, type_decl, nested, field, method, ctor, MemberTrees, no_members, members, ImportTree, UnitTree}
use Rattle.jv_layout.specs.declared.rows.Modifiers.{Modifiers}
use Rattle.jv_layout.specs.declared.rows.PackageRow.{PackageRow}
use Rattle.jv_layout.specs.declared.rows.TypeRow.{TypeRow}
use Rattle.jv_layout.specs.declared.rows.MemberRow.{MemberRow}
use Rattle.jv_layout.specs.declared.rows.MemberKind.TheVariants.{Field, Method, Ctor, DefaultCtor}

-- what contracts see of a layout: its packages, the package of each file (none where it is the unnamed one), its types, its members, and the static
-- imports of each file
pub record LayoutOf : Type 0 where
  pub packages : List PackageRow
  pub files : List (Option ℕ)
  pub types : List TypeRow
  pub members : List MemberRow
  pub statics : List (List ImportTree)

-- ---- modifiers

-- a modifier is written, by the number of its keyword
abbrev pub is_written : ℕ → List ℕ → Bool
is_written n words = list_any (λ w. w == n) words

-- which modifiers are written
abbrev pub modifiers_of : List ℕ → Modifiers
modifiers_of ws = record {
  is_public = is_written 34 ws;
  is_protected = is_written 33 ws;
  is_private = is_written 32 ws;
  is_static = is_written 37 ws;
  is_abstract = is_written 0 ws;
  is_final = is_written 17 ws;
  is_default = is_written 11 ws;
}

-- no modifier
abbrev pub no_modifiers : Modifiers
no_modifiers = record {
  is_public = false;
  is_protected = false;
  is_private = false;
  is_static = false;
  is_abstract = false;
  is_final = false;
  is_default = false;
}

-- ---- packages (JLS 7.1, 7.4)

-- the numbers of the names in a dotted name
abbrev pub numbers_of : List Ident → List ℕ
numbers_of ids = map (λ i. i.id.0) ids

-- the numbers of the names in a package clause, where there is one
abbrev pub numbers_in : Option (List Ident) → List ℕ
numbers_in None = []
numbers_in (Some ids) = numbers_of ids

-- the package of a file as the numbers of the names in its clause; no number for the unnamed package
abbrev pub clause_of : UnitTree → List ℕ
clause_of u = numbers_in u.package_name

-- the packages that a clause names: each of its prefixes
abbrev pub prefixes : List ℕ → List (List ℕ)
prefixes c = map (λ k. take (k + 1) c) (range_with_len 0 (length c))

-- the text of a name
abbrev pub text_of : List (List ℕ) → ℕ → List ℕ
text_of names n = slice_index_or names n []

-- a text, with or without a dot behind it
abbrev pub with_dot : List ℕ → Bool → List ℕ
with_dot text dot = text ++ (if dot then 46 ∷ [] else [])

-- the parts of a dotted name: the text of each name, with a dot behind it where further names follow
abbrev pub parts_of : List (List ℕ) → List ℕ → List (List ℕ)
parts_of names [] = []
parts_of names (n ∷ ns) = with_dot (text_of names n) (nat_lt 0 (length ns)) ∷ parts_of names ns

-- the order of dotted names: part by part, by bytes. No identifier has a dot, so it is the order of the dotted texts by bytes
abbrev pub path_cmp : List (List ℕ) → List ℕ → List ℕ → Ordering
path_cmp names = on (parts_of names) (slice_cmp (slice_cmp nat_cmp))

-- the packages that the clauses name, each once, by dotted name
abbrev pub paths_of : List (List ℕ) → List UnitTree → List (List ℕ)
paths_of names units = fold (put (path_cmp names)) [] (flat_map (λ u. prefixes (clause_of u)) units)

-- the number of the package with this dotted name
abbrev pub place_among : List (List ℕ) → List (List ℕ) → List ℕ → Option ℕ
place_among names paths p = position_from (λ q. is_eq (path_cmp names p q)) 0 paths

-- a package: the number of the package that encloses it, where one does, and its simple name
abbrev pub package_row : List (List ℕ) → List (List ℕ) → List ℕ → PackageRow
package_row names paths p = record { parent = place_among names paths (take (length p - 1) p); name = record { 0 = slice_index_or p (length p - 1) 0 } }

-- the number of a file's package, and none for the unnamed one
abbrev pub file_row : List (List ℕ) → List (List ℕ) → UnitTree → Option ℕ
file_row names paths u = place_among names paths (clause_of u)

-- ---- types (JLS 7.6, 8.5, 9.5)

abbrev mutual
  -- how many types a declaration has: itself, and those that nest in it
  pub decl_count : TypeDeclTree → ℕ
  decl_count (type_decl name ms i es is xs) = 1 + body_count xs

  -- how many types nest in a body
  pub body_count : MemberTrees → ℕ
  body_count no_members = 0
  body_count (members (nested d) xs) = decl_count d + body_count xs
  body_count (members (field ms t vs) xs) = body_count xs
  body_count (members (method m) xs) = body_count xs
  body_count (members (ctor c) xs) = body_count xs

abbrev mutual
  -- the types of a declaration with the number n: itself, and then those of its body, as the text has them
  pub decl_types : ℕ → Option ℕ → ℕ → ℕ → TypeDeclTree → List TypeRow
  decl_types file owner top n (type_decl name ms i es is xs) =
      record { file = file; owner = owner; top = top; name = name.id; modifiers = modifiers_of ms; interface = i } ∷ body_types file n top (n + 1) xs

  -- the types of a body, of which the first has the number n
  pub body_types : ℕ → ℕ → ℕ → ℕ → MemberTrees → List TypeRow
  body_types file owner top n no_members = []
  body_types file owner top n (members (nested d) xs) = decl_types file (Some owner) top n d ++ body_types file owner top (n + decl_count d) xs
  body_types file owner top n (members (field ms t vs) xs) = body_types file owner top n xs
  body_types file owner top n (members (method m) xs) = body_types file owner top n xs
  body_types file owner top n (members (ctor c) xs) = body_types file owner top n xs

-- the types of a file, of which the first has the number n
abbrev pub file_types : ℕ → ℕ → List TypeDeclTree → List TypeRow
file_types file n [] = []
file_types file n (d ∷ ds) = decl_types file None n n d ++ file_types file (n + decl_count d) ds

-- how many types a file has
abbrev pub file_count : List TypeDeclTree → ℕ
file_count [] = 0
file_count (d ∷ ds) = decl_count d + file_count ds

-- the types of files from this one on, file by file, of which the first has the number n
abbrev pub types_from : ℕ → ℕ → List UnitTree → List TypeRow
types_from file n [] = []
types_from file n (u ∷ us) = file_types file n u.types ++ types_from (file + 1) (n + file_count u.types) us

-- how many types files have
abbrev pub type_count : List UnitTree → ℕ
type_count [] = 0
type_count (u ∷ us) = file_count u.types + type_count us

-- ---- members: fields, methods and constructors (JLS 8.3, 8.4, 8.8)

-- whether a constructor stands in a body
abbrev pub has_ctor : MemberTrees → Bool
has_ctor no_members = false
has_ctor (members (nested d) xs) = has_ctor xs
has_ctor (members (field ms t vs) xs) = has_ctor xs
has_ctor (members (method m) xs) = has_ctor xs
has_ctor (members (ctor c) xs) = true

-- the default constructor of a class without one (JLS 8.8.9)
abbrev pub default_ctor : ℕ → NameId → Bool → MemberTrees → List MemberRow
default_ctor n name i xs = if (i || has_ctor xs) then [] else (record { owner = n; kind = DefaultCtor; name = name; modifiers = no_modifiers } ∷ [])

-- a field of a type
abbrev pub field_row : ℕ → Modifiers → VarTree → MemberRow
field_row owner ms v = record { owner = owner; kind = Field; name = v.name.id; modifiers = ms }

abbrev mutual
  -- the members of a declaration with the number n and of those that nest in it, as the text has them; a default constructor first
  pub decl_members : ℕ → TypeDeclTree → List MemberRow
  decl_members n (type_decl name ms i es is xs) = default_ctor n name.id i xs ++ body_members n name.id (n + 1) xs

  -- the members of a body and of the types that nest in it, of which the first has the number n; a constructor has its class's name
  pub body_members : ℕ → NameId → ℕ → MemberTrees → List MemberRow
  body_members owner class n no_members = []
  body_members owner class n (members (nested d) xs) = decl_members n d ++ body_members owner class (n + decl_count d) xs
  body_members owner class n (members (field ms t vs) xs) =
      map (field_row owner (modifiers_of ms)) vs ++ body_members owner class n xs
  body_members owner class n (members (method m) xs) =
      record { owner = owner; kind = Method; name = m.name.id; modifiers = modifiers_of m.mods } ∷ body_members owner class n xs
  body_members owner class n (members (ctor c) xs) =
      record { owner = owner; kind = Ctor; name = class; modifiers = modifiers_of c.mods } ∷ body_members owner class n xs

-- the members of a file, whose first type has the number n
abbrev pub file_members : ℕ → List TypeDeclTree → List MemberRow
file_members n [] = []
file_members n (d ∷ ds) = decl_members n d ++ file_members (n + decl_count d) ds

-- the members of files, file by file, of whose types the first has the number n
abbrev pub members_from : ℕ → List UnitTree → List MemberRow
members_from n [] = []
members_from n (u ∷ us) = file_members n u.types ++ members_from (n + file_count u.types) us

-- ---- static imports (JLS 7.5.3, 7.5.4)

-- the static imports of a file, as the text has them
abbrev pub statics_in : UnitTree → List ImportTree
statics_in u = filter (λ i. i.is_static) u.imports

-- ---- the whole

-- the layout of files, of which the first two are the prelude's
abbrev pub layout_of : List (List ℕ) → List UnitTree → LayoutOf
layout_of names units = record {
  packages = map (package_row names (paths_of names units)) (paths_of names units);
  files = map (file_row names (paths_of names units)) units;
  types = types_from 0 0 units;
  members = members_from 0 units;
  statics = map statics_in units;
}
