-- The places of terminals, and the names of the types and members that a tree declares, in the order in which it lists them.
use Rattle.std.specs.Prelude.{ℕ, Bool, true, false, ◌||◌, List, [], ◌∷◌, ◌++◌, map, if◌then◌else◌}
use Rattle.std.specs.List.Sorted.{IsStrictlyIncreasing}
use Rattle.jv_tree.specs.declared.name.Ident.{Ident as Identifier}
use Rattle.jv_tree.specs.StmtTree.{VarTree}
use Rattle.jv_tree.specs.DeclTree.{TypeDeclTree, type_decl, MemberTree, nested, field, method, ctor, MemberTrees, no_members, members, UnitTree}
use Rattle.jv_grammar.specs.declared.terminal.Terminal.{Terminal}
use Rattle.jv_grammar.specs.declared.terminal.Terminal.TheVariants.{Ident, Keyword, Literal, Minimum, MinimumLong, Punct}

-- the place of a terminal: the offset of its first byte
abbrev pub place_of : Terminal → ℕ
place_of (Ident i) = i.at
place_of (Keyword p k) = p
place_of (Literal p l) = p
place_of (Minimum p) = p
place_of (MinimumLong p) = p
place_of (Punct p o) = p

-- the terminals rise by place: each starts behind the start of the one before
abbrev pub RiseByPlace : List Terminal → Type 0
RiseByPlace ts = IsStrictlyIncreasing (map place_of ts)

-- the places of names
abbrev pub places_of : List Identifier → List ℕ
places_of names = map (λ i. i.at) names

-- ---- types

abbrev mutual
  -- the names of a declaration and of the types that nest in it: its own, and then those of its body
  pub decl_type_names : TypeDeclTree → List Identifier
  decl_type_names (type_decl name ms i es is xs) = name ∷ body_type_names xs

  -- the names of the types that nest in a body, member by member
  pub body_type_names : MemberTrees → List Identifier
  body_type_names no_members = []
  body_type_names (members m xs) = member_type_names m ++ body_type_names xs

  -- the names of the types that nest in a member
  pub member_type_names : MemberTree → List Identifier
  member_type_names (nested d) = decl_type_names d
  member_type_names (field ms t vs) = []
  member_type_names (method m) = []
  member_type_names (ctor c) = []

-- the names of declarations and of the types that nest in them
abbrev pub types_names : List TypeDeclTree → List Identifier
types_names [] = []
types_names (d ∷ ds) = decl_type_names d ++ types_names ds

-- the places of all types of a file, nested ones too: those of their names
abbrev pub type_places : UnitTree → List ℕ
type_places u = places_of (types_names u.types)

-- ---- members: fields, methods and constructors

-- whether a constructor stands in a body
abbrev pub has_ctor : MemberTrees → Bool
has_ctor no_members = false
has_ctor (members (nested d) xs) = has_ctor xs
has_ctor (members (field ms t vs) xs) = has_ctor xs
has_ctor (members (method m) xs) = has_ctor xs
has_ctor (members (ctor c) xs) = true

-- the default constructor of a class without one stands at the name of the class (JLS 8.8.9)
abbrev pub default_names : Identifier → Bool → MemberTrees → List Identifier
default_names name interface xs = if (interface || has_ctor xs) then [] else (name ∷ [])

-- the name of a variable
abbrev pub var_name : VarTree → Identifier
var_name v = v.name

abbrev mutual
  -- the names of the members of a declaration and of the types that nest in it; that of a default constructor comes first
  pub decl_member_names : TypeDeclTree → List Identifier
  decl_member_names (type_decl name ms i es is xs) = default_names name i xs ++ body_member_names xs

  -- the names of the members of a body and of the types that nest in it, member by member
  pub body_member_names : MemberTrees → List Identifier
  body_member_names no_members = []
  body_member_names (members m xs) = names_in m ++ body_member_names xs

  -- the names of what a member declares: of a nested type its members, of fields each variable
  pub names_in : MemberTree → List Identifier
  names_in (nested d) = decl_member_names d
  names_in (field ms t vs) = map var_name vs
  names_in (method m) = m.name ∷ []
  names_in (ctor c) = c.name ∷ []

-- the names of the members of declarations and of the types that nest in them
abbrev pub members_names : List TypeDeclTree → List Identifier
members_names [] = []
members_names (d ∷ ds) = decl_member_names d ++ members_names ds

-- the places of all members of a file, those of a nested type where it stands
abbrev pub member_places : UnitTree → List ℕ
member_places u = places_of (members_names u.types)
