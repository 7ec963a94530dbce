-- The members of a folder by their numbers, in the order of the layout.
use Rattle.std.specs.Prelude.{ℕ, ◌||◌, Bool, List, [], ◌∷◌, ◌++◌, map, if◌then◌else◌}
use Rattle.std.specs.List.{flat_map, slice_index_or}
use Rattle.jv_layout.specs.declared.rows.Modifiers.{Modifiers}
use Rattle.jv_layout.specs.declared.rows.MemberRow.{MemberRow}
use Rattle.jv_layout.specs.declared.rows.MemberKind.{MemberKind}
use Rattle.jv_layout.specs.declared.rows.MemberKind.TheVariants.{Field, Method, Ctor, DefaultCtor}
use Rattle.jv_layout.specs.Folder.{has_ctor, modifiers_of, no_modifiers}
use Rattle.jv_tree.specs.declared.name.Ident.{Ident}
use Rattle.jv_tree.specs.declared.names.NameId.{NameId}
use Rattle.jv_tree.specs.DeclTree.{TypeDeclTree, type_decl, nested, field, method, ctor, MemberTrees, no_members, members, UnitTree}
use Rattle.jv_member.specs.Own.{OwnMember, own_field, own_method, own_ctor, default_ctor, no_own}

-- the default constructor of a class without a constructor
abbrev pub default_own : Ident → Bool → MemberTrees → List OwnMember
default_own name i xs = if (i || has_ctor xs) then [] else (default_ctor name ∷ [])

abbrev mutual
  -- the members of a declaration and of those that nest in it; a default constructor first
  pub decl_owns : TypeDeclTree → List OwnMember
  decl_owns (type_decl name ms i es is xs) = default_own name i xs ++ body_owns xs

  -- the members of a body, in the order of the text, and in place of each declaration that nests in it its members
  pub body_owns : MemberTrees → List OwnMember
  body_owns no_members = []
  body_owns (members (nested d) xs) = decl_owns d ++ body_owns xs
  body_owns (members (field ms t vs) xs) = map (own_field ms t) vs ++ body_owns xs
  body_owns (members (method m) xs) = own_method m ∷ body_owns xs
  body_owns (members (ctor c) xs) = own_ctor c ∷ body_owns xs

-- the members of files, file by file
abbrev pub all_owns : List UnitTree → List OwnMember
all_owns units = flat_map (λ u. flat_map decl_owns u.types) units

-- the member with this number
abbrev pub own_at : List UnitTree → ℕ → OwnMember
own_at units m = slice_index_or (all_owns units) m no_own

-- ---- the row of a member in the layout

-- which kind a member is of
abbrev pub own_kind : OwnMember → MemberKind
own_kind (own_field ms t v) = Field
own_kind (own_method m) = Method
own_kind (own_ctor c) = Ctor
own_kind (default_ctor name) = DefaultCtor

-- the name of a member of a class with this name, which its constructors have
abbrev pub own_title : NameId → OwnMember → NameId
own_title class (own_field ms t v) = v.name.id
own_title class (own_method m) = m.name.id
own_title class (own_ctor c) = class
own_title class (default_ctor name) = name.id

-- the modifiers of a member; a default constructor has none
abbrev pub own_modifiers : OwnMember → Modifiers
own_modifiers (own_field ms t v) = modifiers_of ms
own_modifiers (own_method m) = modifiers_of m.mods
own_modifiers (own_ctor c) = modifiers_of c.mods
own_modifiers (default_ctor name) = no_modifiers

-- the row of a member of the type with the number n and this name
abbrev pub own_row : ℕ → NameId → OwnMember → MemberRow
own_row n class o = record { owner = n; kind = own_kind o; name = own_title class o; modifiers = own_modifiers o }
