-- The declarations of a folder by the numbers of their types, and where each stands in the trees.
use Rattle.std.specs.Prelude.{ℕ, List, [], ◌∷◌, ◌++◌, Bool, false, None}
use Rattle.std.specs.List.{flat_map, slice_index_or}
use Rattle.jv_tree.specs.declared.name.Ident.{Ident}
use Rattle.jv_tree.specs.DeclTree.{TypeDeclTree, type_decl, nested, field, method, ctor, MemberTrees, no_members, members, UnitTree}

abbrev mutual
  -- a declaration and those that nest in it, in the order of their types
  pub decls_in : TypeDeclTree → List TypeDeclTree
  decls_in (type_decl name ms i es is xs) = type_decl name ms i es is xs ∷ body_decls xs

  -- the declarations in a body and those that nest in them, in the order of their types
  pub body_decls : MemberTrees → List TypeDeclTree
  body_decls no_members = []
  body_decls (members (nested d) xs) = decls_in d ++ body_decls xs
  body_decls (members (field ms t vs) xs) = body_decls xs
  body_decls (members (method m) xs) = body_decls xs
  body_decls (members (ctor c) xs) = body_decls xs

-- the declarations of files, file by file
abbrev pub all_decls : List UnitTree → List TypeDeclTree
all_decls units = flat_map (λ u. flat_map decls_in u.types) units

-- a declaration that stands for none
abbrev pub no_decl : TypeDeclTree
no_decl = type_decl (record { at = 0; id = record { 0 = 0 } }) [] false [] [] no_members

-- the declaration of the type with a number
abbrev pub decl_at : List UnitTree → ℕ → TypeDeclTree
decl_at units t = slice_index_or (all_decls units) t no_decl

-- a file that stands for none, and the file with a number
abbrev pub no_unit : UnitTree
no_unit = record { package_name = None; imports = []; types = [] }

-- the file with a number; where there is none, the one that stands for none
abbrev pub unit_at : List UnitTree → ℕ → UnitTree
unit_at units f = slice_index_or units f no_unit

-- the parts of a declaration
abbrev pub name_of : TypeDeclTree → Ident
name_of (type_decl name ms i es is xs) = name

-- the modifiers of a declaration
abbrev pub mods_of : TypeDeclTree → List ℕ
mods_of (type_decl name ms i es is xs) = ms

-- the names that a declaration extends
abbrev pub extends_of : TypeDeclTree → List (List Ident)
extends_of (type_decl name ms i es is xs) = es

-- the names that a declaration implements
abbrev pub implements_of : TypeDeclTree → List (List Ident)
implements_of (type_decl name ms i es is xs) = is

-- whether a declaration is one of an interface
abbrev pub is_interface : TypeDeclTree → Bool
is_interface (type_decl name ms i es is xs) = i
