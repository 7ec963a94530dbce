-- The members that a declaration declares, in the order of the layout (JLS 8.3, 8.4, 8.8, 8.8.9, 9.3, 9.4).
use Rattle.std.specs.Prelude.{ℕ, ◌||◌, List, [], ◌∷◌, ◌++◌, map, if◌then◌else◌}
use Rattle.jv_tree.specs.declared.name.Ident.{Ident}
use Rattle.jv_tree.specs.TypeTree.{TypeTree}
use Rattle.jv_tree.specs.StmtTree.{VarTree}
use Rattle.jv_tree.specs.DeclTree.{MethodTree, CtorTree, TypeDeclTree, type_decl, nested, field, method, ctor, MemberTrees, no_members, members}
use Rattle.jv_layout.specs.Folder.{has_ctor}

-- a member: a variable of a field declaration with its modifiers and its type, a method, a constructor, or the default constructor of a class with
-- this name
pub data OwnMember : Type 0 where
  own_field : List ℕ → TypeTree → VarTree → OwnMember
  own_method : MethodTree → OwnMember
  own_ctor : CtorTree → OwnMember
  default_ctor : Ident → OwnMember

-- the members of a body, those of the types that nest in it left out
abbrev pub body_own : MemberTrees → List OwnMember
body_own no_members = []
body_own (members (nested d) xs) = body_own xs
body_own (members (field ms t vs) xs) = map (own_field ms t) vs ++ body_own xs
body_own (members (method m) xs) = own_method m ∷ body_own xs
body_own (members (ctor c) xs) = own_ctor c ∷ body_own xs

-- the members of a declaration: a default constructor first, where there is one
abbrev pub own_members : TypeDeclTree → List OwnMember
own_members (type_decl name ms i es is xs) = (if (i || has_ctor xs) then [] else (default_ctor name ∷ [])) ++ body_own xs

-- where a member stands in the text, and its name as written
abbrev pub own_name : OwnMember → Ident
own_name (own_field ms t v) = v.name
own_name (own_method m) = m.name
own_name (own_ctor c) = c.name
own_name (default_ctor name) = name

-- a member that stands for none
abbrev pub no_own : OwnMember
no_own = default_ctor (record { at = 0; id = record { 0 = 0 } })
