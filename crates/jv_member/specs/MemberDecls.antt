-- What contracts see of a member as its declaration has it.
use Rattle.jv_tree.specs.declared.declaration.Mods.{Mods}
use Rattle.jv_tree.specs.declared.type_ref.TypeRef.{TypeRef}
use Rattle.jv_tree.specs.declared.type_ref.Var.{Var}
use Rattle.jv_tree.specs.StmtTree.{var_tree}
use Rattle.jv_tree.specs.TypeTree.{type_tree}
use Rattle.jv_tree.specs.DeclTree.{method_tree, ctor_tree}
use Rattle.jv_member.specs.declared.member_decl.MemberDecl.{MemberDecl}
use Rattle.jv_member.specs.declared.member_decl.MemberDecl.TheVariants.{Field, Method, Ctor, DefaultCtor}
use Rattle.jv_member.specs.Own.{OwnMember, own_field, own_method, own_ctor, default_ctor}

-- the plain data of a variable of a field declaration of the code, with its modifiers and its type
abbrev pub own_field_of : Mods → TypeRef → Var → OwnMember
own_field_of ms t v = own_field ms.words.items (type_tree t) (var_tree v)

-- the plain data of a member of the code
abbrev pub own_of : MemberDecl → OwnMember
own_of (Field ms t v) = own_field_of ms.now t.now v.now
own_of (Method m) = own_method (method_tree m.now)
own_of (Ctor c) = own_ctor (ctor_tree c.now)
own_of (DefaultCtor name) = default_ctor name
