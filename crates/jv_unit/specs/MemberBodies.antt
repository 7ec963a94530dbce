-- What is checked of the bodies and the initializers of a type's members, and what is said of the flow through them.
use Rattle.std.specs.Prelude.{ℕ, ◌&&◌, not, Bool, false, List, [], map, is_some}
use Rattle.std.specs.List.{filter}
use Rattle.sg_base.specs.declared.scope.Scope.{Scope}
use Rattle.sg_reading.specs.Reading.{done}
use Rattle.jv_diag.specs.Plain.{DiagOf}
use Rattle.jv_expr.specs.Bodies.{ctor_rule, field_rule, method_rule}
use Rattle.jv_layout.specs.Folder.{LayoutOf}
use Rattle.jv_flow.specs.FlowFaults.{ctor_flow, method_flow}
use Rattle.jv_layout.specs.Readers.{file_of, is_final_of, is_static_of, members_of_type}
use Rattle.jv_layout.specs.Scopes.{member_scope, type_scope}
use Rattle.jv_member.specs.Own.{OwnMember, own_field, own_method, own_ctor, default_ctor}
use Rattle.jv_names.specs.Replies.{Rule}
use Rattle.jv_tree.specs.declared.name.Ident.{Ident}
use Rattle.jv_unit.specs.Folder.{FolderOf}
use Rattle.jv_unit.specs.Owns.{own_at}
use Rattle.jv_unit.specs.Trees.{decl_at, extends_of}

-- ---- blank fields (JLS 8.3.1.2)

-- a final instance field without an initializer, which a constructor of its class assigns
abbrev pub is_blank : LayoutOf → Scope → OwnMember → Bool
is_blank l s (own_field ms t v) = is_final_of l s && (not (is_static_of l s) && not (is_some v.init))
is_blank l s (own_method m) = false
is_blank l s (own_ctor c) = false
is_blank l s (default_ctor name) = false

-- the blank fields of a type
abbrev pub type_blanks : FolderOf → ℕ → List Scope
type_blanks w t = map (member_scope w.layout) (filter (λ m. is_blank w.layout (member_scope w.layout m) (own_at w.files m)) (members_of_type w.layout t))

-- ---- bodies

-- the diagnostics of the body or the initializer of a member of a type; a default constructor has none
abbrev pub own_body : LayoutOf → List (List ℕ) → Scope → List (List Ident) → List Scope → Scope → OwnMember → Rule (List DiagOf)
own_body l names c extends blanks s (own_field ms t v) = field_rule l names c extends s v.init
own_body l names c extends blanks s (own_method m) = method_rule l names c extends s m
own_body l names c extends blanks s (own_ctor k) = ctor_rule l names c extends blanks s k
own_body l names c extends blanks s (default_ctor name) = done []

-- the diagnostics of the body or the initializer of the member with a number, which a type with these blank fields declares
abbrev pub member_body : FolderOf → ℕ → List Scope → ℕ → Rule (List DiagOf)
member_body w t blanks m =
    own_body w.layout w.names (type_scope w.layout t) (extends_of (decl_at w.files t)) blanks (member_scope w.layout m) (own_at w.files m)

-- ---- the flow through bodies (JLS 8.4.7, 14.21)

-- what is said of the flow through the body of a member; a field and a default constructor have none
abbrev pub own_flow : List (List ℕ) → ℕ → OwnMember → List DiagOf
own_flow names file (own_field ms t v) = []
own_flow names file (own_method m) = method_flow names file m
own_flow names file (own_ctor k) = ctor_flow names file k
own_flow names file (default_ctor name) = []

-- what is said of the flow through the body of the member with a number, which a type declares
abbrev pub member_flow : FolderOf → ℕ → ℕ → List DiagOf
member_flow w t m = own_flow w.names (file_of w.layout (type_scope w.layout t)) (own_at w.files m)
