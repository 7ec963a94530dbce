-- What is checked of one body, of one initializer or of one signature, by the declaration of its type.
use Rattle.std.specs.Prelude.{ℕ, cond, List, [], ◌∷◌, map}
use Rattle.std.specs.List.{filter}
use Rattle.sg_base.specs.declared.scope.Scope.{Scope}
use Rattle.sg_base.specs.Scope.{is_scope}
use Rattle.sg_reading.specs.Reading.{done}
use Rattle.jv_diag.specs.Plain.{DiagOf}
use Rattle.jv_expr.specs.Bodies.{ctor_rule, field_rule, method_rule}
use Rattle.jv_layout.specs.Folder.{LayoutOf}
use Rattle.jv_layout.specs.Readers.{members_of}
use Rattle.jv_member.specs.declared.signature.Signature.{Signature}
use Rattle.jv_member.specs.Members.{Placed, placed}
use Rattle.jv_member.specs.Own.{OwnMember, own_field, own_method, own_ctor, default_ctor, no_own, own_members}
use Rattle.jv_member.specs.Signatures.{signature_rule}
use Rattle.jv_names.specs.Replies.{Rule}
use Rattle.jv_tree.specs.declared.name.Ident.{Ident}
use Rattle.jv_tree.specs.DeclTree.{TypeDeclTree}
use Rattle.jv_unit.specs.MemberBodies.{is_blank}
use Rattle.jv_unit.specs.Trees.{extends_of, name_of}

-- ---- the members of a declaration

-- the members of a type with this declaration, with their scopes
abbrev pub placed_members : LayoutOf → Scope → TypeDeclTree → List Placed
placed_members l c d = placed (members_of l c) (own_members d)

-- the member with this scope; where none has it, the one that stands for none
abbrev pub member_with : Scope → List Placed → OwnMember
member_with m [] = no_own
member_with m (p ∷ ps) = cond (is_scope m p.0) p.1 (member_with m ps)

-- the blank fields among members
abbrev pub blanks_among : LayoutOf → List Placed → List Scope
blanks_among l ps = map (λ p. p.0) (filter (λ p. is_blank l p.0 p.1) ps)

-- ---- one member

-- the diagnostics of the body of a method, and of a constructor, which may assign these blank fields; other members have none
abbrev pub body_of : LayoutOf → List (List ℕ) → Scope → List (List Ident) → List Scope → Scope → OwnMember → Rule (List DiagOf)
body_of l names c extends blanks s (own_field ms t v) = done []
body_of l names c extends blanks s (own_method m) = method_rule l names c extends s m
body_of l names c extends blanks s (own_ctor k) = ctor_rule l names c extends blanks s k
body_of l names c extends blanks s (default_ctor name) = done []

-- the diagnostics of the initializer of a field; other members have none
abbrev pub init_of : LayoutOf → List (List ℕ) → Scope → List (List Ident) → Scope → OwnMember → Rule (List DiagOf)
init_of l names c extends s (own_field ms t v) = field_rule l names c extends s v.init
init_of l names c extends s (own_method m) = done []
init_of l names c extends s (own_ctor k) = done []
init_of l names c extends s (default_ctor name) = done []

-- ---- by the declaration

-- the diagnostics of the body of the member with this scope, of a type with this declaration
abbrev pub declared_body : LayoutOf → List (List ℕ) → Scope → TypeDeclTree → Scope → Rule (List DiagOf)
declared_body l names c d m = body_of l names c (extends_of d) (blanks_among l (placed_members l c d)) m (member_with m (placed_members l c d))

-- the diagnostics of the initializer of the member with this scope, of a type with this declaration
abbrev pub declared_init : LayoutOf → List (List ℕ) → Scope → TypeDeclTree → Scope → Rule (List DiagOf)
declared_init l names c d m = init_of l names c (extends_of d) m (member_with m (placed_members l c d))

-- the signature of the member with this scope, of a type with this declaration, with what is wrong with the types in it
abbrev pub declared_signature : LayoutOf → List (List ℕ) → Scope → TypeDeclTree → Scope → Rule Signature
declared_signature l names c d m = signature_rule l names c (name_of d).id (member_with m (placed_members l c d))
