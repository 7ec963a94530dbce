-- All that is checked of a type's members (JLS 8.3, 8.4, 8.8, 9.3, 9.4).
use Rattle.std.specs.Prelude.{ℕ, cond, List, [], ◌∷◌, ◌++◌}
use Rattle.sg_base.specs.declared.scope.Scope.{Scope}
use Rattle.sg_reading.specs.Reading.{done, and_then, each}
use Rattle.jv_diag.specs.Plain.{DiagOf}
use Rattle.jv_layout.specs.Duplicates.{is_duplicate}
use Rattle.jv_layout.specs.Folder.{LayoutOf}
use Rattle.jv_layout.specs.Readers.{members_of}
use Rattle.jv_tree.specs.declared.name.Ident.{Ident}
use Rattle.jv_tree.specs.DeclTree.{TypeDeclTree, type_decl}
use Rattle.jv_names.specs.declared.counts.Counts.TheVariants.{Methods}
use Rattle.jv_names.specs.declared.kinds.TheConstants.{METHODS}
use Rattle.jv_names.specs.Members.{find_ends}
use Rattle.jv_names.specs.Replies.{Rule, for_any}
use Rattle.jv_member.specs.Constructors.{ctor_rule}
use Rattle.jv_member.specs.Declaration.{joined, member_diags}
use Rattle.jv_member.specs.Overriding.{all_groups, method_rule}
use Rattle.jv_member.specs.Own.{OwnMember, own_field, own_method, own_ctor, default_ctor, own_members}

-- a member of a type, with its scope
abbrev pub Placed : Type 0
Placed = Scope × OwnMember

-- members with their scopes
abbrev pub placed : List Scope → List OwnMember → List Placed
placed [] ms = []
placed (s ∷ ss) [] = []
placed (s ∷ ss) (m ∷ ms) = (s, m) ∷ placed ss ms

-- the diagnostics of the declarations themselves
abbrev pub declarations_of : LayoutOf → List (List ℕ) → Scope → Ident → List Placed → List DiagOf
declarations_of l names c type [] = []
declarations_of l names c type (p ∷ ps) = member_diags l names c type.id p.0 p.1 ++ declarations_of l names c type ps

-- a method that is no duplicate is checked against what it is declared over
abbrev pub overrides : LayoutOf → List (List ℕ) → Scope → Ident → Scope → OwnMember → Rule (List DiagOf)
overrides l names c type s (own_field ms t v) = done []
overrides l names c type s (own_method m) = cond (is_duplicate l s) (done []) (method_rule l names c type s m.name)
overrides l names c type s (own_ctor k) = done []
overrides l names c type s (default_ctor name) = done []

-- a member with its scope is checked against what it is declared over
abbrev pub member_overrides : LayoutOf → List (List ℕ) → Scope → Ident → Placed → Rule (List DiagOf)
member_overrides l names c type p = overrides l names c type p.0 p.1

-- the constructor that a member calls without a super call
abbrev pub member_calls : LayoutOf → List (List ℕ) → Scope → List (List Ident) → Placed → Rule (List DiagOf)
member_calls l names c extends p = ctor_rule l names c extends p.1

-- the diagnostics of the members of a type with this name, which extends these names: of each declaration, of the methods that it declares over others,
-- of those that meet in it, and of its constructors; all its methods are asked for first
abbrev pub check_by : LayoutOf → List (List ℕ) → Scope → Ident → List (List Ident) → List Placed → Rule (List DiagOf)
check_by l names c type extends ps =
    and_then (find_ends l Methods (for_any METHODS c)) (λ ends. and_then (each (member_overrides l names c type) ps) (λ overs. and_then (all_groups l names c type ends) (λ meets. and_then (each (member_calls l names c extends) ps) (λ calls.
    done ((declarations_of l names c type ps ++ joined overs) ++ (meets ++ joined calls))))))

-- the diagnostics of the members of a type by its declaration, whose members have the scopes of the type's in the layout
abbrev pub members_rule : LayoutOf → List (List ℕ) → Scope → TypeDeclTree → Rule (List DiagOf)
members_rule l names c (type_decl name ms i es is xs) = check_by l names c name es (placed (members_of l c) (own_members (type_decl name ms i es is xs)))
