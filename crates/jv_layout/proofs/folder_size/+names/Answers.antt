use Rattle.std.proofs.Common.{◌≡◌, ℕ, ◌+◌, ◌<◌, ◌^◌, sym, ap, ◌∙◌, arith}
use Rattle.jv_tree.specs.declared.declaration.Member.{Member}
use Rattle.jv_tree.specs.declared.declaration.Member.TheVariants.{Nested}
use Rattle.jv_tree.specs.declared.declaration.TypeDecl.{TypeDecl}
use Rattle.jv_tree.specs.DeclTree.{MemberTrees, member_tree, members, type_decl_tree}
use Rattle.jv_layout.specs.Sizes.{body_names, decl_names}
use Rattle.jv_layout.proofs.Collecting.{nested_tree}
use Rattle.jv_layout.proofs.folder_size.+names.Goals as goal

-- a type in a body counts what it declares
nested_names : (m : Member) (d : TypeDecl) → m ≡ Nested d → (rest : MemberTrees) → body_names (members (member_tree m) rest) ≡ decl_names (type_decl_tree d) + body_names rest
nested_names m d e rest = ap (λ x. body_names (members (member_tree x) rest)) e ∙ ap (λ t. body_names (members t rest)) (nested_tree d)

pub member_names-returns-in-Nested-clause-low : goal.member_names-returns-in-Nested-clause-low
member_names-returns-in-Nested-clause-low t c = λ h rest.
    nested_names _ _ c.in-Nested.is rest ∙ ap (λ (n : ℕ). n + body_names rest) (sym (c.decl_names.ensures.low h))

pub member_names-returns-in-Nested-clause-high : goal.member_names-returns-in-Nested-clause-high
member_names-returns-in-Nested-clause-high t c = λ rest h.
    let few : decl_names (type_decl_tree c.in-Nested.decl) < 2 ^ 28 = omega (arith, h, nested_names _ _ c.in-Nested.is rest)
    in nested_names _ _ c.in-Nested.is rest ∙ ap (λ (n : ℕ). n + body_names rest) (sym (c.decl_names.ensures.high few))
