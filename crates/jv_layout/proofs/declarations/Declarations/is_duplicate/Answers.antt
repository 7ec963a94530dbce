use Rattle.std.proofs.Common.{length, ap, ◌∙◌, arith}
use Rattle.std.specs.Prelude.{not}
use Rattle.jv_layout.specs.Duplicates.{is_duplicate_at, repeated_types, repeated_members}
use Rattle.jv_layout.specs.Skeleton.{is_first_type, is_first_member}
use Rattle.jv_layout.proofs.Declaring.{length-told, told}
use Rattle.jv_layout.proofs.declarations.Declarations.is_duplicate.Goals as goal

pub index-requires : goal.index-requires
index-requires c =
    let l = c.args.l.now in
    let kept = c.self.invariant.types ∙ ap repeated_types (c.self.view_is ∙ c.requires) in
    omega (arith, length-told (λ t. not (is_first_type l t)) (length l.types) c.self.inside.repeated_types.items kept, c.in-Ty.ensures.row)

pub index-requires-in-Member : goal.index-requires-in-Member
index-requires-in-Member c =
    let l = c.args.l.now in
    let kept = c.self.invariant.members ∙ ap repeated_members (c.self.view_is ∙ c.requires) in
    omega (arith, length-told (λ m. not (is_first_member l m)) (length l.members) c.self.inside.repeated_members.items kept, c.in-Member.ensures.row)

pub returns-in-Ty : goal.returns-in-Ty
returns-in-Ty c =
    let l = c.args.l.now in
    let kept = c.self.invariant.types ∙ ap repeated_types (c.self.view_is ∙ c.requires) in
    c.index.ensures ∙ (told (λ t. not (is_first_type l t)) (length l.types) c.self.inside.repeated_types.items kept c.in-Ty.t c.index.result.now c.in-Ty.ensures.row ∙ ap (is_duplicate_at l) c.in-Ty.ensures.value)

pub returns-in-Member : goal.returns-in-Member
returns-in-Member c =
    let l = c.args.l.now in
    let kept = c.self.invariant.members ∙ ap repeated_members (c.self.view_is ∙ c.requires) in
    c.index-in-Member.ensures ∙ (told (λ m. not (is_first_member l m)) (length l.members) c.self.inside.repeated_members.items kept c.in-Member.m c.index-in-Member.result.now c.in-Member.ensures.row ∙ ap (is_duplicate_at l) c.in-Member.ensures.value)
