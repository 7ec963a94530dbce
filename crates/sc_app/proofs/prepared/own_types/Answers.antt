use Rattle.std.proofs.Common.{◌≡◌, ℕ, List, nat_le, count_by, ap, ◌∙◌, arith}
use Rattle.std.proofs.lemmas.List.{take_all}
use Rattle.sg_base.specs.declared.scope.Scope.{Scope}
use Rattle.jv_layout.specs.Readers.{file_of}
use Rattle.jv_layout.specs.Sizes.{own_types}
use Rattle.sc_app.proofs.OwnTypes.{own_types_counted}
use Rattle.sc_app.proofs.prepared.own_types.Goals as goal

pub overflow_cast-result : goal.overflow_cast-result
overflow_cast-result c =
    let counted : c.loop-ty.count ≡ own_types c.args.layout.now.types = c.loop-ty.invariant.0 ∙ (ap (count_by (λ s. nat_le 2 (file_of c.args.layout.now s))) (take_all _ _ c.loop-ty-test.false ∙ c.types-types.ensures) ∙ own_types_counted c.args.layout.now) in
    omega (arith, counted, c.requires)

pub returns : goal.returns
returns c = c.loop-ty.invariant.0 ∙ (ap (count_by (λ s. nat_le 2 (file_of c.args.layout.now s))) (take_all _ _ c.loop-ty-test.false ∙ c.types-types.ensures) ∙ own_types_counted c.args.layout.now)
