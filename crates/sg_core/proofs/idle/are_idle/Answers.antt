use Rattle.std.proofs.Common.{List, inl, inr, sym, subst, arith}
use Rattle.std.proofs.lemmas.List.{take_all}
use Rattle.std.specs.List.{Contains}
use Rattle.sg_base.specs.declared.scope.Scope.{Scope}
use Rattle.sg_state.proofs.Ending.{taken_more}
use Rattle.sg_core.specs.Keep.{IsIdleAt}
use Rattle.sg_core.proofs.idle.are_idle.Goals as goal

pub loop-s-preserved : goal.loop-s-preserved
loop-s-preserved g c = λ x m.
    let d : Scope = record { unit = 0; serial = 0 } in
    elim ((taken_more c.args.scopes.now c.loop-s.s-index d c.loop-s-test.true x).0 m) [
      | inl k ↦ c.loop-s.invariant x k
      | inr e ↦ subst (λ (s : Scope). IsIdleAt c.args.held.now s) (sym e) (c.is_idle_at.ensures c.if-not-is_idle_at.false)
    ]

pub returns : goal.returns
returns g c = λ t x m.
    let all = take_all c.loop-s.s-index c.args.scopes.now (omega (arith, c.loop-s-test.false)) in
    c.loop-s.invariant x (subst (λ (l : List Scope). Contains l x) (sym all) m)
