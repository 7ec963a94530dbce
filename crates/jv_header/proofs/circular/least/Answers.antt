use Rattle.std.proofs.Common.{◌<◌, ◌+◌, length, sym, ◌∙◌, ap, subst}
use Rattle.std.specs.List.{Contains}
use Rattle.std.specs.Ordering.{is_lt}
use Rattle.sg_base.specs.declared.scope.Scope.{Scope}
use Rattle.jv_header.proofs.Least.{NoneBefore, least_moves, least_stays}
use Rattle.jv_header.proofs.circular.least.Goals as goal
use Rattle.jv_header.proofs.circular.least.Goals.{then-is_lt, else-is_lt}

pub loop-i-preserved : goal.loop-i-preserved
loop-i-preserved c =
    let scopes = c.args.scopes.now in
    let i = c.loop-i.i in
    let h : i < length scopes = c.loop-i-test.true in
    let told = c.is_lt.ensures ∙ ap is_lt c.cmp.ensures in
    elim c.if-is_lt.branch [
      | then-is_lt w ↦ (
          let moved = least_moves scopes i c.loop-i.least h c.loop-i.invariant.least (record { unit = 0; serial = 0 }) c.if-is_lt.least w.least-is (sym told ∙ w.if-is_lt.true) in
          record { there = moved.0; least = moved.1 }
          )
      | else-is_lt w ↦ record {
        there = subst (λ (s : Scope). Contains scopes s) (sym w.least-is) c.loop-i.invariant.there;
        least = subst (λ (s : Scope). NoneBefore scopes (i + 1) s) (sym w.least-is) (least_stays scopes i c.loop-i.least h c.loop-i.invariant.least (record { unit = 0; serial = 0 }) (sym told ∙ w.if-is_lt.false));
      }
    ]
