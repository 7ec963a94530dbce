use Rattle.std.proofs.Common.{ℕ, arith}
use Rattle.std.specs.Cmp.{on_total}
use Rattle.std.specs.Ordering.{on}
use Rattle.sg_base.specs.declared.scope.Scope.{Scope}
use Rattle.sg_base.specs.Scope.{scope_cmp, scope_total}
use Rattle.sg_state.proofs.RisingLists.{rises_map}
use Rattle.sg_state.proofs.Soundness.{rises_by}
use Rattle.sg_state.proofs.sound.holds_rise.Goals as goal

pub returns : goal.returns
returns c = λ _.
    let key : ℕ × Scope → Scope = λ k. k.1 in
    rises_map (on key scope_cmp) scope_cmp key (λ a b e. e) c.args.holds.now
    (rises_by (on key scope_cmp) (on_total key scope_total) c.args.holds.now (λ k d lt. c.loop-i.invariant k d (omega (arith, lt, c.loop-i-test.false))))
