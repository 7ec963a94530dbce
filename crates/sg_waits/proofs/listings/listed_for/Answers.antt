use Rattle.std.proofs.Common.{ℕ, List, ◌↔◌, subst, arith}
use Rattle.std.proofs.lemmas.List.{take_all}
use Rattle.std.specs.List.{Contains}
use Rattle.std.specs.Ordering.{nat_cmp}
use Rattle.sg_base.proofs.Rising.{rising_from_sorted}
use Rattle.sg_state.specs.declared.need.Need.{Need}
use Rattle.sg_waits.proofs.Gathered.{one_need}
use Rattle.sg_waits.proofs.listings.listed_for.Goals as goal

pub loop-need-preserved : goal.loop-need-preserved
loop-need-preserved c = one_need c.args.listings.now.keys c.args.gone.now c.loop-need.need-index c.need-item.result c.loop-need.found.keys c.gather.new.found.keys c.loop-need-test.true c.need-item.is c.loop-need.invariant c.in-Ok.ensures.ok

pub returns-clause-ok : goal.returns-clause-ok
returns-clause-ok c =
    subst (λ (ns : List Need). (u : ℕ) → (Contains c.loop-need.found.keys u) ↔ ((n : Need) × Contains ns n × Contains c.args.listings.now.keys (record { need = n; unit = u }))) (take_all c.loop-need.need-index c.args.gone.now (omega arith)) c.loop-need.invariant

pub returns-clause-rising : goal.returns-clause-rising
returns-clause-rising c = rising_from_sorted nat_cmp c.loop-need.found.keys c.len-count.ensures.ordered
