use Rattle.std.proofs.Common.{sym, subst, take, get_or}
use Rattle.std.proofs.lemmas.List.Elements.{Contains-get_or}
use Rattle.sg_waits.specs.Waits.{WaitsOf, IsLive}
use Rattle.sg_waits.proofs.Tables.{live_stays}
use Rattle.sg_waits.proofs.waits.Waits.wake.Goals as goal

pub forget-requires : goal.forget-requires
forget-requires c =
    let unit = get_or c.args.list.now c.loop-unit.unit-index 0 in
    record {
      live = subst (λ (ws : WaitsOf). IsLive ws unit) (sym c.loop-unit.invariant) (live_stays c.args.self.now (take c.loop-unit.unit-index c.args.list.now) unit (c.requires.live unit (Contains-get_or c.args.list.now c.loop-unit.unit-index 0 c.loop-unit-test.true)));
    }
