use Rattle.std.proofs.Common.{[], ◌∷◌}
use Rattle.sg_state.specs.Held.{state_of}
use Rattle.sg_state.specs.Write.{end_unit}
use Rattle.sg_engine_tests.proofs.tests.make.Goals as goal

pub returns-in_ok-link-in-Linked : goal.returns-in_ok-link-in-Linked
returns-in_ok-link-in-Linked g c =
    c.extensions_chain.ensures.state (state_of c.args.held.now) (state_of c.link.new.held) (state_of c.close-in-Linked.new.held) c.in_ok-link-in-Linked.ensures.follows c.close-in-Linked.ensures

pub returns-in-Ended : goal.returns-in-Ended
returns-in-Ended g c = rw c.end_unit.ensures.ended (c.writes_extend.ensures c.args.held.now (end_unit c.in-Ended.unit ∷ []) c.requires.held (tt, tt))
