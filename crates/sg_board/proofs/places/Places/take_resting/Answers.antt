use Rattle.std.proofs.Common.{◌∙◌, arith}
use Rattle.sg_board.proofs.Laid.{set_taken, set_length, taken_placed}
use Rattle.sg_board.proofs.places.Places.take_resting.Goals as goal

pub invariant_of-self : goal.invariant_of-self
invariant_of-self g c = record {
  sized = set_length c.args.self.now.places.items c.args.number c.take_resting.new.self ∙ c.args.self.now.sized;
  placed = taken_placed g.T.Task.number c.take_resting.result c.args.self.now.places.items c.args.number c.index_mut.result.now c.take_resting.new.self c.args.self.now.placed (omega (arith, c.if-number-len.false, c.args.self.now.places.ok.0)) c.index_mut.ensures.value c.take_resting.ensures;
}

pub returns : goal.returns
returns g c = set_taken g.T.Task.number c.take_resting.result c.args.self.now.places.items c.args.number c.index_mut.result.now c.take_resting.new.self (omega (arith, c.if-number-len.false, c.args.self.now.places.ok.0)) c.index_mut.ensures.value c.take_resting.ensures
