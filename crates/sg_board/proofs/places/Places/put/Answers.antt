use Rattle.std.proofs.Common.{◌∙◌, sym, arith}
use Rattle.sg_board.proofs.Laid.{set_put, set_length, put_placed}
use Rattle.sg_board.proofs.places.Places.put.Goals as goal

pub invariant_of-self : goal.invariant_of-self
invariant_of-self g c =
    let n = c.number-number.ensures in
    record {
      sized = set_length c.args.self.now.places.items c.number-number.result c.put.new.self ∙ c.args.self.now.sized;
      placed = put_placed g.T.Task.number c.put.result c.args.task c.args.self.now.places.items c.number-number.result c.index_mut.result.now c.put.new.self c.args.self.now.placed (omega (arith, n.0, n.1, c.args.self.now.sized)) c.index_mut.ensures.value (sym n.0) c.put.ensures;
    }

pub returns : goal.returns
returns g c =
    let n = c.number-number.ensures in
    set_put g.T.Task.number c.put.result c.args.task c.args.self.now.places.items c.number-number.result c.index_mut.result.now c.put.new.self (omega (arith, n.0, n.1, c.args.self.now.sized)) c.index_mut.ensures.value c.put.ensures
