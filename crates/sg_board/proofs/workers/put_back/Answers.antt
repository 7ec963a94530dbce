use Rattle.std.proofs.Common.{◌∙◌, arith}
use Rattle.crossbeam_queue.specs.Passes.{view}
use Rattle.sg_board.proofs.Moves.{took_weight, gave_weight}
use Rattle.sg_board.proofs.workers.put_back.Goals as goal

pub returns-clause-moves : goal.returns-clause-moves
returns-clause-moves g c = let w = c.lay_woken-woken.ensures in let r = c.lay_ready-laid.ensures in record {
  same = r.same ∙ w.same;
  flow = λ h. let t = took_weight (view c.args.hand.now.pass) (view c.take-board.new.pass) _ 1 c.take-board.ensures.took h in let b = gave_weight (view c.take-board.new.pass) (view c.give.new.pass) _ 0 c.give.ensures.gave h in
      let x = w.flow h in let y = c.put-back.ensures h in let z = r.flow h in omega (arith, t.0, t.1, b.0, b.1, x, y, z);
}
