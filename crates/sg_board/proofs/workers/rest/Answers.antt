use Rattle.std.proofs.Common.{refl, arith}
use Rattle.crossbeam_queue.specs.Passes.{view}
use Rattle.sg_board.proofs.Moves.{took_weight, gave_weight}
use Rattle.sg_board.proofs.workers.rest.Goals as goal

pub returns-then-has_resting-clause-moves : goal.returns-then-has_resting-clause-moves
returns-then-has_resting-clause-moves g c = let w = c.lay_ready-laid.ensures in record {
  same = w.same;
  flow = λ h. let t = took_weight (view c.args.hand.now.pass) (view c.take-board.new.pass) _ 1 c.take-board.ensures.took h in let b = gave_weight (view c.take-board.new.pass) (view c.give.new.pass) _ 0 c.give.ensures.gave h in
      let x = w.flow h in let y = c.take_resting-resting.ensures h in omega (arith, t.0, t.1, b.0, b.1, x, y);
}

pub returns-then-has_away-clause-moves : goal.returns-then-has_away-clause-moves
returns-then-has_away-clause-moves g c = record {
  same = refl;
  flow = λ h. let t = took_weight (view c.args.hand.now.pass) (view c.take-board.new.pass) _ 1 c.take-board.ensures.took h in let b = gave_weight (view c.take-board.new.pass) (view c.give-then-has_away.new.pass) _ 0 c.give-then-has_away.ensures.gave h in omega (arith, t.0, t.1, b.0, b.1);
}

pub returns-then-renewed-eq0-clause-moves : goal.returns-then-renewed-eq0-clause-moves
returns-then-renewed-eq0-clause-moves g c = let w = c.lay_waiting-renewed.ensures in record {
  same = w.same;
  flow = λ h. let t = took_weight (view c.args.hand.now.pass) (view c.take-board.new.pass) _ 1 c.take-board.ensures.took h in let b = gave_weight (view c.take-board.new.pass) (view c.give-2.new.pass) _ 0 c.give-2.ensures.gave h in
      let x = w.flow h in omega (arith, t.0, t.1, b.0, b.1, x);
}

pub returns-clause-moves : goal.returns-clause-moves
returns-clause-moves g c = let w = c.lay_waiting-renewed.ensures in record {
  same = w.same;
  flow = λ h. let t = took_weight (view c.args.hand.now.pass) (view c.take-board.new.pass) _ 1 c.take-board.ensures.took h in let b = gave_weight (view c.take-board.new.pass) (view c.give-2.new.pass) _ 0 c.give-2.ensures.gave h in
      let x = w.flow h in omega (arith, t.0, t.1, b.0, b.1, x);
}
