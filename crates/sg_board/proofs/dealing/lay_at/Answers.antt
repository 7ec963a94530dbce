use Rattle.std.proofs.Common.{arith, refl}
use Rattle.sg_board.specs.Shares.{hand_given, hand_taken, hand_shape}
use Rattle.sg_board.proofs.Moves.{map_set}
use Rattle.sg_board.proofs.Sums.{one_moved}
use Rattle.sg_board.proofs.dealing.lay_at.Goals as goal

pub returns-clause-moves : goal.returns-clause-moves
returns-clause-moves g c = let e = c.lay.ensures in
    one_moved (hand_given g.T.Task.number) hand_taken hand_shape c.args.hands.now.items c.args.index c.index_mut.result.now _ (λ h. h (g.T.Task.number c.args.task)) (λ h. 0) (omega (arith, c.requires, c.args.hands.now.ok.0)) c.index_mut.ensures.value (record { same = e.same; flow = λ h. omega (arith, e.flow h) })

pub returns-clause-passes : goal.returns-clause-passes
returns-clause-passes g c = map_set (λ x. x.pass) c.args.hands.now.items c.args.index c.index_mut.result.now _ c.index_mut.ensures.value refl
