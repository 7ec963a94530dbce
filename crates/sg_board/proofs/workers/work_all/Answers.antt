use Rattle.std.proofs.Common.{◌≡◌, slice_index_or, subst, sym, ◌∙◌, rules, arith}
use Rattle.sg_board.specs.Shares.{hand_given, hand_taken, hand_shape, HandMoves}
use Rattle.sg_board.proofs.Sums.{each_moved}
use Rattle.sg_board.proofs.workers.work_all.Goals as goal

pub returns-clause-passes : goal.returns-clause-passes
returns-clause-passes g c = let w = c.in_ok-worked.ensures in
    (w.len, λ k d l. let j = w.each k d (omega (arith, l, w.len, c.in_ok-worked.worked.ok.0, c.args.hands.ok.0)) in search (rules, j.1.call))

pub returns-clause-moves : goal.returns-clause-moves
returns-clause-moves g c = let w = c.in_ok-worked.ensures in
    each_moved (hand_given g.T.Task.number) hand_taken hand_shape c.args.hands.items c.in_ok-worked.worked.items (omega (arith, w.len, c.in_ok-worked.worked.ok.0, c.args.hands.ok.0)) (λ k d l.
    let j = w.each k d l in
    let m : HandMoves g.T.Task.number j.1.job (slice_index_or c.in_ok-worked.worked.items k d) (λ h. 0) (λ h. 0) = search (rules, j.1.call) in
    subst (λ s. HandMoves g.T.Task.number s (slice_index_or c.in_ok-worked.worked.items k d) (λ h. 0) (λ h. 0)) (sym (j.1.job_is d)) m)
