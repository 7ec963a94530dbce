use Rattle.std.proofs.Common.{◌∙◌, ap, ◌++◌, ◌∷◌, []}
use Rattle.sg_board.proofs.Laid.{map_pushed, counting_next}
use Rattle.sg_board_tests.proofs.tests.links.Goals as goal

pub loop-number-preserved : goal.loop-number-preserved
loop-number-preserved c = map_pushed (λ k. k.number) c.loop-number.list.items c.push.new.self.items _ c.in_ok-push.ensures.items ∙ ap (λ l. l ++ c.loop-number.number ∷ []) c.loop-number.invariant ∙ counting_next c.loop-number.number
