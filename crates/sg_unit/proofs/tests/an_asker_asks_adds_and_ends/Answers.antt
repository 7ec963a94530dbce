use Rattle.std.proofs.Common.{◌==◌, ◌∙◌}
use Rattle.sg_unit.proofs.Examples.{handed_done}
use Rattle.sg_unit.proofs.tests.an_asker_asks_adds_and_ends.Goals as goal

pub next-requires-3 : goal.next-requires-3
next-requires-3 g c = handed_done (λ p d. p == d) (λ a b. a == b) 5 7 c.new-woken.result (c.new-woken.ensures ∙ c.new.ensures.items)
