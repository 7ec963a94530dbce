use Rattle.std.proofs.Common.{◌≡◌, ◌==◌, ◌++◌, ◌∷◌, [], false, ap, ◌∙◌}
use Rattle.sg_pool.specs.Example.{HasMade}
use Rattle.sg_pool.proofs.Examples.{all_four}
use Rattle.sg_pool_tests.proofs.tests.units.Goals as goal

pub returns-clause-seats : goal.returns-clause-seats
returns-clause-seats c =
    let one = c.in_ok-push.ensures.items ∙ ap (λ l. l ++ c.unit_of.result ∷ []) c.new-list.ensures.items in
    let two = c.in_ok-push-2.ensures.items ∙ ap (λ l. l ++ c.unit_of-2.result ∷ []) one in
    let three = c.in_ok-push-3.ensures.items ∙ ap (λ l. l ++ c.unit_of-3.result ∷ []) two in
    let all = c.in_ok-push-4.ensures.items ∙ ap (λ l. l ++ c.unit_of-4.result ∷ []) three in
    all_four (λ r. HasMade (λ p d. p == d) (λ a b. a == b) r.seat.number r.seat.made r.seat.log.items × (r.failed ≡ false)) c.unit_of.result c.unit_of-2.result c.unit_of-3.result c.unit_of-4.result c.push-4.new.self.items all
    (c.unit_of.ensures.own, c.unit_of.ensures.seat.1) (c.unit_of-2.ensures.own, c.unit_of-2.ensures.seat.1) (c.unit_of-3.ensures.own, c.unit_of-3.ensures.seat.1) (c.unit_of-4.ensures.own, c.unit_of-4.ensures.seat.1)
