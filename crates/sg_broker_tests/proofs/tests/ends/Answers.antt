use Rattle.std.proofs.Common.{◌∷◌, ◌++◌, []}
use Rattle.std.proofs.lemmas.List.Elements.{All-nil, All-cons, All-append, All-same}
use Rattle.sg_broker.specs.Broker.{IsAt}
use Rattle.sg_broker_tests.proofs.tests.ends.Goals as goal

pub close-requires-clause-own : goal.close-requires-clause-own
close-requires-clause-own g c =
    All-same (λ s. IsAt c.in_ok-broker.broker s) c.push-2.new.self.items (c.push.new.self.items ++ c.in_ok-one.one ∷ []) c.in_ok-push-2.ensures.items
    (All-append (λ s. IsAt c.in_ok-broker.broker s) c.push.new.self.items (c.in_ok-one.one ∷ [])
    (All-same (λ s. IsAt c.in_ok-broker.broker s) c.push.new.self.items (c.new-back.result.items ++ c.in_ok-zero.zero ∷ []) c.in_ok-push.ensures.items
    (All-same (λ s. IsAt c.in_ok-broker.broker s) (c.new-back.result.items ++ c.in_ok-zero.zero ∷ []) (c.in_ok-zero.zero ∷ []) (λ i. c.new-back.ensures.items i ++ c.in_ok-zero.zero ∷ [])
    (All-cons (λ s. IsAt c.in_ok-broker.broker s) c.in_ok-zero.zero [] c.in_ok-zero.ensures (All-nil (λ s. IsAt c.in_ok-broker.broker s)))))
    (All-cons (λ s. IsAt c.in_ok-broker.broker s) c.in_ok-one.one [] c.in_ok-one.ensures (All-nil (λ s. IsAt c.in_ok-broker.broker s))))
