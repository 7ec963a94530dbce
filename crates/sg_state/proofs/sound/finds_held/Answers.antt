use Rattle.std.proofs.Common.{rules}
use Rattle.std.proofs.lemmas.List.Sorted.{answers_always}
use Rattle.sg_state.proofs.Soundness.{found_held}
use Rattle.sg_state.proofs.sound.finds_held.Goals as goal

pub returns-then-rising : goal.returns-then-rising
returns-then-rising c =
    let facts = c.binary_search_by_key.ensures in
    rw c.is_ok.ensures.value (found_held c.args.holds.now (c.requires.rising c.if-rising.true) c.args.s c.binary_search_by_key.result facts.bound (facts.position (λ k. k.1) (answers_always _ _ _ (λ f a r g called. search rules))))
