use Rattle.std.proofs.Common.{◌≡◌, ◌+◌, List, [], ◌∷◌, ◌++◌, take, sym, ◌∙◌, ap, refl}
use Rattle.std.proofs.lemmas.List.{take_more, take_all}
use Rattle.sg_base.specs.declared.mark.Mark.{Mark}
use Rattle.sg_order.specs.Mark.{mark_number}
use Rattle.sg_order.proofs.ChainLemmas.{Precedes-nil, no_bit, exact_push}
use Rattle.sg_order.proofs.relation.closure.Goals as goal

pub loop-pair-init : goal.loop-pair-init
loop-pair-init c =
    record {
      size = refl;
      exact = λ a b. ((λ h. absurd (no_bit (mark_number a) (mark_number b) h)), (λ p. absurd (Precedes-nil a b p)));
    }

pub loop-pair-preserved : goal.loop-pair-preserved
loop-pair-preserved c =
    let front : List (Mark × Mark) = take c.loop-pair.pair-index c.args.pairs.now in
    let longer : take (c.loop-pair.pair-index + 1) c.args.pairs.now ≡ front ++ c.pair-item.result ∷ [] =
    take_more c.args.pairs.now c.loop-pair.pair-index c.pair-item.result c.loop-pair-test.true ∙ ap (λ (p : Mark × Mark). front ++ p ∷ []) (sym c.pair-item.is) in
    let grow = rw (c.number_of.ensures.value, c.number_of-in-loop-pair.ensures.value) at c.add.ensures in
    record {
      size = c.add.array_long;
      exact = λ a b. rw longer (exact_push c.loop-pair.rows c.add.new.rows front c.pair-item.result.0 c.pair-item.result.1 c.loop-pair.invariant.exact grow a b);
    }

pub returns-clause-exact : goal.returns-clause-exact
returns-clause-exact c =
    let whole : take c.loop-pair.pair-index c.args.pairs.now ≡ c.args.pairs.now = take_all c.loop-pair.pair-index c.args.pairs.now c.loop-pair-test.false in
    rw whole at c.loop-pair.invariant.exact
