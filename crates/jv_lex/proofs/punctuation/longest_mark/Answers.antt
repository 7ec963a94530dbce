use Rattle.std.proofs.Common.{◌≡◌, ◌++◌, below_more, sym, ap, ◌∙◌, arith, drop}
use Rattle.std.specs.Str.{chars, encode_utf8_all}
use Rattle.jv_lex.proofs.Marks.{small, tried, tried_ascii, longest_tried, none_tried, chars-begins, begins-chars}
use Rattle.jv_lex.proofs.punctuation.longest_mark.Goals as goal

pub mark-requires : goal.mark-requires
mark-requires c = small c.loop-i.i c.loop-i-test.true

pub returns-in-Some : goal.returns-in-Some
returns-in-Some c =
    let s = c.in-Some.ensures.cases in
    let i = c.loop-i.i in
    let e : c.args.text.now ≡ tried i ++ c.in-Some.rest.now = s.1.1 ∙ ap (λ w. w ++ drop s.0 c.args.text.now) c.mark.ensures ∙ ap (λ w. tried i ++ w) (sym s.2) in
    longest_tried (chars c.args.text.now) i (chars c.in-Some.rest.now) c.loop-i-test.true c.loop-i.invariant (chars-begins c.args.text.now (tried i) (tried_ascii i c.loop-i-test.true) c.in-Some.rest.now e)

pub loop-i-preserved : goal.loop-i-preserved
loop-i-preserved c = below_more _ _ c.loop-i.invariant (λ rest e.
    c.in_default.ensures.cases (encode_utf8_all rest)
    (begins-chars c.args.text.now (tried c.loop-i.i) (tried_ascii c.loop-i.i c.loop-i-test.true) rest c.utf8.text e
    ∙ ap (λ w. w ++ encode_utf8_all rest) (sym c.mark.ensures)))

pub returns : goal.returns
returns c = none_tried (chars c.args.text.now) (λ k l. c.loop-i.invariant k (omega arith))
