use Rattle.std.proofs.Common.{[], map, arith}
use Rattle.sc_app.proofs.CommandLemmas.{asked_plain, asked_with, three_words, two_words}
use Rattle.sc_app.proofs.asked.asked_of.Goals as goal

pub returns-in-len2 : goal.returns-in-len2
returns-in-len2 c =
    asked_plain (map (λ w. w.now) c.args.words.now) c.as_bytes.result.now c.as_bytes-in-len2.result.now
    (two_words c.args.words.now (record { ref_ptr = (0, 0); now = [] }) c.as_bytes.result.now c.as_bytes-in-len2.result.now (omega arith) (omega arith) c.as_bytes.ensures.value c.as_bytes-in-len2.ensures.value)
    c.plain.result c.plain.ensures

pub returns-in-len3 : goal.returns-in-len3
returns-in-len3 c =
    asked_with (map (λ w. w.now) c.args.words.now) c.as_bytes-in-len3.result.now c.as_bytes-in-len3-2.result.now c.as_bytes-in-len3-3.result.now
    (three_words c.args.words.now (record { ref_ptr = (0, 0); now = [] }) c.as_bytes-in-len3.result.now c.as_bytes-in-len3-2.result.now c.as_bytes-in-len3-3.result.now (omega arith) (omega arith) c.as_bytes-in-len3.ensures.value c.as_bytes-in-len3-2.ensures.value c.as_bytes-in-len3-3.ensures.value)
    c.with_option.result c.with_option.ensures
