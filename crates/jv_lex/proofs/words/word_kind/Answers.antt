use Rattle.std.proofs.Common.{◌≡◌, ℕ, ◌+◌, ◌-◌, ◌<◌, Bool, List, [], get_or, below_more, sym, ap, ◌∙◌, refl, arith}
use Rattle.std.specs.Str.{chars, bytes_eq, IsUtf8}
use Rattle.jv_lex.specs.Word.{keywords}
use Rattle.jv_lex.specs.declared.words.TheConstants.{BY_LETTER}
use Rattle.jv_lex.proofs.Tables.{bytes_eq-chars, is_ascii, IsAscii-from_is_ascii, all_at}
use Rattle.jv_lex.proofs.Keywords.{keyword_found, other_word, tried_word, small, within}
use Rattle.jv_lex.proofs.words.word_kind.Goals as goal

tested : (t k : List ℕ) (n : ℕ) (b : Bool) → IsUtf8 t → n < 53 → k ≡ get_or keywords n [] → b ≡ bytes_eq t k → bytes_eq (chars t) (get_or keywords n []) ≡ b
tested t k n b u l at e =
    bytes_eq-chars t (get_or keywords n []) u (IsAscii-from_is_ascii _ (all_at is_ascii keywords n [] refl l)) ∙ ap (bytes_eq t) (sym at) ∙ sym e

pub returns-then-not-is_ascii_lowercase : goal.returns-then-not-is_ascii_lowercase
returns-then-not-is_ascii_lowercase c =
    sym (other_word (chars c.args.word.now) c.in-Some.first (chars c.in-Some.field-0-1.now) c.in-Some.ensures.cases (λ low high. let h = c.if-not-is_ascii_lowercase.ensures.cases in grind (arith, h, low, high)))

pub bounds-i : goal.bounds-i
bounds-i c = within c.loop-i.i (c.in-Some.first - 97 + 1) c.loop-i-test.true

pub keyword-requires : goal.keyword-requires
keyword-requires c = small c.loop-i.i (within c.loop-i.i (c.in-Some.first - 97 + 1) c.loop-i-test.true)

pub returns-then-eq : goal.returns-then-eq
returns-then-eq c =
    let number = small c.loop-i.i (within c.loop-i.i (c.in-Some.first - 97 + 1) c.loop-i-test.true) in
    sym (keyword_found (chars c.args.word.now) (get_or BY_LETTER c.loop-i.i 0) number
    (tested c.args.word.now c.keyword.result.now _ _ c.utf8.word number c.keyword.ensures c.eq.ensures ∙ c.if-eq.true))

pub loop-i-preserved : goal.loop-i-preserved
loop-i-preserved c = below_more _ _ c.loop-i.invariant (λ _.
    tested c.args.word.now c.keyword.result.now _ _ c.utf8.word (small c.loop-i.i (within c.loop-i.i (c.in-Some.first - 97 + 1) c.loop-i-test.true)) c.keyword.ensures c.eq.ensures ∙ c.if-eq.false)

pub returns : goal.returns
returns c = sym (tried_word (chars c.args.word.now) c.in-Some.first (chars c.in-Some.field-0-1.now) c.in-Some.ensures.cases
    (λ k l m. c.loop-i.invariant k (omega (arith, l, c.loop-i-test.false)) m))
