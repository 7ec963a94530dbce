use Rattle.std.proofs.Common.{ℕ, ◌+◌, ◌*◌, ◌<◌, ◌^◌, sym, ap, ◌∙◌, subst, rules}
use Rattle.std.specs.Option.{SomeIff}
use Rattle.std.specs.Str.{chars}
use Rattle.jv_lex.specs.Number.{behind_digits}
use Rattle.jv_lex.proofs.Digits.{ReadSoFar, read_more, behind_digits-cons}
use Rattle.jv_lex.proofs.numbers.read_digits.Goals as goal

pub loop-ch-preserved : goal.loop-ch-preserved
loop-ch-preserved c =
    let value = c.in-Some-to_digit.ensures.value in
    let cs = c.in-Some.ensures.cases in
    record {
      utf8 = search rules;
      read = read_more c.args.radix c.in-Some.ch c.loop-ch.value _ (chars c.in-Some.behind.now) _ value.0
          (subst (λ d. (n : ℕ) → SomeIff c.loop-ch.value (n < 2 ^ 64) n → SomeIff c.with_digit-value.result (n * c.args.radix + d < 2 ^ 64) (n * c.args.radix + d)) value.1 c.with_digit-value.ensures)
          (subst (λ t. ReadSoFar c.args.radix c.loop-ch.value t (chars c.args.text.now)) cs c.loop-ch.invariant.read);
      behind = sym (behind_digits-cons c.args.radix c.in-Some.ch (chars c.in-Some.behind.now) value.0) ∙ sym (ap (behind_digits c.args.radix) cs) ∙ c.loop-ch.invariant.behind;
    }
