use Rattle.std.proofs.Common.{sym, ◌∙◌, refl}
use Rattle.std.specs.Str.{chars}
use Rattle.jv_lex.proofs.Marks.{none_before, none_other, none_empty}
use Rattle.jv_lex.proofs.punctuation.first_place.Goals as goal

pub returns-then-code-lt128 : goal.returns-then-code-lt128
returns-then-code-lt128 c = λ k l rest e. none_before (chars c.args.text.now) (chars c.in-Some.field-0-1.now) c.in-Some.first _ k rest c.in-Some.ensures.cases c.if-code-lt128.true refl l e

pub returns-else-code-lt128 : goal.returns-else-code-lt128
returns-else-code-lt128 c = λ k l rest e. none_other (chars c.args.text.now) (chars c.in-Some.field-0-1.now) c.in-Some.first k rest c.in-Some.ensures.cases c.if-code-lt128.false l e

pub returns-in_default : goal.returns-in_default
returns-in_default c = λ k l rest e. none_empty k rest l (sym c.in_default.ensures.cases ∙ e)
