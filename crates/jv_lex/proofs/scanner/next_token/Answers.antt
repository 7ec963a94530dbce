use Rattle.std.proofs.Common.{sym, ◌∙◌, subst, true≢false}
use Rattle.std.specs.Str.{chars}
use Rattle.jv_lex.specs.Text.{MayFollow}
use Rattle.jv_lex.specs.Source.{HasNoNext}
use Rattle.jv_lex.proofs.Sources.{first_is_one}
use Rattle.jv_lex.proofs.scanner.next_token.Goals as goal

pub returns-in_err-kind : goal.returns-in_err-kind
returns-in_err-kind c =
    let none : HasNoNext c.args.before (chars c.args.text.now) = λ w rest k t m. c.in_err-kind.ensures w rest k t in
    rw c.from_residual.ensures none

pub returns : goal.returns
returns c = λ w rest k t m.
    let found = c.in_ok-kind.ensures in
    let s = first_is_one (chars c.args.text.now) w found.0 rest (chars c.in_ok-kind.rest.now) k c.in_ok-kind.kind t found.1 in
    true≢false (sym (c.may_follow.ensures.1 (subst (MayFollow c.args.before) s.kinds m)) ∙ c.if-may_follow.false)
