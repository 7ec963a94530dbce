use Rattle.std.proofs.Common.{◌∷◌, sym, ◌∙◌, take}
use Rattle.std.specs.List.{prefix_len}
use Rattle.std.specs.Str.{chars}
use Rattle.jv_lex.specs.Character.{continues_word}
use Rattle.jv_lex.specs.Text.{HasNoToken}
use Rattle.jv_lex.proofs.FirstTokens.{word_cut, word_found, number_cut, number_found, no_number_found, character_found, no_character_found, string_found, no_string_found, mark_found, no_mark_found}
use Rattle.jv_lex.proofs.scanner.first_token.Goals as goal

pub front-requires : goal.front-requires
front-requires c = (
  c.in_ok-first.first ∷ take (prefix_len continues_word (chars c.in_ok-first.behind.now)) (chars c.in_ok-first.behind.now),
  word_cut (chars c.args.text.now) (chars c.in_ok-first.behind.now) c.in_ok-first.first c.in_ok-first.ensures.cases
      (sym c.begins_gap.ensures ∙ c.if-begins_gap.false) (sym c.begins_fraction.ensures ∙ c.if-begins_fraction.false) (chars c.behind_word-rest.result.now) c.behind_word-rest.ensures,
)

pub returns-then-begins_word : goal.returns-then-begins_word
returns-then-begins_word c = word_found (chars c.args.text.now) (chars c.in_ok-first.behind.now) c.in_ok-first.first c.in_ok-first.ensures.cases
    (sym c.begins_gap.ensures ∙ c.if-begins_gap.false) (sym c.begins_fraction.ensures ∙ c.if-begins_fraction.false) (chars c.behind_word-rest.result.now) (chars c.front.result.now) _
    (sym c.begins_word.ensures ∙ c.if-begins_word.true) c.behind_word-rest.ensures c.front.ensures c.word_kind.ensures

pub front-requires-then-is_digit : goal.front-requires-then-is_digit
front-requires-then-is_digit c =
    let n = number_cut (chars c.args.text.now) (chars c.in_ok-first.behind.now) c.in_ok-first.first c.in_ok-first.ensures.cases
    (sym c.begins_gap.ensures ∙ c.if-begins_gap.false) (sym c.begins_fraction.ensures ∙ c.if-begins_fraction.false) (chars c.behind_number-rest.result.now) c.behind_number-rest.ensures in
    (c.in_ok-first.first ∷ n.0, n.1)

pub returns-in_err-kind : goal.returns-in_err-kind
returns-in_err-kind c =
    let none : HasNoToken (chars c.args.text.now) = no_number_found (chars c.args.text.now) (chars c.in_ok-first.behind.now) c.in_ok-first.first c.in_ok-first.ensures.cases
    (sym c.begins_gap.ensures ∙ c.if-begins_gap.false) (sym c.begins_fraction.ensures ∙ c.if-begins_fraction.false) (chars c.behind_number-rest.result.now) (chars c.front-then-is_digit.result.now) _
    (sym c.begins_word.ensures ∙ c.if-begins_word.false) (sym c.is_digit.ensures.value ∙ c.if-is_digit.true) c.behind_number-rest.ensures c.front-then-is_digit.ensures c.number_kind.ensures c.in_err-kind.was in
    rw c.from_residual-in_err-kind.ensures none

pub returns-then-is_digit : goal.returns-then-is_digit
returns-then-is_digit c = number_found (chars c.args.text.now) (chars c.in_ok-first.behind.now) c.in_ok-first.first c.in_ok-first.ensures.cases
    (sym c.begins_gap.ensures ∙ c.if-begins_gap.false) (sym c.begins_fraction.ensures ∙ c.if-begins_fraction.false) (chars c.behind_number-rest.result.now) (chars c.front-then-is_digit.result.now) _
    (sym c.begins_word.ensures ∙ c.if-begins_word.false) (sym c.is_digit.ensures.value ∙ c.if-is_digit.true) c.behind_number-rest.ensures c.front-then-is_digit.ensures c.number_kind.ensures c.in_ok-kind.kind c.in_ok-kind.was

pub returns-in_err-rest : goal.returns-in_err-rest
returns-in_err-rest c =
    let none : HasNoToken (chars c.args.text.now) = no_character_found (chars c.args.text.now) (chars c.in_ok-first.behind.now) c.in_ok-first.first c.in_ok-first.ensures.cases
    (sym c.begins_gap.ensures ∙ c.if-begins_gap.false) (sym c.begins_fraction.ensures ∙ c.if-begins_fraction.false) (sym c.begins_word.ensures ∙ c.if-begins_word.false) (sym c.is_digit.ensures.value ∙ c.if-is_digit.false) c.if-first-eq39.true c.in_err-rest.ensures in
    rw c.from_residual-in_err-rest.ensures none

pub returns-then-first-eq39 : goal.returns-then-first-eq39
returns-then-first-eq39 c = character_found (chars c.args.text.now) (chars c.in_ok-first.behind.now) c.in_ok-first.first c.in_ok-first.ensures.cases
    (sym c.begins_gap.ensures ∙ c.if-begins_gap.false) (sym c.begins_fraction.ensures ∙ c.if-begins_fraction.false) (sym c.begins_word.ensures ∙ c.if-begins_word.false) (sym c.is_digit.ensures.value ∙ c.if-is_digit.false) (chars c.in_ok-rest.rest.now) c.if-first-eq39.true c.in_ok-rest.ensures

pub returns-in_err-rest-2 : goal.returns-in_err-rest-2
returns-in_err-rest-2 c =
    let none : HasNoToken (chars c.args.text.now) = no_string_found (chars c.args.text.now) (chars c.in_ok-first.behind.now) c.in_ok-first.first c.in_ok-first.ensures.cases
    (sym c.begins_gap.ensures ∙ c.if-begins_gap.false) (sym c.begins_fraction.ensures ∙ c.if-begins_fraction.false) (sym c.begins_word.ensures ∙ c.if-begins_word.false) (sym c.is_digit.ensures.value ∙ c.if-is_digit.false) c.if-first-eq39.false c.if-first-eq34.true c.in_err-rest-2.ensures in
    rw c.from_residual-in_err-rest-2.ensures none

pub returns-then-first-eq34 : goal.returns-then-first-eq34
returns-then-first-eq34 c = string_found (chars c.args.text.now) (chars c.in_ok-first.behind.now) c.in_ok-first.first c.in_ok-first.ensures.cases
    (sym c.begins_gap.ensures ∙ c.if-begins_gap.false) (sym c.begins_fraction.ensures ∙ c.if-begins_fraction.false) (sym c.begins_word.ensures ∙ c.if-begins_word.false) (sym c.is_digit.ensures.value ∙ c.if-is_digit.false) (chars c.in_ok-rest-2.rest.now) c.if-first-eq39.false c.if-first-eq34.true c.in_ok-rest-2.ensures

pub returns-in_err-number : goal.returns-in_err-number
returns-in_err-number c =
    let none : HasNoToken (chars c.args.text.now) = no_mark_found (chars c.args.text.now) (chars c.in_ok-first.behind.now) c.in_ok-first.first c.in_ok-first.ensures.cases
    (sym c.begins_gap.ensures ∙ c.if-begins_gap.false) (sym c.begins_fraction.ensures ∙ c.if-begins_fraction.false) (sym c.begins_word.ensures ∙ c.if-begins_word.false) (sym c.is_digit.ensures.value ∙ c.if-is_digit.false) c.if-first-eq39.false c.if-first-eq34.false c.in_err-number.ensures in
    rw c.from_residual-in_err-number.ensures none

pub returns : goal.returns
returns c = mark_found (chars c.args.text.now) (chars c.in_ok-first.behind.now) c.in_ok-first.first c.in_ok-first.ensures.cases
    (sym c.begins_gap.ensures ∙ c.if-begins_gap.false) (sym c.begins_fraction.ensures ∙ c.if-begins_fraction.false) (sym c.begins_word.ensures ∙ c.if-begins_word.false) (sym c.is_digit.ensures.value ∙ c.if-is_digit.false) c.in_ok-number.number (chars c.in_ok-number.rest.now) c.if-first-eq39.false c.if-first-eq34.false c.in_ok-number.ensures
