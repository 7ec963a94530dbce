use Rattle.std.proofs.Common.{◌≡◌, ℕ, List, Some, sym, ap, ◌∙◌}
use Rattle.std.specs.Prelude.{slice_get}
use Rattle.jv_parse.specs.Naming.{text_of, number_of}
use Rattle.jv_parse.proofs.Numbers.{terminal_is, number_is, identifier_kind}
use Rattle.jv_parse.proofs.naming.name_token.Goals as goal
use Rattle.jv_parse.proofs.naming.name_token.Goals.{in-Ident+in_ok-id-in-Ident, in_default}

pub returns-clause-terminal : goal.returns-clause-terminal
returns-clause-terminal c = elim c.match-token.branch [
  | in-Ident+in_ok-id-in-Ident w ↦
      let text : List ℕ = text_of c.args.source.now c.args.token.now in
      let at : slice_get w.intern.new.self w.in_ok-id-in-Ident.id.0 ≡ Some text = w.in_ok-id-in-Ident.ensures.number ∙ ap Some w.range.ensures.value in
      let n : number_of w.intern.new.self text ≡ w.in_ok-id-in-Ident.id.0 = number_is w.intern.new.self w.in_ok-id-in-Ident.ensures.distinct w.in_ok-id-in-Ident.id.0 text at in
      c.terminal_at.ensures
      ∙ terminal_is c.args.source.now c.match-token.names c.args.token.now c.match-token.id.0 (λ e. ap (λ ns. number_of ns text) w.names-is ∙ n ∙ sym (ap (λ i. i.0) w.id-is))
  | in_default w ↦
      c.terminal_at.ensures
      ∙ terminal_is c.args.source.now c.match-token.names c.args.token.now c.match-token.id.0 (λ e. absurd (w.in_default.not-Ident (identifier_kind c.args.token.now.kind e)))
]
