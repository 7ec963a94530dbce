use Rattle.std.proofs.Common.{◌≡◌, ◌↔◌, ℕ, List, [], length, Err, sym, ap, ◌∙◌, subst}
use Rattle.std.proofs.lemmas.List.{append-nil, length-map}
use Rattle.jv_lex.specs.declared.token.Token.{Token}
use Rattle.jv_grammar.specs.RefusedAt.{IsRefusedAt}
use Rattle.jv_parse.specs.Naming.{terminal_of}
use Rattle.jv_parse.specs.Identifiers.{AreNumberedTerminals}
use Rattle.jv_parse.specs.declared.parse_fault.ParseFault.TheVariants.{NotInGrammar}
use Rattle.jv_parse.specs.Parse.{terminals_of, HasNoTree, IsAnswered}
use Rattle.jv_parse.proofs.Numbers.{numbered_terminals}
use Rattle.jv_parse.proofs.Answered.{few_identifiers, numbered_tree, says_none}
use Rattle.jv_parse.proofs.AddedNames.{adds_front}
use Rattle.jv_parse.proofs.parser.parse.Goals as goal

pub returns-in_err-terminals-clause-names : goal.returns-in_err-terminals-clause-names
returns-in_err-terminals-clause-names c =
    let e : _ = c.in_err-terminals.ensures.err in
    adds_front c.args.source.now c.args.tokens.now e.0 e.1 c.args.names.now c.name_tokens.new.names e.2 e.3

pub returns-clause-names : goal.returns-clause-names
returns-clause-names c =
    adds_front c.args.source.now c.args.tokens.now c.args.tokens.now [] c.args.names.now c.name_tokens.new.names (sym (append-nil c.args.tokens.now)) c.in_ok-terminals.ensures.named

pub returns-clause-not_in_grammar : goal.returns-clause-not_in_grammar
returns-clause-not_in_grammar c =
    let terminals : c.deref.result.now ≡ terminals_of c.args.source.now c.name_tokens.new.names c.args.tokens.now = c.deref.ensures.value ∙ c.in_ok-terminals.ensures.terminals in
    subst (λ ts. IsAnswered c.parse_terminals.result → (i : ℕ) → (c.parse_terminals.result ≡ Err (NotInGrammar i)) ↔ (HasNoTree ts × IsRefusedAt ts i)) terminals
    (λ a i. says_none c.deref.result.now c.parse_terminals.result i c.parse_terminals.ensures a)

pub returns-clause-count : goal.returns-clause-count
returns-clause-count c =
    let source : List ℕ = c.args.source.now in
    let tokens : List Token = c.args.tokens.now in
    let terminals : c.deref.result.now ≡ terminals_of source c.name_tokens.new.names tokens = c.deref.ensures.value ∙ c.in_ok-terminals.ensures.terminals in
    few_identifiers c.deref.result.now (length tokens) c.parse_terminals.result (ap length terminals ∙ length-map tokens (terminal_of source c.name_tokens.new.names)) c.parse_terminals.ensures

pub returns-clause-numbered : goal.returns-clause-numbered
returns-clause-numbered c =
    let source : List ℕ = c.args.source.now in
    let names : List (List ℕ) = c.name_tokens.new.names in
    let terminals : c.deref.result.now ≡ terminals_of source names c.args.tokens.now = c.deref.ensures.value ∙ c.in_ok-terminals.ensures.terminals in
    numbered_tree c.deref.result.now (length names) c.parse_terminals.result
    (subst (AreNumberedTerminals (length names)) (sym terminals) (numbered_terminals source names c.args.tokens.now c.in_ok-terminals.ensures.known)) c.parse_terminals.ensures
