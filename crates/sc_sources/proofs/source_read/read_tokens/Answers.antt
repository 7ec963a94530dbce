use Rattle.std.proofs.Common.{ℕ, ◌<◌, List, length, get_or, sym, subst}
use Rattle.std.proofs.lemmas.Option.{slice_get-get_or}
use Rattle.jv_lex.specs.declared.token.Token.{Token}
use Rattle.jv_lex.specs.declared.token.TokenKind.TheVariants as k
use Rattle.jv_tree.specs.DeclTree.{tree_of}
use Rattle.jv_grammar.specs.Load.{IsFirstDeep}
use Rattle.jv_parse.specs.Parse.{terminals_of}
use Rattle.sc_sources.specs.Sources.{fault, Reads}
use Rattle.sc_sources.proofs.OneSource.{ok_answered, answered_deep, answered_none, deep_of, none_of, deep_below, tree_comes, deep_comes, none_comes}
use Rattle.sc_sources.proofs.source_read.read_tokens.Goals as goal

pub bounds-tokens-token : goal.bounds-tokens-token
bounds-tokens-token c =
    deep_below c.args.source.now c.parse.new.names c.args.tokens.now c.in-Err-TooDeep.token
    (deep_of c.in-Err-TooDeep.field-0 c.in-Err-TooDeep.token (terminals_of c.args.source.now c.parse.new.names c.args.tokens.now) c.in-Err-TooDeep.field-0-is c.in-Err-TooDeep.ensures.too_deep)

pub returns-in-Ok-clause-reads : goal.returns-in-Ok-clause-reads
returns-in-Ok-clause-reads c =
    tree_comes c.args.source.now c.args.names.now c.parse.new.names c.args.tokens.now c.requires.tokens (c.in-Ok.ensures.named (ok_answered c.in-Ok.unit)) (tree_of c.in-Ok.unit) c.in-Ok.ensures.tree

pub returns-in-Err-TooDeep-clause-reads : goal.returns-in-Err-TooDeep-clause-reads
returns-in-Err-TooDeep-clause-reads c =
    let i : ℕ = c.in-Err-TooDeep.token in
    let tokens : List Token = c.args.tokens.now in
    let d : Token = record { kind = k.Ident; start = 0; end = 0 } in
    let deep : IsFirstDeep (terminals_of c.args.source.now c.parse.new.names tokens) i =
    deep_of c.in-Err-TooDeep.field-0 i (terminals_of c.args.source.now c.parse.new.names tokens) c.in-Err-TooDeep.field-0-is c.in-Err-TooDeep.ensures.too_deep in
    let below : i < length tokens = deep_below c.args.source.now c.parse.new.names tokens i deep in
    deep_comes c.args.source.now c.args.names.now c.parse.new.names tokens c.requires.tokens (c.in-Err-TooDeep.ensures.named (answered_deep c.in-Err-TooDeep.field-0 i c.in-Err-TooDeep.field-0-is))
    i (get_or tokens i d) deep (slice_get-get_or tokens i d below)

pub returns-in-Err-NotInGrammar-clause-reads : goal.returns-in-Err-NotInGrammar-clause-reads
returns-in-Err-NotInGrammar-clause-reads c =
    let f : _ = c.in-Err-NotInGrammar in
    subst (λ at. Reads c.args.source.now c.args.names.now c.parse.new.names (fault at 2)) (sym c.start_of.ensures)
    (none_comes c.args.source.now c.args.names.now c.parse.new.names c.args.tokens.now c.requires.tokens (f.ensures.named (answered_none f.field-0 f.token f.field-0-is)) f.token
    (none_of f.field-0 f.token (terminals_of c.args.source.now c.parse.new.names c.args.tokens.now) f.field-0-is f.ensures.not_in_grammar))
