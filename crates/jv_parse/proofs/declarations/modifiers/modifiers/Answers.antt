use Rattle.std.proofs.Common.{ap, sym, ◌∙◌}
use Rattle.jv_grammar.specs.DeclReader.{mods_of}
use Rattle.jv_parse.proofs.ModifierTurns.{words_onto, modifiers_begin, modifiers_next, modifiers_done}
use Rattle.jv_parse.proofs.declarations.modifiers.modifiers.Goals as goal

pub loop-word-init : goal.loop-word-init
loop-word-init c = modifiers_begin c.new-words.result.items c.args.terminals.now c.new-words.ensures.items

pub loop-word-preserved : goal.loop-word-preserved
loop-word-preserved c =
    ap (λ l. words_onto l (mods_of c.in-Some.after.now)) c.in_ok-push.ensures.items
    ∙ modifiers_next c.loop-word.words.items c.in-Some.word c.loop-word.rest.now c.in-Some.after.now c.in-Some.ensures.0
    ∙ c.loop-word.invariant

pub returns : goal.returns
returns c = sym c.loop-word.invariant ∙ modifiers_done c.loop-word.words.items c.loop-word.rest.now c.in_default.ensures
