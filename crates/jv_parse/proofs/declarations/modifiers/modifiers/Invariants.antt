use Rattle.std.proofs.Common.{◌≡◌, length}
use Rattle.jv_grammar.specs.DeclReader.{mods_of}
use Rattle.jv_parse.specs.DeclView.{modifiers_of}
use Rattle.jv_parse.proofs.ModifierTurns.{words_onto}
use Rattle.jv_parse.proofs.declarations.modifiers.modifiers.Given as goal

abbrev pub invariant-loop-word : goal.invariant-loop-word
invariant-loop-word l = words_onto l.words.items (mods_of l.rest) ≡ modifiers_of l.terminals

abbrev pub decreases-loop-word : goal.decreases-loop-word
decreases-loop-word l = length l.rest
