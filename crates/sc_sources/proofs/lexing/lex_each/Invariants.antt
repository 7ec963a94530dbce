use Rattle.std.proofs.Common.{take}
use Rattle.sc_sources.specs.Threads.{AreLexed}
use Rattle.sc_sources.proofs.lexing.lex_each.Given as goal

abbrev pub invariant-loop-file : goal.invariant-loop-file
invariant-loop-file l = AreLexed (take l.file-index l.files) l.all.items
