use Rattle.std.proofs.Common.{arith}
use Rattle.jv_grammar.proofs.Stacks.{few_are_open}
use Rattle.jv_grammar.proofs.load.base.Goals as goal

pub offset_bounds-nesting-nesting : goal.offset_bounds-nesting-nesting
offset_bounds-nesting-nesting c = let d = few_are_open c.args.nesting.now c.requires.sound in omega arith

pub bounds-nesting-nesting : goal.bounds-nesting-nesting
bounds-nesting-nesting c = let d = few_are_open c.args.nesting.now c.requires.sound in omega arith
