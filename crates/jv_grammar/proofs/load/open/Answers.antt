use Rattle.std.proofs.Common.{arith, ◌<◌, length}
use Rattle.jv_grammar.proofs.Stacks.{few_are_open, opened}
use Rattle.jv_grammar.proofs.load.open.Goals as goal

pub offset_bounds-nesting-nesting : goal.offset_bounds-nesting-nesting
offset_bounds-nesting-nesting c = let d = few_are_open c.args.nesting.now c.requires.sound in omega arith

pub bounds-nesting-nesting : goal.bounds-nesting-nesting
bounds-nesting-nesting c = let d = few_are_open c.args.nesting.now c.requires.sound in omega arith

pub overflow_add-nesting : goal.overflow_add-nesting
overflow_add-nesting c = let d = few_are_open c.args.nesting.now c.requires.sound in omega arith

pub returns : goal.returns
returns c =
    let d = few_are_open c.args.nesting.now c.requires.sound in
    let l : c.args.nesting.now.depth < length c.args.nesting.now.stack = omega arith in
    rw (← c.begins_list-is_list.ensures) (opened c.args.nesting.now c.begins_list-is_list.result l)
