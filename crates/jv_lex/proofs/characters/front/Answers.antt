use Rattle.std.proofs.Common.{◌-◌, length, ap, ◌∙◌, arith}
use Rattle.std.specs.Str.{chars}
use Rattle.jv_lex.proofs.Fronts.{slice_range-start, width, front_ends, chars-front}
use Rattle.jv_lex.proofs.characters.front.Goals as goal

pub overflow_sub-width : goal.overflow_sub-width
overflow_sub-width c = let w = width c.args.text.now c.args.rest.now c.requires.0 c.utf8.text c.utf8.rest c.requires.1 in omega arith

pub range-requires-clause-end_boundary : goal.range-requires-clause-end_boundary
range-requires-clause-end_boundary c = front_ends c.args.text.now c.args.rest.now c.requires.0 c.utf8.text c.utf8.rest c.requires.1

pub returns : goal.returns
returns c = λ w e. ap chars (c.range.ensures.value ∙ slice_range-start c.args.text.now (length c.args.text.now - length c.args.rest.now)) ∙ chars-front c.args.text.now c.args.rest.now w c.utf8.text c.utf8.rest e
