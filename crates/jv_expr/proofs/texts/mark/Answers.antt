use Rattle.std.proofs.Common.{[]}
use Rattle.std.proofs.lemmas.List.{get_or_default}
use Rattle.jv_lex.specs.Punctuation.{marks}
use Rattle.jv_lex.proofs.Tables.{now_at}
use Rattle.jv_expr.proofs.texts.mark.Goals as goal

pub returns : goal.returns
returns c = rw now_at (get_or_default marks c.args.number _ [] c.requires)
