use Rattle.std.proofs.Common.{[]}
use Rattle.std.proofs.lemmas.List.{get_or_default}
use Rattle.jv_lex.proofs.Tables.{now_at}
use Rattle.jv_diag.specs.Text.{texts}
use Rattle.jv_diag.proofs.texts.text_of.Goals as goal

pub returns : goal.returns
returns c = rw now_at (get_or_default texts c.args.code _ [] c.requires)
