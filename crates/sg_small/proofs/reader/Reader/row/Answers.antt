use Rattle.std.proofs.Common.{rules}
use Rattle.sg_small.proofs.Reading.{row_needed, row_known}
use Rattle.sg_small.proofs.reader.Reader.row.Goals as goal

pub returns-in-Some : goal.returns-in-Some
returns-in-Some c = row_needed _ _ _ _ _ (search rules)

pub returns-in_ok-row_writes-in-None : goal.returns-in_ok-row_writes-in-None
returns-in_ok-row_writes-in-None c = row_known _ _ _ _ _ (search rules) (search rules)
