use Rattle.std.proofs.Common.{sym, ◌∙◌}
use Rattle.sg_state.proofs.ShortRows.{row_found_at, row_none_at}
use Rattle.sg_state.specs.Rows.{rows_of}
use Rattle.sg_state.proofs.rows.Rows.row.Goals as goal

pub returns-in-Some : goal.returns-in-Some
returns-in-Some c = rw (← c.index-rows-at.is) (row_found_at c.args.label (rows_of c.args.self.now) c.in-Some.at c.index-rows-at.result (sym (rw c.as_slice-rows.ensures at c.row_at.ensures) ∙ c.in-Some.is) (rw c.as_slice-rows.ensures at c.index-rows-at.is))

pub returns-in-None : goal.returns-in-None
returns-in-None c = sym (row_none_at c.args.label (rows_of c.args.self.now) (sym (rw c.as_slice-rows.ensures at c.row_at.ensures) ∙ c.in-None.is))
