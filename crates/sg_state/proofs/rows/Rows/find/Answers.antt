use Rattle.sg_state.proofs.ShortRows.{row_is_at, row_is_none}
use Rattle.sg_state.specs.Rows.{rows_of}
use Rattle.sg_state.proofs.rows.Rows.find.Goals as goal

pub returns-clause-found : goal.returns-clause-found
returns-clause-found c = row_is_at c.args.label c.args.self.now c.row_at.result (rw c.as_slice.ensures at c.row_at.ensures)

pub returns-clause-none : goal.returns-clause-none
returns-clause-none c = row_is_none c.args.label (rows_of c.args.self.now) c.row_at.result (rw c.as_slice.ensures at c.row_at.ensures)
