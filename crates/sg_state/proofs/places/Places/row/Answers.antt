use Rattle.sg_state.proofs.Changing.{row_found_at}
use Rattle.sg_state.proofs.Finding.{row_some, row_none}
use Rattle.sg_state.proofs.places.Places.row.Goals as goal

pub returns-in-Some-clause-found : goal.returns-in-Some-clause-found
returns-in-Some-clause-found g c = row_some c.args.self.now.entries c.args.s c.args.label c.in-Some.place.now c.in-Some.ensures c.row.result c.row.ensures

pub returns-in-Some-clause-none : goal.returns-in-Some-clause-none
returns-in-Some-clause-none g c = row_none c.args.self.now.entries c.args.s c.args.label c.in-Some.place.now c.in-Some.ensures c.row.result c.row.ensures

pub returns-in-None-clause-none : goal.returns-in-None-clause-none
returns-in-None-clause-none g c = λ ok h. row_found_at c.args.self.now.entries c.args.s c.args.label h c.in-None.ensures
