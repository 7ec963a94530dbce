use Rattle.std.proofs.Common.{sym}
use Rattle.sg_state.proofs.FreeNeeds.{holders_found, holders_none}
use Rattle.sg_state.proofs.place.Place.holders.Goals as goal

pub returns-in-Some-clause-exact : goal.returns-in-Some-clause-exact
returns-in-Some-clause-exact g c = rw c.as_slice.ensures.all (holders_found c.args.self.now 0 c.requires.place c.args.label c.in-Some.row.now (sym c.in-Some.ensures))

pub returns-in-None-clause-exact : goal.returns-in-None-clause-exact
returns-in-None-clause-exact g c = holders_none c.args.self.now 0 c.args.label (sym c.in-None.ensures)
