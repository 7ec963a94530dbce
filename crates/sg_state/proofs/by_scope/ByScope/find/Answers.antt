use Rattle.sg_state.proofs.ByPlace.{lies, lies_not}
use Rattle.sg_state.proofs.by_scope.ByScope.find.Goals as goal

pub returns-clause-found : goal.returns-clause-found
returns-clause-found g c = lies c.args.self.now.index c.args.self.now.all.items c.requires.indexed c.args.s c.find.result c.find.ensures

pub returns-clause-none : goal.returns-clause-none
returns-clause-none g c = lies_not c.args.self.now.index c.args.self.now.all.items c.requires.indexed c.args.s c.find.result c.find.ensures
