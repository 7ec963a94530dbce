use Rattle.std.proofs.Common.{drop}
use Rattle.sg_state.specs.Gains.{ScopesLeft}
use Rattle.sg_state.proofs.copied.add_scopes.Given as goal

abbrev pub invariant-loop-s : goal.invariant-loop-s
invariant-loop-s g l = ScopesLeft l.initial.graph l.graph (drop l.s-index l.scopes) l.scopes
