use Rattle.std.proofs.Common.{◌≡◌, ◌≤◌}
use Rattle.sg_base.specs.Graph.{HasScope}
use Rattle.sg_query.specs.Query.{asked}
use Rattle.sg_state.specs.Held.{state_of}
use Rattle.sg_engine.specs.Front.{Stands}
use Rattle.sg_engine.specs.Search.{IsOfTable}
use Rattle.sg_engine_tests.proofs.tests.advance_on.Given as goal

abbrev pub invariant-loop-n : goal.invariant-loop-n
invariant-loop-n g l =
    (l.moved ≤ l._n) × (l.search.query ≡ l.fn.search.query) × IsOfTable l.table l.search × HasScope l.held.graph l.search.query.start × Stands (state_of l.held) (asked g.I.Instance.wants g.I.Instance.same_datum l.table l.search.query) l.search.front
