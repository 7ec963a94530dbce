use Rattle.sg_base.proofs.Edges.{one_datum}
use Rattle.sg_query.proofs.walk.Walk.found_at.Goals as goal

pub returns-in-None : goal.returns-in-None
returns-in-None g c = let none = rw c.end_with.ensures at c.in-None.ensures.none in λ d r. none d r.1

pub returns-else-matches : goal.returns-else-matches
returns-else-matches g c =
    let here = rw c.end_with.ensures at c.in-Some.ensures.found in
    λ d r.
    let same = one_datum c.args.self.now.graph.now.given c.in-Some.ensures.sound.data_rise _ d c.in-Some.datum.now r.1 here in
    let wanted = rw same at r.2 in
    cc (wanted, c.matches.ensures, c.if-matches.false)
