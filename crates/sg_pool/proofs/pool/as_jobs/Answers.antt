use Rattle.std.proofs.Common.{reverse}
use Rattle.sg_pool.proofs.Pools.{at_site}
use Rattle.sg_pool.proofs.pool.as_jobs.Goals as goal

pub new-requires : goal.new-requires
new-requires g c = at_site g.U.Unit.fixed g.K.Place.Seat.number g.K.Desk.sits g.N.Site.desk g.N.Site.start c.args.desk.now c.args.units.items c.requires.desk c.requires.start c.requires.numbered c.requires.seats c.loop-running.left.items c.pop.new.self.items (reverse c.loop-running.jobs.items) c.in-Some.running c.in-Some.ensures.items c.loop-running.invariant.laid
