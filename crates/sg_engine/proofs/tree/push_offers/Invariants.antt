use Rattle.std.proofs.Common.{ℕ, ◌<◌}
use Rattle.sg_base.specs.Label.{Has}
use Rattle.sg_engine.proofs.Offering.{OfferedTo}
use Rattle.sg_engine.proofs.tree.push_offers.Given as goal

abbrev pub invariant-loop-n : goal.invariant-loop-n
invariant-loop-n l = OfferedTo l.heads l.place l.n l.initial.queue.items l.queue.items × (0 < l.n → (m : ℕ) → Has l.heads m → m < 16)
