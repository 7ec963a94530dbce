use Rattle.std.proofs.Common.{Some, map}
use Rattle.sg_pool.proofs.pool.run_pool.Given as goal

abbrev pub ghosts-run_at : goal.ghosts-run_at
ghosts-run_at g a = record { desk = Some a.desk.now; start = map (λ r. r.unit) a.units.items }
