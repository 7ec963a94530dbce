use Rattle.sg_pool.proofs.finishing.is_some_stuck.Given as goal

abbrev pub invariant-loop-job : goal.invariant-loop-job
invariant-loop-job g l = Unit {0}
