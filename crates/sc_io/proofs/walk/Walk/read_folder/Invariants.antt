use Rattle.std.proofs.Common.{◌≤◌}
use Rattle.sc_io.specs.Walk.{FindsSources, work_left}
use Rattle.sc_io.proofs.walk.Walk.read_folder.Given as goal

abbrev pub invariant-loop-entry : goal.invariant-loop-entry
invariant-loop-entry g l = FindsSources l.self × (work_left l.self ≤ work_left l.initial.self)
