use Rattle.sc_io.specs.Walk.{FindsSources, work_left}
use Rattle.sc_io.proofs.walk.java_paths_below.Given as goal

abbrev pub invariant-loop-folder : goal.invariant-loop-folder
invariant-loop-folder g l = FindsSources l.walk

abbrev pub decreases-loop-folder : goal.decreases-loop-folder
decreases-loop-folder g l = work_left l.walk
