use Rattle.std.proofs.Common.{ap, ◌∙◌, lit<, refl}
use Rattle.sc_io.specs.MemTree.{MemTreeOf}
use Rattle.sc_io.proofs.tests.chosen_calls_fail.Goals as goal

pub read-requires-in-loop-failing : goal.read-requires-in-loop-failing
read-requires-in-loop-failing g c =
    let files = c.read.ensures.same ∙ c.list.ensures.same ∙ ap (λ (t : MemTreeOf). t.files) c.new-tree.ensures in
    rw (files, c.in_ok-three_files.ensures.paths) (2, lit< tt, refl)
