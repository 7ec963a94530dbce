use Rattle.std.proofs.Common.{ℕ, ◌<◌}
use Rattle.sc_io.specs.FileList.{IsPathAt, files_of}
use Rattle.sc_io.proofs.file_list.position.Given as goal

abbrev pub invariant-loop-index : goal.invariant-loop-index
invariant-loop-index l = (k : ℕ) → k < l.index → IsPathAt (files_of l.files) k l.path → ⊥
