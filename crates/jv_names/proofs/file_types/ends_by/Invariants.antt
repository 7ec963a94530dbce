use Rattle.std.proofs.Common.{◌≡◌, ◌++◌, drop}
use Rattle.jv_names.specs.TypeNames.{ends_by}
use Rattle.jv_names.proofs.file_types.ends_by.Given as goal

abbrev pub invariant-loop-k : goal.invariant-loop-k
invariant-loop-k l = l.ends ++ ends_by l.l l.label (drop l.k l.paths) ≡ ends_by l.l l.label l.paths
