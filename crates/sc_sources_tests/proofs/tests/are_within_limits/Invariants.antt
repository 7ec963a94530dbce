use Rattle.std.proofs.Common.{◌≡◌, ◌≤◌, ◌*◌, length, take}
use Rattle.std.specs.List.{All, sum_by}
use Rattle.sc_io.specs.SourceFile.{sources_of}
use Rattle.sc_sources_tests.proofs.tests.are_within_limits.Given as goal

abbrev pub invariant-loop-file : goal.invariant-loop-file
invariant-loop-file l = record {
  each : All (λ f. length f.bytes ≤ 1048576) (sources_of (take l.file-index l.files));
  total : l.total ≡ sum_by (λ f. length f.bytes) (sources_of (take l.file-index l.files));
  few : l.total ≤ l.file-index * 1048576;
}
