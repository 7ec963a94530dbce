use Rattle.std.proofs.Common.{◌+◌, ◌≤◌, length, take}
use Rattle.std.specs.List.{sum_by}
use Rattle.sc_io.specs.SourceFile.{sources_of}
use Rattle.sc_sources.specs.Threads.{AreNamed, bytes_of}
use Rattle.sc_sources.proofs.Folders.{size}
use Rattle.sc_sources.proofs.naming.name_all.Given as goal

abbrev pub invariant-loop-i : goal.invariant-loop-i
invariant-loop-i l =
    AreNamed l.fn.names (bytes_of (take l.i l.files)) l.names l.all.items × (length l.names ≤ length l.fn.names + sum_by size (sources_of (take l.i l.files)))
