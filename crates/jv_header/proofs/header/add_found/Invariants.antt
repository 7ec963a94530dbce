use Rattle.std.proofs.Common.{◌≡◌, ◌++◌, drop}
use Rattle.jv_header.specs.Header.{found_types}
use Rattle.jv_header.proofs.header.add_found.Given as goal

abbrev pub invariant-loop-reference : goal.invariant-loop-reference
invariant-loop-reference l = l.fn.row ++ found_types l.fn.found ≡ l.row ++ found_types (drop l.reference-index l.found)
