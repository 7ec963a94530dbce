use Rattle.std.proofs.Common.{◌-◌, length, map}
use Rattle.jv_tree.specs.DeclTree.{import_tree}
use Rattle.jv_names.specs.Replies.{reply_to}
use Rattle.jv_header.specs.ImportsProgress.{AreImportsSoFar}
use Rattle.jv_header.proofs.imports.read_import_references.Given as goal

abbrev pub invariant-loop-alloc : goal.invariant-loop-alloc
invariant-loop-alloc l = AreImportsSoFar (reply_to l.o) l.l l.file (map import_tree l.imports) (record { found = l.found })

abbrev pub decreases-loop-alloc : goal.decreases-loop-alloc
decreases-loop-alloc l = length l.imports - length l.found
