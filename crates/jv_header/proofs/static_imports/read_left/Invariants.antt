use Rattle.std.proofs.Common.{◌-◌, length, map}
use Rattle.jv_tree.specs.DeclTree.{import_tree}
use Rattle.jv_names.specs.Replies.{reply_to}
use Rattle.jv_header.specs.StaticsProgress.{AreStaticsSoFar}
use Rattle.jv_header.proofs.static_imports.read_left.Given as goal

abbrev pub invariant-loop-progress : goal.invariant-loop-progress
invariant-loop-progress l = AreStaticsSoFar (reply_to l.o) l.l l.names l.file (map import_tree l.imports) l.progress

abbrev pub decreases-loop-progress : goal.decreases-loop-progress
decreases-loop-progress l = length l.imports - l.progress.count
