use Rattle.std.proofs.Common.{Result, drop, map}
use Rattle.sg_reading.specs.Stop.{Reads}
use Rattle.jv_tree.specs.DeclTree.{import_tree}
use Rattle.jv_names.specs.declared.ends.Ends.{Ends}
use Rattle.jv_names.specs.Replies.{reply_to}
use Rattle.jv_names.specs.Statics.{brought_from, static_members}
use Rattle.jv_names.proofs.StaticSteps.{Need}
use Rattle.jv_names.proofs.statics.read_static_members.Given as goal

-- what the rule comes to for the rest of the imports, behind what those so far bring, it comes to for all of them
abbrev pub invariant-loop-import : goal.invariant-loop-import
invariant-loop-import l =
    (x : Result Ends Need) → Reads (reply_to l.o) (brought_from l.l l.file l.all l.which l.name l.found (map import_tree (drop l.import-index l.imports))) x → Reads (reply_to l.o) (static_members l.l l.file l.all l.which l.name) x
