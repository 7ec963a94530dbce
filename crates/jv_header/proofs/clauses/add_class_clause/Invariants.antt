use Rattle.std.proofs.Common.{◌≡◌, ◌++◌, map, drop}
use Rattle.jv_tree.specs.TypeTree.{ids_of}
use Rattle.jv_header.specs.Header.{class_clause}
use Rattle.jv_header.proofs.clauses.add_class_clause.Given as goal

-- what the rest of the clause adds to the diagnostics so far, the clause adds to those at first
abbrev pub invariant-loop-i : goal.invariant-loop-i
invariant-loop-i l =
    l.fn.diags ++ class_clause l.l l.names l.file (map ids_of l.clause) l.found ≡ l.diags ++ class_clause l.l l.names l.file (map ids_of (drop l.i l.clause)) (drop l.i l.found)
