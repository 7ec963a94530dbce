use Rattle.std.proofs.Common.{◌≡◌, ◌++◌, [], map, drop, take}
use Rattle.std.specs.List.{list_any}
use Rattle.sg_base.specs.declared.scope.Scope.{Scope}
use Rattle.sg_base.specs.Scope.{is_scope}
use Rattle.jv_tree.specs.TypeTree.{ids_of}
use Rattle.jv_header.specs.Header.{found_types, interface_clause}
use Rattle.jv_header.proofs.clauses.add_interface_clause.Given as goal

-- the types so far are seen, and what the rest of the clause adds to the diagnostics so far, the clause adds to those at first
abbrev pub invariant-loop-i : goal.invariant-loop-i
invariant-loop-i l = record {
  seen : (s : Scope) → list_any (is_scope s) l.seen.keys ≡ list_any (is_scope s) (found_types (take l.i l.found));
  diags : l.fn.diags ++ interface_clause l.l l.names l.file [] (map ids_of l.clause) l.found
      ≡ l.diags ++ interface_clause l.l l.names l.file (found_types (take l.i l.found)) (map ids_of (drop l.i l.clause)) (drop l.i l.found);
}
