use Rattle.std.proofs.Common.{◌≡◌, ◌<◌, ◌≤◌, ◌++◌, [], List, length, take, get_or, map, sym, ap, ◌∙◌, subst, append-nil, arith}
use Rattle.std.specs.Prelude.{min, ◌||◌}
use Rattle.std.specs.List.{list_any}
use Rattle.sg_base.specs.Scope.{is_scope}
use Rattle.std.proofs.Math.Nat.{min-le_left, min-le_right}
use Rattle.sg_base.specs.declared.scope.Scope.{Scope}
use Rattle.jv_diag.specs.Plain.{DiagOf}
use Rattle.jv_tree.specs.TypeTree.{ids_of}
use Rattle.jv_names.specs.Reference.{reference_diags}
use Rattle.jv_names.specs.declared.reference.Reference.{Reference}
use Rattle.jv_header.specs.Header.{one_of, found_types, interface_diags, interface_clause}
use Rattle.jv_header.proofs.Adding.{AreSeen, behind_one, found_more, seen_more, interface_step, interface_end}
use Rattle.jv_header.proofs.clauses.add_interface_clause.Goals as goal

pub loop-i-preserved : goal.loop-i-preserved
loop-i-preserved c =
    let l = c.args.l.now in
    let names = c.args.names.now in
    let file = c.args.file in
    let clause = c.args.clause.now in
    let found = c.args.found.now in
    let i = c.loop-i.i in
    let n = c.index-clause-i.result in
    let r = c.index-found-i.result in
    let in_clause : i < length clause = omega (arith, c.min-i-end.ensures, c.loop-i-test.true, min-le_left (length clause) (length found)) in
    let in_found : i < length found = omega (arith, c.min-i-end.ensures, c.loop-i-test.true, min-le_right (length clause) (length found)) in
    record {
      seen =
          subst (λ (ss : List Scope). AreSeen c.seen_before.new.seen.keys ss) (sym (found_more found i r in_found))
          (seen_more c.loop-i.seen.keys c.seen_before.new.seen.keys (found_types (take i found)) (one_of (get_or found i r).meaning) c.loop-i.invariant.seen
          (subst (λ (q : Reference). (s : Scope) → list_any (is_scope s) c.seen_before.new.seen.keys ≡ (list_any (is_scope s) c.loop-i.seen.keys || list_any (is_scope s) (one_of q.meaning))) c.index-found-i.is c.in_ok-again.ensures.more));
      diags =
          interface_step l names file clause found i n r in_clause in_found (c.args.diags.now ++ interface_clause l names file [] (map ids_of clause) found) c.loop-i.diags c.add_reference.new.diags c.add_interface.new.diags c.loop-i.seen.keys c.in_ok-again.again
          c.index-found-i.is c.loop-i.invariant.seen c.loop-i.invariant.diags c.in_ok-again.ensures.again
          (c.in_ok-add_reference.ensures.ok ∙ ap (λ ids. c.loop-i.diags ++ reference_diags l names file ids r) c.as_slice-ids.ensures.value)
          (c.in_ok-add_interface.ensures ∙ ap (λ ids. c.add_reference.new.diags ++ interface_diags l names file c.in_ok-again.again ids r.meaning) c.as_slice-ids.ensures.value);
    }

pub returns : goal.returns
returns c =
    let past : min (length c.args.clause.now) (length c.args.found.now) ≤ c.loop-i.i = omega (arith, c.min-i-end.ensures, c.loop-i-test.false) in
    sym (c.loop-i.invariant.diags
    ∙ (ap (λ (ds : List DiagOf). c.loop-i.diags ++ ds) (interface_end c.args.l.now c.args.names.now c.args.file c.args.clause.now c.args.found.now c.loop-i.i (found_types (take c.loop-i.i c.args.found.now)) (behind_one (length c.args.clause.now) (length c.args.found.now) c.loop-i.i past))
    ∙ append-nil c.loop-i.diags))
