use Rattle.std.proofs.Common.{◌≤◌, ◌++◌, List, length, sym, ap, ◌∙◌, append-nil, arith}
use Rattle.std.specs.Prelude.{min}
use Rattle.jv_diag.specs.Plain.{DiagOf}
use Rattle.jv_header.proofs.Adding.{behind_one, class_end}
use Rattle.jv_header.proofs.clauses.add_class_clause.Goals as goal

pub returns : goal.returns
returns c =
    let past : min (length c.args.clause.now) (length c.args.found.now) ≤ c.loop-i.i = omega (arith, c.min-i-end.ensures, c.loop-i-test.false) in
    sym (c.loop-i.invariant
    ∙ (ap (λ (ds : List DiagOf). c.loop-i.diags ++ ds) (class_end c.args.l.now c.args.names.now c.args.file c.args.clause.now c.args.found.now c.loop-i.i (behind_one (length c.args.clause.now) (length c.args.found.now) c.loop-i.i past))
    ∙ append-nil c.loop-i.diags))
