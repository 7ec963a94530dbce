use Rattle.std.proofs.Common.{List, Ok, Err, arith, refl, subst}
use Rattle.sg_base.specs.declared.scope.Scope.{Scope}
use Rattle.sg_reading.specs.Stop.{Reads}
use Rattle.jv_diag.specs.Plain.{DiagOf}
use Rattle.jv_expr.proofs.StatementEnds.{plain_stops}
use Rattle.jv_names.specs.Replies.{reply_to}
use Rattle.jv_unit.specs.Kept.{folder_of}
use Rattle.jv_unit.specs.Plans.{check_rule}
use Rattle.jv_unit.specs.Progress.{check_in, whole_rule}
use Rattle.jv_unit.proofs.CheckRules.{new_reached, so_far_behind, so_far_inside, whole_ends, whole_stops}
use Rattle.jv_unit.proofs.check_rules.read_checks.Goals as goal

pub loop-checks-preserved : goal.loop-checks-preserved
loop-checks-preserved c =
    so_far_behind (reply_to c.args.o.now) (folder_of c.args.w.now) c.args.t c.loop-checks.checks c.loop-checks.invariant (omega (arith, c.loop-checks-test.true, c.check_count.ensures.count)) c.pass.new.self c.in_ok-part.part
    (subst (λ (bs : List Scope). Reads {U = List DiagOf} (reply_to c.args.o.now) (check_rule (folder_of c.args.w.now) c.args.t bs (check_in (folder_of c.args.w.now) c.args.t c.loop-checks.checks.place)) (Ok c.in_ok-part.part)) c.as_slice.ensures c.in_ok-part.ensures.reads)
    c.in_ok-pass.ensures.place c.in_ok-pass.ensures.blanks c.in_ok-pass.ensures.diags c.in_ok-pass.ensures.body

pub returns-in_err-pass-clause-so_far : goal.returns-in_err-pass-clause-so_far
returns-in_err-pass-clause-so_far c =
    so_far_inside (reply_to c.args.o.now) (folder_of c.args.w.now) c.args.t c.loop-checks.checks c.loop-checks.invariant c.pass.new.self c.in_err-pass.ensures.stays.0 c.in_err-pass.ensures.blanks c.in_err-pass.ensures.stays.1
    (new_reached (reply_to c.args.o.now) (folder_of c.args.w.now) c.args.t c.loop-checks.checks.blanks (check_in (folder_of c.args.w.now) c.args.t c.loop-checks.checks.place) c.pass.new.self.body c.in_err-pass.ensures.body)

pub returns-clause-reads : goal.returns-clause-reads
returns-clause-reads c =
    whole_ends (reply_to c.args.o.now) (folder_of c.args.w.now) c.args.t c.loop-checks.checks c.loop-checks.invariant c.loop-checks.checks.diags (omega (arith, c.loop-checks-test.false, c.check_count.ensures.count)) refl

pub returns-in_err-part-clause-reads : goal.returns-in_err-part-clause-reads
returns-in_err-part-clause-reads c =
    plain_stops (reply_to c.args.o.now) c.in_err-part.field-0.0 c.from_residual.result c.loop-checks.checks.diags c.from_residual.ensures.1 (whole_rule (folder_of c.args.w.now) c.args.t)
    (whole_stops (reply_to c.args.o.now) (folder_of c.args.w.now) c.args.t c.loop-checks.checks c.loop-checks.invariant (omega (arith, c.loop-checks-test.true, c.check_count.ensures.count)) c.in_err-part.field-0.0
    (subst (λ (bs : List Scope). Reads {U = List DiagOf} (reply_to c.args.o.now) (check_rule (folder_of c.args.w.now) c.args.t bs (check_in (folder_of c.args.w.now) c.args.t c.loop-checks.checks.place)) (Err c.in_err-part.field-0.0)) c.as_slice.ensures c.in_err-part.ensures.reads))
