use Rattle.std.proofs.Common.{Err, refl, arith}
use Rattle.jv_names.specs.Replies.{reply_to}
use Rattle.jv_expr.specs.Sites.{site_of}
use Rattle.jv_expr.proofs.BareSteps.{body_unknown, too_many, next_body, this_body}
use Rattle.jv_expr.proofs.CallSteps.{stops_with}
use Rattle.jv_expr.proofs.calls.check_call_in.Goals as goal

pub returns-in_err-read_methods : goal.returns-in_err-read_methods
returns-in_err-read_methods c =
    let e = c.in_err-read_methods.field-0.0 in
    let site = site_of c.args.site.now in
    let stop = body_unknown (reply_to c.args.o.now) site c.args.i c.args.arguments.now c.loop-body.ds c.args.bodies.now c.loop-body.body-index (record { unit = 0; serial = 0 }) (search c.loop-body-test.true) site.layout e c.in_err-read_methods.ensures refl in
    search (stops_with, c.loop-body.invariant (Err e) stop, c.from_residual.ensures)

pub returns-in-TooMany : goal.returns-in-TooMany
returns-in-TooMany c = search (c.loop-body.invariant, too_many, c.in_ok-read_methods.ensures, c.in-TooMany.is, c.in_ok-add_bad_call-in-TooMany.ensures)

pub returns-then-not-is_empty : goal.returns-then-not-is_empty
returns-then-not-is_empty c = search (arith, c.loop-body.invariant, this_body, c.in_ok-read_methods.ensures, c.in-Scopes.is, c.has_instance.ensures, c.as_slice.ensures.all, c.as_slice-then-not-is_empty.ensures.all, c.if-not-is_empty.true, c.is_empty.ensures, c.check_called_of.ensures)

pub loop-body-preserved : goal.loop-body-preserved
loop-body-preserved c = search (arith, c.loop-body.invariant, next_body, c.in_ok-read_methods.ensures, c.in-Scopes.is, c.as_slice.ensures.all, c.if-not-is_empty.false, c.is_empty.ensures)
