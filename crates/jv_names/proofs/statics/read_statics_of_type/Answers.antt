use Rattle.jv_names.specs.Replies.{reply_to}
use Rattle.jv_names.proofs.StaticSteps.{kinds_ok}
use Rattle.jv_names.proofs.statics.read_statics_of_type.Goals as goal

-- src/statics.rt:244:1
pub returns : goal.returns
returns c =
    kinds_ok (reply_to c.args.o.now) c.args.l.now c.args.file c.args.class c.args.name c.in_ok-types.types c.in_ok-fields.fields c.in_ok-methods.methods c.in_ok-some.some c.in_ok-ends.ends
    c.in_ok-types.ensures c.in_ok-fields.ensures c.in_ok-methods.ensures c.in_ok-some.ensures c.in_ok-ends.ensures
