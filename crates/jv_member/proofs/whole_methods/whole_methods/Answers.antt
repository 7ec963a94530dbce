use Rattle.std.proofs.Common.{sym, ◌∙◌}
use Rattle.std.proofs.lemmas.List.{nil_from_length}
use Rattle.jv_member.specs.Overriding.{whole_methods}
use Rattle.jv_member.proofs.WholeSteps.{whole_end}
use Rattle.jv_member.proofs.whole_methods.whole_methods.Goals as goal

pub returns : goal.returns
returns c =
    let left = c.loop-signature.signature-iterator.rest in
    whole_end c.loop-signature.found.items (whole_methods c.args.methods.now c.args.signatures) c.loop-signature.rest.now left.items (nil_from_length left.items (sym left.ok.0 ∙ c.in-None.ensures.steps.0)) c.loop-signature.invariant
