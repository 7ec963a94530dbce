use Rattle.std.proofs.Common.{ap, ◌∙◌}
use Rattle.jv_layout.proofs.Looping.{pushed_plain}
use Rattle.jv_unit.specs.MemberPlaces.{in_body}
use Rattle.jv_unit.proofs.member_places.MemberPlaces.add_fields.Goals as goal

pub loop-variable-preserved : goal.loop-variable-preserved
loop-variable-preserved c =
    let here = in_body c.args.owner c.args.place in
    record {
      places = pushed_plain here c.loop-variable.self.places.items c.add.new.self.places.items c.args.self.now.places.items c.loop-variable.variable (here c.in_ok-step.field-0) c.in_ok-add.ensures.places (ap here c.in_ok-step.ensures) c.loop-variable.invariant.places;
      types = c.in_ok-add.ensures.types ∙ c.loop-variable.invariant.types;
    }
