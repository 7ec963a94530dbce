use Rattle.std.proofs.Common.{refl, sym, ◌∙◌}
use Rattle.sg_state.proofs.Finding.{not_given}
use Rattle.sg_state.proofs.parts.part_of.Goals as goal

pub returns-in-Some-Waits : goal.returns-in-Some-Waits
returns-in-Some-Waits g c = (
  refl,
  refl,
  not_given c.args.places.now.entries c.args.to c.requires.places c.in-Some-Waits.field-0.now c.in-Some-Waits.ensures.found (λ d e. (let k = sym c.in-Some-Waits.field-0-is ∙ e in cc)),
)

pub returns-in-Some-Empty : goal.returns-in-Some-Empty
returns-in-Some-Empty g c = (
  refl,
  refl,
  not_given c.args.places.now.entries c.args.to c.requires.places c.in-Some-Empty.field-0.now c.in-Some-Empty.ensures.found (λ d e. (let k = sym c.in-Some-Empty.field-0-is ∙ e in cc)),
)
