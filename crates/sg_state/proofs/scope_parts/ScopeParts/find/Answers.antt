use Rattle.std.proofs.Common.{sym, ◌∙◌, Some}
use Rattle.sg_state.specs.SamePart.{is_part}
use Rattle.sg_state.proofs.ByPlace.{lies_by, lies_not_by}
use Rattle.sg_state.proofs.FewParts.{among_few, among_others}
use Rattle.sg_state.proofs.scope_parts.ScopeParts.find.Goals as goal

pub returns-in-Some-clause-found : goal.returns-in-Some-clause-found
returns-in-Some-clause-found c =
    let few = rw (c.first_few.ensures, c.as_slice.ensures.value) at c.position_of.ensures in
    lies_by (is_part c.args.part) c.args.self.now.all.items (Some c.in-Some.at) (among_few c.args.self.now c.requires.parts c.args.part c.in-Some.at (sym few ∙ c.in-Some.is))

pub returns-in-None-clause-found : goal.returns-in-None-clause-found
returns-in-None-clause-found c =
    let few = rw (c.first_few.ensures, c.as_slice.ensures.value) at c.position_of.ensures in
    lies_by (is_part c.args.part) c.args.self.now.all.items c.find_behind.result (among_others c.args.self.now c.requires.parts c.args.part c.find_behind.result (sym few ∙ c.in-None.is) c.find_behind.ensures)

pub returns-in-None-clause-none : goal.returns-in-None-clause-none
returns-in-None-clause-none c =
    let few = rw (c.first_few.ensures, c.as_slice.ensures.value) at c.position_of.ensures in
    lies_not_by (is_part c.args.part) c.args.self.now.all.items c.find_behind.result (among_others c.args.self.now c.requires.parts c.args.part c.find_behind.result (sym few ∙ c.in-None.is) c.find_behind.ensures)
