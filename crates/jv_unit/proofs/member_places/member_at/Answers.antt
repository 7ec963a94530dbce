use Rattle.std.proofs.Common.{sym, arith}
use Rattle.jv_unit.proofs.MemberPlaces.{member_within, not_nested, method_here, ctor_here, variable_within, variable_here}
use Rattle.jv_unit.proofs.member_places.member_at.Goals as goal

pub index-requires : goal.index-requires
index-requires c = omega (arith, member_within c.args.decl.now c.args.place c.in-Some.at c.in-Some.is c.requires.stands, c.args.decl.now.members.ok.0)

pub unreachable-requires : goal.unreachable-requires
unreachable-requires c = not_nested c.args.decl.now c.args.place c.in-Some.at c.in-Some.is c.requires.stands c.index.result.now (sym c.index.ensures) c.in-Nested.field-0 c.in-Nested.is

pub index-requires-in-Field : goal.index-requires-in-Field
index-requires-in-Field c =
    let h = variable_within c.args.decl.now c.args.place c.in-Some.at c.in-Some.is c.requires.stands c.index.result.now (sym c.index.ensures) c.in-Field.mods c.in-Field.ty c.in-Field.variables c.in-Field.is in
    omega (arith, h, c.in-Field.variables.ok.0)

pub returns-in-Field : goal.returns-in-Field
returns-in-Field c =
    sym (variable_here c.args.decl.now c.args.place c.in-Some.at c.in-Some.is c.requires.stands c.index.result.now (sym c.index.ensures) c.in-Field.mods c.in-Field.ty c.in-Field.variables c.in-Field.is c.index-in-Field.result.now (sym c.index-in-Field.ensures))

pub returns-in-Method : goal.returns-in-Method
returns-in-Method c = sym (method_here c.args.decl.now c.args.place c.in-Some.at c.in-Some.is c.requires.stands c.index.result.now (sym c.index.ensures) c.in-Method.method c.in-Method.is)

pub returns-in-Ctor : goal.returns-in-Ctor
returns-in-Ctor c = sym (ctor_here c.args.decl.now c.args.place c.in-Some.at c.in-Some.is c.requires.stands c.index.result.now (sym c.index.ensures) c.in-Ctor.ctor c.in-Ctor.is)
