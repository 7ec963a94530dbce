use Rattle.std.proofs.Common.{is_some, ap, ◌∙◌, arith}
use Rattle.std.specs.Option.{unwrap_or}
use Rattle.jv_member.specs.Own.{no_own}
use Rattle.jv_unit.specs.MemberPlaces.{own_placed}
use Rattle.jv_unit.proofs.Folders.{places_are_members, owner_of_place, own_of_place}
use Rattle.jv_unit.proofs.folder.Folder.member.Goals as goal

pub at-place-requires : goal.at-place-requires
at-place-requires c = record { within = omega (arith, c.requires.within, places_are_members c.args.self.now c.requires.whole) }

pub decl-requires-clause-within : goal.decl-requires-clause-within
decl-requires-clause-within c = owner_of_place c.args.self.now c.requires.whole c.args.m c.at-place.result c.requires.within c.at-place.ensures

pub member_at-requires : goal.member_at-requires
member_at-requires c =
    let own = own_of_place c.args.self.now c.requires.whole c.args.m c.at-place.result c.requires.within c.at-place.ensures in
    record { stands = ap is_some (ap (λ d. own_placed d c.at-place.result.place) c.decl.ensures ∙ own) }

pub returns : goal.returns
returns c =
    let own = own_of_place c.args.self.now c.requires.whole c.args.m c.at-place.result c.requires.within c.at-place.ensures in
    ap (λ o. unwrap_or o no_own) (c.member_at.ensures ∙ (ap (λ d. own_placed d c.at-place.result.place) c.decl.ensures ∙ own))
