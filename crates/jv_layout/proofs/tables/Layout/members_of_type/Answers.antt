use Rattle.std.proofs.Common.{◌≡◌, length, map, get_or, sym, ap, ◌∙◌, subst, arith}
use Rattle.jv_layout.specs.Tables.{members_by_type}
use Rattle.jv_layout.proofs.Owning.{length-kept, kept_members}
use Rattle.jv_layout.proofs.tables.Layout.members_of_type.Goals as goal

pub returns-in-Some : goal.returns-in-Some
returns-in-Some c =
    let l = c.args.self.now in
    let lists = c.self.inside.member_scopes.items in
    let kept : map (λ v. v.items) lists ≡ members_by_type l = c.self.invariant.member_scopes ∙ ap members_by_type c.self.view_is in
    let at = subst (λ z. c.in-Some.members.now ≡ get_or z c.args.t c.in-Some.members.now) c.deref.ensures.value (c.in-Some.ensures.lookup).1 in
    c.as_slice.ensures.value ∙ kept_members (λ v. v.items) l lists kept c.args.t c.in-Some.members.now c.requires (sym at)

pub returns-in-None : goal.returns-in-None
returns-in-None c =
    let l = c.args.self.now in
    let lists = c.self.inside.member_scopes.items in
    let kept : map (λ v. v.items) lists ≡ members_by_type l = c.self.invariant.member_scopes ∙ ap members_by_type c.self.view_is in
    let long : length lists ≡ length l.types = length-kept (λ v. v.items) l lists kept in
    let same : length c.deref.result.now ≡ length lists = ap length c.deref.ensures.value in
    absurd (omega (arith, long, same, (c.in-None.ensures.lookup).3, c.requires))
