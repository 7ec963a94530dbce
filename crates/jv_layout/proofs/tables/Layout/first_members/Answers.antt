use Rattle.std.proofs.Common.{◌≡◌, ℕ, List, length, ap, ◌∙◌, subst, arith}
use Rattle.std.specs.Prelude.{IfOk}
use Rattle.std.proofs.lemmas.List.{length-map}
use Rattle.jv_layout.specs.Keys.{member_key, firsts}
use Rattle.jv_layout.proofs.Keying.{first_members_by}
use Rattle.jv_layout.proofs.tables.Layout.first_members.Goals as goal

pub firsts-requires : goal.firsts-requires
firsts-requires c =
    let l = c.args.self.now in
    let same : length c.deref.result.now ≡ length l.members = ap length (c.deref.ensures.value ∙ c.in_ok-keys.ensures.value) ∙ length-map l.members (member_key l) in
    omega (arith, same, c.member_keys.ensures.few)

pub returns-clause-value : goal.returns-clause-value
returns-clause-value c =
    let l = c.args.self.now in
    subst (λ (z : List ℕ). IfOk c.firsts.result (λ v. v.items ≡ z)) (ap firsts (c.deref.ensures.value ∙ c.in_ok-keys.ensures.value) ∙ first_members_by l) c.firsts.ensures.value
