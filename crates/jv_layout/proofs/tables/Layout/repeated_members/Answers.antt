use Rattle.std.proofs.Common.{◌≡◌, List, Bool, ap, ◌∙◌, subst}
use Rattle.std.specs.Prelude.{IfOk}
use Rattle.jv_layout.specs.Keys.{repeats}
use Rattle.jv_layout.proofs.Keying.{repeated_members_by}
use Rattle.jv_layout.proofs.tables.Layout.repeated_members.Goals as goal

pub returns : goal.returns
returns c =
    subst (λ (z : List Bool). IfOk c.repeats.result (λ v. v.items ≡ z)) (ap repeats (c.deref.ensures.value ∙ c.in_ok-keys.ensures.value) ∙ repeated_members_by c.args.self.now) c.repeats.ensures
