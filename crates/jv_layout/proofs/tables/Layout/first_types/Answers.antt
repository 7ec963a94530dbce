use Rattle.std.proofs.Common.{◌≡◌, ℕ, List, length, ap, ◌∙◌, subst, arith}
use Rattle.std.specs.Prelude.{IfOk}
use Rattle.std.proofs.lemmas.List.{length-map}
use Rattle.jv_layout.specs.Keys.{type_key, firsts}
use Rattle.jv_layout.proofs.Keying.{first_types_by}
use Rattle.jv_layout.proofs.tables.Layout.first_types.Goals as goal

pub firsts-requires : goal.firsts-requires
firsts-requires c =
    let l = c.args.self.now in
    let same : length c.deref.result.now ≡ length l.types = ap length (c.deref.ensures.value ∙ c.in_ok-keys.ensures.value) ∙ length-map l.types (type_key l) in
    omega (arith, same, c.type_keys.ensures.few)

pub returns-clause-value : goal.returns-clause-value
returns-clause-value c =
    let l = c.args.self.now in
    subst (λ (z : List ℕ). IfOk c.firsts.result (λ v. v.items ≡ z)) (ap firsts (c.deref.ensures.value ∙ c.in_ok-keys.ensures.value) ∙ first_types_by l) c.firsts.ensures.value
