use Rattle.std.proofs.Common.{◌≡◌, ℕ, List, ◌∷◌, [], ◌++◌, refl, ap, ◌∙◌, subst, cond, Some, arith}
use Rattle.std.specs.Map.{lookup}
use Rattle.sg_base.specs.declared.scope.Scope.{Scope}
use Rattle.sg_state.specs.declared.part.Part.{Part}
use Rattle.sg_state.specs.SamePart.{is_part}
use Rattle.sg_state.proofs.FewParts.{parts_few, parts_many}
use Rattle.sg_state.proofs.scope_parts.ScopeParts.push.Goals as goal

pub returns-then-len-lt-FEW-clause-parts : goal.returns-then-len-lt-FEW-clause-parts
returns-then-len-lt-FEW-clause-parts c =
    let all = c.push_reserved.ensures.items ∙ ap (λ (es : List (Part × List Scope)). es ++ (c.args.part, c.args.targets) ∷ []) c.reserve_exact.ensures.items in
    parts_few c.args.self.now c.requires.parts c.args.part c.args.targets c.requires.new _ all (omega (arith, c.if-len-lt-FEW.true, c.len.ensures, c.args.self.now.all.ok.0)) refl

pub returns-clause-parts : goal.returns-clause-parts
returns-clause-parts c =
    let all = c.push_reserved-2.ensures.items ∙ ap (λ (es : List (Part × List Scope)). es ++ (c.args.part, c.args.targets) ∷ []) c.reserve.ensures.items in
    let at = c.len-2.ensures ∙ c.reserve.ensures.len ∙ c.args.self.now.all.ok.0 in
    let noted = subst (λ (n : ℕ). (r : Part) → lookup (is_part r) c.insert.new.self.entries ≡ cond (is_part c.args.part r) (Some n) (lookup (is_part r) c.args.self.now.behind.entries)) at (λ r. c.in_ok-insert.ensures.updates.0 r) in
    parts_many c.args.self.now c.requires.parts c.args.part c.args.targets c.requires.new _ all (omega (arith, c.if-len-lt-FEW.false, c.len.ensures, c.args.self.now.all.ok.0)) noted
