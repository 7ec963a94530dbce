use Rattle.std.proofs.Common.{◌≡◌, ◌-◌, List, ◌∷◌, [], ◌++◌, length, refl, sym, ap, ◌∙◌, append_assoc}
use Rattle.std.proofs.lemmas.List.FromFn.{length-map-range_with_len}
use Rattle.sg_base.specs.declared.scope.Scope.{Scope}
use Rattle.jv_layout.specs.Readers.{owner_scope}
use Rattle.jv_layout.specs.Scopes.{type_scope}
use Rattle.jv_names.specs.Bodies.{outward}
use Rattle.jv_names.proofs.Outward.{one_further}
use Rattle.jv_names.proofs.spot.add_enclosing.Goals as goal

pub loop-left-init : goal.loop-left-init
loop-left-init c =
    let count : length c.types-left.result.now ≡ length c.args.l.now.types = ap (λ (ss : List Scope). length ss) c.types-left.ensures ∙ length-map-range_with_len (type_scope c.args.l.now) 0 (length c.args.l.now.types) in
    rw (count, c.owner-at.ensures) refl

pub loop-left-preserved : goal.loop-left-preserved
loop-left-preserved c =
    let step : outward c.args.l.now c.loop-left.left c.loop-left.at ≡ c.in-Some.outer ∷ outward c.args.l.now (c.loop-left.left - 1) (owner_scope c.args.l.now c.in-Some.outer) = rw c.in-Some.is (one_further c.args.l.now c.loop-left.left c.in-Some.outer c.loop-left-test.true) in
    rw (c.in_ok-push-in-Some.ensures.items, c.owner-at-in-Some.ensures) (c.loop-left.invariant ∙ (ap (λ (ss : List Scope). c.loop-left.inside.items ++ ss) step ∙ sym (append_assoc c.loop-left.inside.items (c.in-Some.outer ∷ []) (outward c.args.l.now (c.loop-left.left - 1) (owner_scope c.args.l.now c.in-Some.outer)))))
