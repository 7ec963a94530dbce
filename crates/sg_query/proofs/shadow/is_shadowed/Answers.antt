use Rattle.std.proofs.Common.{◌≡◌, ◌+◌, [], ◌∷◌, ◌++◌, take, map, IsTrue, sym, ◌∙◌, ap, subst, inl, inr}
use Rattle.std.proofs.lemmas.List.{take_more, take_all}
use Rattle.std.proofs.lemmas.List.Elements.{Contains-push_cases}
use Rattle.sg_base.specs.PathTree.{path_at}
use Rattle.sg_base.proofs.Finite.{nothing_in, map-Contains, Contains-map}
use Rattle.sg_order.specs.Path.{IsPathBefore}
use Rattle.sg_order.specs.Order.{precedes}
use Rattle.sg_query.specs.declared.found.Found.{Found}
use Rattle.sg_query.specs.declared.found_at.FoundAt.{FoundAt}
use Rattle.sg_query.specs.Found.{found_in}
use Rattle.sg_query.proofs.Trees.{there_at}
use Rattle.sg_query.proofs.shadow.is_shadowed.Goals as goal
use Rattle.sg_query.proofs.shadow.is_shadowed.Goals.{else-same-via-then-same+else-place_before, else-same-via-else-same}

pub loop-other-init : goal.loop-other-init
loop-other-init g c = λ h k. absurd (nothing_in h k)

pub place_before-requires-clause-first : goal.place_before-requires-clause-first
place_before-requires-clause-first g c =
    there_at c.args.paths.now c.args.all.now c.requires.there c.other-item.result (c.loop-other.other-index, c.loop-other-test.true, sym c.other-item.is)

pub returns-then-place_before-clause-shadowed : goal.returns-then-place_before-clause-shadowed
returns-then-place_before-clause-shadowed g c = λ _.
    let found = found_in c.args.paths.now in (
      found c.other-item.result,
      map-Contains found c.args.all.now c.other-item.result (c.loop-other.other-index, c.loop-other-test.true, sym c.other-item.is),
      sym c.same.ensures ∙ c.if-same.true,
      c.place_before.ensures.0 c.if-place_before.true,
    )

pub loop-other-preserved : goal.loop-other-preserved
loop-other-preserved g c = λ h there s b.
    let all = c.args.all.now in
    let paths = c.args.paths.now.paths in
    let longer : take (c.loop-other.other-index + 1) all ≡ take c.loop-other.other-index all ++ c.other-item.result ∷ [] =
    take_more all c.loop-other.other-index c.other-item.result c.loop-other-test.true ∙ ap (λ (x : FoundAt g.row.I-Datum.Denot). take c.loop-other.other-index all ++ x ∷ []) (sym c.other-item.is) in
    elim (Contains-push_cases (take c.loop-other.other-index all) c.other-item.result h (rw longer at there)) [
      | inl k ↦ c.loop-other.invariant h k s b
      | inr e ↦
          let at_item : IsTrue (g.I.Instance.same_datum c.args.found.now.datum c.other-item.result.datum) = subst (λ (x : FoundAt g.row.I-Datum.Denot). IsTrue (g.I.Instance.same_datum c.args.found.now.datum x.datum)) (sym e) s in
          let before : IsPathBefore (precedes c.args.order.now) (path_at paths c.other-item.result.place) (path_at paths c.args.found.now.place) = subst (λ (x : FoundAt g.row.I-Datum.Denot). IsPathBefore (precedes c.args.order.now) (path_at paths x.place) (path_at paths c.args.found.now.place)) (sym e) b in
          elim c.else-same.branch [
            | else-same-via-then-same+else-place_before w ↦
                let says = w.place_before.ensures in
                cc (says.1 before, w.if-place_before.false)
            | else-same-via-else-same w ↦ cc (at_item, c.same.ensures, w.if-same.false)
          ]
    ]

pub returns-clause-shown : goal.returns-clause-shown
returns-clause-shown g c = λ _ k.
    let found = found_in c.args.paths.now in
    let whole : take c.loop-other.other-index c.args.all.now ≡ c.args.all.now = take_all c.loop-other.other-index c.args.all.now c.loop-other-test.false in
    let none = rw whole at c.loop-other.invariant in
    let m = Contains-map found c.args.all.now k.0 k.1 in
    none m.0 m.1
    (subst (λ (h : Found g.row.I-Datum.Denot). IsTrue (g.I.Instance.same_datum c.args.found.now.datum h.datum)) m.2 k.2)
    (subst (λ (h : Found g.row.I-Datum.Denot). IsPathBefore (precedes c.args.order.now) h.path.steps (found c.args.found.now).path.steps) m.2 k.3)
