use Rattle.std.proofs.Common.{◌≡◌, ◌+◌, [], ◌∷◌, ◌++◌, map, take, List, Bool, sym, ◌∙◌, ap, subst, append_assoc}
use Rattle.std.proofs.lemmas.List.{append-nil, map-append, take_more, take_all}
use Rattle.sg_order.specs.Order.{precedes}
use Rattle.sg_query.specs.declared.found.Found.{Found}
use Rattle.sg_query.specs.declared.found_at.FoundAt.{FoundAt}
use Rattle.sg_query.specs.Found.{found_in}
use Rattle.sg_query.specs.Marks.{AreMarked}
use Rattle.sg_query.proofs.Marking.{mark_of, marked_append}
use Rattle.sg_query.proofs.Trees.{there_at}
use Rattle.sg_query.proofs.shadow.mark_run.Goals as goal

pub loop-found-init : goal.loop-found-init
loop-found-init g c = ([], sym (append-nil _), tt)

pub is_shadowed-shadowed-requires-clause-this : goal.is_shadowed-shadowed-requires-clause-this
is_shadowed-shadowed-requires-clause-this g c =
    there_at c.args.paths.now c.args.run.now c.requires c.found-item.result (c.loop-found.found-index, c.loop-found-test.true, sym c.found-item.is)

pub loop-found-preserved : goal.loop-found-preserved
loop-found-preserved g c =
    let same = g.I.Instance.same_datum in
    let order = precedes c.args.order.now in
    let found = found_in c.args.paths.now in
    let run = c.args.run.now in
    let n = c.loop-found.found-index in
    let mark = c.is_shadowed-shadowed.result in
    let so_far = c.loop-found.invariant in
    let longer : map found (take (n + 1) run) ≡ map found (take n run) ++ found c.found-item.result ∷ [] =
    ap (map found) (take_more run n c.found-item.result c.loop-found-test.true ∙ ap (λ (x : FoundAt g.row.I-Datum.Denot). take n run ++ x ∷ []) (sym c.found-item.is))
    ∙ map-append found (take n run) (c.found-item.result ∷ []) in
    let before : List Bool = c.loop-found.marks.items in
    let first : List Bool = c.args.marks.now.items in
    let pushed : c.push.new.self.items ≡ before ++ mark ∷ [] = c.in_ok-push.ensures.items in
    let grown : before ++ mark ∷ [] ≡ (first ++ so_far.0) ++ mark ∷ [] = ap (λ (t : List Bool). t ++ mark ∷ []) so_far.1 in
    let added : c.push.new.self.items ≡ first ++ (so_far.0 ++ mark ∷ []) = pushed ∙ (grown ∙ append_assoc first so_far.0 (mark ∷ [])) in (
      so_far.0 ++ mark ∷ [],
      added,
      subst (λ (fs : List (Found g.row.I-Datum.Denot)). AreMarked same order (map found run) fs (so_far.0 ++ mark ∷ [])) (sym longer)
          (marked_append same order (map found run) (map found (take n run)) (found c.found-item.result ∷ []) so_far.0 (mark ∷ []) so_far.2
          (mark_of mark c.is_shadowed-shadowed.ensures.shadowed c.is_shadowed-shadowed.ensures.shown, tt)),
    )
