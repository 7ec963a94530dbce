use Rattle.std.proofs.Common.{◌≡◌, ◌<◌, ◌∷◌, [], length, map, take, refl, sym, ap, ◌∙◌}
use Rattle.std.proofs.lemmas.List.{take_all}
use Rattle.sg_base.proofs.Finite.{each_at, each_append}
use Rattle.sg_query.specs.declared.found_at.FoundAt.{FoundAt}
use Rattle.sg_query.proofs.Trees.{there_more}
use Rattle.sg_engine.specs.Tree.{paths_of, found_of}
use Rattle.sg_engine.proofs.Finding.{finds_more}
use Rattle.sg_engine.proofs.answering.found_tree.Goals as goal

pub loop-f-init : goal.loop-f-init
loop-f-init g c = rw (c.new-paths.ensures, c.new-found.ensures.items) (record {
  start = refl;
  laid = c.in_ok-places.ensures;
  there = tt;
  found = refl;
})

pub lay-requires-clause-there : goal.lay-requires-clause-there
lay-requires-clause-there g c =
    let t = c.args.tree.now in
    let at = rw c.deref-f-items.ensures.value at c.f-item.is in
    let test = rw c.deref-f-items.ensures.value at c.loop-f-test.true in
    each_at (λ (f : FoundAt g.row.I-Datum.Denot). f.place < length t.nodes.items) t.found.items ((c.requires.tree.1).0).found_in c.f-item.result (c.loop-f.f-index, test, sym at)

pub loop-f-preserved : goal.loop-f-preserved
loop-f-preserved g c =
    let t = c.args.tree.now in
    let at = rw c.deref-f-items.ensures.value at c.f-item.is in
    let test = rw c.deref-f-items.ensures.value at c.loop-f-test.true in
    let inv = c.loop-f.invariant in
    let start = c.lay.ensures.start ∙ inv.start in
    let front = c.lay.ensures.front in
    let lies = c.in_ok-place.ensures.lies in
    let x : FoundAt g.row.I-Datum.Denot = record { place = c.in_ok-place.place; datum = c.in_ok-datum.datum } in
    record {
      start = start;
      laid = c.in_ok-place.ensures.laid;
      there = rw c.in_ok-push.ensures.items (each_append (λ (f : FoundAt g.row.I-Datum.Denot). f.place < length c.lay.new.paths.paths) c.loop-f.found.items (x ∷ [])
          (there_more c.loop-f.paths c.lay.new.paths front.0 (start ∙ sym inv.start) front.1 c.loop-f.found.items inv.there) (lies.0, tt));
      found = rw c.in_ok-push.ensures.items (finds_more t.start (paths_of t.nodes.items) t.found.items c.loop-f.f-index c.f-item.result test at c.loop-f.paths c.lay.new.paths inv.start start front.0 front.1 c.loop-f.found.items inv.there inv.found x lies.1 c.in_ok-datum.ensures);
    }

pub of-requires : goal.of-requires
of-requires g c = c.loop-f.invariant.there

pub returns : goal.returns
returns g c =
    let t = c.args.tree.now in
    let test = rw c.deref-f-items.ensures.value at c.loop-f-test.false in
    let whole : take c.loop-f.f-index t.found.items ≡ t.found.items = take_all c.loop-f.f-index t.found.items test in
    rw c.of.ensures (c.loop-f.invariant.start, c.loop-f.invariant.found ∙ ap (map (found_of t.start (paths_of t.nodes.items))) whole)
