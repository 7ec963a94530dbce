use Rattle.std.proofs.Common.{◌≡◌, ◌⊎◌, ◌++◌, ◌∷◌, [], List, ℕ, length, refl, sym, ap, ◌∙◌, subst, append_assoc, arith}
use Rattle.std.specs.Prelude.{slice_index}
use Rattle.std.proofs.lemmas.List.{append-nil}
use Rattle.sg_base.specs.declared.step.Step.{Step}
use Rattle.sg_base.specs.PathTree.{path_at}
use Rattle.sg_engine.specs.Laying.{IsClimb}
use Rattle.sg_engine.specs.Tree.{paths_of}
use Rattle.sg_engine.proofs.Growing.{paths_of-length}
use Rattle.sg_engine.proofs.Laid.{climb_top, climb_pop, lies_there, lays_more, new_lies}
use Rattle.sg_engine.proofs.laying.lay.Goals as goal

pub climb-requires-clause-long : goal.climb-requires-clause-long
climb-requires-clause-long g c =
    let nodes = c.args.tree.now.nodes.items in
    ap (λ (r : List ℕ). length r) c.as_slice-at.ensures.value ∙ ((c.requires.laid).long ∙ paths_of-length nodes)

pub place_at-under-requires : goal.place_at-under-requires
place_at-under-requires g c =
    let nodes = c.args.tree.now.nodes.items in
    let top = climb_top (paths_of nodes) c.in_ok-climbed.climbed.items c.args.place c.in_ok-climbed.top c.in_ok-climbed.ensures.0 in
    omega (arith, top, (c.requires.laid).long, ap (λ (r : List ℕ). length r) c.as_slice-at.ensures.value)

pub loop-k-init : goal.loop-k-init
loop-k-init g c =
    let nodes = c.args.tree.now.nodes.items in
    let top = climb_top (paths_of nodes) c.in_ok-climbed.climbed.items c.args.place c.in_ok-climbed.top c.in_ok-climbed.ensures.0 in
    let laid : (c.in_ok-climbed.top ≡ 0) ⊎ (slice_index c.args.places.now.items c.in_ok-climbed.top ≡ 0 → ⊥) = rw c.as_slice-at.ensures.value at c.in_ok-climbed.ensures.1 in
    let lies = lies_there (paths_of nodes) c.args.paths.now.paths c.args.places.now.items c.in_ok-climbed.top c.requires.laid top laid in
    let at : c.place_at-under.result ≡ slice_index c.args.places.now.items c.in_ok-climbed.top = rw c.as_slice-at.ensures.value at c.place_at-under.ensures in
    record {
      start = refl;
      front = ([], sym (append-nil _));
      laid = c.requires.laid;
      climb = (c.in_ok-climbed.top, c.in_ok-climbed.ensures.0, rw at lies);
    }

pub index_mut-requires : goal.index_mut-requires
index_mut-requires g c =
    let nodes = c.args.tree.now.nodes.items in
    let inv = c.loop-k.invariant in
    let up = climb_pop (paths_of nodes) c.pop.new.self.items c.args.place inv.climb.0 (c.in-Some.k, c.in-Some.step) (subst (IsClimb (paths_of nodes) c.args.place inv.climb.0) c.in-Some.ensures.items inv.climb.1) in
    let there = climb_top (paths_of nodes) c.pop.new.self.items c.args.place c.in-Some.k up.0 in
    omega (arith, there, (inv.laid).long, c.loop-k.places.ok.0)

pub loop-k-preserved : goal.loop-k-preserved
loop-k-preserved g c =
    let nodes = c.args.tree.now.nodes.items in
    let inv = c.loop-k.invariant in
    let old = c.loop-k.paths.paths in
    let up = climb_pop (paths_of nodes) c.pop.new.self.items c.args.place inv.climb.0 (c.in-Some.k, c.in-Some.step) (subst (IsClimb (paths_of nodes) c.args.place inv.climb.0) c.in-Some.ensures.items inv.climb.1) in
    let there = climb_top (paths_of nodes) c.pop.new.self.items c.args.place c.in-Some.k up.0 in
    let path : List Step = path_at old c.loop-k.under ++ c.in-Some.step ∷ [] in
    record {
      start = c.push.ensures.start ∙ inv.start;
      front = (inv.front.0 ++ path ∷ [], c.in_ok-under.ensures.ok ∙ (ap (λ (t : List (List Step)). t ++ path ∷ []) inv.front.1 ∙ append_assoc c.args.paths.now.paths inv.front.0 (path ∷ [])));
      laid = rw (c.in_ok-under.ensures.ok, c.in_ok-under.ensures.place) (lays_more (paths_of nodes) old c.loop-k.places.items inv.laid c.in-Some.k c.loop-k.under there inv.climb.0 c.in-Some.step up.1 inv.climb.2);
      climb = (c.in-Some.k, up.0, rw (c.in_ok-under.ensures.ok, c.in_ok-under.ensures.place) (new_lies (paths_of nodes) old c.loop-k.places.items inv.laid c.in-Some.k c.loop-k.under there inv.climb.0 c.in-Some.step up.1 inv.climb.2));
    }
