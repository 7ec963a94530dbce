use Rattle.std.proofs.Common.{◌≡◌, refl, sym, ◌∙◌, true, false, ℕ, take, List, slice_index_or}
use Rattle.sg_base.specs.declared.scope.Scope.{Scope}
use Rattle.std.proofs.lemmas.List.{take_all}
use Rattle.sg_base.specs.PathTree.{path_at}
use Rattle.sg_query.specs.Steps.{is_fresh}
use Rattle.sg_engine.specs.Growth.{into_targets}
use Rattle.sg_engine.specs.Tree.{paths_of}
use Rattle.sg_engine.specs.Tree.{front_of}
use Rattle.sg_engine.proofs.Exploring.{gains_none}
use Rattle.sg_engine.proofs.Listing.{lists_same, lists_chain}
use Rattle.sg_engine.proofs.Resting.{after_kept}
use Rattle.sg_engine.proofs.Growing.{row_in, row_out, place_kept, any_default}
use Rattle.sg_engine.proofs.tree.Tree.push_targets.Goals as goal
use Rattle.sg_engine.proofs.tree.Tree.push_targets.Goals.{then-is_fresh_at+in_ok-push_node, else-is_fresh_at}

abbrev target : List Scope → ℕ → Scope
target row k = slice_index_or row k (record { unit = 0; serial = 0 })

pub loop-t-init : goal.loop-t-init
loop-t-init g c = ((λ e tree. (tree, gains_none e (front_of c.args.self.now))), refl, refl, refl, lists_same c.args.self.now, refl)

pub is_fresh_at-requires-clause-tree : goal.is_fresh_at-requires-clause-tree
is_fresh_at-requires-clause-tree g c = (c.requires.tree.0, (c.loop-t.invariant.0 c.requires.tree.0 c.requires.tree.1).0)

pub is_fresh_at-requires-clause-there : goal.is_fresh_at-requires-clause-there
is_fresh_at-requires-clause-there g c =
    let i = c.loop-t.invariant.0 c.requires.tree.0 c.requires.tree.1 in
    (place_kept c.requires.tree.0 (front_of c.args.self.now) (front_of c.loop-t.self) (into_targets c.args.self.now.start (path_at (paths_of c.args.self.now.nodes.items) c.args.place) c.args.l (take c.loop-t.t-index c.args.row.now)) c.args.self.now.nodes.items c.loop-t.self.nodes.items c.args.place refl refl i.1 c.requires.there).0

pub push_node-requires-clause-there : goal.push_node-requires-clause-there
push_node-requires-clause-there g c =
    let i = c.loop-t.invariant.0 c.requires.tree.0 c.requires.tree.1 in
    (place_kept c.requires.tree.0 (front_of c.args.self.now) (front_of c.loop-t.self) (into_targets c.args.self.now.start (path_at (paths_of c.args.self.now.nodes.items) c.args.place) c.args.l (take c.loop-t.t-index c.args.row.now)) c.args.self.now.nodes.items c.loop-t.self.nodes.items c.args.place refl refl i.1 c.requires.there).0

pub push_node-requires-clause-few : goal.push_node-requires-clause-few
push_node-requires-clause-few g c = (c.loop-t.invariant.0 c.requires.tree.0 c.requires.tree.1).0.0.few

pub push_node-requires-clause-after : goal.push_node-requires-clause-after
push_node-requires-clause-after g c =
    after_kept c.args.self.now.nodes c.loop-t.self.nodes c.args.place c.args.l c.args.set c.loop-t.invariant.4.nodes c.loop-t.invariant.5 c.requires.there c.requires.after

pub loop-t-preserved : goal.loop-t-preserved
loop-t-preserved g c =
    elim c.if-is_fresh_at.branch [
      | then-is_fresh_at+in_ok-push_node w ↦ (
        (λ e tree.
            let i = c.loop-t.invariant.0 e tree in
            let kept = place_kept e (front_of c.args.self.now) (front_of c.loop-t.self) (into_targets c.args.self.now.start (path_at (paths_of c.args.self.now.nodes.items) c.args.place) c.args.l (take c.loop-t.t-index c.args.row.now)) c.args.self.now.nodes.items c.loop-t.self.nodes.items c.args.place refl refl i.1 c.requires.there in
            let p = w.in_ok-push_node.ensures.tree e i.0 in
            let fresh : is_fresh c.args.self.now.start (path_at (paths_of c.loop-t.self.nodes.items) c.args.place) (target c.args.row.now c.loop-t.t-index) ≡ true = rw c.loop-t.invariant.4.start at (sym c.is_fresh_at.ensures ∙ w.if-is_fresh_at.true) in
            rw w.self-is (p.0, row_in e (front_of c.args.self.now) (front_of c.loop-t.self) c.args.self.now.start (path_at (paths_of c.args.self.now.nodes.items) c.args.place) c.args.l c.args.row.now c.loop-t.t-index (target c.args.row.now c.loop-t.t-index) c.loop-t-test.true (any_default c.args.row.now c.loop-t.t-index (record { unit = 0; serial = 0 }) (target c.args.row.now c.loop-t.t-index) c.loop-t-test.true) (front_of w.push_node.new.self) (path_at (paths_of c.loop-t.self.nodes.items) c.args.place) kept.1 fresh i.1 p.1)),
        (rw w.self-is (w.push_node.ensures.next ∙ c.loop-t.invariant.1)),
        (rw w.self-is (w.push_node.ensures.explored ∙ c.loop-t.invariant.2)),
        (rw w.self-is (w.push_node.ensures.blocked ∙ c.loop-t.invariant.3)),
        (rw w.self-is (lists_chain c.args.self.now c.loop-t.self w.push_node.new.self c.loop-t.invariant.4 w.push_node.ensures.lists)),
        (rw w.self-is (w.push_node.ensures.words ∙ c.loop-t.invariant.5)),
      )
      | else-is_fresh_at w ↦ (
        (λ e tree.
            let i = c.loop-t.invariant.0 e tree in
            let kept = place_kept e (front_of c.args.self.now) (front_of c.loop-t.self) (into_targets c.args.self.now.start (path_at (paths_of c.args.self.now.nodes.items) c.args.place) c.args.l (take c.loop-t.t-index c.args.row.now)) c.args.self.now.nodes.items c.loop-t.self.nodes.items c.args.place refl refl i.1 c.requires.there in
            let fresh : is_fresh c.args.self.now.start (path_at (paths_of c.loop-t.self.nodes.items) c.args.place) (target c.args.row.now c.loop-t.t-index) ≡ false = rw c.loop-t.invariant.4.start at (sym c.is_fresh_at.ensures ∙ w.if-is_fresh_at.false) in
            rw w.self-is (i.0, row_out e (front_of c.args.self.now) (front_of c.loop-t.self) c.args.self.now.start (path_at (paths_of c.args.self.now.nodes.items) c.args.place) c.args.l c.args.row.now c.loop-t.t-index (target c.args.row.now c.loop-t.t-index) c.loop-t-test.true (any_default c.args.row.now c.loop-t.t-index (record { unit = 0; serial = 0 }) (target c.args.row.now c.loop-t.t-index) c.loop-t-test.true) (path_at (paths_of c.loop-t.self.nodes.items) c.args.place) kept.1 fresh i.1)),
        (rw w.self-is c.loop-t.invariant.1),
        (rw w.self-is c.loop-t.invariant.2),
        (rw w.self-is c.loop-t.invariant.3),
        (rw w.self-is c.loop-t.invariant.4),
        (rw w.self-is c.loop-t.invariant.5),
      )
    ]

pub returns : goal.returns
returns g c = record {
  next = c.loop-t.invariant.1;
  explored = c.loop-t.invariant.2;
  blocked = c.loop-t.invariant.3;
  words = c.loop-t.invariant.5;
  lists = c.loop-t.invariant.4;
  tree = λ e tree.
      let whole : take c.loop-t.t-index c.args.row.now ≡ c.args.row.now = take_all c.loop-t.t-index c.args.row.now c.loop-t-test.false in
      rw whole at (c.loop-t.invariant.0 e tree);
}
