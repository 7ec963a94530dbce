use Rattle.sg_engine.specs.Nodes.{RestOf}
use Rattle.sg_engine.proofs.Growing.{pushed_going, pushed_ending}
use Rattle.sg_engine.proofs.Resting.{there_is}
use Rattle.sg_engine.proofs.tree.Tree.push_node.Goals as goal
use Rattle.sg_engine.proofs.tree.Tree.push_node.Goals.{then-goes_on, else-goes_on}

pub returns-clause-tree : goal.returns-clause-tree
returns-clause-tree g c = λ e tree.
    let t = c.args.self.now in
    let rest : RestOf = record { words = t.nodes.words; set = c.args.set } in
    let over = there_is t.nodes.items c.args.parent c.requires.there in
    let offers = rw c.words-words.ensures at c.in_ok-push_offers.ensures.offers in
    let goes = rw c.words-words.ensures at c.goes_on.ensures in
    elim c.if-goes_on.branch [
      | then-goes_on w ↦
          rw (c.in_ok-push.ensures.ok, w.self-is)
          (pushed_going e t.start t.nodes.items t.blocked.items t.queue.items t.next t.found.items t.explored t.going tree
          c.args.parent c.requires.there over.0 over.1 c.args.l c.args.to rest (c.requires.after over.0 over.1) c.len.result c.len.ensures.len c.push_offers.new.queue.items offers (goes.0 w.if-goes_on.true))
      | else-goes_on w ↦
          rw (c.in_ok-push.ensures.ok, w.self-is)
          (pushed_ending e t.start t.nodes.items t.blocked.items t.queue.items t.next t.found.items t.explored t.going tree
          c.args.parent c.requires.there over.0 over.1 c.args.l c.args.to rest (c.requires.after over.0 over.1) c.len.result c.len.ensures.len c.push_offers.new.queue.items offers (λ k. cc (goes.1 k, w.if-goes_on.false)))
    ]
