use Rattle.std.proofs.Common.{◌∙◌}
use Rattle.sg_engine.proofs.Listing.{front_cut}
use Rattle.sg_engine.proofs.tree.Tree.go_back.Goals as goal

pub returns : goal.returns
returns g c = λ t m back.
    let u = c.put_back.new.self in
    let l = c.put_back.ensures t back in
    let k = c.args.mark.now in
    record {
      start = l.start;
      nodes = c.truncate.ensures.items ∙ front_cut t.nodes.items u.nodes.items k.nodes m.nodes l.nodes;
      blocked = c.truncate-2.ensures.items ∙ front_cut t.blocked.items u.blocked.items k.blocked m.blocked l.blocked;
      queue = c.truncate-3.ensures.items ∙ front_cut t.queue.items u.queue.items k.queue m.queue l.queue;
      next = m.next;
      found = c.truncate-4.ensures.items ∙ front_cut t.found.items u.found.items k.found m.found l.found;
      explored = m.explored;
      going = m.going;
    }
