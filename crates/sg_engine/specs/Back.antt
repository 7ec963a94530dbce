-- How a tree is put back to what it was.
use Rattle.std.specs.Prelude.{◌≡◌, length}
use Rattle.sg_engine.specs.declared.mark.Mark.{Mark}
use Rattle.sg_engine.specs.declared.tree.Tree.{Tree}

-- the mark says how far the tree's lists go
pub record IsMark {D : Type 0} (t : Tree D) (m : Mark) : Type 0 where
  pub nodes : m.nodes ≡ length t.nodes.items
  pub blocked : m.blocked ≡ length t.blocked.items
  pub queue : m.queue ≡ length t.queue.items
  pub next : m.next ≡ t.next
  pub found : m.found ≡ length t.found.items
  pub explored : m.explored ≡ t.explored
  pub going : m.going ≡ t.going

-- the trees have the same in each part
pub record IsSame {D : Type 0} (t u : Tree D) : Type 0 where
  pub start : u.start ≡ t.start
  pub nodes : u.nodes.items ≡ t.nodes.items
  pub blocked : u.blocked.items ≡ t.blocked.items
  pub queue : u.queue.items ≡ t.queue.items
  pub next : u.next ≡ t.next
  pub found : u.found.items ≡ t.found.items
  pub explored : u.explored ≡ t.explored
  pub going : u.going ≡ t.going
