use Rattle.std.proofs.Common.{◌≡◌, ◌≤◌, ◌-◌, length}
use Rattle.sg_state.specs.Held.{state_of}
use Rattle.sg_engine.specs.Tree.{left_of, AllBlock, IsFrontOf}
use Rattle.sg_engine.proofs.look.look_on.Given as goal

abbrev pub invariant-loop-tree : goal.invariant-loop-tree
invariant-loop-tree g l =
    (l.tree.start ≡ l.initial.tree.start) × (l.tree.nodes ≡ l.initial.tree.nodes) × (l.tree.queue ≡ l.initial.tree.queue) × (l.tree.found ≡ l.initial.tree.found) × (l.tree.explored ≡ l.initial.tree.explored) × (l.tree.going ≡ l.initial.tree.going)
    × (l.tree.next ≤ length l.initial.tree.queue.items) × (left_of l.tree ≡ left_of l.initial.tree) × IsFrontOf l.initial.tree.blocked.items l.tree.blocked.items
    × (AllBlock (state_of l.h) l.initial.tree.start l.initial.tree.nodes.items l.initial.tree.blocked.items → AllBlock (state_of l.h) l.initial.tree.start l.initial.tree.nodes.items l.tree.blocked.items)

abbrev pub decreases-loop-tree : goal.decreases-loop-tree
decreases-loop-tree g l = length l.tree.queue.items - l.tree.next
