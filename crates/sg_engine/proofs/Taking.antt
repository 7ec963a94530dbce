-- Work that is taken from the queue: explored, or put aside.
use Rattle.std.proofs.Common.{◌≡◌, ◌<◌, ◌≤◌, ◌+◌, List, [], ◌∷◌, ◌++◌, Bool, true, false, length, drop, sym, ap, ◌∙◌, subst, append_assoc}
use Rattle.std.specs.List.{AllByRecursion}
use Rattle.sg_base.specs.declared.scope.Scope.{Scope}
use Rattle.sg_base.specs.State.{State}
use Rattle.sg_expr.specs.Tree.{ExprOf}
use Rattle.sg_query.specs.Query.{Asked}
use Rattle.sg_engine.specs.declared.tree.Tree.{Tree}
use Rattle.sg_engine.specs.declared.work.Work.{Work}
use Rattle.sg_engine.specs.Front.{Stands}
use Rattle.sg_engine.specs.Run.{HasTaken, KeepsBlocked}
use Rattle.sg_engine.specs.Tree.{place_of, front_on, IsTreeOn, IsTreeWith, StandsWith, BlocksWork, AllBlock}
use Rattle.sg_engine.proofs.Running.{all_still}
use Rattle.sg_engine.proofs.Stepping.{each_push}

-- ---- work that is put aside is still left

module _ {D : Type 0} (t : Tree D) (w : Work) (blocked : List Work) (more : blocked ≡ t.blocked.items ++ w ∷ []) where
  abbrev work : List Work
  work = drop t.next t.queue.items

  still_left : t.blocked.items ++ w ∷ work ≡ blocked ++ work
  still_left = sym (ap (λ (r : List Work). r ++ work) more ∙ append_assoc t.blocked.items (w ∷ []) work)

  pub aside_tree : (e : ExprOf) → IsTreeWith e w t → IsTreeOn e t.start t.nodes.items (blocked ++ drop t.next t.queue.items) t.found.items t.explored t.going × (t.next ≤ length t.queue.items)
  aside_tree e tree = (subst (λ (r : List Work). IsTreeOn e t.start t.nodes.items r t.found.items t.explored t.going) still_left tree.0, tree.1)

  pub aside_stands : (h : State D) (q : Asked D) → StandsWith h q w t → Stands h q (front_on t.start t.nodes.items (blocked ++ drop t.next t.queue.items) t.found.items t.explored t.going)
  aside_stands h q s = subst (λ (r : List Work). Stands h q (front_on t.start t.nodes.items r t.found.items t.explored t.going)) still_left s

-- ---- what was put aside before is still blocked

-- the tree without the first of its queue
abbrev pub past : {D : Type 0} → Tree D → Tree D
past t = record { start = t.start; nodes = t.nodes; blocked = t.blocked; queue = t.queue; next = t.next + 1; found = t.found; explored = t.explored; going = t.going }

pub taken_keeps : {D : Type 0} (h : State D) (w : Work) (t v : Tree D) (b : Bool) → v.start ≡ t.start → AllByRecursion (λ w. place_of w < length t.nodes.items) t.blocked.items → HasTaken h w t v b → KeepsBlocked h t v
taken_keeps h w t v true start placed k all =
    let more : AllBlock h t.start v.nodes.items t.blocked.items = all_still h t.start t.nodes.items v.nodes.items k.2 t.blocked.items placed all in
    let here : AllBlock h v.start v.nodes.items t.blocked.items = subst (λ (s : Scope). AllBlock h s v.nodes.items t.blocked.items) (sym start) more in
    subst (λ z. AllBlock h v.start v.nodes.items z.items) (sym k.1) here
taken_keeps h w t v false start placed k all =
    let more : AllBlock h t.start t.nodes.items (t.blocked.items ++ w ∷ []) = each_push (BlocksWork h t.start t.nodes.items) t.blocked.items w all k.0 in
    let here : AllBlock h t.start t.nodes.items v.blocked.items = subst (λ (ws : List Work). AllBlock h t.start t.nodes.items ws) (sym k.1) more in
    let over : AllBlock h t.start v.nodes.items v.blocked.items = subst (λ z. AllBlock h t.start z.items v.blocked.items) (sym k.2) here in
    subst (λ (s : Scope). AllBlock h s v.nodes.items v.blocked.items) (sym start) over
