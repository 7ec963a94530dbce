-- An advance of a search, as the search holds it.
use Rattle.std.proofs.Common.{◌≡◌, ℕ, ◌≤◌, ◌+◌, List, ◌++◌, Option, drop, length, refl, sym, ap, subst}
use Rattle.sg_base.specs.declared.scope.Scope.{Scope}
use Rattle.sg_base.specs.declared.step.Step.{Step}
use Rattle.sg_base.specs.Graph.{IsGraph, HasScope}
use Rattle.sg_expr.specs.Tree.{ExprOf}
use Rattle.sg_query.specs.declared.found_at.FoundAt.{FoundAt}
use Rattle.sg_query.specs.declared.answer.Answer.{Answer}
use Rattle.sg_query.specs.declared.query.Query.{Query}
use Rattle.sg_query.specs.Query.{Asked}
use Rattle.sg_state.specs.declared.need.Need.{Need}
use Rattle.sg_engine.specs.Nodes.{NodeOf as Node}
use Rattle.sg_engine.specs.declared.progress.Progress.{Progress}
use Rattle.sg_engine.specs.declared.progress.Progress.TheVariants.{Moved, Blocked, Ready}
use Rattle.sg_engine.specs.declared.tree.Tree.{Tree}
use Rattle.sg_engine.specs.declared.work.Work.{Work}
use Rattle.sg_engine.specs.Back.{IsSame}
use Rattle.sg_base.specs.List.{MoreThan}
use Rattle.sg_state.specs.Held.{HeldOf, state_of}
use Rattle.sg_engine.specs.Front.{Front, Stands}
use Rattle.sg_engine.specs.Keyed.{Wanting, PassesOver, IsKeyedItem}
use Rattle.sg_engine.specs.Outcome.{IsOutcome}
use Rattle.sg_engine.specs.Run.{IsSearchIn, IsReply}
use Rattle.sg_engine.specs.Search.{SearchOf, IsProgress}
use Rattle.sg_engine.specs.Tree.{paths_of, left_of, front_on, front_of, IsTreeOn, IsTree, AreNodes}
use Rattle.sg_engine.proofs.Ending.{more_items}
use Rattle.sg_engine.proofs.Keying.{more_keyed}
use Rattle.sg_engine.proofs.Replying.{ready_settled, ready_answer, blocked_unsettled, needs_block}

pub search_here : {D : Type 0} (h : HeldOf D) (k : Wanting D) (ps : List (List Step)) (q : Asked D) (e : ExprOf) (t : Tree D) → q.wants ≡ k.wants → IsTree e t × (q.start ≡ t.start) → e ≡ q.expr → Stands (state_of h) q (front_of t) → (PassesOver h k q ps → PassesOver h k q (paths_of t.nodes.items)) → IsSearchIn h k ps q t
search_here h k ps q e t wants own is s none = ((own.1, wants, subst (λ (x : ExprOf). IsTreeOn x t.start t.nodes.items (left_of t) t.found.items t.explored t.going) is (own.0).0, s, none), (own.0).1)

pub own_tree : {D : Type 0} (h : HeldOf D) (k : Wanting D) (ps : List (List Step)) (q : Asked D) (e : ExprOf) (u : Tree D) → e ≡ q.expr → IsSearchIn h k ps q u → IsTree e u × (q.start ≡ u.start)
own_tree h k ps q e u is s = ((subst (λ (x : ExprOf). IsTreeOn x u.start u.nodes.items (left_of u) u.found.items u.explored u.going) (sym is) ((s.0).2), s.1), (s.0).0)

-- ---- a tree that was put back

module _ {D : Type 0} (start start' : Scope) (nodes nodes' : List Node) (blocked blocked' queue queue' : List Work) (next next' : ℕ) (found found' : List (FoundAt D)) (explored explored' going going' : ℕ)
    (a : start' ≡ start) (b : nodes' ≡ nodes) (c : blocked' ≡ blocked) (d : queue' ≡ queue) (e : next' ≡ next) (f : found' ≡ found) (g : explored' ≡ explored) (i : going' ≡ going) where
  fronts_same : front_on start' nodes' (blocked' ++ drop next' queue') found' explored' going' ≡ front_on start nodes (blocked ++ drop next queue) found explored going
  fronts_same = rw (a, b, c, d, e, f, g, i) refl

  trees_same : (x : ExprOf) → IsTreeOn x start nodes (blocked ++ drop next queue) found explored going × (next ≤ length queue) → IsTreeOn x start' nodes' (blocked' ++ drop next' queue') found' explored' going' × (next' ≤ length queue')
  trees_same x t = rw (a, b, c, d, e, f, g, i) t

module _ {D : Type 0} (t u : Tree D) (k : IsSame t u) where
  pub back_front : front_of u ≡ front_of t
  back_front =
      fronts_same t.start u.start t.nodes.items u.nodes.items t.blocked.items u.blocked.items t.queue.items u.queue.items t.next u.next t.found.items u.found.items t.explored u.explored t.going u.going k.start k.nodes k.blocked k.queue k.next k.found k.explored k.going

  pub back_tree : (e : ExprOf) → IsTree e t → IsTree e u
  back_tree e own =
      trees_same t.start u.start t.nodes.items u.nodes.items t.blocked.items u.blocked.items t.queue.items u.queue.items t.next u.next t.found.items u.found.items t.explored u.explored t.going u.going k.start k.nodes k.blocked k.queue k.next k.found k.explored k.going e own

  pub back_view : {P : Type 0} (query : Query P) (e : ExprOf) (needs : List Need) (answer : Option (Answer D)) → ◌≡◌ {A = SearchOf P D} (record { query = query; expr = e; front = front_of u; needs = needs; answer = answer }) (record { query = query; expr = e; front = front_of t; needs = needs; answer = answer })
  back_view {P} query e needs answer = ap (λ (f : Front D). let s : SearchOf P D = record { query = query; expr = e; front = f; needs = needs; answer = answer } in s) back_front

-- ---- the answer of an advance

pub advanced : {P D : Type 0} (h : HeldOf D) (k : Wanting D) (ps : List (List Step)) (q : Asked D) (query : Query P) (e : ExprOf) (old : SearchOf P D) (u : Tree D) (needs : List Need) (answer : Option (Answer D)) (p : Progress) → IsGraph h.graph → HasScope h.graph q.start → IsSearchIn h k ps q u → IsReply (state_of h) q (old.front.explored + 64) u p → IsOutcome q.same q.order u p needs answer → IsProgress (state_of h) q old (record { query = query; expr = e; front = front_of u; needs = needs; answer = answer }) p
advanced {P} {D} h k ps q query e old u needs answer Ready ok start_in s r o =
    let a = o.1 in
    (r.0, r.1, ready_settled (state_of h) q (front_of u) (s.0).3 r.1, (a.0, a.1, ready_answer (state_of h) q (front_of u) (s.0).3 ok start_in r.1 a.0 a.2))
advanced {P} {D} h k ps q query e old u needs answer Blocked ok start_in s r o =
    let nodes : AreNodes q.expr q.start u.nodes.items = subst (λ (x : Scope). AreNodes q.expr x u.nodes.items) (sym (s.0).0) ((s.0).2).node in
    (r.0, r.1, r.2, r.3, blocked_unsettled (state_of h) q (front_of u) (s.0).3 r.2 r.1 r.3, record { rising = o.1; exact = needs_block (state_of h) q u (s.0).3 r.2 r.4 needs (o.2 q.expr q.start nodes) })
advanced {P} {D} h k ps q query e old u needs answer Moved ok start_in s r o =
    (r.0, r.1, r.2, more_items (state_of h) q (front_of u) ((s.0).3).0 ((s.0).3).1 (r.1).0 (r.1).1 (r.1).2)

pub fewer : {D : Type 0} (h : HeldOf D) (k : Wanting D) (ps : List (List Step)) (q : Asked D) (limit : ℕ) (u : Tree D) (p : Progress) → IsSearchIn h k ps q u → IsReply (state_of h) q limit u p → p ≡ Moved → PassesOver h k q ps → MoreThan u.explored (IsKeyedItem h k q)
fewer h k ps q limit u Moved s r e none = more_keyed h k q (front_of u) ((s.0).3).0 ((s.0).3).1 ((s.0).4 none) (r.1).0 (r.1).1 (r.1).2
fewer h k ps q limit u Ready s r e none = absurd (cc e)
fewer h k ps q limit u Blocked s r e none = absurd (cc e)
