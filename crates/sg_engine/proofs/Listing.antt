-- Lists that begin with others, and trees that list on.
use Rattle.std.proofs.Common.{◌≡◌, ℕ, List, [], ◌∷◌, ◌++◌, length, take, refl, sym, ap, ◌∙◌, append_assoc, Option, Some, None}
use Rattle.std.proofs.lemmas.List.{append-nil, take_all, take-append-le}
use Rattle.std.proofs.Common.{arith}
use Rattle.sg_engine.specs.declared.tree.Tree.{Tree}
use Rattle.sg_engine.specs.declared.spent.Spent.{Spent}
use Rattle.sg_engine.specs.Tree.{IsFrontOf, ListsOn, LeadsBack}

module _ {X : Type 0} where
  pub front_same : (xs : List X) → IsFrontOf xs xs
  front_same xs = ([], sym (append-nil xs))

  pub front_is : (xs ys : List X) → ys ≡ xs → IsFrontOf xs ys
  front_is xs ys e = ([], e ∙ sym (append-nil xs))

  pub front_more : (xs ys more : List X) → ys ≡ xs ++ more → IsFrontOf xs ys
  front_more xs ys more e = (more, e)

  pub front_chain : (xs ys zs : List X) → IsFrontOf xs ys → IsFrontOf ys zs → IsFrontOf xs zs
  front_chain xs ys zs a b = (a.0 ++ b.0, b.1 ∙ (ap (λ (t : List X). t ++ b.0) a.1 ∙ append_assoc xs a.0 b.0))

  pub front_push : (xs ys zs : List X) (x : X) → ys ≡ xs ++ zs → IsFrontOf xs (ys ++ x ∷ [])
  front_push xs ys zs x e = front_chain xs ys (ys ++ x ∷ []) (zs, e) (x ∷ [], refl)

  -- the front is what is left of the longer list, cut to the front's length
  pub front_cut : (xs ys : List X) (n : ℕ) → n ≡ length xs → IsFrontOf xs ys → take n ys ≡ xs
  front_cut xs ys n e f =
      ap (λ (k : ℕ). take k ys) e ∙ (ap (λ (t : List X). take (length xs) t) f.1 ∙ (take-append-le (length xs) xs f.0 (omega arith) ∙ take_all (length xs) xs (omega arith)))

module _ {D : Type 0} where
  pub lists_same : (t : Tree D) → ListsOn t t
  lists_same t = record {
    start = refl;
    nodes = front_same t.nodes.items;
    queue = front_same t.queue.items;
    blocked = front_same t.blocked.items;
    found = front_same t.found.items;
  }

  pub lists_chain : (s t u : Tree D) → ListsOn s t → ListsOn t u → ListsOn s u
  lists_chain s t u a b = record {
    start = b.start ∙ a.start;
    nodes = front_chain s.nodes.items t.nodes.items u.nodes.items a.nodes b.nodes;
    queue = front_chain s.queue.items t.queue.items u.queue.items a.queue b.queue;
    blocked = front_chain s.blocked.items t.blocked.items u.blocked.items a.blocked b.blocked;
    found = front_chain s.found.items t.found.items u.found.items a.found b.found;
  }

  pub lists_looked : (s t : Tree D) → t.start ≡ s.start → t.nodes ≡ s.nodes → t.queue ≡ s.queue → t.found ≡ s.found → IsFrontOf s.blocked.items t.blocked.items → ListsOn s t
  lists_looked s t a b c d e = record {
    start = a;
    nodes = front_is s.nodes.items t.nodes.items (ap (λ v. v.items) b);
    queue = front_is s.queue.items t.queue.items (ap (λ v. v.items) c);
    blocked = e;
    found = front_is s.found.items t.found.items (ap (λ v. v.items) d);
  }

  pub back_chain : (s t u : Tree D) (o : Option Spent) → ListsOn s t → LeadsBack t u o → LeadsBack s u o
  back_chain s t u None a b = lists_chain s t u a b
  back_chain s t u (Some spent) a b =
      lists_chain s t (record { start = u.start; nodes = u.nodes; blocked = u.queue; queue = spent.queue; next = u.next; found = u.found; explored = u.explored; going = u.going }) a b
