use Rattle.std.proofs.Common.{◌≡◌, ℕ, ◌⊎◌, inl, inr, ◌∷◌, length, sym, ap, ◌∙◌, arith, min}
use Rattle.std.proofs.lemmas.Bool.{cases_lt}
use Rattle.sg_base.specs.PathTree.{path_at}
use Rattle.sg_order.specs.Order.{precedes}
use Rattle.sg_order.proofs.PlaceLemmas.{Before-fronts, up_rest, up_long, both_none, one_rest}
use Rattle.sg_order.proofs.order.Order.place_before.Goals as goal

least : (m n k : ℕ) → k ≡ min m n → (m ≡ k) ⊎ (n ≡ k)
least m n k e = elim (cases_lt m n) [ inl h ↦ inl (omega (arith, e, h)) | inr h ↦ inr (omega (arith, e, h)) ]

cut : (m n k l : ℕ) → k ≡ min m n → l ≡ k → (m ≡ k) ⊎ (n ≡ l)
cut m n k l e f = elim (least m n k e) [ inl a ↦ inl a | inr b ↦ inr (omega (arith, b, f)) ]

pub loop-i-init : goal.loop-i-init
loop-i-init c =
    let ps = path_at c.args.tree.now.paths in
    let f = c.front-i.ensures in
    let g = c.front-j.ensures in
    let i = c.front-i.result.0 in
    let j = c.front-j.result.0 in
    let one = one_rest (ps c.args.p) (ps c.args.q) (ps i) (ps j) f.rest.0 g.rest.0 f.rest.1 g.rest.1 (cut (length (ps c.args.p)) (length (ps c.args.q)) (length (ps i)) (length (ps j)) (omega (arith, f.len, c.min-shared.ensures, c.steps_len-m.ensures, c.steps_len-n.ensures)) (g.len ∙ sym f.len)) in (
      omega (arith, f.place, c.requires.first),
      omega (arith, g.place, c.requires.second),
      f.len ∙ sym g.len,
      (f.rest.0, g.rest.0, f.rest.1, g.rest.1, c.longer_before-before.ensures f.rest.0 g.rest.0 f.rest.2 g.rest.2 one),
    )

pub last-requires : goal.last-requires
last-requires c = c.loop-i.invariant.0

pub returns-in-None : goal.returns-in-None
returns-in-None c =
    let inv = c.loop-i.invariant in
    let ps = path_at c.args.tree.now.paths in
    Before-fronts (precedes c.args.self.now) c.loop-i.before (ps c.args.p) (ps c.args.q) (ps c.loop-i.i) (ps c.loop-i.j) inv.3.0 inv.3.1 (both_none (ps c.loop-i.i) (ps c.loop-i.j) c.in-None.ensures inv.2) inv.3.2 inv.3.3 inv.3.4

pub last-requires-in-Some : goal.last-requires-in-Some
last-requires-in-Some c = c.loop-i.invariant.1

pub returns-in-None-last : goal.returns-in-None-last
returns-in-None-last c =
    let inv = c.loop-i.invariant in
    let ps = path_at c.args.tree.now.paths in
    Before-fronts (precedes c.args.self.now) c.loop-i.before (ps c.args.p) (ps c.args.q) (ps c.loop-i.i) (ps c.loop-i.j) inv.3.0 inv.3.1 (sym (both_none (ps c.loop-i.j) (ps c.loop-i.i) c.in-None-last.ensures (sym inv.2))) inv.3.2 inv.3.3 inv.3.4

pub loop-i-smaller : goal.loop-i-smaller
loop-i-smaller c = (c.in-Some.ensures).0

pub loop-i-preserved : goal.loop-i-preserved
loop-i-preserved c =
    let inv = c.loop-i.invariant in
    let ps = path_at c.args.tree.now.paths in
    let a = c.in-Some.ensures in
    let b = c.in-Some-last.ensures in (
      omega (arith, a.0, inv.0),
      omega (arith, b.0, inv.1),
      up_long (ps c.loop-i.i) (ps c.loop-i.j) (ps c.in-Some.a) (ps c.in-Some-last.b) c.in-Some.x c.in-Some-last.y inv.2 a.1 b.1,
      (
        c.in-Some.x ∷ inv.3.0,
        c.in-Some-last.y ∷ inv.3.1,
        up_rest (ps c.args.p) (ps c.loop-i.i) (ps c.in-Some.a) inv.3.0 c.in-Some.x inv.3.2 a.1,
        up_rest (ps c.args.q) (ps c.loop-i.j) (ps c.in-Some-last.b) inv.3.1 c.in-Some-last.y inv.3.3 b.1,
        c.step_before-before.ensures inv.3.0 inv.3.1 inv.3.4,
      ),
    )

pub returns : goal.returns
returns c =
    let inv = c.loop-i.invariant in
    let ps = path_at c.args.tree.now.paths in
    Before-fronts (precedes c.args.self.now) c.loop-i.before (ps c.args.p) (ps c.args.q) (ps c.loop-i.i) (ps c.loop-i.j) inv.3.0 inv.3.1 (ap ps c.loop-i-test.false) inv.3.2 inv.3.3 inv.3.4
