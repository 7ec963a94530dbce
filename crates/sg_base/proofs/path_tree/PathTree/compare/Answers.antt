use Rattle.std.proofs.Common.{◌≡◌, ◌≤◌, ℕ, nat_cmp, ◌⊎◌, inl, inr, List, [], ◌∷◌, length, refl, sym, ap, ◌∙◌, arith, min}
use Rattle.std.proofs.lemmas.Bool.{cases_lt}
use Rattle.std.specs.Cmp.Lexicographic.{slice_cmp}
use Rattle.std.specs.Ordering.{ordering_then}
use Rattle.std.specs.declared.cmp.Ordering.{Ordering}
use Rattle.sg_base.specs.declared.step.Step.{Step}
use Rattle.sg_base.specs.Path.{step_cmp}
use Rattle.sg_base.specs.PathTree.{path_at}
use Rattle.sg_base.proofs.Trees.{cmp_cut, cmp_same, cmp_up, up_long, cmp_nil}
use Rattle.sg_base.proofs.path_tree.PathTree.compare.Goals as goal

shorter : (xs ys : List Step) (k : ℕ) → (length xs ≡ k) ⊎ (length ys ≡ k) → (length xs ≤ k) ⊎ (length ys ≤ k)
shorter xs ys k (inl e) = inl (omega (arith, e))
shorter xs ys k (inr e) = inr (omega (arith, e))

least : (m n k : ℕ) → k ≡ min m n → (m ≡ k) ⊎ (n ≡ k)
least m n k e = elim (cases_lt m n) [ inl h ↦ inl (omega (arith, e, h)) | inr h ↦ inr (omega (arith, e, h)) ]

pub loop-i-init : goal.loop-i-init
loop-i-init c =
    let ps = path_at c.args.self.now.paths in
    let f = c.front-i.ensures in
    let g = c.front-j.ensures in (
      omega (arith, f.place, c.requires.first),
      omega (arith, g.place, c.requires.second),
      f.len ∙ sym g.len,
      cmp_cut (ps c.args.p) (ps c.args.q) (ps c.front-i.result.0) (ps c.front-j.result.0) f.rest.0 g.rest.0 (f.len ∙ sym g.len) f.rest.1 g.rest.1 (shorter (ps c.args.p) (ps c.args.q) (length (ps c.front-i.result.0)) (least (length (ps c.args.p)) (length (ps c.args.q)) (length (ps c.front-i.result.0)) (omega (arith, f.len, c.min-shared.ensures, c.steps_len-m.ensures, c.steps_len-n.ensures)))) ∙ ap (ordering_then (slice_cmp step_cmp (ps c.front-i.result.0) (ps c.front-j.result.0))) (sym (c.cmp-rest.ensures ∙ (ap (λ (n : ℕ). nat_cmp n c.steps_len-n.result) c.steps_len-m.ensures ∙ ap (nat_cmp (length (ps c.args.p))) c.steps_len-n.ensures))),
    )

pub last-requires : goal.last-requires
last-requires c = c.loop-i.invariant.0

pub returns-in-None : goal.returns-in-None
returns-in-None c =
    let inv = c.loop-i.invariant in
    sym (inv.3 ∙ ap (λ (o : Ordering). ordering_then o c.loop-i.rest) (cmp_nil (path_at c.args.self.now.paths c.loop-i.i) (path_at c.args.self.now.paths c.loop-i.j) (c.in-None.ensures) inv.2))

pub last-requires-in-Some : goal.last-requires-in-Some
last-requires-in-Some c = c.loop-i.invariant.1

pub returns-in-None-last : goal.returns-in-None-last
returns-in-None-last c =
    let inv = c.loop-i.invariant in
    let none = c.in-None-last.ensures in
    let left : path_at c.args.self.now.paths c.loop-i.i ≡ [] = no_steps (path_at c.args.self.now.paths c.loop-i.i) (inv.2 ∙ ap length none) in
    sym (inv.3 ∙ ap (λ (o : Ordering). ordering_then o c.loop-i.rest) (cmp_nil (path_at c.args.self.now.paths c.loop-i.i) (path_at c.args.self.now.paths c.loop-i.j) left inv.2))
  where
    no_steps : (xs : List Step) → length xs ≡ 0 → xs ≡ []
    no_steps [] l = refl
    no_steps (x ∷ xs) l = absurd (omega (arith, l))

pub loop-i-smaller : goal.loop-i-smaller
loop-i-smaller c = (c.in-Some.ensures).0

pub loop-i-preserved : goal.loop-i-preserved
loop-i-preserved c =
    let inv = c.loop-i.invariant in
    let ps = path_at c.args.self.now.paths in
    let a = c.in-Some.ensures in
    let b = c.in-Some-last.ensures in
    let long = up_long (ps c.loop-i.i) (ps c.loop-i.j) (ps c.in-Some.a) (ps c.in-Some-last.b) c.in-Some.x c.in-Some-last.y inv.2 a.1 b.1 in (
      omega (arith, a.0, inv.0),
      omega (arith, b.0, inv.1),
      long,
      cmp_up (slice_cmp step_cmp (ps c.args.p) (ps c.args.q)) (ps c.loop-i.i) (ps c.loop-i.j) (ps c.in-Some.a) (ps c.in-Some-last.b) c.in-Some.x c.in-Some-last.y c.loop-i.rest inv.2 a.1 b.1 inv.3 long
          ∙ ap (ordering_then (slice_cmp step_cmp (ps c.in-Some.a) (ps c.in-Some-last.b))) (sym (c.then-rest.ensures ∙ ap (λ (o : Ordering). ordering_then o c.loop-i.rest) c.cmp.ensures)),
    )

pub returns : goal.returns
returns c =
    let inv = c.loop-i.invariant in
    let ps = path_at c.args.self.now.paths in
    sym (inv.3 ∙ ap (λ (o : Ordering). ordering_then o c.loop-i.rest) (ap (λ (k : ℕ). slice_cmp step_cmp (ps c.loop-i.i) (ps k)) (sym c.loop-i-test.false) ∙ cmp_same (ps c.loop-i.i)))
