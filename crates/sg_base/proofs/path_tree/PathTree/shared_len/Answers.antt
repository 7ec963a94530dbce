use Rattle.std.proofs.Common.{◌≡◌, ◌≤◌, ◌⊎◌, ℕ, inl, inr, List, [], ◌∷◌, length, min, refl, sym, ap, ◌∙◌, arith}
use Rattle.std.proofs.lemmas.Bool.{cases_lt, not-true, not-false}
use Rattle.sg_base.specs.declared.step.Step.{Step}
use Rattle.sg_base.specs.Path.{shared_len}
use Rattle.sg_base.specs.PathTree.{path_at}
use Rattle.sg_base.proofs.Sharing.{cut_alike, cut_apart, up_alike, up_other, up_apart, shared_same}
use Rattle.sg_base.proofs.Trees.{up_long}
use Rattle.sg_base.proofs.path_tree.PathTree.shared_len.Goals as goal

shorter : (m n k : ℕ) → k ≡ min m n → (m ≤ k) ⊎ (n ≤ k)
shorter m n k e = elim (cases_lt m n) [ inl h ↦ inl (omega (arith, e, h)) | inr h ↦ inr (omega (arith, e, h)) ]

pub loop-i-init : goal.loop-i-init
loop-i-init c =
    let ps = path_at c.args.self.now.paths in
    let f = c.front-i.ensures in
    let g = c.front-j.ensures in
    let long : length (ps c.front-i.result.0) ≡ length (ps c.front-j.result.0) = f.len ∙ sym g.len in
    let ends = shorter (length (ps c.args.p)) (length (ps c.args.q)) (length (ps c.front-i.result.0)) (omega (arith, f.len, c.min-len.ensures, c.steps_len.ensures, c.steps_len-2.ensures)) in
    record {
      first = omega (arith, f.place, c.requires.first);
      second = omega (arith, g.place, c.requires.second);
      long = long;
      alike = λ s. cut_alike (ps c.args.p) (ps c.args.q) (ps c.front-i.result.0) (ps c.front-j.result.0) f.rest.0 g.rest.0 long f.rest.1 g.rest.1 ends s ∙ f.len;
      apart = cut_apart (ps c.args.p) (ps c.args.q) (ps c.front-i.result.0) (ps c.front-j.result.0) f.rest.0 g.rest.0 long f.rest.1 g.rest.1;
    }

pub loop-i-preserved-then-ne : goal.loop-i-preserved-then-ne
loop-i-preserved-then-ne c =
    let i = c.loop-i.invariant in
    let ps = path_at c.args.self.now.paths in
    let a = c.in-Some.ensures in
    let b = c.in-Some-last.ensures in
    let long = up_long (ps c.loop-i.i) (ps c.loop-i.j) (ps c.in-Some.a) (ps c.in-Some-last.b) c.in-Some.x c.in-Some-last.y i.long a.1 b.1 in
    record {
      first = omega (arith, a.0, i.first);
      second = omega (arith, b.0, i.second);
      long = long;
      alike = λ s. up_other (shared_len (ps c.args.p) (ps c.args.q)) c.loop-i.same (ps c.loop-i.i) (ps c.loop-i.j) (ps c.in-Some.a) (ps c.in-Some-last.b) c.in-Some.x c.in-Some-last.y long a.1 b.1 i.alike i.apart (not-true _ (sym c.ne.ensures ∙ c.if-ne.true)) s ∙ sym c.steps_len-same.ensures;
      apart = up_apart (shared_len (ps c.args.p) (ps c.args.q)) c.loop-i.same (ps c.loop-i.i) (ps c.loop-i.j) (ps c.in-Some.a) (ps c.in-Some-last.b) c.in-Some.x c.in-Some-last.y long a.1 b.1 i.alike i.apart;
    }

pub loop-i-preserved : goal.loop-i-preserved
loop-i-preserved c =
    let i = c.loop-i.invariant in
    let ps = path_at c.args.self.now.paths in
    let a = c.in-Some.ensures in
    let b = c.in-Some-last.ensures in
    let long = up_long (ps c.loop-i.i) (ps c.loop-i.j) (ps c.in-Some.a) (ps c.in-Some-last.b) c.in-Some.x c.in-Some-last.y i.long a.1 b.1 in
    record {
      first = omega (arith, a.0, i.first);
      second = omega (arith, b.0, i.second);
      long = long;
      alike = up_alike (shared_len (ps c.args.p) (ps c.args.q)) c.loop-i.same (ps c.loop-i.i) (ps c.loop-i.j) (ps c.in-Some.a) (ps c.in-Some-last.b) c.in-Some.x c.in-Some-last.y long a.1 b.1 i.alike i.apart (not-false _ (sym c.ne.ensures ∙ c.if-ne.false));
      apart = up_apart (shared_len (ps c.args.p) (ps c.args.q)) c.loop-i.same (ps c.loop-i.i) (ps c.loop-i.j) (ps c.in-Some.a) (ps c.in-Some-last.b) c.in-Some.x c.in-Some-last.y long a.1 b.1 i.alike i.apart;
    }

pub returns-in-None : goal.returns-in-None
returns-in-None c =
    let i = c.loop-i.invariant in
    let ps = path_at c.args.self.now.paths in
    let left : length (ps c.loop-i.i) ≡ 0 = ap length c.in-None.ensures in
    sym (i.alike (none (ps c.loop-i.i) (ps c.loop-i.j) left))
  where
    none : (us vs : List Step) → length us ≡ 0 → shared_len us vs ≡ length us
    none [] vs l = refl
    none (u ∷ us) vs l = absurd (omega (arith, l))

pub returns-in-None-last : goal.returns-in-None-last
returns-in-None-last c =
    let i = c.loop-i.invariant in
    let ps = path_at c.args.self.now.paths in
    sym (i.alike (none (ps c.loop-i.i) (ps c.loop-i.j) (i.long ∙ ap length c.in-None-last.ensures)))
  where
    none : (us vs : List Step) → length us ≡ 0 → shared_len us vs ≡ length us
    none [] vs l = refl
    none (u ∷ us) vs l = absurd (omega (arith, l))

pub returns : goal.returns
returns c =
    let i = c.loop-i.invariant in
    let ps = path_at c.args.self.now.paths in
    sym (i.alike (ap (λ (k : ℕ). shared_len (ps c.loop-i.i) (ps k)) (sym c.loop-i-test.false) ∙ shared_same (ps c.loop-i.i)))
