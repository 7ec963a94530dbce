use Rattle.std.proofs.Common.{List, [], ◌∷◌, ◌++◌, length, refl, sym, ap, ◌∙◌, append_assoc, length-append, arith}
use Rattle.std.proofs.lemmas.List.{append-nil}
use Rattle.sg_base.specs.declared.step.Step.{Step}
use Rattle.sg_base.specs.PathTree.{path_at}
use Rattle.sg_base.proofs.path_tree.PathTree.front.Goals as goal

pub loop-at-init : goal.loop-at-init
loop-at-init c = (omega arith, c.requires.within, ([], sym (append-nil _), refl))

pub steps_len-requires : goal.steps_len-requires
steps_len-requires c = omega (arith, c.loop-at.invariant.0, c.requires.there)

pub last-requires : goal.last-requires
last-requires c = omega (arith, c.loop-at.invariant.0, c.requires.there)

pub loop-at-smaller-in-Some : goal.loop-at-smaller-in-Some
loop-at-smaller-in-Some c = c.in-Some.ensures.0

pub loop-at-preserved-in-Some : goal.loop-at-preserved-in-Some
loop-at-preserved-in-Some c =
    let inv = c.loop-at.invariant in
    let up = c.in-Some.ensures in
    let ps = path_at c.args.self.now.paths in
    let longer = c.loop-at-test.true in (
      omega (arith, up.0, inv.0),
      omega (arith, ap length up.1, length-append (ps c.in-Some.before) (c.in-Some.step ∷ []), longer, c.steps_len.ensures),
      (c.in-Some.step ∷ inv.2.0, inv.2.1 ∙ (ap (λ (t : List Step). t ++ inv.2.0) up.1 ∙ append_assoc (ps c.in-Some.before) (c.in-Some.step ∷ []) inv.2.0), (inv.2.0, refl)),
    )

pub loop-at-preserved : goal.loop-at-preserved
loop-at-preserved c = absurd (omega (arith, ap length c.in_default.ensures, c.loop-at-test.true, c.steps_len.ensures))

pub returns-clause-place : goal.returns-clause-place
returns-clause-place c = c.loop-at.invariant.0

pub returns-clause-len : goal.returns-clause-len
returns-clause-len c = omega (arith, c.loop-at.invariant.1, c.loop-at-test.false, c.steps_len.ensures)

pub returns-clause-rest : goal.returns-clause-rest
returns-clause-rest c = c.loop-at.invariant.2
