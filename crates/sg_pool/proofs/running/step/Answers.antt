use Rattle.std.proofs.Common.{◌≡◌, true, false, inl, inr, ap, ◌∙◌, arith}
use Rattle.sg_pool.proofs.running.step.Goals as goal

pub invariant_of-running : goal.invariant_of-running
invariant_of-running g c =
    let was = c.running.invariant (ap (λ r. r.failed) c.running.view_is ∙ c.requires.goes_on.0) in
    let longer = c.in-Ok.ensures.longer in
    λ _. (
      c.in-Ok.ensures.unspent,
      omega (arith, was.1, longer.0),
      omega (arith, was.1, longer.0, longer.1),
      c.in-Ok.ensures.driven,
      (λ e. elim (c.meets_stuck-stuck.ensures.met e) [ inl s ↦ c.in-Ok.ensures.met (was.4 s) | inr s ↦ c.in-Ok.ensures.stuck s ]),
    )

pub invariant_of-running-in-Err : goal.invariant_of-running-in-Err
invariant_of-running-in-Err g c = λ e. absurd (let f : true ≡ false = e in cc)
