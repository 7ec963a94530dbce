use Rattle.std.proofs.Common.{◌≡◌, ℕ, ◌<◌, ◌^◌, List, subst, ap, ◌∙◌, slice_index, get_or, length, arith, w64}
use Rattle.std.proofs.lemmas.List.{get_or_read}
use Rattle.std.specs.Int.{trailing_zeros, bit_not}
use Rattle.sg_expr.specs.Laying.{only, AreWithin}
use Rattle.sg_expr.specs.Positions.{PositionsOf}
use Rattle.sg_expr.proofs.Accepting.{both_Has}
use Rattle.sg_expr.proofs.Stepping.{step_none, step_more, step_all, cleared_falls, lowest_Has}
use Rattle.sg_expr.proofs.positions.Positions.step.Goals as goal

pub loop-here-init : goal.loop-here-init
loop-here-init c =
    let p = c.args.self.now in
    let places : c.self.inside.places ≡ p.places = ap (λ (q : PositionsOf). q.places) c.self.view_is in
    let from : c.from.result ≡ c.args.l = c.from.ensures ∙ c.number.ensures.value in
    let here : get_or c.self.inside.places c.from.result 0 ≡ slice_index p.places c.args.l = cc in
    record {
      words = rw here (λ w. step_none p c.args.set c.args.l w);
      within = rw here (λ n h. ((both_Has c.args.set (slice_index p.places c.args.l) n).0 h).1);
    }

pub index-requires : goal.index-requires
index-requires c =
    let fits : c.loop-here.here < 2 ^ 64 = omega arith in
    let at = lowest_Has c.loop-here.here c.loop-here-test.true fits in
    let within = subst (λ (q : PositionsOf). AreWithin q.behind q.places) c.self.view_is c.self.invariant.1 in
    let behind : c.self.inside.behind.items ≡ c.args.self.now.behind = ap (λ (q : PositionsOf). q.behind) c.self.view_is in
    let bound = within c.args.l (trailing_zeros w64 c.loop-here.here) (c.loop-here.invariant.within (trailing_zeros w64 c.loop-here.here) at.1) in
    omega (arith, bound, ap length behind, c.self.inside.behind.ok)

pub loop-here-smaller : goal.loop-here-smaller
loop-here-smaller c =
    let fits : c.loop-here.here < 2 ^ 64 = omega arith in
    let at = lowest_Has c.loop-here.here c.loop-here-test.true fits in
    cleared_falls c.loop-here.here (trailing_zeros w64 c.loop-here.here) at.0 at.1

pub loop-here-preserved : goal.loop-here-preserved
loop-here-preserved c =
    let p = c.args.self.now in
    let here = c.loop-here.here in
    let n : ℕ = trailing_zeros w64 here in
    let fits : c.loop-here.here < 2 ^ 64 = omega arith in
    let at = lowest_Has here c.loop-here-test.true fits in
    let within = subst (λ (q : PositionsOf). AreWithin q.behind q.places) c.self.view_is c.self.invariant.1 in
    let bound = within c.args.l n (c.loop-here.invariant.within n at.1) in
    let behind : c.self.inside.behind.items ≡ p.behind = ap (λ (q : PositionsOf). q.behind) c.self.view_is in
    let read = get_or_read c.self.inside.behind.items n c.index.result.now (omega (arith, bound, ap length behind)) c.index.ensures 0 in
    let next : c.index.result.now ≡ slice_index p.behind n = read ∙ ap (λ (b : List ℕ). slice_index b n) behind in
    record {
      words = rw next (λ w. (
        (λ h. (step_more p c.loop-here.next here n fits at.0 at.1 w).0 ((c.loop-here.invariant.words w).0 h)),
        (λ h. (c.loop-here.invariant.words w).1 ((step_more p c.loop-here.next here n fits at.0 at.1 w).1 h)),
      ));
      within = λ k h. c.loop-here.invariant.within k (((both_Has here (bit_not w64 (only n)) k).0 h).0);
    }

pub returns : goal.returns
returns c = λ w. (
  (λ h. (c.loop-here.invariant.words w).1 (rw c.loop-here-test.false ((step_all c.args.self.now c.loop-here.next w).1 h))),
  (λ h. (step_all c.args.self.now c.loop-here.next w).0 (rw c.loop-here-test.false at ((c.loop-here.invariant.words w).0 h))),
)
