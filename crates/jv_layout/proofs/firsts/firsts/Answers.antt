use Rattle.std.proofs.Common.{◌≡◌, ℕ, ◌<◌, ◌+◌, length, List, ap, ◌∙◌, sym, subst, arith}
use Rattle.std.specs.Prelude.{All, not}
use Rattle.std.specs.List.{filter}
use Rattle.jv_layout.specs.Keys.{is_first}
use Rattle.jv_layout.specs.Skeleton.{below}
use Rattle.jv_layout.proofs.Declaring.{length-told, in_keys, first_where_down, later_where_up}
use Rattle.jv_layout.proofs.Keying.{kept_one, kept_none, places_one, places_none}
use Rattle.jv_layout.proofs.firsts.firsts.Goals as goal
use Rattle.jv_layout.proofs.firsts.firsts.Goals.{then-not-is_repeat+in_ok-push, else-not-is_repeat}

pub overflow_cast-place : goal.overflow_cast-place
overflow_cast-place c =
    let inside = in_keys c.args.keys.now c.deref-is_repeat-items.result.now c.loop-place.invariant.repeats c.loop-place.place c.loop-place-test.true in
    omega (arith, inside, c.requires)

pub loop-place-preserved : goal.loop-place-preserved
loop-place-preserved c =
    let keys = c.args.keys.now in
    let flags = c.deref-is_repeat-items.result.now in
    let i = c.loop-place.place in
    let is = c.loop-place.invariant.repeats in
    record {
      repeats = is;
      firsts = elim c.if-not-is_repeat.branch [
        | then-not-is_repeat+in_ok-push w ↦ kept_one (is_first keys) i c.loop-place.firsts.items c.if-not-is_repeat.firsts.items (first_where_down keys flags is i c.loop-place-test.true w.if-not-is_repeat.true) (ap (λ v. v.items) w.firsts-is ∙ w.in_ok-push.ensures.items) c.loop-place.invariant.firsts
        | else-not-is_repeat w ↦ ap (λ v. v.items) w.firsts-is ∙ kept_none (is_first keys) i c.loop-place.firsts.items (later_where_up keys flags is i c.loop-place-test.true w.if-not-is_repeat.false) c.loop-place.invariant.firsts
      ];
      places = elim c.if-not-is_repeat.branch [
        | then-not-is_repeat+in_ok-push w ↦ places_one i c.loop-place.firsts.items c.if-not-is_repeat.firsts.items (ap (λ v. v.items) w.firsts-is ∙ w.in_ok-push.ensures.items) c.loop-place.invariant.places
        | else-not-is_repeat w ↦ subst (λ (z : List ℕ). All (λ j. j < c.loop-place.place + 1) z) (sym (ap (λ v. v.items) w.firsts-is)) (places_none i c.loop-place.firsts.items c.loop-place.invariant.places)
      ];
    }

pub returns-clause-value : goal.returns-clause-value
returns-clause-value c =
    let keys = c.args.keys.now in
    let long = length-told (λ j. not (is_first keys j)) (length keys) c.deref-is_repeat-items.result.now c.loop-place.invariant.repeats in
    let ends : c.loop-place.place ≡ length keys = omega (arith, long, c.loop-place-test.false, c.loop-place.auto.place-end) in
    c.loop-place.invariant.firsts ∙ ap (λ (n : ℕ). filter (is_first keys) (below n)) ends

pub returns-clause-places : goal.returns-clause-places
returns-clause-places c =
    let keys = c.args.keys.now in
    let long = length-told (λ j. not (is_first keys j)) (length keys) c.deref-is_repeat-items.result.now c.loop-place.invariant.repeats in
    let ends : c.loop-place.place ≡ length keys = omega (arith, long, c.loop-place-test.false, c.loop-place.auto.place-end) in
    subst (λ (n : ℕ). All (λ j. j < n) c.loop-place.firsts.items) ends c.loop-place.invariant.places
