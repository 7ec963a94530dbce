use Rattle.std.proofs.Common.{[], ◌∷◌, ◌+◌, take, get_or, arith, subst, List}
use Rattle.std.proofs.lemmas.List.{take_all}
use Rattle.sg_base.specs.declared.scope.Scope.{Scope}
use Rattle.sg_state.specs.Freed.{Adds, IsFreeRow, IsFreeDatum, holds_of}
use Rattle.sg_state.proofs.Ending.{taken_more}
use Rattle.sg_state.proofs.FreeNeeds.{adds_more, rows_more, data_more, rows_before, data_before, are_free, both_free}
use Rattle.sg_state.proofs.freed.needs.Goals as goal

pub add_at-requires-clause-rows_before : goal.add_at-requires-clause-rows_before
add_at-requires-clause-rows_before g c =
    let h = holds_of c.args.places.now.entries in
    λ n m. rows_before h c.args.unit c.args.list.now c.loop-s.s-index _ c.requires.rising c.loop-s-test.true n (are_free c.loop-s.rows.items (IsFreeRow h c.args.unit (take c.loop-s.s-index c.args.list.now)) c.loop-s.invariant.0 n m)

pub add_at-requires-clause-unset_before : goal.add_at-requires-clause-unset_before
add_at-requires-clause-unset_before g c =
    let h = holds_of c.args.places.now.entries in
    λ n m. data_before h c.args.unit c.args.list.now c.loop-s.s-index _ c.requires.rising c.loop-s-test.true n (are_free c.loop-s.unset.items (IsFreeDatum h c.args.unit (take c.loop-s.s-index c.args.list.now)) c.loop-s.invariant.1 n m)

pub loop-s-preserved : goal.loop-s-preserved
loop-s-preserved g c =
    let h = holds_of c.args.places.now.entries in
    let u = c.args.unit in
    let done = take c.loop-s.s-index c.args.list.now in
    let more = take (c.loop-s.s-index + 1) c.args.list.now in
    let s : Scope = get_or c.args.list.now c.loop-s.s-index (record { unit = 0; serial = 0 }) in
    let taken = taken_more c.args.list.now c.loop-s.s-index (record { unit = 0; serial = 0 }) c.loop-s-test.true in (
      adds_more [] c.loop-s.rows.items c.add_at.new.rows.items (IsFreeRow h u done) (IsFreeRow h u (s ∷ [])) (IsFreeRow h u more) c.loop-s.invariant.0 c.in_ok-add_at.ensures.rows (rows_more h u done more s taken),
      adds_more [] c.loop-s.unset.items c.add_at.new.unset.items (IsFreeDatum h u done) (IsFreeDatum h u (s ∷ [])) (IsFreeDatum h u more) c.loop-s.invariant.1 c.in_ok-add_at.ensures.unset (data_more h u done more s taken),
    )

pub returns : goal.returns
returns g c =
    let h = holds_of c.args.places.now.entries in
    let u = c.args.unit in
    let all = take_all c.loop-s.s-index c.args.list.now (omega (arith, c.loop-s-test.false)) in
    rw (c.in_ok-extend_from_slice.ensures.items, c.deref.ensures.value)
    (both_free h u c.args.list.now c.loop-s.rows.items c.loop-s.unset.items
    (subst (λ (xs : List Scope). Adds [] c.loop-s.rows.items (IsFreeRow h u xs)) all c.loop-s.invariant.0)
    (subst (λ (xs : List Scope). Adds [] c.loop-s.unset.items (IsFreeDatum h u xs)) all c.loop-s.invariant.1))
