use Rattle.std.proofs.Common.{sym}
use Rattle.sg_base.proofs.Rows.{on_err}
use Rattle.sg_state.proofs.ByPlace.{indexed_written}
use Rattle.sg_state.proofs.OwnParts.{adds_first, are_parts, own_first, own_adds, own_keeps, all_adds, all_keeps, own_more, more_adds}
use Rattle.sg_state.proofs.parts.Parts.put.Goals as goal

pub put-requires : goal.put-requires
put-requires c = record { parts = are_parts c.self.inside.found.all.items c.self.invariant.0 c.scope-s.result (c.index_mut.result.now).1 (c.in-Some.ensures.found.found c.index_mut.result.now c.index_mut.ensures.value) }

pub invariant_of-self : goal.invariant_of-self
invariant_of-self c =
    rw (c.in-Some.ensures.found.written c.index_mut.result.now c.put.new.self c.index_mut.ensures.value) (
      own_keeps c.self.inside.found.all.items c.self.invariant.0 c.scope-s.result (c.index_mut.result.now).1 (c.in-Some.ensures.found.found c.index_mut.result.now c.index_mut.ensures.value) c.put.new.self c.in_err-put-in-Some.ensures.parts c.args.part c.args.to (sym c.scope-s.ensures) c.in_err-put-in-Some.ensures.err,
      indexed_written c.self.inside.found.index c.self.inside.found.all.items c.self.invariant.1 c.scope-s.result c.put.new.self,
    )

pub returns-in_err-put-in-Some-clause-err : goal.returns-in_err-put-in-Some-clause-err
returns-in_err-put-in-Some-clause-err c =
    on_err c.from_residual.result (rw ((c.in-Some.ensures.found.written c.index_mut.result.now c.put.new.self c.index_mut.ensures.value), ← c.self.view_is) (all_keeps c.self.inside.found.all.items c.self.invariant.0 c.scope-s.result (c.index_mut.result.now).1 (c.in-Some.ensures.found.found c.index_mut.result.now c.index_mut.ensures.value) c.put.new.self c.in_err-put-in-Some.ensures.parts c.args.part c.args.to (sym c.scope-s.ensures) c.in_err-put-in-Some.ensures.err))

pub invariant_of-self-in-Some : goal.invariant_of-self-in-Some
invariant_of-self-in-Some c =
    rw (c.in-Some.ensures.found.written c.index_mut.result.now c.put.new.self c.index_mut.ensures.value) (
      own_adds c.self.inside.found.all.items c.self.invariant.0 c.scope-s.result (c.index_mut.result.now).1 (c.in-Some.ensures.found.found c.index_mut.result.now c.index_mut.ensures.value) c.put.new.self c.in_ok-put-in-Some.ensures.parts c.args.part c.args.to (sym c.scope-s.ensures) c.in_ok-put-in-Some.ensures.ok,
      indexed_written c.self.inside.found.index c.self.inside.found.all.items c.self.invariant.1 c.scope-s.result c.put.new.self,
    )

pub returns-in_ok-put-in-Some-clause-ok : goal.returns-in_ok-put-in-Some-clause-ok
returns-in_ok-put-in-Some-clause-ok c =
    rw ((c.in-Some.ensures.found.written c.index_mut.result.now c.put.new.self c.index_mut.ensures.value), ← c.self.view_is) (all_adds c.self.inside.found.all.items c.self.invariant.0 c.scope-s.result (c.index_mut.result.now).1 (c.in-Some.ensures.found.found c.index_mut.result.now c.index_mut.ensures.value) c.put.new.self c.in_ok-put-in-Some.ensures.parts c.args.part c.args.to (sym c.scope-s.ensures) c.in_ok-put-in-Some.ensures.ok)

pub returns-in_err-insert-in-None-clause-err : goal.returns-in_err-insert-in-None-clause-err
returns-in_err-insert-in-None-clause-err c =
    on_err c.from_residual-in_err-insert-in-None.result (rw (c.in_err-insert-in-None.ensures.err, ← c.self.view_is) (λ p t. ((λ h. h), (λ h. h))))

pub invariant_of-self-in-None : goal.invariant_of-self-in-None
invariant_of-self-in-None c = (
  rw c.in_ok-insert-in-None.ensures.ok (own_more c.self.inside.found.all.items c.self.invariant.0 c.scope-s.result c.in-None.ensures.none c.put-in-None.new.self c.in_ok-put-in-None.ensures.parts (own_first c.put-in-None.new.self c.scope-s.result c.args.part c.args.to (sym c.scope-s.ensures) (adds_first c.new-parts.result.all.items c.put-in-None.new.self c.args.part c.args.to c.new-parts.ensures.none c.in_ok-put-in-None.ensures.ok))),
  c.in_ok-insert-in-None.ensures.indexed,
)

pub returns-in_ok-insert-in-None-clause-ok : goal.returns-in_ok-insert-in-None-clause-ok
returns-in_ok-insert-in-None-clause-ok c =
    rw (c.in_ok-insert-in-None.ensures.ok, ← c.self.view_is) (more_adds c.self.inside.found.all.items c.self.invariant.0 c.scope-s.result c.in-None.ensures.none c.put-in-None.new.self c.in_ok-put-in-None.ensures.parts (own_first c.put-in-None.new.self c.scope-s.result c.args.part c.args.to (sym c.scope-s.ensures) (adds_first c.new-parts.result.all.items c.put-in-None.new.self c.args.part c.args.to c.new-parts.ensures.none c.in_ok-put-in-None.ensures.ok)) c.args.part c.args.to (adds_first c.new-parts.result.all.items c.put-in-None.new.self c.args.part c.args.to c.new-parts.ensures.none c.in_ok-put-in-None.ensures.ok))
