use Rattle.std.proofs.Common.{refl, sym}
use Rattle.sg_state.proofs.ByHash.{part_adds}
use Rattle.sg_state.proofs.FewParts.{parts_written, parts_adds}
use Rattle.sg_state.proofs.scope_parts.ScopeParts.put.Goals as goal

pub returns-in_ok-insert-in-Some-clause-ok : goal.returns-in_ok-insert-in-Some-clause-ok
returns-in_ok-insert-in-Some-clause-ok c =
    rw (c.in-Some.ensures.found.written c.index_mut.result.now c.insert.new.self c.index_mut.ensures.value) (part_adds c.args.self.now.all.items c.requires.parts.once c.args.part (c.index_mut.result.now).1 (sym (c.in-Some.ensures.found.found c.index_mut.result.now c.index_mut.ensures.value)) c.insert.new.self c.args.to c.in_ok-insert-in-Some.ensures.ok)

pub returns-in_ok-insert-in-Some-clause-parts : goal.returns-in_ok-insert-in-Some-clause-parts
returns-in_ok-insert-in-Some-clause-parts c = parts_written c.args.self.now c.requires.parts c.args.part c.insert.new.self _ (c.in-Some.ensures.found.written c.index_mut.result.now c.insert.new.self c.index_mut.ensures.value) refl

pub returns-in_ok-push-in-None-clause-ok : goal.returns-in_ok-push-in-None-clause-ok
returns-in_ok-push-in-None-clause-ok c =
    let more = rw c.new-targets.ensures at c.in_ok-insert-in-None.ensures.ok in
    rw c.in_ok-push-in-None.ensures.ok (parts_adds c.args.self.now c.requires.parts c.args.part c.insert-in-None.new.self c.in-None.ensures.none c.args.to more)
