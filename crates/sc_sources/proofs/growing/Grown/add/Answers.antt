use Rattle.std.proofs.Common.{refl, subst}
use Rattle.sc_sources.specs.declared.growing.Grown.{Grown}
use Rattle.sc_sources.specs.declared.source_read.SourceRead.{SourceRead}
use Rattle.sc_sources.specs.Reading.{outcome_of}
use Rattle.sc_sources.specs.Threads.{ComesTo}
use Rattle.sc_sources.proofs.Threads.{tree_grown, fault_grown}
use Rattle.sc_sources.proofs.growing.Grown.add.Goals as goal

pub returns-in_ok-push-in-Tree : goal.returns-in_ok-push-in-Tree
returns-in_ok-push-in-Tree c = λ first items is at.
    let made : Grown = record { units = c.push.new.self; faults = c.args.self.now.faults } in
    tree_grown first items c.args.item.now c.args.self.now made is c.in-Tree.unit (subst (λ (z : SourceRead). ComesTo c.args.item.now (outcome_of z)) c.in-Tree.is c.in_ok-unit.ensures.comes)
    c.in_ok-push-in-Tree.ensures.items refl

pub returns-in_ok-add-in-Fault : goal.returns-in_ok-add-in-Fault
returns-in_ok-add-in-Fault c = λ first items is at.
    let made : Grown = record { units = c.args.self.now.units; faults = c.add.new.self } in
    fault_grown first items c.args.item.now c.args.self.now made is c.args.number c.in-Fault.at c.in-Fault.code at
    (subst (λ (z : SourceRead). ComesTo c.args.item.now (outcome_of z)) c.in-Fault.is c.in_ok-unit.ensures.comes) refl c.in_ok-add-in-Fault.ensures.ok
