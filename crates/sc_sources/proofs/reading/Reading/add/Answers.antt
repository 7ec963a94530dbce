use Rattle.std.proofs.Common.{ℕ, ◌+◌, List, [], ◌∷◌, ◌++◌, refl, sym, subst}
use Rattle.jv_tree.specs.DeclTree.{tree_of}
use Rattle.sc_sources.specs.declared.reading.Reading.{Reading}
use Rattle.sc_sources.specs.declared.source_read.SourceRead.{SourceRead}
use Rattle.sc_sources.specs.Sources.{Reads, tree, fault}
use Rattle.sc_sources.specs.Reading.{IsReading, outcome_of}
use Rattle.sc_sources.proofs.Readings.{tree_read, fault_read}
use Rattle.sc_sources.proofs.reading.Reading.add.Goals as goal
use Rattle.sc_sources.proofs.reading.Reading.add.Goals.{in-Tree+in_ok-push-in-Tree, in-Fault+in_ok-add-in-Fault}

pub returns : goal.returns
returns c = λ sources is.
    let old : Reading = c.args.self.now in
    let bytes : List ℕ = c.args.source.now in
    let names : List (List ℕ) = c.read_source.new.names in
    elim c.match-branch-2.branch [
      | in-Tree+in_ok-push-in-Tree w ↦
          let made : Reading = record { names = names; units = w.push.new.self; faults = old.faults; files = old.files + 1 } in
          let reads : Reads bytes old.names names (tree (tree_of w.in-Tree.unit)) = subst (λ (z : SourceRead). Reads bytes old.names names (outcome_of z)) w.in-Tree.is c.in_ok-unit.ensures.reads in
          let so_far : IsReading (sources ++ bytes ∷ []) made = tree_read sources bytes old made is refl w.in-Tree.unit reads w.in_ok-push-in-Tree.ensures.items refl in
          subst (λ (z : Reading). IsReading (sources ++ bytes ∷ []) (record { names = z.names; units = z.units; faults = z.faults; files = z.files + 1 })) (sym w.self-is) so_far
      | in-Fault+in_ok-add-in-Fault w ↦
          let made : Reading = record { names = names; units = old.units; faults = w.add.new.self; files = old.files + 1 } in
          let reads : Reads bytes old.names names (fault w.in-Fault.at w.in-Fault.code) = subst (λ (z : SourceRead). Reads bytes old.names names (outcome_of z)) w.in-Fault.is c.in_ok-unit.ensures.reads in
          let so_far : IsReading (sources ++ bytes ∷ []) made = fault_read sources bytes old made is refl w.in-Fault.at w.in-Fault.code reads refl w.in_ok-add-in-Fault.ensures.ok in
          subst (λ (z : Reading). IsReading (sources ++ bytes ∷ []) (record { names = z.names; units = z.units; faults = z.faults; files = z.files + 1 })) (sym w.self-is) so_far
    ]
