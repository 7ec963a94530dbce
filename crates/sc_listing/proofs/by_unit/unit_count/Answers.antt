use Rattle.std.proofs.Common.{◌≡◌, ◌-◌, List, Some, length, slice_get, sym, ap, ◌∙◌, subst, arith}
use Rattle.std.specs.Option.{option_copied}
use Rattle.sg_base.specs.declared.scope.Scope.{Scope}
use Rattle.std.proofs.lemmas.List.{length-map}
use Rattle.sc_io.specs.SourceFile.{source_of, sources_of}
use Rattle.sc_listing.proofs.OwnEntries.{files_below, types_below}
use Rattle.sc_listing.proofs.by_unit.unit_count.Goals as goal

pub returns-in-Some-clause-files : goal.returns-in-Some-clause-files
returns-in-Some-clause-files c =
    files_below c.args.w.now.layout.now _ (length (sources_of c.args.w.now.files.now)) (omega (arith, length-map c.args.w.now.files.now source_of))

pub returns-in-Some-clause-types : goal.returns-in-Some-clause-types
returns-in-Some-clause-types c =
    types_below c.args.w.now.layout.now _ c.in-Some.last.now (subst (λ (ts : List Scope). slice_get ts (length ts - 1) ≡ Some c.in-Some.last.now) c.types.ensures (sym c.last.ensures.value ∙ ap option_copied c.in-Some.is)) (omega arith)

pub returns-in-None-clause-files : goal.returns-in-None-clause-files
returns-in-None-clause-files c =
    files_below c.args.w.now.layout.now _ (length (sources_of c.args.w.now.files.now)) (omega (arith, length-map c.args.w.now.files.now source_of))
