use Rattle.std.proofs.Common.{◌+◌, length, refl, ◌∙◌, arith}
use Rattle.std.proofs.lemmas.List.{length-map}
use Rattle.sc_io.specs.declared.source_file.SourceFile.{SourceFile}
use Rattle.sc_io.specs.SourceFile.{source_of}
use Rattle.sc_sources.proofs.Threads.{named_count, all_read}
use Rattle.sc_sources.proofs.reading.read_behind.Goals as goal

pub grow_all-requires-after_bounds : goal.grow_all-requires-after_bounds
grow_all-requires-after_bounds g c κs within =
    omega (
      arith,
      c.requires.files,
      c.requires.within.files,
      named_count c.in_ok-named.ensures,
      length-map c.args.files.now (λ (f : SourceFile). f.bytes.items),
      length-map c.args.files.now source_of,
    )

pub returns : goal.returns
returns g c = λ sources is.
    all_read sources c.args.files.now c.args.reading
    (record { names = c.list_all.new.names; units = c.in_ok-units.field-0.units; faults = c.in_ok-units.field-0.faults; files = c.args.reading.files + length c.args.files.now })
    c.in_ok-named.named.items c.in_ok-grown.grown is c.in_ok-named.ensures c.in_ok-grown.ensures
    (named_count c.in_ok-named.ensures ∙ length-map c.args.files.now (λ (f : SourceFile). f.bytes.items))
    c.in_ok-units.ensures.units c.in_ok-units.ensures.faults refl
