use Rattle.std.proofs.Common.{refl}
use Rattle.std.proofs.lemmas.List.{length-map}
use Rattle.jv_diag.specs.Plain.{diag_of}
use Rattle.sc_io.specs.SourceFile.{source_of}
use Rattle.sc_report.proofs.reporting.report_text.Goals as goal

pub returns : goal.returns
returns c =
    rw (
      c.in_ok-extend_from_slice.ensures.items,
      c.as_slice.ensures.value,
      c.in_ok-text.ensures,
      c.in_ok-last.ensures,
      length-map c.args.diags.now diag_of,
      length-map c.args.files.now source_of,
    ) refl
