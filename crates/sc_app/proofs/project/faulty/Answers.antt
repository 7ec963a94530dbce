use Rattle.std.proofs.Common.{◌≡◌, List, map, length, refl, sym, ap, ◌∙◌, subst}
use Rattle.std.proofs.lemmas.List.{length-map}
use Rattle.jv_diag.specs.Plain.{DiagOf, diag_of}
use Rattle.sc_io.specs.SourceFile.{source_of, sources_of}
use Rattle.sc_report.specs.Report.{AreSorted}
use Rattle.sc_app.proofs.Checked.{fault_there, faults_diagnosed}
use Rattle.sc_app.proofs.project.faulty.Goals as goal

pub returns-clause-outcome : goal.returns-clause-outcome
returns-clause-outcome c =
    record {
      sources = refl;
      files = ap length c.as_slice.ensures.value ∙ sym (length-map c.args.files.items source_of);
      found = c.args.faults;
      diagnoses = faults_diagnosed (sources_of c.args.files.items) c.args.faults c.requires.faults;
      sorted = subst (λ (ds : List DiagOf). AreSorted ds (map diag_of c.sorted_diags.result.items)) c.into_vec.ensures c.sorted_diags.ensures;
      ran = fault_there (sources_of c.args.files.items) c.args.faults c.requires.faults;
      found_by = tt;
    }
