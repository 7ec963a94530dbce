use Rattle.std.proofs.Common.{◌≡◌, ℕ, List, map, length, refl, sym, ap, ◌∙◌, subst}
use Rattle.std.proofs.lemmas.List.{length-map}
use Rattle.std.specs.Arc.{arc_value}
use Rattle.jv_diag.specs.Plain.{DiagOf, diag_of}
use Rattle.jv_layout.specs.Folder.{layout_of}
use Rattle.jv_unit.specs.declared.folder.Folder.{Folder}
use Rattle.jv_unit.specs.Kept.{folder_of}
use Rattle.sc_io.specs.SourceFile.{source_of, sources_of}
use Rattle.sc_report.specs.Report.{AreSorted}
use Rattle.sc_app.specs.Diagnoses.{Diagnoses}
use Rattle.sc_app.specs.FolderReport.{Reports}
use Rattle.sc_app.specs.FolderRun.{ruled}
use Rattle.sc_app.specs.Found.{IsFoundBy}
use Rattle.sc_app.proofs.Checked.{diagnosed, ran_on}
use Rattle.sc_app.proofs.project.ran.Goals as goal

pub returns-clause-outcome : goal.returns-clause-outcome
returns-clause-outcome c =
    let w : Folder = arc_value c.args.folder in
    let fs = sources_of c.args.files.items in
    let ready = c.requires.ready in
    let reports : Reports (ruled (folder_of w)) c.in-Ok.diags = subst (λ (z : Folder). Reports (ruled (folder_of z)) c.in-Ok.diags) c.deref.ensures c.in-Ok.ensures.reports in
    record {
      sources = refl;
      files = ap length c.as_slice.ensures.value ∙ sym (length-map c.args.files.items source_of);
      found = c.in-Ok.diags;
      diagnoses = subst (λ (n : ℕ). Diagnoses fs c.in-Ok.diags n) (sym ready.declared)
          (diagnosed w (layout_of ready.names ready.trees) ready.names ready.trees (folder_of w).kinds refl ready.folder fs c.in-Ok.diags ready.have ready.few reports);
      sorted = subst (λ (ds : List DiagOf). AreSorted ds (map diag_of c.sorted_diags.result.items)) c.into_vec.ensures c.sorted_diags.ensures;
      ran = ran_on w (layout_of ready.names ready.trees) ready.names ready.trees (folder_of w).kinds refl ready.folder fs c.args.core ready.have ready.whole c.requires.run;
      found_by = subst (λ (z : Folder). IsFoundBy (folder_of z) c.args.core c.in-Ok.diags) c.deref.ensures c.in-Ok.ensures.found;
    }
