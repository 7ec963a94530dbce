use Rattle.std.proofs.Common.{◌-◌, IfOk, length, subst}
use Rattle.std.specs.Arc.{arc_value}
use Rattle.sg_script.specs.Script.{ReadsStage}
use Rattle.jv_names.specs.Replies.{reply_to}
use Rattle.jv_unit.specs.Kept.{folder_of}
use Rattle.jv_unit.specs.Plans.{unit_stages}
use Rattle.jv_unit.specs.declared.folder.Folder.{Folder}
use Rattle.jv_unit.specs.Progress.{AreFileImportsSoFar, IsReadSoFar}
use Rattle.jv_unit.specs.Script.{ScriptOf}
use Rattle.jv_unit.proofs.UnitRules.{stage_known}
use Rattle.jv_unit.proofs.java_script.JavaScriptScript.read.Goals as goal

pub returns-clause-reads : goal.returns-clause-reads
returns-clause-reads c =
    subst (λ (s : ScriptOf). IfOk c.from_found.result (ReadsStage (reply_to s.replies) (unit_stages (folder_of (arc_value s.folder)) s.unit) c.args.stage)) c.self.view_is
    (stage_known (reply_to c.self.inside.replies) c.deref.result.now (arc_value c.self.inside.folder) c.deref.ensures c.self.inside.unit c.args.stage c.read_unit.result c.from_found.result c.from_found.ensures c.read_unit.ensures.reads)

-- how far the header and the imports were read, by the same folder
pub invariant_of-self : goal.invariant_of-self
invariant_of-self c = (
  subst (λ (w : Folder). IsReadSoFar (reply_to c.self.inside.replies) (folder_of w) (c.self.inside.unit - length w.layout.files) c.read_unit.new.progress) c.deref.ensures c.read_unit.ensures.so_far,
  c.self.invariant.1,
  subst (λ (w : Folder). AreFileImportsSoFar (reply_to c.self.inside.replies) (folder_of w) c.self.inside.unit c.read_unit.new.imports) c.deref.ensures c.read_unit.ensures.imports,
  c.self.invariant.3,
)
