use Rattle.std.proofs.Common.{◌-◌, IfOk, length, subst}
use Rattle.std.specs.Arc.{arc_value}
use Rattle.sg_reading.specs.Stop.{IsKnown}
use Rattle.jv_names.specs.Replies.{reply_to}
use Rattle.jv_unit.specs.declared.folder.Folder.{Folder}
use Rattle.jv_unit.specs.Kept.{folder_of}
use Rattle.jv_unit.specs.Plans.{unit_ending}
use Rattle.jv_unit.specs.Progress.{AreFileImportsSoFar, AreFileStaticsSoFar, IsReadSoFar, IsSoFar}
use Rattle.jv_unit.specs.Script.{ScriptOf}
use Rattle.jv_unit.proofs.UnitRules.{ending_known}
use Rattle.jv_unit.proofs.java_script.JavaScriptScript.finish.Goals as goal

pub returns-clause-reads : goal.returns-clause-reads
returns-clause-reads c =
    subst (λ (s : ScriptOf). IfOk c.from_found.result (IsKnown (reply_to s.replies) (unit_ending (folder_of (arc_value s.folder)) s.unit))) c.self.view_is
    (ending_known (reply_to c.self.inside.replies) c.deref.result.now (arc_value c.self.inside.folder) c.deref.ensures c.self.inside.unit c.finish_unit.result c.from_found.result c.from_found.ensures c.finish_unit.ensures.reads)

-- how far the header and the imports were read and the checks came, by the same folder
pub invariant_of-self : goal.invariant_of-self
invariant_of-self c = (
  subst (λ (w : Folder). IsReadSoFar (reply_to c.self.inside.replies) (folder_of w) (c.self.inside.unit - length w.layout.files) c.finish_unit.new.header) c.deref.ensures c.finish_unit.ensures.read,
  subst (λ (w : Folder). IsSoFar (reply_to c.self.inside.replies) (folder_of w) (c.self.inside.unit - length w.layout.files) c.finish_unit.new.progress.begun) c.deref.ensures c.finish_unit.ensures.so_far,
  subst (λ (w : Folder). AreFileImportsSoFar (reply_to c.self.inside.replies) (folder_of w) c.self.inside.unit c.finish_unit.new.imports) c.deref.ensures c.finish_unit.ensures.imports,
  subst (λ (w : Folder). AreFileStaticsSoFar (reply_to c.self.inside.replies) (folder_of w) c.self.inside.unit c.finish_unit.new.statics) c.deref.ensures c.finish_unit.ensures.statics,
)
