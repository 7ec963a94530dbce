use Rattle.std.proofs.Common.{◌-◌, length}
use Rattle.std.specs.Arc.{arc_value}
use Rattle.jv_unit.specs.Kept.{folder_of}
use Rattle.jv_unit.proofs.CheckRules.{none_so_far}
use Rattle.jv_unit.proofs.FileRules.{file_imports_new, file_statics_new}
use Rattle.jv_unit.proofs.HeaderRules.{read_so_far_new}
use Rattle.jv_unit.proofs.java_script.JavaScriptScript.take_back.Goals as goal

-- nothing was read yet
pub invariant_of-self : goal.invariant_of-self
invariant_of-self c =
    let w = folder_of (arc_value c.self.inside.folder) in
    let t = c.self.inside.unit - length (arc_value c.self.inside.folder).layout.files in
    (read_so_far_new _ w t _ c.new.ensures.extended c.new.ensures.implemented, none_so_far _ w t _ c.new-2.ensures, file_imports_new _ w c.self.inside.unit _ c.new-3.ensures, file_statics_new _ w c.self.inside.unit _ c.new-4.ensures.count c.new-4.ensures.diags)
