use Rattle.std.proofs.Common.{◌-◌, length}
use Rattle.std.specs.Arc.{arc_value}
use Rattle.jv_unit.specs.Kept.{folder_of}
use Rattle.jv_unit.proofs.CheckRules.{none_so_far}
use Rattle.jv_unit.proofs.FileRules.{file_imports_new, file_statics_new}
use Rattle.jv_unit.proofs.HeaderRules.{read_so_far_new}
use Rattle.jv_unit.proofs.java_script.JavaScript.new.Goals as goal

-- nothing was read yet
pub invariant_of-result : goal.invariant_of-result
invariant_of-result c =
    let w = folder_of (arc_value c.args.folder) in
    let t = c.args.unit - length (arc_value c.args.folder).layout.files in
    (read_so_far_new _ w t _ c.new-2.ensures.extended c.new-2.ensures.implemented, none_so_far _ w t _ c.new-3.ensures, file_imports_new _ w c.args.unit _ c.new-4.ensures, file_statics_new _ w c.args.unit _ c.new-5.ensures.count c.new-5.ensures.diags)
