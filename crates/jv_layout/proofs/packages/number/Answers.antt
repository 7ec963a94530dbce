use Rattle.std.proofs.Common.{map, sym}
use Rattle.jv_tree.specs.DeclTree.{tree_of}
use Rattle.jv_layout.specs.Folder.{path_cmp}
use Rattle.jv_layout.specs.Paths.{path_at}
use Rattle.jv_layout.proofs.Paths.{found_place, no_place}
use Rattle.jv_layout.proofs.packages.number.Goals as goal

pub returns-in-Ok : goal.returns-in-Ok
returns-in-Ok c = sym (found_place (path_cmp c.args.names.now) (map (path_at (map tree_of c.args.files.now)) c.args.paths.now) (path_at (map tree_of c.args.files.now) c.args.wanted) c.in-Ok.at c.in-Ok.ensures)

pub returns-in-Err : goal.returns-in-Err
returns-in-Err c = sym (no_place (path_cmp c.args.names.now) (map (path_at (map tree_of c.args.files.now)) c.args.paths.now) (path_at (map tree_of c.args.files.now) c.args.wanted) c.in-Err.field-0 c.in-Err.ensures)
