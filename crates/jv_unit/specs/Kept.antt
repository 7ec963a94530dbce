-- What the code keeps of a folder, without places in memory.
use Rattle.std.specs.Prelude.{◌≡◌, map}
use Rattle.jv_tree.specs.DeclTree.{tree_of}
use Rattle.jv_unit.specs.declared.folder.Folder.{Folder}
use Rattle.jv_unit.specs.Folder.{FolderOf, IsFolderOf}
use Rattle.jv_unit.specs.MemberPlaces.{places_from}
use Rattle.jv_unit.specs.Paths.{ArePathsOf}

-- what rules see of a folder
abbrev pub folder_of : Folder → FolderOf
folder_of w = record { layout = w.layout; names = w.names; files = map tree_of w.files.items; kinds = w.kinds.value }

-- a folder is one of Java, and what is kept beside its trees tells of them
pub record IsWhole (w : Folder) : Type 0 where
  pub folder : IsFolderOf (folder_of w)
  pub declarations : w.declarations ≡ w.layout
  pub paths : ArePathsOf (map tree_of w.files.items) w.paths
  pub members : w.members.places.items ≡ places_from 0 (map tree_of w.files.items)
