-- The scopes that listings tell of, and how they print scopes.
use Rattle.std.specs.Prelude.{ℕ, ◌-◌, nat_le, nat_lt, cond, List, [], length, map}
use Rattle.std.specs.List.{filter, range_with_len, slice_index_or}
use Rattle.sg_base.specs.declared.scope.Scope.{Scope}
use Rattle.sc_io.specs.SourceTree.{FileOf}
use Rattle.jv_layout.specs.declared.place.Place.{Place}
use Rattle.jv_layout.specs.declared.place.Place.TheVariants.{Outside, Root, Unnamed, Package, File, Ty, Member, Signature}
use Rattle.jv_layout.specs.Folder.{LayoutOf}
use Rattle.jv_layout.specs.Readers.{file_of, types_of}
use Rattle.jv_layout.specs.Scopes.{file_scope, place_of}
use Rattle.jv_layout.specs.Titles.{title_of}

-- ---- what a listing is about

-- a folder: its layout, the texts of its names, and its own files, which are numbered behind the prelude's two
pub record ListedOf : Type 0 where
  pub layout : LayoutOf
  pub names : List (List ℕ)
  pub files : List FileOf

-- the scopes of the folder's own files
abbrev pub listed_files : ListedOf → List Scope
listed_files w = map (file_scope w.layout) (range_with_len 2 (length w.files))

-- the types that stand in the folder's own files
abbrev pub listed_types : ListedOf → List Scope
listed_types w = filter (λ t. nat_le 2 (file_of w.layout t)) (types_of w.layout)

-- ---- titles

-- a file that stands for none
abbrev pub no_file : FileOf
no_file = record { path = []; bytes = [] }

-- the path of a file, by its number; the prelude's two have none
abbrev pub path_of : List FileOf → ℕ → List ℕ
path_of files f = cond (nat_lt f 2) [] (slice_index_or files (f - 2) no_file).path

-- how a scope is printed, by what it is: a file by its path, and all else by its title
abbrev pub title_by : ListedOf → Scope → Place → List ℕ
title_by w s (File f) = path_of w.files f
title_by w s Outside = title_of w.layout w.names s
title_by w s Root = title_of w.layout w.names s
title_by w s Unnamed = title_of w.layout w.names s
title_by w s (Package p) = title_of w.layout w.names s
title_by w s (Ty t) = title_of w.layout w.names s
title_by w s (Member m) = title_of w.layout w.names s
title_by w s (Signature m) = title_of w.layout w.names s

-- how a scope is printed: a file by its path, and all else by its title
abbrev pub title : ListedOf → Scope → List ℕ
title w s = title_by w s (place_of w.layout s)
