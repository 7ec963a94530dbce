-- The files of a tree over memory, as its constructor takes them.
use Rattle.std.specs.Prelude.{◌≡◌, ℕ, List, map, string_bytes, slice_get, Some, String, Vec}
use Rattle.std.specs.declared.alloc.Global.{Global}
use Rattle.sc_io.specs.SourceTree.{FileOf}

-- the file of a path and its bytes
abbrev pub file_of : String Global × Vec ℕ Global → FileOf
file_of f = record { path = string_bytes f.0; bytes = f.1.items }

-- the files of paths and their bytes, in the same order
abbrev pub files_of : List (String Global × Vec ℕ Global) → List FileOf
files_of fs = map file_of fs

-- the file at this index has this path
abbrev pub IsPathAt : List FileOf → ℕ → List ℕ → Type 0
IsPathAt fs index path = slice_get (map (λ f. f.path) fs) index ≡ Some path
