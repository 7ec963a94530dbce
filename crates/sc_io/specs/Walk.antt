-- A walk through folders.
use Rattle.std.specs.Prelude.{ℕ, ◌+◌, vec_len}
use Rattle.sc_io.specs.declared.walk.Walk.{Walk}
use Rattle.sc_io.specs.DirTree.{AreSources}

-- each path that was found is that of a Java source
abbrev pub FindsSources : Walk → Type 0
FindsSources w = AreSources w.paths.items

-- how many folders can still be read: those that are known, and the entries that may still come
abbrev pub work_left : Walk → ℕ
work_left w = w.room + vec_len w.folders
