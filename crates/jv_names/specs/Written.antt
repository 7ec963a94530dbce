-- Names as they are written.
use Rattle.std.specs.Prelude.{ℕ, List, [], ◌∷◌}
use Rattle.jv_tree.specs.declared.name.Ident.{Ident}
use Rattle.jv_tree.specs.declared.names.NameId.{NameId}
use Rattle.jv_layout.specs.Folder.{numbers_of}
use Rattle.jv_layout.specs.Titles.{dotted}

-- the text of a name: its identifiers with dots between them
abbrev pub written : List (List ℕ) → List Ident → List ℕ
written names ids = dotted names (numbers_of ids)

-- the offset at which a name starts
abbrev pub start_of : List Ident → ℕ
start_of [] = 0
start_of (i ∷ is) = i.at

-- the last identifier of a name
abbrev pub last_name : List Ident → NameId
last_name [] = record { 0 = 0 }
last_name (i ∷ []) = i.id
last_name (i ∷ j ∷ is) = last_name (j ∷ is)

-- a name without its last identifier
abbrev pub without_last : List Ident → List Ident
without_last [] = []
without_last (i ∷ []) = []
without_last (i ∷ j ∷ is) = i ∷ without_last (j ∷ is)
