-- Which types the lines on circular headers name.
use Rattle.std.specs.Prelude.{◌≡◌, ℕ, List, [], ◌∷◌, length}
use Rattle.std.specs.List.{Contains}
use Rattle.sg_base.specs.declared.scope.Scope.{Scope}
use Rattle.jv_diag.specs.declared.codes.TheConstants.{WAITING_HEADER}
use Rattle.jv_diag.specs.Plain.{DiagOf, diagnostic}
use Rattle.jv_layout.specs.Readers.{file_of, types_of}
use Rattle.jv_layout.specs.Titles.{title_of}
use Rattle.jv_unit.specs.Folder.{FolderOf, IsFolderOf}
use Rattle.sc_app.specs.CircularLines.{AreLinesBelow}
use Rattle.sc_app.specs.FolderRun.{JavaCore, IsFolderRun}

-- a line says of a type that its header waits for that of another type
pub record SaysWaiting (w : FolderOf) (c other : Scope) (d : DiagOf) : Type 0 where
  pub at : ℕ
  pub line : d ≡ diagnostic (file_of w.layout c) at WAITING_HEADER (title_of w.layout w.names c ∷ title_of w.layout w.names other ∷ [])

-- the type that a line names second is one whose header waits for another's, by a line of its own among these
pub record NamesCircular (w : FolderOf) (ds : List DiagOf) (d : DiagOf) : Type 0 where
  pub first : Scope
  pub second : Scope
  pub third : Scope
  pub names : SaysWaiting w first second d
  pub type : Contains (types_of w.layout) second
  pub own : DiagOf
  pub there : Contains ds own
  pub waits : SaysWaiting w second third own

-- where the checkers of a folder end stuck, each type that a line on a circular header names second has such a line
abbrev pub CircularTypesNameCircularTypes : Type 0
CircularTypesNameCircularTypes =
    (w : FolderOf) (c : JavaCore) (ds : List DiagOf) → IsFolderOf w → IsFolderRun w c → AreLinesBelow w c (length w.layout.types) ds → (d : DiagOf) → Contains ds d → NamesCircular w ds d
