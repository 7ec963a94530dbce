-- What the units of a run came to.
use Rattle.std.specs.Prelude.{ℕ, ◌<◌, List, ◌↔◌}
use Rattle.std.specs.List.{Contains}
use Rattle.sg_core.specs.Core.{EndedWith}
use Rattle.jv_diag.specs.Plain.{DiagOf}
use Rattle.sc_app.specs.FolderRun.{JavaCore}

-- the diagnostics of the units with numbers below this one
abbrev pub CameToBelow : JavaCore → ℕ → List DiagOf → Type 0
CameToBelow c n ds = (d : DiagOf) → (Contains ds d) ↔ ((u : ℕ) × (u < n) × (x : List DiagOf) × EndedWith c.log u x × Contains x d)

-- the diagnostics of all units
abbrev pub CameTo : JavaCore → List DiagOf → Type 0
CameTo c ds = (d : DiagOf) → (Contains ds d) ↔ ((u : ℕ) × (x : List DiagOf) × EndedWith c.log u x × Contains x d)
