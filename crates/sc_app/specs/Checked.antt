-- What checking sources tells where they are within the limits on files and bytes.
use Rattle.std.specs.Prelude.{◌≡◌, ◌⊎◌, ℕ, List}
use Rattle.sc_io.specs.SourceTree.{FileOf}
use Rattle.sc_app.specs.declared.command.Command.{Command}
use Rattle.sc_app.specs.declared.status.Status.{Status}
use Rattle.sc_app.specs.declared.status.Status.TheVariants.{Limit}
use Rattle.sc_app.specs.declared.status.Which.TheVariants.{Types}
use Rattle.sc_app.specs.Diagnoses.{DeclareTooMany}
use Rattle.sc_app.specs.Told.{Tells, limit_line}

-- what a command tells of them, or that they declare too many types
abbrev pub IsChecked : Command → List FileOf → List ℕ → Status → Type 0
IsChecked c ss bytes status = Tells c ss bytes status ⊎ (DeclareTooMany ss × (bytes ≡ limit_line Types) × (status ≡ Limit Types))
