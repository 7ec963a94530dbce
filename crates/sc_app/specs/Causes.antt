-- When a run ends with which status.
use Rattle.std.specs.Prelude.{◌≡◌, ◌⊎◌, ℕ, List, Option, IfSome}
use Rattle.sc_io.specs.Faults.{HasRisen}
use Rattle.sc_io.specs.Sink.{AddsAll}
use Rattle.sc_io.specs.SourceTree.{FileOf}
use Rattle.sc_app.specs.declared.command.Command.{Command}
use Rattle.sc_app.specs.declared.status.Status.{Status}
use Rattle.sc_app.specs.declared.status.Status.TheVariants.{Limit, OutOfMemory}
use Rattle.sc_app.specs.declared.status.Which.{Which}
use Rattle.sc_app.specs.Command.{Asks, IsCommand}
use Rattle.sc_app.specs.Statuses.{IsReportStatus}
use Rattle.sc_app.specs.Told.{Checks, Told, files_for, limit_line}

-- the sources of the files that the command looks at for which the words ask pass a limit, and its line was written
abbrev pub WritesLimit : List (List ℕ) → Which → List FileOf → Option (List ℕ) → Option (List ℕ) → Type 0
WritesLimit words which fs before after =
    (c : Command) × (workers : Option ℕ) × Asks words c workers × Checks c (files_for c fs) (limit_line which) (Limit which) × AddsAll before (limit_line which) after

-- a status tells a limit only where the sources of the command pass it, where the files are told, and then its whole line was written
abbrev pub TellsLimits : List (List ℕ) → Option (List FileOf) → Status → Option (List ℕ) → Option (List ℕ) → Type 0
TellsLimits words files status before after = (which : Which) → status ≡ Limit which → IfSome files (λ fs. WritesLimit words which fs before after)

-- the words and the files tell this status
abbrev pub TellsStatus : List (List ℕ) → Status → List FileOf → Type 0
TellsStatus words status fs = (bytes : List ℕ) × Told words fs bytes status

-- a run came to the end of its report, by what the files tell where they are told; or memory was not found
abbrev pub Completes : List (List ℕ) → Option (List FileOf) → Status → Type 0
Completes words files status = (status ≡ OutOfMemory) ⊎ (IsReportStatus status × IfSome files (TellsStatus words status))

-- where the words are a command, and the counts of the calls that failed rose neither at the tree nor at the sink, a run came to the end of its report
abbrev pub EndsUnlessFailed : List (List ℕ) → Option (List FileOf) → Status → ℕ → ℕ → ℕ → ℕ → Type 0
EndsUnlessFailed words files status read read_after put put_after =
    IsCommand words → (HasRisen read read_after → ⊥) → (HasRisen put put_after → ⊥) → Completes words files status
