-- What the words and the files determine, and what a run writes of it.
use Rattle.std.specs.Prelude.{◌≡◌, ◌<◌, ◌≤◌, ◌⊎◌, ℕ, List, codes, length, Option, None, Some}
use Rattle.sc_io.specs.Sink.{AddsAll, AddsFront}
use Rattle.sc_io.specs.SourceTree.{FileOf}
use Rattle.sc_sources.specs.Read.{most_files}
use Rattle.sc_app.specs.declared.status.Status.{Status}
use Rattle.sc_app.specs.declared.status.Status.TheVariants.{Clean, Found, Usage, ReadFault, WriteFault, Limit, OutOfMemory}
use Rattle.sc_app.specs.declared.status.Which.{Which}
use Rattle.sc_app.specs.declared.status.Which.TheVariants.{Files, FileBytes, TotalBytes, Types}
use Rattle.sc_gen.specs.Project.{project_files}
use Rattle.sc_app.specs.declared.command.Command.{Command}
use Rattle.sc_app.specs.declared.command.Command.TheVariants.{Check, Answers, Graph, Gen}
use Rattle.sc_app.specs.Command.{Asks, IsCommand}
use Rattle.sc_app.specs.Diagnoses.{DeclareTooMany, IsReport}
use Rattle.sc_app.specs.Lines.{line}
use Rattle.sc_app.specs.Listing.{Lists, ListsNothing}
use Rattle.sc_app.specs.Sourced.{AreSources, passed_from}

-- the line of a limit that is passed
abbrev pub limit_line : Which → List ℕ
limit_line Files = line (codes "limit files")
limit_line FileBytes = line (codes "limit file bytes")
limit_line TotalBytes = line (codes "limit total bytes")
limit_line Types = line (codes "limit types")

-- the files that a command looks at: those of the folder, or those of the project that is made
abbrev pub files_for : Command → List FileOf → List FileOf
files_for Check fs = fs
files_for Answers fs = fs
files_for Graph fs = fs
files_for (Gen n) fs = project_files n

-- what a command tells of sources, with the status of their report: what it lists of them, and else the report
pub data Tells (c : Command) (ss : List FileOf) (bytes : List ℕ) (status : Status) : Type 0 where
  reported : ListsNothing ss c → IsReport ss bytes status → Tells c ss bytes status
  listed : (report : List ℕ) → Lists ss c bytes → IsReport ss report status → Tells c ss bytes status

-- what a command tells of a folder, or the limit that it passes first, with the status
pub data Checks (c : Command) (fs : List FileOf) : List ℕ → Status → Type 0 where
  many_files : (ss : List FileOf) → AreSources fs ss → most_files < length ss → Checks c fs (limit_line Files) (Limit Files)
  many_bytes : (ss : List FileOf) (which : Which) → AreSources fs ss → length ss ≤ most_files → passed_from 0 ss ≡ Some which → Checks c fs (limit_line which) (Limit which)
  many_types : (ss : List FileOf) → AreSources fs ss → length ss ≤ most_files → passed_from 0 ss ≡ None → DeclareTooMany ss → Checks c fs (limit_line Types) (Limit Types)
  tells : (ss : List FileOf) (bytes : List ℕ) (status : Status) → AreSources fs ss → length ss ≤ most_files → passed_from 0 ss ≡ None → Tells c ss bytes status → Checks c fs bytes status

-- the bytes that the words and the files tell, and the status
pub data Told (words : List (List ℕ)) (fs : List FileOf) : List ℕ → Status → Type 0 where
  no_command : (IsCommand words → ⊥) → Told words fs (line (codes "usage")) Usage
  command : (c : Command) (workers : Option ℕ) (bytes : List ℕ) (status : Status) → Asks words c workers → Checks c (files_for c fs) bytes status → Told words fs bytes status

-- a run with this status wrote all bytes that are told
abbrev pub WritesAll : List (List ℕ) → List FileOf → Status → Option (List ℕ) → Option (List ℕ) → Type 0
WritesAll words fs status before after = (bytes : List ℕ) × Told words fs bytes status × AddsAll before bytes after

-- a run wrote a front of the bytes that are told
abbrev pub WritesFront : List (List ℕ) → List FileOf → Option (List ℕ) → Option (List ℕ) → Type 0
WritesFront words fs before after = (bytes : List ℕ) × (status : Status) × Told words fs bytes status × AddsFront before bytes after

-- what a run writes by its status
abbrev pub Writes : List (List ℕ) → List FileOf → Status → Option (List ℕ) → Option (List ℕ) → Type 0
Writes words fs Clean before after = WritesAll words fs Clean before after
Writes words fs Found before after = WritesAll words fs Found before after
Writes words fs Usage before after = WritesAll words fs Usage before after
Writes words fs ReadFault before after = after ≡ before
Writes words fs WriteFault before after = WritesFront words fs before after
Writes words fs (Limit which) before after = WritesAll words fs (Limit which) before after
Writes words fs OutOfMemory before after = (after ≡ before) ⊎ WritesFront words fs before after

-- the answer to words that are no command
abbrev pub IsRefusal : Status → Type 0
IsRefusal status = (status ≡ Usage) ⊎ ((status ≡ WriteFault) ⊎ (status ≡ OutOfMemory))

-- all bytes were written and the status is theirs, or a front of them and the status is that of a fault
abbrev pub IsPut : Status → List ℕ → Option (List ℕ) → Option (List ℕ) → Status → Type 0
IsPut status bytes before after result =
    ((result ≡ status) × AddsAll before bytes after) ⊎ (((result ≡ WriteFault) ⊎ (result ≡ OutOfMemory)) × AddsFront before bytes after)
