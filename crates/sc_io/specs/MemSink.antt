-- A sink over memory with so much room.
use Rattle.std.specs.Prelude.{◌≤◌, ◌-◌, ℕ, List, ◌++◌, length, take, Option, Some, None}
use Rattle.sc_io.specs.Faults.{risen}

-- what was written, the room for bytes in all, if it is bounded, and how many calls failed
pub record MemSinkOf : Type 0 where
  pub written : List ℕ
  pub room : Option ℕ
  pub faults : ℕ

-- there is room for these bytes
abbrev pub Fits : Option ℕ → List ℕ → Type 0
Fits None bytes = Unit {0}
Fits (Some room) bytes = length bytes ≤ room

-- as many of these bytes as there is room for
abbrev pub front_within : Option ℕ → List ℕ → List ℕ
front_within None bytes = bytes
front_within (Some room) bytes = take room bytes

-- the sink once a call failed that wrote as much of a piece as there is room for
abbrev pub filled_with : MemSinkOf → List ℕ → MemSinkOf
filled_with s piece = record s { written = front_within s.room (s.written ++ piece); faults = risen s.faults }

-- as much of a piece as there is room for behind so many bytes
abbrev pub piece_within : Option ℕ → ℕ → List ℕ → List ℕ
piece_within None written piece = piece
piece_within (Some room) written piece = take (room - written) piece
