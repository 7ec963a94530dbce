-- The lines that are printed.
use Rattle.std.specs.Prelude.{ℕ, zero, suc, List, [], ◌++◌, codes, decimal, nat_lt, if◌then◌else◌}
use Rattle.std.specs.String.{string_bytes}
use Rattle.jv_lex.specs.Place.{line_of, column_of}
use Rattle.jv_diag.specs.declared.diagnostic.Diag.{Diag}

-- a code as it is printed: `E` and two digits at least
abbrev pub code_text : ℕ → List ℕ
code_text code = codes "E" ++ (if nat_lt code 10 then codes "0" else []) ++ decimal code

-- a path, a line and a column
abbrev pub place_text : List ℕ → ℕ → ℕ → List ℕ
place_text path row column = path ++ codes ":" ++ decimal row ++ codes ":" ++ decimal column ++ codes ": "

-- the line of a diagnostic at a line and a column: path, line, column, code and text
abbrev pub placed_line : List ℕ → ℕ → ℕ → Diag → List ℕ
placed_line path row column d = place_text path row column ++ code_text d.code ++ codes " " ++ string_bytes d.text ++ codes "\n"

-- the line of a diagnostic in a file with these bytes
abbrev pub diag_line : List ℕ → List ℕ → Diag → List ℕ
diag_line path source d = placed_line path (line_of source d.at) (column_of source d.at) d

-- the last line: how many errors there are, or where there is none, how many files and types
abbrev pub last_line : ℕ → ℕ → ℕ → List ℕ
last_line zero files types = codes "ok files " ++ decimal files ++ codes " types " ++ decimal types ++ codes "\n"
last_line (suc n) files types = codes "errors " ++ decimal (suc n) ++ codes "\n"
