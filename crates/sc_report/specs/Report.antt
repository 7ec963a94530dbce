-- The report on a folder: its diagnostics in rising order, each once, and the last line.
use Rattle.std.specs.Prelude.{◌≡◌, ℕ, ◌-◌, List, [], ◌∷◌, ◌++◌, codes, min, length, ◌↔◌}
use Rattle.std.specs.Cmp.Lexicographic.{slice_cmp}
use Rattle.std.specs.List.{Contains, flat_map, slice_index_or}
use Rattle.std.specs.Ordering.{nat_cmp, on, then_cmp}
use Rattle.std.specs.declared.cmp.Ordering.{Ordering}
use Rattle.std.specs.declared.cmp.Ordering.TheVariants.{Less}
use Rattle.jv_lex.specs.Place.{line_of, column_of}
use Rattle.jv_diag.specs.Line.{code_text, last_line, place_text}
use Rattle.jv_diag.specs.Plain.{DiagOf}
use Rattle.sc_io.specs.SourceTree.{FileOf}

-- ---- the order of diagnostics: by file, place, code, and the bytes of the text

-- how two diagnostics compare: by file, then by place, then by code, then by the bytes of the text
abbrev pub diag_cmp : DiagOf → DiagOf → Ordering
diag_cmp = then_cmp (on (λ d. d.file) nat_cmp) (then_cmp (on (λ d. d.at) nat_cmp) (then_cmp (on (λ d. d.code) nat_cmp) (on (λ d. d.text) (slice_cmp nat_cmp))))

-- each comes before all behind it
abbrev pub IsRising : List DiagOf → Type 0
IsRising [] = Unit {0}
IsRising (d ∷ ds) = ((e : DiagOf) → Contains ds e → diag_cmp d e ≡ Less) × IsRising ds

-- the same diagnostics in rising order, each once
pub record AreSorted (ds sorted : List DiagOf) : Type 0 where
  pub rising : IsRising sorted
  pub same : (d : DiagOf) → (Contains sorted d) ↔ (Contains ds d)

-- ---- lines

-- a file that stands for none
abbrev pub no_file : FileOf
no_file = record { path = []; bytes = [] }

-- the file of a diagnostic; the prelude's two files are numbered before those of the folder
abbrev pub file_of : List FileOf → ℕ → FileOf
file_of fs file = slice_index_or fs (file - 2) no_file

-- a line of a file: path, line, column, code and text; what stands behind the end stands at the end
abbrev pub line_in : FileOf → DiagOf → List ℕ
line_in f d = place_text f.path (line_of f.bytes (min d.at (length f.bytes))) (column_of f.bytes (min d.at (length f.bytes))) ++ code_text d.code ++ codes " " ++ d.text ++ codes "\n"

-- the line of a diagnostic, in the file that its number names
abbrev pub line_of_diag : List FileOf → DiagOf → List ℕ
line_of_diag fs d = line_in (file_of fs d.file) d

-- the lines of diagnostics that are sorted, and the last line, for files that declare so many types
abbrev pub report_text : List FileOf → List DiagOf → ℕ → List ℕ
report_text fs sorted types = flat_map (line_of_diag fs) sorted ++ last_line (length sorted) (length fs) types

-- the bytes of the report on files with these diagnostics and so many types
abbrev pub IsReportOf : List FileOf → List DiagOf → ℕ → List ℕ → Type 0
IsReportOf fs ds types bytes = (sorted : List DiagOf) × AreSorted ds sorted × (bytes ≡ report_text fs sorted types)

-- ---- laws

-- diagnostics that are the same are told in one way
abbrev pub ReportsAreOne : Type 0
ReportsAreOne =
    (fs : List FileOf) (ds es : List DiagOf) (types : ℕ) (bytes others : List ℕ) → ((d : DiagOf) → (Contains ds d) ↔ (Contains es d))
    → IsReportOf fs ds types bytes → IsReportOf fs es types others → bytes ≡ others
