-- The text of the answers that checkers took: unit by unit, its questions with their answers.
use Rattle.std.specs.Prelude.{◌≡◌, ℕ, ◌-◌, ◌++◌, List, [], ◌∷◌, codes, ◌↔◌}
use Rattle.std.specs.Cmp.Lexicographic.{slice_cmp}
use Rattle.std.specs.List.{Contains, flat_map}
use Rattle.std.specs.Ordering.{nat_cmp}
use Rattle.sg_base.specs.declared.scope.Scope.{Scope}
use Rattle.sg_base.specs.List.{IsRising}
use Rattle.sg_query.specs.declared.answer.Answer.{Answer}
use Rattle.sg_query.specs.declared.query.Query.{Query}
use Rattle.sg_unit.specs.declared.entry.Entry.{Entry}
use Rattle.sg_unit.specs.Orderly.{WasTold}
use Rattle.sg_unit.specs.Own.{own}
use Rattle.sg_unit.specs.Trace.{Past, handed, told}
use Rattle.jv_diag.specs.Plain.{DiagOf}
use Rattle.jv_instance.specs.declared.datum.JavaDatum.{JavaDatum}
use Rattle.jv_instance.specs.declared.java.Java.{Java}
use Rattle.jv_instance.specs.declared.pred.JavaPred.{JavaPred}
use Rattle.jv_layout.specs.Folder.{LayoutOf}
use Rattle.jv_layout.specs.Scopes.{first_file}
use Rattle.sc_listing.specs.Questions.{question_line}
use Rattle.sc_listing.specs.Titles.{ListedOf, listed_files, listed_types, title}

-- an entry of the log of a folder's checkers
abbrev pub JavaEntry : Type 0
JavaEntry = Entry Java (List DiagOf) JavaDatum JavaPred

-- what a checker gave and was handed
abbrev pub JavaPast : Type 0
JavaPast = Past Java (List DiagOf) JavaDatum JavaPred

-- the line is that of a question which the checker asked, with the answer that it was told
abbrev pub IsToldLine : ListedOf → JavaPast → List ℕ → Type 0
IsToldLine w past line = (q : Query JavaPred) × (a : Answer JavaDatum) × WasTold past q a × (line ≡ question_line w q a)

-- the lines of a checker with these entries of its own: a line for each question that it asked and took the answer of, in the order of
-- their bytes, each once
pub record AreAnswerLines (w : ListedOf) (mine : List JavaEntry) (lines : List (List ℕ)) : Type 0 where
  pub rising : IsRising (slice_cmp nat_cmp) lines
  pub same : (line : List ℕ) → (Contains lines line) ↔ (IsToldLine w (handed (told mine)) line)

-- the number of the unit that checks a file or a type: units are numbered as the scopes of files and types are
abbrev pub unit_of : LayoutOf → Scope → ℕ
unit_of l s = s.serial - first_file l

-- a unit's title and its lines
abbrev pub unit_text : List ℕ → List (List ℕ) → List ℕ
unit_text name lines = codes "unit " ++ name ++ codes "\n" ++ flat_map (λ line. line ++ codes "\n") lines

-- the text of the units that check these files and types, one after another, where this gives the entries of each unit
abbrev pub AreUnitTexts : ListedOf → (ℕ → List JavaEntry) → List Scope → List ℕ → Type 0
AreUnitTexts w mine [] text = text ≡ []
AreUnitTexts w mine (s ∷ ss) text =
    (lines : List (List ℕ)) × (rest : List ℕ) × AreAnswerLines w (mine (unit_of w.layout s)) lines × AreUnitTexts w mine ss rest × (text ≡ unit_text (title w s) lines ++ rest)

-- behind a text stands that of the unit which checks a file or a type, by the unit's entries
abbrev pub AddsUnit : ListedOf → Scope → List JavaEntry → List ℕ → List ℕ → Type 0
AddsUnit w s mine before after = (lines : List (List ℕ)) × AreAnswerLines w mine lines × (after ≡ before ++ unit_text (title w s) lines)

-- behind a text stands that of the units which check these files and types
abbrev pub AddsUnits : ListedOf → (ℕ → List JavaEntry) → List Scope → List ℕ → List ℕ → Type 0
AddsUnits w mine ss before after = (units : List ℕ) × AreUnitTexts w mine ss units × (after ≡ before ++ units)

-- the text of the answers by the log of a run: the units of the folder's own files and then of its own types, and the last line
abbrev pub IsAnswersText : ListedOf → List JavaEntry → List ℕ → Type 0
IsAnswersText w log text =
    (files : List ℕ) × (types : List ℕ) × AreUnitTexts w (λ u. own u log) (listed_files w) files × AreUnitTexts w (λ u. own u log) (listed_types w) types × (text ≡ files ++ types ++ codes "end\n")

-- ---- laws

-- logs that tell each unit the same have one text of answers
abbrev pub AnswersAreOne : Type 0
AnswersAreOne =
    (w : ListedOf) (log other : List JavaEntry) (text others : List ℕ) → ((u : ℕ) → handed (told (own u log)) ≡ handed (told (own u other)))
    → IsAnswersText w log text → IsAnswersText w other others → text ≡ others
