-- What holds of all words and files.
use Rattle.std.specs.Prelude.{◌≡◌, ℕ, List, Option}
use Rattle.sc_io.specs.SourceTree.{FileOf}
use Rattle.sc_app.specs.declared.command.Command.TheVariants.{Answers}
use Rattle.sc_app.specs.declared.status.Status.{Status}
use Rattle.sc_app.specs.Command.{Asks}
use Rattle.sc_app.specs.Told.{Told}

-- the words ask for the answers that checkers took
abbrev pub AskForAnswers : List (List ℕ) → Type 0
AskForAnswers words = (workers : Option ℕ) × Asks words Answers workers

-- the words and the files tell one status at most, and one list of bytes at most, unless the words ask for answers: of the queries that a unit may ask,
-- those of its imports or its header alone must be among them
abbrev pub ToldIsOne : Type 0
ToldIsOne =
    (words : List (List ℕ)) (fs : List FileOf) (bytes others : List ℕ) (status other : Status) → Told words fs bytes status → Told words fs others other
    → (status ≡ other) × ((AskForAnswers words → ⊥) → bytes ≡ others)
