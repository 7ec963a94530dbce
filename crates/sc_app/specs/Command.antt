-- What the words of a command line ask for.
use Rattle.std.specs.Prelude.{◌≡◌, ◌≢◌, ◌≤◌, ℕ, List, [], ◌∷◌, ◌++◌, codes, decimal, Option, None, Some}
use Rattle.sc_app.specs.declared.asked.Asked.{Asked}
use Rattle.sc_app.specs.declared.command.Command.{Command}
use Rattle.sc_app.specs.declared.command.Command.TheVariants.{Check, Answers, Graph, Gen}

-- a folder's name: some text that does not begin with `-`
abbrev pub IsFolderName : List ℕ → Type 0
IsFolderName name = (name ≢ []) × ((rest : List ℕ) → name ≢ codes "-" ++ rest)

-- the text is a number from 1 to a greatest one, in decimal
pub record IsCount (most : ℕ) (text : List ℕ) (n : ℕ) : Type 0 where
  pub writes : text ≡ decimal n
  pub some : 1 ≤ n
  pub few : n ≤ most

-- the word asks for so many workers, from 1 to 64
abbrev pub IsWorkers : List ℕ → ℕ → Type 0
IsWorkers word n = (number : List ℕ) × (word ≡ codes "--workers=" ++ number) × IsCount 64 number n

-- the words beside the option ask for this
abbrev pub IsCommandOf : Command → List ℕ → List ℕ → Type 0
IsCommandOf Check command operand = (command ≡ codes "check") × IsFolderName operand
IsCommandOf Answers command operand = (command ≡ codes "answers") × IsFolderName operand
IsCommandOf Graph command operand = (command ≡ codes "graph") × IsFolderName operand
IsCommandOf (Gen n) command operand = (command ≡ codes "gen") × IsCount 1000 operand n

-- the words beside the option ask for this, and the option for so many workers
abbrev pub AsksWith : Asked → List ℕ → List ℕ → List ℕ → Type 0
AsksWith a command option operand = (n : ℕ) × (a.workers ≡ Some n) × IsCommandOf a.command command operand × IsWorkers option n

-- the words ask for this, and for so many workers, where they say so: a command, at most one option, and an operand
abbrev pub Asks : List (List ℕ) → Command → Option ℕ → Type 0
Asks words c None = (command : List ℕ) × (operand : List ℕ) × (words ≡ command ∷ operand ∷ []) × IsCommandOf c command operand
Asks words c (Some n) =
    (command : List ℕ) × (option : List ℕ) × (operand : List ℕ) × (words ≡ command ∷ option ∷ operand ∷ []) × IsCommandOf c command operand × IsWorkers option n

-- the words are a command
abbrev pub IsCommand : List (List ℕ) → Type 0
IsCommand words = (c : Command) × (workers : Option ℕ) × Asks words c workers
