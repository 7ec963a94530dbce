-- The lines that are written.
use Rattle.std.specs.Prelude.{ℕ, List, ◌++◌, codes}

-- a text and its end of line
abbrev pub line : List ℕ → List ℕ
line text = text ++ codes "\n"
