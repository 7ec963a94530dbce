-- The words of modifiers at a declaration, by the numbers of their keywords: abstract 0, default 11, final 17, private 32, protected 33, public 34, static 37.
use Rattle.std.specs.Prelude.{ℕ, ◌&&◌, ◌||◌, not, Bool, false, List, [], ◌∷◌}
use Rattle.std.specs.List.{list_any}
use Rattle.jv_layout.specs.Folder.{is_written}

-- a word stands twice
abbrev pub has_repeat : List ℕ → Bool
has_repeat [] = false
has_repeat (w ∷ ws) = is_written w ws || has_repeat ws

-- two of public, protected and private stand
abbrev pub has_two_accesses : List ℕ → Bool
has_two_accesses ws = (is_written 34 ws && is_written 33 ws) || ((is_written 34 ws && is_written 32 ws) || (is_written 33 ws && is_written 32 ws))

-- a word stands that is none of those which may
abbrev pub has_other : List ℕ → List ℕ → Bool
has_other allowed ws = list_any (λ w. not (is_written w allowed)) ws
