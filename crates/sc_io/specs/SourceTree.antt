-- What a tree of source files tells.
use Rattle.std.specs.Prelude.{◌≡◌, ◌≤◌, ◌<◌, ℕ, List, [], ◌∷◌, ◌++◌, codes, length, map, ◌↔◌}
use Rattle.std.specs.List.{Contains}
use Rattle.sc_io.specs.declared.content.Content.{Content}
use Rattle.sc_io.specs.declared.content.Content.TheVariants.{Whole, TooLong}

-- a file: its path, with `/` between its parts, and its bytes
pub record FileOf : Type 0 where
  pub path : List ℕ
  pub bytes : List ℕ

-- no path stands twice
abbrev pub HasDistinctPaths : List FileOf → Type 0
HasDistinctPaths [] = Unit {0}
HasDistinctPaths (f ∷ fs) = (Contains (map (λ g. g.path) fs) f.path → ⊥) × HasDistinctPaths fs

-- the path is that of a Java source
abbrev pub IsJavaPath : List ℕ → Type 0
IsJavaPath path = (name : List ℕ) × (path ≡ name ++ codes ".java")

-- these are the paths of the Java sources, in any order
abbrev pub ListsSources : List FileOf → List (List ℕ) → Type 0
ListsSources fs paths = (path : List ℕ) → (Contains paths path) ↔ (IsJavaPath path × Contains (map (λ f. f.path) fs) path)

-- what reading a file of these bytes gives, where at most so many bytes are wanted
abbrev pub IsContent : List ℕ → ℕ → Content → Type 0
IsContent bytes limit (Whole v) = (v.items ≡ bytes) × (length bytes ≤ limit)
IsContent bytes limit TooLong = limit < length bytes

-- the file with this path has these bytes, and this is what reading it gives
abbrev pub ReadsFile : List FileOf → List ℕ → ℕ → Content → Type 0
ReadsFile fs path limit c = (bytes : List ℕ) × Contains fs (record { path = path; bytes = bytes }) × IsContent bytes limit c

-- there is a file with this path
abbrev pub HasFile : List FileOf → List ℕ → Type 0
HasFile fs path = Contains (map (λ f. f.path) fs) path

-- at most so many bytes
abbrev pub IsWithin : ℕ → Content → Type 0
IsWithin limit (Whole v) = length v.items ≤ limit
IsWithin limit TooLong = Unit {0}
