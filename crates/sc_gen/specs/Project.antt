-- The files of a project that is made from a number.
use Rattle.std.specs.Prelude.{ℕ, zero, suc, ◌/◌, ◌≤◌, List, [], ◌++◌, codes, decimal, map, ◌↔◌}
use Rattle.std.specs.Cmp.Lexicographic.{slice_cmp}
use Rattle.std.specs.List.{Contains, range_with_len}
use Rattle.std.specs.List.Sorted.{IsStrictlySortedBy}
use Rattle.std.specs.Ordering.{nat_cmp, on}
use Rattle.sc_io.specs.SourceTree.{FileOf, HasDistinctPaths, IsJavaPath}

-- the path of the class with this number
abbrev pub path_of : ℕ → List ℕ
path_of i = codes "g/C" ++ decimal i ++ codes ".java"

-- the number of the class that it extends
abbrev pub half : ℕ → ℕ
half i = i / 2

-- the words that name the class that it extends; the first class extends none
abbrev pub extends_text : ℕ → List ℕ
extends_text zero = []
extends_text (suc k) = codes "extends C" ++ decimal (half (suc k)) ++ codes " "

-- the field of the class and its method, which reads the field of the class that it extends
abbrev pub body_text : ℕ → List ℕ
body_text i = codes "{ int f" ++ decimal i ++ codes "; int m" ++ decimal i ++ codes "() { return f" ++ decimal (half i) ++ codes " + 1; } }"

-- the text of the class
abbrev pub class_text : ℕ → List ℕ
class_text i = codes "package g; class C" ++ decimal i ++ codes " " ++ extends_text i ++ body_text i

-- its file
abbrev pub class_file : ℕ → FileOf
class_file i = record { path = path_of i; bytes = class_text i }

-- the files of the project with n classes, which have the numbers below n
abbrev pub project_files : ℕ → List FileOf
project_files n = map class_file (range_with_len 0 n)

-- these are the files of the project with n classes, in rising order of their paths
pub record IsProject (n : ℕ) (fs : List FileOf) : Type 0 where
  pub rising : IsStrictlySortedBy (on (λ f. f.path) (slice_cmp nat_cmp)) fs
  pub same : (f : FileOf) → (Contains fs f) ↔ (Contains (project_files n) f)

-- ---- laws

-- the files of a project have paths of their own, which are those of Java sources
abbrev pub ProjectsAreFolders : Type 0
ProjectsAreFolders = (n : ℕ) → n ≤ 1000 → HasDistinctPaths (project_files n) × ((f : FileOf) → Contains (project_files n) f → IsJavaPath f.path)
