-- Packages as prefixes of the clauses of files, and where a thing stands in a rising list.
use Rattle.std.specs.Prelude.{◌≡◌, ℕ, zero, suc, ◌<◌, ◌≤◌, List, [], length, map, take, Option, Some, Result, MatchResult, None}
use Rattle.std.specs.List.{slice_get, slice_index_or}
use Rattle.std.specs.declared.cmp.Ordering.{Ordering}
use Rattle.std.specs.declared.cmp.Ordering.TheVariants.{Less, Equal, Greater}
use Rattle.jv_tree.specs.declared.declaration.Unit.{Unit as File}
use Rattle.jv_tree.specs.DeclTree.{UnitTree, tree_of}
use Rattle.jv_layout.specs.declared.packages.Prefix.{Prefix}
use Rattle.jv_layout.specs.Folder.{clause_of}

-- a file with nothing in it
abbrev pub no_unit : UnitTree
no_unit = record { package_name = None; imports = []; types = [] }

-- the package of the file with this number
abbrev pub clause_at : List UnitTree → ℕ → List ℕ
clause_at units f = clause_of (slice_index_or units f no_unit)

-- the package that a prefix names
abbrev pub path_at : List UnitTree → Prefix → List ℕ
path_at units p = take p.len (clause_at units p.file)

-- the packages that prefixes of the clauses of files name
abbrev pub prefix_paths : List File → List Prefix → List (List ℕ)
prefix_paths files ps = map (path_at (map tree_of files)) ps

-- the clauses of two files begin with the same names, so many
abbrev pub BeginAlike : List UnitTree → ℕ → ℕ → ℕ → Type 0
BeginAlike units f g n = take n (clause_at units f) ≡ take n (clause_at units g)

-- a thing stands at a place of a list, or would stand there: what is before it is less, and else what is behind it is greater
abbrev pub IsSearched : {X : Type 0} → (X → X → Ordering) → List X → X → Result ℕ ℕ → Type 0
IsSearched {X} R xs x r = MatchResult r
    (λ i. (i < length xs) × ((d : X) → R x (slice_index_or xs i d) ≡ Equal) × ((k : ℕ) (d : X) → k < i → R x (slice_index_or xs k d) ≡ Greater))
    (λ i. (i ≤ length xs) × ((k : ℕ) (d : X) → k < i → R x (slice_index_or xs k d) ≡ Greater) × ((k : ℕ) (d : X) → i ≤ k → k < length xs → R x (slice_index_or xs k d) ≡ Less))

-- the first file whose clause begins with the first k names of a file's clause, where a table has one
abbrev pub first_file : List (List ℕ) → ℕ → ℕ → Option ℕ
first_file rows f zero = None
first_file rows f (suc k) = slice_get (slice_index_or rows f []) k

-- what a table has for the first names of a clause is a file whose clause begins with the same
pub record AreFirstFiles (units : List UnitTree) (rows : List (List ℕ)) : Type 0 where
  pub same : (f k h : ℕ) → first_file rows f k ≡ Some h → take k (clause_at units h) ≡ take k (clause_at units f)
