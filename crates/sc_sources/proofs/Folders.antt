-- The files of a folder so far, and how many bytes they have.
use Rattle.std.proofs.Common.{◌≡◌, ℕ, zero, suc, ◌+◌, ◌<◌, ◌≤◌, List, [], ◌∷◌, ◌++◌, length, map, take, drop, get_or, sym, ap, ◌∙◌, arith}
use Rattle.std.specs.List.{All, sum_by}
use Rattle.std.proofs.lemmas.List.{take_more, take-append-drop, map-append}
use Rattle.std.proofs.lemmas.List.Elements.{All-head, All-tail}
use Rattle.std.proofs.lemmas.List.Sums.{sum_by-append, sum_by-cons}
use Rattle.sc_io.specs.declared.source_file.SourceFile.{SourceFile}
use Rattle.sc_io.specs.SourceTree.{FileOf}
use Rattle.sc_io.specs.SourceFile.{source_of, sources_of}
use Rattle.sc_sources.specs.declared.reading.Reading.{Reading}
use Rattle.sc_sources.specs.Read.{AreWithinLimits}
use Rattle.sc_sources.specs.Sources.{object_source, string_source}
use Rattle.sc_sources.specs.Reading.{IsReading}
use Rattle.sc_sources.proofs.Readings.{few_names, object_length, string_length, all_bytes}

abbrev pub size : FileOf → ℕ
size f = length f.bytes

-- the sources of the prelude, and those of so many files
abbrev pub first_sources : List SourceFile → ℕ → List (List ℕ)
first_sources files i = object_source ∷ string_source ∷ map (λ f. f.bytes) (sources_of (take i files))

pub next_source : (files : List SourceFile) (i : ℕ) (d : SourceFile) → i < length files → sources_of (take (i + 1) files) ≡ sources_of (take i files) ++ source_of (get_or files i d) ∷ []
next_source files i d l = ap sources_of (take_more files i d l) ∙ map-append source_of (take i files) (get_or files i d ∷ [])

pub next_sources : (files : List SourceFile) (i : ℕ) (d : SourceFile) → i < length files → first_sources files (i + 1) ≡ first_sources files i ++ (get_or files i d).bytes.items ∷ []
next_sources files i d l =
    ap (λ (fs : List FileOf). object_source ∷ string_source ∷ map (λ f. f.bytes) fs) (next_source files i d l)
    ∙ ap (λ (bs : List (List ℕ)). object_source ∷ string_source ∷ bs) (map-append (λ f. f.bytes) (sources_of (take i files)) (source_of (get_or files i d) ∷ []))

pub sizes_cut : (files : List SourceFile) (i : ℕ) → sum_by size (sources_of files) ≡ sum_by size (sources_of (take i files)) + sum_by size (sources_of (drop i files))
sizes_cut files i =
    ap (λ (fs : List SourceFile). sum_by size (sources_of fs)) (sym (take-append-drop i files))
    ∙ ap (sum_by size) (map-append source_of (take i files) (drop i files))
    ∙ sum_by-append size (sources_of (take i files)) (sources_of (drop i files))

pub next_size : (files : List SourceFile) (i : ℕ) (d : SourceFile) → i < length files → sum_by size (sources_of (take (i + 1) files)) ≡ sum_by size (sources_of (take i files)) + length (get_or files i d).bytes.items
next_size files i d l =
    let whole : sum_by size (sources_of (take (i + 1) files)) ≡ sum_by size (sources_of (take i files)) + sum_by size (source_of (get_or files i d) ∷ []) =
    ap (sum_by size) (next_source files i d l) ∙ sum_by-append size (sources_of (take i files)) (source_of (get_or files i d) ∷ []) in
    omega (arith, whole, sum_by-cons size (source_of (get_or files i d)) [])

file_size : (files : List SourceFile) (i : ℕ) (d : SourceFile) → i < length files → All (λ f. length f.bytes ≤ 1048576) (sources_of files) → length (get_or files i d).bytes.items ≤ 1048576
file_size [] i d l a = absurd (omega (arith, l))
file_size (f ∷ fs) zero d l a = All-head (λ g. length g.bytes ≤ 1048576) (source_of f) (sources_of fs) a
file_size (f ∷ fs) (suc i) d l a = file_size fs i d (omega (arith, l)) (All-tail (λ g. length g.bytes ≤ 1048576) (source_of f) (sources_of fs) a)

-- a file more is small, and so are the names with it
module _ (files : List SourceFile) (limits : AreWithinLimits (sources_of files)) (i : ℕ) (d : SourceFile) (below : i < length files) where
  pub is_small : length (get_or files i d).bytes.items ≤ 1048576
  is_small = file_size files i d below limits.each

  pub has_room : (r : Reading) → IsReading (first_sources files i) r → length r.names + length (get_or files i d).bytes.items < 4294967295
  has_room r is = omega (
    arith,
    few_names (first_sources files i) r is,
    all_bytes (sources_of (take i files)),
    next_size files i d below,
    sizes_cut files (i + 1),
    limits.total,
  )

-- ---- the sources of the prelude

-- the second one fits behind the first
module _ (first second : List ℕ) (object : first ≡ object_source) (string : second ≡ string_source) (r : Reading) (is : IsReading (first ∷ []) r) where
  pub second_fits : length r.names + length second < 4294967295
  second_fits = omega (
    arith,
    few_names (first ∷ []) r is,
    sum_by-cons length first [],
    ap length object ∙ object_length,
    ap length string ∙ string_length,
  )

  pub second_counts : r.files < 4294967295
  second_counts = omega (arith, is.files)

-- both of them
module _ (r : Reading) (is : IsReading (object_source ∷ string_source ∷ []) r) where
  pub prelude_fits : length r.names ≤ 1000
  prelude_fits = omega (
    arith,
    few_names (object_source ∷ string_source ∷ []) r is,
    sum_by-cons length object_source (string_source ∷ []),
    sum_by-cons length string_source [],
    object_length,
    string_length,
  )
