-- What is kept of the sources so far: one source more, and what all of them come to.
use Rattle.std.proofs.Common.{◌≡◌, ℕ, suc, ◌+◌, ◌<◌, ◌≤◌, List, [], ◌∷◌, ◌++◌, length, map, refl, sym, ap, ◌∙◌, subst, arith}
use Rattle.std.specs.List.{Contains, sum_by}
use Rattle.std.proofs.lemmas.List.{map-append, length-append, length-map}
use Rattle.std.proofs.lemmas.List.Sums.{sum_by-cons}
use Rattle.jv_diag.specs.Plain.{DiagOf, diagnostic}
use Rattle.jv_layout.specs.Sizes.{IsFolder}
use Rattle.jv_tree.specs.declared.declaration.Unit.{Unit as File}
use Rattle.jv_tree.specs.DeclTree.{UnitTree, tree_of}
use Rattle.jv_tree.specs.Numbered.{IsNumbered}
use Rattle.sc_io.specs.SourceTree.{FileOf}
use Rattle.sc_sources.specs.declared.reading.Reading.{Reading}
use Rattle.sc_sources.specs.declared.sources.Sources.TheVariants.{Trees, Faults}
use Rattle.sc_sources.specs.Sources.{Outcome, tree, fault, Reads, ReadsAll, nothing, next, object_source, string_source, AreTrees, faults_from}
use Rattle.sc_sources.specs.Read.{AreWithinLimits, IsReadOf}
use Rattle.sc_sources.specs.Reading.{IsReading, trees_of}
use Rattle.sc_sources.proofs.Bounds.{Totals, totals}

-- ---- one source more

read_behind : {old sources middle : List (List ℕ)} {xs : List Outcome} (bytes : List ℕ) (new : List (List ℕ)) (x : Outcome) → ReadsAll old sources middle xs → Reads bytes middle new x → ReadsAll old (sources ++ bytes ∷ []) new (xs ++ x ∷ [])
read_behind bytes new x nothing r = next r nothing
read_behind bytes new x (next q qs) r = next q (read_behind bytes new x qs r)

outcomes_count : {old sources new : List (List ℕ)} {xs : List Outcome} → ReadsAll old sources new xs → length xs ≡ length sources
outcomes_count nothing = refl
outcomes_count (next r rs) = ap suc (outcomes_count rs)

trees_behind : (u : UnitTree) (xs : List Outcome) → trees_of (xs ++ tree u ∷ []) ≡ trees_of xs ++ u ∷ []
trees_behind u [] = refl
trees_behind u (tree v ∷ xs) = ap (λ us. v ∷ us) (trees_behind u xs)
trees_behind u (fault at code ∷ xs) = trees_behind u xs

no_tree_behind : (p c : ℕ) (xs : List Outcome) → trees_of (xs ++ fault p c ∷ []) ≡ trees_of xs
no_tree_behind p c [] = refl
no_tree_behind p c (tree v ∷ xs) = ap (λ us. v ∷ us) (no_tree_behind p c xs)
no_tree_behind p c (fault at code ∷ xs) = no_tree_behind p c xs

no_fault_behind : (file : ℕ) (u : UnitTree) (xs : List Outcome) → faults_from file (xs ++ tree u ∷ []) ≡ faults_from file xs
no_fault_behind file u [] = refl
no_fault_behind file u (tree v ∷ xs) = no_fault_behind (suc file) u xs
no_fault_behind file u (fault at code ∷ xs) = ap (λ ds. diagnostic file at code [] ∷ ds) (no_fault_behind (suc file) u xs)

fault_behind : (file number p c : ℕ) (xs : List Outcome) → number ≡ file + length xs → faults_from file (xs ++ fault p c ∷ []) ≡ faults_from file xs ++ diagnostic number p c [] ∷ []
fault_behind file number p c [] e = let same : file ≡ number = omega (arith, e) in ap (λ n. diagnostic n p c [] ∷ []) same
fault_behind file number p c (tree v ∷ xs) e = fault_behind (suc file) number p c xs (omega (arith, e))
fault_behind file number p c (fault at code ∷ xs) e = ap (λ ds. diagnostic file at code [] ∷ ds) (fault_behind (suc file) number p c xs (omega (arith, e)))

module _ (sources : List (List ℕ)) (bytes : List ℕ) (old new : Reading) (is : IsReading sources old) (counted : new.files ≡ old.files + 1) where
  files_behind : new.files ≡ length (sources ++ bytes ∷ [])
  files_behind = omega (arith, counted, is.files, length-append sources (bytes ∷ []))

  pub tree_read : (u : File) → Reads bytes old.names new.names (tree (tree_of u)) → new.units.items ≡ old.units.items ++ u ∷ [] → new.faults ≡ old.faults → IsReading (sources ++ bytes ∷ []) new
  tree_read u r units faults = record {
    outcomes = is.outcomes ++ tree (tree_of u) ∷ [];
    reads = read_behind bytes new.names (tree (tree_of u)) is.reads r;
    trees = ap (map tree_of) units ∙ map-append tree_of old.units.items (u ∷ []) ∙ ap (λ us. us ++ tree_of u ∷ []) is.trees ∙ sym (trees_behind (tree_of u) is.outcomes);
    faults = faults ∙ is.faults ∙ sym (no_fault_behind 0 (tree_of u) is.outcomes);
    files = files_behind;
  }

  pub fault_read : (p c : ℕ) → Reads bytes old.names new.names (fault p c) → new.units.items ≡ old.units.items → new.faults ≡ old.faults ++ diagnostic old.files p c [] ∷ [] → IsReading (sources ++ bytes ∷ []) new
  fault_read p c r units faults = record {
    outcomes = is.outcomes ++ fault p c ∷ [];
    reads = read_behind bytes new.names (fault p c) is.reads r;
    trees = ap (map tree_of) units ∙ is.trees ∙ sym (no_tree_behind p c is.outcomes);
    faults = faults ∙ ap (λ ds. ds ++ diagnostic old.files p c [] ∷ []) is.faults ∙ sym (fault_behind 0 old.files p c is.outcomes (omega (arith, is.files, outcomes_count is.reads)));
    files = files_behind;
  }

-- ---- bounds

-- the names and the files of sources that were read
pub few_names : (sources : List (List ℕ)) (r : Reading) → IsReading sources r → length r.names ≤ sum_by length sources
few_names sources r is = omega (arith, (totals is.reads).few)

pub bytes_of : (fs : List FileOf) → sum_by length (map (λ f. f.bytes) fs) ≡ sum_by (λ f. length f.bytes) fs
bytes_of [] = refl
bytes_of (f ∷ fs) = sum_by-cons length f.bytes (map (λ g. g.bytes) fs) ∙ ap (λ n. length f.bytes + n) (bytes_of fs) ∙ sym (sum_by-cons (λ g. length g.bytes) f fs)

pub object_length : length object_source ≡ 168
object_length = refl

pub string_length : length string_source ≡ 212
string_length = refl

-- all bytes with those of the prelude
pub all_bytes : (fs : List FileOf) → sum_by length (object_source ∷ string_source ∷ map (λ f. f.bytes) fs) ≡ 380 + sum_by (λ f. length f.bytes) fs
all_bytes fs = omega (
  arith,
  sum_by-cons length object_source (string_source ∷ map (λ f. f.bytes) fs),
  sum_by-cons length string_source (map (λ f. f.bytes) fs),
  object_length,
  string_length,
  bytes_of fs,
)

-- ---- what all sources come to

cons_nil : {d : DiagOf} {ds : List DiagOf} → d ∷ ds ≡ [] → ⊥
cons_nil h = cc

no_faults : (file : ℕ) (xs : List Outcome) → faults_from file xs ≡ [] → AreTrees xs (trees_of xs)
no_faults file [] h = refl
no_faults file (tree u ∷ xs) h = ap (λ ys. tree u ∷ ys) (no_faults (suc file) xs h)
no_faults file (fault at code ∷ xs) h = absurd (cons_nil h)

module _ (fs : List FileOf) (limits : AreWithinLimits fs) (r : Reading) (is : IsReading (object_source ∷ string_source ∷ map (λ f. f.bytes) fs) r) where
  pub all_trees : r.faults ≡ [] → IsReadOf fs (Trees r.names r.units)
  all_trees none =
      let l : Totals [] (object_source ∷ string_source ∷ map (λ f. f.bytes) fs) r.names is.outcomes = totals is.reads in
      let folder : IsFolder (trees_of is.outcomes) = record {
        files = omega (arith, l.trees, length-map fs (λ f. f.bytes), limits.files);
        few = omega (arith, l.declared, all_bytes fs, limits.total);
      } in (
        is.outcomes,
        is.reads,
        subst (AreTrees is.outcomes) (sym is.trees) (no_faults 0 is.outcomes (sym is.faults ∙ none)),
        subst IsFolder (sym is.trees) folder,
        subst (λ (us : List UnitTree). (u : UnitTree) → Contains us u → IsNumbered (length r.names) u) (sym is.trees) l.numbered,
      )

  pub some_faults : 0 < length r.faults → IsReadOf fs (Faults r.faults)
  some_faults some = (r.names, is.outcomes, is.reads, is.faults, some)
