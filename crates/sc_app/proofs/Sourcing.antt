-- The sources of a folder, by the paths that it lists and the files that are read.
use Rattle.std.proofs.Common.{◌≡◌, ℕ, List, [], ◌∷◌, ◌++◌, map, inl, inr, refl, sym, ap, subst, ◌∙◌, append-nil}
use Rattle.std.specs.Cmp.Lexicographic.{slice_cmp}
use Rattle.std.specs.List.{Contains, AllByRecursion}
use Rattle.std.specs.Ordering.{nat_cmp, on}
use Rattle.std.specs.declared.cmp.Ordering.{Ordering}
use Rattle.std.specs.declared.cmp.Ordering.TheVariants.{Less}
use Rattle.std.proofs.lemmas.Cmp.{nat_list_cmp_total, on_total}
use Rattle.sg_base.specs.List.{IsRising}
use Rattle.sg_base.proofs.Finite.{nothing_in, Contains-head, Contains-cons, Contains-tail, Contains-map, map-Contains}
use Rattle.sg_base.proofs.Rising.{rising_one}
use Rattle.sc_io.specs.SourceTree.{FileOf, HasDistinctPaths, IsJavaPath}
use Rattle.sc_app.specs.Gathered.{ListsInOrder}
use Rattle.sc_app.specs.Sourced.{AreSources, IsSource}

-- ---- lists that rise by what their things have

module _ {X Y : Type 0} (R : Y → Y → Ordering) (f : X → Y) where
  above_by : (y : Y) (xs : List X) → AllByRecursion (λ z. R y z ≡ Less) (map f xs) → AllByRecursion (λ x. R y (f x) ≡ Less) xs
  above_by y [] h = tt
  above_by y (x ∷ xs) h = (h.0, above_by y xs h.1)

  above_of : (y : Y) (xs : List X) → AllByRecursion (λ x. R y (f x) ≡ Less) xs → AllByRecursion (λ z. R y z ≡ Less) (map f xs)
  above_of y [] h = tt
  above_of y (x ∷ xs) h = (h.0, above_of y xs h.1)

  pub rising_by : (xs : List X) → IsRising R (map f xs) → IsRising (on f R) xs
  rising_by [] h = tt
  rising_by (x ∷ xs) h = (above_by (f x) xs h.0, rising_by xs h.1)

  pub rising_of : (xs : List X) → IsRising (on f R) xs → IsRising R (map f xs)
  rising_of [] h = tt
  rising_of (x ∷ xs) h = (above_of (f x) xs h.0, rising_of xs h.1)

-- ---- the files of paths

abbrev pub path_of : FileOf → List ℕ
path_of f = f.path

-- a folder has one file of a path
pub one_of_path : (fs : List FileOf) → HasDistinctPaths fs → (f g : FileOf) → Contains fs f → Contains fs g → f.path ≡ g.path → f ≡ g
one_of_path [] distinct f g hf hg e = absurd (nothing_in f hf)
one_of_path (x ∷ xs) distinct f g hf hg e =
    elim (Contains-cons x f xs hf) [
      | inl same ↦
          elim (Contains-cons x g xs hg) [
            | inl also ↦ same ∙ sym also
            | inr later ↦ absurd (distinct.0 (subst (Contains (map path_of xs)) (sym e ∙ ap path_of same) (map-Contains path_of xs g later)))
          ]
      | inr later ↦
          elim (Contains-cons x g xs hg) [
            | inl also ↦ absurd (distinct.0 (subst (Contains (map path_of xs)) (e ∙ ap path_of also) (map-Contains path_of xs f later)))
            | inr more ↦ one_of_path xs distinct.1 f g later more e
          ]
    ]

-- the sources of a folder are one list
pub sources_are_one : (fs ss ts : List FileOf) → AreSources fs ss → AreSources fs ts → ss ≡ ts
sources_are_one fs ss ts s t =
    rising_one (on path_of (slice_cmp nat_cmp)) (on_total path_of nat_list_cmp_total) ss ts s.rising t.rising (λ f. ((λ c. (t.same f).1 ((s.same f).0 c)), (λ c. (s.same f).1 ((t.same f).0 c))))

module _ (fs : List FileOf) (paths : List (List ℕ)) (listed : ListsInOrder fs paths) where
  source_of_path : (p : List ℕ) → Contains paths p → (f : FileOf) × IsSource fs f × (f.path ≡ p)
  source_of_path p c =
      let both = (listed.lists p).0 c in
      let file = Contains-map path_of fs p both.1 in
      (file.0, (file.1, subst IsJavaPath file.2 both.0), sym file.2)

  files_at : (ps : List (List ℕ)) → ((p : List ℕ) → Contains ps p → Contains paths p) → (ss : List FileOf) × (map path_of ss ≡ ps) × ((f : FileOf) → Contains ss f → IsSource fs f)
  files_at [] within = ([], refl, λ f c. absurd (nothing_in f c))
  files_at (p ∷ ps) within =
      let first = source_of_path p (within p (Contains-head p ps)) in
      let rest = files_at ps (λ q c. within q (Contains-tail p q ps c)) in (
        first.0 ∷ rest.0,
        ap (λ (q : List ℕ). q ∷ map path_of rest.0) first.2 ∙ ap (λ (qs : List (List ℕ)). p ∷ qs) rest.1,
        λ f c. elim (Contains-cons first.0 f rest.0 c) [ inl e ↦ subst (IsSource fs) (sym e) first.1 | inr k ↦ rest.2 f k ],
      )

  -- sources with these paths are the sources of the folder
  are_sources : (ss : List FileOf) → map path_of ss ≡ paths → ((f : FileOf) → Contains ss f → IsSource fs f) → AreSources fs ss
  are_sources ss same each = record {
    rising = rising_by (slice_cmp nat_cmp) path_of ss (subst (IsRising (slice_cmp nat_cmp)) (sym same) listed.rising);
    same = λ f. (
      each f,
      (λ s.
          let there : Contains paths f.path = (listed.lists f.path).1 (s.1, map-Contains path_of fs f s.0) in
          let found = Contains-map path_of ss f.path (subst (λ (qs : List (List ℕ)). Contains qs f.path) (sym same) there) in
          subst (Contains ss) (sym (one_of_path fs listed.distinct f found.0 s.0 (each found.0 found.1).0 found.2)) found.1),
    );
  }

  pub sources_listed : (ss : List FileOf) × (map path_of ss ≡ paths) × AreSources fs ss
  sources_listed = let all = files_at paths (λ p c. c) in (all.0, all.1, are_sources all.0 all.1 all.2)

-- ---- files that are read one after another

-- files were read that stand in front of the sources of a folder, and the rest has these paths
pub record IsFront (read : List FileOf) (left : List (List ℕ)) (fs : List FileOf) : Type 0 where
  pub distinct : HasDistinctPaths fs
  pub rest : List FileOf
  pub paths : map path_of rest ≡ left
  pub sources : AreSources fs (read ++ rest)

pub nothing_read : (fs : List FileOf) (paths : List (List ℕ)) → ListsInOrder fs paths → IsFront [] paths fs
nothing_read fs paths listed = let all = sources_listed fs paths listed in record { distinct = listed.distinct; rest = all.0; paths = all.1; sources = all.2 }

pub all_read : (fs read : List FileOf) → IsFront read [] fs → AreSources fs read
all_read fs read front = subst (AreSources fs) (none front.rest front.paths) front.sources
  where
    none : (rest : List FileOf) → map path_of rest ≡ [] → read ++ rest ≡ read
    none [] e = append-nil read
    none (f ∷ rest) e = absurd (cc)

-- the next file, and those behind it
pub next_file : (fs read : List FileOf) (p : List ℕ) (left : List (List ℕ)) → IsFront read (p ∷ left) fs → (f : FileOf) × (more : List FileOf) × (f.path ≡ p) × (map path_of more ≡ left) × AreSources fs (read ++ f ∷ more)
next_file fs read p left front = split front.rest front.paths front.sources
  where
    split : (rest : List FileOf) → map path_of rest ≡ p ∷ left → AreSources fs (read ++ rest) → (f : FileOf) × (more : List FileOf) × (f.path ≡ p) × (map path_of more ≡ left) × AreSources fs (read ++ f ∷ more)
    split [] e s = absurd (cc)
    split (f ∷ more) e s = (f, more, cc, cc, s)
