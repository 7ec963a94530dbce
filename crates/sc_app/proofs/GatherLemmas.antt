-- What reading the files of a folder comes to, one after another.
use Rattle.std.proofs.Common.{◌≡◌, ℕ, suc, ◌+◌, ◌<◌, ◌≤◌, List, [], ◌∷◌, ◌++◌, length, map, Vec, Global, Option, None, Some, IfSome, inl, inr, refl, sym, ap, subst, ◌∙◌, append_assoc, arith, length-append}
use Rattle.std.specs.List.{Contains}
use Rattle.std.proofs.lemmas.List.{length-map}
use Rattle.std.proofs.lemmas.List.Elements.{Contains-append_right}
use Rattle.std.proofs.lemmas.List.Sums.{sum_by-append, sum_by-cons}
use Rattle.sg_base.proofs.Finite.{Contains-head, map-Contains}
use Rattle.sc_io.specs.Faults.{HasRisen}
use Rattle.sc_io.specs.declared.content.Content.{Content}
use Rattle.sc_io.specs.declared.content.Content.TheVariants.{Whole, TooLong}
use Rattle.sc_io.specs.SourceTree.{FileOf, HasFile, ReadsFile}
use Rattle.sc_sources.specs.Read.{most_bytes, most_files, most_total}
use Rattle.sc_app.specs.declared.status.Which.{Which}
use Rattle.sc_app.specs.declared.status.Which.TheVariants.{Files, FileBytes, TotalBytes}
use Rattle.sc_app.specs.Gathered.{ListsInOrder, Passes}
use Rattle.sc_app.specs.Sourced.{AreSources, passed_from}
use Rattle.sc_app.proofs.Limits.{passes_alone, passes_none, passes_together, size, sizes, unpassed_before}
use Rattle.sc_app.proofs.Sourcing.{IsFront, next_file, one_of_path, path_of, sources_listed}
use Rattle.sc_app.proofs.Telling.{IfSome-map2, at_files}

-- a count that rose behind a count rose since any before it
pub risen_since : (a b c : ℕ) → a ≤ b → HasRisen b c → HasRisen a c
risen_since a b c le (inl up) = inl (omega (arith, le, up))
risen_since a b c le (inr full) = inr full

-- the sources pass the limit on files where so many paths are listed
pub passes_files : (fs : List FileOf) (paths : List (List ℕ)) → ListsInOrder fs paths → most_files < length paths → (ss : List FileOf) × AreSources fs ss × Passes ss Files
passes_files fs paths listed many =
    let all = sources_listed fs paths listed in
    let long : length all.0 ≡ length paths = sym (length-map all.0 path_of) ∙ ap length all.1 in
    (all.0, all.2, inl (refl, omega (arith, long, many)))

module _ (fs read : List FileOf) (p : List ℕ) (left : List (List ℕ)) (front : IsFront read (p ∷ left) fs) where
  there : (f : FileOf) (more : List FileOf) → AreSources fs (read ++ f ∷ more) → Contains fs f
  there f more s = ((s.same f).0 (Contains-append_right read (f ∷ more) f (Contains-head f more))).0

  -- there is a file with the next path
  pub has_next : HasFile fs p
  has_next =
      let n = next_file fs read p left front in
      subst (HasFile fs) n.2 (map-Contains path_of fs n.0 (there n.0 n.1 n.4))

  module _ (bytes : List ℕ) (found : Contains fs (record { path = p; bytes = bytes })) where
    abbrev here : FileOf
    here = record { path = p; bytes = bytes }

    next_is : (more : List FileOf) × (map path_of more ≡ left) × AreSources fs (read ++ here ∷ more)
    next_is =
        let n = next_file fs read p left front in
        let same : n.0 ≡ here = one_of_path fs front.distinct n.0 here (there n.0 n.1 n.4) found n.2 in
        (n.1, n.3, subst (λ (f : FileOf). AreSources fs (read ++ f ∷ n.1)) same n.4)

    -- one more file was read
    pub one_more_read : IsFront (read ++ here ∷ []) left fs
    one_more_read = record { distinct = front.distinct; rest = next_is.0; paths = next_is.1; sources = subst (AreSources fs) (sym (append_assoc read (here ∷ []) next_is.0)) next_is.2 }

    module _ (few : length read + suc (length left) ≤ most_files) (none : passed_from 0 read ≡ None) where
      passes_here : (which : Which) → passed_from (sizes read) (here ∷ next_is.0) ≡ Some which → (ss : List FileOf) × AreSources fs ss × Passes ss which
      passes_here which e =
          let long : length next_is.0 ≡ length left = sym (length-map next_is.0 path_of) ∙ ap length next_is.1 in
          let all : length (read ++ here ∷ next_is.0) ≡ length read + suc (length next_is.0) = length-append read (here ∷ next_is.0) in
          (read ++ here ∷ next_is.0, next_is.2, inr (omega (arith, few, long, all), unpassed_before read (here ∷ next_is.0) none ∙ e))

      -- the next file is too long alone
      pub passes_file_bytes : most_bytes < length bytes → (ss : List FileOf) × AreSources fs ss × Passes ss FileBytes
      passes_file_bytes long = passes_here FileBytes (passes_alone (sizes read) here next_is.0 long)

      -- the next file is too long with those before it
      pub passes_total_bytes : length bytes ≤ most_bytes → most_total < sizes read + length bytes → (ss : List FileOf) × AreSources fs ss × Passes ss TotalBytes
      passes_total_bytes small many = passes_here TotalBytes (passes_together (sizes read) here next_is.0 small many)

-- one more file that passes no limit
module _ (read : List FileOf) (f : FileOf) where
  pub one_more_size : sizes (read ++ f ∷ []) ≡ sizes read + size f
  one_more_size = omega (arith, sum_by-append size read (f ∷ []), sum_by-cons size f [])

  pub one_more_unpassed : passed_from 0 read ≡ None → size f ≤ most_bytes → sizes read + size f ≤ most_total → passed_from 0 (read ++ f ∷ []) ≡ None
  one_more_unpassed none small few = unpassed_before read (f ∷ []) none ∙ passes_none (sizes read) f [] small few

-- ---- where the files are told

pub not_whole : (k : Content) → ((v : Vec ℕ Global) → k ≡ Whole v → ⊥) → k ≡ TooLong
not_whole (Whole v) none = absurd (none v refl)
not_whole TooLong none = refl

pub no_more : {X : Type 0} (xs : List X) → length xs ≡ 0 → xs ≡ []
no_more [] e = refl
no_more (x ∷ xs) e = absurd (omega (arith, e))

-- the sources of a folder pass this limit
abbrev pub PassesOf : Which → List FileOf → Type 0
PassesOf which fs = (ss : List FileOf) × AreSources fs ss × Passes ss which

module _ (files : Option (List FileOf)) (read : List FileOf) (p q : List ℕ) (left : List (List ℕ)) (same : q ≡ p) (front : IfSome files (IsFront read (p ∷ left))) where
  pub may_read : (fs : List FileOf) → files ≡ Some fs → HasFile fs q
  may_read fs e = subst (HasFile fs) (sym same) (has_next fs read p left (at_files files (IsFront read (p ∷ left)) fs front e))

  abbrev Gives : Content → List FileOf → Type 0
  Gives k fs = ReadsFile fs q most_bytes k

  found_there : (fs : List FileOf) (bytes : List ℕ) → Contains fs (record { path = q; bytes = bytes }) → Contains fs (record { path = p; bytes = bytes })
  found_there fs bytes c = subst (λ (t : List ℕ). Contains fs (record { path = t; bytes = bytes })) same c

  module _ (few : length read + suc (length left) ≤ most_files) (none : passed_from 0 read ≡ None) where
    pub read_too_long : IfSome files (Gives TooLong) → IfSome files (PassesOf FileBytes)
    read_too_long gives =
        IfSome-map2 files (IsFront read (p ∷ left)) (Gives TooLong) (PassesOf FileBytes) (λ fs f r. passes_file_bytes fs read p left f r.0 (found_there fs r.0 r.1) few none r.2) front gives

    pub read_too_many : (v : Vec ℕ Global) → most_total < sizes read + length v.items → IfSome files (Gives (Whole v)) → IfSome files (PassesOf TotalBytes)
    read_too_many v many gives =
        IfSome-map2 files (IsFront read (p ∷ left)) (Gives (Whole v)) (PassesOf TotalBytes) (λ fs f r.
        let all : length v.items ≡ length r.0 = ap length r.2.0 in
        passes_total_bytes fs read p left f r.0 (found_there fs r.0 r.1) few none r.2.1 (omega (arith, many, all))) front gives

  pub read_whole : (v : Vec ℕ Global) → IfSome files (Gives (Whole v)) → IfSome files (IsFront (read ++ record { path = p; bytes = v.items } ∷ []) left)
  read_whole v gives =
      IfSome-map2 files (IsFront read (p ∷ left)) (Gives (Whole v)) (IsFront (read ++ record { path = p; bytes = v.items } ∷ []) left) (λ fs f r.
      subst (λ (b : List ℕ). IsFront (read ++ record { path = p; bytes = b } ∷ []) left fs) (sym r.2.0) (one_more_read fs read p left f r.0 (found_there fs r.0 r.1))) front gives
