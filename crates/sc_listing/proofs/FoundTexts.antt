-- Paths that were found, as texts.
use Rattle.std.proofs.Common.{◌≡◌, ℕ, ◌+◌, ◌<◌, ◌≤◌, List, [], ◌∷◌, ◌++◌, codes, drop, length, slice_index_or, refl, sym, ap, ◌∙◌, arith}
use Rattle.std.specs.List.{flat_map}
use Rattle.std.proofs.lemmas.List.{append_assoc, append-nil, at_drop_more, at_drop_all}
use Rattle.sg_query.specs.declared.found.Found.{Found}
use Rattle.jv_instance.specs.declared.datum.JavaDatum.{JavaDatum}
use Rattle.sc_listing.specs.Questions.{path_text, paths_text}
use Rattle.sc_listing.specs.Titles.{ListedOf}

-- a text with the next of the pieces that are left
pub piece_more : {X : Type 0} (g : X → List ℕ) (xs : List X) (k : ℕ) (x : X) (old new : List ℕ) → k < length xs → x ≡ slice_index_or xs k x → new ≡ old ++ g x → new ++ flat_map g (drop (k + 1) xs) ≡ old ++ flat_map g (drop k xs)
piece_more g xs k x old new below there e =
    ap (λ (t : List ℕ). t ++ flat_map g (drop (k + 1) xs)) e
    ∙ (append_assoc old (g x) (flat_map g (drop (k + 1) xs))
    ∙ (ap (λ y. old ++ (g y ++ flat_map g (drop (k + 1) xs))) there
    ∙ sym (at_drop_more (λ ys. old ++ flat_map g ys) xs k x below)))

-- where no piece is left, the text has all
pub pieces_done : {X : Type 0} (g : X → List ℕ) (xs : List X) (k : ℕ) (text all : List ℕ) → length xs ≤ k → text ++ flat_map g (drop k xs) ≡ all → text ≡ all
pieces_done g xs k text all past e = sym (append-nil text) ∙ (sym (at_drop_all (λ ys. text ++ flat_map g ys) xs k past) ∙ e)

module _ (w : ListedOf) where
  pub no_path : (fs : List (Found JavaDatum)) → length fs ≡ 0 → codes "-" ≡ paths_text w fs
  no_path [] e = refl
  no_path (f ∷ fs) e = absurd (omega (arith, e))

  -- the first path, and the others
  pub first_path : (fs : List (Found JavaDatum)) (f : Found JavaDatum) → (length fs ≡ 0 → ⊥) → f ≡ slice_index_or fs 0 f → path_text w f.path ++ flat_map (λ g. codes "; " ++ path_text w g.path) (drop 1 fs) ≡ paths_text w fs
  first_path [] f apart there = absurd (apart refl)
  first_path (g ∷ fs) f apart there = ap (λ (h : Found JavaDatum). path_text w h.path ++ flat_map (λ g. codes "; " ++ path_text w g.path) fs) there
