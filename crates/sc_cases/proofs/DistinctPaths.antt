-- Folders of tests: no path stands twice.
use lib.Pointwise.{pointwise}
use Rattle.std.proofs.Common.{◌≡◌, ℕ, zero, arith, ◌+◌, ◌<◌, List, [], ◌∷◌, ◌++◌, length, map, take, get_or, String, Vec, Global, Decides, string_bytes, nat_eq, inl, inr, refl, sym, ap, subst, ◌∙◌}
use Rattle.std.proofs.lemmas.Bool.Decides.{Decides-eqb}
use Rattle.std.proofs.lemmas.Slice.Eq.{slice_eq-Decides}
use Rattle.std.specs.List.{Contains}
use Rattle.std.proofs.lemmas.List.{map-append, take_more}
use Rattle.std.proofs.lemmas.List.Elements.{Contains-append_right, Contains-push_cases}
use Rattle.sc_io.specs.FileList.{file_of, files_of}
use Rattle.sc_io.specs.SourceTree.{FileOf, HasDistinctPaths}

-- two texts are equal exactly where they are element by element
pub same_text : (a b : List ℕ) → Decides (pointwise nat_eq a b) (a ≡ b)
same_text a b = slice_eq-Decides Decides-eqb a b (pointwise nat_eq a b) refl

abbrev pub path_of : FileOf → List ℕ
path_of f = f.path

paths_pushed : (fs : List FileOf) (f : FileOf) → map path_of (fs ++ f ∷ []) ≡ map path_of fs ++ f.path ∷ []
paths_pushed fs f = map-append path_of fs (f ∷ [])

-- one more file with a path of its own
distinct_push : (fs : List FileOf) (f : FileOf) → HasDistinctPaths fs → (Contains (map path_of fs) f.path → ⊥) → HasDistinctPaths (fs ++ f ∷ [])
distinct_push [] f distinct fresh = ((λ c. absurd (omega (arith, c.1))), tt)
distinct_push (g ∷ fs) f distinct fresh = (
  (λ c. elim (Contains-push_cases (map path_of fs) f.path g.path (subst (λ (l : List (List ℕ)). Contains l g.path) (paths_pushed fs f) c)) [
    | inl old ↦ distinct.0 old
    | inr e ↦ fresh (subst (λ (p : List ℕ). Contains (map path_of (g ∷ fs)) p) (sym e) (zero, omega arith, refl))
  ]),
  distinct_push fs f distinct.1 (λ c. fresh (Contains-append_right (g.path ∷ []) (map path_of fs) f.path c)),
)

abbrev pub File : Type 0
File = String Global × Vec ℕ Global

pub distinct_added : (old new : List File) (f : File) → new ≡ old ++ f ∷ [] → HasDistinctPaths (files_of old) → (Contains (map path_of (files_of old)) (string_bytes f.0) → ⊥) → HasDistinctPaths (files_of new)
distinct_added old new f e distinct fresh =
    subst HasDistinctPaths (sym (ap files_of e ∙ map-append file_of old (f ∷ []))) (distinct_push (files_of old) (file_of f) distinct fresh)

-- one more file with another path
pub none_so_far : (files : List File) (i : ℕ) (f : File) (p : List ℕ) → i < length files → f ≡ get_or files i f → (string_bytes f.0 ≡ p → ⊥) → (Contains (map path_of (files_of (take i files))) p → ⊥) → Contains (map path_of (files_of (take (i + 1) files))) p → ⊥
none_so_far files i f p below is other none c =
    let all : take (i + 1) files ≡ take i files ++ f ∷ [] = take_more files i f below ∙ ap (λ (g : File). take i files ++ g ∷ []) (sym is) in
    let parts : map path_of (files_of (take (i + 1) files)) ≡ map path_of (files_of (take i files)) ++ string_bytes f.0 ∷ [] =
    ap (λ (l : List File). map path_of (files_of l)) all ∙ ap (map path_of) (map-append file_of (take i files) (f ∷ [])) ∙ map-append path_of (files_of (take i files)) (file_of f ∷ []) in
    elim (Contains-push_cases (map path_of (files_of (take i files))) (string_bytes f.0) p (subst (λ (l : List (List ℕ)). Contains l p) parts c)) [ inl old ↦ none old | inr e ↦ other e ]
