-- Lists of files: which paths they list, and where a path stands.
use Rattle.std.proofs.Common.{◌≡◌, ℕ, ◌+◌, ◌<◌, inl, inr, List, [], ◌∷◌, ◌++◌, length, map, get_or, take, string_bytes, Some, ap, sym, ◌∙◌, subst, String, Vec, refl}
use Rattle.std.specs.List.{Contains}
use Rattle.std.specs.Option.{option_map}
use Rattle.std.specs.declared.alloc.Global.{Global}
use Rattle.std.proofs.lemmas.List.{length-map, map-append, take_more}
use Rattle.std.proofs.lemmas.Option.{slice_get-map, slice_get-get_or}
use Rattle.std.proofs.lemmas.List.Elements.{Contains-push, Contains-push_cases, Contains-append_left}
use Rattle.sc_io.specs.SourceTree.{FileOf, HasFile, IsJavaPath, ListsSources}
use Rattle.sc_io.specs.FileList.{file_of, files_of, IsPathAt}

abbrev Entry : Type 0
Entry = String Global × Vec ℕ Global

-- one more file, that of a Java source, and its path
pub ListsSources-push : (fs : List FileOf) (f : FileOf) (paths : List (List ℕ)) → IsJavaPath f.path → ListsSources fs paths → ListsSources (fs ++ f ∷ []) (paths ++ f.path ∷ [])
ListsSources-push fs f paths java lists path =
    let all = map-append (λ (g : FileOf). g.path) fs (f ∷ []) in (
      λ found. rw all (elim (Contains-push_cases paths f.path path found) [
        | inl before ↦ let p = (lists path).0 before in (p.0, Contains-append_left _ _ path p.1)
        | inr same ↦ let P : List ℕ → Type 0 = λ p. IsJavaPath p × Contains (map (λ g. g.path) fs ++ f.path ∷ []) p in subst P same (java, Contains-push _ f.path)
      ]),
      λ known. elim (Contains-push_cases (map (λ g. g.path) fs) f.path path (rw all at known.1)) [
        | inl before ↦ Contains-append_left _ _ path ((lists path).1 (known.0, before))
        | inr same ↦ let P : List ℕ → Type 0 = λ p. Contains (paths ++ f.path ∷ []) p in subst P same (Contains-push paths f.path)
      ],
    )

-- one more file, that of no Java source
pub ListsSources-skip : (fs : List FileOf) (f : FileOf) (paths : List (List ℕ)) → (IsJavaPath f.path → ⊥) → ListsSources fs paths → ListsSources (fs ++ f ∷ []) paths
ListsSources-skip fs f paths other lists path =
    let all = map-append (λ (g : FileOf). g.path) fs (f ∷ []) in (
      λ found. rw all (let p = (lists path).0 found in (p.0, Contains-append_left _ _ path p.1)),
      λ known. elim (Contains-push_cases (map (λ g. g.path) fs) f.path path (rw all at known.1)) [
        | inl before ↦ (lists path).1 (known.0, before)
        | inr same ↦ let P : List ℕ → Type 0 = λ p. IsJavaPath p in absurd (other (subst P (sym same) known.0))
      ],
    )

-- the files of one entry more
pub files_of-take_more : (es : List Entry) (i : ℕ) (e : Entry) → i < length es → e ≡ get_or es i e → files_of (take (i + 1) es) ≡ files_of (take i es) ++ file_of e ∷ []
files_of-take_more es i e within is =
    ap files_of (take_more es i e within) ∙ map-append file_of (take i es) (get_or es i e ∷ []) ∙ ap (λ (x : Entry). files_of (take i es) ++ file_of x ∷ []) (sym is)

-- where an entry stands, its path stands
pub IsPathAt-entry : (es : List Entry) (i : ℕ) (e : Entry) → i < length es → e ≡ get_or es i e → (path : List ℕ) → string_bytes e.0 ≡ path → IsPathAt (files_of es) i path
IsPathAt-entry es i e within is path same =
    slice_get-map (λ (f : FileOf). f.path) (files_of es) i ∙ ap (option_map (λ (f : FileOf). f.path)) (slice_get-map file_of es i ∙ ap (option_map file_of) (slice_get-get_or es i e within ∙ ap Some (sym is))) ∙ ap Some same

-- one more entry, whose path is that of a Java source and was listed
pub ListsSources-listed : (es : List Entry) (i : ℕ) (e : Entry) → i < length es → e ≡ get_or es i e → (path : List ℕ) → path ≡ string_bytes e.0 → IsJavaPath path → (before after : List (String Global)) (name : String Global) → after ≡ before ++ name ∷ [] → string_bytes name ≡ path → ListsSources (files_of (take i es)) (map string_bytes before) → ListsSources (files_of (take (i + 1) es)) (map string_bytes after)
ListsSources-listed es i e within is path of java before after name pushed same lists =
    let files = files_of-take_more es i e within is in
    let names : map string_bytes after ≡ map string_bytes before ++ string_bytes e.0 ∷ [] =
    ap (map string_bytes) pushed ∙ map-append string_bytes before (name ∷ []) ∙ ap (λ (p : List ℕ). map string_bytes before ++ p ∷ []) (same ∙ of) in
    let IsJava : List ℕ → Type 0 = λ p. IsJavaPath p in
    rw (files, names) (ListsSources-push (files_of (take i es)) (file_of e) (map string_bytes before) (subst IsJava of java) lists)

-- one more entry, whose path is that of no Java source
pub ListsSources-passed : (es : List Entry) (i : ℕ) (e : Entry) → i < length es → e ≡ get_or es i e → (path : List ℕ) → path ≡ string_bytes e.0 → (IsJavaPath path → ⊥) → (paths : List (List ℕ)) → ListsSources (files_of (take i es)) paths → ListsSources (files_of (take (i + 1) es)) paths
ListsSources-passed es i e within is path of other paths lists =
    let IsOther : List ℕ → Type 0 = λ p. IsJavaPath p → ⊥ in
    rw (files_of-take_more es i e within is) (ListsSources-skip (files_of (take i es)) (file_of e) paths (subst IsOther of other) lists)

-- where an entry has another path, that path does not stand
pub IsPathAt-other : (es : List Entry) (i : ℕ) (e : Entry) → i < length es → e ≡ get_or es i e → (path : List ℕ) → (string_bytes e.0 ≡ path → ⊥) → IsPathAt (files_of es) i path → ⊥
IsPathAt-other es i e within is path other stands =
    let here = IsPathAt-entry es i e within is (string_bytes e.0) refl in other cc

-- a file stands somewhere
pub IsPathAt-of_file : (fs : List FileOf) (path : List ℕ) → HasFile fs path → (index : ℕ) × (index < length fs) × IsPathAt fs index path
IsPathAt-of_file fs path has =
    let within : has.0 < length fs = rw (sym (length-map fs (λ (f : FileOf). f.path))) has.1 in
    (has.0, within, slice_get-get_or (map (λ f. f.path) fs) has.0 path has.1 ∙ ap Some has.2)
