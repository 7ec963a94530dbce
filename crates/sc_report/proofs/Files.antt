-- Files by their numbers, and the lines of diagnostics whose places are known.
use Rattle.std.proofs.Common.{◌≡◌, ◌≤◌, ◌<◌, ◌-◌, ◌+◌, ℕ, List, [], ◌∷◌, ◌++◌, true, inl, inr, refl, sym, ap, ◌∙◌, subst, length, map, min, take, get_or, arith, ltb}
use Rattle.std.proofs.lemmas.Bool.{cases_lt}
use Rattle.std.proofs.lemmas.Bool.Decides.{nat_tests}
use Rattle.std.proofs.lemmas.List.{append-nil, get_or-map, get_or_past, length-map, map-append, take_more}
use Rattle.std.proofs.lemmas.List.Concat.{flat_map-append}
use Rattle.std.specs.List.{All, flat_map}
use Rattle.jv_diag.specs.Line.{placed_line}
use Rattle.jv_diag.specs.Plain.{DiagOf, diag_of}
use Rattle.jv_diag.specs.declared.diagnostic.Diag.{Diag}
use Rattle.jv_lex.specs.Place.{column_of, line_of}
use Rattle.sc_io.specs.SourceFile.{source_of, sources_of}
use Rattle.sc_io.specs.declared.source_file.SourceFile.{SourceFile}
use Rattle.sc_io.specs.SourceTree.{FileOf}
use Rattle.sc_report.specs.declared.walk.Walk.{Walk}
use Rattle.sc_report.specs.Report.{file_of, line_of_diag, no_file}
use Rattle.sc_report.specs.Walk.{IsWalkIn}

-- each file is short, and so is the one that stands for none
pub file_few : (fs : List FileOf) → All (λ f. length f.bytes ≤ 1048576) fs → (file : ℕ) → length (file_of fs file).bytes ≤ 1048576
file_few fs each file =
    elim (cases_lt (file - 2) (length fs)) [
      | inl l ↦ each (file - 2) no_file l
      | inr l ↦ rw (get_or_past fs (file - 2) no_file l) (omega arith)
    ]

-- the bytes of a source are few where those of all are
pub source_few : (files : List SourceFile) → All (λ f. length f.bytes ≤ 1048576) (sources_of files) → (i : ℕ) (s : SourceFile) → true ≡ ltb i (length files) → s ≡ get_or files i s → (bytes : List ℕ) → bytes ≡ s.bytes.items → length bytes ≤ 1048576
source_few files each i s found is bytes e =
    let inside : i < length files = grind (arith, nat_tests) in
    let few : length (get_or (sources_of files) i (source_of s)).bytes ≤ 1048576 = each i (source_of s) (omega (arith, inside, length-map files source_of)) in
    let here : get_or (sources_of files) i (source_of s) ≡ source_of s = get_or-map source_of files i s (source_of s) inside ∙ ap source_of (sym is) in
    subst (λ (xs : List ℕ). length xs ≤ 1048576) (ap (λ (f : FileOf). f.bytes) here ∙ sym e) few

-- a line at the place of its diagnostic
pub line_placed : (fs : List FileOf) → All (λ f. length f.bytes ≤ 1048576) fs → (d : Diag) (w : Walk) (path : List ℕ) → path ≡ (file_of fs d.file).path → w.file ≡ d.file → w.place.at ≡ min d.at (length (file_of fs d.file).bytes) → IsWalkIn fs w → placed_line path w.place.line w.place.column d ≡ line_of_diag fs (diag_of d)
line_placed fs each d w path p f at walk =
    let bytes : List ℕ = (file_of fs d.file).bytes in
    let few : length bytes ≤ 1048576 = file_few fs each d.file in
    let below : w.place.at < 4294967295 = omega (arith, few, at) in
    let same : (file_of fs w.file).bytes ≡ bytes = ap (λ (n : ℕ). (file_of fs n).bytes) f in
    let row : w.place.line ≡ line_of bytes (min d.at (length bytes)) = (walk.line below ∙ ap (λ (xs : List ℕ). line_of xs w.place.at) same) ∙ ap (λ (n : ℕ). line_of bytes n) at in
    let column : w.place.column ≡ column_of bytes (min d.at (length bytes)) = (walk.column below ∙ ap (λ (xs : List ℕ). column_of xs w.place.at) same) ∙ ap (λ (n : ℕ). column_of bytes n) at in
    rw (p, row, column) refl

-- one more line
pub lines_more : (fs : List FileOf) (ds : List Diag) (i : ℕ) (d : Diag) → i < length ds → d ≡ get_or ds i d → (text line : List ℕ) → text ≡ flat_map (line_of_diag fs) (map diag_of (take i ds)) → line ≡ line_of_diag fs (diag_of d) → text ++ line ≡ flat_map (line_of_diag fs) (map diag_of (take (i + 1) ds))
lines_more fs ds i d l is text line old new =
    let f : DiagOf → List ℕ = line_of_diag fs in
    let longer : take (i + 1) ds ≡ take i ds ++ d ∷ [] = take_more ds i d l ∙ ap (λ (x : Diag). take i ds ++ x ∷ []) (sym is) in
    rw (longer, map-append diag_of (take i ds) (d ∷ []), flat_map-append f (map diag_of (take i ds)) (diag_of d ∷ []), append-nil (f (diag_of d)), old, new) refl
