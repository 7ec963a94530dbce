-- The files of a project as a folder.
use Rattle.std.proofs.Common.{◌≡◌, ◌<◌, ◌+◌, ◌^◌, ℕ, zero, suc, List, ◌++◌, codes, decimal, length, map, get_or, refl, sym, ap, ◌∙◌, append_assoc, arith}
use Rattle.std.specs.List.{Contains, range_with_len}
use Rattle.std.proofs.lemmas.List.{length-map, get_or-map}
use Rattle.std.proofs.lemmas.List.FromFn.{get_or-map-range_with_len, length-map-range_with_len}
use Rattle.sc_io.specs.SourceTree.{FileOf, HasDistinctPaths, IsJavaPath}
use Rattle.sc_gen.specs.Project.{class_file, path_of, project_files, ProjectsAreFolders}
use Rattle.sc_gen.proofs.Classes.{path_injective}

abbrev file_path : FileOf → List ℕ
file_path f = f.path

-- no class with a higher number has its path
above : (a n : ℕ) → a + n < 2 ^ 64 → Contains (map file_path (map class_file (range_with_len (a + 1) n))) (path_of a) → ⊥
above a n small (k, inside, at) =
    let files : List FileOf = map class_file (range_with_len (a + 1) n) in
    let many : length (map file_path files) ≡ length files = length-map files file_path in
    let long : length files ≡ n = length-map-range_with_len class_file (a + 1) n in
    let file : get_or files k (class_file a) ≡ class_file (a + 1 + k) = get_or-map-range_with_len class_file (a + 1) n k (a + 1 + k) (class_file a) (omega (arith, inside, many, long)) refl in
    let path : get_or (map file_path files) k (path_of a) ≡ path_of (a + 1 + k) = get_or-map file_path files k (class_file a) (path_of a) (omega (arith, inside, many)) ∙ ap file_path file in
    let same : a + 1 + k ≡ a = path_injective (a + 1 + k) a (omega (arith, inside, many, long, small)) (omega (arith, small)) (sym path ∙ at) in
    omega (arith, same)

distinct_from : (a n : ℕ) → a + n < 2 ^ 64 → HasDistinctPaths (map class_file (range_with_len a n))
distinct_from a zero small = tt
distinct_from a (suc n) small = (above a n (omega (arith, small)), distinct_from (a + 1) n (omega (arith, small)))

is_java : (n : ℕ) (f : FileOf) → Contains (project_files n) f → IsJavaPath f.path
is_java n f (k, inside, at) =
    let long : length (project_files n) ≡ n = length-map-range_with_len class_file 0 n in
    let here : get_or (project_files n) k f ≡ class_file k = get_or-map-range_with_len class_file 0 n k k f (omega (arith, inside, long)) (omega arith) in
    (codes "g/C" ++ decimal k, ap file_path (sym at ∙ here) ∙ sym (append_assoc (codes "g/C") (decimal k) (codes ".java")))

pub are_folders : ProjectsAreFolders
are_folders n few = (distinct_from 0 n (omega (arith, few)), is_java n)
