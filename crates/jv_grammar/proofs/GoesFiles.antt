-- What begins a file is read to its end.
use Rattle.std.proofs.Common.{◌≡◌, ℕ, zero, suc, ◌≤◌, Bool, true, false, List, [], ◌∷◌, length, arith, refl, sym, ap, subst, Ok, Err, Option, Result, if◌then◌else◌}
use Rattle.jv_tree.specs.declared.name.Ident.{Ident as Identifier}
use Rattle.jv_tree.specs.DeclTree.{TypeDeclTree, ImportTree}
use Rattle.jv_grammar.specs.declared.terminal.Terminal.{Terminal}
use Rattle.jv_grammar.specs.declared.terminal.Terminal.TheVariants.{Keyword, Punct}
use Rattle.jv_grammar.specs.Marks.{semicolon, dot, star, word_import, word_package, word_static}
use Rattle.jv_grammar.specs.TypeGrammar.{starts, starts_word, DerivesName, name_one, name_more}
use Rattle.jv_grammar.specs.DeclGrammar.{DerivesPackage, DerivesImports, package_none, package_some, import_one, import_all, import_static_one, import_static_all}
use Rattle.jv_grammar.specs.Reader.{Reads, ◌>>=◌, closed}
use Rattle.jv_grammar.specs.TypeReader.{name_of}
use Rattle.jv_grammar.specs.DeclReader.{type_of, types_of, package_of, path_of, stands_alone, listed_of, import_of, imports_of, file_of}
use Rattle.jv_grammar.specs.TypeBegins.{BeginsName, begun_name_none, begun_name_more, begun_name_whole}
use Rattle.jv_grammar.specs.DeclBegins.{begun_package_none, begun_package_some, begun_package_whole, BeginsImport, begun_import_none, begun_import_name, begun_import_star, begun_import_static_name, begun_import_static_star, begun_import_whole, BeginsImports, begun_imports_none, begun_imports_one, begun_imports_more, begun_imports_whole, BeginsTypes, begun_types_none, begun_types_one, begun_types_more, begun_types_empty, begun_types_whole, begun_file_none, begun_file_package, begun_file_imports, begun_file_types, begun_file_whole}
use Rattle.jv_grammar.proofs.BegunDepth.{begun_deep_types}
use Rattle.jv_grammar.proofs.Rows.{HasShortRows}
use Rattle.jv_grammar.proofs.Ending.{left_of, Ends, all_of}
use Rattle.jv_grammar.proofs.GoesLaw.{GoesTypes, GoesPackage, GoesImport, GoesImports, BegunFilesEnd}
use Rattle.jv_grammar.proofs.DeclDepth.{less_import, less_type}
use Rattle.jv_grammar.proofs.Types.{reads_name}
use Rattle.jv_grammar.proofs.DeclFew.{closed_package, closed_type, closed_imports, few_type, few_types, few_file}
use Rattle.jv_grammar.proofs.DeclStarts.{name_no_word, word_no_mark, type_word}
use Rattle.jv_grammar.proofs.DeclComplete.{got_type, reads_type, reads_types, reads_package, reads_imports, reads_file, path_one, path_all, listed_one, listed_static, listed_all, import_turn, imports_no_package}
use Rattle.jv_grammar.proofs.Goes.{ends_bind, goes_name}
use Rattle.jv_grammar.proofs.BegunRows.{few_rows, rows_behind}
use Rattle.jv_grammar.proofs.BegunDeclStarts.{begun_no_mark, begun_type, begun_types_no_word}
use Rattle.jv_grammar.proofs.GoesClasses.{goes_type}

-- what goes on behind the end, up to all terminals
all_bind : {A B : Type 0} (r : Reads A) (f : A × List Terminal → Result B (List Terminal)) → Ends r → ((x : A) → Ends (all_of (f (x, [])))) → Ends (all_of (r >>= f))
all_bind (Ok r) f h g = subst (λ z. Ends (all_of (f (r.0, z)))) (sym h) (g r.0)
all_bind (Err e) f h g = h

all_map : {A B : Type 0} (r : Result A (List Terminal)) (make : A → B) → Ends (all_of r) → Ends (all_of (r >>= λ x. Ok (make x)))
all_map (Ok x) make h = refl
all_map (Err e) make h = h

all_given : {A : Type 0} {r : Result A (List Terminal)} {x : A} → r ≡ Ok x → Ends (all_of r)
all_given h = rw h refl

-- the types of a file
type_turn : (n k : ℕ) (xs : List Terminal) → starts semicolon xs ≡ false → length xs ≤ k → Ends (type_of n xs) → Ends (all_of (types_of n k xs))
unfolding types_of
type_turn n k [] s l h = refl
type_turn n zero (x ∷ xs) s l h = absurd (omega arith)
type_turn n (suc k) (x ∷ xs) s l h = rw s (all_bind (type_of n (x ∷ xs)) _ h (λ y. refl))

more_types : (n k : ℕ) (x : TypeDeclTree) (xs zs : List Terminal) → starts semicolon xs ≡ false → type_of n xs ≡ got_type x zs → Ends (all_of (types_of n k zs)) → Ends (all_of (types_of n (suc k) xs))
unfolding types_of
more_types n k x [] zs s d h = refl
more_types n k x (y ∷ xs) zs s d h = rw s (rw d (all_map (types_of n k zs) (λ ts. x ∷ ts) h))

pub goes_types : GoesTypes
unfolding types_of
goes_types n xs begun_types_none k l h m = refl
goes_types n xs (begun_types_one r) k l h m = type_turn n k xs (begun_no_mark semicolon xs (begun_type r)) m (goes_type n xs r l h)
goes_types n xs (begun_types_more d r) zero l h m = absurd (omega (arith, less_type d))
goes_types n xs (begun_types_more {x} {zs} d r) (suc k) l h m =
    more_types n k x xs zs (word_no_mark semicolon xs (type_word d)) (reads_type n d (omega arith) (few_type (few_rows xs h) d))
    (goes_types n zs r k (omega arith) (rows_behind (closed_type d) h) (omega (arith, less_type d)))
goes_types n vs (begun_types_empty r) zero l h m = absurd (omega arith)
goes_types n vs (begun_types_empty {xs} r) (suc k) l h m = goes_types n xs r k l h.1 (omega arith)
goes_types n xs (begun_types_whole d) k l h m = all_given (reads_types n d k l (few_types (few_rows xs h) d) m)

pub goes_package : GoesPackage
unfolding package_of
goes_package vs begun_package_none = refl
goes_package vs (begun_package_some {xs} r) = ends_bind (name_of xs) _ (goes_name r) (λ x. refl)
goes_package vs (begun_package_whole package_none) = refl
goes_package vs (begun_package_whole (package_some d)) = rw (reads_name d refl) refl

name_no_star : {xs : List Terminal} → BeginsName xs → starts star xs ≡ false
name_no_star begun_name_none = refl
name_no_star (begun_name_more r) = refl
name_no_star (begun_name_whole name_one) = refl
name_no_star (begun_name_whole (name_more d)) = refl

begun_no_word : (w : ℕ) {xs : List Terminal} → BeginsName xs → starts_word w xs ≡ false
begun_no_word w begun_name_none = refl
begun_no_word w (begun_name_more r) = refl
begun_no_word w (begun_name_whole d) = name_no_word w d

goes_path : (s : Bool) (xs : List Terminal) → BeginsName xs → (k : ℕ) → length xs ≤ k → Ends (path_of s k xs)
unfolding path_of
goes_path s vs begun_name_none zero l = refl
goes_path s vs begun_name_none (suc k) l = refl
goes_path s vs (begun_name_more r) zero l = absurd (omega arith)
goes_path s vs (begun_name_more {xs} r) (suc k) l = rw (name_no_star r) (ends_bind (path_of s k xs) _ (goes_path s xs r k (omega arith)) (λ x. refl))
goes_path s vs (begun_name_whole d) k l = ap left_of (path_one s d k refl l)

-- behind the end, an import stands alone or its `;` is asked
abbrev ended : ImportTree → Bool → Reads ImportTree
ended x b = if b then Err [] else closed semicolon x []

ended_ends : (x : ImportTree) (b : Bool) → Ends (ended x b)
ended_ends x true = refl
ended_ends x false = refl

goes_listed : (s : Bool) (xs : List Terminal) → BeginsName xs → Ends (listed_of s xs)
unfolding listed_of
goes_listed s xs r = ends_bind (path_of s (length xs) xs) _ (goes_path s xs r (length xs) (omega arith)) (λ x. ended_ends x (stands_alone x))

goes_star : (s : Bool) {ids : List Identifier} {q r : ℕ} {xs : List Terminal} → DerivesName ids xs (Punct q dot ∷ Punct r star ∷ []) → Ends (listed_of s xs)
unfolding listed_of
goes_star true {xs} d = rw (path_all true d (length xs) (omega arith)) refl
goes_star false {xs} d = rw (path_all false d (length xs) (omega arith)) refl

pub goes_import : GoesImport
unfolding import_of
goes_import p xs (begun_import_name r) = rw (begun_no_word word_static r) (goes_listed false xs r)
goes_import p xs (begun_import_star d) = rw (name_no_word word_static d) (goes_star false d)
goes_import p vs (begun_import_static_name {xs} r) = goes_listed true xs r
goes_import p vs (begun_import_static_star d) = goes_star true d
goes_import p xs (begun_import_whole (import_one d)) = rw (name_no_word word_static d, listed_one d) refl
goes_import p xs (begun_import_whole (import_all d)) = rw (name_no_word word_static d, listed_all false d) refl
goes_import p vs (begun_import_whole (import_static_one d h)) = rw (listed_static d h) refl
goes_import p vs (begun_import_whole (import_static_all d)) = rw (listed_all true d) refl

imports_none : (k : ℕ) → Ends (imports_of k [])
unfolding imports_of
imports_none zero = refl
imports_none (suc k) = refl

-- an import and what stands behind it
first_import : (k p : ℕ) (xs : List Terminal) → Ends (import_of xs) → Ends (imports_of (suc k) (Keyword p word_import ∷ xs))
unfolding imports_of
first_import k p xs h = ends_bind (import_of xs) _ h (λ x. ends_bind (imports_of k []) _ (imports_none k) (λ y. refl))

one_import : (k : ℕ) (xs : List Terminal) → BeginsImport xs → Ends (imports_of (suc k) xs)
one_import k vs begun_import_none = imports_none (suc k)
one_import k vs (begun_import_name {p} {xs} r) = first_import k p xs (goes_import p xs (begun_import_name r))
one_import k vs (begun_import_star {p} {xs} d) = first_import k p xs (goes_import p xs (begun_import_star d))
one_import k vs (begun_import_static_name {p} {s} {xs} r) = first_import k p (Keyword s word_static ∷ xs) (goes_import p (Keyword s word_static ∷ xs) (begun_import_static_name r))
one_import k vs (begun_import_static_star {p} {s} {xs} d) = first_import k p (Keyword s word_static ∷ xs) (goes_import p (Keyword s word_static ∷ xs) (begun_import_static_star d))
one_import k vs (begun_import_whole (import_one {p} {xs} d)) = first_import k p xs (goes_import p xs (begun_import_whole (import_one d)))
one_import k vs (begun_import_whole (import_all {p} {xs} d)) = first_import k p xs (goes_import p xs (begun_import_whole (import_all d)))
one_import k vs (begun_import_whole (import_static_one {p} {s} {xs} d h)) =
    first_import k p (Keyword s word_static ∷ xs) (goes_import p (Keyword s word_static ∷ xs) (begun_import_whole (import_static_one d h)))
one_import k vs (begun_import_whole (import_static_all {p} {s} {xs} d)) =
    first_import k p (Keyword s word_static ∷ xs) (goes_import p (Keyword s word_static ∷ xs) (begun_import_whole (import_static_all d)))

pub goes_imports : GoesImports
goes_imports xs d zero l = absurd (omega arith)
goes_imports xs begun_imports_none (suc k) l = imports_none (suc k)
goes_imports xs (begun_imports_one r) (suc k) l = one_import k xs r
goes_imports xs (begun_imports_more {zs} d r) (suc k) l = rw (import_turn k d) (ends_bind (imports_of k zs) _ (goes_imports zs r k (omega (arith, less_import d))) (λ y. refl))
goes_imports xs (begun_imports_whole d) (suc k) l = ap left_of (reads_imports d (suc k) refl l)

-- imports begin with no `package`
import_no_package : {xs : List Terminal} → BeginsImport xs → starts_word word_package xs ≡ false
import_no_package begun_import_none = refl
import_no_package (begun_import_name r) = refl
import_no_package (begun_import_star d) = refl
import_no_package (begun_import_static_name r) = refl
import_no_package (begun_import_static_star d) = refl
import_no_package (begun_import_whole (import_one d)) = refl
import_no_package (begun_import_whole (import_all d)) = refl
import_no_package (begun_import_whole (import_static_one d h)) = refl
import_no_package (begun_import_whole (import_static_all d)) = refl

begun_no_package : {xs : List Terminal} → BeginsImports xs → starts_word word_package xs ≡ false
begun_no_package begun_imports_none = refl
begun_no_package (begun_imports_one r) = import_no_package r
begun_no_package (begun_imports_more (import_one d) r) = refl
begun_no_package (begun_imports_more (import_all d) r) = refl
begun_no_package (begun_imports_more (import_static_one d h) r) = refl
begun_no_package (begun_imports_more (import_static_all d) r) = refl
begun_no_package (begun_imports_whole d) = imports_no_package d refl

-- a file that ends in its package, in its imports or in its types
package_file : (n : ℕ) (xs : List Terminal) → Ends (package_of xs) → Ends (all_of (file_of n xs))
unfolding file_of imports_of types_of
package_file n xs h = all_bind (package_of xs) _ h (λ x. refl)

imports_file : (n : ℕ) {m : Option (List Identifier)} {xs zs : List Terminal} → DerivesPackage m xs zs → BeginsImports zs → Ends (all_of (file_of n xs))
unfolding file_of types_of
imports_file n {zs} d r = rw (reads_package d (begun_no_package r)) (all_bind (imports_of (suc (length zs)) zs) _ (goes_imports zs r (suc (length zs)) (omega arith)) (λ x. refl))

types_file : (n : ℕ) {m : Option (List Identifier)} {is : List ImportTree} {xs zs ws : List Terminal} → DerivesPackage m xs zs → DerivesImports is zs ws → (r : BeginsTypes ws) → begun_deep_types r ≤ n → HasShortRows xs → Ends (all_of (file_of n xs))
unfolding file_of
types_file n {zs} {ws} a b r l h =
    let s = begun_types_no_word r in
    rw (reads_package a (imports_no_package b s.0)) (rw (reads_imports b (suc (length zs)) s.1 (omega arith))
    (all_map (types_of n (length ws) ws) _ (goes_types n ws r (length ws) l (rows_behind (closed_imports b) (rows_behind (closed_package a) h)) (omega arith))))

pub begun_files_end : BegunFilesEnd
begun_files_end n vs begun_file_none l h = package_file n [] (goes_package [] begun_package_none)
begun_files_end n vs (begun_file_package r) l h = package_file n vs (goes_package vs r)
begun_files_end n vs (begun_file_imports d r) l h = imports_file n d r
begun_files_end n vs (begun_file_types a b r) l h = types_file n a b r l h
begun_files_end n vs (begun_file_whole d) l h = all_given (reads_file n d l (few_file (few_rows vs h) d))
