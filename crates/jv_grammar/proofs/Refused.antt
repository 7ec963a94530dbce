-- The terminal at which the reader of files refuses shallow terminals, from what it gives of fronts, of what it is stuck on and of what
-- begins. A reader that may nest deeper than there are terminals is cut alike, and refuses at the right place; one that may nest 400 deep
-- refuses at the same: no later, since it may nest less deep, and no earlier, since it reads to its end what begins.
use Rattle.std.proofs.Common.{◌≡◌, ℕ, suc, ◌+◌, ◌<◌, ◌≤◌, ◌-◌, List, [], ◌∷◌, ◌++◌, length, take, drop, arith, refl, ap, subst}
use Rattle.std.proofs.lemmas.List.{length-append, length-drop, take-append-drop}
use Rattle.jv_tree.specs.DeclTree.{UnitTree}
use Rattle.jv_grammar.specs.declared.terminal.Terminal.{Terminal}
use Rattle.jv_grammar.specs.Load.{IsShallow}
use Rattle.jv_grammar.specs.Reader.{Reads}
use Rattle.jv_grammar.specs.DeclBegins.{Begins, begun_file_whole}
use Rattle.jv_grammar.specs.RefusedAt.{IsRefusedAt}
use Rattle.jv_grammar.proofs.Ending.{left_of, Ends, all_of, IsCut, ends, gives, refuses}
use Rattle.jv_grammar.specs.RefusedLaw.{DerivedFilesBegin, FrontsBegin, RefusedFilesAreRefusedThere, RefusedPlaceIsOne}
use Rattle.jv_grammar.proofs.Stuck.{failing}
use Rattle.jv_grammar.proofs.Cut.{none_left}
use Rattle.jv_grammar.proofs.Shallow.{front_is_shallow}
use Rattle.jv_grammar.proofs.CutBoth.{IsCutUnless, both_end, both_give, both_refuse, too_deep, ended}
use Rattle.jv_grammar.proofs.CutTurns.{cut_unless}
use Rattle.jv_grammar.proofs.CutUnit.{file_all, both_file}
use Rattle.jv_grammar.proofs.ShortRows.{shallow_has_short}
use Rattle.jv_grammar.proofs.WholeBegunNesting.{shallow_begun_not_deep}
use Rattle.jv_grammar.proofs.DeclStuck.{ended_files_begin}
use Rattle.jv_grammar.proofs.GoesFiles.{begun_files_end}

pub derived_begin : DerivedFilesBegin
derived_begin xs u d = begun_file_whole d

-- Where all that is left of the whole stands behind the front, the front is read to its end.
front_ends : {A : Type 0} {ws : List Terminal} {q r : Reads A} → IsCut ws q r → length (left_of r) ≤ length ws → Ends q
front_ends (ends e l) h = e
front_ends {ws} (gives {ys}) h = let m = length-append ys ws in none_left ys (omega (arith, m, h))
front_ends {ws} (refuses {ys}) h = let m = length-append ys ws in none_left ys (omega (arith, m, h))

-- a reader that may nest deeper leaves no more
deeper_leaves : {A D : Type 0} {q r : Reads A} → IsCutUnless D [] q r → length (left_of r) ≤ length (left_of q)
deeper_leaves (both_end e l) = omega arith
deeper_leaves (both_give {ys}) = let m = length-append ys [] in omega (arith, m)
deeper_leaves (both_refuse {ys}) = let m = length-append ys [] in omega (arith, m)
deeper_leaves (too_deep {ys} h l) = let m = length-append ys [] in omega (arith, m, l)

nothing_behind : (xs : List Terminal) → xs ++ [] ≡ xs
nothing_behind [] = refl
nothing_behind (x ∷ xs) = ap (λ z. x ∷ z) (nothing_behind xs)

deeper_file : (n m : ℕ) (xs : List Terminal) → n ≤ m → length (left_of (file_all m xs)) ≤ length (left_of (file_all n xs))
deeper_file n m xs l = subst (λ z. length (left_of (file_all m z)) ≤ length (left_of (file_all n xs))) (nothing_behind xs)
    (deeper_leaves ((both_file n m l (suc (length xs)) (suc (length (xs ++ [])))).cut xs [] (omega arith) (omega arith)))

-- what is left of the whole, of a front that is read to its end
whole_left : (n j : ℕ) (xs : List Terminal) → Ends (file_all n (take j xs)) → length (left_of (file_all n xs)) ≤ length (drop j xs)
whole_left n j xs e = subst (λ z. length (left_of (file_all n z)) ≤ length (drop j xs)) (take-append-drop j xs)
    (ended ((both_file n n (omega arith) (suc (length (take j xs))) (suc (length (take j xs ++ drop j xs)))).cut (take j xs) (drop j xs) (omega arith) (omega arith)) e)

-- a reader that may nest as deep as there are terminals is cut alike
file_cut : (n j : ℕ) (xs : List Terminal) → length xs ≤ n → IsCut (drop j xs) (file_all n (take j xs)) (file_all n xs)
file_cut n j xs l =
    let same = ap length (take-append-drop j xs) in
    subst (λ z. IsCut (drop j xs) (file_all n (take j xs)) (file_all n z)) (take-append-drop j xs)
    (cut_unless (λ h. absurd (omega (arith, h, same))) ((both_file n n (omega arith) (suc (length (take j xs))) (suc (length (take j xs ++ drop j xs)))).cut (take j xs) (drop j xs) (omega arith) (omega arith)))

-- what begins from shallow terminals is read to its end
begun_ends : (n : ℕ) (xs : List Terminal) → IsShallow xs → 400 ≤ n → Begins xs → Ends (file_all n xs)
begun_ends n xs s l d = begun_files_end n xs d (omega (arith, l, shallow_begun_not_deep xs d s)) (shallow_has_short xs s)

pub fronts_begin : FrontsBegin
fronts_begin xs j s d =
    let e = ap length (begun_ends (400 + length xs) xs s (omega arith) d) in
    ended_files_begin (400 + length xs) (take j xs) (front_ends (file_cut (400 + length xs) j xs (omega arith)) (omega (arith, e)))

-- what a reader leaves that may nest as deep as there are terminals, so does one that may nest 400 deep
same_left : (n : ℕ) (xs : List Terminal) → IsShallow xs → 400 ≤ n → length (left_of (file_all n xs)) ≡ length (left_of (file_all (n + length xs) xs))
same_left n xs s l =
    let short = (both_file (n + length xs) (n + length xs) (omega arith) 0 0).front xs in
    let j = length xs - length (left_of (file_all (n + length xs) xs)) in
    let k = length-drop j xs in
    let e = front_ends (file_cut (n + length xs) j xs (omega arith)) (omega (arith, k, short)) in
    let b = ended_files_begin (n + length xs) (take j xs) e in
    let w = whole_left n j xs (begun_ends n (take j xs) (front_is_shallow xs j s) l b) in
    omega (arith, w, k, short, deeper_file n (n + length xs) xs (omega arith))

pub refused_there : RefusedFilesAreRefusedThere
refused_there n xs zs s l h =
    let e : file_all n xs ≡ failing (UnitTree × List Terminal) zs = ap all_of h in
    let size = ap (λ (z : Reads UnitTree). length (left_of z)) e in
    let same = same_left n xs s l in
    let short = (both_file n n (omega arith) 0 0).front xs in (
      omega (arith, size, short),
      record {
        within = omega arith;
        begins = λ j m. ended_files_begin (n + length xs) (take j xs) (front_ends (file_cut (n + length xs) j xs (omega arith)) (let k = length-drop j xs in omega (arith, k, m, size, same, short)));
        refuses = λ m b.
            let k = length-drop (suc (length xs - length zs)) xs in
            let w = whole_left n (suc (length xs - length zs)) xs (begun_ends n (take (suc (length xs - length zs)) xs) (front_is_shallow xs (suc (length xs - length zs)) s) l b) in
            omega (arith, k, m, size, short, w);
      },
    )

-- terminals are refused at one place
one_place : (xs : List Terminal) (i j : ℕ) → IsRefusedAt xs i → IsRefusedAt xs j → i < j → ⊥
one_place xs i j r s l = let w = s.within in r.refuses (omega (arith, l, w)) (s.begins (suc i) (omega (arith, l)))

pub one_refused_place : RefusedPlaceIsOne
one_refused_place xs i j r s =
    let below : i < j → ⊥ = one_place xs i j r s in
    let above : j < i → ⊥ = one_place xs j i s r in
    omega arith
