-- The order of dotted names, and packages in it.
use Rattle.std.proofs.Common.{◌≡◌, ℕ, zero, suc, ◌+◌, ◌<◌, ◌≤◌, ◌==◌, Bool, true, false, List, [], ◌∷◌, ◌++◌, inl, inr, length, map, take, drop, get_or, Some, None, Ok, Err, refl, ap, ◌∙◌, subst, cond, zero-add, arith}
use Rattle.std.proofs.lemmas.Bool.{cases_lt}
use Rattle.std.specs.List.{position_from}
use Rattle.std.specs.Cmp.{IsTotalOrder, nat_cmp_total, on_total}
use Rattle.std.specs.Cmp.Lexicographic.{lists_total}
use Rattle.std.specs.Ordering.{is_eq}
use Rattle.std.specs.declared.cmp.Ordering.{Ordering}
use Rattle.std.specs.declared.cmp.Ordering.TheVariants.{Less, Greater}
use Rattle.sg_base.specs.List.{IsRising}
use Rattle.sg_state.specs.Held.{put}
use Rattle.jv_tree.specs.declared.name.Ident.{Ident}
use Rattle.jv_layout.specs.Folder.{path_cmp, parts_of, numbers_of}
use Rattle.jv_layout.specs.Paths.{IsSearched}
use Rattle.jv_layout.proofs.Putting.{put_there, put_at, greater_before, less_behind}

pub path_total : (names : List (List ℕ)) → IsTotalOrder (path_cmp names)
path_total names = on_total (parts_of names) (lists_total (lists_total nat_cmp_total))

pub less_than : (names : List (List ℕ)) (xs ys : List Ident) → length xs < 1 → false ≡ (length ys == 0) → Less ≡ path_cmp names (numbers_of xs) (numbers_of ys)
less_than names [] [] h e = cc
less_than names [] (y ∷ ys) h e = refl
less_than names (x ∷ xs) ys h e = absurd (omega arith)

pub map_at : {X Y : Type 0} (f : X → Y) (xs : List X) (i : ℕ) (p : X) → i < length xs → ((d : X) → get_or xs i d ≡ p) → (d : Y) → get_or (map f xs) i d ≡ f p
map_at f [] i p h g d = absurd (omega arith)
map_at f (x ∷ xs) zero p h g d = ap f (g x)
map_at f (x ∷ xs) (suc i) p h g d = map_at f xs i p (omega arith) (λ e. g e) d

pub map_insert : {X Y : Type 0} (f : X → Y) (xs : List X) (i : ℕ) (p : X) → map f (take i xs ++ p ∷ drop i xs) ≡ take i (map f xs) ++ f p ∷ drop i (map f xs)
map_insert f [] zero p = refl
map_insert f [] (suc i) p = refl
map_insert f (x ∷ xs) zero p = refl
map_insert {Y = Y} f (x ∷ xs) (suc i) p = ap (λ (z : List Y). f x ∷ z) (map_insert f xs i p)

module _ {X : Type 0} (R : X → X → Ordering) where
  pub searched_there : (xs : List X) (x : X) (i : ℕ) → IsSearched R xs x (Ok i) → put R xs x ≡ xs
  searched_there xs x i s = put_there R xs x i s.0 s.1 s.2

  pub searched_at : (xs : List X) (x : X) (i : ℕ) → IsSearched R xs x (Err i) → put R xs x ≡ take i xs ++ x ∷ drop i xs
  searched_at xs x i s = put_at R xs x i s.0 s.1 s.2

module _ {X : Type 0} (R : X → X → Ordering) (t : IsTotalOrder R) where
  pub less_from : (xs : List X) (x : X) → IsRising R xs → (m : ℕ) → ((d : X) → R x (get_or xs m d) ≡ Less) → (k : ℕ) (d : X) → m ≤ k → k < length xs → R x (get_or xs k d) ≡ Less
  less_from xs x r m e k d l h = elim (cases_lt m k) [
    | inl a ↦ less_behind R t xs x r m d (e d) k d a h
    | inr b ↦ let same : m ≡ k = omega arith in subst (λ j. R x (get_or xs j d) ≡ Less) same (e d)
  ]

  pub greater_upto : (xs : List X) (x : X) → IsRising R xs → (m : ℕ) → m < length xs → ((d : X) → R x (get_or xs m d) ≡ Greater) → (k : ℕ) (d : X) → k < m + 1 → R x (get_or xs k d) ≡ Greater
  greater_upto xs x r m h e k d l = elim (cases_lt k m) [
    | inl a ↦ greater_before R t xs x r m h d (e d) k d a
    | inr b ↦ let same : m ≡ k = omega arith in subst (λ j. R x (get_or xs j d) ≡ Greater) same (e d)
  ]

module _ {X : Type 0} (p : X → Bool) where
  pub position_there : (xs : List X) (n i : ℕ) → i < length xs → ((d : X) → p (get_or xs i d) ≡ true) → ((k : ℕ) (d : X) → k < i → p (get_or xs k d) ≡ false) → position_from p n xs ≡ Some (n + i)
  position_there [] n i h e g = absurd (omega arith)
  position_there (x ∷ xs) n zero h e g = ap (λ b. cond b (Some n) (position_from p (n + 1) xs)) (e x) ∙ ap Some (omega arith)
  position_there (x ∷ xs) n (suc i) h e g =
      let first : p x ≡ false = g 0 x (omega arith) in
      let sum : n + 1 + i ≡ n + suc i = omega arith in
      ap (λ b. cond b (Some n) (position_from p (n + 1) xs)) first ∙ (position_there xs (n + 1) i (omega arith) (λ d. e d) (λ k d l. g (suc k) d (omega arith)) ∙ ap Some sum)

  pub position_none : (xs : List X) (n : ℕ) → ((k : ℕ) (d : X) → k < length xs → p (get_or xs k d) ≡ false) → position_from p n xs ≡ None
  position_none [] n g = refl
  position_none (x ∷ xs) n g = ap (λ b. cond b (Some n) (position_from p (n + 1) xs)) (g 0 x (omega arith)) ∙ position_none xs (n + 1) (λ k d l. g (suc k) d (omega arith))

module _ {X : Type 0} (R : X → X → Ordering) where
  pub found_place : (xs : List X) (x : X) (i : ℕ) → IsSearched R xs x (Ok i) → position_from (λ q. is_eq (R x q)) 0 xs ≡ Some i
  found_place xs x i s = position_there (λ q. is_eq (R x q)) xs 0 i s.0 (λ d. ap is_eq (s.1 d)) (λ k d l. ap is_eq (s.2 k d l)) ∙ ap Some (zero-add i)

  pub no_place : (xs : List X) (x : X) (i : ℕ) → IsSearched R xs x (Err i) → position_from (λ q. is_eq (R x q)) 0 xs ≡ None
  no_place xs x i s = position_none (λ q. is_eq (R x q)) xs 0 (λ k d h. elim (cases_lt k i) [ inl a ↦ ap is_eq (s.1 k d a) | inr b ↦ ap is_eq (s.2 k d b h) ])
