-- Reading a front of terminals against reading them all: names and types.
use Rattle.std.proofs.Common.{◌≡◌, ℕ, zero, suc, ◌<◌, ◌≤◌, true, List, [], ◌∷◌, ◌++◌, length, arith, refl, Option, None, Some, Ok, Err, if◌then◌else◌}
use Rattle.jv_tree.specs.TypeTree.{BaseTree, named}
use Rattle.jv_grammar.specs.declared.terminal.Terminal.{Terminal}
use Rattle.jv_grammar.specs.declared.terminal.Terminal.TheVariants.{Ident, Keyword, Literal, Minimum, MinimumLong, Punct}
use Rattle.jv_grammar.specs.Marks.{bracket_open, bracket_close}
use Rattle.jv_grammar.specs.TypeGrammar.{is_mark, starts, starts_word}
use Rattle.jv_grammar.specs.Reader.{Reads, ◌>>=◌, rest_of}
use Rattle.jv_grammar.specs.TypeReader.{name_of, prim_of, prim_or, base_of, pairs_of, ty_of, is_bare, reference_of}
use Rattle.jv_grammar.proofs.Ending.{left_of, IsShort}
use Rattle.jv_grammar.proofs.Cut.{cut_name}
use Rattle.jv_grammar.proofs.CutBoth.{IsCutUnless, both_give, both_refuse, CutBoth, ByFirst, from_first, cut_then, cut_done, cut_none, cut_map, cut_next, cut_if, cut_case}
use Rattle.jv_grammar.proofs.CutTurns.{both_of}

-- the tests that the first terminal decides
pub first_mark : (k : ℕ) → ByFirst (starts k)
first_mark k z zs ws = refl

pub first_word : (k : ℕ) → ByFirst (starts_word k)
first_word k z zs ws = refl

pub both_name : (n m d : ℕ) → CutBoth n m d name_of name_of
both_name n m d = both_of cut_name

abbrev BaseRead : Type 0
BaseRead = Reads (ℕ × BaseTree)

prim_short : (p k : ℕ) (xs : List Terminal) (b : Option BaseTree) → length (left_of (prim_or p k xs b)) ≤ suc (length xs)
prim_short p k xs None = omega arith
prim_short p k xs (Some b) = omega arith

prim_cut : {D : Type 0} (p k : ℕ) (zs ws : List Terminal) (b : Option BaseTree) → IsCutUnless D ws (prim_or p k zs b) (prim_or p k (zs ++ ws) b)
prim_cut p k zs ws None = both_refuse
prim_cut p k zs ws (Some b) = both_give

-- a name as a type
abbrev as_base : List Terminal → BaseRead
as_base (Ident i ∷ xs) = name_of (Ident i ∷ xs) >>= λ r. Ok ((i.at, named r.0), r.1)
as_base xs = Err xs

short_base : IsShort base_of
unfolding base_of
short_base [] = omega arith
short_base (Keyword p k ∷ xs) = prim_short p k xs (prim_of k)
short_base (Ident i ∷ xs) = (cut_map {n = 0} {m = 0} {d = 0} (λ ids. (i.at, named ids)) (both_name 0 0 0)).front (Ident i ∷ xs)
short_base (x ∷ xs) = omega arith

pub both_base : (n m d : ℕ) → CutBoth n m d base_of base_of
unfolding base_of
both_base n m d = from_first base_of base_of short_base short_base by
  where
    by : (z : Terminal) (zs ws : List Terminal) → suc (length zs) < n → suc (length (zs ++ ws)) < m → IsCutUnless (d < suc (length (zs ++ ws))) ws (base_of (z ∷ zs)) (base_of (z ∷ zs ++ ws))
    by (Keyword p k) zs ws l l' = prim_cut p k zs ws (prim_of k)
    by (Ident i) zs ws l l' = (cut_map (λ ids. (i.at, named ids)) (both_name n m d)).cut (Ident i ∷ zs) ws l l'
    by (Literal p v) zs ws l l' = both_refuse
    by (Minimum p) zs ws l l' = both_refuse
    by (MinimumLong p) zs ws l l' = both_refuse
    by (Punct p o) zs ws l l' = both_refuse

-- what stands behind the `[` of a pair
abbrev closing : ℕ → List Terminal → Reads ℕ
closing room xs = if starts bracket_close xs then (pairs_of room (rest_of xs) >>= λ r. Ok (suc r.0, r.1)) else Err xs

both_closing : (room n m d : ℕ) → CutBoth n m d (pairs_of room) (pairs_of room) → CutBoth n m d (closing room) (closing room)
both_closing room n m d c = cut_if (starts bracket_close) (first_mark _) (cut_next (cut_map (λ n. suc n) c)) cut_none

pub both_pairs : (room n m d : ℕ) → CutBoth n m d (pairs_of room) (pairs_of room)
unfolding pairs_of
both_pairs zero n m d = cut_if (starts bracket_open) (first_mark _) cut_none (cut_done zero)
both_pairs (suc room) n m d = cut_if (starts bracket_open) (first_mark _) (cut_next {p = closing room} {q = closing room} (both_closing room n m d (both_pairs room n m d))) (cut_done zero)

-- pairs are read behind their first `[`
pub pairs_take : (room : ℕ) (z : Terminal) (xs : List Terminal) → is_mark bracket_open z ≡ true → length (left_of (pairs_of (suc room) (z ∷ xs))) ≤ length xs
unfolding pairs_of
pairs_take room z xs e = rw e ((both_closing room 0 0 0 (both_pairs room 0 0 0)).front xs)

pub both_ty : (n m d : ℕ) → CutBoth n m d ty_of ty_of
unfolding ty_of
both_ty n m d = cut_then _ _ (both_base n m d) (λ b. cut_map (λ k. record { at = b.0; base = b.1; dims = k }) (both_pairs 200 n m d))

pub both_reference : (n m d : ℕ) → CutBoth n m d reference_of reference_of
unfolding reference_of
both_reference n m d = cut_then _ _ (both_ty n m d) (λ t. cut_case (is_bare t) cut_none (cut_done t))
