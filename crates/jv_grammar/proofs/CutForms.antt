-- Further forms of readers that cut a front and the whole alike: an identifier, what stands behind a mark or a keyword, and a test for what
-- begins a declaration.
use Rattle.std.proofs.Common.{ℕ, suc, ◌<◌, ◌≤◌, inl, inr, ◌||◌, Bool, true, false, cond, nat_eq, List, [], ◌∷◌, ◌++◌, length, arith, refl, sym, subst, Result, Ok, Err, if◌then◌else◌}
use Rattle.jv_tree.specs.declared.name.Ident.{Ident as Identifier}
use Rattle.jv_tree.specs.TypeTree.{BaseTree, named, TypeTree}
use Rattle.jv_grammar.specs.declared.terminal.Terminal.{Terminal}
use Rattle.jv_grammar.specs.declared.terminal.Terminal.TheVariants.{Ident, Keyword, Literal, Minimum, MinimumLong, Punct}
use Rattle.jv_grammar.specs.Marks.{word_final}
use Rattle.jv_grammar.specs.Reader.{Reads, ◌>>=◌, rest_of}
use Rattle.jv_grammar.specs.TypeReader.{name_of, base_of, pairs_of, ty_of, prim_of, is_prim, is_declared, declares}
use Rattle.jv_grammar.specs.StmtReader.{begins_local}
use Rattle.jv_grammar.specs.DeclReader.{ident_of}
use Rattle.jv_grammar.proofs.Ending.{left_of, Ends, IsShort}
use Rattle.jv_grammar.proofs.Goes.{ends_bind}
use Rattle.jv_grammar.proofs.Cut.{cut_name}
use Rattle.jv_grammar.proofs.CutBoth.{IsCutUnless, both_end, both_refuse, CutBoth, ByFirst, looser, ended, from_first, short_if, cut_choice, cut_done}
use Rattle.jv_grammar.proofs.CutHalf.{NameRead, IsTold, told_decl, IsHalfRead, to_end, to_open}

-- what stands behind an identifier
abbrev pub on_ident : {A : Type 0} → (Identifier → List Terminal → Reads A) → List Terminal → Reads A
on_ident p (Ident i ∷ xs) = p i xs
on_ident p xs = Err xs

ident_short : {A : Type 0} (p : Identifier → List Terminal → Reads A) → ((i : Identifier) → IsShort (p i)) → IsShort (on_ident p)
ident_short p s [] = omega arith
ident_short p s (Ident i ∷ xs) = let l = s i xs in omega (arith, l)
ident_short p s (Keyword q k ∷ xs) = omega arith
ident_short p s (Literal q l ∷ xs) = omega arith
ident_short p s (Minimum q ∷ xs) = omega arith
ident_short p s (MinimumLong q ∷ xs) = omega arith
ident_short p s (Punct q o ∷ xs) = omega arith

pub cut_on_ident : {A : Type 0} {n m d : ℕ} (p q : Identifier → List Terminal → Reads A) → ((i : Identifier) → CutBoth n m d (p i) (q i)) → CutBoth n m d (on_ident p) (on_ident q)
cut_on_ident {A} {n} {m} {d} p q c = from_first (on_ident p) (on_ident q) (ident_short p (λ i. (c i).front)) (ident_short q (λ i. (c i).whole)) by
  where
    by : (z : Terminal) (zs ws : List Terminal) → suc (length zs) < n → suc (length (zs ++ ws)) < m → IsCutUnless (d < suc (length (zs ++ ws))) ws (on_ident p (z ∷ zs)) (on_ident q (z ∷ zs ++ ws))
    by (Ident i) zs ws l l' = looser (λ h. omega arith) ((c i).cut zs ws (omega arith) (omega arith))
    by (Keyword p k) zs ws l l' = both_refuse
    by (Literal p v) zs ws l l' = both_refuse
    by (Minimum p) zs ws l l' = both_refuse
    by (MinimumLong p) zs ws l l' = both_refuse
    by (Punct p o) zs ws l l' = both_refuse

pub both_ident : (n m d : ℕ) → CutBoth n m d ident_of ident_of
both_ident n m d = cut_on_ident (λ i xs. Ok (i, xs)) (λ i xs. Ok (i, xs)) (λ i. cut_done i)

-- what stands behind a mark or a keyword
abbrev pub behind_test : (List Terminal → Bool) → List Terminal → Result (List Terminal) (List Terminal)
behind_test t xs = if t xs then Ok (rest_of xs) else Err xs

abbrev taken : {A : Type 0} → Bool → List Terminal → List Terminal → (List Terminal → Reads A) → Reads A
taken b ys xs p = cond {A = Result (List Terminal) (List Terminal)} b (Ok ys) (Err xs) >>= p

taken_short : {A : Type 0} (b : Bool) (ys xs : List Terminal) (p : List Terminal → Reads A) → length ys ≤ length xs → IsShort p → length (left_of (taken b ys xs p)) ≤ length xs
taken_short true ys xs p l s = omega (arith, s ys)
taken_short false ys xs p l s = omega arith

rest_less : (xs : List Terminal) → length (rest_of xs) ≤ length xs
rest_less [] = omega arith
rest_less (x ∷ xs) = omega arith

pub cut_behind_test : {A : Type 0} {n m d : ℕ} (t : List Terminal → Bool) → ByFirst t → (p q : List Terminal → Reads A) → CutBoth n m d p q → CutBoth n m d (λ xs. behind_test t xs >>= p) (λ xs. behind_test t xs >>= q)
cut_behind_test {A} {n} {m} {d} t same p q c =
    from_first (λ xs. behind_test t xs >>= p) (λ xs. behind_test t xs >>= q) (λ xs. taken_short (t xs) (rest_of xs) xs p (rest_less xs) c.front) (λ xs. taken_short (t xs) (rest_of xs) xs q (rest_less xs) c.whole)
    (λ z zs ws l l'. subst (λ b. IsCutUnless (d < suc (length (zs ++ ws))) ws (taken (t (z ∷ zs)) zs (z ∷ zs) p) (taken b (zs ++ ws) (z ∷ zs ++ ws) q)) (sym (same z zs ws))
    (by z zs ws (t (z ∷ zs)) (looser (λ h. omega arith) (c.cut zs ws (omega arith) (omega arith)))))
  where
    by : (z : Terminal) (zs ws : List Terminal) (b : Bool) → IsCutUnless (d < suc (length (zs ++ ws))) ws (p zs) (q (zs ++ ws)) → IsCutUnless (d < suc (length (zs ++ ws))) ws (taken b zs (z ∷ zs) p) (taken b (zs ++ ws) (z ∷ zs ++ ws) q)
    by z zs ws true c = c
    by z zs ws false c = both_refuse

-- what begins local variables is one thing, and what else stands there another
pub cut_declares : {A : Type 0} {n m d : ℕ} (p q p' q' : List Terminal → Reads A) → CutBoth n m d p q → CutBoth n m d p' q'
    → ((i : Identifier) (xs : List Terminal) → IsHalfRead false (name_of (Ident i ∷ xs)) → Ends (p (Ident i ∷ xs)) × Ends (p' (Ident i ∷ xs)))
    → CutBoth n m d (λ xs. if begins_local xs then p xs else p' xs) (λ xs. if begins_local xs then q xs else q' xs)
unfolding declares
cut_declares {A} {n} {m} {d} p q p' q' c c' e = from_first (λ xs. cond (begins_local xs) (p xs) (p' xs)) (λ xs. cond (begins_local xs) (q xs) (q' xs))
    (λ xs. short_if (begins_local xs) (p xs) (p' xs) xs (c.front xs) (c'.front xs)) (λ xs. short_if (begins_local xs) (q xs) (q' xs) xs (c.whole xs) (c'.whole xs)) by
  where
    told : (i : Identifier) (zs ws : List Terminal) → IsCutUnless (d < suc (length (zs ++ ws))) ws (p (Ident i ∷ zs)) (q (Ident i ∷ zs ++ ws)) → IsCutUnless (d < suc (length (zs ++ ws))) ws (p' (Ident i ∷ zs)) (q' (Ident i ∷ zs ++ ws))
        → IsTold false is_declared (name_of (Ident i ∷ zs)) (name_of (Ident i ∷ zs ++ ws))
        → IsCutUnless (d < suc (length (zs ++ ws))) ws (cond (is_declared (name_of (Ident i ∷ zs))) (p (Ident i ∷ zs)) (p' (Ident i ∷ zs))) (cond (is_declared (name_of (Ident i ∷ zs ++ ws))) (q (Ident i ∷ zs ++ ws)) (q' (Ident i ∷ zs ++ ws)))
    told i zs ws k k' (inl h) = subst (λ b. IsCutUnless (d < suc (length (zs ++ ws))) ws (cond (is_declared (name_of (Ident i ∷ zs))) (p (Ident i ∷ zs)) (p' (Ident i ∷ zs))) (cond b (q (Ident i ∷ zs ++ ws)) (q' (Ident i ∷ zs ++ ws)))) (sym h)
        (cut_choice (is_declared (name_of (Ident i ∷ zs))) k k')
    told i zs ws k k' (inr h) = let x = e i zs h.1 in
        subst (λ b. IsCutUnless (d < suc (length (zs ++ ws))) ws (cond b (p (Ident i ∷ zs)) (p' (Ident i ∷ zs))) (cond (is_declared (name_of (Ident i ∷ zs ++ ws))) (q (Ident i ∷ zs ++ ws)) (q' (Ident i ∷ zs ++ ws)))) (sym h.0)
        (both_end x.1 (short_if (is_declared (name_of (Ident i ∷ zs ++ ws))) (q (Ident i ∷ zs ++ ws)) (q' (Ident i ∷ zs ++ ws)) ws (ended k x.0) (ended k' x.1)))

    by : (z : Terminal) (zs ws : List Terminal) → suc (length zs) < n → suc (length (zs ++ ws)) < m
        → IsCutUnless (d < suc (length (zs ++ ws))) ws (cond (begins_local (z ∷ zs)) (p (z ∷ zs)) (p' (z ∷ zs))) (cond (begins_local (z ∷ zs ++ ws)) (q (z ∷ zs ++ ws)) (q' (z ∷ zs ++ ws)))
    by (Ident i) zs ws l l' = told i zs ws (c.cut (Ident i ∷ zs) ws l l') (c'.cut (Ident i ∷ zs) ws l l') (told_decl (cut_name.cut (Ident i ∷ zs) ws))
    by (Keyword p k) zs ws l l' = cut_choice (nat_eq k word_final || is_prim (prim_of k)) (c.cut (Keyword p k ∷ zs) ws l l') (c'.cut (Keyword p k ∷ zs) ws l l')
    by (Literal p v) zs ws l l' = c'.cut (Literal p v ∷ zs) ws l l'
    by (Minimum p) zs ws l l' = c'.cut (Minimum p ∷ zs) ws l l'
    by (MinimumLong p) zs ws l l' = c'.cut (MinimumLong p ∷ zs) ws l l'
    by (Punct p o) zs ws l l' = c'.cut (Punct p o ∷ zs) ws l l'

-- a type is read to the end there
abbrev name_base : Identifier → List Identifier × List Terminal → Reads (ℕ × BaseTree)
name_base i r = Ok ((i.at, named r.0), r.1)

abbrev base_ty : (ℕ × BaseTree) × List Terminal → Reads TypeTree
base_ty r = pairs_of 200 r.1 >>= λ s. Ok (record { at = r.0.0; base = r.0.1; dims = s.0 }, s.1)

ty_from : (i : Identifier) (r : NameRead) → IsHalfRead false r → Ends ((r >>= name_base i) >>= base_ty)
unfolding pairs_of
ty_from i r (to_end e) = ends_bind (r >>= name_base i) base_ty (ends_bind r (name_base i) e (λ x. refl)) (λ x. refl)
ty_from i r (to_open e) = subst (λ z. Ends ((z >>= name_base i) >>= base_ty)) (sym e) refl

pub half_ty : (i : Identifier) (xs : List Terminal) → IsHalfRead false (name_of (Ident i ∷ xs)) → Ends (ty_of (Ident i ∷ xs))
unfolding ty_of base_of
half_ty i xs h = ty_from i (name_of (Ident i ∷ xs)) h
