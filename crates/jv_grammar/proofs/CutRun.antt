-- The longest name of a head, in a front of terminals and in them all: it is the same, or the front ends in it, and the whole goes on from a
-- dot of the front at the earliest.
use Rattle.std.proofs.Common.{◌≡◌, ℕ, suc, ◌≤◌, ◌&&◌, not, Bool, true, false, cond, List, [], ◌∷◌, ◌++◌, length, arith, refl, sym, subst}
use Rattle.jv_tree.specs.declared.name.Ident.{Ident as Identifier}
use Rattle.jv_grammar.specs.declared.terminal.Terminal.{Terminal}
use Rattle.jv_grammar.specs.declared.terminal.Terminal.TheVariants.{Ident, Keyword, Literal, Minimum, MinimumLong, Punct}
use Rattle.jv_grammar.specs.Marks.{paren_open, dot}
use Rattle.jv_grammar.specs.TypeGrammar.{is_mark, starts}
use Rattle.jv_grammar.specs.ExprGrammar.{goes_on}
use Rattle.jv_grammar.specs.ExprReader.{named_on, run_of}
use Rattle.jv_grammar.proofs.Read.{mark_is}
use Rattle.jv_grammar.proofs.Heads.{Run}

-- a front that ends in a name, or behind a dot of it
pub data IsHalf : List Terminal → Type 0 where
  half_name : IsHalf []
  half_dot : {p : ℕ} → IsHalf (Punct p dot ∷ [])

-- what of the whole stands behind the name: only what stands in ws, but for a dot, and an identifier that is called
pub data FromDot (ws : List Terminal) : List Terminal → Type 0 where
  in_rest : {us : List Terminal} → length us ≤ length ws → FromDot ws us
  at_dot : {p : ℕ} {us : List Terminal} → length us ≤ length ws → FromDot ws (Punct p dot ∷ us)
  at_call : {p : ℕ} {i : Identifier} {us : List Terminal} → length us ≤ length ws → FromDot ws (Punct p dot ∷ Ident i ∷ us)

pub data IsRunCut (ws : List Terminal) : Run → Run → Type 0 where
  run_same : {ids : List Identifier} {ys : List Terminal} → IsRunCut ws (ids, ys) (ids, ys ++ ws)
  run_half : {q r : Run} → IsHalf q.1 → FromDot ws r.1 → IsRunCut ws q r

named_left : (y : Terminal) (r : Run) → length (named_on y r).1 ≤ length r.1
named_left (Ident i) r = omega arith
named_left (Keyword p k) r = omega arith
named_left (Literal p l) r = omega arith
named_left (Minimum p) r = omega arith
named_left (MinimumLong p) r = omega arith
named_left (Punct p o) r = omega arith

pub run_short : (xs : List Terminal) → length (run_of xs).1 ≤ length xs
unfolding run_of
run_short [] = omega arith
run_short (x ∷ []) = omega arith
run_short (x ∷ y ∷ xs) = by (is_mark dot x && goes_on (y ∷ xs)) (run_short xs)
  where
    by : (b : Bool) → length (run_of xs).1 ≤ length xs → length (cond b (named_on y (run_of xs)) ([], x ∷ y ∷ xs)).1 ≤ suc (suc (length xs))
    by true l = omega (arith, l, named_left y (run_of xs))
    by false l = omega arith

named_cut : {ws : List Terminal} {q r : Run} (y : Terminal) → IsRunCut ws q r → IsRunCut ws (named_on y q) (named_on y r)
named_cut (Ident i) run_same = run_same
named_cut (Ident i) (run_half h f) = run_half h f
named_cut (Keyword p k) c = c
named_cut (Literal p l) c = c
named_cut (Minimum p) c = c
named_cut (MinimumLong p) c = c
named_cut (Punct p o) c = c

-- a terminal alone
alone_dot : (p : ℕ) (y : Terminal) (ws : List Terminal) (b : Bool) → IsRunCut (y ∷ ws) ([], Punct p dot ∷ []) (cond b (named_on y (run_of ws)) ([], Punct p dot ∷ y ∷ ws))
alone_dot p y ws true = run_half half_dot (in_rest (omega (arith, named_left y (run_of ws), run_short ws)))
alone_dot p y ws false = run_half half_dot (at_dot (omega arith))

alone : (x y : Terminal) (ws : List Terminal) (b g : Bool) → is_mark dot x ≡ b → IsRunCut (y ∷ ws) ([], x ∷ []) (cond (b && g) (named_on y (run_of ws)) ([], x ∷ y ∷ ws))
alone x y ws true g e = let m = mark_is dot x e in subst (λ z. IsRunCut (y ∷ ws) ([], z ∷ []) (cond g (named_on y (run_of ws)) ([], z ∷ y ∷ ws))) (sym m.1) (alone_dot m.0 y ws g)
alone x y ws false g e = run_same

-- two terminals
called : (p : ℕ) (i : Identifier) (ws : List Terminal) (b : Bool) → IsRunCut ws (i ∷ [], []) (cond b (i ∷ (run_of ws).0, (run_of ws).1) ([], Punct p dot ∷ Ident i ∷ ws))
called p i ws true = run_half half_name (in_rest (run_short ws))
called p i ws false = run_half half_name (at_call (omega arith))

abbrev empty : Run
empty = ([], [])

two : (x y : Terminal) (ws : List Terminal) (b : Bool) → is_mark dot x ≡ b
    → IsRunCut ws (cond (b && goes_on (y ∷ [])) (named_on y empty) ([], x ∷ y ∷ [])) (cond (b && goes_on (y ∷ ws)) (named_on y (run_of ws)) ([], x ∷ y ∷ ws))
two x y ws false e = run_same
two x (Ident i) ws true e = let m = mark_is dot x e in
    subst (λ z. IsRunCut ws (i ∷ [], []) (cond (not (starts paren_open ws)) (i ∷ (run_of ws).0, (run_of ws).1) ([], z ∷ Ident i ∷ ws))) (sym m.1) (called m.0 i ws (not (starts paren_open ws)))
two x (Keyword p k) ws true e = run_same
two x (Literal p l) ws true e = run_same
two x (Minimum p) ws true e = run_same
two x (MinimumLong p) ws true e = run_same
two x (Punct p o) ws true e = run_same

goes_same : (y z : Terminal) (zs ws : List Terminal) → goes_on (y ∷ z ∷ zs ++ ws) ≡ goes_on (y ∷ z ∷ zs)
goes_same (Ident i) z zs ws = refl
goes_same (Keyword p k) z zs ws = refl
goes_same (Literal p l) z zs ws = refl
goes_same (Minimum p) z zs ws = refl
goes_same (MinimumLong p) z zs ws = refl
goes_same (Punct p o) z zs ws = refl

pub run_cut : (zs ws : List Terminal) → IsRunCut ws (run_of zs) (run_of (zs ++ ws))
unfolding run_of
run_cut [] ws = run_half half_name (in_rest (run_short ws))
run_cut (x ∷ []) [] = run_same
run_cut (x ∷ []) (y ∷ ws) = alone x y ws (is_mark dot x) (goes_on (y ∷ ws)) refl
run_cut (x ∷ y ∷ []) ws = two x y ws (is_mark dot x) refl
run_cut (x ∷ y ∷ z ∷ zs) ws =
    subst (λ b. IsRunCut ws (cond (is_mark dot x && goes_on (y ∷ z ∷ zs)) (named_on y (run_of (z ∷ zs))) ([], x ∷ y ∷ z ∷ zs)) (cond (is_mark dot x && b) (named_on y (run_of (z ∷ zs ++ ws))) ([], x ∷ y ∷ z ∷ zs ++ ws)))
    (sym (goes_same y z zs ws)) (by (is_mark dot x && goes_on (y ∷ z ∷ zs)) (named_cut y (run_cut (z ∷ zs) ws)))
  where
    by : (b : Bool) → IsRunCut ws (named_on y (run_of (z ∷ zs))) (named_on y (run_of (z ∷ zs ++ ws)))
        → IsRunCut ws (cond b (named_on y (run_of (z ∷ zs))) ([], x ∷ y ∷ z ∷ zs)) (cond b (named_on y (run_of (z ∷ zs ++ ws))) ([], x ∷ y ∷ z ∷ zs ++ ws))
    by true c = c
    by false c = run_same
