-- Reading a front of terminals against reading them all: a mark, and names.
use Rattle.std.proofs.Common.{◌≡◌, ℕ, suc, ◌≤◌, Bool, true, false, cond, List, [], ◌∷◌, ◌++◌, length, arith, refl, Ok, Err}
use Rattle.jv_tree.specs.declared.name.Ident.{Ident as Identifier}
use Rattle.jv_grammar.specs.declared.terminal.Terminal.{Terminal}
use Rattle.jv_grammar.specs.declared.terminal.Terminal.TheVariants.{Ident, Keyword, Literal, Minimum, MinimumLong, Punct}
use Rattle.jv_grammar.specs.Marks.{dot}
use Rattle.jv_grammar.specs.TypeGrammar.{is_mark}
use Rattle.jv_grammar.specs.Reader.{Reads, ◌>>=◌, closed}
use Rattle.jv_grammar.specs.TypeReader.{dotted, name_of}
use Rattle.jv_grammar.proofs.Ending.{left_of, IsShort, IsCut, ends, gives, refuses, AreCut, IsCutting}
use Rattle.jv_grammar.proofs.Goes.{ends_bind}

-- of no terminals none are left
pub none_left : (xs : List Terminal) → length xs ≤ 0 → xs ≡ []
none_left [] l = refl
none_left (x ∷ xs) l = absurd (omega arith)

-- what is read behind leaves no more
pub left_bind : {A B : Type 0} (r : Reads A) (f : A × List Terminal → Reads B) → ((x : A) → IsShort (λ us. f (x, us))) → length (left_of (r >>= f)) ≤ length (left_of r)
left_bind (Ok r) f s = s r.0 r.1
left_bind (Err e) f s = omega arith

-- two readers, one behind the other
pub cut_bind : {A B : Type 0} {ws : List Terminal} {q r : Reads A} (f : A × List Terminal → Reads B) → IsCut ws q r → ((x : A) → IsShort (λ us. f (x, us)))
    → ((x : A) (ys : List Terminal) → IsCut ws (f (x, ys)) (f (x, ys ++ ws))) → IsCut ws (q >>= f) (r >>= f)
cut_bind {q} {r} f (ends e l) s g = ends (ends_bind q f e (λ x. none_left _ (s x []))) (omega (arith, left_bind r f s))
cut_bind f (gives {x} {ys}) s g = g x ys
cut_bind f refuses s g = refuses

-- a mark behind
short_closed : {A : Type 0} (n : ℕ) (x : A) → IsShort (closed n x)
short_closed n x [] = omega arith
short_closed n x (z ∷ zs) = by (is_mark n z)
  where
    by : (b : Bool) → length (left_of (cond b (Ok (x, zs)) (Err (z ∷ zs)))) ≤ suc (length zs)
    by true = omega arith
    by false = omega arith

pub cut_closed : {A : Type 0} (n : ℕ) (x : A) → IsCutting (closed n x)
cut_closed {A} n x = record { short = short_closed n x; cut = by }
  where
    choose : (z : Terminal) (zs ws : List Terminal) (b : Bool) → IsCut ws (cond b (Ok (x, zs)) (Err (z ∷ zs))) (cond b (Ok (x, zs ++ ws)) (Err (z ∷ zs ++ ws)))
    choose z zs ws true = gives
    choose z zs ws false = refuses

    by : AreCut (closed n x)
    by [] ws = ends refl (short_closed n x ws)
    by (z ∷ zs) ws = choose z zs ws (is_mark n z)

abbrev NameRead : Type 0
NameRead = Reads (List Identifier)

-- what is left of a name behind its dot, or of an identifier alone
dotted_short : (i : Identifier) (r : NameRead) → length (left_of (dotted i r)) ≤ length (left_of r)
dotted_short i (Ok r) = omega arith
dotted_short i (Err e) = omega arith

-- behind an identifier stands a dot, or something else
ident_short : (i : Identifier) (x : Terminal) (xs : List Terminal) (b : Bool) → length (left_of (name_of xs)) ≤ length xs
    → length (left_of (cond b (dotted i (name_of xs)) (Ok (i ∷ [], x ∷ xs)))) ≤ suc (length xs)
ident_short i x xs true l = omega (arith, dotted_short i (name_of xs))
ident_short i x xs false l = omega arith

short_name : IsShort name_of
unfolding name_of
short_name [] = omega arith
short_name (Ident i ∷ []) = omega arith
short_name (Ident i ∷ x ∷ xs) = let l = ident_short i x xs (is_mark dot x) (short_name xs) in omega arith
short_name (x ∷ xs) = omega arith

short_ident : (i : Identifier) (xs : List Terminal) → length (left_of (name_of (Ident i ∷ xs))) ≤ length xs
unfolding name_of
short_ident i [] = omega arith
short_ident i (x ∷ xs) = ident_short i x xs (is_mark dot x) (short_name xs)

ident_cut : (i : Identifier) (x : Terminal) (zs ws : List Terminal) (b : Bool) → IsCut ws (name_of zs) (name_of (zs ++ ws))
    → IsCut ws (cond b (dotted i (name_of zs)) (Ok (i ∷ [], x ∷ zs))) (cond b (dotted i (name_of (zs ++ ws))) (Ok (i ∷ [], x ∷ zs ++ ws)))
ident_cut i x zs ws true c = cut_bind (λ r. Ok (i ∷ r.0, r.1)) c (λ y us. omega arith) (λ y ys. gives)
ident_cut i x zs ws false c = gives

cut_of_name : AreCut name_of
unfolding name_of
cut_of_name [] ws = ends refl (short_name ws)
cut_of_name (Ident i ∷ []) ws = ends refl (short_ident i ws)
cut_of_name (Ident i ∷ x ∷ zs) ws = ident_cut i x zs ws (is_mark dot x) (cut_of_name zs ws)
cut_of_name (Keyword p k ∷ zs) ws = refuses
cut_of_name (Literal p l ∷ zs) ws = refuses
cut_of_name (Minimum p ∷ zs) ws = refuses
cut_of_name (MinimumLong p ∷ zs) ws = refuses
cut_of_name (Punct p o ∷ zs) ws = refuses

pub cut_name : IsCutting name_of
cut_name = record { short = short_name; cut = cut_of_name }
