-- Reading a front of terminals with one reader against reading them all with another, which may nest as deep or deeper: readers cut both
-- alike, unless the front is refused where it nests too deep. How this is kept by the forms of readers.
--
-- One reader that may nest no deeper is not cut alike: it refuses `( a` at `a`, where parentheses begin, and `( a ) b` at `b`, behind a cast.
use Rattle.std.proofs.Common.{◌≡◌, ℕ, suc, ◌<◌, ◌≤◌, Bool, true, false, cond, List, [], ◌∷◌, ◌++◌, length, arith, refl, sym, ap, subst, Ok, Err}
use Rattle.std.proofs.lemmas.List.{length-append}
use Rattle.jv_grammar.specs.declared.terminal.Terminal.{Terminal}
use Rattle.jv_grammar.specs.TypeGrammar.{is_mark}
use Rattle.jv_grammar.specs.Reader.{Reads, ◌>>=◌, rest_of, closed}
use Rattle.jv_grammar.proofs.Ending.{left_of, Ends, IsShort}
use Rattle.jv_grammar.proofs.Goes.{ends_bind}
use Rattle.jv_grammar.proofs.Cut.{none_left, left_bind}
use Rattle.jv_grammar.proofs.Read.{gives}

-- What is read of a front and of the front with ws behind it is cut alike, or D holds, and the front is refused no later than the whole.
pub data IsCutUnless {A : Type 0} (D : Type 0) (ws : List Terminal) : Reads A → Reads A → Type 0 where
  both_end : {q r : Reads A} → Ends q → length (left_of r) ≤ length ws → IsCutUnless D ws q r
  both_give : {x : A} {ys : List Terminal} → IsCutUnless D ws (Ok (x, ys)) (Ok (x, ys ++ ws))
  both_refuse : {ys : List Terminal} → IsCutUnless D ws (Err ys) (Err (ys ++ ws))
  too_deep : {ys : List Terminal} {r : Reads A} → D → length (left_of r) ≤ length (ys ++ ws) → IsCutUnless D ws (Err ys) r

-- Fronts of less than n terminals read by p and wholes of less than m read by q, where nesting d deep is enough for d terminals.
pub record CutBoth {A : Type 0} (n m d : ℕ) (p q : List Terminal → Reads A) : Type 0 where
  pub front : IsShort p
  pub whole : IsShort q
  pub cut : (zs ws : List Terminal) → length zs < n → length (zs ++ ws) < m → IsCutUnless (d < length (zs ++ ws)) ws (p zs) (q (zs ++ ws))

pub looser : {A : Type 0} {D E : Type 0} {ws : List Terminal} {q r : Reads A} → (D → E) → IsCutUnless D ws q r → IsCutUnless E ws q r
looser f (both_end e l) = both_end e l
looser f both_give = both_give
looser f both_refuse = both_refuse
looser f (too_deep d l) = too_deep (f d) l

pub weaker : {A : Type 0} {n m d n' m' d' : ℕ} {p q : List Terminal → Reads A} → n ≤ n' → m ≤ m' → d ≤ d' → CutBoth n' m' d' p q → CutBoth n m d p q
weaker a b c k = record { front = k.front; whole = k.whole; cut = λ zs ws l l'. looser (λ h. omega arith) (k.cut zs ws (omega arith) (omega arith)) }

-- Of a front that is read to its end, the whole is read no less far.
pub ended : {A : Type 0} {D : Type 0} {ws : List Terminal} {q r : Reads A} → IsCutUnless D ws q r → Ends q → length (left_of r) ≤ length ws
ended (both_end e l) h = l
ended {ws} (both_give {x} {ys}) h = subst (λ z. length (z ++ ws) ≤ length ws) (sym h) (omega arith)
ended {ws} (both_refuse {ys}) h = subst (λ z. length (z ++ ws) ≤ length ws) (sym h) (omega arith)
ended {ws} (too_deep {ys} {r} d l) h = let k = subst (λ z. length (left_of r) ≤ length (z ++ ws)) h l in k

-- nothing is read of no terminals
pub of_nothing : {A : Type 0} {D : Type 0} (p q : List Terminal → Reads A) → IsShort p → IsShort q → (ws : List Terminal) → IsCutUnless D ws (p []) (q ws)
of_nothing p q s t ws = both_end (none_left _ (s [])) (t ws)

-- so there has to be a first terminal
pub from_first : {A : Type 0} {n m d : ℕ} (p q : List Terminal → Reads A) → IsShort p → IsShort q
    → ((z : Terminal) (zs ws : List Terminal) → suc (length zs) < n → suc (length (zs ++ ws)) < m → IsCutUnless (d < suc (length (zs ++ ws))) ws (p (z ∷ zs)) (q (z ∷ zs ++ ws)))
    → CutBoth n m d p q
from_first {A} {n} {m} {d} p q s t c = record { front = s; whole = t; cut = by }
  where
    by : (zs ws : List Terminal) → length zs < n → length (zs ++ ws) < m → IsCutUnless (d < length (zs ++ ws)) ws (p zs) (q (zs ++ ws))
    by [] ws l l' = of_nothing p q s t ws
    by (z ∷ zs) ws l l' = c z zs ws l l'

-- two readers, one behind the other, where it is known how much is left for the second
pub cut_behind : {A B D : Type 0} {n m d : ℕ} {ws : List Terminal} {q r : Reads A} (f g : A × List Terminal → Reads B)
    → IsCutUnless D ws q r
    → ((x : A × List Terminal) → q ≡ gives x → (length x.1 < n) × (length (x.1 ++ ws) < m) × (d < length (x.1 ++ ws) → D))
    → ((x : A) → CutBoth n m d (λ us. f (x, us)) (λ us. g (x, us)))
    → IsCutUnless D ws (q >>= f) (r >>= g)
cut_behind f g (both_end {q} {r} e l) near k = both_end (ends_bind q f e (λ x. none_left _ ((k x).front []))) (omega (arith, left_bind r g (λ x. (k x).whole), l))
cut_behind f g (both_give {x} {ys}) near k = let b = near (x, ys) refl in looser b.2 ((k x).cut ys _ b.0 b.1)
cut_behind f g both_refuse near k = both_refuse
cut_behind f g (too_deep {ys} {r} h l) near k = too_deep h (omega (arith, left_bind r g (λ x. (k x).whole), l))

-- what is left is short
pub shortly : {A : Type 0} (q : Reads A) (zs ws : List Terminal) → length (left_of q) ≤ length zs → (x : A × List Terminal) → q ≡ gives x → length (x.1 ++ ws) ≤ length (zs ++ ws)
shortly {A} q zs ws l x e =
    let k = ap (λ (z : Reads A). length (left_of z)) e in
    let a = length-append x.1 ws in
    let b = length-append zs ws in
    omega (arith, k, a, b, l)

pub shorter : {A : Type 0} (q : Reads A) (zs : List Terminal) → length (left_of q) ≤ length zs → (x : A × List Terminal) → q ≡ gives x → length x.1 ≤ length zs
shorter {A} q zs l x e = let k = ap (λ (z : Reads A). length (left_of z)) e in omega (arith, k, l)

pub cut_then : {A B : Type 0} {n m d : ℕ} {p q : List Terminal → Reads A} (f g : A × List Terminal → Reads B) → CutBoth n m d p q
    → ((x : A) → CutBoth n m d (λ us. f (x, us)) (λ us. g (x, us))) → CutBoth n m d (λ xs. p xs >>= f) (λ xs. q xs >>= g)
cut_then {p} {q} f g c k = record {
  front = λ xs. omega (arith, left_bind (p xs) f (λ x. (k x).front), c.front xs);
  whole = λ xs. omega (arith, left_bind (q xs) g (λ x. (k x).whole), c.whole xs);
  cut = λ zs ws l l'. cut_behind f g (c.cut zs ws l l')
      (λ x e. let s = shortly (p zs) zs ws (c.front zs) x e in let t = shorter (p zs) zs (c.front zs) x e in (omega (arith, t, l), omega (arith, s, l'), λ h. omega (arith, s, h))) k;
}

-- the second of them counts by the terminals of both
pub cut_then_turns : {A B : Type 0} {n m d : ℕ} {p q : List Terminal → Reads A} (f g : A → ℕ → List Terminal → Reads B) → CutBoth n m d p q
    → ((x : A) (c e : ℕ) → CutBoth c e d (f x c) (g x e)) → CutBoth n m d (λ xs. p xs >>= λ r. f r.0 (suc (length xs)) r.1) (λ xs. q xs >>= λ r. g r.0 (suc (length xs)) r.1)
cut_then_turns {p} {q} f g c k = record {
  front = λ xs. omega (arith, left_bind (p xs) (λ r. f r.0 (suc (length xs)) r.1) (λ x. (k x (suc (length xs)) 0).front), c.front xs);
  whole = λ xs. omega (arith, left_bind (q xs) (λ r. g r.0 (suc (length xs)) r.1) (λ x. (k x 0 (suc (length xs))).whole), c.whole xs);
  cut = λ zs ws l l'. cut_behind (λ r. f r.0 (suc (length zs)) r.1) (λ r. g r.0 (suc (length (zs ++ ws))) r.1) (c.cut zs ws l l')
      (λ x e. let s = shortly (p zs) zs ws (c.front zs) x e in let t = shorter (p zs) zs (c.front zs) x e in (omega (arith, t), omega (arith, s), λ h. omega (arith, s, h)))
      (λ x. k x (suc (length zs)) (suc (length (zs ++ ws))));
}

-- the first of them takes a terminal
pub cut_then_less : {A B : Type 0} {n m d : ℕ} {p q : List Terminal → Reads A} (f g : A × List Terminal → Reads B) → CutBoth (suc n) (suc m) d p q
    → ((xs : List Terminal) (x : A × List Terminal) → p xs ≡ gives x → length x.1 < length xs)
    → ((x : A) → CutBoth n m d (λ us. f (x, us)) (λ us. g (x, us))) → CutBoth (suc n) (suc m) d (λ xs. p xs >>= f) (λ xs. q xs >>= g)
cut_then_less {p} {q} f g c less k = record {
  front = λ xs. omega (arith, left_bind (p xs) f (λ x. (k x).front), c.front xs);
  whole = λ xs. omega (arith, left_bind (q xs) g (λ x. (k x).whole), c.whole xs);
  cut = λ zs ws l l'. cut_behind f g (c.cut zs ws l l')
      (λ x e. let s = less zs x e in let a = length-append x.1 ws in let b = length-append zs ws in (omega (arith, s, l), omega (arith, s, a, b, l'), λ h. omega (arith, s, a, b, h))) k;
}

-- what is read, and what is refused at once
pub cut_done : {A : Type 0} {n m d : ℕ} (x : A) → CutBoth n m d (λ us. Ok (x, us)) (λ us. Ok (x, us))
cut_done x = record { front = λ us. omega arith; whole = λ us. omega arith; cut = λ zs ws l l'. both_give }

pub cut_none : {A : Type 0} {n m d : ℕ} → CutBoth {A = A} n m d (λ us. Err us) (λ us. Err us)
cut_none = record { front = λ us. omega arith; whole = λ us. omega arith; cut = λ zs ws l l'. both_refuse }

pub cut_map : {A B : Type 0} {n m d : ℕ} {p q : List Terminal → Reads A} (h : A → B) → CutBoth n m d p q → CutBoth n m d (λ xs. p xs >>= λ r. Ok (h r.0, r.1)) (λ xs. q xs >>= λ r. Ok (h r.0, r.1))
cut_map h c = cut_then _ _ c (λ x. cut_done (h x))

-- behind a first terminal
pub rest_short : {A : Type 0} (p : List Terminal → Reads A) → IsShort p → IsShort (λ xs. p (rest_of xs))
rest_short p s [] = s []
rest_short p s (x ∷ xs) = omega (arith, s xs)

pub cut_rest : {A : Type 0} {n m d : ℕ} {p q : List Terminal → Reads A} → CutBoth n m d p q → CutBoth (suc n) (suc m) (suc d) (λ xs. p (rest_of xs)) (λ xs. q (rest_of xs))
cut_rest {p} {q} c = from_first _ _ (rest_short p c.front) (rest_short q c.whole) (λ z zs ws l l'. looser (λ h. omega arith) (c.cut zs ws (omega arith) (omega arith)))

pub cut_under : {A : Type 0} {n m d : ℕ} {p q : List Terminal → Reads A} → CutBoth n m d p q → CutBoth n m (suc d) (λ xs. p (rest_of xs)) (λ xs. q (rest_of xs))
cut_under c = weaker (omega arith) (omega arith) (omega arith) (cut_rest c)

pub cut_turn : {A : Type 0} {n m d : ℕ} {p q : List Terminal → Reads A} → CutBoth n m d p q → CutBoth (suc n) (suc m) d (λ xs. p (rest_of xs)) (λ xs. q (rest_of xs))
cut_turn c = weaker (omega arith) (omega arith) (omega arith) (cut_rest c)

pub cut_next : {A : Type 0} {n m d : ℕ} {p q : List Terminal → Reads A} → CutBoth n m d p q → CutBoth n m d (λ xs. p (rest_of xs)) (λ xs. q (rest_of xs))
cut_next c = weaker (omega arith) (omega arith) (omega arith) (cut_rest c)

-- a test that the first terminal decides
abbrev pub ByFirst : (List Terminal → Bool) → Type 0
ByFirst t = (z : Terminal) (zs ws : List Terminal) → t (z ∷ zs ++ ws) ≡ t (z ∷ zs)

pub short_if : {A : Type 0} (b : Bool) (q r : Reads A) (xs : List Terminal) → length (left_of q) ≤ length xs → length (left_of r) ≤ length xs → length (left_of (cond b q r)) ≤ length xs
short_if true q r xs l l' = l
short_if false q r xs l l' = l'

pub cut_choice : {A : Type 0} {D : Type 0} {ws : List Terminal} {q r q' r' : Reads A} (b : Bool) → IsCutUnless D ws q r → IsCutUnless D ws q' r' → IsCutUnless D ws (cond b q q') (cond b r r')
cut_choice true c c' = c
cut_choice false c c' = c'

pub cut_if : {A : Type 0} {n m d : ℕ} {p q p' q' : List Terminal → Reads A} (t : List Terminal → Bool) → ByFirst t → CutBoth n m d p q → CutBoth n m d p' q'
    → CutBoth n m d (λ xs. cond (t xs) (p xs) (p' xs)) (λ xs. cond (t xs) (q xs) (q' xs))
cut_if {d} {p} {q} {p'} {q'} t same c c' =
    from_first _ _ (λ xs. short_if (t xs) (p xs) (p' xs) xs (c.front xs) (c'.front xs)) (λ xs. short_if (t xs) (q xs) (q' xs) xs (c.whole xs) (c'.whole xs))
    (λ z zs ws l l'. subst (λ b. IsCutUnless (d < suc (length (zs ++ ws))) ws (cond (t (z ∷ zs)) (p (z ∷ zs)) (p' (z ∷ zs))) (cond b (q (z ∷ zs ++ ws)) (q' (z ∷ zs ++ ws)))) (sym (same z zs ws))
    (cut_choice (t (z ∷ zs)) (c.cut (z ∷ zs) ws l l') (c'.cut (z ∷ zs) ws l l')))

-- a test that no terminal decides
pub cut_case : {A : Type 0} {n m d : ℕ} {p q p' q' : List Terminal → Reads A} (b : Bool) → CutBoth n m d p q → CutBoth n m d p' q'
    → CutBoth n m d (λ xs. cond b (p xs) (p' xs)) (λ xs. cond b (q xs) (q' xs))
cut_case b c c' = cut_if (λ xs. b) (λ z zs ws. refl) c c'

short_closed : {A : Type 0} (k : ℕ) (x : A) → IsShort (closed k x)
short_closed k x [] = omega arith
short_closed k x (z ∷ zs) = short_if (is_mark k z) (Ok (x, zs)) (Err (z ∷ zs)) (z ∷ zs) (omega arith) (omega arith)

pub cut_mark : {A : Type 0} {n m d : ℕ} (k : ℕ) (x : A) → CutBoth n m d (closed k x) (closed k x)
cut_mark k x = from_first _ _ (short_closed k x) (short_closed k x) (λ z zs ws l l'. cut_choice (is_mark k z) both_give both_refuse)
