-- Reading a front of terminals against reading them all: files. Readers that may nest n and m deep, n no more than m, are cut alike, unless
-- the terminals are more than n + 1 and the front is refused: then the whole is refused no earlier.
use Rattle.std.proofs.Common.{◌≡◌, ℕ, suc, ◌<◌, ◌≤◌, Bool, true, false, cond, List, [], ◌∷◌, ◌++◌, length, arith, refl, sym, subst, ◌∙◌, Option, Result, Ok, Err, if◌then◌else◌}
use Rattle.jv_tree.specs.declared.name.Ident.{Ident as Identifier}
use Rattle.jv_tree.specs.DeclTree.{TypeDeclTree, ImportTree, UnitTree}
use Rattle.jv_grammar.specs.declared.terminal.Terminal.{Terminal}
use Rattle.jv_grammar.specs.Marks.{semicolon}
use Rattle.jv_grammar.specs.TypeGrammar.{is_mark, starts}
use Rattle.jv_grammar.specs.Reader.{Reads, ◌>>=◌, rest_of}
use Rattle.jv_grammar.specs.DeclReader.{decl_of, below_type, type_of, types_of, package_of, imports_of, file_of}
use Rattle.jv_grammar.proofs.Ending.{left_of, IsShort, all_of}
use Rattle.jv_grammar.proofs.Read.{gives}
use Rattle.jv_grammar.proofs.DeclDepth.{less_type}
use Rattle.jv_grammar.proofs.DeclSound.{derives_type}
use Rattle.jv_grammar.proofs.CutBoth.{IsCutUnless, CutBoth, from_first, cut_then, cut_then_less, cut_map, cut_turn, cut_if}
use Rattle.jv_grammar.proofs.CutTurns.{all_turns, turns_of, long_turns_of}
use Rattle.jv_grammar.proofs.CutTypes.{first_mark}
use Rattle.jv_grammar.proofs.CutParts.{both_package, both_imports}
use Rattle.jv_grammar.proofs.CutFiles.{both_mods, both_decl, both_below_type, member_takes}

-- what is read to the end, of two readers one behind the other
all_then : {A B : Type 0} (q : Reads A) (f : A × List Terminal → Result B (List Terminal)) → all_of (q >>= f) ≡ (q >>= λ x. all_of (f x))
all_then (Ok x) f = refl
all_then (Err e) f = refl

all_map : {A B : Type 0} (t : Result A (List Terminal)) (g : A → B) → all_of (t >>= λ s. Ok (g s)) ≡ (all_of t >>= λ s. Ok (g s.0, s.1))
all_map (Ok x) g = refl
all_map (Err e) g = refl

then_same : {A B : Type 0} (q : Reads A) (f g : A × List Terminal → Reads B) → ((x : A × List Terminal) → f x ≡ g x) → (q >>= f) ≡ (q >>= g)
then_same (Ok x) f g e = e x
then_same (Err x) f g e = refl

-- the types of a file, and those behind a `;` or a type
abbrev types_all : ℕ → ℕ → List Terminal → Reads (List TypeDeclTree)
types_all n c xs = all_of (types_of n c xs)

abbrev with_type : ℕ → ℕ → TypeDeclTree × List Terminal → Reads (List TypeDeclTree)
with_type n c r = types_all n c r.1 >>= λ s. Ok (r.0 ∷ s.0, s.1)

abbrev some_types : ℕ → ℕ → List Terminal → Reads (List TypeDeclTree)
some_types n c xs = if starts semicolon xs then types_all n c (rest_of xs) else (type_of n xs >>= with_type n c)

types_are : (n c : ℕ) (z : Terminal) (zs : List Terminal) → some_types n c (z ∷ zs) ≡ types_all n (suc c) (z ∷ zs)
unfolding types_of
types_are n c z zs = by (is_mark semicolon z)
  where
    by : (b : Bool) → cond b (types_all n c zs) (type_of n (z ∷ zs) >>= with_type n c) ≡ all_of (cond b (types_of n c zs) (type_of n (z ∷ zs) >>= λ r. types_of n c r.1 >>= λ s. Ok (r.0 ∷ s)))
    by true = refl
    by false = sym (all_then (type_of n (z ∷ zs)) (λ r. types_of n c r.1 >>= λ s. Ok (r.0 ∷ s)) ∙ then_same (type_of n (z ∷ zs)) _ (with_type n c) (λ r. all_map (types_of n c r.1) (λ s. r.0 ∷ s)))

no_turn_short : (n : ℕ) → IsShort (types_all n 0)
unfolding types_of
no_turn_short n [] = omega arith
no_turn_short n (z ∷ zs) = omega arith

turn_short : (n c : ℕ) → IsShort (some_types n c) → IsShort (types_all n (suc c))
unfolding types_of
turn_short n c s [] = omega arith
turn_short n c s (z ∷ zs) = subst (λ q. length (left_of q) ≤ suc (length zs)) (types_are n c z zs) (s (z ∷ zs))

type_takes : (n : ℕ) (xs : List Terminal) (x : TypeDeclTree × List Terminal) → type_of n xs ≡ gives x → length x.1 < length xs
type_takes n xs x e = less_type (derives_type n xs x e).0

abbrev unit : Option (List Identifier) → List ImportTree → List TypeDeclTree → UnitTree
unit p i t = record { package_name = p; imports = i; types = t }

-- a file behind its package and its imports
abbrev behind_imports : ℕ → Option (List Identifier) → List ImportTree × List Terminal → Reads UnitTree
behind_imports n p i = types_all n (length i.1) i.1 >>= λ t. Ok (unit p i.0 t.0, t.1)

abbrev behind_package : ℕ → Option (List Identifier) × List Terminal → Reads UnitTree
behind_package n p = imports_of (suc (length p.1)) p.1 >>= behind_imports n p.0

abbrev pub file_all : ℕ → List Terminal → Reads UnitTree
file_all n xs = all_of (file_of n xs)

file_is : (n : ℕ) (xs : List Terminal) → file_all n xs ≡ (package_of xs >>= behind_package n)
unfolding file_of
file_is n xs =
    all_then (package_of xs) (λ p. imports_of (suc (length p.1)) p.1 >>= λ i. types_of n (length i.1) i.1 >>= λ t. Ok (unit p.0 i.0 t))
    ∙ then_same (package_of xs) _ (behind_package n) (λ p. all_then (imports_of (suc (length p.1)) p.1) (λ i. types_of n (length i.1) i.1 >>= λ t. Ok (unit p.0 i.0 t))
    ∙ then_same (imports_of (suc (length p.1)) p.1) _ (behind_imports n p.0) (λ i. all_map (types_of n (length i.1) i.1) (λ t. unit p.0 i.0 t)))

-- readers that give the same
along : {A : Type 0} {n m d : ℕ} {p q : List Terminal → Reads A} (p' q' : List Terminal → Reads A) → ((xs : List Terminal) → p' xs ≡ p xs) → ((xs : List Terminal) → q' xs ≡ q xs) → CutBoth n m d p q → CutBoth n m d p' q'
along {d} {p} {q} p' q' e e' c = record {
  front = λ xs. subst (λ r. length (left_of r) ≤ length xs) (sym (e xs)) (c.front xs);
  whole = λ xs. subst (λ r. length (left_of r) ≤ length xs) (sym (e' xs)) (c.whole xs);
  cut = λ zs ws l l'. subst (λ r. IsCutUnless (d < length (zs ++ ws)) ws r (q' (zs ++ ws))) (sym (e zs)) (subst (λ r. IsCutUnless (d < length (zs ++ ws)) ws (p zs) r) (sym (e' (zs ++ ws))) (c.cut zs ws l l'));
}

module _ (n m : ℕ) (l : n ≤ m) where
  pub both_type : (i j : ℕ) → CutBoth i j (suc n) (type_of n) (type_of m)
  unfolding type_of
  both_type i j = cut_then (λ r. decl_of n (below_type n) r.0 r.1) (λ r. decl_of m (below_type m) r.0 r.1) (both_mods i j (suc n))
      (λ ks. both_decl n m l (below_type n) (below_type m) (both_below_type n m l) (member_takes n n) ks i j)

  pub both_types : (i j : ℕ) → CutBoth (suc i) (suc j) (suc n) (types_all n i) (types_all m j)
  both_types = all_turns (types_all n) (types_all m) (no_turn_short n) (no_turn_short m) turn
    where
      turn : (i j : ℕ) → CutBoth (suc i) (suc j) (suc n) (types_all n i) (types_all m j) → CutBoth (suc (suc i)) (suc (suc j)) (suc n) (types_all n (suc i)) (types_all m (suc j))
      turn i j more =
          let s : CutBoth (suc (suc i)) (suc (suc j)) (suc n) (some_types n i) (some_types m j) =
          cut_if (starts semicolon) (first_mark _) (cut_turn more) (cut_then_less (with_type n i) (with_type m j) (both_type (suc (suc i)) (suc (suc j))) (type_takes n) (λ x. cut_map (λ (ts : List TypeDeclTree). x ∷ ts) more)) in
          from_first (types_all n (suc i)) (types_all m (suc j)) (turn_short n i s.front) (turn_short m j s.whole)
          (λ z zs ws v v'. subst (λ q. IsCutUnless (suc n < suc (length (zs ++ ws))) ws q (types_all m (suc j) (z ∷ zs ++ ws))) (types_are n i z zs)
          (subst (λ r. IsCutUnless (suc n < suc (length (zs ++ ws))) ws (some_types n i (z ∷ zs)) r) (types_are m j z (zs ++ ws)) (s.cut (z ∷ zs) ws v v')))

  pub both_file : (i j : ℕ) → CutBoth i j (suc n) (file_all n) (file_all m)
  both_file i j = along (file_all n) (file_all m) (file_is n) (file_is m)
      (cut_then (behind_package n) (behind_package m) (both_package i j (suc n)) (λ p. cut_then (behind_imports n p) (behind_imports m p) (long_turns_of imports_of imports_of (both_imports (suc n))) (λ is.
      cut_map (λ (ts : List TypeDeclTree). unit p is ts) (turns_of (types_all n) (types_all m) both_types))))
