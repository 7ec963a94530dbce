-- Codes and texts.
use Rattle.std.proofs.Common.{◌≡◌, ◌==◌, ℕ, zero, suc, ◌<◌, ◌≤◌, ◌+◌, List, [], ◌∷◌, ◌++◌, map, drop, length, slice_index_or, Some, None, refl, sym, ap, ◌∙◌, append_assoc, inl, inr, Bor, arith}
use Rattle.std.proofs.lemmas.Bool.{cases_lt, cases_Bool}
use Rattle.std.proofs.lemmas.Bool.Decides.{nat_tests}
use Rattle.std.proofs.lemmas.List.{get_or_past, get_or-map, length-map}
use Rattle.std.proofs.lemmas.Str.{length-le-encodes}
use Rattle.std.specs.Char.{encode_utf8}
use Rattle.std.specs.Str.{encode_utf8_all}
use Rattle.jv_diag.specs.Text.{texts, taken_by, takes, filled}

pub text_below : (k n : ℕ) → takes k ≡ Some n → k < 62
text_below k n e = elim (cases_lt k 62) [
  | inl l ↦ l
  | inr m ↦ let none : takes k ≡ None = ap taken_by (get_or_past texts k [] m) in absurd (cc (e, none))
]

-- ---- lists

first_drop : (xs : List (List ℕ)) (k : ℕ) → slice_index_or (drop k xs) 0 [] ≡ slice_index_or xs k []
first_drop xs zero = refl
first_drop [] (suc k) = refl
first_drop (x ∷ xs) (suc k) = first_drop xs k

one_dropped : (xs : List (List ℕ)) (k : ℕ) → drop 1 (drop k xs) ≡ drop (k + 1) xs
one_dropped xs zero = refl
one_dropped [] (suc k) = let same : suc (suc k) ≡ suc k + 1 = omega arith in ap (λ (j : ℕ). drop j []) same
one_dropped (x ∷ xs) (suc k) = let same : suc (k + 1) ≡ suc k + 1 = omega arith in one_dropped xs k ∙ ap (λ (j : ℕ). drop j (x ∷ xs)) same

drop_all : (xs : List (List ℕ)) (k : ℕ) → length xs ≤ k → drop k xs ≡ []
drop_all [] zero h = refl
drop_all [] (suc k) h = refl
drop_all (x ∷ xs) zero h = absurd (omega (arith, h))
drop_all (x ∷ xs) (suc k) h = drop_all xs k (omega (arith, h))

-- ---- one character more

abbrev pub now_of : Bor (List ℕ) → List ℕ
now_of b = b.now

pub mark_filled : (args : List (Bor (List ℕ))) (next : ℕ) (d : Bor (List ℕ)) → next < length args → (c : ℕ) (cs ds : List ℕ) → ds ≡ c ∷ cs → c ≡ 36 → (t u whole : List ℕ) → u ≡ t ++ (slice_index_or args next d).now → t ++ filled ds (drop next (map now_of args)) ≡ whole → u ++ filled cs (drop (next + 1) (map now_of args)) ≡ whole
mark_filled args next d h c cs ds e k t u whole more is =
    let a : slice_index_or (map now_of args) next [] ≡ (slice_index_or args next d).now = get_or-map now_of args next d [] h in
    let first : slice_index_or (drop next (map now_of args)) 0 [] ≡ slice_index_or (map now_of args) next [] = first_drop (map now_of args) next in
    let rest : drop 1 (drop next (map now_of args)) ≡ drop (next + 1) (map now_of args) = one_dropped (map now_of args) next in
    rw (more, ← a, ← first, ← rest) (append_assoc t (slice_index_or (drop next (map now_of args)) 0 []) (filled cs (drop 1 (drop next (map now_of args)))) ∙ rw (e, k) at is)

pub no_argument : (args : List (Bor (List ℕ))) (next : ℕ) → length args ≤ next → (c : ℕ) (cs ds : List ℕ) → ds ≡ c ∷ cs → c ≡ 36 → (t whole : List ℕ) → t ++ filled ds (drop next (map now_of args)) ≡ whole → t ++ filled cs (drop next (map now_of args)) ≡ whole
no_argument args next h c cs ds e k t whole is =
    let none : drop next (map now_of args) ≡ [] = drop_all (map now_of args) next (omega (arith, h, length-map args now_of)) in
    rw none (rw (e, k, none) at is)

pub plain_filled : (left : List (List ℕ)) (c : ℕ) (cs ds : List ℕ) → ds ≡ c ∷ cs → (c ≡ 36 → ⊥) → (t u whole : List ℕ) → u ≡ t ++ encode_utf8 c → t ++ filled ds left ≡ whole → u ++ filled cs left ≡ whole
plain_filled left c cs ds e n t u whole more is =
    elim (cases_Bool (c == 36)) [
      | inl b ↦ absurd (n (grind (arith, nat_tests, b)))
      | inr b ↦
          let here : filled (c ∷ cs) left ≡ encode_utf8 c ++ filled cs left = rw b refl in
          rw more (append_assoc t (encode_utf8 c) (filled cs left) ∙ ap (λ (x : List ℕ). t ++ x) (sym here) ∙ rw e at is)
    ]

pub nothing_left : (cs rest : List ℕ) → encode_utf8_all cs ≡ rest → length rest ≡ 0 → cs ≡ []
nothing_left [] rest e l = refl
nothing_left (c ∷ cs) rest e l = absurd (omega (arith, length-le-encodes (c ∷ cs), ap (λ (x : List ℕ). length x) e, l))
