-- Numbers in rising order, each once.
use Rattle.std.proofs.Common.{◌≡◌, ◌==◌, ℕ, zero, suc, ◌+◌, ◌<◌, ◌⊎◌, ◌↔◌, nat_lt, true, false, List, [], ◌∷◌, length, get_or, inl, inr, refl, sym, subst, arith}
use Rattle.std.proofs.lemmas.Bool.{cases_lt, cases_eq}
use Rattle.std.proofs.lemmas.Bool.Decides.{nat_tests}
use Rattle.std.specs.List.{Contains}
use Rattle.std.specs.List.Sorted.{IsStrictlyIncreasing}
use Rattle.jv_flow.specs.FaultList.{put_among, in_rising_order}
use Rattle.jv_flow.proofs.Members.{first_in, later_in, cases_in, none_in}

put_first : (n m : ℕ) (ms : List ℕ) → n < m → put_among n (m ∷ ms) ≡ n ∷ m ∷ ms
put_first n m ms l = let b : nat_lt n m ≡ true = grind (arith, nat_tests, l) in rw b refl

put_nowhere : (n m : ℕ) (ms : List ℕ) → n ≡ m → put_among n (m ∷ ms) ≡ m ∷ ms
put_nowhere n m ms e =
    let b : nat_lt n m ≡ false = grind (arith, nat_tests, e) in
    let c : (n == m) ≡ true = grind (arith, nat_tests, e) in
    rw (b, c) refl

put_behind : (n m : ℕ) (ms : List ℕ) → m < n → put_among n (m ∷ ms) ≡ m ∷ put_among n ms
put_behind n m ms l =
    let b : nat_lt n m ≡ false = grind (arith, nat_tests, l) in
    let c : (n == m) ≡ false = grind (arith, nat_tests, l) in
    rw (b, c) refl

-- what holds of a number that is put in front, that is there, and that is put behind, holds
by_order : (P : List ℕ → Type 0) (n m : ℕ) (ms : List ℕ) → (n < m → P (n ∷ m ∷ ms)) → (n ≡ m → P (m ∷ ms)) → (m < n → P (m ∷ put_among n ms)) → P (put_among n (m ∷ ms))
by_order P n m ms f g h = elim (cases_lt n m) [
  | inl l ↦ subst P (sym (put_first n m ms l)) (f l)
  | inr k ↦ elim (cases_eq n m) [
    | inl e ↦ subst P (sym (put_nowhere n m ms e)) (g e)
    | inr d ↦ let l : m < n = grind (arith, k, d) in subst P (sym (put_behind n m ms l)) (h l)
  ]
]

-- ---- members

put_has : (n : ℕ) (ms : List ℕ) → Contains (put_among n ms) n
put_has n [] = first_in n []
put_has n (m ∷ ms) =
    by_order (λ ls. Contains ls n) n m ms (λ l. first_in n (m ∷ ms)) (λ e. subst (λ (k : ℕ). Contains (k ∷ ms) n) e (first_in n ms)) (λ l. later_in m n (put_among n ms) (put_has n ms))

put_keeps : (n : ℕ) (ms : List ℕ) (z : ℕ) → Contains ms z → Contains (put_among n ms) z
put_keeps n [] z c = none_in z c
put_keeps n (m ∷ ms) z c = by_order (λ ls. Contains ls z) n m ms (λ l. later_in n z (m ∷ ms) c) (λ e. c) (λ l. behind (λ d. put_keeps n ms z d))
  where
    behind : (Contains ms z → Contains (put_among n ms) z) → Contains (m ∷ put_among n ms) z
    behind kept = elim (cases_in m z ms c) [
      | inl e ↦ subst (λ (k : ℕ). Contains (m ∷ put_among n ms) k) e (first_in m (put_among n ms))
      | inr d ↦ later_in m z (put_among n ms) (kept d)
    ]

put_from : (n : ℕ) (ms : List ℕ) (z : ℕ) → Contains (put_among n ms) z → (n ≡ z) ⊎ Contains ms z
put_from n [] z c = cases_in n z [] c
put_from n (m ∷ ms) z c = by_order (λ ls. Contains ls z → (n ≡ z) ⊎ Contains (m ∷ ms) z) n m ms (λ l d. cases_in n z (m ∷ ms) d) (λ e d. inr d) (λ l. behind (λ d. put_from n ms z d)) c
  where
    behind : (Contains (put_among n ms) z → (n ≡ z) ⊎ Contains ms z) → Contains (m ∷ put_among n ms) z → (n ≡ z) ⊎ Contains (m ∷ ms) z
    behind from d = elim (cases_in m z (put_among n ms) d) [
      | inl e ↦ inr (subst (λ (k : ℕ). Contains (m ∷ ms) k) e (first_in m ms))
      | inr k ↦ elim (from k) [
        | inl e ↦ inl e
        | inr u ↦ inr (later_in m z ms u)
      ]
    ]

order_keeps : (ns : List ℕ) (z : ℕ) → Contains ns z → Contains (in_rising_order ns) z
order_keeps [] z c = c
order_keeps (n ∷ ns) z c = elim (cases_in n z ns c) [
  | inl e ↦ subst (λ (k : ℕ). Contains (put_among n (in_rising_order ns)) k) e (put_has n (in_rising_order ns))
  | inr d ↦ put_keeps n (in_rising_order ns) z (order_keeps ns z d)
]

order_from : (ns : List ℕ) (z : ℕ) → Contains (in_rising_order ns) z → Contains ns z
order_from [] z c = c
order_from (n ∷ ns) z c = elim (put_from n (in_rising_order ns) z c) [
  | inl e ↦ subst (λ (k : ℕ). Contains (n ∷ ns) k) e (first_in n ns)
  | inr d ↦ later_in n z ns (order_from ns z d)
]

pub order_same : (ns : List ℕ) (z : ℕ) → Contains (in_rising_order ns) z ↔ Contains ns z
order_same ns z = (order_from ns z, order_keeps ns z)

-- ---- order

-- each number is below all behind it
abbrev Rises : List ℕ → Type 0
Rises [] = Unit {0}
Rises (n ∷ ns) = ((z : ℕ) → Contains ns z → n < z) × Rises ns

put_rises : (n : ℕ) (ms : List ℕ) → Rises ms → Rises (put_among n ms)
put_rises n [] h = ((λ z c. none_in z c), tt)
put_rises n (m ∷ ms) h = by_order Rises n m ms (λ l. (in_front l, h)) (λ e. h) (λ l. (above l, put_rises n ms h.1))
  where
    in_front : n < m → (z : ℕ) → Contains (m ∷ ms) z → n < z
    in_front l z c = elim (cases_in m z ms c) [
      | inl e ↦ omega arith
      | inr d ↦ let k : m < z = h.0 z d in omega arith
    ]

    above : m < n → (z : ℕ) → Contains (put_among n ms) z → m < z
    above l z c = elim (put_from n ms z c) [
      | inl e ↦ omega arith
      | inr d ↦ h.0 z d
    ]

order_rises : (ns : List ℕ) → Rises (in_rising_order ns)
order_rises [] = tt
order_rises (n ∷ ns) = put_rises n (in_rising_order ns) (order_rises ns)

increases : (ns : List ℕ) → Rises ns → IsStrictlyIncreasing ns
increases [] h = λ k l. absurd (omega arith)
increases (n ∷ []) h = λ k l. absurd (omega arith)
increases (n ∷ m ∷ ms) h = at (increases (m ∷ ms) h.1)
  where
    at : IsStrictlyIncreasing (m ∷ ms) → (k : ℕ) → k + 1 < length (n ∷ m ∷ ms) → get_or (n ∷ m ∷ ms) k 0 < get_or (n ∷ m ∷ ms) (k + 1) 0
    at rest zero l = h.0 m (first_in m ms)
    at rest (suc k) l = let e : suc (k + 1) ≡ suc k + 1 = omega arith in subst (λ (j : ℕ). get_or (m ∷ ms) k 0 < get_or (n ∷ m ∷ ms) j 0) e (rest k (omega arith))

pub order_increases : (ns : List ℕ) → IsStrictlyIncreasing (in_rising_order ns)
order_increases ns = increases (in_rising_order ns) (order_rises ns)
