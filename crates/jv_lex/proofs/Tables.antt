-- Reading a table of texts, and looking a text up in it.
use Rattle.std.proofs.Common.{◌≡◌, ℕ, zero, suc, ◌<◌, Bool, true, false, not, ◌&&◌, nat_lt, List, [], ◌∷◌, length, map, get_or, position, Some, None, Bor, refl, sym, ap, ◌∙◌, arith, true≢false}
use Rattle.std.specs.List.{position_or_len, list_all, range_with_len}
use Rattle.std.specs.Str.{bytes_eq, chars, encode_utf8_all, IsUtf8, IsAscii}
use Rattle.std.specs.Bool.{Decides}
use Rattle.std.proofs.lemmas.List.Sums.{prefix_len_is}
use Rattle.std.proofs.lemmas.List.FromFn.{get_or-range_with_len, length-range_with_len}
use Rattle.std.proofs.lemmas.Slice.Eq.{bytes_eq-Decides}
use Rattle.std.proofs.lemmas.Str.{chars-IsAscii, encodes-IsAscii, encodes-chars}
use Rattle.std.proofs.lemmas.Str.Ascii.{IsAscii-nil, IsAscii-cons}
use Rattle.std.proofs.lemmas.Bool.Decides.{nat_tests, same_from_decides, Decides-ltb}

pub some_none : {X : Type 0} {x : X} → Some x ≡ None → ⊥
some_none h = cc

pub now_at : (xs : List (Bor (List ℕ))) (i : ℕ) (d : Bor (List ℕ)) → (get_or xs i d).now ≡ get_or (map (λ x. x.now) xs) i d.now
now_at [] i d = refl
now_at (x ∷ xs) zero d = refl
now_at (x ∷ xs) (suc i) d = now_at xs i d

pub and_left : (a b : Bool) → a && b ≡ true → a ≡ true
and_left true b h = refl
and_left false b h = h

pub and_right : (a b : Bool) → a && b ≡ true → b ≡ true
and_right true b h = h
and_right false b h = absurd (true≢false (sym h))

-- what a test of all of a list says of each place
pub all_at : {X : Type 0} (p : X → Bool) (xs : List X) (i : ℕ) (d : X) → list_all p xs ≡ true → i < length xs → p (get_or xs i d) ≡ true
all_at p [] i d h l = absurd (omega arith)
all_at p (x ∷ xs) zero d h l = and_left (p x) (list_all p xs) h
all_at p (x ∷ xs) (suc i) d h l = all_at p xs i d (and_right (p x) (list_all p xs) h) (omega arith)

-- what a test of all numbers below a bound says of each
pub all_below : (p : ℕ → Bool) (n i : ℕ) → list_all p (range_with_len 0 n) ≡ true → i < n → p i ≡ true
all_below p n i h l =
    let at : get_or (range_with_len 0 n) i 0 ≡ i = omega (arith, get_or-range_with_len 0 n i 0 l) in
    ap p (sym at) ∙ all_at p (range_with_len 0 n) i 0 h (omega (arith, length-range_with_len 0 n, l))

abbrev pub is_ascii : List ℕ → Bool
is_ascii = list_all (λ b. nat_lt b 128)

pub IsAscii-from_is_ascii : (bs : List ℕ) → is_ascii bs ≡ true → IsAscii bs
IsAscii-from_is_ascii [] h = IsAscii-nil
IsAscii-from_is_ascii (b ∷ bs) h =
    IsAscii-cons b bs ((Decides-ltb b 128).0 (and_left (nat_lt b 128) (is_ascii bs) h)) (IsAscii-from_is_ascii bs (and_right (nat_lt b 128) (is_ascii bs) h))

-- a text is an ASCII text just where its characters are
pub bytes_eq-chars : (t k : List ℕ) → IsUtf8 t → IsAscii k → bytes_eq (chars t) k ≡ bytes_eq t k
bytes_eq-chars t k u a = same_from_decides _ _ (bytes_eq-Decides (chars t) k) (by (bytes_eq-Decides t k))
  where
    by : Decides (bytes_eq t k) (t ≡ k) → Decides (bytes_eq t k) (chars t ≡ k)
    by d = (λ h. ap chars (d.0 h) ∙ chars-IsAscii k a, λ h. d.1 (sym (encodes-chars t u) ∙ ap encode_utf8_all h ∙ encodes-IsAscii k a))

module _ (t : List ℕ) (table : List (List ℕ)) where
  pub position_found : (i : ℕ) → i < length table → ((k : ℕ) → k < i → bytes_eq t (get_or table k []) ≡ false) → bytes_eq t (get_or table i []) ≡ true → position (bytes_eq t) table ≡ Some i
  position_found i l before here =
      let e : position_or_len (bytes_eq t) table ≡ i =
      prefix_len_is (λ x. not (bytes_eq t x)) table i [] (omega arith) (λ k h. ap not (before k h)) (λ _. ap not here) in
      let h : nat_lt i (length table) ≡ true = (Decides-ltb i (length table)).1 l in
      rw (e, h) refl

  pub position_none : ((k : ℕ) → k < length table → bytes_eq t (get_or table k []) ≡ false) → position (bytes_eq t) table ≡ None
  position_none none =
      let e : position_or_len (bytes_eq t) table ≡ length table =
      prefix_len_is (λ x. not (bytes_eq t x)) table (length table) [] (omega arith) (λ k h. ap not (none k h)) (λ h. absurd (omega arith)) in
      let h : nat_lt (length table) (length table) ≡ false = grind (arith, nat_tests) in
      rw (e, h) refl
