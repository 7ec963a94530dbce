-- The order in which marks are tried: none stands behind one that it begins with.
use Rattle.std.proofs.Common.{◌≡◌, ℕ, zero, suc, ◌<◌, ◌≤◌, ◌⊎◌, inl, inr, Bool, true, false, not, ◌&&◌, nat_eq, nat_lt, List, [], ◌∷◌, ◌++◌, length, map, get_or, position, Option, Some, None, refl, sym, ap, ◌∙◌, arith, true≢false, option_map}
use Rattle.std.specs.List.{list_all, position_or_len}
use Rattle.std.specs.Str.{bytes_eq, chars, encode_utf8_all, IsUtf8, IsAscii}
use Rattle.std.proofs.lemmas.List.Quantifiers.{position-Some}
use Rattle.std.proofs.lemmas.Slice.Eq.{bytes_eq-Decides}
use Rattle.std.proofs.lemmas.Bool.Decides.{Decides-ltb, Decides-eqb}
use Rattle.std.proofs.lemmas.Str.{chars-append, chars-IsAscii, encodes-append, encodes-IsAscii, encodes-chars, IsUtf8-from_ascii}
use Rattle.jv_lex.specs.Punctuation.{marks, mark_kind, HasNoMark, IsLongestMark}
use Rattle.jv_lex.specs.declared.punctuation.TheConstants.{LONGER_FIRST, FIRST_PLACES}
use Rattle.jv_lex.specs.declared.token.TokenKind.TheVariants.{Punct}
use Rattle.jv_lex.proofs.Tables.{and_left, and_right, all_at, all_below, is_ascii, IsAscii-from_is_ascii}

-- the mark at a place of the order
abbrev pub tried : ℕ → List ℕ
tried i = get_or marks (get_or LONGER_FIRST i 0) []

-- a text is a front of another one
abbrev is_front : List ℕ → List ℕ → Bool
is_front [] v = true
is_front (x ∷ w) [] = false
is_front (x ∷ w) (y ∷ v) = nat_eq x y && is_front w v

is_front-from_append : (w v x y : List ℕ) → w ++ x ≡ v ++ y → length w ≤ length v → is_front w v ≡ true
is_front-from_append [] v x y e l = refl
is_front-from_append (a ∷ w) [] x y e l = absurd (omega arith)
is_front-from_append (a ∷ w) (b ∷ v) x y e l =
    let same : a ≡ b = cc in
    let rest : w ++ x ≡ v ++ y = cc in
    let t : nat_eq a b ≡ true = (Decides-eqb a b).1 same in
    rw (t, is_front-from_append w v x y rest (omega arith)) refl

-- no text of the list is a front of a later one
abbrev ordered : List (List ℕ) → Bool
ordered [] = true
ordered (w ∷ ws) = list_all (λ v. not (is_front w v)) ws && ordered ws

ordered_at : (ws : List (List ℕ)) (i j : ℕ) → ordered ws ≡ true → i < j → j < length ws → not (is_front (get_or ws i []) (get_or ws j [])) ≡ true
ordered_at [] i j h l m = absurd (omega arith)
ordered_at (w ∷ ws) i zero h l m = absurd (omega arith)
ordered_at (w ∷ ws) zero (suc j) h l m = all_at (λ v. not (is_front w v)) ws j [] (and_left (list_all (λ v. not (is_front w v)) ws) (ordered ws) h) (omega arith)
ordered_at (w ∷ ws) (suc i) (suc j) h l m = ordered_at ws i j (and_right (list_all (λ v. not (is_front w v)) ws) (ordered ws) h) (omega arith) (omega arith)

get_or-map : (f : ℕ → List ℕ) (xs : List ℕ) (i : ℕ) → i < length xs → get_or (map f xs) i [] ≡ f (get_or xs i 0)
get_or-map f [] i l = absurd (omega arith)
get_or-map f (x ∷ xs) zero l = refl
get_or-map f (x ∷ xs) (suc i) l = get_or-map f xs i (omega arith)

tried_in_order : (i j : ℕ) → i < j → j < 50 → is_front (tried i) (tried j) ≡ true → ⊥
tried_in_order i j l m h =
    let f = λ (o : ℕ). get_or marks o [] in
    let n : not (is_front (get_or (map f LONGER_FIRST) i []) (get_or (map f LONGER_FIRST) j [])) ≡ true = ordered_at (map f LONGER_FIRST) i j refl l m in
    let a : get_or (map f LONGER_FIRST) i [] ≡ tried i = get_or-map f LONGER_FIRST i (omega arith) in
    let b : get_or (map f LONGER_FIRST) j [] ≡ tried j = get_or-map f LONGER_FIRST j m in
    true≢false (sym n ∙ ap not (ap (λ w. is_front w (get_or (map f LONGER_FIRST) j [])) a ∙ ap (is_front (tried i)) b ∙ h))

-- where a number stands in the order
abbrev place_in_order : ℕ → ℕ
place_in_order o = position_or_len (λ p. nat_eq p o) LONGER_FIRST

placed : (o : ℕ) → o < 50 → (place_in_order o < 50) × (get_or LONGER_FIRST (place_in_order o) 0 ≡ o)
placed o l =
    let p = λ (o : ℕ). nat_lt (place_in_order o) 50 && nat_eq (get_or LONGER_FIRST (place_in_order o) 0) o in
    let k : p o ≡ true = all_below p 50 o refl l in
    ((Decides-ltb (place_in_order o) 50).0 (and_left _ _ k), (Decides-eqb (get_or LONGER_FIRST (place_in_order o) 0) o).0 (and_right _ _ k))

pub small : (i : ℕ) → i < 50 → get_or LONGER_FIRST i 0 < 50
small i l = (Decides-ltb (get_or LONGER_FIRST i 0) 50).0 (all_at (λ o. nat_lt o 50) LONGER_FIRST i 0 refl l)

pub tried_ascii : (i : ℕ) → i < 50 → IsAscii (tried i)
tried_ascii i l = IsAscii-from_is_ascii (tried i) (all_at is_ascii marks (get_or LONGER_FIRST i 0) [] refl (small i l))

-- no mark stands before the place at which the marks of its first character begin
abbrev stands_behind : ℕ → List ℕ → Bool
stands_behind k [] = false
stands_behind k (c ∷ w) = nat_lt c 128 && nat_lt (get_or FIRST_PLACES c 0) (suc k)

stands : (k : ℕ) → k < 50 → stands_behind k (tried k) ≡ true
stands k l = all_below (λ (k : ℕ). stands_behind k (tried k)) 50 k refl l

begins_behind : (k c : ℕ) (cs rest : List ℕ) → k < 50 → c ∷ cs ≡ tried k ++ rest → (c < 128) × (get_or FIRST_PLACES c 0 ≤ k)
begins_behind k c cs rest l e = by (tried k) (stands k l) e
  where
    by : (w : List ℕ) → stands_behind k w ≡ true → c ∷ cs ≡ w ++ rest → (c < 128) × (get_or FIRST_PLACES c 0 ≤ k)
    by [] h e = absurd (true≢false (sym h))
    by (d ∷ w) h e =
        let same : d ≡ c = cc in
        let at : nat_lt c 128 && nat_lt (get_or FIRST_PLACES c 0) (suc k) ≡ true = ap (λ x. nat_lt x 128 && nat_lt (get_or FIRST_PLACES x 0) (suc k)) (sym same) ∙ h in
        let place : get_or FIRST_PLACES c 0 < suc k = (Decides-ltb (get_or FIRST_PLACES c 0) (suc k)).0 (and_right (nat_lt c 128) (nat_lt (get_or FIRST_PLACES c 0) (suc k)) at) in
        ((Decides-ltb c 128).0 (and_left _ _ at), omega arith)

-- a text begins with none of the marks before the place of its first character
pub none_before : (text cs : List ℕ) (c place k : ℕ) (rest : List ℕ) → text ≡ c ∷ cs → c < 128 → place ≡ get_or FIRST_PLACES c 0 → k < place → text ≡ tried k ++ rest → ⊥
none_before text cs c place k rest whole l at m e =
    let most : get_or FIRST_PLACES c 0 < 51 = (Decides-ltb (get_or FIRST_PLACES c 0) 51).0 (all_at (λ p. nat_lt p 51) FIRST_PLACES c 0 refl l) in
    let b = begins_behind k c cs rest (omega (arith, most, at, m)) (sym whole ∙ e) in
    let behind = b.1 in absurd (omega arith)

pub none_other : (text cs : List ℕ) (c k : ℕ) (rest : List ℕ) → text ≡ c ∷ cs → 128 ≤ c → k < 50 → text ≡ tried k ++ rest → ⊥
none_other text cs c k rest whole l m e = let b = begins_behind k c cs rest m (sym whole ∙ e) in let low = b.0 in absurd (omega arith)

pub none_empty : (k : ℕ) (rest : List ℕ) → k < 50 → [] ≡ tried k ++ rest → ⊥
none_empty k rest l e = by (tried k) (stands k l) e
  where
    by : (w : List ℕ) → stands_behind k w ≡ true → [] ≡ w ++ rest → ⊥
    by [] h e = true≢false (sym h)
    by (d ∷ w) h e = cc

-- a text that is a mark stands at some place of the order; so one that stands at none is no mark
no_mark : (v : List ℕ) → ((j : ℕ) → j < 50 → v ≡ tried j → ⊥) → mark_kind v ≡ None
no_mark v none = by (position (bytes_eq v) marks) refl
  where
    by : (r : Option ℕ) → position (bytes_eq v) marks ≡ r → option_map Punct r ≡ None
    by None e = refl
    by (Some o) e =
        let s : _ = position-Some (bytes_eq v) marks o [] e in
        let p : _ = placed o s.0 in
        let same : v ≡ get_or marks o [] = (bytes_eq-Decides v (get_or marks o [])).0 s.1 in
        absurd (none (place_in_order o) p.0 (same ∙ ap (λ n. get_or marks n []) (sym p.1)))

module _ (cs : List ℕ) where
  pub longest_tried : (i : ℕ) (rest : List ℕ) → i < 50 → ((k : ℕ) → k < i → (rest : List ℕ) → cs ≡ tried k ++ rest → ⊥) → cs ≡ tried i ++ rest → IsLongestMark cs (get_or LONGER_FIRST i 0) rest
  longest_tried i rest l before cut = record { numbered = small i l; cut = cut; longest = λ v more e m. no_mark v (λ j n s. by v more e m j n s (apart j i)) }
    where
      apart : (a b : ℕ) → (a < b) ⊎ ((a ≡ b) ⊎ (b < a))
      apart a b = grind arith

      by : (v more : List ℕ) → cs ≡ v ++ more → length (tried i) < length v → (j : ℕ) → j < 50 → v ≡ tried j → (j < i) ⊎ ((j ≡ i) ⊎ (i < j)) → ⊥
      by v more e m j n s (inl b) = before j b more (e ∙ ap (λ w. w ++ more) s)
      by v more e m j n s (inr (inl b)) = let same : length v ≡ length (tried i) = ap length s ∙ ap (λ k. length (tried k)) b in omega arith
      by v more e m j n s (inr (inr b)) =
          tried_in_order i j b n (is_front-from_append (tried i) (tried j) rest more (sym cut ∙ e ∙ ap (λ w. w ++ more) s) (let h : length v ≡ length (tried j) = ap length s in omega arith))

  pub none_tried : ((k : ℕ) → k < 50 → (rest : List ℕ) → cs ≡ tried k ++ rest → ⊥) → HasNoMark cs
  none_tried none = λ v more e. no_mark v (λ j n s. none j n more (e ∙ ap (λ w. w ++ more) s))

-- an ASCII text stands in front of a text just where it stands in front of its characters
module _ (bs t : List ℕ) (ascii : IsAscii t) where
  pub chars-begins : (rest : List ℕ) → bs ≡ t ++ rest → chars bs ≡ t ++ chars rest
  chars-begins rest e = ap chars e ∙ chars-append t rest (IsUtf8-from_ascii t ascii) ∙ ap (λ w. w ++ chars rest) (chars-IsAscii t ascii)

  pub begins-chars : (rest : List ℕ) → IsUtf8 bs → chars bs ≡ t ++ rest → bs ≡ t ++ encode_utf8_all rest
  begins-chars rest u e = sym (encodes-chars bs u) ∙ ap encode_utf8_all e ∙ encodes-append t rest ∙ ap (λ w. w ++ encode_utf8_all rest) (encodes-IsAscii t ascii)

-- the kind of the mark of a number
pub mark_kind-mark : (n : ℕ) → n < 50 → mark_kind (get_or marks n []) ≡ Some (Punct n)
mark_kind-mark n l = rw (place, small_place) refl
  where
    place : position_or_len (bytes_eq (get_or marks n [])) marks ≡ n
    place =
        let p = λ (o : ℕ). nat_eq (position_or_len (bytes_eq (get_or marks o [])) marks) o in
        (Decides-eqb (position_or_len (bytes_eq (get_or marks n [])) marks) n).0 (all_below p 50 n refl l)

    small_place : nat_lt n 50 ≡ true
    small_place = (Decides-ltb n 50).1 l
