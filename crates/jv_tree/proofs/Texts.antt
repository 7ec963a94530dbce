-- Looking up a text among the keys of a set of strings.
use Rattle.std.proofs.Common.{◌≡◌, ℕ, ◌+◌, ◌-◌, ◌^◌, ◌<◌, Bool, true, false, not, cond, List, [], ◌∷◌, ◌++◌, length, map, position, slice_get, get_or, Some, None, refl, sym, ap, ◌∙◌, arith, ◌||◌, zero, suc, true≢false, nat_lt, option_map, Global, String}
use Rattle.std.specs.List.{list_any, prefix_len, IsDistinct, AllByRecursion}
use Rattle.std.specs.Str.{bytes_eq}
use Rattle.std.specs.String.{string_bytes, string_eq}
use Rattle.indexmap.specs.IndexSet.{insert_key}
use Rattle.std.proofs.lemmas.List.{map-append}
use Rattle.std.proofs.lemmas.Map.Keys.{IsDistinct-head, IsDistinct-tail}
use Rattle.jv_tree.specs.Names.{AreDistinct}
use Rattle.std.proofs.lemmas.List.Quantifiers.{position-Some}
use Rattle.std.proofs.lemmas.Slice.Eq.{bytes_eq-Decides}
use Rattle.std.proofs.lemmas.Option.{slice_get-get_or, slice_get-map}

none_some : {t : List ℕ} → None ≡ Some t → ⊥
none_some h = cc

module _ {A B : Type 0} (v : A → B) (p : B → Bool) where
  prefix_seen : (xs : List A) → prefix_len (λ x. not (p (v x))) xs ≡ prefix_len (λ x. not (p x)) (map v xs)
  prefix_seen [] = refl
  prefix_seen (x ∷ xs) = ap (λ n. cond (not (p (v x))) (1 + n) 0) (prefix_seen xs)

  pub list_any_seen : (xs : List A) → list_any (λ x. p (v x)) xs ≡ list_any p (map v xs)
  list_any_seen [] = refl
  list_any_seen (x ∷ xs) = ap (λ b. p (v x) || b) (list_any_seen xs)

seen_length : {A B : Type 0} (v : A → B) (xs : List A) → length xs ≡ length (map v xs)
seen_length v [] = refl
seen_length v (x ∷ xs) = ap suc (seen_length v xs)

pub position_seen : {A B : Type 0} (v : A → B) (p : B → Bool) (xs : List A) → position (λ x. p (v x)) xs ≡ position p (map v xs)
position_seen v p xs = λ i. cond (nat_lt (prefix_seen v p xs i) (seen_length v xs i)) (Some (prefix_seen v p xs i)) None

pub found_text : (t : List ℕ) (ks : List (List ℕ)) (i : ℕ) → position (bytes_eq t) ks ≡ Some i → slice_get ks i ≡ Some t
found_text t ks i e =
    let s : _ = position-Some (bytes_eq t) ks i t e in
    slice_get-get_or ks i t s.0 ∙ ap Some (sym ((bytes_eq-Decides t (get_or ks i t)).0 s.1))

module _ (t : List ℕ) (o : String Global) (bytes : string_bytes o ≡ t) where
  -- a text that is new goes last
  pub interned : (ks new : List (String Global)) → list_any (λ k. bytes_eq t (string_bytes k)) ks ≡ false → new ≡ insert_key string_eq ks o
      → map string_bytes new ≡ cond (list_any (bytes_eq t) (map string_bytes ks)) (map string_bytes ks) (map string_bytes ks ++ t ∷ [])
  interned ks new none e =
      let fresh : list_any (string_eq o) ks ≡ false = ap (λ b. list_any (λ k. bytes_eq b (string_bytes k)) ks) bytes ∙ none in
      ap (map string_bytes) (e ∙ ap (λ b. cond b ks (ks ++ o ∷ [])) fresh)
      ∙ map-append string_bytes ks (o ∷ [])
      ∙ ap (λ b. map string_bytes ks ++ b ∷ []) bytes
      ∙ sym (ap (λ b. cond b (map string_bytes ks) (map string_bytes ks ++ t ∷ [])) (sym (list_any_seen string_bytes (bytes_eq t) ks) ∙ none))

  pub stored_text : (ks : List (String Global)) (i : ℕ) (k : String Global) → slice_get ks i ≡ Some k → string_eq o k ≡ true → slice_get (map string_bytes ks) i ≡ Some t
  stored_text ks i k at same =
      slice_get-map string_bytes ks i ∙ ap (option_map string_bytes) at
      ∙ ap Some (sym ((bytes_eq-Decides (string_bytes o) (string_bytes k)).0 same) ∙ bytes)

-- texts that differ as keys stand at one place each
text_apart : (k : String Global) (ks : List (String Global)) (j : ℕ) (t : List ℕ) → AllByRecursion (λ y. string_eq k y ≡ false) ks → string_bytes k ≡ t → slice_get (map string_bytes ks) j ≡ Some t → ⊥
text_apart k [] j t a e h = none_some h
text_apart k (x ∷ ks) zero t a e h =
    let same : string_bytes k ≡ string_bytes x = let s : string_bytes x ≡ t = cc in e ∙ sym s in
    true≢false (sym ((bytes_eq-Decides (string_bytes k) (string_bytes x)).1 same) ∙ a.0)
text_apart k (x ∷ ks) (suc j) t a e h = text_apart k ks j t a.1 e h

pub AreDistinct-texts : (ks : List (String Global)) → IsDistinct string_eq ks → AreDistinct (map string_bytes ks)
AreDistinct-texts [] d i j t a b = absurd (none_some a)
AreDistinct-texts (k ∷ ks) d zero zero t a b = refl
AreDistinct-texts (k ∷ ks) d zero (suc j) t a b = absurd (text_apart k ks j t (IsDistinct-head string_eq k ks d) (let s : string_bytes k ≡ t = cc in s) b)
AreDistinct-texts (k ∷ ks) d (suc i) zero t a b = absurd (text_apart k ks i t (IsDistinct-head string_eq k ks d) (let s : string_bytes k ≡ t = cc in s) a)
AreDistinct-texts (k ∷ ks) d (suc i) (suc j) t a b = ap suc (AreDistinct-texts ks (IsDistinct-tail string_eq k ks d) i j t a b)

-- there is room for one text more
pub one_more_fits : (ks new : List (String Global)) (names : List (List ℕ)) (b : Bool) → map string_bytes ks ≡ names → length names < 2 ^ 32 - 1 → length new ≡ length ks + cond b 1 0 → length new < 2 ^ 32
one_more_fits ks new names true view l e = let n : length ks ≡ length names = seen_length string_bytes ks ∙ ap length view in omega arith
one_more_fits ks new names false view l e = let n : length ks ≡ length names = seen_length string_bytes ks ∙ ap length view in omega arith
