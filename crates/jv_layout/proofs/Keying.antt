-- Keys, and which of them come first.
use Rattle.std.proofs.Common.{◌≡◌, inl, inr, ℕ, zero, suc, ◌+◌, ◌<◌, Bool, true, false, ◌||◌, ◌&&◌, cond, List, [], ◌∷◌, ◌++◌, length, map, take, get_or, refl, sym, ap, ◌∙◌, append-nil, arith}
use Rattle.std.specs.Prelude.{◌==◌, not, All}
use Rattle.std.specs.Cmp.{nat_eq_equiv}
use Rattle.std.specs.List.{filter, list_any, range_with_len}
use Rattle.std.proofs.lemmas.Bool.{cases_eq, eq-eqb, ne_eqb}
use Rattle.std.proofs.lemmas.List.{length-map, get_or-map, take-map}
use Rattle.std.proofs.lemmas.List.Elements.{All-same, All-push, All-weaker, filter-append}
use Rattle.std.proofs.lemmas.List.Folds.{list_any_more}
use Rattle.sg_base.specs.declared.scope.Scope.{Scope}
use Rattle.sg_base.specs.Scope.{is_scope}
use Rattle.jv_layout.specs.declared.firsts.Key.{Key}
use Rattle.jv_layout.specs.Folder.{LayoutOf}
use Rattle.jv_layout.specs.Scopes.{first_type}
use Rattle.jv_layout.specs.Readers.{no_type, no_member}
use Rattle.jv_layout.specs.Skeleton.{below, are_one_type, are_one_member, first_types, first_members, label_of}
use Rattle.jv_layout.specs.Keys.{type_key, member_key, is_key, no_key, is_first, firsts, repeats}
use Rattle.jv_layout.specs.Duplicates.{repeated_types, repeated_members}
use Rattle.jv_layout.specs.declared.rows.MemberRow.{MemberRow}
use Rattle.jv_layout.proofs.Looping.{below_more}

-- ---- keys

both_sym : (a b c d : Bool) → a ≡ b → c ≡ d → (a && c) ≡ (b && d)
both_sym a b c d e f = ap (λ (x : Bool). x && c) e ∙ ap (λ (x : Bool). b && x) f

scope_sym : (a b : Scope) → is_scope a b ≡ is_scope b a
scope_sym a b = both_sym (a.unit == b.unit) (b.unit == a.unit) (a.serial == b.serial) (b.serial == a.serial) (nat_eq_equiv.symm a.unit b.unit) (nat_eq_equiv.symm a.serial b.serial)

pub key_sym : (a b : Key) → is_key a b ≡ is_key b a
key_sym a b =
    both_sym (is_scope a.home b.home) (is_scope b.home a.home) ((a.label == b.label) && (a.name.0 == b.name.0)) ((b.label == a.label) && (b.name.0 == a.name.0)) (scope_sym a.home b.home)
    (both_sym (a.label == b.label) (b.label == a.label) (a.name.0 == b.name.0) (b.name.0 == a.name.0) (nat_eq_equiv.symm a.label b.label) (nat_eq_equiv.symm a.name.0 b.name.0))

-- ---- tests of numbers

-- tests that agree on numbers keep the same ones
pub filter_below : (p q : ℕ → Bool) (a n : ℕ) → ((i : ℕ) → i < a + n → p i ≡ q i) → filter p (range_with_len a n) ≡ filter q (range_with_len a n)
filter_below p q a zero h = refl
filter_below p q a (suc n) h =
    ap (λ (b : Bool). cond b (a ∷ filter p (range_with_len (a + 1) n)) (filter p (range_with_len (a + 1) n))) (h a (omega arith))
    ∙ ap (λ (zs : List ℕ). cond (q a) (a ∷ zs) zs) (filter_below p q (a + 1) n (λ i l. h i (omega arith)))

-- and so do functions that agree on numbers
pub map_below : {Y : Type 0} (f g : ℕ → Y) (a n : ℕ) → ((i : ℕ) → i < a + n → f i ≡ g i) → map f (range_with_len a n) ≡ map g (range_with_len a n)
map_below f g a zero h = refl
map_below {Y} f g a (suc n) h =
    ap (λ (y : Y). y ∷ map f (range_with_len (a + 1) n)) (h a (omega arith)) ∙ ap (λ (ys : List Y). g a ∷ ys) (map_below f g (a + 1) n (λ i l. h i (omega arith)))

-- one number more
pub filter_one_more : (p : ℕ → Bool) (n : ℕ) → filter p (below (n + 1)) ≡ filter p (below n) ++ cond (p n) (n ∷ []) []
filter_one_more p n = ap (filter p) (below_more n) ∙ filter-append p (below n) (n ∷ [])

pub kept_one : (p : ℕ → Bool) (n : ℕ) (old new : List ℕ) → p n ≡ true → new ≡ old ++ n ∷ [] → old ≡ filter p (below n) → new ≡ filter p (below (n + 1))
kept_one p n old new t e h =
    e ∙ (ap (λ (zs : List ℕ). zs ++ n ∷ []) h ∙ (ap (λ (b : Bool). filter p (below n) ++ cond b (n ∷ []) []) (sym t) ∙ sym (filter_one_more p n)))

pub kept_none : (p : ℕ → Bool) (n : ℕ) (old : List ℕ) → p n ≡ false → old ≡ filter p (below n) → old ≡ filter p (below (n + 1))
kept_none p n old t h =
    h ∙ (sym (append-nil (filter p (below n))) ∙ (ap (λ (b : Bool). filter p (below n) ++ cond b (n ∷ []) []) (sym t) ∙ sym (filter_one_more p n)))

pub places_none : (n : ℕ) (old : List ℕ) → All (λ i. i < n) old → All (λ i. i < n + 1) old
places_none n old h = All-weaker (λ i. i < n) (λ i. i < n + 1) (λ i l. omega (arith, l)) old h

pub places_one : (n : ℕ) (old new : List ℕ) → new ≡ old ++ n ∷ [] → All (λ i. i < n) old → All (λ i. i < n + 1) new
places_one n old new e h = All-same (λ i. i < n + 1) new (old ++ n ∷ []) e (All-push (λ i. i < n + 1) old n (places_none n old h) (omega arith))

-- ---- one key more

pub or_swapped : (a b : Bool) → cond a true b ≡ (b || a)
or_swapped true true = refl
or_swapped true false = refl
or_swapped false true = refl
or_swapped false false = refl

module _ (keys : List Key) (seen : List Key) (i : ℕ) (k : Key) (h : i < length keys) (here : k ≡ get_or keys i no_key) (so_far : (q : Key) → list_any (is_key q) seen ≡ list_any (is_key q) (take i keys)) where
  -- a key is new exactly if it is the first of its like
  pub new_is_first : (added : Bool) → added ≡ not (list_any (is_key k) seen) → is_first keys i ≡ added
  new_is_first added e = sym (e ∙ ap not (so_far k ∙ ap (λ (z : Key). list_any (is_key z) (take i keys)) here))

  pub seen_more : (new : List Key) → ((q : Key) → list_any (is_key q) new ≡ cond (is_key k q) true (list_any (is_key q) seen)) → (q : Key) → list_any (is_key q) new ≡ list_any (is_key q) (take (i + 1) keys)
  seen_more new u q =
      u q ∙ (or_swapped (is_key k q) (list_any (is_key q) seen) ∙ (ap (λ (b : Bool). b || is_key k q) (so_far q)
      ∙ (ap (λ (b : Bool). list_any (is_key q) (take i keys) || b) (key_sym k q ∙ ap (is_key q) here) ∙ sym (list_any_more (is_key q) keys i no_key h))))

-- ---- the keys of rows

module _ {X : Type 0} (f : X → Key) (same : X → X → Bool) (agree : (a b : X) → is_key (f a) (f b) ≡ same a b) where
  any_same : (a : X) (xs : List X) → list_any (is_key (f a)) (map f xs) ≡ list_any (same a) xs
  any_same a [] = refl
  any_same a (x ∷ xs) = ap (λ (b : Bool). b || list_any (is_key (f a)) (map f xs)) (agree a x) ∙ ap (λ (b : Bool). same a x || b) (any_same a xs)

  first_of : (xs : List X) (d : X) (i : ℕ) → i < length xs → is_first (map f xs) i ≡ not (list_any (same (get_or xs i d)) (take i xs))
  first_of xs d i h =
      ap not (ap (λ (z : Key). list_any (is_key z) (take i (map f xs))) (get_or-map f xs i d no_key h)
      ∙ (ap (λ (zs : List Key). list_any (is_key (f (get_or xs i d))) zs) (take-map f i xs) ∙ any_same (get_or xs i d) (take i xs)))

  pub firsts_of : (xs : List X) (d : X) → firsts (map f xs) ≡ filter (λ i. not (list_any (same (get_or xs i d)) (take i xs))) (below (length xs))
  firsts_of xs d =
      ap (λ (n : ℕ). filter (is_first (map f xs)) (below n)) (length-map xs f)
      ∙ filter_below (is_first (map f xs)) (λ i. not (list_any (same (get_or xs i d)) (take i xs))) 0 (length xs) (λ i h. first_of xs d i (omega arith))

  pub repeats_of : (xs : List X) (d : X) → repeats (map f xs) ≡ map (λ i. not (not (list_any (same (get_or xs i d)) (take i xs)))) (below (length xs))
  repeats_of xs d =
      ap (λ (n : ℕ). map (λ i. not (is_first (map f xs) i)) (below n)) (length-map xs f)
      ∙ map_below (λ i. not (is_first (map f xs) i)) (λ i. not (not (list_any (same (get_or xs i d)) (take i xs)))) 0 (length xs) (λ i h. ap not (first_of xs d i (omega arith)))

pub first_types_by : (l : LayoutOf) → firsts (map (type_key l) l.types) ≡ first_types l
first_types_by l = firsts_of (type_key l) (are_one_type l) (λ a b. refl) l.types no_type

same_number : (n a b : ℕ) → (n + a == n + b) ≡ (a == b)
same_number n a b = elim (cases_eq a b) as (λ _. (n + a == n + b) ≡ (a == b)) [
  | inl e ↦ eq-eqb (n + a) (n + b) (omega (arith, e)) ∙ sym (eq-eqb a b e)
  | inr e ↦ ne_eqb (n + a) (n + b) (λ h. e (omega (arith, h))) ∙ sym (ne_eqb a b e)
]

pub repeated_types_by : (l : LayoutOf) → repeats (map (type_key l) l.types) ≡ repeated_types l
repeated_types_by l = repeats_of (type_key l) (are_one_type l) (λ a b. refl) l.types no_type

one_member : (l : LayoutOf) (a b : MemberRow) → is_key (member_key l a) (member_key l b) ≡ are_one_member a b
one_member l a b = ap (λ (x : Bool). x && ((label_of a.kind == label_of b.kind) && (a.name.0 == b.name.0))) (same_number (first_type l) a.owner b.owner)

pub first_members_by : (l : LayoutOf) → firsts (map (member_key l) l.members) ≡ first_members l
first_members_by l = firsts_of (member_key l) are_one_member (one_member l) l.members no_member

pub repeated_members_by : (l : LayoutOf) → repeats (map (member_key l) l.members) ≡ repeated_members l
repeated_members_by l = repeats_of (member_key l) are_one_member (one_member l) l.members no_member
