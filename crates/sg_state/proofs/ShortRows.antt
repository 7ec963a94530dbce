-- The rows of a scope in a short list: where the row of a label lies, and what a write there and a new row do.
use Rattle.std.proofs.Common.{◌≡◌, ℕ, zero, suc, ◌+◌, ◌<◌, ◌≤◌, ◌==◌, List, [], ◌∷◌, Bool, not, inl, inr, refl, sym, ap, ◌∙◌, length, Some, None, slice_set, slice_index_or, slice_get, get_or, map, nat_lt, Option, arith}
use Rattle.std.proofs.lemmas.Bool.{cases_Bool}
use Rattle.std.proofs.lemmas.Bool.Decides.{nat_tests}
use Rattle.std.specs.BTreeMap.{is_at, insert_entry}
use Rattle.std.specs.List.{insert, prefix_len, position, position_or_len}
use Rattle.std.specs.Map.{lookup, set_value}
use Rattle.std.specs.Option.{option_map}
use Rattle.std.specs.Cmp.{nat_cmp_total}
use Rattle.std.specs.List.{Contains}
use Rattle.std.specs.Ordering.{nat_cmp, match_ordering}
use Rattle.sg_base.proofs.Scopes.{equal_nat}
use Rattle.sg_state.specs.Held.{put}
use Rattle.sg_state.proofs.Keyed.{found-Contains}
use Rattle.std.specs.Option.{IfSome, IfNone}
use Rattle.std.proofs.lemmas.List.{get_or_default}
use Rattle.std.proofs.lemmas.Option.{slice_get_read, slice_get-get_or}
use Rattle.sg_state.specs.declared.row.Row.{Row}
use Rattle.sg_state.specs.declared.rows.Rows.{Rows}
use Rattle.sg_state.specs.declared.rows.Rows.TheVariants.{None as NoRow, One, Many}
use Rattle.sg_state.specs.Rows.{IsRowAt, rows_of, with_row}
use Rattle.std.specs.declared.cmp.Ordering.{Ordering}
use Rattle.std.specs.declared.cmp.Ordering.TheVariants.{Less, Equal, Greater}

one_more : (n : ℕ) → 1 + n ≡ suc n
one_more n = omega arith

-- whether a label is this one
same_test : (l m : ℕ) → is_at (nat_cmp l) m ≡ (m == l)
same_test l m = grind (arith, nat_tests)

-- ---- what is read of a list of entries

pub label_read : {V : Type 0} (es : List (ℕ × V)) (at : ℕ) (p d : ℕ × V) → p ≡ get_or es at p → at < length es → p.0 ≡ (get_or es at d).0
label_read es at p d read within = ap (λ q. q.0) (read ∙ get_or_default es at p d within)

pub row_read : {V : Type 0} (es : List (ℕ × V)) (at : ℕ) (p : ℕ × V) → p ≡ get_or es at p → at < length es → option_map (λ q. q.1) (slice_get es at) ≡ Some p.1
row_read es at p read within = ap (option_map (λ q. q.1)) (slice_get_read es (length es) at p refl within read)

-- ---- the first thing that passes a test
module _ {X : Type 0} (p : X → Bool) (xs : List X) where
  pub position_found : (at : ℕ) → position p xs ≡ Some at → (at ≡ position_or_len p xs) × (position_or_len p xs < length xs)
  position_found at h =
      elim (cases_Bool (nat_lt (position_or_len p xs) (length xs))) [
        | inl t ↦ let e = rw t at h in (cc, grind (arith, nat_tests, t))
        | inr f ↦ let e = rw f at h in absurd (cc)
      ]

  pub position_missed : position p xs ≡ None → position_or_len p xs < length xs → ⊥
  position_missed h lt =
      elim (cases_Bool (nat_lt (position_or_len p xs) (length xs))) [
        | inl t ↦ let e = rw t at h in absurd (cc)
        | inr f ↦ grind (arith, nat_tests, f, lt)
      ]

pub prefix_within : {X : Type 0} (p : X → Bool) (xs : List X) → prefix_len p xs ≤ length xs
prefix_within p [] = omega arith
prefix_within p (x ∷ xs) =
    elim (cases_Bool (p x)) [
      | inl t ↦ rw t (let h = prefix_within p xs in omega (arith, h))
      | inr f ↦ rw f (omega arith)
    ]

module _ {V : Type 0} (l : ℕ) where
  -- how many entries lie before the first one with the label
  abbrev pub before : List (ℕ × V) → ℕ
  before xs = position_or_len (λ p. p.0 == l) xs

  pub found_at : (xs : List (ℕ × V)) → before xs < length xs → lookup (is_at (nat_cmp l)) xs ≡ option_map (λ p. p.1) (slice_get xs (before xs))
  found_at [] lt = absurd (omega (arith, lt))
  found_at (p ∷ ps) lt =
      elim (cases_Bool (p.0 == l)) [
        | inl t ↦ rw (same_test l p.0, t) refl
        | inr f ↦ rw (same_test l p.0, f, one_more (before ps)) ((found_at ps (let h = rw f at lt in omega (arith, h))))
      ]

  pub written_at : (xs : List (ℕ × V)) → before xs < length xs → (w : V) (d : ℕ × V) → slice_set xs (before xs) ((slice_index_or xs (before xs) d).0, w) ≡ set_value (is_at (nat_cmp l)) xs w
  written_at [] lt w d = refl
  written_at (p ∷ ps) lt w d =
      elim (cases_Bool (p.0 == l)) [
        | inl t ↦ rw (same_test l p.0, t) refl
        | inr f ↦ rw (same_test l p.0, f, one_more (before ps)) ((ap (λ (xs : List (ℕ × V)). p ∷ xs) (written_at ps (let h = rw f at lt in omega (arith, h)) w d)))
      ]

  pub none_at : (xs : List (ℕ × V)) → (before xs < length xs → ⊥) → lookup (is_at (nat_cmp l)) xs ≡ None
  none_at [] past = refl
  none_at (p ∷ ps) past =
      elim (cases_Bool (p.0 == l)) [
        | inl t ↦ absurd (past (rw t (omega arith)))
        | inr f ↦ rw (same_test l p.0, f) (none_at ps (λ lt. past (rw f (omega (arith, lt)))))
      ]

  pub inserted : (xs : List (ℕ × V)) (w : V) → lookup (is_at (nat_cmp l)) xs ≡ None → insert xs (prefix_len (λ p. not (nat_lt l p.0)) xs) (l, w) ≡ insert_entry nat_cmp xs l w
  inserted [] w absent = refl
  inserted (p ∷ ps) w absent =
      elim (cases_Bool (p.0 == l)) [
        | inl t ↦ let e = rw (same_test l p.0, t) at absent in absurd (cc)
        | inr f ↦
            let rest = rw (same_test l p.0, f) at absent in
            elim (cases_Bool (nat_lt l p.0)) [
              | inl below ↦ let less : nat_cmp l p.0 ≡ Less = grind (arith, nat_tests, below) in rw below refl
              | inr above ↦ let more : nat_cmp l p.0 ≡ Greater = grind (arith, nat_tests, above, f) in rw (more, above, one_more (prefix_len (λ q. not (nat_lt l q.0)) ps)) ((ap (λ (xs : List (ℕ × V)). p ∷ xs) (inserted ps w rest)))
            ]
      ]

-- the labels with a new one
pub keys_put : {V : Type 0} (es : List (ℕ × V)) (l : ℕ) (w : V) → map (λ p. p.0) (insert_entry nat_cmp es l w) ≡ put nat_cmp (map (λ p. p.0) es) l
keys_put [] l w = refl
keys_put {V} (e ∷ es) l w =
    by (nat_cmp l e.0) (keys_put es l w)
  where
    by : (o : Ordering) → map (λ p. p.0) (insert_entry nat_cmp es l w) ≡ put nat_cmp (map (λ p. p.0) es) l → map (λ p. p.0) (match_ordering o ((l, w) ∷ e ∷ es) ((e.0, w) ∷ es) (e ∷ insert_entry nat_cmp es l w)) ≡ match_ordering o (l ∷ e.0 ∷ map (λ p. p.0) es) (e.0 ∷ map (λ p. p.0) es) (e.0 ∷ put nat_cmp (map (λ p. p.0) es) l)
    by Less rest = refl
    by Equal rest = refl
    by Greater rest = ap (λ (ls : List ℕ). e.0 ∷ ls) rest

-- ---- the rows of a scope

module _ (l : ℕ) (rows : List (ℕ × Row)) where
  pub row_found_at : (at : ℕ) (p : ℕ × Row) → position (λ r. r.0 == l) rows ≡ Some at → p ≡ get_or rows at p → Some p.1 ≡ lookup (is_at (nat_cmp l)) rows
  row_found_at at p h read =
      let k = position_found (λ r. r.0 == l) rows at h in
      sym (row_read rows at p read (rw (← k.0) at k.1)) ∙ sym (found_at l rows k.1 ∙ ap (λ n. option_map (λ q. q.1) (slice_get rows n)) (sym k.0))

  pub row_none_at : position (λ r. r.0 == l) rows ≡ None → lookup (is_at (nat_cmp l)) rows ≡ None
  row_none_at h = none_at l rows (position_missed (λ r. r.0 == l) rows h)

  pub row_is_none : (r : Option ℕ) → r ≡ position (λ r. r.0 == l) rows → IfNone r (lookup (is_at (nat_cmp l)) rows ≡ None)
  row_is_none (Some at) h = tt
  row_is_none None h = row_none_at (sym h)

-- a write at a place of the rows is one in their list
written_in : (rows : Rows) (at : ℕ) (w : Row) → at < length (rows_of rows) → rows_of (with_row rows at w) ≡ slice_set (rows_of rows) at ((slice_index_or (rows_of rows) at (at, w)).0, w)
written_in NoRow at w lt = refl
written_in (One p) zero w lt = refl
written_in (One p) (suc at) w lt = absurd (omega (arith, lt))
written_in (Many v) at w lt = refl

pub row_is_at : (l : ℕ) (rows : Rows) (r : Option ℕ) → r ≡ position (λ r. r.0 == l) (rows_of rows) → IfSome r (IsRowAt rows l)
row_is_at l rows (Some at) h =
    let k = position_found (λ r. r.0 == l) (rows_of rows) at (sym h) in
    rw k.0 (record {
      within = k.1;
      found = found_at l (rows_of rows) k.1;
      written = λ w. written_in rows (position_or_len (λ r. r.0 == l) (rows_of rows)) w k.1 ∙ written_at l (rows_of rows) k.1 w (position_or_len (λ r. r.0 == l) (rows_of rows), w);
    })
row_is_at l rows None h = tt

-- the label of a row that lies there has one
pub row_there : (rows : Rows) (l at : ℕ) → IsRowAt rows l at → (r : Row) × Contains (rows_of rows) (l, r)
row_there rows l at k =
    let d : ℕ × Row = (0, record { targets = []; holders = [] }) in (
      (get_or (rows_of rows) at d).1,
      found-Contains nat_cmp nat_cmp_total equal_nat (rows_of rows) l (get_or (rows_of rows) at d).1 (k.found ∙ ap (option_map (λ q. q.1)) (slice_get-get_or (rows_of rows) at d k.within)),
    )
