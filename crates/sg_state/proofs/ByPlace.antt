-- Entries by their places in a list: what is found and written at the place of a key, and what a new entry at the end does.
use Rattle.std.proofs.Common.{◌≡◌, ℕ, suc, ◌+◌, ◌<◌, List, [], ◌∷◌, ◌++◌, Bool, true, false, cond, inl, inr, refl, sym, ap, ◌∙◌, subst, length, Some, None, slice_set, slice_index_or, slice_get, Option, arith}
use Rattle.std.proofs.lemmas.Bool.{cases_Bool}
use Rattle.std.specs.List.{position, position_or_len, position_from}
use Rattle.std.proofs.lemmas.Iterator.Adapters.{position_from-zero}
use Rattle.std.specs.Map.{lookup, set_value}
use Rattle.std.proofs.lemmas.Option.{slice_get_read}
use Rattle.std.specs.Option.{option_map, IfSome, IfNone}
use Rattle.sg_base.specs.declared.scope.Scope.{Scope}
use Rattle.sg_base.specs.Scope.{is_scope}
use Rattle.sg_base.proofs.Scopes.{scope_same, same_scope}
use Rattle.sg_state.specs.declared.scope_index.ScopeIndex.{ScopeIndex}
use Rattle.sg_state.specs.ByScope.{place_in, Notes, IsIndexed, LiesAt}
use Rattle.sg_state.proofs.ShortRows.{position_found, position_missed}

one_more : (n : ℕ) → 1 + n ≡ suc n
one_more n = omega arith

module _ {K V : Type 0} (test : K → Bool) where
  -- how many entries lie before the first one whose key passes
  abbrev pub before : List (K × V) → ℕ
  before xs = position_or_len (λ p. test p.0) xs

  pub read_at : (xs : List (K × V)) → before xs < length xs → lookup test xs ≡ option_map (λ p. p.1) (slice_get xs (before xs))
  read_at [] lt = absurd (omega (arith, lt))
  read_at (p ∷ ps) lt =
      elim (cases_Bool (test p.0)) [
        | inl t ↦ rw t refl
        | inr f ↦ rw (f, one_more (before ps)) (read_at ps (let h = rw f at lt in omega (arith, h)))
      ]

  pub written_at : (xs : List (K × V)) → before xs < length xs → (w : V) (d : K × V) → slice_set xs (before xs) ((slice_index_or xs (before xs) d).0, w) ≡ set_value test xs w
  written_at [] lt w d = refl
  written_at (p ∷ ps) lt w d =
      elim (cases_Bool (test p.0)) [
        | inl t ↦ rw t refl
        | inr f ↦ rw (f, one_more (before ps)) (ap (λ (xs : List (K × V)). p ∷ xs) (written_at ps (let h = rw f at lt in omega (arith, h)) w d))
      ]

  pub none_at : (xs : List (K × V)) → (before xs < length xs → ⊥) → lookup test xs ≡ None
  none_at [] past = refl
  none_at (p ∷ ps) past =
      elim (cases_Bool (test p.0)) [
        | inl t ↦ absurd (past (rw t (omega arith)))
        | inr f ↦ rw f (none_at ps (λ lt. past (rw f (omega (arith, lt)))))
      ]

-- ---- the place of the first thing that passes

module _ {X : Type 0} (t : X → Bool) where
  pub first_new : (xs : List X) (x : X) (k : ℕ) → t x ≡ true → position_from t k xs ≡ None → position_from t k (xs ++ x ∷ []) ≡ Some (k + length xs)
  first_new [] x k here none = rw here (ap Some (omega arith))
  first_new (y ∷ ys) x k here none =
      elim (cases_Bool (t y)) [
        | inl e ↦ let h = rw e at none in absurd (cc)
        | inr f ↦ rw f (first_new ys x (k + 1) here (rw f at none) ∙ ap Some (omega arith))
      ]

  pub first_still : (xs : List X) (x : X) (k : ℕ) → t x ≡ false → position_from t k (xs ++ x ∷ []) ≡ position_from t k xs
  first_still [] x k other = rw other refl
  first_still (y ∷ ys) x k other =
      elim (cases_Bool (t y)) [
        | inl e ↦ rw e refl
        | inr f ↦ rw f (first_still ys x (k + 1) other)
      ]

pub first_none : {K V : Type 0} (t : K → Bool) (es : List (K × V)) → lookup t es ≡ None → (k : ℕ) → position_from (λ e. t e.0) k es ≡ None
first_none t [] none k = refl
first_none t (p ∷ ps) none k =
    elim (cases_Bool (t p.0)) [
      | inl e ↦ let h = rw e at none in absurd (cc)
      | inr f ↦ rw f (first_none t ps (rw f at none) (k + 1))
    ]

pub first_written : {K V : Type 0} (t u : K → Bool) (es : List (K × V)) (w : V) (k : ℕ) → position_from (λ e. t e.0) k (set_value u es w) ≡ position_from (λ e. t e.0) k es
first_written t u [] w k = refl
first_written t u (p ∷ ps) w k =
    elim (cases_Bool (u p.0)) [
      | inl a ↦ rw a refl
      | inr b ↦ rw b (ap (λ o. cond (t p.0) (Some k) o) (first_written t u ps w (k + 1)))
    ]

-- ---- the place of a key

module _ {K V : Type 0} (test : K → Bool) (es : List (K × V)) (r : Option ℕ) where
  pub lies_by : r ≡ position (λ e. test e.0) es → IfSome r (LiesAt test es)
  lies_by h = by r h
    where
      by : (o : Option ℕ) → o ≡ position (λ e. test e.0) es → IfSome o (LiesAt test es)
      by None h = tt
      by (Some at) h =
          let k = position_found (λ e. test e.0) es at (sym h) in
          rw k.0 (record {
            within = k.1;
            found = λ e read. read_at test es k.1 ∙ ap (option_map (λ q. q.1)) (slice_get_read es (length es) (before test es) e refl k.1 read);
            written = λ e w read. ap (λ (j : K). slice_set es (before test es) (j, w)) (ap (λ (q : K × V). q.0) read) ∙ written_at test es k.1 w e;
          })

  pub lies_not_by : r ≡ position (λ e. test e.0) es → IfNone r (lookup test es ≡ None)
  lies_not_by h = by r h
    where
      by : (o : Option ℕ) → o ≡ position (λ e. test e.0) es → IfNone o (lookup test es ≡ None)
      by (Some at) h = tt
      by None h = none_at test es (position_missed (λ e. test e.0) es (sym h))

-- ---- an index of scopes

module _ {V : Type 0} (i : ScopeIndex) (es : List (Scope × V)) (ok : IsIndexed i es) where
  pub lies : (s : Scope) (r : Option ℕ) → r ≡ place_in i s → IfSome r (LiesAt (is_scope s) es)
  lies s r h = lies_by (is_scope s) es r (h ∙ ok s ∙ sym (position_from-zero (λ e. is_scope s e.0) es))

  pub lies_not : (s : Scope) (r : Option ℕ) → r ≡ place_in i s → IfNone r (lookup (is_scope s) es ≡ None)
  lies_not s r h = lies_not_by (is_scope s) es r (h ∙ ok s ∙ sym (position_from-zero (λ e. is_scope s e.0) es))

  pub indexed_kept : (j : ScopeIndex) → ((t : Scope) → place_in j t ≡ place_in i t) → IsIndexed j es
  indexed_kept j same t = same t ∙ ok t

  pub indexed_written : (s : Scope) (w : V) → IsIndexed i (set_value (is_scope s) es w)
  indexed_written s w t = ok t ∙ sym (first_written (is_scope t) (is_scope s) es w 0)

  pub indexed_more : (j : ScopeIndex) (s : Scope) (v : V) → lookup (is_scope s) es ≡ None → Notes i j s (length es) → IsIndexed j (es ++ (s, v) ∷ [])
  indexed_more j s v none notes t =
      elim (cases_Bool (is_scope s t)) [
        | inl e ↦
            let same : s ≡ t = scope_same s t e in
            let free = first_none (is_scope t) es (subst (λ (x : Scope). lookup (is_scope x) es ≡ None) same none) 0 in
            let behind : Some (0 + length es) ≡ Some (length es) = ap Some (omega arith) in
            notes t ∙ ap (λ b. cond b (Some (length es)) (place_in i t)) e ∙ (sym behind ∙ sym (first_new (λ p. is_scope t p.0) es (s, v) 0 (same_scope t s (sym same)) free))
        | inr f ↦
            notes t ∙ ap (λ b. cond b (Some (length es)) (place_in i t)) f ∙ (ok t ∙ sym (first_still (λ p. is_scope t p.0) es (s, v) 0 (turned t s f)))
      ]
    where
      turned : (t s : Scope) → is_scope s t ≡ false → is_scope t s ≡ false
      turned t s f =
          elim (cases_Bool (is_scope t s)) [
            | inl e ↦ let yes : is_scope s t ≡ true = same_scope s t (sym (scope_same t s e)) in absurd (cc)
            | inr e ↦ e
          ]
