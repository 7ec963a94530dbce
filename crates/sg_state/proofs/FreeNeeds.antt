-- Lists of what a unit alone holds.
use Rattle.std.proofs.Common.{◌≡◌, ℕ, zero, suc, ◌+◌, ◌<◌, ◌≤◌, List, [], ◌∷◌, ◌++◌, ◌⊎◌, ◌↔◌, true, false, eqb, IsTrue, inl, inr, refl, sym, ap, ◌∙◌, subst, length, take, get_or, arith, None, Some}
use Rattle.std.proofs.lemmas.Bool.{cases_eq}
use Rattle.std.proofs.lemmas.List.Elements.{Contains-append_cases, Contains-append_left, Contains-append_right, Contains-push}
use Rattle.std.specs.BTreeMap.{is_at}
use Rattle.std.specs.Cmp.{nat_cmp_is, nat_cmp_total}
use Rattle.std.specs.List.{Contains}
use Rattle.std.specs.Map.{lookup}
use Rattle.std.specs.Ordering.{nat_cmp}
use Rattle.std.specs.declared.cmp.Ordering.{Ordering}
use Rattle.std.specs.declared.cmp.Ordering.TheVariants.{Less, Equal}
use Rattle.sg_base.specs.declared.scope.Scope.{Scope}
use Rattle.sg_base.specs.List.{IsRising}
use Rattle.sg_base.specs.Scope.{scope_cmp, scope_total}
use Rattle.sg_base.proofs.Finite.{nothing_in, single, Contains-head, Contains-cons, Contains-tail, each_at, each_append, each_from}
use Rattle.sg_base.proofs.Scopes.{scope_itself, nat_itself, number_same, number_itself, equal_nat, equal_scope}
use Rattle.sg_state.specs.declared.part.Part.{Part}
use Rattle.sg_state.specs.declared.need.Need.{Need}
use Rattle.sg_state.specs.declared.need.Need.TheVariants.{Row, Datum}
use Rattle.sg_state.specs.declared.row.Row.{Row as RowOf}
use Rattle.sg_state.specs.declared.slot.Slot.{Slot}
use Rattle.sg_state.specs.declared.slot.Slot.TheVariants.{Given, Waits, Empty}
use Rattle.sg_state.specs.Freed.{Adds, HoldsRowAlone, IsFree, IsFreeBelow, IsFreeSlot, IsFreeRow, IsFreeDatum, holds_of}
use Rattle.sg_state.specs.Held.{HeldOf, IsHeld, HoldsRow, HoldsDatum}
use Rattle.sg_state.specs.Need.{need_cmp, HoldsAlone}
use Rattle.sg_state.specs.Part.{AreParts, rest_in}
use Rattle.sg_state.specs.Place.{PlaceOf, HasHolder, IsPlace}
use Rattle.sg_state.specs.Slot.{waits_for}
use Rattle.sg_state.specs.View.{ArePlaces, IsKept, IsListed, seen}
use Rattle.sg_state.proofs.Keeping.{held_from}
use Rattle.sg_state.proofs.Keyed.{found-Contains, none_there, one_value, at_here}
use Rattle.sg_state.proofs.Views.{less_first, less_then, hold_from, hold_to, waits_from, waits_to}

-- ---- a rising list with more behind it

pub Rising-push : {X : Type 0} (R : X → X → Ordering) (xs : List X) (y : X) → IsRising R xs → ((x : X) → Contains xs x → R x y ≡ Less) → IsRising R (xs ++ y ∷ [])
Rising-push R [] y up below = (tt, tt)
Rising-push R (x ∷ xs) y up below = (
  each_append (λ z. R x z ≡ Less) xs (y ∷ []) up.0 (below x (Contains-head x xs), tt),
  Rising-push R xs y up.1 (λ z c. below z (Contains-tail x z xs c)),
)

Rising-append : {X : Type 0} (R : X → X → Ordering) (xs ys : List X) → IsRising R xs → IsRising R ys → ((x y : X) → Contains xs x → Contains ys y → R x y ≡ Less) → IsRising R (xs ++ ys)
Rising-append R [] ys up more below = more
Rising-append R (x ∷ xs) ys up more below = (
  each_append (λ z. R x z ≡ Less) xs ys up.0 (each_from (λ z. R x z ≡ Less) ys (λ z c. below x z (Contains-head x xs) c)),
  Rising-append R xs ys up.1 more (λ z y c d. below z y (Contains-tail x z xs c) d),
)

-- what stands before a place of a rising list is less than what stands there
pub less_before : {X : Type 0} (R : X → X → Ordering) (xs : List X) (i : ℕ) (d x : X) → IsRising R xs → i < length xs → Contains (take i xs) x → R x (get_or xs i d) ≡ Less
less_before R [] i d x up lt c = absurd (omega (arith, lt))
less_before R (y ∷ ys) zero d x up lt c = absurd (nothing_in x c)
less_before {X} R (y ∷ ys) (suc i) d x up lt c =
    elim (Contains-cons y x (take i ys) c) [
      | inl e ↦ subst (λ (z : X). R z (get_or ys i d) ≡ Less) (sym e) (each_at (λ z. R y z ≡ Less) ys up.0 (get_or ys i d) (there ys i (omega (arith, lt))))
      | inr m ↦ less_before R ys i d x up.1 (omega (arith, lt)) m
    ]
  where
    there : (zs : List X) (k : ℕ) → k < length zs → Contains zs (get_or zs k d)
    there [] k l = absurd (omega (arith, l))
    there (z ∷ zs) zero l = Contains-head z zs
    there (z ∷ zs) (suc k) l = Contains-tail z (get_or zs k d) zs (there zs k (omega (arith, l)))

module _ (old mid : List Need) (P Q : Need → Type 0) where
  pub adds_none : IsRising need_cmp old → ((n : Need) → P n → ⊥) → Adds old old P
  adds_none up none = record { rises = up; exact = λ n. ((λ c. inl c), (λ h. elim h [ inl c ↦ c | inr p ↦ absurd (none n p) ])) }

  pub adds_same : Adds old mid P → ((n : Need) → (Q n) ↔ (P n)) → Adds old mid Q
  adds_same a same = record {
    rises = a.rises;
    exact = λ n. (
      (λ c. elim ((a.exact n).0 c) [ inl k ↦ inl k | inr p ↦ inr ((same n).1 p) ]),
      (λ h. (a.exact n).1 (elim h [ inl k ↦ inl k | inr q ↦ inr ((same n).0 q) ])),
    );
  }

  pub adds_push : (y : Need) → Adds old mid P → ((n : Need) → Contains mid n → need_cmp n y ≡ Less) → ((n : Need) → (Q n) ↔ (P n ⊎ (n ≡ y))) → Adds old (mid ++ y ∷ []) Q
  adds_push y a below more = record {
    rises = Rising-push need_cmp mid y a.rises below;
    exact = λ n. (
      (λ c. elim (Contains-append_cases mid (y ∷ []) n c) [
        | inl k ↦ elim ((a.exact n).0 k) [ inl m ↦ inl m | inr p ↦ inr ((more n).1 (inl p)) ]
        | inr k ↦ inr ((more n).1 (inr (single y n k)))
      ]),
      (λ h. elim h [
        | inl k ↦ Contains-append_left mid (y ∷ []) n ((a.exact n).1 (inl k))
        | inr q ↦ elim ((more n).0 q) [
          | inl p ↦ Contains-append_left mid (y ∷ []) n ((a.exact n).1 (inr p))
          | inr e ↦ subst (λ (m : Need). Contains (mid ++ y ∷ []) m) (sym e) (Contains-push mid y)
        ]
      ]),
    );
  }

pub adds_more : (old mid new : List Need) (P Q S : Need → Type 0) → Adds old mid P → Adds mid new Q → ((n : Need) → (S n) ↔ (P n ⊎ Q n)) → Adds old new S
adds_more old mid new P Q S a b both = record {
  rises = b.rises;
  exact = λ n. (
    (λ c. elim ((b.exact n).0 c) [
      | inl k ↦ elim ((a.exact n).0 k) [ inl m ↦ inl m | inr p ↦ inr ((both n).1 (inl p)) ]
      | inr q ↦ inr ((both n).1 (inr q))
    ]),
    (λ h. (b.exact n).1 (elim h [
      | inl k ↦ inl ((a.exact n).1 (inl k))
      | inr s ↦ elim ((both n).0 s) [ inl p ↦ inl ((a.exact n).1 (inr p)) | inr q ↦ inr q ]
    ])),
  );
}

pub are_free : (ns : List Need) (P : Need → Type 0) → Adds [] ns P → (n : Need) → Contains ns n → P n
are_free ns P a n c = elim ((a.exact n).0 c) [ inl m ↦ absurd (nothing_in n m) | inr f ↦ f ]

-- ---- rows and the datum of a place

module _ {D : Type 0} (p : PlaceOf D) (u : ℕ) where
  pub holders_found : IsPlace p → (l : ℕ) (r : RowOf) → lookup (is_at (nat_cmp l)) p.rows ≡ Some r → (v : ℕ) → (Contains r.holders v) ↔ (HasHolder p l v)
  holders_found ok l r here v =
      let there = found-Contains nat_cmp nat_cmp_total equal_nat p.rows l r here in (
        (λ c. (r, there, c)),
        (λ h. subst (λ (x : RowOf). Contains x.holders v) (one_value nat_cmp nat_cmp_total equal_nat p.rows ok.labels_rise l h.0 r h.1 there) h.2),
      )

  pub holders_none : (l : ℕ) → lookup (is_at (nat_cmp l)) p.rows ≡ None → (v : ℕ) → (Contains [] v) ↔ (HasHolder p l v)
  holders_none l none v = ((λ c. absurd (nothing_in v c)), (λ h. absurd (none_there nat_cmp nat_cmp_total equal_nat p.rows l h.0 none h.1)))

  none_alone : (l : ℕ) → ((v : ℕ) → (Contains [] v) ↔ (HasHolder p l v)) → HoldsRowAlone p u l → ⊥
  none_alone l same k = nothing_in u ((same u).1 k.0)

  many_alone : (l : ℕ) (x y : ℕ) (ys : List ℕ) → IsRising nat_cmp (x ∷ y ∷ ys) → ((v : ℕ) → (Contains (x ∷ y ∷ ys) v) ↔ (HasHolder p l v)) → HoldsRowAlone p u l → ⊥
  many_alone l x y ys up same k =
      let a : x ≡ u = k.1 x ((same x).0 (Contains-head x (y ∷ ys))) in
      let b : y ≡ u = k.1 y ((same y).0 (Contains-tail x y (y ∷ ys) (Contains-head y ys))) in
      let less : nat_cmp x y ≡ Less = (up.0).0 in
      let equal : nat_cmp x y ≡ Equal = rw (a, b) (nat_itself u) in
      cc

  pub one_row_alone : (l : ℕ) (xs : List ℕ) → 1 ≤ length xs → length xs < 2 → ((v : ℕ) → (Contains xs v) ↔ (HasHolder p l v)) → (IsTrue (eqb (get_or xs 0 0) u)) ↔ (HoldsRowAlone p u l)
  one_row_alone l [] least most same = absurd (omega (arith, least))
  one_row_alone l (x ∷ []) least most same = (
    (λ t. let e = number_same x u t in (subst (λ (v : ℕ). HasHolder p l v) e ((same x).0 (Contains-head x [])), (λ v k. single x v ((same v).1 k) ∙ e))),
    (λ k. subst (λ (v : ℕ). eqb x v ≡ true) (sym (single x u ((same u).1 k.0))) (number_itself x)),
  )
  one_row_alone l (x ∷ y ∷ ys) least most same = absurd (omega (arith, most))

  pub row_not_alone : (l : ℕ) (xs : List ℕ) → (length xs ≡ 1 → ⊥) → IsRising nat_cmp xs → ((v : ℕ) → (Contains xs v) ↔ (HasHolder p l v)) → (IsTrue false) ↔ (HoldsRowAlone p u l)
  row_not_alone l [] other up same = ((λ t. absurd (cc)), (λ k. absurd (none_alone l same k)))
  row_not_alone l (x ∷ []) other up same = absurd (other refl)
  row_not_alone l (x ∷ y ∷ ys) other up same = ((λ t. absurd (cc)), (λ k. absurd (many_alone l x y ys up same k)))

  module _ (s : Scope) where
    pub none_below : (n : Need) → IsFreeBelow p u s 0 n → ⊥
    none_below (Row t l) k = omega (arith, k.2)
    none_below (Datum t) k = k

    scope_one : (a b : Scope) (l m : ℕ) → Row a l ≡ Row b m → a ≡ b
    scope_one a b l m e = cc

    label_one : (a b : Scope) (l m : ℕ) → Row a l ≡ Row b m → l ≡ m
    label_one a b l m e = cc

    below : (m k : ℕ) → m < k + 1 → (m ≡ k → ⊥) → m < k
    below m k a n = omega (arith, a, n)

    lower : (m k : ℕ) → m < k → m < k + 1
    lower m k e = omega (arith, e)

    at_last : (m k : ℕ) → m ≡ k → m < k + 1
    at_last m k e = omega (arith, e)

    pub one_below : (k : ℕ) → HoldsRowAlone p u k → (n : Need) → (IsFreeBelow p u s (k + 1) n) ↔ (IsFreeBelow p u s k n ⊎ (n ≡ Row s k))
    one_below k free (Row t l) = (
      (λ a. elim (cases_eq l k) [
        | inl e ↦ inr (ap (λ (x : Scope). Row x l) a.1 ∙ ap (λ (x : ℕ). Row s x) e)
        | inr n ↦ inl (a.0, a.1, below l k a.2 n)
      ]),
      (λ b. elim b [
        | inl a ↦ (a.0, a.1, lower l k a.2)
        | inr e ↦ (subst (λ (x : ℕ). HoldsRowAlone p u x) (sym (label_one t s l k e)) free, scope_one t s l k e, at_last l k (label_one t s l k e))
      ]),
    )
    one_below k free (Datum t) = ((λ a. absurd a), (λ b. elim b [ inl a ↦ absurd a | inr e ↦ absurd (cc) ]))

    pub other_below : (k : ℕ) → (HoldsRowAlone p u k → ⊥) → (n : Need) → (IsFreeBelow p u s (k + 1) n) ↔ (IsFreeBelow p u s k n)
    other_below k none (Row t l) = (
      (λ a. elim (cases_eq l k) [
        | inl e ↦ absurd (none (subst (λ (x : ℕ). HoldsRowAlone p u x) e a.0))
        | inr n ↦ (a.0, a.1, below l k a.2 n)
      ]),
      (λ a. (a.0, a.1, lower l k a.2)),
    )
    other_below k none (Datum t) = ((λ a. absurd a), (λ a. absurd a))

    row_before : (k : ℕ) (n : Need) → IsFreeBelow p u s k n → need_cmp n (Row s k) ≡ Less
    row_before k (Row t l) a =
        less_then (scope_cmp t s) (nat_cmp l k) (subst (λ (x : Scope). scope_cmp t x ≡ Equal) a.1 (scope_itself t)) (nat_less l k a.2)
      where
        nat_less : (a b : ℕ) → a < b → nat_cmp a b ≡ Less
        nat_less a b lt = sym (nat_cmp_is a b Less lt)
    row_before k (Datum t) a = absurd a

    -- what is listed comes before the next row of the scope
    pub before_row : (k : ℕ) (old mid : List Need) → ((n : Need) → Contains old n → (l : ℕ) → need_cmp n (Row s l) ≡ Less) → Adds old mid (IsFreeBelow p u s k) → (n : Need) → Contains mid n → need_cmp n (Row s k) ≡ Less
    before_row k old mid first a n c = elim ((a.exact n).0 c) [ inl m ↦ first n m k | inr f ↦ row_before k n f ]

    abbrev Nothing : Need → Type 0
    Nothing n = ⊥

    -- the datum is listed where the unit holds it
    pub datum_added : (old : List Need) → IsRising need_cmp old → ((n : Need) → Contains old n → need_cmp n (Datum s) ≡ Less) → waits_for p.slot u ≡ true → Adds old (old ++ Datum s ∷ []) (IsFreeSlot p u s)
    datum_added old up first t =
        adds_push old old Nothing (IsFreeSlot p u s) (Datum s) (adds_none old [] Nothing Nothing up (λ n f. f)) first free
      where
        datum_one : (a b : Scope) → Datum a ≡ Datum b → a ≡ b
        datum_one a b e = cc

        free : (n : Need) → (IsFreeSlot p u s n) ↔ (Nothing n ⊎ (n ≡ Datum s))
        free (Row x l) = ((λ a. absurd a), (λ b. elim b [ inl a ↦ absurd a | inr e ↦ absurd (cc) ]))
        free (Datum x) = ((λ a. inr (ap (λ (y : Scope). Datum y) a.0)), (λ b. elim b [ inl a ↦ absurd a | inr e ↦ (datum_one x s e, t) ]))

-- whether the datum waits for the unit
waits_true : {D : Type 0} (x : Slot D) (u : ℕ) → x ≡ Waits u → waits_for x u ≡ true
waits_true {D} x u e = subst (λ (y : Slot D). waits_for y u ≡ true) (sym e) (number_itself u)

true_waits : {D : Type 0} (x : Slot D) (u : ℕ) → waits_for x u ≡ true → x ≡ Waits u
true_waits (Given d) u t = absurd (cc)
true_waits {D} (Waits v) u t = ap (λ (w : ℕ). let y : Slot D = Waits w in y) (number_same v u t)
true_waits Empty u t = absurd (cc)

one_unit : {D : Type 0} (a b : ℕ) → (let x : Slot D = Waits a in x) ≡ Waits b → a ≡ b
one_unit {D} a b e = cc

-- ---- a scope with its place

module _ {D : Type 0} (es : List (Scope × PlaceOf D)) (u : ℕ) (s : Scope) where
  module _ (ok : ArePlaces es) (p : PlaceOf D) (here : lookup (is_at (scope_cmp s)) es ≡ Some p) where
    pub place_is : IsPlace p
    place_is = each_at (λ (q : Scope × PlaceOf D). IsPlace q.1) es ok.each (s, p) (found-Contains scope_cmp scope_total equal_scope es s p here)

    there : Contains es (s, p)
    there = found-Contains scope_cmp scope_total equal_scope es s p here

    holder_here : (l v : ℕ) → HoldsRow (holds_of es) v s l → HasHolder p l v
    holder_here l v k = at_here scope_cmp scope_total equal_scope es ok.keys_rise s p p there (λ (q : PlaceOf D). HasHolder q l v) (hold_from es s l v k)

    holder_there : (l v : ℕ) → HasHolder p l v → HoldsRow (holds_of es) v s l
    holder_there l v h = hold_to es s l v (p, there, h)

    waits_here : (v : ℕ) → HoldsDatum (holds_of es) v s → p.slot ≡ Waits v
    waits_here v k = at_here scope_cmp scope_total equal_scope es ok.keys_rise s p p there (λ (q : PlaceOf D). q.slot ≡ Waits v) (waits_from es s v k)

    pub rows_free : (n : Need) → (IsFreeRow (holds_of es) u (s ∷ []) n) ↔ (IsFreeBelow p u s 16 n)
    rows_free (Row t l) = (
      (λ a.
          let e : t ≡ s = single s t (a.1).0 in
          let k = subst (λ (x : Scope). HoldsAlone (holds_of es) u (Row x l)) e a.0 in
          ((holder_here l u k.0, (λ v h. k.1 v (holder_there l v h))), e, (a.1).1)),
      (λ a. (
        subst (λ (x : Scope). HoldsAlone (holds_of es) u (Row x l)) (sym a.1) (holder_there l u (a.0).0, (λ v h. (a.0).1 v (holder_here l v h))),
        (subst (λ (x : Scope). Contains (s ∷ []) x) (sym a.1) (Contains-head s []), a.2),
      )),
    )
    rows_free (Datum t) = ((λ a. absurd a.1), (λ a. absurd a))

    pub datum_free : (n : Need) → (IsFreeDatum (holds_of es) u (s ∷ []) n) ↔ (IsFreeSlot p u s n)
    datum_free (Row t l) = ((λ a. absurd a.1), (λ a. absurd a))
    datum_free (Datum t) = (
      (λ a.
          let e : t ≡ s = single s t a.1 in
          let k = subst (λ (x : Scope). HoldsAlone (holds_of es) u (Datum x)) e a.0 in
          (e, waits_true p.slot u (waits_here u k.0))),
      (λ a.
          let w : p.slot ≡ Waits u = true_waits p.slot u a.1 in (
            subst (λ (x : Scope). HoldsAlone (holds_of es) u (Datum x)) (sym a.0) (waits_to es s u (p, there, w), (λ v k. one_unit {D = D} v u (sym (waits_here v k) ∙ w))),
            subst (λ (x : Scope). Contains (s ∷ []) x) (sym a.0) (Contains-head s []),
          )),
    )

  -- a scope that is not there
  module _ (none : lookup (is_at (scope_cmp s)) es ≡ None) where
    pub no_row_free : (n : Need) → IsFreeRow (holds_of es) u (s ∷ []) n → ⊥
    no_row_free (Row t l) a =
        let k = subst (λ (x : Scope). HoldsAlone (holds_of es) u (Row x l)) (single s t (a.1).0) a.0 in
        let h = hold_from es s l u k.0 in
        none_there scope_cmp scope_total equal_scope es s h.0 none h.1
    no_row_free (Datum t) a = a.1

    pub no_datum_free : (n : Need) → IsFreeDatum (holds_of es) u (s ∷ []) n → ⊥
    no_datum_free (Row t l) a = a.1
    no_datum_free (Datum t) a =
        let k = subst (λ (x : Scope). HoldsAlone (holds_of es) u (Datum x)) (single s t a.1) a.0 in
        let h = waits_from es s u k.0 in
        none_there scope_cmp scope_total equal_scope es s h.0 none h.1

-- ---- the scopes of a list

module _ {D : Type 0} (h : HeldOf D) (u : ℕ) where
  module _ (xs ys : List Scope) (s : Scope) (more : (x : Scope) → (Contains ys x) ↔ (Contains xs x ⊎ (x ≡ s))) where
    one_more : (t : Scope) → (Contains ys t) ↔ (Contains xs t ⊎ Contains (s ∷ []) t)
    one_more t = (
      (λ c. elim ((more t).0 c) [ inl k ↦ inl k | inr e ↦ inr (subst (λ (x : Scope). Contains (s ∷ []) x) (sym e) (Contains-head s [])) ]),
      (λ b. (more t).1 (elim b [ inl k ↦ inl k | inr k ↦ inr (single s t k) ])),
    )

    pub rows_more : (n : Need) → (IsFreeRow h u ys n) ↔ (IsFreeRow h u xs n ⊎ IsFreeRow h u (s ∷ []) n)
    rows_more (Row t l) = (
      (λ a. elim ((one_more t).0 (a.1).0) [ inl c ↦ inl (a.0, (c, (a.1).1)) | inr c ↦ inr (a.0, (c, (a.1).1)) ]),
      (λ b. elim b [ inl a ↦ (a.0, ((one_more t).1 (inl (a.1).0), (a.1).1)) | inr a ↦ (a.0, ((one_more t).1 (inr (a.1).0), (a.1).1)) ]),
    )
    rows_more (Datum t) = ((λ a. absurd a.1), (λ b. elim b [ inl a ↦ absurd a.1 | inr a ↦ absurd a.1 ]))

    pub data_more : (n : Need) → (IsFreeDatum h u ys n) ↔ (IsFreeDatum h u xs n ⊎ IsFreeDatum h u (s ∷ []) n)
    data_more (Row t l) = ((λ a. absurd a.1), (λ b. elim b [ inl a ↦ absurd a.1 | inr a ↦ absurd a.1 ]))
    data_more (Datum t) = (
      (λ a. elim ((one_more t).0 a.1) [ inl c ↦ inl (a.0, c) | inr c ↦ inr (a.0, c) ]),
      (λ b. elim b [ inl a ↦ (a.0, (one_more t).1 (inl a.1)) | inr a ↦ (a.0, (one_more t).1 (inr a.1)) ]),
    )

  no_rows : (n : Need) → IsFreeRow h u [] n → ⊥
  no_rows (Row t l) a = nothing_in t (a.1).0
  no_rows (Datum t) a = a.1

  no_data : (n : Need) → IsFreeDatum h u [] n → ⊥
  no_data (Row t l) a = a.1
  no_data (Datum t) a = nothing_in t a.1

  pub rows_begin : Adds [] [] (IsFreeRow h u [])
  rows_begin = adds_none [] [] (IsFreeRow h u []) (IsFreeRow h u []) tt no_rows

  pub data_begin : Adds [] [] (IsFreeDatum h u [])
  data_begin = adds_none [] [] (IsFreeDatum h u []) (IsFreeDatum h u []) tt no_data

  -- rows of the scopes before a place come before those of its scope
  pub rows_before : (list : List Scope) (i : ℕ) (d : Scope) → IsRising scope_cmp list → i < length list → (n : Need) → IsFreeRow h u (take i list) n → (l : ℕ) → need_cmp n (Row (get_or list i d) l) ≡ Less
  rows_before list i d up lt (Row t m) a l = less_first (scope_cmp t (get_or list i d)) (nat_cmp m l) (less_before scope_cmp list i d t up lt (a.1).0)
  rows_before list i d up lt (Datum t) a l = absurd a.1

  pub data_before : (list : List Scope) (i : ℕ) (d : Scope) → IsRising scope_cmp list → i < length list → (n : Need) → IsFreeDatum h u (take i list) n → need_cmp n (Datum (get_or list i d)) ≡ Less
  data_before list i d up lt (Row t m) a = absurd a.1
  data_before list i d up lt (Datum t) a = less_before scope_cmp list i d t up lt a.1

  rows_then_data : (xs : List Scope) (m n : Need) → IsFreeRow h u xs m → IsFreeDatum h u xs n → need_cmp m n ≡ Less
  rows_then_data xs (Row s l) (Row t k) a b = absurd b.1
  rows_then_data xs (Row s l) (Datum t) a b = refl
  rows_then_data xs (Datum s) n a b = absurd a.1

  -- rows, and then data
  pub both_free : (xs : List Scope) (rows unset : List Need) → Adds [] rows (IsFreeRow h u xs) → Adds [] unset (IsFreeDatum h u xs) → Adds [] (rows ++ unset) (IsFree h u xs)
  both_free xs rows unset a b = record {
    rises = Rising-append need_cmp rows unset a.rises b.rises (λ m n c d. rows_then_data xs m n (are_free rows (IsFreeRow h u xs) a m c) (are_free unset (IsFreeDatum h u xs) b n d));
    exact = λ n. (
      (λ c. inr (elim (Contains-append_cases rows unset n c) [
        | inl k ↦ inl (are_free rows (IsFreeRow h u xs) a n k)
        | inr k ↦ inr (are_free unset (IsFreeDatum h u xs) b n k)
      ])),
      (λ k. elim k [
        | inl m ↦ absurd (nothing_in n m)
        | inr f ↦ elim f [
          | inl r ↦ Contains-append_left rows unset n ((a.exact n).1 (inr r))
          | inr r ↦ Contains-append_right rows unset n ((b.exact n).1 (inr r))
        ]
      ]),
    );
  }

-- where the unit's holds are listed, what it alone holds at the listed scopes is what it alone holds
pub frees_all : {D : Type 0} (es : List (Scope × PlaceOf D)) (made : List ℕ) (lists : List (ℕ × List Scope)) → IsKept es made lists → (key : D → ℕ) (ps : List (Part × List Scope)) → AreParts key es ps → (u : ℕ) (list : List Scope) → ((s : Scope) → IsListed lists u s → Contains list s) → (new : List Need) → Adds [] new (IsFree (holds_of es) u list) → (n : Need) → (Contains new n) ↔ (HoldsAlone (seen es made (rest_in ps)) u n)
frees_all {D} es made lists kept key ps ok u list cover new a (Row s l) =
    let held : IsHeld (seen es made (rest_in ps)) = held_from es made lists kept key ps ok in (
      (λ c. elim (are_free new (IsFree (holds_of es) u list) a (Row s l) c) [ inl f ↦ f.0 | inr f ↦ absurd f.1 ]),
      (λ k. (a.exact (Row s l)).1 (inr (inl (k, (cover s (kept.row_listed s l u (hold_from es s l u k.0)).1, held.labelled u s l k.0))))),
    )
frees_all {D} es made lists kept key ps ok u list cover new a (Datum s) = (
  (λ c. elim (are_free new (IsFree (holds_of es) u list) a (Datum s) c) [ inl f ↦ absurd f.1 | inr f ↦ f.0 ]),
  (λ k. (a.exact (Datum s)).1 (inr (inr (k, cover s (kept.datum_listed s u (waits_from es s u k.0)).1)))),
)
