-- The members of each type, one member after another.
use Rattle.std.proofs.Common.{◌≡◌, ◌≢◌, inl, inr, ℕ, ◌+◌, ◌<◌, Bool, true, false, cond, List, [], ◌∷◌, ◌++◌, length, map, set, get_or, refl, sym, ap, ◌∙◌, append-nil, arith}
use Rattle.std.specs.Prelude.{◌==◌}
use Rattle.std.specs.List.{filter}
use Rattle.std.proofs.lemmas.Bool.{eq-eqb, cases_eq, ne_eqb}
use Rattle.std.proofs.lemmas.List.{length-map, map-append, get_or-map, length-set, get_or-set_same, get_or-set_other}
use Rattle.std.proofs.lemmas.List.FromFn.{fill_by_all, length-range_with_len, get_or-map-range_with_len}
use Rattle.sg_base.specs.declared.scope.Scope.{Scope}
use Rattle.jv_layout.specs.declared.rows.MemberRow.{MemberRow}
use Rattle.jv_layout.specs.Folder.{LayoutOf}
use Rattle.jv_layout.specs.Readers.{no_member, members_of_type}
use Rattle.jv_layout.specs.Rows.{owned}
use Rattle.jv_layout.specs.Scopes.{scope_at, member_scope}
use Rattle.jv_layout.specs.Skeleton.{below}
use Rattle.jv_layout.specs.Tables.{members_by_type}
use Rattle.jv_layout.proofs.Keying.{filter_one_more}

map_if : {X Y : Type 0} (f : X → Y) (b : Bool) (x : X) → map f (cond b (x ∷ []) []) ≡ cond b (f x ∷ []) []
map_if f true x = refl
map_if f false x = refl

module _ (rows : List MemberRow) (first : ℕ) where
  owned_more : (t n : ℕ) → owned rows first t (n + 1) ≡ owned rows first t n ++ cond ((get_or rows n no_member).owner == t) (scope_at (first + n) ∷ []) []
  owned_more t n =
      let p = λ (m : ℕ). (get_or rows m no_member).owner == t in
      let f = λ (m : ℕ). scope_at (first + m) in
      ap (map f) (filter_one_more p n) ∙ (map-append f (filter p (below n)) (cond (p n) (n ∷ []) []) ∙ ap (λ (z : List Scope). owned rows first t n ++ z) (map_if f (p n) n))

  pub one_more : (types n o : ℕ) (lists : List (List Scope)) (y : List Scope) → o < types → (get_or rows n no_member).owner ≡ o → lists ≡ map (λ t. owned rows first t n) (below types)
      → y ≡ get_or lists o [] ++ scope_at (first + n) ∷ [] → set lists o y ≡ map (λ t. owned rows first t (n + 1)) (below types)
  one_more types n o lists y below_types own h e = fill_by_all (λ t. owned rows first t (n + 1)) (set lists o y) types [] len each
    where
      len : length (set lists o y) ≡ types
      len = length-set lists o y ∙ (ap length h ∙ (length-map (below types) (λ t. owned rows first t n) ∙ length-range_with_len 0 types))

      was : (k : ℕ) → k < types → get_or lists k [] ≡ owned rows first k n
      was k l = ap (λ (z : List (List Scope)). get_or z k []) h ∙ get_or-map-range_with_len (λ t. owned rows first t n) 0 types k k [] l (omega arith)

      short : o < length lists
      short = omega (arith, below_types, len, length-set lists o y)

      each : (k : ℕ) → k < types → get_or (set lists o y) k [] ≡ owned rows first k (n + 1)
      each k l = elim (cases_eq k o) as (λ _. get_or (set lists o y) k [] ≡ owned rows first k (n + 1)) [
        | inl same ↦
            ap (λ (j : ℕ). get_or (set lists o y) j []) same ∙ (get_or-set_same lists o y [] short ∙ (e ∙ (ap (λ (z : List Scope). z ++ scope_at (first + n) ∷ []) (was o below_types)
            ∙ (ap (λ (b : Bool). owned rows first o n ++ cond b (scope_at (first + n) ∷ []) []) (sym (eq-eqb _ o own)) ∙ (sym (owned_more o n) ∙ ap (λ (j : ℕ). owned rows first j (n + 1)) (sym same))))))
        | inr apart ↦
            get_or-set_other lists o k y [] apart ∙ (was k l ∙ (sym (append-nil (owned rows first k n))
            ∙ (ap (λ (b : Bool). owned rows first k n ++ cond b (scope_at (first + n) ∷ []) []) (sym (not_it k apart)) ∙ sym (owned_more k n))))
      ]
        where
          not_it : (k : ℕ) → k ≢ o → ((get_or rows n no_member).owner == k) ≡ false
          not_it k apart = ne_eqb _ k (λ q. apart (sym q ∙ own))

-- the members that are kept for a type
module _ {V : Type 0} (items : V → List Scope) (l : LayoutOf) (lists : List V) (kept : map items lists ≡ members_by_type l) where
  pub length-kept : length lists ≡ length l.types
  length-kept = sym (length-map lists items) ∙ (ap length kept ∙ (length-map (below (length l.types)) (λ t. map (member_scope l) (members_of_type l t)) ∙ length-range_with_len 0 (length l.types)))

  pub kept_members : (t : ℕ) (v : V) → t < length l.types → get_or lists t v ≡ v → items v ≡ map (member_scope l) (members_of_type l t)
  kept_members t v h e =
      ap items (sym e) ∙ (sym (get_or-map items lists t v [] (omega (arith, h, length-kept))) ∙ (ap (λ (z : List (List Scope)). get_or z t []) kept
      ∙ get_or-map-range_with_len (λ t. map (member_scope l) (members_of_type l t)) 0 (length l.types) t t [] h (omega arith)))

pub length-owned : (rows : List MemberRow) (first : ℕ) {V : Type 0} (items : V → List Scope) (types n : ℕ) (lists : List V) → map items lists ≡ map (λ t. owned rows first t n) (below types) → length lists ≡ types
length-owned rows first items types n lists h =
    sym (length-map lists items) ∙ (ap length h ∙ (length-map (below types) (λ t. owned rows first t n) ∙ length-range_with_len 0 types))
