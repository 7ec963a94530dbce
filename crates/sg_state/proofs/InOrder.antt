-- Entries of scopes in any order, and in rising order: what a look-up finds, and what a write at a scope and a new entry do.
use Rattle.std.proofs.Common.{◌≡◌, List, [], ◌∷◌, ◌++◌, ◌↔◌, Bool, true, inl, inr, refl, sym, ap, ◌∙◌, subst, map, Option, Some, None}
use Rattle.std.proofs.lemmas.Bool.{cases_Bool}
use Rattle.std.proofs.lemmas.List.Sorted.{Contains-permutation, IsPermutation-sym, IsPermutation-append_comm}
use Rattle.std.proofs.lemmas.List.{map-append}
use Rattle.std.proofs.lemmas.Map.{keys-set_value}
use Rattle.std.specs.BTreeMap.{is_at, insert_entry}
use Rattle.std.specs.Cmp.{on_total}
use Rattle.std.specs.List.{Contains}
use Rattle.std.specs.List.Sorted.{IsPermutation}
use Rattle.std.specs.Map.{lookup, set_value}
use Rattle.std.specs.Ordering.{is_eq, match_ordering, on}
use Rattle.std.specs.declared.cmp.Ordering.{Ordering}
use Rattle.std.specs.declared.cmp.Ordering.TheVariants.{Less, Equal, Greater}
use Rattle.sg_base.specs.declared.scope.Scope.{Scope}
use Rattle.sg_base.specs.List.{IsDistinct, IsRising}
use Rattle.sg_base.specs.Scope.{is_scope, scope_cmp, scope_total}
use Rattle.sg_base.specs.contracts.scope.ScopePartialEq.TheImpl as derived
use Rattle.sg_base.proofs.Finite.{Contains-head, Contains-cons, Contains-tail, Contains-map, Distinct-push}
use Rattle.sg_base.proofs.Rising.{rising_one}
use Rattle.sg_base.proofs.Rows.{equal_of}
use Rattle.sg_base.proofs.Scopes.{equal_scope, scope_itself, scope_same, same_scope}
use Rattle.sg_state.specs.declared.scope_index.ScopeIndex.{ScopeIndex}
use Rattle.sg_state.specs.ByScope.{IsIndexed}
use Rattle.sg_state.specs.Held.{put}
use Rattle.sg_state.specs.Place.{PlaceOf, IsPlace}
use Rattle.sg_state.specs.View.{PlacesOf, ChangesPlace, HasKey, in_order}
use Rattle.sg_state.proofs.ByPlace.{indexed_written}
use Rattle.sg_state.proofs.Keyed.{found-Contains, Contains-found, none_there, distinct_set, set_from, set_other, set_here}
use Rattle.sg_state.proofs.OpenLists.{keyed_rise, keyed_hold}
use Rattle.sg_state.proofs.RisingLists.{keys_rise, rises_by_keys, is_put}

-- how the code compares scopes
abbrev pub is_same : Scope → Scope → Bool
is_same = (derived.ghosts).eq

same_is : (s x : Scope) → is_same s x ≡ is_scope s x
same_is s x = refl

pub scopes_alike : (s x : Scope) → is_same s x ≡ true → s ≡ x
scopes_alike s x e = scope_same s x (sym (same_is s x) ∙ e)

pub alike_itself : (s : Scope) → is_same s s ≡ true
alike_itself s = same_is s s ∙ same_scope s s refl

same_each : (s x : Scope) → is_same s x ≡ is_at (scope_cmp s) x
same_each s x =
    elim (cases_Bool (is_same s x)) [
      | inl e ↦ e ∙ sym (subst (λ (y : Scope). is_at (scope_cmp s) y ≡ true) (scopes_alike s x e) (ap is_eq (scope_itself s)))
      | inr e ↦ elim (cases_Bool (is_at (scope_cmp s) x)) [
        | inl k ↦ let yes : is_same s x ≡ true = same_is s x ∙ same_scope s x (equal_scope s x (equal_of (scope_cmp s x) k)) in absurd (cc)
        | inr k ↦ e ∙ sym k
      ]
    ]

pub same_at : (s : Scope) → is_same s ≡ is_at (scope_cmp s)
same_at s = λ i x. same_each s x i

-- a new entry is put in its place
insert_is_put : {V : Type 0} (es : List (Scope × V)) (s : Scope) (v : V) → ((w : V) → Contains es (s, w) → ⊥) → insert_entry scope_cmp es s v ≡ put (on (λ p. p.0) scope_cmp) es (s, v)
insert_is_put [] s v new = refl
insert_is_put {V} (e ∷ es) s v new =
    by (scope_cmp s e.0) refl (insert_is_put es s v (λ w c. new w (Contains-tail e (s, w) es c)))
  where
    by : (o : Ordering) → scope_cmp s e.0 ≡ o → insert_entry scope_cmp es s v ≡ put (on (λ p. p.0) scope_cmp) es (s, v) → match_ordering o ((s, v) ∷ e ∷ es) ((e.0, v) ∷ es) (e ∷ insert_entry scope_cmp es s v) ≡ match_ordering o ((s, v) ∷ e ∷ es) (e ∷ es) (e ∷ put (on (λ p. p.0) scope_cmp) es (s, v))
    by Less h rest = refl
    by Equal h rest = absurd (new e.1 (subst (λ (t : Scope). Contains (e ∷ es) (t, e.1)) (sym (equal_scope s e.0 h)) (Contains-head e es)))
    by Greater h rest = ap (λ (l : List (Scope × V)). e ∷ l) rest

module _ {V : Type 0} (es : List (Scope × V)) (once : IsDistinct (map (λ p. p.0) es)) where
  rise : IsRising (on (λ p. p.0) scope_cmp) (in_order es)
  rise = keyed_rise scope_cmp scope_total equal_scope (λ p. p.0) es once

  pub order_rises : IsRising scope_cmp (map (λ p. p.0) (in_order es))
  order_rises = keys_rise scope_cmp (in_order es) rise

  pub order_holds : (q : Scope × V) → (Contains (in_order es) q) ↔ (Contains es q)
  order_holds q = keyed_hold scope_cmp scope_total equal_scope (λ p. p.0) es once q

  -- what is found does not depend on the order
  pub found_in_order : (s : Scope) → lookup (is_at (scope_cmp s)) (in_order es) ≡ lookup (is_at (scope_cmp s)) es
  found_in_order s =
      by (lookup (is_at (scope_cmp s)) es) (lookup (is_at (scope_cmp s)) (in_order es)) refl refl
    where
      by : (o p : Option V) → lookup (is_at (scope_cmp s)) es ≡ o → lookup (is_at (scope_cmp s)) (in_order es) ≡ p → p ≡ o
      by None None h k = refl
      by None (Some w) h k = absurd (none_there scope_cmp scope_total equal_scope es s w h ((order_holds (s, w)).0 (found-Contains scope_cmp scope_total equal_scope (in_order es) s w k)))
      by (Some v) p h k = sym k ∙ Contains-found scope_cmp scope_total equal_scope (in_order es) order_rises s v ((order_holds (s, v)).1 (found-Contains scope_cmp scope_total equal_scope es s v h))

  -- a write at a scope
  pub set_in_order : (s : Scope) (v w : V) → lookup (is_at (scope_cmp s)) es ≡ Some v → in_order (set_value (is_at (scope_cmp s)) es w) ≡ set_value (is_at (scope_cmp s)) (in_order es) w
  set_in_order s v w here =
      rising_one (on (λ p. p.0) scope_cmp) (on_total (λ p. p.0) scope_total) (in_order new) (set_value at (in_order es) w)
      (keyed_rise scope_cmp scope_total equal_scope (λ p. p.0) new alone)
      (rises_by_keys scope_cmp (set_value at (in_order es) w) (subst (IsRising scope_cmp) (sym (keys-set_value at (in_order es) w)) order_rises))
      (λ q. (
        (λ c. elim (distinct_set scope_cmp scope_total equal_scope es once s w q.0 q.1 ((keyed_hold scope_cmp scope_total equal_scope (λ p. p.0) new alone q).0 c)) [
          | inl h ↦ set_other scope_cmp scope_total equal_scope (in_order es) s w q.0 q.1 h.0 ((order_holds q).1 h.1)
          | inr h ↦ there (set_value at (in_order es) w) q h (set_here scope_cmp scope_total equal_scope (in_order es) s v w ((order_holds (s, v)).1 old))
        ]),
        (λ c. (keyed_hold scope_cmp scope_total equal_scope (λ p. p.0) new alone q).1 (elim (set_from scope_cmp scope_total equal_scope (in_order es) order_rises s w q.0 q.1 c) [
          | inl h ↦ set_other scope_cmp scope_total equal_scope es s w q.0 q.1 h.0 ((order_holds q).0 h.1)
          | inr h ↦ there new q h (set_here scope_cmp scope_total equal_scope es s v w old)
        ])),
      ))
    where
      at : Scope → Bool
      at = is_at (scope_cmp s)

      new : List (Scope × V)
      new = set_value at es w

      alone : IsDistinct (map (λ p. p.0) new)
      alone = subst (λ (ks : List Scope). IsDistinct ks) (sym (keys-set_value at es w)) once

      old : Contains es (s, v)
      old = found-Contains scope_cmp scope_total equal_scope es s v here

      there : (l : List (Scope × V)) (q : Scope × V) → (q.0 ≡ s) × (q.1 ≡ w) → Contains l (s, w) → Contains l q
      there l q h c = subst (λ (x : V). Contains l (q.0, x)) (sym h.1) (subst (λ (t : Scope). Contains l (t, w)) (sym h.0) c)

  -- a new entry
  module _ (fs : List (Scope × V)) (apart : IsDistinct (map (λ p. p.0) fs)) (s : Scope) (v : V) (new : (w : V) → Contains (in_order es) (s, w) → ⊥) (more : IsPermutation ((s, v) ∷ es) fs) where
    alone : (q : Scope × V) → Contains (in_order es) q → on (λ p. p.0) scope_cmp (s, v) q ≡ Equal → (s, v) ≡ q
    alone q c h = absurd (new q.1 (subst (λ (t : Scope). Contains (in_order es) (t, q.1)) (sym (equal_scope s q.0 h)) c))

    pub insert_in_order : in_order fs ≡ insert_entry scope_cmp (in_order es) s v
    insert_in_order =
        is_put (on (λ p. p.0) scope_cmp) (on_total (λ p. p.0) scope_total) (in_order es) (in_order fs) (s, v) alone rise (keyed_rise scope_cmp scope_total equal_scope (λ p. p.0) fs apart)
        (λ q. (
          (λ c. elim (Contains-cons (s, v) q es (Contains-permutation fs ((s, v) ∷ es) q (IsPermutation-sym ((s, v) ∷ es) fs more) ((keyed_hold scope_cmp scope_total equal_scope (λ p. p.0) fs apart q).0 c))) [
            | inl h ↦ inr h
            | inr m ↦ inl ((order_holds q).1 m)
          ]),
          (λ h. (keyed_hold scope_cmp scope_total equal_scope (λ p. p.0) fs apart q).1 (Contains-permutation ((s, v) ∷ es) fs q more (elim h [
            | inl c ↦ Contains-tail (s, v) q es ((order_holds q).0 c)
            | inr k ↦ subst (λ (x : Scope × V). Contains ((s, v) ∷ es) x) (sym k) (Contains-head (s, v) es)
          ]))),
        ))
        ∙ sym (insert_is_put (in_order es) s v new)

-- ---- places in any order

module _ {D : Type 0} (es : List (Scope × PlaceOf D)) (once : IsDistinct (map (λ p. p.0) es)) (m : PlacesOf D) (seen : (let v : PlacesOf D = record { entries = in_order es } in v) ≡ m) (s : Scope) where
  pub place_here : (o : Option (PlaceOf D)) → o ≡ lookup (is_same s) es → lookup (is_at (scope_cmp s)) m.entries ≡ o
  place_here o h =
      subst (λ (v : PlacesOf D). lookup (is_at (scope_cmp s)) v.entries ≡ o) seen (found_in_order es once s ∙ ap (λ (t : Scope → Bool). lookup t es) (sym (same_at s)) ∙ sym h)

  pub entries_held : (q : Scope × PlaceOf D) → (Contains es q) ↔ (Contains m.entries q)
  entries_held q = subst (λ (v : PlacesOf D). (Contains es q) ↔ (Contains v.entries q)) seen ((λ c. (order_holds es once q).1 c), (λ c. (order_holds es once q).0 c))

  -- the index has the scopes of what is written too
  pub kept_by_place : (i : ScopeIndex) (q : PlaceOf D) → IsIndexed i es → IsDistinct (map (λ p. p.0) (set_value (is_scope s) es q)) × IsIndexed i (set_value (is_scope s) es q)
  kept_by_place i q ok = (
    subst (λ (ks : List Scope). IsDistinct ks) (sym (keys-set_value (is_scope s) es q)) once,
    indexed_written i es ok s q,
  )

  module _ (p q : PlaceOf D) (here : Some p ≡ lookup (is_same s) es) (fs : List (Scope × PlaceOf D)) (new : fs ≡ set_value (is_same s) es q) where
    pub place_written : in_order fs ≡ set_value (is_at (scope_cmp s)) m.entries q
    place_written =
        ap in_order (new ∙ ap (λ (t : Scope → Bool). set_value t es q) (same_at s))
        ∙ set_in_order es once s p q (ap (λ (t : Scope → Bool). lookup t es) (sym (same_at s)) ∙ sym here)
        ∙ ap (λ (v : PlacesOf D). set_value (is_at (scope_cmp s)) v.entries q) seen

    pub place_changes : (R : PlaceOf D → PlaceOf D → Type 0) → R p q → IsPlace q → ChangesPlace R m.entries (in_order fs) s
    place_changes R r ok = (p, q, place_here (Some p) here, place_written, r, ok)

  -- a scope that is not there is added behind the others
  module _ (absent : HasKey m.entries s → ⊥) (v : PlaceOf D) where
    pub none_here : lookup (is_scope s) es ≡ None
    none_here =
        by (lookup (is_scope s) es) refl
      where
        by : (o : Option (PlaceOf D)) → o ≡ lookup (is_scope s) es → o ≡ None
        by None h = refl
        by (Some w) h = absurd (absent (w, found-Contains scope_cmp scope_total equal_scope m.entries s w (place_here (Some w) h)))

    pub once_more : IsDistinct (map (λ p. p.0) (es ++ (s, v) ∷ []))
    once_more =
        rw (map-append (λ (p : Scope × PlaceOf D). p.0) es ((s, v) ∷ []))
        (Distinct-push (map (λ (p : Scope × PlaceOf D). p.0) es) s once (λ c.
        let k = Contains-map (λ (p : Scope × PlaceOf D). p.0) es s c in
        absent ((k.0).1, subst (λ (t : Scope). Contains m.entries (t, (k.0).1)) (sym k.2) ((entries_held k.0).0 k.1))))

    pub place_added : in_order (es ++ (s, v) ∷ []) ≡ insert_entry scope_cmp m.entries s v
    place_added =
        insert_in_order es once (es ++ (s, v) ∷ []) once_more s v (λ w c. absent (w, subst (λ (x : PlacesOf D). Contains x.entries (s, w)) seen c)) (IsPermutation-append_comm ((s, v) ∷ []) es)
        ∙ ap (λ (x : PlacesOf D). insert_entry scope_cmp x.entries s v) seen
