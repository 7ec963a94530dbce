-- The parts of a scope's rows: where they lie, and what a write at a part and a new part do.
use Rattle.std.proofs.Common.{◌≡◌, ℕ, suc, zero, ◌+◌, ◌<◌, ◌≤◌, List, [], ◌∷◌, ◌++◌, ◌⊎◌, ◌↔◌, Bool, true, false, cond, inl, inr, refl, sym, ap, ◌∙◌, subst, map, length, take, drop, Option, Some, None, arith}
use Rattle.std.proofs.lemmas.Bool.{cases_Bool}
use Rattle.std.proofs.lemmas.Iterator.Adapters.{position_from-zero}
use Rattle.std.proofs.lemmas.List.{map-append, drop-map, drop-append-le, drop_all, length-map, length-append, length-drop}
use Rattle.std.proofs.lemmas.List.Elements.{Contains-append_cases, Contains-append_left, Contains-append_right}
use Rattle.std.proofs.lemmas.Map.{keys-set_value}
use Rattle.std.specs.List.{Contains, position, position_from}
use Rattle.std.specs.Map.{lookup, set_value}
use Rattle.sg_base.specs.declared.scope.Scope.{Scope}
use Rattle.sg_base.specs.List.{IsDistinct}
use Rattle.sg_base.proofs.Finite.{nothing_in, single, Contains-head, Contains-map, Distinct-push}
use Rattle.sg_state.specs.declared.part.Part.{Part}
use Rattle.sg_state.specs.declared.scope_parts.ScopeParts.{ScopeParts}
use Rattle.sg_state.specs.Part.{AddsIn}
use Rattle.sg_state.specs.SamePart.{is_part}
use Rattle.sg_state.specs.ScopeParts.{AreScopeParts}
use Rattle.sg_state.proofs.ByHash.{parts_alike, part_itself}
use Rattle.sg_state.proofs.ByPlace.{first_new, first_still, first_none}
use Rattle.sg_state.proofs.Keyed.{not_there}

-- the first of two answers that there is
abbrev or_else : Option ℕ → Option ℕ → Option ℕ
or_else (Some at) o = Some at
or_else None o = o

pub by_keys : {K V : Type 0} (t : K → Bool) (es : List (K × V)) (k : ℕ) → position_from (λ e. t e.0) k es ≡ position_from t k (map (λ e. e.0) es)
by_keys t [] k = refl
by_keys t (e ∷ es) k = ap (λ o. cond (t e.0) (Some k) o) (by_keys t es (k + 1))

in_two : {X : Type 0} (t : X → Bool) (n : ℕ) (xs : List X) (k : ℕ) → position_from t k xs ≡ or_else (position_from t k (take n xs)) (position_from t (k + n) (drop n xs))
in_two t zero xs k = ap (λ i. position_from t i xs) (let e : k ≡ k + 0 = omega arith in e)
in_two t (suc n) [] k = refl
in_two t (suc n) (x ∷ xs) k =
    elim (cases_Bool (t x)) [
      | inl e ↦ rw e refl
      | inr f ↦ rw f (in_two t n xs (k + 1) ∙ ap (λ i. or_else (position_from t (k + 1) (take n xs)) (position_from t i (drop n xs))) (let e : k + 1 + n ≡ k + suc n = omega arith in e))
    ]

or_none : (a b : Option ℕ) → or_else a b ≡ None → b ≡ None
or_none (Some at) b h = absurd (cc)
or_none None b h = h

not_behind : {K V : Type 0} (t : K → Bool) (es : List (K × V)) → lookup t es ≡ None → position_from t 16 (drop 16 (map (λ e. e.0) es)) ≡ None
not_behind t es none =
    let ks = map (λ e. e.0) es in
    or_none (position_from t 0 (take 16 ks)) (position_from t 16 (drop 16 ks)) (sym (in_two t 16 ks 0) ∙ (sym (by_keys t es 0) ∙ first_none t es none 0))

module _ (p : ScopeParts) (ok : AreScopeParts p) (q : Part) where
  behind_is : lookup (is_part q) p.behind.entries ≡ position_from (λ e. is_part q e.0) 16 (drop 16 p.all.items)
  behind_is = ok.behind q ∙ (ap (λ ks. position_from (is_part q) 16 ks) (drop-map (λ (e : Part × List Scope). e.0) 16 p.all.items) ∙ sym (by_keys (is_part q) (drop 16 p.all.items) 16))

  whole : position (λ e. is_part q e.0) p.all.items ≡ or_else (position (λ e. is_part q e.0) (take 16 p.all.items)) (lookup (is_part q) p.behind.entries)
  whole =
      position_from-zero (λ e. is_part q e.0) p.all.items
      ∙ (in_two (λ e. is_part q e.0) 16 p.all.items 0
      ∙ (ap (λ o. or_else o (position_from (λ e. is_part q e.0) 16 (drop 16 p.all.items))) (sym (position_from-zero (λ e. is_part q e.0) (take 16 p.all.items)))
      ∙ ap (λ o. or_else (position (λ e. is_part q e.0) (take 16 p.all.items)) o) (sym behind_is)))

  pub among_few : (at : ℕ) → position (λ e. is_part q e.0) (take 16 p.all.items) ≡ Some at → Some at ≡ position (λ e. is_part q e.0) p.all.items
  among_few at h = sym (whole ∙ ap (λ o. or_else o (lookup (is_part q) p.behind.entries)) h)

  pub among_others : (o : Option ℕ) → position (λ e. is_part q e.0) (take 16 p.all.items) ≡ None → o ≡ lookup (is_part q) p.behind.entries → o ≡ position (λ e. is_part q e.0) p.all.items
  among_others o h k = k ∙ sym (whole ∙ ap (λ o. or_else o (lookup (is_part q) p.behind.entries)) h)

  pub none_behind : length p.all.items ≤ 16 → None ≡ lookup (is_part q) p.behind.entries
  none_behind short = sym (behind_is ∙ ap (λ (xs : List (Part × List Scope)). position_from (λ e. is_part q e.0) 16 xs) (drop_all 16 p.all.items short))

-- ---- a write, and a new part

module _ (p : ScopeParts) (ok : AreScopeParts p) (q : Part) (ts : List Scope) where
  pub parts_written : (n : ScopeParts) → n.all.items ≡ set_value (is_part q) p.all.items ts → n.behind.entries ≡ p.behind.entries → AreScopeParts n
  parts_written n all behind =
      let keys : map (λ e. e.0) n.all.items ≡ map (λ e. e.0) p.all.items = ap (λ (es : List (Part × List Scope)). map (λ e. e.0) es) all ∙ keys-set_value (is_part q) p.all.items ts in
      record {
        once = subst (λ (ks : List Part). IsDistinct ks) (sym keys) ok.once;
        behind = λ r. rw (keys, behind) (ok.behind r);
      }

  module _ (new : lookup (is_part q) p.all.items ≡ None) where
    absent : Contains (map (λ e. e.0) p.all.items) q → ⊥
    absent c =
        let h = Contains-map (λ (e : Part × List Scope). e.0) p.all.items q c in
        not_there is_part parts_alike part_itself p.all.items q (h.0).1 new (subst (λ (r : Part). Contains p.all.items (r, (h.0).1)) (sym h.2) h.1)

    pub parts_adds : (t : Scope) → ((x : Scope) → (Contains ts x) ↔ (Contains [] x ⊎ (x ≡ t))) → AddsIn p.all.items (p.all.items ++ (q, ts) ∷ []) q t
    parts_adds t more r x = (
      (λ h. elim (Contains-append_cases p.all.items ((q, ts) ∷ []) (r, h.0) h.1) [
        | inl c ↦ inl (h.0, c, h.2)
        | inr c ↦
            let e = single (q, ts) (r, h.0) c in
            inr (ap (λ (z : Part × List Scope). z.0) e, elim ((more x).0 (subst (λ (zs : List Scope). Contains zs x) (ap (λ (z : Part × List Scope). z.1) e) h.2)) [ inl n ↦ absurd (nothing_in x n) | inr s ↦ s ])
      ]),
      (λ s. elim s [
        | inl h ↦ (h.0, Contains-append_left p.all.items ((q, ts) ∷ []) (r, h.0) h.1, h.2)
        | inr e ↦ (ts, Contains-append_right p.all.items ((q, ts) ∷ []) (r, ts) (subst (λ (z : Part). Contains {X = Part × List Scope} ((q, ts) ∷ []) (z, ts)) (sym e.0) (Contains-head (q, ts) [])), (more x).1 (inr e.1))
      ]),
    )

    module _ (n : ScopeParts) (all : n.all.items ≡ p.all.items ++ (q, ts) ∷ []) where
      keys : map (λ e. e.0) n.all.items ≡ map (λ e. e.0) p.all.items ++ q ∷ []
      keys = ap (λ (es : List (Part × List Scope)). map (λ e. e.0) es) all ∙ map-append (λ (e : Part × List Scope). e.0) p.all.items ((q, ts) ∷ [])

      once_more : IsDistinct (map (λ e. e.0) n.all.items)
      once_more = rw keys (Distinct-push (map (λ (e : Part × List Scope). e.0) p.all.items) q ok.once absent)

      pub parts_few : length p.all.items < 16 → n.behind.entries ≡ p.behind.entries → AreScopeParts n
      parts_few short behind = record {
        once = once_more;
        behind = λ r.
            rw (keys, behind)
            (ok.behind r
            ∙ ap (λ ks. position_from (is_part r) 16 ks) (drop_all 16 (map (λ (e : Part × List Scope). e.0) p.all.items) (rw (length-map p.all.items (λ (e : Part × List Scope). e.0)) (omega (arith, short)))
            ∙ sym (drop_all 16 (map (λ (e : Part × List Scope). e.0) p.all.items ++ q ∷ []) (rw (length-append (map (λ (e : Part × List Scope). e.0) p.all.items) (q ∷ []), length-map p.all.items (λ (e : Part × List Scope). e.0)) (omega (arith, short))))));
      }

      pub parts_many : 16 ≤ length p.all.items → ((r : Part) → lookup (is_part r) n.behind.entries ≡ cond (is_part q r) (Some (length p.all.items)) (lookup (is_part r) p.behind.entries)) → AreScopeParts n
      parts_many long behind = record {
        once = once_more;
        behind = λ r.
            let ks = map (λ (e : Part × List Scope). e.0) p.all.items in
            let fits : 16 ≤ length ks = rw (length-map p.all.items (λ (e : Part × List Scope). e.0)) long in
            rw (keys, drop-append-le 16 ks (q ∷ []) fits, behind r) (by r);
      }
        where
          by : (r : Part) → cond (is_part q r) (Some (length p.all.items)) (lookup (is_part r) p.behind.entries) ≡ position_from (is_part r) 16 (drop 16 (map (λ e. e.0) p.all.items) ++ q ∷ [])
          by r =
              let ks = map (λ (e : Part × List Scope). e.0) p.all.items in
              elim (cases_Bool (is_part q r)) [
                | inl e ↦
                    let same : q ≡ r = parts_alike q r e in
                    let free : position_from (is_part r) 16 (drop 16 ks) ≡ None = not_behind (is_part r) p.all.items (subst (λ (z : Part). lookup (is_part z) p.all.items ≡ None) same new) in
                    let at : Some (16 + length (drop 16 ks)) ≡ Some (length p.all.items) = ap Some (rw (length-drop 16 ks, length-map p.all.items (λ (e : Part × List Scope). e.0)) (omega (arith, long))) in
                    rw e (sym at ∙ sym (first_new (is_part r) (drop 16 ks) q 16 (subst (λ (z : Part). is_part r z ≡ true) (sym same) (part_itself r)) free))
                | inr f ↦ rw f (ok.behind r ∙ sym (first_still (is_part r) (drop 16 ks) q 16 (turned r f)))
              ]
            where
              turned : (r : Part) → is_part q r ≡ false → is_part r q ≡ false
              turned r f =
                  elim (cases_Bool (is_part r q)) [
                    | inl e ↦ let here : is_part q r ≡ true = subst (λ (z : Part). is_part q z ≡ true) (sym (parts_alike r q e)) (part_itself q) in absurd (cc)
                    | inr e ↦ e
                  ]
