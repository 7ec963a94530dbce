-- The parts of the rows of all scopes: what a write at a scope's parts and a scope without parts do.
use Rattle.std.proofs.Common.{◌≡◌, List, [], ◌∷◌, ◌++◌, ◌⊎◌, ◌↔◌, inl, inr, refl, sym, ap, ◌∙◌, subst, map, Some, None}
use Rattle.std.proofs.lemmas.List.{map-append}
use Rattle.std.proofs.lemmas.List.Elements.{Contains-append_cases, Contains-append_left, Contains-append_right}
use Rattle.std.proofs.lemmas.Map.{keys-set_value}
use Rattle.std.specs.List.{Contains, flat_map}
use Rattle.std.specs.Map.{lookup, set_value}
use Rattle.sg_base.specs.declared.scope.Scope.{Scope}
use Rattle.sg_base.specs.List.{IsDistinct}
use Rattle.sg_base.specs.Scope.{is_scope}
use Rattle.sg_base.proofs.Finite.{nothing_in, single, Contains-head, Contains-map, Contains-flat_map, flat_map-Contains, Distinct-push}
use Rattle.sg_state.specs.declared.part.Part.{Part}
use Rattle.sg_state.specs.declared.scope_parts.ScopeParts.{ScopeParts}
use Rattle.sg_state.specs.Part.{HasIn, KeepsParts, AddsIn, LosesIn, scope_of}
use Rattle.sg_state.specs.ScopeParts.{AreScopeParts, AreOwn, parts_at}
use Rattle.sg_state.proofs.InOrder.{is_same, scopes_alike, alike_itself}
use Rattle.sg_state.proofs.Keyed.{At, found_there, not_there, one_there, written_from, held_adds, held_changes, held_keeps}

-- the parts with this target
abbrev With : Part → Scope → ScopeParts → Type 0
With p t v = HasIn v.all.items p t

-- ---- the parts of one scope

pub own_first : (v : ScopeParts) (s : Scope) (p : Part) (t : Scope) → scope_of p ≡ s → AddsIn [] v.all.items p t → (q : Part) (x : Scope) → HasIn v.all.items q x → scope_of q ≡ s
own_first v s p t at adds q x h = elim ((adds q x).0 h) [ inl e ↦ absurd (nothing_in (q, e.0) e.1) | inr e ↦ ap scope_of e.0 ∙ at ]

pub adds_first : (old : List (Part × List Scope)) (v : ScopeParts) (p : Part) (t : Scope) → old ≡ [] → AddsIn old v.all.items p t → AddsIn [] v.all.items p t
adds_first old v p t none adds = subst (λ (qs : List (Part × List Scope)). AddsIn qs v.all.items p t) none adds

-- ---- the parts of all scopes

module _ (es : List (Scope × ScopeParts)) (ok : AreOwn es) where
  -- a part is found at its scope
  pub found_at_scope : (p : Part) (t : Scope) → (HasIn (flat_map parts_at es) p t) ↔ (At es (scope_of p) (With p t))
  found_at_scope p t = (
    (λ h.
        let k = Contains-flat_map parts_at es (p, h.0) h.1 in
        let s = (k.0).0 in
        let v = (k.0).1 in
        let here : HasIn v.all.items p t = (h.0, k.2, h.2) in
        (v, subst (λ (r : Scope). Contains es (r, v)) (sym (ok.own s v p t k.1 here)) k.1, here)),
    (λ a. let h = a.2 in (h.0, flat_map-Contains parts_at es (scope_of p, a.0) (p, h.0) a.1 h.1, h.2)),
  )

module _ (es : List (Scope × ScopeParts)) (ok : AreOwn es) where
  has_at : (p : Part) (t : Scope) → (HasIn (flat_map parts_at es) p t) ↔ (At es (scope_of p) (With p t))
  has_at p t = found_at_scope es ok p t

  has_at_new : {new : List (Scope × ScopeParts)} → AreOwn new → (p : Part) (t : Scope) → (HasIn (flat_map parts_at new) p t) ↔ (At new (scope_of p) (With p t))
  has_at_new {new} own p t = found_at_scope new own p t

  pub none_at_scope : (p : Part) → lookup (is_scope (scope_of p)) es ≡ None → (t : Scope) → HasIn (flat_map parts_at es) p t → ⊥
  none_at_scope p none t h = let a = (has_at p t).0 h in not_there is_same scopes_alike alike_itself es (scope_of p) a.0 none a.1

  module _ (s : Scope) (v : ScopeParts) (here : lookup (is_scope s) es ≡ Some v) where
    there : Contains es (s, v)
    there = found_there is_same scopes_alike alike_itself es s v here

    pub are_parts : AreScopeParts v
    are_parts = ok.each s v there

    pub has_here : (p : Part) → scope_of p ≡ s → (t : Scope) → (HasIn v.all.items p t) ↔ (HasIn (flat_map parts_at es) p t)
    has_here p at t = (
      (λ h. (has_at p t).1 (v, subst (λ (r : Scope). Contains es (r, v)) (sym at) there, h)),
      (λ h.
          let a = (has_at p t).0 h in
          let same : a.0 ≡ v = one_here a.0 (subst (λ (r : Scope). Contains es (r, a.0)) at a.1) in
          subst (λ (x : ScopeParts). HasIn x.all.items p t) same a.2),
    )
      where
        one_here : (x : ScopeParts) → Contains es (s, x) → x ≡ v
        one_here x c = one_there is_same scopes_alike alike_itself es ok.once s x v c there

    module _ (w : ScopeParts) (parts : AreScopeParts w) where
      -- a write
      pub own_written : ((p : Part) (t : Scope) → HasIn w.all.items p t → scope_of p ≡ s) → AreOwn (set_value (is_scope s) es w)
      own_written own = record {
        once = subst (λ (ks : List Scope). IsDistinct ks) (sym (keys-set_value (is_scope s) es w)) ok.once;
        each = λ r x c. elim (written_from is_same scopes_alike alike_itself es ok.once s w r x c) [
          | inl o ↦ ok.each r x o.1
          | inr e ↦ subst (λ (y : ScopeParts). AreScopeParts y) (sym e.1) parts
        ];
        own = λ r x p t c h. elim (written_from is_same scopes_alike alike_itself es ok.once s w r x c) [
          | inl o ↦ ok.own r x p t o.1 h
          | inr e ↦ own p t (subst (λ (y : ScopeParts). HasIn y.all.items p t) e.1 h) ∙ sym e.0
        ];
      }

      module _ (p : Part) (t : Scope) (at : scope_of p ≡ s) where
        own_here : (q : Part) (x : Scope) → HasIn v.all.items q x → scope_of q ≡ s
        own_here q x h = ok.own s v q x there h

        pub own_adds : AddsIn v.all.items w.all.items p t → AreOwn (set_value (is_scope s) es w)
        own_adds adds = own_written (λ q x h. elim ((adds q x).0 h) [ inl o ↦ own_here q x o | inr e ↦ ap scope_of e.0 ∙ at ])

        pub own_loses : LosesIn v.all.items w.all.items p t → AreOwn (set_value (is_scope s) es w)
        own_loses loses = own_written (λ q x h. own_here q x ((loses q x).0 h).1)

        pub own_keeps : KeepsParts v.all.items w.all.items → AreOwn (set_value (is_scope s) es w)
        own_keeps keeps = own_written (λ q x h. own_here q x ((keeps q x).0 h))

        pub all_adds : AddsIn v.all.items w.all.items p t → AddsIn (flat_map parts_at es) (flat_map parts_at (set_value (is_scope s) es w)) p t
        all_adds adds q x =
            let k = held_adds is_same scopes_alike alike_itself es ok.once s v w there (With q x) ((q ≡ p) × (x ≡ t)) (adds q x) (scope_of q) in
            let new = has_at_new (own_adds adds) q x in
            let old = has_at q x in (
              (λ h. elim (k.0 (new.0 h)) [ inl a ↦ inl (old.1 a) | inr e ↦ inr e.1 ]),
              (λ c. new.1 (k.1 (elim c [ inl h ↦ inl (old.0 h) | inr e ↦ inr (ap scope_of e.0 ∙ at, e) ]))),
            )

        pub all_keeps : KeepsParts v.all.items w.all.items → KeepsParts (flat_map parts_at es) (flat_map parts_at (set_value (is_scope s) es w))
        all_keeps keeps q x =
            let k = held_keeps is_same scopes_alike alike_itself es ok.once s v w there (With q x) (keeps q x) (scope_of q) in
            let new = has_at_new (own_keeps keeps) q x in
            let old = has_at q x in
            ((λ h. old.1 (k.0 (new.0 h))), (λ h. new.1 (k.1 (old.0 h))))

        pub all_loses : LosesIn v.all.items w.all.items p t → LosesIn (flat_map parts_at es) (flat_map parts_at (set_value (is_scope s) es w)) p t
        all_loses loses q x =
            let gone : Scope → Type 0 = λ r. r ≡ s → (q ≡ p) × (x ≡ t) → ⊥ in
            let k = held_changes is_same scopes_alike alike_itself es ok.once s v w there (With q x) gone ((λ h. let l = (loses q x).0 h in ((λ e. l.0), l.1)), (λ h. (loses q x).1 (h.0 refl, h.1))) (λ r n e. absurd (n e)) (scope_of q) in
            let new = has_at_new (own_loses loses) q x in
            let old = has_at q x in (
              (λ h. let a = k.0 (new.0 h) in ((λ e. a.0 (ap scope_of e.0 ∙ at) e), old.1 a.1)),
              (λ h. new.1 (k.1 ((λ e c. h.0 c), old.0 h.1))),
            )

  -- ---- a scope that is added

  module _ (s : Scope) (none : lookup (is_scope s) es ≡ None) (w : ScopeParts) (parts : AreScopeParts w) (own : (p : Part) (t : Scope) → HasIn w.all.items p t → scope_of p ≡ s) where
    abbrev more : List (Scope × ScopeParts)
    more = es ++ (s, w) ∷ []

    at_more : (r : Scope) (x : ScopeParts) → Contains more (r, x) → Contains es (r, x) ⊎ ((r ≡ s) × (x ≡ w))
    at_more r x c =
        elim (Contains-append_cases es ((s, w) ∷ []) (r, x) c) [
          | inl o ↦ inl o
          | inr n ↦ let e = single (s, w) (r, x) n in inr (ap (λ (z : Scope × ScopeParts). z.0) e, ap (λ (z : Scope × ScopeParts). z.1) e)
        ]

    pub own_more : AreOwn more
    own_more = record {
      once =
          rw (map-append (λ (e : Scope × ScopeParts). e.0) es ((s, w) ∷ []))
          (Distinct-push (map (λ (e : Scope × ScopeParts). e.0) es) s ok.once (λ c.
          let k = Contains-map (λ (e : Scope × ScopeParts). e.0) es s c in
          not_there is_same scopes_alike alike_itself es s (k.0).1 none (subst (λ (r : Scope). Contains es (r, (k.0).1)) (sym k.2) k.1)));
      each = λ r x c. elim (at_more r x c) [
        | inl o ↦ ok.each r x o
        | inr e ↦ subst (λ (y : ScopeParts). AreScopeParts y) (sym e.1) parts
      ];
      own = λ r x p t c h. elim (at_more r x c) [
        | inl o ↦ ok.own r x p t o h
        | inr e ↦ own p t (subst (λ (y : ScopeParts). HasIn y.all.items p t) e.1 h) ∙ sym e.0
      ];
    }

    has_more : (q : Part) (x : Scope) → (HasIn (flat_map parts_at more) q x) ↔ (HasIn (flat_map parts_at es) q x ⊎ HasIn w.all.items q x)
    has_more q x = (
      (λ h.
          let a = (has_at_new own_more q x).0 h in
          elim (at_more (scope_of q) a.0 a.1) [
            | inl o ↦ inl ((has_at q x).1 (a.0, o, a.2))
            | inr e ↦ inr (subst (λ (y : ScopeParts). HasIn y.all.items q x) e.1 a.2)
          ]),
      (λ c. elim c [
        | inl h ↦ let a = (has_at q x).0 h in (has_at_new own_more q x).1 (a.0, Contains-append_left es ((s, w) ∷ []) (scope_of q, a.0) a.1, a.2)
        | inr h ↦
            let last : Contains more (s, w) = Contains-append_right es ((s, w) ∷ []) (s, w) (Contains-head (s, w) []) in
            (has_at_new own_more q x).1 (w, subst (λ (r : Scope). Contains more (r, w)) (sym (own q x h)) last, h)
      ]),
    )

    pub more_adds : (p : Part) (t : Scope) → AddsIn [] w.all.items p t → AddsIn (flat_map parts_at es) (flat_map parts_at more) p t
    more_adds p t adds q x = (
      (λ h. elim ((has_more q x).0 h) [
        | inl o ↦ inl o
        | inr n ↦ elim ((adds q x).0 n) [ inl e ↦ absurd (nothing_in (q, e.0) e.1) | inr e ↦ inr e ]
      ]),
      (λ c. (has_more q x).1 (elim c [ inl h ↦ inl h | inr e ↦ inr ((adds q x).1 (inr e)) ])),
    )
