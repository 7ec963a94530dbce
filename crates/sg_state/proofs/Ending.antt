-- A unit leaves all that the scopes of a list have.
use Rattle.std.proofs.Common.{◌≡◌, ℕ, ◌+◌, ◌<◌, List, [], ◌∷◌, ◌++◌, length, take, get_or, ◌⊎◌, ◌↔◌, Bool, true, false, not, eqb, cond, inl, inr, refl, sym, ap, ◌∙◌, subst, None}
use Rattle.std.proofs.lemmas.Bool.{cases_Bool}
use Rattle.std.proofs.lemmas.List.{take_more}
use Rattle.std.proofs.lemmas.List.Elements.{Contains-append_cases, Contains-append_left, Contains-push}
use Rattle.std.specs.BTreeMap.{is_at}
use Rattle.std.specs.List.{Contains}
use Rattle.std.specs.Map.{lookup}
use Rattle.sg_base.specs.declared.scope.Scope.{Scope}
use Rattle.sg_base.specs.Graph.{Edge}
use Rattle.sg_base.specs.Scope.{scope_cmp, scope_total}
use Rattle.sg_base.proofs.Finite.{nothing_in, single}
use Rattle.sg_base.proofs.Scopes.{equal_scope, number_same, number_itself}
use Rattle.sg_state.specs.declared.part.Part.{Part}
use Rattle.sg_state.specs.declared.slot.Slot.{Slot}
use Rattle.sg_state.specs.declared.slot.Slot.TheVariants.{Given, Waits, Empty}
use Rattle.sg_state.specs.Held.{without_unit}
use Rattle.sg_state.specs.Part.{AreParts}
use Rattle.sg_state.specs.Place.{PlaceOf, HasHolder, LosesUnit}
use Rattle.sg_state.specs.Slot.{without_holder}
use Rattle.sg_state.specs.View.{ArePlaces, ChangesPlace, HoldAt, SlotAt, LeavesAll, IsKept, IsListed, seen}
use Rattle.sg_state.proofs.Changing.{changed_places}
use Rattle.sg_state.proofs.InParts.{parts_after}
use Rattle.sg_state.proofs.Keeping.{kept_after}
use Rattle.sg_state.proofs.Keyed.{found-Contains, none_there, at_changes, at_keeps}
use Rattle.sg_state.proofs.Equals.{held_by, not_of, of_not}
use Rattle.sg_state.proofs.Writing.{keys_stay, keeps_edges, same_edges, same_given, less_holds, less_data}

-- ---- the datum

waits_before : {D : Type 0} (unit v : ℕ) (x : Slot D) → without_holder unit x ≡ Waits v → (v ≡ unit → ⊥) × (x ≡ Waits v)
waits_before unit v (Given d) e = absurd (cc)
waits_before {D} unit v (Waits w) e =
    elim (cases_Bool (eqb w unit)) [
      | inl t ↦ absurd (let k = sym (ap (λ (b : Bool). let y : Slot D = cond b Empty (Waits w) in y) t) ∙ e in cc)
      | inr f ↦
          let k = sym (ap (λ (b : Bool). let y : Slot D = cond b Empty (Waits w) in y) f) ∙ e in
          ((λ s. other w v unit f (waits_one {D = D} w v k) s), k)
    ]
  where
    waits_one : {D : Type 0} (a b : ℕ) → (let x : Slot D = Waits a in x) ≡ Waits b → a ≡ b
    waits_one {D} a b e = cc

    other : (a b c : ℕ) → eqb a c ≡ false → a ≡ b → b ≡ c → ⊥
    other a b c f e s = let t : eqb a c ≡ true = subst (λ (n : ℕ). eqb a n ≡ true) (e ∙ s) (number_itself a) in cc
waits_before unit v Empty e = absurd (cc)

waits_after : {D : Type 0} (unit v : ℕ) (x : Slot D) → (v ≡ unit → ⊥) → x ≡ Waits v → without_holder unit x ≡ Waits v
waits_after {D} unit v x n e =
    rw e (elim (cases_Bool (eqb v unit)) [
      | inl t ↦ absurd (n (number_same v unit t))
      | inr f ↦ ap (λ (b : Bool). let y : Slot D = cond b Empty (Waits v) in y) f
    ])

given_before : {D : Type 0} (unit : ℕ) (d : D) (x : Slot D) → without_holder unit x ≡ Given d → x ≡ Given d
given_before unit d (Given e) h = h
given_before {D} unit d (Waits w) h =
    elim (cases_Bool (eqb w unit)) [
      | inl t ↦ absurd (let k = sym (ap (λ (b : Bool). let y : Slot D = cond b Empty (Waits w) in y) t) ∙ h in cc)
      | inr f ↦ absurd (let k = sym (ap (λ (b : Bool). let y : Slot D = cond b Empty (Waits w) in y) f) ∙ h in cc)
    ]
given_before unit d Empty h = absurd (cc)

given_after : {D : Type 0} (unit : ℕ) (d : D) (x : Slot D) → x ≡ Given d → without_holder unit x ≡ Given d
given_after unit d x e = rw e refl

-- ---- one scope after another

pub taken_more : (list : List Scope) (i : ℕ) (d : Scope) → i < length list → (x : Scope) → (Contains (take (i + 1) list) x) ↔ (Contains (take i list) x ⊎ (x ≡ get_or list i d))
taken_more list i d lt x =
    rw (take_more list i d lt) (
      (λ c. elim (Contains-append_cases (take i list) (get_or list i d ∷ []) x c) [ inl k ↦ inl k | inr k ↦ inr (single (get_or list i d) x k) ]),
      (λ h. elim h [
        | inl k ↦ Contains-append_left (take i list) (get_or list i d ∷ []) x k
        | inr e ↦ subst (λ (t : Scope). Contains (take i list ++ get_or list i d ∷ []) t) (sym e) (Contains-push (take i list) (get_or list i d))
      ]),
    )

pub leaves_none : {D : Type 0} (es : List (Scope × PlaceOf D)) (unit : ℕ) → ArePlaces es → LeavesAll es es [] unit
leaves_none es unit ok = record {
  places = ok;
  keys = refl;
  edges = λ s l t. ((λ h. h), (λ h. h));
  holds = λ s l u. ((λ h. ((λ e. nothing_in s e.1), h)), (λ h. h.1));
  given = λ s d. ((λ h. h), (λ h. h));
  waits = λ s u. ((λ h. ((λ e. nothing_in s e.1), h)), (λ h. h.1));
}

module _ {D : Type 0} (old mid new : List (Scope × PlaceOf D)) (xs ys : List Scope) (s : Scope) (unit : ℕ) (l : LeavesAll old mid xs unit) (more : (x : Scope) → (Contains ys x) ↔ (Contains xs x ⊎ (x ≡ s))) where
  -- what the unit has left in the list and at the scope, it has left in the longer list
  joins : (A B N : Type 0) (j : Scope) (v : ℕ) → ((N) ↔ (((j ≡ s) × (v ≡ unit) → ⊥) × A)) → ((A) ↔ (((v ≡ unit) × Contains xs j → ⊥) × B)) → (N) ↔ (((v ≡ unit) × Contains ys j → ⊥) × B)
  joins A B N j v f h = (
    (λ n. let a = f.0 n in let b = h.0 a.1 in ((λ e. elim ((more j).0 e.1) [ inl c ↦ b.0 (e.0, c) | inr k ↦ a.0 (k, e.0) ]), b.1)),
    (λ b. f.1 ((λ e. b.0 (e.1, (more j).1 (inr e.0))), h.1 ((λ e. b.0 (e.0, (more j).1 (inl e.1))), b.1))),
  )

  changed : ChangesPlace (λ p q. LosesUnit p q unit) mid new s → LeavesAll old new ys unit
  changed h =
      let ok : ArePlaces mid = l.places in
      let here = found-Contains scope_cmp scope_total equal_scope mid s h.0 h.2 in
      let slot : (h.1).slot ≡ without_holder unit (h.0).slot = (h.4).slot in
      record {
        places = changed_places mid s ok (λ p q. LosesUnit p q unit) new h;
        keys = keys_stay mid new [] s ok h.0 h.1 h.2 h.3 ∙ l.keys;
        edges = λ j m t.
            let k = keeps_edges mid new [] s ok h.0 h.1 h.2 h.3 (h.4).targets j m t in
            ((λ a. (l.edges j m t).0 (k.0 a)), (λ a. k.1 ((l.edges j m t).1 a)));
        holds = λ j m v. joins (HoldAt mid j m v) (HoldAt old j m v) (HoldAt new j m v) j v
            (rw h.3 (at_changes scope_cmp scope_total equal_scope mid ok.keys_rise s h.0 h.1 here (λ (y : PlaceOf D). HasHolder y m v) (λ (i : Scope). (i ≡ s) × (v ≡ unit) → ⊥)
            ((λ a. let b = ((h.4).holders m v).0 a in ((λ e. b.0 e.1), b.1)), (λ a. ((h.4).holders m v).1 ((λ e. a.0 (refl, e)), a.1))) (λ i n e. n e.0) j))
            (l.holds j m v);
        given = λ j d.
            let k : (SlotAt new j (Given d)) ↔ (SlotAt mid j (Given d)) = rw h.3 (at_keeps scope_cmp scope_total equal_scope mid ok.keys_rise s h.0 h.1 here (λ (y : PlaceOf D). y.slot ≡ Given d)
            ((λ a. given_before unit d (h.0).slot (sym slot ∙ a)), (λ a. slot ∙ given_after unit d (h.0).slot a)) j) in
            ((λ a. (l.given j d).0 (k.0 a)), (λ a. k.1 ((l.given j d).1 a)));
        waits = λ j v. joins (SlotAt mid j (Waits v)) (SlotAt old j (Waits v)) (SlotAt new j (Waits v)) j v
            (rw h.3 (at_changes scope_cmp scope_total equal_scope mid ok.keys_rise s h.0 h.1 here (λ (y : PlaceOf D). y.slot ≡ Waits v) (λ (i : Scope). (i ≡ s) × (v ≡ unit) → ⊥)
            ((λ a. let b = waits_before unit v (h.0).slot (sym slot ∙ a) in ((λ e. b.0 e.1), b.1)), (λ a. slot ∙ waits_after unit v (h.0).slot (λ e. a.0 (refl, e)) a.1)) (λ i n e. n e.0) j))
            (l.waits j v);
      }

  missed : lookup (is_at (scope_cmp s)) mid ≡ None → LeavesAll old mid ys unit
  missed none = record {
    places = l.places;
    keys = l.keys;
    edges = l.edges;
    holds = λ j m v. joins (HoldAt mid j m v) (HoldAt old j m v) (HoldAt mid j m v) j v
        ((λ a. ((λ e. none_there scope_cmp scope_total equal_scope mid s a.0 none (subst (λ (x : Scope). Contains mid (x, a.0)) e.0 a.1)), a)), (λ a. a.1)) (l.holds j m v);
    given = l.given;
    waits = λ j v. joins (SlotAt mid j (Waits v)) (SlotAt old j (Waits v)) (SlotAt mid j (Waits v)) j v
        ((λ a. ((λ e. none_there scope_cmp scope_total equal_scope mid s a.0 none (subst (λ (x : Scope). Contains mid (x, a.0)) e.0 a.1)), a)), (λ a. a.1)) (l.waits j v);
  }

  pub leaves_more : ChangesPlace (λ p q. LosesUnit p q unit) mid new s ⊎ ((lookup (is_at (scope_cmp s)) mid ≡ None) × (new ≡ mid)) → LeavesAll old new ys unit
  leaves_more h = elim h [ inl k ↦ changed k | inr k ↦ subst (λ (ns : List (Scope × PlaceOf D)). LeavesAll old ns ys unit) (sym k.1) (missed k.0) ]

-- ---- the end of a unit

module _ {D : Type 0} (es new : List (Scope × PlaceOf D)) (made : List ℕ) (lists : List (ℕ × List Scope)) (kept : IsKept es made lists) (list : List Scope) (u : ℕ) (cover : (j : Scope) → IsListed lists u j → Contains list j) (l : LeavesAll es new list u) where
  pub unit_ended : (rest : List Edge) → seen new made rest ≡ without_unit (seen es made rest) u
  unit_ended rest =
      held_by (seen new made rest) (without_unit (seen es made rest) u) l.keys
      (same_edges es new kept.places l.places l.edges)
      (same_given es new kept.places l.places l.given)
      (less_holds es new kept.places l.places (λ k. not (eqb k.unit u)) (λ j m v. (
        (λ a. let b = (l.holds j m v).0 a in (of_not (eqb v u) (λ t. let same = number_same v u t in b.0 (same, cover j (subst (λ (n : ℕ). IsListed lists n j) same (kept.row_listed j m v b.1).1))), b.1)),
        (λ a. (l.holds j m v).1 ((λ e. not_of (eqb v u) a.0 (subst (λ (n : ℕ). eqb v n ≡ true) e.0 (number_itself v))), a.1)),
      )))
      (less_data es new kept.places l.places (λ k. not (eqb k.unit u)) (λ j v. (
        (λ a. let b = (l.waits j v).0 a in (of_not (eqb v u) (λ t. let same = number_same v u t in b.0 (same, cover j (subst (λ (n : ℕ). IsListed lists n j) same (kept.datum_listed j v b.1).1))), b.1)),
        (λ a. (l.waits j v).1 ((λ e. not_of (eqb v u) a.0 (subst (λ (n : ℕ). eqb v n ≡ true) e.0 (number_itself v))), a.1)),
      )))
      refl
      refl

  pub ended_kept : IsKept new made lists
  ended_kept = kept_after es made lists kept new l.places l.keys (λ s m t e. inl ((l.edges s m t).0 e)) (λ s m v h. ((l.holds s m v).0 h).1) (λ s v h. ((l.waits s v).0 h).1)

  pub ended_parts : (key : D → ℕ) (ps : List (Part × List Scope)) → AreParts key es ps → AreParts key new ps
  ended_parts key ps parts = parts_after key es ps parts new l.edges (λ t d k. (l.given t d).1 k)
