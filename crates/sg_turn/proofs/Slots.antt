-- The one slot, as a seat has it.
use Rattle.std.proofs.Common.{◌≡◌, ℕ, List, [], ◌∷◌, sym, refl, ap, ◌∙◌, subst}
use Rattle.std.specs.Prelude.{Option, Some, None, IsSome}
use Rattle.atomic_table.specs.Table.{Me, rest}
use Rattle.sg_turn.specs.declared.stage.Stage.TheVariants.{Drawn, Inside}
use Rattle.sg_turn.specs.declared.view.View.{View}
use Rattle.sg_turn.specs.Entries.{Begins, told_by}
use Rattle.sg_turn.specs.Steps.{Takes, Ends}

module _ {S : Type 0} where
  slot_of : List (ℕ × Option S) → Option S
  slot_of [] = None
  slot_of (c ∷ cs) = c.1

  pub same_slot : (x y : S) → ◌≡◌ {A = List (ℕ × Option S)} ((0, Some x) ∷ []) ((0, Some y) ∷ []) → x ≡ y
  unfolding slot_of
  same_slot x y e = let f : Some x ≡ Some y = ap slot_of e in cc

  pub some_slot : (l : List (ℕ × Option S)) (x y : Option S) → l ≡ (0, x) ∷ rest l → l ≡ (0, y) ∷ [] → x ≡ y
  unfolding slot_of
  some_slot l x y a b = sym (ap slot_of a) ∙ ap slot_of b

  pub can_exchange : (l : List (ℕ × Option S)) (x : Option S) → l ≡ (0, x) ∷ [] → l ≡ (0, x) ∷ rest l
  can_exchange l x e = subst (λ (z : List (ℕ × Option S)). z ≡ (0, x) ∷ rest z) (sym e) refl

  pub is_some : (r : Option S) (x : S) → r ≡ Some x → IsSome r
  is_some r x e = subst IsSome (sym e) refl

module _ {S E R : Type 0} (entries : S → List E) (root : S → R) (teller : E → ℕ) where
  -- what was in the slot that a look took
  pub took_slot : (v : View E R) (m m' : Me (Option S) (View E R)) (t : ℕ) → m ≡ (record v { stage = Drawn t }, []) → (k : Takes entries root teller m m' t) → m'.1 ≡ (0, Some k.value) ∷ []
  took_slot v m m' t is k = k.slot ∙ ap (λ (z : Me (Option S) (View E R)). (0, Some k.value) ∷ z.1) is

  -- and then, with the value y in hand
  pub took : (v : View E R) (m m' m'' : Me (Option S) (View E R)) (t : ℕ) (y : S) → m ≡ (record v { stage = Drawn t }, []) → Takes entries root teller m m' t → m'.1 ≡ (0, Some y) ∷ rest m'.1 → m'' ≡ (m'.0, (0, None) ∷ rest m'.1)
      → (m'' ≡ (record v { stage = Inside t; seen = entries y }, (0, None) ∷ [])) × Begins v.seen (entries y) × (told_by teller v.number (entries y) ≡ v.mine) × (v.root ≡ Some (root y))
  took v m m' m'' t y is k slot last = let a = took_slot v m m' t is k in let b : Some y ≡ Some k.value = some_slot m'.1 (Some y) (Some k.value) slot a in let e : k.value ≡ y = cc in
      let view : m'.0 ≡ record v { stage = Inside t; seen = entries y } = k.view ∙ (λ i. record (is i).0 { stage = Inside t; seen = entries (e i) }) in
      let empty : rest m'.1 ≡ [] = ap rest a in (
        last ∙ (λ i. (view i, (0, None) ∷ empty i)),
        subst (λ (z : View E R × S). Begins z.0.seen (entries z.1)) (λ i. ((is i).0, e i)) k.begins,
        subst (λ (z : View E R × S). told_by teller z.0.number (entries z.1) ≡ z.0.mine) (λ i. ((is i).0, e i)) k.own,
        subst (λ (z : View E R × S). z.0.root ≡ Some (root z.1)) (λ i. ((is i).0, e i)) k.rooted,
      )

  pub gave : (me me' me'' : Me (Option S) (View E R)) (x : S) → me.1 ≡ (0, None) ∷ [] → me' ≡ (me.0, (0, Some x) ∷ rest me.1) → ((y : S) → me'.1 ≡ (0, Some y) ∷ [] → (me''.1 ≡ []) × Ends me'.0 (entries y) me''.0) → (me''.1 ≡ []) × Ends me.0 (entries x) me''.0
  gave me me' me'' x holds after told = let t = told x (ap (λ (z : Me (Option S) (View E R)). z.1) after ∙ ap (λ (z : List (ℕ × Option S)). (0, Some x) ∷ rest z) holds) in
      (t.0, subst (λ (z : Me (Option S) (View E R)). Ends z.0 (entries x) me''.0) after t.1)

  pub looked_stage : (v : View E R) (m : Me (Option S) (View E R)) (t : ℕ) → m ≡ (record v { stage = Drawn t }, []) → m.0.stage ≡ Drawn t
  looked_stage v m t is = ap (λ (z : Me (Option S) (View E R)). z.0.stage) is
