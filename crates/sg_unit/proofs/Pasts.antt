-- What a unit gave, one operation after another.
use Rattle.std.proofs.Common.{◌≡◌, ℕ, suc, ◌+◌, List, [], ◌∷◌, ◌++◌, ◌⊎◌, Option, Some, None, inl, inr, refl, sym, ap, ◌∙◌, subst, arith, append_assoc, length, length-append}
use Rattle.std.proofs.lemmas.List.Elements.{Contains-append_left}
use Rattle.std.specs.List.{Contains}
use Rattle.sg_base.proofs.Finite.{nothing_in, Contains-cons}
use Rattle.sg_unit.specs.declared.op.Op.{Op}
use Rattle.sg_unit.specs.declared.reply.Reply.{Reply}
use Rattle.sg_unit.specs.Honest.{Gave}
use Rattle.sg_unit.specs.Run.{Setting}
use Rattle.sg_unit.specs.Trace.{Past, with_last, IsHanded}
use Rattle.sg_unit.specs.Orderly.{GaveAfter, IsOrderly}

last_or : {X : Type 0} (xs : List X) → (xs ≡ []) ⊎ ((front : List X) × (x : X) × (xs ≡ front ++ x ∷ []))
last_or [] = inl refl
last_or (x ∷ xs) = inr (elim (last_or xs) [ inl e ↦ ([], x, ap (λ ys. x ∷ ys) e) | inr k ↦ (x ∷ k.0, k.1, ap (λ ys. x ∷ ys) k.2) ])

pub not_empty : {X : Type 0} (xs ys : List X) (x : X) → [] ≡ xs ++ x ∷ ys → ⊥
not_empty {X} xs ys x e =
    let empty : List X = [] in
    let none : length empty ≡ length (xs ++ x ∷ ys) = ap (λ (zs : List X). length zs) e in
    let long : length (xs ++ x ∷ ys) ≡ length xs + suc (length ys) = length-append xs (x ∷ ys) in
    omega (arith, none, long)

same_ends : {X : Type 0} (xs ys : List X) (x y : X) → xs ++ x ∷ [] ≡ ys ++ y ∷ [] → (xs ≡ ys) × (x ≡ y)
same_ends {X} [] [] x y e = (refl, (let k : x ∷ [] ≡ y ∷ [] = e in cc))
same_ends {X} [] (b ∷ ys) x y e = let k : x ∷ [] ≡ b ∷ (ys ++ y ∷ []) = e in let t : [] ≡ ys ++ y ∷ [] = cc in absurd (not_empty ys [] y t)
same_ends {X} (a ∷ xs) [] x y e = let k : a ∷ (xs ++ x ∷ []) ≡ y ∷ [] = e in let t : [] ≡ xs ++ x ∷ [] = cc in absurd (not_empty xs [] x t)
same_ends {X} (a ∷ xs) (b ∷ ys) x y e =
    let k : a ∷ (xs ++ x ∷ []) ≡ b ∷ (ys ++ y ∷ []) = e in
    let t : xs ++ x ∷ [] ≡ ys ++ y ∷ [] = cc in
    let h : a ≡ b = cc in
    let m = same_ends xs ys x y t in
    (ap (λ zs. a ∷ zs) m.0 ∙ ap (λ (i : X). i ∷ ys) h, m.1)

-- where a list holds a thing
pub split_at : {X : Type 0} (xs : List X) (x : X) → Contains xs x → (front : List X) × (behind : List X) × (xs ≡ front ++ x ∷ behind)
split_at [] x c = absurd (nothing_in x c)
split_at {X} (y ∷ xs) x c =
    elim (Contains-cons y x xs c) [
      | inl e ↦ ([], xs, ap (λ (i : X). i ∷ xs) (sym e))
      | inr m ↦ let k = split_at xs x m in (y ∷ k.0, k.1, ap (λ (l : List X). y ∷ l) k.2)
    ]

module _ {I R D P : Type 0} where
  -- what was given was given after something, which is in the past
  pub gave_after : (past : Past I R D P) (last : Option (Op I R D P)) (op : Op I R D P) → Gave past last op → (before : Past I R D P) × GaveAfter past last before op
  gave_after past last op (inl e) = (past, inl (refl, e))
  gave_after past last op (inr g) = let k = split_at past (op, g.0) g.1 in (k.0, inr (g.0, k.1, k.2))

  pub before_in : (past : Past I R D P) (last : Option (Op I R D P)) (before : Past I R D P) (op : Op I R D P) (x : Op I R D P × Reply I D P) → GaveAfter past last before op → Contains before x → Contains past x
  before_in past last before op x (inl g) c = subst (λ (l : Past I R D P). Contains l x) (sym g.0) c
  before_in past last before op x (inr g) c = subst (λ (l : Past I R D P). Contains l x) (sym g.2) (Contains-append_left before ((op, g.0) ∷ g.1) x c)

module _ {I R D P : Type 0} (May : Past I R D P → Op I R D P → Type 0) where
  pub none_is_orderly : IsOrderly May [] None
  none_is_orderly before op (inl g) = absurd (let e = g.1 in cc)
  none_is_orderly before op (inr g) = absurd (not_empty before g.1 (op, g.0) g.2)

  -- an operation that was given before the last call was given
  given_before : (past : Past I R D P) (g : Op I R D P) (w y : Reply I D P) (before behind : Past I R D P) (op : Op I R D P) → past ++ (g, w) ∷ [] ≡ before ++ (op, y) ∷ behind → GaveAfter past (Some g) before op
  given_before past g w y before behind op e =
      elim (last_or behind) [
        | inl none ↦
            let m = same_ends past before (g, w) (op, y) (e ∙ ap (λ (l : Past I R D P). before ++ (op, y) ∷ l) none) in
            inl (m.0, ap (λ (p : Op I R D P × Reply I D P). Some p.0) m.1)
        | inr k ↦
            let m = same_ends past (before ++ (op, y) ∷ k.0) (g, w) k.1 (e ∙ (ap (λ (l : Past I R D P). before ++ (op, y) ∷ l) k.2 ∙ sym (append_assoc before ((op, y) ∷ k.0) (k.1 ∷ [])))) in
            inr (y, k.0, m.0)
      ]

  was_given : (z : Setting D P) (u : ℕ) (past : Past I R D P) (given : Option (Op I R D P)) (last : Option (Reply I D P)) (y : Reply I D P) (before behind : Past I R D P) (op : Op I R D P) → IsHanded z u past given last → with_last past given last ≡ before ++ (op, y) ∷ behind → GaveAfter past given before op
  was_given z u past None last y before behind op h e = inr (y, behind, e)
  was_given z u past (Some g) None y before behind op h e = absurd h
  was_given z u past (Some g) (Some w) y before behind op h e = given_before past g w y before behind op e

  -- what is handed to the unit leaves it orderly
  pub handed_orderly : (z : Setting D P) (u : ℕ) (past : Past I R D P) (given : Option (Op I R D P)) (last : Option (Reply I D P)) → IsOrderly May past given → IsHanded z u past given last → IsOrderly May (with_last past given last) None
  handed_orderly z u past given last old h before next (inl g) = absurd (let e = g.1 in cc)
  handed_orderly z u past given last old h before next (inr g) = old before next (was_given z u past given last g.0 before g.1 next h g.2)

  -- and so does an operation that may come next
  pub next_orderly : (past : Past I R D P) (op : Op I R D P) → IsOrderly May past None → May past op → IsOrderly May past (Some op)
  next_orderly past op old may before next (inl g) =
      let same : op ≡ next = (let e = g.1 in cc) in
      subst (λ (b : Past I R D P). May b next) g.0 (subst (λ (o : Op I R D P). May past o) same may)
  next_orderly past op old may before next (inr g) = old before next (inr g)

  -- each operation of the past came after some of it
  pub each_may : (past : Past I R D P) (last : Option (Op I R D P)) → IsOrderly May past last → (op : Op I R D P) (y : Reply I D P) → Contains past (op, y) → (before : Past I R D P) × GaveAfter past last before op × May before op
  each_may past last h op y c = let k = split_at past (op, y) c in (k.0, inr (y, k.1, k.2), h k.0 op (inr (y, k.1, k.2)))

  -- an orderly unit stays so by a call whose operation may come next
  pub call_keeps_orderly : (z : Setting D P) (u : ℕ) (past : Past I R D P) (given : Option (Op I R D P)) (last : Option (Reply I D P)) (op : Op I R D P) → IsOrderly May past given → IsHanded z u past given last → May (with_last past given last) op → IsOrderly May (with_last past given last) (Some op)
  call_keeps_orderly z u past given last op old h may = next_orderly (with_last past given last) op (handed_orderly z u past given last old h) may
