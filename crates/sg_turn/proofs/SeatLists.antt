-- What a seat keeps of those that it took back, and the seats of a lock.
use Rattle.std.proofs.Common.{◌≡◌, ℕ, zero, suc, ◌+◌, false, List, [], ◌∷◌, ◌++◌, length, sym, refl, ap, ◌∙◌, subst, arith, length-append}
use Rattle.std.specs.Prelude.{Option, All}
use Rattle.std.proofs.lemmas.List.Elements.{All-cons, All-weaker}
use Rattle.atomic_table.specs.Seated.{TableId}
use Rattle.atomic_table.proofs.Lists.{at_longer}
use Rattle.sg_turn.specs.declared.stage.Stage.{Stage}
use Rattle.sg_turn.specs.declared.stage.Stage.TheVariants.{Outside, Drawn, Inside, Spent, Joined}
use Rattle.sg_turn.specs.declared.view.View.{View}
use Rattle.sg_turn.specs.Stage.{IsFree, is_inside}
use Rattle.sg_turn.specs.View.{gathering_view}
use Rattle.sg_turn.specs.TurnSeat.{Known, known, Keeps, Sits, fresh_seat}
use Rattle.sg_turn.specs.Turn.{fresh_seats}
use Rattle.sg_turn.proofs.Lists.{same_snoc}

-- a seat outside is free, and has no slot
pub free_of : {S : Type 0} (st : Stage) (c : List (ℕ × Option S)) → Sits st c → is_inside st ≡ false → IsFree st × (◌≡◌ {A = List (ℕ × Option S)} c [])
free_of Outside c s out = (tt, s)
free_of (Drawn t) c s out = absurd s
free_of (Inside t) c s out = cc
free_of Spent c s out = (tt, s)
free_of Joined c s out = absurd s

-- there are n of them
pub length-fresh_seats : {R : Type 0} (E : Type 0) (z : TableId) (r : R) (n : ℕ) → length (fresh_seats {E = E} z r n) ≡ n
length-fresh_seats E z r zero = refl
length-fresh_seats E z r (suc n) = let a = length-append (fresh_seats {E = E} z r n) (fresh_seat z r n ∷ []) in let b = length-fresh_seats E z r n in omega arith

module _ {E R : Type 0} where
  pub keeps_more : (z : TableId) (k w : View E R) (x : Known E R) (done : List (Known E R)) → known z w ≡ x → w.kept ≡ [] → All (λ s. Keeps k s.number s.mine) done → length k.kept ≡ length done
      → All (λ s. Keeps (gathering_view k w) s.number s.mine) (x ∷ done) × (length (gathering_view k w).kept ≡ length (x ∷ done))
  keeps_more z k w x done is none old count = let a = length-append k.kept w.kept in let b = ap length none in (
    All-cons (λ s. Keeps (gathering_view k w) s.number s.mine) x done (subst (λ (s : Known E R). Keeps (gathering_view k w) s.number s.mine) is (0, refl))
        (All-weaker (λ s. Keeps k s.number s.mine) (λ s. Keeps (gathering_view k w) s.number s.mine) (λ s p. (suc p.0, at_longer k.kept w.kept p.0 (s.number, s.mine) p.1)) done old),
    omega arith,
  )

  pub fresh_more : (z : TableId) (r : R) (n m : ℕ) → m ≡ n + 1 → fresh_seats {E = E} z r m ≡ fresh_seats z r n ++ fresh_seat z r n ∷ []
  fresh_more z r n zero e = absurd (omega arith)
  fresh_more z r n (suc m) e = let f : m ≡ n = omega arith in ap (λ (k : ℕ). fresh_seats {E = E} z r k ++ fresh_seat z r k ∷ []) f

  -- the last of the new seats, and those before it
  pub fresh_seats-pop : (z : TableId) (r : R) (n : ℕ) (others : List (Known E R)) (last : Known E R) → fresh_seats z r n ≡ others ++ last ∷ [] → (n ≡ length others + 1) × (others ≡ fresh_seats z r (length others)) × (last ≡ fresh_seat z r (length others))
  fresh_seats-pop z r zero others last e = let a = ap length e in let b = length-append others (last ∷ []) in absurd (omega arith)
  fresh_seats-pop z r (suc n) others last e = let t = same_snoc (fresh_seats z r n) others (fresh_seat z r n) last e in
      let size : n ≡ length others = sym (length-fresh_seats E z r n) ∙ ap length t.0 in
      (omega arith, subst (λ (k : ℕ). others ≡ fresh_seats z r k) size (sym t.0), subst (λ (k : ℕ). last ≡ fresh_seat z r k) size (sym t.1))
