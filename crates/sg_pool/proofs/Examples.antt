-- Steps of the four small units, and of their desk.
use Rattle.std.proofs.Common.{◌≡◌, ℕ, zero, suc, ◌+◌, ◌<◌, List, [], ◌∷◌, ◌++◌, Bool, false, Option, Some, None, length, slice_index, slice_set, refl, sym, ap, ◌∙◌, subst, arith}
use Rattle.std.specs.Prelude.{All}
use Rattle.std.proofs.lemmas.List.Elements.{All-nil, All-cons}
use Rattle.sg_unit.specs.declared.entry.Entry.{Entry}
use Rattle.sg_unit.specs.declared.op.Op.{Op}
use Rattle.sg_unit.specs.declared.op.Op.TheVariants.{Fresh, AddEdge, SetDatum, CloseRow, Ask, Advance, Take, End}
use Rattle.sg_unit.specs.declared.reply.Reply.{Reply}
use Rattle.sg_unit.specs.Example.{MakerStands}
use Rattle.sg_unit.specs.Run.{RunOf, after, run_of}
use Rattle.sg_unit.specs.Trace.{Past, with_last, MayGive, IsHanded}
use Rattle.sg_unit.specs.Unit.{GoesOn}
use Rattle.sg_unit.proofs.Steps.{run_append}
use Rattle.sg_pool.specs.Example.{four_setting, made_reply, made_after, HasMade}

-- what holds of each of the four numbers
of_four : (C : ℕ → Type 0) → C 0 → C 1 → C 2 → C 3 → (u : ℕ) → u < 4 → C u
of_four C a b c d zero l = a
of_four C a b c d (suc zero) l = b
of_four C a b c d (suc (suc zero)) l = c
of_four C a b c d (suc (suc (suc zero))) l = d
of_four C a b c d (suc (suc (suc (suc u)))) l = absurd (omega (arith, l))

-- what holds at these holds at what equals them
at : {X Y : Type 0} (C : X → Y → Type 0) (a : X) (b : Y) → C a b → (x : X) (y : Y) → (x ≡ a) × (y ≡ b) → C x y
at {X} {Y} C a b c x y e = subst (λ (v : X). C v y) (sym e.0) (subst (λ (w : Y). C a w) (sym e.1) c)

-- ---- the units

module _ {I R D P : Type 0} (wants : P → D → Bool) (same : D → D → Bool) (x : R) (u : ℕ) (l : u < 4) where
  abbrev fresh_one : ℕ → Op I R D P
  fresh_one a = Fresh a false

  abbrev the_end : Op I R D P
  the_end = End x

  may_second : (a b : ℕ) (y : Reply I D P) → MayGive (four_setting wants same) u ((fresh_one a, y) ∷ []) (fresh_one b)
  may_second a b y = of_four (λ u. MayGive (four_setting wants same) u ((fresh_one a, y) ∷ []) (fresh_one b)) (refl, (refl, omega arith)) (refl, (refl, omega arith)) (refl, (refl, omega arith)) (refl, (refl, omega arith)) u l

  may_end : (a b : ℕ) (y w : Reply I D P) → MayGive (four_setting wants same) u ((fresh_one a, y) ∷ (fresh_one b, w) ∷ []) the_end
  may_end a b y w = of_four (λ u. MayGive (four_setting wants same) u ((fresh_one a, y) ∷ (fresh_one b, w) ∷ []) the_end) (refl, refl) (refl, refl) (refl, refl) (refl, refl) u l

  abbrev Makes : ℕ → Op I R D P → Option (Reply I D P) → Past I R D P → Option (Op I R D P) → Type 0
  Makes n op last past given = IsHanded (four_setting wants same) u past given last → MakerStands x (suc n) (with_last past given last) (Some op) × MayGive (four_setting wants same) u (with_last past given last) op

  second_made : (a b : ℕ) (last : Option (Reply I D P)) → Makes 1 (fresh_one b) last [] (Some (fresh_one a))
  second_made a b None hand = absurd hand
  second_made a b (Some y) hand = ((a, b, y, refl, refl), may_second a b y)

  third_made : (a b : ℕ) (y : Reply I D P) (last : Option (Reply I D P)) → Makes 2 the_end last ((fresh_one a, y) ∷ []) (Some (fresh_one b))
  third_made a b y None hand = absurd hand
  third_made a b y (Some w) hand = ((a, b, y, w, refl, refl), may_end a b y w)

  pub makes_second : (n b : ℕ) → n ≡ 1 → (last : Option (Reply I D P)) → GoesOn (four_setting wants same) u (MakerStands x n) (MakerStands x 2) last (fresh_one b)
  makes_second zero b e last past given s hand = absurd (cc)
  makes_second (suc zero) b e last past given s hand = at (Makes 1 (fresh_one b) last) [] (Some (fresh_one s.0)) (second_made s.0 b last) past given (s.1, s.2) hand
  makes_second (suc (suc n)) b e last past given s hand = absurd (cc)

  pub makes_last : (n : ℕ) → n ≡ 2 → (last : Option (Reply I D P)) → GoesOn (four_setting wants same) u (MakerStands x n) (MakerStands x 3) last the_end
  makes_last zero e last past given s hand = absurd (cc)
  makes_last (suc zero) e last past given s hand = absurd (cc)
  makes_last (suc (suc zero)) e last past given s hand = at (Makes 2 the_end last) ((fresh_one s.0, s.2) ∷ []) (Some (fresh_one s.1)) (third_made s.0 s.1 s.2 last) past given (s.3, s.4) hand
  makes_last (suc (suc (suc n))) e last past given s hand = absurd (cc)

-- ---- the desk

set_here : (xs : List ℕ) (i a : ℕ) → i < length xs → slice_index (slice_set xs i a) i ≡ a
set_here [] i a l = absurd (omega (arith, l))
set_here (x ∷ xs) zero a l = refl
set_here (x ∷ xs) (suc i) a l = set_here xs i a (omega (arith, l))

set_long : (xs : List ℕ) (i a : ℕ) → length (slice_set xs i a) ≡ length xs
set_long [] i a = refl
set_long (x ∷ xs) zero a = refl
set_long (x ∷ xs) (suc i) a = ap suc (set_long xs i a)

-- so many scopes were made by the unit
abbrev Counted : {D P : Type 0} → ℕ → ℕ → RunOf D P → Type 0
Counted u m r = (length r.held.made ≡ 4) × (slice_index r.held.made u ≡ m)

module _ {I R D P : Type 0} (wants : P → D → Bool) (same : D → D → Bool) where
  counted_after : (u m : ℕ) → u < 4 → (r : RunOf D P) (op : Op I R D P) (y : Reply I D P) → Counted u m r → made_reply u m op ≡ Some y → Counted u (made_after m op) (after r (record { unit = u; op = op; reply = y }))
  counted_after u m l r (Fresh labels datum) y h e = (set_long r.held.made u (slice_index r.held.made u + 1) ∙ h.0, set_here r.held.made u (slice_index r.held.made u + 1) (omega (arith, l, h.0)) ∙ ap (λ n. n + 1) h.1)
  counted_after u m l r (AddEdge from label to) y h e = absurd (cc)
  counted_after u m l r (SetDatum s d) y h e = absurd (cc)
  counted_after u m l r (CloseRow s k) y h e = absurd (cc)
  counted_after u m l r (Ask q) y h e = absurd (cc)
  counted_after u m l r Advance y h e = absurd (cc)
  counted_after u m l r Take y h e = absurd (cc)
  counted_after u m l r (End x) y h e = h

  pub made_one : (u m n : ℕ) → u < 4 → (mine new : List (Entry I R D P)) (op : Op I R D P) (y : Reply I D P) → HasMade wants same u m mine → made_reply u m op ≡ Some y → n ≡ made_after m op
      → new ≡ mine ++ (record { unit = u; op = op; reply = y }) ∷ [] → HasMade wants same u n new
  made_one u m n l mine new op y h e k grown =
      subst (λ es. HasMade wants same u n es) (sym grown)
      (subst (λ j. HasMade wants same u j (mine ++ (record { unit = u; op = op; reply = y }) ∷ [])) (sym k)
      (subst (λ r. Counted u (made_after m op) r) (sym (run_append _ mine ((record { unit = u; op = op; reply = y }) ∷ [])))
      (counted_after u m l (run_of (four_setting wants same) mine) op y h e)))

-- ---- lists

pub all_four : {X : Type 0} (C : X → Type 0) (a b c d : X) (xs : List X) → xs ≡ a ∷ b ∷ c ∷ d ∷ [] → C a → C b → C c → C d → All C xs
all_four C a b c d xs e h i j k = subst (λ ys. All C ys) (sym e) (All-cons C a (b ∷ c ∷ d ∷ []) h (All-cons C b (c ∷ d ∷ []) i (All-cons C c (d ∷ []) j (All-cons C d [] k (All-nil C)))))
