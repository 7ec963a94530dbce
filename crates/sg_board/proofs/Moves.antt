-- Tasks that come to a worker's share, and leave it.
use Rattle.std.proofs.Common.{◌≡◌, ℕ, zero, suc, ◌+◌, ◌<◌, List, [], ◌∷◌, ◌++◌, length, map, sym, refl, ap, ◌∙◌, arith, slice_set, slice_index_or, option_to_list}
use Rattle.std.specs.Prelude.{Option, Some, None, MatchOption}
use Rattle.sg_board.specs.Weighing.{weigh, weigh_option, total, given_by, taken_by, Took, Gave, Moves}
use Rattle.sg_board.specs.Shapes.{DequeId, Shape, shape_of}
use Rattle.sg_board.specs.declared.worker_view.WorkerView.{WorkerView}
use Rattle.sg_board.proofs.Weights.{weigh-append}

pub same_shape : (d e : DequeId) (p q : ℕ) (xs ys : List DequeId) → d ≡ e → p ≡ q → xs ≡ ys → shape_of d p xs ≡ shape_of e q ys
same_shape d e p q xs ys a b c = λ i. shape_of (a i) (b i) (c i)

pub took_weight : (v w : WorkerView) (ns : List ℕ) (k : ℕ) → Took v ns k w → (h : ℕ → ℕ) → (weigh h w.taken ≡ weigh h v.taken + weigh h ns) × (weigh h w.given ≡ weigh h v.given)
took_weight v w ns k e h = (ap (λ (u : WorkerView). weigh h u.taken) e ∙ weigh-append h v.taken ns, ap (λ (u : WorkerView). weigh h u.given) e)

pub gave_weight : (v w : WorkerView) (ns : List ℕ) (k : ℕ) → Gave v ns k w → (h : ℕ → ℕ) → (weigh h w.given ≡ weigh h v.given + weigh h ns) × (weigh h w.taken ≡ weigh h v.taken)
gave_weight v w ns k e h = (ap (λ (u : WorkerView). weigh h u.given) e ∙ weigh-append h v.given ns, ap (λ (u : WorkerView). weigh h u.taken) e)

module _ {T : Type 0} (number : T → ℕ) where
  -- a task was taken, or none was there
  pub popped : (X : Type 0) (o : Option T) (v w : WorkerView) → MatchOption o ((w ≡ v) × X) (λ t. Took v (number t ∷ []) v.boards w) → (h : ℕ → ℕ) → (weigh h w.taken ≡ weigh h v.taken + weigh_option number h o) × (weigh h w.given ≡ weigh h v.given)
  popped X None v w m h = (omega (arith, ap (λ (u : WorkerView). weigh h u.taken) m.0), ap (λ (u : WorkerView). weigh h u.given) m.0)
  popped X (Some t) v w m h = let a = took_weight v w (number t ∷ []) v.boards m h in (omega (arith, a.0), a.1)

  pub popped_parts : (X : Type 0) (o : Option T) (v w : WorkerView) → MatchOption o ((w ≡ v) × X) (λ t. Took v (number t ∷ []) v.boards w) → w.parts ≡ v.parts
  popped_parts X None v w m = ap (λ (u : WorkerView). u.parts) m.0
  popped_parts X (Some t) v w m = ap (λ (u : WorkerView). u.parts) m

  pub pushed : (t : T) (v w : WorkerView) → Gave v (number t ∷ []) v.boards w → (h : ℕ → ℕ) → (weigh h w.given ≡ weigh h v.given + h (number t)) × (weigh h w.taken ≡ weigh h v.taken)
  pushed t v w m h = let a = gave_weight v w (number t ∷ []) v.boards m h in (omega (arith, a.0), a.1)

  -- a list of tasks that one leaves at the front
  pub fewer_kept : (o : Option T) (old new : List T) → old ≡ option_to_list o ++ new → (h : ℕ → ℕ) → weigh h (map number old) ≡ weigh_option number h o + weigh h (map number new)
  fewer_kept None old new e h = omega (arith, ap (λ l. weigh h (map number l)) e)
  fewer_kept (Some t) old new e h = omega (arith, ap (λ l. weigh h (map number l)) e)

  weigh_snoc : (h : ℕ → ℕ) (ts : List T) (t : T) → weigh h (map number (ts ++ t ∷ [])) ≡ weigh h (map number ts) + h (number t)
  weigh_snoc h [] t = omega arith
  weigh_snoc h (x ∷ ts) t = omega (arith, weigh_snoc h ts t)

  -- and that one joins at the back
  pub more_kept : (old new : List T) (t : T) → new ≡ old ++ t ∷ [] → (h : ℕ → ℕ) → weigh h (map number new) ≡ weigh h (map number old) + h (number t)
  more_kept old new t e h = ap (λ l. weigh h (map number l)) e ∙ weigh_snoc h old t

-- ---- another value in a list

module _ {X : Type 0} where
  pub total_map_set : (f : WorkerView → ℕ) (g : X → WorkerView) (xs : List X) (i : ℕ) (p q : X) → i < length xs → p ≡ slice_index_or xs i p → total f (map g (slice_set xs i q)) + f (g p) ≡ total f (map g xs) + f (g q)
  total_map_set f g [] i p q l e = absurd (omega (arith, l))
  total_map_set f g (x ∷ xs) zero p q l e = let k : f (g p) ≡ f (g x) = ap (λ y. f (g y)) e in omega (arith, k)
  total_map_set f g (x ∷ xs) (suc i) p q l e = omega (arith, total_map_set f g xs i p q (omega (arith, l)) e)

  pub map_set : {Y : Type 0} (g : X → Y) (xs : List X) (i : ℕ) (p q : X) → p ≡ slice_index_or xs i p → g q ≡ g p → map g (slice_set xs i q) ≡ map g xs
  map_set g [] i p q e s = refl
  map_set g (x ∷ xs) zero p q e s = ap (λ y. y ∷ map g xs) (s ∙ ap g e)
  map_set g (x ∷ xs) (suc i) p q e s = ap (λ l. g x ∷ l) (map_set g xs i p q e s)

  -- a task was taken through one of the ways, or none was there
  pub stole : {T : Type 0} (number : T → ℕ) (g : X → WorkerView) (o : Option T) (xs : List X) (i : ℕ) (p q : X) → i < length xs → p ≡ slice_index_or xs i p → MatchOption o (g q ≡ g p) (λ t. Took (g p) (number t ∷ []) (g p).boards (g q)) → (h : ℕ → ℕ)
      → (total (taken_by h) (map g (slice_set xs i q)) ≡ total (taken_by h) (map g xs) + weigh_option number h o) × (total (given_by h) (map g (slice_set xs i q)) ≡ total (given_by h) (map g xs))
  stole number g None xs i p q l e m h = let a = total_map_set (taken_by h) g xs i p q l e in let b = total_map_set (given_by h) g xs i p q l e in let c = ap (taken_by h) m in let d = ap (given_by h) m in (omega (arith, a, c), omega (arith, b, d))
  stole number g (Some t) xs i p q l e m h = let a = total_map_set (taken_by h) g xs i p q l e in let b = total_map_set (given_by h) g xs i p q l e in let c = took_weight (g p) (g q) (number t ∷ []) (g p).boards m h in (omega (arith, a, c.0), omega (arith, b, c.1))

  pub set_len : (xs : List X) (i : ℕ) (q : X) → length (slice_set xs i q) ≡ length xs
  set_len [] i q = refl
  set_len (x ∷ xs) zero q = refl
  set_len (x ∷ xs) (suc i) q = ap suc (set_len xs i q)

pub is_none : {T : Type 0} (number : T → ℕ) (o : Option T) → o ≡ None → (h : ℕ → ℕ) → weigh_option number h o ≡ 0
is_none number o e h = ap (weigh_option number h) e

pub is_some : {T : Type 0} (number : T → ℕ) (o : Option T) (t : T) → o ≡ Some t → (h : ℕ → ℕ) → weigh_option number h o ≡ h (number t)
is_some number o t e h = ap (weigh_option number h) e

-- one step after another
pub moves_on : {S Y : Type 0} (given taken : S → (ℕ → ℕ) → ℕ) (shape : S → Y) (a b c : S) (came went came' went' : (ℕ → ℕ) → ℕ) → Moves given taken shape a b came went → Moves given taken shape b c came' went' → Moves given taken shape a c (λ h. came h + came' h) (λ h. went h + went' h)
moves_on given taken shape a b c came went came' went' m n = record { same = n.same ∙ m.same; flow = λ h. let x = m.flow h in let y = n.flow h in omega arith }
