-- Each step of the lock and of a deque keeps its rule.
use Rattle.std.proofs.Common.{◌≡◌, ◌≢◌, ℕ, zero, suc, ◌+◌, ◌-◌, ◌<◌, ◌≤◌, List, [], ◌∷◌, ◌++◌, length, map, set, sym, refl, ap, subst, ⊎_elim, arith, length-append}
use mathlib.Core.Option.{some, some-injective, some-ne-none}
use lib.ListN.{get_elem?}
use Rattle.atomic_table.proofs.Lists.{at_set, at_snoc}
use Rattle.crossbeam_queue.specs.Fifo.{Pushes, Pops, Forks, Merges, Learns}
use Rattle.crossbeam_deque.specs.Tasks.{Pushes as DequePushes, Pops as DequePops, Takes, Finds}
use Rattle.sg_board.specs.declared.worker_view.WorkerView.{WorkerView}
use Rattle.sg_board.specs.Weighing.{weigh, total, account, all_parts, weigh_all, given_by, taken_by, IsIdle, Kept, KeptOne, Took, Gave, IsBalanced}

pub weigh-append : (h : ℕ → ℕ) (xs ys : List ℕ) → weigh h (xs ++ ys) ≡ weigh h xs + weigh h ys
weigh-append h [] ys = omega arith
weigh-append h (x ∷ xs) ys = let a = weigh-append h xs ys in omega arith

total_set : (f : WorkerView → ℕ) (vs : List WorkerView) (i : ℕ) (v w : WorkerView) → get_elem? vs i ≡ some v → total f (set vs i w) + f v ≡ total f vs + f w
total_set f [] i v w e = absurd (some-ne-none v (sym e))
total_set f (x ∷ xs) zero v w e = let s = ap f (some-injective x v e) in omega arith
total_set f (x ∷ xs) (suc i) v w e = let h = total_set f xs i v w e in omega arith

total_snoc : (f : WorkerView → ℕ) (vs : List WorkerView) (w : WorkerView) → total f (vs ++ w ∷ []) ≡ total f vs + f w
total_snoc f [] w = omega arith
total_snoc f (x ∷ xs) w = let h = total_snoc f xs w in omega arith

total_at : (f : WorkerView → ℕ) (vs : List WorkerView) (i : ℕ) (v : WorkerView) → get_elem? vs i ≡ some v → f v ≤ total f vs
total_at f [] i v e = absurd (some-ne-none v (sym e))
total_at f (x ∷ xs) zero v e = let s = ap f (some-injective x v e) in omega arith
total_at f (x ∷ xs) (suc i) v e = let h = total_at f xs i v e in omega arith

idle_set : (vs : List WorkerView) (i : ℕ) (w : WorkerView) → (w.parts ≡ 0 → IsIdle w) → ((j : ℕ) (v : WorkerView) → get_elem? vs j ≡ some v → v.parts ≡ 0 → IsIdle v) → (j : ℕ) (v : WorkerView) → get_elem? (set vs i w) j ≡ some v → v.parts ≡ 0 → IsIdle v
idle_set vs i w mine others j v e = ⊎_elim (λ (t : (j ≡ i) × (w ≡ v)). subst (λ (z : WorkerView). z.parts ≡ 0 → IsIdle z) t.1 mine) (λ (t : (j ≢ i) × (get_elem? vs j ≡ some v)). others j v t.1) (at_set vs i j w v e)

first_busy : (k j : ℕ) (v : WorkerView) → get_elem? (account all_parts [] [] k ∷ []) j ≡ some v → v.parts ≡ 0 → IsIdle v
first_busy k zero v e none = let p = ap (λ (y : WorkerView). y.parts) (some-injective (account all_parts [] [] k) v e) in absurd (omega arith)
first_busy k (suc j) v e none = absurd (some-ne-none v (sym e))

nothing : (f : WorkerView → ℕ) (vs : List WorkerView) → total (λ v. v.parts) vs ≡ 0 → ((j : ℕ) (u : WorkerView) → get_elem? vs j ≡ some u → u.parts ≡ 0 → f u ≡ 0) → total f vs ≡ 0
nothing f [] e none = refl
nothing f (x ∷ xs) e none = let a = nothing f xs (omega arith) (λ j u h. none (suc j) u h) in let b = none 0 x refl (omega arith) in omega arith

-- where all others have no part, they have done nothing
alone : (f : WorkerView → ℕ) (vs : List WorkerView) (i : ℕ) (v : WorkerView) → get_elem? vs i ≡ some v → total (λ v. v.parts) vs ≡ v.parts → ((j : ℕ) (u : WorkerView) → get_elem? vs j ≡ some u → u.parts ≡ 0 → f u ≡ 0) → total f vs ≡ f v
alone f [] i v e all none = absurd (some-ne-none v (sym e))
alone f (x ∷ xs) zero v e all none = let s = ap f (some-injective x v e) in let p = ap (λ (y : WorkerView). y.parts) (some-injective x v e) in let r = nothing f xs (omega arith) (λ j u h. none (suc j) u h) in omega arith
alone f (x ∷ xs) (suc i) v e all none = let m = total_at (λ v. v.parts) xs i v e in let r = alone f xs i v e (omega arith) (λ j u h. none (suc j) u h) in let z = none 0 x refl (omega arith) in omega arith

module _ {B : Type 0} (numbers : B → List ℕ) where
  all-append : (h : ℕ → ℕ) (xs ys : List B) → weigh_all numbers h (xs ++ ys) ≡ weigh_all numbers h xs + weigh_all numbers h ys
  all-append h [] ys = omega arith
  all-append h (x ∷ xs) ys = let a = all-append h xs ys in omega arith

  pub begins : (k : ℕ) → Kept numbers [] (account all_parts [] [] k ∷ [])
  begins k = record { parts = refl; whole = λ h. omega arith; idle = first_busy k }

  pub begins_one : KeptOne numbers [] (account all_parts [] [] 1 ∷ [])
  begins_one = record { kept = begins 1; single = omega arith }

  -- some things leave, with these tasks
  took : (id : ℕ) (v : WorkerView) (ns : List ℕ) (k : ℕ) (old new : List B) (views : List WorkerView) → 0 < v.parts → get_elem? views id ≡ some v → ((h : ℕ → ℕ) → weigh_all numbers h old ≡ weigh h ns + weigh_all numbers h new) → Kept numbers old views → Kept numbers new (set views id (account v.parts v.given (v.taken ++ ns) k))
  took id v ns k old new views part at leave kept = let w : WorkerView = account v.parts v.given (v.taken ++ ns) k in record {
    parts = let s = total_set (λ v. v.parts) views id v w at in let p = kept.parts in omega arith;
    whole = λ h. let s = total_set (taken_by h) views id v w at in let t = total_set (given_by h) views id v w at in let p = kept.whole h in let l = leave h in let a = weigh-append h v.taken ns in omega arith;
    idle = idle_set views id w (λ z. absurd (omega arith)) kept.idle;
  }

  -- some things come, with these tasks
  gave : (id : ℕ) (v : WorkerView) (ns : List ℕ) (k : ℕ) (old new : List B) (views : List WorkerView) → 0 < v.parts → get_elem? views id ≡ some v → ((h : ℕ → ℕ) → weigh_all numbers h new ≡ weigh_all numbers h old + weigh h ns) → Kept numbers old views → Kept numbers new (set views id (account v.parts (v.given ++ ns) v.taken k))
  gave id v ns k old new views part at come kept = let w : WorkerView = account v.parts (v.given ++ ns) v.taken k in record {
    parts = let s = total_set (λ v. v.parts) views id v w at in let p = kept.parts in omega arith;
    whole = λ h. let s = total_set (taken_by h) views id v w at in let t = total_set (given_by h) views id v w at in let p = kept.whole h in let l = come h in let a = weigh-append h v.given ns in omega arith;
    idle = idle_set views id w (λ z. absurd (omega arith)) kept.idle;
  }

  cut : (id : ℕ) (v : WorkerView) → 1 < v.parts → Forks (Kept numbers) id v (account (v.parts - 1) v.given v.taken v.boards) (account 1 [] [] 0)
  cut id v two items views k at = let l : WorkerView = account (v.parts - 1) v.given v.taken v.boards in let r : WorkerView = account 1 [] [] 0 in
      let sums : (f : WorkerView → ℕ) → total f (set views id l ++ r ∷ []) + f v ≡ (total f views + f l) + f r = λ f. let a = total_set f views id v l at in let b = total_snoc f (set views id l) r in omega arith in
      record {
        parts = let s = sums (λ v. v.parts) in let p = k.parts in omega arith;
        whole = λ h. let s = sums (taken_by h) in let t = sums (given_by h) in let p = k.whole h in omega arith;
        idle = λ j x e z. ⊎_elim (λ (e' : get_elem? (set views id l) j ≡ some x). idle_set views id l (λ q. absurd (omega arith)) k.idle j x e' z) (λ (e' : r ≡ x). let one = ap (λ (y : WorkerView). y.parts) e' in absurd (omega arith)) (at_snoc (set views id l) r x j e);
      }

  join : (id : ℕ) (v : WorkerView) (other : ℕ) (u : WorkerView) → 0 < v.parts → Merges (Kept numbers) id v other u (account (v.parts + u.parts) (v.given ++ u.given) (v.taken ++ u.taken) (v.boards + u.boards)) (account 0 [] [] 0)
  join id v other u part items views k at apart there = let b : WorkerView = account (v.parts + u.parts) (v.given ++ u.given) (v.taken ++ u.taken) (v.boards + u.boards) in let z : WorkerView = account 0 [] [] 0 in
      let sums : (f : WorkerView → ℕ) → total f (set (set views id b) other z) + f u + f v ≡ total f views + f b + f z = λ f. let a = total_set f views id v b at in let c = total_set f (set views id b) other u z there in omega arith in
      record {
        parts = let s = sums (λ v. v.parts) in let p = k.parts in omega arith;
        whole = λ h. let s = sums (taken_by h) in let t = sums (given_by h) in let p = k.whole h in let q = weigh-append h v.given u.given in let r = weigh-append h v.taken u.taken in omega arith;
        idle = idle_set (set views id b) other z (λ _. record { boards = refl; given = refl; taken = refl }) (idle_set views id b (λ q. absurd (omega arith)) k.idle);
      }

  -- who has every part of something empty
  balanced : (id : ℕ) (v : WorkerView) (items : List B) (views : List WorkerView) → length items ≡ 0 → Kept numbers items views → get_elem? views id ≡ some v → IsBalanced v
  balanced id v [] views none k at every h =
      let p = k.parts in
      let a = alone (taken_by h) views id v at (omega arith) (λ j u e z. let i = k.idle j u e z in let x = ap (weigh h) i.taken in omega arith) in
      let b = alone (given_by h) views id v at (omega arith) (λ j u e z. let i = k.idle j u e z in let x = ap (weigh h) i.given in omega arith) in
      let w = k.whole h in omega arith
  balanced id v (x ∷ items) views none k at every h = absurd (omega (arith, none))

  -- ---- the lock

  pub takes : (id : ℕ) (v : WorkerView) → 0 < v.parts → Pops (KeptOne numbers) id v (λ x w. Took v (numbers x) 1 w)
  takes id v part x items views k at = let w : WorkerView = account v.parts v.given (v.taken ++ numbers x) 1 in (
    w,
    record {
      kept = took id v (numbers x) 1 (x ∷ items) items views part at (λ h. refl) k.kept;
      single = let s = total_set (λ v. v.boards) views id v w at in let p = k.single in omega arith;
    },
    refl,
  )

  pub gives : (n id : ℕ) (v : WorkerView) (x : B) → v.boards ≡ 1 → Pushes (KeptOne numbers) n id v x (λ w. Gave v (numbers x) 0 w)
  gives n id v x has items views short k at = let w : WorkerView = account v.parts (v.given ++ numbers x) v.taken 0 in
      let part : (v.parts ≡ 0 → ⊥) = λ z. let i = k.kept.idle id v at z in let a = i.boards in absurd (omega arith) in (
        w,
        record {
          kept = gave id v (numbers x) 0 items (items ++ x ∷ []) views (omega (arith, part)) at (λ h. let a = all-append h items (x ∷ []) in omega arith) k.kept;
          single = let s = total_set (λ v. v.boards) views id v w at in let p = k.single in let l = length-append items (x ∷ []) in omega arith;
        },
        refl,
      )

  pub no_room : (id : ℕ) (v : WorkerView) → Learns (KeptOne numbers) id v (λ items. v.boards ≡ 1 → length items ≡ 0)
  no_room id v items views k at boards = let a = total_at (λ v. v.boards) views id v at in let s = k.single in omega arith

  pub cuts : (id : ℕ) (v : WorkerView) → 1 < v.parts → Forks (KeptOne numbers) id v (account (v.parts - 1) v.given v.taken v.boards) (account 1 [] [] 0)
  cuts id v two items views k at = let l : WorkerView = account (v.parts - 1) v.given v.taken v.boards in let r : WorkerView = account 1 [] [] 0 in record {
    kept = cut id v two items views k.kept at;
    single = let a = total_set (λ v. v.boards) views id v l at in let b = total_snoc (λ v. v.boards) (set views id l) r in let p = k.single in omega arith;
  }

  pub joins : (id : ℕ) (v : WorkerView) (other : ℕ) (u : WorkerView) → 0 < v.parts → Merges (KeptOne numbers) id v other u (account (v.parts + u.parts) (v.given ++ u.given) (v.taken ++ u.taken) (v.boards + u.boards)) (account 0 [] [] 0)
  joins id v other u part items views k at apart there = let b : WorkerView = account (v.parts + u.parts) (v.given ++ u.given) (v.taken ++ u.taken) (v.boards + u.boards) in let z : WorkerView = account 0 [] [] 0 in record {
    kept = join id v other u part items views k.kept at apart there;
    single = let a = total_set (λ v. v.boards) views id v b at in let c = total_set (λ v. v.boards) (set views id b) other u z there in let p = k.single in omega arith;
  }

  pub totals : (id : ℕ) (v : WorkerView) → Learns (KeptOne numbers) id v (λ items. v.boards ≡ 1 → IsBalanced v)
  totals id v items views k at has = let m = total_at (λ v. v.boards) views id v at in let s = k.single in balanced id v items views (omega arith) k.kept at

module _ {T : Type 0} (number : T → ℕ) where
  -- ---- a deque

  weigh-map : (h : ℕ → ℕ) (xs : List T) → weigh_all (λ t. number t ∷ []) h xs ≡ weigh h (map number xs)
  weigh-map h [] = refl
  weigh-map h (x ∷ xs) = let a = weigh-map h xs in omega arith

  pub lays : (id : ℕ) (v : WorkerView) (xs : List T) → 0 < v.parts → DequePushes (Kept (λ t. number t ∷ [])) id v xs (λ w. Gave v (map number xs) v.boards w)
  lays id v xs part items views k at = (
    account v.parts (v.given ++ map number xs) v.taken v.boards,
    gave (λ t. number t ∷ []) id v (map number xs) v.boards items (items ++ xs) views part at (λ h. let a = all-append (λ t. number t ∷ []) h items xs in let b = weigh-map h xs in omega arith) k,
    refl,
  )

  pub picks : (id : ℕ) (v : WorkerView) (most : ℕ) → 0 < v.parts → Takes (Kept (λ t. number t ∷ [])) id v most (λ xs w. Took v (map number xs) v.boards w)
  picks id v most part xs items views _ _ k at = (
    account v.parts v.given (v.taken ++ map number xs) v.boards,
    took (λ t. number t ∷ []) id v (map number xs) v.boards (xs ++ items) items views part at (λ h. let a = all-append (λ t. number t ∷ []) h xs items in let b = weigh-map h xs in omega arith) k,
    refl,
  )

  pub picks_last : (id : ℕ) (v : WorkerView) → 0 < v.parts → DequePops (Kept (λ t. number t ∷ [])) id v (λ xs w. Took v (map number xs) v.boards w)
  picks_last id v part x items views k at = (
    account v.parts v.given (v.taken ++ number x ∷ []) v.boards,
    took (λ t. number t ∷ []) id v (number x ∷ []) v.boards (items ++ x ∷ []) items views part at (λ h. let a = all-append (λ t. number t ∷ []) h items (x ∷ []) in omega arith) k,
    refl,
  )

  pub finds : (id : ℕ) (v : WorkerView) → Finds (Kept (λ t. number t ∷ [])) id v (IsBalanced v)
  finds id v views k at = balanced (λ t. number t ∷ []) id v [] views refl k at

  pub shares : (id : ℕ) (v : WorkerView) → 1 < v.parts → Forks (Kept (λ t. number t ∷ [])) id v (account (v.parts - 1) v.given v.taken v.boards) (account 1 [] [] 0)
  shares = cut (λ t. number t ∷ [])

  pub gathers : (id : ℕ) (v : WorkerView) (other : ℕ) (u : WorkerView) → 0 < v.parts → Merges (Kept (λ t. number t ∷ [])) id v other u (account (v.parts + u.parts) (v.given ++ u.given) (v.taken ++ u.taken) (v.boards + u.boards)) (account 0 [] [] 0)
  gathers = join (λ t. number t ∷ [])
