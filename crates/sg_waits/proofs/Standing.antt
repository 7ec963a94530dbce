-- Tables of units: how they stand after a write, and how many run and wait.
use Rattle.std.proofs.Common.{◌≡◌, ℕ, zero, suc, ◌+◌, ◌<◌, ◌≤◌, [], ◌∷◌, ◌⊎◌, Bool, true, false, IsTrue, cond, inl, inr, refl, sym, ap, subst, length, replicate, slice_set, slice_index_or, count_by, arith}
use Rattle.std.proofs.lemmas.List.Sums.{sum_by-cons, sum_by-set, get_or-le-sum_by}
use Rattle.std.specs.List.{Contains}
use Rattle.sg_base.proofs.Finite.{nothing_in}
use Rattle.sg_state.specs.declared.need.Need.{Need}
use Rattle.sg_waits.specs.declared.status.Status.{Status}
use Rattle.sg_waits.specs.declared.status.Status.TheVariants.{Ended, Runs, Waits}
use Rattle.sg_waits.specs.Waits.{WaitsOf, status_at, is_live, needs_of, needs_at, IsLive}

pub same_number : (a b : ℕ) → (a ≡ b) ⊎ (a ≡ b → ⊥)
same_number zero zero = inl refl
same_number zero (suc b) = inr (λ e. absurd (omega arith))
same_number (suc a) zero = inr (λ e. absurd (omega arith))
same_number (suc a) (suc b) = elim (same_number a b) [ inl e ↦ inl (ap suc e) | inr n ↦ inr (λ e. n (omega arith)) ]

-- ---- a write

pub set_here : (ws : WaitsOf) (u : ℕ) (s : Status) → u < length ws → status_at (slice_set ws u s) u ≡ s
set_here [] u s l = absurd (omega arith)
set_here (w ∷ ws) zero s l = refl
set_here (w ∷ ws) (suc u) s l = set_here ws u s (omega arith)

pub set_other : (ws : WaitsOf) (u : ℕ) (s : Status) (v : ℕ) → (v ≡ u → ⊥) → status_at (slice_set ws u s) v ≡ status_at ws v
set_other [] u s v n = refl
set_other (w ∷ ws) zero s zero n = absurd (n refl)
set_other (w ∷ ws) zero s (suc v) n = refl
set_other (w ∷ ws) (suc u) s zero n = refl
set_other (w ∷ ws) (suc u) s (suc v) n = set_other ws u s v (λ e. n (ap suc e))

pub status_is : (ws : WaitsOf) (u : ℕ) (s : Status) → u < length ws → slice_index_or ws u s ≡ status_at ws u
status_is [] u s l = absurd (omega arith)
status_is (w ∷ ws) zero s l = refl
status_is (w ∷ ws) (suc u) s l = status_is ws u s (omega arith)

pub set_itself : (ws : WaitsOf) (u : ℕ) (s : Status) → u < length ws → status_at ws u ≡ s → slice_set ws u s ≡ ws
set_itself [] u s l e = refl
set_itself (w ∷ ws) zero s l e = ap (λ (x : Status). x ∷ ws) (sym e)
set_itself (w ∷ ws) (suc u) s l e = ap (λ (x : WaitsOf). w ∷ x) (set_itself ws u s (omega arith) e)

pub set_twice : (ws : WaitsOf) (u : ℕ) (s t : Status) → slice_set (slice_set ws u s) u t ≡ slice_set ws u t
set_twice [] u s t = refl
set_twice (w ∷ ws) zero s t = refl
set_twice (w ∷ ws) (suc u) s t = ap (λ (x : WaitsOf). w ∷ x) (set_twice ws u s t)

pub length_set : (ws : WaitsOf) (u : ℕ) (s : Status) → length (slice_set ws u s) ≡ length ws
length_set [] u s = refl
length_set (w ∷ ws) zero s = refl
length_set (w ∷ ws) (suc u) s = ap suc (length_set ws u s)

-- ---- what is live lies within the table

none_false : IsTrue false → ⊥
none_false h = absurd (cc)

pub live_within : (ws : WaitsOf) (u : ℕ) → IsLive ws u → u < length ws
live_within [] u h = absurd (none_false h)
live_within (w ∷ ws) zero h = omega arith
live_within (w ∷ ws) (suc u) h = let k : u < length ws = live_within ws u h in omega arith

pub needy_within : (ws : WaitsOf) (u : ℕ) (n : Need) → Contains (needs_at ws u) n → u < length ws
needy_within [] u n c = absurd (nothing_in n c)
needy_within (w ∷ ws) zero n c = omega arith
needy_within (w ∷ ws) (suc u) n c = let k : u < length ws = needy_within ws u n c in omega arith

needy_lives_so : (s : Status) (n : Need) → Contains (needs_of s) n → IsTrue (is_live s)
needy_lives_so Ended n c = absurd (nothing_in n c)
needy_lives_so Runs n c = absurd (nothing_in n c)
needy_lives_so (Waits ns) n c = refl

pub needy_lives : (ws : WaitsOf) (u : ℕ) (n : Need) → Contains (needs_at ws u) n → IsLive ws u
needy_lives ws u n c = needy_lives_so (status_at ws u) n c

not_live : (s : Status) → (IsTrue (is_live s) → ⊥) → s ≡ Ended
not_live Ended n = refl
not_live Runs n = absurd (n refl)
not_live (Waits ns) n = absurd (n refl)

-- to end what is no live unit changes nothing
pub ended_itself : (ws : WaitsOf) (u : ℕ) → (IsLive ws u → ⊥) → slice_set ws u Ended ≡ ws
ended_itself [] u n = refl
ended_itself (w ∷ ws) zero n = ap (λ (x : Status). x ∷ ws) (sym (not_live w n))
ended_itself (w ∷ ws) (suc u) n = ap (λ (x : WaitsOf). w ∷ x) (ended_itself ws u n)

-- ---- counts

pub one_of : (b c : Bool) → b ≡ c → cond {A = ℕ} b 1 0 ≡ cond {A = ℕ} c 1 0
one_of b c e = subst (λ (x : Bool). cond {A = ℕ} b 1 0 ≡ cond {A = ℕ} x 1 0) e refl

module _ (p : Status → Bool) where
  count_cons : (w : Status) (ws : WaitsOf) → count_by p (w ∷ ws) ≡ cond (p w) 1 0 + count_by p ws
  count_cons w ws = sum_by-cons (λ (x : Status). cond (p x) 1 0) w ws

  pub count_set : (ws : WaitsOf) (u : ℕ) (s : Status) → u < length ws → count_by p (slice_set ws u s) + cond (p (status_at ws u)) 1 0 ≡ count_by p ws + cond (p s) 1 0
  count_set ws u s l = sum_by-set (λ (x : Status). cond (p x) 1 0) ws u s Ended l

  pub counted_within : (ws : WaitsOf) (u : ℕ) → u < length ws → p (status_at ws u) ≡ true → 0 < count_by p ws
  counted_within ws u l e =
      let k : cond (p (status_at ws u)) 1 0 ≤ count_by p ws = get_or-le-sum_by (λ (x : Status). cond (p x) 1 0) ws u Ended l in
      let one : cond {A = ℕ} (p (status_at ws u)) 1 0 ≡ 1 = one_of (p (status_at ws u)) true e in
      omega arith

  at_head : (b : Bool) (w : Status) (ws : WaitsOf) → p w ≡ b → 0 < cond b 1 0 + count_by p ws → (0 < count_by p ws → (u : ℕ) × (u < length ws) × (p (status_at ws u) ≡ true)) → (u : ℕ) × (u < suc (length ws)) × (p (status_at (w ∷ ws) u) ≡ true)
  at_head true w ws e k rest = (zero, omega arith, e)
  at_head false w ws e k rest = let r = rest (omega arith) in (suc r.0, omega (arith, r.1), r.2)

  pub some_counted : (ws : WaitsOf) → 0 < count_by p ws → (u : ℕ) × (u < length ws) × (p (status_at ws u) ≡ true)
  some_counted [] l = absurd (omega arith)
  some_counted (w ∷ ws) l = at_head (p w) w ws refl (omega (arith, count_cons w ws)) (some_counted ws)

pub all_counted : (p : Status → Bool) (s : Status) (n : ℕ) → p s ≡ true → count_by p (replicate n s) ≡ n
all_counted p s zero e = refl
all_counted p s (suc n) e =
    let k : count_by p (replicate n s) ≡ n = all_counted p s n e in
    let one : cond {A = ℕ} (p s) 1 0 ≡ 1 = one_of (p s) true e in
    omega (arith, count_cons p s (replicate n s))

pub none_counted : (p : Status → Bool) (s : Status) (n : ℕ) → p s ≡ false → count_by p (replicate n s) ≡ 0
none_counted p s zero e = refl
none_counted p s (suc n) e =
    let k : count_by p (replicate n s) ≡ 0 = none_counted p s n e in
    let none : cond {A = ℕ} (p s) 1 0 ≡ 0 = one_of (p s) false e in
    omega (arith, count_cons p s (replicate n s))

pub none_needed : (n u : ℕ) → needs_at (replicate n Runs) u ≡ []
none_needed zero u = refl
none_needed (suc n) zero = refl
none_needed (suc n) (suc u) = none_needed n u
