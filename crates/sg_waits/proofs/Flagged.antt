-- Flags of blocks: what a write of a unit and of a flag does.
use Rattle.std.proofs.Common.{◌≡◌, ℕ, zero, suc, ◌+◌, ◌*◌, ◌/◌, ◌<◌, ◌≤◌, List, [], ◌∷◌, ◌⊎◌, Bool, true, false, IsTrue, inl, inr, refl, sym, ap, ◌∙◌, subst, length, replicate, slice_set, slice_index_or, arith}
use Rattle.sg_waits.specs.declared.status.Status.{Status}
use Rattle.sg_waits.specs.declared.status.Status.TheVariants.{Runs}
use Rattle.sg_waits.specs.Block.{IsFlagged}
use Rattle.sg_waits.specs.Waits.{WaitsOf, status_at, runs, is_live}
use Rattle.sg_waits.proofs.Standing.{same_number, set_here, set_other, length_set, live_within}

pub runs_within : (ws : WaitsOf) (u : ℕ) → status_at ws u ≡ Runs → u < length ws
runs_within ws u e = live_within ws u (subst (λ (s : Status). IsTrue (is_live s)) (sym e) refl)

flag_here : (fs : List Bool) (i : ℕ) (b : Bool) → i < length fs → slice_index_or (slice_set fs i b) i false ≡ b
flag_here [] i b l = absurd (omega arith)
flag_here (f ∷ fs) zero b l = refl
flag_here (f ∷ fs) (suc i) b l = flag_here fs i b (omega arith)

flag_other : (fs : List Bool) (i : ℕ) (b : Bool) (j : ℕ) → (j ≡ i → ⊥) → slice_index_or (slice_set fs i b) j false ≡ slice_index_or fs j false
flag_other [] i b j n = refl
flag_other (f ∷ fs) zero b zero n = absurd (n refl)
flag_other (f ∷ fs) zero b (suc j) n = refl
flag_other (f ∷ fs) (suc i) b zero n = refl
flag_other (f ∷ fs) (suc i) b (suc j) n = flag_other fs i b j (λ e. n (ap suc e))

length_flags : (fs : List Bool) (i : ℕ) (b : Bool) → length (slice_set fs i b) ≡ length fs
length_flags [] i b = refl
length_flags (f ∷ fs) zero b = refl
length_flags (f ∷ fs) (suc i) b = ap suc (length_flags fs i b)

apart : (a b : ℕ) → (a < b) ⊎ (b ≤ a)
apart zero zero = inr (omega arith)
apart zero (suc b) = inl (omega arith)
apart (suc a) zero = inr (omega arith)
apart (suc a) (suc b) = elim (apart a b) [ inl m ↦ inl (omega arith) | inr m ↦ inr (omega arith) ]

block_is : (v block : ℕ) → 256 * block ≤ v → v < 256 * (block + 1) → v / 256 ≡ block
block_is v block low high = omega arith

below_block : (v block : ℕ) → (v / 256 ≡ block → ⊥) → v < 256 * (block + 1) → v < 256 * block
below_block v block other l = elim (apart v (256 * block)) [ inl m ↦ m | inr m ↦ absurd (other (block_is v block m l)) ]

module _ (ws : WaitsOf) (fs : List Bool) (flagged : IsFlagged ws fs) where
  pub block_there : (u : ℕ) → u < length ws → u / 256 < length fs
  block_there u l = omega (arith, flagged.room)

  -- a unit that does not run
  pub idle_flagged : (u : ℕ) (s : Status) → u < length ws → runs s ≡ false → IsFlagged (slice_set ws u s) fs
  idle_flagged u s l idle = record {
    room = omega (arith, length_set ws u s, flagged.room);
    small = omega (arith, length_set ws u s, flagged.small);
    each = λ v e.
        elim (same_number v u) [
          | inl same ↦
              let own : status_at (slice_set ws u s) u ≡ Runs = subst (λ (x : ℕ). status_at (slice_set ws u s) x ≡ Runs) same e in
              let runs_now : runs s ≡ true = ap runs (sym (set_here ws u s l) ∙ own) in
              absurd (cc)
          | inr other ↦ flagged.each v (sym (set_other ws u s v other) ∙ e)
        ];
  }

  -- a unit runs, and its block is flagged
  pub runner_flagged : (u : ℕ) → u < length ws → IsFlagged (slice_set ws u Runs) (slice_set fs (u / 256) true)
  runner_flagged u l = record {
    room = omega (arith, length_set ws u Runs, length_flags fs (u / 256) true, flagged.room);
    small = omega (arith, length_set ws u Runs, length_flags fs (u / 256) true, flagged.small);
    each = λ v e.
        elim (same_number (v / 256) (u / 256)) [
          | inl same ↦ subst (λ (i : ℕ). slice_index_or (slice_set fs (u / 256) true) i false ≡ true) (sym same) (flag_here fs (u / 256) true (block_there u l))
          | inr other ↦ flag_other fs (u / 256) true (v / 256) other ∙ flagged.each v (sym (set_other ws u Runs v (λ s. other (ap (λ (x : ℕ). x / 256) s))) ∙ e)
        ];
  }

  -- a block in which none runs
  pub cleared : (block : ℕ) → ((v : ℕ) → 256 * block ≤ v → v < 256 * block + 256 → status_at ws v ≡ Runs → ⊥) → IsFlagged ws (slice_set fs block false)
  cleared block none = record {
    room = omega (arith, length_flags fs block false, flagged.room);
    small = omega (arith, length_flags fs block false, flagged.small);
    each = λ v e.
        elim (same_number (v / 256) block) [
          | inl same ↦ absurd (none v (omega arith) (omega arith) e)
          | inr other ↦ flag_other fs block false (v / 256) other ∙ flagged.each v e
        ];
  }

  -- a block that is not flagged
  pub none_unflagged : (block v : ℕ) → slice_index_or fs block false ≡ false → ((w : ℕ) → w < 256 * block → status_at ws w ≡ Runs → ⊥) → v < 256 * (block + 1) → status_at ws v ≡ Runs → ⊥
  none_unflagged block v off before l e =
      elim (same_number (v / 256) block) [
        | inl same ↦
            let on : slice_index_or fs block false ≡ true = subst (λ (i : ℕ). slice_index_or fs i false ≡ true) same (flagged.each v e) in
            cc
        | inr other ↦ before v (below_block v block other l) e
      ]

  pub none_at_all : ((w : ℕ) → w < 256 * length fs → status_at ws w ≡ Runs → ⊥) → (u : ℕ) → status_at ws u ≡ Runs → ⊥
  none_at_all none u e = none u (omega (arith, runs_within ws u e, flagged.room)) e

pub open_flagged : (n : ℕ) → IsFlagged (replicate n Runs) (replicate (n / 256 + 1) true)
open_flagged n = record {
  room = omega (arith, length_units n, length_all (n / 256 + 1));
  small = omega (arith, length_units n, length_all (n / 256 + 1));
  each = λ u e. all_true (n / 256 + 1) (u / 256) (omega (arith, runs_within (replicate n Runs) u e, length_units n));
}
  where
    length_units : (n : ℕ) → length (replicate n Runs) ≡ n
    length_units zero = refl
    length_units (suc n) = ap suc (length_units n)

    length_all : (n : ℕ) → length (replicate n true) ≡ n
    length_all zero = refl
    length_all (suc n) = ap suc (length_all n)

    all_true : (n i : ℕ) → i < n → slice_index_or (replicate n true) i false ≡ true
    all_true zero i l = absurd (omega arith)
    all_true (suc n) zero l = refl
    all_true (suc n) (suc i) l = all_true n i (omega arith)
