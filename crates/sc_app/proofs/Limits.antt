-- The limits on the bytes of files.
use Rattle.std.proofs.Common.{◌≡◌, ℕ, ◌+◌, ◌<◌, ◌≤◌, nat_lt, Bool, true, false, cond, List, [], ◌∷◌, ◌++◌, length, Option, None, Some, refl, ap, ◌∙◌, arith}
use Rattle.std.specs.List.{All, sum_by}
use Rattle.std.proofs.lemmas.Bool.{lt-ltb, le-ltb, ltb-false}
use Rattle.std.proofs.lemmas.List.Elements.{All-nil, All-cons}
use Rattle.std.proofs.lemmas.List.Sums.{sum_by-cons}
use Rattle.sc_io.specs.SourceTree.{FileOf}
use Rattle.sc_sources.specs.Read.{AreWithinLimits, most_bytes, most_files, most_total}
use Rattle.sc_app.specs.declared.status.Which.{Which}
use Rattle.sc_app.specs.declared.status.Which.TheVariants.{FileBytes, TotalBytes}
use Rattle.sc_app.specs.Sourced.{passed_from}

-- how many bytes a file has, and files together
abbrev pub size : FileOf → ℕ
size f = length f.bytes

abbrev pub sizes : List FileOf → ℕ
sizes fs = sum_by size fs

unpassed : (b c : Bool) (r : Option Which) → cond b (Some FileBytes) (cond c (Some TotalBytes) r) ≡ None → (b ≡ false) × (c ≡ false) × (r ≡ None)
unpassed true c r e = absurd (cc)
unpassed false true r e = absurd (cc)
unpassed false false r e = (refl, refl, e)

module _ (total : ℕ) (f : FileOf) (fs : List FileOf) where
  none_here : passed_from total (f ∷ fs) ≡ None → (size f ≤ most_bytes) × (total + size f ≤ most_total) × (passed_from (total + size f) fs ≡ None)
  none_here e =
      let h = unpassed (nat_lt most_bytes (size f)) (nat_lt most_total (total + size f)) (passed_from (total + size f) fs) e in
      (ltb-false most_bytes (size f) h.0, ltb-false most_total (total + size f) h.1, h.2)

  -- a file that passes no limit
  pub passes_none : size f ≤ most_bytes → total + size f ≤ most_total → passed_from total (f ∷ fs) ≡ passed_from (total + size f) fs
  passes_none small few =
      ap (λ (b : Bool). cond b (Some FileBytes) (cond (nat_lt most_total (total + size f)) (Some TotalBytes) (passed_from (total + size f) fs))) (le-ltb most_bytes (size f) small)
      ∙ ap (λ (b : Bool). cond b (Some TotalBytes) (passed_from (total + size f) fs)) (le-ltb most_total (total + size f) few)

  -- a file that is too long alone
  pub passes_alone : most_bytes < size f → passed_from total (f ∷ fs) ≡ Some FileBytes
  passes_alone long =
      ap (λ (b : Bool). cond b (Some FileBytes) (cond (nat_lt most_total (total + size f)) (Some TotalBytes) (passed_from (total + size f) fs))) (lt-ltb most_bytes (size f) long)

  -- a file that is too long with those before it
  pub passes_together : size f ≤ most_bytes → most_total < total + size f → passed_from total (f ∷ fs) ≡ Some TotalBytes
  passes_together small many =
      ap (λ (b : Bool). cond b (Some FileBytes) (cond (nat_lt most_total (total + size f)) (Some TotalBytes) (passed_from (total + size f) fs))) (le-ltb most_bytes (size f) small)
      ∙ ap (λ (b : Bool). cond b (Some TotalBytes) (passed_from (total + size f) fs)) (lt-ltb most_total (total + size f) many)

-- behind files that pass no limit
passed_behind : (total : ℕ) (xs ys : List FileOf) → passed_from total xs ≡ None → passed_from total (xs ++ ys) ≡ passed_from (total + sizes xs) ys
passed_behind total [] ys e = ap (λ (n : ℕ). passed_from n ys) (omega arith)
passed_behind total (x ∷ xs) ys e =
    let h = none_here total x xs e in
    let more : total + size x + sizes xs ≡ total + sizes (x ∷ xs) = omega (arith, sum_by-cons size x xs) in
    passes_none total x (xs ++ ys) h.0 h.1 ∙ passed_behind (total + size x) xs ys h.2 ∙ ap (λ (n : ℕ). passed_from n ys) more

pub unpassed_before : (xs ys : List FileOf) → passed_from 0 xs ≡ None → passed_from 0 (xs ++ ys) ≡ passed_from (sizes xs) ys
unpassed_before xs ys e = passed_behind 0 xs ys e ∙ ap (λ (n : ℕ). passed_from n ys) (omega arith)

few_together : (total : ℕ) (xs : List FileOf) → total ≤ most_total → passed_from total xs ≡ None → total + sizes xs ≤ most_total
few_together total [] few e = omega (arith, few)
few_together total (x ∷ xs) few e =
    let h = none_here total x xs e in
    omega (arith, sum_by-cons size x xs, few_together (total + size x) xs h.1 h.2)

pub few_bytes : (xs : List FileOf) → passed_from 0 xs ≡ None → sizes xs ≤ most_total
few_bytes xs e = omega (arith, few_together 0 xs (omega arith) e)

each_small : (total : ℕ) (xs : List FileOf) → passed_from total xs ≡ None → All (λ f. length f.bytes ≤ most_bytes) xs
each_small total [] e = All-nil (λ (f : FileOf). length f.bytes ≤ most_bytes)
each_small total (x ∷ xs) e =
    let h = none_here total x xs e in
    All-cons (λ (f : FileOf). length f.bytes ≤ most_bytes) x xs h.0 (each_small (total + size x) xs h.2)

-- files that pass no limit are within the limits
pub within_limits : (xs : List FileOf) → length xs ≤ most_files → passed_from 0 xs ≡ None → AreWithinLimits xs
within_limits xs few e = record { files = few; each = each_small 0 xs e; total = few_bytes xs e }
