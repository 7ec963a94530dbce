use Rattle.std.proofs.Common.{◌≡◌, ◌≤◌, ◌<◌, ℕ, decimal}
use Rattle.sc_app.proofs.asked.count_of.Given as goal

-- no number that was tried is the text
abbrev pub invariant-loop-n : goal.invariant-loop-n
invariant-loop-n l = (m : ℕ) → 1 ≤ m → m < l.n → l.text ≡ decimal m → ⊥
