-- A sink over memory of whose puts chosen ones are cut.
use Rattle.std.specs.Prelude.{ℕ, List, [], ◌∷◌, ◌++◌, ◌==◌, cond, Option, Some, None}
use Rattle.sc_io.specs.Faults.{risen}

-- what was written; the puts that are cut, each with the bytes that it takes at most; how many puts were made, and how many failed
pub record CutSinkOf : Type 0 where
  pub written : List ℕ
  pub cuts : List (ℕ × ℕ)
  pub puts : ℕ
  pub faults : ℕ

-- the sink once a put failed that wrote these bytes
abbrev pub cut_with : CutSinkOf → List ℕ → CutSinkOf
cut_with s front = record s { written = s.written ++ front; puts = risen s.puts; faults = risen s.faults }

-- how many bytes the put with this number takes at most, if it is cut; of two cuts of one put the first counts
abbrev pub cut_at : List (ℕ × ℕ) → ℕ → Option ℕ
cut_at [] k = None
cut_at (c ∷ cs) k = cond (c.0 == k) (Some c.1) (cut_at cs k)
