-- Sources of tests, which are few and small.
use Rattle.std.specs.Prelude.{ℕ, ◌≤◌, List, length}
use Rattle.std.specs.List.{All}
use Rattle.sc_io.specs.SourceTree.{FileOf}

-- at most a thousand files of at most a thousand bytes each
pub record AreSmall (fs : List FileOf) : Type 0 where
  pub few : length fs ≤ 1000
  pub each : All (λ f. length f.bytes ≤ 1000) fs
