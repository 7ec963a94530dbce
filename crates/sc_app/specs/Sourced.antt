-- The sources of a folder in the order of their paths, and the limits on them.
use Rattle.std.specs.Prelude.{ℕ, ◌+◌, nat_lt, cond, List, [], ◌∷◌, length, Option, None, Some, ◌↔◌}
use Rattle.std.specs.Cmp.Lexicographic.{slice_cmp}
use Rattle.std.specs.List.{Contains}
use Rattle.std.specs.Ordering.{nat_cmp, on}
use Rattle.sg_base.specs.List.{IsRising}
use Rattle.sc_io.specs.SourceTree.{FileOf, IsJavaPath}
use Rattle.sc_sources.specs.Read.{most_bytes, most_total}
use Rattle.sc_app.specs.declared.status.Which.{Which}
use Rattle.sc_app.specs.declared.status.Which.TheVariants.{FileBytes, TotalBytes}

-- a file of the folder that ends in `.java`
abbrev pub IsSource : List FileOf → FileOf → Type 0
IsSource fs f = Contains fs f × IsJavaPath f.path

-- these are the sources of a folder, in rising order of their paths
pub record AreSources (fs ss : List FileOf) : Type 0 where
  pub rising : IsRising (on (λ f. f.path) (slice_cmp nat_cmp)) ss
  pub same : (f : FileOf) → (Contains ss f) ↔ (IsSource fs f)

-- the limit on bytes that files pass first, behind so many bytes of others: each file is looked at in turn, first alone and then with those before it
abbrev pub passed_from : ℕ → List FileOf → Option Which
passed_from total [] = None
passed_from total (f ∷ fs) =
    cond (nat_lt most_bytes (length f.bytes)) (Some FileBytes) (cond (nat_lt most_total (total + length f.bytes)) (Some TotalBytes) (passed_from (total + length f.bytes) fs))
