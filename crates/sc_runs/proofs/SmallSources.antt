-- Small sources are within the limits on sources.
use Rattle.std.proofs.Common.{◌≡◌, ℕ, ◌+◌, ◌*◌, ◌<◌, ◌≤◌, List, [], ◌∷◌, ◌++◌, length, map, ap, ◌∙◌, subst, sym, arith, length-append}
use Rattle.std.specs.List.{All, sum_by}
use Rattle.std.proofs.lemmas.List.{length-map, map-append}
use Rattle.std.proofs.lemmas.List.Elements.{All-head, All-nil, All-push, All-tail, All-weaker}
use Rattle.std.proofs.lemmas.List.Sums.{sum_by-cons}
use Rattle.sc_io.specs.declared.source_file.SourceFile.{SourceFile}
use Rattle.sc_io.specs.SourceFile.{source_of, sources_of}
use Rattle.sc_io.specs.SourceTree.{FileOf}
use Rattle.sc_runs.specs.Small.{AreSmall}
use Rattle.sc_sources.specs.Read.{AreWithinLimits}

abbrev IsShort : ℕ → FileOf → Type 0
IsShort n f = length f.bytes ≤ n

total_of_short : (fs : List FileOf) → All (IsShort 1000) fs → sum_by (λ f. length f.bytes) fs ≤ 1000 * length fs
total_of_short [] h = omega arith
total_of_short (f ∷ fs) h =
    omega (arith, sum_by-cons (λ (g : FileOf). length g.bytes) f fs, All-head (IsShort 1000) f fs h, total_of_short fs (All-tail (IsShort 1000) f fs h))

pub no_sources : AreSmall []
no_sources = record { few = omega arith; each = All-nil (IsShort 1000) }

-- one more small source
pub small_added : (old new : List SourceFile) (s : SourceFile) → new ≡ old ++ s ∷ [] → length old < 1000 → length s.bytes.items ≤ 1000 → AreSmall (sources_of old) → AreSmall (sources_of new)
small_added old new s e few short small =
    let moved : sources_of new ≡ sources_of old ++ source_of s ∷ [] = ap sources_of e ∙ map-append source_of old (s ∷ []) in
    subst AreSmall (sym moved) (record { few = fewer; each = All-push (IsShort 1000) (sources_of old) (source_of s) small.each short })
  where
    fewer : length (sources_of old ++ source_of s ∷ []) ≤ 1000
    fewer = omega (arith, few, length-append (sources_of old) (source_of s ∷ []), length-map old source_of)

-- small sources are within the limits
pub small_within : (fs : List FileOf) → AreSmall fs → AreWithinLimits fs
small_within fs small = record {
  files = omega (arith, small.few);
  each = All-weaker (IsShort 1000) (IsShort 1048576) (λ f short. omega (arith, short)) fs small.each;
  total = omega (arith, small.few, total_of_short fs small.each);
}
