use Rattle.std.proofs.Common.{◌≡◌, ◌<◌}
use Rattle.std.specs.Prelude.{All}
use Rattle.std.specs.List.{filter}
use Rattle.jv_layout.specs.Keys.{is_first, repeats}
use Rattle.jv_layout.specs.Skeleton.{below}
use Rattle.jv_layout.proofs.firsts.firsts.Given as goal

abbrev pub invariant-loop-place : goal.invariant-loop-place
invariant-loop-place l = record {
  repeats : l.is_repeat-items ≡ repeats l.keys;
  firsts : l.firsts.items ≡ filter (is_first l.keys) (below l.place);
  places : All (λ i. i < l.place) l.firsts.items;
}
