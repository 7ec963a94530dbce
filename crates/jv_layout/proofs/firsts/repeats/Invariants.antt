use Rattle.std.proofs.Common.{◌≡◌, map, take}
use Rattle.std.specs.Prelude.{not}
use Rattle.std.specs.List.{list_any}
use Rattle.jv_layout.specs.declared.firsts.Key.{Key}
use Rattle.jv_layout.specs.Keys.{is_key, is_first}
use Rattle.jv_layout.specs.Skeleton.{below}
use Rattle.jv_layout.proofs.firsts.repeats.Given as goal

abbrev pub invariant-loop-key : goal.invariant-loop-key
invariant-loop-key l = record {
  seen : (q : Key) → list_any (is_key q) l.seen.keys ≡ list_any (is_key q) (take l.key-index l.keys);
  repeats : l.repeats.items ≡ map (λ i. not (is_first l.keys i)) (below l.key-index);
}
