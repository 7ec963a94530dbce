use Rattle.std.proofs.Common.{◌≡◌, map}
use Rattle.std.specs.List.{range_with_len}
use Rattle.jv_layout.specs.Scopes.{file_scope}
use Rattle.sc_listing.proofs.titles.listed_files.Given as goal

abbrev pub invariant-loop-k : goal.invariant-loop-k
invariant-loop-k l = l.files.items ≡ map (file_scope l.w.layout.now) (range_with_len 2 l.k)
