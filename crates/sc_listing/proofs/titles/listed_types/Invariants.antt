use Rattle.std.proofs.Common.{◌≡◌, nat_le, take}
use Rattle.std.specs.List.{filter}
use Rattle.jv_layout.specs.Readers.{file_of, types_of}
use Rattle.sc_listing.proofs.titles.listed_types.Given as goal

abbrev pub invariant-loop-t : goal.invariant-loop-t
invariant-loop-t l = l.types.items ≡ filter (λ t. nat_le 2 (file_of l.w.layout.now t)) (take l.t-index (types_of l.w.layout.now))
