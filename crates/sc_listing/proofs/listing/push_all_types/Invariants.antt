use Rattle.std.proofs.Common.{◌≡◌, ◌++◌, string_bytes, take}
use Rattle.std.specs.List.{flat_map}
use Rattle.sc_listing.specs.Graph.{type_lines}
use Rattle.sc_listing.specs.Listed.{listed_of}
use Rattle.sc_listing.proofs.listing.push_all_types.Given as goal

abbrev pub invariant-loop-ty : goal.invariant-loop-ty
invariant-loop-ty l = string_bytes l.text ≡ string_bytes l.initial.text ++ flat_map (type_lines (listed_of l.w) l.graph) (take l.ty-index l.types)
