use Rattle.std.proofs.Common.{◌≡◌, ◌++◌, codes, string_bytes, take}
use Rattle.std.specs.List.{flat_map}
use Rattle.jv_layout.specs.Titles.{type_text}
use Rattle.sc_listing.proofs.members.push_further.Given as goal

abbrev pub invariant-loop-ty : goal.invariant-loop-ty
invariant-loop-ty l = string_bytes l.text ≡ string_bytes l.initial.text ++ flat_map (λ t. codes "," ++ type_text l.w.layout.now l.w.names.now t) (take l.ty-index l.types)
