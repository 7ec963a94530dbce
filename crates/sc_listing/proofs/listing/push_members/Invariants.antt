use Rattle.std.proofs.Common.{◌≡◌, ◌++◌, string_bytes, take}
use Rattle.std.specs.List.{flat_map}
use Rattle.sc_listing.specs.Graph.{member_line}
use Rattle.sc_listing.specs.Listed.{listed_of}
use Rattle.sc_listing.proofs.listing.push_members.Given as goal

abbrev pub invariant-loop-member : goal.invariant-loop-member
invariant-loop-member l = string_bytes l.text ≡ string_bytes l.initial.text ++ flat_map (member_line (listed_of l.w) l.graph l.ty) (take l.member-index l.members)
