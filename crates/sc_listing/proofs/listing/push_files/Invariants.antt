use Rattle.std.proofs.Common.{◌≡◌, ◌++◌, string_bytes, take}
use Rattle.std.specs.List.{flat_map}
use Rattle.sc_listing.specs.Graph.{file_lines}
use Rattle.sc_listing.specs.Listed.{listed_of}
use Rattle.sc_listing.proofs.listing.push_files.Given as goal

abbrev pub invariant-loop-file : goal.invariant-loop-file
invariant-loop-file l = string_bytes l.text ≡ string_bytes l.initial.text ++ flat_map (file_lines (listed_of l.w) l.graph) (take l.file-index l.files)
