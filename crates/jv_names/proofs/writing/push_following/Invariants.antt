use Rattle.std.proofs.Common.{◌≡◌, ◌++◌, drop}
use Rattle.std.specs.String.{string_bytes}
use Rattle.jv_layout.specs.Folder.{numbers_of}
use Rattle.jv_layout.specs.Titles.{following}
use Rattle.jv_names.proofs.writing.push_following.Given as goal

abbrev pub invariant-loop-ident : goal.invariant-loop-ident
invariant-loop-ident l = string_bytes l.fn.text ++ following l.names (numbers_of l.ids) ≡ string_bytes l.text ++ following l.names (numbers_of (drop l.ident-index l.ids))
