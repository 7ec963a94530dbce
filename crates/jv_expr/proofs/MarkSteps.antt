-- A number that is none of a mark has no text.
use Rattle.std.proofs.Common.{◌≡◌, ℕ, ◌≤◌, [], slice_index_or, sym}
use Rattle.std.proofs.lemmas.List.{get_or_past}
use Rattle.jv_lex.specs.Punctuation.{marks}

pub mark_past : (n : ℕ) → 50 ≤ n → [] ≡ slice_index_or marks n []
mark_past n past = sym (get_or_past marks n [] past)
