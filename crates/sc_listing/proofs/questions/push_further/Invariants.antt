use Rattle.std.proofs.Common.{◌≡◌, ◌++◌, codes, string_bytes, drop}
use Rattle.std.specs.List.{flat_map}
use Rattle.sc_listing.specs.Listed.{listed_of}
use Rattle.sc_listing.specs.Questions.{path_text}
use Rattle.sc_listing.proofs.questions.push_further.Given as goal

abbrev pub invariant-loop-k : goal.invariant-loop-k
invariant-loop-k l =
    string_bytes l.text ++ flat_map (λ f. codes "; " ++ path_text (listed_of l.w) f.path) (drop l.k l.found) ≡ string_bytes l.initial.text ++ flat_map (λ f. codes "; " ++ path_text (listed_of l.w) f.path) (drop 1 l.found)
