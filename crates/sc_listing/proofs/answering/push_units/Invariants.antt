use Rattle.std.proofs.Common.{◌≡◌, ◌++◌, ℕ, List, map, string_bytes, take}
use Rattle.sc_listing.specs.Answers.{AreUnitTexts}
use Rattle.sc_listing.specs.ByUnit.{entries_at}
use Rattle.sc_listing.specs.Listed.{listed_of}
use Rattle.sc_listing.proofs.answering.push_units.Given as goal

abbrev pub invariant-loop-s : goal.invariant-loop-s
invariant-loop-s l =
    (units : List ℕ) × AreUnitTexts (listed_of l.w) (entries_at (map (λ v. map (λ e. e.now) v.items) l.entries)) (take l.s-index l.scopes) units
    × (string_bytes l.text ≡ string_bytes l.initial.text ++ units)
