use Rattle.std.proofs.Common.{◌≡◌, ◌++◌, string_bytes, take}
use Rattle.std.specs.List.{flat_map}
use Rattle.sc_listing.specs.Listed.{listed_of}
use Rattle.sc_listing.specs.Questions.{step_text}
use Rattle.sc_listing.proofs.questions.push_steps.Given as goal

abbrev pub invariant-loop-step : goal.invariant-loop-step
invariant-loop-step l = string_bytes l.text ≡ string_bytes l.initial.text ++ flat_map (step_text (listed_of l.w)) (take l.step-index l.steps)
