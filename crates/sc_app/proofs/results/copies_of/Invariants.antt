use Rattle.std.proofs.Common.{◌≡◌, map, take}
use Rattle.jv_diag.specs.Plain.{diag_of}
use Rattle.sc_app.proofs.results.copies_of.Given as goal

abbrev pub invariant-loop-d : goal.invariant-loop-d
invariant-loop-d l = l.copies ≡ map diag_of (take l.d-index l.diags)
