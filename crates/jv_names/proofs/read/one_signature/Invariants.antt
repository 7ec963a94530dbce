use Rattle.std.proofs.Common.{◌≡◌, drop}
use Rattle.std.specs.List.{filter}
use Rattle.jv_layout.specs.Fits.{fits}
use Rattle.jv_names.specs.Read.{one_signature}
use Rattle.jv_names.proofs.ReadSteps.{signature_from}
use Rattle.jv_names.proofs.read.one_signature.Given as goal

abbrev pub invariant-loop-k : goal.invariant-loop-k
invariant-loop-k l =
    one_signature l.l (filter (λ f. fits l.l f.path) l.paths) ≡ signature_from l.l l.first (filter (λ f. fits l.l f.path) (drop l.k l.paths))
