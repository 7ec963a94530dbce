use Rattle.std.proofs.Common.{◌≡◌, ◌≤◌, count_by, nat_le, take}
use Rattle.jv_layout.specs.Readers.{file_of}
use Rattle.sc_app.proofs.prepared.own_types.Given as goal

abbrev pub invariant-loop-ty : goal.invariant-loop-ty
invariant-loop-ty l = (l.count ≡ count_by (λ s. nat_le 2 (file_of l.layout s)) (take l.ty-index l.types)) × (l.count ≤ l.ty-index)
