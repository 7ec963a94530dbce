use Rattle.std.proofs.Common.{◌≡◌, ◌++◌, map, drop}
use Rattle.jv_names.specs.Read.{ty_in}
use Rattle.jv_names.proofs.read.types_in.Given as goal

abbrev pub invariant-loop-ty : goal.invariant-loop-ty
invariant-loop-ty l = l.found.items ++ map (ty_in l.l) (drop l.ty-index l.types) ≡ map (ty_in l.l) l.fn.types
