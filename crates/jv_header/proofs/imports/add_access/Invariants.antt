use Rattle.std.proofs.Common.{◌≡◌, ◌++◌, drop}
use Rattle.jv_names.specs.Reference.{access_diags}
use Rattle.jv_header.proofs.imports.add_access.Given as goal

abbrev pub invariant-loop-ty : goal.invariant-loop-ty
invariant-loop-ty l = l.fn.diags ++ access_diags l.l l.names l.file l.ids l.types ≡ l.diags ++ access_diags l.l l.names l.file l.ids (drop l.ty-index l.types)
