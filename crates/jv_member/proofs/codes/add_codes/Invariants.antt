use Rattle.std.proofs.Common.{◌≡◌, ◌++◌, drop}
use Rattle.jv_member.specs.Overriding.{code_diags}
use Rattle.jv_member.proofs.codes.add_codes.Given as goal

abbrev pub invariant-loop-code : goal.invariant-loop-code
invariant-loop-code l = l.fn.diags ++ code_diags l.l l.names l.ty l.place l.name l.fn.codes ≡ l.diags ++ code_diags l.l l.names l.ty l.place l.name (drop l.code-index l.codes)
