use Rattle.std.proofs.Common.{take}
use Rattle.jv_layout.specs.Declarations.{IsPackages}
use Rattle.jv_layout.proofs.tables.Layout.package_keys.Given as goal

abbrev pub invariant-loop-p : goal.invariant-loop-p
invariant-loop-p l = IsPackages (take l.p l.self.packages) l.found.keys
