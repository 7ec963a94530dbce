-- A tree over the file system, seen as the count of its faults.
use Rattle.std.specs.Prelude.{◌≡◌, ℕ, List, Result, Ok, Err, All, String, string_bytes}
use Rattle.std.specs.declared.alloc.Global.{Global}
use Rattle.sc_io.specs.declared.fault.TreeFault.{TreeFault}
use Rattle.sc_io.specs.declared.fault.TreeFault.TheVariants.{Failed, OutOfMemory}
use Rattle.sc_io.specs.Faults.{risen}
use Rattle.sc_io.specs.SourceTree.{IsJavaPath}

-- the count rises by one where the call failed, and only there
abbrev pub CountsFault : {A : Type 0} → ℕ → Result A TreeFault → ℕ → Type 0
CountsFault before (Ok _) after = after ≡ before
CountsFault before (Err Failed) after = after ≡ risen before
CountsFault before (Err OutOfMemory) after = after ≡ before

-- each path is that of a Java source
pub record AreSources (paths : List (String Global)) : Type 0 where
  pub each : All (λ path. IsJavaPath (string_bytes path)) paths
