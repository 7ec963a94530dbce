-- A tree over memory of whose calls chosen ones fail.
use Rattle.std.specs.Prelude.{ℕ, List, Result, Ok, Err}
use Rattle.sc_io.specs.declared.fault.TreeFault.{TreeFault}
use Rattle.sc_io.specs.declared.fault.TreeFault.TheVariants.{Failed, OutOfMemory}
use Rattle.sc_io.specs.Faults.{risen}
use Rattle.sc_io.specs.SourceTree.{FileOf}

-- the files, the numbers of the calls that are to fail, how many calls were made and how many failed
pub record MemTreeOf : Type 0 where
  pub files : List FileOf
  pub failing : List ℕ
  pub calls : ℕ
  pub faults : ℕ

-- the tree after a call with this answer: the call is counted, and so is the fault, if it failed
abbrev pub after_call : {A : Type 0} → MemTreeOf → Result A TreeFault → MemTreeOf
after_call t (Ok _) = record t { calls = risen t.calls }
after_call t (Err Failed) = record t { calls = risen t.calls; faults = risen t.faults }
after_call t (Err OutOfMemory) = record t { calls = risen t.calls }
