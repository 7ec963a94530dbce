-- Runs of orderly units that are over.
use Rattle.std.specs.Prelude.{ℕ, List, ◌⊎◌, IsTrue}
use Rattle.sg_unit.specs.declared.entry.Entry.{Entry}
use Rattle.sg_unit.specs.Run.{Setting, RunOf, run_of}
use Rattle.sg_unit.specs.Step.{IsRun}
use Rattle.sg_unit.specs.Waiting.{IsStuck}
use Rattle.sg_strata.specs.Program.{Program, IsProgram, IsQuiet}
use Rattle.sg_headers.specs.Setting.{Roles, IsProgramSetting, AreOrderly}

-- no unit is live, or all live ones wait
abbrev pub IsOver : {D P : Type 0} → RunOf D P → Type 0
IsOver r = ((u : ℕ) → IsTrue (r.live u) → ⊥) ⊎ IsStuck r

-- a run of orderly units that is over: headers ask from the skeleton and look at no signature, the run begins with the program, is legal, each unit is
-- orderly by its entries, and none goes on
pub record IsOrderlyRun {I R Q D P : Type 0} (p : Program Q D) (z : Setting D P) (k : Roles Q P) (log : List (Entry I R D P)) : Type 0 where
  pub program : IsProgram p
  pub quiet : IsQuiet p
  pub setting : IsProgramSetting p z k
  pub run : IsRun z log
  pub orderly : AreOrderly p z k log
  pub over : IsOver (run_of z log)
