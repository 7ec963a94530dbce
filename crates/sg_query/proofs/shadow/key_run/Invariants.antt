use Rattle.std.proofs.Common.{◌≡◌, take}
use Rattle.std.specs.List.{Contains}
use Rattle.sg_query.specs.declared.found_at.FoundAt.{FoundAt}
use Rattle.sg_query.proofs.shadow.key_run.Given as goal

abbrev pub invariant-loop-n : goal.invariant-loop-n
invariant-loop-n g l = (f : FoundAt g.row.I-Datum.Denot) → Contains (take l.n l.rest) f → g.I.Instance.datum_key f.datum ≡ l.key
