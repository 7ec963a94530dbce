use Rattle.std.proofs.Common.{map, take}
use Rattle.sg_state.specs.Opening.{edge_of}
use Rattle.sg_state.specs.Part.{ArePartsOf}
use Rattle.sg_state.proofs.parts.parts_of.Given as goal

abbrev pub invariant-loop-from : goal.invariant-loop-from
invariant-loop-from g l = ArePartsOf g.I.Instance.datum_key l.places.entries (map edge_of (take l.from-index l.list)) l.parts.entries
