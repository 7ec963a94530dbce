-- What a scope's datum is in a held graph.
use Rattle.sg_base.specs.declared.scope.Scope.{Scope}
use Rattle.sg_base.specs.Graph.{HasDatum, HasNoDatum}
use Rattle.sg_base.specs.State.{IsUnset}
use Rattle.sg_state.specs.declared.datum_state.DatumState.{DatumState}
use Rattle.sg_state.specs.declared.datum_state.DatumState.TheVariants.{Set, Unset, Absent}
use Rattle.sg_state.specs.Held.{HeldOf, state_of}

-- the scope has this datum, or its datum is unset, or it has none and none will come
abbrev pub IsDatumState : {D : Type 0} → HeldOf D → Scope → DatumState D → Type 0
IsDatumState h s (Set d) = HasDatum h.graph s d.now
IsDatumState h s Unset = IsUnset (state_of h) s
IsDatumState h s Absent = (IsUnset (state_of h) s → ⊥) × HasNoDatum h.graph s
