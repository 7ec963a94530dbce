use Rattle.std.proofs.Common.{length, zero-add}
use Rattle.std.proofs.lemmas.List.FromFn.{get_or-map-range_with_len}
use Rattle.jv_layout.specs.Scopes.{type_scope}
use Rattle.jv_unit.proofs.folder.Folder.ty.Goals as goal

pub returns : goal.returns
returns c = rw c.types.ensures (get_or-map-range_with_len (type_scope c.args.self.now.layout) 0 (length c.args.self.now.layout.types) c.args.t c.args.t (record { unit = 0; serial = 0 }) c.requires.within (zero-add c.args.t))
