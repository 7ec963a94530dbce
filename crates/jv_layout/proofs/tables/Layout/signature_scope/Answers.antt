use Rattle.std.proofs.Common.{subst}
use Rattle.jv_layout.specs.Scopes.{IsPlace}
use Rattle.jv_layout.proofs.tables.Layout.signature_scope.Goals as goal

pub signature_of_member-requires : goal.signature_of_member-requires
signature_of_member-requires c = subst (IsPlace c.args.self.now) c.in-Member.is c.place.ensures.row
