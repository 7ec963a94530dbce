use Rattle.std.proofs.Common.{get_or, ap, ◌∙◌}
use Rattle.jv_layout.specs.Readers.{members_of_type, signature_scope}
use Rattle.jv_names.specs.Replies.{reply_to}
use Rattle.jv_unit.specs.Kept.{folder_of}
use Rattle.jv_unit.proofs.OwnMembers.{datum_unknown, datum_written, signature_is}
use Rattle.jv_unit.proofs.member_rules.read_datum.Goals as goal

pub returns-in_err-signature : goal.returns-in_err-signature
returns-in_err-signature c = datum_unknown (reply_to c.args.o.now) (folder_of c.args.w.now) c.args.t (get_or (members_of_type c.args.w.now.layout c.args.t) c.args.place 0) c.member_number.result c.member_number.ensures.number c.in_err-signature.field-0.0 c.from_residual.result c.from_residual.ensures.1 c.in_err-signature.ensures

pub returns : goal.returns
returns c =
    datum_written (reply_to c.args.o.now) (folder_of c.args.w.now) c.args.t (get_or (members_of_type c.args.w.now.layout c.args.t) c.args.place 0) c.member_number.result c.member_number.ensures.number c.in_ok-signature.signature c.signature_scope-scope.result c.datum_writes.result
    (signature_is c.args.w.now.layout c.args.t c.requires.within c.args.place c.requires.place c.member_at.result c.signature_scope-scope.result c.member_at.ensures (c.signature_scope-scope.ensures ∙ ap (λ l. signature_scope l c.member_at.result) c.layout.ensures))
    c.in_ok-signature.ensures c.datum_writes.ensures
