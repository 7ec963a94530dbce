use Rattle.std.proofs.Common.{List, ℕ, Ok, sym, subst}
use Rattle.sg_base.specs.declared.scope.Scope.{Scope}
use Rattle.sg_reading.specs.Stop.{Reads, Replied}
use Rattle.sg_reading.proofs.Steps.{known_reads}
use Rattle.jv_layout.specs.Readers.{file_of}
use Rattle.jv_tree.specs.TypeTree.{ids_of}
use Rattle.jv_names.specs.Reference.{reference}
use Rattle.jv_names.specs.Replies.{reply_to}
use Rattle.jv_header.specs.Circular.{IsOpenOrRead}
use Rattle.jv_header.specs.Header.{header_reference}
use Rattle.jv_header.proofs.Waiting.{known_open}
use Rattle.jv_header.proofs.circular.is_open.Goals as goal

pub returns : goal.returns
returns c =
    let reply = reply_to c.args.o.now in
    let l = c.args.l.now in
    let ids = ids_of c.args.name.now in
    let read : Reads reply (header_reference l c.args.ty ids) c.read_reference.result =
    subst (λ (bodies : List Scope). Reads reply (reference l (file_of l c.args.ty) bodies ids) c.read_reference.result) c.requires.inside
    (subst (λ (f : ℕ). Reads reply (reference l f c.args.spot.now.inside.items ids) c.read_reference.result) c.requires.file c.read_reference.ensures) in
    subst (λ b. IsOpenOrRead (Replied reply) l c.args.ty ids b) (sym c.is_missing.ensures)
    (known_open reply l c.args.ty ids c.in_ok-known.known (known_reads reply (header_reference l c.args.ty ids) c.read_reference.result (Ok c.in_ok-known.known) c.in_ok-known.ensures read))
