use Rattle.std.proofs.Common.{List, [], Ok, Err, refl, subst}
use Rattle.sg_base.specs.declared.scope.Scope.{Scope}
use Rattle.sg_reading.specs.Stop.{Reads}
use Rattle.sg_reading.proofs.Steps.{stops}
use Rattle.jv_tree.specs.DeclTree.{import_tree}
use Rattle.jv_names.specs.Reference.{refused}
use Rattle.jv_names.specs.Replies.{reply_to}
use Rattle.jv_header.specs.Imports.{import_reference}
use Rattle.jv_header.proofs.Steps.{imported, access_of_import_unknown}
use Rattle.jv_header.proofs.imports.read_import_reference.Goals as goal

pub returns-in_err-refused : goal.returns-in_err-refused
returns-in_err-refused c =
    let reply = reply_to c.args.o.now in
    let l = c.args.l.now in
    let file = c.args.file in
    let i = import_tree c.args.import.now in
    let e = c.in_err-refused.field-0.0 in
    stops reply (import_reference l file i) e c.from_residual-in_err-refused.result c.from_residual-in_err-refused.ensures.1
    (access_of_import_unknown reply l file i c.in_ok-resolved.resolved c.new.result.items c.in_ok-resolved.ensures e
    (subst (λ (ts : List Scope). Reads {U = List Scope} reply (refused l file c.new.result.items [] ts) (Err e)) c.as_slice.ensures c.in_err-refused.ensures) c.new.ensures.items)

pub returns : goal.returns
returns c =
    let reply = reply_to c.args.o.now in
    let l = c.args.l.now in
    let file = c.args.file in
    let i = import_tree c.args.import.now in
    imported reply l file i c.in_ok-resolved.resolved c.new.result.items c.in_ok-resolved.ensures c.in_ok-refused.refused (record { meaning = c.in_ok-resolved.resolved.meaning; refused = c.in_ok-refused.refused })
    (subst (λ (ts : List Scope). Reads reply (refused l file c.new.result.items [] ts) (Ok c.in_ok-refused.refused)) c.as_slice.ensures c.in_ok-refused.ensures) c.new.ensures.items refl
