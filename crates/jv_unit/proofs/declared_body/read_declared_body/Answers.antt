use Rattle.std.proofs.Common.{[], map, refl, sym, ap, ◌∙◌}
use Rattle.sg_reading.proofs.Steps.{done_reads}
use Rattle.jv_member.specs.MemberDecls.{own_of}
use Rattle.jv_names.specs.Replies.{reply_to}
use Rattle.jv_tree.specs.DeclTree.{ctor_tree, method_tree, type_decl_tree}
use Rattle.jv_tree.specs.TypeTree.{ids_of}
use Rattle.jv_unit.proofs.CheckRules.{new_ctor, new_method}
use Rattle.jv_unit.proofs.DeclaredBodies.{body_read}
use Rattle.jv_unit.proofs.declared_body.read_declared_body.Goals as goal

pub read_method_body-requires : goal.read_method_body-requires
read_method_body-requires c =
    new_method c.args.l.now c.args.names.now c.args.ty (map ids_of c.as_slice-extends.result.now) c.new-progress.result c.new-progress.ensures (reply_to c.args.o.now) c.args.member (method_tree c.in-Method.method.now)

pub read_ctor_body-requires : goal.read_ctor_body-requires
read_ctor_body-requires c =
    new_ctor c.args.l.now c.args.names.now c.args.ty (map ids_of c.as_slice-extends.result.now) c.new-progress.result c.new-progress.ensures (reply_to c.args.o.now) c.as_slice-blanks.result.now c.args.member (ctor_tree c.in-Ctor.ctor.now)

pub returns-in-Method : goal.returns-in-Method
returns-in-Method c =
    body_read (reply_to c.args.o.now) c.args.l.now c.args.names.now c.args.ty (type_decl_tree c.args.decl.now) c.args.member (map ids_of c.as_slice-extends.result.now) c.members-scopes.result.now (map own_of c.as_slice-members.result.now) _
    (ap (map ids_of) c.as_slice-extends.ensures.value) c.members-scopes.ensures (ap (map own_of) c.as_slice-members.ensures.value ∙ c.in_ok-own.ensures) (sym (ap own_of c.in-Method.is) ∙ c.member_with.ensures)
    _ _ refl c.read_method_body.ensures.reads

pub returns-in-Ctor : goal.returns-in-Ctor
returns-in-Ctor c =
    body_read (reply_to c.args.o.now) c.args.l.now c.args.names.now c.args.ty (type_decl_tree c.args.decl.now) c.args.member (map ids_of c.as_slice-extends.result.now) c.members-scopes.result.now (map own_of c.as_slice-members.result.now) _
    (ap (map ids_of) c.as_slice-extends.ensures.value) c.members-scopes.ensures (ap (map own_of) c.as_slice-members.ensures.value ∙ c.in_ok-own.ensures) (sym (ap own_of c.in-Ctor.is) ∙ c.member_with.ensures)
    c.as_slice-blanks.result.now _ (c.as_slice-blanks.ensures ∙ c.in_ok-found-in-Ctor.ensures) c.read_ctor_body.ensures.reads

pub returns-in-Field : goal.returns-in-Field
returns-in-Field c =
    body_read (reply_to c.args.o.now) c.args.l.now c.args.names.now c.args.ty (type_decl_tree c.args.decl.now) c.args.member (map ids_of c.as_slice-extends.result.now) c.members-scopes.result.now (map own_of c.as_slice-members.result.now) _
    (ap (map ids_of) c.as_slice-extends.ensures.value) c.members-scopes.ensures (ap (map own_of) c.as_slice-members.ensures.value ∙ c.in_ok-own.ensures) (sym (ap own_of c.in-Field.is) ∙ c.member_with.ensures)
    _ _ refl (done_reads (reply_to c.args.o.now) [] c.empty.result (sym c.empty.ensures))

pub returns : goal.returns
returns c =
    body_read (reply_to c.args.o.now) c.args.l.now c.args.names.now c.args.ty (type_decl_tree c.args.decl.now) c.args.member (map ids_of c.as_slice-extends.result.now) c.members-scopes.result.now (map own_of c.as_slice-members.result.now) _
    (ap (map ids_of) c.as_slice-extends.ensures.value) c.members-scopes.ensures (ap (map own_of) c.as_slice-members.ensures.value ∙ c.in_ok-own.ensures) (sym (ap own_of c.in-DefaultCtor.is) ∙ c.member_with.ensures)
    _ _ refl (done_reads (reply_to c.args.o.now) [] c.empty-in-DefaultCtor.result (sym c.empty-in-DefaultCtor.ensures))
