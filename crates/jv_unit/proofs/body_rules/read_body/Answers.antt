use Rattle.std.proofs.Common.{[], map, refl, sym, ap, ◌∙◌}
use Rattle.sg_reading.proofs.Steps.{done_reads}
use Rattle.jv_member.specs.MemberDecls.{own_of}
use Rattle.jv_names.specs.Replies.{reply_to}
use Rattle.jv_tree.specs.TypeTree.{ids_of}
use Rattle.jv_unit.specs.Kept.{folder_of}
use Rattle.jv_unit.specs.Trees.{extends_of}
use Rattle.jv_unit.proofs.CheckRules.{body_reached, body_read, own_reached}
use Rattle.jv_unit.proofs.body_rules.read_body.Goals as goal

pub read_method_body-requires : goal.read_method_body-requires
read_method_body-requires c =
    own_reached (reply_to c.args.o.now) (folder_of c.args.w.now) c.args.t c.args.blanks.now c.args.m c.layout-l.result.now c.names-n.result.now c.ty-ty.result (map ids_of c.as_slice-extends.result.now) c.args.blanks.now c.args.scope _
    c.layout-l.ensures c.names-n.ensures c.ty-ty.ensures (ap (map ids_of) c.as_slice-extends.ensures.value ∙ ap extends_of c.decl.ensures) refl c.requires.scope (sym (ap own_of c.in-Method.is) ∙ c.member.ensures)
    c.args.progress.now c.requires.so_far

pub read_ctor_body-requires : goal.read_ctor_body-requires
read_ctor_body-requires c =
    own_reached (reply_to c.args.o.now) (folder_of c.args.w.now) c.args.t c.args.blanks.now c.args.m c.layout-l.result.now c.names-n.result.now c.ty-ty.result (map ids_of c.as_slice-extends.result.now) c.args.blanks.now c.args.scope _
    c.layout-l.ensures c.names-n.ensures c.ty-ty.ensures (ap (map ids_of) c.as_slice-extends.ensures.value ∙ ap extends_of c.decl.ensures) refl c.requires.scope (sym (ap own_of c.in-Ctor.is) ∙ c.member.ensures)
    c.args.progress.now c.requires.so_far

pub returns-in-Field-clause-reads : goal.returns-in-Field-clause-reads
returns-in-Field-clause-reads c =
    body_read (reply_to c.args.o.now) (folder_of c.args.w.now) c.args.t c.args.blanks.now c.args.m c.layout-l.result.now c.names-n.result.now c.ty-ty.result (map ids_of c.as_slice-extends.result.now) c.args.blanks.now c.args.scope _
    c.layout-l.ensures c.names-n.ensures c.ty-ty.ensures (ap (map ids_of) c.as_slice-extends.ensures.value ∙ ap extends_of c.decl.ensures) refl c.requires.scope (sym (ap own_of c.in-Field.is) ∙ c.member.ensures)
    _ c.read_field_init.ensures

pub returns-in-Method-clause-reads : goal.returns-in-Method-clause-reads
returns-in-Method-clause-reads c =
    body_read (reply_to c.args.o.now) (folder_of c.args.w.now) c.args.t c.args.blanks.now c.args.m c.layout-l.result.now c.names-n.result.now c.ty-ty.result (map ids_of c.as_slice-extends.result.now) c.args.blanks.now c.args.scope _
    c.layout-l.ensures c.names-n.ensures c.ty-ty.ensures (ap (map ids_of) c.as_slice-extends.ensures.value ∙ ap extends_of c.decl.ensures) refl c.requires.scope (sym (ap own_of c.in-Method.is) ∙ c.member.ensures)
    _ c.read_method_body.ensures.reads

pub returns-in-Method-clause-so_far : goal.returns-in-Method-clause-so_far
returns-in-Method-clause-so_far c =
    body_reached (reply_to c.args.o.now) (folder_of c.args.w.now) c.args.t c.args.blanks.now c.args.m c.layout-l.result.now c.names-n.result.now c.ty-ty.result (map ids_of c.as_slice-extends.result.now) c.args.blanks.now c.args.scope _
    c.layout-l.ensures c.names-n.ensures c.ty-ty.ensures (ap (map ids_of) c.as_slice-extends.ensures.value ∙ ap extends_of c.decl.ensures) refl c.requires.scope (sym (ap own_of c.in-Method.is) ∙ c.member.ensures)
    c.read_method_body.new.progress c.read_method_body.ensures.left

pub returns-in-Ctor-clause-reads : goal.returns-in-Ctor-clause-reads
returns-in-Ctor-clause-reads c =
    body_read (reply_to c.args.o.now) (folder_of c.args.w.now) c.args.t c.args.blanks.now c.args.m c.layout-l.result.now c.names-n.result.now c.ty-ty.result (map ids_of c.as_slice-extends.result.now) c.args.blanks.now c.args.scope _
    c.layout-l.ensures c.names-n.ensures c.ty-ty.ensures (ap (map ids_of) c.as_slice-extends.ensures.value ∙ ap extends_of c.decl.ensures) refl c.requires.scope (sym (ap own_of c.in-Ctor.is) ∙ c.member.ensures)
    _ c.read_ctor_body.ensures.reads

pub returns-in-Ctor-clause-so_far : goal.returns-in-Ctor-clause-so_far
returns-in-Ctor-clause-so_far c =
    body_reached (reply_to c.args.o.now) (folder_of c.args.w.now) c.args.t c.args.blanks.now c.args.m c.layout-l.result.now c.names-n.result.now c.ty-ty.result (map ids_of c.as_slice-extends.result.now) c.args.blanks.now c.args.scope _
    c.layout-l.ensures c.names-n.ensures c.ty-ty.ensures (ap (map ids_of) c.as_slice-extends.ensures.value ∙ ap extends_of c.decl.ensures) refl c.requires.scope (sym (ap own_of c.in-Ctor.is) ∙ c.member.ensures)
    c.read_ctor_body.new.progress c.read_ctor_body.ensures.left

pub returns-in-DefaultCtor-clause-reads : goal.returns-in-DefaultCtor-clause-reads
returns-in-DefaultCtor-clause-reads c =
    body_read (reply_to c.args.o.now) (folder_of c.args.w.now) c.args.t c.args.blanks.now c.args.m c.layout-l.result.now c.names-n.result.now c.ty-ty.result (map ids_of c.as_slice-extends.result.now) c.args.blanks.now c.args.scope _
    c.layout-l.ensures c.names-n.ensures c.ty-ty.ensures (ap (map ids_of) c.as_slice-extends.ensures.value ∙ ap extends_of c.decl.ensures) refl c.requires.scope (sym (ap own_of c.in-DefaultCtor.is) ∙ c.member.ensures)
    _ (done_reads (reply_to c.args.o.now) [] c.empty.result (sym c.empty.ensures))
