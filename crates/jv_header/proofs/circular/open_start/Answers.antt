use Rattle.std.proofs.Common.{List, map, ◌∙◌, ap, subst}
use Rattle.sg_reading.specs.Stop.{Replied}
use Rattle.jv_tree.specs.declared.name.Name.{Name}
use Rattle.jv_tree.specs.TypeTree.{ids_of}
use Rattle.jv_names.specs.Replies.{reply_to}
use Rattle.jv_names.specs.Written.{start_of}
use Rattle.jv_header.specs.Circular.{IsFirstOpen}
use Rattle.jv_header.proofs.Waiting.{all_read, open_at, starts_second}
use Rattle.jv_header.proofs.circular.open_start.Goals as goal

pub unreachable-requires : goal.unreachable-requires
unreachable-requires c =
    let R = Replied (reply_to c.args.o.now) in
    let l = c.args.l.now in
    let ty = c.args.ty in
    let extends = c.args.decl.now.extends.items in
    let implements = c.args.decl.now.implements.items in
    c.requires.waits
    (all_read R l ty (map ids_of extends) c.in_ok-i.field-0 (subst (λ (ns : List Name). IsFirstOpen R l ty (map ids_of ns) c.in_ok-i.field-0) c.as_slice.ensures.value c.in_ok-i.ensures) c.in_default.not-Some)
    (subst (λ o. IsFirstOpen R l ty (map ids_of implements) o) c.in-None.is (subst (λ (ns : List Name). IsFirstOpen R l ty (map ids_of ns) c.in_ok-i-2.field-0) c.as_slice-2.ensures.value c.in_ok-i-2.ensures))

pub returns : goal.returns
returns c =
    let R = Replied (reply_to c.args.o.now) in
    let l = c.args.l.now in
    let ty = c.args.ty in
    let extends = c.args.decl.now.extends.items in
    let implements = c.args.decl.now.implements.items in
    starts_second R l ty (map ids_of extends) implements c.in-Some-2.i c.index-in-Some-2.result.now c.start_of-in-Some-2.result
    (all_read R l ty (map ids_of extends) c.in_ok-i.field-0 (subst (λ (ns : List Name). IsFirstOpen R l ty (map ids_of ns) c.in_ok-i.field-0) c.as_slice.ensures.value c.in_ok-i.ensures) c.in_default.not-Some)
    (open_at R l ty (map ids_of implements) c.in_ok-i-2.field-0 c.in-Some-2.i (subst (λ (ns : List Name). IsFirstOpen R l ty (map ids_of ns) c.in_ok-i-2.field-0) c.as_slice-2.ensures.value c.in_ok-i-2.ensures) c.in-Some-2.is)
    (c.start_of-in-Some-2.ensures ∙ ap start_of (c.as_slice-in-Some-2.ensures.value ∙ ap ids_of c.index-in-Some-2.ensures))
