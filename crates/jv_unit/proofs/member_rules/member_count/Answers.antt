use Rattle.std.proofs.Common.{ap, ◌∙◌, arith}
use Rattle.jv_layout.specs.Folder.{LayoutOf}
use Rattle.jv_layout.specs.Readers.{members_of}
use Rattle.jv_unit.proofs.OwnMembers.{count_members, few_members}
use Rattle.jv_unit.proofs.member_rules.member_count.Goals as goal

pub returns-clause-few : goal.returns-clause-few
returns-clause-few c =
    omega (arith, few_members c.args.w.now.layout c.args.t c.requires.whole.folder.few, count_members c.args.w.now.layout c.args.t c.requires.within c.ty.result c.members.result.now c.ty.ensures (c.members.ensures ∙ ap (λ (l : LayoutOf). members_of l c.ty.result) c.layout.ensures))
