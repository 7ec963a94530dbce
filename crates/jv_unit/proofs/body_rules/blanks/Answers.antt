use Rattle.std.proofs.Common.{sym, ap, ◌∙◌, arith}
use Rattle.jv_layout.specs.Scopes.{member_scope}
use Rattle.jv_member.specs.MemberDecls.{own_of}
use Rattle.jv_unit.specs.Kept.{folder_of}
use Rattle.jv_unit.proofs.MemberBodies.{blanks_more, blanks_skip}
use Rattle.jv_unit.proofs.body_rules.blanks.Goals as goal
use Rattle.jv_unit.proofs.body_rules.blanks.Goals.{then-is_blank+in_ok-push, else-is_blank}

pub loop-place-preserved : goal.loop-place-preserved
loop-place-preserved c =
    elim c.if-is_blank.branch [
      | then-is_blank+in_ok-push w ↦ w.found-is
          ∙ blanks_more (folder_of c.args.w.now) c.args.t c.loop-place.place (omega (arith, c.loop-place-test.true, c.member_count-place-end.ensures.count)) c.member_number.result c.member_number.ensures.number c.layout.result.now c.member_at-scope.result (own_of c.member-member.result) c.is_blank.result c.loop-place.found c.layout.ensures (c.member_at-scope.ensures ∙ ap (member_scope c.args.w.now.layout) (sym c.member_number.ensures.number))
          c.member-member.ensures c.is_blank.ensures c.loop-place.invariant _ w.if-is_blank.true w.in_ok-push.ensures.ok
      | else-is_blank w ↦ w.found-is
          ∙ blanks_skip (folder_of c.args.w.now) c.args.t c.loop-place.place (omega (arith, c.loop-place-test.true, c.member_count-place-end.ensures.count)) c.member_number.result c.member_number.ensures.number c.layout.result.now c.member_at-scope.result (own_of c.member-member.result) c.is_blank.result c.loop-place.found c.layout.ensures (c.member_at-scope.ensures ∙ ap (member_scope c.args.w.now.layout) (sym c.member_number.ensures.number))
          c.member-member.ensures c.is_blank.ensures c.loop-place.invariant w.if-is_blank.false
    ]
