use Rattle.std.proofs.Common.{◌≡◌, [], drop, fold}
use Rattle.std.specs.List.{filter}
use Rattle.sg_base.specs.List.{IsRising}
use Rattle.sg_base.specs.Scope.{scope_cmp}
use Rattle.sg_state.specs.Held.{put}
use Rattle.jv_names.specs.Statics.{is_brought}
use Rattle.jv_names.proofs.statics.brought_among.Given as goal

abbrev pub invariant-loop-member : goal.invariant-loop-member
invariant-loop-member l = record {
  rising : IsRising scope_cmp l.brought;
  rest : fold (put scope_cmp) l.brought (filter (is_brought l.l l.file) (drop l.member-index l.members)) ≡ fold (put scope_cmp) [] (filter (is_brought l.l l.file) l.members);
}
