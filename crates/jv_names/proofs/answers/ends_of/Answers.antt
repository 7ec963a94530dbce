use Rattle.std.proofs.Common.{◌≡◌, List, fold, sym, ap, ◌∙◌}
use Rattle.sg_base.specs.declared.scope.Scope.{Scope}
use Rattle.sg_base.specs.Scope.{scope_cmp}
use Rattle.sg_state.specs.Held.{put}
use Rattle.jv_names.proofs.Ending.{scope_put}
use Rattle.jv_names.proofs.answers.ends_of.Goals as goal

pub loop-end-preserved : goal.loop-end-preserved
loop-end-preserved c =
    let i = c.loop-end.invariant in
    let set : c.insert.new.self ≡ put scope_cmp c.loop-end.found c.in-Some.end = scope_put c.loop-end.found c.insert.new.self c.in-Some.end i.rising c.insert.ensures.rising (c.in_ok-insert.ensures).ok in
    record {
      rising = c.insert.ensures.rising;
      rest = i.rest ∙ (ap (λ (es : List Scope). fold (put scope_cmp) c.loop-end.found es) c.in-Some.ensures ∙ ap (λ (s : List Scope). fold (put scope_cmp) s c.next.new.self) (sym set));
    }
