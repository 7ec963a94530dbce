use Rattle.std.proofs.Common.{◌≡◌, Bool, cond, sym, ap, ◌∙◌}
use Rattle.sg_base.specs.Scope.{scope_cmp}
use Rattle.sg_state.specs.Held.{put}
use Rattle.jv_names.proofs.Ending.{scope_put}
use Rattle.jv_names.proofs.replacing.kept_with.Goals as goal

pub returns : goal.returns
returns c =
    let set : c.insert.new.self ≡ put scope_cmp c.args.kept c.args.scope = scope_put c.args.kept c.insert.new.self c.args.scope c.requires c.insert.ensures.rising (c.in_ok-insert.ensures).ok in
    (set ∙ ap (λ (b : Bool). cond b c.args.kept (put scope_cmp c.args.kept c.args.scope)) (sym c.if-gone.false), c.insert.ensures.rising)
