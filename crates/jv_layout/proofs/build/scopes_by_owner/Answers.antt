use Rattle.std.proofs.Common.{◌≡◌, ◌<◌, ◌++◌, [], ◌∷◌, List, length, map, get_or, refl, sym, ap, ◌∙◌, arith}
use Rattle.std.proofs.lemmas.List.{map-set, get_or-map}
use Rattle.sg_base.specs.declared.scope.Scope.{Scope}
use Rattle.jv_layout.specs.Readers.{no_member}
use Rattle.jv_layout.proofs.Owning.{length-owned, one_more}
use Rattle.jv_layout.proofs.build.scopes_by_owner.Goals as goal

pub index_mut-requires : goal.index_mut-requires
index_mut-requires c =
    let long : length c.loop-m.lists.items ≡ c.args.types = length-owned c.args.members.now c.args.first (λ v. v.items) c.args.types c.loop-m.m c.loop-m.lists.items c.loop-m.invariant in
    let own : (get_or c.args.members.now c.loop-m.m no_member).owner < c.args.types = c.requires.owners c.loop-m.m no_member (omega arith) in
    omega (arith, long, own)

pub loop-m-preserved : goal.loop-m-preserved
loop-m-preserved c =
    let rows = c.args.members.now in
    let m = c.loop-m.m in
    let o = (get_or rows m no_member).owner in
    let lists = c.loop-m.lists.items in
    let v = c.index_mut.result.now in
    let own : o < c.args.types = c.requires.owners m no_member (omega arith) in
    let long : length lists ≡ c.args.types = length-owned rows c.args.first (λ v. v.items) c.args.types m lists c.loop-m.invariant in
    let was : v.items ≡ get_or (map (λ v. v.items) lists) o [] = ap (λ v. v.items) c.index_mut.ensures.value ∙ sym (get_or-map (λ v. v.items) lists o v [] (omega (arith, own, long))) in
    let more = c.in_ok-push.ensures.items ∙ ap (λ (z : List Scope). z ++ c.scope_at.result ∷ []) was ∙ ap (λ (s : Scope). get_or (map (λ v. v.items) lists) o [] ++ s ∷ []) c.scope_at.ensures in
    map-set (λ v. v.items) lists o c.push.new.self ∙ one_more rows c.args.first c.args.types m o (map (λ v. v.items) lists) c.push.new.self.items own refl c.loop-m.invariant more
