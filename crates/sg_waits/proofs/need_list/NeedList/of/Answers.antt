use Rattle.std.proofs.Common.{List, ◌<◌, length, sym, subst}
use Rattle.std.specs.List.{dedup}
use Rattle.std.proofs.lemmas.List.Filters.{dedup_is}
use Rattle.sg_state.specs.declared.need.Need.{Need}
use Rattle.sg_waits.specs.Waits.{IsRisingOf}
use Rattle.sg_waits.proofs.Listed.{is_need, once, some_once}
use Rattle.sg_waits.proofs.need_list.NeedList.of.Goals as goal

pub invariant_of-result : goal.invariant_of-result
invariant_of-result c =
    let same = c.in_ok-list.ensures.items_if_clones_equal (λ x y e. e) in
    rw (dedup_is is_need c.sort_unstable.new.self.items c.dedup.new.self.items c.dedup.ensures.filtered) (
      (once c.in_ok-list.list.items c.sort_unstable.new.self.items c.sort_unstable.ensures.permutation c.sort_unstable.ensures.sorted).rising,
      some_once c.in_ok-list.list.items c.sort_unstable.new.self.items c.sort_unstable.ensures.permutation c.sort_unstable.ensures.sorted (subst (λ (l : List Need). 0 < length l) (sym same) c.requires.some),
    )

pub returns : goal.returns
returns c =
    let same = c.in_ok-list.ensures.items_if_clones_equal (λ x y e. e) in
    rw (dedup_is is_need c.sort_unstable.new.self.items c.dedup.new.self.items c.dedup.ensures.filtered) (subst (λ (l : List Need). IsRisingOf l (dedup is_need c.sort_unstable.new.self.items)) same (once c.in_ok-list.list.items c.sort_unstable.new.self.items c.sort_unstable.ensures.permutation c.sort_unstable.ensures.sorted))
