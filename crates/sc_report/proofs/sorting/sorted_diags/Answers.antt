use Rattle.std.proofs.Common.{◌≡◌}
use Rattle.std.proofs.lemmas.List.Filters.{dedup_is}
use Rattle.std.specs.List.{dedup}
use Rattle.sc_report.proofs.Order.{is_same}
use Rattle.sc_report.proofs.SortedOnce.{sorted_once}
use Rattle.sc_report.proofs.sorting.sorted_diags.Goals as goal

pub returns : goal.returns
returns c =
    let once : c.dedup.new.self.items ≡ dedup is_same c.sort_unstable.new.self.items = dedup_is is_same c.sort_unstable.new.self.items c.dedup.new.self.items c.dedup.ensures.filtered in
    rw once (sorted_once c.args.diags.items c.sort_unstable.new.self.items c.sort_unstable.ensures.permutation c.sort_unstable.ensures.sorted)
