use Rattle.std.proofs.Common.{◌≡◌, map, Bor}
use Rattle.std.proofs.lemmas.List.Filters.{dedup_is}
use Rattle.std.specs.List.{dedup}
use Rattle.sc_listing.specs.Answers.{JavaEntry}
use Rattle.sc_listing.specs.Listed.{listed_of}
use Rattle.sc_listing.proofs.LineOrder.{same_string, sorted_lines}
use Rattle.sc_listing.proofs.answer_lines.answer_lines.Goals as goal

pub returns : goal.returns
returns c =
    let once : c.dedup.new.self.items ≡ dedup same_string c.sort_unstable.new.self.items = dedup_is same_string c.sort_unstable.new.self.items c.dedup.new.self.items c.dedup.ensures.filtered in
    rw once (sorted_lines (listed_of c.args.w.now) (map (λ (e : Bor JavaEntry). e.now) c.args.mine.now) c.in_ok-lines.lines.items c.sort_unstable.new.self.items c.sort_unstable.ensures.permutation c.sort_unstable.ensures.sorted c.in_ok-lines.ensures)
