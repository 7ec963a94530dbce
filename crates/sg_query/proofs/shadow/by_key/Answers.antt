use Rattle.std.proofs.Common.{rules}
use Rattle.std.proofs.lemmas.List.Sorted.{IsNonDecreasingBy-from_sort_by_key}
use Rattle.sg_query.specs.declared.found_at.FoundAt.{FoundAt}
use Rattle.sg_query.proofs.shadow.by_key.Goals as goal

pub returns-clause-rising : goal.returns-clause-rising
returns-clause-rising g c =
    IsNonDecreasingBy-from_sort_by_key (λ (f : FoundAt g.row.I-Datum.Denot). g.I.Instance.datum_key f.datum) c.sort_unstable_by_key.new.self.items c.sort_unstable_by_key.ensures.sorted (λ a r q k. search rules)
