use Rattle.std.proofs.Common.{◌≡◌, ◌++◌, List, length, map}
use Rattle.std.specs.List.Sorted.{IsNonDecreasingBy}
use Rattle.sg_order.specs.Order.{precedes}
use Rattle.sg_query.specs.declared.found_at.FoundAt.{FoundAt}
use Rattle.sg_query.specs.Found.{found_in}
use Rattle.sg_query.specs.Marks.{AreMarked}
use Rattle.sg_query.proofs.Marking.{AreKeyedApart}
use Rattle.sg_query.proofs.shadow.marks_of.Given as goal

abbrev pub invariant-loop-rest : goal.invariant-loop-rest
invariant-loop-rest g l = record {
  front : List (FoundAt g.row.I-Datum.Denot);
  parts : l.all ≡ front ++ l.rest;
  marked : AreMarked g.I.Instance.same_datum (precedes l.order) (map (found_in l.paths) l.all) (map (found_in l.paths) front) l.marks.items;
  apart : AreKeyedApart (λ (f : FoundAt g.row.I-Datum.Denot). g.I.Instance.datum_key f.datum) front l.rest;
  rising : IsNonDecreasingBy (λ (f : FoundAt g.row.I-Datum.Denot). g.I.Instance.datum_key f.datum) l.rest;
}

abbrev pub decreases-loop-rest : goal.decreases-loop-rest
decreases-loop-rest g l = length l.rest
