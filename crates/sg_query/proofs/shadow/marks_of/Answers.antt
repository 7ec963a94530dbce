use Rattle.std.proofs.Common.{◌≡◌, ◌++◌, List, Bool, map, sym, ap, ◌∙◌, subst, append_assoc}
use Rattle.std.proofs.lemmas.List.Elements.{Contains-append_left, Contains-append_right}
use Rattle.std.proofs.lemmas.List.Sorted.{IsNonDecreasingBy-drop}
use Rattle.std.specs.List.{Contains}
use Rattle.std.specs.List.Sorted.{IsNonDecreasingBy}
use Rattle.sg_order.specs.Order.{precedes}
use Rattle.sg_query.specs.declared.found_at.FoundAt.{FoundAt}
use Rattle.sg_query.specs.Found.{found_in}
use Rattle.sg_query.specs.Marks.{AreMarked}
use Rattle.sg_query.proofs.Marking.{AreKeyedApart, marked_more, apart_more}
use Rattle.sg_query.proofs.Trees.{there_at, there_from}
use Rattle.sg_query.proofs.shadow.marks_of.Goals as goal

pub mark_run-requires : goal.mark_run-requires
mark_run-requires g c =
    let so_far = c.loop-rest.invariant in
    let run = c.split_at.result.0.now in
    let back = c.split_at.result.1.now in
    let whole = c.split_at.ensures.by_index.0 in
    there_from c.args.paths.now run (λ f a.
    there_at c.args.paths.now c.args.all.now c.requires.there f
    (subst (λ (t : List (FoundAt g.row.I-Datum.Denot)). Contains t f) (sym so_far.parts)
    (Contains-append_right so_far.front c.loop-rest.rest.now f (subst (λ (t : List (FoundAt g.row.I-Datum.Denot)). Contains t f) (sym whole) (Contains-append_left run back f a)))))

pub loop-rest-preserved : goal.loop-rest-preserved
loop-rest-preserved g c =
    let same = g.I.Instance.same_datum in
    let order = precedes c.args.order.now in
    let found = found_in c.args.paths.now in
    let key = λ (f : FoundAt g.row.I-Datum.Denot). g.I.Instance.datum_key f.datum in
    let all = c.args.all.now in
    let so_far = c.loop-rest.invariant in
    let front = so_far.front in
    let run = c.split_at.result.0.now in
    let back = c.split_at.result.1.now in
    let whole = c.split_at.ensures.by_index.0 in
    let more = c.in_ok-mark_run.ensures in
    let parts : all ≡ front ++ (run ++ back) = so_far.parts ∙ ap (λ (t : List (FoundAt g.row.I-Datum.Denot)). front ++ t) whole in
    let before : AreKeyedApart key front (run ++ back) = λ f h a b. so_far.apart f h a (subst (λ (t : List (FoundAt g.row.I-Datum.Denot)). Contains t h) (sym whole) b) in
    let behind : AreKeyedApart key run back =
    λ f h a b.
    c.key_run.ensures.apart f h (subst (λ (t : List (FoundAt g.row.I-Datum.Denot)). Contains t f) c.split_at.ensures.front a)
    (subst (λ (t : List (FoundAt g.row.I-Datum.Denot)). Contains t h) c.split_at.ensures.back b) in
    record {
      front = front ++ run;
      parts = parts ∙ sym (append_assoc front run back);
      marked =
          subst (λ (t : List Bool). AreMarked same order (map found all) (map found (front ++ run)) t) (sym more.1)
          (marked_more same order g.I.Instance.datum_key g.met.I.Instance.one_key found all front run back parts before behind c.loop-rest.marks.items more.0 so_far.marked more.2);
      apart = apart_more key front run back before behind;
      rising =
          subst (λ (t : List (FoundAt g.row.I-Datum.Denot)). IsNonDecreasingBy key t) (sym c.split_at.ensures.back)
          (IsNonDecreasingBy-drop key c.key_run.result c.loop-rest.rest.now so_far.rising);
    }
