-- An orderly reader gave what its header gives in each graph that answers as it was told.
use Rattle.std.proofs.Common.{◌≡◌, ℕ, List, Option, inr, refl, subst}
use Rattle.std.specs.List.{Contains}
use Rattle.sg_base.specs.declared.scope.Scope.{Scope}
use Rattle.sg_base.specs.Graph.{GraphOf}
use Rattle.sg_query.specs.declared.answer.Answer.{Answer}
use Rattle.sg_query.specs.declared.query.Query.{Query}
use Rattle.sg_query.proofs.Answering.{answers_are_one}
use Rattle.sg_reading.specs.Reading.{Reading, Gives}
use Rattle.sg_reading.proofs.Readings.{Gives-more, Gives-same, Asks-more}
use Rattle.sg_unit.specs.declared.op.Op.{Op}
use Rattle.sg_unit.specs.declared.op.Op.TheVariants.{AddEdge, CloseRow, Ask, End}
use Rattle.sg_unit.specs.declared.reply.Reply.TheVariants.{Answer as Answered}
use Rattle.sg_unit.specs.Honest.{AnswersAsTold, Gave}
use Rattle.sg_unit.specs.Run.{Setting, asked_by}
use Rattle.sg_unit.specs.Trace.{Past}
use Rattle.sg_headers.specs.Honest.{AnswersHere, OwesSuper, ReadsIn}
use Rattle.sg_headers.specs.Law.{OrderlyReadersAreHonest}
use Rattle.sg_unit.specs.Orderly.{Did, GaveAfter, IsOrderly}
use Rattle.sg_unit.proofs.Pasts.{gave_after, before_in}
use Rattle.sg_headers.specs.Orderly.{AnswersTold, HasRead, MayReadHeader}

module _ {I R Q D P : Type 0} (z : Setting D P) (g : GraphOf D) (query : Q → Query P) (header : Reading Q (Answer D) (List Scope)) (c : Scope) (super : ℕ) (past : Past I R D P) (last : Option (Op I R D P)) (orderly : IsOrderly (MayReadHeader query header c super) past last) (alike : AnswersAsTold z g past) where
  abbrev Here : Q → Answer D → Type 0
  Here = AnswersHere z g query

  here : (before : Past I R D P) (op : Op I R D P) → GaveAfter past last before op → (q : Q) (a : Answer D) → AnswersTold query before q a → Here q a
  here before op gave q a t = alike (query q) a (before_in past last before op (Ask (query q), Answered a) gave t)

  knows_here : (before : Past I R D P) (op : Op I R D P) → GaveAfter past last before op → (ts : List Scope) (k : HasRead query header before ts) → Gives Here header ts k.0
  knows_here before op gave ts k = Gives-more (AnswersTold query before) Here header ts k.0 (λ q a i t. here before op gave q a t) k.1

  closed_gave : Gave past last (CloseRow c super) → (t : Scope) → OwesSuper z g query header t → Gave past last (AddEdge c super t)
  closed_gave closed t owes =
      let o : Op I R D P = CloseRow c super in
      let after = gave_after past last o closed in
      let w = orderly after.0 o after.1 refl refl in
      let same : owes.0 ≡ w.0 = (Gives-same Here (λ q a b x y. answers_are_one D g (asked_by z (query q)) a b x y) header owes.0 w.0 owes.1 (w.1).0 owes.2 (knows_here after.0 o after.1 w.0 w.1)).0 in
      let did = w.2 t (subst (λ (ts : List Scope). Contains ts t) same owes.3) in
      inr (did.0, before_in past last after.0 o (AddEdge c super t, did.0) after.1 did.1)

  pub reads_in : ReadsIn z g query header c super past last
  reads_in = record {
    edge = λ t gave.
        let o : Op I R D P = AddEdge c super t in
        let after = gave_after past last o gave in
        let w = orderly after.0 o after.1 refl refl in
        (w.0, (w.1).0, knows_here after.0 o after.1 w.0 w.1, w.2);
    closed = closed_gave;
    ended = λ x gave t owes.
        let o : Op I R D P = End x in
        let after = gave_after past last o gave in
        let did : Did after.0 (CloseRow c super) = orderly after.0 o after.1 in
        closed_gave (inr (did.0, before_in past last after.0 o (CloseRow c super, did.0) after.1 did.1)) t owes;
    asked = λ q gave open_row.
        let o : Op I R D P = Ask q in
        let after = gave_after past last o gave in
        let w = orderly after.0 o after.1 (λ did. open_row (did.0, before_in past last after.0 o (CloseRow c super, did.0) after.1 did.1)) in
        (w.0, w.1, Asks-more (AnswersTold query after.0) Here header w.0 (λ y a t. here after.0 o after.1 y a t) (w.2).0);
  }

pub orderly_readers_are_honest : (I R Q D P : Type 0) → OrderlyReadersAreHonest I R Q D P
orderly_readers_are_honest I R Q D P z g query header c super past last orderly alike = reads_in z g query header c super past last orderly alike
