use Rattle.std.proofs.Common.{◌≡◌, ◌+◌, List, [], ◌∷◌, ◌++◌, Ok, Err, Option, drop, refl, sym, subst, ◌∙◌}
use Rattle.sg_base.specs.declared.scope.Scope.{Scope}
use Rattle.sg_query.specs.declared.answer.Answer.{Answer}
use Rattle.sg_query.specs.declared.query.Query.{Query}
use Rattle.sg_reading.specs.declared.stop.Stop.{Stop}
use Rattle.sg_reading.specs.declared.stop.Stop.TheVariants.{OutOfMemory}
use Rattle.sg_reading.specs.Stop.{Reads}
use Rattle.sg_reading.proofs.Steps.{done_reads, stops, memory_reads}
use Rattle.jv_instance.specs.declared.datum.JavaDatum.{JavaDatum}
use Rattle.jv_instance.specs.declared.pred.JavaPred.{JavaPred}
use Rattle.jv_tree.specs.declared.name.Ident.{Ident}
use Rattle.jv_names.specs.declared.part.Part.{Part}
use Rattle.jv_names.specs.declared.qualifier.Qualifier.{Qualifier}
use Rattle.jv_names.specs.declared.qualifier.Qualifier.TheVariants.{InPackage, InType}
use Rattle.jv_names.specs.declared.resolved.Resolved.{Resolved}
use Rattle.jv_names.specs.Names.{further_parts}
use Rattle.jv_names.specs.Parts.{behind}
use Rattle.jv_names.specs.Replies.{Rule, reply_to}
use Rattle.jv_names.proofs.Walking.{goes_through, stops_here, no_more_parts}
use Rattle.jv_names.proofs.parts.further_parts.Goals.{in-FoundType+in_ok-push-in-FoundType, in-FoundPackage}
use Rattle.jv_names.proofs.parts.further_parts.Goals as goal

pub returns-in_err-s : goal.returns-in_err-s
returns-in_err-s c =
    let reply : Query JavaPred → Option (Answer JavaDatum) = reply_to c.args.o.now in
    let i = c.loop-part.part-index in
    let e : Stop (Query JavaPred) = c.in_err-s.field-0.0 in
    let left : Rule Resolved = further_parts c.args.l.now c.args.context c.loop-part.at c.loop-part.types (drop i c.args.rest.now) in
    let there : Reads {U = Resolved} reply left (Err e) = stops_here reply c.args.l.now c.args.context c.loop-part.at c.loop-part.types c.args.rest.now i _ c.loop-part-test.true e (c.in_err-s.ensures) in
    c.loop-part.invariant c.from_residual.result (stops reply left e c.from_residual.result c.from_residual.ensures.1 there)

pub returns-in_err-push-in-FoundType : goal.returns-in_err-push-in-FoundType
returns-in_err-push-in-FoundType c =
    let reply : Query JavaPred → Option (Answer JavaDatum) = reply_to c.args.o.now in
    let whole : Rule Resolved = further_parts c.args.l.now c.args.context c.args.at c.args.types c.args.rest.now in
    stops reply whole OutOfMemory c.from_residual-in_err-push-in-FoundType.result c.from_residual-in_err-push-in-FoundType.ensures.1 (memory_reads reply whole)

pub returns-in-Ends : goal.returns-in-Ends
returns-in-Ends c =
    let reply : Query JavaPred → Option (Answer JavaDatum) = reply_to c.args.o.now in
    let types : List Scope = c.loop-part.types in
    let rest : List Ident = drop (c.loop-part.part-index + 1) c.args.rest.now in
    let end : Resolved = record { meaning = c.in-Ends.meaning; types = types } in
    let here : Reads reply (behind c.args.l.now c.args.context c.in_ok-s.field-0 types rest) (Ok end) =
    subst (λ (p : Part). Reads reply (behind c.args.l.now c.args.context p types rest) (Ok end)) (sym c.in-Ends.is) (done_reads reply end end refl) in
    c.loop-part.invariant (Ok end) (goes_through reply c.args.l.now c.args.context c.loop-part.at types c.args.rest.now c.loop-part.part-index _ c.loop-part-test.true c.in_ok-s.field-0 (c.in_ok-s.ensures) (Ok end) here)

pub loop-part-preserved : goal.loop-part-preserved
loop-part-preserved c = λ x h.
    let reply : Query JavaPred → Option (Answer JavaDatum) = reply_to c.args.o.now in
    let types : List Scope = c.loop-part.types in
    let rest : List Ident = drop (c.loop-part.part-index + 1) c.args.rest.now in
    let here : Reads reply (behind c.args.l.now c.args.context c.in_ok-s.field-0 types rest) x = elim c.match-branch-2.branch [
      | in-FoundType+in_ok-push-in-FoundType w ↦
          let pushed : c.match-branch-2.types ≡ types ++ w.in-FoundType.s ∷ [] = w.types-is ∙ (w.in_ok-push-in-FoundType.ensures).ok in
          let at : Reads reply (further_parts c.args.l.now c.args.context (InType w.in-FoundType.s) c.match-branch-2.types rest) x = subst (λ (q : Qualifier). Reads reply (further_parts c.args.l.now c.args.context q c.match-branch-2.types rest) x) w.at-is h in
          subst (λ (p : Part). Reads reply (behind c.args.l.now c.args.context p types rest) x) (sym w.in-FoundType.is) (subst (λ (ts : List Scope). Reads reply (further_parts c.args.l.now c.args.context (InType w.in-FoundType.s) ts rest) x) pushed at)
      | in-FoundPackage w ↦
          let at : Reads reply (further_parts c.args.l.now c.args.context (InPackage w.in-FoundPackage.q) c.match-branch-2.types rest) x = subst (λ (q : Qualifier). Reads reply (further_parts c.args.l.now c.args.context q c.match-branch-2.types rest) x) w.at-is h in
          subst (λ (p : Part). Reads reply (behind c.args.l.now c.args.context p types rest) x) (sym w.in-FoundPackage.is) (subst (λ (ts : List Scope). Reads reply (further_parts c.args.l.now c.args.context (InPackage w.in-FoundPackage.q) ts rest) x) w.types-is at)
    ] in
    c.loop-part.invariant x (goes_through reply c.args.l.now c.args.context c.loop-part.at types c.args.rest.now c.loop-part.part-index _ c.loop-part-test.true c.in_ok-s.field-0 (c.in_ok-s.ensures) x here)

pub returns : goal.returns
returns c = c.loop-part.invariant (Ok (record { meaning = c.last_meaning.result; types = c.loop-part.types })) (no_more_parts (reply_to c.args.o.now) c.args.l.now c.args.context c.loop-part.at c.loop-part.types c.args.rest.now c.loop-part.part-index c.last_meaning.result c.loop-part-test.false c.last_meaning.ensures)
