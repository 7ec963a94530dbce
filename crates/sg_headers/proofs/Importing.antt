-- A unit that reads a rule of imports gives the imports of the skeleton.
use Rattle.std.proofs.Common.{◌≡◌, ℕ, List, [], ◌∷◌, ◌++◌, Option, Some, None, inl, inr, sym, subst}
use Rattle.std.proofs.lemmas.List.{append-nil}
use Rattle.std.proofs.lemmas.List.Elements.{Contains-append_left, Contains-push}
use Rattle.std.specs.List.{Contains}
use Rattle.sg_base.specs.declared.scope.Scope.{Scope}
use Rattle.sg_base.specs.Graph.{Edge, HasScope}
use Rattle.sg_base.specs.declared.step.Step.{Step}
use Rattle.sg_base.specs.Graph.{HasEdge, IsWalk}
use Rattle.sg_base.specs.Path.{end_of, word_of}
use Rattle.sg_base.specs.State.{State, IsUnset}
use Rattle.sg_base.proofs.Finite.{Contains-head, Contains-tail}
use Rattle.sg_query.specs.declared.answer.Answer.{Answer}
use Rattle.sg_query.specs.declared.query.Query.{Query}
use Rattle.sg_query.specs.Answer.{IsAnswer}
use Rattle.sg_query.specs.State.{IsSettled}
use Rattle.sg_query.proofs.Answering.{answers_are_one}
use Rattle.sg_query.proofs.Settling.{settled_stay_settled}
use Rattle.sg_reading.specs.Reading.{Reading}
use Rattle.sg_reading.proofs.Readings.{Gives-within, Gives-same, Asks-kind}
use Rattle.sg_state.specs.Held.{state_of}
use Rattle.sg_state.specs.Opening.{IsOpening}
use Rattle.sg_unit.specs.declared.entry.Entry.{Entry}
use Rattle.sg_unit.specs.declared.op.Op.{Op}
use Rattle.sg_unit.specs.declared.op.Op.TheVariants.{Fresh, AddEdge, SetDatum, CloseRow, Ask, Advance, Take, End}
use Rattle.sg_unit.specs.declared.reply.Reply.{Reply}
use Rattle.sg_unit.specs.declared.reply.Reply.TheVariants.{Answer as Answered}
use Rattle.sg_unit.specs.Run.{Setting, asked_by, run_of}
use Rattle.sg_unit.specs.Step.{IsRun}
use Rattle.sg_unit.specs.Trace.{Past, with_last, handed}
use Rattle.sg_strata.specs.Program.{Program}
use Rattle.sg_headers.specs.Imports.{AddedRow, MayReadImports, GivesImports}
use Rattle.sg_headers.specs.Law.{ImportRulesGiveImports, UntouchedQueriesAreSettled}
use Rattle.sg_unit.specs.Orderly.{GaveAfter}
use Rattle.sg_headers.specs.Orderly.{AnswersTold, HasRead, MayGiveImports}
use Rattle.sg_trace.proofs.Fronts.{front_is_run, front_follows}
use Rattle.sg_unit.proofs.Pasts.{before_in}
use Rattle.sg_trace.specs.Tells.{trace_of, WasSettled}
use Rattle.sg_trace.proofs.Traces.{told_settled}

past_handed : {I R D P : Type 0} (past : Past I R D P) (last : Option (Op I R D P)) (y : Option (Reply I D P)) (x : Op I R D P × Reply I D P) → Contains past x → Contains (with_last past last y) x
past_handed past None y x c = c
past_handed past (Some op) None x c = c
past_handed past (Some op) (Some w) x c = Contains-append_left past ((op, w) ∷ []) x c

module _ {I R Q D P : Type 0} (p : Program Q D) (z : Setting D P) (query : Q → Query P) (rule : Reading Q (Answer D) (List Edge)) (u : ℕ) (log : List (Entry I R D P)) (ok : IsOpening z.opening) (run : IsRun z log) (g : GivesImports p z query rule u) where
  -- what a query of the rule answers at the opening
  abbrev First : Q → Answer D → Type 0
  First q a = IsAnswer z.opening.graph (asked_by z (query q)) a

  abbrev Fits : Q → Type 0
  Fits q = HasScope z.opening.graph (query q).start × IsSettled (state_of z.opening) (asked_by z (query q))

  module _ (before : Past I R D P) (op : Op I R D P) (gave : GaveAfter (trace_of u log).past (trace_of u log).last before op) where
    first_answer : (q : Q) (a : Answer D) → Fits q → AnswersTold query before q a → First q a
    first_answer q a fits c =
        let pair : Op I R D P × Reply I D P = (Ask (query q), Answered a) in
        let there : AnswersTold query (handed (trace_of u log)) q a = past_handed (trace_of u log).past (trace_of u log).last (trace_of u log).reply pair (before_in (trace_of u log).past (trace_of u log).last before op pair gave c) in
        let w : WasSettled z log (query q) a = told_settled z ok log run u log [] (sym (append-nil log)) (query q) a there in
        let follows = front_follows z ok [] w.before (front_is w.before w.behind w.split) in
        ((settled_stay_settled D (state_of z.opening) (state_of (run_of z w.before).held) (asked_by z (query q)) (ok.held).graph fits.0 follows fits.1).1 a).0 w.answer
      where
        front_is : (a b : List (Entry I R D P)) → log ≡ a ++ b → IsRun z a
        front_is a b e = front_is_run z ok a b (subst (λ (l : List (Entry I R D P)). IsRun z l) e run)

    one_list : (es : List Edge) → HasRead query rule before es → es ≡ g.edges
    one_list es k =
        (Gives-same First (λ q a b x y. answers_are_one D z.opening.graph (asked_by z (query q)) a b x y) rule es g.edges k.0 g.queries
        (Gives-within Fits (AnswersTold query before) First rule es k.0 g.asks first_answer k.1) g.gives).0

    whole_row : (s : Scope) (l : ℕ) → AddedRow query rule before s l → MayGiveImports {I = I} {R = R} p z u before (CloseRow s l)
    whole_row s l k holds t e =
        elim (g.whole s l t holds e) [ inl o ↦ inl o | inr c ↦ inr (k.2 t (subst (λ (es : List Edge). Contains es (record { from = s; label = l; to = t })) (sym (one_list k.0 k.1)) c)) ]

    pub may_give : (o : Op I R D P) → MayReadImports z u query rule before o → MayGiveImports p z u before o
    may_give (Fresh labels datum) m = m
    may_give (AddEdge from label to) m = g.sound (record { from = from; label = label; to = to }) (subst (λ (es : List Edge). Contains es (record { from = from; label = label; to = to })) (one_list m.0 m.1) m.2)
    may_give (SetDatum s d) m = tt
    may_give (CloseRow s l) m = whole_row s l m
    may_give (Ask q) m = λ s l holds. elim (m s l holds) [
      | inl did ↦ inl did
      | inr x ↦ inr (subst (λ (i : Query P). IsSettled (state_of z.opening) (asked_by z i)) x.1 (Asks-kind Fits (AnswersTold query before) rule x.0 g.asks (x.2).0).1)
    ]
    may_give Advance m = tt
    may_give Take m = tt
    may_give (End x) m = λ s l holds. whole_row s l (m s l) holds

pub import_rules_give_imports : (I R Q D P : Type 0) → ImportRulesGiveImports I R Q D P
import_rules_give_imports I R Q D P p z query rule u log ok run g orderly before op gave = may_give p z query rule u log ok run g before op gave op (orderly before op gave)

-- ---- queries that touch nothing open

no_unset : {D : Type 0} (h : State D) (s : Scope) (ps : List Step) → (IsUnset h s → ⊥) → ((l : ℕ) → Contains (word_of ps) l → (s t : Scope) → HasEdge h.graph s l t → IsUnset h t → ⊥) → IsWalk h.graph s ps → IsUnset h (end_of s ps) → ⊥
no_unset h s [] out no_target w = out
no_unset h s (p ∷ ps) out no_target w =
    no_unset h p.to ps (no_target p.label (Contains-head p.label (word_of ps)) s p.to w.0) (λ l c. no_target l (Contains-tail p.label l (word_of ps) c)) w.1

pub untouched_are_settled : (D : Type 0) → UntouchedQueriesAreSettled D
untouched_are_settled D h q k = inl (
  (λ s l b. k.rows ((word_of b.0 ++ l ∷ []) ++ (b.3).0) (b.3).1 l (Contains-append_left (word_of b.0 ++ l ∷ []) (b.3).0 l (Contains-push (word_of b.0) l)) s b.4),
  (λ s b. no_unset h q.start b.0 k.start (λ l c s t e. k.targets (word_of b.0) b.3 l c s t e) ((b.1).0).0 (subst (λ (x : Scope). IsUnset h x) (sym b.2) b.4)),
)
