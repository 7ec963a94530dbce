-- In a run that has ended each unit was told the answers in the graph at its end, to queries that it may ask there, and to all those of its imports, static
-- ones too, or its header.
use Rattle.std.proofs.Common.{◌≡◌, ℕ, ◌+◌, ◌-◌, ◌<◌, ◌==◌, ◌⊎◌, IsTrue, List, [], ◌∷◌, ◌++◌, codes, length, map, Option, None, Some, inl, inr, refl, sym, ap, ◌∙◌, subst, arith}
use Rattle.std.specs.List.{Contains}
use Rattle.std.proofs.lemmas.List.Elements.{Contains-append_cases}
use Rattle.sg_base.specs.declared.scope.Scope.{Scope}
use Rattle.sg_base.specs.Graph.{Edge, GraphOf}
use Rattle.sg_base.proofs.Finite.{single, nothing_in, Contains-head, Contains-filter}
use Rattle.sg_core.specs.declared.phase.Phase.TheVariants.{Ended}
use Rattle.sg_core.specs.Core.{IsPhase, run, setting}
use Rattle.sg_query.specs.declared.answer.Answer.{Answer}
use Rattle.sg_query.specs.declared.query.Query.{Query}
use Rattle.sg_query.specs.Answer.{IsAnswer}
use Rattle.sg_query.specs.Query.{Asked, KindOf, asked}
use Rattle.sg_query.proofs.Answering.{answers_are_one}
use Rattle.sg_reading.specs.Reading.{Reading, done, ask, AllAsked, Asks, Gives, IsFunctional, and_then}
use Rattle.sg_reading.proofs.Asking.{AllAsked-more}
use Rattle.sg_reading.proofs.Readings.{Asks-kind, Asks-within}
use Rattle.sg_reading.proofs.Sequences.{gives_in_turn, and_then-and_then}
use Rattle.sg_script.specs.declared.write.Write.{Write}
use Rattle.sg_script.specs.Following.{WroteAll, writes_in}
use Rattle.sg_script.specs.Owing.{AsksIn, GraphAnswers}
use Rattle.sg_script.specs.Script.{Stage, IsQuery, edge_writes, row_writes}
use Rattle.sg_script.proofs.Given.{given_has}
use Rattle.sg_trace.specs.Entries.{HasEntry}
use Rattle.sg_trace.specs.Tells.{trace_of}
use Rattle.sg_trace.proofs.Telling.{told_answers_stand, whole}
use Rattle.sg_unit.specs.declared.entry.Entry.{Entry}
use Rattle.sg_unit.specs.declared.op.Op.{Op}
use Rattle.sg_unit.specs.declared.op.Op.TheVariants.{Ask, End}
use Rattle.sg_unit.specs.declared.reply.Reply.{Reply}
use Rattle.sg_unit.specs.declared.reply.Reply.TheVariants.{Answer as Answered}
use Rattle.sg_unit.specs.Honest.{AnswersAsTold, Gave}
use Rattle.sg_unit.specs.Orderly.{GaveAfter, WasTold}
use Rattle.sg_unit.specs.Own.{own}
use Rattle.sg_unit.specs.Run.{Setting, asked_by, run_of, units_of}
use Rattle.sg_unit.specs.Step.{IsRun}
use Rattle.sg_unit.specs.Trace.{Past, handed, told, with_last}
use Rattle.sg_unit.proofs.Pasts.{split_at}
use Rattle.sg_unit.proofs.Writes.{is_num}
use Rattle.jv_diag.specs.Plain.{DiagOf}
use Rattle.jv_header.specs.declared.header.Header.{Header}
use Rattle.jv_header.specs.Header.{header_rule}
use Rattle.jv_header.specs.Imports.{ImportsOf, import_edges, imports_rule}
use Rattle.jv_instance.specs.declared.datum.JavaDatum.{JavaDatum}
use Rattle.jv_instance.specs.declared.java.Java.{Java}
use Rattle.jv_instance.specs.declared.labels.TheConstants.{EXT}
use Rattle.jv_instance.specs.declared.pred.JavaPred.{JavaPred}
use Rattle.jv_instance.specs.Data.{is_wanted}
use Rattle.jv_layout.specs.Readers.{members_of_type}
use Rattle.jv_layout.specs.Scopes.{type_scope}
use Rattle.jv_names.specs.Kinds.{AreKinds, asked_by as java_asked, kinds}
use Rattle.jv_names.specs.Law.{InGraph}
use Rattle.jv_names.specs.Replies.{Rule}
use Rattle.jv_unit.specs.Folder.{FolderOf, IsFolderOf}
use Rattle.jv_unit.specs.Plans.{file_edges, file_rows, file_stage, file_stages, java_plan, own_file_ending, own_type_ending, signature_stage, type_row, type_stage, type_stages, unit_ending, unit_stages}
use Rattle.jv_unit.specs.Trees.{decl_at, extends_of, implements_of, unit_at}
use Rattle.jv_unit.proofs.UnitRules.{cond_below, type_stages_are}
use Rattle.sc_listing.specs.Answers.{AreAnswerLines, AreUnitTexts, IsAnswersText, unit_of, unit_text}
use Rattle.sc_listing.specs.Questions.{question_line}
use Rattle.sc_listing.specs.Titles.{ListedOf, listed_files, listed_types, title}
use Rattle.sc_app.specs.FolderLaw.{last_graph}
use Rattle.sc_app.specs.FolderRun.{JavaCore, IsFolderRun, ruled, same_datum, setting_of_plan}
use Rattle.sc_app.specs.Heard.{JavaEntry, JavaPast, JavaReply, JavaOp}
use Rattle.sc_app.specs.Listing.{AreLinesIn, AreUnitsIn, AsksFirst, IsAnswersIn, MayAsk}
use Rattle.sc_app.proofs.EndedKinds.{asked_same}
use Rattle.sc_app.proofs.EndedRules.{unit_ending_same}
use Rattle.sc_app.proofs.EndedSignatures.{units_are}
use Rattle.sc_app.proofs.EndedUnits.{dead_has_ended, entry_after, entry_below, in_handed, past_handed}

-- ---- rules

module _ {Q A U : Type 0} (P : Q → Type 0) (R S : Q → A → Type 0) (one : IsFunctional S) (same : (q : Q) (a : A) → P q → R q a → S q a) where
  -- where a rule has a value by some answers, they have one for each query that it comes to by others that go on from them
  pub asked_is_answered : (r : Reading Q A U) (v : U) (qs : List Q) (p : Q) → AllAsked P r → Gives R r v qs → Asks S r p → (a : A) × R p a
  asked_is_answered (done w) v qs p h g k = absurd k
  asked_is_answered (ask q next) v qs p h g (inl e) = (g.0, subst (λ (x : Q). R x g.0) e g.1)
  asked_is_answered (ask q next) v qs p h g (inr more) =
      let a : more.0 ≡ g.0 = one q more.0 g.0 more.1 (same q g.0 h.0 g.1) in
      asked_is_answered (next g.0) v g.2 p (h.1 g.0) g.4 (subst (λ (x : A). Asks S (next x) p) a more.2)

-- what the rules of two in turn ask, the first asks
asked_first : {Q A U W : Type 0} (P : Q → Type 0) (r : Reading Q A U) (f : U → Reading Q A W) → AllAsked P (and_then r f) → AllAsked P r
asked_first P (done v) f h = tt
asked_first P (ask q next) f h = (h.0, λ a. asked_first P (next a) f (h.1 a))

-- ---- what a unit was told it asked

module _ {I R D P : Type 0} (q : Query P) (a : Answer D) where
  asked_in : (past : Past I R D P) (last : Option (Op I R D P)) (y : Option (Reply I D P)) → Contains (with_last past last y) (Ask q, Answered a) → Gave past last (Ask q)
  asked_in past None y c = inr (Answered a, c)
  asked_in past (Some op) None c = inr (Answered a, c)
  asked_in past (Some op) (Some y) c = elim (Contains-append_cases past ((op, y) ∷ []) (Ask q, Answered a) c) [
    | inl k ↦ inr (Answered a, k)
    | inr k ↦ inl (ap (λ (x : Op I R D P × Reply I D P). Some x.0) (sym (single (op, y) (Ask q, Answered a) k)))
  ]

module _ (w : FolderOf) (c : JavaCore) (folder : IsFolderOf w) (ran : IsFolderRun w c) where
  abbrev z : Setting JavaDatum JavaPred
  z = setting is_wanted same_datum c

  abbrev g : GraphOf JavaDatum
  g = last_graph c

  abbrev IsOfKind : Query JavaPred → Type 0
  IsOfKind q = q.kind < length kinds

  answered_once : IsFunctional (InGraph g)
  answered_once q a b h k = answers_are_one JavaDatum g (java_asked q) a b h k

  -- by the table of the run, by that of the folder, and by Java's kinds a query has the same answers
  by_table : (t : List KindOf) → AreKinds t → (q : Query JavaPred) (a : Answer JavaDatum) → IsOfKind q → IsAnswer g (asked is_wanted same_datum t q) a → InGraph g q a
  by_table t java q a k h = subst (λ (x : Asked JavaDatum). IsAnswer g x a) (asked_same t java q k) h

  module _ (u : ℕ) where
    abbrev heard : JavaPast
    heard = handed (told (own u c.log))

    told_stands : (q : Query JavaPred) (a : Answer JavaDatum) → WasTold heard q a → IsAnswer g (asked is_wanted same_datum c.kinds q) a
    told_stands q a t =
        subst (λ (l : List JavaEntry). IsAnswer (run_of z l).held.graph (asked_by z q) a) (sym (whole c.log))
        (told_answers_stand Java (List DiagOf) JavaDatum JavaPred z c.log [] u q a ran.core.opens (subst (λ (l : List JavaEntry). IsRun z l) (whole c.log) ran.core.runs) t).1

    -- who was told something is a unit
    unit_told : (mine : List JavaEntry) → own u c.log ≡ mine → (x : JavaOp × JavaReply) → Contains (handed (told mine)) x → u < units_of z
    unit_told [] e x k = absurd (nothing_in x k)
    unit_told (i ∷ is) e x k =
        let there : Contains (own u c.log) i = subst (λ (l : List JavaEntry). Contains l i) (sym e) (Contains-head i is) in
        let kept = Contains-filter (λ (v : JavaEntry). v.unit == u) c.log i there in
        let at = split_at c.log i kept.0 in
        let entry : HasEntry u c.log i.op = record { before = at.0; entry = i; behind = at.1; split = at.2; own = is_num i.unit u kept.1; given = refl } in
        entry_below z ran.core.opens c.log ran.core.runs u i.op entry

    module _ (within : u < length w.layout.files + length w.layout.types) where
      stage_asks : (s : Stage JavaDatum JavaPred) → Contains (unit_stages w u) s → AllAsked IsOfKind s.rule
      stage_asks s listed =
          AllAsked-more (IsQuery (java_plan w u)) IsOfKind s.rule (λ q k. subst (λ (n : ℕ). q.kind < n) folder.kinds.count k.kind) ((ran.follows u within).follows.sound.each s listed).asks

      ending_asks : AllAsked IsOfKind (unit_ending w u)
      ending_asks =
          AllAsked-more (IsQuery (java_plan w u)) IsOfKind (unit_ending w u) (λ q k. subst (λ (n : ℕ). q.kind < n) folder.kinds.count k.kind) (ran.follows u within).follows.sound.asks

      -- ---- what it was told

      as_told : AnswersAsTold (setting_of_plan (java_plan w u)) g (told (own u c.log)).past
      as_told q a k =
          subst (λ (t : List KindOf). IsAnswer g (asked is_wanted same_datum t q) a) ran.kinds
          (told_stands q a (past_handed (told (own u c.log)).past (told (own u c.log)).last (told (own u c.log)).reply (Ask q, Answered a) k))

      asks_in : (q : Query JavaPred) (a : Answer JavaDatum) → WasTold heard q a → AsksIn (setting_of_plan (java_plan w u)) (unit_stages w u) (unit_ending w u) g q
      asks_in q a t = ((ran.honest u within).1 g as_told).asked q (asked_in q a (told (own u c.log)).past (told (own u c.log)).last (told (own u c.log)).reply t)

      by_rules : (q : Query JavaPred) (a : Answer JavaDatum) → IsOfKind q → GraphAnswers (setting_of_plan (java_plan w u)) g q a → InGraph g q a
      by_rules q a k h = by_table w.kinds folder.kinds q a k h

      -- a query that it comes to in the graph is of a kind, and comes by the rules that look at no table
      of_kind : (q : Query JavaPred) → AsksIn (setting_of_plan (java_plan w u)) (unit_stages w u) (unit_ending w u) g q → IsOfKind q
      of_kind q (inl (s, listed, k)) = Asks-kind IsOfKind (GraphAnswers (setting_of_plan (java_plan w u)) g) s.rule q (stage_asks s listed) k
      of_kind q (inr k) = Asks-kind IsOfKind (GraphAnswers (setting_of_plan (java_plan w u)) g) (unit_ending w u) q ending_asks k

      may_ask : (q : Query JavaPred) → AsksIn (setting_of_plan (java_plan w u)) (unit_stages w u) (unit_ending w u) g q → MayAsk (ruled w) g u q
      may_ask q (inl (s, listed, k)) =
          inl (s, listed, Asks-within IsOfKind (GraphAnswers (setting_of_plan (java_plan w u)) g) (InGraph g) s.rule q (stage_asks s listed) by_rules k)
      may_ask q (inr k) =
          inr (subst (λ (r : Rule (List DiagOf)). Asks (InGraph g) r q) (unit_ending_same w u)
          (Asks-within IsOfKind (GraphAnswers (setting_of_plan (java_plan w u)) g) (InGraph g) (unit_ending w u) q ending_asks by_rules k))

      in_graph : (q : Query JavaPred) (a : Answer JavaDatum) → IsOfKind q → WasTold heard q a → InGraph g q a
      in_graph q a k t = by_table c.kinds (subst AreKinds (sym ran.kinds) folder.kinds) q a k (told_stands q a t)

      -- ---- what it asked when it ended

      module _ (x : List DiagOf) (e : HasEntry u c.log (End x)) where
        abbrev before : JavaPast
        before = handed (trace_of u e.before)

        abbrev ends : JavaOp
        ends = End x

        after : GaveAfter (trace_of u c.log).past (trace_of u c.log).last before ends
        after = entry_after z ran.core.opens c.log ran.core.runs u ends e tt

        over : WroteAll (java_plan w u).stages before × ((qs : List (Query JavaPred)) × Gives (WasTold before) (unit_ending w u) x qs)
        over = (ran.follows u within).follows.orderly before ends after

        kept : (q : Query JavaPred) (a : Answer JavaDatum) → WasTold before q a → WasTold heard q a
        kept q a t = in_handed z ran.core.opens c.log ran.core.runs u before ends after (Ask q, Answered a) t

        -- the first rule of a stage came to a value, so all its queries in the graph were told
        first_told : {V : Type 0} (s : Stage JavaDatum JavaPred) → Contains (unit_stages w u) s → (r : Rule V) (f : V → Rule (List (Write JavaDatum))) → s.rule ≡ and_then r f
            → (q : Query JavaPred) (a : Answer JavaDatum) → Asks (InGraph g) r q → InGraph g q a → WasTold heard q a
        first_told {V} s listed r f is q a asks answer =
            let k = given_has (WasTold before) (unit_stages w u) (writes_in before) s over.0 listed in
            let gives : Gives (WasTold before) (and_then r f) k.0 k.1 = subst (λ (i : Rule (List (Write JavaDatum))). Gives (WasTold before) i k.0 k.1) is k.2 in
            let made = (gives_in_turn (WasTold before) r f k.0 k.1).0 gives in
            let all : AllAsked IsOfKind r = asked_first IsOfKind r f (subst (λ (i : Rule (List (Write JavaDatum))). AllAsked IsOfKind i) is (stage_asks s listed)) in
            let stands : (p : Query JavaPred) (b : Answer JavaDatum) → IsOfKind p → WasTold before p b → InGraph g p b = λ p b i t. in_graph p b i (kept p b t) in
            let was = asked_is_answered IsOfKind (WasTold before) (InGraph g) answered_once stands r made.0 made.1 q all made.3 asks in
            let kind : IsOfKind q = Asks-kind IsOfKind (InGraph g) r q all asks in
            let same : was.0 ≡ a = answered_once q was.0 a (stands q was.0 kind was.1) answer in
            kept q a (subst (λ (b : Answer JavaDatum). WasTold before q b) same was.1)

        -- so did what it comes to
        ending_told : (q : Query JavaPred) (a : Answer JavaDatum) → Asks (InGraph g) (unit_ending w u) q → InGraph g q a → WasTold heard q a
        ending_told q a asks answer =
            let stands : (p : Query JavaPred) (b : Answer JavaDatum) → IsOfKind p → WasTold before p b → InGraph g p b = λ p b i t. in_graph p b i (kept p b t) in
            let was = asked_is_answered IsOfKind (WasTold before) (InGraph g) answered_once stands (unit_ending w u) x over.1.0 q ending_asks over.1.1 asks in
            let kind : IsOfKind q = Asks-kind IsOfKind (InGraph g) (unit_ending w u) q ending_asks asks in
            let same : was.0 ≡ a = answered_once q was.0 a (stands q was.0 kind was.1) answer in
            kept q a (subst (λ (b : Answer JavaDatum). WasTold before q b) same was.1)

  -- ---- a run that has ended

  module _ (ended : IsPhase (run is_wanted same_datum c) Ended) where
    the_end : (u : ℕ) → u < length w.layout.files + length w.layout.types → (x : List DiagOf) × HasEntry u c.log (End x)
    the_end u within = dead_has_ended z ran.core.opens c.log ran.core.runs u (omega (arith, within, units_are w c folder ran)) (ended u)

    -- the imports of a file
    imports_told : (u : ℕ) → u < length w.layout.files → (q : Query JavaPred) (a : Answer JavaDatum) → Asks (InGraph g) (imports_rule w.layout w.names u (unit_at w.files u)) q → InGraph g q a → WasTold (heard u) q a
    imports_told u file q a asks answer =
        let within : u < length w.layout.files + length w.layout.types = omega (arith, file) in
        let e = the_end u within in
        let stages : unit_stages w u ≡ file_stages w u = cond_below u (length w.layout.files) (file_stages w u) (type_stages w (u - length w.layout.files)) file in
        let listed : Contains (unit_stages w u) (file_stage w u) = subst (λ (ss : List (Stage JavaDatum JavaPred)). Contains ss (file_stage w u)) (sym stages) (Contains-head (file_stage w u) []) in
        let writes : List Edge → Rule (List (Write JavaDatum)) = λ es. done (edge_writes (file_rows w.layout u) es) in
        let edges : ImportsOf → Rule (List Edge) = λ i. done (import_edges w.layout u i) in
        let rule : Rule ImportsOf = imports_rule w.layout w.names u (unit_at w.files u) in
        first_told u within e.0 e.1 (file_stage w u) listed rule (λ i. and_then (edges i) writes) (and_then-and_then rule edges writes) q a asks answer

    -- and what single static imports bring
    brought_told : (u : ℕ) → u < length w.layout.files → (q : Query JavaPred) (a : Answer JavaDatum) → Asks (InGraph g) (own_file_ending (ruled w) u) q → InGraph g q a → WasTold (heard u) q a
    brought_told u file q a asks answer =
        let within : u < length w.layout.files + length w.layout.types = omega (arith, file) in
        let e = the_end u within in
        let of_file : unit_ending (ruled w) u ≡ own_file_ending (ruled w) u = cond_below u (length w.layout.files) (own_file_ending (ruled w) u) (own_type_ending (ruled w) (u - length w.layout.files)) file in
        ending_told u within e.0 e.1 q a (subst (λ (r : Rule (List DiagOf)). Asks (InGraph g) r q) (sym of_file ∙ sym (unit_ending_same w u)) asks) answer

    -- the header of a type
    header_told : (u t : ℕ) → u ≡ length w.layout.files + t → t < length w.layout.types → (q : Query JavaPred) (a : Answer JavaDatum)
        → Asks (InGraph g) (header_rule w.layout w.names (type_scope w.layout t) (extends_of (decl_at w.files t)) (implements_of (decl_at w.files t))) q → InGraph g q a → WasTold (heard u) q a
    header_told u t at type q a asks answer =
        let within : u < length w.layout.files + length w.layout.types = omega (arith, at, type) in
        let e = the_end u within in
        let stages : unit_stages w u ≡ type_stages w t = type_stages_are w u t (omega (arith, at)) (omega (arith, at)) in
        let rest : List (Stage JavaDatum JavaPred) = map (signature_stage w t) (members_of_type w.layout t) in
        let listed : Contains (unit_stages w u) (type_stage w t) = subst (λ (ss : List (Stage JavaDatum JavaPred)). Contains ss (type_stage w t)) (sym stages) (Contains-head (type_stage w t) rest) in
        let writes : List Scope → Rule (List (Write JavaDatum)) = λ ts. done (row_writes (type_scope w.layout t) EXT ts) in
        let row : Header → Rule (List Scope) = λ h. done h.row in
        let rule : Rule Header = header_rule w.layout w.names (type_scope w.layout t) (extends_of (decl_at w.files t)) (implements_of (decl_at w.files t)) in
        first_told u within e.0 e.1 (type_stage w t) listed rule (λ h. and_then (row h) writes) (and_then-and_then rule row writes) q a asks answer

    first_asked : (u : ℕ) (q : Query JavaPred) (a : Answer JavaDatum) → AsksFirst (ruled w) g u q → InGraph g q a → WasTold (heard u) q a
    first_asked u q a (inl (file, inl asks)) answer = imports_told u file q a asks answer
    first_asked u q a (inl (file, inr asks)) answer = brought_told u file q a asks answer
    first_asked u q a (inr (t, at, type, asks)) answer = header_told u t at type q a asks answer

    -- ---- the listing

    module _ (l : ListedOf) where
      lines_in : (u : ℕ) (lines : List (List ℕ)) → AreAnswerLines l (own u c.log) lines → AreLinesIn (ruled w) l g u lines
      lines_in u lines are = record {
        rising = are.rising;
        answered = λ line k.
            let t = (are.same line).0 k in
            let q = t.0 in
            let a = t.1 in
            let within : u < length w.layout.files + length w.layout.types = (let b = unit_told u (own u c.log) refl (Ask q, Answered a) t.2 in omega (arith, b, units_are w c folder ran)) in
            let asks = asks_in u within q a t.2 in
            (q, a, t.3, may_ask u within q asks, in_graph u within q a (of_kind u within q asks) t.2);
        first = λ q a asks answer. (are.same (question_line l q a)).1 (q, a, first_asked u q a asks answer, refl);
      }

      units_in : (ss : List Scope) (text : List ℕ) → AreUnitTexts l (λ u. own u c.log) ss text → AreUnitsIn (ruled w) l g ss text
      units_in [] text e = e
      units_in (s ∷ ss) text (lines, rest, are, more, e) = (lines, rest, lines_in (unit_of l.layout s) lines are, units_in ss rest more, e)

      pub answers_in : (text : List ℕ) → IsAnswersText l c.log text → IsAnswersIn (ruled w) l g text
      answers_in text (files, types, of_files, of_types, e) = (files, types, units_in (listed_files l) files of_files, units_in (listed_types l) types of_types, e)
