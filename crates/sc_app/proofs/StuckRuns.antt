-- At the end of a run, where the row of a type is open, what is said of its header by what its unit was told is what the greatest stratified set says.
use Rattle.std.proofs.Common.{◌≡◌, ℕ, zero, suc, ◌+◌, ◌-◌, ◌<◌, List, [], ◌∷◌, ◌++◌, ◌⊎◌, ◌↔◌, Option, Some, None, true, false, IsTrue, get_or, length, map, take, inl, inr, refl, sym, ap, ◌∙◌, subst, arith}
use Rattle.std.proofs.lemmas.List.{append-nil, length-map, length-replicate}
use Rattle.std.proofs.lemmas.List.Elements.{All-contains, All-take, All-append, Contains-append_cases}
use Rattle.std.specs.List.{Contains}
use Rattle.sg_base.specs.declared.scope.Scope.{Scope}
use Rattle.sg_base.specs.Graph.{Edge, GraphOf, HasEdge}
use Rattle.sg_base.specs.State.{State, IsOpen}
use Rattle.sg_base.proofs.Finite.{Contains-flat_map, Contains-cons, Contains-map, nothing_in}
use Rattle.sg_core.specs.Core.{run, setting}
use Rattle.sg_headers.specs.Orderly.{MayReadHeader}
use Rattle.sg_headers.specs.Outcome.{IsHeaderWait}
use Rattle.sg_headers.proofs.Followers.{followers_read_headers}
use Rattle.sg_headers.proofs.Headers.{open_type}
use Rattle.sg_headers.proofs.Rows.{holder_of}
use Rattle.sg_query.specs.declared.answer.Answer.{Answer}
use Rattle.sg_query.specs.declared.query.Query.{Query}
use Rattle.sg_query.specs.Answer.{IsAnswer}
use Rattle.sg_query.specs.Growth.{LooksAlike}
use Rattle.sg_query.specs.Query.{Asked, KindOf, asked}
use Rattle.sg_query.specs.State.{IsSettled, DatumBlocks}
use Rattle.sg_query.proofs.Alike.{answer_over, settled_over}
use Rattle.sg_query.proofs.Answering.{answers_are_one}
use Rattle.sg_query.proofs.Settling.{settled_stay_settled}
use Rattle.sg_reading.specs.Reading.{Reading, done, Gives, Asks, Needs, IsFunctional, AllAsked, and_then, each}
use Rattle.sg_reading.proofs.Asking.{each-asked}
use Rattle.sg_reading.proofs.Readings.{Asks-kind, Asks-within, Gives-ends, Gives-within, Needs-same}
use Rattle.sg_reading.proofs.Sequences.{and_then-asks_first, and_then-asks_second, and_then-gives, asks_in_turn, gives_in_turn}
use Rattle.sg_script.specs.Following.{MayFollow}
use Rattle.sg_script.specs.Script.{Stage}
use Rattle.sg_state.specs.declared.need.Need.TheVariants.{Row}
use Rattle.sg_state.specs.Held.{DatumHold, HeldOf, HoldsDatum, HoldsRow, RowHold, state_of}
use Rattle.sg_state.specs.Opening.{IsOpening, IsSoundOpening, opened_of}
use Rattle.sg_state.proofs.Extending.{open_to, unset_from}
use Rattle.sg_state.proofs.SoundOpenings.{datum_hold_in, edge_in, row_hold_in}
use Rattle.sg_strata.specs.Program.{Program, AnswersSettled, IsNeeded, IsPlain, IsProgram, IsQuiet, state_with}
use Rattle.sg_strata.specs.Run.{IsMoment}
use Rattle.sg_strata.specs.Strata.{lower}
use Rattle.sg_strata.proofs.Moments.{end_clear, looks_alike}
use Rattle.sg_strata.proofs.Ranks.{graphs_are_sound}
use Rattle.sg_trace.specs.Entries.{IsGiven, MakeNoScope, MakesScope}
use Rattle.sg_trace.specs.Tells.{TellsAsk, WasSettled, trace_of}
use Rattle.sg_trace.proofs.Fronts.{asked_run, front_follows, front_is_run}
use Rattle.sg_trace.proofs.Holding.{closed_stays, datum_held_before, held_before}
use Rattle.sg_trace.proofs.Traces.{did_entry, gave_here, told_settled, trace_tells}
use Rattle.sg_unit.specs.declared.entry.Entry.{Entry}
use Rattle.sg_unit.specs.declared.op.Op.{Op}
use Rattle.sg_unit.specs.declared.op.Op.TheVariants.{Fresh, AddEdge, SetDatum, CloseRow, Ask, Advance, Take, End}
use Rattle.sg_unit.specs.declared.reply.Reply.{Reply}
use Rattle.sg_unit.specs.Orderly.{Did, IsOrderly, WasTold}
use Rattle.sg_unit.specs.Run.{Asking, IsFor, RunOf, Setting, asked_by, open_ask, opened, run_of, units_of}
use Rattle.sg_unit.specs.Step.{IsRun}
use Rattle.sg_unit.specs.Trace.{Past, handed, with_last}
use Rattle.sg_unit.specs.Waiting.{WaitsOn}
use Rattle.sg_unit.proofs.Pasts.{split_at}
use Rattle.sg_unit.proofs.Steps.{front_run}
use Rattle.jv_diag.specs.Plain.{DiagOf}
use Rattle.jv_instance.specs.declared.datum.JavaDatum.{JavaDatum}
use Rattle.jv_instance.specs.declared.java.Java.{Java}
use Rattle.jv_instance.specs.declared.labels.TheConstants.{EXT, ODI, SIG, SIMP}
use Rattle.jv_instance.specs.declared.pred.JavaPred.{JavaPred}
use Rattle.jv_instance.specs.Data.{is_wanted}
use Rattle.jv_layout.specs.Folder.{LayoutOf}
use Rattle.jv_layout.specs.Readers.{members_of_type, types_of}
use Rattle.jv_layout.specs.Scopes.{file_scope, first_type, place_of, signature_of_member, type_scope}
use Rattle.jv_layout.specs.Skeleton.{below, file_hold, file_holds, signature_hold, skeleton_of, type_hold, type_holds}
use Rattle.jv_layout.proofs.SoundLists.{from_image, in_image}
use Rattle.jv_layout.proofs.SoundSkeletons.{skeletons_are_sound}
use Rattle.jv_names.specs.declared.context.Context.TheVariants.{OnDemandImport}
use Rattle.jv_names.specs.declared.reference.Reference.{Reference}
use Rattle.jv_names.specs.Bounds.{IsMeant, IsNameQuery, IsTypeScope}
use Rattle.jv_names.specs.Kinds.{AreKinds, kind_at, kinds, asked_by as java_asked}
use Rattle.jv_names.specs.Law.{InGraph}
use Rattle.jv_names.proofs.Bounds.{package_starts, row_is_type, type_starts}
use Rattle.jv_header.specs.Bounds.{AreImportsIn}
use Rattle.jv_header.specs.Circular.{IsCircular, IsOpenReference}
use Rattle.jv_header.specs.Header.{header_by, header_reference, header_row, header_rule}
use Rattle.jv_header.specs.Imports.{ImportsOf, import_edges, imports_rule}
use Rattle.jv_header.specs.Law.{IsOver, ReachesSignaturesBySig, signatures_of}
use Rattle.jv_header.proofs.Bounds.{header_reference_stays, imports_rule_stays}
use Rattle.jv_header.proofs.Programs.{are_programs, are_quiet, names_label, plain_words, signature_edges_labelled, starts_at_none, words_have}
use Rattle.jv_tree.specs.declared.name.Ident.{Ident}
use Rattle.jv_tree.specs.declared.names.NameId.{NameId}
use Rattle.jv_tree.specs.Numbered.{AreNumberedNames, IsNumberedDecl, IsNumberedName}
use Rattle.jv_unit.specs.Folder.{FolderOf, IsFolderOf}
use Rattle.jv_unit.specs.Plans.{java_plan, signature_stage, type_row}
use Rattle.jv_unit.specs.Trees.{decl_at, extends_of, implements_of, unit_at}
use Rattle.jv_unit.proofs.Numbers.{decl_numbered, extends_numbered, implements_numbered, imports_numbered, named_in}
use Rattle.jv_unit.proofs.Trees.{types_of_decls}
use Rattle.jv_unit.proofs.UnitRules.{type_stages_are}
use Rattle.sc_app.specs.FolderGraph.{IsSkeleton, decl_of, headers_of, opened_graph}
use Rattle.sc_app.specs.FolderLaw.{AwaitsRow, IsHeldByHeaders, LeavesGreatest, StuckRunsReport, closed_in, past_of, roles_of}
use Rattle.sc_app.specs.FolderReport.{IsLaidOut, SaysCircular}
use Rattle.sc_app.specs.FolderRun.{IsFolderRun, JavaCore, ruled, same_datum}
use Rattle.sc_app.proofs.Blocking.{some_row}
use Rattle.sc_app.proofs.OneReport.{is_over}

-- ---- what a list of references asks

module _ {Q A X U : Type 0} (R : Q → A → Type 0) (f : X → Reading Q A U) where
  -- what the rule for one thing asks, the rules for all of a list ask, where those for the things before it have values
  asks_at : (xs : List X) (i : ℕ) (x : X) (q : Q) (vs : List U) (qs : List Q) → i < length xs → Gives R (each f (take i xs)) vs qs → Asks R (f (get_or xs i x)) q → Asks R (each f xs) q
  asks_at [] i x q vs qs h g k = absurd (omega (arith, h))
  asks_at (y ∷ xs) zero x q vs qs h g k = and_then-asks_first R (f y) (λ v. and_then (each f xs) (λ ws. done (v ∷ ws))) q k
  asks_at (y ∷ xs) (suc i) x q vs qs h g k =
      let first = (gives_in_turn R (f y) (λ v. and_then (each f (take i xs)) (λ ws. done (v ∷ ws))) vs qs).0 g in
      let more = (gives_in_turn R (each f (take i xs)) (λ ws. done (first.0 ∷ ws)) vs first.2).0 first.4 in
      and_then-asks_second R (f y) (λ v. and_then (each f xs) (λ ws. done (v ∷ ws))) first.0 first.1 q first.3
      (and_then-asks_first R (each f xs) (λ ws. done (first.0 ∷ ws)) q (asks_at xs i x q more.0 more.1 (omega (arith, h)) more.3 k))

  -- what the rules for two lists ask, those for the first ask, or those for the second where those for the first have values
  in_parts : (xs ys : List X) (q : Q) → Asks R (each f (xs ++ ys)) q → Asks R (each f xs) q ⊎ ((vs : List U) × (qs : List Q) × Gives R (each f xs) vs qs × Asks R (each f ys) q)
  in_parts [] ys q k = inr ([], [], (refl, refl), k)
  in_parts (x ∷ xs) ys q k =
      elim ((asks_in_turn R (f x) (λ v. and_then (each f (xs ++ ys)) (λ ws. done (v ∷ ws))) q).0 k) [
        | inl first ↦ inl (and_then-asks_first R (f x) (λ v. and_then (each f xs) (λ ws. done (v ∷ ws))) q first)
        | inr rest ↦ elim ((asks_in_turn R (each f (xs ++ ys)) (λ ws. done (rest.0 ∷ ws)) q).0 rest.3) [
          | inl more ↦ elim (in_parts xs ys q more) [
            | inl a ↦ inl (and_then-asks_second R (f x) (λ v. and_then (each f xs) (λ ws. done (v ∷ ws))) rest.0 rest.1 q rest.2 (and_then-asks_first R (each f xs) (λ ws. done (rest.0 ∷ ws)) q a))
            | inr b ↦ inr (
              rest.0 ∷ b.0,
              rest.1 ++ (b.1 ++ []),
              and_then-gives R (f x) (λ v. and_then (each f xs) (λ ws. done (v ∷ ws))) rest.0 (rest.0 ∷ b.0) rest.1 (b.1 ++ []) rest.2
                  (and_then-gives R (each f xs) (λ ws. done (rest.0 ∷ ws)) b.0 (rest.0 ∷ b.0) b.1 [] b.2 (refl, refl)),
              b.3,
            )
          ]
          | inr none ↦ absurd none.3
        ]
      ]

module _ (R : Query JavaPred → Answer JavaDatum → Type 0) (l : LayoutOf) (names : List (List ℕ)) (c : Scope) (es is : List (List Ident)) where
  -- a header needs the query that its open reference needs
  rule_needs : (i : ℕ) (o : IsOpenReference R l c (es ++ is) i) → Needs R (header_rule l names c es is) o.query
  rule_needs i o =
      let f : List Ident → Reading (Query JavaPred) (Answer JavaDatum) Reference = header_reference l c in
      let all : Asks R (each f (es ++ is)) o.query = asks_at R f (es ++ is) i [] o.query o.found o.queries o.within o.before (o.needs).0 in (
        elim (in_parts R f es is o.query all) [
          | inl first ↦ and_then-asks_first R (each f es) (λ xs. and_then (each f is) (λ ys. done (header_by l names c es is xs ys))) o.query first
          | inr rest ↦
              and_then-asks_second R (each f es) (λ xs. and_then (each f is) (λ ys. done (header_by l names c es is xs ys))) rest.0 rest.1 o.query rest.2
              (and_then-asks_first R (each f is) (λ ys. done (header_by l names c es is rest.0 ys)) o.query rest.3)
        ],
        (o.needs).1,
      )

  -- the supertypes alone need what the header needs
  row_needs : (q : Query JavaPred) → Needs R (header_rule l names c es is) q → Needs R (header_row l names c es is) q
  row_needs q n = (and_then-asks_first R (header_rule l names c es is) (λ h. done h.row) q n.0, n.1)

  needs_rule : (q : Query JavaPred) → Needs R (header_row l names c es is) q → Needs R (header_rule l names c es is) q
  needs_rule q n = (elim ((asks_in_turn R (header_rule l names c es is) (λ h. done h.row) q).0 n.0) [ inl k ↦ k | inr none ↦ absurd none.3 ], n.1)

-- ---- what queries ask

-- by a table of Java's kinds a query asks what it asks by the kinds
kinds_ask : (table : List KindOf) → AreKinds table → (q : Query JavaPred) → q.kind < length kinds → asked is_wanted same_datum table q ≡ java_asked q
kinds_ask table k q h = λ j. record { start = q.start; expr = k.words q.kind h j; order = λ a b. k.order q.kind a b h j; wants = is_wanted q.pred; same = λ a b. same_datum a b }

-- ---- operations

module _ {I R D P : Type 0} where
  makes_none : (stages : List (Stage D P)) (ending : Reading (Query P) (Answer D) R) (past : Past I R D P) (op : Op I R D P) → (IsGiven op → MayFollow stages ending past op) → MakesScope op → ⊥
  makes_none stages ending past (Fresh labels datum) f m = f tt
  makes_none stages ending past (AddEdge from label to) f m = m
  makes_none stages ending past (SetDatum s d) f m = m
  makes_none stages ending past (CloseRow s l) f m = m
  makes_none stages ending past (Ask q) f m = m
  makes_none stages ending past Advance f m = m
  makes_none stages ending past Take f m = m
  makes_none stages ending past (End x) f m = m

  -- a unit with an open ask gave it last, and is handed nothing
  asked_now : (a : Asking P) (past : Past I R D P) (last : Option (Op I R D P)) (y : Option (Reply I D P)) (q : Query P) (m : ℕ) → TellsAsk a last y → a ≡ open_ask q m → (let o : Op I R D P = Ask q in last ≡ Some o) × (with_last past last y ≡ past)
  asked_now a past None y q m t e = absurd (let f = sym t ∙ e in cc)
  asked_now a past (Some op) (Some w) q m t e = absurd (let f = sym t ∙ e in cc)
  asked_now a past (Some op) None q m t e =
      let here : q ≡ t.0 = subst (λ (b : Asking P). IsFor b t.0) e t.2 in
      (ap (λ (o : Op I R D P). Some o) (t.1 ∙ ap (λ (x : Query P). let o : Op I R D P = Ask x in o) (sym here)), refl)

-- ---- the graphs of a folder

module _ (w : FolderOf) (ok : IsFolderOf w) where
  sound : IsSoundOpening (skeleton_of w.layout)
  sound = skeletons_are_sound w.layout ok.linked ok.few

  laid_out : IsLaidOut w
  laid_out = record { layout = ok.layout; linked = ok.linked; few = ok.few; numbered = ok.numbered }

  -- no import leads to a signature
  no_import : (f : ℕ) (i : ImportsOf) → AreImportsIn w.layout i → (e : Edge) → Contains (import_edges w.layout f i) e → Contains (signatures_of w.layout) e.to → ⊥
  no_import f i k e c sig =
      let at = file_scope w.layout f in
      let singles = map (λ (p : NameId × Scope). let e : Edge = record { from = at; label = SIMP; to = p.1 } in e) i.singles in
      let on_demand = map (λ (t : Scope). let e : Edge = record { from = at; label = ODI; to = t } in e) i.on_demand in
      elim (Contains-append_cases singles on_demand e c) [
        | inl m ↦
            let x = Contains-map (λ (p : NameId × Scope). let e : Edge = record { from = at; label = SIMP; to = p.1 } in e) i.singles e m in
            let type : IsTypeScope w.layout (x.0).1 = All-contains (λ (p : NameId × Scope). IsTypeScope w.layout p.1) i.singles x.0 k.singles x.1 in
            starts_at_none w.layout (x.0).1 (type_starts (place_of w.layout (x.0).1) type) (subst (λ (s : Scope). Contains (signatures_of w.layout) s) (ap (λ (e : Edge). e.to) x.2) sig)
        | inr m ↦
            let x = Contains-map (λ (t : Scope). let e : Edge = record { from = at; label = ODI; to = t } in e) i.on_demand e m in
            let there : Contains (signatures_of w.layout) x.0 = subst (λ (s : Scope). Contains (signatures_of w.layout) s) (ap (λ (e : Edge). e.to) x.2) sig in
            elim (All-contains (IsMeant w.layout OnDemandImport) i.on_demand x.0 k.on_demand x.1) [
              | inl type ↦ starts_at_none w.layout x.0 (type_starts (place_of w.layout x.0) type) there
              | inr pack ↦ starts_at_none w.layout x.0 (package_starts (place_of w.layout x.0) pack) there
            ]
      ]

  pub reaches_by_sig : (g : GraphOf JavaDatum) → IsSkeleton w g → ReachesSignaturesBySig w.layout g
  reaches_by_sig g k s n t e sig =
      let x : Edge = record { from = s; label = n; to = t } in
      elim ((k.edges x).0 e) [
        | inl old ↦ signature_edges_labelled w.layout ok.linked x ((edge_in (skeleton_of w.layout) sound x).0 old) sig
        | inr new ↦
            let R : Query JavaPred → Answer JavaDatum → Type 0 = InGraph (opened_graph w.layout) in
            let f : ℕ = new.0 in
            let rule = imports_rule w.layout w.names f (unit_at w.files f) in
            let given = new.2 in
            let parts = (gives_in_turn R rule (λ i. done (import_edges w.layout f i)) given.0 given.1).0 given.2 in
            let count : length w.files ≡ length w.layout.files = sym (length-map w.files _) ∙ sym (ap (λ (l : LayoutOf). length l.files) ok.layout) in
            let numbered = imports_numbered (length w.names) w.files ok.numbered f (omega (arith, new.1, count)) in
            let in_layout : AreImportsIn w.layout parts.0 = Gives-ends (AreImportsIn w.layout) R rule parts.0 parts.1 (imports_rule_stays w.layout (length w.names) f w.names (unit_at w.files f) numbered).ends parts.3 in
            absurd (no_import f parts.0 in_layout x (subst (λ (es : List Edge). Contains es x) (sym (parts.4).0) given.3) sig)
      ]

  -- who holds the row of a type's supertypes at the opening
  row_holder : (t v : ℕ) → HoldsRow (opened_of (skeleton_of w.layout)) v (type_scope w.layout t) EXT → v ≡ length w.layout.files + t
  row_holder t v h =
      let k : RowHold = record { scope = type_scope w.layout t; label = EXT; unit = v } in
      elim (Contains-append_cases (file_holds w.layout) (type_holds w.layout) k ((row_hold_in (skeleton_of w.layout) sound k).0 h)) [
        | inl file ↦
            let f = Contains-flat_map (file_hold w.layout) (below (length w.layout.files)) k file in
            let first : RowHold = record { scope = file_scope w.layout f.0; label = SIMP; unit = f.0 } in
            let second : RowHold = record { scope = file_scope w.layout f.0; label = ODI; unit = f.0 } in
            elim (Contains-cons first k (second ∷ []) f.2) [
              | inl e ↦ (let same : EXT ≡ SIMP = ap (λ (r : RowHold). r.label) e in absurd (omega (arith, same)))
              | inr m ↦ elim (Contains-cons second k [] m) [
                | inl e ↦ (let same : EXT ≡ ODI = ap (λ (r : RowHold). r.label) e in absurd (omega (arith, same)))
                | inr none ↦ absurd (nothing_in k none)
              ]
            ]
        | inr type ↦
            let x = from_image (type_hold w.layout) (length w.layout.types) k type in
            let serial : first_type w.layout + t ≡ first_type w.layout + x.0 = ap (λ (r : RowHold). (r.scope).serial) x.2 in
            let unit : v ≡ length w.layout.files + x.0 = ap (λ (r : RowHold). r.unit) x.2 in
            omega (arith, serial, unit)
      ]

  -- what is unset at the opening is a signature
  datum_is_signature : (v : ℕ) (s : Scope) → HoldsDatum (opened_of (skeleton_of w.layout)) v s → Contains (signatures_of w.layout) s
  datum_is_signature v s h =
      let k : DatumHold = record { scope = s; unit = v } in
      let x = from_image (signature_hold w.layout) (length w.layout.members) k ((datum_hold_in (skeleton_of w.layout) sound k).0 h) in
      subst (λ (s : Scope). Contains (signatures_of w.layout) s) (sym (ap (λ (r : DatumHold). r.scope) x.2)) (in_image (signature_of_member w.layout) (length w.layout.members) x.0 x.1)

-- ---- a run of a folder

module _ (w : FolderOf) (c : JavaCore) (ok : IsFolderOf w) (ran : IsFolderRun w c) where
  abbrev JavaPast : Type 0
  JavaPast = Past Java (List DiagOf) JavaDatum JavaPred

  abbrev JavaLog : Type 0
  JavaLog = List (Entry Java (List DiagOf) JavaDatum JavaPred)

  abbrev z : Setting JavaDatum JavaPred
  z = setting is_wanted same_datum c

  abbrev last_run : RunOf JavaDatum JavaPred
  last_run = run is_wanted same_datum c

  opens : IsOpening z.opening
  opens = (ran.core).opens

  runs : IsRun z c.log
  runs = (ran.core).runs

  whole : c.log ≡ c.log ++ []
  whole = sym (append-nil c.log)

  unit_count : units_of z ≡ length w.layout.files + length w.layout.types
  unit_count = ap (λ (h : HeldOf JavaDatum). length h.made) ran.opening ∙ length-replicate (length w.layout.files + length w.layout.types) 0

  none_made : MakeNoScope c.log
  none_made e k m =
      let at = split_at c.log e k in
      let parts = front_run z (opened z) at.0 (e ∷ at.1) (subst (λ (l : JavaLog). IsRun z l) at.2 runs) in
      let below : e.unit < units_of z = ((asked_run z opens at.0 parts.0).sound).below e.unit ((((parts.1).0).may).0) in
      let f = ran.follows e.unit (omega (arith, below, unit_count)) in
      makes_none (java_plan w e.unit).stages (java_plan w e.unit).ending (handed (trace_of e.unit at.0)) e.op
      (λ given. (f.follows).orderly (handed (trace_of e.unit at.0)) e.op (gave_here z opens c.log runs e.unit at.0 e at.1 at.2 refl given)) m

  -- what was settled in the run is settled at its end, with the same answer
  settled_end : (q : Query JavaPred) (a : Answer JavaDatum) → WasSettled z c.log q a → IsSettled (state_of last_run.held) (asked_by z q) × IsAnswer last_run.held.graph (asked_by z q) a
  settled_end q a s =
      let run_split : IsRun z (s.before ++ s.behind) = subst (λ (l : JavaLog). IsRun z l) s.split runs in
      let ran_before : IsRun z s.before = front_is_run z opens s.before s.behind run_split in
      let stays =
      settled_stay_settled JavaDatum (state_of (run_of z s.before).held) (state_of (run_of z (s.before ++ s.behind)).held) (asked_by z q) (((asked_run z opens s.before ran_before).sound).held).graph s.start
      (front_follows z opens s.before s.behind run_split) s.settled in
      subst (λ (l : JavaLog). IsSettled (state_of (run_of z l).held) (asked_by z q) × IsAnswer (run_of z l).held.graph (asked_by z q) a) (sym s.split) (stays.0, (stays.1 a).1 s.answer)

  module _ (t : ℕ) (within : t < length w.layout.types) where
    abbrev u : ℕ
    u = length w.layout.files + t

    abbrev here : Scope
    here = type_scope w.layout t

    abbrev es : List (List Ident)
    es = extends_of (decl_at w.files t)

    abbrev is : List (List Ident)
    is = implements_of (decl_at w.files t)

    abbrev past : JavaPast
    past = past_of w c t

    is_type : IsTypeScope w.layout here
    is_type = row_is_type w.layout t within

    listed : Contains (types_of w.layout) here
    listed = in_image (type_scope w.layout) (length w.layout.types) t within

    -- the names that the type extends and implements
    numbered_decl : IsNumberedDecl (length w.names) (decl_at w.files t)
    numbered_decl = decl_numbered (length w.names) w.files ok.numbered t (omega (arith, within, types_of_decls w.files, ap (λ (l : LayoutOf). length l.types) ok.layout))

    numbered_names : AreNumberedNames (length w.names) (es ++ is)
    numbered_names =
        All-append (IsNumberedName (length w.names)) es is (extends_numbered (length w.names) (decl_at w.files t) numbered_decl) (implements_numbered (length w.names) (decl_at w.files t) numbered_decl)

    reference_asks : (ids : List Ident) → IsNumberedName (length w.names) ids → AllAsked (IsNameQuery w.layout (length w.names)) (header_reference w.layout here ids)
    reference_asks ids k = (header_reference_stays w.layout (length w.names) w.names here (named_in w ok) is_type ids k).asks

    references_ask : (ns : List (List Ident)) → AreNumberedNames (length w.names) ns → AllAsked (IsNameQuery w.layout (length w.names)) (each (header_reference w.layout here) ns)
    references_ask ns k =
        each-asked (IsNameQuery w.layout (length w.names)) (header_reference w.layout here) ns (λ ids i. reference_asks ids (All-contains (IsNumberedName (length w.names)) ns ids k i))

    -- the unit of the type reads its header
    header_orderly : IsOrderly (MayReadHeader (λ q. q) (type_row w t) here EXT) (trace_of u c.log).past (trace_of u c.log).last
    header_orderly =
        let f = ran.follows u (omega (arith, within)) in
        followers_read_headers Java (List DiagOf) JavaDatum JavaPred (java_plan w u) here EXT (type_row w t) (map (signature_stage w t) (members_of_type w.layout t)) f.reply f.asked f.pending f.stage f.ended (trace_of u c.log).past (trace_of u c.log).last f.follows
        (type_stages_are w u t (omega arith) (omega arith))

    module _ (still : closed_in c here ≡ false) where
      held : HoldsRow last_run.held u here EXT
      held =
          let v = holder_of last_run.held EXT here still in
          let first : HoldsRow z.opening v.0 here EXT = held_before z opens c.log runs none_made [] c.log [] whole v.0 here EXT v.1 in
          subst (λ (n : ℕ). HoldsRow last_run.held n here EXT) (row_holder w ok t v.0 (subst (λ (h : HeldOf JavaDatum). HoldsRow h v.0 here EXT) ran.opening first)) v.1

      not_closed : Did (handed (trace_of u c.log)) (CloseRow here EXT) → ⊥
      not_closed did = closed_stays z opens c.log runs none_made u c.log [] whole here EXT (did_entry z opens c.log runs u c.log [] whole (CloseRow here EXT) did.0 tt did.1) held

      module _ (g : GraphOf JavaDatum) (row : Scope → List Scope) (leaves : LeavesGreatest w c g row) where
        abbrev p : Program (Query JavaPred) JavaDatum
        p = headers_of w g

        abbrev end : State JavaDatum
        end = state_with p (closed_in c) row

        -- ---- what the unit asks

        reader_is : length w.layout.files + (here.serial - first_type w.layout) ≡ u
        reader_is = omega arith

        wait : IsHeaderWait p z (roles_of w.layout) last_run (closed_in c) row here
        wait = (leaves.1).waits here listed still

        asks_it : last_run.asks u ≡ open_ask wait.query wait.count
        asks_it = subst (λ (n : ℕ). last_run.asks n ≡ open_ask wait.query wait.count) reader_is wait.asks

        now : (let o : Op Java (List DiagOf) JavaDatum JavaPred = Ask wait.query in (trace_of u c.log).last ≡ Some o) × (handed (trace_of u c.log) ≡ past)
        now = asked_now (last_run.asks u) (trace_of u c.log).past (trace_of u c.log).last (trace_of u c.log).reply wait.query wait.count (trace_tells z u c.log runs) asks_it

        needs_row : Needs (WasTold past) (type_row w t) wait.query
        needs_row =
            let may : MayReadHeader (λ q. q) (type_row w t) here EXT (handed (trace_of u c.log)) (Ask wait.query) = header_orderly (handed (trace_of u c.log)) (Ask wait.query) (inl (sym now.1, now.0)) in
            let x = may not_closed in
            subst (λ (k : JavaPast). Needs (WasTold k) (type_row w t) wait.query) now.1 (subst (λ (q : Query JavaPred). Needs (WasTold (handed (trace_of u c.log))) (type_row w t) q) x.1 x.2)

        told_end : (q : Query JavaPred) (a : Answer JavaDatum) → WasTold past q a → IsSettled (state_of last_run.held) (asked_by z q) × IsAnswer last_run.held.graph (asked_by z q) a
        told_end q a k = settled_end q a (told_settled z opens c.log runs u c.log [] whole q a (subst (λ (h : JavaPast). WasTold h q a) (sym now.1) k))

        one_told : IsFunctional (WasTold past)
        one_told q a b x y = answers_are_one JavaDatum last_run.held.graph (asked_by z q) a b (told_end q a x).1 (told_end q b y).1

        -- ---- the state at the end, seen without signatures

        skeleton : IsSkeleton w g
        skeleton = let k = leaves.0 in record { graph = k.graph; scopes = k.scopes; given = k.given; edges = k.edges }

        over : IsOver w.layout g
        over = is_over w (laid_out w ok) g skeleton

        program : IsProgram p
        program = are_programs w.layout w.names (λ d. extends_of (decl_of w d)) (λ d. implements_of (decl_of w d)) g over

        quiet : IsQuiet p
        quiet = are_quiet w.layout w.names (λ d. extends_of (decl_of w d)) (λ d. implements_of (decl_of w d)) g over (reaches_by_sig w ok g skeleton)

        clear : (d : Scope) → Contains p.types d → IsTrue (closed_in c d) → (s : Scope) → Contains (row d) s → Contains p.signatures s → ⊥
        clear d i m =
            let st = ((leaves.1).greatest).stratified in
            let s = st.stands d i m in
            Gives-ends (λ ts. (s : Scope) → Contains ts s → Contains p.signatures s → ⊥) (AnswersSettled p (state_with p (lower (closed_in c) st.rank d) row)) (p.header d) (row d) s.0 (quiet.gives d i) s.1

        moment : IsMoment p (closed_in c) row (state_of last_run.held)
        moment = record {
          edges = λ s l k plain never. subst (λ (xs : List Edge). (HasEdge last_run.held.graph s l k) ↔ (Contains xs (record { from = s; label = l; to = k }))) (leaves.1).edges ((λ x. x), (λ x. x));
          open_there = λ s l o.
              let x = open_type p (closed_in c) row s l o in
              let v = holder_of last_run.held EXT s x.2 in
              subst (λ (n : ℕ). IsOpen (state_of last_run.held) s n) (sym x.1) (open_to last_run.held v.0 s EXT v.1);
          given = (leaves.1).given;
          unset = λ s o.
              let v = unset_from last_run.held s o in
              let first : HoldsDatum z.opening v.0 s = datum_held_before z opens c.log runs none_made [] c.log [] whole v.0 s v.1 in
              datum_is_signature w ok v.0 s (subst (λ (h : HeldOf JavaDatum). HoldsDatum h v.0 s) ran.opening first);
        }

        plain_query : (q : Query JavaPred) → IsNameQuery w.layout (length w.names) q → IsPlain p q
        plain_query q k = record {
          words = λ x i d.
              let has : names_label (kind_at q.kind).words SIG ≡ true = words_have (kind_at q.kind).words SIG x i d in
              let none : names_label (kind_at q.kind).words SIG ≡ false = plain_words q.kind k.kind k.plain in
              cc;
          start = starts_at_none w.layout q.start k.start;
        }

        -- what the unit was told is settled by the greatest stratified set
        moves : (q : Query JavaPred) (a : Answer JavaDatum) → IsNameQuery w.layout (length w.names) q → WasTold past q a → AnswersSettled p end q a
        moves q a k told =
            let same : asked_by z q ≡ java_asked q = kinds_ask c.kinds (subst AreKinds (sym ran.kinds) ok.kinds) q k.kind in
            let e = told_end q a told in
            let settled : IsSettled (state_of last_run.held) (java_asked q) = subst (λ (x : Asked JavaDatum). IsSettled (state_of last_run.held) x) same e.0 in
            let answer : IsAnswer last_run.held.graph (java_asked q) a = subst (λ (x : Asked JavaDatum). IsAnswer last_run.held.graph x a) same e.1 in
            let alike : LooksAlike (state_of last_run.held) end (java_asked q) = looks_alike p quiet (closed_in c) row clear (state_of last_run.held) moment q (plain_query q k) in
            (settled_over (state_of last_run.held) end (java_asked q) alike settled, (answer_over (state_of last_run.held) end (java_asked q) alike settled a).1 answer)

        -- ---- the open reference

        opens_there : (i : ℕ) → IsOpenReference (WasTold past) w.layout here (es ++ is) i → IsOpenReference (AnswersSettled p end) w.layout here (es ++ is) i
        opens_there i o =
            let same : o.query ≡ wait.query =
            Needs-same (WasTold past) one_told (type_row w t) o.query wait.query (row_needs (WasTold past) w.layout w.names here es is o.query (rule_needs (WasTold past) w.layout w.names here es is i o)) needs_row in
            record {
              within = o.within;
              found = o.found;
              queries = o.queries;
              before = Gives-within (IsNameQuery w.layout (length w.names)) (WasTold past) (AnswersSettled p end) (each (header_reference w.layout here) (take i (es ++ is))) o.found o.queries
                  (references_ask (take i (es ++ is)) (All-take (IsNumberedName (length w.names)) i (es ++ is) numbered_names)) moves o.before;
              query = o.query;
              needs = (
                Asks-within (IsNameQuery w.layout (length w.names)) (WasTold past) (AnswersSettled p end) (header_reference w.layout here (get_or (es ++ is) i [])) o.query
                    (reference_asks (get_or (es ++ is) i []) (numbered_names i [] o.within)) moves (o.needs).0,
                λ a k. (wait.first).1 (subst (λ (q : Query JavaPred). IsSettled end (p.asked q)) same k.0),
              );
            }

        -- ---- what the unit waits for

        awaited : (s : Scope) → (AwaitsRow w c t s) ↔ (IsNeeded p end wait.query s)
        awaited s = (
          (λ x.
              let k = (wait.needs (Row s EXT)).0 (subst (λ (n : ℕ). WaitsOn z last_run n (Row s EXT)) (sym reader_is) x) in
              let same : s ≡ k.0 = row_scope s k.0 k.1 in
              subst (λ (d : Scope). IsNeeded p end wait.query d) (sym same) k.2),
          (λ x. subst (λ (n : ℕ). WaitsOn z last_run n (Row s EXT)) reader_is ((wait.needs (Row s EXT)).1 (s, refl, x))),
        )
          where
            row_scope : (a b : Scope) → Row a EXT ≡ Row b EXT → a ≡ b
            row_scope a b e = cc

        itself : IsMoment p (closed_in c) row end
        itself = record {
          edges = λ s l k plain never. ((λ x. x), (λ x. x));
          open_there = λ s l o. o;
          given = λ s d out. ((λ x. x), (λ x. x));
          unset = λ s x. x;
        }

        no_datum : (s : Scope) → DatumBlocks end (p.asked wait.query) s → ⊥
        no_datum s b =
            let plain : IsPlain p wait.query = Asks-kind (IsPlain p) (AnswersSettled p end) (p.header here) wait.query (quiet.asks here listed) (wait.first).0 in
            end_clear p quiet (closed_in c) row clear end itself wait.query plain b.0 b.1 b.3 (subst (λ (x : Scope). Contains p.signatures x) (sym b.2) b.4)

        some : (s : Scope) × AwaitsRow w c t s
        some =
            let ends = open_type p (closed_in c) row in
            let x = some_row end (graphs_are_sound (Query JavaPred) JavaDatum p (closed_in c) row program ((leaves.1).greatest).stratified) (p.asked wait.query) EXT (λ s l o. (ends s l o).1) (λ s l o. program.placed s (ends s l o).0) no_datum (wait.first).1 in
            (x.0, (awaited x.0).1 ((ends x.0 EXT (x.1).4).0, x.1))

        says : (needed : List Scope) (d : DiagOf) → ((s : Scope) → (Contains needed s) ↔ (AwaitsRow w c t s)) → IsCircular (WasTold past) w.layout w.names here (es ++ is) needed d → SaysCircular (ruled w) g end here d
        says needed d exact k =
            let number : t ≡ here.serial - first_type w.layout = omega arith in
            let at_type : IsCircular (AnswersSettled p end) w.layout w.names here (es ++ is) needed d = record { place = k.place; open_reference = opens_there k.place k.open_reference; other = k.other; least = k.least; line = k.line } in
            record {
              query = wait.query;
              first = wait.first;
              needed = needed;
              needs = λ s. ((λ x. (awaited s).0 ((exact s).0 x)), (λ x. (exact s).1 ((awaited s).1 x)));
              says = subst (λ (n : ℕ). IsCircular (AnswersSettled p end) w.layout w.names here (extends_of (decl_at w.files n) ++ implements_of (decl_at w.files n)) needed d) number at_type;
            }

        held_by_headers : IsHeldByHeaders w c g row t
        held_by_headers = record { query = wait.query; needs = needs_rule (WasTold past) w.layout w.names here es is wait.query needs_row; some = some; says = says }

pub stuck_runs_report : StuckRunsReport
stuck_runs_report w c g row t ok ran leaves within still = held_by_headers w c ok ran t within still g row leaves
