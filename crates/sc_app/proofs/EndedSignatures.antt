-- At the end of a run that has ended each member has the signature that its rule gives in the graph of the headers.
use Rattle.std.proofs.Common.{◌≡◌, ℕ, ◌+◌, ◌<◌, ◌==◌, IsTrue, List, [], ◌∷◌, length, map, refl, sym, ap, ◌∙◌, subst, arith, zero-add}
use Rattle.std.specs.List.{Contains}
use Rattle.std.proofs.lemmas.Bool.{eq-eqb}
use Rattle.std.proofs.lemmas.List.{length-replicate}
use Rattle.std.proofs.lemmas.List.Elements.{All-get_or}
use Rattle.std.proofs.lemmas.List.FromFn.{length-range_with_len, get_or-range_with_len}
use Rattle.sg_base.specs.Graph.{GraphOf, HasDatum}
use Rattle.sg_base.proofs.Finite.{Contains-head, Contains-tail, filter-Contains, map-Contains}
use Rattle.sg_core.specs.Core.{run, setting}
use Rattle.sg_query.specs.declared.answer.Answer.{Answer}
use Rattle.sg_query.specs.declared.query.Query.{Query}
use Rattle.sg_query.specs.Answer.{IsAnswer}
use Rattle.sg_query.specs.Query.{Asked}
use Rattle.sg_reading.specs.Reading.{Gives, AllAsked, done}
use Rattle.sg_reading.proofs.Asking.{AllAsked-more, and_then-asked}
use Rattle.sg_reading.proofs.Readings.{Gives-within}
use Rattle.sg_reading.proofs.Sequences.{gives_in_turn}
use Rattle.sg_script.specs.declared.write.Write.{Write}
use Rattle.sg_script.specs.declared.write.Write.TheVariants.{SetDatum as Sets}
use Rattle.sg_script.specs.Following.{WroteAll, writes_in}
use Rattle.sg_script.specs.Script.{Stage, IsQuery}
use Rattle.sg_script.proofs.Given.{given_has, wrote_did}
use Rattle.sg_state.specs.Held.{HeldOf}
use Rattle.sg_trace.specs.Entries.{HasEntry}
use Rattle.sg_trace.specs.Tells.{trace_of}
use Rattle.sg_unit.specs.declared.op.Op.{Op}
use Rattle.sg_unit.specs.declared.op.Op.TheVariants.{SetDatum, End}
use Rattle.sg_unit.specs.Orderly.{Did, GaveAfter, WasTold}
use Rattle.sg_unit.specs.Run.{Setting, asked_by, units_of}
use Rattle.sg_unit.specs.Trace.{Past, handed}
use Rattle.jv_diag.specs.Plain.{DiagOf}
use Rattle.jv_instance.specs.declared.datum.JavaDatum.{JavaDatum}
use Rattle.jv_instance.specs.declared.java.Java.{Java}
use Rattle.jv_instance.specs.declared.pred.JavaPred.{JavaPred}
use Rattle.jv_instance.specs.Data.{is_wanted}
use Rattle.jv_layout.specs.Folder.{LayoutOf}
use Rattle.jv_layout.specs.Readers.{member_at, members_of_type, no_member}
use Rattle.jv_layout.specs.Scopes.{signature_of_member, type_scope}
use Rattle.jv_layout.specs.Skeleton.{below}
use Rattle.jv_names.specs.Bounds.{IsNameQuery}
use Rattle.jv_names.specs.Kinds.{AreKinds, kinds}
use Rattle.jv_names.specs.Law.{InGraph}
use Rattle.jv_names.proofs.Bounds.{row_is_type}
use Rattle.jv_member.specs.declared.signature.Signature.{Signature}
use Rattle.jv_member.proofs.Bounds.{signatures_stay_in}
use Rattle.jv_unit.specs.Folder.{FolderOf, IsFolderOf}
use Rattle.jv_unit.specs.Owns.{own_at}
use Rattle.jv_unit.specs.Plans.{class_of, java_plan, member_signature, signature_datum, signature_stage, type_stage, unit_ending, unit_stages}
use Rattle.jv_unit.proofs.Numbers.{members_are_owns, named_in, owns_numbered}
use Rattle.jv_unit.proofs.UnitRules.{type_stages_are}
use Rattle.sc_app.specs.FolderGraph.{GivesSignature}
use Rattle.sc_app.specs.FolderRun.{JavaCore, IsFolderRun, ruled, same_datum}
use Rattle.sc_app.proofs.EndedKinds.{asked_same}
use Rattle.sc_app.proofs.EndedUnits.{dead_has_ended, did_before, entry_after, set_is_there, told_before}

in_below : (n k : ℕ) → k < n → Contains (below n) k
in_below n k h = (k, omega (arith, h, length-range_with_len 0 n), get_or-range_with_len 0 n k k h ∙ zero-add k)

module _ (w : FolderOf) (c : JavaCore) (folder : IsFolderOf w) (ran : IsFolderRun w c) where
  abbrev z : Setting JavaDatum JavaPred
  z = setting is_wanted same_datum c

  -- the graph at the end of the run
  abbrev g : GraphOf JavaDatum
  g = (run is_wanted same_datum c).held.graph

  -- there is a unit for each file and each type
  pub units_are : units_of z ≡ length w.layout.files + length w.layout.types
  units_are = ap (λ (h : HeldOf JavaDatum). length h.made) ran.opening ∙ length-replicate {A = ℕ} (length w.layout.files + length w.layout.types) 0

  abbrev IsOfKind : Query JavaPred → Type 0
  IsOfKind q = q.kind < length kinds

  -- what a query has for an answer in the run's graph by the table of the run it has by Java's kinds
  answers_in_graph : (q : Query JavaPred) (a : Answer JavaDatum) → IsOfKind q → IsAnswer g (asked_by z q) a → InGraph g q a
  answers_in_graph q a k h = subst (λ (x : Asked JavaDatum). IsAnswer g x a) (asked_same c.kinds (subst AreKinds (sym ran.kinds) folder.kinds) q k) h

  module _ (u : ℕ) (within : u < length w.layout.files + length w.layout.types) (x : List DiagOf) (e : HasEntry u c.log (End x)) where
    -- what the unit had been handed when it ended
    abbrev before : Past Java (List DiagOf) JavaDatum JavaPred
    before = handed (trace_of u e.before)

    abbrev ends : Op Java (List DiagOf) JavaDatum JavaPred
    ends = End x

    after : GaveAfter (trace_of u c.log).past (trace_of u c.log).last before ends
    after = entry_after z ran.core.opens c.log ran.core.runs u ends e tt

    -- it had written all its stages, and its last rule gave what it came to
    over : WroteAll (java_plan w u).stages before × ((qs : List (Query JavaPred)) × Gives (WasTold before) (unit_ending w u) x qs)
    over = (ran.follows u within).follows.orderly before ends after

    told_then : (q : Query JavaPred) (a : Answer JavaDatum) → IsOfKind q → WasTold before q a → InGraph g q a
    told_then q a k t = answers_in_graph q a k (told_before z ran.core.opens c.log ran.core.runs u before ends after q a t)

    ending_asks : AllAsked IsOfKind (unit_ending w u)
    ending_asks =
        AllAsked-more (IsQuery (java_plan w u)) IsOfKind (unit_ending w u) (λ q k. subst (λ (n : ℕ). q.kind < n) folder.kinds.count k.kind) (ran.follows u within).follows.sound.asks

    -- in the run's graph its last rule gives what it came to
    pub came_to : (qs : List (Query JavaPred)) × Gives (InGraph g) (unit_ending w u) x qs
    came_to = ((over.1).0, Gives-within IsOfKind (WasTold before) (InGraph g) (unit_ending w u) x (over.1).0 ending_asks told_then (over.1).1)

  -- ---- signatures

  module _ (ended : (u : ℕ) → IsTrue ((run is_wanted same_datum c).live u) → ⊥) (h : GraphOf JavaDatum) (same : (q : Query JavaPred) (a : Answer JavaDatum) → IsNameQuery w.layout (length w.names) q → InGraph g q a → InGraph h q a) (m : ℕ) (within : m < length w.layout.members) where
    abbrev t : ℕ
    t = (member_at w.layout m).owner

    owner_within : t < length w.layout.types
    owner_within = All-get_or (λ r. r.owner < length w.layout.types) w.layout.members m no_member within folder.linked.members

    abbrev u : ℕ
    u = length w.layout.files + t

    unit_within : u < length w.layout.files + length w.layout.types
    unit_within = omega (arith, owner_within)

    the_end : (x : List DiagOf) × HasEntry u c.log (End x)
    the_end = dead_has_ended z ran.core.opens c.log ran.core.runs u (omega (arith, unit_within, units_are)) (ended u)

    abbrev heard : Past Java (List DiagOf) JavaDatum JavaPred
    heard = handed (trace_of u the_end.1.before)

    owned : Contains (members_of_type w.layout t) m
    owned = filter-Contains (λ (k : ℕ). (member_at w.layout k).owner == t) (below (length w.layout.members)) m (in_below (length w.layout.members) m within) (eq-eqb t t refl)

    stage_listed : Contains (unit_stages w u) (signature_stage w t m)
    stage_listed =
        subst (λ (ss : List (Stage JavaDatum JavaPred)). Contains ss (signature_stage w t m)) (sym (type_stages_are w u t (omega arith) (omega arith)))
        (Contains-tail (type_stage w t) (signature_stage w t m) (map (signature_stage w t) (members_of_type w.layout t)) (map-Contains (signature_stage w t) (members_of_type w.layout t) m owned))

    asks_names : AllAsked (IsNameQuery w.layout (length w.names)) (signature_datum w t m)
    asks_names =
        and_then-asked (IsNameQuery w.layout (length w.names)) (member_signature w t m) (λ (s : Signature). done s.datum)
        (signatures_stay_in w.layout (length w.names) w.names (type_scope w.layout t) (class_of w t) (own_at w.files m) (named_in w folder) (row_is_type w.layout t owner_within)
        (owns_numbered (length w.names) w.files folder.numbered m (omega (arith, within, members_are_owns w.files, ap (λ (l : LayoutOf). length l.members) folder.layout)))).asks
        (λ s. tt)

    -- what the stage of the signature wrote
    abbrev Wrote : Type 0
    Wrote = (d : JavaDatum) × (qs : List (Query JavaPred)) × Gives (WasTold heard) (signature_datum w t m) d qs × Did heard (SetDatum (signature_of_member w.layout m) d)

    wrote : Wrote
    wrote =
        let all = (over u unit_within the_end.0 the_end.1).0 in
        let k = given_has (WasTold heard) (unit_stages w u) (writes_in heard) (signature_stage w t m) all stage_listed in
        let made = (gives_in_turn (WasTold heard) (signature_datum w t m) (λ (d : JavaDatum). done (Sets (signature_of_member w.layout m) d ∷ [])) k.0 k.1).0 k.2 in
        let put : Write JavaDatum = Sets (signature_of_member w.layout m) made.0 in
        let own : Contains k.0 put = subst (λ (ws : List (Write JavaDatum)). Contains ws put) (made.4).0 (Contains-head put []) in
        (made.0, made.1, made.3, wrote_did heard put (k.3 put own))

    -- the member has the signature that its rule gives in the graph of the headers
    pub has_signature : (d : JavaDatum) × HasDatum g (signature_of_member w.layout m) d × GivesSignature (ruled w) h m d
    has_signature =
        let s = signature_of_member w.layout m in
        let d = wrote.0 in
        let set : Op Java (List DiagOf) JavaDatum JavaPred = SetDatum s d in
        let did = wrote.3 in
        let entry : HasEntry u c.log set = did_before z ran.core.opens c.log ran.core.runs u heard (End the_end.0) (after u unit_within the_end.0 the_end.1) set did.0 tt did.1 in (
          d,
          set_is_there z ran.core.opens c.log ran.core.runs u s d entry,
          (wrote.1, Gives-within (IsNameQuery w.layout (length w.names)) (WasTold heard) (InGraph h) (signature_datum w t m) d wrote.1 asks_names (λ q a k t. same q a k (told_then u unit_within the_end.0 the_end.1 q a k.kind t)) wrote.2),
        )
