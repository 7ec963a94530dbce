-- Runs of readers of one header: one that gets stuck, and one that ends.
use Rattle.std.proofs.Common.{◌≡◌, ℕ, ◌<◌, List, [], ◌∷◌, Bool, true, false, IsTrue, ◌&&◌, cond, eqb, Some, None, inl, inr, refl, sym, ap, subst, arith, ltb-true}
use Rattle.std.specs.List.{Contains}
use Rattle.sg_base.specs.declared.scope.Scope.{Scope}
use Rattle.sg_base.specs.Graph.{HasScope}
use Rattle.sg_base.specs.Label.{Word}
use Rattle.sg_base.proofs.Finite.{nothing_in, single, Contains-head, Contains-tail}
use Rattle.sg_query.specs.declared.answer.Answer.{Answer}
use Rattle.sg_query.specs.declared.query.Query.{Query}
use Rattle.sg_reading.specs.Reading.{Reading, AllAsked, AllEnds}
use Rattle.sg_state.specs.Held.{HeldOf, RowHold, DatumHold, HoldsRow}
use Rattle.sg_unit.specs.declared.entry.Entry.{Entry}
use Rattle.sg_unit.specs.declared.op.Op.{Op}
use Rattle.sg_unit.specs.declared.op.Op.TheVariants.{AddEdge, CloseRow, Ask, End}
use Rattle.sg_unit.specs.declared.reply.Reply.{Reply}
use Rattle.sg_unit.specs.declared.reply.Reply.TheVariants.{Done}
use Rattle.sg_unit.specs.Example.{corner, corner_query, lonely, lonely_setting, lonely_log}
use Rattle.sg_unit.specs.Run.{Setting, RunOf, opened, after, run_of}
use Rattle.sg_unit.specs.Step.{IsRun}
use Rattle.sg_unit.specs.Trace.{Past}
use Rattle.sg_unit.specs.Waiting.{IsWoken, IsStuck}
use Rattle.sg_state.specs.Opening.{IsOpening}
use Rattle.sg_unit.proofs.Lonely.{some_get_stuck}
use Rattle.sg_unit.proofs.Steps.{was_live}
use Rattle.sg_strata.specs.Program.{IsProgram, IsPlain, IsQuiet}
use Rattle.sg_headers.specs.Example.{one_type, one_reader, circular, plain, plain_log}
use Rattle.sg_headers.specs.Law.{SomeRunsAreOrderly}
use Rattle.sg_headers.specs.Run.{IsOrderlyRun}
use Rattle.sg_headers.specs.Outcome.{is_closed}
use Rattle.sg_unit.specs.Orderly.{IsOrderly}
use Rattle.sg_headers.specs.Orderly.{MayReadHeader}
use Rattle.sg_headers.specs.Setting.{IsProgramSetting}
use Rattle.sg_unit.proofs.Pasts.{not_empty, none_is_orderly, call_keeps_orderly}

there : Contains (corner ∷ []) corner
there = Contains-head corner []

no_one : (w : Word) → w ≡ 0 ∷ [] → Contains w 1 → ⊥
no_one w e c = let k : 1 ≡ 0 = single 0 1 (subst (λ (v : Word). Contains v 1) e c) in absurd (omega (arith, k))

at_corner : (u : ℕ) (s : Scope) (l : ℕ) → Contains ((record { scope = corner; label = 0; unit = 0 }) ∷ []) (let x : RowHold = record { scope = s; label = l; unit = u } in x) → (u ≡ 0) × (s ≡ corner) × (l ≡ 0)
at_corner u s l c =
    let e = single (let x : RowHold = record { scope = corner; label = 0; unit = 0 } in x) (record { scope = s; label = l; unit = u }) c in
    (ap (λ (x : RowHold). x.unit) e, ap (λ (x : RowHold). x.scope) e, ap (λ (x : RowHold). x.label) e)

module _ {D P : Type 0} (wants : P → D → Bool) (same : D → D → Bool) (opens : IsOpening (lonely {D = D})) where
  abbrev z : Setting D P
  z = lonely_setting wants same

  module _ (header : Reading (Query P) (Answer D) (List Scope)) where
    program : AllAsked (λ (q : Query P). HasScope (lonely {D = D}).graph q.start) header → AllEnds (λ ts. (t : Scope) → Contains ts t → Contains (corner ∷ []) t) header → IsProgram (one_type wants same header)
    program asks ends = record {
      graph = opens.held.graph;
      labelled = omega arith;
      placed = λ c i. i;
      asks = λ c i. asks;
      gives = λ c i. ends;
    }

    quiet : AllAsked (IsPlain (one_type wants same header)) header → AllEnds (λ (ts : List Scope). (t : Scope) → Contains ts t → Contains [] t → ⊥) header → IsQuiet (one_type wants same header)
    quiet asks ends = record { asks = λ c i. asks; gives = λ c i. ends; reached = λ s l t e n. absurd (nothing_in t n) }

    setting : IsProgramSetting (one_type wants same header) z one_reader
    setting = record {
      opening = opens;
      asked = λ q. refl;
      scopes = refl;
      edges = λ s l t e. e;
      imported = λ s l t e. inl e;
      given = refl;
      types = λ c i. subst (λ (x : Scope). HoldsRow (lonely {D = D}) 0 x 0) (sym (single corner c i)) (Contains-head (let x : RowHold = record { scope = corner; label = 0; unit = 0 } in x) []);
      rows = λ u s l c. let e = at_corner u s l c in inl (subst (λ (x : Scope). Contains (corner ∷ []) x) (sym e.1) there, e.2, e.0);
      unset = λ u s c. absurd (nothing_in (let x : DatumHold = record { scope = s; unit = u } in x) c);
      units = λ u b. inl (corner, there, omega (arith, b));
    }

-- ---- the run that gets stuck

module _ {I R D P : Type 0} (wants : P → D → Bool) (same : D → D → Bool) (x : P) where
  circular_orderly : IsOrderly (MayReadHeader {I = I} {R = R} {D = D} (λ (q : Query P). q) (circular x) corner 0) [] (Some (Ask (corner_query x)))
  circular_orderly before op (inl g) =
      let o : Op I R D P = Ask (corner_query x) in
      let is : o ≡ op = (let e = g.1 in cc) in
      subst (λ (i : Op I R D P). MayReadHeader (λ (q : Query P). q) (circular x) corner 0 before i) is
      (subst (λ (b : Past I R D P). MayReadHeader (λ (q : Query P). q) (circular x) corner 0 b o) g.0 (λ n. (corner_query x, refl, (inl refl, λ a c. nothing_in _ c))))
  circular_orderly before op (inr g) = absurd (not_empty before g.1 (op, g.0) g.2)

  circular_run : (let log : List (Entry I R D P) = lonely_log x in IsOrderlyRun (one_type wants same (circular x)) (lonely_setting wants same) one_reader log × IsStuck (run_of (lonely_setting wants same) log))
  circular_run =
      let lone = some_get_stuck I R D P wants same x in
      let k = lone.1 in (
        record {
          program = program wants same lone.0 (circular x) (there, λ a. tt) (λ a t n. absurd (nothing_in t n));
          quiet = quiet wants same lone.0 (circular x) (record { words = no_one; start = λ n. absurd (nothing_in corner n) }, λ a. tt) (λ a t n m. absurd (nothing_in t n));
          setting = setting wants same lone.0 (circular x);
          run = k.0;
          orderly = record {
            types = λ c i. subst (λ (t : Scope). IsOrderly (MayReadHeader {I = I} {R = R} {D = D} (λ (q : Query P). q) (circular x) t 0) [] (Some (Ask (corner_query x)))) (sym (single corner c i)) circular_orderly;
            imports = λ u i. absurd (cc);
          };
          over = inr k.1;
        },
        k.1,
      )

-- ---- the run that ends

not_waiting : (b : Bool) → IsTrue (cond b false false) → ⊥
not_waiting true w = cc
not_waiting false w = cc

still_not : (b : Bool) → IsTrue (cond b (cond b false false) (cond b false false && true)) → ⊥
still_not true w = cc
still_not false w = cc

module _ (I R D P : Type 0) (wants : P → D → Bool) (same : D → D → Bool) (y : R) where
  abbrev zz : Setting D P
  zz = lonely_setting wants same

  abbrev e1 : Entry I R D P
  e1 = record { unit = 0; op = AddEdge corner 0 corner; reply = Done [] }

  abbrev e2 : Entry I R D P
  e2 = record { unit = 0; op = CloseRow corner 0; reply = Done [] }

  abbrev e3 : Entry I R D P
  e3 = record { unit = 0; op = End y; reply = Done [] }

  none_woken : (r : RunOf D P) (h : HeldOf D) → ((u : ℕ) → IsTrue (r.waits u) → ⊥) → IsWoken zz r h []
  none_woken r h idle = (tt, λ u. ((λ c. absurd (nothing_in u c)), (λ w. absurd (idle u ((w.1).0)))))

  last_live : (u : ℕ) → IsTrue ((after (after (after (opened zz) e1) e2) e3).live u) → ⊥
  last_live u l =
      let b : u < 1 = ltb-true u 1 (was_live zz (opened zz) e1 u (was_live zz (after (opened zz) e1) e2 u (was_live zz (after (after (opened zz) e1) e2) e3 u l))) in
      let zero_is : u ≡ 0 = omega (arith, b) in
      let k : IsTrue ((after (after (after (opened zz) e1) e2) e3).live 0) = subst (λ (n : ℕ). IsTrue ((after (after (after (opened zz) e1) e2) e3).live n)) zero_is l in
      cc

  plain_run : IsRun zz (e1 ∷ e2 ∷ e3 ∷ [])
  plain_run =
      let hold : HoldsRow (lonely {D = D}) 0 corner 0 = Contains-head (let x : RowHold = record { scope = corner; label = 0; unit = 0 } in x) [] in (
        record { may = (refl, (refl, hold, there)); replies = refl },
        (
          record { may = (refl, (refl, hold)); replies = none_woken (after (opened zz) e1) (after (after (opened zz) e1) e2).held (λ u w. not_waiting (eqb 0 u) w) },
          (
            record {
              may = (refl, refl);
              replies = (none_woken (after (after (opened zz) e1) e2) (after (after (after (opened zz) e1) e2) e3).held (λ u w. still_not (eqb 0 u) w), λ s. last_live s.0.0 s.0.1);
            },
            tt,
          ),
        ),
      )

  abbrev May : Past I R D P → Op I R D P → Type 0
  May = MayReadHeader (λ (q : Query P). q) plain corner 0

  abbrev o1 : Op I R D P
  o1 = AddEdge corner 0 corner

  abbrev o2 : Op I R D P
  o2 = CloseRow corner 0

  abbrev o3 : Op I R D P
  o3 = End y

  plain_orderly : IsOrderly May ((o1, Done []) ∷ (o2, Done []) ∷ []) (Some o3)
  plain_orderly =
      let first : IsOrderly May [] (Some o1) = call_keeps_orderly May zz 0 [] None None o1 (none_is_orderly May) (refl, refl) (λ e f. (corner ∷ [], ([], (refl, refl)), there)) in
      let second : IsOrderly May ((o1, Done []) ∷ []) (Some o2) =
      call_keeps_orderly May zz 0 [] (Some o1) (Some (Done [])) o2 first refl
      (λ e f. (corner ∷ [], ([], (refl, refl)), λ t c. (Done [], subst (λ (s : Scope). Contains ((o1, Done []) ∷ []) (let p : Op I R D P × Reply I D P = (AddEdge corner 0 s, Done []) in p)) (sym (single corner t c)) (Contains-head (let p : Op I R D P × Reply I D P = (o1, Done []) in p) [])))) in
      call_keeps_orderly May zz 0 ((o1, Done []) ∷ []) (Some o2) (Some (Done [])) o3 second ([], refl)
      (Done [], Contains-tail (o1, Done []) (o2, Done []) ((o2, Done []) ∷ []) (Contains-head (let p : Op I R D P × Reply I D P = (o2, Done []) in p) []))

  plain_is_orderly : IsOpening (lonely {D = D}) → (let log : List (Entry I R D P) = plain_log y in IsOrderlyRun (one_type wants same plain) (lonely_setting wants same) one_reader log × IsTrue (is_closed (run_of (lonely_setting wants same) log).held 0 corner))
  plain_is_orderly opens = (
    record {
      program = program wants same opens plain tt (λ t c. c);
      quiet = quiet wants same opens plain tt (λ t c n. nothing_in t n);
      setting = setting wants same opens plain;
      run = plain_run;
      orderly = record {
        types = λ c i. subst (λ (t : Scope). IsOrderly (MayReadHeader (λ (q : Query P). q) plain t 0) ((o1, Done []) ∷ (o2, Done []) ∷ []) (Some o3)) (sym (single corner c i)) plain_orderly;
        imports = λ u i. absurd (cc);
      };
      over = inl last_live;
    },
    refl,
  )

pub some_runs_are_orderly : (I R D P : Type 0) → SomeRunsAreOrderly I R D P
some_runs_are_orderly I R D P wants same x y = (circular_run wants same x, plain_is_orderly I R D P wants same y (some_get_stuck I R D P wants same x).0)
