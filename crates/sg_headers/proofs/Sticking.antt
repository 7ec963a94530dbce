-- A run of orderly units is stuck exactly where a header is open.
use Rattle.std.proofs.Common.{◌≡◌, ℕ, ◌<◌, List, [], ◌∷◌, ◌⊎◌, Bool, false, IsTrue, inl, inr, sym, ◌∙◌, subst, length}
use Rattle.std.proofs.lemmas.Bool.{cases_Bool}
use Rattle.std.specs.List.{Contains}
use Rattle.sg_base.specs.declared.scope.Scope.{Scope}
use Rattle.sg_base.specs.State.{State, IsOpen}
use Rattle.sg_base.proofs.Finite.{nothing_in, Contains-head, Contains-tail, Contains-cons}
use Rattle.sg_query.specs.declared.query.Query.{Query}
use Rattle.sg_query.specs.State.{DatumBlocks}
use Rattle.sg_reading.specs.Reading.{done}
use Rattle.sg_state.specs.Held.{HoldsDatum, state_of}
use Rattle.sg_state.proofs.Extending.{open_from, unset_from}
use Rattle.sg_unit.specs.declared.entry.Entry.{Entry}
use Rattle.sg_unit.specs.declared.op.Op.TheVariants.{SetDatum, Ask}
use Rattle.sg_unit.specs.Run.{Setting, units_of, asked_by, run_of}
use Rattle.sg_unit.specs.Trace.{handed}
use Rattle.sg_unit.specs.Waiting.{IsStuck}
use Rattle.sg_strata.specs.Program.{Program, IsPlain, IsQuiet}
use Rattle.sg_strata.specs.Run.{IsMoment}
use Rattle.sg_strata.proofs.Moments.{end_clear}
use Rattle.sg_headers.specs.Law.{StuckWhereHeadersWait}
use Rattle.sg_unit.specs.Orderly.{IsOrderly}
use Rattle.sg_headers.specs.Orderly.{AsksNoSignature, MayAskSignatures}
use Rattle.sg_headers.specs.Run.{IsOver}
use Rattle.sg_headers.specs.Outcome.{is_closed}
use Rattle.sg_headers.specs.Setting.{Roles}
use Rattle.sg_trace.proofs.Holding.{datum_held_before, set_stays}
use Rattle.sg_headers.proofs.Readers.{IsKnownRun, known, none_makes}
use Rattle.sg_headers.proofs.Headers.{row, at, by, whole, last_is, at_moment, clear, waited, last_ask, open_last, waiting}
use Rattle.sg_trace.specs.Entries.{HasEntry}
use Rattle.sg_trace.specs.Tells.{trace_of}
use Rattle.sg_trace.proofs.Traces.{did_entry}

all_or : {X : Type 0} (f : X → Bool) (xs : List X) → ((x : X) → Contains xs x → IsTrue (f x)) ⊎ ((x : X) × Contains xs x × (f x ≡ false))
all_or f [] = inl (λ x c. absurd (nothing_in x c))
all_or {X} f (x ∷ xs) =
    elim (cases_Bool (f x)) [
      | inl b ↦ elim (all_or f xs) [
        | inl h ↦ inl (λ y c. elim (Contains-cons x y xs c) [ inl e ↦ subst (λ (i : X). IsTrue (f i)) (sym e) b | inr m ↦ h y m ])
        | inr k ↦ inr (k.0, Contains-tail x k.0 xs k.1, k.2)
      ]
      | inr b ↦ inr (x, Contains-head x xs, b)
    ]

-- the program, with all queries of the run for its own
abbrev asking_all : {Q D P : Type 0} → Program Q D → Setting D P → Program (Query P) D
asking_all p z = record {
  skeleton = p.skeleton;
  types = p.types;
  header = λ c. done [];
  signatures = p.signatures;
  super_label = p.super_label;
  signature_label = p.signature_label;
  asked = λ q. asked_by z q;
}

asking_quiet : {Q D P : Type 0} (p : Program Q D) (z : Setting D P) → IsQuiet p → IsQuiet (asking_all p z)
asking_quiet p z quiet = record { asks = λ c i. tt; gives = λ c i t n. absurd (nothing_in t n); reached = quiet.reached }

module _ {I R Q D P : Type 0} (p : Program Q D) (z : Setting D P) (k : Roles Q P) (log : List (Entry I R D P)) (h : IsKnownRun p z k log) (stuck : IsStuck (run_of z log)) (plain : (u : ℕ) → u < units_of z → IsOrderly (MayAskSignatures p z u) (trace_of u log).past (trace_of u log).last) (all : (c : Scope) → Contains p.types c → IsTrue (is_closed (run_of z log).held p.super_label c)) where
  over : IsOver (run_of z log)
  over = inr stuck

  none_open : (s : Scope) (l : ℕ) → IsOpen (state_of (run_of z log).held) s l → ⊥
  none_open s l o =
      let u = open_from (run_of z log).held s l o in
      let t = open_last p z k log h over u.0 s l u.1 in
      absurd (let a = all s t.0 in let e = sym a ∙ t.3 in cc)

  abbrev last : ℕ
  last = length log

  moment : IsMoment (asking_all p z) (by p z k log h last) (row p z k log h) (at p z k log h last)
  moment =
      let m = at_moment p z k log h last in
      record { edges = m.edges; open_there = m.open_there; given = m.given; unset = m.unset }

  -- a query that looks at no signature waits for no datum
  no_datum_blocks : (q : Query P) → AsksNoSignature p (asked_by z q) → (s : Scope) → DatumBlocks (state_of (run_of z log).held) (asked_by z q) s → ⊥
  no_datum_blocks q quiet s b =
      let there : DatumBlocks (at p z k log h last) (asked_by z q) s = subst (λ (y : State D). DatumBlocks y (asked_by z q) s) (sym (last_is p z k log h)) b in
      let ask : IsPlain (asking_all p z) q = record { words = quiet.0; start = quiet.1 } in
      end_clear (asking_all p z) (asking_quiet p z h.quiet) (by p z k log h last) (row p z k log h) (clear p z k log h over) (at p z k log h last) moment q ask there.0 there.1 there.3
      (subst (λ (x : Scope). Contains p.signatures x) (sym there.2) (moment.unset s there.4))

  -- each datum was set
  no_datum : (v : ℕ) (s : Scope) → HoldsDatum (run_of z log).held v s → ⊥
  no_datum v s c =
      let w = waited p z k log h over in
      let o = w.waiting v (stuck.1 v (w.datum_live v s c)) in
      let first : HoldsDatum z.opening v s = datum_held_before z h.setting.opening log h.run (none_makes p z k log h) [] log [] (whole p z k log h) v s c in
      elim (plain v (((w.asked).sound).below v (w.datum_live v s c)) (handed (trace_of v log)) (Ask o.query) (last_ask p z k log h over v o.query o.count o.asks) s first) [
        | inl did ↦
            let entry : HasEntry v log (SetDatum s did.0) = did_entry z h.setting.opening log h.run v log [] (whole p z k log h) (SetDatum s did.0) (did.1).0 tt (did.1).1 in
            set_stays z h.setting.opening log h.run (none_makes p z k log h) v log [] (whole p z k log h) s did.0 entry c
        | inr quiet ↦ o.unsettled (inl ((λ t l b. none_open t l b.4), no_datum_blocks o.query quiet))
      ]

  no_stuck : ⊥
  no_stuck =
      let w = waited p z k log h over in
      let u = stuck.0 in
      let o = w.waiting u.0 (stuck.1 u.0 u.1) in
      o.unsettled (inl ((λ t l b. none_open t l b.4), (λ s b. let v = unset_from (run_of z log).held s b.4 in no_datum v.0 s v.1)))

pub stuck_where_headers_wait : (I R Q D P : Type 0) → StuckWhereHeadersWait I R Q D P
stuck_where_headers_wait I R Q D P p z k log o plain =
    let h : IsKnownRun p z k log = known o in (
      (λ stuck. elim (all_or (λ c. is_closed (run_of z log).held p.super_label c) p.types) [
        | inl all ↦ absurd (no_stuck p z k log h stuck plain all)
        | inr some ↦ some
      ]),
      (λ some.
          let w = waiting p z k log h o.over some.0 some.1 some.2 in
          let live = ((waited p z k log h o.over).waiting (k.reader some.0) w.waits).live in
          elim o.over [ inl none ↦ absurd (none (k.reader some.0) live) | inr stuck ↦ stuck ]),
    )
