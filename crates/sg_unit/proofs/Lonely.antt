-- A unit that waits for itself.
use Rattle.std.proofs.Common.{◌≡◌, ℕ, ◌<◌, ◌≤◌, List, [], ◌∷◌, Bool, IsTrue, inl, inr, refl, sym, ap, subst, arith, length, get_or, ltb-true}
use Rattle.std.specs.List.{Contains}
use Rattle.sg_base.specs.declared.scope.Scope.{Scope}
use Rattle.sg_base.specs.declared.step.Step.{Step}
use Rattle.sg_base.specs.Graph.{Edge, IsWalk}
use Rattle.sg_base.specs.State.{State}
use Rattle.sg_base.proofs.Finite.{nothing_in, single, Contains-head, each_at, pigeons}
use Rattle.sg_query.specs.declared.query.Query.{Query}
use Rattle.sg_query.specs.Query.{Asked}
use Rattle.sg_query.specs.State.{IsSettled, GoesOnClosed}
use Rattle.sg_state.specs.Held.{RowHold, DatumHold, state_of}
use Rattle.sg_state.specs.Opening.{nobody, IsOpening}
use Rattle.sg_state.proofs.Extending.{open_to}
use Rattle.sg_unit.specs.declared.entry.Entry.{Entry}
use Rattle.sg_unit.specs.declared.op.Op.TheVariants.{Ask, Advance}
use Rattle.sg_unit.specs.declared.reply.Reply.TheVariants.{Moved, Stuck}
use Rattle.sg_unit.specs.Law.{SomeGetStuck}
use Rattle.sg_unit.specs.Example.{corner, lonely, lonely_setting}
use Rattle.sg_unit.specs.Run.{Setting, RunOf, asked_by, opened, after}
use Rattle.sg_unit.specs.Step.{IsStep}
use Rattle.sg_unit.specs.Waiting.{IsStuck}
use Rattle.sg_unit.proofs.Steps.{was_live}

at_corner : (u : ℕ) (s : Scope) (l : ℕ) → Contains ((record { scope = corner; label = 0; unit = 0 }) ∷ []) (let x : RowHold = record { scope = s; label = l; unit = u } in x) → (u ≡ 0) × (s ≡ corner) × (l ≡ 0)
at_corner u s l c =
    let e = single (let x : RowHold = record { scope = corner; label = 0; unit = 0 } in x) (record { scope = s; label = l; unit = u }) c in
    (ap (λ (x : RowHold). x.unit) e, ap (λ (x : RowHold). x.scope) e, ap (λ (x : RowHold). x.label) e)

there : Contains (corner ∷ []) corner
there = Contains-head corner []

pub lonely_opens : (D : Type 0) → IsOpening {D = D} lonely
lonely_opens D = record {
  held = record {
    graph = record {
      scopes_rise = (tt, tt);
      edges_rise = tt;
      data_rise = tt;
      labelled = λ s l t e. absurd (nothing_in (let x : Edge = record { from = s; label = l; to = t } in x) e);
      source = λ s l t e. absurd (nothing_in (let x : Edge = record { from = s; label = l; to = t } in x) e);
      target = λ s l t e. absurd (nothing_in (let x : Edge = record { from = s; label = l; to = t } in x) e);
      placed = λ s d e. absurd (nothing_in (let x : Scope × D = (s, d) in x) e);
    };
    rows_rise = (tt, tt);
    data_rise = tt;
    labelled = λ u s l c. let e = (at_corner u s l c).2 in omega (arith, e);
    row_at = λ u s l c. subst (λ (x : Scope). Contains (corner ∷ []) x) (sym (at_corner u s l c).1) there;
    datum_at = λ u s c. absurd (nothing_in (let x : DatumHold = record { scope = s; unit = u } in x) c);
    unset = λ u s d c g. absurd (nothing_in (let x : DatumHold = record { scope = s; unit = u } in x) c);
    alone = λ u v s c k. absurd (nothing_in (let x : DatumHold = record { scope = s; unit = u } in x) c);
    row_holder = λ u s l c. let e = (at_corner u s l c).0 in omega (arith, e);
    datum_holder = λ u s c. absurd (nothing_in (let x : DatumHold = record { scope = s; unit = u } in x) c);
    serials = λ s c b. let e : s.unit ≡ nobody = ap (λ (x : Scope). x.unit) (single corner s c) in absurd (omega (arith, b, e));
    rest_rises = tt;
    rest_edges = λ s l t e. absurd (nothing_in (let x : Edge = record { from = s; label = l; to = t } in x) e);
    rest_or_given = λ s l t e. absurd (nothing_in (let x : Edge = record { from = s; label = l; to = t } in x) e);
  };
  nobodys = λ s c. ap (λ (x : Scope). x.unit) (single corner s c);
  few = omega arith;
  unmade = λ k d lt. let e : 0 ≡ k = omega (arith, lt) in subst (λ (n : ℕ). get_or (0 ∷ []) n d ≡ 0) e refl;
}

module _ {D P : Type 0} (wants : P → D → Bool) (same : D → D → Bool) (p : P) where
  abbrev pub q : Asked D
  q = asked_by (lonely_setting wants same) (record { start = corner; kind = 0; pred = p })

  abbrev pub h : State D
  h = state_of (lonely {D = D})

  no_steps : (ps : List Step) → IsWalk h.graph corner ps → Contains ([] ∷ []) ps
  no_steps [] w = Contains-head (let x : List Step = [] in x) []
  no_steps (s ∷ ps) w = absurd (nothing_in (let x : Edge = record { from = corner; label = s.label; to = s.to } in x) w.0)

  pub not_settled : IsSettled h q → ⊥
  not_settled (inl free) =
      free.0 corner 0 ([], ((tt, ((λ c. nothing_in corner c), tt)), tt), refl, ([], refl), open_to (lonely {D = D}) 0 corner 0 (Contains-head (let x : RowHold = record { scope = corner; label = 0; unit = 0 } in x) []))
  not_settled (inr m) =
      let few : length m.0 ≤ 1 = pigeons m.0 ([] ∷ []) m.2 (λ ps c. no_steps ps (((each_at (GoesOnClosed h q) m.0 m.3 ps c).0).0).0) in
      let many : 4096 < length m.0 = m.1 in
      absurd (omega (arith, few, many))

pub some_get_stuck : (I R D P : Type 0) → SomeGetStuck I R D P
some_get_stuck I R D P wants same p =
    let z : Setting D P = lonely_setting wants same in
    let start : RunOf D P = opened z in
    let first : Query P = record { start = corner; kind = 0; pred = p } in
    let e1 : Entry I R D P = record { unit = 0; op = Ask first; reply = Moved } in
    let e2 : Entry I R D P = record { unit = 0; op = Advance; reply = Stuck } in
    let last : RunOf D P = after (after start e1) e2 in
    let below : (u : ℕ) → IsTrue (last.live u) → u < 1 = λ u l. ltb-true u 1 (was_live z start e1 u (was_live z (after start e1) e2 u l)) in
    let waits : (u : ℕ) → IsTrue (last.live u) → IsTrue (last.waits u) = λ u l. let b = below u l in let zero_is : 0 ≡ u = omega (arith, b) in subst (λ (n : ℕ). IsTrue (last.waits n)) zero_is refl in
    let halted : IsStuck last = ((0, refl), waits) in
    let s1 : IsStep z start e1 = record { may = (refl, (refl, omega arith, there)); replies = refl } in
    let s2 : IsStep z (after start e1) e2 =
    record {
      may = (refl, (first, 0, refl));
      replies = λ k m e. let alike : first ≡ k = cc in (subst (λ (x : Query P). IsSettled (state_of (lonely {D = D})) (asked_by z x) → ⊥) alike (not_settled wants same p), halted);
    } in
    (lonely_opens D, ((s1, (s2, tt)), halted))
