-- All runs of a program that are over leave the same.
use Rattle.std.proofs.Common.{◌≡◌, List, Bool, false, ◌↔◌, sym, ap, ◌∙◌, subst}
use Rattle.std.specs.List.{Contains}
use Rattle.sg_base.specs.declared.scope.Scope.{Scope}
use Rattle.sg_base.specs.Graph.{GraphOf}
use Rattle.sg_base.specs.State.{State}
use Rattle.sg_reading.proofs.Readings.{Needs-same}
use Rattle.sg_state.specs.declared.need.Need.{Need}
use Rattle.sg_unit.specs.Run.{Setting, RunOf, run_of}
use Rattle.sg_unit.specs.Waiting.{WaitsOn}
use Rattle.sg_strata.specs.Program.{Program, IsProgram, graph_with, AnswersSettled, IsFirstOpen, IsNeeded, state_with}
use Rattle.sg_strata.proofs.Greatest.{greatest_is_one, state_with-agree}
use Rattle.sg_strata.proofs.Ranks.{one_settled}
use Rattle.sg_headers.specs.Law.{RunsLeaveAlike}
use Rattle.sg_headers.specs.Outcome.{is_closed, IsHeaderWait, Leaves, LeavesAlike}
use Rattle.sg_headers.specs.Setting.{Roles}
use Rattle.sg_headers.proofs.Headers.{closed_headers_are_greatest}

module _ {Q D : Type 0} (p : Program Q D) where
  -- a state depends on its graph and on what its test says of types
  state_same : (closed closed' : Scope → Bool) (row row' : Scope → List Scope) → ((c : Scope) → Contains p.types c → closed c ≡ closed' c) → graph_with p closed row ≡ graph_with p closed' row' → state_with p closed row ≡ state_with p closed' row'
  state_same closed closed' row row' agree same =
      let first : state_with p closed row ≡ state_with p closed' row = state_with-agree p closed closed' row agree in
      first ∙ ap (λ (g : GraphOf D). let s : State D = record { graph = g; open_rows = (state_with p closed' row).open_rows; unset = p.signatures } in s) (ap (λ (s : State D). s.graph) (sym first) ∙ same)

  -- a header has one first open query
  one_open : (h : State D) (c : Scope) (q q' : Q) → IsFirstOpen p h c q → IsFirstOpen p h c q' → q ≡ q'
  one_open h c q q' f f' = Needs-same (AnswersSettled p h) (one_settled p h) (p.header c) q q' (f.0, λ a s. f.1 s.0) (f'.0, λ a s. f'.1 s.0)

module _ {Q D P : Type 0} (p : Program Q D) (z : Setting D P) (k : Roles Q P) (ok : IsProgram p) (r r' : RunOf D P) (row row' : Scope → List Scope) (left : Leaves p z k r (is_closed r.held p.super_label) row) (left' : Leaves p z k r' (is_closed r'.held p.super_label) row') where
  abbrev K : Scope → Bool
  K = is_closed r.held p.super_label

  abbrev K' : Scope → Bool
  K' = is_closed r'.held p.super_label

  closed_same : (c : Scope) → Contains p.types c → K c ≡ K' c
  closed_same = (greatest_is_one Q D p K K' row row' ok left.greatest left'.greatest).0

  graph_same : graph_with p K row ≡ graph_with p K' row'
  graph_same = (greatest_is_one Q D p K K' row row' ok left.greatest left'.greatest).1

  needs_same : (c : Scope) → Contains p.types c → K c ≡ false → (n : Need) → (WaitsOn z r (k.reader c) n) ↔ (WaitsOn z r' (k.reader c) n)
  needs_same c i f n =
      let w : IsHeaderWait p z k r K row c = left.waits c i f in
      let w' : IsHeaderWait p z k r' K' row' c = left'.waits c i (sym (closed_same c i) ∙ f) in
      let state : state_with p K row ≡ state_with p K' row' = state_same p K K' row row' closed_same graph_same in
      let query : w.query ≡ w'.query = one_open p (state_with p K' row') c w.query w'.query (subst (λ (s : State D). IsFirstOpen p s c w.query) state w.first) w'.first in (
        (λ need. let t = (w.needs n).0 need in (w'.needs n).1 (t.0, t.1, subst (λ (q : Q). IsNeeded p (state_with p K' row') q t.0) query (subst (λ (s : State D). IsNeeded p s w.query t.0) state t.2))),
        (λ need. let t = (w'.needs n).0 need in (w.needs n).1 (t.0, t.1, subst (λ (s : State D). IsNeeded p s w.query t.0) (sym state) (subst (λ (q : Q). IsNeeded p (state_with p K' row') q t.0) (sym query) t.2))),
      )

  pub leave_alike : LeavesAlike p z k r r'
  leave_alike = record { closed = closed_same; edges = left.edges ∙ (ap (λ (g : GraphOf D). g.edges) graph_same ∙ sym left'.edges); needs = needs_same }

pub runs_leave_alike : (I R Q D P : Type 0) → RunsLeaveAlike I R Q D P
runs_leave_alike I R Q D P p z k log log' o o' =
    let one = closed_headers_are_greatest I R Q D P p z k log o in
    let two = closed_headers_are_greatest I R Q D P p z k log' o' in
    leave_alike p z k o.program (run_of z log) (run_of z log') one.0 two.0 one.1 two.1
