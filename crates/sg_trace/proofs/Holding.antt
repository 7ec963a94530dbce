-- What is held and added in a run in which no unit makes a scope.
use Rattle.std.proofs.Common.{◌≡◌, ℕ, List, [], ◌∷◌, ◌++◌, ◌⊎◌, ◌↔◌, Bool, true, false, not, ◌&&◌, eqb, inl, inr, refl, sym, ap, ◌∙◌, subst, append_assoc}
use Rattle.std.proofs.lemmas.Bool.{cases_Bool}
use Rattle.std.proofs.lemmas.List.Elements.{Contains-append_right}
use Rattle.std.specs.List.{Contains}
use Rattle.sg_base.specs.declared.scope.Scope.{Scope}
use Rattle.sg_base.specs.Graph.{Edge, HasScope, HasEdge, edge_cmp, edge_total}
use Rattle.sg_base.specs.Scope.{is_scope}
use Rattle.sg_base.proofs.Finite.{Contains-head, filter-Contains}
use Rattle.sg_base.proofs.Scopes.{scope_same, same_scope, number_same, number_itself, both_true}
use Rattle.sg_state.specs.Held.{HeldOf, RowHold, HoldsRow, HoldsDatum, with_edge, with_datum, without_row, is_row_hold, is_datum_hold}
use Rattle.sg_state.specs.Opening.{IsOpening}
use Rattle.sg_state.proofs.RisingLists.{Contains-put}
use Rattle.sg_state.proofs.Equals.{equal_edge}
use Rattle.sg_unit.specs.declared.entry.Entry.{Entry}
use Rattle.sg_unit.specs.declared.op.Op.{Op}
use Rattle.sg_unit.specs.declared.op.Op.TheVariants.{Fresh, AddEdge, SetDatum, CloseRow, Ask, Advance, Take, End}
use Rattle.sg_unit.specs.Run.{Setting, RunOf, held_after, after, run_of}
use Rattle.sg_unit.specs.Step.{IsRun}
use Rattle.sg_unit.proofs.Writes.{fresh_rows, row_hold, datum_hold, datum_was, close_was, end_row_was, end_datum_was}
use Rattle.sg_trace.specs.Entries.{MakesScope, MakeNoScope, GivesUp, HasEntry, WasGivenUp}
use Rattle.sg_trace.proofs.Fronts.{along, next_front, one_after, front_is_run, front_follows}
use Rattle.sg_trace.proofs.Traces.{entry_before}

-- ---- one operation

not_is : (b : Bool) → b ≡ false → not b ≡ true
not_is b e = rw e refl

module _ {D : Type 0} (h : HeldOf D) (w : ℕ) where
  edge_puts : (e x : Edge) → (Contains (with_edge h e).graph.edges x) ↔ (Contains h.graph.edges x ⊎ (x ≡ e))
  edge_puts e x = Contains-put edge_cmp edge_total h.graph.edges e (λ y c k. equal_edge e y k) x

  closed_is_out : (s : Scope) (l : ℕ) → HoldsRow (without_row h w s l) w s l → ⊥
  closed_is_out s l c = differ (is_row_hold w s l (row_hold s l w)) (close_was h w s l w s l c).1 itself
    where
      differ : (b : Bool) → not b ≡ true → b ≡ true → ⊥
      differ true n e = cc
      differ false n e = cc

      itself : is_row_hold w s l (row_hold s l w) ≡ true
      itself = rw (number_itself w, same_scope s s refl, number_itself l) refl

  set_is_out : (s : Scope) (d : D) → HoldsDatum (with_datum h w s d) w s → ⊥
  set_is_out s d c = differ (is_datum_hold w s (datum_hold s w)) (datum_was h w s w s d c).1 itself
    where
      differ : (b : Bool) → not b ≡ true → b ≡ true → ⊥
      differ true n e = cc
      differ false n e = cc

      itself : is_datum_hold w s (datum_hold s w) ≡ true
      itself = rw (number_itself w, same_scope s s refl) refl

module _ {I R D P : Type 0} (h : HeldOf D) (w : ℕ) where
  rows_back : (op : Op I R D P) → (MakesScope op → ⊥) → (u : ℕ) (s : Scope) (l : ℕ) → HoldsRow (held_after h w op) u s l → HoldsRow h u s l
  rows_back (Fresh labels datum) never u s l c = absurd (never tt)
  rows_back (AddEdge from label to) never u s l c = c
  rows_back (SetDatum t d) never u s l c = c
  rows_back (CloseRow t m) never u s l c = (close_was h w t m u s l c).0
  rows_back (Ask q) never u s l c = c
  rows_back Advance never u s l c = c
  rows_back Take never u s l c = c
  rows_back (End x) never u s l c = (end_row_was h w u s l c).0

  data_back : (op : Op I R D P) → (MakesScope op → ⊥) → (u : ℕ) (s : Scope) → HoldsDatum (held_after h w op) u s → HoldsDatum h u s
  data_back (Fresh labels datum) never u s c = absurd (never tt)
  data_back (AddEdge from label to) never u s c = c
  data_back (SetDatum t d) never u s c = (datum_was h w t u s d c).0
  data_back (CloseRow t m) never u s c = c
  data_back (Ask q) never u s c = c
  data_back Advance never u s c = c
  data_back Take never u s c = c
  data_back (End x) never u s c = (end_datum_was h w u s c).0

  scopes_back : (op : Op I R D P) → (MakesScope op → ⊥) → (s : Scope) → HasScope (held_after h w op).graph s → HasScope h.graph s
  scopes_back (Fresh labels datum) never s c = absurd (never tt)
  scopes_back (AddEdge from label to) never s c = c
  scopes_back (SetDatum t d) never s c = c
  scopes_back (CloseRow t m) never s c = c
  scopes_back (Ask q) never s c = c
  scopes_back Advance never s c = c
  scopes_back Take never s c = c
  scopes_back (End x) never s c = c

  edge_from : (op : Op I R D P) (s : Scope) (l : ℕ) (t : Scope) → HasEdge (held_after h w op).graph s l t → HasEdge h.graph s l t ⊎ (op ≡ AddEdge s l t)
  edge_from (Fresh labels datum) s l t c = inl c
  edge_from (AddEdge from label to) s l t c =
      elim ((edge_puts h w (record { from = from; label = label; to = to }) (record { from = s; label = l; to = t })).0 c) [
        | inl k ↦ inl k
        | inr e ↦ inr (ap (λ (x : Edge). let o : Op I R D P = AddEdge x.from x.label x.to in o) (sym e))
      ]
  edge_from (SetDatum x d) s l t c = inl c
  edge_from (CloseRow x m) s l t c = inl c
  edge_from (Ask q) s l t c = inl c
  edge_from Advance s l t c = inl c
  edge_from Take s l t c = inl c
  edge_from (End x) s l t c = inl c

  edge_to : (op : Op I R D P) (s : Scope) (l : ℕ) (t : Scope) → op ≡ AddEdge s l t → HasEdge (held_after h w op).graph s l t
  edge_to op s l t e =
      subst (λ (o : Op I R D P). HasEdge (held_after h w o).graph s l t) (sym e) ((edge_puts h w (record { from = s; label = l; to = t }) (record { from = s; label = l; to = t })).1 (inr refl))

  -- a row is still held after an operation, or that gave it up
  still_held : (op : Op I R D P) → (u : ℕ) (s : Scope) (l : ℕ) → HoldsRow h u s l → HoldsRow (held_after h w op) u s l ⊎ ((w ≡ u) × GivesUp op s l)
  still_held (Fresh labels datum) u s l c = inl ((fresh_rows h w labels datum u s l).1 (inl c))
  still_held (AddEdge from label to) u s l c = inl c
  still_held (SetDatum t d) u s l c = inl c
  still_held (CloseRow t m) u s l c =
      elim (cases_Bool (is_row_hold w t m (row_hold s l u))) [
        | inl b ↦
            let one = both_true (eqb u w) (is_scope s t && eqb l m) b in
            let two = both_true (is_scope s t) (eqb l m) one.1 in
            let at : t ≡ s = sym (scope_same s t two.0) in
            let of : m ≡ l = sym (number_same l m two.1) in
            inr (sym (number_same u w one.0), inl (ap (λ (x : Scope). let o : Op I R D P = CloseRow x m in o) at ∙ ap (λ (n : ℕ). let o : Op I R D P = CloseRow s n in o) of))
        | inr b ↦ inl (filter-Contains (λ (k : RowHold). not (is_row_hold w t m k)) h.row_holds (row_hold s l u) c (not_is (is_row_hold w t m (row_hold s l u)) b))
      ]
  still_held (Ask q) u s l c = inl c
  still_held Advance u s l c = inl c
  still_held Take u s l c = inl c
  still_held (End x) u s l c =
      elim (cases_Bool (eqb u w)) [
        | inl b ↦ inr (sym (number_same u w b), inr (x, refl))
        | inr b ↦ inl (filter-Contains (λ (k : RowHold). not (eqb k.unit w)) h.row_holds (row_hold s l u) c (not_is (eqb u w) b))
      ]

-- ---- runs

module _ {I R D P : Type 0} (z : Setting D P) (ok : IsOpening z.opening) (log : List (Entry I R D P)) (run : IsRun z log) where
  -- an edge was there at the start, or an entry added it
  pub edge_origin : (front rest : List (Entry I R D P)) → log ≡ front ++ rest → (s : Scope) (l : ℕ) (t : Scope) → HasEdge (run_of z front).held.graph s l t → HasEdge z.opening.graph s l t ⊎ ((u : ℕ) × HasEntry u front (AddEdge s l t))
  edge_origin front rest same s l t =
      along z log (λ (x : List (Entry I R D P)). HasEdge (run_of z x).held.graph s l t → HasEdge z.opening.graph s l t ⊎ ((u : ℕ) × HasEntry u x (AddEdge s l t))) run
      (λ before e behind split was st k c. elim (edge_from (run_of z before).held e.unit e.op s l t (subst (λ (r : RunOf D P). HasEdge r.held.graph s l t) (one_after z before e) c)) [
        | inl old ↦ elim (k old) [ inl o ↦ inl o | inr a ↦ inr (a.0, entry_before a.0 (AddEdge s l t) before e a.1) ]
        | inr new ↦ inr (e.unit, record { before = before; entry = e; behind = []; split = refl; own = refl; given = new })
      ])
      [] front rest same (λ c. inl c)

  -- an edge that an entry added is there
  pub added_edge : (u : ℕ) (front rest : List (Entry I R D P)) → log ≡ front ++ rest → (s : Scope) (l : ℕ) (t : Scope) → HasEntry u front (AddEdge s l t) → HasEdge (run_of z front).held.graph s l t
  added_edge u front rest same s l t a =
      let now : HasEdge (after (run_of z a.before) a.entry).held.graph s l t = edge_to (run_of z a.before).held a.entry.unit a.entry.op s l t a.given in
      let there : HasEdge (run_of z (a.before ++ a.entry ∷ [])).held.graph s l t = subst (λ (r : RunOf D P). HasEdge r.held.graph s l t) (sym (one_after z a.before a.entry)) now in
      let whole : front ≡ (a.before ++ a.entry ∷ []) ++ a.behind = a.split ∙ next_front a.before a.entry a.behind in
      let ran : IsRun z front = front_run_of front rest same in
      subst (λ (x : List (Entry I R D P)). HasEdge (run_of z x).held.graph s l t) (sym whole)
      ((front_follows z ok (a.before ++ a.entry ∷ []) a.behind (subst (λ (x : List (Entry I R D P)). IsRun z x) whole ran)).extends.edges s l t there)
    where
      front_run_of : (front rest : List (Entry I R D P)) → log ≡ front ++ rest → IsRun z front
      front_run_of front rest same = front_is_run z ok front rest (subst (λ (x : List (Entry I R D P)). IsRun z x) same run)

  -- a row that was held at the start is held, or was given up
  pub given_up : (front rest : List (Entry I R D P)) → log ≡ front ++ rest → (u : ℕ) (s : Scope) (l : ℕ) → HoldsRow z.opening u s l → HoldsRow (run_of z front).held u s l ⊎ WasGivenUp z u front s l
  given_up front rest same u s l start =
      along z log (λ (x : List (Entry I R D P)). HoldsRow (run_of z x).held u s l ⊎ WasGivenUp z u x s l) run
      (λ before e behind split was st k. elim k [
        | inl h ↦ elim (still_held (run_of z before).held e.unit e.op u s l h) [
          | inl c ↦ inl (subst (λ (r : RunOf D P). HoldsRow r.held u s l) (sym (one_after z before e)) c)
          | inr g ↦ inr (record { before = before; entry = e; behind = []; split = refl; own = g.0; held_then = h; gives_up = g.1 })
        ]
        | inr g ↦ inr (record {
          before = g.before;
          entry = g.entry;
          behind = g.behind ++ e ∷ [];
          split = ap (λ (x : List (Entry I R D P)). x ++ e ∷ []) g.split ∙ append_assoc g.before (g.entry ∷ g.behind) (e ∷ []);
          own = g.own;
          held_then = g.held_then;
          gives_up = g.gives_up;
        })
      ])
      [] front rest same (inl start)

  module _ (none : MakeNoScope log) where
    entry_in : (front : List (Entry I R D P)) (e : Entry I R D P) (rest : List (Entry I R D P)) → log ≡ front ++ e ∷ rest → Contains log e
    entry_in front e rest same = subst (λ (l : List (Entry I R D P)). Contains l e) (sym same) (Contains-append_right front (e ∷ rest) e (Contains-head e rest))

    -- who holds a row held it before
    pub held_before : (start more rest : List (Entry I R D P)) → log ≡ start ++ (more ++ rest) → (u : ℕ) (s : Scope) (l : ℕ) → HoldsRow (run_of z (start ++ more)).held u s l → HoldsRow (run_of z start).held u s l
    held_before start more rest same u s l =
        along z log (λ (x : List (Entry I R D P)). HoldsRow (run_of z x).held u s l → HoldsRow (run_of z start).held u s l) run
        (λ front e behind split was st k c. k (rows_back (run_of z front).held e.unit e.op (none e (entry_in front e behind split)) u s l (subst (λ (r : RunOf D P). HoldsRow r.held u s l) (one_after z front e) c)))
        start more rest same (λ c. c)

    pub datum_held_before : (start more rest : List (Entry I R D P)) → log ≡ start ++ (more ++ rest) → (u : ℕ) (s : Scope) → HoldsDatum (run_of z (start ++ more)).held u s → HoldsDatum (run_of z start).held u s
    datum_held_before start more rest same u s =
        along z log (λ (x : List (Entry I R D P)). HoldsDatum (run_of z x).held u s → HoldsDatum (run_of z start).held u s) run
        (λ front e behind split was st k c. k (data_back (run_of z front).held e.unit e.op (none e (entry_in front e behind split)) u s (subst (λ (r : RunOf D P). HoldsDatum r.held u s) (one_after z front e) c)))
        start more rest same (λ c. c)

    pub scope_before : (start more rest : List (Entry I R D P)) → log ≡ start ++ (more ++ rest) → (s : Scope) → HasScope (run_of z (start ++ more)).held.graph s → HasScope (run_of z start).held.graph s
    scope_before start more rest same s =
        along z log (λ (x : List (Entry I R D P)). HasScope (run_of z x).held.graph s → HasScope (run_of z start).held.graph s) run
        (λ front e behind split was st k c. k (scopes_back (run_of z front).held e.unit e.op (none e (entry_in front e behind split)) s (subst (λ (r : RunOf D P). HasScope r.held.graph s) (one_after z front e) c)))
        start more rest same (λ c. c)

    -- a row that the unit closed it no longer holds
    pub closed_stays : (u : ℕ) (front rest : List (Entry I R D P)) → log ≡ front ++ rest → (s : Scope) (l : ℕ) → HasEntry u front (CloseRow s l) → HoldsRow (run_of z front).held u s l → ⊥
    closed_stays u front rest same s l a c =
        let whole : front ≡ (a.before ++ a.entry ∷ []) ++ a.behind = a.split ∙ next_front a.before a.entry a.behind in
        let all : log ≡ (a.before ++ a.entry ∷ []) ++ (a.behind ++ rest) = same ∙ (ap (λ (x : List (Entry I R D P)). x ++ rest) whole ∙ append_assoc (a.before ++ a.entry ∷ []) a.behind rest) in
        let there : HoldsRow (run_of z (a.before ++ a.entry ∷ [])).held u s l =
        held_before (a.before ++ a.entry ∷ []) a.behind rest all u s l (subst (λ (x : List (Entry I R D P)). HoldsRow (run_of z x).held u s l) whole c) in
        let now : HoldsRow (held_after (run_of z a.before).held a.entry.unit a.entry.op) u s l = subst (λ (r : RunOf D P). HoldsRow r.held u s l) (one_after z a.before a.entry) there in
        closed_is_out (run_of z a.before).held u s l
        (subst (λ (n : ℕ). HoldsRow (without_row (run_of z a.before).held n s l) u s l) a.own (subst (λ (o : Op I R D P). HoldsRow (held_after (run_of z a.before).held a.entry.unit o) u s l) a.given now))

    -- a datum that the unit set it no longer holds
    pub set_stays : (u : ℕ) (front rest : List (Entry I R D P)) → log ≡ front ++ rest → (s : Scope) (d : D) → HasEntry u front (SetDatum s d) → HoldsDatum (run_of z front).held u s → ⊥
    set_stays u front rest same s d a c =
        let whole : front ≡ (a.before ++ a.entry ∷ []) ++ a.behind = a.split ∙ next_front a.before a.entry a.behind in
        let all : log ≡ (a.before ++ a.entry ∷ []) ++ (a.behind ++ rest) = same ∙ (ap (λ (x : List (Entry I R D P)). x ++ rest) whole ∙ append_assoc (a.before ++ a.entry ∷ []) a.behind rest) in
        let there : HoldsDatum (run_of z (a.before ++ a.entry ∷ [])).held u s =
        datum_held_before (a.before ++ a.entry ∷ []) a.behind rest all u s (subst (λ (x : List (Entry I R D P)). HoldsDatum (run_of z x).held u s) whole c) in
        let now : HoldsDatum (held_after (run_of z a.before).held a.entry.unit a.entry.op) u s = subst (λ (r : RunOf D P). HoldsDatum r.held u s) (one_after z a.before a.entry) there in
        set_is_out (run_of z a.before).held u s d
        (subst (λ (n : ℕ). HoldsDatum (with_datum (run_of z a.before).held n s d) u s) a.own (subst (λ (o : Op I R D P). HoldsDatum (held_after (run_of z a.before).held a.entry.unit o) u s) a.given now))
