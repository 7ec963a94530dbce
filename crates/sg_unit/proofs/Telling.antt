-- A unit's own entries tell what it may do.
use Rattle.std.proofs.Common.{◌≡◌, ℕ, ◌+◌, ◌<◌, ◌≤◌, ◌^◌, List, [], ◌∷◌, ◌⊎◌, ◌↔◌, Bool, true, false, IsTrue, not, ◌&&◌, eqb, cond, inl, inr, refl, sym, ap, ◌∙◌, subst, arith, length, slice_index, slice_set, get_or-set_same, ltb-true}
use Rattle.std.proofs.Math.ListN.{length-set}
use Rattle.std.proofs.lemmas.Bool.{cases_Bool}
use Rattle.std.proofs.lemmas.Bool.Decides.{nat_tests}
use Rattle.std.proofs.lemmas.List.{get_or_past}
use Rattle.std.specs.List.{Contains}
use Rattle.std.specs.Prelude.{nat_lt}
use Rattle.sg_base.specs.declared.scope.Scope.{Scope}
use Rattle.sg_base.specs.declared.step.Step.{Step}
use Rattle.sg_base.specs.Graph.{GraphOf, IsGraph, HasScope, IsWalk}
use Rattle.sg_base.specs.Path.{reached_by}
use Rattle.sg_base.proofs.Finite.{nothing_in, Contains-cons, Contains-filter, filter-Contains}
use Rattle.sg_query.specs.declared.answer.Answer.{Answer}
use Rattle.sg_query.specs.declared.answer.Answer.TheVariants.{Paths, TooMany}
use Rattle.sg_query.specs.Answer.{IsAnswer}
use Rattle.sg_query.specs.Query.{Asked}
use Rattle.sg_state.specs.Held.{HeldOf, RowHold, DatumHold, HoldsRow, HoldsDatum, next_scope, is_row_hold, is_datum_hold}
use Rattle.sg_unit.specs.declared.entry.Entry.{Entry}
use Rattle.sg_unit.specs.declared.op.Op.{Op}
use Rattle.sg_unit.specs.declared.op.Op.TheVariants.{Fresh, AddEdge, SetDatum, CloseRow, Ask, Advance, Take, End}
use Rattle.sg_unit.specs.declared.reply.Reply.{Reply}
use Rattle.sg_unit.specs.declared.reply.Reply.TheVariants.{Made, Done, Moved, Ready, Suspended, Answer as Answered, Stuck}
use Rattle.sg_unit.specs.Law.{OwnEntriesAllow, RunsAllow, OwnEntriesRun, OwnEntriesReply}
use Rattle.sg_unit.specs.Operation.{goes_on}
use Rattle.sg_unit.specs.Own.{own, Names, KnowsScope, Uses, CanReply, IsOwnStep, IsOwnRunFrom}
use Rattle.sg_unit.specs.Run.{Setting, RunOf, Asking, asked_by, opened, held_after, ask_after, after, run_from, run_of}
use Rattle.sg_unit.specs.Step.{Meets, Replies, IsStep, IsRunFrom}
use Rattle.sg_unit.proofs.Asks.{IsAskedRun, step_asked, opened_asked, ready_for}
use Rattle.sg_unit.proofs.Steps.{front_run, run_follows}
use Rattle.sg_unit.proofs.Writes.{is_num, row_hold, datum_hold, fresh_scopes, fresh_rows, fresh_data, made_other, made_long, datum_was, close_was, end_row_was, end_datum_was}

turned : (a b : ℕ) → eqb a b ≡ false → eqb b a ≡ false
turned a b h = grind (arith, nat_tests)

not_first : (a b : ℕ) (c : Bool) → eqb a b ≡ false → not (eqb a b && c) ≡ true
not_first a b c h = rw h refl

least_or_less : (a b : ℕ) → (a < b) ⊎ (b ≤ a)
least_or_less a b = elim (cases_Bool (nat_lt a b)) [ inl e ↦ inl (ltb-true a b e) | inr e ↦ inr (from a b e) ]
  where
    from : (a b : ℕ) → nat_lt a b ≡ false → b ≤ a
    from a b e = grind (arith, nat_tests)

-- one more is made in both lists
one_more : (xs ys : List ℕ) (u : ℕ) → length xs ≡ length ys → slice_index xs u ≡ slice_index ys u → slice_index (slice_set xs u (slice_index xs u + 1)) u ≡ slice_index (slice_set ys u (slice_index ys u + 1)) u
one_more xs ys u long same =
    elim (least_or_less u (length xs)) [
      | inl lt ↦ get_or-set_same xs u (slice_index xs u + 1) 0 lt ∙ (ap (λ (n : ℕ). n + 1) same ∙ sym (get_or-set_same ys u (slice_index ys u + 1) 0 (omega (arith, lt, long))))
      | inr ge ↦ get_or_past (slice_set xs u (slice_index xs u + 1)) u 0 (omega (arith, ge, length-set {A = ℕ})) ∙ sym (get_or_past (slice_set ys u (slice_index ys u + 1)) u 0 (omega (arith, ge, long, length-set {A = ℕ})))
    ]

-- ---- the unit's own operations

module _ {D : Type 0} (u : ℕ) (h k : HeldOf D) (made : slice_index h.made u ≡ slice_index k.made u) where
  next_same : next_scope h u ≡ next_scope k u
  next_same = ap (λ (n : ℕ). let t : Scope = record { unit = u; serial = n } in t) made

  module _ (rows : (s : Scope) (l : ℕ) → HoldsRow h u s l → HoldsRow k u s l) where
    own_rows : {I P R : Type 0} (op : Op I R D P) (s : Scope) (l : ℕ) → HoldsRow (held_after h u op) u s l → HoldsRow (held_after k u op) u s l
    own_rows (Fresh labels datum) s l c =
        elim ((fresh_rows h u labels datum u s l).0 c) [
          | inl i ↦ (fresh_rows k u labels datum u s l).1 (inl (rows s l i))
          | inr i ↦ (fresh_rows k u labels datum u s l).1 (inr (i.0, i.1 ∙ next_same, i.2))
        ]
    own_rows (AddEdge from label to) s l c = rows s l c
    own_rows (SetDatum t d) s l c = rows s l c
    own_rows (CloseRow t m) s l c =
        let was = close_was h u t m u s l c in
        filter-Contains (λ (y : RowHold). not (is_row_hold u t m y)) k.row_holds (row_hold s l u) (rows s l was.0) was.1
    own_rows (Ask q) s l c = rows s l c
    own_rows Advance s l c = rows s l c
    own_rows Take s l c = rows s l c
    own_rows (End o) s l c =
        let was = end_row_was h u u s l c in
        filter-Contains (λ (y : RowHold). not (eqb y.unit u)) k.row_holds (row_hold s l u) (rows s l was.0) was.1

  module _ (data_at : (s : Scope) → HoldsDatum h u s → HoldsDatum k u s) where
    own_data : {I P R : Type 0} (op : Op I R D P) (s : Scope) → HoldsDatum (held_after h u op) u s → HoldsDatum (held_after k u op) u s
    own_data (Fresh labels datum) s c =
        elim ((fresh_data h u labels datum u s).0 c) [
          | inl i ↦ (fresh_data k u labels datum u s).1 (inl (data_at s i))
          | inr i ↦ (fresh_data k u labels datum u s).1 (inr (i.0, i.1 ∙ next_same, i.2))
        ]
    own_data (AddEdge from label to) s c = data_at s c
    own_data (SetDatum t d) s c =
        let was = datum_was h u t u s d c in
        filter-Contains (λ (y : DatumHold). not (is_datum_hold u t y)) k.datum_holds (datum_hold s u) (data_at s was.0) was.1
    own_data (CloseRow t m) s c = data_at s c
    own_data (Ask q) s c = data_at s c
    own_data Advance s c = data_at s c
    own_data Take s c = data_at s c
    own_data (End o) s c =
        let was = end_datum_was h u u s c in
        filter-Contains (λ (y : DatumHold). not (eqb y.unit u)) k.datum_holds (datum_hold s u) (data_at s was.0) was.1

  module _ (long : length h.made ≡ length k.made) where
    own_made : {I P R : Type 0} (op : Op I R D P) → slice_index (held_after h u op).made u ≡ slice_index (held_after k u op).made u
    own_made (Fresh labels datum) = one_more h.made k.made u long made
    own_made (AddEdge from label to) = made
    own_made (SetDatum t d) = made
    own_made (CloseRow t m) = made
    own_made (Ask q) = made
    own_made Advance = made
    own_made Take = made
    own_made (End o) = made

  module _ (scopes : (s : Scope) → HasScope k.graph s → HasScope h.graph s) where
    own_scopes : {I P R : Type 0} (op : Op I R D P) (s : Scope) → HasScope (held_after k u op).graph s → HasScope (held_after h u op).graph s
    own_scopes (Fresh labels datum) s c =
        elim ((fresh_scopes k u labels datum s).0 c) [
          | inl i ↦ (fresh_scopes h u labels datum s).1 (inl (scopes s i))
          | inr e ↦ (fresh_scopes h u labels datum s).1 (inr (e ∙ sym next_same))
        ]
    own_scopes (AddEdge from label to) s c = scopes s c
    own_scopes (SetDatum t d) s c = scopes s c
    own_scopes (CloseRow t m) s c = scopes s c
    own_scopes (Ask q) s c = scopes s c
    own_scopes Advance s c = scopes s c
    own_scopes Take s c = scopes s c
    own_scopes (End o) s c = scopes s c

-- ---- the operations of others

same_length : {I R D P : Type 0} (h : HeldOf D) (v : ℕ) (op : Op I R D P) → length (held_after h v op).made ≡ length h.made
same_length h v (Fresh labels datum) = made_long h v labels datum
same_length h v (AddEdge from label to) = refl
same_length h v (SetDatum t d) = refl
same_length h v (CloseRow t m) = refl
same_length h v (Ask q) = refl
same_length h v Advance = refl
same_length h v Take = refl
same_length h v (End o) = refl

module _ {D : Type 0} (u v : ℕ) (h : HeldOf D) (other : eqb v u ≡ false) where
  not_same : u ≡ v → ⊥
  not_same e = let z : eqb u u ≡ false = subst (λ (n : ℕ). eqb n u ≡ false) (sym e) other in never u z
    where
      never : (a : ℕ) → eqb a a ≡ false → ⊥
      never a h = grind (arith, nat_tests)

  other_rows : {I P R : Type 0} (op : Op I R D P) (s : Scope) (l : ℕ) → (HoldsRow (held_after h v op) u s l) ↔ (HoldsRow h u s l)
  other_rows (Fresh labels datum) s l = (
    (λ c. elim ((fresh_rows h v labels datum u s l).0 c) [ inl i ↦ i | inr i ↦ absurd (not_same i.0) ]),
    (λ c. (fresh_rows h v labels datum u s l).1 (inl c)),
  )
  other_rows (AddEdge from label to) s l = ((λ c. c), (λ c. c))
  other_rows (SetDatum t d) s l = ((λ c. c), (λ c. c))
  other_rows (CloseRow t m) s l = (
    (λ c. (close_was h v t m u s l c).0),
    (λ c. filter-Contains (λ (y : RowHold). not (is_row_hold v t m y)) h.row_holds (row_hold s l u) c (not_first u v _ (turned v u other))),
  )
  other_rows (Ask q) s l = ((λ c. c), (λ c. c))
  other_rows Advance s l = ((λ c. c), (λ c. c))
  other_rows Take s l = ((λ c. c), (λ c. c))
  other_rows (End o) s l = (
    (λ c. (end_row_was h v u s l c).0),
    (λ c. filter-Contains (λ (y : RowHold). not (eqb y.unit v)) h.row_holds (row_hold s l u) c (ap (λ (b : Bool). not b) (turned v u other))),
  )

  other_data : {I P R : Type 0} (op : Op I R D P) (s : Scope) → (HoldsDatum (held_after h v op) u s) ↔ (HoldsDatum h u s)
  other_data (Fresh labels datum) s = (
    (λ c. elim ((fresh_data h v labels datum u s).0 c) [ inl i ↦ i | inr i ↦ absurd (not_same i.0) ]),
    (λ c. (fresh_data h v labels datum u s).1 (inl c)),
  )
  other_data (AddEdge from label to) s = ((λ c. c), (λ c. c))
  other_data (SetDatum t d) s = (
    (λ c. (datum_was h v t u s d c).0),
    (λ c. filter-Contains (λ (y : DatumHold). not (is_datum_hold v t y)) h.datum_holds (datum_hold s u) c (not_first u v _ (turned v u other))),
  )
  other_data (CloseRow t m) s = ((λ c. c), (λ c. c))
  other_data (Ask q) s = ((λ c. c), (λ c. c))
  other_data Advance s = ((λ c. c), (λ c. c))
  other_data Take s = ((λ c. c), (λ c. c))
  other_data (End o) s = (
    (λ c. (end_datum_was h v u s c).0),
    (λ c. filter-Contains (λ (y : DatumHold). not (eqb y.unit v)) h.datum_holds (datum_hold s u) c (ap (λ (b : Bool). not b) (turned v u other))),
  )

  other_made : {I P R : Type 0} (op : Op I R D P) → slice_index (held_after h v op).made u ≡ slice_index h.made u
  other_made (Fresh labels datum) = made_other h v labels datum u other
  other_made (AddEdge from label to) = refl
  other_made (SetDatum t d) = refl
  other_made (CloseRow t m) = refl
  other_made (Ask q) = refl
  other_made Advance = refl
  other_made Take = refl
  other_made (End o) = refl

  other_scopes : {I P R : Type 0} (op : Op I R D P) (s : Scope) → HasScope h.graph s → HasScope (held_after h v op).graph s
  other_scopes (Fresh labels datum) s c = (fresh_scopes h v labels datum s).1 (inl c)
  other_scopes (AddEdge from label to) s c = c
  other_scopes (SetDatum t d) s c = c
  other_scopes (CloseRow t m) s c = c
  other_scopes (Ask q) s c = c
  other_scopes Advance s c = c
  other_scopes Take s c = c
  other_scopes (End o) s c = c

-- ---- two runs that are alike for a unit

pub record IsAlike {D P : Type 0} (u : ℕ) (r t : RunOf D P) : Type 0 where
  pub rows : (s : Scope) (l : ℕ) → (HoldsRow r.held u s l) ↔ (HoldsRow t.held u s l)
  pub data_at : (s : Scope) → (HoldsDatum r.held u s) ↔ (HoldsDatum t.held u s)
  pub made : slice_index r.held.made u ≡ slice_index t.held.made u
  pub long : length r.held.made ≡ length t.held.made
  pub live : r.live u ≡ t.live u
  pub asks : r.asks u ≡ t.asks u

pub alike_back : {D P : Type 0} (u : ℕ) (r t : RunOf D P) → IsAlike u r t → IsAlike u t r
alike_back u r t a =
    record {
      rows = λ s l. ((a.rows s l).1, (a.rows s l).0);
      data_at = λ s. ((a.data_at s).1, (a.data_at s).0);
      made = sym a.made;
      long = sym a.long;
      live = sym a.live;
      asks = sym a.asks;
    }

pub record IsWithin {D P : Type 0} (u : ℕ) (r t : RunOf D P) : Type 0 where
  pub alike : IsAlike u r t
  pub scopes : (s : Scope) → HasScope t.held.graph s → HasScope r.held.graph s

module _ {I R D P : Type 0} (u : ℕ) where
  pub own_step : (r t : RunOf D P) → IsWithin u r t → (e : Entry I R D P) → e.unit ≡ u → IsWithin u (after r e) (after t e)
  own_step r t w e same =
      let a = w.alike in
      record {
        alike = record {
          rows = λ s l.
              subst (λ (n : ℕ). (HoldsRow (held_after r.held n e.op) u s l) ↔ (HoldsRow (held_after t.held n e.op) u s l)) (sym same)
              ((own_rows u r.held t.held a.made (λ s l. (a.rows s l).0) e.op s l), (own_rows u t.held r.held (sym a.made) (λ s l. (a.rows s l).1) e.op s l));
          data_at = λ s.
              subst (λ (n : ℕ). (HoldsDatum (held_after r.held n e.op) u s) ↔ (HoldsDatum (held_after t.held n e.op) u s)) (sym same)
              ((own_data u r.held t.held a.made (λ s. (a.data_at s).0) e.op s), (own_data u t.held r.held (sym a.made) (λ s. (a.data_at s).1) e.op s));
          made = subst (λ (n : ℕ). slice_index (held_after r.held n e.op).made u ≡ slice_index (held_after t.held n e.op).made u) (sym same) (own_made u r.held t.held a.made a.long e.op);
          long = same_length r.held e.unit e.op ∙ (a.long ∙ sym (same_length t.held e.unit e.op));
          live = ap (λ (b : Bool). cond (eqb e.unit u) (b && goes_on e.op) b) a.live;
          asks = ap (λ (x : Asking P). cond (eqb e.unit u) (ask_after x e.op e.reply) x) a.asks;
        };
        scopes = λ s.
            subst (λ (n : ℕ). HasScope (held_after t.held n e.op).graph s → HasScope (held_after r.held n e.op).graph s) (sym same)
            (own_scopes u r.held t.held a.made w.scopes e.op s);
      }

  pub other_step : (r t : RunOf D P) → IsWithin u r t → (e : Entry I R D P) → eqb e.unit u ≡ false → IsWithin u (after r e) t
  other_step r t w e b =
      let a = w.alike in
      record {
        alike = record {
          rows = λ s l. let k = other_rows u e.unit r.held b e.op s l in ((λ c. (a.rows s l).0 (k.0 c)), (λ c. k.1 ((a.rows s l).1 c)));
          data_at = λ s. let k = other_data u e.unit r.held b e.op s in ((λ c. (a.data_at s).0 (k.0 c)), (λ c. k.1 ((a.data_at s).1 c)));
          made = other_made u e.unit r.held b e.op ∙ a.made;
          long = same_length r.held e.unit e.op ∙ a.long;
          live = subst (λ (c : Bool). cond c (r.live u && goes_on e.op) (r.live u) ≡ t.live u) (sym b) a.live;
          asks = subst (λ (c : Bool). cond c (ask_after (r.asks u) e.op e.reply) (r.asks u) ≡ t.asks u) (sym b) a.asks;
        };
        scopes = λ s c. other_scopes u e.unit r.held b e.op s (w.scopes s c);
      }

  pub own_in : (e : Entry I R D P) (es : List (Entry I R D P)) → eqb e.unit u ≡ true → own u (e ∷ es) ≡ e ∷ own u es
  own_in e es b = rw b refl

  pub own_out : (e : Entry I R D P) (es : List (Entry I R D P)) → eqb e.unit u ≡ false → own u (e ∷ es) ≡ own u es
  own_out e es b = rw b refl

  pub own_within : (r t : RunOf D P) → IsWithin u r t → (es : List (Entry I R D P)) → IsWithin u (run_from r es) (run_from t (own u es))
  own_within r t w [] = w
  own_within r t w (e ∷ es) =
      elim (cases_Bool (eqb e.unit u)) [
        | inl b ↦ subst (λ (x : List (Entry I R D P)). IsWithin u (run_from (after r e) es) (run_from t x)) (sym (own_in e es b))
            (own_within (after r e) (after t e) (own_step r t w e (is_num e.unit u b)) es)
        | inr b ↦ subst (λ (x : List (Entry I R D P)). IsWithin u (run_from (after r e) es) (run_from t x)) (sym (own_out e es b))
            (own_within (after r e) t (other_step r t w e b) es)
      ]

  pub meets_alike : (z : Setting D P) (r t : RunOf D P) → IsAlike u r t → (There Here : Scope → Type 0) (op : Op I R D P) → ((s : Scope) → Uses op s → There s → Here s) → Meets z There r u op → Meets z Here t u op
  meets_alike z r t a There Here (Fresh labels datum) f m = (sym a.asks ∙ m.0, subst (λ (n : ℕ). n + 1 < 2 ^ 32) a.made m.1)
  meets_alike z r t a There Here (AddEdge from label to) f m = (sym a.asks ∙ m.0, (a.rows from label).0 m.1, f to refl m.2)
  meets_alike z r t a There Here (SetDatum s d) f m = (sym a.asks ∙ m.0, (a.data_at s).0 m.1)
  meets_alike z r t a There Here (CloseRow s l) f m = (sym a.asks ∙ m.0, (a.rows s l).0 m.1)
  meets_alike z r t a There Here (Ask q) f m = (sym a.asks ∙ m.0, m.1, f q.start refl m.2)
  meets_alike z r t a There Here Advance f m = (m.0, m.1, sym a.asks ∙ m.2)
  meets_alike z r t a There Here Take f m = (m.0, sym a.asks ∙ m.1)
  meets_alike z r t a There Here (End x) f m = sym a.asks ∙ m

pub within_self : {D P : Type 0} (u : ℕ) (r : RunOf D P) → IsWithin u r r
within_self u r =
    record {
      alike = record { rows = λ s l. ((λ c. c), (λ c. c)); data_at = λ s. ((λ c. c), (λ c. c)); made = refl; long = refl; live = refl; asks = refl };
      scopes = λ s c. c;
    }

-- ---- the scopes that an answer names are there

pub reached_in : {D : Type 0} (g : GraphOf D) → IsGraph g → (s : Scope) (ps : List Step) → HasScope g s → IsWalk g s ps → (t : Scope) → Contains (s ∷ reached_by ps) t → HasScope g t
reached_in g ok s [] i w t c = elim (Contains-cons s t [] c) [ inl e ↦ subst (λ (x : Scope). HasScope g x) (sym e) i | inr k ↦ absurd (nothing_in t k) ]
reached_in g ok s (p ∷ ps) i w t c =
    elim (Contains-cons s t (reached_by (p ∷ ps)) c) [
      | inl e ↦ subst (λ (x : Scope). HasScope g x) (sym e) i
      | inr k ↦ reached_in g ok p.to ps (ok.target s p.label p.to w.0) w.1 t k
    ]

named_in : {D : Type 0} (g : GraphOf D) → IsGraph g → (q : Asked D) (a : Answer D) → HasScope g q.start → IsAnswer g q a → (s : Scope) → Names a s → HasScope g s
named_in g ok q TooMany i a s n = absurd n
named_in g ok q (Paths fs) i a s n =
    let f = n.0 in
    let seen = (((a.1).visible) f).0 n.1 in
    reached_in g ok f.path.start f.path.steps (subst (λ (x : Scope). HasScope g x) (sym seen.0) i)
    (subst (λ (x : Scope). IsWalk g x f.path.steps) (sym seen.0) ((seen.1).reached.path).0) s n.2

module _ {I R D P : Type 0} (z : Setting D P) where
  step_named : (r : RunOf D P) → IsAskedRun z r → (u : ℕ) (op : Op I R D P) (a : Answer D) → IsStep z r (record { unit = u; op = op; reply = Answered a }) → (s : Scope) → Names a s → HasScope r.held.graph s
  step_named r ok u (Fresh labels datum) a st s n = absurd (let e = st.replies in cc)
  step_named r ok u (AddEdge from label to) a st s n = absurd (let e = st.replies in cc)
  step_named r ok u (SetDatum x d) a st s n = absurd st.replies
  step_named r ok u (CloseRow x l) a st s n = absurd st.replies
  step_named r ok u (Ask q) a st s n = absurd (let e = st.replies in cc)
  step_named r ok u Advance a st s n = let m = st.may.1 in absurd (st.replies m.0 m.1 m.2)
  step_named r ok u Take a st s n =
      let m = st.may.1 in
      let given = st.replies in
      let same : given.0 ≡ a = (let e = given.1 in cc) in
      named_in r.held.graph (ok.sound.held).graph (asked_by z m.0) a (ok.starts u m.0 (ready_for (r.asks u) m.0 m.1))
      (subst (λ (b : Answer D). IsAnswer r.held.graph (asked_by z m.0) b) same (given.2 m.0 m.1)) s n
  step_named r ok u (End x) a st s n = absurd st.replies

  run_named : (r : RunOf D P) → IsAskedRun z r → (es : List (Entry I R D P)) → IsRunFrom z r es → (e : Entry I R D P) → Contains es e → (a : Answer D) → e.reply ≡ Answered a → (s : Scope) → Names a s → HasScope (run_from r es).held.graph s
  run_named r ok [] run e c a y s n = absurd (nothing_in e c)
  run_named r ok (x ∷ es) run e c a y s n =
      elim (Contains-cons x e es c) [
        | inl same ↦
            let reply : x.reply ≡ Answered a = ap (λ (i : Entry I R D P). i.reply) (sym same) ∙ y in
            let step : IsStep z r (record { unit = x.unit; op = x.op; reply = Answered a }) =
            subst (λ (i : Reply I D P). IsStep z r (record { unit = x.unit; op = x.op; reply = i })) reply run.0 in
            (run_follows z r ok.sound (x ∷ es) run).extends.scopes s (step_named r ok x.unit x.op a step s n)
        | inr k ↦ run_named (after r x) (step_asked z r ok x run.0) es run.1 e k a y s n
      ]

-- ---- what a run replies, a unit can be replied

module _ {I R D P : Type 0} (u : ℕ) (z : Setting D P) where
  can_reply : (r t next : RunOf D P) → IsAlike u r t → (op : Op I R D P) (y : Reply I D P) → Meets z (HasScope r.held.graph) r u op → Replies z r next u op y → CanReply t u op y
  can_reply r t next a (Fresh labels datum) y m s = s ∙ ap (λ (n : ℕ). let x : Reply I D P = Made (record { unit = u; serial = n }) in x) a.made
  can_reply r t next a (AddEdge from label to) y m s = s
  can_reply r t next a (SetDatum x d) (Done ws) m s = (ws, refl)
  can_reply r t next a (SetDatum x d) (Made b) m s = absurd s
  can_reply r t next a (SetDatum x d) Moved m s = absurd s
  can_reply r t next a (SetDatum x d) Ready m s = absurd s
  can_reply r t next a (SetDatum x d) Suspended m s = absurd s
  can_reply r t next a (SetDatum x d) (Answered b) m s = absurd s
  can_reply r t next a (SetDatum x d) Stuck m s = absurd s
  can_reply r t next a (CloseRow x l) (Done ws) m s = (ws, refl)
  can_reply r t next a (CloseRow x l) (Made b) m s = absurd s
  can_reply r t next a (CloseRow x l) Moved m s = absurd s
  can_reply r t next a (CloseRow x l) Ready m s = absurd s
  can_reply r t next a (CloseRow x l) Suspended m s = absurd s
  can_reply r t next a (CloseRow x l) (Answered b) m s = absurd s
  can_reply r t next a (CloseRow x l) Stuck m s = absurd s
  can_reply r t next a (Ask q) y m s = s
  can_reply r t next a Advance Moved m s = tt
  can_reply r t next a Advance Ready m s = tt
  can_reply r t next a Advance Suspended m s = tt
  can_reply r t next a Advance Stuck m s = tt
  can_reply r t next a Advance (Made b) m s = absurd (s m.0 m.1 m.2)
  can_reply r t next a Advance (Done ws) m s = absurd (s m.0 m.1 m.2)
  can_reply r t next a Advance (Answered b) m s = absurd (s m.0 m.1 m.2)
  can_reply r t next a Take y m s = (s.0, s.1)
  can_reply r t next a (End x) (Done ws) m s = tt
  can_reply r t next a (End x) Stuck m s = tt
  can_reply r t next a (End x) (Made b) m s = absurd s
  can_reply r t next a (End x) Moved m s = absurd s
  can_reply r t next a (End x) Ready m s = absurd s
  can_reply r t next a (End x) Suspended m s = absurd s
  can_reply r t next a (End x) (Answered b) m s = absurd s

  own_run : (r t : RunOf D P) → IsWithin u r t → (log : List (Entry I R D P)) → IsRunFrom z r log → IsOwnRunFrom z u t (own u log)
  own_run r t w [] run = tt
  own_run r t w (e ∷ log) run =
      elim (cases_Bool (eqb e.unit u)) [
        | inl b ↦
            let same : e.unit ≡ u = is_num e.unit u b in
            let met : Meets z (HasScope r.held.graph) r u e.op = subst (λ (n : ℕ). Meets z (HasScope r.held.graph) r n e.op) same ((run.0).may).1 in
            let live : IsTrue (r.live u) = subst (λ (n : ℕ). IsTrue (r.live n)) same ((run.0).may).0 in
            let replied : Replies z r (after r e) u e.op e.reply = subst (λ (n : ℕ). Replies z r (after r e) n e.op e.reply) same (run.0).replies in
            let step : IsOwnStep z u t e = record {
              unit = same;
              live = subst (λ (c : Bool). IsTrue c) (w.alike).live live;
              meets = meets_alike u z r t w.alike (HasScope r.held.graph) (λ s. Unit {0}) e.op (λ s i h. tt) met;
              replies = can_reply r t (after r e) w.alike e.op e.reply met replied;
            } in
            subst (λ (x : List (Entry I R D P)). IsOwnRunFrom z u t x) (sym (own_in u e log b)) (step, own_run (after r e) (after t e) (own_step u r t w e same) log run.1)
        | inr b ↦ subst (λ (x : List (Entry I R D P)). IsOwnRunFrom z u t x) (sym (own_out u e log b)) (own_run (after r e) t (other_step u r t w e b) log run.1)
      ]

pub own_entries_run : (I R D P : Type 0) → OwnEntriesRun I R D P
own_entries_run I R D P z log u run = own_run u z (opened z) (opened z) (within_self u (opened z)) log run

pub own_entries_reply : (I R D P : Type 0) → OwnEntriesReply I R D P
own_entries_reply I R D P z log more e run =
    let start = opened z in
    let step : IsStep z (run_of z log) e = ((front_run z start log (e ∷ more) run).1).0 in
    let w : IsWithin e.unit (run_of z log) (run_of z (own e.unit log)) = own_within e.unit start start (within_self e.unit start) log in
    can_reply e.unit z (run_of z log) (run_of z (own e.unit log)) (after (run_of z log) e) w.alike e.op e.reply (step.may).1 step.replies

pub own_allow : (I R D P : Type 0) → OwnEntriesAllow I R D P
own_allow I R D P z log u op ok run may =
    let start = opened z in
    let w : IsWithin u (run_of z log) (run_of z (own u log)) = own_within u start start (within_self u start) log in
    let known : (s : Scope) → KnowsScope z (own u log) s → HasScope (run_of z log).held.graph s = λ s k. elim k [
      | inl i ↦ w.scopes s i
      | inr i ↦ run_named z start (opened_asked z ok) log run i.0 (Contains-filter (λ (e : Entry I R D P). eqb e.unit u) log i.0 i.1).0 (i.2).0 (i.2).1 s (i.2).2
    ] in (
      subst (λ (b : Bool). IsTrue b) (sym w.alike.live) may.0,
      meets_alike u z (run_of z (own u log)) (run_of z log) (alike_back u (run_of z log) (run_of z (own u log)) w.alike) (KnowsScope z (own u log)) (HasScope (run_of z log).held.graph) op (λ s i. known s) may.1,
    )

pub run_allows : (I R D P : Type 0) → RunsAllow I R D P
run_allows I R D P z log u op may known =
    let start = opened z in
    let w : IsWithin u (run_of z log) (run_of z (own u log)) = own_within u start start (within_self u start) log in (
      subst (λ (b : Bool). IsTrue b) w.alike.live may.0,
      meets_alike u z (run_of z log) (run_of z (own u log)) w.alike (HasScope (run_of z log).held.graph) (KnowsScope z (own u log)) op (λ s i h. known s i) may.1,
    )
