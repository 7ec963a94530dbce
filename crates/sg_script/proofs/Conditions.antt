-- What a follower gives meets its condition.
use Rattle.std.proofs.Common.{◌≡◌, ℕ, List, [], ◌∷◌, ◌++◌, ◌&&◌, Bool, true, false, IsTrue, not, Option, eqb, cond, inl, inr, refl, sym, ap, ◌∙◌, subst, length, lt-ltb}
use Rattle.std.proofs.lemmas.Bool.{cases_Bool}
use Rattle.std.proofs.lemmas.List.Elements.{Contains-append_right, Contains-append_left, Contains-append_cases}
use Rattle.std.specs.List.{Contains}
use Rattle.sg_base.specs.declared.scope.Scope.{Scope}
use Rattle.sg_base.specs.Graph.{HasScope}
use Rattle.sg_base.specs.Scope.{is_scope}
use Rattle.sg_base.proofs.Finite.{Contains-head, Contains-tail, filter-Contains}
use Rattle.sg_base.proofs.Scopes.{scope_same}
use Rattle.sg_query.specs.declared.query.Query.{Query}
use Rattle.sg_reading.proofs.Readings.{Gives-ends, Asks-kind}
use Rattle.sg_state.specs.declared.need.Need.{Need}
use Rattle.sg_state.specs.declared.need.Need.TheVariants.{Row, Datum}
use Rattle.sg_state.specs.Held.{HeldOf, RowHold, DatumHold, is_row_hold, is_datum_hold}
use Rattle.sg_state.specs.Need.{Holds}
use Rattle.sg_unit.specs.declared.entry.Entry.{Entry}
use Rattle.sg_unit.specs.declared.op.Op.{Op}
use Rattle.sg_unit.specs.declared.op.Op.TheVariants.{Fresh, AddEdge, SetDatum, CloseRow, Ask, Advance, Take, End}
use Rattle.sg_unit.specs.declared.reply.Reply.{Reply}
use Rattle.sg_unit.specs.declared.reply.Reply.TheVariants.{Moved, Ready}
use Rattle.sg_unit.specs.Run.{Setting, RunOf, opened, held_after, after, run_from, run_of, NoAsk}
use Rattle.sg_unit.specs.Trace.{Past, entries_for, entries_of, MayGive}
use Rattle.sg_unit.proofs.Steps.{run_append}
use Rattle.sg_unit.proofs.Writes.{num_is, is_num, row_hold, datum_hold}
use Rattle.sg_script.specs.declared.write.Write.{Write}
use Rattle.sg_script.specs.declared.write.Write.TheVariants.{AddEdge as Adds, SetDatum as Sets, CloseRow as Closes}
use Rattle.sg_script.specs.Following.{written, writes_in, MayWrite, MayFollow}
use Rattle.sg_unit.specs.Orderly.{Did, IsOrderly, WasTold}
use Rattle.sg_script.specs.Script.{Stage, Plan, AreApart, AreWrites, IsQuery, IsStage, IsSound, setting_by, place_of, gives_up}
use Rattle.sg_script.proofs.Given.{in_middle, given_placed, apart_before, turn_front}
use Rattle.sg_unit.proofs.Pasts.{each_may}

-- ---- the run of a follower's own entries

-- an operation that a unit gives which neither makes a scope nor ends
abbrev pub IsPlain : {I R D P : Type 0} → Op I R D P → Type 0
IsPlain (Fresh labels datum) = ⊥
IsPlain (AddEdge from label to) = Unit {0}
IsPlain (SetDatum s d) = Unit {0}
IsPlain (CloseRow s label) = Unit {0}
IsPlain (Ask q) = Unit {0}
IsPlain Advance = ⊥
IsPlain Take = ⊥
IsPlain (End x) = ⊥

abbrev pub ArePlain : {I R D P : Type 0} → Past I R D P → Type 0
ArePlain [] = Unit {0}
ArePlain (x ∷ xs) = IsPlain x.0 × ArePlain xs

own_cond : {X : Type 0} (u : ℕ) (a b : X) → cond (eqb u u) a b ≡ a
own_cond {X} u a b = subst (λ (c : Bool). cond c a b ≡ a) (sym (num_is u)) refl

live_same : (b l : Bool) → cond b (l && true) l ≡ l
live_same true true = refl
live_same true false = refl
live_same false l = refl

row_stays : (u : ℕ) (s t : Scope) (l m : ℕ) → (let a : Need = Row s l in let b : Need = Row t m in a ≡ b → ⊥) → not (is_row_hold u s l (row_hold t m u)) ≡ true
row_stays u s t l m h =
    elim (cases_Bool (is_scope t s)) [
      | inl e ↦ elim (cases_Bool (eqb m l)) [
        | inl k ↦ absurd (h (ap (λ (x : Scope). let n : Need = Row x l in n) (sym (scope_same t s e)) ∙ ap (λ (x : ℕ). let n : Need = Row t x in n) (sym (is_num m l k))))
        | inr k ↦ rw (num_is u, e, k) refl
      ]
      | inr e ↦ rw (num_is u, e) refl
    ]

datum_stays : (u : ℕ) (s t : Scope) → (let a : Need = Datum s in let b : Need = Datum t in a ≡ b → ⊥) → not (is_datum_hold u s (datum_hold t u)) ≡ true
datum_stays u s t h =
    elim (cases_Bool (is_scope t s)) [
      | inl e ↦ absurd (h (ap (λ (x : Scope). let n : Need = Datum x in n) (sym (scope_same t s e))))
      | inr e ↦ rw (num_is u, e) refl
    ]

module _ {I R D P : Type 0} (u : ℕ) where
  -- what an operation does not give up is held after it
  stays : (h : HeldOf D) (op : Op I R D P) (n : Need) → IsPlain op → Holds h u n → ((w : Write D) → Contains (written op) w → IsTrue (gives_up w) → place_of w ≡ n → ⊥) → Holds (held_after h u op) u n
  stays h (Fresh labels datum) n p k out = absurd p
  stays h (AddEdge from label to) (Row s l) p k out = k
  stays h (AddEdge from label to) (Datum s) p k out = k
  stays h (SetDatum s d) (Row t l) p k out = k
  stays h (SetDatum s d) (Datum t) p k out =
      filter-Contains (λ (y : DatumHold). not (is_datum_hold u s y)) h.datum_holds (datum_hold t u) k (datum_stays u s t (out (Sets s d) (Contains-head (Sets s d) []) refl))
  stays h (CloseRow s l) (Row t m) p k out =
      filter-Contains (λ (y : RowHold). not (is_row_hold u s l y)) h.row_holds (row_hold t m u) k (row_stays u s t l m (out (Closes s l) (Contains-head (Closes s l) []) refl))
  stays h (CloseRow s l) (Datum t) p k out = k
  stays h (Ask q) n p k out = k
  stays h Advance n p k out = absurd p
  stays h Take n p k out = absurd p
  stays h (End x) n p k out = absurd p

  -- a plain operation's entries leave the unit live and without an ask
  one : (r : RunOf D P) (op : Op I R D P) (y : Reply I D P) → IsPlain op → NoAsk r u → ((run_from r (entries_for u op y)).live u ≡ r.live u) × NoAsk (run_from r (entries_for u op y)) u × ((run_from r (entries_for u op y)).held ≡ held_after r.held u op)
  one r (Fresh labels datum) y p f = absurd p
  one r (AddEdge from label to) y p f = (live_same (eqb u u) (r.live u), own_cond u _ _ ∙ f, refl)
  one r (SetDatum s d) y p f = (live_same (eqb u u) (r.live u), own_cond u _ _ ∙ f, refl)
  one r (CloseRow s l) y p f = (live_same (eqb u u) (r.live u), own_cond u _ _ ∙ f, refl)
  one r (Ask q) y p f =
      let e1 : Entry I R D P = record { unit = u; op = Ask q; reply = Moved } in
      let e2 : Entry I R D P = record { unit = u; op = Advance; reply = Ready } in
      (live_same (eqb u u) ((after (after r e1) e2).live u) ∙ (live_same (eqb u u) ((after r e1).live u) ∙ live_same (eqb u u) (r.live u)), own_cond u _ _, refl)
  one r Advance y p f = absurd p
  one r Take y p f = absurd p
  one r (End x) y p f = absurd p

  same_scopes : (h : HeldOf D) (op : Op I R D P) → IsPlain op → (held_after h u op).graph.scopes ≡ h.graph.scopes
  same_scopes h (Fresh labels datum) p = absurd p
  same_scopes h (AddEdge from label to) p = refl
  same_scopes h (SetDatum s d) p = refl
  same_scopes h (CloseRow s l) p = refl
  same_scopes h (Ask q) p = refl
  same_scopes h Advance p = absurd p
  same_scopes h Take p = absurd p
  same_scopes h (End x) p = absurd p

  -- where plain operations leave a run
  record Leaves (r next : RunOf D P) (past : Past I R D P) : Type 0 where
    live : next.live u ≡ r.live u
    free : NoAsk next u
    scopes : next.held.graph.scopes ≡ r.held.graph.scopes
    holds : (n : Need) → Holds r.held u n → ((w : Write D) → Contains (writes_in past) w → IsTrue (gives_up w) → place_of w ≡ n → ⊥) → Holds next.held u n

  leaves : (past : Past I R D P) (r : RunOf D P) → ArePlain past → NoAsk r u → Leaves r (run_from r (entries_of u past)) past
  leaves [] r p f = record { live = refl; free = f; scopes = refl; holds = λ n k out. k }
  leaves (x ∷ xs) r p f =
      let first = one r x.0 x.1 p.0 f in
      let middle : RunOf D P = run_from r (entries_for u x.0 x.1) in
      let rest = leaves xs middle p.1 first.1 in
      subst (λ (t : RunOf D P). Leaves r t (x ∷ xs)) (sym (run_append r (entries_for u x.0 x.1) (entries_of u xs))) (record {
        live = rest.live ∙ first.0;
        free = rest.free;
        scopes = rest.scopes ∙ (ap (λ (h : HeldOf D). h.graph.scopes) first.2 ∙ same_scopes r.held x.0 p.0);
        holds = λ n k out.
            rest.holds n
            (subst (λ (h : HeldOf D). Holds h u n) (sym first.2) (stays r.held x.0 n p.0 k (λ w c. out w (Contains-append_left (written x.0) (writes_in xs) w c))))
            (λ w c. out w (Contains-append_right (written x.0) (writes_in xs) w c));
      })

  plain_all : (past : Past I R D P) → ((op : Op I R D P) (y : Reply I D P) → Contains past (op, y) → IsPlain op) → ArePlain past
  plain_all [] h = tt
  plain_all (x ∷ xs) h = (h x.0 x.1 (Contains-head x xs), plain_all xs (λ op y c. h op y (Contains-tail x (op, y) xs c)))

-- ---- the conditions

module _ {I R D P : Type 0} (plan : Plan R D P) (sound : IsSound plan) where
  may_plain : (past : Past I R D P) (op : Op I R D P) → MayFollow plan.stages plan.ending past op → ((x : R) → op ≡ End x → ⊥) → IsPlain op
  may_plain past (Fresh labels datum) m e = m
  may_plain past (AddEdge from label to) m e = tt
  may_plain past (SetDatum s d) m e = tt
  may_plain past (CloseRow s l) m e = tt
  may_plain past (Ask q) m e = tt
  may_plain past Advance m e = m
  may_plain past Take m e = m
  may_plain past (End x) m e = e x refl

  pub are_plain : (past : Past I R D P) (last : Option (Op I R D P)) → IsOrderly (MayFollow plan.stages plan.ending) past last → ((x : R) → Did past (End x) → ⊥) → ArePlain past
  are_plain past last h going =
      plain_all plan.unit past (λ op y c.
      let k = each_may (MayFollow plan.stages plan.ending) past last h op y c in
      may_plain k.0 op k.2 (λ x e. going x (y, subst (λ (o : Op I R D P). Contains past (o, y)) e c)))

  module _ (past : Past I R D P) (w : Write D) (m : MayWrite plan.stages past w) where
    listed : (s : Stage D P) → Contains (m.before ++ m.stage ∷ m.later) s → Contains plan.stages s
    listed s c = subst (λ (l : List (Stage D P)). Contains l s) (sym m.split) c

    pub own_stage : IsStage plan m.stage
    own_stage = sound.each m.stage (listed m.stage (in_middle m.before m.later m.stage))

    pub own_writes : AreWrites plan.opening.graph m.stage.places (m.front ++ w ∷ m.behind)
    own_writes = Gives-ends (AreWrites plan.opening.graph m.stage.places) (WasTold past) m.stage.rule (m.front ++ w ∷ m.behind) m.queries own_stage.writes m.gives

    pub own_place : Contains m.stage.places (place_of w)
    own_place = own_writes.placed w (in_middle m.front m.behind w)

    -- nothing written before gave up its place
    pub still_held : (x : Write D) → Contains (writes_in past) x → IsTrue (gives_up x) → place_of x ≡ place_of w → ⊥
    still_held x c g e =
        elim (Contains-append_cases m.earlier m.front x (subst (λ (l : List (Write D)). Contains l x) m.wrote c)) [
          | inl k ↦
              let p = given_placed (WasTold past) plan.opening.graph m.before m.earlier x (λ s i. (sound.each s (listed s (Contains-append_left m.before (m.stage ∷ m.later) s i))).writes) m.given k in
              apart_before m.before m.later m.stage p.0 (place_of w) (subst (λ (l : List (Stage D P)). AreApart l) m.split sound.apart) p.1 own_place (subst (λ (n : Need). Contains (p.0).places n) e p.2)
          | inr k ↦ turn_front m.front m.behind x w own_writes.turns k g e
        ]

  module _ (wants : P → D → Bool) (same : D → D → Bool) (past : Past I R D P) (plain : ArePlain past) where
    abbrev here : Setting D P
    here = setting_by wants same plan

    abbrev now : RunOf D P
    now = run_of here (entries_of plan.unit past)

    left : Leaves plan.unit (opened here) now past
    left = leaves plan.unit past (opened here) plain refl

    live : IsTrue (now.live plan.unit)
    live = left.live ∙ lt-ltb plan.unit (length plan.opening.made) sound.unit

    there : (s : Scope) → HasScope plan.opening.graph s → HasScope now.held.graph s
    there s c = subst (λ (l : List Scope). Contains l s) (sym left.scopes) c

    holds : (w : Write D) → MayWrite plan.stages past w → Holds now.held plan.unit (place_of w)
    holds w m = left.holds (place_of w) ((own_stage past w m).held (place_of w) (own_place past w m)) (still_held past w m)

    asks : (q : Query P) → IsQuery plan q → MayGive here plan.unit past (Ask q)
    asks q k = (live, (left.free, k.kind, inl (there q.start k.start)))

    pub may_give : (op : Op I R D P) → MayFollow plan.stages plan.ending past op → MayGive here plan.unit past op
    may_give (Fresh labels datum) m = absurd m
    may_give (AddEdge from label to) m =
        let w : Write D = Adds from label to in
        (live, (left.free, holds w m, inl (there to ((own_writes past w m).targets w (in_middle (m.front) (m.behind) w)))))
    may_give (SetDatum s d) m = (live, (left.free, holds (Sets s d) m))
    may_give (CloseRow s l) m = (live, (left.free, holds (Closes s l) m))
    may_give (Ask q) m =
        elim m [
          | inl k ↦ asks q (Asks-kind (IsQuery plan) (WasTold past) (k.stage).rule q (sound.each k.stage (subst (λ (l : List (Stage D P)). Contains l k.stage) (sym k.split) (in_middle k.before k.later k.stage))).asks (k.needs).0)
          | inr k ↦ asks q (Asks-kind (IsQuery plan) (WasTold past) plan.ending q sound.asks (k.1).0)
        ]
    may_give Advance m = absurd m
    may_give Take m = absurd m
    may_give (End x) m = (live, left.free)
