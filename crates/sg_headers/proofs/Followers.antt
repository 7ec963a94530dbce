-- A follower whose first stage is a header, or imports, gives what a reader may give.
use Rattle.std.proofs.Common.{◌≡◌, ℕ, List, [], ◌∷◌, ◌++◌, ◌⊎◌, inl, inr, refl, sym, ap, ◌∙◌, subst, map, true}
use Rattle.std.proofs.lemmas.List.{append-nil}
use Rattle.std.proofs.lemmas.List.Elements.{Contains-append_left, Contains-append_right, Contains-append_cases}
use Rattle.std.specs.List.{Contains}
use Rattle.sg_base.specs.declared.scope.Scope.{Scope}
use Rattle.sg_base.specs.Graph.{Edge}
use Rattle.sg_base.proofs.Finite.{single, Contains-head, Contains-cons, Contains-map, map-Contains}
use Rattle.sg_query.specs.declared.answer.Answer.{Answer}
use Rattle.sg_query.specs.declared.query.Query.{Query}
use Rattle.sg_reading.specs.Reading.{Reading, done, Gives, Asks, Needs, and_then, AllAsked}
use Rattle.sg_reading.proofs.Readings.{Asks-kind, Gives-ends}
use Rattle.sg_reading.proofs.Sequences.{gives_in_turn, asks_in_turn}
use Rattle.sg_state.specs.declared.need.Need.{Need}
use Rattle.sg_state.specs.declared.need.Need.TheVariants.{Row}
use Rattle.sg_state.specs.Held.{HoldsRow, HoldsDatum}
use Rattle.sg_unit.specs.declared.op.Op.{Op}
use Rattle.sg_unit.specs.declared.op.Op.TheVariants.{Fresh, AddEdge, SetDatum, CloseRow, Ask, Advance, Take, End}
use Rattle.sg_unit.specs.Run.{Setting, asked_by}
use Rattle.sg_unit.specs.Trace.{Past}
use Rattle.sg_script.specs.declared.write.Write.{Write}
use Rattle.sg_script.specs.declared.write.Write.TheVariants.{AddEdge as Adds, SetDatum as Sets, CloseRow as Closes}
use Rattle.sg_script.specs.Following.{writes_in, MayWrite, MayFollow, WroteAll}
use Rattle.sg_script.specs.Script.{Stage, Plan, AreApart, AreGiven, IsSound, row_writes, row_stage, edge_writes, edges_stage, place_of, gives_up}
use Rattle.sg_script.proofs.Conditions.{own_writes, own_place}
use Rattle.sg_script.proofs.Following.{parted}
use Rattle.sg_script.proofs.Given.{in_middle, given_has, apart_before, turn_behind, wrote_did}
use Rattle.sg_strata.specs.Program.{Program}
use Rattle.sg_headers.specs.Imports.{MayReadImports}
use Rattle.sg_unit.specs.Orderly.{Did, WasTold}
use Rattle.sg_headers.specs.Orderly.{DidSet, HasRead, MayReadHeader, AsksNoSignature, MayAskSignatures}
use Rattle.sg_headers.specs.Follower.{SetsDatum, FollowersReadHeaders, FollowersReadImports, FollowersAskSignaturesLast}

-- ---- a rule and what is made of it

module _ {Q A U W : Type 0} (R : Q → A → Type 0) (rule : Reading Q A U) (f : U → W) where
  made : (w : W) (qs : List Q) → Gives R (and_then rule (λ v. done (f v))) w qs → (v : U) × (ps : List Q) × Gives R rule v ps × (f v ≡ w)
  made w qs g = let k = (gives_in_turn R rule (λ v. done (f v)) w qs).0 g in (k.0, k.1, k.3, (k.4).0)

  made_asks : (q : Q) → Asks R (and_then rule (λ v. done (f v))) q → Asks R rule q
  made_asks q a = elim ((asks_in_turn R rule (λ v. done (f v)) q).0 a) [ inl k ↦ k | inr k ↦ absurd k.3 ]

  made_needs : (q : Q) → Needs R (and_then rule (λ v. done (f v))) q → Needs R rule q
  made_needs q n = (made_asks q n.0, n.1)

-- ---- the first stage

module _ {D P : Type 0} (first : Stage D P) (later : List (Stage D P)) where
  -- the stage at hand is the first, or the first is among those before
  at_first : (before rest : List (Stage D P)) (stage : Stage D P) → first ∷ later ≡ before ++ stage ∷ rest → ((before ≡ []) × (stage ≡ first)) ⊎ (Contains before first × Contains later stage)
  at_first [] rest stage e = let k : first ∷ later ≡ stage ∷ rest = e in let h : stage ≡ first = cc in inl (refl, h)
  at_first (b ∷ before) rest stage e =
      let k : first ∷ later ≡ b ∷ (before ++ stage ∷ rest) = e in
      let h : first ≡ b = cc in
      let t : before ++ stage ∷ rest ≡ later = cc in
      inr (subst (λ (x : Stage D P). Contains (b ∷ before) x) (sym h) (Contains-head b before), subst (λ (l : List (Stage D P)). Contains l stage) t (in_middle before rest stage))

module _ {I R D P : Type 0} (plan : Plan R D P) (sound : IsSound plan) (past : Past I R D P) where
  abbrev Answers : Query P → Answer D → Type 0
  Answers = WasTold past

  -- a stage that was written
  wrote_stage : (ss : List (Stage D P)) (ws : List (Write D)) (s : Stage D P) → AreGiven Answers ss ws → ((w : Write D) → Contains ws w → Contains (writes_in past) w) → Contains ss s → (own : List (Write D)) × (qs : List (Query P)) × Gives Answers s.rule own qs × ((w : Write D) → Contains own w → Contains (writes_in past) w)
  wrote_stage ss ws s g into c = let k = given_has Answers ss ws s g c in (k.0, k.1, k.2, λ w i. into w (k.3 w i))

  module _ (close : Write D) (m : MayWrite plan.stages past close) where
    -- an edge that a stage gives to a row was written before the row's close
    before_close : (s : Scope) (l : ℕ) (t : Scope) → close ≡ Closes s l → Contains (m.front ++ close ∷ m.behind) (Adds s l t) → Did past (AddEdge s l t)
    before_close s l t e c =
        elim (Contains-append_cases m.front (close ∷ m.behind) (Adds s l t) c) [
          | inl k ↦ wrote_did past (Adds s l t) (subst (λ (ws : List (Write D)). Contains ws (Adds s l t)) (sym m.wrote) (Contains-append_right m.earlier m.front (Adds s l t) k))
          | inr k ↦ elim (Contains-cons close (Adds s l t) m.behind k) [
            | inl h ↦ absurd (let x : Adds s l t ≡ Closes s l = h ∙ e in cc)
            | inr b ↦ absurd (turn_behind m.front m.behind (Adds s l t) close (own_writes plan sound past close m).turns b (gives e) (at e))
          ]
        ]
      where
        gives : close ≡ Closes s l → gives_up close ≡ true
        gives e = ap (λ (w : Write D). gives_up w) e

        at : close ≡ Closes s l → Row s l ≡ place_of close
        at e = sym (ap (λ (w : Write D). place_of w) e)

  earlier_in : (ws front : List (Write D)) → writes_in past ≡ ws ++ front → (w : Write D) → Contains ws w → Contains (writes_in past) w
  earlier_in ws front e w c = subst (λ (l : List (Write D)). Contains l w) (sym e) (Contains-append_left ws front w c)

  -- ---- a header

  module _ (c : Scope) (super : ℕ) (header : Reading (Query P) (Answer D) (List Scope)) (later : List (Stage D P)) (split : plan.stages ≡ row_stage c super header ∷ later) where
    abbrev first : Stage D P
    first = row_stage c super header

    row_made : (own : List (Write D)) (qs : List (Query P)) → Gives Answers first.rule own qs → (ts : List Scope) × (ps : List (Query P)) × Gives Answers header ts ps × (row_writes c super ts ≡ own)
    row_made own qs g = made Answers header (λ ts. row_writes c super ts) own qs g

    close_in : (ts : List Scope) → (let w : Write D = Closes c super in Contains (row_writes c super ts) w)
    close_in ts = in_middle (map (λ t. let w : Write D = Adds c super t in w) ts) [] (Closes c super)

    edge_in : (ts : List Scope) (t : Scope) → Contains ts t → (let w : Write D = Adds c super t in Contains (row_writes c super ts) w)
    edge_in ts t k = let close : Write D = Closes c super in Contains-append_left (map (λ t. let w : Write D = Adds c super t in w) ts) (close ∷ []) (Adds c super t) (map-Contains (λ t. let w : Write D = Adds c super t in w) ts t k)

    in_edges : (ts : List Scope) (from : Scope) (label : ℕ) (t : Scope) → (let w : Write D = Adds from label t in Contains (row_writes c super ts) w) → Contains ts t
    in_edges ts from label t k =
        let close : Write D = Closes c super in
        elim (Contains-append_cases (map (λ t. let w : Write D = Adds c super t in w) ts) (close ∷ []) (Adds from label t) k) [
          | inl m ↦
              let x = Contains-map (λ t. let w : Write D = Adds c super t in w) ts (Adds from label t) m in
              let e : ◌≡◌ {A = Write D} (Adds from label t) (Adds c super x.0) = x.2 in
              let h : x.0 ≡ t = cc in
              subst (λ (i : Scope). Contains ts i) h x.1
          | inr m ↦ absurd (let e : ◌≡◌ {A = Write D} (Adds from label t) (Closes c super) = single close (Adds from label t) m in cc)
        ]

    -- the row was closed, where the first stage was written
    was_closed : (ss : List (Stage D P)) (ws front : List (Write D)) → AreGiven Answers ss ws → writes_in past ≡ ws ++ front → Contains ss first → Did past (CloseRow c super)
    was_closed ss ws front g e k =
        let o = wrote_stage ss ws first g (earlier_in ws front e) k in
        let r = row_made o.0 o.1 o.2 in
        wrote_did past (Closes c super) (o.3 (Closes c super) (subst (λ (l : List (Write D)). Contains l (Closes c super)) r.3 (close_in r.0)))

    -- only the first stage writes the row
    is_first : (w : Write D) (m : MayWrite plan.stages past w) → place_of w ≡ Row c super → m.stage ≡ first
    is_first w m e =
        elim (at_first first later m.before m.later m.stage (sym split ∙ m.split)) [
          | inl k ↦ k.1
          | inr k ↦ absurd (apart_before m.before m.later m.stage first (Row c super) (subst (λ (l : List (Stage D P)). AreApart l) m.split sound.apart) k.0
              (subst (λ (n : Need). Contains (m.stage).places n) e (own_place plan sound past w m)) (Contains-head (Row c super) []))
        ]

    whole_row : (w : Write D) (m : MayWrite plan.stages past w) → place_of w ≡ Row c super → (ts : List Scope) × HasRead (λ q. q) header past ts × (row_writes c super ts ≡ m.front ++ w ∷ m.behind)
    whole_row w m e =
        let r = row_made (m.front ++ w ∷ m.behind) m.queries (subst (λ (s : Stage D P). Gives Answers s.rule (m.front ++ w ∷ m.behind) m.queries) (is_first w m e) m.gives) in
        (r.0, (r.1, r.2), r.3)

    all_closed : WroteAll plan.stages past → Did past (CloseRow c super)
    all_closed g = was_closed plan.stages (writes_in past) [] g (sym (append-nil (writes_in past))) (subst (λ (l : List (Stage D P)). Contains l first) (sym split) (Contains-head first later))

    pub reads_header : (op : Op I R D P) → MayFollow plan.stages plan.ending past op → MayReadHeader (λ q. q) header c super past op
    reads_header (Fresh labels datum) m = m
    reads_header (AddEdge from label to) m = λ e1 e2.
        let w : Write D = Adds from label to in
        let k = whole_row w m (rw (e1, e2) refl) in
        (k.0, k.1, in_edges k.0 from label to (subst (λ (l : List (Write D)). Contains l w) (sym k.2) (in_middle (m.front) (m.behind) w)))
    reads_header (SetDatum s d) m = tt
    reads_header (CloseRow s label) m = λ e1 e2.
        let w : Write D = Closes s label in
        let k = whole_row w m (rw (e1, e2) refl) in
        (k.0, k.1, λ t i. before_close w m c super t (rw (e1, e2) refl) (subst (λ (l : List (Write D)). Contains l (Adds c super t)) k.2 (edge_in k.0 t i)))
    reads_header (Ask q) m = λ still.
        elim m [
          | inl k ↦ elim (at_first first later k.before k.later k.stage (sym split ∙ k.split)) [
            | inl h ↦ (q, refl, made_needs Answers header (λ ts. row_writes c super ts) q (subst (λ (s : Stage D P). Needs Answers s.rule q) h.1 k.needs))
            | inr h ↦ absurd (still (was_closed k.before k.earlier [] k.given (k.wrote ∙ sym (append-nil k.earlier)) h.0))
          ]
          | inr k ↦ absurd (still (all_closed k.0))
        ]
    reads_header Advance m = tt
    reads_header Take m = tt
    reads_header (End x) m = all_closed m.0

  -- ---- imports

  module _ (z : Setting D P) (rows : List (Scope × ℕ)) (rule : Reading (Query P) (Answer D) (List Edge)) (later : List (Stage D P)) (split : plan.stages ≡ edges_stage rows rule ∷ later) (held : (s : Scope) (l : ℕ) → HoldsRow z.opening plan.unit s l → Contains rows (s, l)) (no_rows : (t : Stage D P) (s : Scope) (l : ℕ) → Contains later t → Contains t.places (Row s l) → ⊥) where
    abbrev top : Stage D P
    top = edges_stage rows rule

    edges_made : (own : List (Write D)) (qs : List (Query P)) → Gives Answers top.rule own qs → (es : List Edge) × (ps : List (Query P)) × Gives Answers rule es ps × (edge_writes rows es ≡ own)
    edges_made own qs g = made Answers rule (λ es. edge_writes rows es) own qs g

    add : Edge → Write D
    add e = Adds e.from e.label e.to

    close : Scope × ℕ → Write D
    close r = Closes r.0 r.1

    closes_in : (es : List Edge) (s : Scope) (l : ℕ) → Contains rows (s, l) → (let w : Write D = Closes s l in Contains (edge_writes rows es) w)
    closes_in es s l k =
        Contains-append_right (map (λ e. let w : Write D = Adds e.from e.label e.to in w) es) (map (λ r. let w : Write D = Closes r.0 r.1 in w) rows) (Closes s l) (map-Contains (λ r. let w : Write D = Closes r.0 r.1 in w) rows (s, l) k)

    adds_in : (es : List Edge) (s : Scope) (l : ℕ) (t : Scope) → Contains es (record { from = s; label = l; to = t }) → (let w : Write D = Adds s l t in Contains (edge_writes rows es) w)
    adds_in es s l t k =
        Contains-append_left (map (λ e. let w : Write D = Adds e.from e.label e.to in w) es) (map (λ r. let w : Write D = Closes r.0 r.1 in w) rows) (Adds s l t) (map-Contains (λ e. let w : Write D = Adds e.from e.label e.to in w) es (record { from = s; label = l; to = t }) k)

    in_adds : (es : List Edge) (s : Scope) (l : ℕ) (t : Scope) → (let w : Write D = Adds s l t in Contains (edge_writes rows es) w) → Contains es (record { from = s; label = l; to = t })
    in_adds es s l t k =
        elim (Contains-append_cases (map (λ e. let w : Write D = Adds e.from e.label e.to in w) es) (map (λ r. let w : Write D = Closes r.0 r.1 in w) rows) (Adds s l t) k) [
          | inl m ↦
              let x = Contains-map (λ e. let w : Write D = Adds e.from e.label e.to in w) es (Adds s l t) m in
              let e : ◌≡◌ {A = Write D} (Adds s l t) (Adds (x.0).from (x.0).label (x.0).to) = x.2 in
              let h1 : (x.0).from ≡ s = cc in
              let h2 : (x.0).label ≡ l = cc in
              let h3 : (x.0).to ≡ t = cc in
              let h : x.0 ≡ record { from = s; label = l; to = t } = same_edge x.0 s l t h1 h2 h3 in
              subst (λ (i : Edge). Contains es i) h x.1
          | inr m ↦
              let x = Contains-map (λ r. let w : Write D = Closes r.0 r.1 in w) rows (Adds s l t) m in
              absurd (let e : ◌≡◌ {A = Write D} (Adds s l t) (Closes (x.0).0 (x.0).1) = x.2 in cc)
        ]
      where
        same_edge : (e : Edge) (s : Scope) (l : ℕ) (t : Scope) → e.from ≡ s → e.label ≡ l → e.to ≡ t → e ≡ record { from = s; label = l; to = t }
        same_edge e s l t h1 h2 h3 = λ i. record { from = h1 i; label = h2 i; to = h3 i }

    -- the first stage was written
    wrote_top : (ss : List (Stage D P)) (ws front : List (Write D)) → AreGiven Answers ss ws → writes_in past ≡ ws ++ front → Contains ss top → (es : List Edge) × (ps : List (Query P)) × Gives Answers rule es ps × ((w : Write D) → Contains (edge_writes rows es) w → Contains (writes_in past) w)
    wrote_top ss ws front g e k =
        let o = wrote_stage ss ws top g (earlier_in ws front e) k in
        let r = edges_made o.0 o.1 o.2 in
        (r.0, r.1, r.2, λ w i. o.3 w (subst (λ (l : List (Write D)). Contains l w) r.3 i))

    -- only the first stage writes rows
    is_top : (w : Write D) (m : MayWrite plan.stages past w) (s : Scope) (l : ℕ) → place_of w ≡ Row s l → m.stage ≡ top
    is_top w m s l e =
        elim (at_first top later m.before m.later m.stage (sym split ∙ m.split)) [
          | inl k ↦ k.1
          | inr k ↦ absurd (no_rows m.stage s l k.1 (subst (λ (n : Need). Contains (m.stage).places n) e (own_place plan sound past w m)))
        ]

    whole_rows : (w : Write D) (m : MayWrite plan.stages past w) (s : Scope) (l : ℕ) → place_of w ≡ Row s l → (es : List Edge) × (ps : List (Query P)) × Gives Answers rule es ps × (edge_writes rows es ≡ m.front ++ w ∷ m.behind)
    whole_rows w m s l e = edges_made (m.front ++ w ∷ m.behind) m.queries (subst (λ (s : Stage D P). Gives Answers s.rule (m.front ++ w ∷ m.behind) m.queries) (is_top w m s l e) m.gives)

    all_top : WroteAll plan.stages past → (es : List Edge) × (ps : List (Query P)) × Gives Answers rule es ps × ((w : Write D) → Contains (edge_writes rows es) w → Contains (writes_in past) w)
    all_top g = wrote_top plan.stages (writes_in past) [] g (sym (append-nil (writes_in past))) (subst (λ (l : List (Stage D P)). Contains l top) (sym split) (Contains-head top later))

    closed : (es : List Edge) → ((w : Write D) → Contains (edge_writes rows es) w → Contains (writes_in past) w) → (s : Scope) (l : ℕ) → HoldsRow z.opening plan.unit s l → Did past (CloseRow s l)
    closed es into s l h = wrote_did past (Closes s l) (into (Closes s l) (closes_in es s l (held s l h)))

    pub reads_imports : (op : Op I R D P) → MayFollow plan.stages plan.ending past op → MayReadImports z plan.unit (λ q. q) rule past op
    reads_imports (Fresh labels datum) m = m
    reads_imports (AddEdge from label to) m =
        let w : Write D = Adds from label to in
        let k = whole_rows w m from label refl in
        (k.0, (k.1, k.2), in_adds k.0 from label to (subst (λ (l : List (Write D)). Contains l w) (sym k.3) (in_middle (m.front) (m.behind) w)))
    reads_imports (SetDatum s d) m = tt
    reads_imports (CloseRow s label) m =
        let w : Write D = Closes s label in
        let k = whole_rows w m s label refl in
        (k.0, (k.1, k.2), λ t i. before_close w m s label t refl (subst (λ (l : List (Write D)). Contains l (Adds s label t)) k.3 (adds_in k.0 s label t i)))
    reads_imports (Ask q) m = λ s l h.
        elim m [
          | inl k ↦ elim (at_first top later k.before k.later k.stage (sym split ∙ k.split)) [
            | inl i ↦ inr (q, refl, made_needs Answers rule (λ es. edge_writes rows es) q (subst (λ (s : Stage D P). Needs Answers s.rule q) i.1 k.needs))
            | inr i ↦ let o = wrote_top k.before k.earlier [] k.given (k.wrote ∙ sym (append-nil k.earlier)) i.0 in inl (closed o.0 o.3 s l h)
          ]
          | inr k ↦ let o = all_top k.0 in inl (closed o.0 o.3 s l h)
        ]
    reads_imports Advance m = tt
    reads_imports Take m = tt
    reads_imports (End x) m = λ s l. let o = all_top m.0 in (o.0, (o.1, o.2), λ t i. wrote_did past (Adds s l t) (o.3 (Adds s l t) (adds_in o.0 s l t i)))

  -- ---- signatures

  module _ {Q : Type 0} (p : Program Q D) (z : Setting D P) (first later : List (Stage D P)) (split : plan.stages ≡ first ++ later) (quiet : (t : Stage D P) → Contains first t → AllAsked (λ q. AsksNoSignature p (asked_by z q)) t.rule) (set_all : (s : Scope) → HoldsDatum z.opening plan.unit s → (t : Stage D P) × Contains first t × SetsDatum t s) where
    did_set : (ss : List (Stage D P)) (ws front : List (Write D)) → AreGiven Answers ss ws → writes_in past ≡ ws ++ front → ((t : Stage D P) → Contains first t → Contains ss t) → (s : Scope) → HoldsDatum z.opening plan.unit s → DidSet past s
    did_set ss ws front g e into s h =
        let k = set_all s h in
        let o = wrote_stage ss ws k.0 g (earlier_in ws front e) (into k.0 k.1) in
        let d = Gives-ends (λ (ws : List (Write D)). (d : D) × Contains ws (Sets s d)) Answers (k.0).rule o.0 o.1 k.2 o.2 in
        (d.0, wrote_did past (Sets s d.0) (o.3 (Sets s d.0) d.1))

    pub asks_last : (op : Op I R D P) → MayFollow plan.stages plan.ending past op → MayAskSignatures p z plan.unit past op
    asks_last (Fresh labels datum) m = tt
    asks_last (AddEdge from label to) m = tt
    asks_last (SetDatum s d) m = tt
    asks_last (CloseRow s label) m = tt
    asks_last (Ask q) m = λ s h.
        elim m [
          | inl k ↦ elim (parted k.before k.later first later k.stage (sym k.split ∙ split)) [
            | inl i ↦ inr (Asks-kind (λ q. AsksNoSignature p (asked_by z q)) Answers (k.stage).rule q (quiet k.stage (subst (λ (l : List (Stage D P)). Contains l k.stage) (sym i.1) (in_middle k.before i.0 k.stage))) (k.needs).0)
            | inr i ↦ inl (did_set k.before k.earlier [] k.given (k.wrote ∙ sym (append-nil k.earlier)) (λ t c. subst (λ (l : List (Stage D P)). Contains l t) (sym i.1) (Contains-append_left first i.0 t c)) s h)
          ]
          | inr k ↦ inl (did_set plan.stages (writes_in past) [] k.0 (sym (append-nil (writes_in past))) (λ t c. subst (λ (l : List (Stage D P)). Contains l t) (sym split) (Contains-append_left first later t c)) s h)
        ]
    asks_last Advance m = tt
    asks_last Take m = tt
    asks_last (End x) m = tt

pub followers_read_headers : (I R D P : Type 0) → FollowersReadHeaders I R D P
followers_read_headers I R D P plan c super header later reply asked pending n ended past last f split before op gave = reads_header plan f.sound before c super header later split op (f.orderly before op gave)

pub followers_read_imports : (I R D P : Type 0) → FollowersReadImports I R D P
followers_read_imports I R D P z plan rows rule later reply asked pending n ended past last f split held no_rows before op gave = reads_imports plan f.sound before z rows rule later split held no_rows op (f.orderly before op gave)

pub followers_ask_signatures_last : (I R Q D P : Type 0) → FollowersAskSignaturesLast I R Q D P
followers_ask_signatures_last I R Q D P p z plan first later reply asked pending n ended past last f split quiet set_all before op gave = asks_last plan f.sound before p z first later split quiet set_all op (f.orderly before op gave)
