-- The units of a folder whose checkers follow their plans are orderly: those of types read headers, those of files give imports, and no unit asks for
-- a signature until it has set all its own.
use Rattle.std.proofs.Common.{◌≡◌, ℕ, ◌+◌, ◌-◌, ◌<◌, ◌==◌, nat_lt, Bool, false, cond, IsTrue, true≢false, lt-ltb, List, [], ◌∷◌, ◌⊎◌, length, map, inl, inr, refl, sym, ap, ◌∙◌, subst, arith}
use Rattle.std.proofs.lemmas.Bool.{cases_Bool, eq-eqb, ltb-true}
use Rattle.std.proofs.lemmas.Bool.Decides.{leb_tells}
use Rattle.std.proofs.lemmas.List.{append-nil, length-replicate}
use Rattle.std.specs.List.{Contains}
use Rattle.sg_base.specs.declared.scope.Scope.{Scope}
use Rattle.sg_base.specs.Graph.{Edge, GraphOf, HasEdge, HasScope}
use Rattle.sg_base.specs.Label.{Word}
use Rattle.sg_base.proofs.Finite.{nothing_in, single, Contains-head, Contains-tail, Contains-cons, Contains-filter, Contains-map, filter-Contains, map-Contains}
use Rattle.sg_expr.specs.Word.{In}
use Rattle.sg_headers.specs.Follower.{SetsDatum}
use Rattle.sg_headers.specs.Imports.{GivesImports, MayReadImports, TouchesNothingOpen}
use Rattle.sg_headers.specs.Orderly.{AnswersTold, AsksNoSignature, MayAskSignatures, MayGiveImports, MayReadHeader}
use Rattle.sg_headers.specs.Setting.{AreOrderly}
use Rattle.sg_headers.proofs.Followers.{followers_ask_signatures_last, followers_read_headers, followers_read_imports}
use Rattle.sg_headers.proofs.Importing.{import_rules_give_imports, untouched_are_settled}
use Rattle.sg_query.specs.declared.query.Query.{Query}
use Rattle.sg_query.specs.Answer.{IsAnswer}
use Rattle.sg_query.specs.Query.{Asked}
use Rattle.sg_query.specs.State.{IsSettled}
use Rattle.sg_reading.specs.Reading.{Reading, done, ask, AllAsked, Asks}
use Rattle.sg_reading.proofs.Asking.{AllAsked-more, and_then-asked, and_then-ends, any_ends}
use Rattle.sg_reading.proofs.Readings.{Gives-more}
use Rattle.sg_script.specs.declared.write.Write.{Write}
use Rattle.sg_script.specs.declared.write.Write.TheVariants.{SetDatum as Sets}
use Rattle.sg_script.specs.Script.{Stage, row_writes}
use Rattle.sg_state.specs.Held.{HoldsDatum, HoldsRow, state_of}
use Rattle.sg_state.proofs.Extending.{open_from, unset_from}
use Rattle.sg_state.proofs.SoundOpenings.{edge_in, scope_in}
use Rattle.sg_trace.specs.Tells.{trace_of}
use Rattle.sg_unit.specs.declared.entry.Entry.{Entry}
use Rattle.sg_unit.specs.declared.op.Op.{Op}
use Rattle.sg_unit.specs.declared.op.Op.TheVariants.{Fresh, AddEdge, SetDatum, CloseRow, Ask, Advance, Take, End}
use Rattle.sg_unit.specs.Orderly.{IsOrderly}
use Rattle.sg_unit.specs.Run.{asked_by, units_of}
use Rattle.sg_unit.specs.Step.{IsRun}
use Rattle.jv_diag.specs.Plain.{DiagOf}
use Rattle.jv_instance.specs.declared.datum.JavaDatum.{JavaDatum}
use Rattle.jv_instance.specs.declared.java.Java.{Java}
use Rattle.jv_instance.specs.declared.labels.TheConstants.{EXT, ODI, PKG, SIG, SIMP, TYPE}
use Rattle.jv_instance.specs.declared.pred.JavaPred.{JavaPred}
use Rattle.jv_layout.specs.Folder.{LayoutOf}
use Rattle.jv_layout.specs.Readers.{member_at, members_of_type, types_of}
use Rattle.jv_layout.specs.Scopes.{file_scope, first_type, signature_of_member, type_scope}
use Rattle.jv_layout.specs.Skeleton.{below, skeleton_of}
use Rattle.jv_layout.proofs.SoundLists.{from_below, from_image, in_image}
use Rattle.jv_names.specs.Bounds.{AreTypes, IsNameQuery, StaysIn}
use Rattle.jv_names.specs.Kinds.{asked_by as java_asked, kind_at}
use Rattle.jv_names.specs.Law.{InGraph}
use Rattle.jv_names.proofs.Bounds.{row_is_type}
use Rattle.jv_header.specs.Header.{header_row}
use Rattle.jv_header.specs.Law.{AsksForOwn, signatures_of}
use Rattle.jv_header.proofs.Bounds.{header_row_stays}
use Rattle.jv_header.proofs.Programs.{plain_words, signature_edges_labelled, start_is_listed, starts_at_none, words_have}
use Rattle.jv_member.specs.Bounds.{IsSignatureIn}
use Rattle.jv_member.specs.declared.signature.Signature.{Signature}
use Rattle.jv_member.proofs.Bounds.{signatures_stay_in}
use Rattle.jv_tree.specs.Numbered.{IsNumberedDecl}
use Rattle.jv_unit.specs.Folder.{FolderOf, IsFolderOf}
use Rattle.jv_unit.specs.Owns.{own_at}
use Rattle.jv_unit.specs.Plans.{class_of, file_edges, file_rows, file_stage, file_stages, java_plan, member_signature, signature_datum, signature_stage, type_row, type_stage, type_stages, unit_stages}
use Rattle.jv_unit.specs.Trees.{decl_at, extends_of, implements_of}
use Rattle.jv_unit.proofs.Numbers.{decl_numbered, extends_numbered, implements_numbered, members_are_owns, named_in, owns_numbered}
use Rattle.jv_unit.proofs.Trees.{types_of_decls}
use Rattle.sc_app.specs.FolderGraph.{GivesImport, IsSkeleton, headers_of}
use Rattle.sc_app.specs.FolderLaw.{MayAskForOwn, roles_of}
use Rattle.sc_app.specs.FolderRun.{FollowsBy, JavaCore, ruled}
use Rattle.sc_app.proofs.HeaderHolds.{begun, begun_opens, datum_held, in_below, row_cases, skeleton_sound}
use Rattle.sc_app.proofs.HeaderImports.{IsImportEdge, given_imports, imports_ask, imports_of, one_imports}
use Rattle.sc_app.proofs.HeaderKinds.{asked_alike}
use Rattle.sc_app.proofs.HeaderSetting.{folder_setting, type_number}

-- ---- the stages of units

module _ (w : FolderOf) where
  -- a unit of a file has its one stage
  stages_of_file : (f : ℕ) → f < length w.layout.files → unit_stages w f ≡ file_stage w f ∷ []
  stages_of_file f b = ap (λ (b : Bool). cond b (file_stages w f) (type_stages w (f - length w.layout.files))) (lt-ltb f (length w.layout.files) b)

  not_below : (t : ℕ) → nat_lt (length w.layout.files + t) (length w.layout.files) ≡ false
  not_below t = elim (cases_Bool (nat_lt (length w.layout.files + t) (length w.layout.files))) [
    | inl b ↦ absurd (let k : length w.layout.files + t < length w.layout.files = ltb-true (length w.layout.files + t) (length w.layout.files) b in omega (arith, k))
    | inr b ↦ b
  ]

  -- and that of a type those of its type
  stages_of_type : (t : ℕ) → unit_stages w (length w.layout.files + t) ≡ type_stages w t
  stages_of_type t =
      let u = length w.layout.files + t in
      ap (λ (b : Bool). cond b (file_stages w u) (type_stages w (u - length w.layout.files))) (not_below t) ∙ ap (type_stages w) (behind (length w.layout.files))
    where
      behind : (n : ℕ) → (n + t) - n ≡ t
      behind n = omega arith

-- ---- what rules ask

-- a query to which a rule comes is one that it may ask
module _ {Q A U : Type 0} (K : Q → Type 0) (R : Q → A → Type 0) where
  pub all_asks : (r : Reading Q A U) (p : Q) → AllAsked K r → Asks R r p → K p
  all_asks (done v) p c x = absurd x
  all_asks (ask q next) p c x = elim x [ inl e ↦ subst K e c.0 | inr m ↦ all_asks (next m.0) p (c.1 m.0) m.2 ]

module _ (w : FolderOf) (h : IsFolderOf w) where
  abbrev IsName : Query JavaPred → Type 0
  IsName = IsNameQuery w.layout (length w.names)

  -- imports ask what is settled at the opening
  module _ (q : Query JavaPred) (name : IsName q) (own : AsksForOwn q) where
    -- the only label that such a query follows
    own_label : (v : Word) → In (java_asked q).expr v → (l : ℕ) → Contains v l → (l ≡ TYPE) ⊎ (l ≡ PKG)
    own_label v i l c = elim own [
      | inl e ↦
          let k : v ≡ TYPE ∷ [] = subst (λ (n : ℕ). In (kind_at n).words v) e i in
          inl (single TYPE l (subst (λ (x : Word). Contains x l) k c))
      | inr e ↦
          let k : v ≡ PKG ∷ [] = subst (λ (n : ℕ). In (kind_at n).words v) e i in
          inr (single PKG l (subst (λ (x : Word). Contains x l) k c))
    ]

    no_row : (l : ℕ) → (l ≡ TYPE) ⊎ (l ≡ PKG) → (u : ℕ) (s : Scope) → HoldsRow (begun w) u s l → ⊥
    no_row l own u s c = elim (row_cases w h u s l c) [
      | inl f ↦ apart l own f.label
      | inr t ↦ let e = t.label in elim own [ inl k ↦ omega (arith, e, k) | inr k ↦ omega (arith, e, k) ]
    ]
      where
        apart : (l : ℕ) → (l ≡ TYPE) ⊎ (l ≡ PKG) → (l ≡ SIMP) ⊎ (l ≡ ODI) → ⊥
        apart l (inl k) (inl e) = omega (arith, e, k)
        apart l (inl k) (inr e) = omega (arith, e, k)
        apart l (inr k) (inl e) = omega (arith, e, k)
        apart l (inr k) (inr e) = omega (arith, e, k)

    is_signature : (u : ℕ) (s : Scope) → HoldsDatum (begun w) u s → Contains (signatures_of w.layout) s
    is_signature u s c =
        let d = datum_held w h u s c in
        subst (λ (x : Scope). Contains (signatures_of w.layout) x) (sym d.scope) (in_image (signature_of_member w.layout) (length w.layout.members) d.number d.member)

    no_target : (l : ℕ) → (l ≡ TYPE) ⊎ (l ≡ PKG) → (s t : Scope) → HasEdge (begun w).graph s l t → (u : ℕ) → HoldsDatum (begun w) u t → ⊥
    no_target l own s t e u c =
        let x : Edge = record { from = s; label = l; to = t } in
        let k : l ≡ SIG = signature_edges_labelled w.layout h.linked x ((edge_in (skeleton_of w.layout) (skeleton_sound w h) x).0 e) (is_signature u t c) in
        elim own [ inl i ↦ omega (arith, i, k) | inr i ↦ omega (arith, i, k) ]

    touches_nothing : TouchesNothingOpen (state_of (begun w)) (java_asked q)
    touches_nothing = record {
      rows = λ v i l c s o. let u = open_from (begun w) s l o in no_row l (own_label v i l c) u.0 s u.1;
      targets = λ v i l c s t e o. let u = unset_from (begun w) t o in no_target l (own_label v i l c) s t e u.0 u.1;
      start = λ o. let u = unset_from (begun w) q.start o in starts_at_none w.layout q.start name.start (is_signature u.0 q.start u.1);
    }

    settled_first : HasScope (begun w).graph q.start × IsSettled (state_of (begun w)) (asked_by (folder_setting w) q)
    settled_first = (
      (scope_in (skeleton_of w.layout) (skeleton_sound w h) q.start).1 (start_is_listed w.layout q.start name.start),
      subst (λ (x : Asked JavaDatum). IsSettled (state_of (begun w)) x) (asked_alike w.kinds h.kinds q) (untouched_are_settled JavaDatum (state_of (begun w)) (java_asked q) touches_nothing),
    )

  -- rules of names ask no signature
  module _ (g : GraphOf JavaDatum) where
    abbrev AsksNone : Query JavaPred → Type 0
    AsksNone q = AsksNoSignature (headers_of (ruled w) g) (asked_by (folder_setting w) q)

    asks_none : (q : Query JavaPred) → IsName q → AsksNone q
    asks_none q name =
        subst (λ (x : Asked JavaDatum). AsksNoSignature (headers_of (ruled w) g) x) (asked_alike w.kinds h.kinds q)
        ((λ v i c. true≢false (sym (words_have (kind_at q.kind).words SIG v i c) ∙ plain_words q.kind name.kind name.plain)), starts_at_none w.layout q.start name.start)

    module _ (t : ℕ) (within : t < length w.layout.types) where
      numbered : IsNumberedDecl (length w.names) (decl_at w.files t)
      numbered = decl_numbered (length w.names) w.files h.numbered t (omega (arith, within, types_of_decls w.files, ap (λ l. length l.types) h.layout))

      row_stays : StaysIn w.layout (length w.names) (AreTypes w.layout) (type_row w t)
      row_stays =
          header_row_stays w.layout (length w.names) w.names (type_scope w.layout t) (named_in w h) (row_is_type w.layout t within) (extends_of (decl_at w.files t)) (implements_of (decl_at w.files t))
          (extends_numbered (length w.names) (decl_at w.files t) numbered) (implements_numbered (length w.names) (decl_at w.files t) numbered)

      row_asks_none : AllAsked AsksNone (type_stage w t).rule
      row_asks_none =
          and_then-asked AsksNone (type_row w t) (λ ts. done (row_writes (type_scope w.layout t) EXT ts)) (AllAsked-more IsName AsksNone (type_row w t) asks_none row_stays.asks) (λ ts. tt)

      signature_stays : (m : ℕ) → m < length w.layout.members → StaysIn w.layout (length w.names) (λ (s : Signature). IsSignatureIn w.layout s.datum) (member_signature w t m)
      signature_stays m below =
          signatures_stay_in w.layout (length w.names) w.names (type_scope w.layout t) (class_of w t) (own_at w.files m) (named_in w h) (row_is_type w.layout t within)
          (owns_numbered (length w.names) w.files h.numbered m (omega (arith, below, members_are_owns w.files, ap (λ l. length l.members) h.layout)))

      signature_asks_none : (m : ℕ) → m < length w.layout.members → AllAsked AsksNone (signature_stage w t m).rule
      signature_asks_none m below =
          and_then-asked AsksNone (signature_datum w t m) (λ d. done (Sets (signature_of_member w.layout m) d ∷ []))
          (and_then-asked AsksNone (member_signature w t m) (λ s. done s.datum) (AllAsked-more IsName AsksNone (member_signature w t m) asks_none (signature_stays m below).asks) (λ s. tt)) (λ d. tt)

      member_below : (m : ℕ) → Contains (members_of_type w.layout t) m → m < length w.layout.members
      member_below m c = from_below (length w.layout.members) m (Contains-filter (λ (m : ℕ). (member_at w.layout m).owner == t) (below (length w.layout.members)) m c).0

      -- no stage of a type asks for a signature
      pub stages_ask_none : (s : Stage JavaDatum JavaPred) → Contains (type_stages w t) s → AllAsked AsksNone s.rule
      stages_ask_none s c = elim (Contains-cons (type_stage w t) s (map (signature_stage w t) (members_of_type w.layout t)) c) [
        | inl e ↦ subst (λ (x : Stage JavaDatum JavaPred). AllAsked AsksNone x.rule) (sym e) row_asks_none
        | inr i ↦
            let x = Contains-map (signature_stage w t) (members_of_type w.layout t) s i in
            subst (λ (x : Stage JavaDatum JavaPred). AllAsked AsksNone x.rule) (sym x.2) (signature_asks_none x.0 (member_below x.0 x.1))
      ]

  -- the stage of a member sets the datum of its signature
  sets_signature : (t m : ℕ) → SetsDatum (signature_stage w t m) (signature_of_member w.layout m)
  sets_signature t m =
      and_then-ends (λ (d : JavaDatum). Unit {0}) (λ (ws : List (Write JavaDatum)). (d : JavaDatum) × Contains ws (Sets (signature_of_member w.layout m) d)) (signature_datum w t m)
      (λ d. done (Sets (signature_of_member w.layout m) d ∷ [])) (any_ends (signature_datum w t m)) (λ d u. (d, Contains-head (Sets (signature_of_member w.layout m) d) []))

  -- the stages of a type set all data that its unit holds
  sets_all : (t : ℕ) (s : Scope) → HoldsDatum (begun w) (length w.layout.files + t) s → (x : Stage JavaDatum JavaPred) × Contains (type_stages w t) x × SetsDatum x s
  sets_all t s c =
      let d = datum_held w h (length w.layout.files + t) s c in
      let u = d.unit in
      let owner : (member_at w.layout d.number).owner ≡ t = omega (arith, u) in
      let member = filter-Contains (λ (m : ℕ). (member_at w.layout m).owner == t) (below (length w.layout.members)) d.number (in_below (length w.layout.members) d.number d.member) (eq-eqb (member_at w.layout d.number).owner t owner) in (
        signature_stage w t d.number,
        Contains-tail (type_stage w t) (signature_stage w t d.number) (map (signature_stage w t) (members_of_type w.layout t)) (map-Contains (signature_stage w t) (members_of_type w.layout t) d.number member),
        subst (λ (x : Scope). SetsDatum (signature_stage w t d.number) x) (sym d.scope) (sets_signature t d.number),
      )

-- ---- a run

abbrev pub FolderEntry : Type 0
FolderEntry = Entry Java (List DiagOf) JavaDatum JavaPred

-- the core of a folder's run with a log
abbrev pub folder_core : FolderOf → List FolderEntry → JavaCore
folder_core w log = record { opening = begun w; kinds = w.kinds; log = log }

module _ (w : FolderOf) (h : IsFolderOf w) (g : GraphOf JavaDatum) (k : IsSkeleton (ruled w) g) (log : List FolderEntry) (run : IsRun (folder_setting w) log) (follows : (u : ℕ) → u < length w.layout.files + length w.layout.types → FollowsBy w (folder_core w log) u) where
  abbrev MayRead : LayoutOf → ℕ → Scope → ℕ → Type 0
  MayRead l n s u =
      IsOrderly (MayReadHeader (λ (q : Query JavaPred). q) (header_row l w.names s (extends_of (decl_at w.files n)) (implements_of (decl_at w.files n))) s EXT) (trace_of u log).past (trace_of u log).last

  -- ---- types

  type_orderly : (t : ℕ) → t < length w.layout.types → MayRead w.layout t (type_scope w.layout t) (length w.layout.files + t)
  type_orderly t b =
      let u = length w.layout.files + t in
      let f = follows u (omega (arith, b)) in
      followers_read_headers Java (List DiagOf) JavaDatum JavaPred (java_plan w u) (type_scope w.layout t) EXT (type_row w t) (map (signature_stage w t) (members_of_type w.layout t)) f.reply f.asked f.pending f.stage f.ended (trace_of u log).past (trace_of u log).last f.follows
      (stages_of_type w t)

  types_orderly : (c : Scope) → Contains (types_of w.layout) c → MayRead w.layout (c.serial - first_type w.layout) c ((roles_of w.layout).reader c)
  types_orderly c i =
      let x = from_image (type_scope w.layout) (length w.layout.types) c i in
      subst (λ (s : Scope). MayRead w.layout (s.serial - first_type w.layout) s ((roles_of w.layout).reader s)) (sym x.2)
      (subst (λ (n : ℕ). MayRead w.layout n (type_scope w.layout x.0) (length w.layout.files + n)) (sym (type_number w.layout x.0)) (type_orderly x.0 x.1))

  -- ---- files

  -- an import stands in a row of its own file alone
  own_import : (u f : ℕ) (e : Edge) → HoldsRow (begun w) u e.from e.label → IsImportEdge w.layout f e → f ≡ u
  own_import u f e c x = elim (row_cases w h u e.from e.label c) [
    | inl r ↦
        let same : (file_scope w.layout f).serial ≡ (file_scope w.layout u).serial = ap (λ (s : Scope). s.serial) (sym x.from ∙ r.scope) in
        omega (arith, same)
    | inr r ↦ let l = r.label in absurd (elim x.label [ inl e ↦ omega (arith, e, l) | inr e ↦ omega (arith, e, l) ])
  ]

  gives_imports : (u : ℕ) → u < length w.layout.files → GivesImports (headers_of (ruled w) g) (folder_setting w) (λ (q : Query JavaPred). q) (file_edges w u) u
  gives_imports u b =
      let i = imports_of w h u in
      record {
        asks =
            AllAsked-more (λ q. IsNameQuery w.layout (length w.names) q × AsksForOwn q) (λ q. HasScope (begun w).graph q.start × IsSettled (state_of (begun w)) (asked_by (folder_setting w) q)) (file_edges w u)
            (λ q c. settled_first w h q c.0 c.1) (imports_ask w h u b);
        edges = i.0;
        queries = i.1;
        gives =
            Gives-more (InGraph (begun w).graph) (λ q a. IsAnswer (begun w).graph (asked_by (folder_setting w) q) a) (file_edges w u) i.0 i.1
            (λ q a c r. subst (λ (x : Asked JavaDatum). IsAnswer (begun w).graph x a) (asked_alike w.kinds h.kinds q) r) i.2;
        sound = λ e c. (k.edges e).1 (inr (u, b, (i.0, i.1, i.2, c)));
        whole = λ s l t holds e. whole_row u b s l t holds ((k.edges (record { from = s; label = l; to = t })).0 e);
      }
    where
      whole_row : (u : ℕ) → u < length w.layout.files → (s : Scope) (l : ℕ) (t : Scope) → HoldsRow (begun w) u s l
          → Contains (begun w).graph.edges (record { from = s; label = l; to = t }) ⊎ ((f : ℕ) × (f < length w.layout.files) × GivesImport (ruled w) f (record { from = s; label = l; to = t }))
          → HasEdge (begun w).graph s l t ⊎ Contains (imports_of w h u).0 (record { from = s; label = l; to = t })
      whole_row u b s l t holds (inl old) = inl old
      whole_row u b s l t holds (inr new) =
          let e : Edge = record { from = s; label = l; to = t } in
          let there : GivesImport (ruled w) new.0 e = new.2 in
          let same : new.0 ≡ u = own_import u new.0 e holds (given_imports w h new.0 new.1 (InGraph (begun w).graph) there.0 there.1 there.2 e there.3) in
          let here : GivesImport (ruled w) u e = subst (λ (f : ℕ). GivesImport (ruled w) f e) same there in
          let i = imports_of w h u in
          inr (subst (λ (es : List Edge). Contains es e) (one_imports w h u here.0 i.0 here.1 i.1 here.2 i.2) here.3)

  file_holds_rows : (u : ℕ) → u < length w.layout.files → (s : Scope) (l : ℕ) → HoldsRow (begun w) u s l → Contains (file_rows w.layout u) (s, l)
  file_holds_rows u b s l c = elim (row_cases w h u s l c) [
    | inl r ↦ elim r.label [
      | inl e ↦ subst (λ (p : Scope × ℕ). Contains (file_rows w.layout u) p) (row_is SIMP r.scope e) (Contains-head (file_scope w.layout u, SIMP) ((file_scope w.layout u, ODI) ∷ []))
      | inr e ↦
          subst (λ (p : Scope × ℕ). Contains (file_rows w.layout u) p) (row_is ODI r.scope e)
          (Contains-tail (file_scope w.layout u, SIMP) (file_scope w.layout u, ODI) ((file_scope w.layout u, ODI) ∷ []) (Contains-head (file_scope w.layout u, ODI) []))
    ]
    | inr r ↦ let unit = r.unit in absurd (omega (arith, b, unit))
  ]
    where
      row_is : (n : ℕ) → s ≡ file_scope w.layout u → l ≡ n → ◌≡◌ {A = Scope × ℕ} (file_scope w.layout u, n) (s, l)
      row_is n a b = λ i. (sym a i, sym b i)

  -- the unit of a file reads the rule of its imports
  file_reads : (u : ℕ) → u < length w.layout.files → IsOrderly (MayReadImports (folder_setting w) u (λ (q : Query JavaPred). q) (file_edges w u)) (trace_of u log).past (trace_of u log).last
  file_reads u b =
      let f = follows u (omega (arith, b)) in
      followers_read_imports Java (List DiagOf) JavaDatum JavaPred (folder_setting w) (java_plan w u) (file_rows w.layout u) (file_edges w u) [] f.reply f.asked f.pending f.stage f.ended (trace_of u log).past (trace_of u log).last f.follows (stages_of_file w u b)
      (file_holds_rows u b) (λ t s l c d. nothing_in t c)

  imports_orderly : (u : ℕ) → IsTrue (nat_lt u (length w.layout.files)) → IsOrderly (MayGiveImports (headers_of (ruled w) g) (folder_setting w) u) (trace_of u log).past (trace_of u log).last
  imports_orderly u i =
      let b : u < length w.layout.files = ltb-true u (length w.layout.files) i in
      import_rules_give_imports Java (List DiagOf) (Query JavaPred) JavaDatum JavaPred (headers_of (ruled w) g) (folder_setting w) (λ (q : Query JavaPred). q) (file_edges w u) u log (begun_opens w h) run (gives_imports u b)
      (file_reads u b)

  pub folder_orderly : AreOrderly (headers_of (ruled w) g) (folder_setting w) (roles_of w.layout) log
  folder_orderly = record { types = types_orderly; imports = imports_orderly }

  -- a file asks what packages declare until it has closed its rows
  pub folder_asks_for_own : (u : ℕ) → u < length w.layout.files → IsOrderly (MayAskForOwn (folder_core w log) u) (trace_of u log).past (trace_of u log).last
  folder_asks_for_own u b past op gave = for_own op (file_reads u b past op gave)
    where
      for_own : (op : Op Java (List DiagOf) JavaDatum JavaPred) → MayReadImports (folder_setting w) u (λ (q : Query JavaPred). q) (file_edges w u) past op → MayAskForOwn (folder_core w log) u past op
      for_own (Fresh labels datum) m = tt
      for_own (AddEdge from label to) m = tt
      for_own (SetDatum s d) m = tt
      for_own (CloseRow s l) m = tt
      for_own (Ask q) m = λ s l holds. elim (m s l holds) [
        | inl closed ↦ inl closed
        | inr x ↦ inr (subst AsksForOwn x.1 (all_asks (λ q. IsNameQuery w.layout (length w.names) q × AsksForOwn q) (λ q a. (AnswersTold (λ (q : Query JavaPred). q) past q a)) (file_edges w u) x.0 (imports_ask w h u b) (x.2).0).1)
      ]
      for_own Advance m = tt
      for_own Take m = tt
      for_own (End x) m = tt

  -- ---- signatures

  abbrev AsksLast : ℕ → Type 0
  AsksLast u = IsOrderly (MayAskSignatures (headers_of (ruled w) g) (folder_setting w) u) (trace_of u log).past (trace_of u log).last

  file_asks_last : (u : ℕ) → u < length w.layout.files → AsksLast u
  file_asks_last u b =
      let f = follows u (omega (arith, b)) in
      followers_ask_signatures_last Java (List DiagOf) (Query JavaPred) JavaDatum JavaPred (headers_of (ruled w) g) (folder_setting w) (java_plan w u) [] (unit_stages w u) f.reply f.asked f.pending f.stage f.ended (trace_of u log).past (trace_of u log).last f.follows refl
      (λ t c. absurd (nothing_in t c)) (λ s c. let unit = (datum_held w h u s c).unit in absurd (omega (arith, b, unit)))

  type_asks_last : (t : ℕ) → t < length w.layout.types → AsksLast (length w.layout.files + t)
  type_asks_last t b =
      let u = length w.layout.files + t in
      let f = follows u (omega (arith, b)) in
      followers_ask_signatures_last Java (List DiagOf) (Query JavaPred) JavaDatum JavaPred (headers_of (ruled w) g) (folder_setting w) (java_plan w u) (type_stages w t) [] f.reply f.asked f.pending f.stage f.ended (trace_of u log).past (trace_of u log).last f.follows
      (stages_of_type w t ∙ sym (append-nil (type_stages w t))) (stages_ask_none w h g t b) (sets_all w h t)

  pub folder_asks_last : (u : ℕ) → u < units_of (folder_setting w) → AsksLast u
  folder_asks_last u few = elim (leb_tells (length w.layout.files) u) [
    | inl past ↦
        let far = past.1 in
        let t = u - length w.layout.files in
        let is : length w.layout.files + t ≡ u = omega (arith, far) in
        subst AsksLast is (type_asks_last t (omega (arith, far, few, length-replicate {A = ℕ} (length w.layout.files + length w.layout.types) 0)))
    | inr below ↦ file_asks_last u below.1
  ]
