-- What units do is sound: they write rows that they hold at the opening, to scopes of the layout, and ask queries of its names alone.
use Rattle.std.proofs.Common.{◌≡◌, ℕ, zero, suc, ◌+◌, ◌-◌, ◌==◌, ◌<◌, ◌≤◌, nat_lt, Bool, true, false, true≢false, lt-ltb, cond, List, [], ◌∷◌, ◌++◌, length, map, inl, inr, refl, sym, ap, ◌∙◌, subst, arith, zero-add}
use Rattle.std.specs.List.{Contains, range_with_len}
use Rattle.std.proofs.lemmas.Bool.{eqb-true, ltb-true}
use Rattle.std.proofs.lemmas.List.{length-map, length-replicate}
use Rattle.std.proofs.lemmas.List.Elements.{All-contains, Contains-append_left, Contains-append_right, Contains-append_cases}
use Rattle.std.proofs.lemmas.List.FromFn.{length-range_with_len, get_or-range_with_len}
use Rattle.sg_base.specs.declared.scope.Scope.{Scope}
use Rattle.sg_base.specs.Graph.{Edge, HasScope}
use Rattle.sg_base.specs.List.{IsDistinct}
use Rattle.sg_base.proofs.Finite.{nothing_in, single, Contains-head, Contains-tail, Contains-cons, Contains-filter, Contains-map, map-Contains, Distinct-filter, flat_map-Contains}
use Rattle.sg_query.specs.declared.query.Query.{Query}
use Rattle.sg_reading.specs.Reading.{done, AllAsked, and_then}
use Rattle.sg_reading.proofs.Asking.{AllAsked-more, AllEnds-more, and_then-asked, and_then-asked_where}
use Rattle.sg_script.specs.Script.{Stage, IsQuery, IsStage, IsSound, AreApart}
use Rattle.sg_script.proofs.Stages.{data_are_stages, rows_are_stages, edges_are_stages}
use Rattle.sg_state.specs.declared.need.Need.TheVariants.{Row, Datum}
use Rattle.sg_state.specs.Held.{DatumHold, HoldsDatum, HoldsRow, RowHold}
use Rattle.sg_state.specs.Opening.{IsSoundOpening, opened_of}
use Rattle.sg_state.proofs.SoundOpenings.{datum_hold_in, scope_in, row_hold_in}
use Rattle.jv_diag.specs.Plain.{DiagOf}
use Rattle.jv_instance.specs.declared.datum.JavaDatum.{JavaDatum}
use Rattle.jv_instance.specs.declared.labels.TheConstants.{SIMP, ODI, EXT}
use Rattle.jv_instance.specs.declared.pred.JavaPred.{JavaPred}
use Rattle.jv_instance.specs.declared.pred.JavaPred.TheVariants.{Named, Any}
use Rattle.jv_layout.specs.Folder.{LayoutOf}
use Rattle.jv_layout.specs.declared.place.Place.TheVariants.{Ty}
use Rattle.jv_layout.specs.Readers.{file_of, member_at, members_at, members_of, members_of_type}
use Rattle.jv_layout.specs.Scopes.{file_scope, member_scope, place_of, signature_of_member, type_scope}
use Rattle.jv_layout.specs.Skeleton.{below, skeleton_of, file_hold, file_holds, signature_hold, signature_holds, type_hold, type_holds}
use Rattle.jv_layout.proofs.SoundLists.{from_below, in_image}
use Rattle.jv_layout.proofs.SoundPlaces.{scopes_have_places}
use Rattle.jv_layout.proofs.SoundSkeletons.{skeletons_are_sound}
use Rattle.jv_member.specs.Own.{OwnMember, own_field, own_method, own_ctor, default_ctor}
use Rattle.jv_expr.proofs.AskedBodies.{fields_ask_in, methods_ask_in, constructors_ask_in}
use Rattle.jv_names.proofs.Listed.{members_listed, type_is_listed}
use Rattle.jv_tree.specs.declared.names.NameId.{NameId}
use Rattle.jv_names.specs.declared.context.Context.TheVariants.{OnDemandImport}
use Rattle.jv_names.specs.Bounds.{IsNamePred, IsNameQuery, IsLayoutQuery, IsListed, IsTypeScope, AreTypes, IsMeant, StaysIn}
use Rattle.jv_names.specs.Replies.{Rule}
use Rattle.jv_names.proofs.Bounds.{type_starts, package_starts, row_is_type, then_stays, done_stays}
use Rattle.jv_header.specs.declared.header.Header.{Header}
use Rattle.jv_header.specs.Bounds.{AreImportsIn}
use Rattle.jv_header.specs.Depends.{depends_rule}
use Rattle.jv_header.specs.Header.{header_rule}
use Rattle.jv_header.specs.Imports.{ImportsOf, imports_rule, import_edges}
use Rattle.jv_header.specs.StaticImports.{statics_rule}
use Rattle.jv_header.proofs.Bounds.{header_rule_stays, header_row_stays, depends_rule_stays, imports_rule_stays, statics_rule_stays}
use Rattle.jv_header.proofs.Programs.{start_is_listed}
use Rattle.jv_member.specs.declared.signature.Signature.{Signature}
use Rattle.jv_member.specs.Bounds.{IsNumberedOwn, IsSignatureIn}
use Rattle.jv_member.proofs.Bounds.{signatures_stay_in}
use Rattle.jv_member.proofs.MembersAsked.{ctor_rule_asks, inherited_asks, overrides_ask}
use Rattle.jv_tree.specs.DeclTree.{TypeDeclTree}
use Rattle.jv_tree.specs.Numbered.{IsNumberedDecl}
use Rattle.jv_unit.specs.Checks.{Check, declaration, methods, overriding, meeting, calling, body, checks_of}
use Rattle.jv_unit.specs.Folder.{FolderOf, IsFolderOf, java_preds}
use Rattle.jv_unit.specs.Owns.{own_at}
use Rattle.jv_unit.specs.Plans.{all_checks, calling_rule, check_rule, class_of, declaration_part, head_ending, meeting_rule, member_signature, methods_rule, overriding_rule, signature_datum, signature_stage, type_part, with_checks, java_plan, file_rows, file_edges, file_stage, file_stages, file_ending, type_row, type_stage, type_stages, type_ending, behind_header, beyond_prelude, own_file_ending, own_type_ending}
use Rattle.jv_unit.specs.MemberBodies.{member_body, member_flow, own_body, type_blanks}
use Rattle.jv_unit.specs.Trees.{decl_at, unit_at, name_of, extends_of, implements_of}
use Rattle.jv_unit.proofs.CheckPlaces.{IsCheckOf, checks_are}
use Rattle.jv_unit.proofs.Numbers.{decl_numbered, members_are_owns, named_in, owns_numbered, imports_numbered, extends_numbered, implements_numbered}
use Rattle.jv_unit.proofs.Trees.{types_of_decls}

-- a predicate for a name of so many is one that a unit may ask
pred_in : (names : List (List ℕ)) (p : JavaPred) → IsNamePred (length names) p → Contains (java_preds names) p
pred_in names Any h = Contains-head Any (map (λ n. Named (record { 0 = n })) (below (length names)))
pred_in names (Named n) h = Contains-tail Any (Named n) (map (λ n. Named (record { 0 = n })) (below (length names))) (in_image (λ (k : ℕ). Named (record { 0 = k })) (length names) n.0 h)

in_below : (n k : ℕ) → k < n → Contains (below n) k
in_below n k h = (k, omega (arith, h, length-range_with_len 0 n), get_or-range_with_len 0 n k k h ∙ zero-add k)

-- the two rows of a file are different
rows_distinct : (s : Scope) → IsDistinct {X = Scope × ℕ} ((s, SIMP) ∷ (s, ODI) ∷ [])
rows_distinct s = (
  (λ c.
      let e : (s, SIMP) ≡ (s, ODI) = single (s, ODI) (s, SIMP) c in
      let k : SIMP ≡ ODI = ap (λ (r : Scope × ℕ). r.1) e in
      omega (arith, k)),
  ((λ c. nothing_in (s, ODI) c), tt),
)

-- ---- the members of a type

range_distinct : (a n : ℕ) → IsDistinct (range_with_len a n)
range_distinct a zero = tt
range_distinct a (suc n) = (
  (λ c.
      let l : c.0 < n = omega (arith, c.1, length-range_with_len (a + 1) n) in
      let e : (a + 1) + c.0 ≡ a = sym (get_or-range_with_len (a + 1) n c.0 a l) ∙ c.2 in
      absurd (omega (arith, e))),
  range_distinct (a + 1) n,
)

module _ (l : LayoutOf) (t : ℕ) where
  filtered : (m : ℕ) → Contains (members_of_type l t) m → Contains (below (length l.members)) m × (((member_at l m).owner == t) ≡ true)
  filtered m c = Contains-filter (λ (m : ℕ). (member_at l m).owner == t) (below (length l.members)) m c

  member_below : (m : ℕ) → Contains (members_of_type l t) m → m < length l.members
  member_below m c = from_below (length l.members) m (filtered m c).0

  member_owned : (m : ℕ) → Contains (members_of_type l t) m → (member_at l m).owner ≡ t
  member_owned m c = eqb-true (member_at l m).owner t (filtered m c).1

  members_distinct : IsDistinct (members_of_type l t)
  members_distinct = Distinct-filter (λ (m : ℕ). (member_at l m).owner == t) (below (length l.members)) (range_distinct 0 (length l.members))

-- a scope is the signature of one member
same_signature : (l : LayoutOf) (m n : ℕ) → signature_of_member l m ≡ signature_of_member l n → m ≡ n
same_signature l m n e = let k : (signature_of_member l m).serial ≡ (signature_of_member l n).serial = ap (λ (s : Scope). s.serial) e in omega (arith, k)

module _ (w : FolderOf) (h : IsFolderOf w) where
  opening_sound : IsSoundOpening (skeleton_of w.layout)
  opening_sound = skeletons_are_sound w.layout h.linked h.few

  -- a place where queries start is a scope of the opening
  has_start : (s : Scope) → Contains (skeleton_of w.layout).scopes s → HasScope (opened_of (skeleton_of w.layout)).graph s
  has_start s c = (scope_in (skeleton_of w.layout) opening_sound s).1 c

  has_type : (s : Scope) → IsTypeScope w.layout s → HasScope (opened_of (skeleton_of w.layout)).graph s
  has_type s t = has_start s (start_is_listed w.layout s (type_starts (place_of w.layout s) t))

  has_meant : (s : Scope) → IsMeant w.layout OnDemandImport s → HasScope (opened_of (skeleton_of w.layout)).graph s
  has_meant s m = elim m [ inl t ↦ has_type s t | inr p ↦ has_start s (start_is_listed w.layout s (package_starts (place_of w.layout s) p)) ]

  module _ (u : ℕ) where
    query_in : (q : Query JavaPred) → IsNameQuery w.layout (length w.names) q → IsQuery (java_plan w u) q
    query_in q k = record {
      start = has_start q.start (start_is_listed w.layout q.start k.start);
      kind = subst (λ (n : ℕ). q.kind < n) (sym h.kinds.count) k.kind;
      pred = pred_in w.names q.pred k.pred;
    }

    layout_query_in : (q : Query JavaPred) → IsLayoutQuery w.layout (length w.names) q → IsQuery (java_plan w u) q
    layout_query_in q k = record {
      start = has_start q.start k.start;
      kind = subst (λ (n : ℕ). q.kind < n) (sym h.kinds.count) k.kind;
      pred = pred_in w.names q.pred k.pred;
    }

    asks_in : {U : Type 0} (E : U → Type 0) (r : Rule U) → StaysIn w.layout (length w.names) E r → AllAsked (IsQuery (java_plan w u)) r
    asks_in E r k = AllAsked-more (IsNameQuery w.layout (length w.names)) (IsQuery (java_plan w u)) r query_in k.asks

  -- ---- files

  module _ (f : ℕ) (within : f < length w.layout.files) where
    file_within : f < length w.files
    file_within = omega (arith, within, files_are)
      where
        files_are : length w.files ≡ length w.layout.files
        files_are = sym (length-map w.files _) ∙ sym (ap (λ (l : LayoutOf). length l.files) h.layout)

    imports_stay : StaysIn w.layout (length w.names) (AreImportsIn w.layout) (imports_rule w.layout w.names f (unit_at w.files f))
    imports_stay = imports_rule_stays w.layout (length w.names) f w.names (unit_at w.files f) (imports_numbered (length w.names) w.files h.numbered f file_within)

    holds_row : (label : ℕ) → Contains (file_hold w.layout f) (record { scope = file_scope w.layout f; label = label; unit = f }) → HoldsRow (opened_of (skeleton_of w.layout)) f (file_scope w.layout f) label
    holds_row label c =
        let k : RowHold = record { scope = file_scope w.layout f; label = label; unit = f } in
        (row_hold_in (skeleton_of w.layout) opening_sound k).1
        (Contains-append_left (file_holds w.layout) (type_holds w.layout) k (flat_map-Contains (file_hold w.layout) (below (length w.layout.files)) f k (in_below (length w.layout.files) f within) c))

    edge_held : (i : ImportsOf) → AreImportsIn w.layout i → (e : Edge) → Contains (import_edges w.layout f i) e → Contains (file_rows w.layout f) (e.from, e.label) × HasScope (opened_of (skeleton_of w.layout)).graph e.to
    edge_held i k e c =
        let s = file_scope w.layout f in
        let singles = map (λ (p : NameId × Scope). let e : Edge = record { from = s; label = SIMP; to = p.1 } in e) i.singles in
        let on_demand = map (λ (t : Scope). let e : Edge = record { from = s; label = ODI; to = t } in e) i.on_demand in
        elim (Contains-append_cases singles on_demand e c) [
          | inl m ↦
              let x = Contains-map (λ (p : NameId × Scope). let e : Edge = record { from = s; label = SIMP; to = p.1 } in e) i.singles e m in
              let to = has_type (x.0).1 (All-contains (λ (p : NameId × Scope). IsTypeScope w.layout p.1) i.singles x.0 k.singles x.1) in
              subst (λ (e : Edge). Contains (file_rows w.layout f) (e.from, e.label) × HasScope (opened_of (skeleton_of w.layout)).graph e.to) (sym x.2) (Contains-head (s, SIMP) ((s, ODI) ∷ []), to)
          | inr m ↦
              let x = Contains-map (λ (t : Scope). let e : Edge = record { from = s; label = ODI; to = t } in e) i.on_demand e m in
              let to = has_meant x.0 (All-contains (IsMeant w.layout OnDemandImport) i.on_demand x.0 k.on_demand x.1) in
              subst (λ (e : Edge). Contains (file_rows w.layout f) (e.from, e.label) × HasScope (opened_of (skeleton_of w.layout)).graph e.to) (sym x.2) (Contains-tail (s, SIMP) (s, ODI) ((s, ODI) ∷ []) (Contains-head (s, ODI) []), to)
        ]

    abbrev EdgesIn : List Edge → Type 0
    EdgesIn es = (e : Edge) → Contains es e → Contains (file_rows w.layout f) (e.from, e.label) × HasScope (opened_of (skeleton_of w.layout)).graph e.to

    edges_stay : StaysIn w.layout (length w.names) EdgesIn (file_edges w f)
    edges_stay =
        then_stays w.layout (length w.names) (AreImportsIn w.layout) EdgesIn (imports_rule w.layout w.names f (unit_at w.files f)) (λ i. done (import_edges w.layout f i)) imports_stay
        (λ i k. done_stays w.layout (length w.names) EdgesIn (import_edges w.layout f i) (edge_held i k))

    row_held : (s : Scope) (l : ℕ) → Contains (file_rows w.layout f) (s, l) → HoldsRow (opened_of (skeleton_of w.layout)) f s l
    row_held s l c =
        let at = file_scope w.layout f in
        let first : RowHold = record { scope = at; label = SIMP; unit = f } in
        let second : RowHold = record { scope = at; label = ODI; unit = f } in
        elim (Contains-cons (at, SIMP) (s, l) ((at, ODI) ∷ []) c) [
          | inl e ↦ subst (λ (r : Scope × ℕ). HoldsRow (opened_of (skeleton_of w.layout)) f r.0 r.1) (sym e) (holds_row SIMP (Contains-head first (second ∷ [])))
          | inr m ↦ subst (λ (r : Scope × ℕ). HoldsRow (opened_of (skeleton_of w.layout)) f r.0 r.1) (sym (single (at, ODI) (s, l) m)) (holds_row ODI (Contains-tail first second (second ∷ []) (Contains-head second [])))
        ]

    pub file_is_stage : IsStage (java_plan w f) (file_stage w f)
    file_is_stage =
        edges_are_stages (List DiagOf) JavaDatum JavaPred (java_plan w f) (file_rows w.layout f) (file_edges w f) (rows_distinct (file_scope w.layout f)) row_held (asks_in f EdgesIn (file_edges w f) edges_stay) edges_stay.ends

    -- of diagnostics nothing is claimed
    abbrev AnyDiags : List DiagOf → Type 0
    AnyDiags ds = Unit {0}

    abbrev statics : Rule (List DiagOf)
    statics = statics_rule w.layout w.names f (unit_at w.files f).imports

    statics_stay : StaysIn w.layout (length w.names) AnyDiags statics
    statics_stay = statics_rule_stays w.layout (length w.names) w.names f (named_in w h) (unit_at w.files f).imports (imports_numbered (length w.names) w.files h.numbered f file_within)

    pub file_ending_asks : AllAsked (IsQuery (java_plan w f)) (file_ending w f)
    file_ending_asks =
        asks_in f AnyDiags (file_ending w f)
        (then_stays w.layout (length w.names) (AreImportsIn w.layout) AnyDiags (imports_rule w.layout w.names f (unit_at w.files f)) (λ i. and_then statics (λ ds. done (i.diags ++ ds))) imports_stay
        (λ i k. then_stays w.layout (length w.names) AnyDiags AnyDiags statics (λ ds. done (i.diags ++ ds)) statics_stay (λ ds u. done_stays w.layout (length w.names) AnyDiags (i.diags ++ ds) tt)))

  -- ---- types

  module _ (t : ℕ) (within : t < length w.layout.types) where
    abbrev c : Scope
    c = type_scope w.layout t

    abbrev decl : TypeDeclTree
    decl = decl_at w.files t

    is_type : IsTypeScope w.layout c
    is_type = row_is_type w.layout t within

    numbered : IsNumberedDecl (length w.names) decl
    numbered = decl_numbered (length w.names) w.files h.numbered t (omega (arith, within, types_of_decls w.files, ap (λ (l : LayoutOf). length l.types) h.layout))

    header_stays : StaysIn w.layout (length w.names) (λ (x : Header). AreTypes w.layout x.row) (header_rule w.layout w.names c (extends_of decl) (implements_of decl))
    header_stays =
        header_rule_stays w.layout (length w.names) w.names c (named_in w h) is_type (extends_of decl) (implements_of decl) (extends_numbered (length w.names) decl numbered) (implements_numbered (length w.names) decl numbered)

    row_stays : StaysIn w.layout (length w.names) (AreTypes w.layout) (type_row w t)
    row_stays =
        header_row_stays w.layout (length w.names) w.names c (named_in w h) is_type (extends_of decl) (implements_of decl) (extends_numbered (length w.names) decl numbered) (implements_numbered (length w.names) decl numbered)

    own_numbered : (m : ℕ) → m < length w.layout.members → IsNumberedOwn (length w.names) (own_at w.files m)
    own_numbered m below = owns_numbered (length w.names) w.files h.numbered m (omega (arith, below, members_are_owns w.files, ap (λ (l : LayoutOf). length l.members) h.layout))

    signature_stays : (m : ℕ) → m < length w.layout.members → StaysIn w.layout (length w.names) (λ (s : Signature). IsSignatureIn w.layout s.datum) (member_signature w t m)
    signature_stays m below = signatures_stay_in w.layout (length w.names) w.names c (class_of w t) (own_at w.files m) (named_in w h) is_type (own_numbered m below)

    datum_stays : (m : ℕ) → m < length w.layout.members → StaysIn w.layout (length w.names) (λ (d : JavaDatum). Unit {0}) (signature_datum w t m)
    datum_stays m below =
        then_stays w.layout (length w.names) (λ (s : Signature). IsSignatureIn w.layout s.datum) (λ (d : JavaDatum). Unit {0}) (member_signature w t m) (λ s. done s.datum) (signature_stays m below)
        (λ s k. done_stays w.layout (length w.names) (λ (d : JavaDatum). Unit {0}) s.datum tt)

    -- ---- checks

    members_are : members_of w.layout c ≡ map (member_scope w.layout) (members_of_type w.layout t)
    members_are = ap (members_at w.layout) ((scopes_have_places w.layout c (Ty t)).1 (within, refl))

    member_listed : (m : ℕ) → Contains (members_of_type w.layout t) m → IsListed w.layout (member_scope w.layout m)
    member_listed m k =
        All-contains (IsListed w.layout) (members_of w.layout c) (member_scope w.layout m) (members_listed w.layout c)
        (subst (λ (ss : List Scope). Contains ss (member_scope w.layout m)) (sym members_are) (map-Contains (member_scope w.layout) (members_of_type w.layout t) m k))

    own_asks : (blanks : List Scope) (s : Scope) (o : OwnMember) → IsListed w.layout s → IsNumberedOwn (length w.names) o → AllAsked (IsLayoutQuery w.layout (length w.names)) (own_body w.layout w.names c (extends_of decl) blanks s o)
    own_asks blanks s (own_field ms x v) k n = (fields_ask_in w.layout (length w.names) w.names c (extends_of decl) s v.init (named_in w h) is_type (extends_numbered (length w.names) decl numbered) k n.1.1).asks
    own_asks blanks s (own_method m) k n = (methods_ask_in w.layout (length w.names) w.names c (extends_of decl) s m (named_in w h) is_type (extends_numbered (length w.names) decl numbered) k n).asks
    own_asks blanks s (own_ctor d) k n = (constructors_ask_in w.layout (length w.names) w.names c (extends_of decl) blanks s d (named_in w h) is_type (extends_numbered (length w.names) decl numbered) k n).asks
    own_asks blanks s (default_ctor name) k n = tt

    module _ (u : ℕ) (is : u ≡ length w.layout.files + t) where
      in_plan : (r : Rule (List DiagOf)) → AllAsked (IsLayoutQuery w.layout (length w.names)) r → AllAsked (IsQuery (java_plan w u)) r
      in_plan r k = AllAsked-more (IsLayoutQuery w.layout (length w.names)) (IsQuery (java_plan w u)) r (layout_query_in u) k

      check_asks : (blanks : List Scope) (x : Check) → IsCheckOf (members_of_type w.layout t) x → AllAsked (IsQuery (java_plan w u)) (check_rule w t blanks x)
      unfolding check_rule
      check_asks blanks (declaration m) k =
          and_then-asked (IsQuery (java_plan w u)) (member_signature w t m) (λ s. done (s.diags ++ declaration_part w t m))
          (asks_in u (λ (s : Signature). IsSignatureIn w.layout s.datum) (member_signature w t m) (signature_stays m (member_below w.layout t m k)))
          (λ s. tt)
      check_asks blanks methods k = in_plan (methods_rule w t) (record { start = type_is_listed w.layout c is_type; kind = omega arith; pred = tt }, λ a. tt)
      check_asks blanks (overriding m) k =
          in_plan (overriding_rule w t m)
          (overrides_ask w.layout (length w.names) w.names c (named_in w h) is_type (name_of decl) (member_scope w.layout m) (own_at w.files m) (member_listed m k) (own_numbered m (member_below w.layout t m k)))
      check_asks blanks meeting k = in_plan (meeting_rule w t) (inherited_asks w.layout (length w.names) w.names c (name_of decl) h.linked is_type)
      check_asks blanks (calling m) k =
          in_plan (calling_rule w t m)
          (ctor_rule_asks w.layout (length w.names) w.names c (named_in w h) is_type (extends_of decl) (extends_numbered (length w.names) decl numbered) (own_at w.files m))
      check_asks blanks (body m) k =
          and_then-asked (IsQuery (java_plan w u)) (member_body w t blanks m) (λ ds. done (ds ++ member_flow w t m))
          (in_plan (member_body w t blanks m) (own_asks blanks (member_scope w.layout m) (own_at w.files m) (member_listed m k) (own_numbered m (member_below w.layout t m k))))
          (λ ds. tt)

      checks_ask : (blanks : List Scope) (ds : List DiagOf) (xs : List Check) → ((x : Check) → Contains xs x → IsCheckOf (members_of_type w.layout t) x) → AllAsked (IsQuery (java_plan w u)) (with_checks w t blanks ds xs)
      unfolding with_checks
      checks_ask blanks ds [] k = tt
      checks_ask blanks ds (x ∷ xs) k =
          and_then-asked (IsQuery (java_plan w u)) (check_rule w t blanks x) (λ p. with_checks w t blanks (ds ++ p) xs) (check_asks blanks x (k x (Contains-head x xs)))
          (λ p. checks_ask blanks (ds ++ p) xs (λ y z. k y (Contains-tail x y xs z)))

      type_row_held : HoldsRow (opened_of (skeleton_of w.layout)) u c EXT
      type_row_held =
          let k : RowHold = record { scope = c; label = EXT; unit = u } in
          (row_hold_in (skeleton_of w.layout) opening_sound k).1
          (Contains-append_right (file_holds w.layout) (type_holds w.layout) k (subst (λ (n : ℕ). Contains (type_holds w.layout) (record { scope = c; label = EXT; unit = n })) (sym is) (in_image (type_hold w.layout) (length w.layout.types) t within)))

      pub type_is_stage : IsStage (java_plan w u) (type_stage w t)
      type_is_stage =
          rows_are_stages (List DiagOf) JavaDatum JavaPred (java_plan w u) c EXT (type_row w t) type_row_held (asks_in u (AreTypes w.layout) (type_row w t) row_stays)
          (AllEnds-more (AreTypes w.layout) (λ ts. (s : Scope) → Contains ts s → HasScope (opened_of (skeleton_of w.layout)).graph s) (type_row w t) (λ ts are s k. has_type s (All-contains (IsTypeScope w.layout) ts s are k)) row_stays.ends)

      -- the datum of a member's signature is held
      datum_held : (m : ℕ) → m < length w.layout.members → (member_at w.layout m).owner ≡ t → HoldsDatum (opened_of (skeleton_of w.layout)) u (signature_of_member w.layout m)
      datum_held m below owner =
          let k : DatumHold = record { scope = signature_of_member w.layout m; unit = u } in
          let unit : u ≡ length w.layout.files + (member_at w.layout m).owner = is ∙ ap (λ (n : ℕ). length w.layout.files + n) (sym owner) in
          (datum_hold_in (skeleton_of w.layout) opening_sound k).1
          (subst (λ (n : ℕ). Contains (signature_holds w.layout) (record { scope = signature_of_member w.layout m; unit = n })) (sym unit) (in_image (signature_hold w.layout) (length w.layout.members) m below))

      pub signature_is_stage : (m : ℕ) → Contains (members_of_type w.layout t) m → IsStage (java_plan w u) (signature_stage w t m)
      signature_is_stage m c =
          let below : m < length w.layout.members = member_below w.layout t m c in
          data_are_stages (List DiagOf) JavaDatum JavaPred (java_plan w u) (signature_of_member w.layout m) (signature_datum w t m) (datum_held m below (member_owned w.layout t m c))
          (asks_in u (λ (d : JavaDatum). Unit {0}) (signature_datum w t m) (datum_stays m below))

      behind_asks : (x : Header) → AreTypes w.layout x.row → AllAsked (IsQuery (java_plan w u)) (behind_header w t x)
      behind_asks x are =
          let rule = depends_rule w.layout w.names c (name_of decl) x.row in
          and_then-asked (IsQuery (java_plan w u)) rule (λ ds. done (type_part w t x ds))
          (asks_in u (λ (ds : List DiagOf). Unit {0}) rule (depends_rule_stays w.layout (length w.names) w.names c (name_of decl) x.row are))
          (λ ds. tt)

      head_ending_asks : AllAsked (IsQuery (java_plan w u)) (head_ending w t)
      head_ending_asks =
          let rule = header_rule w.layout w.names c (extends_of decl) (implements_of decl) in
          and_then-asked_where (IsQuery (java_plan w u)) (λ (x : Header). AreTypes w.layout x.row) rule (behind_header w t)
          (asks_in u (λ (x : Header). AreTypes w.layout x.row) rule header_stays) header_stays.ends behind_asks

      pub type_ending_asks : AllAsked (IsQuery (java_plan w u)) (type_ending w t)
      type_ending_asks =
          and_then-asked (IsQuery (java_plan w u)) (head_ending w t) (all_checks w t) head_ending_asks
          (λ ds. checks_ask (type_blanks w t) ds (checks_of (members_of_type w.layout t)) (checks_are (members_of_type w.layout t)))

  -- ---- units

  alone : {D P : Type 0} (s : Stage D P) → AreApart (s ∷ [])
  alone s = ((λ t n c h k. nothing_in t c), tt)

  -- the stages of members set the data of different signatures
  signatures_apart : (t : ℕ) (ms : List ℕ) → IsDistinct ms → AreApart (map (signature_stage w t) ms)
  signatures_apart t [] d = tt
  signatures_apart t (m ∷ ms) d = (
    (λ s n c h k.
        let x = Contains-map (signature_stage w t) ms s c in
        let first : n ≡ Datum (signature_of_member w.layout m) = single (Datum (signature_of_member w.layout m)) n h in
        let second : n ≡ Datum (signature_of_member w.layout x.0) = single (Datum (signature_of_member w.layout x.0)) n (subst (λ (z : Stage JavaDatum JavaPred). Contains z.places n) x.2 k) in
        let both : Datum (signature_of_member w.layout x.0) ≡ Datum (signature_of_member w.layout m) = sym second ∙ first in
        let e : signature_of_member w.layout x.0 ≡ signature_of_member w.layout m = cc in
        d.0 (subst (λ (z : ℕ). Contains ms z) (same_signature w.layout x.0 m e) x.1)),
    signatures_apart t ms d.1,
  )

  type_stages_apart : (t : ℕ) → AreApart (type_stages w t)
  type_stages_apart t = (
    (λ s n c h k.
        let x = Contains-map (signature_stage w t) (members_of_type w.layout t) s c in
        let first : n ≡ Row (type_scope w.layout t) EXT = single (Row (type_scope w.layout t) EXT) n h in
        let second : n ≡ Datum (signature_of_member w.layout x.0) = single (Datum (signature_of_member w.layout x.0)) n (subst (λ (z : Stage JavaDatum JavaPred). Contains z.places n) x.2 k) in
        cc),
    signatures_apart t (members_of_type w.layout t) (members_distinct w.layout t),
  )

  module _ (u : ℕ) (within : u < length w.layout.files + length w.layout.types) where
    not_lt : nat_lt u (length w.layout.files) ≡ false → length w.layout.files ≤ u
    not_lt e = let never : u < length w.layout.files → ⊥ = λ k. true≢false (sym (lt-ltb u (length w.layout.files) k) ∙ e) in omega (arith, never)

    stages_are : (b : Bool) → nat_lt u (length w.layout.files) ≡ b → (s : Stage JavaDatum JavaPred) → Contains (cond b (file_stages w u) (type_stages w (u - length w.layout.files))) s → IsStage (java_plan w u) s
    stages_are true e s c = subst (λ (x : Stage JavaDatum JavaPred). IsStage (java_plan w u) x) (sym (single (file_stage w u) s c)) (file_is_stage u (ltb-true u (length w.layout.files) e))
    stages_are false e s c =
        let t = u - length w.layout.files in
        let not_below = not_lt e in
        elim (Contains-cons (type_stage w t) s (map (signature_stage w t) (members_of_type w.layout t)) c) [
          | inl e ↦ subst (λ (x : Stage JavaDatum JavaPred). IsStage (java_plan w u) x) (sym e) (type_is_stage t (omega (arith, not_below, within)) u (omega (arith, not_below)))
          | inr k ↦
              let x = Contains-map (signature_stage w t) (members_of_type w.layout t) s k in
              subst (λ (x : Stage JavaDatum JavaPred). IsStage (java_plan w u) x) (sym x.2) (signature_is_stage t (omega (arith, not_below, within)) u (omega (arith, not_below)) x.0 x.1)
        ]

    stages_apart : (b : Bool) → AreApart (cond b (file_stages w u) (type_stages w (u - length w.layout.files)))
    stages_apart true = alone (file_stage w u)
    stages_apart false = type_stages_apart (u - length w.layout.files)

    beyond_asks : (file : ℕ) (r : Rule (List DiagOf)) → AllAsked (IsQuery (java_plan w u)) r → AllAsked (IsQuery (java_plan w u)) (beyond_prelude file r)
    beyond_asks file r k = elim (nat_lt file 2) as (λ (b : Bool). AllAsked (IsQuery (java_plan w u)) (cond b (done []) r)) [ true ↦ tt | false ↦ k ]

    ending_asks : (b : Bool) → nat_lt u (length w.layout.files) ≡ b → AllAsked (IsQuery (java_plan w u)) (cond b (own_file_ending w u) (own_type_ending w (u - length w.layout.files)))
    ending_asks true e = beyond_asks u (file_ending w u) (file_ending_asks u (ltb-true u (length w.layout.files) e))
    ending_asks false e =
        let not_below = not_lt e in
        let t = u - length w.layout.files in
        beyond_asks (file_of w.layout (type_scope w.layout t)) (type_ending w t) (type_ending_asks t (omega (arith, not_below, within)) u (omega (arith, not_below)))

    pub units_are_sound : IsSound (java_plan w u)
    units_are_sound = record {
      unit = omega (arith, within, length-replicate {A = ℕ} (length w.layout.files + length w.layout.types) 0);
      each = stages_are (nat_lt u (length w.layout.files)) refl;
      apart = stages_apart (nat_lt u (length w.layout.files));
      asks = ending_asks (nat_lt u (length w.layout.files)) refl;
    }
