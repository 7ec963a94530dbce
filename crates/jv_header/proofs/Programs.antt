-- Headers as rules over the graph of a layout: they ask from its scopes, give scopes of it, and look at no signature.
use Rattle.std.proofs.Common.{◌≡◌, ℕ, zero, suc, ◌+◌, ◌<◌, ◌^◌, ◌==◌, ◌&&◌, ◌||◌, ◌↔◌, Bool, true, false, cond, IsTrue, List, [], ◌∷◌, get_or, length, inl, inr, refl, sym, subst, arith}
use Rattle.std.specs.List.{All, Contains, concat}
use Rattle.std.proofs.lemmas.Bool.{eqb-true, eq-eqb, or_left, or_right}
use Rattle.std.proofs.lemmas.List.Elements.{All-nil, All-cons, All-weaker, All-contains, Contains-append_cases}
use Rattle.sg_base.specs.declared.scope.Scope.{Scope}
use Rattle.sg_base.specs.Graph.{Edge, GraphOf, IsGraph, HasScope, HasEdge}
use Rattle.sg_base.specs.Label.{Word}
use Rattle.sg_base.proofs.Finite.{nothing_in, single}
use Rattle.sg_expr.specs.Tree.{ExprOf, no_word, empty_word, one_label, in_turn, either_of, repeated}
use Rattle.sg_expr.specs.Word.{EachWord, In}
use Rattle.sg_query.specs.declared.query.Query.{Query}
use Rattle.sg_reading.proofs.Asking.{AllAsked-more, AllEnds-more}
use Rattle.sg_state.specs.Opening.{IsSoundOpening, opened_of}
use Rattle.sg_state.proofs.SoundOpenings.{scope_in, edge_in, sound_openings_open}
use Rattle.sg_strata.specs.Program.{IsProgram, IsPlain, IsQuiet}
use Rattle.jv_instance.specs.declared.datum.JavaDatum.{JavaDatum}
use Rattle.jv_instance.specs.declared.labels.TheConstants.{PKG, TYPE, SELF, SIMP, PKGOF, ODI, EXT, FIELD, METH, CTOR, SIG}
use Rattle.jv_instance.specs.declared.pred.JavaPred.{JavaPred}
use Rattle.jv_layout.specs.declared.place.Place.{Place}
use Rattle.jv_layout.specs.declared.place.Place.TheVariants.{Outside, Root, Unnamed, Package, File, Ty, Member, Signature}
use Rattle.jv_layout.specs.Fits.{is_root, is_package, is_file, is_type, is_member, may_step}
use Rattle.jv_layout.specs.Folder.{LayoutOf}
use Rattle.jv_layout.specs.Laws.{IsScopeOf}
use Rattle.jv_layout.specs.Linked.{IsLinked}
use Rattle.jv_layout.specs.Readers.{statics_of, types_of}
use Rattle.jv_layout.specs.Scopes.{scope_at, first_file, first_type, scope_count, place_of, type_scope, signature_of_member}
use Rattle.jv_layout.specs.Skeleton.{skeleton_of}
use Rattle.jv_layout.proofs.SoundEdges.{skeletons_fit}
use Rattle.jv_layout.proofs.SoundLists.{from_image}
use Rattle.jv_layout.proofs.SoundPlaces.{listed, placed, scopes_have_places}
use Rattle.jv_layout.proofs.SoundSkeletons.{skeletons_are_sound}
use Rattle.jv_tree.specs.declared.name.Ident.{Ident}
use Rattle.jv_tree.specs.DeclTree.{ImportTree}
use Rattle.jv_tree.specs.Numbered.{IsNumberedIdent, IsNumberedImport, IsNumberedName, AreNumberedNames}
use Rattle.jv_names.specs.declared.kinds.TheConstants.{SIG as SIGNATURES}
use Rattle.jv_names.specs.Bounds.{is_start, IsNamedIn, IsNameQuery, IsTypeScope, AreTypes, StaysIn}
use Rattle.jv_names.specs.Kinds.{kinds, kind_at, asked_by}
use Rattle.jv_names.proofs.Bounds.{type_starts, row_is_type}
use Rattle.jv_header.specs.Header.{header_row}
use Rattle.jv_header.specs.Law.{signatures_of, program_of, HeadersArePrograms, HeadersAreQuiet}
use Rattle.jv_header.proofs.Bounds.{header_row_stays}

-- ---- labels that an expression names

-- whether an expression names a label
abbrev pub names_label : ExprOf → ℕ → Bool
names_label no_word k = false
names_label empty_word k = false
names_label (one_label l) k = l == k
names_label (in_turn a b) k = names_label a k || names_label b k
names_label (either_of a b) k = names_label a k || names_label b k
names_label (repeated a) k = names_label a k

each_has : (A : Word → Type 0) (P : Type 0) (k : ℕ) → ((w : Word) → A w → Contains w k → P) → (ws : List Word) → EachWord A ws → Contains (concat ws) k → P
each_has A P k f [] h c = absurd (nothing_in k c)
each_has A P k f (w ∷ ws) h c = elim (Contains-append_cases w (concat ws) k c) [ inl here ↦ f w h.0 here | inr behind ↦ each_has A P k f ws h.1 behind ]

-- a word of an expression has labels alone that the expression names
pub words_have : (e : ExprOf) (k : ℕ) (w : Word) → In e w → Contains w k → names_label e k ≡ true
words_have no_word k w i c = absurd i
words_have empty_word k w i c = absurd (nothing_in k (subst (λ (v : Word). Contains v k) i c))
words_have (one_label l) k w i c = eq-eqb l k (sym (single l k (subst (λ (v : Word). Contains v k) i c)))
words_have (in_turn a b) k w i c = elim (Contains-append_cases i.0 i.1 k (subst (λ (v : Word). Contains v k) i.2 c)) [
  | inl first ↦ or_left (names_label a k) (names_label b k) (words_have a k i.0 i.3 first)
  | inr second ↦ or_right (names_label a k) (names_label b k) (words_have b k i.1 i.4 second)
]
words_have (either_of a b) k w (inl i) c = or_left (names_label a k) (names_label b k) (words_have a k w i c)
words_have (either_of a b) k w (inr i) c = or_right (names_label a k) (names_label b k) (words_have b k w i c)
words_have (repeated a) k w i c = each_has (In a) (names_label a k ≡ true) k (λ v h d. words_have a k v h d) i.0 i.2 (subst (λ (v : Word). Contains v k) i.1 c)

-- no kind but that of signatures follows the label of signatures
pub plain_words : (k : ℕ) → k < length kinds → (k ≡ SIGNATURES → ⊥) → names_label (kind_at k).words SIG ≡ false
plain_words zero h plain = refl
plain_words (suc zero) h plain = refl
plain_words (suc (suc zero)) h plain = refl
plain_words (suc (suc (suc zero))) h plain = refl
plain_words (suc (suc (suc (suc zero)))) h plain = refl
plain_words (suc (suc (suc (suc (suc zero))))) h plain = refl
plain_words (suc (suc (suc (suc (suc (suc zero)))))) h plain = refl
plain_words (suc (suc (suc (suc (suc (suc (suc zero))))))) h plain = refl
plain_words (suc (suc (suc (suc (suc (suc (suc (suc zero)))))))) h plain = absurd (plain refl)
plain_words (suc (suc (suc (suc (suc (suc (suc (suc (suc zero))))))))) h plain = refl
plain_words (suc (suc (suc (suc (suc (suc (suc (suc (suc (suc n)))))))))) h plain = absurd (omega (arith, h))

-- ---- scopes

module _ (l : LayoutOf) where
  listed_at : (s : Scope) (n : ℕ) → s ≡ scope_at n → n < scope_count l → Contains (skeleton_of l).scopes s
  listed_at s n e h = subst (λ (t : Scope). Contains (skeleton_of l).scopes t) (sym e) (listed l n h)

  start_at : (p : Place) (s : Scope) → IsTrue (is_start p) → IsScopeOf l p s → Contains (skeleton_of l).scopes s
  start_at Root s h at = listed_at s 0 at (omega arith)
  start_at Unnamed s h at = listed_at s 1 at (omega arith)
  start_at (Package p) s h at = listed_at s (2 + p) at.1 (omega (arith, at.0))
  start_at (File f) s h at = listed_at s (first_file l + f) at.1 (omega (arith, at.0))
  start_at (Ty t) s h at = listed_at s (first_type l + t) at.1 (omega (arith, at.0))
  start_at Outside s h at = let e : false ≡ true = h in absurd (cc)
  start_at (Member m) s h at = let e : false ≡ true = h in absurd (cc)
  start_at (Signature m) s h at = let e : false ≡ true = h in absurd (cc)

  -- where queries of names start is a scope of the opening
  pub start_is_listed : (s : Scope) → IsTrue (is_start (place_of l s)) → Contains (skeleton_of l).scopes s
  start_is_listed s h = start_at (place_of l s) s h (placed l s)

  pub listed_type : (c : Scope) → Contains (types_of l) c → IsTypeScope l c
  listed_type c k = let h = from_image (type_scope l) (length l.types) c k in subst (IsTypeScope l) (sym h.2) (row_is_type l h.0 h.1)

  pub signature_place : (s : Scope) → Contains (signatures_of l) s → (m : ℕ) × (place_of l s ≡ Signature m)
  signature_place s k = let h = from_image (signature_of_member l) (length l.members) s k in (h.0, (scopes_have_places l s (Signature h.0)).1 (h.1, h.2))

  -- no query of names starts at one, and no type is one
  pub starts_at_none : (s : Scope) → IsTrue (is_start (place_of l s)) → Contains (signatures_of l) s → ⊥
  starts_at_none s h k =
      let at = signature_place s k in
      let e : false ≡ true = subst (λ (p : Place). is_start p ≡ true) at.1 h in
      cc

-- ---- edges to signatures

passed : (b x y : Bool) → (x ≡ true → ⊥) → cond b x y ≡ true → y ≡ true
passed true x y never h = absurd (never h)
passed false x y never h = h

-- an edge to a signature has the label of signatures
signature_step : (l : LayoutOf) (from : Place) (k m : ℕ) → may_step l from k (Signature m) ≡ true → k ≡ SIG
signature_step l from k m h =
    let never = λ (b : Bool) (e : (b && false) ≡ true). elim b as (λ (b : Bool). (b && false) ≡ true → ⊥) [ true ↦ λ e. (let x : false ≡ true = e in cc) | false ↦ λ e. (let x : false ≡ true = e in cc) ] e in
    let last = passed ((k == FIELD) || ((k == METH) || (k == CTOR))) (is_type from && false) _ (never (is_type from)) (
    passed (k == EXT) (is_type from && false) _ (never (is_type from)) (
    passed (k == ODI) (is_file from && false) _ (never (is_file from)) (
    passed (k == PKGOF) (is_file from && false) _ (never (is_file from)) (
    passed (k == SIMP) (is_file from && false) _ (never (is_file from)) (
    passed (k == SELF) (is_file from && false) _ (never (is_file from)) (
    passed (k == TYPE) ((is_package from || is_type from) && false) _ (never (is_package from || is_type from)) (
    passed (k == PKG) ((is_root from || is_package from) && false) _ (never (is_root from || is_package from)) h))))))) in
    eqb-true k SIG (elim (k == SIG) as (λ (b : Bool). cond b (is_member from && true) false ≡ true → b ≡ true) [ true ↦ λ e. refl | false ↦ λ e. e ] last)

pub signature_edges_labelled : (l : LayoutOf) → IsLinked l → (e : Edge) → Contains (skeleton_of l).edges e → Contains (signatures_of l) e.to → e.label ≡ SIG
signature_edges_labelled l linked e c k =
    let at = signature_place l e.to k in
    signature_step l (place_of l e.from) e.label at.0 (subst (λ (p : Place). may_step l (place_of l e.from) e.label p ≡ true) at.1 (skeletons_fit l linked e c).kinds)

-- ---- identifiers of one list of names have numbers below some number

abbrev past_name : List Ident → ℕ
past_name [] = 0
past_name (i ∷ is) = i.id.0 + 1 + past_name is

abbrev past_names : List (List Ident) → ℕ
past_names [] = 0
past_names (n ∷ ns) = past_name n + past_names ns

wider_name : (a b : ℕ) → a < b + 1 → (ids : List Ident) → IsNumberedName a ids → IsNumberedName b ids
wider_name a b h ids = All-weaker (IsNumberedIdent a) (IsNumberedIdent b) (λ i k. omega (arith, h, k)) ids

wider_names : (a b : ℕ) → a < b + 1 → (ns : List (List Ident)) → AreNumberedNames a ns → AreNumberedNames b ns
wider_names a b h ns = All-weaker (IsNumberedName a) (IsNumberedName b) (λ ids. wider_name a b h ids) ns

name_numbered : (ids : List Ident) → IsNumberedName (past_name ids) ids
name_numbered [] = All-nil (IsNumberedIdent 0)
name_numbered (i ∷ is) = All-cons (IsNumberedIdent (past_name (i ∷ is))) i is (omega arith) (wider_name (past_name is) (past_name (i ∷ is)) (omega arith) is (name_numbered is))

names_numbered : (ns : List (List Ident)) → AreNumberedNames (past_names ns) ns
names_numbered [] = All-nil (IsNumberedName 0)
names_numbered (n ∷ ns) =
    All-cons (IsNumberedName (past_names (n ∷ ns))) n ns (wider_name (past_name n) (past_names (n ∷ ns)) (omega arith) n (name_numbered n)) (wider_names (past_names ns) (past_names (n ∷ ns)) (omega arith) ns (names_numbered ns))

-- ---- and those of the names of imports

abbrev past_imports : List ImportTree → ℕ
past_imports [] = 0
past_imports (i ∷ is) = past_name i.name + past_imports is

-- of several files
abbrev past_statics : List (List ImportTree) → ℕ
past_statics [] = 0
past_statics (is ∷ iss) = past_imports is + past_statics iss

wider_imports : (a b : ℕ) → a < b + 1 → (is : List ImportTree) → All (IsNumberedImport a) is → All (IsNumberedImport b) is
wider_imports a b h is = All-weaker (IsNumberedImport a) (IsNumberedImport b) (λ i. wider_name a b h i.name) is

imports_numbered : (is : List ImportTree) → All (IsNumberedImport (past_imports is)) is
imports_numbered [] = All-nil (IsNumberedImport 0)
imports_numbered (i ∷ is) =
    All-cons (IsNumberedImport (past_imports (i ∷ is))) i is (wider_name (past_name i.name) (past_imports (i ∷ is)) (omega arith) i.name (name_numbered i.name)) (wider_imports (past_imports is) (past_imports (i ∷ is)) (omega arith) is (imports_numbered is))

statics_below : (iss : List (List ImportTree)) (f : ℕ) → All (IsNumberedImport (past_statics iss)) (get_or iss f [])
statics_below [] f = All-nil (IsNumberedImport 0)
statics_below (is ∷ iss) zero = wider_imports (past_imports is) (past_statics (is ∷ iss)) (omega arith) is (imports_numbered is)
statics_below (is ∷ iss) (suc f) = wider_imports (past_statics iss) (past_statics (is ∷ iss)) (omega arith) (get_or iss f []) (statics_below iss f)

-- ---- the program

module _ (l : LayoutOf) (linked : IsLinked l) (names : List (List ℕ)) (extends implements : Scope → List (List Ident)) where
  row_stays : (c : Scope) → Contains (types_of l) c → (count : ℕ) × StaysIn l count (AreTypes l) (header_row l names c (extends c) (implements c))
  row_stays c k =
      let count = past_names (extends c) + past_names (implements c) + past_statics l.statics in
      let named : IsNamedIn l count = record { linked = linked; statics = λ f. wider_imports (past_statics l.statics) count (omega arith) (statics_of l f) (statics_below l.statics f) } in (
        count,
        header_row_stays l count names c named (listed_type l c k) (extends c) (implements c)
            (wider_names (past_names (extends c)) count (omega arith) (extends c) (names_numbered (extends c))) (wider_names (past_names (implements c)) count (omega arith) (implements c) (names_numbered (implements c))),
      )

  plain_query : (g : GraphOf JavaDatum) (count : ℕ) (q : Query JavaPred) → IsNameQuery l count q → IsPlain (program_of l names extends implements g) q
  plain_query g count q h = record {
    words = λ w i c.
        let has : names_label (kind_at q.kind).words SIG ≡ true = words_have (kind_at q.kind).words SIG w i c in
        let none : names_label (kind_at q.kind).words SIG ≡ false = plain_words q.kind h.kind h.plain in
        cc;
    start = starts_at_none l q.start h.start;
  }

  module _ (g : GraphOf JavaDatum) where
    -- over a graph with the scopes of the layout, headers ask from its scopes and give scopes of it
    pub headers_are_program : IsGraph g → ((s : Scope) → (HasScope g s) ↔ (Contains (skeleton_of l).scopes s)) → IsProgram (program_of l names extends implements g)
    headers_are_program graph scopes = record {
      graph = graph;
      labelled = omega arith;
      placed = λ c k. (scopes c).1 (start_is_listed l c (type_starts (place_of l c) (listed_type l c k)));
      asks = λ c k.
          let h = row_stays c k in
          AllAsked-more (IsNameQuery l h.0) (λ q. HasScope g (asked_by q).start) (header_row l names c (extends c) (implements c)) (λ q is. (scopes q.start).1 (start_is_listed l q.start is.start)) h.1.asks;
      gives = λ c k.
          let h = row_stays c k in
          AllEnds-more (AreTypes l) (λ ts. (t : Scope) → Contains ts t → HasScope g t) (header_row l names c (extends c) (implements c)) (λ ts are t c. (scopes t).1 (start_is_listed l t (type_starts (place_of l t) (All-contains (IsTypeScope l) ts t are c)))) h.1.ends;
    }

    -- where each edge to a signature has the label of signatures, headers look at no signature
    pub headers_are_quiet : ((s : Scope) (k : ℕ) (t : Scope) → HasEdge g s k t → Contains (signatures_of l) t → k ≡ SIG) → IsQuiet (program_of l names extends implements g)
    headers_are_quiet reached = record {
      asks = λ c k.
          let h = row_stays c k in
          AllAsked-more (IsNameQuery l h.0) (IsPlain (program_of l names extends implements g)) (header_row l names c (extends c) (implements c)) (plain_query g h.0) h.1.asks;
      gives = λ c k.
          let h = row_stays c k in
          AllEnds-more (AreTypes l) (λ ts. (t : Scope) → Contains ts t → Contains (signatures_of l) t → ⊥) (header_row l names c (extends c) (implements c)) (λ ts are t c. starts_at_none l t (type_starts (place_of l t) (All-contains (IsTypeScope l) ts t are c))) h.1.ends;
      reached = reached;
    }

  -- over the graph with which a run begins, headers are such a program
  module _ (few : scope_count l < 2 ^ 31) where
    pub opened_is_program : IsProgram (program_of l names extends implements (opened_of (skeleton_of l)).graph)
    opened_is_program =
        let sound : IsSoundOpening (skeleton_of l) = skeletons_are_sound l linked few in
        headers_are_program (opened_of (skeleton_of l)).graph (sound_openings_open JavaDatum (skeleton_of l) sound).held.graph (λ s. scope_in (skeleton_of l) sound s)

    pub opened_is_quiet : IsQuiet (program_of l names extends implements (opened_of (skeleton_of l)).graph)
    opened_is_quiet =
        let sound : IsSoundOpening (skeleton_of l) = skeletons_are_sound l linked few in
        headers_are_quiet (opened_of (skeleton_of l)).graph (λ s k t e c. signature_edges_labelled l linked (record { from = s; label = k; to = t }) ((edge_in (skeleton_of l) sound (record { from = s; label = k; to = t })).0 e) c)

pub are_programs : HeadersArePrograms
are_programs l names extends implements g over = headers_are_program l over.linked names extends implements g over.graph over.scopes

pub are_quiet : HeadersAreQuiet
are_quiet l names extends implements g over reached = headers_are_quiet l over.linked names extends implements g reached
