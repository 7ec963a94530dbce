-- What is said of the types whose headers wait.
use Rattle.std.proofs.Common.{◌≡◌, ℕ, ◌+◌, ◌<◌, ◌≤◌, ◌⊎◌, ◌↔◌, Bool, true, false, IsTrue, List, [], ◌∷◌, ◌++◌, Option, Some, None, Result, Ok, Err, IfOk, OnOk, option_to_list, length, map, take, get_or, inl, inr, sym, ap, ◌∙◌, subst, arith}
use Rattle.std.specs.List.{Contains}
use Rattle.std.proofs.lemmas.Bool.{cases_Bool}
use Rattle.std.proofs.lemmas.List.{take_all, take_more}
use Rattle.std.proofs.lemmas.List.Elements.{Contains-append_cases, Contains-append_left, Contains-append_right, Contains-push, Contains-push_cases}
use Rattle.sg_base.specs.declared.scope.Scope.{Scope}
use Rattle.sg_base.specs.Graph.{GraphOf}
use Rattle.sg_base.specs.State.{IsOpen}
use Rattle.sg_base.proofs.Finite.{Contains-head, Contains-map, map-Contains, nothing_in, single}
use Rattle.sg_core.specs.Core.{run, setting}
use Rattle.sg_headers.specs.Outcome.{is_closed}
use Rattle.sg_headers.proofs.Rows.{holder_of, no_holder}
use Rattle.sg_query.specs.declared.answer.Answer.{Answer}
use Rattle.sg_query.specs.declared.query.Query.{Query}
use Rattle.sg_reading.specs.Reading.{Needs}
use Rattle.sg_reading.specs.Stop.{Replied}
use Rattle.sg_reading.proofs.Readings.{Gives-more, needs_only, replied_once}
use Rattle.sg_state.specs.declared.need.Need.{Need}
use Rattle.sg_state.specs.declared.need.Need.TheVariants.{Row}
use Rattle.sg_state.specs.Held.{HeldOf, RowHold, state_of}
use Rattle.sg_strata.specs.Program.{state_with}
use Rattle.sg_unit.specs.Orderly.{WasTold}
use Rattle.sg_unit.specs.Own.{own}
use Rattle.sg_unit.specs.Trace.{told}
use Rattle.sg_unit.specs.Waiting.{WaitsOn}
use Rattle.jv_diag.specs.Plain.{DiagOf}
use Rattle.jv_instance.specs.declared.datum.JavaDatum.{JavaDatum}
use Rattle.jv_instance.specs.declared.labels.TheConstants.{EXT}
use Rattle.jv_instance.specs.declared.pred.JavaPred.{JavaPred}
use Rattle.jv_instance.specs.Data.{is_wanted}
use Rattle.jv_layout.specs.Folder.{LayoutOf}
use Rattle.jv_layout.specs.Readers.{types_of}
use Rattle.jv_layout.specs.Scopes.{type_scope}
use Rattle.jv_layout.proofs.SoundLists.{from_image, in_image}
use Rattle.jv_names.specs.Replies.{reply_to}
use Rattle.jv_header.specs.Circular.{IsCircular, IsOpenReference}
use Rattle.jv_header.specs.Header.{header_rule}
use Rattle.jv_tree.specs.declared.declaration.TypeDecl.{TypeDecl}
use Rattle.jv_tree.specs.declared.name.Ident.{Ident}
use Rattle.jv_tree.specs.DeclTree.{TypeDeclTree, type_decl_tree}
use Rattle.jv_tree.specs.TypeTree.{ids_of}
use Rattle.jv_unit.specs.Folder.{FolderOf}
use Rattle.jv_unit.specs.Trees.{decl_at, extends_of, implements_of}
use Rattle.sc_app.specs.CircularLines.{AreLinesBelow, IsLineOf}
use Rattle.sc_app.specs.FolderGraph.{headers_of}
use Rattle.sc_app.specs.FolderLaw.{AwaitsRow, IsHeldByHeaders, LeavesGreatest, closed_in, past_of}
use Rattle.sc_app.specs.FolderReport.{CircularLinesAreOne, IsCircularLine, Reports, SaysCircular, circular}
use Rattle.sc_app.specs.FolderRun.{FollowsBy, JavaCore, IsFolderRun, ruled, same_datum}
use Rattle.sc_app.specs.Heard.{Collects}

abbrev Answers : Type 1
Answers = Query JavaPred → Answer JavaDatum → Type 0

-- ---- other answers that are the same

module _ (R S : Answers) (same : (q : Query JavaPred) (a : Answer JavaDatum) → (R q a) ↔ (S q a)) where
  open_alike : (l : LayoutOf) (c : Scope) (names : List (List Ident)) (i : ℕ) → IsOpenReference R l c names i → IsOpenReference S l c names i
  open_alike l c names i k = record {
    within = k.within;
    found = k.found;
    queries = k.queries;
    before = Gives-more R S _ k.found k.queries (λ q a h x. (same q a).0 x) k.before;
    query = k.query;
    needs = needs_only R S _ k.query k.needs (λ q a h. same q a);
  }

  circular_alike : (l : LayoutOf) (texts : List (List ℕ)) (c : Scope) (names : List (List Ident)) (needed : List Scope) (d : DiagOf) → IsCircular R l texts c names needed d → IsCircular S l texts c names needed d
  circular_alike l texts c names needed d k = record { place = k.place; open_reference = open_alike l c names k.place k.open_reference; other = k.other; least = k.least; line = k.line }

-- the replies that a unit was handed are all that it was told
module _ (w : FolderOf) (c : JavaCore) (u : ℕ) (follows : FollowsBy w c u) (rs : List (Query JavaPred × Answer JavaDatum)) (collects : Collects (told (own u c.log)).past rs) where
  replied_told : (q : Query JavaPred) (a : Answer JavaDatum) → (Replied (reply_to rs) q a) ↔ (WasTold (told (own u c.log)).past q a)
  replied_told q a = (
    collects.told q a,
    λ k. let m = collects.replied q a k in
        subst (λ (b : Answer JavaDatum). Replied (reply_to rs) q b) (replied_once follows.reply q m.0 a ((follows.follows.told q m.0).1 (collects.told q m.0 m.1)) ((follows.follows.told q a).1 k)) m.1,
  )

some_in : (ss : List Scope) (s : Scope) → Contains ss s → 0 < length ss
some_in ss s h = omega (arith, h.1)

-- ---- the line of a type

module _ (w : FolderOf) (c : JavaCore) (run_of : IsFolderRun w c) (t : ℕ) (within : t < length w.layout.types) (u : ℕ) (unit : u ≡ length w.layout.files + t) (rs : List (Query JavaPred × Answer JavaDatum)) (collects : Collects (told (own u c.log)).past rs)
    (l : LayoutOf) (layout : l ≡ w.layout) (texts : List (List ℕ)) (names : texts ≡ w.names) (decl : TypeDecl) (tree : type_decl_tree decl ≡ decl_at w.files t) (ty : Scope) (scope : ty ≡ type_scope w.layout t) (g : GraphOf JavaDatum) (row : Scope → List Scope) (held : IsHeldByHeaders w c g row t) where
  handed_told : (q : Query JavaPred) (a : Answer JavaDatum) → (Replied (reply_to rs) q a) ↔ (WasTold (past_of w c t) q a)
  handed_told =
      let is_unit : u < length w.layout.files + length w.layout.types = omega (arith, within, unit) in
      subst (λ (n : ℕ). (q : Query JavaPred) (a : Answer JavaDatum) → (Replied (reply_to rs) q a) ↔ (WasTold (told (own n c.log)).past q a)) unit (replied_told w c u (run_of.follows u is_unit) rs collects)

  told_handed : (q : Query JavaPred) (a : Answer JavaDatum) → (WasTold (past_of w c t) q a) ↔ (Replied (reply_to rs) q a)
  told_handed q a = let k = handed_told q a in (k.1, k.0)

  pub header_waits : (q : Query JavaPred) × Needs (Replied (reply_to rs)) (header_rule l texts ty (map ids_of decl.extends.items) (map ids_of decl.implements.items)) q
  header_waits = (
    held.query,
    needs_only (WasTold (past_of w c t)) (Replied (reply_to rs)) (header_rule l texts ty (map ids_of decl.extends.items) (map ids_of decl.implements.items)) held.query
        (subst (λ (k : LayoutOf). Needs (WasTold (past_of w c t)) (header_rule k texts ty (map ids_of decl.extends.items) (map ids_of decl.implements.items)) held.query) (sym layout)
        (subst (λ (k : List (List ℕ)). Needs (WasTold (past_of w c t)) (header_rule w.layout k ty (map ids_of decl.extends.items) (map ids_of decl.implements.items)) held.query) (sym names)
        (subst (λ (k : Scope). Needs (WasTold (past_of w c t)) (header_rule w.layout w.names k (map ids_of decl.extends.items) (map ids_of decl.implements.items)) held.query) (sym scope)
        (subst (λ (k : TypeDeclTree). Needs (WasTold (past_of w c t)) (header_rule w.layout w.names (type_scope w.layout t) (extends_of k) (implements_of k)) held.query) (sym tree) held.needs))))
        (λ q a h. told_handed q a),
  )

  module _ (ns : List Need) (exact : (n : Need) → (Contains ns n) ↔ (WaitsOn (setting is_wanted same_datum c) (run is_wanted same_datum c) u n)) (needed : List Scope) (rows : (s : Scope) → (Contains needed s) ↔ (Contains ns (Row s EXT))) where
    awaited : (s : Scope) → (Contains needed s) ↔ (AwaitsRow w c t s)
    awaited s =
        let k = subst (λ (n : ℕ). (Contains ns (Row s EXT)) ↔ (WaitsOn (setting is_wanted same_datum c) (run is_wanted same_datum c) n (Row s EXT))) unit (exact (Row s EXT)) in
        ((λ h. k.0 ((rows s).0 h)), (λ h. (rows s).1 (k.1 h)))

    pub some_needed : 0 < length needed
    some_needed = some_in needed held.some.0 ((awaited held.some.0).1 held.some.1)

    pub says_circular : (d : DiagOf) → IsCircular (Replied (reply_to rs)) l texts ty (map ids_of decl.extends.items ++ map ids_of decl.implements.items) needed d → SaysCircular (ruled w) g (state_with (headers_of (ruled w) g) (closed_in c) row) (type_scope w.layout t) d
    says_circular d k =
        held.says needed d awaited
        (circular_alike (Replied (reply_to rs)) (WasTold (past_of w c t)) handed_told w.layout w.names (type_scope w.layout t) (extends_of (decl_at w.files t) ++ implements_of (decl_at w.files t)) needed d
        (subst (λ (x : TypeDeclTree). IsCircular (Replied (reply_to rs)) w.layout w.names (type_scope w.layout t) (extends_of x ++ implements_of x) needed d) tree
        (subst (λ (x : Scope). IsCircular (Replied (reply_to rs)) w.layout w.names x (map ids_of decl.extends.items ++ map ids_of decl.implements.items) needed d) scope
        (subst (λ (x : List (List ℕ)). IsCircular (Replied (reply_to rs)) w.layout x ty (map ids_of decl.extends.items ++ map ids_of decl.implements.items) needed d) names
        (subst (λ (x : LayoutOf). IsCircular (Replied (reply_to rs)) x texts ty (map ids_of decl.extends.items ++ map ids_of decl.implements.items) needed d) layout k)))))

-- ---- the types whose rows are needed

in_option : (o : Option Scope) (s : Scope) → Contains (option_to_list o) s → o ≡ Some s
in_option None s c = absurd (nothing_in s c)
in_option (Some t) s c = let e = single t s c in ap Some (sym e)

option_in : (o : Option Scope) (s : Scope) → o ≡ Some s → Contains (option_to_list o) s
option_in o s e = subst (λ (p : Option Scope). Contains (option_to_list p) s) (sym e) (Contains-head s [])

pub needed_more : (types new : List Scope) (needs : List Need) (i : ℕ) (n : Need) (o : Option Scope) → i < length needs → n ≡ get_or needs i n → ((s : Scope) → (o ≡ Some s) ↔ (n ≡ Row s EXT)) → new ≡ types ++ option_to_list o
    → ((s : Scope) → (Contains types s) ↔ (Contains (take i needs) (Row s EXT))) → (s : Scope) → (Contains new s) ↔ (Contains (take (i + 1) needs) (Row s EXT))
needed_more types new needs i n o within here is longer so_far s =
    let more : take (i + 1) needs ≡ take i needs ++ n ∷ [] = take_more needs i n within ∙ ap (λ (x : Need). take i needs ++ x ∷ []) (sym here) in (
      λ c. subst (λ (ns : List Need). Contains ns (Row s EXT)) (sym more)
          (elim (Contains-append_cases types (option_to_list o) s (subst (λ (ss : List Scope). Contains ss s) longer c)) [
            | inl k ↦ Contains-append_left (take i needs) (n ∷ []) (Row s EXT) ((so_far s).0 k)
            | inr k ↦ subst (λ (x : Need). Contains (take i needs ++ x ∷ []) (Row s EXT)) (sym ((is s).0 (in_option o s k))) (Contains-push (take i needs) (Row s EXT))
          ]),
      λ c. subst (λ (ss : List Scope). Contains ss s) (sym longer)
          (elim (Contains-push_cases (take i needs) n (Row s EXT) (subst (λ (ns : List Need). Contains ns (Row s EXT)) more c)) [
            | inl k ↦ Contains-append_left types (option_to_list o) s ((so_far s).1 k)
            | inr k ↦ Contains-append_right types (option_to_list o) s (option_in o s ((is s).1 k))
          ]),
    )

pub all_needed : (types : List Scope) (needs : List Need) (i : ℕ) → length needs ≤ i → ((s : Scope) → (Contains types s) ↔ (Contains (take i needs) (Row s EXT))) → (s : Scope) → (Contains types s) ↔ (Contains needs (Row s EXT))
all_needed types needs i past so_far = subst (λ (ns : List Need). (s : Scope) → (Contains types s) ↔ (Contains ns (Row s EXT))) (take_all i needs past) so_far

-- ---- whether a row is open

module _ {D : Type 0} (h : HeldOf D) (l : ℕ) (s : Scope) where
  open_where : is_closed h l s ≡ false → IsOpen (state_of h) s l
  open_where e = let k = holder_of h l s e in map-Contains (λ (x : RowHold). (x.scope, x.label)) h.row_holds (record { scope = s; label = l; unit = k.0 }) k.1

  closed_where : IsTrue (is_closed h l s) → IsOpen (state_of h) s l → ⊥
  closed_where e o =
      let k = Contains-map (λ (x : RowHold). (x.scope, x.label)) h.row_holds (s, l) o in
      let x : RowHold = k.0 in
      no_holder h l s e x.unit
      (subst (λ (p : Scope × ℕ). Contains h.row_holds (record { scope = p.0; label = p.1; unit = x.unit })) (sym k.2) k.1)

  is_open : (b : Bool) → (IsTrue b) ↔ (IsOpen (state_of h) s l → ⊥) → b ≡ false → is_closed h l s ≡ false
  is_open b told e =
      elim (cases_Bool (is_closed h l s)) [
        | inl closed ↦ absurd (let k : b ≡ true = told.1 (closed_where closed) in let m : true ≡ false = sym k ∙ e in cc)
        | inr is ↦ is
      ]

  is_not_open : (b : Bool) → (IsTrue b) ↔ (IsOpen (state_of h) s l → ⊥) → b ≡ true → is_closed h l s ≡ false → ⊥
  is_not_open b told e is = told.0 e (open_where is)

pub row_is_open : (c : JavaCore) (s t : Scope) (l : ℕ) (b : Bool) → s ≡ t → l ≡ EXT → (IsTrue b) ↔ (IsOpen (state_of (run is_wanted same_datum c).held) s l → ⊥) → b ≡ false → closed_in c t ≡ false
row_is_open c s t l b e k told is =
    subst (λ (x : Scope). closed_in c x ≡ false) e (subst (λ (n : ℕ). is_closed (run is_wanted same_datum c).held n s ≡ false) k (is_open (run is_wanted same_datum c).held l s b told is))

pub row_is_closed : (c : JavaCore) (s t : Scope) (l : ℕ) (b : Bool) → s ≡ t → l ≡ EXT → (IsTrue b) ↔ (IsOpen (state_of (run is_wanted same_datum c).held) s l → ⊥) → b ≡ true → closed_in c t ≡ false → ⊥
row_is_closed c s t l b e k told closed is =
    is_not_open (run is_wanted same_datum c).held l s b told closed
    (subst (λ (n : ℕ). is_closed (run is_wanted same_datum c).held n s ≡ false) (sym k) (subst (λ (x : Scope). closed_in c x ≡ false) (sym e) is))

-- ---- the lines of all types

pub on_ok : {A E : Type 0} (P Q : Type 0) (r : Result A E) → (P → Q) → OnOk r P → OnOk r Q
on_ok P Q (Ok x) f h = f h
on_ok P Q (Err e) f h = tt

pub if_ok : {A E : Type 0} (P Q : A → Type 0) (r : Result A E) → ((x : A) → P x → Q x) → IfOk r P → IfOk r Q
if_ok P Q (Ok x) f h = f x h
if_ok P Q (Err e) f h = tt

below_or_last : (t n : ℕ) → t < n + 1 → (t < n) ⊎ (t ≡ n)
below_or_last t n h = grind arith

module _ (w : FolderOf) (c : JavaCore) where
  pub no_lines : AreLinesBelow w c 0 []
  no_lines = record { each = λ d h. absurd (nothing_in d h); all = λ t h. absurd (omega (arith, h)) }

  pub same_lines : (n : ℕ) (ds : List DiagOf) → (closed_in c (type_scope w.layout n) ≡ false → ⊥) → AreLinesBelow w c n ds → AreLinesBelow w c (n + 1) ds
  same_lines n ds closed lines = record {
    each = λ d h. let k = lines.each d h in (k.0, omega (arith, k.1), k.2, k.3);
    all = λ t h e. elim (below_or_last t n h) [
      | inl less ↦ lines.all t less e
      | inr last ↦ absurd (closed (subst (λ (m : ℕ). closed_in c (type_scope w.layout m) ≡ false) last e))
    ];
  }

  pub one_line : (n : ℕ) (ds : List DiagOf) (d : DiagOf) (new : List DiagOf) → closed_in c (type_scope w.layout n) ≡ false → IsLineOf w c n d → new ≡ ds ++ d ∷ [] → AreLinesBelow w c n ds → AreLinesBelow w c (n + 1) new
  one_line n ds d new waits line longer lines = subst (AreLinesBelow w c (n + 1)) (sym longer) (record {
    each = λ e h. elim (Contains-push_cases ds d e h) [
      | inl k ↦ let m = lines.each e k in (m.0, omega (arith, m.1), m.2, m.3)
      | inr k ↦ (n, omega arith, waits, subst (IsLineOf w c n) k line)
    ];
    all = λ t h e. elim (below_or_last t n h) [
      | inl less ↦ let m = lines.all t less e in (m.0, Contains-append_left ds (d ∷ []) m.0 m.1, m.2)
      | inr last ↦ (d, Contains-push ds d, subst (λ (m : ℕ). IsLineOf w c m d) (sym last) line)
    ];
  })

-- ---- the report

module _ (w : FolderOf) (c : JavaCore) (g : GraphOf JavaDatum) (row : Scope → List Scope) (left : LeavesGreatest w c g row) (one : CircularLinesAreOne) (ds : List DiagOf) (lines : AreLinesBelow w c (length w.layout.types) ds) where
  line_for : (d : DiagOf) → Contains ds d → IsCircularLine (ruled w) g (closed_in c) row d
  line_for d h =
      let k = lines.each d h in
      (type_scope w.layout k.0, in_image (type_scope w.layout) (length w.layout.types) k.0 k.1, k.2, k.3 g row left)

  for_line : (d : DiagOf) → IsCircularLine (ruled w) g (closed_in c) row d → Contains ds d
  for_line d (s, there, waits, says) =
      let k = from_image (type_scope w.layout) (length w.layout.types) s there in
      let t : ℕ = k.0 in
      let m = lines.all t k.1 (subst (λ (x : Scope). closed_in c x ≡ false) k.2 waits) in
      let own : SaysCircular (ruled w) g (state_with (headers_of (ruled w) g) (closed_in c) row) s m.0 = subst (λ (x : Scope). SaysCircular (ruled w) g (state_with (headers_of (ruled w) g) (closed_in c) row) x m.0) (sym k.2) (m.2 g row left) in
      subst (Contains ds) (one (ruled w) g (state_with (headers_of (ruled w) g) (closed_in c) row) s m.0 d own says) m.1

  pub lines_report : (s : Scope) × Contains (types_of w.layout) s × (closed_in c s ≡ false) → Reports (ruled w) ds
  lines_report (s, there, waits) = circular g (closed_in c) row left.0 (left.1).greatest s there waits (λ d. (line_for d, for_line d))
