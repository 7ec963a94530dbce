-- What the rules of headers and imports ask and give, whatever the answers.
use Rattle.std.proofs.Common.{ℕ, ◌<◌, ◌&&◌, ◌||◌, not, Bool, true, false, cond, List, [], ◌∷◌, ◌++◌, arith}
use Rattle.std.specs.List.{All}
use Rattle.std.proofs.lemmas.List.Elements.{All-nil, All-cons, All-head, All-tail, All-append, All-push}
use Rattle.sg_base.specs.declared.scope.Scope.{Scope}
use Rattle.sg_base.specs.Scope.{is_scope}
use Rattle.sg_reading.specs.Reading.{done, AllAsked, and_then, each}
use Rattle.sg_reading.proofs.Asking.{any_ends}
use Rattle.jv_diag.specs.Plain.{DiagOf}
use Rattle.jv_layout.specs.Folder.{LayoutOf}
use Rattle.jv_layout.specs.Readers.{file_of, is_interface_of, object_scope}
use Rattle.jv_layout.specs.Scopes.{place_of}
use Rattle.jv_tree.specs.declared.name.Ident.{Ident}
use Rattle.jv_tree.specs.declared.names.NameId.{NameId}
use Rattle.jv_tree.specs.DeclTree.{ImportTree, TypeDeclTree, UnitTree}
use Rattle.jv_tree.specs.Numbered.{IsNumberedName, AreNumberedNames, IsNumberedImport}
use Rattle.jv_names.specs.declared.context.Context.TheVariants.{TypeName, SingleImport, OnDemandImport}
use Rattle.jv_names.specs.declared.ends.Ends.{Ends}
use Rattle.jv_names.specs.declared.meaning.Meaning.{Meaning}
use Rattle.jv_names.specs.declared.meaning.Meaning.TheVariants.{One, Nothing, Ambiguous, TooMany}
use Rattle.jv_names.specs.declared.reference.Reference.{Reference}
use Rattle.jv_names.specs.Bodies.{header_bodies}
use Rattle.jv_names.specs.Bounds.{IsNamedIn, IsNameQuery, IsTypeScope, AreTypes, MeansOnly, IsMeant, IsReferenceIn, IsResolvedIn, StaysIn}
use Rattle.jv_names.specs.Names.{import_context, import_rule, takes_packages}
use Rattle.jv_names.specs.Replies.{Rule}
use Rattle.jv_names.specs.Statics.{statics_of_type}
use Rattle.jv_names.specs.Written.{last_name}
use Rattle.jv_names.proofs.Bounds.{type_starts, object_is_type, file_is_one, header_bodies_types, then_stays, done_stays, reference_stays, referred_stays, import_rule_stays, last_numbered, statics_of_type_stays}
use Rattle.jv_header.specs.declared.dependence.Dependence.{Dependence}
use Rattle.jv_header.specs.declared.header.Header.{Header}
use Rattle.jv_header.specs.Bounds.{AreImportsIn, HeadersStayIn, DependenceStaysIn, FileImportsStayIn, FileStaticsStayIn}
use Rattle.jv_header.specs.Depends.{with_supertypes, dependence_from, dependence, dependence_diags, depends_rule}
use Rattle.jv_header.specs.Header.{one_of, found_types, or_object, supertypes, header_by, header_reference, header_rule, header_row}
use Rattle.jv_header.specs.Imports.{ImportsOf, import_reference, by_clashes, with_single, with_meaning, with_import, imports_from, no_imports, imports_rule}
use Rattle.jv_header.specs.StaticImports.{static_check, static_diags, static_meant, statics_from, statics_rule}

-- ---- supertypes

module _ (l : LayoutOf) where
  one_is_type : (m : Meaning) → MeansOnly (IsMeant l TypeName) m → AreTypes l (one_of m)
  one_is_type (One s) h = All-cons (IsTypeScope l) s [] h (All-nil (IsTypeScope l))
  one_is_type Nothing h = All-nil (IsTypeScope l)
  one_is_type Ambiguous h = All-nil (IsTypeScope l)
  one_is_type TooMany h = All-nil (IsTypeScope l)

  pub found_are_types : (rs : List Reference) → All (IsReferenceIn l TypeName) rs → AreTypes l (found_types rs)
  found_are_types [] h = All-nil (IsTypeScope l)
  found_are_types (r ∷ rs) h =
      All-append (IsTypeScope l) (one_of r.meaning) (found_types rs) (one_is_type r.meaning (All-head (IsReferenceIn l TypeName) r rs h).meaning) (found_are_types rs (All-tail (IsReferenceIn l TypeName) r rs h))

  or_object_types : (ts : List Scope) → IsTypeScope l (object_scope l) → AreTypes l ts → AreTypes l (or_object l ts)
  or_object_types [] h k = All-cons (IsTypeScope l) (object_scope l) [] h (All-nil (IsTypeScope l))
  or_object_types (t ∷ ts) h k = k

  pub supertypes_are_types : (c : Scope) (es is : List Reference) → IsTypeScope l c → All (IsReferenceIn l TypeName) es → All (IsReferenceIn l TypeName) is → AreTypes l (supertypes l c es is)
  supertypes_are_types c es is h extends implements =
      elim (is_scope c (object_scope l)) as (λ (b : Bool). AreTypes l (cond b [] (cond (is_interface_of l c) (found_types es) (or_object l (found_types es)) ++ found_types is))) [
        | true ↦ All-nil (IsTypeScope l)
        | false ↦ All-append (IsTypeScope l) (cond (is_interface_of l c) (found_types es) (or_object l (found_types es))) (found_types is)
            (elim (is_interface_of l c) as (λ (b : Bool). AreTypes l (cond b (found_types es) (or_object l (found_types es)))) [
              | true ↦ found_are_types es extends
              | false ↦ or_object_types (found_types es) (object_is_type l c h) (found_are_types es extends)
            ])
            (found_are_types is implements)
      ]

-- ---- headers

module _ (l : LayoutOf) (count : ℕ) where
  each_stays : {X U : Type 0} (P : X → Type 0) (E : U → Type 0) (f : X → Rule U) → ((x : X) → P x → StaysIn l count E (f x)) → (xs : List X) → All P xs → StaysIn l count (All E) (each f xs)
  each_stays P E f h [] all = done_stays l count (All E) [] (All-nil E)
  each_stays P E f h (x ∷ xs) all =
      then_stays l count E (All E) (f x) (λ v. and_then (each f xs) (λ vs. done (v ∷ vs))) (h x (All-head P x xs all))
      (λ v e. then_stays l count (All E) (All E) (each f xs) (λ vs. done (v ∷ vs)) (each_stays P E f h xs (All-tail P x xs all))
      (λ vs es. done_stays l count (All E) (v ∷ vs) (All-cons E v vs e es)))

  module _ (names : List (List ℕ)) (c : Scope) (named : IsNamedIn l count) (type : IsTypeScope l c) where
    pub header_reference_stays : (ids : List Ident) → IsNumberedName count ids → StaysIn l count (IsReferenceIn l TypeName) (header_reference l c ids)
    header_reference_stays ids numbered = reference_stays l count named (file_of l c) (header_bodies l c) ids (file_is_one l named.linked c type) (header_bodies_types l named.linked c type) numbered

    module _ (extends implements : List (List Ident)) (above : AreNumberedNames count extends) (beside : AreNumberedNames count implements) where
      pub header_rule_stays : StaysIn l count (λ (h : Header). AreTypes l h.row) (header_rule l names c extends implements)
      header_rule_stays =
          then_stays l count (All (IsReferenceIn l TypeName)) (λ (h : Header). AreTypes l h.row) (each (header_reference l c) extends) (λ es. and_then (each (header_reference l c) implements) (λ is. done (header_by l names c extends implements es is)))
          (each_stays (IsNumberedName count) (IsReferenceIn l TypeName) (header_reference l c) header_reference_stays extends above)
          (λ es are. then_stays l count (All (IsReferenceIn l TypeName)) (λ (h : Header). AreTypes l h.row) (each (header_reference l c) implements) (λ is. done (header_by l names c extends implements es is))
          (each_stays (IsNumberedName count) (IsReferenceIn l TypeName) (header_reference l c) header_reference_stays implements beside)
          (λ is too. done_stays l count (λ (h : Header). AreTypes l h.row) (header_by l names c extends implements es is) (supertypes_are_types l c es is type are too)))

      pub header_row_stays : StaysIn l count (AreTypes l) (header_row l names c extends implements)
      header_row_stays = then_stays l count (λ (h : Header). AreTypes l h.row) (AreTypes l) (header_rule l names c extends implements) (λ h. done h.row) header_rule_stays (λ h are. done_stays l count (AreTypes l) h.row are)

  -- ---- dependence

  dependence_asks : (c : Scope) (d : Dependence) (row : List Scope) → AreTypes l row → AllAsked (IsNameQuery l count) (dependence_from l c d row)
  unfolding dependence_from
  dependence_asks c d [] h = tt
  dependence_asks c d (t ∷ ts) h = (
    record { start = type_starts (place_of l t) (All-head (IsTypeScope l) t ts h); kind = omega arith; plain = λ e. omega (arith, e); pred = tt },
    (λ a. dependence_asks c (with_supertypes l c d a) ts (All-tail (IsTypeScope l) t ts h)),
  )

  dependence_stays : (c : Scope) (d : Dependence) (row : List Scope) → AreTypes l row → StaysIn l count (λ (d : Dependence). Unit {0}) (dependence_from l c d row)
  dependence_stays c d row h = record { asks = dependence_asks c d row h; ends = any_ends (dependence_from l c d row) }

  pub depends_rule_stays : (names : List (List ℕ)) (c : Scope) (name : Ident) (row : List Scope) → AreTypes l row → StaysIn l count (λ (ds : List DiagOf). Unit {0}) (depends_rule l names c name row)
  depends_rule_stays names c name row h =
      then_stays l count (λ (d : Dependence). Unit {0}) (λ (ds : List DiagOf). Unit {0}) (dependence l c row) (λ d. done (dependence_diags l names c name d)) (dependence_stays c _ row h) (λ d u. done_stays l count (λ (ds : List DiagOf). Unit {0}) (dependence_diags l names c name d) tt)

-- ---- imports

module _ (l : LayoutOf) where
  -- each reference is that of an import
  abbrev AreReferencesOf : List ImportTree → List Reference → Type 0
  AreReferencesOf [] rs = Unit {0}
  AreReferencesOf (i ∷ is) [] = Unit {0}
  AreReferencesOf (i ∷ is) (r ∷ rs) = IsReferenceIn l (import_context (takes_packages i)) r × AreReferencesOf is rs

  module _ (names : List (List ℕ)) (file : ℕ) (ds : List TypeDeclTree) where
    clashes_in : (w : ImportsOf) (ids : List Ident) (s : Scope) (own taken : Bool) → IsTypeScope l s → AreImportsIn l w → AreImportsIn l (by_clashes names file w ids s own taken)
    clashes_in w ids s own taken h k = record {
      singles = elim (own || taken) as (λ (b : Bool). All (λ (p : NameId × Scope). IsTypeScope l p.1) (cond b w.singles (w.singles ++ (last_name ids, s) ∷ []))) [
        | true ↦ k.singles
        | false ↦ All-push (λ (p : NameId × Scope). IsTypeScope l p.1) w.singles (last_name ids, s) k.singles h
      ];
      on_demand = k.on_demand;
    }

    one_in : (w : ImportsOf) (ids : List Ident) (s : Scope) (is_static all : Bool) → IsMeant l (import_context (not is_static && all)) s → AreImportsIn l w
        → AreImportsIn l (cond is_static (record { singles = w.singles; on_demand = w.on_demand; diags = w.diags }) (cond all (record { singles = w.singles; on_demand = w.on_demand ++ s ∷ []; diags = w.diags }) (with_single l names file ds w ids s)))
    one_in w ids s true all h k = record { singles = k.singles; on_demand = k.on_demand }
    one_in w ids s false true h k = record { singles = k.singles; on_demand = All-push (IsMeant l OnDemandImport) w.on_demand s k.on_demand h }
    one_in w ids s false false h k = clashes_in w ids s _ _ h k

    meaning_in : (w : ImportsOf) (i : ImportTree) (m : Meaning) → MeansOnly (IsMeant l (import_context (takes_packages i))) m → AreImportsIn l w → AreImportsIn l (with_meaning l names file ds w i m)
    meaning_in w i (One s) h k = one_in w i.name s i.is_static i.all h k
    meaning_in w i Nothing h k = record { singles = k.singles; on_demand = k.on_demand }
    meaning_in w i Ambiguous h k = record { singles = k.singles; on_demand = k.on_demand }
    meaning_in w i TooMany h k = record { singles = k.singles; on_demand = k.on_demand }

    imports_in : (w : ImportsOf) (is : List ImportTree) (rs : List Reference) → AreReferencesOf is rs → AreImportsIn l w → AreImportsIn l (imports_from l names file ds w is rs)
    imports_in w [] rs h k = k
    imports_in w (i ∷ is) [] h k = k
    imports_in w (i ∷ is) (r ∷ rs) h k = imports_in (with_import l names file ds w i r) is rs h.1 (meaning_in _ i r.meaning h.0.meaning (record { singles = k.singles; on_demand = k.on_demand }))

  module _ (count file : ℕ) where
    pub import_reference_stays : (i : ImportTree) → IsNumberedImport count i → StaysIn l count (IsReferenceIn l (import_context (takes_packages i))) (import_reference l file i)
    unfolding import_reference
    import_reference_stays i numbered = referred_stays l count (import_context (takes_packages i)) file [] (import_rule l i) (All-nil (IsTypeScope l)) (import_rule_stays l count i numbered)

    references_stay : (is : List ImportTree) → All (IsNumberedImport count) is → StaysIn l count (AreReferencesOf is) (each (import_reference l file) is)
    references_stay [] numbered = done_stays l count (AreReferencesOf []) [] tt
    references_stay (i ∷ is) numbered =
        then_stays l count (IsReferenceIn l (import_context (takes_packages i))) (AreReferencesOf (i ∷ is)) (import_reference l file i) (λ v. and_then (each (import_reference l file) is) (λ vs. done (v ∷ vs))) (import_reference_stays i (All-head (IsNumberedImport count) i is numbered))
        (λ v e. then_stays l count (AreReferencesOf is) (AreReferencesOf (i ∷ is)) (each (import_reference l file) is) (λ vs. done (v ∷ vs)) (references_stay is (All-tail (IsNumberedImport count) i is numbered))
        (λ vs es. done_stays l count (AreReferencesOf (i ∷ is)) (v ∷ vs) (e, es)))

    pub imports_rule_stays : (names : List (List ℕ)) (u : UnitTree) → All (IsNumberedImport count) u.imports → StaysIn l count (AreImportsIn l) (imports_rule l names file u)
    imports_rule_stays names u numbered =
        then_stays l count (AreReferencesOf u.imports) (AreImportsIn l) (each (import_reference l file) u.imports) (λ rs. done (imports_from l names file u.types no_imports u.imports rs)) (references_stay u.imports numbered)
        (λ rs are. done_stays l count (AreImportsIn l) (imports_from l names file u.types no_imports u.imports rs) (imports_in names file u.types no_imports u.imports rs are (record { singles = All-nil _; on_demand = All-nil (IsMeant l OnDemandImport) })))

-- ---- what single static imports bring

module _ (l : LayoutOf) (count : ℕ) (names : List (List ℕ)) (file : ℕ) (named : IsNamedIn l count) where
  -- of what is said nothing is claimed
  abbrev AnyDiags : List DiagOf → Type 0
  AnyDiags ds = Unit {0}

  meant_stays : (ids : List Ident) (m : Meaning) → (last_name ids).0 < count → MeansOnly (IsMeant l SingleImport) m → StaysIn l count AnyDiags (static_meant l names file ids m)
  meant_stays ids (One t) numbered h =
      then_stays l count (λ (e : Ends). Unit {0}) AnyDiags (statics_of_type l file t (last_name ids)) (λ e. done (static_diags names file ids e)) (statics_of_type_stays l count named file t (last_name ids) (type_starts (place_of l t) h) numbered)
      (λ e u. done_stays l count AnyDiags (static_diags names file ids e) tt)
  meant_stays ids Nothing numbered h = done_stays l count AnyDiags [] tt
  meant_stays ids Ambiguous numbered h = done_stays l count AnyDiags [] tt
  meant_stays ids TooMany numbered h = done_stays l count AnyDiags [] tt

  -- an import by its parts; of a single static one whose name has no identifier nothing is looked up
  parts_stay : (is_static all : Bool) (ids : List Ident) → IsNumberedName count ids → StaysIn l count AnyDiags (static_check l names file (record { name = ids; all = all; is_static = is_static }))
  unfolding static_check
  parts_stay false all ids numbered = done_stays l count AnyDiags [] tt
  parts_stay true true ids numbered = done_stays l count AnyDiags [] tt
  parts_stay true false [] numbered = done_stays l count AnyDiags [] tt
  parts_stay true false (n ∷ ns) numbered =
      let i : ImportTree = record { name = n ∷ ns; all = false; is_static = true } in
      then_stays l count (IsResolvedIn l SingleImport) AnyDiags (import_rule l i) (λ r. static_meant l names file (n ∷ ns) r.meaning) (import_rule_stays l count i numbered)
      (λ r is. meant_stays (n ∷ ns) r.meaning (last_numbered l count (n ∷ ns) (omega arith) numbered) is.meaning)

  statics_stay : (ds : List DiagOf) (is : List ImportTree) → All (IsNumberedImport count) is → StaysIn l count AnyDiags (statics_from l names file ds is)
  unfolding statics_from
  statics_stay ds [] numbered = done_stays l count AnyDiags ds tt
  statics_stay ds (i ∷ is) numbered =
      then_stays l count AnyDiags AnyDiags (static_check l names file i) (λ p. statics_from l names file (ds ++ p) is) (parts_stay i.is_static i.all i.name (All-head (IsNumberedImport count) i is numbered))
      (λ p u. statics_stay (ds ++ p) is (All-tail (IsNumberedImport count) i is numbered))

  pub statics_rule_stays : (is : List ImportTree) → All (IsNumberedImport count) is → StaysIn l count AnyDiags (statics_rule l names file is)
  statics_rule_stays is numbered = statics_stay [] is numbered

-- ---- as laws

pub headers_stay_in : HeadersStayIn
headers_stay_in l count names c extends implements named type above beside = header_rule_stays l count names c named type extends implements above beside

pub dependence_stays_in : DependenceStaysIn
dependence_stays_in l count names c name row h = depends_rule_stays l count names c name row h

pub imports_stay_in : FileImportsStayIn
imports_stay_in l count names file u numbered = imports_rule_stays l count file names u numbered

pub statics_stay_in : FileStaticsStayIn
statics_stay_in l count names file is named numbered = statics_rule_stays l count names file named is numbered
