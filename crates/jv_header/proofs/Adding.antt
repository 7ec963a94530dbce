-- The diagnostics of clauses, as a loop over their names adds them.
use Rattle.std.proofs.Common.{◌≡◌, ℕ, ◌+◌, ◌<◌, ◌≤◌, ◌⊎◌, inl, inr, Bool, ◌||◌, List, [], ◌∷◌, ◌++◌, map, drop, take, get_or, length, refl, sym, ◌∙◌, ap, append_assoc, append-nil, arith}
use Rattle.std.specs.Prelude.{min}
use Rattle.std.specs.List.{list_any}
use Rattle.std.proofs.Math.Nat.{le-min}
use Rattle.std.proofs.lemmas.Bool.{cases_lt}
use Rattle.std.proofs.lemmas.List.{at_drop_more, at_drop_all, take_more}
use Rattle.std.proofs.lemmas.List.Folds.{list_any-append}
use Rattle.sg_base.specs.declared.scope.Scope.{Scope}
use Rattle.sg_base.specs.Scope.{is_scope}
use Rattle.jv_diag.specs.Plain.{DiagOf}
use Rattle.jv_layout.specs.Folder.{LayoutOf}
use Rattle.jv_tree.specs.declared.name.Ident.{Ident}
use Rattle.jv_tree.specs.declared.name.Name.{Name}
use Rattle.jv_tree.specs.TypeTree.{ids_of}
use Rattle.jv_names.specs.declared.meaning.Meaning.{Meaning}
use Rattle.jv_names.specs.declared.meaning.Meaning.TheVariants.{One, Nothing, Ambiguous, TooMany}
use Rattle.jv_names.specs.declared.reference.Reference.{Reference}
use Rattle.jv_names.specs.Reference.{reference_diags}
use Rattle.jv_header.specs.Header.{one_of, found_types, superclass_diags, stands_among, interface_diags, class_clause, interface_clause}

-- two lists are put behind others, one after the other
pub added : {X : Type 0} (whole diags first second a b rest : List X) → whole ≡ diags ++ ((a ++ b) ++ rest) → first ≡ diags ++ a → second ≡ first ++ b → whole ≡ second ++ rest
added whole diags first second a b rest w f s =
    w ∙ (sym (append_assoc diags (a ++ b) rest) ∙ ap (λ (xs : List _). xs ++ rest) (sym (append_assoc diags a b) ∙ (ap (λ (xs : List _). xs ++ b) (sym f) ∙ sym s)))

-- a place behind the shorter of two lists is behind one of them
pub behind_one : (a b i : ℕ) → min a b ≤ i → (a ≤ i) ⊎ (b ≤ i)
behind_one a b i h =
    elim (cases_lt i a) [
      | inr past ↦ inl past
      | inl below ↦ elim (cases_lt i b) [ inr past ↦ inr past | inl under ↦ (let k : i + 1 ≤ min a b = le-min (omega (arith, below)) (omega (arith, under)) in absurd (omega (arith, k, h))) ]
    ]

-- ---- types that are seen

found_behind : (rs : List Reference) (r : Reference) → found_types (rs ++ r ∷ []) ≡ found_types rs ++ one_of r.meaning
found_behind [] r = append-nil (one_of r.meaning)
found_behind (q ∷ qs) r = ap (λ (ss : List Scope). one_of q.meaning ++ ss) (found_behind qs r) ∙ sym (append_assoc (one_of q.meaning) (found_types qs) (one_of r.meaning))

pub found_more : (found : List Reference) (i : ℕ) (r : Reference) → i < length found → found_types (take (i + 1) found) ≡ found_types (take i found) ++ one_of (get_or found i r).meaning
found_more found i r h = ap found_types (take_more found i r h) ∙ found_behind (take i found) (get_or found i r)

-- the same types are seen as are found
abbrev pub AreSeen : List Scope → List Scope → Type 0
AreSeen seen found = (s : Scope) → list_any (is_scope s) seen ≡ list_any (is_scope s) found

pub seen_more : (old new found more : List Scope) → AreSeen old found → ((s : Scope) → list_any (is_scope s) new ≡ (list_any (is_scope s) old || list_any (is_scope s) more)) → AreSeen new (found ++ more)
seen_more old new found more h u s = u s ∙ (ap (λ (b : Bool). b || list_any (is_scope s) more) (h s) ∙ sym (list_any-append (is_scope s) found more))

-- whether a meaning stands among them is the same
pub stands_same : (seen found : List Scope) → AreSeen seen found → (m : Meaning) → stands_among seen m ≡ stands_among found m
stands_same seen found h (One s) = h s
stands_same seen found h Nothing = refl
stands_same seen found h Ambiguous = refl
stands_same seen found h TooMany = refl

-- ---- clauses

module _ (l : LayoutOf) (names : List (List ℕ)) (file : ℕ) where
  no_class_reference : (ns : List (List Ident)) → class_clause l names file ns [] ≡ []
  no_class_reference [] = refl
  no_class_reference (n ∷ ns) = refl

  no_interface_reference : (earlier : List Scope) (ns : List (List Ident)) → interface_clause l names file earlier ns [] ≡ []
  no_interface_reference earlier [] = refl
  no_interface_reference earlier (n ∷ ns) = refl

  module _ (clause : List Name) (found : List Reference) (i : ℕ) where
    module _ (n : Name) (r : Reference) (in_clause : i < length clause) (in_found : i < length found) where
      pub class_more : class_clause l names file (map ids_of (drop i clause)) (drop i found)
          ≡ (reference_diags l names file (ids_of (get_or clause i n)) (get_or found i r) ++ superclass_diags l names file (ids_of (get_or clause i n)) (get_or found i r).meaning) ++ class_clause l names file (map ids_of (drop (i + 1) clause)) (drop (i + 1) found)
      class_more =
          at_drop_more (λ (ns : List Name). class_clause l names file (map ids_of ns) (drop i found)) clause i n in_clause
          ∙ at_drop_more (λ (rs : List Reference). class_clause l names file (ids_of (get_or clause i n) ∷ map ids_of (drop (i + 1) clause)) rs) found i r in_found

      pub interface_more : (earlier : List Scope) → interface_clause l names file earlier (map ids_of (drop i clause)) (drop i found)
          ≡ (reference_diags l names file (ids_of (get_or clause i n)) (get_or found i r) ++ interface_diags l names file (stands_among earlier (get_or found i r).meaning) (ids_of (get_or clause i n)) (get_or found i r).meaning)
          ++ interface_clause l names file (earlier ++ one_of (get_or found i r).meaning) (map ids_of (drop (i + 1) clause)) (drop (i + 1) found)
      interface_more earlier =
          at_drop_more (λ (ns : List Name). interface_clause l names file earlier (map ids_of ns) (drop i found)) clause i n in_clause
          ∙ at_drop_more (λ (rs : List Reference). interface_clause l names file earlier (ids_of (get_or clause i n) ∷ map ids_of (drop (i + 1) clause)) rs) found i r in_found

    pub class_end : (length clause ≤ i) ⊎ (length found ≤ i) → class_clause l names file (map ids_of (drop i clause)) (drop i found) ≡ []
    class_end (inl h) = at_drop_all (λ (ns : List Name). class_clause l names file (map ids_of ns) (drop i found)) clause i h
    class_end (inr h) = at_drop_all (λ (rs : List Reference). class_clause l names file (map ids_of (drop i clause)) rs) found i h ∙ no_class_reference (map ids_of (drop i clause))

    pub interface_end : (earlier : List Scope) → (length clause ≤ i) ⊎ (length found ≤ i) → interface_clause l names file earlier (map ids_of (drop i clause)) (drop i found) ≡ []
    interface_end earlier (inl h) = at_drop_all (λ (ns : List Name). interface_clause l names file earlier (map ids_of ns) (drop i found)) clause i h
    interface_end earlier (inr h) = at_drop_all (λ (rs : List Reference). interface_clause l names file earlier (map ids_of (drop i clause)) rs) found i h ∙ no_interface_reference earlier (map ids_of (drop i clause))

    -- one name of a clause of interfaces, as the loop adds its diagnostics
    pub interface_step : (n : Name) (r : Reference) (in_clause : i < length clause) (in_found : i < length found) (whole first second third : List DiagOf) (old : List Scope) (again : Bool)
        → r ≡ get_or found i r → AreSeen old (found_types (take i found)) → whole ≡ first ++ interface_clause l names file (found_types (take i found)) (map ids_of (drop i clause)) (drop i found)
        → again ≡ stands_among old r.meaning → second ≡ first ++ reference_diags l names file (ids_of (get_or clause i n)) r → third ≡ second ++ interface_diags l names file again (ids_of (get_or clause i n)) r.meaning
        → whole ≡ third ++ interface_clause l names file (found_types (take (i + 1) found)) (map ids_of (drop (i + 1) clause)) (drop (i + 1) found)
    interface_step n r in_clause in_found whole first second third old again at_r seen w a s t =
        let earlier : List Scope = found_types (take i found) in
        let told : again ≡ stands_among earlier r.meaning = a ∙ stands_same old earlier seen r.meaning in
        let ns : Name = get_or clause i n in
        let rs : Reference = get_or found i r in
        let ref_diags : List DiagOf = reference_diags l names file (ids_of ns) rs in
        let own_diags : List DiagOf = interface_diags l names file (stands_among earlier rs.meaning) (ids_of ns) rs.meaning in
        let rest : List DiagOf = interface_clause l names file (earlier ++ one_of rs.meaning) (map ids_of (drop (i + 1) clause)) (drop (i + 1) found) in
        let second_is : second ≡ first ++ ref_diags = s ∙ ap (λ (q : Reference). first ++ reference_diags l names file (ids_of ns) q) at_r in
        let third_is : third ≡ second ++ own_diags =
        t ∙ (ap (λ (b : Bool). second ++ interface_diags l names file b (ids_of ns) r.meaning) told ∙ ap (λ (q : Reference). second ++ interface_diags l names file (stands_among earlier q.meaning) (ids_of ns) q.meaning) at_r) in
        added whole first second third ref_diags own_diags rest (w ∙ ap (λ (ds : List DiagOf). first ++ ds) (interface_more n r in_clause in_found earlier)) second_is third_is
        ∙ ap (λ (ss : List Scope). third ++ interface_clause l names file ss (map ids_of (drop (i + 1) clause)) (drop (i + 1) found)) (sym (found_more found i r in_found))
