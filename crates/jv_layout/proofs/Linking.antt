-- The rows that trees give name one another, and are few.
use Rattle.std.proofs.Common.{◌≡◌, ℕ, zero, suc, ◌+◌, ◌<◌, ◌≤◌, ◌^◌, Bool, true, false, ◌||◌, Option, Some, None, List, [], ◌∷◌, length, map, refl, sym, ap, ◌∙◌, cond, if◌then◌else◌, arith, length-append}
use Rattle.std.specs.Prelude.{All}
use Rattle.std.specs.List.{sum_by, flat_map, fold, position_from, range_with_len}
use Rattle.std.specs.Ordering.{match_ordering}
use Rattle.std.specs.declared.cmp.Ordering.{Ordering}
use Rattle.std.specs.declared.cmp.Ordering.TheVariants.{Less, Equal, Greater}
use Rattle.std.proofs.lemmas.List.{length-map}
use Rattle.std.proofs.lemmas.List.FromFn.{length-range_with_len}
use Rattle.std.proofs.lemmas.List.Sums.{sum_by-cons}
use Rattle.std.proofs.lemmas.List.Elements.{All-nil, All-cons, All-append, All-map, All-weaker}
use Rattle.sg_state.specs.Held.{put}
use Rattle.sg_state.proofs.Beginning.{map_twice}
use Rattle.jv_tree.specs.declared.names.NameId.{NameId}
use Rattle.jv_tree.specs.declared.declaration.Unit.{Unit as File}
use Rattle.jv_tree.specs.DeclTree.{TypeDeclTree, type_decl, nested, field, method, ctor, MemberTrees, no_members, members, ImportTree, UnitTree, tree_of}
use Rattle.jv_layout.specs.declared.rows.Modifiers.{Modifiers}
use Rattle.jv_layout.specs.declared.packages.Prefix.{Prefix}
use Rattle.jv_layout.specs.declared.rows.PackageRow.{PackageRow}
use Rattle.jv_layout.specs.declared.rows.TypeRow.{TypeRow}
use Rattle.jv_layout.specs.declared.rows.MemberRow.{MemberRow}
use Rattle.jv_layout.specs.declared.rows.MemberKind.TheVariants.{Method, Ctor, DefaultCtor}
use Rattle.jv_layout.specs.Folder.{LayoutOf, layout_of, modifiers_of, no_modifiers, clause_of, prefixes, path_cmp, paths_of, package_row, file_row, decl_types, body_types, decl_count, body_count, file_types, file_count, types_from, type_count, has_ctor, default_ctor, field_row, decl_members, body_members, file_members, members_from, statics_in}
use Rattle.jv_layout.specs.Scopes.{scope_count}
use Rattle.jv_layout.specs.Sizes.{decl_names, body_names, unit_names, IsFolder}
use Rattle.jv_layout.specs.Linked.{IsBelow, IsLinked}
use Rattle.jv_layout.specs.Paths.{clause_at, path_at}
use Rattle.jv_layout.specs.Rows.{layout_by}
use Rattle.jv_layout.proofs.Collecting.{length-file_types, row_of}

-- ---- types

-- the file of a type is one of so many, and the types that it names are
abbrev pub IsTypeOf : ℕ → ℕ → TypeRow → Type 0
IsTypeOf fs ts r = (r.file < fs) × IsBelow ts r.owner × (r.top < ts)

-- a type by its parts
abbrev type_by : ℕ → Option ℕ → ℕ → NameId → Modifiers → Bool → TypeRow
type_by f o t name ms i = record { file = f; owner = o; top = t; name = name; modifiers = ms; interface = i }

mutual
  decl_linked : (fs ts f : ℕ) (o : Option ℕ) (t n : ℕ) (d : TypeDeclTree) → f < fs → IsBelow ts o → t < ts → n + decl_count d ≤ ts → All (IsTypeOf fs ts) (decl_types f o t n d)
  decl_linked fs ts f o t n (type_decl name ms i es is xs) a b c h =
      All-cons (IsTypeOf fs ts) (type_by f o t name.id (modifiers_of ms) i) (body_types f n t (n + 1) xs) (a, b, c) (body_linked fs ts f n t (n + 1) xs a (omega arith) c (omega arith))

  body_linked : (fs ts f o t n : ℕ) (xs : MemberTrees) → f < fs → o < ts → t < ts → n + body_count xs ≤ ts → All (IsTypeOf fs ts) (body_types f o t n xs)
  body_linked fs ts f o t n no_members a b c h = All-nil (IsTypeOf fs ts)
  body_linked fs ts f o t n (members (nested d) xs) a b c h =
      All-append (IsTypeOf fs ts) (decl_types f (Some o) t n d) (body_types f o t (n + decl_count d) xs)
      (decl_linked fs ts f (Some o) t n d a b c (omega arith)) (body_linked fs ts f o t (n + decl_count d) xs a b c (omega arith))
  body_linked fs ts f o t n (members (field ms ty vs) xs) a b c h = body_linked fs ts f o t n xs a b c h
  body_linked fs ts f o t n (members (method m) xs) a b c h = body_linked fs ts f o t n xs a b c h
  body_linked fs ts f o t n (members (ctor k) xs) a b c h = body_linked fs ts f o t n xs a b c h

one_type : (d : TypeDeclTree) → 1 ≤ decl_count d
one_type (type_decl name ms i es is xs) = omega arith

file_linked : (fs ts f n : ℕ) (ds : List TypeDeclTree) → f < fs → n + file_count ds ≤ ts → All (IsTypeOf fs ts) (file_types f n ds)
file_linked fs ts f n [] a h = All-nil (IsTypeOf fs ts)
file_linked fs ts f n (d ∷ ds) a h =
    All-append (IsTypeOf fs ts) (decl_types f None n n d) (file_types f (n + decl_count d) ds)
    (decl_linked fs ts f None n n d a tt (omega (arith, one_type d)) (omega arith)) (file_linked fs ts f (n + decl_count d) ds a (omega arith))

types_linked : (fs ts f n : ℕ) (us : List UnitTree) → f + length us ≤ fs → n + type_count us ≤ ts → All (IsTypeOf fs ts) (types_from f n us)
types_linked fs ts f n [] a h = All-nil (IsTypeOf fs ts)
types_linked fs ts f n (u ∷ us) a h =
    All-append (IsTypeOf fs ts) (file_types f n u.types) (types_from (f + 1) (n + file_count u.types) us)
    (file_linked fs ts f n u.types (omega arith) (omega arith)) (types_linked fs ts (f + 1) (n + file_count u.types) us (omega arith) (omega arith))

length-types_from : (f n : ℕ) (us : List UnitTree) → length (types_from f n us) ≡ type_count us
length-types_from f n [] = refl
length-types_from f n (u ∷ us) = omega (arith, length-append (file_types f n u.types) (types_from (f + 1) (n + file_count u.types) us), length-file_types f n u.types, length-types_from (f + 1) (n + file_count u.types) us)

-- ---- members

-- the type of a member is one of so many
abbrev pub IsMemberOf : ℕ → MemberRow → Type 0
IsMemberOf ts r = r.owner < ts

default_linked : (ts n : ℕ) (name : NameId) (i : Bool) (xs : MemberTrees) → n < ts → All (IsMemberOf ts) (default_ctor n name i xs)
default_linked ts n name i xs h = elim (i || has_ctor xs) as (λ b. All (IsMemberOf ts) (if b then [] else (row_of n DefaultCtor name no_modifiers ∷ []))) [
  | true ↦ All-nil (IsMemberOf ts)
  | false ↦ All-cons (IsMemberOf ts) (row_of n DefaultCtor name no_modifiers) [] h (All-nil (IsMemberOf ts))
]

mutual
  decl_owned : (ts n : ℕ) (d : TypeDeclTree) → n + decl_count d ≤ ts → All (IsMemberOf ts) (decl_members n d)
  decl_owned ts n (type_decl name ms i es is xs) h =
      All-append (IsMemberOf ts) (default_ctor n name.id i xs) (body_members n name.id (n + 1) xs)
      (default_linked ts n name.id i xs (omega arith)) (body_owned ts n name.id (n + 1) xs (omega arith) (omega arith))

  body_owned : (ts o : ℕ) (class : NameId) (n : ℕ) (xs : MemberTrees) → o < ts → n + body_count xs ≤ ts → All (IsMemberOf ts) (body_members o class n xs)
  body_owned ts o class n no_members b h = All-nil (IsMemberOf ts)
  body_owned ts o class n (members (nested d) xs) b h =
      All-append (IsMemberOf ts) (decl_members n d) (body_members o class (n + decl_count d) xs)
      (decl_owned ts n d (omega arith)) (body_owned ts o class (n + decl_count d) xs b (omega arith))
  body_owned ts o class n (members (field ms ty vs) xs) b h =
      All-append (IsMemberOf ts) (map (field_row o (modifiers_of ms)) vs) (body_members o class n xs)
      (All-map (IsMemberOf ts) (field_row o (modifiers_of ms)) vs (λ k d l. b)) (body_owned ts o class n xs b h)
  body_owned ts o class n (members (method m) xs) b h =
      All-cons (IsMemberOf ts) (row_of o Method m.name.id (modifiers_of m.mods)) (body_members o class n xs) b (body_owned ts o class n xs b h)
  body_owned ts o class n (members (ctor c) xs) b h =
      All-cons (IsMemberOf ts) (row_of o Ctor class (modifiers_of c.mods)) (body_members o class n xs) b (body_owned ts o class n xs b h)

file_owned : (ts n : ℕ) (ds : List TypeDeclTree) → n + file_count ds ≤ ts → All (IsMemberOf ts) (file_members n ds)
file_owned ts n [] h = All-nil (IsMemberOf ts)
file_owned ts n (d ∷ ds) h = All-append (IsMemberOf ts) (decl_members n d) (file_members (n + decl_count d) ds) (decl_owned ts n d (omega arith)) (file_owned ts (n + decl_count d) ds (omega arith))

members_owned : (ts n : ℕ) (us : List UnitTree) → n + type_count us ≤ ts → All (IsMemberOf ts) (members_from n us)
members_owned ts n [] h = All-nil (IsMemberOf ts)
members_owned ts n (u ∷ us) h =
    All-append (IsMemberOf ts) (file_members n u.types) (members_from (n + file_count u.types) us) (file_owned ts n u.types (omega arith)) (members_owned ts (n + file_count u.types) us (omega arith))

-- ---- packages

position_below : {X : Type 0} (p : X → Bool) (n : ℕ) (xs : List X) (m : ℕ) → n + length xs ≤ m → IsBelow m (position_from p n xs)
position_below p n [] m h = tt
position_below p n (x ∷ xs) m h = elim (p x) as (λ b. IsBelow m (cond b (Some n) (position_from p (n + 1) xs))) [
  | true ↦ omega arith
  | false ↦ position_below p (n + 1) xs m (omega arith)
]

-- ---- how many there are

mutual
  decl_few : (d : TypeDeclTree) → decl_count d ≤ decl_names d
  decl_few (type_decl name ms i es is xs) = omega (arith, body_few xs)

  body_few : (xs : MemberTrees) → body_count xs ≤ body_names xs
  body_few no_members = omega arith
  body_few (members (nested d) xs) = omega (arith, decl_few d, body_few xs)
  body_few (members (field ms ty vs) xs) = omega (arith, body_few xs)
  body_few (members (method m) xs) = omega (arith, body_few xs)
  body_few (members (ctor c) xs) = omega (arith, body_few xs)

file_few : (ds : List TypeDeclTree) → file_count ds ≤ sum_by decl_names ds
file_few [] = omega arith
file_few (d ∷ ds) = omega (arith, sum_by-cons decl_names d ds, decl_few d, file_few ds)

types_few : (us : List UnitTree) → type_count us ≤ sum_by unit_names us
types_few [] = omega arith
types_few (u ∷ us) = omega (arith, sum_by-cons unit_names u us, file_few u.types, types_few us)

default_few : (n : ℕ) (name : NameId) (i : Bool) (xs : MemberTrees) → length (default_ctor n name i xs) ≤ 1
default_few n name i xs = elim (i || has_ctor xs) as (λ b. length (if b then [] else (row_of n DefaultCtor name no_modifiers ∷ [])) ≤ 1) [
  | true ↦ omega arith
  | false ↦ omega arith
]

mutual
  decl_members_few : (n : ℕ) (d : TypeDeclTree) → length (decl_members n d) ≤ decl_names d
  decl_members_few n (type_decl name ms i es is xs) =
      omega (arith, length-append (default_ctor n name.id i xs) (body_members n name.id (n + 1) xs), default_few n name.id i xs, body_members_few n name.id (n + 1) xs)

  body_members_few : (o : ℕ) (class : NameId) (n : ℕ) (xs : MemberTrees) → length (body_members o class n xs) ≤ body_names xs
  body_members_few o class n no_members = omega arith
  body_members_few o class n (members (nested d) xs) =
      omega (arith, length-append (decl_members n d) (body_members o class (n + decl_count d) xs), decl_members_few n d, body_members_few o class (n + decl_count d) xs)
  body_members_few o class n (members (field ms ty vs) xs) =
      omega (arith, length-append (map (field_row o (modifiers_of ms)) vs) (body_members o class n xs), length-map vs (field_row o (modifiers_of ms)), body_members_few o class n xs)
  body_members_few o class n (members (method m) xs) = omega (arith, body_members_few o class n xs)
  body_members_few o class n (members (ctor c) xs) = omega (arith, body_members_few o class n xs)

file_members_few : (n : ℕ) (ds : List TypeDeclTree) → length (file_members n ds) ≤ sum_by decl_names ds
file_members_few n [] = omega arith
file_members_few n (d ∷ ds) =
    omega (arith, sum_by-cons decl_names d ds, length-append (decl_members n d) (file_members (n + decl_count d) ds), decl_members_few n d, file_members_few (n + decl_count d) ds)

members_few : (n : ℕ) (us : List UnitTree) → length (members_from n us) ≤ sum_by unit_names us
members_few n [] = omega arith
members_few n (u ∷ us) =
    omega (arith, sum_by-cons unit_names u us, length-append (file_members n u.types) (members_from (n + file_count u.types) us), file_members_few n u.types, members_few (n + file_count u.types) us)

module _ {X : Type 0} (R : X → X → Ordering) where
  put_one : (xs : List X) (x : X) → length (put R xs x) ≤ length xs + 1
  put_one [] x = omega arith
  put_one (y ∷ ys) x = elim (R x y) as (λ o. length (match_ordering o (x ∷ y ∷ ys) (y ∷ ys) (y ∷ put R ys x)) ≤ length (y ∷ ys) + 1) [
    | Less ↦ omega arith
    | Equal ↦ omega arith
    | Greater ↦ omega (arith, put_one ys x)
  ]

  put_few : (xs ys : List X) → length (fold (put R) xs ys) ≤ length xs + length ys
  put_few xs [] = omega arith
  put_few xs (y ∷ ys) = omega (arith, put_one xs y, put_few (put R xs y) ys)

prefixes_few : (us : List UnitTree) → length (flat_map (λ u. prefixes (clause_of u)) us) ≤ sum_by unit_names us
prefixes_few [] = omega arith
prefixes_few (u ∷ us) =
    let one : length (prefixes (clause_of u)) ≡ length (clause_of u) = length-map (range_with_len 0 (length (clause_of u))) _ ∙ length-range_with_len 0 (length (clause_of u)) in
    omega (arith, one, sum_by-cons unit_names u us, length-append (prefixes (clause_of u)) (flat_map (λ u. prefixes (clause_of u)) us), prefixes_few us)

paths_few : (names : List (List ℕ)) (us : List UnitTree) → length (paths_of names us) ≤ sum_by unit_names us
paths_few names us = omega (arith, put_few (path_cmp names) [] (flat_map (λ u. prefixes (clause_of u)) us), prefixes_few us)

clause_few : (us : List UnitTree) (f : ℕ) → length (clause_at us f) ≤ sum_by unit_names us
clause_few [] f = omega arith
clause_few (u ∷ us) zero = omega (arith, sum_by-cons unit_names u us)
clause_few (u ∷ us) (suc f) = omega (arith, sum_by-cons unit_names u us, clause_few us f)

-- ---- the whole

module _ (names : List (List ℕ)) (us : List UnitTree) (folder : IsFolder us) where
  pub clauses_short : (f : ℕ) → length (clause_at us f) < 2 ^ 28
  clauses_short f = omega (arith, folder.few, clause_few us f)

  pub few_paths : length (paths_of names us) < 2 ^ 28
  few_paths = omega (arith, folder.few, paths_few names us)

  pub few_scopes : scope_count (layout_of names us) < 2 ^ 31
  few_scopes =
      omega (
        arith,
        folder.few,
        folder.files,
        paths_few names us,
        length-map (paths_of names us) (package_row names (paths_of names us)),
        length-map us (file_row names (paths_of names us)),
        length-types_from 0 0 us,
        types_few us,
        members_few 0 us,
      )

  pub rows_linked : IsLinked (layout_of names us)
  rows_linked =
      let l = layout_of names us in
      let ps = paths_of names us in
      let P = length l.packages in
      let F = length l.files in
      let T = length l.types in
      let ep : P ≡ length ps = length-map ps (package_row names ps) in
      let ef : F ≡ length us = length-map us (file_row names ps) in
      let et : T ≡ type_count us = length-types_from 0 0 us in
      let ts : All (IsTypeOf F T) l.types = types_linked F T 0 0 us (omega arith) (omega arith) in
      record {
        packages = All-map (λ r. IsBelow P r.parent) (package_row names ps) ps (λ k d h. position_below _ 0 ps P (omega arith));
        files = All-map (IsBelow P) (file_row names ps) us (λ k d h. position_below _ 0 ps P (omega arith));
        type_files = All-weaker (IsTypeOf F T) (λ r. r.file < F) (λ r x. x.0) l.types ts;
        owners = All-weaker (IsTypeOf F T) (λ r. IsBelow T r.owner) (λ r x. x.1) l.types ts;
        tops = All-weaker (IsTypeOf F T) (λ r. r.top < T) (λ r x. x.2) l.types ts;
        members = members_owned T 0 us (omega arith);
      }

-- the layout that its rows give, once each row is known
layout_same : (l : LayoutOf) (p : List PackageRow) (f : List (Option ℕ)) (t : List TypeRow) (m : List MemberRow) (s : List (List ImportTree)) → p ≡ l.packages → f ≡ l.files → t ≡ l.types → m ≡ l.members → s ≡ l.statics
    → layout_by p f t m s ≡ layout_by l.packages l.files l.types l.members l.statics
layout_same l p f t m s a b c d e =
    ap (λ (z : List PackageRow). layout_by z f t m s) a ∙ (ap (λ (z : List (Option ℕ)). layout_by l.packages z t m s) b
    ∙ (ap (λ (z : List TypeRow). layout_by l.packages l.files z m s) c ∙ (ap (λ (z : List MemberRow). layout_by l.packages l.files l.types z s) d
    ∙ ap (λ (z : List (List ImportTree)). layout_by l.packages l.files l.types l.members z) e)))

module _ (names : List (List ℕ)) (files : List File) (qs rs ps : List Prefix) where
  abbrev trees : List UnitTree
  trees = map tree_of files

  pub rows_same : (p : List PackageRow) (f : List (Option ℕ)) (t : List TypeRow) (m : List MemberRow) (s : List (List ImportTree)) → qs ≡ ps → rs ≡ ps → map (path_at trees) ps ≡ paths_of names trees
      → p ≡ map (λ q. package_row names (map (path_at trees) qs) (path_at trees q)) qs → f ≡ map (λ u. file_row names (map (path_at trees) rs) (tree_of u)) files
      → t ≡ types_from 0 0 trees → m ≡ members_from 0 trees → s ≡ map statics_in trees → layout_by p f t m s ≡ layout_of names trees
  rows_same p f t m s a b e ep ef et em es =
      let one : map (path_at trees) qs ≡ paths_of names trees = ap (map (path_at trees)) a ∙ e in
      let two : map (path_at trees) rs ≡ paths_of names trees = ap (map (path_at trees)) b ∙ e in
      layout_same (layout_of names trees) p f t m s
      (ep ∙ (sym (map_twice (path_at trees) (package_row names (map (path_at trees) qs)) qs) ∙ ap (λ (z : List (List ℕ)). map (package_row names z) z) one))
      (ef ∙ (sym (map_twice tree_of (file_row names (map (path_at trees) rs)) files) ∙ ap (λ (z : List (List ℕ)). map (file_row names z) trees) two)) et em es
