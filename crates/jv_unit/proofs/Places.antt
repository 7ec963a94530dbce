-- What stands at the places of bodies, and where paths lead.
use Rattle.std.proofs.Common.{◌≡◌, ℕ, zero, suc, ◌+◌, ◌-◌, ◌<◌, ◌≤◌, true, false, List, [], ◌∷◌, ◌++◌, length, map, take, drop, get_or, Option, None, Some, IsSome, MatchOption, refl, sym, ap, ◌∙◌, arith, is_some, length-drop, append_assoc, Vec, Global}
use Rattle.std.specs.List.{flat_map, slice_get}
use Rattle.std.specs.Option.{option_map}
use Rattle.std.proofs.Math.Seq.{take-length}
use Rattle.std.proofs.Math.ListN.{drop_of_length-le}
use Rattle.std.proofs.lemmas.Grind.{fold-append}
use Rattle.std.proofs.lemmas.List.{map-append, length-map, get_or-map}
use Rattle.std.proofs.lemmas.Option.{slice_get-get_or, slice_get-map}
use Rattle.jv_tree.specs.declared.declaration.Member.{Member}
use Rattle.jv_tree.specs.declared.declaration.Member.TheVariants.{Nested}
use Rattle.jv_tree.specs.declared.declaration.TypeDecl.{TypeDecl}
use Rattle.jv_tree.specs.declared.declaration.Unit.{Unit}
use Rattle.jv_tree.specs.DeclTree.{TypeDeclTree, type_decl, MemberTree, nested, field, method, ctor, MemberTrees, no_members, members, UnitTree, member_tree, member_trees, type_decl_tree, tree_of}
use Rattle.jv_layout.proofs.Collecting.{drop_here, nested_tree}
use Rattle.jv_unit.specs.Trees.{decls_in, body_decls, all_decls, decl_at, unit_at, no_unit, no_decl}
use Rattle.jv_unit.specs.Paths.{paths_in, body_paths, file_paths, paths_from, decl_of, nested_at, inner_at, decl_along, decl_by}

-- ---- bodies

pub nested_here : (xs : List Member) (i : ℕ) (d : Member) → i < length xs → nested_at (member_trees xs) i ≡ decl_of (member_tree (get_or xs i d))
nested_here [] i d h = absurd (omega arith)
nested_here (x ∷ xs) zero d h = refl
nested_here (x ∷ xs) (suc i) d h = nested_here xs i d (omega arith)

-- where a declaration nests, there is a member
pub nested_within : (xs : List Member) (i : ℕ) → IsSome (nested_at (member_trees xs) i) → i < length xs
nested_within [] i h = absurd (cc)
nested_within (x ∷ xs) zero h = omega arith
nested_within (x ∷ xs) (suc i) h = let r = nested_within xs i h in omega arith

-- what a member that is no declaration adds to the paths of a body: nothing
skips : (path : List ℕ) (i : ℕ) (x : MemberTree) (xs : MemberTrees) → decl_of x ≡ None → body_paths path i (members x xs) ≡ body_paths path (i + 1) xs
skips path i (nested d) xs e = absurd (cc)
skips path i (field ms t vs) xs e = refl
skips path i (method m) xs e = refl
skips path i (ctor c) xs e = refl

-- what is left of a body, from one of its members on
module _ (path : List ℕ) (xs : List Member) (i : ℕ) (m : Member) (h : i < length xs) (here : get_or xs i m ≡ m) where
  pub rest_is : member_trees (drop i xs) ≡ members (member_tree m) (member_trees (drop (i + 1) xs))
  rest_is = ap member_trees (drop_here xs i m h) ∙ ap (λ x. members (member_tree x) (member_trees (drop (i + 1) xs))) here

  pub skipped : decl_of (member_tree m) ≡ None → body_paths path i (member_trees (drop i xs)) ≡ body_paths path (i + 1) (member_trees (drop (i + 1) xs))
  skipped e = ap (body_paths path i) rest_is ∙ skips path i (member_tree m) (member_trees (drop (i + 1) xs)) e

  pub entered : (d : TypeDecl) → m ≡ Nested d → body_paths path i (member_trees (drop i xs)) ≡ paths_in (path ++ i ∷ []) (type_decl_tree d) ++ body_paths path (i + 1) (member_trees (drop (i + 1) xs))
  entered d e = ap (body_paths path i) (rest_is ∙ ap (λ x. members x (member_trees (drop (i + 1) xs))) (ap member_tree e ∙ nested_tree d))

-- a declaration's own path, and behind it those of its body
pub with_body : (old new : List (List ℕ)) (before after : List (Vec ℕ Global)) (own : Vec ℕ Global) (path : List ℕ) (xs : MemberTrees)
    → map (λ p. p.items) before ≡ old → after ≡ before ++ own ∷ [] → own.items ≡ path → new ≡ map (λ p. p.items) after ++ body_paths path 0 xs → new ≡ old ++ path ∷ body_paths path 0 xs
with_body old new before after own path xs o a p n =
    let more : map (λ p. p.items) after ≡ old ++ path ∷ [] =
    ap (map (λ p. p.items)) a ∙ (map-append (λ p. p.items) before (own ∷ []) ∙ (ap (λ (z : List (List ℕ)). z ++ own.items ∷ []) o ∙ ap (λ (z : List ℕ). old ++ z ∷ []) p)) in
    n ∙ (ap (λ (z : List (List ℕ)). z ++ body_paths path 0 xs) more ∙ append_assoc old (path ∷ []) (body_paths path 0 xs))

-- where there is no item, what holds of none holds
pub of_none : {X : Type 0} (o : Option X) (A : Type 0) (B : X → Type 0) → MatchOption o A B → ((x : X) → o ≡ Some x → ⊥) → A
of_none None A B h n = h
of_none (Some x) A B h n = absurd (n x refl)

-- ---- paths from a declaration

along_none : (path : List ℕ) → decl_along None path ≡ None
along_none [] = refl
along_none (i ∷ path) = along_none path

-- a path that leads to a declaration begins at one
pub along_some : (d : Option TypeDeclTree) (path : List ℕ) → IsSome (decl_along d path) → IsSome d
along_some None path h = sym (ap is_some (along_none path)) ∙ h
along_some (Some d) path h = refl

-- one step of a path
pub along_here : (d : Option TypeDeclTree) (path : List ℕ) (k : ℕ) → k < length path → decl_along d (drop k path) ≡ decl_along (inner_at d (get_or path k 0)) (drop (k + 1) path)
along_here d path k h = ap (decl_along d) (drop_here path k 0 h)

-- the step of a path that leads on goes to a declaration
pub step_some : (d : Option TypeDeclTree) (path : List ℕ) (k : ℕ) → k < length path → IsSome (decl_along d (drop k path)) → IsSome (inner_at d (get_or path k 0))
step_some d path k h s = along_some (inner_at d (get_or path k 0)) (drop (k + 1) path) (sym (ap is_some (along_here d path k h)) ∙ s)

-- ---- paths from a folder

-- past its last step a path has led to where it leads
pub along_end : (d : Option TypeDeclTree) (path : List ℕ) (k : ℕ) → length path ≤ k → decl_along d (drop k path) ≡ d
along_end d path k h = ap (decl_along d) (drop_of_length-le path h)

-- a path that goes on in the body of a declaration: the member there, and where it leads from there
module _ (d : TypeDecl) (path : List ℕ) (k : ℕ) (h : k < length path) (leads : IsSome (decl_along (Some (type_decl_tree d)) (drop k path))) where
  pub leads_at : get_or path k 0 < length d.members.items
  leads_at = nested_within d.members.items (get_or path k 0) (step_some (Some (type_decl_tree d)) path k h leads)

module _ (d : TypeDecl) (path : List ℕ) (k : ℕ) (m : Member) (h : k < length path) (leads : IsSome (decl_along (Some (type_decl_tree d)) (drop k path))) (here : get_or d.members.items (get_or path k 0) m ≡ m) where
  step_is : inner_at (Some (type_decl_tree d)) (get_or path k 0) ≡ decl_of (member_tree m)
  step_is = nested_here d.members.items (get_or path k 0) m (leads_at d path k h leads) ∙ ap (λ x. decl_of (member_tree x)) here

  pub leads_nowhere : decl_of (member_tree m) ≡ None → ⊥
  leads_nowhere e =
      let s : is_some (decl_of (member_tree m)) ≡ true = sym (ap is_some step_is) ∙ step_some (Some (type_decl_tree d)) path k h leads in
      let n : is_some (decl_of (member_tree m)) ≡ false = ap is_some e in
      absurd (cc)

module _ (d : TypeDecl) (path : List ℕ) (k : ℕ) (m : Member) (next : TypeDecl) (h : k < length path) (leads : IsSome (decl_along (Some (type_decl_tree d)) (drop k path))) (here : get_or d.members.items (get_or path k 0) m ≡ m) (is : m ≡ Nested next) where
  pub leads_to : decl_along (Some (type_decl_tree d)) (drop k path) ≡ decl_along (Some (type_decl_tree next)) (drop (k + 1) path)
  leads_to =
      along_here (Some (type_decl_tree d)) path k h
      ∙ ap (λ o. decl_along o (drop (k + 1) path)) (step_is d path k m h leads here ∙ (ap (λ x. decl_of (member_tree x)) is ∙ ap decl_of (nested_tree next)))

module _ (units : List UnitTree) where
  -- one step more
  by_more : (path : List ℕ) (i : ℕ) (d : TypeDeclTree) → decl_by units path ≡ Some d → decl_by units (path ++ i ∷ []) ≡ inner_at (Some d) i
  by_more [] i d e = absurd (cc)
  by_more (f ∷ []) i d e = absurd (cc)
  by_more (f ∷ t ∷ path) i d e = fold-append inner_at (slice_get (unit_at units f).types t) path (i ∷ []) ∙ ap (λ o. inner_at o i) e

  mutual
    by_decl : (path : List ℕ) (d : TypeDeclTree) → decl_by units path ≡ Some d → map (decl_by units) (paths_in path d) ≡ map Some (decls_in d)
    by_decl path (type_decl name ms i es is xs) e =
        let rest = by_body path (type_decl name ms i es is xs) 0 xs e (λ k j h. ap (nested_at xs) (omega arith)) in
        ap (λ o. o ∷ map (decl_by units) (body_paths path 0 xs)) e ∙ ap (λ os. Some (type_decl name ms i es is xs) ∷ os) rest

    -- the members from a place on
    by_body : (path : List ℕ) (d : TypeDeclTree) (i : ℕ) (xs : MemberTrees) → decl_by units path ≡ Some d → ((k j : ℕ) → j ≡ i + k → inner_at (Some d) j ≡ nested_at xs k)
        → map (decl_by units) (body_paths path i xs) ≡ map Some (body_decls xs)
    by_body path d i no_members e h = refl
    by_body path d i (members (nested x) xs) e h =
        let here : decl_by units (path ++ i ∷ []) ≡ Some x = by_more path i d e ∙ h 0 i (omega arith) in
        map-append (decl_by units) (paths_in (path ++ i ∷ []) x) (body_paths path (i + 1) xs)
        ∙ (ap (λ os. os ++ map (decl_by units) (body_paths path (i + 1) xs)) (by_decl (path ++ i ∷ []) x here)
        ∙ (ap (λ os. map Some (decls_in x) ++ os) (by_body path d (i + 1) xs e (λ k j g. h (suc k) j (omega arith)))
        ∙ sym (map-append Some (decls_in x) (body_decls xs))))
    by_body path d i (members (field ms t vs) xs) e h = by_body path d (i + 1) xs e (λ k j g. h (suc k) j (omega arith))
    by_body path d i (members (method m) xs) e h = by_body path d (i + 1) xs e (λ k j g. h (suc k) j (omega arith))
    by_body path d i (members (ctor c) xs) e h = by_body path d (i + 1) xs e (λ k j g. h (suc k) j (omega arith))

  -- the declarations of a file from a place on
  by_file : (f i : ℕ) (ds : List TypeDeclTree) → ((k j : ℕ) → j ≡ i + k → slice_get (unit_at units f).types j ≡ slice_get ds k) → map (decl_by units) (file_paths f i ds) ≡ map Some (flat_map decls_in ds)
  by_file f i [] h = refl
  by_file f i (d ∷ ds) h =
      map-append (decl_by units) (paths_in (f ∷ i ∷ []) d) (file_paths f (i + 1) ds)
      ∙ (ap (λ os. os ++ map (decl_by units) (file_paths f (i + 1) ds)) (by_decl (f ∷ i ∷ []) d (h 0 i (omega arith)))
      ∙ (ap (λ os. map Some (decls_in d) ++ os) (by_file f (i + 1) ds (λ k j g. h (suc k) j (omega arith)))
      ∙ sym (map-append Some (decls_in d) (flat_map decls_in ds))))

  -- the files from a number on
  by_files : (f : ℕ) (us : List UnitTree) → ((k j : ℕ) → j ≡ f + k → unit_at units j ≡ unit_at us k) → map (decl_by units) (paths_from f us) ≡ map Some (all_decls us)
  by_files f [] h = refl
  by_files f (u ∷ us) h =
      let here : (unit_at units f).types ≡ u.types = ap (λ (z : UnitTree). z.types) (h 0 f (omega arith)) in
      map-append (decl_by units) (file_paths f 0 u.types) (paths_from (f + 1) us)
      ∙ (ap (λ os. os ++ map (decl_by units) (paths_from (f + 1) us)) (by_file f 0 u.types (λ k j g. ap (λ (z : List TypeDeclTree). slice_get z j) here ∙ ap (slice_get u.types) (omega arith)))
      ∙ (ap (λ os. map Some (flat_map decls_in u.types) ++ os) (by_files (f + 1) us (λ k j g. h (suc k) j (omega arith)))
      ∙ sym (map-append Some (flat_map decls_in u.types) (all_decls us))))

  -- the paths of a folder lead to its declarations, in their order
  pub by_all : map (decl_by units) (paths_from 0 units) ≡ map Some (all_decls units)
  by_all = by_files 0 units (λ k j h. ap (unit_at units) (omega arith))

  -- the path of a type leads to its declaration
  pub by_number : (t : ℕ) → t < length (all_decls units) → decl_by units (get_or (paths_from 0 units) t []) ≡ Some (decl_at units t)
  by_number t h =
      let long : t < length (paths_from 0 units) = omega (arith, ap length by_all, length-map (paths_from 0 units) (decl_by units), length-map (all_decls units) Some) in
      sym (get_or-map (decl_by units) (paths_from 0 units) t [] None long) ∙ (ap (λ (z : List (Option TypeDeclTree)). get_or z t None) by_all ∙ get_or-map Some (all_decls units) t no_decl None h)

  pub length_paths : length (paths_from 0 units) ≡ length (all_decls units)
  length_paths = sym (length-map (paths_from 0 units) (decl_by units)) ∙ (ap length by_all ∙ length-map (all_decls units) Some)

  -- so does the vector that holds it
  module _ (paths : List (Vec ℕ Global)) (t : ℕ) (path : Vec ℕ Global) (h : t < length (all_decls units)) (same : map (λ p. p.items) paths ≡ paths_from 0 units) (here : path ≡ get_or paths t path) where
    pub path_within : t < length paths
    path_within = omega (arith, h, length_paths, ap length same, length-map paths (λ p. p.items))

    pub path_leads : decl_by units path.items ≡ Some (decl_at units t)
    path_leads =
        ap (λ p. decl_by units p.items) here
        ∙ (ap (decl_by units) (sym (get_or-map (λ p. p.items) paths t path [] path_within) ∙ ap (λ (z : List (List ℕ)). get_or z t []) same)
        ∙ by_number t h)

-- ---- paths from the files themselves

pub get_within : {X : Type 0} (xs : List X) (i : ℕ) → IsSome (slice_get xs i) → i < length xs
get_within [] i h = absurd (cc)
get_within (x ∷ xs) zero h = omega arith
get_within (x ∷ xs) (suc i) h = let r = get_within xs i h in omega arith

-- past the files stands one without declarations
unit_within : (units : List UnitTree) (f i : ℕ) → i < length (unit_at units f).types → f < length units
unit_within [] f i h = absurd (omega arith)
unit_within (u ∷ us) zero i h = omega arith
unit_within (u ∷ us) (suc f) i h = let r = unit_within us f i h in omega arith

-- a path that leads to a declaration, by its parts
by_parts : (units : List UnitTree) (path : List ℕ) → IsSome (decl_by units path) → decl_by units path ≡ decl_along (slice_get (unit_at units (get_or path 0 0)).types (get_or path 1 0)) (drop 2 path)
by_parts units [] h = absurd (cc)
by_parts units (f ∷ []) h = absurd (cc)
by_parts units (f ∷ i ∷ path) h = refl

module _ (files : List Unit) (path : List ℕ) (leads : IsSome (decl_by (map tree_of files) path)) where
  top_within : get_or path 1 0 < length (unit_at (map tree_of files) (get_or path 0 0)).types
  top_within =
      get_within (unit_at (map tree_of files) (get_or path 0 0)).types (get_or path 1 0)
      (along_some (slice_get (unit_at (map tree_of files) (get_or path 0 0)).types (get_or path 1 0)) (drop 2 path) (sym (ap is_some (by_parts (map tree_of files) path leads)) ∙ leads))

  pub file_within : get_or path 0 0 < length files
  file_within = let h = unit_within (map tree_of files) (get_or path 0 0) (get_or path 1 0) top_within in omega (arith, h, length-map files tree_of)

  module _ (u : Unit) (file : get_or files (get_or path 0 0) u ≡ u) where
    types_are : (unit_at (map tree_of files) (get_or path 0 0)).types ≡ map type_decl_tree u.types.items
    types_are = ap (λ (z : UnitTree). z.types) (get_or-map tree_of files (get_or path 0 0) u no_unit file_within ∙ ap tree_of file)

    pub place_within : get_or path 1 0 < length u.types.items
    place_within = let h = top_within in omega (arith, h, ap length types_are, length-map u.types.items type_decl_tree)

    pub from_top : (d : TypeDecl) → get_or u.types.items (get_or path 1 0) d ≡ d → decl_by (map tree_of files) path ≡ decl_along (Some (type_decl_tree d)) (drop 2 path)
    from_top d top =
        by_parts (map tree_of files) path leads
        ∙ ap (λ o. decl_along o (drop 2 path))
        (ap (λ (z : List TypeDeclTree). slice_get z (get_or path 1 0)) types_are
        ∙ (slice_get-map type_decl_tree u.types.items (get_or path 1 0)
        ∙ (ap (option_map type_decl_tree) (slice_get-get_or u.types.items (get_or path 1 0) d place_within) ∙ ap (λ x. Some (type_decl_tree x)) top)))

-- all that is left of a list from a place on
pub rest_of : (xs : List ℕ) (n : ℕ) → take (length xs - n) (drop n xs) ≡ drop n xs
rest_of xs n = ap (λ k. take k (drop n xs)) (sym (length-drop n xs)) ∙ take-length (drop n xs)
