-- The identifiers of a folder's declarations, members and static imports have numbers of names.
use Rattle.std.proofs.Common.{◌≡◌, ℕ, zero, suc, ◌+◌, ◌<◌, ◌||◌, Bool, true, false, List, [], ◌∷◌, length, length-append, map, get_or, refl, sym, ap, subst, arith}
use Rattle.std.specs.Prelude.{if◌then◌else◌}
use Rattle.std.specs.List.{All, Contains, flat_map}
use Rattle.std.proofs.lemmas.List.{length-map}
use Rattle.std.proofs.lemmas.List.Elements.{All-nil, All-cons, All-head, All-tail, All-append, All-filter, All-get_or, Contains-get_or}
use Rattle.sg_base.proofs.Finite.{Contains-head, Contains-tail}
use Rattle.jv_layout.specs.declared.rows.MemberKind.TheVariants.{DefaultCtor}
use Rattle.jv_layout.specs.declared.rows.MemberRow.{MemberRow}
use Rattle.jv_layout.specs.Folder.{LayoutOf, body_members, decl_count, decl_members, default_ctor as default_members, field_row, file_count, file_members, has_ctor, members_from, layout_of, modifiers_of, no_modifiers, statics_in}
use Rattle.jv_layout.specs.Readers.{statics_of}
use Rattle.jv_member.specs.Bounds.{IsNumberedOwn}
use Rattle.jv_member.specs.Own.{own_field, own_method, own_ctor, default_ctor, no_own}
use Rattle.jv_tree.specs.declared.name.Ident.{Ident}
use Rattle.jv_tree.specs.declared.names.NameId.{NameId}
use Rattle.jv_tree.specs.StmtTree.{VarTree}
use Rattle.jv_tree.specs.TypeTree.{TypeTree}
use Rattle.jv_tree.specs.DeclTree.{ImportTree, TypeDeclTree, type_decl, nested, field, method, ctor, MemberTrees, no_members, members, UnitTree}
use Rattle.jv_tree.specs.Numbered.{IsNumbered, IsNumberedDecl, IsNumberedIdent, IsNumberedType, IsNumberedVar, AreNumberedMembers, AreNumberedNames, IsNumberedImport}
use Rattle.jv_names.specs.Bounds.{IsNamedIn}
use Rattle.jv_unit.specs.Folder.{FolderOf, IsFolderOf}
use Rattle.jv_unit.specs.Owns.{all_owns, body_owns, decl_owns, default_own, own_at}
use Rattle.jv_unit.specs.Trees.{decls_in, body_decls, all_decls, decl_at, unit_at, no_unit, no_decl, extends_of, implements_of}

module _ (n : ℕ) where
  mutual
    decls_numbered : (d : TypeDeclTree) → IsNumberedDecl n d → All (IsNumberedDecl n) (decls_in d)
    decls_numbered (type_decl name ms i es is xs) h = All-cons (IsNumberedDecl n) (type_decl name ms i es is xs) (body_decls xs) h (body_numbered xs h.3)

    body_numbered : (xs : MemberTrees) → AreNumberedMembers n xs → All (IsNumberedDecl n) (body_decls xs)
    body_numbered no_members h = All-nil (IsNumberedDecl n)
    body_numbered (members (nested d) xs) h = All-append (IsNumberedDecl n) (decls_in d) (body_decls xs) (decls_numbered d h.0) (body_numbered xs h.1)
    body_numbered (members (field ms t vs) xs) h = body_numbered xs h.1
    body_numbered (members (method m) xs) h = body_numbered xs h.1
    body_numbered (members (ctor c) xs) h = body_numbered xs h.1

  file_numbered : (ds : List TypeDeclTree) → All (IsNumberedDecl n) ds → All (IsNumberedDecl n) (flat_map decls_in ds)
  file_numbered [] h = All-nil (IsNumberedDecl n)
  file_numbered (d ∷ ds) h =
      All-append (IsNumberedDecl n) (decls_in d) (flat_map decls_in ds) (decls_numbered d (All-head (IsNumberedDecl n) d ds h)) (file_numbered ds (All-tail (IsNumberedDecl n) d ds h))

  all_numbered : (us : List UnitTree) → All (IsNumbered n) us → All (IsNumberedDecl n) (all_decls us)
  all_numbered [] h = All-nil (IsNumberedDecl n)
  all_numbered (u ∷ us) h =
      All-append (IsNumberedDecl n) (flat_map decls_in u.types) (all_decls us) (file_numbered u.types (All-head (IsNumbered n) u us h).2) (all_numbered us (All-tail (IsNumbered n) u us h))

  module _ (units : List UnitTree) (each : (u : UnitTree) → Contains units u → IsNumbered n u) where
    each_of : All (IsNumbered n) units
    each_of k d lt = each (get_or units k d) (Contains-get_or units k d lt)

    pub decl_numbered : (t : ℕ) → t < length (all_decls units) → IsNumberedDecl n (decl_at units t)
    decl_numbered t h = All-get_or (IsNumberedDecl n) (all_decls units) t no_decl h (all_numbered units each_of)

    pub imports_numbered : (f : ℕ) → f < length units → All (IsNumberedImport n) (unit_at units f).imports
    imports_numbered f h = (each (unit_at units f) (Contains-get_or units f no_unit h)).1

-- the names that a declaration extends and implements
pub extends_numbered : (n : ℕ) (d : TypeDeclTree) → IsNumberedDecl n d → AreNumberedNames n (extends_of d)
extends_numbered n (type_decl name ms i es is xs) h = h.1

pub implements_numbered : (n : ℕ) (d : TypeDeclTree) → IsNumberedDecl n d → AreNumberedNames n (implements_of d)
implements_numbered n (type_decl name ms i es is xs) h = h.2

-- ---- static imports

of_files : (n : ℕ) (us : List UnitTree) → ((u : UnitTree) → Contains us u → IsNumbered n u) → (f : ℕ) → All (IsNumberedImport n) (get_or (map statics_in us) f [])
of_files n [] each f = All-nil (IsNumberedImport n)
of_files n (u ∷ us) each zero = All-filter (λ (i : ImportTree). i.is_static) (IsNumberedImport n) u.imports (each u (Contains-head u us)).1
of_files n (u ∷ us) each (suc f) = of_files n us (λ v c. each v (Contains-tail u v us c)) f

-- of each file that is laid out, and where there is none
pub statics_numbered : (n : ℕ) (names : List (List ℕ)) (us : List UnitTree) → ((u : UnitTree) → Contains us u → IsNumbered n u) → (f : ℕ) → All (IsNumberedImport n) (statics_of (layout_of names us) f)
statics_numbered n names us each f = of_files n us each f

-- so the layout of a folder names its own rows, and names of the folder alone
pub named_in : (w : FolderOf) → IsFolderOf w → IsNamedIn w.layout (length w.names)
named_in w h = record {
  linked = h.linked;
  statics = λ f. subst (λ (l : LayoutOf). All (IsNumberedImport (length w.names)) (statics_of l f)) (sym h.layout) (statics_numbered (length w.names) w.names w.files h.numbered f);
}

-- ---- members

module _ (n : ℕ) where
  default_numbered : (name : Ident) (b : Bool) → IsNumberedIdent n name → All (IsNumberedOwn n) (if b then [] else (default_ctor name ∷ []))
  default_numbered name true h = All-nil (IsNumberedOwn n)
  default_numbered name false h = All-cons (IsNumberedOwn n) (default_ctor name) [] h (All-nil (IsNumberedOwn n))

  fields_numbered : (ms : List ℕ) (t : TypeTree) (vs : List VarTree) → IsNumberedType n t → All (IsNumberedVar n) vs → All (IsNumberedOwn n) (map (own_field ms t) vs)
  fields_numbered ms t [] h k = All-nil (IsNumberedOwn n)
  fields_numbered ms t (v ∷ vs) h k = All-cons (IsNumberedOwn n) (own_field ms t v) (map (own_field ms t) vs) (h, All-head (IsNumberedVar n) v vs k) (fields_numbered ms t vs h (All-tail (IsNumberedVar n) v vs k))

  mutual
    decl_owns_numbered : (d : TypeDeclTree) → IsNumberedDecl n d → All (IsNumberedOwn n) (decl_owns d)
    decl_owns_numbered (type_decl name ms i es is xs) h = All-append (IsNumberedOwn n) (default_own name i xs) (body_owns xs) (default_numbered name (i || has_ctor xs) h.0) (body_owns_numbered xs h.3)

    body_owns_numbered : (xs : MemberTrees) → AreNumberedMembers n xs → All (IsNumberedOwn n) (body_owns xs)
    body_owns_numbered no_members h = All-nil (IsNumberedOwn n)
    body_owns_numbered (members (nested d) xs) h = All-append (IsNumberedOwn n) (decl_owns d) (body_owns xs) (decl_owns_numbered d h.0) (body_owns_numbered xs h.1)
    body_owns_numbered (members (field ms t vs) xs) h = All-append (IsNumberedOwn n) (map (own_field ms t) vs) (body_owns xs) (fields_numbered ms t vs h.0.0 h.0.1) (body_owns_numbered xs h.1)
    body_owns_numbered (members (method m) xs) h = All-cons (IsNumberedOwn n) (own_method m) (body_owns xs) h.0 (body_owns_numbered xs h.1)
    body_owns_numbered (members (ctor c) xs) h = All-cons (IsNumberedOwn n) (own_ctor c) (body_owns xs) h.0 (body_owns_numbered xs h.1)

  file_owns_numbered : (ds : List TypeDeclTree) → All (IsNumberedDecl n) ds → All (IsNumberedOwn n) (flat_map decl_owns ds)
  file_owns_numbered [] h = All-nil (IsNumberedOwn n)
  file_owns_numbered (d ∷ ds) h =
      All-append (IsNumberedOwn n) (decl_owns d) (flat_map decl_owns ds) (decl_owns_numbered d (All-head (IsNumberedDecl n) d ds h)) (file_owns_numbered ds (All-tail (IsNumberedDecl n) d ds h))

  all_owns_numbered : (us : List UnitTree) → All (IsNumbered n) us → All (IsNumberedOwn n) (all_owns us)
  all_owns_numbered [] h = All-nil (IsNumberedOwn n)
  all_owns_numbered (u ∷ us) h =
      All-append (IsNumberedOwn n) (flat_map decl_owns u.types) (all_owns us) (file_owns_numbered u.types (All-head (IsNumbered n) u us h).2) (all_owns_numbered us (All-tail (IsNumbered n) u us h))

  pub owns_numbered : (units : List UnitTree) (each : (u : UnitTree) → Contains units u → IsNumbered n u) (m : ℕ) → m < length (all_owns units) → IsNumberedOwn n (own_at units m)
  owns_numbered units each m h = All-get_or (IsNumberedOwn n) (all_owns units) m no_own h (all_owns_numbered units (each_of n units each))

-- ---- as many members as the layout has

default_count : (o : ℕ) (name : Ident) (b : Bool) → length (if b then [] else (default_ctor name ∷ [])) ≡ length {A = MemberRow} (if b then [] else (record { owner = o; kind = DefaultCtor; name = name.id; modifiers = no_modifiers } ∷ []))
default_count o name true = refl
default_count o name false = refl

mutual
  decl_length : (o : ℕ) (d : TypeDeclTree) → length (decl_owns d) ≡ length (decl_members o d)
  decl_length o (type_decl name ms i es is xs) =
      omega (arith, length-append (default_own name i xs) (body_owns xs), length-append (default_members o name.id i xs) (body_members o name.id (o + 1) xs), default_count o name (i || has_ctor xs), body_length o name.id (o + 1) xs)

  body_length : (o : ℕ) (class : NameId) (k : ℕ) (xs : MemberTrees) → length (body_owns xs) ≡ length (body_members o class k xs)
  body_length o class k no_members = refl
  body_length o class k (members (nested d) xs) =
      omega (arith, length-append (decl_owns d) (body_owns xs), length-append (decl_members k d) (body_members o class (k + decl_count d) xs), decl_length k d, body_length o class (k + decl_count d) xs)
  body_length o class k (members (field ms t vs) xs) =
      omega (arith, length-append (map (own_field ms t) vs) (body_owns xs), length-append (map (field_row o (modifiers_of ms)) vs) (body_members o class k xs), length-map vs (own_field ms t), length-map vs (field_row o (modifiers_of ms)), body_length o class k xs)
  body_length o class k (members (method m) xs) = ap suc (body_length o class k xs)
  body_length o class k (members (ctor c) xs) = ap suc (body_length o class k xs)

file_length : (k : ℕ) (ds : List TypeDeclTree) → length (flat_map decl_owns ds) ≡ length (file_members k ds)
file_length k [] = refl
file_length k (d ∷ ds) = omega (arith, length-append (decl_owns d) (flat_map decl_owns ds), length-append (decl_members k d) (file_members (k + decl_count d) ds), decl_length k d, file_length (k + decl_count d) ds)

lengths_from : (k : ℕ) (us : List UnitTree) → length (all_owns us) ≡ length (members_from k us)
lengths_from k [] = refl
lengths_from k (u ∷ us) =
    omega (arith, length-append (flat_map decl_owns u.types) (all_owns us), length-append (file_members k u.types) (members_from (k + file_count u.types) us), file_length k u.types, lengths_from (k + file_count u.types) us)

pub members_are_owns : (us : List UnitTree) → length (all_owns us) ≡ length (members_from 0 us)
members_are_owns us = lengths_from 0 us
