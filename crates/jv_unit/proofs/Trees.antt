-- The types of a folder are its declarations, in the same order.
use Rattle.std.proofs.Common.{◌≡◌, ℕ, ◌+◌, ◌<◌, Bool, List, [], ◌∷◌, ◌++◌, length, map, get_or, Option, None, Some, refl, sym, ap, ◌∙◌, arith}
use Rattle.std.specs.List.{flat_map}
use Rattle.std.proofs.lemmas.List.{map-append, length-map, get_or-map}
use Rattle.jv_tree.specs.declared.names.NameId.{NameId}
use Rattle.jv_tree.specs.DeclTree.{TypeDeclTree, type_decl, nested, field, method, ctor, MemberTrees, no_members, members, UnitTree}
use Rattle.jv_layout.specs.declared.rows.Modifiers.{Modifiers}
use Rattle.jv_layout.specs.declared.rows.TypeRow.{TypeRow}
use Rattle.jv_layout.specs.Folder.{modifiers_of, decl_count, decl_types, body_types, file_types, file_count, types_from}
use Rattle.jv_layout.proofs.Collecting.{length-decl_types, length-file_types}
use Rattle.jv_unit.specs.Trees.{decls_in, body_decls, all_decls, decl_at, no_decl, name_of, mods_of, is_interface}

-- what a row says of a type by itself: its name, its modifiers, whether it is an interface
abbrev Head : Type 0
Head = NameId × Modifiers × Bool

abbrev row_head : TypeRow → Head
row_head r = (r.name, r.modifiers, r.interface)

abbrev decl_head : TypeDeclTree → Head
decl_head d = ((name_of d).id, modifiers_of (mods_of d), is_interface d)

mutual
  heads_in : (f : ℕ) (o : Option ℕ) (t n : ℕ) (d : TypeDeclTree) → map row_head (decl_types f o t n d) ≡ map decl_head (decls_in d)
  heads_in f o t n (type_decl name ms i es is xs) = ap (λ hs. (name.id, modifiers_of ms, i) ∷ hs) (body_heads f n t (n + 1) xs)

  body_heads : (f o t n : ℕ) (xs : MemberTrees) → map row_head (body_types f o t n xs) ≡ map decl_head (body_decls xs)
  body_heads f o t n no_members = refl
  body_heads f o t n (members (nested d) xs) =
      map-append row_head (decl_types f (Some o) t n d) (body_types f o t (n + decl_count d) xs)
      ∙ (ap (λ hs. hs ++ map row_head (body_types f o t (n + decl_count d) xs)) (heads_in f (Some o) t n d)
      ∙ (ap (λ hs. map decl_head (decls_in d) ++ hs) (body_heads f o t (n + decl_count d) xs)
      ∙ sym (map-append decl_head (decls_in d) (body_decls xs))))
  body_heads f o t n (members (field ms ty vs) xs) = body_heads f o t n xs
  body_heads f o t n (members (method m) xs) = body_heads f o t n xs
  body_heads f o t n (members (ctor c) xs) = body_heads f o t n xs

file_heads : (f n : ℕ) (ds : List TypeDeclTree) → map row_head (file_types f n ds) ≡ map decl_head (flat_map decls_in ds)
file_heads f n [] = refl
file_heads f n (d ∷ ds) =
    map-append row_head (decl_types f None n n d) (file_types f (n + decl_count d) ds)
    ∙ (ap (λ hs. hs ++ map row_head (file_types f (n + decl_count d) ds)) (heads_in f None n n d)
    ∙ (ap (λ hs. map decl_head (decls_in d) ++ hs) (file_heads f (n + decl_count d) ds)
    ∙ sym (map-append decl_head (decls_in d) (flat_map decls_in ds))))

-- file by file, from the file f and the type n on
heads_from : (f n : ℕ) (us : List UnitTree) → map row_head (types_from f n us) ≡ map decl_head (all_decls us)
heads_from f n [] = refl
heads_from f n (u ∷ us) =
    map-append row_head (file_types f n u.types) (types_from (f + 1) (n + file_count u.types) us)
    ∙ (ap (λ hs. hs ++ map row_head (types_from (f + 1) (n + file_count u.types) us)) (file_heads f n u.types)
    ∙ (ap (λ hs. map decl_head (flat_map decls_in u.types) ++ hs) (heads_from (f + 1) (n + file_count u.types) us)
    ∙ sym (map-append decl_head (flat_map decls_in u.types) (all_decls us))))

-- how many declarations nest in one, itself counted, and how many a file has
pub length-decls_in : (d : TypeDeclTree) → length (decls_in d) ≡ decl_count d
length-decls_in d = sym (length-map (decls_in d) decl_head) ∙ (ap length (sym (heads_in 0 None 0 0 d)) ∙ (length-map (decl_types 0 None 0 0 d) row_head ∙ length-decl_types 0 None 0 0 d))

pub length-file_decls : (ds : List TypeDeclTree) → length (flat_map decls_in ds) ≡ file_count ds
length-file_decls ds = sym (length-map (flat_map decls_in ds) decl_head) ∙ (ap length (sym (file_heads 0 0 ds)) ∙ (length-map (file_types 0 0 ds) row_head ∙ length-file_types 0 0 ds))

-- there are as many types as declarations
pub types_of_decls : (units : List UnitTree) → length (all_decls units) ≡ length (types_from 0 0 units)
types_of_decls units = sym (length-map (all_decls units) decl_head) ∙ (ap length (sym (heads_from 0 0 units)) ∙ length-map (types_from 0 0 units) row_head)

-- the row of a type has the name and the modifiers of its declaration, and says whether that is an interface
module _ (units : List UnitTree) (t : ℕ) (d : TypeRow) (h : t < length (all_decls units)) where
  head_of_type : row_head (get_or (types_from 0 0 units) t d) ≡ decl_head (decl_at units t)
  head_of_type =
      sym (get_or-map row_head (types_from 0 0 units) t d (row_head d) (omega (arith, h, types_of_decls units)))
      ∙ (ap (λ (hs : List Head). get_or hs t (row_head d)) (heads_from 0 0 units) ∙ get_or-map decl_head (all_decls units) t no_decl (row_head d) h)

  pub name_of_type : (get_or (types_from 0 0 units) t d).name ≡ (name_of (decl_at units t)).id
  name_of_type = ap (λ (x : Head). x.0) head_of_type

  pub modifiers_of_type : (get_or (types_from 0 0 units) t d).modifiers ≡ modifiers_of (mods_of (decl_at units t))
  modifiers_of_type = ap (λ (x : Head). x.1) head_of_type

  pub interface_of_type : (get_or (types_from 0 0 units) t d).interface ≡ is_interface (decl_at units t)
  interface_of_type = ap (λ (x : Head). x.2) head_of_type
