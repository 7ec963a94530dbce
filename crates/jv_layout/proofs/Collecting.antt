-- How many types a declaration gives, and what comes first in a body.
use Rattle.std.proofs.Common.{◌≡◌, ℕ, ◌+◌, ◌<◌, Option, Some, None, List, [], ◌∷◌, length, map, drop, get_or, refl, ap, arith, length-append, add-one}
use Rattle.std.proofs.Math.Seq.{drop-cons}
use Rattle.jv_tree.specs.declared.declaration.TypeDecl.{TypeDecl}
use Rattle.jv_tree.specs.declared.declaration.Member.TheVariants.{Nested}
use Rattle.jv_tree.specs.TypeTree.{ids_of}
use Rattle.jv_tree.proofs.Rows.{members_made}
use Rattle.jv_tree.specs.DeclTree.{TypeDeclTree, type_decl, nested, field, method, ctor, MemberTrees, no_members, members, member_tree, type_decl_tree}
use Rattle.jv_tree.specs.declared.names.NameId.{NameId}
use Rattle.jv_layout.specs.declared.rows.MemberRow.{MemberRow}
use Rattle.jv_layout.specs.declared.rows.MemberKind.{MemberKind}
use Rattle.jv_layout.specs.declared.rows.Modifiers.{Modifiers}
use Rattle.jv_layout.specs.Folder.{decl_types, body_types, decl_count, body_count, file_types, file_count}

mutual
  pub length-decl_types : (f : ℕ) (o : Option ℕ) (t n : ℕ) (d : TypeDeclTree) → length (decl_types f o t n d) ≡ decl_count d
  length-decl_types f o t n (type_decl name ms i es is xs) = omega (arith, length-body_types f n t (n + 1) xs)

  pub length-body_types : (f o t n : ℕ) (xs : MemberTrees) → length (body_types f o t n xs) ≡ body_count xs
  length-body_types f o t n no_members = refl
  length-body_types f o t n (members (nested d) xs) =
      omega (arith, length-append (decl_types f (Some o) t n d) (body_types f o t (n + decl_count d) xs), length-decl_types f (Some o) t n d, length-body_types f o t (n + decl_count d) xs)
  length-body_types f o t n (members (field ms ty vs) xs) = length-body_types f o t n xs
  length-body_types f o t n (members (method m) xs) = length-body_types f o t n xs
  length-body_types f o t n (members (ctor c) xs) = length-body_types f o t n xs

-- the first of what is left of a list
pub drop_here : {X : Type 0} (xs : List X) (i : ℕ) (d : X) → i < length xs → drop i xs ≡ get_or xs i d ∷ drop (i + 1) xs
drop_here xs i d h = rw (add-one, drop-cons xs i d)

-- the tree of a type as a member
pub nested_tree : (d : TypeDecl) → member_tree (Nested d) ≡ nested (type_decl_tree d)
nested_tree d = ap (λ t. nested (type_decl d.name d.mods.words.items d.interface (map ids_of d.extends.items) (map ids_of d.implements.items) t)) (members_made d.members)

-- a member by its parts
abbrev pub row_of : ℕ → MemberKind → NameId → Modifiers → MemberRow
row_of owner kind name ms = record { owner = owner; kind = kind; name = name; modifiers = ms }

pub length-file_types : (f n : ℕ) (ds : List TypeDeclTree) → length (file_types f n ds) ≡ file_count ds
length-file_types f n [] = refl
length-file_types f n (d ∷ ds) = omega (arith, length-append (decl_types f None n n d) (file_types f (n + decl_count d) ds), length-decl_types f None n n d, length-file_types f (n + decl_count d) ds)
