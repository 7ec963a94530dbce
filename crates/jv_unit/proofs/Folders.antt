-- What is kept of a folder agrees with its layout.
use Rattle.std.proofs.Common.{◌≡◌, ℕ, ◌+◌, ◌<◌, ◌^◌, List, Some, length, map, sym, ap, ◌∙◌, arith}
use Rattle.std.specs.List.{slice_get}
use Rattle.std.proofs.lemmas.List.{length-map}
use Rattle.std.proofs.lemmas.List.FromFn.{length-map-range_with_len}
use Rattle.sg_base.specs.declared.scope.Scope.{Scope}
use Rattle.jv_layout.specs.Folder.{LayoutOf, file_row, paths_of, members_from}
use Rattle.jv_layout.specs.Readers.{types_of}
use Rattle.jv_layout.specs.Scopes.{type_scope}
use Rattle.jv_tree.specs.DeclTree.{tree_of}
use Rattle.jv_unit.specs.declared.folder.Folder.{Folder}
use Rattle.jv_unit.specs.declared.member_places.MemberPlace.{MemberPlace}
use Rattle.jv_unit.specs.Kept.{IsWhole}
use Rattle.jv_unit.specs.MemberPlaces.{places_from, own_placed}
use Rattle.jv_unit.specs.Owns.{own_at}
use Rattle.jv_unit.specs.Trees.{all_decls, decl_at}
use Rattle.jv_unit.proofs.Owns.{length_places, owner_within, own_is}
use Rattle.jv_unit.proofs.Trees.{types_of_decls}

-- how many scopes of types there are
pub count_types : (l : LayoutOf) (ss : List Scope) → ss ≡ types_of l → length ss ≡ length l.types
count_types l ss e = ap (λ (ts : List Scope). length ts) e ∙ length-map-range_with_len (type_scope l) 0 (length l.types)

module _ (w : Folder) (h : IsWhole w) where
  -- a folder has a declaration for each type, and a file for each row
  pub decls_are_types : length (all_decls (map tree_of w.files.items)) ≡ length w.layout.types
  decls_are_types = types_of_decls (map tree_of w.files.items) ∙ sym (ap (λ (l : LayoutOf). length l.types) h.folder.layout)

  pub files_are_rows : length w.files.items ≡ length w.layout.files
  files_are_rows =
      sym (length-map w.files.items tree_of) ∙ (sym (length-map (map tree_of w.files.items) (file_row w.names (paths_of w.names (map tree_of w.files.items)))) ∙ sym (ap (λ (l : LayoutOf). length l.files) h.folder.layout))

  pub few_units : length w.layout.files + length w.layout.types < 2 ^ 31
  few_units = omega (arith, h.folder.few)

  -- and a place for each member
  pub rows_are_members : length (members_from 0 (map tree_of w.files.items)) ≡ length w.layout.members
  rows_are_members = sym (ap (λ (l : LayoutOf). length l.members) h.folder.layout)

  pub places_are_members : length w.members.places.items ≡ length w.layout.members
  places_are_members = ap length h.members ∙ (length_places (map tree_of w.files.items) ∙ rows_are_members)

  -- the place of a member leads to it
  module _ (m : ℕ) (p : MemberPlace) (within : m < length w.layout.members) (here : Some p ≡ slice_get w.members.places.items m) where
    at : Some p ≡ slice_get (places_from 0 (map tree_of w.files.items)) m
    at = here ∙ ap (λ (ps : List MemberPlace). slice_get ps m) h.members

    pub owner_of_place : p.owner < length w.layout.types
    owner_of_place = let o = owner_within (map tree_of w.files.items) m p (omega (arith, within, rows_are_members)) at in omega (arith, o, decls_are_types)

    pub own_of_place : own_placed (decl_at (map tree_of w.files.items) p.owner) p.place ≡ Some (own_at (map tree_of w.files.items) m)
    own_of_place = own_is (map tree_of w.files.items) m p (omega (arith, within, rows_are_members)) at

pub ruleset folder_facts = (count_types, decls_are_types, files_are_rows, few_units)
