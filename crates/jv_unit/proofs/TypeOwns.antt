-- The members of a type by its declaration are those that have its number in the layout.
use Rattle.std.proofs.Common.{◌≡◌, ℕ, zero, suc, ◌+◌, ◌==◌, ◌<◌, Bool, true, false, cond, List, [], ◌∷◌, ◌++◌, length, map, get_or, Option, None, Some, refl, sym, ap, ◌∙◌, arith, append_assoc}
use Rattle.std.specs.Prelude.{if◌then◌else◌, ◌||◌}
use Rattle.std.specs.List.{cons_option, filter, filter_map, flat_map, range_with_len}
use Rattle.std.proofs.lemmas.Bool.{eq-eqb, eqb-true, ne_eqb}
use Rattle.std.proofs.lemmas.List.{append-nil, map-append, length-map, get_or-map}
use Rattle.std.proofs.lemmas.List.Elements.{filter_map-append}
use Rattle.jv_tree.specs.declared.name.Ident.{Ident}
use Rattle.jv_tree.specs.declared.names.NameId.{NameId}
use Rattle.jv_tree.specs.TypeTree.{TypeTree}
use Rattle.jv_tree.specs.DeclTree.{TypeDeclTree, type_decl, nested, field, method, ctor, MemberTrees, no_members, members, UnitTree}
use Rattle.jv_tree.specs.StmtTree.{VarTree}
use Rattle.jv_layout.specs.declared.rows.MemberRow.{MemberRow}
use Rattle.jv_layout.specs.Folder.{layout_of, modifiers_of, has_ctor, decl_count, file_count, field_row, default_ctor as default_row, decl_members, body_members, file_members, members_from}
use Rattle.jv_layout.specs.Readers.{member_at, members_of_type, no_member}
use Rattle.jv_member.specs.Own.{OwnMember, own_field, own_method, own_ctor, default_ctor, body_own, no_own, own_members}
use Rattle.jv_unit.specs.Owns.{default_own, decl_owns, body_owns, all_owns, own_at}
use Rattle.jv_unit.proofs.Trees.{length-decls_in, length-file_decls}
use Rattle.jv_unit.specs.Trees.{decls_in, body_decls, all_decls, decl_at, no_decl}

-- a member with the number of its type
abbrev Numbered : Type 0
Numbered = ℕ × OwnMember

abbrev numbered : ℕ → List OwnMember → List Numbered
numbered n os = map (λ (o : OwnMember). (n, o)) os

abbrev mutual
  -- the members of a declaration with the number n and of those that nest in it, with the numbers of their types
  decl_pairs : ℕ → TypeDeclTree → List Numbered
  decl_pairs n (type_decl name ms i es is xs) = numbered n (default_own name i xs) ++ body_pairs n (n + 1) xs

  -- those of a body, of whose types the first has the number n
  body_pairs : ℕ → ℕ → MemberTrees → List Numbered
  body_pairs owner n no_members = []
  body_pairs owner n (members (nested d) xs) = decl_pairs n d ++ body_pairs owner (n + decl_count d) xs
  body_pairs owner n (members (field ms t vs) xs) = numbered owner (map (own_field ms t) vs) ++ body_pairs owner n xs
  body_pairs owner n (members (method m) xs) = (owner, own_method m) ∷ body_pairs owner n xs
  body_pairs owner n (members (ctor c) xs) = (owner, own_ctor c) ∷ body_pairs owner n xs

abbrev file_pairs : ℕ → List TypeDeclTree → List Numbered
file_pairs n [] = []
file_pairs n (d ∷ ds) = decl_pairs n d ++ file_pairs (n + decl_count d) ds

abbrev pairs_from : ℕ → List UnitTree → List Numbered
pairs_from n [] = []
pairs_from n (u ∷ us) = file_pairs n u.types ++ pairs_from (n + file_count u.types) us

-- ---- they are the members of the trees, and the rows of the layout have their numbers

abbrev number_of : Numbered → ℕ
number_of p = p.0

abbrev member_of : Numbered → OwnMember
member_of p = p.1

abbrev owner_of_row : MemberRow → ℕ
owner_of_row r = r.owner

numbered_members : (n : ℕ) (os : List OwnMember) → map member_of (numbered n os) ≡ os
numbered_members n [] = refl
numbered_members n (o ∷ os) = ap (λ (z : List OwnMember). o ∷ z) (numbered_members n os)

-- parts one behind the other
parts : {X Y Z : Type 0} (f : X → Z) (g : Y → Z) (a b : List X) (c d : List Y) → map f a ≡ map g c → map f b ≡ map g d → map f (a ++ b) ≡ map g (c ++ d)
parts {X} {Y} {Z} f g a b c d h k = map-append f a b ∙ (ap (λ (z : List Z). z ++ map f b) h ∙ (ap (λ (z : List Z). map g c ++ z) k ∙ sym (map-append g c d)))

members_parts : (a b : List Numbered) (c d : List OwnMember) → map member_of a ≡ c → map member_of b ≡ d → map member_of (a ++ b) ≡ c ++ d
members_parts a b c d h k = map-append member_of a b ∙ (ap (λ (z : List OwnMember). z ++ map member_of b) h ∙ ap (λ (z : List OwnMember). c ++ z) k)

mutual
  decl_are : (n : ℕ) (d : TypeDeclTree) → map member_of (decl_pairs n d) ≡ decl_owns d
  decl_are n (type_decl name ms i es is xs) =
      members_parts (numbered n (default_own name i xs)) (body_pairs n (n + 1) xs) (default_own name i xs) (body_owns xs) (numbered_members n (default_own name i xs)) (body_are n (n + 1) xs)

  body_are : (owner n : ℕ) (xs : MemberTrees) → map member_of (body_pairs owner n xs) ≡ body_owns xs
  body_are owner n no_members = refl
  body_are owner n (members (nested d) xs) = members_parts (decl_pairs n d) (body_pairs owner (n + decl_count d) xs) (decl_owns d) (body_owns xs) (decl_are n d) (body_are owner (n + decl_count d) xs)
  body_are owner n (members (field ms t vs) xs) =
      members_parts (numbered owner (map (own_field ms t) vs)) (body_pairs owner n xs) (map (own_field ms t) vs) (body_owns xs) (numbered_members owner (map (own_field ms t) vs)) (body_are owner n xs)
  body_are owner n (members (method m) xs) = ap (λ (z : List OwnMember). own_method m ∷ z) (body_are owner n xs)
  body_are owner n (members (ctor c) xs) = ap (λ (z : List OwnMember). own_ctor c ∷ z) (body_are owner n xs)

file_are : (n : ℕ) (ds : List TypeDeclTree) → map member_of (file_pairs n ds) ≡ flat_map decl_owns ds
file_are n [] = refl
file_are n (d ∷ ds) = members_parts (decl_pairs n d) (file_pairs (n + decl_count d) ds) (decl_owns d) (flat_map decl_owns ds) (decl_are n d) (file_are (n + decl_count d) ds)

pairs_are : (n : ℕ) (us : List UnitTree) → map member_of (pairs_from n us) ≡ all_owns us
pairs_are n [] = refl
pairs_are n (u ∷ us) = members_parts (file_pairs n u.types) (pairs_from (n + file_count u.types) us) (flat_map decl_owns u.types) (all_owns us) (file_are n u.types) (pairs_are (n + file_count u.types) us)

default_numbers : (n : ℕ) (name : Ident) (b : Bool) (row : MemberRow) → row.owner ≡ n → map number_of (numbered n (if b then [] else (default_ctor name ∷ []))) ≡ map owner_of_row (if b then [] else (row ∷ []))
default_numbers n name true row e = refl
default_numbers n name false row e = ap (λ (k : ℕ). k ∷ []) (sym e)

field_numbers : (owner : ℕ) (ms : List ℕ) (t : TypeTree) (vs : List VarTree) → map number_of (numbered owner (map (own_field ms t) vs)) ≡ map owner_of_row (map (field_row owner (modifiers_of ms)) vs)
field_numbers owner ms t [] = refl
field_numbers owner ms t (v ∷ vs) = ap (λ (z : List ℕ). owner ∷ z) (field_numbers owner ms t vs)

mutual
  decl_numbers : (n : ℕ) (d : TypeDeclTree) → map number_of (decl_pairs n d) ≡ map owner_of_row (decl_members n d)
  decl_numbers n (type_decl name ms i es is xs) =
      parts number_of owner_of_row (numbered n (default_own name i xs)) (body_pairs n (n + 1) xs) (default_row n name.id i xs) (body_members n name.id (n + 1) xs) (default_numbers n name (i || has_ctor xs) _ refl) (body_numbers n (n + 1) name.id xs)

  body_numbers : (owner n : ℕ) (class : NameId) (xs : MemberTrees) → map number_of (body_pairs owner n xs) ≡ map owner_of_row (body_members owner class n xs)
  body_numbers owner n class no_members = refl
  body_numbers owner n class (members (nested d) xs) =
      parts number_of owner_of_row (decl_pairs n d) (body_pairs owner (n + decl_count d) xs) (decl_members n d) (body_members owner class (n + decl_count d) xs) (decl_numbers n d) (body_numbers owner (n + decl_count d) class xs)
  body_numbers owner n class (members (field ms t vs) xs) =
      parts number_of owner_of_row (numbered owner (map (own_field ms t) vs)) (body_pairs owner n xs) (map (field_row owner (modifiers_of ms)) vs) (body_members owner class n xs) (field_numbers owner ms t vs) (body_numbers owner n class xs)
  body_numbers owner n class (members (method m) xs) = ap (λ (z : List ℕ). owner ∷ z) (body_numbers owner n class xs)
  body_numbers owner n class (members (ctor c) xs) = ap (λ (z : List ℕ). owner ∷ z) (body_numbers owner n class xs)

file_numbers : (n : ℕ) (ds : List TypeDeclTree) → map number_of (file_pairs n ds) ≡ map owner_of_row (file_members n ds)
file_numbers n [] = refl
file_numbers n (d ∷ ds) =
    parts number_of owner_of_row (decl_pairs n d) (file_pairs (n + decl_count d) ds) (decl_members n d) (file_members (n + decl_count d) ds) (decl_numbers n d) (file_numbers (n + decl_count d) ds)

pairs_numbers : (n : ℕ) (us : List UnitTree) → map number_of (pairs_from n us) ≡ map owner_of_row (members_from n us)
pairs_numbers n [] = refl
pairs_numbers n (u ∷ us) =
    parts number_of owner_of_row (file_pairs n u.types) (pairs_from (n + file_count u.types) us) (file_members n u.types) (members_from (n + file_count u.types) us) (file_numbers n u.types) (pairs_numbers (n + file_count u.types) us)

-- ---- those of one type

module _ (t : ℕ) where
  -- the member, where it is one of the type
  abbrev of_type : Numbered → Option OwnMember
  of_type p = cond (p.0 == t) (Some p.1) None

  abbrev of_type_in : List Numbered → List OwnMember
  of_type_in ps = filter_map of_type ps

  -- the members of the declaration with the number of the type, of declarations of which the first has the number n
  abbrev picked : ℕ → List TypeDeclTree → List OwnMember
  picked n [] = []
  picked n (d ∷ ds) = cond (n == t) (own_members d) [] ++ picked (n + 1) ds

  own_all : (n : ℕ) (os : List OwnMember) → (n == t) ≡ true → of_type_in (numbered n os) ≡ os
  own_all n [] e = refl
  own_all n (o ∷ os) e = (λ i. cons_option (cond (e i) (Some o) None) (of_type_in (numbered n os))) ∙ ap (λ (z : List OwnMember). o ∷ z) (own_all n os e)

  own_none : (n : ℕ) (os : List OwnMember) → (n == t) ≡ false → of_type_in (numbered n os) ≡ []
  own_none n [] e = refl
  own_none n (o ∷ os) e = (λ i. cons_option (cond (e i) (Some o) None) (of_type_in (numbered n os))) ∙ own_none n os e

  -- behind the number of the type there is none
  past_picked : (n : ℕ) (ds : List TypeDeclTree) → t < n → picked n ds ≡ []
  past_picked n [] l = refl
  past_picked n (d ∷ ds) l = (λ i. cond (ne_eqb n t (λ e. omega (arith, e, l)) i) (own_members d) [] ++ picked (n + 1) ds) ∙ past_picked (n + 1) ds (omega (arith, l))

  picked_parts : (n m : ℕ) (ds es : List TypeDeclTree) → n + length ds ≡ m → picked n (ds ++ es) ≡ picked n ds ++ picked m es
  picked_parts n m [] es h = ap (λ (k : ℕ). picked k es) (omega (arith, h))
  picked_parts n m (d ∷ ds) es h =
      ap (λ (z : List OwnMember). cond (n == t) (own_members d) [] ++ z) (picked_parts (n + 1) m ds es (omega (arith, h)))
      ∙ sym (append_assoc (cond (n == t) (own_members d) []) (picked (n + 1) ds) (picked m es))

  of_parts : (ps qs : List Numbered) (a b : List OwnMember) → of_type_in ps ≡ a → of_type_in qs ≡ b → of_type_in (ps ++ qs) ≡ a ++ b
  of_parts ps qs a b h k = filter_map-append of_type ps qs ∙ (λ i. h i ++ k i)

  mutual
    decl_picked : (n : ℕ) (d : TypeDeclTree) → of_type_in (decl_pairs n d) ≡ picked n (decls_in d)
    decl_picked n (type_decl name ms i es is xs) =
        let own = default_own name i xs in
        let all = own_members (type_decl name ms i es is xs) in
        (elim (n == t) as (λ (b : Bool). (n == t) ≡ b → of_type_in (decl_pairs n (type_decl name ms i es is xs)) ≡ cond b all [] ++ picked (n + 1) (body_decls xs)) [
          | true ↦ (λ e.
              of_parts (numbered n own) (body_pairs n (n + 1) xs) own (body_own xs) (own_all n own e) (body_all n (n + 1) xs e (let is : n ≡ t = eqb-true n t e in omega (arith, is)))
              ∙ (sym (append-nil all) ∙ ap (λ (z : List OwnMember). all ++ z) (sym (past_picked (n + 1) (body_decls xs) (let is : n ≡ t = eqb-true n t e in omega (arith, is))))))
          | false ↦ (λ e. of_parts (numbered n own) (body_pairs n (n + 1) xs) [] (picked (n + 1) (body_decls xs)) (own_none n own e) (body_picked n (n + 1) xs e))
        ]) refl

    -- the body of another type, and of the type itself
    body_picked : (owner n : ℕ) (xs : MemberTrees) → (owner == t) ≡ false → of_type_in (body_pairs owner n xs) ≡ picked n (body_decls xs)
    body_picked owner n no_members e = refl
    body_picked owner n (members (nested d) xs) e =
        of_parts (decl_pairs n d) (body_pairs owner (n + decl_count d) xs) (picked n (decls_in d)) (picked (n + decl_count d) (body_decls xs)) (decl_picked n d) (body_picked owner (n + decl_count d) xs e)
        ∙ sym (picked_parts n (n + decl_count d) (decls_in d) (body_decls xs) (omega (arith, length-decls_in d)))
    body_picked owner n (members (field ms ty vs) xs) e =
        of_parts (numbered owner (map (own_field ms ty) vs)) (body_pairs owner n xs) [] (picked n (body_decls xs)) (own_none owner (map (own_field ms ty) vs) e) (body_picked owner n xs e)
    body_picked owner n (members (method m) xs) e = of_parts (numbered owner (own_method m ∷ [])) (body_pairs owner n xs) [] (picked n (body_decls xs)) (own_none owner (own_method m ∷ []) e) (body_picked owner n xs e)
    body_picked owner n (members (ctor c) xs) e = of_parts (numbered owner (own_ctor c ∷ [])) (body_pairs owner n xs) [] (picked n (body_decls xs)) (own_none owner (own_ctor c ∷ []) e) (body_picked owner n xs e)

    body_all : (owner n : ℕ) (xs : MemberTrees) → (owner == t) ≡ true → t < n → of_type_in (body_pairs owner n xs) ≡ body_own xs
    body_all owner n no_members e l = refl
    body_all owner n (members (nested d) xs) e l =
        of_parts (decl_pairs n d) (body_pairs owner (n + decl_count d) xs) [] (body_own xs) (decl_picked n d ∙ past_picked n (decls_in d) l) (body_all owner (n + decl_count d) xs e (omega (arith, l)))
    body_all owner n (members (field ms ty vs) xs) e l =
        of_parts (numbered owner (map (own_field ms ty) vs)) (body_pairs owner n xs) (map (own_field ms ty) vs) (body_own xs) (own_all owner (map (own_field ms ty) vs) e) (body_all owner n xs e l)
    body_all owner n (members (method m) xs) e l = of_parts (numbered owner (own_method m ∷ [])) (body_pairs owner n xs) (own_method m ∷ []) (body_own xs) (own_all owner (own_method m ∷ []) e) (body_all owner n xs e l)
    body_all owner n (members (ctor c) xs) e l = of_parts (numbered owner (own_ctor c ∷ [])) (body_pairs owner n xs) (own_ctor c ∷ []) (body_own xs) (own_all owner (own_ctor c ∷ []) e) (body_all owner n xs e l)

  file_picked : (n : ℕ) (ds : List TypeDeclTree) → of_type_in (file_pairs n ds) ≡ picked n (flat_map decls_in ds)
  file_picked n [] = refl
  file_picked n (d ∷ ds) =
      of_parts (decl_pairs n d) (file_pairs (n + decl_count d) ds) (picked n (decls_in d)) (picked (n + decl_count d) (flat_map decls_in ds)) (decl_picked n d) (file_picked (n + decl_count d) ds)
      ∙ sym (picked_parts n (n + decl_count d) (decls_in d) (flat_map decls_in ds) (omega (arith, length-decls_in d)))

  all_picked : (n : ℕ) (us : List UnitTree) → of_type_in (pairs_from n us) ≡ picked n (all_decls us)
  all_picked n [] = refl
  all_picked n (u ∷ us) =
      of_parts (file_pairs n u.types) (pairs_from (n + file_count u.types) us) (picked n (flat_map decls_in u.types)) (picked (n + file_count u.types) (all_decls us)) (file_picked n u.types) (all_picked (n + file_count u.types) us)
      ∙ sym (picked_parts n (n + file_count u.types) (flat_map decls_in u.types) (all_decls us) (omega (arith, length-file_decls u.types)))

  -- the declaration with the number of the type
  picked_is : (n k : ℕ) (ds : List TypeDeclTree) → t ≡ n + k → k < length ds → picked n ds ≡ own_members (get_or ds k no_decl)
  picked_is n k [] e l = absurd (omega (arith, l))
  picked_is n zero (d ∷ ds) e l =
      (λ i. cond (eq-eqb n t (let is : n ≡ t = omega (arith, e) in is) i) (own_members d) [] ++ past_picked (n + 1) ds (omega (arith, e)) i) ∙ append-nil (own_members d)
  picked_is n (suc k) (d ∷ ds) e l =
      (λ i. cond (ne_eqb n t (λ is. omega (arith, e, is)) i) (own_members d) [] ++ picked (n + 1) ds) ∙ picked_is (n + 1) k ds (omega (arith, e)) (omega (arith, l))

  -- ---- by their numbers

  module _ (is_own : ℕ → Bool) (own : ℕ → OwnMember) where
    one_more : (k : ℕ) (b : Bool) (o : OwnMember) (ms : List ℕ) → is_own k ≡ b → own k ≡ o → map own (cond (is_own k) (k ∷ ms) ms) ≡ cons_option (cond b (Some o) None) (map own ms)
    one_more k true o ms e h = ap (λ (b : Bool). map own (cond b (k ∷ ms) ms)) e ∙ ap (λ (x : OwnMember). x ∷ map own ms) h
    one_more k false o ms e h = ap (λ (b : Bool). map own (cond b (k ∷ ms) ms)) e

    by_number : (k : ℕ) (ps : List Numbered) → ((i j : ℕ) → i < length ps → j ≡ k + i → (is_own j ≡ ((get_or ps i (0, no_own)).0 == t)) × (own j ≡ (get_or ps i (0, no_own)).1))
        → map own (filter is_own (range_with_len k (length ps))) ≡ of_type_in ps
    by_number k [] h = refl
    by_number k (p ∷ ps) h =
        let first = h 0 k (omega arith) (omega arith) in
        one_more k (p.0 == t) p.1 (filter is_own (range_with_len (k + 1) (length ps))) first.0 first.1
        ∙ ap (λ (z : List OwnMember). cons_option (of_type p) z) (by_number (k + 1) ps (λ i j l e. h (suc i) j (omega (arith, l)) (omega (arith, e))))

module _ (names : List (List ℕ)) (units : List UnitTree) (t : ℕ) where
  abbrev pairs : List Numbered
  pairs = pairs_from 0 units

  length_pairs : length pairs ≡ length (members_from 0 units)
  length_pairs = sym (length-map pairs number_of) ∙ (ap length (pairs_numbers 0 units) ∙ length-map (members_from 0 units) owner_of_row)

  number_at : (i j : ℕ) → i < length pairs → j ≡ i → (get_or (members_from 0 units) j no_member).owner ≡ (get_or pairs i (0, no_own)).0
  number_at i j l e =
      ap (λ (k : ℕ). (get_or (members_from 0 units) k no_member).owner) e
      ∙ (sym (get_or-map owner_of_row (members_from 0 units) i no_member 0 (omega (arith, l, length_pairs)))
      ∙ (ap (λ (z : List ℕ). get_or z i 0) (sym (pairs_numbers 0 units)) ∙ get_or-map number_of pairs i (0, no_own) 0 l))

  member_is : (i j : ℕ) → i < length pairs → j ≡ i → own_at units j ≡ (get_or pairs i (0, no_own)).1
  member_is i j l e = ap (own_at units) e ∙ (ap (λ (z : List OwnMember). get_or z i no_own) (sym (pairs_are 0 units)) ∙ get_or-map member_of pairs i (0, no_own) no_own l)

  pub owns_are : t < length (all_decls units) → own_members (decl_at units t) ≡ map (own_at units) (members_of_type (layout_of names units) t)
  owns_are within =
      let is_own : ℕ → Bool = λ m. (member_at (layout_of names units) m).owner == t in
      sym (
      ap (λ (n : ℕ). map (own_at units) (filter is_own (range_with_len 0 n))) (sym length_pairs)
      ∙ (by_number t is_own (own_at units) 0 pairs (λ i j l e. (ap (λ (n : ℕ). n == t) (number_at i j l (omega (arith, e))), member_is i j l (omega (arith, e))))
      ∙ (all_picked t 0 units ∙ picked_is t 0 t (all_decls units) (omega arith) within))
      )
