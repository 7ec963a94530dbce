-- The places of members lead to them, and their rows in the layout are those of the members.
use Rattle.std.proofs.Common.{◌≡◌, ℕ, zero, suc, ◌+◌, ◌<◌, Bool, true, false, List, [], ◌∷◌, ◌++◌, length, map, get_or, Option, None, Some, IsSome, is_some, refl, sym, ap, ◌∙◌, arith, length-append}
use Rattle.std.specs.Prelude.{if◌then◌else◌, ◌||◌}
use Rattle.std.specs.List.{flat_map, range_with_len, slice_get}
use Rattle.std.specs.Option.{option_map, unwrap_or}
use Rattle.std.proofs.lemmas.List.{map-append, length-map, get_or-map}
use Rattle.std.proofs.lemmas.Option.{slice_get-get_or, get_or_from_slice_get}
use Rattle.jv_tree.specs.declared.name.Ident.{Ident}
use Rattle.jv_tree.specs.TypeTree.{TypeTree}
use Rattle.jv_tree.specs.StmtTree.{VarTree}
use Rattle.jv_tree.specs.DeclTree.{TypeDeclTree, type_decl, nested, field, method, ctor, MemberTrees, no_members, members, UnitTree}
use Rattle.jv_layout.specs.declared.rows.MemberRow.{MemberRow}
use Rattle.jv_layout.specs.Folder.{layout_of, modifiers_of, has_ctor, decl_count, file_count, field_row, decl_members, body_members, file_members, members_from}
use Rattle.jv_layout.specs.Readers.{member_at, no_member}
use Rattle.jv_member.specs.Own.{OwnMember, own_field, own_method, own_ctor, default_ctor, no_own}
use Rattle.jv_unit.specs.declared.member_places.BodyPlace.{BodyPlace}
use Rattle.jv_unit.specs.declared.member_places.MemberPlace.{MemberPlace}
use Rattle.jv_unit.specs.MemberPlaces.{in_body, decl_places, body_places, file_places, places_from, own_in, own_placed}
use Rattle.jv_unit.specs.Owns.{decl_owns, body_owns, all_owns, own_at, own_row, own_kind, own_title}
use Rattle.jv_unit.specs.Trees.{decls_in, body_decls, all_decls, decl_at, no_decl, name_of}
use Rattle.jv_unit.proofs.Places.{get_within}
use Rattle.jv_unit.proofs.Trees.{length-decls_in, length-file_decls}

-- ---- lists one behind the other

slice_left : {X : Type 0} (xs ys : List X) (n : ℕ) → n < length xs → slice_get (xs ++ ys) n ≡ slice_get xs n
slice_left [] ys n h = absurd (omega arith)
slice_left (x ∷ xs) ys zero h = refl
slice_left (x ∷ xs) ys (suc n) h = slice_left xs ys n (omega arith)

slice_right : {X : Type 0} (xs ys : List X) (n k : ℕ) → n ≡ length xs + k → slice_get (xs ++ ys) n ≡ slice_get ys k
slice_right [] ys n k e = ap (slice_get ys) (omega (arith, e))
slice_right (x ∷ xs) ys zero k e = absurd (omega (arith, e))
slice_right (x ∷ xs) ys (suc n) k e = slice_right xs ys n k (omega (arith, e))

joined : {X Y : Type 0} (f : X → Option Y) (a b : List X) (c e : List Y) → map f a ≡ map Some c → map f b ≡ map Some e → map f (a ++ b) ≡ map Some (c ++ e)
joined {X} {Y} f a b c e h g = map-append f a b ∙ (ap (λ (z : List (Option Y)). z ++ map f b) h ∙ (ap (λ (z : List (Option Y)). map Some c ++ z) g ∙ sym (map-append Some c e)))

-- ---- where places lead

-- the member at a place of a declaration, and its row
abbrev own_along : Option TypeDeclTree → Option BodyPlace → Option OwnMember
own_along None p = None
own_along (Some d) p = own_placed d p

abbrev row_along : ℕ → Option TypeDeclTree → Option BodyPlace → Option MemberRow
row_along n None p = None
row_along n (Some d) p = option_map (own_row n (name_of d).id) (own_placed d p)

-- where a member stands, there is a declaration
some_along : (d : Option TypeDeclTree) (p : Option BodyPlace) → IsSome (own_along d p) → IsSome d
some_along None p h = absurd (cc)
some_along (Some d) p h = refl

-- the member at a place in the declarations of files, and its row
abbrev pub own_by : List UnitTree → MemberPlace → Option OwnMember
own_by units p = own_along (slice_get (all_decls units) p.owner) p.place

abbrev pub row_by : List UnitTree → MemberPlace → Option MemberRow
row_by units p = row_along p.owner (slice_get (all_decls units) p.owner) p.place

-- places lead to these members, which have these rows
record Leads (units : List UnitTree) (ps : List MemberPlace) (os : List OwnMember) (rs : List MemberRow) : Type 0 where
  own : map (own_by units) ps ≡ map Some os
  row : map (row_by units) ps ≡ map Some rs

module _ (units : List UnitTree) where
  -- the declarations from the number n on begin with these
  abbrev IsAt : ℕ → List TypeDeclTree → Type 0
  IsAt n ds = (k j : ℕ) → k < length ds → j ≡ n + k → slice_get (all_decls units) j ≡ slice_get ds k

  first_of : (n : ℕ) (ds es : List TypeDeclTree) → IsAt n (ds ++ es) → IsAt n ds
  first_of n ds es h k j l e = h k j (omega (arith, l, length-append ds es)) e ∙ slice_left ds es k l

  rest_of : (n m : ℕ) (ds es : List TypeDeclTree) → length ds ≡ m → IsAt n (ds ++ es) → IsAt (n + m) es
  rest_of n m ds es len h k j l e = h (length ds + k) j (omega (arith, l, length-append ds es)) (omega (arith, e, len)) ∙ slice_right ds es (length ds + k) k refl

  both : {ps ps' : List MemberPlace} {os os' : List OwnMember} {rs rs' : List MemberRow} → Leads units ps os rs → Leads units ps' os' rs' → Leads units (ps ++ ps') (os ++ os') (rs ++ rs')
  both {ps} {ps'} {os} {os'} {rs} {rs'} a b = record { own = joined (own_by units) ps ps' os os' a.own b.own; row = joined (row_by units) ps ps' rs rs' a.row b.row }

  module _ (n : ℕ) (d : TypeDeclTree) (here : slice_get (all_decls units) n ≡ Some d) where
    one : (place v : ℕ) (o : OwnMember) → own_placed d (Some (record { member = place; variable = v })) ≡ Some o → Leads units (in_body n place v ∷ []) (o ∷ []) (own_row n (name_of d).id o ∷ [])
    one place v o h = record {
      own = ap (λ (z : Option TypeDeclTree). own_along z (Some (record { member = place; variable = v })) ∷ []) here ∙ ap (λ (z : Option OwnMember). z ∷ []) h;
      row = ap (λ (z : Option TypeDeclTree). row_along n z (Some (record { member = place; variable = v })) ∷ []) here ∙ ap (λ (z : Option OwnMember). option_map (own_row n (name_of d).id) z ∷ []) h;
    }

    -- the variables of a declaration of fields, from the number v on
    variables : (place v : ℕ) (ms : List ℕ) (t : TypeTree) (vs : List VarTree) → ((k j : ℕ) → j ≡ v + k → own_placed d (Some (record { member = place; variable = j })) ≡ option_map (own_field ms t) (slice_get vs k))
        → Leads units (map (in_body n place) (range_with_len v (length vs))) (map (own_field ms t) vs) (map (field_row n (modifiers_of ms)) vs)
    variables place v ms t [] h = record { own = refl; row = refl }
    variables place v ms t (x ∷ vs) h = both (one place v (own_field ms t x) (h 0 v (omega arith))) (variables place (v + 1) ms t vs (λ k j e. h (suc k) j (omega (arith, e))))

  default_leads : (n : ℕ) (name : Ident) (ms : List ℕ) (i : Bool) (es is : List (List Ident)) (xs : MemberTrees) (b : Bool) → slice_get (all_decls units) n ≡ Some (type_decl name ms i es is xs)
      → Leads units (if b then [] else (record { owner = n; place = None } ∷ [])) (if b then [] else (default_ctor name ∷ [])) (if b then [] else (own_row n name.id (default_ctor name) ∷ []))
  default_leads n name ms i es is xs true here = record { own = refl; row = refl }
  default_leads n name ms i es is xs false here = record { own = ap (λ (z : Option TypeDeclTree). own_along z None ∷ []) here; row = ap (λ (z : Option TypeDeclTree). row_along n z None ∷ []) here }

  mutual
    by_decl : (n : ℕ) (d : TypeDeclTree) → IsAt n (decls_in d) → Leads units (decl_places n d) (decl_owns d) (decl_members n d)
    by_decl n (type_decl name ms i es is xs) h =
        let here : slice_get (all_decls units) n ≡ Some (type_decl name ms i es is xs) = h 0 n (omega arith) (omega arith) in
        both (default_leads n name ms i es is xs (i || has_ctor xs) here) (by_body n (type_decl name ms i es is xs) 0 (n + 1) xs here (λ k j v e. ap (λ z. own_in xs z v) (omega (arith, e))) (λ k j l e. h (suc k) j (omega (arith, l)) (omega (arith, e))))

    -- the members from a place on, and the types from a number on
    by_body : (owner : ℕ) (d : TypeDeclTree) (i n : ℕ) (xs : MemberTrees) → slice_get (all_decls units) owner ≡ Some d
        → ((k j v : ℕ) → j ≡ i + k → own_placed d (Some (record { member = j; variable = v })) ≡ own_in xs k v) → IsAt n (body_decls xs) → Leads units (body_places owner i n xs) (body_owns xs) (body_members owner (name_of d).id n xs)
    by_body owner d i n no_members here p h = record { own = refl; row = refl }
    by_body owner d i n (members (nested x) xs) here p h =
        both (by_decl n x (first_of n (decls_in x) (body_decls xs) h))
        (by_body owner d (i + 1) (n + decl_count x) xs here (λ k j v e. p (suc k) j v (omega (arith, e))) (rest_of n (decl_count x) (decls_in x) (body_decls xs) (length-decls_in x) h))
    by_body owner d i n (members (field ms t vs) xs) here p h =
        both (variables owner d here i 0 ms t vs (λ k j e. p 0 i j (omega arith) ∙ ap (λ z. option_map (own_field ms t) (slice_get vs z)) (omega (arith, e)))) (by_body owner d (i + 1) n xs here (λ k j v e. p (suc k) j v (omega (arith, e))) h)
    by_body owner d i n (members (method m) xs) here p h = both (one owner d here i 0 (own_method m) (p 0 i 0 (omega arith))) (by_body owner d (i + 1) n xs here (λ k j v e. p (suc k) j v (omega (arith, e))) h)
    by_body owner d i n (members (ctor c) xs) here p h = both (one owner d here i 0 (own_ctor c) (p 0 i 0 (omega arith))) (by_body owner d (i + 1) n xs here (λ k j v e. p (suc k) j v (omega (arith, e))) h)

  by_file : (n : ℕ) (ds : List TypeDeclTree) → IsAt n (flat_map decls_in ds) → Leads units (file_places n ds) (flat_map decl_owns ds) (file_members n ds)
  by_file n [] h = record { own = refl; row = refl }
  by_file n (d ∷ ds) h = both (by_decl n d (first_of n (decls_in d) (flat_map decls_in ds) h)) (by_file (n + decl_count d) ds (rest_of n (decl_count d) (decls_in d) (flat_map decls_in ds) (length-decls_in d) h))

  by_files : (n : ℕ) (us : List UnitTree) → IsAt n (all_decls us) → Leads units (places_from n us) (all_owns us) (members_from n us)
  by_files n [] h = record { own = refl; row = refl }
  by_files n (u ∷ us) h =
      both (by_file n u.types (first_of n (flat_map decls_in u.types) (all_decls us) h))
      (by_files (n + file_count u.types) us (rest_of n (file_count u.types) (flat_map decls_in u.types) (all_decls us) (length-file_decls u.types) h))

  by_all : Leads units (places_from 0 units) (all_owns units) (members_from 0 units)
  by_all = by_files 0 units (λ k j l e. ap (slice_get (all_decls units)) (omega (arith, e)))

  -- there are as many places and members as rows
  pub length_places : length (places_from 0 units) ≡ length (members_from 0 units)
  length_places = sym (length-map (places_from 0 units) (row_by units)) ∙ (ap length by_all.row ∙ length-map (members_from 0 units) Some)

  pub length_owns : length (all_owns units) ≡ length (members_from 0 units)
  length_owns = sym (length-map (all_owns units) Some) ∙ (sym (ap length by_all.own) ∙ (length-map (places_from 0 units) (own_by units) ∙ length_places))

  -- the place of a member leads to it, in the declaration of its type, and it has its row
  module _ (m : ℕ) (p : MemberPlace) (h : m < length (members_from 0 units)) (at : Some p ≡ slice_get (places_from 0 units) m) where
    here : p ≡ get_or (places_from 0 units) m p
    here = sym (get_or_from_slice_get (places_from 0 units) m p p (sym at))

    by_number : own_by units p ≡ Some (own_at units m)
    by_number =
        ap (own_by units) here
        ∙ (sym (get_or-map (own_by units) (places_from 0 units) m p None (omega (arith, h, length_places)))
        ∙ (ap (λ (z : List (Option OwnMember)). get_or z m None) by_all.own ∙ get_or-map Some (all_owns units) m no_own None (omega (arith, h, length_owns))))

    row_by_number : row_by units p ≡ Some (get_or (members_from 0 units) m no_member)
    row_by_number =
        ap (row_by units) here
        ∙ (sym (get_or-map (row_by units) (places_from 0 units) m p None (omega (arith, h, length_places)))
        ∙ (ap (λ (z : List (Option MemberRow)). get_or z m None) by_all.row ∙ get_or-map Some (members_from 0 units) m no_member None h))

    pub owner_within : p.owner < length (all_decls units)
    owner_within = get_within (all_decls units) p.owner (some_along (slice_get (all_decls units) p.owner) p.place (ap is_some by_number))

    owner_is : slice_get (all_decls units) p.owner ≡ Some (decl_at units p.owner)
    owner_is = slice_get-get_or (all_decls units) p.owner no_decl owner_within

    pub own_is : own_placed (decl_at units p.owner) p.place ≡ Some (own_at units m)
    own_is = sym (ap (λ o. own_along o p.place) owner_is) ∙ by_number

    pub row_is : get_or (members_from 0 units) m no_member ≡ own_row p.owner (name_of (decl_at units p.owner)).id (own_at units m)
    row_is =
        ap (λ o. unwrap_or o no_member)
        (sym row_by_number ∙ (ap (λ o. row_along p.owner o p.place) owner_is ∙ ap (option_map (own_row p.owner (name_of (decl_at units p.owner)).id)) own_is))

-- the row of a member in the layout is that of the member with its number: it has its kind, and its name (that of the class for a constructor)
module _ (names : List (List ℕ)) (units : List UnitTree) (m : ℕ) (h : m < length (layout_of names units).members) where
  abbrev place : MemberPlace
  place = get_or (places_from 0 units) m (record { owner = 0; place = None })

  placed : Some place ≡ slice_get (places_from 0 units) m
  placed = sym (slice_get-get_or (places_from 0 units) m (record { owner = 0; place = None }) (omega (arith, h, length_places units)))

  owner_of_own : (member_at (layout_of names units) m).owner ≡ place.owner
  owner_of_own = ap (λ (r : MemberRow). r.owner) (row_is units m place h placed)

  pub row_of_own : member_at (layout_of names units) m
      ≡ own_row (member_at (layout_of names units) m).owner (name_of (decl_at units (member_at (layout_of names units) m).owner)).id (own_at units m)
  row_of_own = row_is units m place h placed ∙ ap (λ n. own_row n (name_of (decl_at units n)).id (own_at units m)) (sym owner_of_own)

  pub kind_of_own : (member_at (layout_of names units) m).kind ≡ own_kind (own_at units m)
  kind_of_own = ap (λ (r : MemberRow). r.kind) row_of_own

  pub name_of_own : (member_at (layout_of names units) m).name ≡ own_title (name_of (decl_at units (member_at (layout_of names units) m).owner)).id (own_at units m)
  name_of_own = ap (λ (r : MemberRow). r.name) row_of_own
