-- Where the members of a folder stand in its trees.
use Rattle.std.specs.Prelude.{ℕ, zero, suc, ◌+◌, ◌||◌, Bool, List, [], ◌∷◌, ◌++◌, length, map, Option, None, Some, if◌then◌else◌}
use Rattle.std.specs.List.{range_with_len, slice_get}
use Rattle.std.specs.Option.{option_map}
use Rattle.jv_layout.specs.Folder.{has_ctor, decl_count, file_count}
use Rattle.jv_tree.specs.StmtTree.{VarTree}
use Rattle.jv_tree.specs.DeclTree.{TypeDeclTree, type_decl, MemberTree, nested, field, method, ctor, MemberTrees, no_members, members, UnitTree}
use Rattle.jv_member.specs.Own.{OwnMember, own_field, own_method, own_ctor, default_ctor}
use Rattle.jv_unit.specs.declared.member_places.BodyPlace.{BodyPlace}
use Rattle.jv_unit.specs.declared.member_places.MemberPlace.{MemberPlace}

-- a member of the type with the number n: at a place in its body, and of a declaration of fields the variable with the number v
abbrev pub in_body : ℕ → ℕ → ℕ → MemberPlace
in_body n place v = record { owner = n; place = Some (record { member = place; variable = v }) }

-- a default constructor stands nowhere
abbrev pub default_place : ℕ → Bool → MemberTrees → List MemberPlace
default_place n i xs = if (i || has_ctor xs) then [] else (record { owner = n; place = None } ∷ [])

-- the variables of a declaration of fields
abbrev pub variable_places : ℕ → ℕ → List VarTree → List MemberPlace
variable_places n place vs = map (in_body n place) (range_with_len 0 (length vs))

abbrev mutual
  -- the members of a declaration with the number n and of those that nest in it, in the order of the layout
  pub decl_places : ℕ → TypeDeclTree → List MemberPlace
  decl_places n (type_decl name ms i es is xs) = default_place n i xs ++ body_places n 0 (n + 1) xs

  -- the members of a body from a place on, of whose types the first has the number n
  pub body_places : ℕ → ℕ → ℕ → MemberTrees → List MemberPlace
  body_places owner place n no_members = []
  body_places owner place n (members (nested d) xs) = decl_places n d ++ body_places owner (place + 1) (n + decl_count d) xs
  body_places owner place n (members (field ms t vs) xs) = variable_places owner place vs ++ body_places owner (place + 1) n xs
  body_places owner place n (members (method m) xs) = in_body owner place 0 ∷ body_places owner (place + 1) n xs
  body_places owner place n (members (ctor c) xs) = in_body owner place 0 ∷ body_places owner (place + 1) n xs

-- the members of a file, whose first type has the number n
abbrev pub file_places : ℕ → List TypeDeclTree → List MemberPlace
file_places n [] = []
file_places n (d ∷ ds) = decl_places n d ++ file_places (n + decl_count d) ds

-- the members of files, file by file, of whose types the first has the number n
abbrev pub places_from : ℕ → List UnitTree → List MemberPlace
places_from n [] = []
places_from n (u ∷ us) = file_places n u.types ++ places_from (n + file_count u.types) us

-- ---- what stands at a place

-- a member: of a declaration of fields the variable with a number
abbrev pub own_here : MemberTree → ℕ → Option OwnMember
own_here (nested d) v = None
own_here (field ms t vs) v = option_map (own_field ms t) (slice_get vs v)
own_here (method m) v = Some (own_method m)
own_here (ctor c) v = Some (own_ctor c)

-- the member of a body at a place
abbrev pub own_in : MemberTrees → ℕ → ℕ → Option OwnMember
own_in no_members place v = None
own_in (members x xs) zero v = own_here x v
own_in (members x xs) (suc place) v = own_in xs place v

-- the member of a declaration at a place: the default constructor where there is none
abbrev pub own_placed : TypeDeclTree → Option BodyPlace → Option OwnMember
own_placed (type_decl name ms i es is xs) None = Some (default_ctor name)
own_placed (type_decl name ms i es is xs) (Some p) = own_in xs p.member p.variable
