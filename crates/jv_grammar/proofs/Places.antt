-- The declarations of a tree rise by place: a derivation takes a stretch of terminals, and the names of what it declares are
-- identifiers of this stretch, in their order.
use Rattle.std.proofs.Common.{ℕ, suc, ◌+◌, ◌<◌, Bool, true, false, List, [], ◌∷◌, ◌++◌, map, if◌then◌else◌, arith}
use Rattle.std.specs.List.{All, AllPairs}
use Rattle.std.specs.List.Sorted.{IsStrictlyIncreasing}
use Rattle.std.proofs.lemmas.List.Elements.{All-cons}
use Rattle.std.proofs.lemmas.List.Kept.{AllPairs-cons, AllPairs-from_increasing}
use Rattle.jv_tree.specs.declared.name.Ident.{Ident as Identifier}
use Rattle.jv_tree.specs.StmtTree.{VarTree}
use Rattle.jv_tree.specs.DeclTree.{TypeDeclTree, MemberTree, MemberTrees}
use Rattle.jv_grammar.specs.declared.terminal.Terminal.{Terminal}
use Rattle.jv_grammar.specs.declared.terminal.Terminal.TheVariants.{Ident}
use Rattle.jv_grammar.specs.StmtGrammar.{DerivesVar, var_alone, var_init, DerivesVars, vars_one, vars_more}
use Rattle.jv_grammar.specs.DeclGrammar.{DerivesConstants, constants_one, constants_more, DerivesType, type_class, type_interface, DerivesClass, class, DerivesInterface, interface, DerivesMembers, members_none, members_more, members_empty, DerivesMember, member_type, member_field, member_method, member_ctor, DerivesImembers, imembers_none, imembers_more, imembers_empty, DerivesImember, imember_type, imember_field, imember_method, DerivesTypes, types_none, types_more, types_empty, file}
use Rattle.jv_grammar.specs.Load.{IsClosed, nothing, terminal, group}
use Rattle.jv_grammar.specs.Places.{place_of, RiseByPlace, places_of, var_name, decl_type_names, body_type_names, member_type_names, types_names, has_ctor, decl_member_names, body_member_names, names_in, members_names}
use Rattle.jv_grammar.specs.PlaceLaw.{TypesRiseByPlace, MembersRiseByPlace}
use Rattle.jv_grammar.proofs.ClosedBrackets.{closed_trans}
use Rattle.jv_grammar.proofs.Few.{closed_ty, closed_result, closed_init}
use Rattle.jv_grammar.proofs.DeclFew.{closed_mods, closed_params, closed_body, closed_ctor, closed_parent, closed_parents, closed_interfaces, closed_member, closed_imember, closed_package, closed_imports}

-- the identifiers are some of those among the terminals of the first list that stand before the second, its rest, in their order
data Lie : List Identifier → List Terminal → List Terminal → Type 0 where
  end : {ys : List Terminal} → Lie [] ys ys
  skip : {ns : List Identifier} {x : Terminal} {xs ys : List Terminal} → Lie ns xs ys → Lie ns (x ∷ xs) ys
  name : {ns : List Identifier} {i : Identifier} {xs ys : List Terminal} → Lie ns xs ys → Lie (i ∷ ns) (Ident i ∷ xs) ys

-- one stretch behind another
join : {ns os : List Identifier} {xs zs ys : List Terminal} → Lie ns xs zs → Lie os zs ys → Lie (ns ++ os) xs ys
join end b = b
join (skip a) b = skip (join a b)
join (name a) b = name (join a b)

-- a stretch that ends with terminals that have no name
ending : {ns : List Identifier} {xs zs ys : List Terminal} → Lie ns xs zs → Lie [] zs ys → Lie ns xs ys
ending end b = b
ending (skip a) b = skip (ending a b)
ending (name a) b = name (ending a b)

-- a stretch of which no name is a declaration's
past : {xs ys : List Terminal} → IsClosed xs ys → Lie [] xs ys
past nothing = end
past (terminal o c d) = skip (past d)
past (group o d c e) = skip (ending (past d) (skip (past e)))

behind : {ns : List Identifier} {xs zs ys : List Terminal} → IsClosed xs zs → Lie ns zs ys → Lie ns xs ys
behind d l = join (past d) l

-- the name of a class may be the place of its default constructor
optional : {ns : List Identifier} {i : Identifier} {xs ys : List Terminal} (b : Bool) → Lie ns xs ys → Lie ((if b then [] else (i ∷ [])) ++ ns) (Ident i ∷ xs) ys
optional true l = skip l
optional false l = name l

-- ---- types

mutual
  types_type : {x : TypeDeclTree} {xs ys : List Terminal} → DerivesType x xs ys → Lie (decl_type_names x) xs ys
  types_type (type_class m d) = behind (closed_mods m) (types_class d)
  types_type (type_interface m d) = behind (closed_mods m) (types_interface d)

  types_class : {ks : List ℕ} {x : TypeDeclTree} {xs ys : List Terminal} → DerivesClass ks x xs ys → Lie (decl_type_names x) xs ys
  types_class (class a b d) = skip (name (behind (closed_parent a) (behind (closed_interfaces b) (skip (ending (types_members d) (skip end))))))

  types_interface : {ks : List ℕ} {x : TypeDeclTree} {xs ys : List Terminal} → DerivesInterface ks x xs ys → Lie (decl_type_names x) xs ys
  types_interface (interface a d) = skip (name (behind (closed_parents a) (skip (ending (types_imembers d) (skip end)))))

  types_members : {ms : MemberTrees} {xs ys : List Terminal} → DerivesMembers ms xs ys → Lie (body_type_names ms) xs ys
  types_members members_none = end
  types_members (members_more d r) = join (types_member d) (types_members r)
  types_members (members_empty r) = skip (types_members r)

  types_member : {m : MemberTree} {xs ys : List Terminal} → DerivesMember m xs ys → Lie (member_type_names m) xs ys
  types_member (member_type d) = types_type d
  types_member (member_field m d v) = past (closed_member (member_field m d v))
  types_member (member_method m d q b) = past (closed_member (member_method m d q b))
  types_member (member_ctor m q c) = past (closed_member (member_ctor m q c))

  types_imembers : {ms : MemberTrees} {xs ys : List Terminal} → DerivesImembers ms xs ys → Lie (body_type_names ms) xs ys
  types_imembers imembers_none = end
  types_imembers (imembers_more d r) = join (types_imember d) (types_imembers r)
  types_imembers (imembers_empty r) = skip (types_imembers r)

  types_imember : {m : MemberTree} {xs ys : List Terminal} → DerivesImember m xs ys → Lie (member_type_names m) xs ys
  types_imember (imember_type d) = types_type d
  types_imember (imember_field m d v) = past (closed_imember (imember_field m d v))
  types_imember (imember_method m d q b) = past (closed_imember (imember_method m d q b))

types_types : {ts : List TypeDeclTree} {xs ys : List Terminal} → DerivesTypes ts xs ys → Lie (types_names ts) xs ys
types_types types_none = end
types_types (types_more d r) = join (types_type d) (types_types r)
types_types (types_empty r) = skip (types_types r)

-- ---- members

fields_var : {v : VarTree} {xs ys : List Terminal} → DerivesVar v xs ys → Lie (var_name v ∷ []) xs ys
fields_var var_alone = name end
fields_var (var_init d) = name (skip (past (closed_init d)))

fields_vars : {vs : List VarTree} {xs ys : List Terminal} → DerivesVars vs xs ys → Lie (map var_name vs) xs ys
fields_vars (vars_one d) = fields_var d
fields_vars (vars_more d r) = join (fields_var d) (skip (fields_vars r))

fields_constants : {vs : List VarTree} {xs ys : List Terminal} → DerivesConstants vs xs ys → Lie (map var_name vs) xs ys
fields_constants (constants_one d) = name (skip (past (closed_init d)))
fields_constants (constants_more d r) = name (skip (behind (closed_init d) (skip (fields_constants r))))

mutual
  members_type : {x : TypeDeclTree} {xs ys : List Terminal} → DerivesType x xs ys → Lie (decl_member_names x) xs ys
  members_type (type_class m d) = behind (closed_mods m) (members_class d)
  members_type (type_interface m d) = behind (closed_mods m) (members_interface d)

  members_class : {ks : List ℕ} {x : TypeDeclTree} {xs ys : List Terminal} → DerivesClass ks x xs ys → Lie (decl_member_names x) xs ys
  members_class (class {ms} a b d) =
      skip (optional (has_ctor ms) (behind (closed_parent a) (behind (closed_interfaces b) (skip (ending (members_members d) (skip end))))))

  members_interface : {ks : List ℕ} {x : TypeDeclTree} {xs ys : List Terminal} → DerivesInterface ks x xs ys → Lie (decl_member_names x) xs ys
  members_interface (interface a d) = skip (skip (behind (closed_parents a) (skip (ending (members_imembers d) (skip end)))))

  members_members : {ms : MemberTrees} {xs ys : List Terminal} → DerivesMembers ms xs ys → Lie (body_member_names ms) xs ys
  members_members members_none = end
  members_members (members_more d r) = join (members_member d) (members_members r)
  members_members (members_empty r) = skip (members_members r)

  members_member : {m : MemberTree} {xs ys : List Terminal} → DerivesMember m xs ys → Lie (names_in m) xs ys
  members_member (member_type d) = members_type d
  members_member (member_field m d v) = behind (closed_mods m) (behind (closed_ty d) (ending (fields_vars v) (skip end)))
  members_member (member_method m d q b) = behind (closed_mods m) (behind (closed_result d) (name (past (closed_trans (closed_params q) (closed_body b)))))
  members_member (member_ctor m q c) = behind (closed_mods m) (name (past (closed_trans (closed_params q) (closed_ctor c))))

  members_imembers : {ms : MemberTrees} {xs ys : List Terminal} → DerivesImembers ms xs ys → Lie (body_member_names ms) xs ys
  members_imembers imembers_none = end
  members_imembers (imembers_more d r) = join (members_imember d) (members_imembers r)
  members_imembers (imembers_empty r) = skip (members_imembers r)

  members_imember : {m : MemberTree} {xs ys : List Terminal} → DerivesImember m xs ys → Lie (names_in m) xs ys
  members_imember (imember_type d) = members_type d
  members_imember (imember_field m d v) = behind (closed_mods m) (behind (closed_ty d) (ending (fields_constants v) (skip end)))
  members_imember (imember_method m d q b) = behind (closed_mods m) (behind (closed_result d) (name (past (closed_trans (closed_params q) (closed_body b)))))

members_types : {ts : List TypeDeclTree} {xs ys : List Terminal} → DerivesTypes ts xs ys → Lie (members_names ts) xs ys
members_types types_none = end
members_types (types_more d r) = join (members_type d) (members_types r)
members_types (types_empty r) = skip (members_types r)

-- ---- names among terminals that rise by place do so, too

all_lie : (P : ℕ → Type 0) {ns : List Identifier} {xs ys : List Terminal} → Lie ns xs ys → All P (map place_of xs) → All P (places_of ns)
all_lie P end h = λ k d within. absurd (omega arith)
all_lie P (skip l) h = all_lie P l (λ k d within. h (suc k) d (omega arith))
all_lie P (name {ns} {i} l) h = All-cons P i.at (places_of ns) (h 0 0 (omega arith)) (all_lie P l (λ k d within. h (suc k) d (omega arith)))

pairs_lie : {ns : List Identifier} {xs ys : List Terminal} → Lie ns xs ys → AllPairs (λ x y. x < y) (map place_of xs) → AllPairs (λ x y. x < y) (places_of ns)
pairs_lie end h = λ i j d below within. absurd (omega arith)
pairs_lie (skip l) h = pairs_lie l (λ i j d below within. h (suc i) (suc j) d (omega arith) (omega arith))
pairs_lie (name {ns} {i} l) h =
    AllPairs-cons (λ x y. x < y) i.at (places_of ns)
    (all_lie (λ y. i.at < y) l (λ k d within. h 0 (suc k) d (omega arith) (omega arith)))
    (pairs_lie l (λ a b d below within. h (suc a) (suc b) d (omega arith) (omega arith)))

rises : {ns : List Identifier} (xs ys : List Terminal) → RiseByPlace xs → Lie ns xs ys → IsStrictlyIncreasing (places_of ns)
rises xs ys h l k within = pairs_lie l (AllPairs-from_increasing (map place_of xs) h) k (k + 1) 0 (omega arith) within

pub types_rise : TypesRiseByPlace
types_rise ts u h (file a b d) = rises ts [] h (behind (closed_package a) (behind (closed_imports b) (types_types d)))

pub members_rise : MembersRiseByPlace
members_rise ts u h (file a b d) = rises ts [] h (behind (closed_package a) (behind (closed_imports b) (members_types d)))
