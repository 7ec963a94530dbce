-- What members stand at the places of bodies, and the places that a member gives.
use Rattle.std.proofs.Common.{◌≡◌, ℕ, zero, suc, ◌+◌, ◌<◌, true, false, List, [], ◌∷◌, length, get_or, Option, None, Some, IsSome, sym, refl, ap, ◌∙◌, arith, is_some, ◌⊎◌, inl, inr, Vec, Global}
use Rattle.std.specs.List.{slice_get}
use Rattle.std.specs.Option.{option_map}
use Rattle.std.proofs.lemmas.List.{length-map}
use Rattle.std.proofs.lemmas.Option.{slice_get-get_or, slice_get-map}
use Rattle.jv_tree.specs.declared.declaration.Ctor.{Ctor}
use Rattle.jv_tree.specs.declared.declaration.Member.{Member}
use Rattle.jv_tree.specs.declared.declaration.Member.TheVariants.{Nested, Field, Method as MethodMember, Ctor as CtorMember}
use Rattle.jv_tree.specs.declared.declaration.Method.{Method}
use Rattle.jv_tree.specs.declared.declaration.Mods.{Mods}
use Rattle.jv_tree.specs.declared.declaration.TypeDecl.{TypeDecl}
use Rattle.jv_tree.specs.declared.type_ref.TypeRef.{TypeRef}
use Rattle.jv_tree.specs.declared.type_ref.Var.{Var}
use Rattle.jv_tree.specs.DeclTree.{MemberTrees, member_tree, member_trees, members, method_tree, ctor_tree, type_decl_tree}
use Rattle.jv_tree.specs.StmtTree.{var_tree, var_trees}
use Rattle.jv_tree.specs.TypeTree.{type_tree}
use Rattle.jv_layout.specs.Folder.{body_count}
use Rattle.jv_layout.proofs.Collecting.{nested_tree}
use Rattle.jv_member.specs.Own.{own_field, own_method, own_ctor}
use Rattle.jv_unit.specs.declared.member_places.BodyPlace.{BodyPlace}
use Rattle.jv_unit.specs.MemberPlaces.{in_body, body_places, own_here, own_in, own_placed}
use Rattle.jv_unit.proofs.Places.{get_within}

pub own_in_here : (xs : List Member) (i v : ℕ) (d : Member) → i < length xs → own_in (member_trees xs) i v ≡ own_here (member_tree (get_or xs i d)) v
own_in_here [] i v d h = absurd (omega arith)
own_in_here (x ∷ xs) zero v d h = refl
own_in_here (x ∷ xs) (suc i) v d h = own_in_here xs i v d (omega arith)

-- where a member stands, the body goes on
pub own_within : (xs : List Member) (i v : ℕ) → IsSome (own_in (member_trees xs) i v) → i < length xs
own_within [] i v h = absurd (cc)
own_within (x ∷ xs) zero v h = omega arith
own_within (x ∷ xs) (suc i) v h = let r = own_within xs i v h in omega arith

-- a method or a constructor gives one place
module _ (x : Member) (rest : MemberTrees) (is : ((m : Method) × x ≡ MethodMember m) ⊎ ((c : Ctor) × x ≡ CtorMember c)) where
  pub one_place : (owner i n : ℕ) → body_places owner i n (members (member_tree x) rest) ≡ in_body owner i 0 ∷ body_places owner (i + 1) n rest
  one_place owner i n = elim is [
    | inl m ↦ ap (λ y. body_places owner i n (members (member_tree y) rest)) m.1
    | inr c ↦ ap (λ y. body_places owner i n (members (member_tree y) rest)) c.1
  ]

  -- and no type
  pub no_type : body_count (members (member_tree x) rest) ≡ body_count rest
  no_type = elim is [
    | inl m ↦ ap (λ y. body_count (members (member_tree y) rest)) m.1
    | inr c ↦ ap (λ y. body_count (members (member_tree y) rest)) c.1
  ]

-- ---- the member at a place of a declaration

some_of : {X Y : Type 0} (f : X → Y) (o : Option X) → IsSome (option_map f o) → IsSome o
some_of f None h = absurd (cc)
some_of f (Some x) h = refl

module _ (d : TypeDecl) (place : Option BodyPlace) (p : BodyPlace) (at : place ≡ Some p) (stands : IsSome (own_placed (type_decl_tree d) place)) where
  pub member_within : p.member < length d.members.items
  member_within = own_within d.members.items p.member p.variable (sym (ap (λ o. is_some (own_placed (type_decl_tree d) o)) at) ∙ stands)

  module _ (m : Member) (here : get_or d.members.items p.member m ≡ m) where
    pub stands_here : own_placed (type_decl_tree d) place ≡ own_here (member_tree m) p.variable
    stands_here = ap (own_placed (type_decl_tree d)) at ∙ (own_in_here d.members.items p.member p.variable m member_within ∙ ap (λ x. own_here (member_tree x) p.variable) here)

    -- no type stands there
    pub not_nested : (x : TypeDecl) → m ≡ Nested x → ⊥
    not_nested x is =
        let s : is_some (own_here (member_tree m) p.variable) ≡ true = sym (ap is_some stands_here) ∙ stands in
        let n : is_some (own_here (member_tree m) p.variable) ≡ false = ap (λ y. is_some (own_here y p.variable)) (ap member_tree is ∙ nested_tree x) in
        absurd (cc)

    pub method_here : (x : Method) → m ≡ MethodMember x → own_placed (type_decl_tree d) place ≡ Some (own_method (method_tree x))
    method_here x is = stands_here ∙ ap (λ y. own_here (member_tree y) p.variable) is

    pub ctor_here : (x : Ctor) → m ≡ CtorMember x → own_placed (type_decl_tree d) place ≡ Some (own_ctor (ctor_tree x))
    ctor_here x is = stands_here ∙ ap (λ y. own_here (member_tree y) p.variable) is

    module _ (ms : Mods) (t : TypeRef) (vs : Vec Var Global) (is : m ≡ Field ms t vs) where
      field_here : own_placed (type_decl_tree d) place ≡ option_map (own_field ms.words.items (type_tree t)) (slice_get (var_trees vs.items) p.variable)
      field_here = stands_here ∙ ap (λ y. own_here (member_tree y) p.variable) is

      pub variable_within : p.variable < length vs.items
      variable_within =
          let h = get_within (var_trees vs.items) p.variable (some_of (own_field ms.words.items (type_tree t)) (slice_get (var_trees vs.items) p.variable) (sym (ap is_some field_here) ∙ stands)) in
          omega (arith, h, length-map vs.items var_tree)

      pub variable_here : (v : Var) → get_or vs.items p.variable v ≡ v → own_placed (type_decl_tree d) place ≡ Some (own_field ms.words.items (type_tree t) (var_tree v))
      variable_here v e =
          field_here
          ∙ ap (option_map (own_field ms.words.items (type_tree t))) (slice_get-map var_tree vs.items p.variable ∙ (ap (option_map var_tree) (slice_get-get_or vs.items p.variable v variable_within) ∙ ap (λ x. Some (var_tree x)) e))
