-- What the rules of members ask and give, whatever the answers.
use Rattle.std.proofs.Common.{ℕ, ◌||◌, Bool, true, false, List, [], ◌∷◌, map, if◌then◌else◌}
use Rattle.std.specs.List.{All}
use Rattle.std.proofs.lemmas.List.Elements.{All-nil, All-cons, All-head, All-tail, All-append}
use Rattle.sg_base.specs.declared.scope.Scope.{Scope}
use Rattle.sg_reading.specs.Reading.{done, and_then, each}
use Rattle.jv_layout.specs.Folder.{LayoutOf, has_ctor}
use Rattle.jv_layout.specs.Readers.{file_of}
use Rattle.jv_tree.specs.declared.names.NameId.{NameId}
use Rattle.jv_tree.specs.DeclTree.{ParamTree, type_decl, nested, field, method, ctor, MemberTrees, no_members, members}
use Rattle.jv_tree.specs.Numbered.{IsNumberedType, IsNumberedParam, IsNumberedVar, AreNumberedMembers}
use Rattle.jv_tree.specs.StmtTree.{VarTree}
use Rattle.jv_tree.specs.TypeTree.{TypeTree}
use Rattle.jv_names.specs.declared.written_type.WrittenType.{WrittenType}
use Rattle.jv_names.specs.Bodies.{member_bodies}
use Rattle.jv_names.specs.Bounds.{IsNamedIn, IsTypeScope, IsTyIn, IsWrittenIn, StaysIn}
use Rattle.jv_names.specs.Replies.{Rule}
use Rattle.jv_names.specs.WrittenTypes.{written_type}
use Rattle.jv_names.proofs.Bounds.{bodies_are_types, file_is_one, then_stays, done_stays, written_type_stays}
use Rattle.jv_member.specs.declared.signature.Signature.{Signature}
use Rattle.jv_member.specs.Bounds.{IsNumberedOwn, IsSignatureIn, SignaturesStayIn, OwnMembersAreNumbered}
use Rattle.jv_member.specs.Own.{OwnMember, own_field, own_method, own_ctor, default_ctor, body_own}
use Rattle.jv_member.specs.Signatures.{types_of, field_by, method_by, ctor_by, param_types, signature_rule}
use Rattle.jv_member.proofs.Steps.{param_type}

-- ---- members of a declaration

module _ (count : ℕ) where
  fields_numbered : (ms : List ℕ) (t : TypeTree) (vs : List VarTree) → IsNumberedType count t → All (IsNumberedVar count) vs → All (IsNumberedOwn count) (map (own_field ms t) vs)
  fields_numbered ms t [] h k = All-nil (IsNumberedOwn count)
  fields_numbered ms t (v ∷ vs) h k =
      All-cons (IsNumberedOwn count) (own_field ms t v) (map (own_field ms t) vs) (h, All-head (IsNumberedVar count) v vs k) (fields_numbered ms t vs h (All-tail (IsNumberedVar count) v vs k))

  body_numbered : (xs : MemberTrees) → AreNumberedMembers count xs → All (IsNumberedOwn count) (body_own xs)
  body_numbered no_members h = All-nil (IsNumberedOwn count)
  body_numbered (members (nested d) xs) h = body_numbered xs h.1
  body_numbered (members (field ms t vs) xs) h = All-append (IsNumberedOwn count) (map (own_field ms t) vs) (body_own xs) (fields_numbered ms t vs h.0.0 h.0.1) (body_numbered xs h.1)
  body_numbered (members (method m) xs) h = All-cons (IsNumberedOwn count) (own_method m) (body_own xs) h.0 (body_numbered xs h.1)
  body_numbered (members (ctor c) xs) h = All-cons (IsNumberedOwn count) (own_ctor c) (body_own xs) h.0 (body_numbered xs h.1)

-- ---- signatures

module _ (l : LayoutOf) (count : ℕ) where
  each_stays : {X U : Type 0} (P : X → Type 0) (E : U → Type 0) (f : X → Rule U) → ((x : X) → P x → StaysIn l count E (f x)) → (xs : List X) → All P xs → StaysIn l count (All E) (each f xs)
  each_stays P E f h [] all = done_stays l count (All E) [] (All-nil E)
  each_stays P E f h (x ∷ xs) all =
      then_stays l count E (All E) (f x) (λ v. and_then (each f xs) (λ vs. done (v ∷ vs))) (h x (All-head P x xs all))
      (λ v e. then_stays l count (All E) (All E) (each f xs) (λ vs. done (v ∷ vs)) (each_stays P E f h xs (All-tail P x xs all))
      (λ vs es. done_stays l count (All E) (v ∷ vs) (All-cons E v vs e es)))

  types_in : (ws : List WrittenType) → All (IsWrittenIn l) ws → All (IsTyIn l) (types_of ws)
  types_in [] h = All-nil (IsTyIn l)
  types_in (w ∷ ws) h = All-cons (IsTyIn l) w.ty (types_of ws) (All-head (IsWrittenIn l) w ws h) (types_in ws (All-tail (IsWrittenIn l) w ws h))

  -- a signature of types of the layout
  abbrev pub IsIn : Signature → Type 0
  IsIn s = IsSignatureIn l s.datum

  module _ (names : List (List ℕ)) (c : Scope) (named : IsNamedIn l count) (type : IsTypeScope l c) where
    written_stays : (t : TypeTree) → IsNumberedType count t → StaysIn l count (IsWrittenIn l) (written_type l names (file_of l c) (member_bodies l c) t)
    written_stays t numbered = written_type_stays l count named names (file_of l c) (member_bodies l c) (file_is_one l named.linked c type) (bodies_are_types l c named.linked type).1 t numbered

    params_stay : (ps : List ParamTree) → All (IsNumberedParam count) ps → StaysIn l count (All (IsWrittenIn l)) (param_types l names (file_of l c) (member_bodies l c) ps)
    params_stay ps numbered = each_stays (IsNumberedParam count) (IsWrittenIn l) (param_type l names (file_of l c) (member_bodies l c)) (λ p h. written_stays p.ty h.0) ps numbered

    pub signature_stays : (class : NameId) (m : OwnMember) → IsNumberedOwn count m → StaysIn l count IsIn (signature_rule l names c class m)
    signature_stays class (own_field ms t v) numbered =
        then_stays l count (IsWrittenIn l) IsIn (written_type l names (file_of l c) (member_bodies l c) t) (λ w. done (field_by v.name.id w)) (written_stays t numbered.0)
        (λ w is. done_stays l count IsIn (field_by v.name.id w) (is, All-nil (IsTyIn l)))
    signature_stays class (own_method m) numbered =
        then_stays l count (IsWrittenIn l) IsIn (written_type l names (file_of l c) (member_bodies l c) m.result) (λ r. and_then (param_types l names (file_of l c) (member_bodies l c) m.params) (λ ps. done (method_by m.name.id r ps))) (written_stays m.result numbered.0)
        (λ r is. then_stays l count (All (IsWrittenIn l)) IsIn (param_types l names (file_of l c) (member_bodies l c) m.params) (λ ps. done (method_by m.name.id r ps)) (params_stay m.params numbered.2)
        (λ ps are. done_stays l count IsIn (method_by m.name.id r ps) (is, types_in ps are)))
    signature_stays class (own_ctor k) numbered =
        then_stays l count (All (IsWrittenIn l)) IsIn (param_types l names (file_of l c) (member_bodies l c) k.params) (λ ps. done (ctor_by class ps)) (params_stay k.params numbered.1)
        (λ ps are. done_stays l count IsIn (ctor_by class ps) (tt, types_in ps are))
    signature_stays class (default_ctor name) numbered = done_stays l count IsIn (ctor_by class []) (tt, All-nil (IsTyIn l))

-- ---- as laws

pub signatures_stay_in : SignaturesStayIn
signatures_stay_in l count names c class m named type numbered = signature_stays l count names c named type class m numbered

pub own_members_are_numbered : OwnMembersAreNumbered
own_members_are_numbered count (type_decl name ms i es is xs) h =
    All-append (IsNumberedOwn count) (if (i || has_ctor xs) then [] else (default_ctor name ∷ [])) (body_own xs)
    (elim (i || has_ctor xs) as (λ (b : Bool). All (IsNumberedOwn count) (if b then [] else (default_ctor name ∷ []))) [
      | true ↦ All-nil (IsNumberedOwn count)
      | false ↦ All-cons (IsNumberedOwn count) (default_ctor name) [] h.0 (All-nil (IsNumberedOwn count))
    ])
    (body_numbered count xs h.3)
