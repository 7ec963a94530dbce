use Rattle.std.proofs.Common.{◌≡◌, ℕ, ◌+◌, List, [], ◌∷◌, ◌++◌, sym, ap, ◌∙◌, subst}
use Rattle.jv_tree.specs.declared.declaration.Member.{Member}
use Rattle.jv_tree.specs.DeclTree.{member_trees}
use Rattle.jv_layout.specs.Sizes.{body_names}
use Rattle.jv_names_tests.proofs.small_folder.put_members_of_a.Goals as goal

pub returns : goal.returns
returns c = λ empty.
    let x = c.in_ok-field_of.field-0 in
    let y = c.in_ok-field_of-2.field-0 in
    let z = c.in_ok-field_of-3.field-0 in
    let m = c.in_ok-method_of.field-0 in
    let t = c.in_ok-member_class.field-0 in
    let count : List Member → ℕ = λ ms. body_names (member_trees ms) in
    let e0 : count (x ∷ y ∷ z ∷ m ∷ t ∷ []) ≡ 1 + count (y ∷ z ∷ m ∷ t ∷ []) = c.in_ok-field_of.ensures (member_trees (y ∷ z ∷ m ∷ t ∷ [])) in
    let e1 : count (y ∷ z ∷ m ∷ t ∷ []) ≡ 1 + count (z ∷ m ∷ t ∷ []) = c.in_ok-field_of-2.ensures (member_trees (z ∷ m ∷ t ∷ [])) in
    let e2 : count (z ∷ m ∷ t ∷ []) ≡ 1 + count (m ∷ t ∷ []) = c.in_ok-field_of-3.ensures (member_trees (m ∷ t ∷ [])) in
    let e3 : count (m ∷ t ∷ []) ≡ 1 + count (t ∷ []) = c.in_ok-method_of.ensures (member_trees (t ∷ [])) in
    let e4 : count (t ∷ []) ≡ 1 + count [] = c.in_ok-member_class.ensures (member_trees []) in
    let next : ℕ → ℕ = λ n. 1 + n in
    let all : count (x ∷ y ∷ z ∷ m ∷ t ∷ []) ≡ 5 = e0 ∙ ap next (e1 ∙ ap next (e2 ∙ ap next (e3 ∙ ap next e4))) in
    let p0 : c.push.new.self.items ≡ x ∷ [] = c.in_ok-push.ensures.items ∙ ap (λ (ms : List Member). ms ++ x ∷ []) empty in
    let p1 : c.push-2.new.self.items ≡ x ∷ y ∷ [] = c.in_ok-push-2.ensures.items ∙ ap (λ (ms : List Member). ms ++ y ∷ []) p0 in
    let p2 : c.push-3.new.self.items ≡ x ∷ y ∷ z ∷ [] = c.in_ok-push-3.ensures.items ∙ ap (λ (ms : List Member). ms ++ z ∷ []) p1 in
    let p3 : c.push-4.new.self.items ≡ x ∷ y ∷ z ∷ m ∷ [] = c.in_ok-push-4.ensures.items ∙ ap (λ (ms : List Member). ms ++ m ∷ []) p2 in
    let p4 : c.push-5.new.self.items ≡ x ∷ y ∷ z ∷ m ∷ t ∷ [] = c.in_ok-push-5.ensures.items ∙ ap (λ (ms : List Member). ms ++ t ∷ []) p3 in
    subst (λ (ms : List Member). count ms ≡ 5) (sym p4) all
