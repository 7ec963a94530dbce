use Rattle.std.proofs.Common.{◌≡◌, ◌+◌, ◌<◌, List, [], ◌∷◌, ◌++◌, length, drop, get_or, sym, ap, ◌∙◌, arith}
use Rattle.jv_tree.specs.DeclTree.{member_tree, member_trees, type_decl_tree, members, nested}
use Rattle.jv_tree.specs.StmtTree.{var_trees}
use Rattle.jv_tree.specs.declared.type_ref.Var.{Var}
use Rattle.jv_layout.specs.Folder.{decl_count, body_count}
use Rattle.jv_layout.proofs.Collecting.{nested_tree}
use Rattle.jv_layout.proofs.Looping.{moves}
use Rattle.jv_unit.specs.declared.member_places.MemberPlaces.{MemberPlaces}
use Rattle.jv_unit.specs.MemberPlaces.{in_body, variable_places, decl_places, body_places}
use Rattle.jv_unit.proofs.MemberPlaces.{one_place, no_type}
use Rattle.jv_unit.proofs.Places.{rest_is}
use Rattle.jv_unit.proofs.member_places.MemberPlaces.+places.Goals as goal
use Rattle.jv_unit.proofs.member_places.MemberPlaces.+places.Goals.{add_body-in-Nested+in_ok-add_decl-in-Nested, add_body-in-Field+in_ok-step-in-Field+in_ok-add_fields-in-Field, add_body-in-Method+in_ok-step-in-Method+in_ok-add-in-Method}

pub add_body-loop-place-preserved : goal.add_body-loop-place-preserved
add_body-loop-place-preserved t c =
    let xs = c.args.body.now.items in
    let i = c.loop-place.place in
    let owner = c.args.owner in
    let rest = member_trees (drop (i + 1) xs) in
    let ps = c.loop-place.self.places.items in
    let ps' = c.match-member.self.places.items in
    let n = c.loop-place.self.types in
    let n' = c.match-member.self.types in
    let all = body_places owner i n (member_trees (drop i xs)) in
    let left = body_places owner (i + 1) n' rest in
    let h : i < length xs = omega arith in
    let here : get_or xs i c.member-item.result ≡ c.member-item.result = cc in
    let e : member_trees (drop i xs) ≡ members (member_tree c.member-item.result) rest = rest_is [] xs i c.member-item.result h here in
    elim c.match-member.branch [
      | add_body-in-Nested+in_ok-add_decl-in-Nested w ↦
          let d = type_decl_tree w.in-Nested.decl in
          let tree : member_trees (drop i xs) ≡ members (nested d) rest = e ∙ (ap (λ x. members (member_tree x) rest) w.in-Nested.is ∙ ap (λ m. members m rest) (nested_tree w.in-Nested.decl)) in
          let piece : ps' ≡ ps ++ decl_places n d = ap (λ (s : MemberPlaces). s.places.items) w.self-is ∙ w.in_ok-add_decl-in-Nested.ensures.places in
          let count : n' ≡ n + decl_count d = ap (λ (s : MemberPlaces). s.types) w.self-is ∙ w.in_ok-add_decl-in-Nested.ensures.types in
          record {
            places = moves ps ps' (decl_places n d) left all _ piece (ap (body_places owner i n) tree ∙ ap (λ k. decl_places n d ++ body_places owner (i + 1) k rest) (sym count)) c.loop-place.invariant.places;
            types = omega (arith, count, ap body_count tree, c.loop-place.invariant.types);
          }
      | add_body-in-Field+in_ok-step-in-Field+in_ok-add_fields-in-Field w ↦
          let vs = w.in-Field.variables.items in
          let tree = e ∙ ap (λ x. members (member_tree x) rest) w.in-Field.is in
          let count : n' ≡ n = ap (λ (s : MemberPlaces). s.types) w.self-is ∙ w.in_ok-add_fields-in-Field.ensures.types in
          let piece : ps' ≡ ps ++ variable_places owner i (var_trees vs) = ap (λ (s : MemberPlaces). s.places.items) w.self-is
          ∙ (w.in_ok-add_fields-in-Field.ensures.places
          ∙ (ap (λ k. ps ++ variable_places owner k (var_trees w.deref.result.now)) w.in_ok-step-in-Field.ensures ∙ ap (λ (z : List Var). ps ++ variable_places owner i (var_trees z)) w.deref.ensures.value)) in
          record {
            places = moves ps ps' (variable_places owner i (var_trees vs)) left all _ piece (ap (body_places owner i n) tree ∙ ap (λ k. variable_places owner i (var_trees vs) ++ body_places owner (i + 1) k rest) (sym count)) c.loop-place.invariant.places;
            types = omega (arith, count, ap body_count tree, c.loop-place.invariant.types);
          }
      | add_body-in-Method+in_ok-step-in-Method+in_ok-add-in-Method w ↦
          let count : n' ≡ n = ap (λ (s : MemberPlaces). s.types) w.self-is ∙ w.in_ok-add-in-Method.ensures.types in
          let piece : ps' ≡ ps ++ in_body owner i 0 ∷ [] = ap (λ (s : MemberPlaces). s.places.items) w.self-is ∙ (w.in_ok-add-in-Method.ensures.places ∙ ap (λ k. ps ++ in_body owner k 0 ∷ []) w.in_ok-step-in-Method.ensures) in
          record {
            places = moves ps ps' (in_body owner i 0 ∷ []) left all _ piece
                (ap (body_places owner i n) e ∙ (one_place c.member-item.result rest w.in-Method.is owner i n ∙ ap (λ k. in_body owner i 0 ∷ body_places owner (i + 1) k rest) (sym count))) c.loop-place.invariant.places;
            types = omega (arith, count, ap body_count e, no_type c.member-item.result rest w.in-Method.is, c.loop-place.invariant.types);
          }
    ]
