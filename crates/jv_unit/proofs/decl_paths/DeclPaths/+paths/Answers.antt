use Rattle.std.proofs.Common.{◌≡◌, ◌+◌, ◌<◌, List, ℕ, [], ◌∷◌, ◌++◌, length, drop, get_or, sym, ap, ◌∙◌, arith}
use Rattle.std.specs.List.{each_same}
use Rattle.jv_tree.specs.DeclTree.{member_trees, type_decl_tree}
use Rattle.jv_unit.specs.Paths.{paths_in, body_paths}
use Rattle.jv_layout.proofs.Looping.{moves}
use Rattle.jv_unit.proofs.Places.{skipped, entered, of_none, with_body}
use Rattle.jv_unit.proofs.decl_paths.DeclPaths.+paths.Goals as goal
use Rattle.jv_unit.proofs.decl_paths.DeclPaths.+paths.Goals.{add_body-in-Some+in_ok-add_decl, add_body-in_default}

pub add_body-loop-place-preserved : goal.add_body-loop-place-preserved
add_body-loop-place-preserved t c =
    let xs = c.args.body.now.items in
    let i = c.loop-place.place in
    let p = c.args.path.now.items in
    let m = c.member-item.result in
    let h : i < length xs = omega arith in
    let here : get_or xs i m ≡ m = cc in
    elim c.match-nested.branch [
      | add_body-in-Some+in_ok-add_decl w ↦
          let d = w.in-Some.decl.now in
          let same : c.loop-place.path.items ≡ p = c.loop-place.invariant.path in
          let piece : c.match-nested.self ≡ c.loop-place.self ++ paths_in (p ++ i ∷ []) (type_decl_tree d) =
          w.self-is ∙ (w.in_ok-add_decl.ensures.paths ∙ ap (λ (z : List ℕ). c.loop-place.self ++ paths_in (z ++ i ∷ []) (type_decl_tree d)) same) in
          record {
            paths = moves c.loop-place.self c.match-nested.self (paths_in (p ++ i ∷ []) (type_decl_tree d)) (body_paths p (i + 1) (member_trees (drop (i + 1) xs))) (body_paths p i (member_trees (drop i xs))) _ piece (entered p xs i m h here d w.in-Some.ensures) c.loop-place.invariant.paths;
            path = ap (λ v. v.items) w.path-is ∙ (w.in_ok-add_decl.ensures.path ∙ same);
          }
      | add_body-in_default w ↦ record {
        paths = ap (λ (z : List (List ℕ)). z ++ body_paths p (i + 1) (member_trees (drop (i + 1) xs))) w.self-is
            ∙ (ap (λ (z : List (List ℕ)). c.loop-place.self ++ z) (sym (skipped p xs i m h here (of_none _ _ _ c.nested.ensures w.in_default.not-Some))) ∙ c.loop-place.invariant.paths);
        path = ap (λ v. v.items) w.path-is ∙ c.loop-place.invariant.path;
      }
    ]

pub add_decl-returns-clause-paths : goal.add_decl-returns-clause-paths
add_decl-returns-clause-paths t c =
    let path : c.push.new.self.items ≡ c.args.path.now.items ++ c.args.place ∷ [] = c.in_ok-push.ensures.items ∙ ap (λ n. c.args.path.now.items ++ n ∷ []) c.in_ok-step.ensures in
    let own : c.in_ok-clone.field-0.items ≡ c.push.new.self.items = each_same c.push.new.self.items c.in_ok-clone.field-0.items c.in_ok-clone.ensures.cases.0 in
    let xs = member_trees c.args.decl.now.members.items in
    with_body c.args.self.now c.add_body.new.self c.self.inside.paths.items c.push-2.new.self.items c.in_ok-clone.field-0 c.push.new.self.items xs c.self.view_is c.in_ok-push-2.ensures.items own c.in_ok-add_body.ensures.paths
    ∙ ap (λ (z : List ℕ). c.args.self.now ++ z ∷ body_paths z 0 xs) path
