use Rattle.std.proofs.Common.{◌≡◌, ◌+◌, ◌<◌, Some, List, [], ◌∷◌, ◌++◌, length, drop, get_or, sym, ap, ◌∙◌, map, arith, length-append}
use Rattle.jv_tree.specs.DeclTree.{member_tree, member_trees, type_decl_tree, members, nested}
use Rattle.jv_tree.specs.StmtTree.{var_trees}
use Rattle.jv_layout.specs.declared.collect.Collected.{Collected}
use Rattle.jv_layout.specs.declared.rows.MemberKind.TheVariants.{Method, Ctor}
use Rattle.jv_layout.specs.declared.rows.Modifiers.{Modifiers}
use Rattle.jv_layout.specs.declared.rows.TypeRow.{TypeRow}
use Rattle.jv_layout.specs.Folder.{decl_types, body_types, decl_members, body_members, decl_count, field_row}
use Rattle.jv_layout.proofs.Collecting.{drop_here, nested_tree, length-decl_types, row_of}
use Rattle.jv_layout.proofs.Looping.{moves}
use Rattle.jv_layout.proofs.collect.Collected.+collect.Goals as goal
use Rattle.jv_layout.proofs.collect.Collected.+collect.Goals.{add_body-in-Nested+in_ok-add_decl-in-Nested, add_body-in-Field+in_ok-add_fields-in-Field, add_body-in-Method+in_ok-push-in-Method, add_body-in-Ctor+in_ok-push-in-Ctor}

pub add_body-loop-member-preserved : goal.add_body-loop-member-preserved
add_body-loop-member-preserved t c =
    let xs = c.args.body.now.items in
    let i = c.loop-member.member-index in
    let file = c.args.file in
    let owner = c.args.owner in
    let top = c.args.top in
    let class = c.args.class in
    let rest = member_trees (drop (i + 1) xs) in
    let ts = c.loop-member.self.types.items in
    let ms = c.loop-member.self.members.items in
    let ts' = c.match-member.self.types.items in
    let ms' = c.match-member.self.members.items in
    let h : i < length xs = omega arith in
    let here : get_or xs i c.member-item.result ≡ c.member-item.result = cc in
    let e : member_trees (drop i xs) ≡ members (member_tree c.member-item.result) rest = ap member_trees (drop_here xs i c.member-item.result h) ∙ ap (λ x. members (member_tree x) rest) here in
    elim c.match-member.branch [
      | add_body-in-Nested+in_ok-add_decl-in-Nested w ↦
          let d = type_decl_tree w.in-Nested.decl in
          let n : member_trees (drop i xs) ≡ members (nested d) rest = e ∙ (ap (λ x. members (member_tree x) rest) w.in-Nested.is ∙ ap (λ m. members m rest) (nested_tree w.in-Nested.decl)) in
          let et : ts' ≡ ts ++ decl_types file (Some owner) top (length ts) d = ap (λ (s : Collected). s.types.items) w.self-is ∙ w.in_ok-add_decl-in-Nested.ensures.types in
          let em : ms' ≡ ms ++ decl_members (length ts) d = ap (λ (s : Collected). s.members.items) w.self-is ∙ w.in_ok-add_decl-in-Nested.ensures.members in
          let len : length ts' ≡ length ts + decl_count d = ap length et ∙ (length-append ts (decl_types file (Some owner) top (length ts) d) ∙ ap (λ k. length ts + k) (length-decl_types file (Some owner) top (length ts) d)) in
          record {
            types = moves ts ts' (decl_types file (Some owner) top (length ts) d) (body_types file owner top (length ts') rest) (body_types file owner top (length ts) (member_trees (drop i xs))) _ et (ap (body_types file owner top (length ts)) n ∙ ap (λ k. decl_types file (Some owner) top (length ts) d ++ body_types file owner top k rest) (sym len)) c.loop-member.invariant.types;
            members = moves ms ms' (decl_members (length ts) d) (body_members owner class (length ts') rest) (body_members owner class (length ts) (member_trees (drop i xs))) _ em (ap (body_members owner class (length ts)) n ∙ ap (λ k. decl_members (length ts) d ++ body_members owner class k rest) (sym len)) c.loop-member.invariant.members;
          }
      | add_body-in-Field+in_ok-add_fields-in-Field w ↦
          let n = e ∙ ap (λ x. members (member_tree x) rest) w.in-Field.is in
          let et : ts' ≡ ts = ap (λ (s : Collected). s.types.items) w.self-is ∙ ap (λ v. v.items) w.in_ok-add_fields-in-Field.ensures.types in
          let em : ms' ≡ ms ++ map (field_row owner w.of.result) (var_trees w.deref.result.now) = ap (λ (s : Collected). s.members.items) w.self-is ∙ w.in_ok-add_fields-in-Field.ensures.members in
          let len : length ts' ≡ length ts = ap length et in
          let old = body_members owner class (length ts) rest in
          record {
            types = ap (λ (z : List TypeRow). z ++ body_types file owner top (length z) rest) et ∙ (ap (λ z. ts ++ body_types file owner top (length ts) z) (sym n) ∙ c.loop-member.invariant.types);
            members = moves ms ms' (map (field_row owner w.of.result) (var_trees w.deref.result.now)) (body_members owner class (length ts') rest) (body_members owner class (length ts) (member_trees (drop i xs))) _ em
                (ap (body_members owner class (length ts)) n ∙ (ap (λ m. map (field_row owner m) (var_trees w.in-Field.variables.items) ++ old) (sym w.of.ensures) ∙ (ap (λ v. map (field_row owner w.of.result) (var_trees v) ++ old) (sym w.deref.ensures.value) ∙ ap (λ (z : List TypeRow). map (field_row owner w.of.result) (var_trees w.deref.result.now) ++ body_members owner class (length z) rest) (sym et)))) c.loop-member.invariant.members;
          }
      | add_body-in-Method+in_ok-push-in-Method w ↦
          let n = e ∙ ap (λ x. members (member_tree x) rest) w.in-Method.is in
          let et : ts' ≡ ts = ap (λ (s : Collected). s.types.items) w.self-is in
          let em : ms' ≡ ms ++ row_of owner Method w.in-Method.method.name.id w.of-in-Method.result ∷ [] = ap (λ (s : Collected). s.members.items) w.self-is ∙ w.in_ok-push-in-Method.ensures.items in
          let len : length ts' ≡ length ts = ap length et in
          let old = body_members owner class (length ts) rest in
          record {
            types = ap (λ (z : List TypeRow). z ++ body_types file owner top (length z) rest) et ∙ (ap (λ z. ts ++ body_types file owner top (length ts) z) (sym n) ∙ c.loop-member.invariant.types);
            members = moves ms ms' (row_of owner Method w.in-Method.method.name.id w.of-in-Method.result ∷ []) (body_members owner class (length ts') rest) (body_members owner class (length ts) (member_trees (drop i xs))) _ em
                (ap (body_members owner class (length ts)) n ∙ (ap (λ (m : Modifiers). row_of owner Method w.in-Method.method.name.id m ∷ old) (sym w.of-in-Method.ensures) ∙ ap (λ (z : List TypeRow). row_of owner Method w.in-Method.method.name.id w.of-in-Method.result ∷ body_members owner class (length z) rest) (sym et))) c.loop-member.invariant.members;
          }
      | add_body-in-Ctor+in_ok-push-in-Ctor w ↦
          let n = e ∙ ap (λ x. members (member_tree x) rest) w.in-Ctor.is in
          let et : ts' ≡ ts = ap (λ (s : Collected). s.types.items) w.self-is in
          let em : ms' ≡ ms ++ row_of owner Ctor class w.of-in-Ctor.result ∷ [] = ap (λ (s : Collected). s.members.items) w.self-is ∙ w.in_ok-push-in-Ctor.ensures.items in
          let len : length ts' ≡ length ts = ap length et in
          let old = body_members owner class (length ts) rest in
          record {
            types = ap (λ (z : List TypeRow). z ++ body_types file owner top (length z) rest) et ∙ (ap (λ z. ts ++ body_types file owner top (length ts) z) (sym n) ∙ c.loop-member.invariant.types);
            members = moves ms ms' (row_of owner Ctor class w.of-in-Ctor.result ∷ []) (body_members owner class (length ts') rest) (body_members owner class (length ts) (member_trees (drop i xs))) _ em
                (ap (body_members owner class (length ts)) n ∙ (ap (λ (m : Modifiers). row_of owner Ctor class m ∷ old) (sym w.of-in-Ctor.ensures) ∙ ap (λ (z : List TypeRow). row_of owner Ctor class w.of-in-Ctor.result ∷ body_members owner class (length z) rest) (sym et))) c.loop-member.invariant.members;
          }
    ]
