use Rattle.std.proofs.Common.{◌≡◌, ◌+◌, ◌<◌, List, ◌∷◌, ◌++◌, length, drop, get_or, sym, ap, ◌∙◌, map, arith, length-append}
use Rattle.jv_tree.specs.DeclTree.{TypeDeclTree, type_decl_tree, tree_of}
use Rattle.jv_layout.specs.Folder.{file_types, file_members, file_count, types_from, members_from}
use Rattle.jv_layout.proofs.Collecting.{drop_here, length-file_types}
use Rattle.jv_layout.proofs.Looping.{moves}
use Rattle.jv_layout.proofs.collect.Collected.add_files.Goals as goal

pub loop-file-preserved : goal.loop-file-preserved
loop-file-preserved c =
    let xs = c.args.files.now in
    let i = c.loop-file.file in
    let u = c.index-files-file.result in
    let ts = c.loop-file.self.types.items in
    let ms = c.loop-file.self.members.items in
    let ts' = c.add_file.new.self.types.items in
    let ms' = c.add_file.new.self.members.items in
    let ds = map type_decl_tree u.types.items in
    let rest = map tree_of (drop (i + 1) xs) in
    let h : i < length xs = omega arith in
    let here : get_or xs i u ≡ u = cc in
    let n : map tree_of (drop i xs) ≡ tree_of u ∷ rest = ap (map tree_of) (drop_here xs i u h) ∙ ap (λ x. tree_of x ∷ rest) here in
    let same : map type_decl_tree c.deref.result.now ≡ ds = ap (map type_decl_tree) c.deref.ensures.value in
    let et : ts' ≡ ts ++ file_types i (length ts) ds = c.in_ok-add_file.ensures.types ∙ ap (λ (z : List TypeDeclTree). ts ++ file_types i (length ts) z) same in
    let em : ms' ≡ ms ++ file_members (length ts) ds = c.in_ok-add_file.ensures.members ∙ ap (λ (z : List TypeDeclTree). ms ++ file_members (length ts) z) same in
    let len : length ts' ≡ length ts + file_count ds = ap length et ∙ (length-append ts (file_types i (length ts) ds) ∙ ap (λ k. length ts + k) (length-file_types i (length ts) ds)) in
    record {
      types = moves ts ts' (file_types i (length ts) ds) (types_from (i + 1) (length ts') rest) (types_from i (length ts) (map tree_of (drop i xs))) _ et (ap (types_from i (length ts)) n ∙ ap (λ k. file_types i (length ts) ds ++ types_from (i + 1) k rest) (sym len)) c.loop-file.invariant.types;
      members = moves ms ms' (file_members (length ts) ds) (members_from (length ts') rest) (members_from (length ts) (map tree_of (drop i xs))) _ em (ap (members_from (length ts)) n ∙ ap (λ k. file_members (length ts) ds ++ members_from k rest) (sym len)) c.loop-file.invariant.members;
    }
