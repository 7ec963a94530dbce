use Rattle.std.proofs.Common.{◌≡◌, ◌+◌, ◌<◌, None, ◌∷◌, ◌++◌, length, drop, get_or, sym, ap, ◌∙◌, map, arith, length-append}
use Rattle.jv_tree.specs.DeclTree.{type_decl_tree}
use Rattle.jv_layout.specs.Folder.{decl_types, decl_members, decl_count, file_types, file_members}
use Rattle.jv_layout.proofs.Collecting.{drop_here, length-decl_types}
use Rattle.jv_layout.proofs.Looping.{moves}
use Rattle.jv_layout.proofs.collect.Collected.add_file.Goals as goal

pub loop-decl-preserved : goal.loop-decl-preserved
loop-decl-preserved c =
    let xs = c.args.decls.now in
    let i = c.loop-decl.decl-index in
    let file = c.args.file in
    let ts = c.loop-decl.self.types.items in
    let ms = c.loop-decl.self.members.items in
    let ts' = c.add_decl.new.self.types.items in
    let ms' = c.add_decl.new.self.members.items in
    let d = type_decl_tree c.decl-item.result in
    let rest = map type_decl_tree (drop (i + 1) xs) in
    let h : i < length xs = omega arith in
    let here : get_or xs i c.decl-item.result ≡ c.decl-item.result = cc in
    let n : map type_decl_tree (drop i xs) ≡ d ∷ rest = ap (map type_decl_tree) (drop_here xs i c.decl-item.result h) ∙ ap (λ x. type_decl_tree x ∷ rest) here in
    let et : ts' ≡ ts ++ decl_types file None (length ts) (length ts) d = c.in_ok-add_decl.ensures.types ∙ ap (λ k. ts ++ decl_types file None k (length ts) d) c.in_ok-number.ensures.number in
    let em : ms' ≡ ms ++ decl_members (length ts) d = c.in_ok-add_decl.ensures.members in
    let len : length ts' ≡ length ts + decl_count d = ap length et ∙ (length-append ts (decl_types file None (length ts) (length ts) d) ∙ ap (λ k. length ts + k) (length-decl_types file None (length ts) (length ts) d)) in
    record {
      types = moves ts ts' (decl_types file None (length ts) (length ts) d) (file_types file (length ts') rest) (file_types file (length ts) (map type_decl_tree (drop i xs))) _ et (ap (file_types file (length ts)) n ∙ ap (λ k. decl_types file None (length ts) (length ts) d ++ file_types file k rest) (sym len)) c.loop-decl.invariant.types;
      members = moves ms ms' (decl_members (length ts) d) (file_members (length ts') rest) (file_members (length ts) (map type_decl_tree (drop i xs))) _ em (ap (file_members (length ts)) n ∙ ap (λ k. decl_members (length ts) d ++ file_members k rest) (sym len)) c.loop-decl.invariant.members;
    }
