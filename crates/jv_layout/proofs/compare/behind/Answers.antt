use Rattle.std.proofs.Common.{◌-◌, length, drop, sym, ap, ◌∙◌, arith}
use Rattle.std.proofs.lemmas.List.{take_all, length-drop, drop-map}
use Rattle.jv_tree.specs.declared.name.Ident.{Ident}
use Rattle.jv_layout.specs.Folder.{numbers_of}
use Rattle.jv_layout.proofs.compare.behind.Goals as goal

pub returns-then-count-names : goal.returns-then-count-names
returns-then-count-names c =
    let xs = c.args.names.now in
    let n = c.args.count in
    ap numbers_of (take_all (length xs - n) (drop n xs) (omega (arith, length-drop n xs))) ∙ sym (drop-map (λ (i : Ident). i.id.0) n xs)
