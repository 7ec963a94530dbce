use Rattle.std.proofs.Common.{◌≡◌, length, map, string_bytes, arith}
use Rattle.std.proofs.lemmas.List.{length-map}
use Rattle.sc_app.specs.declared.status.Which.TheVariants.{Files}
use Rattle.sc_app.specs.Gathered.{ListsInOrder}
use Rattle.sc_app.proofs.GatherLemmas.{PassesOf, passes_files}
use Rattle.sc_app.proofs.Telling.{IfSome-map}
use Rattle.sc_app.proofs.gather.gather.Goals as goal

pub returns-then-len-gt-MOST_FILES-clause-gathered : goal.returns-then-len-gt-MOST_FILES-clause-gathered
returns-then-len-gt-MOST_FILES-clause-gathered g c =
    let paths = map string_bytes c.in_ok-paths.paths.items in
    let count : length paths ≡ length c.in_ok-paths.paths.items = length-map c.in_ok-paths.paths.items string_bytes in
    IfSome-map (g.T.SourceTree.files c.args.tree.now) (λ fs. ListsInOrder fs paths) (PassesOf Files) (λ fs listed. passes_files fs paths listed (omega (arith, c.if-len-gt-MOST_FILES.true, c.len.ensures, count, c.in_ok-paths.paths.ok.0))) c.in_ok-paths.ensures.listed
