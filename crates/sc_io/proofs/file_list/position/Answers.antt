use Rattle.std.proofs.Common.{arith, below_more, refl}
use Rattle.std.proofs.lemmas.Bool.{false≢true}
use Rattle.std.proofs.lemmas.List.{length-map}
use Rattle.sc_io.specs.FileList.{file_of, files_of}
use Rattle.sc_io.proofs.FileLists.{IsPathAt-entry, IsPathAt-of_file, IsPathAt-other}
use Rattle.sc_io.proofs.file_list.position.Goals as goal

pub returns-then-has_path-clause-found : goal.returns-then-has_path-clause-found
returns-then-has_path-clause-found c =
    IsPathAt-entry c.args.files.now c.args.next c.index-files-next.result c.if-next-files.true c.index-files-next.is c.args.path.now (c.if-has_path.ensures.0 refl)

pub returns-then-has_path-2-clause-found : goal.returns-then-has_path-2-clause-found
returns-then-has_path-2-clause-found c =
    IsPathAt-entry c.args.files.now c.loop-index.index c.index-files-index.result c.loop-index-test.true c.index-files-index.is c.args.path.now (c.if-has_path-2.ensures.0 refl)

pub loop-index-preserved : goal.loop-index-preserved
loop-index-preserved c =
    below_more _ _ c.loop-index.invariant (IsPathAt-other c.args.files.now c.loop-index.index c.index-files-index.result c.loop-index-test.true c.index-files-index.is c.args.path.now (λ same. false≢true (c.if-has_path-2.ensures.1 same)))

pub unreachable-requires : goal.unreachable-requires
unreachable-requires c =
    let stands = IsPathAt-of_file (files_of c.args.files.now) c.args.path.now c.requires in
    c.loop-index.invariant stands.0 (omega (arith, length-map c.args.files.now file_of, stands.1)) stands.2
