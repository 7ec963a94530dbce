use Rattle.sc_report.proofs.Files.{source_few}
use Rattle.sc_report.proofs.file.bytes_of.Goals as goal

pub returns-in-Some-clause-few : goal.returns-in-Some-clause-few
returns-in-Some-clause-few c =
    let found = c.in-Some.ensures.lookup in
    source_few c.args.files.now c.requires c.index_of.result c.in-Some.f.now found.0 found.1 c.as_slice.result.now c.as_slice.ensures.value
