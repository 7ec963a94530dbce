use Rattle.std.proofs.Common.{◌≡◌, rules}
use Rattle.std.proofs.lemmas.Fn.{always_returns_same}
use Rattle.std.proofs.lemmas.List.Sorted.{ranks_by}
use Rattle.std.specs.Ordering.{is_lt}
use Rattle.sc_io.specs.SourceFile.{source_of}
use Rattle.sc_gen.proofs.Classes.{as_many, by_path, is_project, path_total, short_files}
use Rattle.sc_gen.proofs.files.project.Goals as goal

pub returns-clause-project : goal.returns-clause-project
returns-clause-project c =
    is_project c.args.n c.requires.few c.in_ok-files.files.items c.sort_unstable_by.new.self.items c.in_ok-files.ensures c.sort_unstable_by.ensures.permutation
    (c.sort_unstable_by.ensures.sorted _ (ranks_by path_total source_of) (always_returns_same _ (λ a r. is_lt r ≡ is_lt (by_path (source_of a.0.now) (source_of a.1.0.now))) _ (λ a r k h. search rules)))

pub returns-clause-count : goal.returns-clause-count
returns-clause-count c = as_many c.args.n c.requires.few c.in_ok-files.files.items c.sort_unstable_by.new.self.items c.in_ok-files.ensures c.sort_unstable_by.ensures.permutation

pub returns-clause-short : goal.returns-clause-short
returns-clause-short c = short_files c.args.n c.requires.few c.in_ok-files.files.items c.sort_unstable_by.new.self.items c.in_ok-files.ensures c.sort_unstable_by.ensures.permutation
