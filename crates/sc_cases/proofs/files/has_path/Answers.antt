use Rattle.std.proofs.Common.{◌≡◌, ◌∙◌, sym, subst, List, ℕ, map}
use Rattle.std.specs.List.{Contains}
use Rattle.std.proofs.lemmas.Bool.{false≢true}
use Rattle.std.proofs.lemmas.List.{take_all}
use Rattle.sc_io.specs.FileList.{files_of}
use Rattle.sc_cases.proofs.DistinctPaths.{same_text}
use Rattle.sc_cases.proofs.DistinctPaths.{none_so_far}
use Rattle.sc_cases.proofs.DistinctPaths.{path_of}
use Rattle.sc_cases.proofs.files.has_path.Goals as goal

pub loop-other-preserved : goal.loop-other-preserved
loop-other-preserved c =
    none_so_far c.args.files.now c.loop-other.other-index c.loop-other-item.result c.args.path.now c.loop-other-test.true c.loop-other-item.is (λ e. false≢true (sym c.if-eq.false ∙ c.eq.ensures ∙ (same_text c.as_str.result.now c.args.path.now).1 (c.as_str.ensures.value ∙ e))) c.loop-other.invariant

pub returns : goal.returns
returns c = λ _. rw (take_all c.loop-other.other-index c.args.files.now c.loop-other-test.false) at c.loop-other.invariant
