-- The files of a project that is made are gathered as those of a folder are, and pass no limit.
use Rattle.std.proofs.Common.{◌≡◌, ℕ, suc, ◌+◌, ◌*◌, ◌≤◌, List, [], ◌∷◌, length, map, None, refl, sym, ap, ◌∙◌, subst, arith}
use Rattle.std.specs.Cmp.Lexicographic.{slice_cmp}
use Rattle.std.specs.List.{All}
use Rattle.std.specs.Ordering.{nat_cmp, on}
use Rattle.std.proofs.lemmas.List.{length-map}
use Rattle.std.proofs.lemmas.List.Elements.{All-head, All-tail}
use Rattle.sg_base.proofs.Rising.{rising_from_sorted}
use Rattle.sc_gen.specs.Project.{IsProject, ProjectsAreFolders, project_files}
use Rattle.sc_io.specs.declared.source_file.SourceFile.{SourceFile}
use Rattle.sc_io.specs.SourceFile.{source_of, sources_of}
use Rattle.sc_io.specs.SourceTree.{FileOf}
use Rattle.sc_sources.specs.Read.{AreWithinLimits, most_bytes, most_files, most_total}
use Rattle.sc_app.specs.Sourced.{AreSources, passed_from}
use Rattle.sc_app.proofs.Limits.{passes_none, size, within_limits}

-- short files pass no limit
short_pass : (total : ℕ) (fs : List FileOf) → All (λ f. length f.bytes ≤ 100) fs → total + 100 * length fs ≤ most_total → passed_from total fs ≡ None
short_pass total [] short few = refl
short_pass total (f ∷ fs) short few =
    let small : size f ≤ 100 = All-head (λ (f : FileOf). length f.bytes ≤ 100) f fs short in
    passes_none total f fs (omega (arith, small)) (omega (arith, small, few)) ∙ short_pass (total + size f) fs (All-tail (λ (f : FileOf). length f.bytes ≤ 100) f fs short) (omega (arith, small, few))

module _ (n : ℕ) (files : List SourceFile) (few : n ≤ 1000) (made : IsProject n (sources_of files)) (count : length files ≡ n) (short : All (λ f. length f.bytes ≤ 100) (sources_of files)) where
  many : length (sources_of files) ≡ n
  many = length-map files source_of ∙ count

  pub few_files : length (sources_of files) ≤ most_files
  few_files = omega (arith, many, few)

  pub none_passed : passed_from 0 (sources_of files) ≡ None
  none_passed = short_pass 0 (sources_of files) short (omega (arith, many, few))

  pub project_within : AreWithinLimits (sources_of files)
  project_within = within_limits (sources_of files) few_files none_passed

  pub project_sources : ProjectsAreFolders → AreSources (project_files n) (sources_of files)
  project_sources law = record {
    rising = rising_from_sorted (on (λ (f : FileOf). f.path) (slice_cmp nat_cmp)) (sources_of files) made.rising;
    same = λ f. ((λ c. let k = (made.same f).0 c in (k, (law n few).1 f k)), λ k. (made.same f).1 k.0);
  }
