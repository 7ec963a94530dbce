-- The report on a folder, by what was gathered and checked.
use Rattle.std.proofs.Common.{◌≡◌, ℕ, zero, suc, ◌≤◌, List, length, None, IfOk, MatchResult, Result, Ok, Err, inl, inr, sym, subst, ◌∙◌}
use Rattle.sc_io.specs.SourceTree.{FileOf}
use Rattle.sc_sources.specs.Read.{most_files}
use Rattle.sc_app.specs.declared.command.Command.{Command}
use Rattle.sc_app.specs.declared.status.Status.{Status}
use Rattle.sc_app.specs.declared.status.Status.TheVariants.{Limit}
use Rattle.sc_app.specs.declared.status.Which.{Which}
use Rattle.sc_app.specs.declared.status.Which.TheVariants.{Files, Types}
use Rattle.sc_app.specs.Checked.{IsChecked}
use Rattle.sc_app.specs.Gathered.{Passes}
use Rattle.sc_app.specs.Sourced.{AreSources, passed_from}
use Rattle.sc_app.specs.Statuses.{IsReportStatus, status_of}
use Rattle.sc_app.specs.Told.{Checks, Tells, limit_line, listed, many_bytes, many_files, many_types, reported, tells}

same_checks : (c : Command) (fs : List FileOf) (bytes text : List ℕ) (s t : Status) → Checks c fs bytes s → text ≡ bytes → t ≡ s → Checks c fs text t
same_checks c fs bytes text s t checks e same = subst (Checks c fs text) (sym same) (subst (λ (b : List ℕ). Checks c fs b s) (sym e) checks)

module _ (c : Command) (fs : List FileOf) (text : List ℕ) (status : Status) (ss : List FileOf) (are : AreSources fs ss) where
  -- sources that pass a limit on files and bytes
  pub refused : (which : Which) → Passes ss which → text ≡ limit_line which → status ≡ Limit which → Checks c fs text status
  refused which (inl (is, many)) written same =
      same_checks c fs (limit_line Files) text (Limit Files) status (many_files ss are many) (written ∙ limits is) (same ∙ statuses is)
    where
      limits : which ≡ Files → limit_line which ≡ limit_line Files
      limits e = λ i. limit_line (e i)

      statuses : which ≡ Files → Limit which ≡ Limit Files
      statuses e = λ i. Limit (e i)
  refused which (inr (few, passed)) written same =
      same_checks c fs (limit_line which) text (Limit which) status (many_bytes ss which are few passed) written same

  -- sources that pass none
  pub checked_within : length ss ≤ most_files → passed_from 0 ss ≡ None → IsChecked c ss text status → Checks c fs text status
  checked_within few none (inl told) = tells ss text status are few none told
  checked_within few none (inr (many, written, same)) =
      same_checks c fs (limit_line Types) text (Limit Types) status (many_types ss are few none many) written same

-- ---- statuses of reports

status_of_report : (n : ℕ) → IsReportStatus (status_of n)
status_of_report zero = tt
status_of_report (suc n) = tt

-- what a command tells of sources has the status of a report
pub told_status : (c : Command) (ss : List FileOf) (text : List ℕ) (status : Status) → Tells c ss text status → (n : ℕ) × (status ≡ status_of n)
told_status c ss text status (reported none r) = (length r.3.0, r.3.3)
told_status c ss text status (listed report l r) = (length r.3.0, r.3.3)

pub checked_status : (c : Command) (ss : List FileOf) (text : List ℕ) (status : Status) → IsChecked c ss text status → IsReportStatus status
checked_status c ss text status (inl told) = let k = told_status c ss text status told in subst IsReportStatus (sym k.1) (status_of_report k.0)
checked_status c ss text status (inr (many, written, same)) = subst IsReportStatus (sym same) tt

-- ---- results

-- what holds of a report holds of what stands for it
pub reported_gives : {X E F : Type 0} (r : Result X E) (q : Result X F) (oom : F) (P Q : X → Type 0) → MatchResult q (λ x. r ≡ Ok x) (λ e. e ≡ oom) → IfOk r P → ((x : X) → P x → Q x) → IfOk q Q
reported_gives r (Ok x) oom P Q same h f = f x (subst (λ v. IfOk v P) same h)
reported_gives r (Err e) oom P Q same h f = tt
