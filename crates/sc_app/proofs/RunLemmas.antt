-- What a run writes, by what was put.
use Rattle.std.proofs.Common.{◌≡◌, ◌⊎◌, ℕ, zero, suc, List, codes, Option, IfSome, refl, sym, subst, ◌∙◌, inl, inr}
use Rattle.sc_io.specs.Sink.{AddsAll}
use Rattle.sc_io.specs.SourceTree.{FileOf}
use Rattle.sc_app.specs.declared.command.Command.{Command}
use Rattle.sc_app.specs.declared.status.Status.{Status}
use Rattle.sc_app.specs.declared.status.Status.TheVariants.{Clean, Found, Usage, ReadFault, WriteFault, Limit, OutOfMemory}
use Rattle.sc_app.specs.declared.status.Which.{Which}
use Rattle.sc_app.specs.Causes.{Completes, TellsStatus, WritesLimit}
use Rattle.sc_app.specs.Command.{Asks, IsCommand}
use Rattle.sc_app.specs.Lines.{line}
use Rattle.sc_app.specs.Statuses.{IsReportStatus, status_of}
use Rattle.sc_app.specs.Told.{Checks, IsPut, Told, Writes, WritesAll, command, files_for, limit_line, many_bytes, many_files, many_types, no_command, tells}
use Rattle.sc_app.proofs.CheckLemmas.{told_status}
use Rattle.sc_app.proofs.Telling.{IfSome-map}

module _ (words : List (List ℕ)) (fs : List FileOf) (before after : Option (List ℕ)) where
  writes_all : (status : Status) → IsReportStatus status → WritesAll words fs status before after → Writes words fs status before after
  writes_all Clean ok w = w
  writes_all Found ok w = w
  writes_all Usage ok w = w
  writes_all ReadFault ok w = absurd ok
  writes_all WriteFault ok w = absurd ok
  writes_all (Limit which) ok w = w
  writes_all OutOfMemory ok w = absurd ok

  put_told : (bytes : List ℕ) (status result : Status) → Told words fs bytes status → (WritesAll words fs status before after → Writes words fs status before after) → IsPut status bytes before after result → Writes words fs result before after
  put_told bytes status result told all (inl (same, adds)) =
      subst (λ s. Writes words fs s before after) (sym same) (all (bytes, told, adds))
  put_told bytes status result told all (inr (fault, adds)) =
      elim fault [
        | inl e ↦ subst (λ s. Writes words fs s before after) (sym e) (bytes, status, told, adds)
        | inr e ↦ subst (λ s. Writes words fs s before after) (sym e) (inr (bytes, status, told, adds))
      ]

  pub usage_written : (result : Status) → (IsCommand words → ⊥) → IsPut Usage (line (codes "usage")) before after result → Writes words fs result before after
  usage_written result none put = put_told (line (codes "usage")) Usage result (no_command none) (λ w. w) put

  pub report_written : (c : Command) (workers : Option ℕ) (bytes : List ℕ) (status result : Status) → Asks words c workers → IsReportStatus status → Checks c (files_for c fs) bytes status → IsPut status bytes before after result
      → Writes words fs result before after
  report_written c workers bytes status result asks ok checks put =
      put_told bytes status result (command c workers bytes status asks checks) (writes_all status ok) put

-- ---- limits

not_limit : (n : ℕ) (which : Which) → Limit which ≡ status_of n → ⊥
not_limit zero which e = cc
not_limit (suc n) which e = cc

limit_one : (a b : Which) → Limit a ≡ Limit b → a ≡ b
limit_one a b e = cc

-- where a limit is told, its line is
limit_checks : (c : Command) (fs : List FileOf) (bytes : List ℕ) (status : Status) (which : Which) → Checks c fs bytes status → status ≡ Limit which → bytes ≡ limit_line which
limit_checks c fs bytes status which (many_files ss are many) e = λ i. limit_line (limit_one _ which e i)
limit_checks c fs bytes status which (many_bytes ss other are few passed) e = λ i. limit_line (limit_one other which e i)
limit_checks c fs bytes status which (many_types ss are few none many) e = λ i. limit_line (limit_one _ which e i)
limit_checks c fs bytes status which (tells ss text end are few none told) e = let k = told_status c ss text end told in absurd (not_limit k.0 which (sym e ∙ k.1))

limit_of_told : (words : List (List ℕ)) (fs : List FileOf) (before after : Option (List ℕ)) (which : Which) (bytes : List ℕ) (status : Status) → Told words fs bytes status → status ≡ Limit which → AddsAll before bytes after
    → WritesLimit words which fs before after
limit_of_told words fs before after which bytes status (no_command none) e adds = absurd (cc)
limit_of_told words fs before after which bytes status (command c workers text end asks checks) e adds =
    let same : text ≡ limit_line which = limit_checks c (files_for c fs) text end which checks e in
    let told : Checks c (files_for c fs) (limit_line which) (Limit which) =
    subst (Checks c (files_for c fs) (limit_line which)) e (subst (λ (b : List ℕ). Checks c (files_for c fs) b end) same checks) in
    (c, workers, asks, told, subst (λ (b : List ℕ). AddsAll before b after) same adds)

-- a run that ends with a limit wrote its line
pub limit_written : (words : List (List ℕ)) (files : Option (List FileOf)) (before after : Option (List ℕ)) (result : Status) → IfSome files (λ fs. Writes words fs result before after) → (which : Which) → result ≡ Limit which
    → IfSome files (λ fs. WritesLimit words which fs before after)
limit_written words files before after result told which e =
    IfSome-map files (λ fs. Writes words fs result before after) (λ fs. WritesLimit words which fs before after) (λ fs w.
    let all : WritesAll words fs (Limit which) before after = subst (λ (s : Status). Writes words fs s before after) e w in
    limit_of_told words fs before after which all.0 (Limit which) all.1 refl all.2) told

-- ---- completeness

-- what was put is all that is told, unless a put failed or memory was not found
pub completed : {Risen : Type 0} (words : List (List ℕ)) (c : Command) (workers : Option ℕ) (files : Option (List FileOf)) (bytes : List ℕ) (status result : Status) (before after : Option (List ℕ)) → Asks words c workers → IsReportStatus status
    → IfSome files (λ fs. Checks c (files_for c fs) bytes status) → IsPut status bytes before after result → (result ≡ WriteFault → (status ≡ WriteFault) ⊎ Risen) → (Risen → ⊥) → Completes words files result
completed words c workers files bytes status result before after asks ok checks (inl (same, adds)) failed calm =
    inr (
      subst IsReportStatus (sym same) ok,
      IfSome-map files (λ fs. Checks c (files_for c fs) bytes status) (TellsStatus words result) (λ fs k. (bytes, subst (Told words fs bytes) (sym same) (command c workers bytes status asks k))) checks,
    )
completed words c workers files bytes status result before after asks ok checks (inr (inl e, adds)) failed calm =
    elim (failed e) [ inl was ↦ absurd (subst IsReportStatus was ok) | inr up ↦ absurd (calm up) ]
completed words c workers files bytes status result before after asks ok checks (inr (inr e, adds)) failed calm = inl e
