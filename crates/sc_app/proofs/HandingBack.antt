-- What a run hands back beside its status.
use Rattle.std.proofs.Common.{◌≡◌, ◌⊎◌, ℕ, List, length, Option, None, Some, IfSome, IfOk, Result, Ok, Err, inl, inr, sym, subst, ◌∙◌}
use Rattle.sc_io.specs.Sink.{AddsAll}
use Rattle.sc_io.specs.SourceTree.{FileOf}
use Rattle.sc_app.specs.declared.command.Command.{Command}
use Rattle.sc_app.specs.declared.outcome.Outcome.{Outcome}
use Rattle.sc_app.specs.declared.report.Report.{Report}
use Rattle.sc_app.specs.declared.status.Status.{Status}
use Rattle.sc_app.specs.declared.status.Status.TheVariants.{Clean, Found, Usage, ReadFault, WriteFault, Limit, OutOfMemory}
use Rattle.sc_app.specs.Outcome.{IsOutcomeOf}
use Rattle.sc_app.specs.Command.{Asks}
use Rattle.sc_app.specs.Ran.{HandsBack, IsBeside, IsBesideIn, IsNoReport, IsShownOf, Shows}
use Rattle.sc_app.specs.Sourced.{AreSources}
use Rattle.sc_app.specs.Statuses.{status_of}
use Rattle.sc_app.specs.Told.{IsPut, files_for}
use Rattle.sc_app.proofs.CommandLemmas.{asked_once}

-- ---- what was put

-- a fault is no report
no_report_put : (put : Status) → (put ≡ WriteFault) ⊎ (put ≡ OutOfMemory) → IsNoReport put
no_report_put put (inl e) = subst IsNoReport (sym e) tt
no_report_put put (inr e) = subst IsNoReport (sym e) tt

module _ (c : Command) (files : Option (List FileOf)) (bytes : List ℕ) (status put : Status) (before after : Option (List ℕ)) (is : IsPut status bytes before after put) where
  kept : (o : Option Outcome) → IsBesideIn c files o bytes status → (put ≡ status) → AddsAll before bytes after → HandsBack c files o put before after
  kept None beside same adds = subst IsNoReport (sym same) beside
  kept (Some o) (ss, are, told) same adds = (bytes, (ss, are, record { outcome = told.outcome; bytes = told.bytes; status = same ∙ told.status }), adds)

  -- where all that is shown of an outcome was written it is handed back
  pub handed_back : (o : Option Outcome) → IsBesideIn c files o bytes status → (IsNoReport put → ⊥) → HandsBack c files o put before after
  handed_back o beside report = elim is [
    | inl all ↦ kept o beside all.0 all.1
    | inr front ↦ absurd (report (no_report_put put front.0))
  ]

abbrev HandsBackBy : Command → Option (List FileOf) → Option (List ℕ) → Option (List ℕ) → Status → Option Outcome → Type 0
HandsBackBy c files before after put r = HandsBack c files r put before after

module _ (c : Command) (files : Option (List FileOf)) (bytes : List ℕ) (status : Status) (before after : Option (List ℕ)) (o r : Option Outcome) (beside : IsBesideIn c files o bytes status) where
  pub given_back : (put : Status) → IsPut status bytes before after put → (IsNoReport put → r ≡ None) → ((IsNoReport put → ⊥) → r ≡ o) → HandsBack c files r put before after
  given_back Clean is none same = subst (HandsBackBy c files before after Clean) (sym (same (λ x. x))) (handed_back c files bytes status Clean before after is o beside (λ x. x))
  given_back Found is none same = subst (HandsBackBy c files before after Found) (sym (same (λ x. x))) (handed_back c files bytes status Found before after is o beside (λ x. x))
  given_back Usage is none same = subst (HandsBackBy c files before after Usage) (sym (none tt)) tt
  given_back ReadFault is none same = subst (HandsBackBy c files before after ReadFault) (sym (none tt)) tt
  given_back WriteFault is none same = subst (HandsBackBy c files before after WriteFault) (sym (none tt)) tt
  given_back (Limit which) is none same = subst (HandsBackBy c files before after (Limit which)) (sym (none tt)) tt
  given_back OutOfMemory is none same = subst (HandsBackBy c files before after OutOfMemory) (sym (none tt)) tt

-- what is handed back for a command that the words ask for is so for each that they ask for
pub handed_for : (words : List (List ℕ)) (c d : Command) (some more : Option ℕ) (files : Option (List FileOf)) (o : Option Outcome) (status : Status) (before after : Option (List ℕ)) → Asks words c some → Asks words d more
    → HandsBack c files o status before after → HandsBack d files o status before after
handed_for words c d some more files o status before after asks also back =
    subst (λ (k : Command). HandsBack k files o status before after) (asked_once words c d some more asks also) back

-- ---- what is shown of sources

module _ (c : Command) (ss : List FileOf) (o : Outcome) (is : IsOutcomeOf ss o) where
  beside_shown : (bytes : List ℕ) (status : Status) → Shows c o bytes → status ≡ status_of (length o.diags.items) → IsShownOf c ss o bytes status
  beside_shown bytes status e k = record { outcome = is; bytes = e; status = k }

  beside_is : (x : Report) → Shows c o x.bytes.items → x.status ≡ status_of (length o.diags.items) → x.outcome ≡ Some o → IsBeside c ss x.outcome x.bytes.items x.status
  beside_is x e k same = subst (λ (z : Option Outcome). IsBeside c ss z x.bytes.items x.status) (sym same) (beside_shown x.bytes.items x.status e k)

  pub shown_beside : {E : Type 0} (r : Result Report E) → IfOk r (λ x. Shows c o x.bytes.items) → IfOk r (λ x. x.status ≡ status_of (length o.diags.items)) → IfOk r (λ x. x.outcome ≡ Some o)
      → IfOk r (λ x. IsBeside c ss x.outcome x.bytes.items x.status)
  shown_beside (Ok x) e k same = beside_is x e k same
  shown_beside (Err y) e k same = tt

-- what is beside what is shown of sources is so in the folder of which they are
pub beside_in : (c : Command) (files : Option (List FileOf)) (ss : List FileOf) → IfSome files (λ fs. AreSources (files_for c fs) ss) → (o : Option Outcome) (bytes : List ℕ) (status : Status) → IsBeside c ss o bytes status → IsBesideIn c files o bytes status
beside_in c files ss are None bytes status beside = beside
beside_in c files ss are (Some o) bytes status beside = (ss, are, beside)

-- a limit is no report
pub refused_beside : (c : Command) (files : Option (List FileOf)) (o : Option Outcome) (bytes : List ℕ) (status : Status) → o ≡ None → IsNoReport status → IsBesideIn c files o bytes status
refused_beside c files o bytes status none limit = subst (λ (z : Option Outcome). IsBesideIn c files z bytes status) (sym none) limit
