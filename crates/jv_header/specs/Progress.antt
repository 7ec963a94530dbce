-- How far the references of a header were read.
use Rattle.std.specs.Prelude.{List, ◌++◌, drop, length, Option, Result, Ok, Err}
use Rattle.sg_base.specs.declared.scope.Scope.{Scope}
use Rattle.sg_query.specs.declared.answer.Answer.{Answer}
use Rattle.sg_query.specs.declared.query.Query.{Query}
use Rattle.sg_reading.specs.declared.stop.Stop.{Stop}
use Rattle.sg_reading.specs.Progress.{HasResidual}
use Rattle.sg_reading.specs.Reading.{done, and_then, each}
use Rattle.jv_instance.specs.declared.datum.JavaDatum.{JavaDatum}
use Rattle.jv_instance.specs.declared.pred.JavaPred.{JavaPred}
use Rattle.jv_layout.specs.Folder.{LayoutOf}
use Rattle.jv_tree.specs.declared.name.Ident.{Ident}
use Rattle.jv_names.specs.declared.reference.Reference.{Reference}
use Rattle.jv_names.specs.Replies.{Rule}
use Rattle.jv_header.specs.declared.header_progress.HeaderProgress.{HeaderProgress}
use Rattle.jv_header.specs.Header.{header_reference}

-- what is replied to each query: its answer, where that has come
abbrev pub Replies : Type 0
Replies = Query JavaPred → Option (Answer JavaDatum)

-- what a call gives that keeps elsewhere what it reads
abbrev pub with_found : {U : Type 0} → Result (Unit {0}) (Stop (Query JavaPred)) → U → Result U (Stop (Query JavaPred))
with_found (Ok v) found = Ok found
with_found (Err e) found = Err e

-- what is left of a clause behind its first references, which mean these
abbrev pub clause_left : LayoutOf → Scope → List (List Ident) → List Reference → Rule (List Reference)
clause_left l ty names found = and_then (each (header_reference l ty) (drop (length found) names)) (λ more. done (found ++ more))

-- over these replies the first references of a clause mean these: its rule goes on as what is left behind them
abbrev pub IsClauseSoFar : Replies → LayoutOf → Scope → List (List Ident) → List Reference → Type 0
IsClauseSoFar reply l ty names found = HasResidual reply (each (header_reference l ty) names) (clause_left l ty names found)

-- and so of both clauses of a header
pub record IsHeaderSoFar (reply : Replies) (l : LayoutOf) (ty : Scope) (extends implements : List (List Ident)) (p : HeaderProgress) : Type 0 where
  pub extended : IsClauseSoFar reply l ty extends p.extended
  pub implemented : IsClauseSoFar reply l ty implements p.implemented
