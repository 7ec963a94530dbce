-- The steps by which a function that reads a rule of headers with `?` proves itself.
use Rattle.std.proofs.Common.{◌≡◌, ℕ, List, [], Option, Ok, Err, sym, subst}
use Rattle.sg_base.specs.declared.scope.Scope.{Scope}
use Rattle.sg_query.specs.declared.answer.Answer.{Answer}
use Rattle.sg_query.specs.declared.query.Query.{Query}
use Rattle.sg_reading.specs.declared.stop.Stop.{Stop}
use Rattle.sg_reading.specs.Reading.{done, and_then}
use Rattle.sg_reading.specs.Stop.{Reads}
use Rattle.sg_reading.proofs.Steps.{done_reads, then_ok, then_err, reading_steps}
use Rattle.jv_instance.specs.declared.datum.JavaDatum.{JavaDatum}
use Rattle.jv_instance.specs.declared.pred.JavaPred.{JavaPred}
use Rattle.jv_layout.specs.Folder.{LayoutOf}
use Rattle.jv_tree.specs.DeclTree.{ImportTree}
use Rattle.jv_names.specs.declared.reference.Reference.{Reference}
use Rattle.jv_names.specs.declared.resolved.Resolved.{Resolved}
use Rattle.jv_names.specs.Names.{import_rule}
use Rattle.jv_names.specs.Reference.{refused}
use Rattle.jv_names.proofs.References.{lets_pass, refuses, access_unknown, all_looked_at}
use Rattle.jv_header.specs.Imports.{import_reference}

abbrev Replies : Type 0
Replies = Query JavaPred → Option (Answer JavaDatum)

-- ---- imports

module _ (reply : Replies) (l : LayoutOf) (file : ℕ) (i : ImportTree) where
  module _ (r : Resolved) (bodies : List Scope) (named : Reads reply (import_rule l i) (Ok r)) where
    pub imported : (ts : List Scope) (v : Reference) → Reads reply (refused l file bodies [] r.types) (Ok ts) → bodies ≡ [] → v ≡ record { meaning = r.meaning; refused = ts } → Reads reply (import_reference l file i) (Ok v)
    unfolding import_reference
    imported ts v g none e =
        then_ok reply (import_rule l i) (λ r. and_then (refused l file [] [] r.types) (λ ts. done (record { meaning = r.meaning; refused = ts }))) r (Ok v) named
        (then_ok reply (refused l file [] [] r.types) (λ ts. done (record { meaning = r.meaning; refused = ts })) ts (Ok v) (subst (λ (bs : List Scope). Reads reply (refused l file bs [] r.types) (Ok ts)) none g) (done_reads reply (record { meaning = r.meaning; refused = ts }) v (sym e)))

    pub access_of_import_unknown : (e : Stop (Query JavaPred)) → Reads {U = List Scope} reply (refused l file bodies [] r.types) (Err e) → bodies ≡ [] → Reads {U = Reference} reply (import_reference l file i) (Err e)
    unfolding import_reference
    access_of_import_unknown e g none =
        then_ok reply (import_rule l i) (λ r. and_then (refused l file [] [] r.types) (λ ts. done (record { meaning = r.meaning; refused = ts }))) r (Err e) named
        (then_err reply (refused l file [] [] r.types) (λ ts. done (record { meaning = r.meaning; refused = ts })) e (subst (λ (bs : List Scope). Reads {U = List Scope} reply (refused l file bs [] r.types) (Err e)) none g))

  pub import_unknown : (e : Stop (Query JavaPred)) → Reads {U = Resolved} reply (import_rule l i) (Err e) → Reads {U = Reference} reply (import_reference l file i) (Err e)
  unfolding import_reference
  import_unknown e g = then_err reply (import_rule l i) (λ r. and_then (refused l file [] [] r.types) (λ ts. done (record { meaning = r.meaning; refused = ts }))) e g

pub ruleset header_steps = (reading_steps, imported, access_of_import_unknown, import_unknown, lets_pass, refuses, access_unknown, all_looked_at)
