-- The steps by which signatures, supertypes and constructors are read.
use Rattle.std.proofs.Common.{◌≡◌, List, [], ◌∷◌, Option, Some, None, Ok, Err, Bor, refl, sym, ap, ◌∙◌}
use Rattle.sg_base.specs.declared.scope.Scope.{Scope}
use Rattle.sg_query.specs.declared.answer.Answer.{Answer}
use Rattle.sg_query.specs.declared.found.Found.{Found}
use Rattle.sg_query.specs.declared.query.Query.{Query}
use Rattle.sg_reading.specs.declared.stop.Stop.TheVariants.{NoReply}
use Rattle.sg_reading.specs.Reading.{done}
use Rattle.sg_reading.specs.Stop.{Reads}
use Rattle.sg_reading.proofs.Steps.{ask_ok, ask_err, done_reads, reading_steps}
use Rattle.jv_instance.specs.declared.datum.JavaDatum.{JavaDatum}
use Rattle.jv_instance.specs.declared.pred.JavaPred.{JavaPred}
use Rattle.jv_layout.specs.Folder.{LayoutOf}
use Rattle.jv_names.specs.declared.kinds.TheConstants.{CTORS, SIG, SUPERS}
use Rattle.jv_names.specs.Replies.{for_any}
use Rattle.jv_names.specs.Read.{SignatureOf, signature_in, one_signature, answer_signature, signature_of, answer_supers, with_object, supers_of, one_ctor, answer_ctor, ctor_of}

abbrev Replies : Type 0
Replies = Query JavaPred → Option (Answer JavaDatum)

-- ---- the only one of a list

-- the signature by paths, behind a first one with this datum
abbrev pub signature_from : LayoutOf → Option (Bor JavaDatum) → List (Found JavaDatum) → Option SignatureOf
signature_from l None fs = one_signature l fs
signature_from l (Some d) [] = signature_in l d.now
signature_from l (Some d) (f ∷ fs) = None

-- the constructor by ends, behind a first one
abbrev pub ctor_from : LayoutOf → Option Scope → List Scope → Option Scope
ctor_from l None ks = one_ctor l ks
ctor_from l (Some k) ks = one_ctor l (k ∷ ks)

pub first_signature : (l : LayoutOf) (f : Found JavaDatum) (d : Bor JavaDatum) (fs : List (Found JavaDatum)) → d.now ≡ f.datum → signature_from l None (f ∷ fs) ≡ signature_from l (Some d) fs
first_signature l f d [] e = ap (λ (x : JavaDatum). signature_in l x) (sym e)
first_signature l f d (g ∷ gs) e = refl

-- ---- one query

module _ (reply : Replies) (l : LayoutOf) where
  pub signature_ok : (m : Scope) (a : Answer JavaDatum) (v : Option SignatureOf) → reply (for_any SIG m) ≡ Some a → v ≡ answer_signature l a → Reads reply (signature_of l m) (Ok v)
  unfolding signature_of
  signature_ok m a v e k = ask_ok reply (for_any SIG m) (λ a. done (answer_signature l a)) a (Ok v) e (done_reads reply (answer_signature l a) v (sym k))

  pub signature_err : (m : Scope) → reply (for_any SIG m) ≡ None → Reads {U = Option SignatureOf} reply (signature_of l m) (Err (NoReply (for_any SIG m)))
  unfolding signature_of
  signature_err m e = ask_err reply (for_any SIG m) (λ a. done (answer_signature l a)) e

  pub ctor_ok : (c : Scope) (a : Answer JavaDatum) (v : Option Scope) → reply (for_any CTORS c) ≡ Some a → v ≡ answer_ctor l a → Reads reply (ctor_of l c) (Ok v)
  unfolding ctor_of
  ctor_ok c a v e k = ask_ok reply (for_any CTORS c) (λ a. done (answer_ctor l a)) a (Ok v) e (done_reads reply (answer_ctor l a) v (sym k))

  pub ctor_err : (c : Scope) → reply (for_any CTORS c) ≡ None → Reads {U = Option Scope} reply (ctor_of l c) (Err (NoReply (for_any CTORS c)))
  unfolding ctor_of
  ctor_err c e = ask_err reply (for_any CTORS c) (λ a. done (answer_ctor l a)) e

  pub supers_ok : (c : Scope) (a : Answer JavaDatum) (up v : List Scope) → reply (for_any SUPERS c) ≡ Some a → up ≡ answer_supers l a → v ≡ with_object l c up → Reads reply (supers_of l c) (Ok v)
  unfolding supers_of
  supers_ok c a up v e k h =
      ask_ok reply (for_any SUPERS c) (λ a. done (with_object l c (answer_supers l a))) a (Ok v) e
      (done_reads reply (with_object l c (answer_supers l a)) v (sym (h ∙ ap (λ (ss : List Scope). with_object l c ss) k)))

  pub supers_err : (c : Scope) → reply (for_any SUPERS c) ≡ None → Reads {U = List Scope} reply (supers_of l c) (Err (NoReply (for_any SUPERS c)))
  unfolding supers_of
  supers_err c e = ask_err reply (for_any SUPERS c) (λ a. done (with_object l c (answer_supers l a))) e

pub ruleset read_steps = (reading_steps, signature_ok, signature_err, ctor_ok, ctor_err, supers_ok, supers_err)
