-- The steps by which the functions that read what units write and come to prove themselves.
use Rattle.std.proofs.Common.{◌≡◌, ℕ, List, ◌++◌, Option, Result, Ok, Err, MatchResult, refl, sym, subst}
use Rattle.std.specs.Result.{IsErrAnd}
use Rattle.sg_base.specs.declared.scope.Scope.{Scope}
use Rattle.sg_query.specs.declared.answer.Answer.{Answer}
use Rattle.sg_query.specs.declared.query.Query.{Query}
use Rattle.sg_reading.specs.declared.stop.Stop.{Stop}
use Rattle.sg_reading.specs.declared.stop.Stop.TheVariants.{OutOfMemory}
use Rattle.sg_reading.specs.Reading.{done, and_then, each}
use Rattle.sg_reading.specs.Stop.{Reads}
use Rattle.sg_reading.proofs.Sequences.{and_then-and_then}
use Rattle.sg_reading.proofs.Steps.{done_reads, memory_reads, stops, then_ok, then_err}
use Rattle.sg_script.specs.declared.write.Write.{Write}
use Rattle.sg_script.specs.Script.{row_writes, edge_writes}
use Rattle.jv_diag.specs.Plain.{DiagOf}
use Rattle.jv_instance.specs.declared.datum.JavaDatum.{JavaDatum}
use Rattle.jv_instance.specs.declared.pred.JavaPred.{JavaPred}
use Rattle.jv_instance.specs.declared.labels.TheConstants.{EXT}
use Rattle.jv_layout.specs.Folder.{LayoutOf}
use Rattle.jv_layout.specs.Scopes.{type_scope}
use Rattle.jv_names.specs.declared.reference.Reference.{Reference}
use Rattle.jv_names.specs.Replies.{Rule}
use Rattle.jv_header.specs.declared.header.Header.{Header}
use Rattle.jv_header.specs.Header.{header_rule}
use Rattle.jv_header.specs.Imports.{ImportsOf, import_edges, import_reference, imports_from, imports_rule, no_imports}
use Rattle.jv_header.specs.StaticImports.{statics_rule}
use Rattle.jv_tree.specs.DeclTree.{TypeDeclTree, UnitTree}
use Rattle.jv_unit.specs.Folder.{FolderOf}
use Rattle.jv_unit.specs.Plans.{file_rows, file_stage, file_ending, type_header, type_stage}
use Rattle.jv_unit.specs.Trees.{decl_at, unit_at, extends_of, implements_of}

abbrev Replies : Type 0
Replies = Query JavaPred → Option (Answer JavaDatum)

-- what is made of a rule's value
module _ {T S : Type 0} (reply : Replies) (r : Rule T) (f : T → S) where
  pub made : (v : T) (x : Result S (Stop (Query JavaPred))) → Reads reply r (Ok v) → MatchResult x (λ s. s ≡ f v) (λ stop. stop ≡ OutOfMemory) → Reads reply (and_then r (λ v. done (f v))) x
  made v (Ok s) h m = then_ok reply r (λ v. done (f v)) v (Ok s) h (done_reads reply (f v) s (sym m))
  made v (Err e) h m = subst (λ (z : Stop (Query JavaPred)). Reads {U = S} reply (and_then r (λ v. done (f v))) (Err z)) (sym m) (memory_reads reply (and_then r (λ v. done (f v))))

-- what is made of that again
module _ {T S U : Type 0} (reply : Replies) (r : Rule T) (f : T → S) (g : S → U) where
  in_one : and_then (and_then r (λ v. done (f v))) (λ s. done (g s)) ≡ and_then r (λ v. done (g (f v)))
  in_one = and_then-and_then r (λ v. done (f v)) (λ s. done (g s))

  pub made_twice : (v : T) (x : Result U (Stop (Query JavaPred))) → Reads reply r (Ok v) → MatchResult x (λ s. s ≡ g (f v)) (λ stop. stop ≡ OutOfMemory) → Reads reply (and_then (and_then r (λ v. done (f v))) (λ s. done (g s))) x
  made_twice v x h m = subst (λ (z : Rule U). Reads reply z x) (sym in_one) (made reply r (λ v. g (f v)) v x h m)

  pub stops_twice : (e : Stop (Query JavaPred)) → Reads {U = T} reply r (Err e) → Reads {U = U} reply (and_then (and_then r (λ v. done (f v))) (λ s. done (g s))) (Err e)
  stops_twice e h = then_err reply (and_then r (λ v. done (f v))) (λ s. done (g s)) e (then_err reply r (λ v. done (f v)) e h)

-- ---- files

-- what the imports of a file mean, and what is said of the static ones
module _ (reply : Replies) (w : FolderOf) (f : ℕ) where
  abbrev meanings : Rule (List Reference)
  meanings = each (import_reference w.layout f) (unit_at w.files f).imports

  abbrev given_by : List Reference → ImportsOf
  given_by rs = imports_from w.layout w.names f (unit_at w.files f).types no_imports (unit_at w.files f).imports rs

  abbrev statics : Rule (List DiagOf)
  statics = statics_rule w.layout w.names f (unit_at w.files f).imports

  -- what follows behind the imports
  abbrev behind : ImportsOf → Rule (List DiagOf)
  behind i = and_then statics (λ ds. done (i.diags ++ ds))

  pub meanings_unended : (e : Stop (Query JavaPred)) (x : Result (List DiagOf) (Stop (Query JavaPred))) → IsErrAnd x (λ y. y ≡ e) → Reads {U = List Reference} reply meanings (Err e) → Reads reply (file_ending w f) x
  meanings_unended e x k h =
      stops reply (file_ending w f) e x k (then_err reply (imports_rule w.layout w.names f (unit_at w.files f)) behind e (then_err reply meanings (λ rs. done (given_by rs)) e h))

  pub statics_unended : (rs : List Reference) (e : Stop (Query JavaPred)) (x : Result (List DiagOf) (Stop (Query JavaPred))) → IsErrAnd x (λ y. y ≡ e) → Reads reply meanings (Ok rs) → Reads {U = List DiagOf} reply statics (Err e) → Reads reply (file_ending w f) x
  statics_unended rs e x k h g =
      stops reply (file_ending w f) e x k
      (then_ok reply (imports_rule w.layout w.names f (unit_at w.files f)) behind (given_by rs) (Err e) (then_ok reply meanings (λ rs. done (given_by rs)) rs (Ok (given_by rs)) h (done_reads reply (given_by rs) (given_by rs) refl))
      (then_err reply statics (λ ds. done ((given_by rs).diags ++ ds)) e g))

-- by what the code has of the file
module _ (reply : Replies) (w : FolderOf) (f : ℕ) (l : LayoutOf) (names : List (List ℕ)) (u : UnitTree) (layout : l ≡ w.layout) (named : names ≡ w.names) (file : u ≡ unit_at w.files f) where
  imports_are : imports_rule l names f u ≡ imports_rule w.layout w.names f (unit_at w.files f)
  imports_are = λ i. imports_rule (layout i) (named i) f (file i)

  imports_read : (x : Result ImportsOf (Stop (Query JavaPred))) → Reads reply (imports_rule l names f u) x → Reads reply (imports_rule w.layout w.names f (unit_at w.files f)) x
  imports_read x h = subst (λ (r : Rule ImportsOf). Reads reply r x) imports_are h

  pub file_unknown : (e : Stop (Query JavaPred)) (x : Result (List (Write JavaDatum)) (Stop (Query JavaPred))) → IsErrAnd x (λ y. y ≡ e) → Reads {U = ImportsOf} reply (imports_rule l names f u) (Err e) → Reads reply (file_stage w f).rule x
  file_unknown e x k h =
      stops reply (file_stage w f).rule e x k
      (stops_twice reply (imports_rule w.layout w.names f (unit_at w.files f)) (import_edges w.layout f) (edge_writes (file_rows w.layout f)) e (imports_read (Err e) h))

  pub file_written : (i : ImportsOf) (x : Result (List (Write JavaDatum)) (Stop (Query JavaPred))) (m : LayoutOf) → m ≡ w.layout → Reads reply (imports_rule l names f u) (Ok i) → MatchResult x (λ ws. ws ≡ edge_writes (file_rows m f) (import_edges m f i)) (λ stop. stop ≡ OutOfMemory) → Reads reply (file_stage w f).rule x
  file_written i x m same h k =
      made_twice reply (imports_rule w.layout w.names f (unit_at w.files f)) (import_edges w.layout f) (edge_writes (file_rows w.layout f)) i x (imports_read (Ok i) h)
      (subst (λ (m : LayoutOf). MatchResult x (λ ws. ws ≡ edge_writes (file_rows m f) (import_edges m f i)) (λ stop. stop ≡ OutOfMemory)) same k)

  pub file_unended : (e : Stop (Query JavaPred)) (x : Result (List DiagOf) (Stop (Query JavaPred))) → IsErrAnd x (λ y. y ≡ e) → Reads {U = ImportsOf} reply (imports_rule l names f u) (Err e) → Reads reply (file_ending w f) x
  file_unended e x k h = stops reply (file_ending w f) e x k (then_err reply (imports_rule w.layout w.names f (unit_at w.files f)) (behind reply w f) e (imports_read (Err e) h))

  pub file_ended : (i : ImportsOf) (given ds : List DiagOf) (x : Result (List DiagOf) (Stop (Query JavaPred))) → Reads reply (imports_rule l names f u) (Ok i) → Reads reply (statics reply w f) (Ok ds) → given ≡ i.diags
      → MatchResult x (λ all. all ≡ given ++ ds) (λ stop. stop ≡ OutOfMemory) → Reads reply (file_ending w f) x
  file_ended i given ds x h g e m =
      then_ok reply (imports_rule w.layout w.names f (unit_at w.files f)) (behind reply w f) i x (imports_read (Ok i) h)
      (made reply (statics reply w f) (λ ds. i.diags ++ ds) ds x g (subst (λ (before : List DiagOf). MatchResult x (λ all. all ≡ before ++ ds) (λ stop. stop ≡ OutOfMemory)) e m))

-- ---- types

module _ (reply : Replies) (w : FolderOf) (t : ℕ) where
  -- by what the code has of the type
  pub header_read : (l : LayoutOf) (names : List (List ℕ)) (c : Scope) (d : TypeDeclTree) → l ≡ w.layout → names ≡ w.names → c ≡ type_scope w.layout t → d ≡ decl_at w.files t
      → (x : Result Header (Stop (Query JavaPred))) → Reads reply (header_rule l names c (extends_of d) (implements_of d)) x → Reads reply (type_header w t) x
  header_read l names c d layout named type decl x h = subst (λ (r : Rule Header). Reads reply r x) (λ i. header_rule (layout i) (named i) (type i) (extends_of (decl i)) (implements_of (decl i))) h

  pub type_unknown : (e : Stop (Query JavaPred)) (x : Result (List (Write JavaDatum)) (Stop (Query JavaPred))) → IsErrAnd x (λ y. y ≡ e) → Reads {U = Header} reply (type_header w t) (Err e) → Reads reply (type_stage w t).rule x
  type_unknown e x k h = stops reply (type_stage w t).rule e x k (stops_twice reply (type_header w t) (λ h. h.row) (row_writes (type_scope w.layout t) EXT) e h)

  pub type_written : (h : Header) (x : Result (List (Write JavaDatum)) (Stop (Query JavaPred))) (c : Scope) (label : ℕ) (row : List Scope) → c ≡ type_scope w.layout t → label ≡ EXT → row ≡ h.row → Reads reply (type_header w t) (Ok h) → MatchResult x (λ ws. ws ≡ row_writes c label row) (λ stop. stop ≡ OutOfMemory) → Reads reply (type_stage w t).rule x
  type_written h x c label row type le re g k =
      made_twice reply (type_header w t) (λ h. h.row) (row_writes (type_scope w.layout t) EXT) h x g
      (subst (λ (ws' : List (Write JavaDatum)). MatchResult x (λ ws. ws ≡ ws') (λ stop. stop ≡ OutOfMemory)) (λ i. row_writes (type i) (le i) (re i)) k)
