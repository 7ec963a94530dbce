-- How far the imports of a file were read: further replies leave it there, and one more import leads on.
use Rattle.std.proofs.Common.{◌≡◌, ℕ, ◌<◌, ◌≤◌, List, [], ◌∷◌, ◌++◌, map, Ok, Err, get_or, length}
use Rattle.sg_query.specs.declared.answer.Answer.{Answer}
use Rattle.sg_query.specs.declared.query.Query.{Query}
use Rattle.sg_reading.specs.declared.stop.Stop.{Stop}
use Rattle.sg_reading.specs.Reading.{each}
use Rattle.sg_reading.specs.Replies.{AddsReply}
use Rattle.sg_reading.specs.Stop.{Reads}
use Rattle.sg_reading.proofs.Progress.{residual_added}
use Rattle.sg_reading.proofs.Steps.{reading_steps}
use Rattle.jv_instance.specs.declared.datum.JavaDatum.{JavaDatum}
use Rattle.jv_instance.specs.declared.pred.JavaPred.{JavaPred}
use Rattle.jv_layout.specs.Folder.{LayoutOf}
use Rattle.jv_tree.specs.declared.declaration.Import.{Import}
use Rattle.jv_tree.specs.DeclTree.{ImportTree, import_tree}
use Rattle.jv_names.specs.declared.reference.Reference.{Reference}
use Rattle.jv_header.specs.declared.imports_progress.ImportsProgress.{ImportsProgress}
use Rattle.jv_header.specs.Imports.{import_reference}
use Rattle.jv_header.specs.ImportsProgress.{AreImportsSoFar, imports_left}
use Rattle.jv_header.specs.Progress.{Replies}
use Rattle.jv_header.proofs.Progress.{clause_memory, clause_stops, list_ends, list_err, list_more, list_new}

-- ---- one import more

module _ (reply : Replies) (l : LayoutOf) (file : ℕ) (imports : List Import) (found : List Reference) (so_far : AreImportsSoFar reply l file (map import_tree imports) (record { found = found })) where
  module _ (import : Import) (i : ℕ) (is : import ≡ get_or imports i import) (at : i ≡ length found) (n : ℕ) (below : n < length imports) (count : n ≡ length found) where
    pub import_more : (v : Reference) (vs : List Reference) → vs ≡ found ++ v ∷ [] → Reads reply (import_reference l file (import_tree import)) (Ok v) → AreImportsSoFar reply l file (map import_tree imports) (record { found = vs })
    import_more v vs e h = list_more import_tree reply (import_reference l file) imports found so_far import i is at n below count v vs e h

    pub import_err : (e : Stop (Query JavaPred)) → Reads {U = Reference} reply (import_reference l file (import_tree import)) (Err e) → Reads {U = List Reference} reply (each (import_reference l file) (map import_tree imports)) (Err e)
    import_err e h = list_err import_tree reply (import_reference l file) imports found so_far import i is at n below count e h

  pub import_ends : (n : ℕ) → length imports ≤ n → n ≡ length found → Reads reply (each (import_reference l file) (map import_tree imports)) (Ok found)
  import_ends n past count = list_ends import_tree reply (import_reference l file) imports found so_far n past count

-- ---- the imports of a file

-- nothing was read yet
pub imports_so_far_new : (reply : Replies) (l : LayoutOf) (file : ℕ) (is : List ImportTree) (p : ImportsProgress) → p.found ≡ [] → AreImportsSoFar reply l file is p
imports_so_far_new reply l file is p e = list_new reply (import_reference l file) is p.found e

-- a reply more leaves it so far
pub imports_so_far_added : (old new : Replies) (q : Query JavaPred) (a : Answer JavaDatum) (l : LayoutOf) (file : ℕ) (is : List ImportTree) (p : ImportsProgress) → AddsReply old new q a → AreImportsSoFar old l file is p → AreImportsSoFar new l file is p
imports_so_far_added old new q a l file is p adds h = residual_added old new q a (each (import_reference l file) is) (imports_left l file is p.found) adds h

pub ruleset import_steps = (reading_steps, import_more, import_err, import_ends, clause_stops, clause_memory)

pub ruleset imports_progress_steps = (reading_steps, imports_so_far_new)
