-- How far the imports of a file were read, and its single static ones.
use Rattle.std.proofs.Common.{◌≡◌, ℕ, List, [], Result, Ok, Err, IfOk, OnErr, sym, subst}
use Rattle.sg_query.specs.declared.answer.Answer.{Answer}
use Rattle.sg_query.specs.declared.query.Query.{Query}
use Rattle.sg_reading.specs.declared.stop.Stop.{Stop}
use Rattle.sg_reading.specs.Replies.{AddsReply}
use Rattle.sg_reading.specs.Stop.{Reads}
use Rattle.jv_diag.specs.Plain.{DiagOf}
use Rattle.jv_header.specs.declared.imports_progress.ImportsProgress.{ImportsProgress}
use Rattle.jv_header.specs.declared.statics_progress.StaticsProgress.{StaticsProgress}
use Rattle.jv_header.specs.ImportsProgress.{AreImportsSoFar, ReadsMeanings}
use Rattle.jv_header.specs.StaticImports.{statics_rule}
use Rattle.jv_header.specs.StaticsProgress.{AreStaticsSoFar}
use Rattle.jv_header.proofs.ImportsSoFar.{imports_so_far_added, imports_so_far_new}
use Rattle.jv_header.proofs.StaticSteps.{statics_so_far_added, statics_so_far_new}
use Rattle.jv_instance.specs.declared.datum.JavaDatum.{JavaDatum}
use Rattle.jv_instance.specs.declared.pred.JavaPred.{JavaPred}
use Rattle.jv_layout.specs.Folder.{LayoutOf}
use Rattle.jv_names.specs.Replies.{Rule, reply_to}
use Rattle.jv_tree.specs.DeclTree.{ImportTree, UnitTree}
use Rattle.jv_unit.specs.Folder.{FolderOf}
use Rattle.jv_unit.specs.Progress.{AreFileImportsSoFar, AreFileStaticsSoFar, Replies}
use Rattle.jv_unit.specs.Trees.{unit_at}

-- by what the code has of the file
module _ (reply : Replies) (w : FolderOf) (f : ℕ) (l : LayoutOf) (u : UnitTree) (layout : l ≡ w.layout) (file : u ≡ unit_at w.files f) (p : ImportsProgress) where
  pub imports_there : AreFileImportsSoFar reply w f p → AreImportsSoFar reply l f u.imports p
  imports_there h = subst (λ (k : LayoutOf). AreImportsSoFar reply k f u.imports p) (sym layout) (subst (λ (x : UnitTree). AreImportsSoFar reply w.layout f x.imports p) (sym file) h)

  pub imports_here : AreImportsSoFar reply l f u.imports p → AreFileImportsSoFar reply w f p
  imports_here h = subst (λ (x : UnitTree). AreImportsSoFar reply w.layout f x.imports p) file (subst (λ (k : LayoutOf). AreImportsSoFar reply k f u.imports p) layout h)

  pub meanings_read : (x : Result (Unit {0}) (Stop (Query JavaPred))) → ReadsMeanings reply l f u.imports x p → ReadsMeanings reply w.layout f (unit_at w.files f).imports x p
  meanings_read x h = subst (λ (v : UnitTree). ReadsMeanings reply w.layout f v.imports x p) file (subst (λ (k : LayoutOf). ReadsMeanings reply k f u.imports x p) layout h)

-- nothing was read yet
pub file_imports_new : (reply : Replies) (w : FolderOf) (f : ℕ) (p : ImportsProgress) → p.found ≡ [] → AreFileImportsSoFar reply w f p
file_imports_new reply w f p e = imports_so_far_new reply w.layout f (unit_at w.files f).imports p e

-- as far as imports were read, they were with a reply more, or with the same replies
pub file_imports_put : {E : Type 0} (old new : List (Query JavaPred × Answer JavaDatum)) (q : Query JavaPred) (a : Answer JavaDatum) (w : FolderOf) (f : ℕ) (p : ImportsProgress) (r : Result (Unit {0}) E)
    → IfOk r (λ x. AddsReply (reply_to old) (reply_to new) q a) → OnErr r (new ≡ old) → AreFileImportsSoFar (reply_to old) w f p → AreFileImportsSoFar (reply_to new) w f p
file_imports_put old new q a w f p (Ok x) adds same h = imports_so_far_added (reply_to old) (reply_to new) q a w.layout f (unit_at w.files f).imports p adds h
file_imports_put old new q a w f p (Err e) adds same h = subst (λ (rs : List (Query JavaPred × Answer JavaDatum)). AreFileImportsSoFar (reply_to rs) w f p) (sym same) h

-- ---- single static imports

-- by what the code has of the file
module _ (reply : Replies) (w : FolderOf) (f : ℕ) (l : LayoutOf) (names : List (List ℕ)) (is : List ImportTree) (layout : l ≡ w.layout) (named : names ≡ w.names) (imports : is ≡ (unit_at w.files f).imports) where
  pub statics_there : (p : StaticsProgress) → AreFileStaticsSoFar reply w f p → AreStaticsSoFar reply l names f is p
  statics_there p h =
      subst (λ (k : LayoutOf). AreStaticsSoFar reply k names f is p) (sym layout)
      (subst (λ (ns : List (List ℕ)). AreStaticsSoFar reply w.layout ns f is p) (sym named) (subst (λ (js : List ImportTree). AreStaticsSoFar reply w.layout w.names f js p) (sym imports) h))

  pub statics_here : (p : StaticsProgress) → AreStaticsSoFar reply l names f is p → AreFileStaticsSoFar reply w f p
  statics_here p h =
      subst (λ (js : List ImportTree). AreStaticsSoFar reply w.layout w.names f js p) imports
      (subst (λ (ns : List (List ℕ)). AreStaticsSoFar reply w.layout ns f is p) named (subst (λ (k : LayoutOf). AreStaticsSoFar reply k names f is p) layout h))

  pub statics_read : (x : Result (List DiagOf) (Stop (Query JavaPred))) → Reads reply (statics_rule l names f is) x → Reads reply (statics_rule w.layout w.names f (unit_at w.files f).imports) x
  statics_read x h = subst (λ (r : Rule (List DiagOf)). Reads reply r x) (λ j. statics_rule (layout j) (named j) f (imports j)) h

-- nothing was read yet
pub file_statics_new : (reply : Replies) (w : FolderOf) (f : ℕ) (p : StaticsProgress) → p.count ≡ 0 → p.diags ≡ [] → AreFileStaticsSoFar reply w f p
file_statics_new reply w f p count diags = statics_so_far_new reply w.layout w.names f (unit_at w.files f).imports p count diags

-- as far as static imports were read, they were with a reply more, or with the same replies
pub file_statics_put : {E : Type 0} (old new : List (Query JavaPred × Answer JavaDatum)) (q : Query JavaPred) (a : Answer JavaDatum) (w : FolderOf) (f : ℕ) (p : StaticsProgress) (r : Result (Unit {0}) E)
    → IfOk r (λ x. AddsReply (reply_to old) (reply_to new) q a) → OnErr r (new ≡ old) → AreFileStaticsSoFar (reply_to old) w f p → AreFileStaticsSoFar (reply_to new) w f p
file_statics_put old new q a w f p (Ok x) adds same h = statics_so_far_added (reply_to old) (reply_to new) q a w.layout w.names f (unit_at w.files f).imports p adds h
file_statics_put old new q a w f p (Err e) adds same h = subst (λ (rs : List (Query JavaPred × Answer JavaDatum)). AreFileStaticsSoFar (reply_to rs) w f p) (sym same) h
