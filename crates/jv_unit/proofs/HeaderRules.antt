-- How far the header of a type was read.
use Rattle.std.proofs.Common.{◌≡◌, ℕ, List, [], Result, Ok, Err, IfOk, OnErr, sym, subst}
use Rattle.sg_base.specs.declared.scope.Scope.{Scope}
use Rattle.sg_query.specs.declared.answer.Answer.{Answer}
use Rattle.sg_query.specs.declared.query.Query.{Query}
use Rattle.sg_reading.specs.Replies.{AddsReply}
use Rattle.jv_header.specs.declared.header_progress.HeaderProgress.{HeaderProgress}
use Rattle.jv_header.specs.Progress.{IsHeaderSoFar}
use Rattle.jv_header.proofs.Progress.{header_so_far_added, header_so_far_new}
use Rattle.jv_instance.specs.declared.datum.JavaDatum.{JavaDatum}
use Rattle.jv_instance.specs.declared.pred.JavaPred.{JavaPred}
use Rattle.jv_layout.specs.Folder.{LayoutOf}
use Rattle.jv_layout.specs.Scopes.{type_scope}
use Rattle.jv_names.specs.Replies.{reply_to}
use Rattle.jv_tree.specs.DeclTree.{TypeDeclTree}
use Rattle.jv_unit.specs.Folder.{FolderOf}
use Rattle.jv_unit.specs.Progress.{IsReadSoFar, Replies}
use Rattle.jv_unit.specs.Trees.{decl_at, extends_of, implements_of}

-- by what the code has of the type
module _ (reply : Replies) (w : FolderOf) (t : ℕ) (l : LayoutOf) (c : Scope) (d : TypeDeclTree) (layout : l ≡ w.layout) (type : c ≡ type_scope w.layout t) (decl : d ≡ decl_at w.files t) (p : HeaderProgress) where
  pub read_there : IsReadSoFar reply w t p → IsHeaderSoFar reply l c (extends_of d) (implements_of d) p
  read_there h =
      subst (λ (k : LayoutOf). IsHeaderSoFar reply k c (extends_of d) (implements_of d) p) (sym layout)
      (subst (λ (s : Scope). IsHeaderSoFar reply w.layout s (extends_of d) (implements_of d) p) (sym type)
      (subst (λ (x : TypeDeclTree). IsHeaderSoFar reply w.layout (type_scope w.layout t) (extends_of x) (implements_of x) p) (sym decl) h))

  pub read_here : IsHeaderSoFar reply l c (extends_of d) (implements_of d) p → IsReadSoFar reply w t p
  read_here h =
      subst (λ (x : TypeDeclTree). IsHeaderSoFar reply w.layout (type_scope w.layout t) (extends_of x) (implements_of x) p) decl
      (subst (λ (s : Scope). IsHeaderSoFar reply w.layout s (extends_of d) (implements_of d) p) type
      (subst (λ (k : LayoutOf). IsHeaderSoFar reply k c (extends_of d) (implements_of d) p) layout h))

-- nothing was read yet
pub read_so_far_new : (reply : Replies) (w : FolderOf) (t : ℕ) (p : HeaderProgress) → p.extended ≡ [] → p.implemented ≡ [] → IsReadSoFar reply w t p
read_so_far_new reply w t p e i = header_so_far_new reply w.layout (type_scope w.layout t) (extends_of (decl_at w.files t)) (implements_of (decl_at w.files t)) p e i

-- as far as a header was read, it was with a reply more, or with the same replies
pub read_so_far_put : {E : Type 0} (old new : List (Query JavaPred × Answer JavaDatum)) (q : Query JavaPred) (a : Answer JavaDatum) (w : FolderOf) (t : ℕ) (p : HeaderProgress) (r : Result (Unit {0}) E)
    → IfOk r (λ x. AddsReply (reply_to old) (reply_to new) q a) → OnErr r (new ≡ old) → IsReadSoFar (reply_to old) w t p → IsReadSoFar (reply_to new) w t p
read_so_far_put old new q a w t p (Ok x) adds same h = header_so_far_added (reply_to old) (reply_to new) q a w.layout (type_scope w.layout t) (extends_of (decl_at w.files t)) (implements_of (decl_at w.files t)) p adds h
read_so_far_put old new q a w t p (Err e) adds same h = subst (λ (rs : List (Query JavaPred × Answer JavaDatum)). IsReadSoFar (reply_to rs) w t p) (sym same) h
