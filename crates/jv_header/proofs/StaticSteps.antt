-- Single static imports: what is read of one, and how far those of a file were read.
use Rattle.std.proofs.Common.{◌≡◌, ℕ, ◌+◌, ◌<◌, ◌≤◌, ◌&&◌, not, Bool, true, false, cond, List, [], ◌∷◌, ◌++◌, map, Result, Ok, Err, MatchResult, drop, get_or, length, refl, sym, ap, ◌∙◌, subst, append-nil, arith}
use Rattle.std.proofs.lemmas.List.{at_drop_more, at_drop_all, get_or-map, length-map}
use Rattle.sg_base.specs.declared.scope.Scope.{Scope}
use Rattle.sg_query.specs.declared.answer.Answer.{Answer}
use Rattle.sg_query.specs.declared.query.Query.{Query}
use Rattle.sg_reading.specs.declared.stop.Stop.{Stop}
use Rattle.sg_reading.specs.declared.stop.Stop.TheVariants.{OutOfMemory}
use Rattle.sg_reading.specs.Progress.{HasResidual}
use Rattle.sg_reading.specs.Reading.{done, and_then}
use Rattle.sg_reading.specs.Replies.{AddsReply}
use Rattle.sg_reading.specs.Stop.{Reads}
use Rattle.sg_reading.proofs.Progress.{residual_added, residual_behind, residual_here, residual_on, residual_reads}
use Rattle.sg_reading.proofs.Steps.{done_reads, memory_reads, reading_steps, then_err, then_ok}
use Rattle.jv_diag.specs.declared.codes.TheConstants.{UNKNOWN_IMPORT}
use Rattle.jv_diag.specs.Plain.{DiagOf, diagnostic}
use Rattle.jv_instance.specs.declared.datum.JavaDatum.{JavaDatum}
use Rattle.jv_instance.specs.declared.pred.JavaPred.{JavaPred}
use Rattle.jv_layout.specs.Folder.{LayoutOf}
use Rattle.jv_tree.specs.declared.declaration.Import.{Import}
use Rattle.jv_tree.specs.declared.name.Ident.{Ident}
use Rattle.jv_tree.specs.declared.names.NameId.{NameId}
use Rattle.jv_tree.specs.DeclTree.{ImportTree, import_tree}
use Rattle.jv_names.specs.declared.ends.Ends.{Ends}
use Rattle.jv_names.specs.declared.ends.Ends.TheVariants.{Scopes}
use Rattle.jv_names.specs.declared.resolved.Resolved.{Resolved}
use Rattle.jv_names.specs.Names.{import_rule}
use Rattle.jv_names.specs.Replies.{Rule}
use Rattle.jv_names.specs.Statics.{statics_of_type}
use Rattle.jv_names.specs.Written.{last_name, start_of, written}
use Rattle.jv_header.specs.declared.statics_progress.StaticsProgress.{StaticsProgress}
use Rattle.jv_header.specs.Progress.{Replies}
use Rattle.jv_header.specs.StaticImports.{static_check, static_diags, static_meant, statics_from, statics_rule}
use Rattle.jv_header.specs.StaticsProgress.{AreStaticsSoFar}
use Rattle.jv_header.proofs.Progress.{clause_memory, clause_stops}

-- ---- what is said of a name

module _ (names : List (List ℕ)) (file : ℕ) (ids : List Ident) (ms : List Scope) where
  no_member : (ks : List Scope) → length ks < 1 → static_diags names file ids (Scopes ks) ≡ diagnostic file (start_of ids) UNKNOWN_IMPORT (written names ids ∷ []) ∷ []
  no_member [] none = refl
  no_member (k ∷ ks) none = absurd (omega (arith, none))

  some_member : (ks : List Scope) → 1 ≤ length ks → static_diags names file ids (Scopes ks) ≡ []
  some_member [] some = absurd (omega (arith, some))
  some_member (k ∷ ks) some = refl

  -- where it brings none, that is added
  pub none_said : (old new : List DiagOf) → length ms < 1 → new ≡ old ++ diagnostic file (start_of ids) UNKNOWN_IMPORT (written names ids ∷ []) ∷ [] → new ≡ old ++ static_diags names file ids (Scopes ms)
  none_said old new none e = e ∙ ap (λ (ds : List DiagOf). old ++ ds) (sym (no_member ms none))

  -- and else nothing
  pub some_said : (old : List DiagOf) → 1 ≤ length ms → old ≡ old ++ static_diags names file ids (Scopes ms)
  some_said old some = sym (append-nil old) ∙ ap (λ (ds : List DiagOf). old ++ ds) (sym (some_member ms some))

-- by the members of its last identifier in its type
module _ (reply : Replies) (l : LayoutOf) (names : List (List ℕ)) (file : ℕ) (ids : List Ident) (t : Scope) where
  abbrev members : NameId → Rule Ends
  members n = statics_of_type l file t n

  abbrev said : Ends → Rule (List DiagOf)
  said e = done (static_diags names file ids e)

  pub brought_said : (n : NameId) (e : Ends) (x : Result (List DiagOf) (Stop (Query JavaPred))) → n ≡ last_name ids → Reads reply (members n) (Ok e) → MatchResult x (λ ds. ds ≡ static_diags names file ids e) (λ stop. stop ≡ OutOfMemory) → Reads reply (and_then (members (last_name ids)) said) x
  brought_said n e (Ok ds) named g m =
      then_ok reply (members (last_name ids)) said e (Ok ds) (subst (λ (k : NameId). Reads reply (members k) (Ok e)) named g) (done_reads reply (static_diags names file ids e) ds (sym m))
  brought_said n e (Err z) named g m =
      subst (λ (y : Stop (Query JavaPred)). Reads {U = List DiagOf} reply (and_then (members (last_name ids)) said) (Err y)) (sym m) (memory_reads reply (and_then (members (last_name ids)) said))

  pub brought_unknown : (n : NameId) (e : Stop (Query JavaPred)) → n ≡ last_name ids → Reads {U = Ends} reply (members n) (Err e) → Reads {U = List DiagOf} reply (and_then (members (last_name ids)) said) (Err e)
  brought_unknown n e named g = then_err reply (members (last_name ids)) said e (subst (λ (k : NameId). Reads {U = Ends} reply (members k) (Err e)) named g)

-- ---- one import

module _ (reply : Replies) (l : LayoutOf) (names : List (List ℕ)) (file : ℕ) (i : ImportTree) where
  abbrev meant : Resolved → Rule (List DiagOf)
  meant r = static_meant l names file i.name r.meaning

  checked : (b : Bool) → (i.is_static && not i.all) ≡ b → (x : Result (List DiagOf) (Stop (Query JavaPred))) → Reads reply (cond b (and_then (import_rule l i) meant) (done [])) x → Reads reply (static_check l names file i) x
  unfolding static_check
  checked b is x h = subst (λ (t : Bool). Reads reply (cond t (and_then (import_rule l i) meant) (done [])) x) (sym is) h

  -- a single static one
  module _ (single : (i.is_static && not i.all) ≡ true) where
    pub single_checked : (r : Resolved) (ids : List Ident) (x : Result (List DiagOf) (Stop (Query JavaPred))) → Reads reply (import_rule l i) (Ok r) → ids ≡ i.name → Reads reply (static_meant l names file ids r.meaning) x → Reads reply (static_check l names file i) x
    single_checked r ids x g named h =
        checked true single x (then_ok reply (import_rule l i) meant r x g (subst (λ (n : List Ident). Reads reply (static_meant l names file n r.meaning) x) named h))

    pub single_unknown : (e : Stop (Query JavaPred)) → Reads {U = Resolved} reply (import_rule l i) (Err e) → Reads {U = List DiagOf} reply (static_check l names file i) (Err e)
    single_unknown e g = checked true single (Err e) (then_err reply (import_rule l i) meant e g)

  -- another one
  pub other_checked : (ds : List DiagOf) → (i.is_static && not i.all) ≡ false → ds ≡ [] → Reads reply (static_check l names file i) (Ok ds)
  other_checked ds other e = checked false other (Ok ds) (done_reads reply [] ds (sym e))

-- ---- those of a file, of which the first were read

module _ (reply : Replies) (l : LayoutOf) (names : List (List ℕ)) (file : ℕ) (imports : List Import) (p : StaticsProgress) (so_far : AreStaticsSoFar reply l names file (map import_tree imports) p) where
  abbrev trees : List ImportTree
  trees = map import_tree imports

  abbrev left : StaticsProgress → Rule (List DiagOf)
  left c = statics_from l names file c.diags (drop c.count trees)

  module _ (import : Import) (is : import ≡ get_or imports p.count import) (below : p.count < length imports) where
    abbrev next : List DiagOf → Rule (List DiagOf)
    next part = statics_from l names file (p.diags ++ part) (drop (p.count + 1) trees)

    here : and_then (static_check l names file (import_tree import)) next ≡ left p
    unfolding statics_from
    here =
        let place : p.count < length trees = omega (arith, below, length-map imports import_tree) in
        let known : import_tree import ≡ get_or trees p.count (import_tree import) = ap import_tree is ∙ sym (get_or-map import_tree imports p.count import (import_tree import) below) in
        sym
        (at_drop_more (λ (ys : List ImportTree). statics_from l names file p.diags ys) trees p.count (import_tree import) place
        ∙ ap (λ (y : ImportTree). statics_from l names file p.diags (y ∷ drop (p.count + 1) trees)) (sym known))

    pub statics_more : (c : StaticsProgress) (part : List DiagOf) → Reads reply (static_check l names file (import_tree import)) (Ok part) → c.count ≡ p.count + 1 → c.diags ≡ p.diags ++ part → AreStaticsSoFar reply l names file trees c
    statics_more c part g count diags =
        residual_on reply (statics_rule l names file trees) (left p) (left c) so_far
        (subst (λ (r : Rule (List DiagOf)). HasResidual reply r (left c)) here
        (residual_behind reply (static_check l names file (import_tree import)) next part (left c) g
        (residual_here reply (next part) (left c) (λ j. statics_from l names file (sym diags j) (drop (sym count j) trees)))))

    pub statics_err : (e : Stop (Query JavaPred)) → Reads {U = List DiagOf} reply (static_check l names file (import_tree import)) (Err e) → Reads {U = List DiagOf} reply (statics_rule l names file trees) (Err e)
    statics_err e g =
        residual_reads reply (statics_rule l names file trees) (left p) (Err e) so_far
        (subst (λ (r : Rule (List DiagOf)). Reads {U = List DiagOf} reply r (Err e)) here (then_err reply (static_check l names file (import_tree import)) next e g))

  pub statics_end : (ds : List DiagOf) → length imports ≤ p.count → p.diags ≡ ds → Reads reply (statics_rule l names file trees) (Ok ds)
  unfolding statics_from
  statics_end ds past e =
      residual_reads reply (statics_rule l names file trees) (left p) (Ok ds) so_far
      (subst (λ (r : Rule (List DiagOf)). Reads reply r (Ok ds)) (sym (at_drop_all (λ (ys : List ImportTree). statics_from l names file p.diags ys) trees p.count (omega (arith, past, length-map imports import_tree))))
      (done_reads reply p.diags ds e))

  -- where it stands as before
  pub statics_same : (c : StaticsProgress) → c.count ≡ p.count → c.diags ≡ p.diags → AreStaticsSoFar reply l names file trees c
  statics_same c count diags = subst (λ (r : Rule (List DiagOf)). HasResidual reply (statics_rule l names file trees) r) (λ j. statics_from l names file (sym diags j) (drop (sym count j) trees)) so_far

-- nothing was read yet
pub statics_so_far_new : (reply : Replies) (l : LayoutOf) (names : List (List ℕ)) (file : ℕ) (is : List ImportTree) (p : StaticsProgress) → p.count ≡ 0 → p.diags ≡ [] → AreStaticsSoFar reply l names file is p
statics_so_far_new reply l names file is p count diags =
    residual_here reply (statics_rule l names file is) (statics_from l names file p.diags (drop p.count is)) (λ j. statics_from l names file (sym diags j) (drop (sym count j) is))

-- a reply more leaves it so far
pub statics_so_far_added : (old new : Replies) (q : Query JavaPred) (a : Answer JavaDatum) (l : LayoutOf) (names : List (List ℕ)) (file : ℕ) (is : List ImportTree) (p : StaticsProgress) → AddsReply old new q a → AreStaticsSoFar old l names file is p → AreStaticsSoFar new l names file is p
statics_so_far_added old new q a l names file is p adds h = residual_added old new q a (statics_rule l names file is) (statics_from l names file p.diags (drop p.count is)) adds h

-- what was said is moved out
pub said_moves : (reply : Replies) (r : Rule (List DiagOf)) (ds moved : List DiagOf) → Reads reply r (Ok ds) → moved ≡ ds → Reads reply r (Ok moved)
said_moves reply r ds moved h e = subst (λ (zs : List DiagOf). Reads reply r (Ok zs)) (sym e) h

pub ruleset said_steps = (none_said, some_said)

pub ruleset brought_steps = (reading_steps, brought_said, brought_unknown)

pub ruleset check_steps = (reading_steps, single_checked, single_unknown, other_checked)

pub ruleset left_steps = (reading_steps, statics_more, statics_err, statics_end, statics_same, clause_stops, clause_memory)

pub ruleset statics_steps = (reading_steps, statics_so_far_new, said_moves)
