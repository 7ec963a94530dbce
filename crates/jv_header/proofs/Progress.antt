-- How far the references of a header were read: further replies leave it there, and one more reference leads on.
use Rattle.std.proofs.Common.{◌≡◌, ℕ, ◌+◌, ◌<◌, ◌≤◌, List, [], ◌∷◌, ◌++◌, map, Result, Ok, Err, drop, get_or, length, sym, ap, ◌∙◌, subst, append_assoc, arith}
use Rattle.std.proofs.lemmas.List.{append-nil, at_drop_more, at_drop_all, get_or-map, length-append, length-map}
use Rattle.std.specs.Result.{IsErrAnd}
use Rattle.sg_base.specs.declared.scope.Scope.{Scope}
use Rattle.sg_query.specs.declared.answer.Answer.{Answer}
use Rattle.sg_query.specs.declared.query.Query.{Query}
use Rattle.sg_reading.specs.declared.stop.Stop.{Stop}
use Rattle.sg_reading.specs.declared.stop.Stop.TheVariants.{OutOfMemory}
use Rattle.sg_reading.specs.Progress.{HasResidual}
use Rattle.sg_reading.specs.Reading.{Reading, done, and_then, each}
use Rattle.sg_reading.specs.Replies.{AddsReply}
use Rattle.sg_reading.specs.Stop.{Reads}
use Rattle.sg_reading.proofs.Progress.{residual_added, residual_behind, residual_here, residual_on, residual_reads}
use Rattle.sg_reading.proofs.Sequences.{and_then-done, and_then-and_then}
use Rattle.sg_reading.proofs.Steps.{done_reads, memory_reads, then_err, reading_steps}
use Rattle.jv_instance.specs.declared.datum.JavaDatum.{JavaDatum}
use Rattle.jv_instance.specs.declared.pred.JavaPred.{JavaPred}
use Rattle.jv_layout.specs.Folder.{LayoutOf}
use Rattle.jv_layout.specs.Readers.{file_of}
use Rattle.jv_tree.specs.declared.name.Ident.{Ident}
use Rattle.jv_tree.specs.declared.name.Name.{Name}
use Rattle.jv_tree.specs.TypeTree.{ids_of}
use Rattle.jv_names.specs.declared.reference.Reference.{Reference}
use Rattle.jv_names.specs.Bodies.{header_bodies}
use Rattle.jv_names.specs.Reference.{reference}
use Rattle.jv_names.specs.Replies.{Rule}
use Rattle.jv_header.specs.declared.header_progress.HeaderProgress.{HeaderProgress}
use Rattle.jv_header.specs.Header.{header_reference}
use Rattle.jv_header.specs.Progress.{IsHeaderSoFar, Replies, clause_left, with_found}

-- ---- the first thing of a list, and then the rest

module _ {Q A X U : Type 0} (f : X → Reading Q A U) where
  abbrev behind : List U → List X → Reading Q A (List U)
  behind found xs = and_then (each f xs) (λ more. done (found ++ more))

  behind_more : (found : List U) (x : X) (xs : List X) → behind found (x ∷ xs) ≡ and_then (f x) (λ v. behind (found ++ v ∷ []) xs)
  behind_more found x xs =
      let grouped : (v : U) → and_then (and_then (each f xs) (λ vs. done (v ∷ vs))) (λ more. done (found ++ more)) ≡ behind (found ++ v ∷ []) xs =
      λ v. and_then-and_then (each f xs) (λ vs. done (v ∷ vs)) (λ more. done (found ++ more))
      ∙ (λ j. and_then (each f xs) (λ vs. done (sym (append_assoc found (v ∷ []) vs) j))) in
      and_then-and_then (f x) (λ v. and_then (each f xs) (λ vs. done (v ∷ vs))) (λ more. done (found ++ more)) ∙ (λ j. and_then (f x) (λ v. grouped v j))

-- ---- a list of which the first things were read

-- its rule goes on as what is left behind them
abbrev IsSoFar : {X : Type 0} → Replies → (X → Rule Reference) → List X → List Reference → Type 0
IsSoFar reply f xs found = HasResidual reply (each f xs) (behind f found (drop (length found) xs))

pub list_new : {X : Type 0} (reply : Replies) (f : X → Rule Reference) (xs : List X) (found : List Reference) → found ≡ [] → IsSoFar reply f xs found
list_new reply f xs found e = subst (λ (vs : List Reference). IsSoFar reply f xs vs) (sym e) (residual_here reply (each f xs) (behind f [] xs) (sym (and_then-done (each f xs))))

-- where each thing is read by its tree
module _ {T X : Type 0} (g : T → X) (reply : Replies) (f : X → Rule Reference) (things : List T) (found : List Reference) (so_far : IsSoFar reply f (map g things) found) where
  abbrev trees : List X
  trees = map g things

  abbrev left : Rule (List Reference)
  left = behind f found (drop (length found) trees)

  module _ (thing : T) (i : ℕ) (is : thing ≡ get_or things i thing) (at : i ≡ length found) (n : ℕ) (below : n < length things) (count : n ≡ length found) where
    abbrev next : Reference → Rule (List Reference)
    next v = behind f (found ++ v ∷ []) (drop (length found + 1) trees)

    here : and_then (f (g thing)) next ≡ left
    here =
        let place : length found < length trees = omega (arith, count, below, length-map things g) in
        let known : g thing ≡ get_or trees (length found) (g thing) =
        ap g (is ∙ ap (λ (m : ℕ). get_or things m thing) at) ∙ sym (get_or-map g things (length found) thing (g thing) (omega (arith, count, below))) in
        sym
        (at_drop_more (λ (ys : List X). behind f found ys) trees (length found) (g thing) place
        ∙ (ap (λ (y : X). behind f found (y ∷ drop (length found + 1) trees)) (sym known) ∙ behind_more f found (g thing) (drop (length found + 1) trees)))

    pub list_more : (v : Reference) (vs : List Reference) → vs ≡ found ++ v ∷ [] → Reads reply (f (g thing)) (Ok v) → IsSoFar reply f trees vs
    list_more v vs e h =
        residual_on reply (each f trees) left (behind f vs (drop (length vs) trees)) so_far
        (subst (λ (r : Rule (List Reference)). HasResidual reply r (behind f vs (drop (length vs) trees))) here
        (residual_behind reply (f (g thing)) next v (behind f vs (drop (length vs) trees)) h
        (residual_here reply (next v) (behind f vs (drop (length vs) trees)) (λ j. behind f (sym e j) (drop ((sym (length-append found (v ∷ [])) ∙ ap length (sym e)) j) trees)))))

    pub list_err : (e : Stop (Query JavaPred)) → Reads {U = Reference} reply (f (g thing)) (Err e) → Reads {U = List Reference} reply (each f trees) (Err e)
    list_err e h =
        residual_reads reply (each f trees) left (Err e) so_far
        (subst (λ (r : Rule (List Reference)). Reads {U = List Reference} reply r (Err e)) here (then_err reply (f (g thing)) next e h))

  pub list_ends : (n : ℕ) → length things ≤ n → n ≡ length found → Reads reply (each f trees) (Ok found)
  list_ends n past count =
      residual_reads reply (each f trees) left (Ok found) so_far
      (subst (λ (r : Rule (List Reference)). Reads reply r (Ok found)) (sym (at_drop_all (λ (ys : List X). behind f found ys) trees (length found) (omega (arith, count, past, length-map things g))))
      (done_reads reply (found ++ []) found (append-nil found)))

-- ---- one clause

module _ (reply : Replies) (f : List Ident → Rule Reference) (names : List Name) (found : List Reference) (so_far : IsSoFar reply f (map ids_of names) found) where
  module _ (name : Name) (i : ℕ) (is : name ≡ get_or names i name) (at : i ≡ length found) (n : ℕ) (below : n < length names) (count : n ≡ length found) where
    pub clause_more : (v : Reference) (vs : List Reference) → vs ≡ found ++ v ∷ [] → Reads reply (f (ids_of name)) (Ok v) → IsSoFar reply f (map ids_of names) vs
    clause_more v vs e h = list_more ids_of reply f names found so_far name i is at n below count v vs e h

    pub clause_err : (e : Stop (Query JavaPred)) → Reads {U = Reference} reply (f (ids_of name)) (Err e) → Reads {U = List Reference} reply (each f (map ids_of names)) (Err e)
    clause_err e h = list_err ids_of reply f names found so_far name i is at n below count e h

  pub clause_ends : (n : ℕ) → length names ≤ n → n ≡ length found → Reads reply (each f (map ids_of names)) (Ok found)
  clause_ends n past count = list_ends ids_of reply f names found so_far n past count

-- a reference that is read at the place of a header
pub at_header : (reply : Replies) (l : LayoutOf) (ty : Scope) (file : ℕ) (bodies : List Scope) (ids : List Ident) (x : Result Reference (Stop (Query JavaPred))) → file ≡ file_of l ty → bodies ≡ header_bodies l ty → Reads reply (reference l file bodies ids) x → Reads reply (header_reference l ty ids) x
at_header reply l ty file bodies ids x e k h = subst (λ (r : Rule Reference). Reads reply r x) (λ i. reference l (e i) (k i) ids) h

-- how a call ends that stops in a clause or in a row
module _ {U : Type 0} (reply : Replies) (r : Rule U) (found : U) (e : Stop (Query JavaPred)) where
  pub clause_stops : (x : Result (Unit {0}) (Stop (Query JavaPred))) → IsErrAnd x (λ y. y ≡ e) → Reads {U = U} reply r (Err e) → Reads reply r (with_found x found)
  clause_stops (Ok v) k h = absurd k
  clause_stops (Err y) k h = subst (λ (z : Stop (Query JavaPred)). Reads {U = U} reply r (Err z)) (sym k) h

  pub clause_memory : (x : Result (Unit {0}) (Stop (Query JavaPred))) → IsErrAnd x (λ y. y ≡ e) → e ≡ OutOfMemory → Reads reply r (with_found x found)
  clause_memory x k h = clause_stops x k (subst (λ (z : Stop (Query JavaPred)). Reads {U = U} reply r (Err z)) (sym h) (memory_reads reply r))

-- ---- a header

-- nothing was read yet
pub header_so_far_new : (reply : Replies) (l : LayoutOf) (ty : Scope) (extends implements : List (List Ident)) (p : HeaderProgress) → p.extended ≡ [] → p.implemented ≡ [] → IsHeaderSoFar reply l ty extends implements p
header_so_far_new reply l ty extends implements p e i = record {
  extended = list_new reply (header_reference l ty) extends p.extended e;
  implemented = list_new reply (header_reference l ty) implements p.implemented i;
}

-- a reply more leaves it so far
pub header_so_far_added : (old new : Replies) (q : Query JavaPred) (a : Answer JavaDatum) (l : LayoutOf) (ty : Scope) (extends implements : List (List Ident)) (p : HeaderProgress) → AddsReply old new q a → IsHeaderSoFar old l ty extends implements p → IsHeaderSoFar new l ty extends implements p
header_so_far_added old new q a l ty extends implements p adds h = record {
  extended = residual_added old new q a (each (header_reference l ty) extends) (clause_left l ty extends p.extended) adds h.extended;
  implemented = residual_added old new q a (each (header_reference l ty) implements) (clause_left l ty implements p.implemented) adds h.implemented;
}

pub ruleset clause_steps = (reading_steps, clause_more, clause_err, clause_ends, clause_stops, clause_memory)

pub ruleset progress_steps = (reading_steps, header_so_far_new)
