-- The steps by which the members of a type are checked.
use Rattle.std.proofs.Common.{◌≡◌, ℕ, ◌+◌, ◌<◌, ◌≤◌, List, [], ◌∷◌, ◌++◌, map, Option, Result, Ok, Err, drop, get_or, length, sym, subst, arith}
use Rattle.std.proofs.lemmas.List.{at_drop_more, at_drop_all}
use Rattle.sg_base.specs.declared.scope.Scope.{Scope}
use Rattle.sg_query.specs.declared.answer.Answer.{Answer}
use Rattle.sg_query.specs.declared.query.Query.{Query}
use Rattle.sg_reading.specs.declared.stop.Stop.{Stop}
use Rattle.sg_reading.specs.Stop.{Reads}
use Rattle.sg_reading.proofs.Lists.{each_after, each_more, each_err, each_end, each_reads}
use Rattle.sg_reading.proofs.Steps.{reading_steps}
use Rattle.jv_diag.specs.Plain.{DiagOf}
use Rattle.jv_instance.specs.declared.datum.JavaDatum.{JavaDatum}
use Rattle.jv_instance.specs.declared.pred.JavaPred.{JavaPred}
use Rattle.jv_layout.specs.Folder.{LayoutOf}
use Rattle.jv_tree.specs.declared.name.Ident.{Ident}
use Rattle.jv_names.specs.Replies.{Rule}
use Rattle.jv_member.specs.declared.placed.PlacedDecl.{PlacedDecl}
use Rattle.jv_member.specs.Members.{Placed, member_overrides, member_calls}
use Rattle.jv_member.specs.Placed.{placed_of}

abbrev Replies : Type 0
Replies = Query JavaPred → Option (Answer JavaDatum)

abbrev Lists : Type 0
Lists = List (List DiagOf)

-- ---- a rule for each member

module _ (reply : Replies) (f : Placed → Rule (List DiagOf)) (found : Lists) (ps : List PlacedDecl) (i : ℕ) where
  module _ (d : PlacedDecl) (below : i < length ps) where
    behind : each_after f found (map placed_of (drop i ps)) ≡ each_after f found (placed_of (get_or ps i d) ∷ map placed_of (drop (i + 1) ps))
    behind = at_drop_more (λ (ys : List PlacedDecl). each_after f found (map placed_of ys)) ps i d below

    placed_more : (v : List DiagOf) (x : Result Lists (Stop (Query JavaPred))) → Reads reply (f (placed_of (get_or ps i d))) (Ok v) → Reads reply (each_after f (found ++ v ∷ []) (map placed_of (drop (i + 1) ps))) x → Reads reply (each_after f found (map placed_of (drop i ps))) x
    placed_more v x g h =
        subst (λ (r : Rule Lists). Reads reply r x) (sym behind)
        (each_more reply f found (placed_of (get_or ps i d) ∷ map placed_of (drop (i + 1) ps)) 0 (placed_of (get_or ps i d)) (omega arith) v x g h)

    placed_err : (e : Stop (Query JavaPred)) → Reads {U = List DiagOf} reply (f (placed_of (get_or ps i d))) (Err e) → Reads {U = Lists} reply (each_after f found (map placed_of (drop i ps))) (Err e)
    placed_err e g =
        subst (λ (r : Rule Lists). Reads {U = Lists} reply r (Err e)) (sym behind)
        (each_err reply f found (placed_of (get_or ps i d) ∷ map placed_of (drop (i + 1) ps)) 0 (placed_of (get_or ps i d)) (omega arith) e g)

  placed_end : length ps ≤ i → Reads reply (each_after f found (map placed_of (drop i ps))) (Ok found)
  placed_end past =
      subst (λ (r : Rule Lists). Reads reply r (Ok found)) (sym (at_drop_all (λ (ys : List PlacedDecl). each_after f found (map placed_of ys)) ps i past)) (each_end reply f found [] 0 (omega arith))

-- ---- what methods are declared over

module _ (reply : Replies) (l : LayoutOf) (names : List (List ℕ)) (c : Scope) (type : Ident) (found : Lists) (ps : List PlacedDecl) (i : ℕ) where
  module _ (d : PlacedDecl) (below : i < length ps) where
    pub overrides_more : (v : List DiagOf) (x : Result Lists (Stop (Query JavaPred))) → Reads reply (member_overrides l names c type (placed_of (get_or ps i d))) (Ok v)
        → Reads reply (each_after (member_overrides l names c type) (found ++ v ∷ []) (map placed_of (drop (i + 1) ps))) x → Reads reply (each_after (member_overrides l names c type) found (map placed_of (drop i ps))) x
    overrides_more v x g h = placed_more reply (member_overrides l names c type) found ps i d below v x g h

    pub overrides_err : (e : Stop (Query JavaPred)) → Reads {U = List DiagOf} reply (member_overrides l names c type (placed_of (get_or ps i d))) (Err e)
        → Reads {U = Lists} reply (each_after (member_overrides l names c type) found (map placed_of (drop i ps))) (Err e)
    overrides_err e g = placed_err reply (member_overrides l names c type) found ps i d below e g

  pub overrides_end : length ps ≤ i → Reads reply (each_after (member_overrides l names c type) found (map placed_of (drop i ps))) (Ok found)
  overrides_end past = placed_end reply (member_overrides l names c type) found ps i past

-- ---- what constructors call

module _ (reply : Replies) (l : LayoutOf) (names : List (List ℕ)) (c : Scope) (extends : List (List Ident)) (found : Lists) (ps : List PlacedDecl) (i : ℕ) where
  module _ (d : PlacedDecl) (below : i < length ps) where
    pub calls_more : (v : List DiagOf) (x : Result Lists (Stop (Query JavaPred))) → Reads reply (member_calls l names c extends (placed_of (get_or ps i d))) (Ok v)
        → Reads reply (each_after (member_calls l names c extends) (found ++ v ∷ []) (map placed_of (drop (i + 1) ps))) x → Reads reply (each_after (member_calls l names c extends) found (map placed_of (drop i ps))) x
    calls_more v x g h = placed_more reply (member_calls l names c extends) found ps i d below v x g h

    pub calls_err : (e : Stop (Query JavaPred)) → Reads {U = List DiagOf} reply (member_calls l names c extends (placed_of (get_or ps i d))) (Err e)
        → Reads {U = Lists} reply (each_after (member_calls l names c extends) found (map placed_of (drop i ps))) (Err e)
    calls_err e g = placed_err reply (member_calls l names c extends) found ps i d below e g

  pub calls_end : length ps ≤ i → Reads reply (each_after (member_calls l names c extends) found (map placed_of (drop i ps))) (Ok found)
  calls_end past = placed_end reply (member_calls l names c extends) found ps i past

pub ruleset member_steps = (reading_steps, each_reads, overrides_more, overrides_err, overrides_end, calls_more, calls_err, calls_end)
