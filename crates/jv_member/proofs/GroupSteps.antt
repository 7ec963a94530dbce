-- The steps by which the methods of each name are compared.
use Rattle.std.proofs.Common.{◌≡◌, ℕ, ◌+◌, ◌<◌, ◌≤◌, List, [], ◌∷◌, ◌++◌, Option, Some, None, Result, Ok, Err, drop, get_or, slice_get, length, sym, ◌∙◌, subst}
use Rattle.std.proofs.lemmas.Option.{slice_get_within, get_or_from_slice_get, slice_get-get_or}
use Rattle.sg_base.specs.declared.scope.Scope.{Scope}
use Rattle.sg_query.specs.declared.answer.Answer.{Answer}
use Rattle.sg_query.specs.declared.query.Query.{Query}
use Rattle.sg_reading.specs.declared.stop.Stop.{Stop}
use Rattle.sg_reading.specs.Stop.{Reads}
use Rattle.sg_reading.proofs.Lists.{each_after, each_more, each_err, each_end, each_reads}
use Rattle.sg_reading.proofs.Steps.{reading_steps}
use Rattle.jv_diag.specs.Plain.{DiagOf}
use Rattle.jv_instance.specs.declared.datum.JavaDatum.{JavaDatum}
use Rattle.jv_instance.specs.declared.pred.JavaPred.{JavaPred}
use Rattle.jv_layout.specs.Folder.{LayoutOf}
use Rattle.jv_tree.specs.declared.name.Ident.{Ident}
use Rattle.jv_tree.specs.declared.names.NameId.{NameId}
use Rattle.jv_member.specs.Overriding.{Groups, group_rule}

module _ (reply : Query JavaPred → Option (Answer JavaDatum)) (l : LayoutOf) (names : List (List ℕ)) (c : Scope) (type : Ident) (found : List (List DiagOf)) (gs : Groups) (i : ℕ) where
  module _ (n : NameId) (ms : List Scope) (there : Some (n, ms) ≡ slice_get gs i) where
    is_group : get_or gs i (n, ms) ≡ (n, ms)
    is_group = get_or_from_slice_get gs i (n, ms) (n, ms) (sym there)

    pub group_more : (v : List DiagOf) (x : Result (List (List DiagOf)) (Stop (Query JavaPred))) → Reads reply (group_rule l names c type (n, ms)) (Ok v) → Reads reply (each_after (group_rule l names c type) (found ++ v ∷ []) (drop (i + 1) gs)) x
        → Reads reply (each_after (group_rule l names c type) found (drop i gs)) x
    group_more v x g h =
        each_more reply (group_rule l names c type) found gs i (n, ms) (slice_get_within gs i (n, ms) (sym there)) v x
        (subst (λ (k : NameId × List Scope). Reads reply (group_rule l names c type k) (Ok v)) (sym is_group) g) h

    pub group_err : (e : Stop (Query JavaPred)) → Reads {U = List DiagOf} reply (group_rule l names c type (n, ms)) (Err e) → Reads {U = List (List DiagOf)} reply (each_after (group_rule l names c type) found (drop i gs)) (Err e)
    group_err e g =
        each_err reply (group_rule l names c type) found gs i (n, ms) (slice_get_within gs i (n, ms) (sym there)) e
        (subst (λ (k : NameId × List Scope). Reads {U = List DiagOf} reply (group_rule l names c type k) (Err e)) (sym is_group) g)

  -- each place has a name
  pub no_group : (n : ℕ) (x : Result (List (List DiagOf)) (Stop (Query JavaPred))) → i < n → n ≡ length gs → None ≡ slice_get gs i → Reads reply (each_after (group_rule l names c type) found (drop i gs)) x
  no_group n x below len none =
      let d : NameId × List Scope = (record { 0 = 0 }, []) in
      let there : slice_get gs i ≡ Some (get_or gs i d) = slice_get-get_or gs i d (subst (λ (k : ℕ). i < k) len below) in
      absurd (let both : None ≡ Some (get_or gs i d) = none ∙ there in cc)

  pub group_end : length gs ≤ i → Reads reply (each_after (group_rule l names c type) found (drop i gs)) (Ok found)
  group_end past = each_end reply (group_rule l names c type) found gs i past

pub ruleset group_steps = (reading_steps, each_reads, group_more, group_err, no_group, group_end)
