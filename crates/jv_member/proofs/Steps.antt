-- The steps by which a function that reads a rule of members with `?` proves itself.
use Rattle.std.proofs.Common.{◌≡◌, ℕ, ◌+◌, ◌<◌, ◌≤◌, List, [], ◌∷◌, ◌++◌, map, Option, Result, Ok, Err, drop, get_or, length, sym, subst, arith}
use Rattle.std.proofs.lemmas.List.{at_drop_more, at_drop_all}
use Rattle.sg_base.specs.declared.scope.Scope.{Scope}
use Rattle.sg_query.specs.declared.answer.Answer.{Answer}
use Rattle.sg_query.specs.declared.query.Query.{Query}
use Rattle.sg_reading.specs.declared.stop.Stop.{Stop}
use Rattle.sg_reading.specs.Stop.{Reads}
use Rattle.sg_reading.proofs.Lists.{each_after, each_more, each_err, each_end, each_reads}
use Rattle.sg_reading.proofs.Steps.{reading_steps}
use Rattle.jv_instance.specs.declared.datum.JavaDatum.{JavaDatum}
use Rattle.jv_instance.specs.declared.pred.JavaPred.{JavaPred}
use Rattle.jv_layout.specs.Folder.{LayoutOf}
use Rattle.jv_layout.specs.Readers.{file_of}
use Rattle.jv_tree.specs.declared.declaration.Param.{Param}
use Rattle.jv_tree.specs.declared.names.NameId.{NameId}
use Rattle.jv_tree.specs.DeclTree.{ParamTree, param_tree}
use Rattle.jv_tree.specs.TypeTree.{type_tree}
use Rattle.jv_names.specs.declared.written_type.WrittenType.{WrittenType}
use Rattle.jv_names.specs.Bodies.{member_bodies}
use Rattle.jv_names.specs.Replies.{Rule}
use Rattle.jv_names.specs.WrittenTypes.{written_type}
use Rattle.jv_member.specs.declared.member_decl.MemberDecl.{MemberDecl}
use Rattle.jv_member.specs.declared.signature.Signature.{Signature}
use Rattle.jv_member.specs.MemberDecls.{own_of}
use Rattle.jv_member.specs.Own.{OwnMember}
use Rattle.jv_member.specs.Signatures.{param_types, signature_at, signature_rule}

abbrev Replies : Type 0
Replies = Query JavaPred → Option (Answer JavaDatum)

-- ---- a rule for each thing of a list, by its tree

module _ {X Y T : Type 0} (reply : Replies) (tree : X → Y) (f : Y → Rule T) (found : List T) (xs : List X) (i : ℕ) where
  module _ (d : X) (below : i < length xs) where
    behind : each_after f found (map tree (drop i xs)) ≡ each_after f found (tree (get_or xs i d) ∷ map tree (drop (i + 1) xs))
    behind = at_drop_more (λ (ys : List X). each_after f found (map tree ys)) xs i d below

    trees_more : (v : T) (x : Result (List T) (Stop (Query JavaPred))) → Reads reply (f (tree (get_or xs i d))) (Ok v) → Reads reply (each_after f (found ++ v ∷ []) (map tree (drop (i + 1) xs))) x → Reads reply (each_after f found (map tree (drop i xs))) x
    trees_more v x g h =
        subst (λ (r : Rule (List T)). Reads reply r x) (sym behind)
        (each_more reply f found (tree (get_or xs i d) ∷ map tree (drop (i + 1) xs)) 0 (tree (get_or xs i d)) (omega arith) v x g h)

    trees_err : (e : Stop (Query JavaPred)) → Reads {U = T} reply (f (tree (get_or xs i d))) (Err e) → Reads {U = List T} reply (each_after f found (map tree (drop i xs))) (Err e)
    trees_err e g =
        subst (λ (r : Rule (List T)). Reads {U = List T} reply r (Err e)) (sym behind)
        (each_err reply f found (tree (get_or xs i d) ∷ map tree (drop (i + 1) xs)) 0 (tree (get_or xs i d)) (omega arith) e g)

  trees_end : length xs ≤ i → Reads reply (each_after f found (map tree (drop i xs))) (Ok found)
  trees_end past =
      subst (λ (r : Rule (List T)). Reads reply r (Ok found)) (sym (at_drop_all (λ (ys : List X). each_after f found (map tree ys)) xs i past)) (each_end reply f found [] 0 (omega arith))

-- ---- parameters

-- the type of a parameter
abbrev pub param_type : LayoutOf → List (List ℕ) → ℕ → List Scope → ParamTree → Rule WrittenType
param_type l names file bodies p = written_type l names file bodies p.ty

module _ (reply : Replies) (l : LayoutOf) (names : List (List ℕ)) (file : ℕ) (bodies : List Scope) (params : List Param) where
  module _ (found : List WrittenType) (i : ℕ) where
    module _ (d : Param) (below : i < length params) where
      pub params_more : (v : WrittenType) (x : Result (List WrittenType) (Stop (Query JavaPred))) → Reads reply (written_type l names file bodies (type_tree (get_or params i d).ty)) (Ok v)
          → Reads reply (each_after (param_type l names file bodies) (found ++ v ∷ []) (map param_tree (drop (i + 1) params))) x → Reads reply (each_after (param_type l names file bodies) found (map param_tree (drop i params))) x
      params_more v x g h = trees_more reply param_tree (param_type l names file bodies) found params i d below v x g h

      pub params_err : (e : Stop (Query JavaPred)) → Reads {U = WrittenType} reply (written_type l names file bodies (type_tree (get_or params i d).ty)) (Err e)
          → Reads {U = List WrittenType} reply (each_after (param_type l names file bodies) found (map param_tree (drop i params))) (Err e)
      params_err e g = trees_err reply param_tree (param_type l names file bodies) found params i d below e g

    pub params_end : length params ≤ i → Reads reply (each_after (param_type l names file bodies) found (map param_tree (drop i params))) (Ok found)
    params_end past = trees_end reply param_tree (param_type l names file bodies) found params i past

  pub params_read : (x : Result (List WrittenType) (Stop (Query JavaPred))) → Reads reply (each_after (param_type l names file bodies) [] (map param_tree params)) x → Reads reply (param_types l names file bodies (map param_tree params)) x
  params_read x h = each_reads reply (param_type l names file bodies) (map param_tree params) x h

-- ---- the place of a member

module _ (reply : Replies) (l : LayoutOf) (names : List (List ℕ)) (c : Scope) (class : NameId) where
  pub in_body : (m : MemberDecl) (o : OwnMember) (file : ℕ) (bodies : List Scope) (x : Result Signature (Stop (Query JavaPred))) → own_of m ≡ o → file ≡ file_of l c → bodies ≡ member_bodies l c
      → Reads reply (signature_at l names file bodies class o) x → Reads reply (signature_rule l names c class (own_of m)) x
  in_body m o file bodies x e at around h =
      subst (λ (o : OwnMember). Reads reply (signature_rule l names c class o) x) (sym e)
      (subst (λ (f : ℕ). Reads reply (signature_at l names f (member_bodies l c) class o) x) at
      (subst (λ (bs : List Scope). Reads reply (signature_at l names file bs class o) x) around h))

pub ruleset signature_steps = (reading_steps, params_more, params_err, params_end, params_read, in_body)
