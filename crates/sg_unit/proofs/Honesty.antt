-- Calls keep a unit honest.
use Rattle.std.proofs.Common.{ℕ, [], ◌∷◌, ◌++◌, Option, Some, None, inl, inr, sym, subst, append_assoc}
use Rattle.std.proofs.lemmas.List.{append-nil}
use Rattle.sg_base.specs.declared.scope.Scope.{Scope}
use Rattle.sg_base.specs.Graph.{GraphOf}
use Rattle.sg_base.proofs.Finite.{nothing_in}
use Rattle.sg_query.specs.declared.query.Query.{Query}
use Rattle.sg_unit.specs.declared.op.Op.{Op}
use Rattle.sg_unit.specs.declared.op.Op.TheVariants.{AddEdge, SetDatum, CloseRow, Ask, End}
use Rattle.sg_unit.specs.declared.reply.Reply.{Reply}
use Rattle.sg_unit.specs.Honest.{AreHanded, AllMayBeGiven, MeetsConditions, Gave}
use Rattle.sg_unit.specs.Law.{NewUnitsAreHonest, CallsKeepHonest}
use Rattle.sg_unit.specs.Run.{Setting}
use Rattle.sg_unit.specs.Trace.{Past, with_last, MayGive, IsHanded}

module _ {I R D P : Type 0} (z : Setting D P) (u : ℕ) where
  front_handed : (before xs ys : Past I R D P) → AreHanded z u before (xs ++ ys) → AreHanded z u before xs
  front_handed before [] ys h = tt
  front_handed before (x ∷ xs) ys h = (h.0, front_handed (before ++ x ∷ []) xs ys h.1)

  one_more_given : (before xs : Past I R D P) (x : Op I R D P × Reply I D P) → AllMayBeGiven z u before xs → MayGive z u (before ++ xs) x.0 → AllMayBeGiven z u before (xs ++ x ∷ [])
  one_more_given before [] x all may = (subst (λ (t : Past I R D P). MayGive z u t x.0) (append-nil before) may, tt)
  one_more_given before (y ∷ ys) x all may =
      (all.0, one_more_given (before ++ y ∷ []) ys x all.1 (subst (λ (t : Past I R D P). MayGive z u t x.0) (sym (append_assoc before (y ∷ []) ys)) may))

  all_given : (past : Past I R D P) (given : Option (Op I R D P)) (last : Option (Reply I D P)) → IsHanded z u past given last → (AreHanded z u [] past → MeetsConditions z u past given) → AreHanded z u [] (with_last past given last) → AllMayBeGiven z u [] (with_last past given last)
  all_given past None last hand meets handed = (meets handed).0
  all_given past (Some op) None hand meets handed = absurd hand
  all_given past (Some op) (Some y) hand meets handed = let m = meets (front_handed [] past ((op, y) ∷ []) handed) in one_more_given [] past (op, y) m.0 m.1

never_gave : {I R D P : Type 0} (op : Op I R D P) → Gave [] None op → ⊥
never_gave {I} {R} {D} {P} op g = elim g [ inl e ↦ cc | inr k ↦ nothing_in (op, k.0) k.1 ]

pub new_units_are_honest : (I : Type 0) {R D P : Type 0} (edges : GraphOf D → Scope → ℕ → Scope → Type 0) (data_at : GraphOf D → Scope → D → Type 0) (asked : GraphOf D → Query P → Type 0) (result : GraphOf D → R → Type 0) → NewUnitsAreHonest I edges data_at asked result
new_units_are_honest I edges data_at asked result z u = (
  (λ h. (tt, tt)),
  (λ g alike. record {
    edge = λ s l t k e. absurd (never_gave (AddEdge s l t) e);
    datum = λ s d k e. absurd (never_gave (SetDatum s d) e);
    closed = λ s l k e. absurd (never_gave (CloseRow s l) e);
    asked = λ q e. absurd (never_gave (Ask q) e);
    outcome = λ x e. absurd (never_gave (End x) e);
    ended_edges = λ x s l e. absurd (never_gave (End x) e);
    ended_data = λ x s d e. absurd (never_gave (End x) e);
  }),
)

pub calls_keep_honest : (I : Type 0) {R D P : Type 0} (edges : GraphOf D → Scope → ℕ → Scope → Type 0) (data_at : GraphOf D → Scope → D → Type 0) (asked : GraphOf D → Query P → Type 0) (result : GraphOf D → R → Type 0) → CallsKeepHonest I edges data_at asked result
calls_keep_honest I edges data_at asked result z u past given last op honest hand may owed = ((λ handed. (all_given z u past given last hand honest.0 handed, may)), owed)
