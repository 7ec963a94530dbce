-- A follower is honest by its whole trace.
use Rattle.std.proofs.Common.{◌≡◌, ℕ, List, [], ◌∷◌, ◌++◌, Bool, Option, Some, None, inl, inr, refl, sym, ◌∙◌, subst, append_assoc}
use Rattle.sg_query.specs.declared.answer.Answer.{Answer}
use Rattle.sg_query.specs.declared.query.Query.{Query}
use Rattle.sg_unit.specs.declared.op.Op.{Op}
use Rattle.sg_unit.specs.Honest.{AllMayBeGiven, LastMayBeGiven}
use Rattle.sg_unit.specs.Trace.{Past}
use Rattle.sg_script.specs.declared.write.Write.{Write}
use Rattle.sg_script.specs.Following.{FollowsPlan}
use Rattle.sg_script.specs.Law.{FollowersAreHonest}
use Rattle.sg_script.specs.Script.{Plan, setting_by}
use Rattle.sg_script.proofs.Conditions.{ArePlain, are_plain, may_give}
use Rattle.sg_script.proofs.Owing.{gives_results}

plain_front : {I R D P : Type 0} (xs ys : Past I R D P) → ArePlain (xs ++ ys) → ArePlain xs
plain_front [] ys p = tt
plain_front (x ∷ xs) ys p = (p.0, plain_front xs ys p.1)

module _ {I R D P : Type 0} (wants : P → D → Bool) (same : D → D → Bool) (plan : Plan R D P) (reply : Query P → Option (Answer D)) (asked : Option (Query P)) (pending : List (Write D)) (n : ℕ) (ended : Bool) (past : Past I R D P) (last : Option (Op I R D P)) (f : FollowsPlan plan reply asked pending n ended past last) where
  all_plain : ArePlain past
  all_plain = are_plain plan f.sound past last f.orderly f.going

  all_may : (before xs : Past I R D P) → past ≡ before ++ xs → AllMayBeGiven (setting_by wants same plan) plan.unit before xs
  all_may before [] e = tt
  all_may before (x ∷ xs) e = (
    may_give plan f.sound wants same before (plain_front before (x ∷ xs) (subst (λ (l : Past I R D P). ArePlain l) e all_plain)) x.0 (f.orderly before x.0 (inr (x.1, xs, e))),
    all_may (before ++ x ∷ []) xs (e ∙ sym (append_assoc before (x ∷ []) xs)),
  )

  last_may : (o : Option (Op I R D P)) → last ≡ o → LastMayBeGiven (setting_by wants same plan) plan.unit past o
  last_may None e = tt
  last_may (Some op) e = may_give plan f.sound wants same past all_plain op (f.orderly past op (inl (refl, e)))

pub followers_are_honest : (I R D P : Type 0) → FollowersAreHonest I R D P
followers_are_honest I R D P wants same plan reply asked pending n ended past last f = (
  (λ handed. (all_may wants same plan reply asked pending n ended past last f [] past refl, last_may wants same plan reply asked pending n ended past last f last refl)),
  (λ g alike. gives_results (setting_by wants same plan) plan f.sound g past last f.orderly alike plan.unit),
)
