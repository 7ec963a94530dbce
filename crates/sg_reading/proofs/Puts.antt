-- Replies that are put last.
use Rattle.std.proofs.Common.{◌≡◌, List, [], ◌∷◌, ◌++◌, Bool, true, false, cond, Option, Some, None, ◌⊎◌, inl, inr, Decides, refl, sym, ap, ◌∙◌}
use Rattle.sg_reading.specs.Replies.{reply_of, AddsReply}

module _ {Q A : Type 0} (same : Q → Q → Bool) where
  -- the reply, or else this one
  abbrev or_last : Option A → Option A → Option A
  or_last (Some a) last = Some a
  or_last None last = last

  more_on : (b : Bool) (a : A) (found last more : Option A) → more ≡ or_last found last → cond b (Some a) more ≡ or_last (cond b (Some a) found) last
  more_on true a found last more e = refl
  more_on false a found last more e = e

  -- what is found with one reply more
  longer : (replies : List (Q × A)) (q : Q) (a : A) (p : Q) → reply_of same (replies ++ (q, a) ∷ []) p ≡ or_last (reply_of same replies p) (cond (same p q) (Some a) None)
  longer [] q a p = refl
  longer (r ∷ rs) q a p = more_on (same p r.0) r.1 (reply_of same rs p) (cond (same p q) (Some a) None) (reply_of same (rs ++ (q, a) ∷ []) p) (longer rs q a p)

  module _ (decides : (p q : Q) → Decides (same p q) (p ≡ q)) where
    added_on : (p q : Q) (a b : A) (found : Option A) (t : Bool) → same p q ≡ t → or_last found (cond t (Some a) None) ≡ Some b → (found ≡ Some b) ⊎ ((p ≡ q) × (b ≡ a))
    added_on p q a b (Some c) t e h = inl h
    added_on p q a b None true e h = let k : Some a ≡ Some b = h in let m : b ≡ a = cc in inr ((decides p q).0 e, m)
    added_on p q a b None false e h = absurd (let k : None ≡ Some b = h in cc)

    pub last_replies_are_added : (replies : List (Q × A)) (q : Q) (a : A) → reply_of same replies q ≡ None → AddsReply (reply_of same replies) (reply_of same (replies ++ (q, a) ∷ [])) q a
    last_replies_are_added replies q a none p b = (
      (λ k. added_on p q a b (reply_of same replies p) (same p q) refl (sym (longer replies q a p) ∙ k)),
      (λ k. longer replies q a p ∙ elim k [
        | inl found ↦ ap (λ (x : Option A). or_last x (cond (same p q) (Some a) None)) found
        | inr last ↦ rw (last.0, last.1, none, (decides q q).1 refl) refl
      ]),
    )
