-- The blank fields of a type, and what is left out of the prelude.
use Rattle.std.proofs.Common.{◌≡◌, ℕ, ◌+◌, ◌<◌, ◌≤◌, Bool, true, false, cond, List, [], ◌∷◌, ◌++◌, Option, Result, Ok, length, get_or, take, map, refl, sym, ap, ◌∙◌, subst}
use Rattle.std.specs.List.{filter}
use Rattle.std.proofs.lemmas.List.{append-nil, map-append, take_all}
use Rattle.std.proofs.lemmas.List.Elements.{filter_more}
use Rattle.sg_base.specs.declared.scope.Scope.{Scope}
use Rattle.sg_query.specs.declared.answer.Answer.{Answer}
use Rattle.sg_query.specs.declared.query.Query.{Query}
use Rattle.sg_reading.specs.declared.stop.Stop.{Stop}
use Rattle.sg_reading.specs.Reading.{done}
use Rattle.sg_reading.specs.Stop.{Reads}
use Rattle.sg_reading.proofs.Steps.{done_reads}
use Rattle.jv_diag.specs.Plain.{DiagOf}
use Rattle.jv_instance.specs.declared.datum.JavaDatum.{JavaDatum}
use Rattle.jv_instance.specs.declared.pred.JavaPred.{JavaPred}
use Rattle.jv_layout.specs.Folder.{LayoutOf}
use Rattle.jv_layout.specs.Readers.{members_of_type}
use Rattle.jv_layout.specs.Scopes.{member_scope}
use Rattle.jv_member.specs.Own.{OwnMember}
use Rattle.jv_names.specs.Replies.{Rule}
use Rattle.jv_unit.specs.Folder.{FolderOf}
use Rattle.jv_unit.specs.MemberBodies.{is_blank, type_blanks}
use Rattle.jv_unit.specs.Owns.{own_at}
use Rattle.jv_unit.specs.Plans.{beyond_prelude}
use Rattle.jv_unit.proofs.UnitRules.{cond_above, cond_below}

abbrev Replies : Type 0
Replies = Query JavaPred → Option (Answer JavaDatum)

-- ---- the prelude

module _ (reply : Replies) (file : ℕ) (r : Rule (List DiagOf)) where
  pub prelude_skipped : file < 2 → Reads {U = List DiagOf} reply (beyond_prelude file r) (Ok [])
  prelude_skipped l = subst (λ (z : Rule (List DiagOf)). Reads {U = List DiagOf} reply z (Ok [])) (sym (cond_below file 2 (done []) r l)) (done_reads reply [] [] refl)

  pub beyond_read : (x : Result (List DiagOf) (Stop (Query JavaPred))) → 2 ≤ file → Reads reply r x → Reads reply (beyond_prelude file r) x
  beyond_read x l h = subst (λ (z : Rule (List DiagOf)). Reads reply z x) (sym (cond_above file 2 (done []) r l)) h

-- ---- blank fields

module _ (w : FolderOf) (t : ℕ) where
  -- whether the member with a number is a blank field
  abbrev pub is_blank_member : ℕ → Bool
  is_blank_member m = is_blank w.layout (member_scope w.layout m) (own_at w.files m)

  -- the blank fields among the first members of a type
  abbrev pub first_blanks : ℕ → List Scope
  first_blanks i = map (member_scope w.layout) (filter is_blank_member (take i (members_of_type w.layout t)))

  module _ (i : ℕ) (below : i < length (members_of_type w.layout t)) (m : ℕ) (number : m ≡ get_or (members_of_type w.layout t) i 0) where
    scopes_by : (b : Bool) → map (member_scope w.layout) (cond b (m ∷ []) []) ≡ cond b (member_scope w.layout m ∷ []) []
    scopes_by true = refl
    scopes_by false = refl

    blanks_by : first_blanks (i + 1) ≡ first_blanks i ++ cond (is_blank_member m) (member_scope w.layout m ∷ []) []
    blanks_by =
        let ms = members_of_type w.layout t in
        ap (map (member_scope w.layout)) (filter_more is_blank_member ms i 0 below ∙ ap (λ (k : ℕ). filter is_blank_member (take i ms) ++ cond (is_blank_member k) (k ∷ []) []) (sym number))
        ∙ (map-append (member_scope w.layout) (filter is_blank_member (take i ms)) (cond (is_blank_member m) (m ∷ []) [])
        ∙ ap (λ (xs : List Scope). first_blanks i ++ xs) (scopes_by (is_blank_member m)))

    -- by what the code has of the member
    module _ (l : LayoutOf) (s : Scope) (o : OwnMember) (b : Bool) (found : List Scope) (layout : l ≡ w.layout) (scope : s ≡ member_scope w.layout m) (own : o ≡ own_at w.files m) (test : b ≡ is_blank l s o) (so_far : found ≡ first_blanks i) where
      test_is : b ≡ is_blank_member m
      test_is = test ∙ (λ j. is_blank (layout j) (scope j) (own j))

      pub blanks_more : (all : List Scope) → b ≡ true → all ≡ found ++ s ∷ [] → all ≡ first_blanks (i + 1)
      blanks_more all is more =
          more ∙ ((λ j. so_far j ++ scope j ∷ []) ∙ sym (blanks_by ∙ ap (λ (b : Bool). first_blanks i ++ cond b (member_scope w.layout m ∷ []) []) (sym test_is ∙ is)))

      pub blanks_skip : b ≡ false → found ≡ first_blanks (i + 1)
      blanks_skip is = so_far ∙ sym (blanks_by ∙ (ap (λ (b : Bool). first_blanks i ++ cond b (member_scope w.layout m ∷ []) []) (sym test_is ∙ is) ∙ append-nil (first_blanks i)))

  pub blanks_end : (i : ℕ) → length (members_of_type w.layout t) ≤ i → first_blanks i ≡ type_blanks w t
  blanks_end i past = ap (λ (ms : List ℕ). map (member_scope w.layout) (filter is_blank_member ms)) (take_all i (members_of_type w.layout t) past)

pub ruleset blank_steps = blanks_end

pub ruleset prelude_steps = (prelude_skipped, beyond_read)
