-- A table of Java's kinds asks what Java's rules ask, for the kinds that it lacks too.
use Rattle.std.proofs.Common.{◌≡◌, ℕ, ◌≤◌, ◌==◌, false, List, [], length, inl, inr, refl, sym, ap, ◌∙◌, arith}
use Rattle.std.proofs.lemmas.Bool.Decides.{leb_tells}
use Rattle.std.proofs.lemmas.List.{get_or_past}
use Rattle.std.proofs.lemmas.Nat.Bits.{bit_at-zero}
use Rattle.sg_base.specs.declared.mark.Mark.{Mark}
use Rattle.sg_base.specs.declared.mark.Mark.TheVariants.{End, Of}
use Rattle.sg_expr.specs.Tree.{no_word}
use Rattle.sg_order.specs.Mark.{mark_number}
use Rattle.sg_order.specs.Order.{precedes}
use Rattle.sg_query.specs.declared.query.Query.{Query}
use Rattle.sg_query.specs.Query.{KindOf, asked, kind_of}
use Rattle.jv_instance.specs.declared.pred.JavaPred.{JavaPred}
use Rattle.jv_instance.specs.Data.{is_wanted}
use Rattle.jv_names.specs.Kinds.{AreKinds, JavaKind, asked_by, kind_at, kinds, mark_before}
use Rattle.sc_app.specs.FolderRun.{same_datum}

none_before : (a b : Mark) → mark_before [] a b ≡ false
none_before End b = refl
none_before (Of a) End = refl
none_before (Of a) (Of b) = refl

none_precedes : (a b : Mark) → precedes [] a b ≡ false
none_precedes a b = ap (λ (n : ℕ). n == 1) (bit_at-zero (mark_number b))

module _ (table : List KindOf) (java : AreKinds table) where
  no_java : (k : ℕ) → length kinds ≤ k → kind_at k ≡ record { words = no_word; labels = [] }
  no_java k past = get_or_past kinds k (record { words = no_word; labels = [] }) past

  no_kind : (k : ℕ) → length kinds ≤ k → kind_of table k ≡ record { expr = no_word; order = [] }
  no_kind k past = get_or_past table k (record { expr = no_word; order = [] }) (omega (arith, java.count, past))

  words_are : (k : ℕ) → (kind_at k).words ≡ (kind_of table k).expr
  words_are k = elim (leb_tells (length kinds) k) [
    | inl past ↦ ap (λ (j : JavaKind). j.words) (no_java k past.1) ∙ sym (ap (λ (j : KindOf). j.expr) (no_kind k past.1))
    | inr below ↦ sym (java.words k below.1)
  ]

  order_is : (k : ℕ) (a b : Mark) → mark_before (kind_at k).labels a b ≡ precedes (kind_of table k).order a b
  order_is k a b = elim (leb_tells (length kinds) k) [
    | inl past ↦
        (ap (λ (j : JavaKind). mark_before j.labels a b) (no_java k past.1) ∙ none_before a b)
        ∙ sym (ap (λ (j : KindOf). precedes j.order a b) (no_kind k past.1) ∙ none_precedes a b)
    | inr below ↦ sym (java.order k a b below.1)
  ]

  -- a query asks the same by the table and by Java's kinds
  pub asked_alike : (q : Query JavaPred) → asked_by q ≡ asked is_wanted same_datum table q
  asked_alike q = λ i. record { start = q.start; expr = words_are q.kind i; order = λ a b. order_is q.kind a b i; wants = is_wanted q.pred; same = same_datum }
