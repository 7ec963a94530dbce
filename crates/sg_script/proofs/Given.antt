-- What stages give, and what was written.
use Rattle.std.proofs.Common.{◌≡◌, List, [], ◌∷◌, ◌++◌, IsTrue, inl, inr, refl, sym, ap, ◌∙◌, subst, append_assoc}
use Rattle.std.proofs.lemmas.List.{append-nil}
use Rattle.std.proofs.lemmas.List.Elements.{Contains-append_left, Contains-append_right, Contains-append_cases}
use Rattle.std.specs.List.{Contains}
use Rattle.sg_base.specs.Graph.{GraphOf}
use Rattle.sg_base.proofs.Finite.{nothing_in, single, Contains-head, Contains-tail, Contains-cons}
use Rattle.sg_query.specs.declared.answer.Answer.{Answer}
use Rattle.sg_query.specs.declared.query.Query.{Query}
use Rattle.sg_reading.specs.Reading.{Gives, AllEnds}
use Rattle.sg_reading.proofs.Readings.{Gives-more, Gives-ends}
use Rattle.sg_state.specs.declared.need.Need.{Need}
use Rattle.sg_unit.specs.declared.op.Op.{Op}
use Rattle.sg_unit.specs.declared.op.Op.TheVariants.{Fresh, AddEdge, SetDatum, CloseRow, Ask, Advance, Take, End}
use Rattle.sg_unit.specs.declared.reply.Reply.{Reply}
use Rattle.sg_unit.specs.Trace.{Past}
use Rattle.sg_script.specs.declared.write.Write.{Write}
use Rattle.sg_script.specs.declared.write.Write.TheVariants.{AddEdge as Adds, SetDatum as Sets, CloseRow as Closes}
use Rattle.sg_script.specs.Following.{op_of, written, writes_in}
use Rattle.sg_unit.specs.Orderly.{Did}
use Rattle.sg_script.specs.Script.{Stage, AreGiven, AreInTurn, AreApart, AreWrites, place_of, gives_up}

pub in_middle : {X : Type 0} (front behind : List X) (x : X) → Contains (front ++ x ∷ behind) x
in_middle front behind x = Contains-append_right front (x ∷ behind) x (Contains-head x behind)

-- ---- what stages give

module _ {D P : Type 0} where
  pub given_more : (R S : Query P → Answer D → Type 0) → ((q : Query P) (a : Answer D) → R q a → S q a) → (ss : List (Stage D P)) (ws : List (Write D)) → AreGiven R ss ws → AreGiven S ss ws
  given_more R S h [] ws g = g
  given_more R S h (s ∷ ss) ws g = (g.0, g.1, g.2, Gives-more R S s.rule g.0 g.2 (λ q a c. h q a) g.3, given_more R S h ss g.1 g.4, g.5)

  module _ (R : Query P → Answer D → Type 0) where
    -- one more stage
    pub given_snoc : (ss : List (Stage D P)) (s : Stage D P) (ws own : List (Write D)) (qs : List (Query P)) → AreGiven R ss ws → Gives R s.rule own qs → AreGiven R (ss ++ s ∷ []) (ws ++ own)
    given_snoc [] s ws own qs g h = (own, [], qs, h, refl, ap (λ (l : List (Write D)). l ++ own) g ∙ sym (append-nil own))
    given_snoc (t ∷ ss) s ws own qs g h =
        (g.0, g.1 ++ own, g.2, g.3, given_snoc ss s g.1 own qs g.4 h, ap (λ (l : List (Write D)). l ++ own) g.5 ∙ append_assoc g.0 g.1 own)

    -- one of the stages gave what it gives
    pub given_has : (ss : List (Stage D P)) (ws : List (Write D)) (s : Stage D P) → AreGiven R ss ws → Contains ss s → (own : List (Write D)) × (qs : List (Query P)) × Gives R s.rule own qs × ((w : Write D) → Contains own w → Contains ws w)
    given_has [] ws s g c = absurd (nothing_in s c)
    given_has (t ∷ ss) ws s g c =
        elim (Contains-cons t s ss c) [
          | inl e ↦ (g.0, g.2, subst (λ (x : Stage D P). Gives R x.rule g.0 g.2) (sym e) g.3, λ w k. subst (λ (l : List (Write D)). Contains l w) (sym g.5) (Contains-append_left g.0 g.1 w k))
          | inr m ↦
              let k = given_has ss g.1 s g.4 m in
              (k.0, k.1, k.2, λ w i. subst (λ (l : List (Write D)). Contains l w) (sym g.5) (Contains-append_right g.0 g.1 w (k.3 w i)))
        ]

    -- each write is to a place of one of them
    pub given_placed : (g : GraphOf D) (ss : List (Stage D P)) (ws : List (Write D)) (w : Write D) → ((s : Stage D P) → Contains ss s → AllEnds (AreWrites g s.places) s.rule) → AreGiven R ss ws → Contains ws w → (s : Stage D P) × Contains ss s × Contains s.places (place_of w)
    given_placed g [] ws w h k c = absurd (nothing_in w (subst (λ (l : List (Write D)). Contains l w) k c))
    given_placed g (t ∷ ss) ws w h k c =
        elim (Contains-append_cases k.0 k.1 w (subst (λ (l : List (Write D)). Contains l w) k.5 c)) [
          | inl m ↦ (t, Contains-head t ss, (Gives-ends (AreWrites g t.places) R t.rule k.0 k.2 (h t (Contains-head t ss)) k.3).placed w m)
          | inr m ↦ let i = given_placed g ss k.1 w (λ s c. h s (Contains-tail t s ss c)) k.4 m in (i.0, Contains-tail t i.0 ss i.1, i.2)
        ]

  -- a stage that has a place is the one that has it
  pub apart_one : (before later : List (Stage D P)) (s t : Stage D P) (n : Need) → AreApart (before ++ s ∷ later) → Contains (before ++ s ∷ later) t → Contains s.places n → Contains t.places n → t ≡ s
  apart_one [] later s t n a c h k = elim (Contains-cons s t later c) [ inl e ↦ e | inr m ↦ absurd (a.0 t n m h k) ]
  apart_one (b ∷ before) later s t n a c h k =
      elim (Contains-cons b t (before ++ s ∷ later) c) [
        | inl e ↦ absurd (a.0 s n (in_middle before later s) (subst (λ (x : Stage D P). Contains x.places n) e k) h)
        | inr m ↦ apart_one before later s t n a.1 m h k
      ]

  pub apart_before : (before later : List (Stage D P)) (s t : Stage D P) (n : Need) → AreApart (before ++ s ∷ later) → Contains before t → Contains s.places n → Contains t.places n → ⊥
  apart_before [] later s t n a c h k = nothing_in t c
  apart_before (b ∷ before) later s t n a c h k =
      elim (Contains-cons b t before c) [
        | inl e ↦ a.0 s n (in_middle before later s) (subst (λ (x : Stage D P). Contains x.places n) e k) h
        | inr m ↦ apart_before before later s t n a.1 m h k
      ]

-- ---- writes in turn

module _ {D : Type 0} where
  pub turn_front : (front behind : List (Write D)) (x w : Write D) → AreInTurn (front ++ w ∷ behind) → Contains front x → IsTrue (gives_up x) → place_of x ≡ place_of w → ⊥
  turn_front [] behind x w t c g e = nothing_in x c
  turn_front (y ∷ ys) behind x w t c g e =
      elim (Contains-cons y x ys c) [
        | inl k ↦ t.0 (subst (λ (i : Write D). IsTrue (gives_up i)) k g) w (in_middle ys behind w) (sym e ∙ ap (λ (i : Write D). place_of i) k)
        | inr m ↦ turn_front ys behind x w t.1 m g e
      ]

  pub turn_behind : (front behind : List (Write D)) (x w : Write D) → AreInTurn (front ++ w ∷ behind) → Contains behind x → IsTrue (gives_up w) → place_of x ≡ place_of w → ⊥
  turn_behind [] behind x w t c g e = t.0 g x c e
  turn_behind (y ∷ ys) behind x w t c g e = turn_behind ys behind x w t.1 c g e

-- ---- what was written

pub op_written : (I R P : Type 0) {D : Type 0} (w : Write D) → written {I = I} {R = R} {D = D} {P = P} (op_of w) ≡ w ∷ []
op_written I R P (Adds from label to) = refl
op_written I R P (Sets s d) = refl
op_written I R P (Closes s label) = refl

module _ {I R D P : Type 0} where
  pub written_op : (op : Op I R D P) (w : Write D) → Contains (written op) w → op ≡ op_of w
  written_op (Fresh labels datum) w c = absurd (nothing_in w c)
  written_op (AddEdge from label to) w c = sym (ap (λ (i : Write D). let o : Op I R D P = op_of i in o) (single (Adds from label to) w c))
  written_op (SetDatum s d) w c = sym (ap (λ (i : Write D). let o : Op I R D P = op_of i in o) (single (Sets s d) w c))
  written_op (CloseRow s label) w c = sym (ap (λ (i : Write D). let o : Op I R D P = op_of i in o) (single (Closes s label) w c))
  written_op (Ask q) w c = absurd (nothing_in w c)
  written_op Advance w c = absurd (nothing_in w c)
  written_op Take w c = absurd (nothing_in w c)
  written_op (End x) w c = absurd (nothing_in w c)

  pub wrote_did : (past : Past I R D P) (w : Write D) → Contains (writes_in past) w → Did past (op_of w)
  wrote_did [] w c = absurd (nothing_in w c)
  wrote_did (x ∷ xs) w c =
      elim (Contains-append_cases (written x.0) (writes_in xs) w c) [
        | inl k ↦ (x.1, subst (λ (o : Op I R D P). Contains (x ∷ xs) (o, x.1)) (written_op x.0 w k) (Contains-head x xs))
        | inr k ↦ let d = wrote_did xs w k in (d.0, Contains-tail x (op_of w, d.0) xs d.1)
      ]

  pub did_wrote : (past : Past I R D P) (w : Write D) → Did past (op_of w) → Contains (writes_in past) w
  did_wrote [] w d = absurd (nothing_in (op_of w, d.0) d.1)
  did_wrote (x ∷ xs) w d =
      elim (Contains-cons x (op_of w, d.0) xs d.1) [
        | inl e ↦
            Contains-append_left (written x.0) (writes_in xs) w
            (subst (λ (o : Op I R D P). Contains (written o) w) (ap (λ (i : Op I R D P × Reply I D P). i.0) e) (subst (λ (l : List (Write D)). Contains l w) (sym (op_written I R P w)) (Contains-head w [])))
        | inr m ↦ Contains-append_right (written x.0) (writes_in xs) w (did_wrote xs w (d.0, m))
      ]

  pub writes_append : (xs ys : Past I R D P) → writes_in (xs ++ ys) ≡ writes_in xs ++ writes_in ys
  writes_append [] ys = refl
  writes_append (x ∷ xs) ys = ap (λ (l : List (Write D)). written x.0 ++ l) (writes_append xs ys) ∙ sym (append_assoc (written x.0) (writes_in xs) (writes_in ys))
