-- What a checker heard is what it was told.
use Rattle.std.proofs.Common.{◌≡◌, List, [], ◌∷◌, ◌++◌, Option, Some, None, Result, Ok, Err, IfOk, ℕ, ◌+◌, ◌<◌, length, take, get_or, inl, inr, ◌⊎◌, refl, sym, ap, ◌∙◌, subst, map, String, Vec, Global, string_bytes}
use Rattle.std.specs.List.{Contains}
use Rattle.std.proofs.lemmas.List.{map_more}
use Rattle.std.proofs.lemmas.List.Elements.{Contains-append_left, Contains-push, Contains-push_cases}
use Rattle.sg_query.specs.declared.answer.Answer.{Answer}
use Rattle.sg_query.specs.declared.query.Query.{Query}
use Rattle.sg_unit.specs.declared.op.Op.TheVariants.{Fresh, AddEdge, SetDatum, CloseRow, Ask, Advance, Take, End}
use Rattle.sg_unit.specs.declared.reply.Reply.TheVariants.{Made, Done, Moved, Ready, Suspended, Answer as Answered, Stuck}
use Rattle.sg_unit.specs.Orderly.{WasTold}
use Rattle.sg_unit.specs.Trace.{handed, told, told_after, told_from, untold, with_last}
use Rattle.jv_instance.specs.declared.datum.JavaDatum.{JavaDatum}
use Rattle.jv_instance.specs.declared.pred.JavaPred.{JavaPred}
use Rattle.sc_listing.specs.declared.heard.Heard.{Heard}
use Rattle.sc_listing.specs.Answers.{JavaEntry, JavaPast}
use Rattle.sc_listing.specs.Heard.{JavaOp, JavaReply, JavaTrace, answer_in, asked_last, query_in, waiting_answer, with_answer, AreTold, Hears}
use Rattle.sc_listing.specs.Questions.{question_line}
use Rattle.sc_listing.specs.Titles.{ListedOf}

-- ---- what is told once a reply is handed

asks_it : (op : JavaOp) (q : Query JavaPred) → query_in op ≡ Some q → op ≡ Ask q
asks_it (Ask p) q e = let k : Some p ≡ Some q = e in cc
asks_it (Fresh labels datum) q e = absurd (let k : None ≡ Some q = e in cc)
asks_it (AddEdge from label to) q e = absurd (let k : None ≡ Some q = e in cc)
asks_it (SetDatum s d) q e = absurd (let k : None ≡ Some q = e in cc)
asks_it (CloseRow s l) q e = absurd (let k : None ≡ Some q = e in cc)
asks_it Advance q e = absurd (let k : None ≡ Some q = e in cc)
asks_it Take q e = absurd (let k : None ≡ Some q = e in cc)
asks_it (End x) q e = absurd (let k : None ≡ Some q = e in cc)

answers_it : (y : JavaReply) (a : Answer JavaDatum) → answer_in y ≡ Some a → y ≡ Answered a
answers_it (Answered b) a e = let k : Some b ≡ Some a = e in cc
answers_it (Made s) a e = absurd (let k : None ≡ Some a = e in cc)
answers_it (Done woken) a e = absurd (let k : None ≡ Some a = e in cc)
answers_it Moved a e = absurd (let k : None ≡ Some a = e in cc)
answers_it Ready a e = absurd (let k : None ≡ Some a = e in cc)
answers_it Suspended a e = absurd (let k : None ≡ Some a = e in cc)
answers_it Stuck a e = absurd (let k : None ≡ Some a = e in cc)

module _ (past : JavaPast) where
  told_by : (last : Option JavaOp) (reply : Option JavaReply) (q : Query JavaPred) (a : Answer JavaDatum) → WasTold (with_last past last reply) q a → WasTold past q a ⊎ ((asked_last last ≡ Some q) × (waiting_answer reply ≡ Some a))
  told_by None reply q a c = inl c
  told_by (Some op) None q a c = inl c
  told_by (Some op) (Some y) q a c =
      elim (Contains-push_cases past (op, y) (Ask q, Answered a) c) [
        | inl k ↦ inl k
        | inr e ↦ inr (ap (λ (x : JavaOp × JavaReply). query_in x.0) e, ap (λ (x : JavaOp × JavaReply). answer_in x.1) e)
      ]

  told_before : (last : Option JavaOp) (reply : Option JavaReply) (q : Query JavaPred) (a : Answer JavaDatum) → WasTold past q a → WasTold (with_last past last reply) q a
  told_before None reply q a c = c
  told_before (Some op) None q a c = c
  told_before (Some op) (Some y) q a c = Contains-append_left past ((op, y) ∷ []) (Ask q, Answered a) c

  told_last : (last : Option JavaOp) (reply : Option JavaReply) (q : Query JavaPred) (a : Answer JavaDatum) → asked_last last ≡ Some q → waiting_answer reply ≡ Some a → WasTold (with_last past last reply) q a
  told_last None reply q a e k = absurd (let h : None ≡ Some q = e in cc)
  told_last (Some op) None q a e k = absurd (let h : None ≡ Some a = k in cc)
  told_last (Some op) (Some y) q a e k =
      subst (λ (o : JavaOp). Contains (past ++ (o, y) ∷ []) (Ask q, Answered a)) (sym (asks_it op q e))
      (subst (λ (z : JavaReply). Contains (past ++ (Ask q, z) ∷ []) (Ask q, Answered a)) (sym (answers_it y a k)) (Contains-push past (Ask q, Answered a)))

-- ---- the lines, once a reply is handed

-- the lines with that of the question that waits, where one does
abbrev pub with_waiting : ListedOf → List (List ℕ) → Option (Query JavaPred) → Option (Answer JavaDatum) → List (List ℕ)
with_waiting w lines None b = lines
with_waiting w lines (Some q) b = with_answer w lines q b

module _ (w : ListedOf) (past : JavaPast) (last : Option JavaOp) (reply : Option JavaReply) (lines : List (List ℕ)) (all : AreTold w past lines) where
  -- no line more, where no question with an answer waits
  the_same : ((q : Query JavaPred) (a : Answer JavaDatum) → asked_last last ≡ Some q → waiting_answer reply ≡ Some a → ⊥) → AreTold w (with_last past last reply) lines
  the_same none = record {
    exact = λ line. (
      (λ c. let m = (all.exact line).0 c in (m.0, m.1, told_before past last reply m.0 m.1 m.2, m.3)),
      (λ m. elim (told_by past last reply m.0 m.1 m.2) [ inl k ↦ (all.exact line).1 (m.0, m.1, k, m.3) | inr k ↦ absurd (none m.0 m.1 k.0 k.1) ]),
    );
  }

  -- the line of the question that waits
  same_line : (q p : Query JavaPred) (a b : Answer JavaDatum) (line : List ℕ) → Some q ≡ Some p → Some a ≡ Some b → line ≡ question_line w p b → question_line w q a ≡ line
  same_line q p a b line queries answered is =
      let one : q ≡ p = cc in
      let other : a ≡ b = cc in
      (λ i. question_line w (one i) (other i)) ∙ sym is

  -- a line more
  one_more : (q : Query JavaPred) (a : Answer JavaDatum) → asked_last last ≡ Some q → waiting_answer reply ≡ Some a → AreTold w (with_last past last reply) (lines ++ question_line w q a ∷ [])
  one_more q a asks answers = record {
    exact = λ line. (
      (λ c. elim (Contains-push_cases lines (question_line w q a) line c) [
        | inl old ↦ let m = (all.exact line).0 old in (m.0, m.1, told_before past last reply m.0 m.1 m.2, m.3)
        | inr e ↦ (q, a, told_last past last reply q a asks answers, sym e)
      ]),
      (λ m. elim (told_by past last reply m.0 m.1 m.2) [
        | inl k ↦ Contains-append_left lines (question_line w q a ∷ []) line ((all.exact line).1 (m.0, m.1, k, m.3))
        | inr k ↦ subst (λ (t : List ℕ). Contains (lines ++ question_line w q a ∷ []) t) (same_line q m.0 a m.1 line (sym asks ∙ k.0) (sym answers ∙ k.1) m.3) (Contains-push lines (question_line w q a))
      ]),
    );
  }

  waiting_told : (o : Option (Query JavaPred)) (b : Option (Answer JavaDatum)) → o ≡ asked_last last → ((q : Query JavaPred) → o ≡ Some q → b ≡ waiting_answer reply) → AreTold w (with_last past last reply) (with_waiting w lines o b)
  waiting_told None b asks answers = the_same (λ q a e k. let h : None ≡ Some q = asks ∙ e in cc)
  waiting_told (Some q) None asks answers = the_same (λ p a e k. let h : None ≡ Some a = answers q refl ∙ k in cc)
  waiting_told (Some q) (Some a) asks answers = one_more q a (sym asks) (sym (answers q refl))

lines_told : (w : ListedOf) (h : Heard) (lines : List (List ℕ)) → lines ≡ with_waiting w (map string_bytes h.lines.items) h.asked h.answer → (t : JavaTrace) → Hears w h t → AreTold w (handed t) lines
lines_told w h lines e t heard = subst (AreTold w (handed t)) (sym e) (waiting_told w t.past t.last t.reply (map string_bytes h.lines.items) heard.lines h.asked h.answer heard.asked heard.answer)

-- no query waits
pub none_asked : (w : ListedOf) (h : Heard) → h.asked ≡ None → (t : JavaTrace) → Hears w h t → AreTold w (handed t) (map string_bytes h.lines.items)
none_asked w h none = lines_told w h (map string_bytes h.lines.items) (sym (ap (λ (o : Option (Query JavaPred)). with_waiting w (map string_bytes h.lines.items) o h.answer) none))

-- a query waits
pub one_asked : {E : Type 0} (w : ListedOf) (r : Result (Vec (String Global) Global) E) (h : Heard) (q : Query JavaPred) → h.asked ≡ Some q → IfOk r (λ v. map string_bytes v.items ≡ with_answer w (map string_bytes h.lines.items) q h.answer)
    → IfOk r (λ v. (t : JavaTrace) → Hears w h t → AreTold w (handed t) (map string_bytes v.items))
one_asked w (Ok v) h q asked put = lines_told w h (map string_bytes v.items) (put ∙ sym (ap (λ (o : Option (Query JavaPred)). with_waiting w (map string_bytes h.lines.items) o h.answer) asked))
one_asked w (Err e) h q asked put = tt

-- ---- one entry more

told_push : (t : JavaTrace) (es : List JavaEntry) (e : JavaEntry) → told_from t (es ++ e ∷ []) ≡ told_after (told_from t es) e.op e.reply
told_push t [] e = refl
told_push t (x ∷ es) e = told_push (told_after t x.op x.reply) es e

module _ {B : Type 0} (now : B → JavaEntry) (w : ListedOf) where
  pub hears_more : (h new : Heard) (mine : List B) (i : ℕ) (e : B) → i < length mine → e ≡ get_or mine i e → ((t : JavaTrace) → Hears w h t → Hears w new (told_after t (now e).op (now e).reply)) → Hears w h (told (map now (take i mine))) → Hears w new (told (map now (take (i + 1) mine)))
  hears_more h new mine i e within here more heard =
      let longer : map now (take (i + 1) mine) ≡ map now (take i mine) ++ now e ∷ [] = map_more now mine i e within ∙ ap (λ (x : B). map now (take i mine) ++ now x ∷ []) (sym here) in
      subst (λ (t : JavaTrace). Hears w new t) (sym (ap told longer ∙ told_push untold (map now (take i mine)) (now e))) (more (told (map now (take i mine))) heard)

-- the lines at the end
pub told_all : {E : Type 0} (w : ListedOf) (r : Result (Vec (String Global) Global) E) (h : Heard) (t : JavaTrace) → Hears w h t → IfOk r (λ v. (s : JavaTrace) → Hears w h s → AreTold w (handed s) (map string_bytes v.items)) → IfOk r (λ v. AreTold w (handed t) (map string_bytes v.items))
told_all w (Ok v) h t heard all = all t heard
told_all w (Err e) h t heard all = tt
