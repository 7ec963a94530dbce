-- Readers of small programs are sound, and read what their headers say.
use Rattle.std.proofs.Common.{◌≡◌, ℕ, ◌<◌, zero, suc, List, [], ◌∷◌, cond, is_some, Option, Some, None, inl, inr, refl, sym, ◌∙◌, subst, arith, length}
use Rattle.std.specs.List.{Contains}
use Rattle.sg_base.specs.declared.scope.Scope.{Scope}
use Rattle.sg_base.specs.Graph.{HasScope}
use Rattle.sg_base.proofs.Finite.{nothing_in, single, Contains-head, Contains-tail}
use Rattle.sg_query.specs.declared.answer.Answer.{Answer}
use Rattle.sg_query.specs.Query.{KindOf}
use Rattle.sg_query.specs.declared.query.Query.{Query}
use Rattle.sg_reading.specs.declared.known.Known.TheVariants.{Is, Need as Needed}
use Rattle.sg_reading.specs.Reading.{Reading, done, Gives, Asks, AllAsked, AllEnds, and_then}
use Rattle.sg_reading.specs.Stop.{Replied, IsKnown}
use Rattle.sg_state.specs.Held.{RowHold, HoldsRow}
use Rattle.sg_script.specs.declared.write.Write.{Write}
use Rattle.sg_script.specs.Script.{Stage, IsQuery, IsStage, IsSound, row_writes, row_stage}
use Rattle.sg_script.proofs.Stages.{rows_are_stages}
use Rattle.sg_headers.specs.Small.{three, row_query, looking}
use Rattle.sg_small.specs.Reader.{ReaderOf, type_of, reader_plan, first_missing, AreTypes, IsNewReader}

-- ---- soundness

abbrev hold : ℕ → RowHold
hold n = record { scope = type_of n; label = 0; unit = n }

holds_own : (n : ℕ) → n < 3 → HoldsRow (three {D = ℕ}) n (type_of n) 0
holds_own zero b = Contains-head (hold 0) (hold 1 ∷ hold 2 ∷ [])
holds_own (suc zero) b = Contains-tail (hold 0) (hold 1) (hold 1 ∷ hold 2 ∷ []) (Contains-head (hold 1) (hold 2 ∷ []))
holds_own (suc (suc zero)) b = Contains-tail (hold 0) (hold 2) (hold 1 ∷ hold 2 ∷ []) (Contains-tail (hold 1) (hold 2) (hold 2 ∷ []) (Contains-head (hold 2) []))
holds_own (suc (suc (suc n))) b = absurd (omega (arith, b))

module _ (r : ReaderOf) where
  asks_types : (ss ts : List Scope) → 0 < length r.kinds → AreTypes ss → AllAsked (IsQuery (reader_plan r)) (looking {D = ℕ} 5 ss ts)
  asks_types [] ts few all = tt
  asks_types (s ∷ ss) ts few all = (record { start = all s (Contains-head s ss); kind = few; pred = Contains-head 5 [] }, λ a. asks_types ss ts few (λ t c. all t (Contains-tail s t ss c)))

  ends_in_types : (ss ts : List Scope) → AreTypes ts → AllEnds (λ ts. (t : Scope) → Contains ts t → HasScope (three {D = ℕ}).graph t) (looking {D = ℕ} {P = ℕ} 5 ss ts)
  ends_in_types [] ts all = all
  ends_in_types (s ∷ ss) ts all = λ a. ends_in_types ss ts all

  reader_is_sound : r.number < 3 → 0 < length r.kinds → AreTypes r.looks → AreTypes r.gives → IsSound (reader_plan r)
  reader_is_sound below few looks gives = record {
    unit = below;
    each = λ s c.
        subst (λ (t : Stage ℕ ℕ). IsStage (reader_plan r) t) (sym (single (row_stage (type_of r.number) 0 (looking 5 r.looks r.gives)) s c))
        (rows_are_stages ℕ ℕ ℕ (reader_plan r) (type_of r.number) 0 (looking 5 r.looks r.gives) (holds_own r.number below) (asks_types r.looks r.gives few looks) (ends_in_types r.looks r.gives gives));
    apart = ((λ t n c h k. nothing_in t c), tt);
    asks = tt;
  }

pub new_is_sound : (n : ℕ) (ks : List KindOf) (r : ReaderOf) → n < 3 → length ks ≡ 1 → IsNewReader n ks r → IsSound (reader_plan r)
new_is_sound n ks r below one new =
    let number : r.number < 3 = subst (λ (i : ℕ). i < 3) (sym new.number) below in
    let kinds : 0 < length r.kinds = subst (λ (l : List KindOf). 0 < length l) (sym new.kinds) (omega (arith, one)) in
    reader_is_sound r number kinds new.looks new.gives

-- ---- what is read

module _ (reply : Query ℕ → Option (Answer ℕ)) (ts : List Scope) (v : List (Write ℕ)) (f : List Scope → Reading (Query ℕ) (Answer ℕ) (List (Write ℕ))) (at : f ts ≡ done v) where
  abbrev Needs : List Scope → Query ℕ → Type 0
  Needs ss q = Asks (Replied reply) (and_then (looking 5 ss ts) f) q × (reply q ≡ None)

  abbrev Gets : List Scope → Type 0
  Gets ss = (qs : List (Query ℕ)) × Gives (Replied reply) (and_then (looking 5 ss ts) f) v qs

  needs_by : (s : Scope) (ss : List Scope) (q : Query ℕ) → (first_missing reply ss ≡ Some q → Needs ss q) → first_missing reply (s ∷ ss) ≡ Some q → (o : Option (Answer ℕ)) → reply (row_query 5 s) ≡ o → Needs (s ∷ ss) q
  needs_by s ss q more e (Some a) h =
      let k = more (subst (λ (o : Option (Answer ℕ)). cond (is_some o) (first_missing reply ss) (Some (row_query 5 s)) ≡ Some q) h e) in
      (inr (a, h, k.0), k.1)
  needs_by s ss q more e None h =
      let k : Some (row_query 5 s) ≡ Some q = subst (λ (o : Option (Answer ℕ)). cond (is_some o) (first_missing reply ss) (Some (row_query 5 s)) ≡ Some q) h e in
      let same : row_query 5 s ≡ q = cc in
      (inl same, subst (λ (i : Query ℕ). reply i ≡ None) same h)

  needs : (ss : List Scope) (q : Query ℕ) → first_missing reply ss ≡ Some q → Needs ss q
  needs [] q e = absurd (let k : None ≡ Some q = e in cc)
  needs (s ∷ ss) q e = needs_by s ss q (needs ss q) e (reply (row_query 5 s)) refl

  gives_by : (s : Scope) (ss : List Scope) → (first_missing reply ss ≡ None → Gets ss) → first_missing reply (s ∷ ss) ≡ None → (o : Option (Answer ℕ)) → reply (row_query 5 s) ≡ o → Gets (s ∷ ss)
  gives_by s ss more e (Some a) h =
      let k = more (subst (λ (o : Option (Answer ℕ)). cond (is_some o) (first_missing reply ss) (Some (row_query 5 s)) ≡ None) h e) in
      (row_query 5 s ∷ k.0, (a, h, k.0, refl, k.1))
  gives_by s ss more e None h = absurd (let k : Some (row_query 5 s) ≡ None = subst (λ (o : Option (Answer ℕ)). cond (is_some o) (first_missing reply ss) (Some (row_query 5 s)) ≡ None) h e in cc)

  gives : (ss : List Scope) → first_missing reply ss ≡ None → Gets ss
  gives [] e = ([], subst (λ (r : Reading (Query ℕ) (Answer ℕ) (List (Write ℕ))). Gives (Replied reply) r v []) (sym at) (refl, refl))
  gives (s ∷ ss) e = gives_by s ss (gives ss) e (reply (row_query 5 s)) refl

pub row_needed : (reply : Query ℕ → Option (Answer ℕ)) (s : Scope) (ss ts : List Scope) (q : Query ℕ) → Some q ≡ first_missing reply ss → IsKnown reply (row_stage s 0 (looking 5 ss ts)).rule (Needed q)
row_needed reply s ss ts q e =
    let k = needs reply ts (row_writes s 0 ts) (λ us. done (row_writes s 0 us)) refl ss q (sym e) in
    (k.0, λ a r. let n : None ≡ Some a = sym k.1 ∙ r in cc)

pub row_known : (reply : Query ℕ → Option (Answer ℕ)) (s : Scope) (ss ts : List Scope) (ws : List (Write ℕ)) → None ≡ first_missing reply ss → ws ≡ row_writes s 0 ts → IsKnown reply (row_stage s 0 (looking 5 ss ts)).rule (Is ws)
row_known reply s ss ts ws e w =
    subst (λ (l : List (Write ℕ)). IsKnown reply (row_stage s 0 (looking 5 ss ts)).rule (Is l)) (sym w)
    (gives reply ts (row_writes s 0 ts) (λ us. done (row_writes s 0 us)) refl ss (sym e))
