-- What a node offers, label by label.
use Rattle.std.proofs.Common.{◌≡◌, ◌≢◌, ℕ, zero, suc, ◌<◌, ◌≤◌, ◌+◌, arith, List, [], ◌∷◌, ◌++◌, ◌⊎◌, ◌↔◌, map, length, length-append, inl, inr, refl, sym, ap, ◌∙◌, subst, append_assoc}
use Rattle.std.proofs.lemmas.List.{append-nil}
use Rattle.std.specs.List.{Contains}
use Rattle.std.proofs.lemmas.List.Elements.{Contains-append_left, Contains-append_cases, Contains-push}
use Rattle.sg_base.specs.Label.{Word, Has}
use Rattle.sg_base.specs.List.{IsDistinct}
use Rattle.sg_base.proofs.Finite.{single, map-Contains, Contains-map, Distinct-map, Distinct-push}
use Rattle.sg_query.specs.Walk.{labels_below}
use Rattle.sg_query.proofs.Extending.{labels_to, labels_distinct}
use Rattle.sg_engine.specs.declared.work.Work.{Work}
use Rattle.sg_engine.specs.declared.work.Work.TheVariants.{Next, Whole}
use Rattle.sg_engine.specs.Growth.{Keeps}
use Rattle.sg_engine.specs.Nodes.{RestOf, InRest}
use Rattle.sg_engine.specs.Tree.{IsWorkOf}
use Rattle.sg_engine.proofs.Keeping.{Keeps-from, Keeps-to, Keeps-distinct, Keeps-push_in, Keeps-push_out, Keeps-length}

pub map-push : {X Y : Type 0} (f : X → Y) (xs : List X) (x : X) → map f (xs ++ x ∷ []) ≡ map f xs ++ f x ∷ []
map-push f [] x = refl
map-push {X} {Y} f (y ∷ xs) x = ap (λ (t : List Y). f y ∷ t) (map-push f xs x)

labels_many : (n : ℕ) → length (labels_below n) ≡ n
labels_many zero = refl
labels_many (suc n) = omega (arith, labels_many n, length-append (labels_below n) (n ∷ []))

length-map : {X Y : Type 0} (f : X → Y) (xs : List X) → length (map f xs) ≡ length xs
length-map f [] = refl
length-map f (x ∷ xs) = ap suc (length-map f xs)

-- the labels below n that the heads have were offered
abbrev pub OfferedTo : ℕ → ℕ → ℕ → List Work → List Work → Type 0
OfferedTo heads place n old now = (ls : List ℕ) × Keeps (Has heads) (labels_below n) ls × (now ≡ old ++ map (λ l. Next place l) ls)

pub offered_none : (heads place : ℕ) (old : List Work) → OfferedTo heads place 0 old old
offered_none heads place old = ([], refl, sym (append-nil old))

pub offered_in : (heads place n : ℕ) (old now : List Work) → OfferedTo heads place n old now → Has heads n → OfferedTo heads place (n + 1) old (now ++ Next place n ∷ [])
offered_in heads place n old now o h =
    let up : suc n ≡ n + 1 = omega arith in
    subst (λ (k : ℕ). OfferedTo heads place k old (now ++ Next place n ∷ [])) up (
      o.0 ++ n ∷ [],
      Keeps-push_in (Has heads) (labels_below n) o.0 n o.1 h,
      ap (λ (t : List Work). t ++ Next place n ∷ []) o.2 ∙ append_assoc old (map (λ l. Next place l) o.0) (Next place n ∷ []) ∙ ap (λ (t : List Work). old ++ t) (sym (map-push (λ l. Next place l) o.0 n)),
    )

pub offered_out : (heads place n : ℕ) (old now : List Work) → OfferedTo heads place n old now → (Has heads n → ⊥) → OfferedTo heads place (n + 1) old now
offered_out heads place n old now o h =
    let up : suc n ≡ n + 1 = omega arith in
    subst (λ (k : ℕ). OfferedTo heads place k old now) up (o.0, Keeps-push_out (Has heads) (labels_below n) o.0 n o.1 h, o.2)

-- where there is no label, none is offered
pub offered_nowhere : (heads place n : ℕ) (old : List Work) → ((l : ℕ) → Has heads l → ⊥) → OfferedTo heads place n old old
offered_nowhere heads place zero old h = offered_none heads place old
offered_nowhere heads place (suc n) old h =
    let o = offered_nowhere heads place n old h in
    (o.0, Keeps-push_out (Has heads) (labels_below n) o.0 n o.1 (h n), o.2)

-- the labels below 16 that the heads have were offered, and they have no others
abbrev pub OfferedAll : ℕ → ℕ → List Work → List Work → Type 0
OfferedAll heads place old now = OfferedTo heads place 16 old now × ((l : ℕ) → Has heads l → l < 16)

-- words that do not go on begin with no label
pub headless : (heads : ℕ) (rest : RestOf) → ((l : ℕ) → (Has heads l) ↔ ((w : Word) × InRest rest (l ∷ w))) → ((w : Word) × (w ≢ []) × InRest rest w → ⊥) → (l : ℕ) → Has heads l → ⊥
headless heads rest means none l h = let k = (means l).0 h in none (l ∷ k.0, (λ e. cc e), k.1)

pub offered_now : (heads place : ℕ) (old now same : List Work) → now ≡ same → OfferedAll heads place old same → OfferedAll heads place old now
offered_now heads place old now same e o = subst (OfferedAll heads place old) (sym e) o

pub offered_headless : (heads place : ℕ) (old : List Work) → ((l : ℕ) → Has heads l → ⊥) → OfferedAll heads place old old
offered_headless heads place old h = (offered_nowhere heads place 16 old h, λ l k. absurd (h l k))

module _ (heads place : ℕ) (rest : RestOf) (small : (l : ℕ) → Has heads l → l < 16) (means : (l : ℕ) → (Has heads l) ↔ ((w : Word) × InRest rest (l ∷ w))) (old now : List Work) (o : OfferedTo heads place 16 old now) where
  abbrev pub nexts : List Work
  nexts = map (λ l. Next place l) o.0

  nexts_distinct : IsDistinct nexts
  nexts_distinct = Distinct-map (λ l. Next place l) o.0 (Keeps-distinct (Has heads) (labels_below 16) o.0 o.1 (labels_distinct 16)) (λ a b k m e. cc)

  nexts_from : (x : Work) → Contains nexts x → (l : ℕ) × Has heads l × (x ≡ Next place l)
  nexts_from x c = let k = Contains-map (λ l. Next place l) o.0 x c in (k.0, (Keeps-from (Has heads) (labels_below 16) o.0 o.1 k.0 k.1).1, k.2)

  nexts_to : (l : ℕ) → Has heads l → Contains nexts (Next place l)
  nexts_to l h = map-Contains (λ l. Next place l) o.0 l (Keeps-to (Has heads) (labels_below 16) o.0 o.1 l (labels_to 16 l (small l h)) h)

  work_next : (x : Work) → Contains nexts x → IsWorkOf rest place x
  work_next x c = let k = nexts_from x c in subst (IsWorkOf rest place) (sym k.2) (refl, (means k.0).0 k.1)

  work_to : (x : Work) → IsWorkOf rest place x → Contains nexts x ⊎ ((x ≡ Whole place) × InRest rest [])
  work_to (Next k l) w = inl (subst (λ (t : ℕ). Contains nexts (Next t l)) (sym w.0) (nexts_to l ((means l).1 w.1)))
  work_to (Whole k) w = inr (ap (λ (t : ℕ). Whole t) w.0, w.1)

  sixteen : length nexts ≤ 16
  sixteen = omega (arith, Keeps-length (Has heads) (labels_below 16) o.0 o.1, labels_many 16, length-map (λ (l : ℕ). Next place l) o.0)

  pub offers_next : (InRest rest [] → ⊥) → (ws : List Work) × (now ≡ old ++ ws) × IsDistinct ws × (length ws ≤ 17) × ((x : Work) → (Contains ws x) ↔ (IsWorkOf rest place x))
  offers_next n = (nexts, o.2, nexts_distinct, omega (arith, sixteen), λ x. (work_next x, λ w. elim (work_to x w) [ inl c ↦ c | inr k ↦ absurd (n k.1) ]))

  pub offers_whole : InRest rest [] → (ws : List Work) × (now ++ Whole place ∷ [] ≡ old ++ ws) × IsDistinct ws × (length ws ≤ 17) × ((x : Work) → (Contains ws x) ↔ (IsWorkOf rest place x))
  offers_whole i = (
    nexts ++ Whole place ∷ [],
    ap (λ (t : List Work). t ++ Whole place ∷ []) o.2 ∙ append_assoc old nexts (Whole place ∷ []),
    Distinct-push nexts (Whole place) nexts_distinct (λ c. let k = nexts_from (Whole place) c in cc k.2),
    omega (arith, sixteen, length-append nexts (Whole place ∷ [])),
    λ x. (
      (λ c. elim (Contains-append_cases nexts (Whole place ∷ []) x c) [
        | inl k ↦ work_next x k
        | inr k ↦ subst (IsWorkOf rest place) (sym (single (Whole place) x k)) (refl, i)
      ]),
      (λ w. elim (work_to x w) [
        | inl c ↦ Contains-append_left nexts (Whole place ∷ []) x c
        | inr k ↦ subst (λ (t : Work). Contains (nexts ++ Whole place ∷ []) t) (sym k.0) (Contains-push nexts (Whole place))
      ]),
    ),
  )
