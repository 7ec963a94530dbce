-- Words that split into a word that is not empty and a rest.
use Rattle.std.proofs.Common.{◌≡◌, ◌≢◌, ℕ, zero, suc, ◌+◌, ◌≤◌, List, [], ◌∷◌, ◌++◌, ◌⊎◌, inl, inr, refl, sym, ap, ◌∙◌, subst, append_assoc, length, length-append, arith}
use Rattle.std.specs.List.{concat}
use Rattle.sg_base.specs.Label.{Word}
use Rattle.sg_expr.specs.Word.{EachWord, Splits, Chain}
use Rattle.sg_expr.proofs.WordLemmas.{left_not_nil, once-Chain}

-- a word that is not empty
abbrev pub Proper : (Word → Type 0) → Word → Type 0
Proper A w = (w ≢ []) × A w

begun_at : (A C : Word → Type 0) (w u v : Word) → w ≡ u ++ v → A u → C v → Splits (Proper A) C w ⊎ (A [] × C w)
begun_at A C w [] v e a c = inr (a, subst C (sym e) c)
begun_at A C w (x ∷ u) v e a c = inl (x ∷ u, v, e, ((λ z. cc), a), c)

pub Splits_proper : (A C : Word → Type 0) (w : Word) → Splits A C w → Splits (Proper A) C w ⊎ (A [] × C w)
Splits_proper A C w s = begun_at A C w s.0 s.1 s.2 s.3 s.4

pub proper_Splits : (A C : Word → Type 0) (w : Word) → Splits (Proper A) C w ⊎ (A [] × C w) → Splits A C w
proper_Splits A C w (inl s) = (s.0, s.1, s.2, (s.3).1, s.4)
proper_Splits A C w (inr p) = ([], w, refl, p.0, p.1)

turn_at : (A B C : Word → Type 0) (w u v x y : Word) → w ≡ u ++ v → u ≢ [] → u ≡ x ++ y → A x → B y → C v → Splits (Proper A) (Splits B C) w ⊎ (A [] × Splits (Proper B) C w)
turn_at A B C w u v [] y e n d a b c = inr (a, (y, v, e ∙ ap (λ (t : Word). t ++ v) d, ((λ z. n (d ∙ z)), b), c))
turn_at A B C w u v (z ∷ x) y e n d a b c =
    inl (z ∷ x, y ++ v, e ∙ ap (λ (t : Word). t ++ v) d ∙ append_assoc (z ∷ x) y v, ((λ z. cc), a), (y, v, refl, b, c))

pub Turn_proper : (A B C : Word → Type 0) (w : Word) → Splits (Proper (Splits A B)) C w → Splits (Proper A) (Splits B C) w ⊎ (A [] × Splits (Proper B) C w)
Turn_proper A B C w s = turn_at A B C w s.0 s.1 ((s.3).1).0 ((s.3).1).1 s.2 (s.3).0 ((s.3).1).2 ((s.3).1).3 ((s.3).1).4 s.4

pub proper_Turn : (A B C : Word → Type 0) (w : Word) → Splits (Proper A) (Splits B C) w ⊎ (A [] × Splits (Proper B) C w) → Splits (Proper (Splits A B)) C w
proper_Turn A B C w (inl s) =
    let y : Word = (s.4).0 in
    let v : Word = (s.4).1 in
    let whole : w ≡ (s.0 ++ y) ++ v = s.2 ∙ ap (λ (t : Word). s.0 ++ t) (s.4).2 ∙ sym (append_assoc s.0 y v) in
    (s.0 ++ y, v, whole, (left_not_nil s.0 y (s.3).0, (s.0, y, refl, (s.3).1, (s.4).3)), (s.4).4)
proper_Turn A B C w (inr p) =
    let s = p.1 in
    (s.0, s.1, s.2, ((s.3).0, ([], s.0, refl, p.0, (s.3).1)), s.4)

pub Either_proper : (A B C : Word → Type 0) (w : Word) → Splits (Proper (λ u. A u ⊎ B u)) C w → Splits (Proper A) C w ⊎ Splits (Proper B) C w
Either_proper A B C w s =
    elim (s.3).1 [
      | inl a ↦ inl (s.0, s.1, s.2, ((s.3).0, a), s.4)
      | inr b ↦ inr (s.0, s.1, s.2, ((s.3).0, b), s.4)
    ]

pub proper_Either : (A B C : Word → Type 0) (w : Word) → Splits (Proper A) C w ⊎ Splits (Proper B) C w → Splits (Proper (λ u. A u ⊎ B u)) C w
proper_Either A B C w (inl s) = (s.0, s.1, s.2, ((s.3).0, inl (s.3).1), s.4)
proper_Either A B C w (inr s) = (s.0, s.1, s.2, ((s.3).0, inr (s.3).1), s.4)

shorter : (k : ℕ) (w u v : Word) → u ≢ [] → w ≡ u ++ v → length w ≤ suc k → length v ≤ k
shorter k w [] v n e l = absurd (n refl)
shorter k w (x ∷ u) v n e l =
    let whole : length w ≡ length (x ∷ u) + length v = ap length e ∙ length-append (x ∷ u) v in
    omega arith

never_shorter : (w u v : Word) → u ≢ [] → w ≡ u ++ v → length w ≤ 0 → ⊥
never_shorter w [] v n e l = n refl
never_shorter w (x ∷ u) v n e l =
    let whole : length w ≡ length (x ∷ u) + length v = ap length e ∙ length-append (x ∷ u) v in
    omega arith

-- words of a set each of which begins with a proper word of another, and goes on in the set or in a third
module _ (A C X : Word → Type 0) where
  pub Chain_proper : ((w : Word) → X w → Splits (Proper A) (λ v. X v ⊎ C v) w) → (k : ℕ) (w : Word) → length w ≤ k → X w → Splits (Proper (Chain A)) C w
  Chain_proper f zero w l x =
      let s = f w x in
      absurd (never_shorter w s.0 s.1 (s.3).0 s.2 l)
  Chain_proper f (suc k) w l x =
      let s = f w x in
      elim s.4 [
        | inl again ↦
            let r = Chain_proper f k s.1 (shorter k w s.0 s.1 (s.3).0 s.2 l) again in
            let whole : w ≡ (s.0 ++ r.0) ++ r.1 = s.2 ∙ ap (λ (t : Word). s.0 ++ t) r.2 ∙ sym (append_assoc s.0 r.0 r.1) in
            let chain = (r.3).1 in
            let more : Chain A (s.0 ++ r.0) = (s.0 ∷ chain.0, ap (λ (t : Word). s.0 ++ t) chain.1, ((s.3).1, chain.2)) in
            (s.0 ++ r.0, r.1, whole, (left_not_nil s.0 r.0 (s.3).0, more), r.4)
        | inr c ↦ (s.0, s.1, s.2, ((s.3).0, once-Chain A s.0 (s.3).1), c)
      ]

  words_behind : ((w : Word) → Splits (Proper A) (λ v. X v ⊎ C v) w → X w) → (ws : List Word) (v : Word) → EachWord A ws → C v → X (concat ws ++ v) ⊎ C (concat ws ++ v)
  words_behind f [] v h c = inr c
  words_behind f ([] ∷ ws) v h c = words_behind f ws v h.1 c
  words_behind f ((x ∷ u) ∷ ws) v h c =
      inl (f _ (x ∷ u, concat ws ++ v, append_assoc (x ∷ u) (concat ws) v, ((λ z. cc), h.0), words_behind f ws v h.1 c))

  words_begun : ((w : Word) → Splits (Proper A) (λ v. X v ⊎ C v) w → X w) → (ws : List Word) (v : Word) → concat ws ≢ [] → EachWord A ws → C v → X (concat ws ++ v)
  words_begun f [] v n h c = absurd (n refl)
  words_begun f ([] ∷ ws) v n h c = words_begun f ws v n h.1 c
  words_begun f ((x ∷ u) ∷ ws) v n h c =
      f _ (x ∷ u, concat ws ++ v, append_assoc (x ∷ u) (concat ws) v, ((λ z. cc), h.0), words_behind f ws v h.1 c)

  pub proper_Chain : ((w : Word) → Splits (Proper A) (λ v. X v ⊎ C v) w → X w) → (w : Word) → Splits (Proper (Chain A)) C w → X w
  proper_Chain f w s =
      let chain = (s.3).1 in
      let none : concat chain.0 ≢ [] = λ e. (s.3).0 (chain.1 ∙ e) in
      let whole : concat chain.0 ++ s.1 ≡ w = sym (s.2 ∙ ap (λ (t : Word). t ++ s.1) chain.1) in
      subst X whole (words_begun f chain.0 s.1 none chain.2 s.4)
