-- Words that split, and chains of words.
use Rattle.std.proofs.Common.{◌≡◌, ◌≢◌, ℕ, List, [], ◌∷◌, ◌++◌, ◌⊎◌, inl, inr, refl, sym, ap, ◌∙◌, subst}
use Rattle.std.proofs.lemmas.List.{append-nil}
use Rattle.std.specs.List.{concat}
use Rattle.sg_base.specs.Label.{Word}
use Rattle.sg_expr.specs.Tree.{ExprOf}
use Rattle.sg_expr.specs.Word.{EachWord, Splits, Chain, In}

nil_at : (A B : Word → Type 0) (u v : Word) → [] ≡ u ++ v → A u → B v → A [] × B []
nil_at A B [] [] e a b = (a, b)
nil_at A B [] (x ∷ v) e a b = absurd (cc)
nil_at A B (x ∷ u) v e a b = absurd (cc)

pub Splits-nil : (A B : Word → Type 0) → Splits A B [] → A [] × B []
Splits-nil A B s = nil_at A B s.0 s.1 s.2 s.3 s.4

pub nil-Splits : (A B : Word → Type 0) (w : Word) → A [] → B w → Splits A B w
nil-Splits A B w a b = ([], w, refl, a, b)

cons_at : (A B : Word → Type 0) (l : ℕ) (w u v : Word) → l ∷ w ≡ u ++ v → A u → B v → Splits (λ x. A (l ∷ x)) B w ⊎ (A [] × B (l ∷ w))
cons_at A B l w [] v e a b = inr (a, subst B (sym e) b)
cons_at A B l w (x ∷ u) v e a b =
    let same : x ≡ l = cc in
    inl (u, v, cc, subst (λ (y : ℕ). A (y ∷ u)) same a, b)

pub Splits-cons : (A B : Word → Type 0) (l : ℕ) (w : Word) → Splits A B (l ∷ w) → Splits (λ x. A (l ∷ x)) B w ⊎ (A [] × B (l ∷ w))
Splits-cons A B l w s = cons_at A B l w s.0 s.1 s.2 s.3 s.4

pub cons-Splits : (A B : Word → Type 0) (l : ℕ) (w : Word) → Splits (λ x. A (l ∷ x)) B w → Splits A B (l ∷ w)
cons-Splits A B l w s = (l ∷ s.0, s.1, ap (λ (t : Word). l ∷ t) s.2, s.3, s.4)

pub Splits-map : (A B C D : Word → Type 0) → ((w : Word) → A w → C w) → ((w : Word) → B w → D w) → (w : Word) → Splits A B w → Splits C D w
Splits-map A B C D f g w s = (s.0, s.1, s.2, f s.0 s.3, g s.1 s.4)

pub Chain-nil : (A : Word → Type 0) → Chain A []
Chain-nil A = ([], refl, tt)

chain_cons_at : (A : Word → Type 0) (l : ℕ) (w : Word) (ws : List Word) → l ∷ w ≡ concat ws → EachWord A ws → Splits (λ x. A (l ∷ x)) (Chain A) w
chain_cons_at A l w [] e h = absurd (cc)
chain_cons_at A l w ([] ∷ ws) e h = chain_cons_at A l w ws e h.1
chain_cons_at A l w ((x ∷ u) ∷ ws) e h =
    let same : x ≡ l = cc in
    (u, concat ws, cc, subst (λ (y : ℕ). A (y ∷ u)) same h.0, (ws, refl, h.1))

pub Chain-cons : (A : Word → Type 0) (l : ℕ) (w : Word) → Chain A (l ∷ w) → Splits (λ x. A (l ∷ x)) (Chain A) w
Chain-cons A l w c = chain_cons_at A l w c.0 c.1 c.2

pub cons-Chain : (A : Word → Type 0) (l : ℕ) (w : Word) → Splits (λ x. A (l ∷ x)) (Chain A) w → Chain A (l ∷ w)
cons-Chain A l w s =
    let rest : s.1 ≡ concat (s.4).0 = (s.4).1 in
    let whole : l ∷ w ≡ (l ∷ s.0) ++ concat (s.4).0 = ap (λ (t : Word). l ∷ t) (s.2 ∙ ap (λ (t : Word). s.0 ++ t) rest) in
    ((l ∷ s.0) ∷ (s.4).0, whole, (s.3, (s.4).2))

each_map : (A B : Word → Type 0) → ((w : Word) → A w → B w) → (ws : List Word) → EachWord A ws → EachWord B ws
each_map A B f [] h = tt
each_map A B f (w ∷ ws) h = (f w h.0, each_map A B f ws h.1)

pub Chain-map : (A B : Word → Type 0) → ((w : Word) → A w → B w) → (w : Word) → Chain A w → Chain B w
Chain-map A B f w c = (c.0, c.1, each_map A B f c.0 c.2)

-- some word that is not empty
abbrev pub GoesOn : (Word → Type 0) → Type 0
GoesOn A = (w : Word) × (w ≢ []) × A w

goes_at : (A B : Word → Type 0) (u v : Word) → u ++ v ≢ [] → A u → B v → (GoesOn A × ((w : Word) × B w)) ⊎ (((w : Word) × A w) × GoesOn B)
goes_at A B [] v n a b = inr (([], a), (v, n, b))
goes_at A B (x ∷ u) v n a b = inl ((x ∷ u, (λ e. cc), a), (v, b))

pub GoesOn-Splits : (A B : Word → Type 0) → GoesOn (Splits A B) → (GoesOn A × ((w : Word) × B w)) ⊎ (((w : Word) × A w) × GoesOn B)
GoesOn-Splits A B g = goes_at A B (g.2).0 (g.2).1 (λ e. g.1 ((g.2).2 ∙ e)) (g.2).3 (g.2).4

pub left_not_nil : (u v : Word) → u ≢ [] → u ++ v ≢ []
left_not_nil [] v n e = n refl
left_not_nil (x ∷ u) v n e = cc

right_not_nil : (u v : Word) → v ≢ [] → u ++ v ≢ []
right_not_nil [] v n e = n e
right_not_nil (x ∷ u) v n e = cc

pub first-GoesOn : (A B : Word → Type 0) → GoesOn A → ((w : Word) × B w) → GoesOn (Splits A B)
first-GoesOn A B g b = (g.0 ++ b.0, left_not_nil g.0 b.0 g.1, (g.0, b.0, refl, g.2, b.1))

pub second-GoesOn : (A B : Word → Type 0) → ((w : Word) × A w) → GoesOn B → GoesOn (Splits A B)
second-GoesOn A B a g = (a.0 ++ g.0, right_not_nil a.0 g.0 g.1, (a.0, g.0, refl, a.1, g.2))

chain_goes_at : (A : Word → Type 0) (ws : List Word) → concat ws ≢ [] → EachWord A ws → GoesOn A
chain_goes_at A [] n h = absurd (n refl)
chain_goes_at A ([] ∷ ws) n h = chain_goes_at A ws n h.1
chain_goes_at A ((x ∷ u) ∷ ws) n h = (x ∷ u, (λ e. cc), h.0)

pub GoesOn-Chain : (A : Word → Type 0) → GoesOn (Chain A) → GoesOn A
GoesOn-Chain A g = chain_goes_at A (g.2).0 (λ e. g.1 ((g.2).1 ∙ e)) (g.2).2

pub once-Chain : (A : Word → Type 0) (w : Word) → A w → Chain A w
once-Chain A w a = (w ∷ [], sym (append-nil w), (a, tt))

pub In-along : (a b : ExprOf) → a ≡ b → (w : Word) → In a w → In b w
In-along a b e w i = subst (λ (x : ExprOf). In x w) e i
