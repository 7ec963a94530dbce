-- What holds of every rule.
use Rattle.std.proofs.Common.{◌≡◌, zero, suc, List, [], ◌∷◌, Option, Some, None, inl, inr, refl, sym, ap, ◌∙◌, subst, arith}
use Rattle.std.proofs.lemmas.List.Elements.{Contains-append_right, Contains-append_cases}
use Rattle.std.specs.List.{Contains}
use Rattle.sg_reading.specs.declared.known.Known.{Known}
use Rattle.sg_reading.specs.declared.known.Known.TheVariants.{Is, Need}
use Rattle.sg_reading.specs.Law.{ReadsOnlyItsQueries, NeedsOnlyItsQueries, ValuesAreOne, NeedsAreOne, ValuesNeedNothing, QueriesAreListed, ValuesWhereReplied, RulesAreKnown, KnownInOneWay}
use Rattle.sg_reading.specs.Reading.{Reading, done, ask, Gives, Asks, Needs, IsFunctional, AskedAlike, AllAsked, AllEnds}
use Rattle.sg_reading.specs.Stop.{Replied, IsKnown}

pub Contains-first : {X : Type 0} (x : X) (xs : List X) → Contains (x ∷ xs) x
Contains-first x xs = (0, omega arith, refl)

pub Contains-sole : {X : Type 0} (x y : X) → Contains (x ∷ []) y → x ≡ y
Contains-sole x y (zero, b, e) = e
Contains-sole x y (suc k, b, e) = absurd (omega (arith, b))

-- a query has one reply at most
pub replied_once : {Q A : Type 0} (reply : Q → Option A) → IsFunctional (Replied reply)
replied_once reply q a b h k = let e : Some a ≡ Some b = sym h ∙ k in cc

module _ {Q A U : Type 0} where
  -- ---- what other answers give

  -- the listed queries' answers are enough for a value
  pub Gives-more : (R S : Q → A → Type 0) (r : Reading Q A U) (v : U) (qs : List Q) → ((q : Q) (a : A) → Contains qs q → R q a → S q a) → Gives R r v qs → Gives S r v qs
  Gives-more R S (done u) v qs h g = g
  Gives-more R S (ask q next) v qs h g =
      (g.0, h q g.0 (subst (λ (xs : List Q). Contains xs q) (sym g.3) (Contains-first q g.2)) g.1, g.2, g.3, Gives-more R S (next g.0) v g.2 (λ p a c. h p a (subst (λ (xs : List Q). Contains xs p) (sym g.3) (Contains-append_right (q ∷ []) g.2 p c))) g.4)

  pub reads_only : (R S : Q → A → Type 0) → ReadsOnlyItsQueries U R S
  reads_only R S r v qs g alike = Gives-more R S r v qs (λ q a c. (alike q a c).0) g

  -- the answers to queries of a kind are enough, where the rule asks none of another kind
  pub Gives-within : (P : Q → Type 0) (R S : Q → A → Type 0) (r : Reading Q A U) (u : U) (qs : List Q) → AllAsked P r → ((q : Q) (a : A) → P q → R q a → S q a) → Gives R r u qs → Gives S r u qs
  Gives-within P R S (done w) u qs h f g = g
  Gives-within P R S (ask q next) u qs h f g = (g.0, f q g.0 h.0 g.1, g.2, g.3, Gives-within P R S (next g.0) u g.2 (h.1 g.0) f g.4)

  pub Gives-ends : (P : U → Type 0) (R : Q → A → Type 0) (r : Reading Q A U) (u : U) (qs : List Q) → AllEnds P r → Gives R r u qs → P u
  Gives-ends P R (done w) u qs h g = subst P g.0 h
  Gives-ends P R (ask q next) u qs h g = Gives-ends P R (next g.0) u g.2 (h g.0) g.4

  pub Asks-within : (P : Q → Type 0) (R S : Q → A → Type 0) (r : Reading Q A U) (p : Q) → AllAsked P r → ((q : Q) (a : A) → P q → R q a → S q a) → Asks R r p → Asks S r p
  Asks-within P R S (done w) p h f k = k
  Asks-within P R S (ask q next) p h f k =
      elim k [ inl e ↦ inl e | inr more ↦ inr (more.0, f q more.0 h.0 more.1, Asks-within P R S (next more.0) p (h.1 more.0) f more.2) ]

  -- a query that the rule comes to is of the kind of all its queries
  pub Asks-kind : (P : Q → Type 0) (R : Q → A → Type 0) (r : Reading Q A U) (p : Q) → AllAsked P r → Asks R r p → P p
  Asks-kind P R (done w) p h k = absurd k
  Asks-kind P R (ask q next) p h k = elim k [ inl e ↦ subst P e h.0 | inr more ↦ Asks-kind P R (next more.0) p (h.1 more.0) more.2 ]

  pub AllAsked-both : (P P' : Q → Type 0) (r : Reading Q A U) → AllAsked P r → AllAsked P' r → AllAsked (λ q. P q × P' q) r
  AllAsked-both P P' (done w) h k = tt
  AllAsked-both P P' (ask p next) h k = ((h.0, k.0), λ a. AllAsked-both P P' (next a) (h.1 a) (k.1 a))

  pub Asks-more : (R S : Q → A → Type 0) (r : Reading Q A U) (p : Q) → ((q : Q) (a : A) → R q a → S q a) → Asks R r p → Asks S r p
  Asks-more R S (done u) p h k = k
  Asks-more R S (ask q next) p h k = elim k [ inl e ↦ inl e | inr more ↦ inr (more.0, h q more.0 more.1, Asks-more R S (next more.0) p h more.2) ]

  Asks-alike : (R S : Q → A → Type 0) (r : Reading Q A U) (p : Q) → AskedAlike R S r → Asks R r p → Asks S r p
  Asks-alike R S (done u) p alike k = k
  Asks-alike R S (ask q next) p alike k =
      elim k [
        | inl e ↦ inl e
        | inr more ↦ inr (more.0, (alike q more.0 (inl refl)).0 more.1, Asks-alike R S (next more.0) p (λ s a c. alike s a (inr (more.0, more.1, c))) more.2)
      ]

  pub needs_only : (R S : Q → A → Type 0) → NeedsOnlyItsQueries U R S
  needs_only R S r p n alike = (Asks-alike R S r p alike n.0, λ a s. n.1 a ((alike p a n.0).1 s))

  -- the queries that a value came after are those that the rule comes to
  pub Gives-asks : (R : Q → A → Type 0) (r : Reading Q A U) (v : U) (qs : List Q) (p : Q) → Gives R r v qs → Contains qs p → Asks R r p
  Gives-asks R (done w) v qs p g c = let none : Contains {X = Q} [] p = subst (λ (xs : List Q). Contains xs p) g.1 c in omega (arith, none.1)
  Gives-asks R (ask q next) v qs p g c =
      elim (Contains-append_cases (q ∷ []) g.2 p (subst (λ (xs : List Q). Contains xs p) g.3 c)) [
        | inl one ↦ inl (Contains-sole q p one)
        | inr more ↦ inr (g.0, g.1, Gives-asks R (next g.0) v g.2 p g.4 more)
      ]

  -- ---- one end

  module _ (R : Q → A → Type 0) (one : IsFunctional R) where
    pub Gives-same : (r : Reading Q A U) (v w : U) (qs ps : List Q) → Gives R r v qs → Gives R r w ps → (v ≡ w) × (qs ≡ ps)
    Gives-same (done u) v w qs ps g h = (sym g.0 ∙ h.0, g.1 ∙ sym h.1)
    Gives-same (ask q next) v w qs ps g h =
        let there : Gives R (next g.0) w h.2 = subst (λ (a : A). Gives R (next a) w h.2) (one q h.0 g.0 h.1 g.1) h.4 in
        let rest = Gives-same (next g.0) v w g.2 h.2 g.4 there in
        (rest.0, g.3 ∙ (ap (λ (xs : List Q). q ∷ xs) rest.1 ∙ sym h.3))

    -- where a rule has a value, each query that it comes to has an answer
    pub Gives-answered : (r : Reading Q A U) (v : U) (qs : List Q) (p : Q) → Gives R r v qs → Asks R r p → (a : A) × R p a
    Gives-answered (done u) v qs p g k = absurd k
    Gives-answered (ask q next) v qs p g k =
        elim k [
          | inl e ↦ (g.0, subst (λ (x : Q). R x g.0) e g.1)
          | inr more ↦ Gives-answered (next g.0) v g.2 p g.4 (subst (λ (a : A). Asks R (next a) p) (one q more.0 g.0 more.1 g.1) more.2)
        ]

    Asks-listed : (r : Reading Q A U) (v : U) (qs : List Q) (p : Q) → Gives R r v qs → Asks R r p → Contains qs p
    Asks-listed (done u) v qs p g k = absurd k
    Asks-listed (ask q next) v qs p g k =
        subst (λ (xs : List Q). Contains xs p) (sym g.3) (elim k [
          | inl e ↦ subst (λ (x : Q). Contains (q ∷ g.2) x) e (Contains-first q g.2)
          | inr more ↦ Contains-append_right (q ∷ []) g.2 p (Asks-listed (next g.0) v g.2 p g.4 (subst (λ (a : A). Asks R (next a) p) (one q more.0 g.0 more.1 g.1) more.2))
        ])

    pub Gives-no_need : (r : Reading Q A U) (v : U) (qs : List Q) (p : Q) → Gives R r v qs → Needs R r p → ⊥
    Gives-no_need r v qs p g n = let h = Gives-answered r v qs p g n.0 in n.1 h.0 h.1

    pub Needs-same : (r : Reading Q A U) (p s : Q) → Needs R r p → Needs R r s → p ≡ s
    Needs-same (done u) p s n m = absurd n.0
    Needs-same (ask q next) p s n m =
        elim n.0 [
          | inl e ↦ elim m.0 [ inl e' ↦ sym e ∙ e' | inr more' ↦ absurd (n.1 more'.0 (subst (λ (x : Q). R x more'.0) e more'.1)) ]
          | inr more ↦ elim m.0 [
            | inl e' ↦ absurd (m.1 more.0 (subst (λ (x : Q). R x more.0) e' more.1))
            | inr more' ↦ Needs-same (next more.0) p s (more.2, n.1) (subst (λ (a : A). Asks R (next a) s) (one q more'.0 more.0 more'.1 more.1) more'.2, m.1)
          ]
        ]

  pub queries_are_listed : (R : Q → A → Type 0) → QueriesAreListed U R
  queries_are_listed R one r v qs g q = ((λ c. Gives-asks R r v qs q g c), (λ k. Asks-listed R one r v qs q g k))

  pub values_are_one : (R : Q → A → Type 0) → ValuesAreOne U R
  values_are_one R one r v w qs ps g h = Gives-same R one r v w qs ps g h

  pub needs_are_one : (R : Q → A → Type 0) → NeedsAreOne U R
  needs_are_one R one r p q n m = Needs-same R one r p q n m

  pub values_need_nothing : (R : Q → A → Type 0) → ValuesNeedNothing U R
  values_need_nothing R one r v qs p g n = Gives-no_need R one r v qs p g n

  -- ---- over replies

  pub Gives-where_answered : (R : Q → A → Type 0) (r : Reading Q A U) → ((q : Q) → Asks R r q → (a : A) × R q a) → (v : U) × (qs : List Q) × Gives R r v qs
  Gives-where_answered R (done u) h = (u, [], (refl, refl))
  Gives-where_answered R (ask q next) h =
      let here = h q (inl refl) in
      let rest = Gives-where_answered R (next here.0) (λ p k. h p (inr (here.0, here.1, k))) in
      (rest.0, q ∷ rest.1, (here.0, here.1, rest.1, refl, rest.2))

  pub values_where_replied : ValuesWhereReplied Q A U
  values_where_replied reply r =
      ((λ h. λ q k. Gives-answered (Replied reply) (replied_once reply) r h.0 h.1 q h.2 k), (λ h. Gives-where_answered (Replied reply) r h))

  known_beyond : (reply : Q → Option A) (q : Q) (next : A → Reading Q A U) (a : A) → reply q ≡ Some a → (k : Known U Q) → IsKnown reply (next a) k → IsKnown reply (ask q next) k
  known_beyond reply q next a e (Is v) h = (q ∷ h.0, (a, e, h.0, refl, h.1))
  known_beyond reply q next a e (Need p) h = (inr (a, e, h.0), h.1)

  known_on : (reply : Q → Option A) (q : Q) (next : A → Reading Q A U) (o : Option A) → reply q ≡ o → ((a : A) → (k : Known U Q) × IsKnown reply (next a) k) → (k : Known U Q) × IsKnown reply (ask q next) k
  known_on reply q next None e below = (Need q, (inl refl, λ a k. let z : None ≡ Some a = sym e ∙ k in cc))
  known_on reply q next (Some a) e below = let k = below a in (k.0, known_beyond reply q next a e k.0 k.1)

  pub rules_are_known : RulesAreKnown Q A U
  rules_are_known reply (done v) = (Is v, ([], (refl, refl)))
  rules_are_known reply (ask q next) = known_on reply q next (reply q) refl (λ a. rules_are_known reply (next a))

  pub known_in_one_way : KnownInOneWay Q A U
  known_in_one_way reply r (Is v) (Is w) h k = ap (λ (u : U). Is u) (Gives-same (Replied reply) (replied_once reply) r v w h.0 k.0 h.1 k.1).0
  known_in_one_way reply r (Is v) (Need q) h k = absurd (Gives-no_need (Replied reply) (replied_once reply) r v h.0 q h.1 k)
  known_in_one_way reply r (Need p) (Is w) h k = absurd (Gives-no_need (Replied reply) (replied_once reply) r w k.0 p k.1 h)
  known_in_one_way reply r (Need p) (Need q) h k = ap (λ (x : Q). Need x) (Needs-same (Replied reply) (replied_once reply) r p q h k)
