-- What the questions of positions compute.
use Rattle.std.proofs.Common.{◌≡◌, ◌≢◌, ℕ, ◌+◌, ◌^◌, ◌<◌, ◌≤◌, List, [], ◌∷◌, ◌++◌, ◌⊎◌, ◌↔◌, IsTrue, not, eqb, inl, inr, refl, sym, ap, ◌∙◌, subst, bit_and, bit_or, length, slice_index, arith, w64}
use Rattle.std.proofs.lemmas.Bool.{cases_eq, cases_lt}
use Rattle.std.proofs.lemmas.Bool.Decides.{nat_tests}
use Rattle.std.proofs.lemmas.List.{get_or_past, append-nil}
use Rattle.std.proofs.lemmas.Nat.{and_le_l}
use Rattle.std.proofs.lemmas.Nat.Bits.{bit_at_clear_same, bit_at_clear_other, bit_at_above, bit_at-pow_same, bit_at-pow_other, bit_at-trailing_zeros}
use Rattle.std.specs.Int.{bit_at, bit_not, trailing_zeros}
use Rattle.sg_base.specs.Label.{Has, Word}
use Rattle.sg_base.proofs.Bits.{Has_either, either_Has}
use Rattle.sg_expr.specs.Laying.{only, begin_at, places_of, IsLaid, AreWithin, AreLive}
use Rattle.sg_expr.specs.Positions.{PositionsOf, Accepts}
use Rattle.sg_expr.specs.Tree.{ExprOf}
use Rattle.sg_expr.specs.Word.{In}
use Rattle.sg_expr.proofs.Accepting.{none_Has, both_Has, some_Has, none_Accepts, Accepts_either, either_Accepts, begin_at-Accepts, laid_begins, laid_live}

-- a member of one of the first sets
abbrev pub AmongFirst : List ℕ → ℕ → ℕ → Type 0
AmongFirst sets k n = (i : ℕ) × (i < k) × Has (slice_index sets i) n

pub union_none : (sets : List ℕ) (n : ℕ) → (Has 0 n) ↔ (AmongFirst sets 0 n)
union_none sets n = ((λ h. absurd (none_Has n h)), (λ h. absurd (omega (arith, h.1))))

pub union_more : (sets : List ℕ) (all k : ℕ) → ((n : ℕ) → (Has all n) ↔ (AmongFirst sets k n)) → (n : ℕ) → (Has (bit_or all (slice_index sets k)) n) ↔ (AmongFirst sets (k + 1) n)
union_more sets all k f n = (
  (λ h. elim (Has_either all (slice_index sets k) n h) [
    | inl old ↦ let i = (f n).0 old in (i.0, omega (arith, i.1), i.2)
    | inr new ↦ (k, omega arith, new)
  ]),
  (λ h. either_Has all (slice_index sets k) n (elim (cases_eq h.0 k) [
    | inl e ↦ inr (subst (λ (x : ℕ). Has (slice_index sets x) n) e h.2)
    | inr apart ↦ inl ((f n).1 (h.0, omega (arith, h.1), h.2))
  ])),
)

pub union_all : (sets : List ℕ) (all k : ℕ) → length sets ≤ k → ((n : ℕ) → (Has all n) ↔ (AmongFirst sets k n)) → (n : ℕ) → (Has all n) ↔ ((i : ℕ) × Has (slice_index sets i) n)
union_all sets all k l f n = (
  (λ h. let i = (f n).0 h in (i.0, i.2)),
  (λ h. elim (cases_lt h.0 k) [
    | inl near ↦ (f n).1 (h.0, near, h.1)
    | inr far ↦
        let past : slice_index sets h.0 ≡ 0 = get_or_past sets h.0 0 (omega arith) in
        absurd (none_Has n (subst (λ (x : ℕ). Has x n) past h.1))
  ]),
)

pub more_then : (labels labels' k : ℕ) (P : ℕ → Type 0) → ((m : ℕ) → (Has labels m) ↔ ((m < k) × P m)) → ((m : ℕ) → (Has labels' m) ↔ (Has labels m ⊎ (m ≡ k))) → P k → (m : ℕ) → (Has labels' m) ↔ ((m < k + 1) × P m)
more_then labels labels' k P f g here m = (
  (λ h. elim ((g m).0 h) [
    | inl old ↦ let i = (f m).0 old in (omega (arith, i.0), i.1)
    | inr e ↦ (omega arith, subst P (sym e) here)
  ]),
  (λ h. (g m).1 (elim (cases_eq m k) [ inl e ↦ inr e | inr apart ↦ inl ((f m).1 (omega (arith, h.0), h.1)) ])),
)

pub more_else : (labels k : ℕ) (P : ℕ → Type 0) → ((m : ℕ) → (Has labels m) ↔ ((m < k) × P m)) → (P k → ⊥) → (m : ℕ) → (Has labels m) ↔ ((m < k + 1) × P m)
more_else labels k P f none m = (
  (λ h. let i = (f m).0 h in (omega (arith, i.0), i.1)),
  (λ h. elim (cases_eq m k) [ inl e ↦ absurd (none (subst P e h.1)) | inr apart ↦ (f m).1 (omega (arith, h.0), h.1) ]),
)

-- two sets that meet
abbrev pub Meets : ℕ → ℕ → Type 0
Meets a b = (n : ℕ) × Has a n × Has b n

pub meets : (a b : ℕ) → a < 2 ^ 64 → bit_and a b ≢ 0 → Meets a b
meets a b l n =
    let some = some_Has (bit_and a b) (omega (arith, and_le_l a b)) n in
    let both = (both_Has a b some.0).0 some.2 in
    (some.0, both.0, both.1)

pub apart : (a b : ℕ) → bit_and a b ≡ 0 → Meets a b → ⊥
apart a b e h = none_Has h.0 (subst (λ (x : ℕ). Has x h.0) e ((both_Has a b h.0).1 (h.1, h.2)))

-- the set has the positions of all labels
abbrev pub HasAll : PositionsOf → ℕ → Type 0
HasAll p all = (n : ℕ) → (Has all n) ↔ ((l : ℕ) × Has (slice_index p.places l) n)

goes_meet : (p : PositionsOf) (all set : ℕ) → HasAll p all → (w : Word) → w ≢ [] → Accepts p set w → IsTrue (not (eqb (bit_and set all) 0))
goes_meet p all set f [] n h = absurd (n refl)
goes_meet p all set f (l ∷ w) n h =
    let met : bit_and set all ≢ 0 = λ e. apart set all e (h.0, h.1, (f h.0).1 (l, h.2)) in
    grind (arith, nat_tests)

pub goes_on_is : (p : PositionsOf) (all set : ℕ) → AreLive p → HasAll p all → set < 2 ^ 64 → (IsTrue (not (eqb (bit_and set all) 0))) ↔ ((w : Word) × (w ≢ []) × Accepts p set w)
goes_on_is p all set live f l = (
  (λ t. let n : bit_and set all ≢ 0 = grind (arith, nat_tests) in
      let m = meets set all l n in
      let place = (f m.0).0 m.2 in
      let rest = live place.0 m.0 place.1 in
      (place.0 ∷ rest.0, (λ z. cc), (m.0, m.1, place.1, rest.1))),
  (λ s. goes_meet p all set f s.0 s.1 s.2),
)

pub heads_is : (p : PositionsOf) (set l : ℕ) → AreLive p → (Meets set (slice_index p.places l)) ↔ ((w : Word) × Accepts p set (l ∷ w))
heads_is p set l live = (
  (λ m. let rest = live l m.0 m.2 in (rest.0, (m.0, m.1, m.2, rest.1))),
  (λ h. ((h.1).0, (h.1).1, (h.1).2)),
)

module _ (p : PositionsOf) where
  -- some position of the set has the word behind it
  abbrev pub Behind : ℕ → Word → Type 0
  Behind set w = (n : ℕ) × Has set n × Accepts p (slice_index p.behind n) w

  pub step_none : (set l : ℕ) (w : Word) → (Accepts p set (l ∷ w)) ↔ (Accepts p 0 w ⊎ Behind (bit_and set (slice_index p.places l)) w)
  step_none set l w = (
    (λ h. inr (h.0, (both_Has set (slice_index p.places l) h.0).1 (h.1, h.2), h.3)),
    (λ h. elim h [
      | inl k ↦ absurd (none_Accepts p w k)
      | inr k ↦ let both = (both_Has set (slice_index p.places l) k.0).0 k.1 in (k.0, both.0, both.1, k.2)
    ]),
  )

  pub step_more : (next here at : ℕ) → here < 2 ^ 64 → at < 64 → Has here at → (w : Word)
      → (Accepts p next w ⊎ Behind here w) ↔ (Accepts p (bit_or next (slice_index p.behind at)) w ⊎ Behind (bit_and here (bit_not w64 (only at))) w)
  step_more next here at l k h w = (
    (λ x. elim x [
      | inl old ↦ inl (either_Accepts p next (slice_index p.behind at) w (inl old))
      | inr b ↦ elim (cases_eq b.0 at) [
        | inl e ↦ inl (either_Accepts p next (slice_index p.behind at) w (inr (subst (λ (n : ℕ). Accepts p (slice_index p.behind n) w) e b.2)))
        | inr n ↦ elim (cases_lt b.0 64) [
          | inl near ↦ inr (b.0, bit_at_clear_other w64 here at k b.0 near n ∙ b.1, b.2)
          | inr far ↦ absurd (omega (arith, bit_at_above here 64 b.0 l far, b.1))
        ]
      ]
    ]),
    (λ x. elim x [
      | inl new ↦ elim (Accepts_either p next (slice_index p.behind at) w new) [ inl old ↦ inl old | inr b ↦ inr (at, h, b) ]
      | inr b ↦ inr (b.0, ((both_Has here (bit_not w64 (only at)) b.0).0 b.1).0, b.2)
    ]),
  )

  pub step_all : (next : ℕ) (w : Word) → (Accepts p next w ⊎ Behind 0 w) ↔ (Accepts p next w)
  step_all next w = ((λ x. elim x [ inl h ↦ h | inr b ↦ absurd (none_Has b.0 b.1) ]), (λ h. inl h))

pub cleared_falls : (here at : ℕ) → at < 64 → Has here at → bit_and here (bit_not w64 (only at)) < here
cleared_falls here at k h =
    let less = and_le_l here (bit_not w64 (only at)) in
    let gone : bit_at (bit_and here (bit_not w64 (only at))) at ≡ 0 = bit_at_clear_same w64 here at k in
    let other : bit_and here (bit_not w64 (only at)) ≢ here = λ e. omega (arith, gone, h, ap (λ (x : ℕ). bit_at x at) e) in
    omega (arith, less)

-- the set that says that a word may end
abbrev pub end_alone : ℕ
end_alone = 2 ^ 63

ends_Has : (n : ℕ) → Has end_alone n → n ≡ 63
ends_Has n h =
    elim (cases_eq n 63) [
      | inl e ↦ e
      | inr other ↦ absurd (omega (arith, bit_at-pow_other 63 n other, h))
    ]

module _ (p : PositionsOf) (e : ExprOf) (within : AreWithin p.behind p.places) (size : length p.behind ≡ places_of e) (small : places_of e ≤ 63) (laid : IsLaid p.behind p.places e 0 end_alone) where
  ended : Accepts p end_alone []
  ended = bit_at-pow_same 63

  end_Accepts : (w : Word) → Accepts p end_alone w → w ≡ []
  end_Accepts [] h = refl
  end_Accepts (l ∷ w) h =
      let at : h.0 ≡ 63 = ends_Has h.0 h.1 in
      absurd (omega (arith, within l h.0 h.2))

  pub built : (w : Word) → (Accepts p (begin_at e 0 end_alone) w) ↔ (In e w)
  built w =
      let begins = begin_at-Accepts p e 0 end_alone (laid_begins p e 0 end_alone (omega arith) laid) w in (
        (λ h. let s = begins.0 h in
            let none : s.1 ≡ [] = end_Accepts s.1 s.4 in
            subst (In e) (sym (s.2 ∙ ap (λ (t : Word). s.0 ++ t) none ∙ append-nil s.0)) s.3),
        (λ i. begins.1 (w, [], sym (append-nil w), i, ended)),
      )

  pub built_live : AreLive p
  built_live l n h = laid_live p e 0 end_alone (omega arith) laid ([], ended) l n (omega arith) (omega (arith, within l n h)) h

pub lowest_Has : (here : ℕ) → here ≢ 0 → here < 2 ^ 64 → (trailing_zeros w64 here < 64) × Has here (trailing_zeros w64 here)
lowest_Has here n l =
    let at = bit_at-trailing_zeros w64 here (omega arith) l in
    (at.0, at.1)

pub all_heads : (p : PositionsOf) (set labels k : ℕ) → length p.places ≤ k → AreLive p → ((m : ℕ) → (Has labels m) ↔ ((m < k) × Meets set (slice_index p.places m)))
    → (l : ℕ) → (Has labels l) ↔ ((w : Word) × Accepts p set (l ∷ w))
all_heads p set labels k size live f l = (
  (λ h. (heads_is p set l live).0 ((f l).0 h).1),
  (λ h. elim (cases_lt l k) [
    | inl near ↦ (f l).1 (near, (heads_is p set l live).1 h)
    | inr far ↦
        let past : slice_index p.places l ≡ 0 = get_or_past p.places l 0 (omega arith) in
        absurd (none_Has (h.1).0 (subst (λ (x : ℕ). Has x (h.1).0) past (h.1).2))
  ]),
)
