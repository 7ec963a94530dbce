-- Sets of positions and the words that they accept.
use Rattle.std.proofs.Common.{◌≡◌, ◌≢◌, ℕ, ◌+◌, ◌^◌, ◌<◌, ◌≤◌, [], ◌∷◌, ◌++◌, ◌⊎◌, ◌↔◌, Bool, true, false, cond, IsTrue, ◌&&◌, ◌||◌, inl, inr, refl, sym, ap, ◌∙◌, subst, bit_and, bit_or, length, slice_index, arith, w64}
use Rattle.std.proofs.lemmas.Bool.{cases_eq, cases_lt, false≢true}
use Rattle.std.proofs.lemmas.Nat.Bits.{bit_at-zero, bit_at-lt, bit_at_and, bit_at-trailing_zeros, bit_at_set_same, bit_at_set_other}
use Rattle.std.specs.Int.{trailing_zeros}
use Rattle.sg_base.specs.Label.{Has, Word}
use Rattle.sg_base.proofs.Bits.{Has_either, either_Has}
use Rattle.sg_expr.specs.Laying.{only, first_at, begin_at, is_nullable, is_live, places_of, IsLaid}
use Rattle.sg_expr.specs.Positions.{PositionsOf, Accepts}
use Rattle.sg_expr.specs.Tree.{ExprOf, no_word, empty_word, one_label, in_turn, either_of, repeated}
use Rattle.sg_expr.specs.Word.{In, Splits, ones_of}
use Rattle.sg_expr.proofs.Proper.{Proper, Splits_proper, proper_Splits, Turn_proper, proper_Turn, Either_proper, proper_Either, Chain_proper, proper_Chain}
use Rattle.sg_expr.proofs.WordLemmas.{Splits-nil, nil-Splits, Splits-map, left_not_nil}

pub none_Has : (n : ℕ) → Has 0 n → ⊥
none_Has n h = omega (arith, bit_at-zero n, h)

pub only_Has : (k n : ℕ) → k < 64 → Has (only k) n → n ≡ k
only_Has k n l h =
    elim (cases_eq n k) [
      | inl e ↦ e
      | inr apart ↦ absurd (none_Has n (sym (bit_at_set_other w64 0 k l n apart) ∙ h))
    ]

pub Has_only : (k : ℕ) → k < 64 → Has (only k) k
Has_only k l = bit_at_set_same w64 0 k l

pub both_Has : (a b n : ℕ) → (Has (bit_and a b) n) ↔ (Has a n × Has b n)
both_Has a b n =
    let e = bit_at_and a b n in
    let la = bit_at-lt a n in
    let lb = bit_at-lt b n in (
      (λ h. (omega (arith, e, h, la, lb), omega (arith, e, h, la, lb))),
      (λ h. omega (arith, e, h.0, h.1)),
    )

pub some_Has : (a : ℕ) → a < 2 ^ 64 → a ≢ 0 → (n : ℕ) × (n < 64) × Has a n
some_Has a l n =
    let at = bit_at-trailing_zeros w64 a (omega arith) l in
    (trailing_zeros w64 a, at.0, at.1)

module _ (p : PositionsOf) where
  pub none_Accepts : (w : Word) → Accepts p 0 w → ⊥
  none_Accepts [] h = none_Has 63 h
  none_Accepts (l ∷ w) h = none_Has h.0 h.1

  pub Accepts_either : (a b : ℕ) (w : Word) → Accepts p (bit_or a b) w → Accepts p a w ⊎ Accepts p b w
  Accepts_either a b [] h = Has_either a b 63 h
  Accepts_either a b (l ∷ w) h =
      elim (Has_either a b h.0 h.1) [
        | inl k ↦ inl (h.0, k, h.2, h.3)
        | inr k ↦ inr (h.0, k, h.2, h.3)
      ]

  pub either_Accepts : (a b : ℕ) (w : Word) → Accepts p a w ⊎ Accepts p b w → Accepts p (bit_or a b) w
  either_Accepts a b [] h = either_Has a b 63 h
  either_Accepts a b (l ∷ w) (inl h) = (h.0, either_Has a b h.0 (inl h.1), h.2, h.3)
  either_Accepts a b (l ∷ w) (inr h) = (h.0, either_Has a b h.0 (inr h.1), h.2, h.3)

and_true : (a b : Bool) → IsTrue (a && b) → IsTrue a × IsTrue b
and_true true b h = (refl, h)
and_true false b h = absurd (cc)

true_and : (a b : Bool) → IsTrue a → IsTrue b → IsTrue (a && b)
true_and true b h k = k
true_and false b h k = absurd (cc)

or_true : (a b : Bool) → IsTrue (a || b) → IsTrue a ⊎ IsTrue b
or_true true b h = inl refl
or_true false b h = inr h

true_or : (a b : Bool) → IsTrue a ⊎ IsTrue b → IsTrue (a || b)
true_or true b h = refl
true_or false b (inl h) = absurd (cc)
true_or false b (inr h) = h

-- an expression whose empty word is told by a test
pub nullable_In : (e : ExprOf) → IsTrue (is_nullable e) → In e []
nullable_In no_word h = cc
nullable_In empty_word h = refl
nullable_In (one_label l) h = cc
nullable_In (in_turn a b) h =
    let both = and_true (is_nullable a) (is_nullable b) h in
    nil-Splits (In a) (In b) [] (nullable_In a both.0) (nullable_In b both.1)
nullable_In (either_of a b) h =
    elim (or_true (is_nullable a) (is_nullable b) h) [ inl k ↦ inl (nullable_In a k) | inr k ↦ inr (nullable_In b k) ]
nullable_In (repeated a) h = ([], refl, tt)

pub In_nullable : (e : ExprOf) → In e [] → IsTrue (is_nullable e)
In_nullable no_word h = absurd h
In_nullable empty_word h = refl
In_nullable (one_label l) h = cc
In_nullable (in_turn a b) h =
    let both = Splits-nil (In a) (In b) h in
    true_and (is_nullable a) (is_nullable b) (In_nullable a both.0) (In_nullable b both.1)
In_nullable (either_of a b) h =
    true_or (is_nullable a) (is_nullable b) (elim h [ inl k ↦ inl (In_nullable a k) | inr k ↦ inr (In_nullable b k) ])
In_nullable (repeated a) h = refl

pub live_In : (e : ExprOf) → IsTrue (is_live e) → (w : Word) × In e w
live_In no_word h = cc
live_In empty_word h = ([], refl)
live_In (one_label l) h = (l ∷ [], refl)
live_In (in_turn a b) h =
    let both = and_true (is_live a) (is_live b) h in
    let x = live_In a both.0 in
    let y = live_In b both.1 in
    (x.0 ++ y.0, (x.0, y.0, refl, x.1, y.1))
live_In (either_of a b) h =
    elim (or_true (is_live a) (is_live b) h) [ inl k ↦ ((live_In a k).0, inl (live_In a k).1) | inr k ↦ ((live_In b k).0, inr (live_In b k).1) ]
live_In (repeated a) h = ([], ([], refl, tt))

pub In_live : (e : ExprOf) (w : Word) → In e w → IsTrue (is_live e)
In_live no_word w h = absurd h
In_live empty_word w h = refl
In_live (one_label l) w h = refl
In_live (in_turn a b) w h = true_and (is_live a) (is_live b) (In_live a h.0 h.3) (In_live b h.1 h.4)
In_live (either_of a b) w h = true_or (is_live a) (is_live b) (elim h [ inl k ↦ inl (In_live a w k) | inr k ↦ inr (In_live b w k) ])
In_live (repeated a) w h = refl

same_test : (a b : Bool) → (IsTrue a → IsTrue b) → (IsTrue b → IsTrue a) → a ≡ b
same_test true b f g = sym (f refl)
same_test false true f g = g refl
same_test false false f g = refl

pub nullable_is : (b : Bool) (e : ExprOf) → (IsTrue b) ↔ (In e []) → b ≡ is_nullable e
nullable_is b e h = same_test b (is_nullable e) (λ t. In_nullable e (h.0 t)) (λ t. h.1 (nullable_In e t))

pub live_is : (b : Bool) (e : ExprOf) → (IsTrue b) ↔ ((w : Word) × In e w) → b ≡ is_live e
live_is b e h = same_test b (is_live e) (λ t. In_live e (h.0 t).0 (h.0 t).1) (λ t. h.1 (live_In e t))

cond-le : (v : Bool) (m x : ℕ) → m ≤ x → cond v m 0 ≤ x
cond-le true m x h = h
cond-le false m x h = omega arith

pub places_of-le_ones : (e : ExprOf) → places_of e ≤ ones_of e
places_of-le_ones no_word = omega arith
places_of-le_ones empty_word = omega arith
places_of-le_ones (one_label l) = omega arith
places_of-le_ones (in_turn a b) = cond-le (is_live b) (places_of b + places_of a) (ones_of a + ones_of b) (omega (arith, places_of-le_ones a, places_of-le_ones b))
places_of-le_ones (either_of a b) = omega (arith, places_of-le_ones a, places_of-le_ones b)
places_of-le_ones (repeated a) = places_of-le_ones a

turn_size : (v : Bool) (n m k : ℕ) → n ≤ k → n + cond v m 0 ≤ 63 → k < n + cond v m 0 → (v ≡ true) × (n + m ≤ 63) × (k < n + m)
turn_size true n m k low small high = (refl, small, high)
turn_size false n m k low small high = absurd (omega arith)

module _ (p : PositionsOf) where
  -- the set accepts the words of the expression that are not empty, each with a word that another set accepts behind it
  abbrev pub Begins : ExprOf → ℕ → ℕ → Type 0
  Begins e set rest = (w : Word) → (Accepts p set w) ↔ (Splits (Proper (In e)) (Accepts p rest) w)

  begun_at : (e : ExprOf) (set rest : ℕ) (v : Bool) → v ≡ is_nullable e → Begins e set rest → (w : Word) → (Accepts p (cond v (bit_or set rest) set) w) ↔ (Splits (In e) (Accepts p rest) w)
  begun_at e set rest true t b w = (
    (λ h. proper_Splits (In e) (Accepts p rest) w (elim (Accepts_either p set rest w h) [
      | inl k ↦ inl ((b w).0 k)
      | inr k ↦ inr (nullable_In e (sym t), k)
    ])),
    (λ s. either_Accepts p set rest w (elim (Splits_proper (In e) (Accepts p rest) w s) [ inl k ↦ inl ((b w).1 k) | inr k ↦ inr k.1 ])),
  )
  begun_at e set rest false t b w = (
    (λ h. proper_Splits (In e) (Accepts p rest) w (inl ((b w).0 h))),
    (λ s. elim (Splits_proper (In e) (Accepts p rest) w s) [
      | inl k ↦ (b w).1 k
      | inr k ↦ absurd (false≢true (t ∙ In_nullable e k.0))
    ]),
  )

  -- the set with which an expression begins accepts its words, each with a word behind it
  pub begin_at-Accepts : (e : ExprOf) (n rest : ℕ) → Begins e (first_at e n) rest → (w : Word) → (Accepts p (begin_at e n rest) w) ↔ (Splits (In e) (Accepts p rest) w)
  begin_at-Accepts e n rest b w = begun_at e (first_at e n) rest (is_nullable e) refl b w

  none_begins : (e : ExprOf) (rest : ℕ) → ((w : Word) → Proper (In e) w → ⊥) → Begins e 0 rest
  none_begins e rest f w = ((λ h. absurd (none_Accepts p w h)), (λ s. absurd (f s.0 s.3)))

  one_begins : (l n rest : ℕ) → n < 63 → (slice_index p.behind n ≡ rest) → ((m : ℕ) → (Has (slice_index p.places m) n) ↔ (m ≡ l)) → Begins (one_label l) (only n) rest
  one_begins l n rest small behind here [] = (
    (λ h. absurd (omega (arith, only_Has n 63 (omega arith) h))),
    (λ s. absurd (left_not_nil s.0 s.1 (s.3).0 (sym s.2))),
  )
  one_begins l n rest small behind here (m ∷ w) = (
    (λ h. let at : h.0 ≡ n = only_Has n h.0 (omega arith) h.1 in
        let label : m ≡ l = (here m).0 (subst (λ (k : ℕ). Has (slice_index p.places m) k) at h.2) in
        let go : Accepts p rest w = subst (λ (k : ℕ). Accepts p k w) behind (subst (λ (k : ℕ). Accepts p (slice_index p.behind k) w) at h.3) in
        (m ∷ [], w, refl, ((λ z. cc), ap (λ (k : ℕ). k ∷ []) label), go)),
    (λ s. let whole : m ∷ w ≡ l ∷ s.1 = s.2 ∙ ap (λ (t : Word). t ++ s.1) (s.3).1 in
        let label : m ≡ l = cc in
        let tail : w ≡ s.1 = cc in
        (n, Has_only n (omega arith), (here m).1 label, subst (λ (k : ℕ). Accepts p k w) (sym behind) (subst (Accepts p rest) (sym tail) s.4))),
  )

  either_begins : (a b : ExprOf) (x y rest : ℕ) → Begins a x rest → Begins b y rest → Begins (either_of a b) (bit_or x y) rest
  either_begins a b x y rest f g w = (
    (λ h. proper_Either (In a) (In b) (Accepts p rest) w (elim (Accepts_either p x y w h) [ inl k ↦ inl ((f w).0 k) | inr k ↦ inr ((g w).0 k) ])),
    (λ s. either_Accepts p x y w (elim (Either_proper (In a) (In b) (Accepts p rest) w s) [ inl k ↦ inl ((f w).1 k) | inr k ↦ inr ((g w).1 k) ])),
  )

  -- two expressions in turn: the second one's words are behind the first
  turn_begins : (a b : ExprOf) (x y behind rest : ℕ) (v : Bool) → v ≡ is_nullable a → Begins a x behind → Begins b y rest → ((w : Word) → (Accepts p behind w) ↔ (Splits (In b) (Accepts p rest) w)) → Begins (in_turn a b) (cond v (bit_or x y) x) rest
  turn_begins a b x y behind rest true t f g h w = (
    (λ k. proper_Turn (In a) (In b) (Accepts p rest) w (elim (Accepts_either p x y w k) [
      | inl i ↦ inl (Splits-map (Proper (In a)) (Accepts p behind) (Proper (In a)) (Splits (In b) (Accepts p rest)) (λ u j. j) (λ u. (h u).0) w ((f w).0 i))
      | inr i ↦ inr (nullable_In a (sym t), (g w).0 i)
    ])),
    (λ s. either_Accepts p x y w (elim (Turn_proper (In a) (In b) (Accepts p rest) w s) [
      | inl i ↦ inl ((f w).1 (Splits-map (Proper (In a)) (Splits (In b) (Accepts p rest)) (Proper (In a)) (Accepts p behind) (λ u j. j) (λ u. (h u).1) w i))
      | inr i ↦ inr ((g w).1 i.1)
    ])),
  )
  turn_begins a b x y behind rest false t f g h w = (
    (λ k. proper_Turn (In a) (In b) (Accepts p rest) w (inl (Splits-map (Proper (In a)) (Accepts p behind) (Proper (In a)) (Splits (In b) (Accepts p rest)) (λ u j. j) (λ u. (h u).0) w ((f w).0 k)))),
    (λ s. elim (Turn_proper (In a) (In b) (Accepts p rest) w s) [
      | inl i ↦ (f w).1 (Splits-map (Proper (In a)) (Splits (In b) (Accepts p rest)) (Proper (In a)) (Accepts p behind) (λ u j. j) (λ u. (h u).1) w i)
      | inr i ↦ absurd (false≢true (t ∙ In_nullable a i.0))
    ]),
  )

  repeated_begins : (a : ExprOf) (x rest : ℕ) → Begins a x (bit_or x rest) → Begins (repeated a) x rest
  repeated_begins a x rest f w = (
    Chain_proper (In a) (Accepts p rest) (Accepts p x)
        (λ u k. Splits-map (Proper (In a)) (Accepts p (bit_or x rest)) (Proper (In a)) (λ v. Accepts p x v ⊎ Accepts p rest v) (λ v j. j) (λ v. Accepts_either p x rest v) u ((f u).0 k))
        (length w) w (omega arith),
    proper_Chain (In a) (Accepts p rest) (Accepts p x)
        (λ u s. (f u).1 (Splits-map (Proper (In a)) (λ v. Accepts p x v ⊎ Accepts p rest v) (Proper (In a)) (Accepts p (bit_or x rest)) (λ v j. j) (λ v. either_Accepts p x rest v) u s))
        w,
  )

  laid_turn : (a b : ExprOf) (n rest : ℕ) (v : Bool) → v ≡ is_live b
      → (IsTrue v → Begins a (first_at a (n + places_of b)) (begin_at b n rest) × Begins b (first_at b n) rest)
      → Begins (in_turn a b) (cond v (cond (is_nullable a) (bit_or (first_at a (n + places_of b)) (first_at b n)) (first_at a (n + places_of b))) 0) rest
  laid_turn a b n rest true t f =
      let both = f refl in
      turn_begins a b (first_at a (n + places_of b)) (first_at b n) (begin_at b n rest) rest (is_nullable a) refl both.0 both.1 (begin_at-Accepts b n rest both.1)
  laid_turn a b n rest false t f = none_begins (in_turn a b) rest (λ w h. false≢true (t ∙ In_live b (h.1).1 (h.1).4))

  -- where the positions of an expression are laid, its words that are not empty begin with the first ones
  pub laid_begins : (e : ExprOf) (n rest : ℕ) → n + places_of e ≤ 63 → IsLaid p.behind p.places e n rest → Begins e (first_at e n) rest
  laid_begins no_word n rest small laid = none_begins no_word rest (λ w h. h.1)
  laid_begins empty_word n rest small laid = none_begins empty_word rest (λ w h. h.0 h.1)
  laid_begins (one_label l) n rest small laid = one_begins l n rest (omega arith) laid.0 laid.1
  laid_begins (in_turn a b) n rest small laid =
      laid_turn a b n rest (is_live b) refl (λ t.
      let fits : n + (places_of b + places_of a) ≤ 63 = rw t at small in
      let both = laid t in (
        laid_begins a (n + places_of b) (begin_at b n rest) (omega arith) both.1,
        laid_begins b n rest (omega arith) both.0,
      ))
  laid_begins (either_of a b) n rest small laid =
      either_begins a b (first_at a n) (first_at b (n + places_of a)) rest (laid_begins a n rest (omega arith) laid.0) (laid_begins b (n + places_of a) rest (omega arith) laid.1)
  laid_begins (repeated a) n rest small laid = repeated_begins a (first_at a n) rest (laid_begins a n (bit_or (first_at a n) rest) small laid)

  -- some word is accepted
  abbrev pub IsAlive : ℕ → Type 0
  IsAlive set = (w : Word) × Accepts p set w

  live_behind : (b : ExprOf) (n rest : ℕ) → Begins b (first_at b n) rest → IsTrue (is_live b) → IsAlive rest → IsAlive (begin_at b n rest)
  live_behind b n rest f t alive =
      let x = live_In b t in
      (x.0 ++ alive.0, (begin_at-Accepts b n rest f (x.0 ++ alive.0)).1 (x.0, alive.0, refl, x.1, alive.1))

  -- then some word is accepted behind each of its positions, if one is behind all of them
  pub laid_live : (e : ExprOf) (n rest : ℕ) → n + places_of e ≤ 63 → IsLaid p.behind p.places e n rest → IsAlive rest → (l k : ℕ) → n ≤ k → k < n + places_of e → Has (slice_index p.places l) k → IsAlive (slice_index p.behind k)
  laid_live no_word n rest small laid alive l k low high h = absurd (omega arith)
  laid_live empty_word n rest small laid alive l k low high h = absurd (omega arith)
  laid_live (one_label m) n rest small laid alive l k low high h =
      let at : k ≡ n = omega arith in
      subst IsAlive (sym (ap (λ (x : ℕ). slice_index p.behind x) at ∙ laid.0)) alive
  laid_live (in_turn a b) n rest small laid alive l k low high h =
      let t = turn_size (is_live b) n (places_of b + places_of a) k low small high in
      let fits : n + (places_of b + places_of a) ≤ 63 = t.1 in
      let below : k < n + (places_of b + places_of a) = t.2 in
      let both = laid t.0 in
      elim (cases_lt k (n + places_of b)) [
        | inl front ↦ laid_live b n rest (omega arith) both.0 alive l k low front h
        | inr back ↦
            laid_live a (n + places_of b) (begin_at b n rest) (omega arith) both.1
            (live_behind b n rest (laid_begins b n rest (omega arith) both.0) t.0 alive) l k back (omega arith) h
      ]
  laid_live (either_of a b) n rest small laid alive l k low high h =
      elim (cases_lt k (n + places_of a)) [
        | inl front ↦ laid_live a n rest (omega arith) laid.0 alive l k low front h
        | inr back ↦ laid_live b (n + places_of a) rest (omega arith) laid.1 alive l k back (omega arith) h
      ]
  laid_live (repeated a) n rest small laid alive l k low high h =
      laid_live a n (bit_or (first_at a n) rest) small laid (alive.0, either_Accepts p (first_at a n) rest alive.0 (inr alive.1)) l k low high h
