-- Positions of one expression after those of another.
use Rattle.std.proofs.Common.{◌≡◌, ◌≢◌, ℕ, ◌+◌, ◌<◌, ◌≤◌, List, [], ◌∷◌, ◌++◌, ◌⊎◌, true, false, inl, inr, refl, sym, ◌∙◌, subst, bit_or, length, slice_index, set, length-append, get_or-set_other, arith}
use Rattle.std.proofs.lemmas.Bool.{cases_eq, false≢true}
use Rattle.std.proofs.lemmas.List.{get_or-set_same, length-set, get_or_append_left, get_or_push}
use Rattle.sg_base.specs.Label.{Has}
use Rattle.sg_base.proofs.Bits.{Has_either, either_Has}
use Rattle.sg_expr.specs.Laying.{only, first_at, begin_at, is_live, places_of, IsLaid, AreWithin, AreKept, Lays}
use Rattle.sg_expr.specs.Tree.{ExprOf, no_word, empty_word, one_label, in_turn, either_of, repeated}
use Rattle.sg_expr.proofs.Accepting.{only_Has, Has_only}

module _ (b m b' m' : List ℕ) where
  laid_kept : (e : ExprOf) (n rest below : ℕ) → n + places_of e ≤ below → AreKept below b m b' m' → IsLaid b m e n rest → IsLaid b' m' e n rest
  laid_kept no_word n rest below f k h = tt
  laid_kept empty_word n rest below f k h = tt
  laid_kept (one_label l) n rest below f k h =
      let same = k n (omega arith) in
      (same.0 ∙ h.0, (λ x. ((λ i. (h.1 x).0 ((same.1 x).0 i)), (λ i. (same.1 x).1 ((h.1 x).1 i)))))
  laid_kept (in_turn x y) n rest below f k h = λ t.
      let fits : n + (places_of y + places_of x) ≤ below = rw t at f in
      let both = h t in (
        laid_kept y n rest below (omega arith) k both.0,
        laid_kept x (n + places_of y) (begin_at y n rest) below (omega arith) k both.1,
      )
  laid_kept (either_of x y) n rest below f k h =
      (laid_kept x n rest below (omega arith) k h.0, laid_kept y (n + places_of x) rest below (omega arith) k h.1)
  laid_kept (repeated x) n rest below f k h = laid_kept x n (bit_or (first_at x n) rest) below f k h

kept_on : (b m b' m' b'' m'' : List ℕ) → length b ≤ length b' → AreKept (length b) b m b' m' → AreKept (length b') b' m' b'' m'' → AreKept (length b) b m b'' m''
kept_on b m b' m' b'' m'' l k k' n h =
    let one = k n h in
    let two = k' n (omega arith) in
    (two.0 ∙ one.0, (λ x. ((λ i. (one.1 x).0 ((two.1 x).0 i)), (λ i. (two.1 x).1 ((one.1 x).1 i)))))

kept_same : (b m : List ℕ) → AreKept (length b) b m b m
kept_same b m n h = (refl, (λ l. ((λ i. i), (λ i. i))))

pub lays_no_word : (b m : List ℕ) (rest : ℕ) → AreWithin b m → Lays no_word rest b m b m
lays_no_word b m rest w = record { size = omega arith; labels = refl; within = w; kept = kept_same b m; laid = tt }

pub lays_empty_word : (b m : List ℕ) (rest : ℕ) → AreWithin b m → Lays empty_word rest b m b m
lays_empty_word b m rest w = record { size = omega arith; labels = refl; within = w; kept = kept_same b m; laid = tt }

pub lays_dead_turn : (x y : ExprOf) (b m : List ℕ) (rest : ℕ) → is_live y ≡ false → AreWithin b m → Lays (in_turn x y) rest b m b m
lays_dead_turn x y b m rest d w =
    record {
      size = rw d (omega arith);
      labels = refl;
      within = w;
      kept = kept_same b m;
      laid = λ t. absurd (false≢true (sym d ∙ t));
    }

pub lays_turn : (x y : ExprOf) (b m b' m' b'' m'' : List ℕ) (rest : ℕ) → is_live y ≡ true → Lays y rest b m b' m' → Lays x (begin_at y (length b) rest) b' m' b'' m'' → Lays (in_turn x y) rest b m b'' m''
lays_turn x y b m b' m' b'' m'' rest t f g =
    let fits : length b ≤ length b' = omega (arith, f.size) in
    let sum : length b'' ≡ length b + (places_of y + places_of x) = omega (arith, f.size, g.size) in
    record {
      size = rw t sum;
      labels = g.labels ∙ f.labels;
      within = g.within;
      kept = kept_on b m b' m' b'' m'' fits f.kept g.kept;
      laid = λ _. (
        laid_kept b' m' b'' m'' y (length b) rest (length b') (omega (arith, f.size)) g.kept f.laid,
        subst (λ (k : ℕ). IsLaid b'' m'' x k (begin_at y (length b) rest)) f.size g.laid,
      );
    }

pub lays_either : (x y : ExprOf) (b m b' m' b'' m'' : List ℕ) (rest : ℕ) → Lays x rest b m b' m' → Lays y rest b' m' b'' m'' → Lays (either_of x y) rest b m b'' m''
lays_either x y b m b' m' b'' m'' rest f g =
    let fits : length b ≤ length b' = omega (arith, f.size) in
    record {
      size = omega (arith, f.size, g.size);
      labels = g.labels ∙ f.labels;
      within = g.within;
      kept = kept_on b m b' m' b'' m'' fits f.kept g.kept;
      laid = (
        laid_kept b' m' b'' m'' x (length b) rest (length b') (omega (arith, f.size)) g.kept f.laid,
        subst (λ (k : ℕ). IsLaid b'' m'' y k rest) f.size g.laid,
      );
    }

pub lays_repeated : (x : ExprOf) (b m b' m' : List ℕ) (rest : ℕ) → Lays x (bit_or (first_at x (length b)) rest) b m b' m' → Lays (repeated x) rest b m b' m'
lays_repeated x b m b' m' rest f = record { size = f.size; labels = f.labels; within = f.within; kept = f.kept; laid = f.laid }

module _ (l : ℕ) (b m : List ℕ) (rest : ℕ) where
  abbrev more : List ℕ
  more = set m l (bit_or (slice_index m l) (only (length b)))

  there : l < length m → slice_index more l ≡ bit_or (slice_index m l) (only (length b))
  there h = get_or-set_same m l (bit_or (slice_index m l) (only (length b))) 0 h

  elsewhere : (x : ℕ) → x ≢ l → slice_index more x ≡ slice_index m x
  elsewhere x n = get_or-set_other m l x (bit_or (slice_index m l) (only (length b))) 0 n

  Has_more : (x n : ℕ) → l < length m → length b < 64 → Has (slice_index more x) n → Has (slice_index m x) n ⊎ ((x ≡ l) × (n ≡ length b))
  Has_more x n f s h =
      elim (cases_eq x l) [
        | inr apart ↦ inl (rw (elsewhere x apart) at h)
        | inl e ↦
            let here : Has (slice_index more l) n = subst (λ (y : ℕ). Has (slice_index more y) n) e h in
            let split : Has (bit_or (slice_index m l) (only (length b))) n = subst (λ (y : ℕ). Has y n) (there f) here in
            elim (Has_either (slice_index m l) (only (length b)) n split) [
              | inl old ↦ inl (subst (λ (y : ℕ). Has (slice_index m y) n) (sym e) old)
              | inr new ↦ inr (e, only_Has (length b) n s new)
            ]
      ]

  more_Has : (x n : ℕ) → l < length m → Has (slice_index m x) n → Has (slice_index more x) n
  more_Has x n f h =
      elim (cases_eq x l) [
        | inr apart ↦ subst (λ (y : ℕ). Has y n) (sym (elsewhere x apart)) h
        | inl e ↦
            let old : Has (slice_index m l) n = subst (λ (y : ℕ). Has (slice_index m y) n) e h in
            let here : Has (slice_index more l) n = subst (λ (y : ℕ). Has y n) (sym (there f)) (either_Has (slice_index m l) (only (length b)) n (inl old)) in
            subst (λ (y : ℕ). Has (slice_index more y) n) (sym e) here
      ]

  new_Has : l < length m → length b < 64 → Has (slice_index more l) (length b)
  new_Has f s = subst (λ (y : ℕ). Has y (length b)) (sym (there f)) (either_Has (slice_index m l) (only (length b)) (length b) (inr (Has_only (length b) s)))

  lays_one : length b < 63 → l < length m → AreWithin b m → Lays (one_label l) rest b m (b ++ rest ∷ []) more
  lays_one s f w =
      let size : length (b ++ rest ∷ []) ≡ length b + 1 = length-append b (rest ∷ []) in
      record {
        size = size;
        labels = length-set m l (bit_or (slice_index m l) (only (length b)));
        within = λ x n h. elim (Has_more x n f (omega arith) h) [ inl old ↦ omega (arith, w x n old, size) | inr new ↦ omega (arith, new.1, size) ];
        kept = λ n h. (
          get_or_append_left b (rest ∷ []) 0 n h,
          (λ x. (
            (λ i. elim (Has_more x n f (omega arith) i) [ inl old ↦ old | inr new ↦ absurd (omega (arith, new.1)) ]),
            (λ i. more_Has x n f i),
          )),
        );
        laid = (
          get_or_push b rest 0 (length b) refl,
          (λ x. (
            (λ i. elim (Has_more x (length b) f (omega arith) i) [ inl old ↦ absurd (omega (arith, w x (length b) old)) | inr new ↦ new.0 ]),
            (λ e. subst (λ (y : ℕ). Has (slice_index more y) (length b)) (sym e) (new_Has f (omega arith))),
          )),
        );
      }

  pub lays_one_at : (n : ℕ) → n ≡ length b → length b < 63 → l < length m → AreWithin b m → Lays (one_label l) rest b m (b ++ rest ∷ []) (set m l (bit_or (slice_index m l) (only n)))
  lays_one_at n e s f w = subst (λ (k : ℕ). Lays (one_label l) rest b m (b ++ rest ∷ []) (set m l (bit_or (slice_index m l) (only k)))) (sym e) (lays_one s f w)
