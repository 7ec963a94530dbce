-- One more push in a loop.
use Rattle.std.proofs.Common.{◌≡◌, ℕ, ◌+◌, ◌<◌, Bool, true, false, cond, List, [], ◌∷◌, ◌++◌, length, map, take, get_or, sym, ap, ◌∙◌, append_assoc, append-nil, arith}
use Rattle.std.specs.List.{filter, flat_map}
use Rattle.std.proofs.lemmas.List.{map-append, map_more}
use Rattle.std.proofs.lemmas.List.Elements.{filter_more}
use Rattle.std.proofs.lemmas.List.Concat.{flat_map-append}
use Rattle.sg_state.proofs.Soundness.{map_itself}
use Rattle.std.proofs.lemmas.List.FromFn.{map-range_with_len_more}
use Rattle.jv_layout.specs.Skeleton.{below}

module _ {X Y : Type 0} (v : X → Y) (g : ℕ → Y) where
  -- behind what was there
  pub pushed : (old new : List X) (start : List Y) (n : ℕ) (x : X) → new ≡ old ++ x ∷ [] → v x ≡ g n → map v old ≡ start ++ map g (below n) → map v new ≡ start ++ map g (below (n + 1))
  pushed old new start n x e f h =
      ap (map v) e ∙ (map-append v old (x ∷ []) ∙ (ap (λ (z : List Y). z ++ v x ∷ []) h ∙ (append_assoc start (map g (below n)) (v x ∷ [])
      ∙ (ap (λ (y : Y). start ++ (map g (below n) ++ y ∷ [])) f ∙ ap (λ (z : List Y). start ++ z) (sym (map-range_with_len_more g 0 n n (omega arith)))))))

  -- where nothing was there
  pub pushed_first : (old new : List X) (n : ℕ) (x : X) → new ≡ old ++ x ∷ [] → v x ≡ g n → map v old ≡ map g (below n) → map v new ≡ map g (below (n + 1))
  pushed_first old new n x e f h = pushed old new [] n x e f h

module _ {Y : Type 0} (g : ℕ → Y) where
  -- of the things themselves
  pub pushed_plain : (old new start : List Y) (n : ℕ) (x : Y) → new ≡ old ++ x ∷ [] → x ≡ g n → old ≡ start ++ map g (below n) → new ≡ start ++ map g (below (n + 1))
  pushed_plain old new start n x e f h =
      e ∙ (ap (λ (z : List Y). z ++ x ∷ []) h ∙ (append_assoc start (map g (below n)) (x ∷ [])
      ∙ (ap (λ (y : Y). start ++ (map g (below n) ++ y ∷ [])) f ∙ ap (λ (z : List Y). start ++ z) (sym (map-range_with_len_more g 0 n n (omega arith))))))

-- what a piece adds in front of what is left
pub moves : {X : Type 0} (old new piece left all whole : List X) → new ≡ old ++ piece → all ≡ piece ++ left → old ++ all ≡ whole → new ++ left ≡ whole
moves {X} old new piece left all whole e a h =
    ap (λ (z : List X). z ++ left) e ∙ (append_assoc old piece left ∙ (ap (λ (z : List X). old ++ z) (sym a) ∙ h))

-- one number more
pub below_more : (n : ℕ) → below (n + 1) ≡ below n ++ n ∷ []
below_more n = sym (map_itself (below (n + 1))) ∙ (map-range_with_len_more (λ k. k) 0 n n (omega arith) ∙ ap (λ (z : List ℕ). z ++ n ∷ []) (map_itself (below n)))

-- two pushes in each round
module _ {X Y : Type 0} (v : X → Y) (g : ℕ → List Y) where
  flat_more : (g : ℕ → List Y) (n : ℕ) → flat_map g (below (n + 1)) ≡ flat_map g (below n) ++ g n
  flat_more g n = ap (flat_map g) (below_more n) ∙ (flat_map-append g (below n) (n ∷ []) ∙ ap (λ (z : List Y). flat_map g (below n) ++ z) (append-nil (g n)))

  pub pushed_two : (old one new : List X) (n : ℕ) (x y : X) → one ≡ old ++ x ∷ [] → new ≡ one ++ y ∷ [] → v x ∷ v y ∷ [] ≡ g n → map v old ≡ flat_map g (below n) → map v new ≡ flat_map g (below (n + 1))
  pushed_two old one new n x y e f a h =
      ap (map v) (f ∙ ap (λ (z : List X). z ++ y ∷ []) e) ∙ (map-append v (old ++ x ∷ []) (y ∷ []) ∙ (ap (λ (z : List Y). z ++ v y ∷ []) (map-append v old (x ∷ []))
      ∙ (append_assoc (map v old) (v x ∷ []) (v y ∷ []) ∙ (ap (λ (z : List Y). z ++ v x ∷ v y ∷ []) h ∙ (ap (λ (z : List Y). flat_map g (below n) ++ z) a ∙ sym (flat_more g n))))))

-- behind what was there, along a list
module _ {X Y Z : Type 0} (v : X → Y) (g : Z → Y) where
  pub pushed_along : (old new : List X) (start : List Y) (zs : List Z) (i : ℕ) (d : Z) (x : X) → i < length zs → new ≡ old ++ x ∷ [] → v x ≡ g (get_or zs i d) → map v old ≡ start ++ map g (take i zs) → map v new ≡ start ++ map g (take (i + 1) zs)
  pushed_along old new start zs i d x l e f h =
      ap (map v) e ∙ (map-append v old (x ∷ []) ∙ (ap (λ (y : List Y). y ++ v x ∷ []) h ∙ (append_assoc start (map g (take i zs)) (v x ∷ [])
      ∙ (ap (λ (y : Y). start ++ (map g (take i zs) ++ y ∷ [])) f ∙ ap (λ (y : List Y). start ++ y) (sym (map_more g zs i d l))))))

-- the same where a test decides
module _ {X Y Z : Type 0} (v : X → Y) (g : Z → Y) (p : Z → Bool) where
  if_more : (zs : List Z) (i : ℕ) (d : Z) → i < length zs → map g (filter p (take (i + 1) zs)) ≡ map g (filter p (take i zs)) ++ map g (cond (p (get_or zs i d)) (get_or zs i d ∷ []) [])
  if_more zs i d l = ap (map g) (filter_more p zs i d l) ∙ map-append g (filter p (take i zs)) (cond (p (get_or zs i d)) (get_or zs i d ∷ []) [])

  pub pushed_if : (old new : List X) (start : List Y) (zs : List Z) (i : ℕ) (d : Z) (x : X) → i < length zs → p (get_or zs i d) ≡ true → new ≡ old ++ x ∷ [] → v x ≡ g (get_or zs i d) → map v old ≡ start ++ map g (filter p (take i zs)) → map v new ≡ start ++ map g (filter p (take (i + 1) zs))
  pushed_if old new start zs i d x l t e f h =
      ap (map v) e ∙ (map-append v old (x ∷ []) ∙ (ap (λ (y : List Y). y ++ v x ∷ []) h ∙ (append_assoc start (map g (filter p (take i zs))) (v x ∷ [])
      ∙ (ap (λ (y : Y). start ++ (map g (filter p (take i zs)) ++ y ∷ [])) f ∙ ap (λ (y : List Y). start ++ y)
      (ap (λ (b : Bool). map g (filter p (take i zs)) ++ map g (cond b (get_or zs i d ∷ []) [])) (sym t) ∙ sym (if_more zs i d l))))))

  pub left_out : (old : List X) (start : List Y) (zs : List Z) (i : ℕ) (d : Z) → i < length zs → p (get_or zs i d) ≡ false → map v old ≡ start ++ map g (filter p (take i zs)) → map v old ≡ start ++ map g (filter p (take (i + 1) zs))
  left_out old start zs i d l t h =
      h ∙ ap (λ (y : List Y). start ++ y) (sym (append-nil (map g (filter p (take i zs))))
      ∙ (ap (λ (b : Bool). map g (filter p (take i zs)) ++ map g (cond b (get_or zs i d ∷ []) [])) (sym t) ∙ sym (if_more zs i d l)))
