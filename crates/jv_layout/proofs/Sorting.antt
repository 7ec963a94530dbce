-- What is put in rising order one by one, and that it is the same for a list and for a stable sort of it.
use Rattle.std.proofs.Common.{◌≡◌, Bool, true, false, not, ◌&&◌, cond, List, [], ◌∷◌, ◌++◌, inl, inr, map, fold, Option, Some, None, refl, sym, ap, ◌∙◌, subst}
use Rattle.std.proofs.lemmas.Bool.{cases_Bool}
use Rattle.std.proofs.lemmas.List.Elements.{filter_agree}
use Rattle.std.proofs.lemmas.List.Folds.{find-append}
use Rattle.std.specs.Cmp.{IsTotalOrder, on_total}
use Rattle.std.specs.List.{AllByRecursion, Contains, filter, find, slice_get}
use Rattle.std.specs.List.Sorted.{IsStableBy, ties}
use Rattle.std.specs.Option.{option_or}
use Rattle.std.specs.Ordering.{is_eq, is_lt, on, ordering_reverse, match_ordering}
use Rattle.std.specs.declared.cmp.Ordering.{Ordering}
use Rattle.std.specs.declared.cmp.Ordering.TheVariants.{Less, Equal, Greater}
use Rattle.sg_base.specs.List.{IsRising}
use Rattle.sg_base.proofs.Finite.{nothing_in, Contains-head, Contains-cons, Contains-tail, each_at, each_map}
use Rattle.sg_base.proofs.Rising.{rising_one}
use Rattle.sg_state.specs.Held.{put}
use Rattle.jv_layout.specs.Steps.{FindsSame}
use Rattle.jv_layout.proofs.Putting.{Rising-put}

-- ---- the first thing that passes a test

module _ {X : Type 0} where
  or_none : (o : Option X) → option_or o None ≡ o
  or_none None = refl
  or_none (Some x) = refl

  or_more : (f : Option X) (b : Bool) (x : X) (g : Option X) → option_or (option_or f (cond b (Some x) None)) g ≡ option_or f (cond b (Some x) g)
  or_more (Some y) b x g = refl
  or_more None true x g = refl
  or_more None false x g = refl

  or_first : (b : Bool) (y : X) (f g : Option X) → cond b (Some y) (option_or f g) ≡ option_or (cond b (Some y) f) g
  or_first true y f g = refl
  or_first false y f g = refl

  find_Contains : (p : X → Bool) (xs : List X) (z : X) → find p xs ≡ Some z → Contains xs z
  find_Contains p [] z e = absurd (cc)
  find_Contains p (y ∷ ys) z e =
      elim (cases_Bool (p y)) [
        | inl a ↦
            let is : Some y ≡ Some z = sym (ap (λ (b : Bool). cond b (Some y) (find p ys)) a) ∙ e in
            let same : y ≡ z = cc (is) in
            subst (λ (t : X). Contains (y ∷ ys) t) same (Contains-head y ys)
        | inr a ↦ Contains-tail y z ys (find_Contains p ys z (sym (ap (λ (b : Bool). cond b (Some y) (find p ys)) a) ∙ e))
      ]

  -- a thing that stands in a list is not needed behind it
  or_itself : (p : X → Bool) (xs : List X) (x : X) → Contains xs x → option_or (find p xs) (find p (x ∷ [])) ≡ find p xs
  or_itself p [] x c = absurd (nothing_in x c)
  or_itself p (y ∷ ys) x c =
      sym (or_first (p y) y (find p ys) (find p (x ∷ []))) ∙ elim (Contains-cons y x ys c) [
        | inl e ↦ subst (λ (t : X). cond (p t) (Some t) (option_or (find p ys) (find p (x ∷ []))) ≡ cond (p t) (Some t) (find p ys)) e (last (p x) x (find p ys))
        | inr k ↦ ap (λ (f : Option X). cond (p y) (Some y) f) (or_itself p ys x k)
      ]
    where
      last : (b : Bool) (z : X) (f : Option X) → cond b (Some z) (option_or f (cond b (Some z) None)) ≡ cond b (Some z) f
      last true z f = refl
      last false z f = or_none f

  pub finds_again : (xs : List X) (x : X) → Contains xs x → FindsSame xs (xs ++ x ∷ [])
  finds_again xs x c = record { each = λ p. sym (find-append p xs (x ∷ []) ∙ or_itself p xs x c) }

  pub finds_equal : (xs ys : List X) → xs ≡ ys → FindsSame xs ys
  finds_equal xs ys e = record { each = λ p. ap (find p) e }

  pub finds_more : (new cur more done all : List X) → FindsSame new (cur ++ more) → FindsSame cur done → all ≡ done ++ more → FindsSame new all
  finds_more new cur more done all h g e = record {
    each = λ p. h.each p ∙ (find-append p cur more ∙ (ap (λ (f : Option X). option_or f (find p more)) (g.each p) ∙ (sym (find-append p done more) ∙ ap (find p) (sym e))));
  }

  filter_case : (b : Bool) (y : X) (f : Option X) (fs : List X) → f ≡ slice_get fs 0 → cond b (Some y) f ≡ slice_get (cond b (y ∷ fs) fs) 0
  filter_case true y f fs e = refl
  filter_case false y f fs e = e

  find_filter : (p : X → Bool) (xs : List X) → find p xs ≡ slice_get (filter p xs) 0
  find_filter p [] = refl
  find_filter p (y ∷ ys) = filter_case (p y) y (find p ys) (filter p ys) (find_filter p ys)

-- ---- what is put one by one

tied : (o : Ordering) → (not (is_lt o) && not (is_lt (ordering_reverse o))) ≡ is_eq o
tied Less = refl
tied Equal = refl
tied Greater = refl

is_equal : (o : Ordering) → is_eq o ≡ true → o ≡ Equal
is_equal Less e = absurd (cc)
is_equal Equal e = refl
is_equal Greater e = absurd (cc)

itself : (o : Ordering) → o ≡ ordering_reverse o → o ≡ Equal
itself Less e = absurd (cc)
itself Equal e = refl
itself Greater e = absurd (cc)

module _ {X : Type 0} (R : X → X → Ordering) (t : IsTotalOrder R) where
  abbrev alike : X → X → Bool
  alike z y = is_eq (R z y)

  none_above : (ys : List X) (z : X) → AllByRecursion (λ w. R z w ≡ Less) ys → find (alike z) ys ≡ None
  none_above [] z a = refl
  none_above (y ∷ ys) z a = ap (λ (o : Ordering). cond (is_eq o) (Some y) (find (alike z) ys)) a.0 ∙ none_above ys z a.1

  find_case : (ys : List X) (y x z : X) (o : Ordering) → R x y ≡ o → IsRising R (y ∷ ys) → find (alike z) (put R ys x) ≡ option_or (find (alike z) ys) (find (alike z) (x ∷ []))
      → find (alike z) (match_ordering o (x ∷ y ∷ ys) (y ∷ ys) (y ∷ put R ys x)) ≡ option_or (find (alike z) (y ∷ ys)) (find (alike z) (x ∷ []))
  find_case ys y x z Less e r ih =
      let F = find (alike z) (y ∷ ys) in
      elim (cases_Bool (alike z x)) [
        | inl a ↦
            let first : R z y ≡ Less = t.congr z x y (is_equal (R z x) a) ∙ e in
            let none : F ≡ None = none_above (y ∷ ys) z (first, each_map (λ w. R y w ≡ Less) (λ w. R z w ≡ Less) (λ w l. t.trans z y w first l) ys r.0) in
            ap (λ (b : Bool). cond b (Some x) F) a ∙ sym (ap (λ (b : Bool). option_or F (cond b (Some x) None)) a ∙ ap (λ (f : Option X). option_or f (Some x)) none)
        | inr a ↦ ap (λ (b : Bool). cond b (Some x) F) a ∙ sym (ap (λ (b : Bool). option_or F (cond b (Some x) None)) a ∙ or_none F)
      ]
  find_case ys y x z Equal e r ih =
      let F = find (alike z) (y ∷ ys) in
      elim (cases_Bool (alike z x)) [
        | inl a ↦
            let first : R z y ≡ Equal = t.congr z x y (is_equal (R z x) a) ∙ e in
            let is : F ≡ Some y = ap (λ (o : Ordering). cond (is_eq o) (Some y) (find (alike z) ys)) first in
            is ∙ sym (ap (λ (f : Option X). option_or f (find (alike z) (x ∷ []))) is)
        | inr a ↦ sym (ap (λ (b : Bool). option_or F (cond b (Some x) None)) a ∙ or_none F)
      ]
  find_case ys y x z Greater e r ih = ap (λ (f : Option X). cond (alike z y) (Some y) f) ih ∙ or_first (alike z y) y (find (alike z) ys) (find (alike z) (x ∷ []))

  put_find : (xs : List X) (x z : X) → IsRising R xs → find (alike z) (put R xs x) ≡ option_or (find (alike z) xs) (find (alike z) (x ∷ []))
  put_find [] x z r = refl
  put_find (y ∷ ys) x z r = find_case ys y x z (R x y) refl r (put_find ys x z r.1)

  fold_find : (acc xs : List X) (z : X) → IsRising R acc → find (alike z) (fold (put R) acc xs) ≡ option_or (find (alike z) acc) (find (alike z) xs)
  fold_find acc [] z r = sym (or_none (find (alike z) acc))
  fold_find acc (x ∷ xs) z r =
      fold_find (put R acc x) xs z (Rising-put R t acc x r)
      ∙ (ap (λ (f : Option X). option_or f (find (alike z) xs)) (put_find acc x z r) ∙ or_more (find (alike z) acc) (alike z x) x (find (alike z) xs))

  pub Rising-puts : (acc xs : List X) → IsRising R acc → IsRising R (fold (put R) acc xs)
  Rising-puts acc [] r = r
  Rising-puts acc (x ∷ xs) r = Rising-puts (put R acc x) xs (Rising-put R t acc x r)

  found : (xs : List X) (z : X) → IsRising R xs → Contains xs z → find (alike z) xs ≡ Some z
  found [] z r c = absurd (nothing_in z c)
  found (y ∷ ys) z r c =
      elim (Contains-cons y z ys c) [
        | inl e ↦
            let one : R z y ≡ Equal = subst (λ (w : X). R z w ≡ Equal) e (itself (R z z) (t.antisymm z z)) in
            ap (λ (o : Ordering). cond (is_eq o) (Some y) (find (alike z) ys)) one ∙ ap Some (sym e)
        | inr k ↦
            let over : R z y ≡ Greater = t.antisymm z y ∙ ap ordering_reverse (each_at (λ w. R y w ≡ Less) ys r.0 z k) in
            ap (λ (o : Ordering). cond (is_eq o) (Some y) (find (alike z) ys)) over ∙ found ys z r.1 k
      ]

  -- two lists in which the same first thing is found make one rising list
  pub puts_same : (xs ys : List X) → ((z : X) → find (alike z) xs ≡ find (alike z) ys) → fold (put R) [] xs ≡ fold (put R) [] ys
  puts_same xs ys h =
      let P = fold (put R) [] xs in
      let Q = fold (put R) [] ys in
      let up : IsRising R P = Rising-puts [] xs tt in
      let high : IsRising R Q = Rising-puts [] ys tt in
      let same : (z : X) → find (alike z) P ≡ find (alike z) Q = λ z. fold_find [] xs z tt ∙ (h z ∙ sym (fold_find [] ys z tt)) in
      rising_one R t P Q up high (λ z. ((λ c. find_Contains (alike z) Q z (sym (same z) ∙ found P z up c)), (λ c. find_Contains (alike z) P z (same z ∙ found Q z high c))))

  pub puts_found : (xs ys : List X) → FindsSame xs ys → fold (put R) [] xs ≡ fold (put R) [] ys
  puts_found xs ys h = puts_same xs ys (λ z. h.each (alike z))

  ties_alike : (x y : X) → ties (λ a b. is_lt (R a b)) x y ≡ alike x y
  ties_alike x y = ap (λ (o : Ordering). not (is_lt (R x y)) && not (is_lt o)) (t.antisymm y x) ∙ tied (R x y)

  alike_first : (xs : List X) (z : X) → find (alike z) xs ≡ slice_get (filter (ties (λ a b. is_lt (R a b)) z) xs) 0
  alike_first xs z =
      find_filter (alike z) xs ∙ ap (λ (l : List X). slice_get l 0) (sym (filter_agree (ties (λ a b. is_lt (R a b)) z) (alike z) (λ y. ties_alike z y) xs))

  -- a stable sort keeps what is made of a list
  pub puts_stable : (xs ys : List X) → IsStableBy (λ a b. is_lt (R a b)) xs ys → fold (put R) [] ys ≡ fold (put R) [] xs
  puts_stable xs ys s = puts_same ys xs (λ z. alike_first ys z ∙ (ap (λ (l : List X). slice_get l 0) (s z) ∙ sym (alike_first xs z)))

-- ---- by what is seen of things

module _ {X Y : Type 0} (f : X → Y) (R : Y → Y → Ordering) where
  map_case : (o : Ordering) (x y : X) (ys new : List X) (made : List Y) → map f new ≡ made → map f (match_ordering o (x ∷ y ∷ ys) (y ∷ ys) (y ∷ new)) ≡ match_ordering o (f x ∷ f y ∷ map f ys) (f y ∷ map f ys) (f y ∷ made)
  map_case Less x y ys new made e = refl
  map_case Equal x y ys new made e = refl
  map_case Greater x y ys new made e = ap (λ (l : List Y). f y ∷ l) e

  map_put : (xs : List X) (x : X) → map f (put (on f R) xs x) ≡ put R (map f xs) (f x)
  map_put [] x = refl
  map_put (y ∷ ys) x = map_case (R (f x) (f y)) x y ys (put (on f R) ys x) (put R (map f ys) (f x)) (map_put ys x)

  pub map_puts : (acc xs : List X) → map f (fold (put (on f R)) acc xs) ≡ fold (put R) (map f acc) (map f xs)
  map_puts acc [] = refl
  map_puts acc (x ∷ xs) = map_puts (put (on f R) acc x) xs ∙ ap (λ (l : List Y). fold (put R) l (map f xs)) (map_put acc x)

  pub puts_sorted : IsTotalOrder R → (xs ys : List X) → IsStableBy (λ a b. is_lt (on f R a b)) xs ys → fold (put R) [] (map f ys) ≡ fold (put R) [] (map f xs)
  puts_sorted t xs ys s = sym (map_puts [] ys) ∙ (ap (map f) (puts_stable (on f R) (on_total f t) xs ys s) ∙ map_puts [] xs)
