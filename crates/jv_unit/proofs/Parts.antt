-- Rules for the things of a list, in parts.
use Rattle.std.proofs.Common.{◌≡◌, List, [], ◌∷◌, ◌++◌, map, ◌↔◌, refl, sym, ap, ◌∙◌, append_assoc}
use Rattle.std.specs.List.{flat_map}
use Rattle.std.proofs.lemmas.Grind.{flat_map-append}
use Rattle.sg_reading.specs.Reading.{Reading, Gives, ask, done, and_then, each}
use Rattle.sg_reading.proofs.Sequences.{and_then-and_then, and_then-done, and_then-gives, gives_in_turn}

pub each_map : {Q A X Y U : Type 0} (f : Y → Reading Q A U) (g : X → Y) (xs : List X) → each f (map g xs) ≡ each (λ x. f (g x)) xs
each_map f g [] = refl
each_map f g (x ∷ xs) = λ i. and_then (f (g x)) (λ v. and_then (each_map f g xs i) (λ vs. done (v ∷ vs)))

module _ {Q A X U : Type 0} (f : X → Reading Q A U) where
  each_parts : (xs ys : List X) → each f (xs ++ ys) ≡ and_then (each f xs) (λ as'. and_then (each f ys) (λ bs. done (as' ++ bs)))
  each_parts [] ys = sym (and_then-done (each f ys))
  each_parts (x ∷ xs) ys =
      let inside : (v : U) → and_then (each f (xs ++ ys)) (λ vs. done (v ∷ vs)) ≡ and_then (and_then (each f xs) (λ vs. done (v ∷ vs))) (λ as'. and_then (each f ys) (λ bs. done (as' ++ bs))) =
      λ v. (λ i. and_then (each_parts xs ys i) (λ vs. done (v ∷ vs)))
      ∙ (and_then-and_then (each f xs) (λ as'. and_then (each f ys) (λ bs. done (as' ++ bs))) (λ vs. done (v ∷ vs))
      ∙ ((λ i. and_then (each f xs) (λ as'. and_then-and_then (each f ys) (λ bs. done (as' ++ bs)) (λ vs. done (v ∷ vs)) i))
      ∙ sym (and_then-and_then (each f xs) (λ vs. done (v ∷ vs)) (λ as'. and_then (each f ys) (λ bs. done (as' ++ bs)))))) in
      (λ i. and_then (f x) (λ v. inside v i)) ∙ sym (and_then-and_then (f x) (λ v. and_then (each f xs) (λ vs. done (v ∷ vs))) (λ as'. and_then (each f ys) (λ bs. done (as' ++ bs))))

-- lists one behind the other, behind a first one
module _ {Q A X D : Type 0} (f : X → Reading Q A (List D)) (first : List D) where
  abbrev all_of : List (List D) → List D
  all_of ds = flat_map (λ d. d) ds

  lists_are : (as' : List (List D)) (b : List D) (cs : List (List D)) → first ++ all_of (as' ++ b ∷ cs) ≡ (first ++ all_of as') ++ (b ++ all_of cs)
  lists_are as' b cs = ap (λ (z : List D). first ++ z) (flat_map-append (λ d. d) as' (b ∷ cs)) ∙ sym (append_assoc first (all_of as') (b ++ all_of cs))

  pub in_parts : (xs ys : List X) (y : X) → and_then (each f (xs ++ y ∷ ys)) (λ vs. done (first ++ all_of vs)) ≡ and_then (each f xs) (λ as'. and_then (f y) (λ b. and_then (each f ys) (λ cs. done ((first ++ all_of as') ++ (b ++ all_of cs)))))
  in_parts xs ys y =
      let last : List (List D) → Reading Q A (List D) = λ vs. done (first ++ all_of vs) in
      let behind : (as' : List (List D)) → and_then (and_then (each f (y ∷ ys)) (λ bs. done (as' ++ bs))) last ≡ and_then (f y) (λ b. and_then (each f ys) (λ cs. done ((first ++ all_of as') ++ (b ++ all_of cs)))) =
      λ as'. and_then-and_then (each f (y ∷ ys)) (λ bs. done (as' ++ bs)) last
      ∙ (and_then-and_then (f y) (λ b. and_then (each f ys) (λ cs. done (b ∷ cs))) (λ bs. last (as' ++ bs))
      ∙ ((λ i. and_then (f y) (λ b. and_then-and_then (each f ys) (λ cs. done (b ∷ cs)) (λ bs. last (as' ++ bs)) i))
      ∙ (λ i. and_then (f y) (λ b. and_then (each f ys) (λ cs. done (lists_are as' b cs i)))))) in
      (λ i. and_then (each_parts f xs (y ∷ ys) i) last) ∙ (and_then-and_then (each f xs) (λ as'. and_then (each f (y ∷ ys)) (λ bs. done (as' ++ bs))) last ∙ (λ i. and_then (each f xs) (λ as'. behind as' i)))

-- a query may be asked before another rule
module _ {Q A U W : Type 0} (R : Q → A → Type 0) (q : Q) (r : Reading Q A U) (f : A → U → Reading Q A W) (w : W) where
  pub asked_before : ((qs : List Q) × Gives R (ask q (λ a. and_then r (λ v. f a v))) w qs) ↔ ((qs : List Q) × Gives R (and_then r (λ v. ask q (λ a. f a v))) w qs)
  asked_before = (
    (λ k.
        let x = (gives_in_turn R r (λ v. f k.1.0 v) w k.1.2).0 k.1.4 in
        (x.1 ++ q ∷ x.2, and_then-gives R r (λ v. ask q (λ a. f a v)) x.0 w x.1 (q ∷ x.2) x.3 (k.1.0, k.1.1, x.2, refl, x.4))),
    (λ k.
        let x = (gives_in_turn R r (λ v. ask q (λ a. f a v)) w k.0).0 k.1 in
        (q ∷ (x.1 ++ x.4.2), (x.4.0, x.4.1, x.1 ++ x.4.2, refl, and_then-gives R r (λ v. f x.4.0 v) x.0 w x.1 x.4.2 x.3 x.4.4))),
  )
