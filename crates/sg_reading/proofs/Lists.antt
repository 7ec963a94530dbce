-- Rules for the things of a list, one after another, as a loop over the list reads them.
use Rattle.std.proofs.Common.{◌≡◌, ℕ, ◌+◌, ◌<◌, ◌≤◌, List, [], ◌∷◌, ◌++◌, Option, Some, None, Result, Ok, Err, drop, get_or, length, refl, sym, ◌∙◌, subst, append_assoc}
use Rattle.std.proofs.lemmas.List.{append-nil, at_drop_more, at_drop_all}
use Rattle.sg_reading.specs.declared.stop.Stop.{Stop}
use Rattle.sg_reading.specs.Reading.{Reading, done, and_then, or_else, first_found, each}
use Rattle.sg_reading.specs.Stop.{Reads}
use Rattle.sg_reading.proofs.Sequences.{and_then-done, and_then-and_then}
use Rattle.sg_reading.proofs.Steps.{then_ok, then_err, done_reads}

module _ {Q A X T : Type 0} (reply : Q → Option A) (f : X → Reading Q A (Option T)) (xs : List X) (i : ℕ) where
  module _ (x : X) (below : i < length xs) where
    here : (y : Result (Option T) (Stop Q)) → Reads reply (and_then (f (get_or xs i x)) (λ found. or_else found (first_found f (drop (i + 1) xs)))) y → Reads reply (first_found f (drop i xs)) y
    here y h = subst (λ (r : Reading Q A (Option T)). Reads reply r y) (sym (at_drop_more (λ (ys : List X). first_found f ys) xs i x below)) h

    pub first_found_more : (y : Result (Option T) (Stop Q)) → Reads {U = Option T} reply (f (get_or xs i x)) (Ok None) → Reads reply (first_found f (drop (i + 1) xs)) y → Reads reply (first_found f (drop i xs)) y
    first_found_more y g h = here y (then_ok reply (f (get_or xs i x)) (λ found. or_else found (first_found f (drop (i + 1) xs))) None y g h)

    pub first_found_here : (v : T) → Reads reply (f (get_or xs i x)) (Ok (Some v)) → Reads reply (first_found f (drop i xs)) (Ok (Some v))
    first_found_here v g =
        here (Ok (Some v)) (then_ok reply (f (get_or xs i x)) (λ found. or_else found (first_found f (drop (i + 1) xs))) (Some v) (Ok (Some v)) g (done_reads reply (Some v) (Some v) refl))

    pub first_found_err : (e : Stop Q) → Reads {U = Option T} reply (f (get_or xs i x)) (Err e) → Reads {U = Option T} reply (first_found f (drop i xs)) (Err e)
    first_found_err e g = here (Err e) (then_err reply (f (get_or xs i x)) (λ found. or_else found (first_found f (drop (i + 1) xs))) e g)

  pub first_found_end : length xs ≤ i → Reads {U = Option T} reply (first_found f (drop i xs)) (Ok None)
  first_found_end past =
      subst (λ (r : Reading Q A (Option T)). Reads {U = Option T} reply r (Ok None)) (sym (at_drop_all (λ (ys : List X). first_found f ys) xs i past)) (done_reads reply None None refl)

-- the values so far, and then those of the rest of the list
unfoldable pub each_after : {Q A X U : Type 0} → (X → Reading Q A U) → List U → List X → Reading Q A (List U)
each_after f values xs = and_then (each f xs) (λ more. done (values ++ more))

module _ {Q A X T : Type 0} (reply : Q → Option A) (f : X → Reading Q A T) where
  pub each_reads : (xs : List X) (y : Result (List T) (Stop Q)) → Reads reply (each_after f [] xs) y → Reads reply (each f xs) y
  unfolding each_after
  each_reads xs y h = subst (λ (r : Reading Q A (List T)). Reads reply r y) (and_then-done (each f xs)) h

  module _ (values : List T) (xs : List X) (i : ℕ) where
    module _ (x : X) (below : i < length xs) where
      each_here : (y : Result (List T) (Stop Q)) → Reads reply (and_then (f (get_or xs i x)) (λ v. each_after f (values ++ v ∷ []) (drop (i + 1) xs))) y → Reads reply (each_after f values (drop i xs)) y
      unfolding each_after
      each_here y h =
          let split : each_after f values (drop i xs) ≡ and_then (and_then (f (get_or xs i x)) (λ v. and_then (each f (drop (i + 1) xs)) (λ vs. done (v ∷ vs)))) (λ more. done (values ++ more)) =
          at_drop_more (λ (ys : List X). each_after f values ys) xs i x below in
          let grouped : (v : T) → and_then (and_then (each f (drop (i + 1) xs)) (λ vs. done (v ∷ vs))) (λ more. done (values ++ more)) ≡ each_after f (values ++ v ∷ []) (drop (i + 1) xs) =
          λ v. and_then-and_then (each f (drop (i + 1) xs)) (λ vs. done (v ∷ vs)) (λ more. done (values ++ more))
          ∙ (λ j. and_then (each f (drop (i + 1) xs)) (λ vs. done (sym (append_assoc values (v ∷ []) vs) j))) in
          subst (λ (r : Reading Q A (List T)). Reads reply r y)
          (sym (split ∙ and_then-and_then (f (get_or xs i x)) (λ v. and_then (each f (drop (i + 1) xs)) (λ vs. done (v ∷ vs))) (λ more. done (values ++ more))
          ∙ (λ j. and_then (f (get_or xs i x)) (λ v. grouped v j)))) h

      pub each_more : (v : T) (y : Result (List T) (Stop Q)) → Reads reply (f (get_or xs i x)) (Ok v) → Reads reply (each_after f (values ++ v ∷ []) (drop (i + 1) xs)) y → Reads reply (each_after f values (drop i xs)) y
      each_more v y g h = each_here y (then_ok reply (f (get_or xs i x)) (λ v. each_after f (values ++ v ∷ []) (drop (i + 1) xs)) v y g h)

      pub each_err : (e : Stop Q) → Reads {U = T} reply (f (get_or xs i x)) (Err e) → Reads {U = List T} reply (each_after f values (drop i xs)) (Err e)
      each_err e g = each_here (Err e) (then_err reply (f (get_or xs i x)) (λ v. each_after f (values ++ v ∷ []) (drop (i + 1) xs)) e g)

    pub each_end : length xs ≤ i → Reads reply (each_after f values (drop i xs)) (Ok values)
    unfolding each_after
    each_end past =
        subst (λ (r : Reading Q A (List T)). Reads reply r (Ok values)) (sym (at_drop_all (λ (ys : List X). each_after f values ys) xs i past))
        (done_reads reply (values ++ []) values (append-nil values))

pub ruleset list_steps = (first_found_more, first_found_here, first_found_err, first_found_end, each_reads, each_more, each_err, each_end)
