-- Rising lists with the same members are equal.
use Rattle.std.proofs.Common.{◌≡◌, ℕ, zero, suc, ◌+◌, ◌<◌, ◌↔◌, List, [], ◌∷◌, length, get_or, inl, inr, refl, sym, ap, ◌∙◌, subst, arith}
use Rattle.std.specs.List.{Contains}
use Rattle.std.specs.List.Sorted.{IsStrictlyIncreasing}
use Rattle.jv_tree.specs.StmtTree.{StmtTrees}
use Rattle.jv_flow.specs.Place.{PlaceInAll}
use Rattle.jv_flow.specs.Fault.{AreFaultPlaces}
use Rattle.jv_flow.proofs.Members.{first_in, later_in, cases_in, none_in}

tail_rises : (x : ℕ) (xs : List ℕ) → IsStrictlyIncreasing (x ∷ xs) → IsStrictlyIncreasing xs
tail_rises x xs h = λ k l. let e : suc k + 1 ≡ suc (k + 1) = omega arith in subst (λ (m : ℕ). get_or xs k 0 < get_or (x ∷ xs) m 0) e (h (suc k) (omega arith))

-- each further one is above the first
above : (xs : List ℕ) (x : ℕ) → IsStrictlyIncreasing (x ∷ xs) → (k : ℕ) (d : ℕ) → k < length xs → x < get_or xs k d
above [] x h k d l = absurd (omega arith)
above (y ∷ ys) x h zero d l = h 0 (omega arith)
above (y ∷ ys) x h (suc k) d l =
    let one : x < y = h 0 (omega arith) in
    let more : y < get_or ys k d = above ys y (tail_rises x (y ∷ ys) h) k d (omega arith) in
    omega arith

above_all : (x : ℕ) (xs : List ℕ) → IsStrictlyIncreasing (x ∷ xs) → (y : ℕ) → Contains xs y → x < y
above_all x xs h y c = subst (λ (z : ℕ). x < z) c.2 (above xs x h c.0 y c.1)

pub same_list : (xs ys : List ℕ) → IsStrictlyIncreasing xs → IsStrictlyIncreasing ys → ((z : ℕ) → Contains xs z ↔ Contains ys z) → xs ≡ ys
same_list [] [] f g same = refl
same_list [] (y ∷ ys) f g same = none_in y ((same y).1 (first_in y ys))
same_list (x ∷ xs) [] f g same = none_in x ((same x).0 (first_in x xs))
same_list (x ∷ xs) (y ∷ ys) f g same =
    ap (λ (z : ℕ). z ∷ xs) equal ∙ ap (λ (l : List ℕ). y ∷ l) (same_list xs ys (tail_rises x xs f) (tail_rises y ys g) rest)
  where
    equal : x ≡ y
    equal = elim (cases_in y x ys ((same x).0 (first_in x xs))) [
      | inl e ↦ sym e
      | inr c ↦ elim (cases_in x y xs ((same y).1 (first_in y ys))) [
        | inl e ↦ e
        | inr d ↦ absurd (let a : y < x = above_all y ys g x c in let b : x < y = above_all x xs f y d in omega arith)
      ]
    ]

    forth : (z : ℕ) → Contains xs z → Contains ys z
    forth z c = elim (cases_in y z ys ((same z).0 (later_in x z xs c))) [
      | inl e ↦ absurd (let a : x < z = above_all x xs f z c in let b : x ≡ y = equal in omega arith)
      | inr d ↦ d
    ]

    back : (z : ℕ) → Contains ys z → Contains xs z
    back z c = elim (cases_in x z xs ((same z).1 (later_in y z ys c))) [
      | inl e ↦ absurd (let a : y < z = above_all y ys g z c in let b : x ≡ y = equal in omega arith)
      | inr d ↦ d
    ]

    rest : (z : ℕ) → Contains xs z ↔ Contains ys z
    rest z = (forth z, back z)

pub one_list : (xs : StmtTrees) (Is : PlaceInAll xs → Type 0) (ps qs : List ℕ) → AreFaultPlaces xs Is ps → AreFaultPlaces xs Is qs → ps ≡ qs
one_list xs Is ps qs h k = same_list ps qs h.rising k.rising (λ z. ((λ c. (k.exact z).1 ((h.exact z).0 c)), (λ c. (h.exact z).1 ((k.exact z).0 c))))
