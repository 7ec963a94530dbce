-- Marks of the paths that others of a list shadow, one run of data with one key after another.
use Rattle.std.proofs.Common.{◌≡◌, ◌≢◌, ℕ, ◌+◌, List, [], ◌∷◌, ◌++◌, Bool, true, false, IsTrue, MatchBool, if◌then◌else◌, ◌<◌, ◌≤◌, length, inl, inr, refl, sym, ap, ◌∙◌, subst, append_assoc, append-nil, map, take, drop, get_or, arith}
use Rattle.std.specs.List.{Contains}
use Rattle.std.specs.List.Sorted.{IsNonDecreasingBy}
use Rattle.std.proofs.lemmas.List.{map-append, take_more, at_drop_more, get_or-drop, length-drop, get_or_default}
use Rattle.std.proofs.lemmas.List.Elements.{Contains-append_left, Contains-append_right, Contains-append_cases, Contains-push_cases}
use Rattle.sg_base.specs.declared.mark.Mark.{Mark}
use Rattle.sg_base.proofs.Finite.{Contains-head, Contains-map, Contains-tail}
use Rattle.sg_query.specs.declared.found.Found.{Found}
use Rattle.sg_query.specs.Marks.{AreMarked, unmarked}
use Rattle.sg_query.specs.Shadow.{IsShadowed}
use Rattle.sg_query.specs.Walk.{Gathers}
use Rattle.sg_query.proofs.Shadowing.{IsShown}

mark_in : (b : Bool) {S T : Type 0} → (S → T) → (T → S) → MatchBool b S (S → ⊥) → MatchBool b T (T → ⊥)
mark_in true to from h = to h
mark_in false to from h = λ t. h (from t)

pub mark_of : {S : Type 0} (b : Bool) → (b ≡ true → S) → (b ≡ false → S → ⊥) → MatchBool b S (S → ⊥)
mark_of true on off = on refl
mark_of false on off = off refl

-- ---- what is left without marks

-- the next thing is kept where it has no mark
pub unmarked_more : {X : Type 0} (x : X) (rest : List X) (marks : List Bool) (place : ℕ) (b : Bool) → place < length marks → get_or marks place b ≡ b → unmarked (x ∷ rest) (drop place marks) ≡ (if b then unmarked rest (drop (place + 1) marks) else x ∷ unmarked rest (drop (place + 1) marks))
unmarked_more {X} x rest marks place b below at =
    at_drop_more (λ (ms : List Bool). unmarked (x ∷ rest) ms) marks place b below
    ∙ ap (λ (m : Bool). if m then unmarked rest (drop (place + 1) marks) else x ∷ unmarked rest (drop (place + 1) marks)) at

-- ---- runs of data with one key

module _ {X : Type 0} (key : X → ℕ) (rest : List X) where
  -- behind a thing with another key, none has the key of the first
  pub run_ends : IsNonDecreasingBy key rest → (n : ℕ) (first here : X) → n < length rest → first ≡ get_or rest 0 first → here ≡ get_or rest n here → key here ≢ key first → (h : X) → Contains (drop n rest) h → key first ≢ key h
  run_ends rising n first here below at_first at_here other h c e =
      let size = length-drop n rest in
      let low = rising 0 n first (omega arith) below in
      let high = rising n (n + c.0) here (omega arith) (omega (arith, c.1, size)) in
      let a : get_or rest n first ≡ here = get_or_default rest n first here below ∙ sym at_here in
      let b : get_or rest (n + c.0) here ≡ h = get_or_default rest (n + c.0) here h (omega (arith, c.1, size)) ∙ sym (get_or-drop n rest c.0 h) ∙ c.2 in
      let x : key here ≤ key h = subst (λ (t : X). key here ≤ key t) b (subst (λ (t : X). key t ≤ key (get_or rest (n + c.0) here)) (sym at_here) high) in
      let y : key first ≤ key here = subst (λ (t : X). key first ≤ key t) a (subst (λ (t : X). key t ≤ key (get_or rest n first)) (sym at_first) low) in
      other (omega (arith, x, y, e))

  pub run_grows : (k n : ℕ) (here : X) → n < length rest → here ≡ get_or rest n here → key here ≡ k → ((f : X) → Contains (take n rest) f → key f ≡ k) → (f : X) → Contains (take (n + 1) rest) f → key f ≡ k
  run_grows k n here below at same each f c =
      let longer : take (n + 1) rest ≡ take n rest ++ here ∷ [] = take_more rest n here below ∙ ap (λ (t : X). take n rest ++ t ∷ []) (sym at) in
      elim (Contains-push_cases (take n rest) here f (rw longer at c)) [
        | inl m ↦ each f m
        | inr e ↦ subst (λ (t : X). key t ≡ k) e same
      ]

-- nothing in the first list has the key of a thing in the second
abbrev pub AreKeyedApart : {X : Type 0} → (X → ℕ) → List X → List X → Type 0
AreKeyedApart {X} key fs hs = (f h : X) → Contains fs f → Contains hs h → key f ≢ key h

apart_map : {X Y : Type 0} (to : X → Y) (key : Y → ℕ) (fs hs : List X) → AreKeyedApart (λ x. key (to x)) fs hs → AreKeyedApart key (map to fs) (map to hs)
apart_map to key fs hs apart f h a b e =
    let m = Contains-map to fs f a in
    let n = Contains-map to hs h b in
    apart m.0 n.0 m.1 n.1 (ap key (sym m.2) ∙ e ∙ ap key n.2)

module _ {D : Type 0} (same : D → D → Bool) (order : Mark → Mark → Bool) where
  pub marked_append : (all fs gs : List (Found D)) (bs cs : List Bool) → AreMarked same order all fs bs → AreMarked same order all gs cs → AreMarked same order all (fs ++ gs) (bs ++ cs)
  marked_append all [] gs [] cs h k = k
  marked_append all [] gs (b ∷ bs) cs h k = absurd h
  marked_append all (f ∷ fs) gs [] cs h k = absurd h
  marked_append all (f ∷ fs) gs (b ∷ bs) cs h k = (h.0, marked_append all fs gs bs cs h.1 k)

  pub marked_length : (all fs : List (Found D)) (bs : List Bool) → AreMarked same order all fs bs → length bs ≡ length fs
  marked_length all [] [] h = refl
  marked_length all [] (b ∷ bs) h = absurd h
  marked_length all (f ∷ fs) [] h = absurd h
  marked_length all (f ∷ fs) (b ∷ bs) h = omega (arith, marked_length all fs bs h.1)

  -- where the paths of another list shadow the same ones, the marks are the same
  marked_in : (run all fs : List (Found D)) (bs : List Bool) → ((f : Found D) → Contains fs f → IsShadowed same order run f → IsShadowed same order all f) → ((f : Found D) → Contains fs f → IsShadowed same order all f → IsShadowed same order run f) → AreMarked same order run fs bs → AreMarked same order all fs bs
  marked_in run all [] [] to from h = tt
  marked_in run all [] (b ∷ bs) to from h = absurd h
  marked_in run all (f ∷ fs) [] to from h = absurd h
  marked_in run all (f ∷ fs) (b ∷ bs) to from h = (
    mark_in b (to f (Contains-head f fs)) (from f (Contains-head f fs)) h.0,
    marked_in run all fs bs (λ g c. to g (Contains-tail f g fs c)) (λ g c. from g (Contains-tail f g fs c)) h.1,
  )

  -- the paths without a mark are those that no other shadows
  pub marked_gathers : (all fs : List (Found D)) (bs : List Bool) → AreMarked same order all fs bs → Gathers (IsShown same order all) fs (unmarked fs bs)
  marked_gathers all [] [] h = refl
  marked_gathers all [] (b ∷ bs) h = absurd h
  marked_gathers all (f ∷ fs) [] h = absurd h
  marked_gathers all (f ∷ fs) (true ∷ bs) h = inr ((λ y r. r.1 h.0), marked_gathers all fs bs h.1)
  marked_gathers all (f ∷ fs) (false ∷ bs) h = inl (f, unmarked fs bs, (refl, h.0), refl, marked_gathers all fs bs h.1)

  module _ (key : D → ℕ) (one_key : (a b : D) → IsTrue (same a b) → key a ≡ key b) where
    abbrev key_of : Found D → ℕ
    key_of f = key f.datum

    -- the marks of one more run, among all paths
    module _ (all front run back : List (Found D)) (parts : all ≡ front ++ (run ++ back)) (before : AreKeyedApart key_of front (run ++ back)) (behind : AreKeyedApart key_of run back) where
      in_all : (h : Found D) → Contains run h → Contains all h
      in_all h c = subst (λ (t : List (Found D)). Contains t h) (sym parts) (Contains-append_right front (run ++ back) h (Contains-append_left run back h c))

      in_run : (f h : Found D) → Contains run f → Contains all h → key f.datum ≡ key h.datum → Contains run h
      in_run f h c k e =
          elim (Contains-append_cases front (run ++ back) h (subst (λ (t : List (Found D)). Contains t h) parts k)) [
            | inl m ↦ absurd (before h f m (Contains-append_left run back f c) (sym e))
            | inr m ↦ elim (Contains-append_cases run back h m) [ inl n ↦ n | inr n ↦ absurd (behind f h c n e) ]
          ]

      marked_run : (marks more : List Bool) → AreMarked same order all front marks → AreMarked same order run run more → AreMarked same order all (front ++ run) (marks ++ more)
      marked_run marks more h k =
          marked_append all front run marks more h (marked_in run all run more
          (λ f c s. (s.0, in_all s.0 s.1, s.2, s.3))
          (λ f c s. (s.0, in_run f s.0 c s.1 (one_key f.datum s.0.datum s.2), s.2, s.3)) k)

    -- the same for what stands for the paths
    module _ {X : Type 0} (found : X → Found D) (all front run back : List X) (parts : all ≡ front ++ (run ++ back)) (before : AreKeyedApart (λ x. key_of (found x)) front (run ++ back)) (behind : AreKeyedApart (λ x. key_of (found x)) run back) where
      pub marked_more : (marks more : List Bool) → AreMarked same order (map found all) (map found front) marks → AreMarked same order (map found run) (map found run) more → AreMarked same order (map found all) (map found (front ++ run)) (marks ++ more)
      marked_more marks more h k =
          let later : map found (run ++ back) ≡ map found run ++ map found back = map-append found run back in
          let whole : map found all ≡ map found front ++ (map found run ++ map found back) = ap (map found) parts ∙ (map-append found front (run ++ back) ∙ ap (λ (t : List (Found D)). map found front ++ t) later) in
          subst (λ (t : List (Found D)). AreMarked same order (map found all) t (marks ++ more)) (sym (map-append found front run))
          (marked_run (map found all) (map found front) (map found run) (map found back) whole
          (subst (λ (t : List (Found D)). AreKeyedApart key_of (map found front) t) later (apart_map found key_of front (run ++ back) before))
          (apart_map found key_of run back behind) marks more h k)

pub apart_more : {X : Type 0} (key : X → ℕ) (front run back : List X) → AreKeyedApart key front (run ++ back) → AreKeyedApart key run back → AreKeyedApart key (front ++ run) back
apart_more key front run back before behind f h c k =
    elim (Contains-append_cases front run f c) [
      | inl m ↦ before f h m (Contains-append_right run back h k)
      | inr m ↦ behind f h m k
    ]
