-- The checks of a type by their places.
use Rattle.std.proofs.Common.{◌≡◌, ℕ, suc, ◌+◌, ◌*◌, ◌<◌, List, ◌∷◌, ◌++◌, length, length-append, map, get_or, sym, ap, ◌∙◌, subst, inl, inr, arith}
use Rattle.std.specs.List.{Contains}
use Rattle.std.proofs.lemmas.List.{get_or_append_left, get_or-append-add, get_or-map, length-map}
use Rattle.std.proofs.lemmas.List.Elements.{Contains-append_cases}
use Rattle.sg_base.proofs.Finite.{Contains-cons, Contains-map}
use Rattle.jv_unit.specs.Checks.{Check, declaration, methods, overriding, meeting, calling, body, member_checks, checks_of}

module _ (ms : List ℕ) where
  abbrev behind_methods : List Check
  behind_methods = map overriding ms ++ (meeting ∷ map calling ms)

  abbrev behind_declarations : List Check
  behind_declarations = member_checks ms ++ map body ms

  -- how many there are
  count_together : length (member_checks ms) ≡ 2 * length ms + 2
  count_together = omega (arith, length-append (map overriding ms) (meeting ∷ map calling ms), length-map ms overriding, length-map ms calling)

  pub count_checks : length (checks_of ms) ≡ 4 * length ms + 2
  count_checks = omega (arith, count_together, length-append (map declaration ms) behind_declarations, length-append (member_checks ms) (map body ms), length-map ms declaration, length-map ms body)

  -- ---- which stands where

  within : (f : ℕ → Check) (rest : List Check) (i : ℕ) → i < length ms → get_or (map f ms ++ rest) i meeting ≡ f (get_or ms i 0)
  within f rest i below = get_or_append_left (map f ms) rest meeting i (omega (arith, below, length-map ms f)) ∙ get_or-map f ms i 0 meeting below

  past : (f : ℕ → Check) (rest : List Check) (i : ℕ) → get_or (map f ms ++ rest) (length ms + i) meeting ≡ get_or rest i meeting
  past f rest i = ap (λ (k : ℕ). get_or (map f ms ++ rest) (k + i) meeting) (sym (length-map ms f)) ∙ get_or-append-add (map f ms) rest i meeting

  pub declaration_at : (i : ℕ) → i < length ms → get_or (checks_of ms) i meeting ≡ declaration (get_or ms i 0)
  declaration_at i below = within declaration behind_declarations i below

  together_at : (i : ℕ) → i < 2 * length ms + 2 → get_or (checks_of ms) (length ms + i) meeting ≡ get_or (member_checks ms) i meeting
  together_at i below = past declaration behind_declarations i ∙ get_or_append_left (member_checks ms) (map body ms) meeting i (omega (arith, below, count_together))

  pub methods_at : get_or (checks_of ms) (length ms + 0) meeting ≡ methods
  methods_at = together_at 0 (omega arith)

  pub overriding_at : (i : ℕ) → i < length ms → get_or (checks_of ms) (length ms + suc i) meeting ≡ overriding (get_or ms i 0)
  overriding_at i below = together_at (suc i) (omega (arith, below)) ∙ within overriding (meeting ∷ map calling ms) i below

  pub meeting_at : get_or (checks_of ms) (length ms + suc (length ms + 0)) meeting ≡ meeting
  meeting_at = together_at (suc (length ms + 0)) (omega arith) ∙ past overriding (meeting ∷ map calling ms) 0

  pub calling_at : (i : ℕ) → i < length ms → get_or (checks_of ms) (length ms + suc (length ms + suc i)) meeting ≡ calling (get_or ms i 0)
  calling_at i below = together_at (suc (length ms + suc i)) (omega (arith, below)) ∙ (past overriding (meeting ∷ map calling ms) (suc i) ∙ get_or-map calling ms i 0 meeting below)

  pub body_at : (i : ℕ) → i < length ms → get_or (checks_of ms) (length ms + suc (length ms + suc (length ms + i))) meeting ≡ body (get_or ms i 0)
  body_at i below =
      let at : length ms + suc (length ms + suc (length ms + i)) ≡ length ms + (length (member_checks ms) + i) = omega (arith, count_together) in
      ap (λ (k : ℕ). get_or (checks_of ms) k meeting) at
      ∙ (past declaration behind_declarations (length (member_checks ms) + i) ∙ (get_or-append-add (member_checks ms) (map body ms) i meeting ∙ get_or-map body ms i 0 meeting below))

  -- ---- which there are

  -- of a member of the type
  abbrev pub IsCheckOf : Check → Type 0
  IsCheckOf (declaration m) = Contains ms m
  IsCheckOf methods = Unit {0}
  IsCheckOf (overriding m) = Contains ms m
  IsCheckOf meeting = Unit {0}
  IsCheckOf (calling m) = Contains ms m
  IsCheckOf (body m) = Contains ms m

  of_members : (f : ℕ → Check) → ((m : ℕ) → Contains ms m → IsCheckOf (f m)) → (c : Check) → Contains (map f ms) c → IsCheckOf c
  of_members f each c k = let x = Contains-map f ms c k in subst IsCheckOf (sym x.2) (each x.0 x.1)

  of_either : (xs ys : List Check) → ((c : Check) → Contains xs c → IsCheckOf c) → ((c : Check) → Contains ys c → IsCheckOf c) → (c : Check) → Contains (xs ++ ys) c → IsCheckOf c
  of_either xs ys first second c k = elim (Contains-append_cases xs ys c k) [ inl x ↦ first c x | inr x ↦ second c x ]

  of_one : (d : Check) (rest : List Check) → IsCheckOf d → ((c : Check) → Contains rest c → IsCheckOf c) → (c : Check) → Contains (d ∷ rest) c → IsCheckOf c
  of_one d rest one others c k = elim (Contains-cons d c rest k) [ inl e ↦ subst IsCheckOf (sym e) one | inr x ↦ others c x ]

  together_are : (c : Check) → Contains (member_checks ms) c → IsCheckOf c
  together_are =
      of_one methods behind_methods tt
      (of_either (map overriding ms) (meeting ∷ map calling ms) (of_members overriding (λ m k. k)) (of_one meeting (map calling ms) tt (of_members calling (λ m k. k))))

  pub checks_are : (c : Check) → Contains (checks_of ms) c → IsCheckOf c
  checks_are = of_either (map declaration ms) behind_declarations (of_members declaration (λ m k. k)) (of_either (member_checks ms) (map body ms) together_are (of_members body (λ m k. k)))
