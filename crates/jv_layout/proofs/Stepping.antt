-- Packages as they are found, and the first files that name them.
use Rattle.std.proofs.Common.{◌≡◌, ℕ, zero, suc, ◌+◌, ◌<◌, Bool, true, ◌&&◌, cond, List, [], ◌∷◌, ◌++◌, ◌⊎◌, inl, inr, length, map, take, get_or, Option, Some, refl, sym, ap, ◌∙◌, subst, append-nil, arith, eqb-true}
use Rattle.std.proofs.lemmas.Bool.{cases_Bool}
use Rattle.std.proofs.lemmas.List.{map-append, take_more}
use Rattle.std.proofs.lemmas.List.Elements.{Contains-append_left, Contains-append_right}
use Rattle.std.specs.Cmp.{first_so, second_so}
use Rattle.std.proofs.lemmas.List.Concat.{flat_map-append}
use Rattle.std.specs.List.{Contains, slice_get, flat_map}
use Rattle.std.specs.Prelude.{◌==◌}
use Rattle.sg_base.proofs.Finite.{Contains-head}
use Rattle.jv_tree.specs.DeclTree.{UnitTree}
use Rattle.jv_layout.specs.declared.clauses.Step.{Step}
use Rattle.jv_layout.specs.declared.packages.Prefix.{Prefix}
use Rattle.jv_layout.specs.Paths.{clause_at, path_at, first_file, AreFirstFiles}
use Rattle.jv_layout.specs.Steps.{is_step, AreSteps}

same_step : (a b : Step) → is_step a b ≡ true → (a.file ≡ b.file) × (a.len ≡ b.len) × (a.name.0 ≡ b.name.0)
same_step a b e =
    let rest = second_so (a.file == b.file) ((a.len == b.len) && (a.name.0 == b.name.0)) e in (
      eqb-true a.file b.file (first_so (a.file == b.file) ((a.len == b.len) && (a.name.0 == b.name.0)) e),
      eqb-true a.len b.len (first_so (a.len == b.len) (a.name.0 == b.name.0) rest),
      eqb-true a.name.0 b.name.0 (second_so (a.len == b.len) (a.name.0 == b.name.0) rest),
    )

-- the names of a clause up to a place, and that at the place
pub one_longer : (c : List ℕ) (i n : ℕ) → i < length c → n ≡ get_or c i 0 → take (i + 1) c ≡ take i c ++ n ∷ []
one_longer c i n h e = take_more c i 0 h ∙ ap (λ (m : ℕ). take i c ++ m ∷ []) (sym e)

-- one row more in a loop by places
module _ {X T Y : Type 0} (f : X → T) (h : T → Y) where
  next_row : (xs : List X) (i : ℕ) (d : T) → i < length xs → map (λ x. h (f x)) (take (suc i) xs) ≡ map (λ x. h (f x)) (take i xs) ++ h (get_or (map f xs) i d) ∷ []
  next_row [] i d l = absurd (omega arith)
  next_row (x ∷ xs) zero d l = refl
  next_row (x ∷ xs) (suc i) d l = ap (λ (z : List Y). h (f x) ∷ z) (next_row xs i d (omega arith))

  pub rows_more : (old new : List Y) (xs : List X) (i : ℕ) (d : T) (y : Y) → i < length xs → new ≡ old ++ y ∷ [] → y ≡ h (get_or (map f xs) i d) → old ≡ map (λ x. h (f x)) (take i xs) → new ≡ map (λ x. h (f x)) (take (i + 1) xs)
  rows_more old new xs i d y l e is before =
      let long : suc i ≡ i + 1 = omega arith in
      e ∙ (ap (λ (z : List Y). z ++ y ∷ []) before ∙ (ap (λ (v : Y). map (λ x. h (f x)) (take i xs) ++ v ∷ []) is
      ∙ (sym (next_row xs i d l) ∙ ap (λ (n : ℕ). map (λ x. h (f x)) (take n xs)) long)))

-- what one thing more of a list adds
pub flat_next : {X Y : Type 0} (g : X → List Y) (xs : List X) (i : ℕ) (d : X) → i < length xs → flat_map g (take (i + 1) xs) ≡ flat_map g (take i xs) ++ g (get_or xs i d)
flat_next {Y = Y} g xs i d l =
    ap (flat_map g) (take_more xs i d l) ∙ (flat_map-append g (take i xs) (get_or xs i d ∷ []) ∙ ap (λ (z : List Y). flat_map g (take i xs) ++ z) (append-nil (g (get_or xs i d))))

module _ (us : List UnitTree) where
  abbrev Begins : ℕ → ℕ → ℕ → ℕ → Type 0
  Begins h len file name = take (len + 1) (clause_at us h) ≡ take len (clause_at us file) ++ name ∷ []

  -- one package more
  pub steps_more : (old new : Step → Option ℕ) (ps : List Prefix) (s : Step) (p : Prefix) → AreSteps us old ps → ((q : Step) → new q ≡ cond (is_step s q) (Some p.file) (old q))
      → p.len ≡ s.len + 1 → Begins p.file s.len s.file s.name.0 → AreSteps us new (ps ++ p ∷ [])
  steps_more old new ps s p before is long begins = record {
    same = λ q h e. elim (cases_Bool (is_step s q)) [
      | inl t ↦
          let k = same_step s q t in
          let file : p.file ≡ h = at_new q h t e in
          subst (λ (f : ℕ). Begins f q.len q.file q.name.0) file (subst (λ (n : ℕ). Begins p.file q.len q.file n) k.2
          (subst (λ (f : ℕ). Begins p.file q.len f s.name.0) k.0 (subst (λ (l : ℕ). Begins p.file l s.file s.name.0) k.1 begins)))
      | inr t ↦ before.same q h (sym (is q ∙ ap (λ (b : Bool). cond b (Some p.file) (old q)) t) ∙ e)
    ];
    there = λ q h e. subst (λ (l : List (List ℕ)). Contains l (take (q.len + 1) (clause_at us h))) (sym (map-append (path_at us) ps (p ∷ []))) (elim (cases_Bool (is_step s q)) [
      | inl t ↦
          let k = same_step s q t in
          let file : p.file ≡ h = at_new q h t e in
          let len : p.len ≡ q.len + 1 = omega (arith, long, k.1) in
          Contains-append_right (map (path_at us) ps) (path_at us p ∷ []) (take (q.len + 1) (clause_at us h))
          (subst (λ (f : ℕ). Contains (path_at us p ∷ []) (take (q.len + 1) (clause_at us f))) file
          (subst (λ (l : ℕ). Contains (path_at us p ∷ []) (take l (clause_at us p.file))) len (Contains-head (path_at us p) [])))
      | inr t ↦ Contains-append_left (map (path_at us) ps) (path_at us p ∷ []) (take (q.len + 1) (clause_at us h)) (before.there q h (sym (is q ∙ ap (λ (b : Bool). cond b (Some p.file) (old q)) t) ∙ e))
    ]);
  }
    where
      at_new : (q : Step) (h : ℕ) → is_step s q ≡ true → new q ≡ Some h → p.file ≡ h
      at_new q h t e = let both : Some p.file ≡ Some h = sym (is q ∙ ap (λ (b : Bool). cond b (Some p.file) (old q)) t) ∙ e in cc (both)

  -- the first file for one number of names more
  pub firsts_more : (file : ℕ) (xs : List ℕ) (x : ℕ) → ((k h : ℕ) → slice_get xs k ≡ Some h → take (k + 1) (clause_at us h) ≡ take (k + 1) (clause_at us file))
      → take (length xs + 1) (clause_at us x) ≡ take (length xs + 1) (clause_at us file) → (k h : ℕ) → slice_get (xs ++ x ∷ []) k ≡ Some h → take (k + 1) (clause_at us h) ≡ take (k + 1) (clause_at us file)
  firsts_more file xs x before one k h e =
      elim (pushed xs k h e) [
        | inl a ↦ before k h a
        | inr b ↦ subst (λ (f : ℕ). take (k + 1) (clause_at us f) ≡ take (k + 1) (clause_at us file)) (sym b.1)
            (subst (λ (i : ℕ). take (i + 1) (clause_at us x) ≡ take (i + 1) (clause_at us file)) (sym b.0) one)
      ]
    where
      pushed : (zs : List ℕ) (k h : ℕ) → slice_get (zs ++ x ∷ []) k ≡ Some h → (slice_get zs k ≡ Some h) ⊎ ((k ≡ length zs) × (h ≡ x))
      pushed [] zero h e = inr (refl, cc (e))
      pushed [] (suc k) h e = absurd (cc)
      pushed (z ∷ zs) zero h e = inl e
      pushed (z ∷ zs) (suc k) h e = elim (pushed zs k h e) [ inl a ↦ inl a | inr b ↦ inr (ap suc b.0, b.1) ]

  -- the first files for one clause more
  pub files_more : (rows : List (List ℕ)) (row : List ℕ) → AreFirstFiles us rows
      → ((k h : ℕ) → slice_get row k ≡ Some h → take (k + 1) (clause_at us h) ≡ take (k + 1) (clause_at us (length rows))) → AreFirstFiles us (rows ++ row ∷ [])
  files_more rows row before one = record { same = each }
    where
      pushed : (zs : List (List ℕ)) (f : ℕ) → (get_or (zs ++ row ∷ []) f [] ≡ get_or zs f []) ⊎ ((f ≡ length zs) × (get_or (zs ++ row ∷ []) f [] ≡ row))
      pushed [] zero = inr (refl, refl)
      pushed [] (suc f) = inl refl
      pushed (z ∷ zs) zero = inl refl
      pushed (z ∷ zs) (suc f) = elim (pushed zs f) [ inl a ↦ inl a | inr b ↦ inr (ap suc b.0, b.1) ]

      each : (f k h : ℕ) → first_file (rows ++ row ∷ []) f k ≡ Some h → take k (clause_at us h) ≡ take k (clause_at us f)
      each f zero h e = absurd (cc)
      each f (suc k) h e =
          elim (pushed rows f) [
            | inl a ↦ before.same f (suc k) h (sym (ap (λ (r : List ℕ). slice_get r k) a) ∙ e)
            | inr b ↦
                let long : k + 1 ≡ suc k = omega arith in
                let here : take (k + 1) (clause_at us h) ≡ take (k + 1) (clause_at us (length rows)) = one k h (sym (ap (λ (r : List ℕ). slice_get r k) b.1) ∙ e) in
                subst (λ (i : ℕ). take i (clause_at us h) ≡ take i (clause_at us f)) long (subst (λ (g : ℕ). take (k + 1) (clause_at us h) ≡ take (k + 1) (clause_at us g)) (sym b.0) here)
          ]
