-- Paths of a search that are laid into a tree of their own.
use Rattle.std.proofs.Common.{◌≡◌, ℕ, ◌+◌, ◌<◌, ◌⊎◌, List, [], ◌∷◌, ◌++◌, inl, inr, length, length-append, replicate, slice_set, refl, sym, ap, ◌∙◌, subst, arith}
use Rattle.std.specs.Prelude.{slice_index}
use Rattle.std.proofs.lemmas.List.{length-set, length-replicate, get_or-set_same, get_or-set_other, get_or-replicate}
use Rattle.std.proofs.lemmas.Bool.{cases_eq}
use Rattle.sg_base.specs.declared.step.Step.{Step}
use Rattle.sg_base.specs.PathTree.{path_at}
use Rattle.sg_base.proofs.Trees.{path_at-left, path_at-end}
use Rattle.sg_engine.specs.Laying.{LiesAt, IsLaying, IsClimb}

module _ (nodes : List (List Step)) where
  -- ---- climbs

  pub climb_top : (cs : List (ℕ × Step)) (place top : ℕ) → IsClimb nodes place top cs → top < length nodes
  climb_top [] place top c = omega (arith, c.0, c.1)
  climb_top (d ∷ cs) place top c = climb_top cs c.2.0 top c.2.2

  -- a climb that goes on one node more
  pub climb_push : (cs : List (ℕ × Step)) (place top k : ℕ) (x : Step) → IsClimb nodes place top cs → path_at nodes top ≡ path_at nodes k ++ x ∷ [] → k < length nodes → IsClimb nodes place k (cs ++ (top, x) ∷ [])
  climb_push [] place top k x c e l = (sym c.0, c.1, (k, ap (path_at nodes) c.0 ∙ e, (refl, l)))
  climb_push (d ∷ cs) place top k x c e l = (c.0, c.1, (c.2.0, c.2.1, climb_push cs c.2.0 top k x c.2.2 e l))

  -- a climb without its last node
  pub climb_pop : (cs : List (ℕ × Step)) (place top : ℕ) (d : ℕ × Step) → IsClimb nodes place top (cs ++ d ∷ []) → IsClimb nodes place d.0 cs × (path_at nodes d.0 ≡ path_at nodes top ++ d.1 ∷ [])
  climb_pop [] place top d c =
      ((sym c.0, c.1), ap (path_at nodes) c.0 ∙ (c.2.1 ∙ ap (λ (j : ℕ). path_at nodes j ++ d.1 ∷ []) c.2.2.0))
  climb_pop (b ∷ cs) place top d c = let k = climb_pop cs c.2.0 top d c.2.2 in ((c.0, c.1, (c.2.0, c.2.1, k.0)), k.1)

  -- ---- tables

  pub none_laid : (n : ℕ) → n ≡ length nodes → path_at nodes 0 ≡ [] → IsLaying nodes ([] ∷ []) (replicate n 0)
  none_laid n e root = record {
    long = length-replicate n 0 ∙ e;
    lies = λ j l.
        let zero_at : slice_index (replicate n 0) j ≡ 0 = get_or-replicate n j 0 0 (omega (arith, l, e)) in
        elim (cases_eq j 0) [
          | inl is ↦ inr (omega (arith, zero_at), ap (path_at ([] ∷ [])) zero_at ∙ sym (ap (path_at nodes) is ∙ root))
          | inr n ↦ inl (zero_at, omega (arith, n))
        ];
  }

  pub lies_there : (laid : List (List Step)) (places : List ℕ) (top : ℕ) → IsLaying nodes laid places → top < length nodes → (top ≡ 0) ⊎ (slice_index places top ≡ 0 → ⊥) → LiesAt nodes laid top (slice_index places top)
  lies_there laid places top a l h = elim (a.lies top l) [
    | inl z ↦ elim h [ inl is ↦ absurd (omega (arith, is, z.1)) | inr n ↦ absurd (n z.0) ]
    | inr k ↦ k
  ]

  module _ (laid : List (List Step)) (places : List ℕ) (a : IsLaying nodes laid places) (j under : ℕ) (there : j < length nodes) (top : ℕ) (x : Step) (up : path_at nodes j ≡ path_at nodes top ++ x ∷ []) (over : LiesAt nodes laid top under) where
    abbrev pub path : List Step
    path = path_at laid under ++ x ∷ []

    longer : length (laid ++ path ∷ []) ≡ length laid + 1
    longer = length-append laid (path ∷ [])

    pub new_lies : LiesAt nodes (laid ++ path ∷ []) j (length laid)
    new_lies = (omega (arith, longer), path_at-end laid path ∙ (ap (λ (p : List Step). p ++ x ∷ []) over.1 ∙ sym up))

    -- where one more is laid, those that were laid still are
    pub lays_more : IsLaying nodes (laid ++ path ∷ []) (slice_set places j (length laid))
    lays_more = record {
      long = length-set places j (length laid) ∙ a.long;
      lies = λ i l. elim (cases_eq i j) [
        | inl is ↦
            let at : slice_index (slice_set places j (length laid)) i ≡ length laid = ap (slice_index (slice_set places j (length laid))) is ∙ get_or-set_same places j (length laid) 0 (omega (arith, there, a.long)) in
            inr (subst (LiesAt nodes (laid ++ path ∷ []) i) (sym at) (subst (λ (k : ℕ). LiesAt nodes (laid ++ path ∷ []) k (length laid)) (sym is) new_lies))
        | inr n ↦
            let at : slice_index (slice_set places j (length laid)) i ≡ slice_index places i = get_or-set_other places j i (length laid) 0 n in
            elim (a.lies i l) [
              | inl z ↦ inl (at ∙ z.0, z.1)
              | inr k ↦ inr (subst (LiesAt nodes (laid ++ path ∷ []) i) (sym at) (omega (arith, longer, k.0), path_at-left laid (path ∷ []) (slice_index places i) k.0 ∙ k.1))
            ]
      ];
    }
