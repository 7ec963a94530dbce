-- How many types of a layout stand behind the prelude's.
use Rattle.std.proofs.Common.{Bool, Some, ◌++◌, take, slice_get, sym, ◌≡◌, ℕ, zero, suc, ◌+◌, ◌<◌, List, [], ◌∷◌, length, map, nat_le, cond, slice_index_or, count_by, fold, refl, ap, ◌∙◌, arith}
use Rattle.std.specs.List.{range_with_len}
use Rattle.std.proofs.lemmas.List.Sums.{fold-append}
use Rattle.sg_base.specs.declared.scope.Scope.{Scope}
use Rattle.sg_script.proofs.Following.{take_get}
use Rattle.jv_layout.specs.declared.place.Place.TheVariants.{Ty}
use Rattle.jv_layout.specs.declared.rows.TypeRow.{TypeRow}
use Rattle.jv_layout.specs.Folder.{LayoutOf}
use Rattle.jv_layout.specs.Readers.{file_at, file_of, no_type, type_at, types_of}
use Rattle.jv_layout.specs.Scopes.{type_scope}
use Rattle.jv_layout.specs.Sizes.{own_types}
use Rattle.jv_layout.proofs.SoundPlaces.{scopes_have_places}

-- numbers from a on are counted as the rows are to which they lead
count_rows : (s : ℕ → Scope) (g : Scope → ℕ) (n : ℕ) (rs : List TypeRow) (a : ℕ) → ((i : ℕ) → i < length rs → g (s (a + i)) ≡ (slice_index_or rs i no_type).file)
    → fold (λ k x. k + cond (nat_le 2 (g x)) 1 0) n (map s (range_with_len a (length rs))) ≡ fold (λ k r. k + cond (nat_le 2 r.file) 1 0) n rs
count_rows s g n [] a h = refl
count_rows s g n (r ∷ rs) a h =
    let first : g (s a) ≡ r.file = ap (λ (i : ℕ). g (s i)) (omega arith) ∙ h 0 (omega arith) in
    ap (λ (f : ℕ). fold (λ k x. k + cond (nat_le 2 (g x)) 1 0) (n + cond (nat_le 2 f) 1 0) (map s (range_with_len (a + 1) (length rs)))) first
    ∙ count_rows s g (n + cond (nat_le 2 r.file) 1 0) rs (a + 1) (λ i k. ap (λ (j : ℕ). g (s j)) (omega arith) ∙ h (suc i) (omega (arith, k)))

module _ (l : LayoutOf) where
  file_of_type : (t : ℕ) → t < length l.types → file_of l (type_scope l t) ≡ (type_at l t).file
  file_of_type t h = ap (file_at l) ((scopes_have_places l (type_scope l t) (Ty t)).1 (h, refl))

  pub own_types_counted : count_by (λ s. nat_le 2 (file_of l s)) (types_of l) ≡ own_types l.types
  own_types_counted = count_rows (type_scope l) (file_of l) 0 l.types 0 (λ i h. ap (λ (j : ℕ). file_of l (type_scope l j)) (omega arith) ∙ file_of_type i h)

  -- one more is counted
  pub counted_more : (p : Scope → Bool) (ss : List Scope) (i n k : ℕ) (s : Scope) → slice_get ss i ≡ Some s → n ≡ count_by p (take i ss) → k ≡ cond (p s) 1 0 → n + k ≡ count_by p (take (i + 1) ss)
  counted_more p ss i n k s is e d = ap (λ (m : ℕ). m + k) e ∙ ap (λ (m : ℕ). count_by p (take i ss) + m) d ∙ sym (ap (count_by p) (take_get ss i s is) ∙ fold-append (λ a x. a + cond (p x) 1 0) 0 (take i ss) (s ∷ []))
