-- The entries of each unit, one entry of the log after another; and the units that have lists.
use Rattle.std.proofs.Common.{◌≡◌, ◌≢◌, inl, inr, ℕ, ◌+◌, ◌-◌, ◌<◌, ◌≤◌, Bool, cond, List, [], ◌∷◌, ◌++◌, length, map, set, take, get_or, refl, sym, ap, ◌∙◌, subst, append-nil, Some, Vec, Global, Bor, arith}
use Rattle.std.specs.Prelude.{◌==◌}
use Rattle.std.specs.List.{All, range_with_len, slice_get}
use Rattle.std.proofs.lemmas.Bool.{eq-eqb, cases_eq, ne_eqb}
use Rattle.std.proofs.lemmas.List.{length-map, get_or-map, length-set, get_or-set_same, get_or-set_other, map-append, map-set}
use Rattle.std.proofs.lemmas.List.Elements.{filter_more}
use Rattle.std.proofs.lemmas.List.FromFn.{fill_by_all, length-map-range_with_len, get_or-map-range_with_len}
use Rattle.std.proofs.lemmas.Option.{get_or_from_slice_get}
use Rattle.sg_base.specs.declared.scope.Scope.{Scope}
use Rattle.sg_unit.specs.Own.{own}
use Rattle.jv_layout.specs.Folder.{LayoutOf}
use Rattle.jv_layout.specs.Readers.{types_of}
use Rattle.jv_layout.specs.Scopes.{file_scope, type_scope}
use Rattle.sc_listing.specs.Answers.{JavaEntry, unit_of}
use Rattle.sc_listing.specs.ByUnit.{entries_at, own_entries}

abbrev pub below : ℕ → List ℕ
below n = range_with_len 0 n

-- ---- one entry more

module _ (log : List JavaEntry) (n : ℕ) (e : JavaEntry) (within : n < length log) (here : e ≡ get_or log n e) where
  own_more : (u : ℕ) → own u (take (n + 1) log) ≡ own u (take n log) ++ cond (e.unit == u) (e ∷ []) []
  own_more u = filter_more (λ (x : JavaEntry). x.unit == u) log n e within ∙ ap (λ (x : JavaEntry). own u (take n log) ++ cond (x.unit == u) (x ∷ []) []) (sym here)

  own_other : (u : ℕ) → e.unit ≢ u → own u (take (n + 1) log) ≡ own u (take n log)
  own_other u apart = own_more u ∙ ap (λ (b : Bool). own u (take n log) ++ cond b (e ∷ []) []) (ne_eqb e.unit u apart) ∙ append-nil (own u (take n log))

  own_same : own e.unit (take (n + 1) log) ≡ own e.unit (take n log) ++ e ∷ []
  own_same = own_more e.unit ∙ ap (λ (b : Bool). own e.unit (take n log) ++ cond b (e ∷ []) []) (eq-eqb e.unit e.unit refl)

  module _ (count : ℕ) (lists : List (List JavaEntry)) (are : lists ≡ own_entries count (take n log)) where
    long : length lists ≡ count
    long = ap length are ∙ length-map-range_with_len (λ u. own u (take n log)) 0 count

    was : (u : ℕ) → u < count → get_or lists u [] ≡ own u (take n log)
    was u l = ap (λ (z : List (List JavaEntry)). get_or z u []) are ∙ get_or-map-range_with_len (λ v. own v (take n log)) 0 count u u [] l (omega arith)

    -- an entry of a unit that has a list
    pub put_more : (y : List JavaEntry) → e.unit < count → y ≡ get_or lists e.unit [] ++ e ∷ [] → set lists e.unit y ≡ own_entries count (take (n + 1) log)
    put_more y small more = fill_by_all (λ u. own u (take (n + 1) log)) (set lists e.unit y) count [] (length-set lists e.unit y ∙ long) each
      where
        short : e.unit < length lists
        short = omega (arith, small, long)

        each : (k : ℕ) → k < count → get_or (set lists e.unit y) k [] ≡ own k (take (n + 1) log)
        each k l = elim (cases_eq k e.unit) as (λ _. get_or (set lists e.unit y) k [] ≡ own k (take (n + 1) log)) [
          | inl same ↦
              ap (λ (j : ℕ). get_or (set lists e.unit y) j []) same ∙ get_or-set_same lists e.unit y [] short ∙ more ∙ ap (λ (z : List JavaEntry). z ++ e ∷ []) (was e.unit small)
              ∙ sym own_same ∙ ap (λ (j : ℕ). own j (take (n + 1) log)) (sym same)
          | inr apart ↦ get_or-set_other lists e.unit k y [] apart ∙ was k l ∙ sym (own_other k (λ q. apart (sym q)))
        ]

    -- an entry of another unit
    pub skip_more : count ≤ e.unit → lists ≡ own_entries count (take (n + 1) log)
    skip_more large = fill_by_all (λ u. own u (take (n + 1) log)) lists count [] long each
      where
        each : (k : ℕ) → k < count → get_or lists k [] ≡ own k (take (n + 1) log)
        each k l = was k l ∙ sym (own_other k (λ q. omega (arith, large, l, q)))

-- ---- lists of entries as the code has them

abbrev pub Held : Type 0
Held = Vec (Bor JavaEntry) Global

abbrev pub entries_in : Held → List JavaEntry
entries_in v = map (λ e. e.now) v.items

-- one entry more in the list of its unit
module _ (log : List JavaEntry) (n : ℕ) (e : Bor JavaEntry) (within : n < length log) (here : e.now ≡ get_or log n e.now) (count : ℕ) (lists : List Held) (are : map entries_in lists ≡ own_entries count (take n log)) where
  pub put_entry : (unit : ℕ) (old new : Held) → unit ≡ e.now.unit → unit < count → old ≡ get_or lists unit old → new.items ≡ old.items ++ e ∷ [] → map entries_in (set lists unit new) ≡ own_entries count (take (n + 1) log)
  put_entry unit old new same small at pushed =
      let long : length lists ≡ count = sym (length-map lists entries_in) ∙ ap length are ∙ length-map-range_with_len (λ u. own u (take n log)) 0 count in
      let was : entries_in old ≡ get_or (map entries_in lists) unit [] = ap entries_in at ∙ sym (get_or-map entries_in lists unit old [] (omega (arith, small, long))) in
      let more : entries_in new ≡ get_or (map entries_in lists) unit [] ++ e.now ∷ [] = ap (map (λ (x : Bor JavaEntry). x.now)) pushed ∙ map-append (λ (x : Bor JavaEntry). x.now) old.items (e ∷ []) ∙ ap (λ (z : List JavaEntry). z ++ e.now ∷ []) was in
      map-set entries_in lists unit new ∙ ap (λ (u : ℕ). set (map entries_in lists) u (entries_in new)) same
      ∙ put_more log n e.now within here count (map entries_in lists) are (entries_in new) (omega (arith, small, same)) (more ∙ ap (λ (u : ℕ). get_or (map entries_in lists) u [] ++ e.now ∷ []) same)

module _ {V : Type 0} (items : V → List JavaEntry) (lists : List V) (count : ℕ) (log : List JavaEntry) (are : map items lists ≡ own_entries count log) where
  -- as many as there are units
  pub as_many : length lists ≡ count
  as_many = sym (length-map lists items) ∙ ap length are ∙ length-map-range_with_len (λ u. own u log) 0 count

  -- the entries of a unit
  pub entries_are : (u : ℕ) → u < count → entries_at (map items lists) u ≡ own u log
  entries_are u l = ap (λ (z : List (List JavaEntry)). get_or z u []) are ∙ get_or-map-range_with_len (λ v. own v log) 0 count u u [] l (omega arith)

-- ---- the numbers of units

module _ (l : LayoutOf) (count : ℕ) where
  pub files_below : (n : ℕ) → 2 + n ≤ count → All (λ s. unit_of l s < count) (map (file_scope l) (range_with_len 2 n))
  files_below n few i d inside =
      let long : length (map (file_scope l) (range_with_len 2 n)) ≡ n = length-map-range_with_len (file_scope l) 2 n in
      let here : get_or (map (file_scope l) (range_with_len 2 n)) i d ≡ file_scope l (2 + i) = get_or-map-range_with_len (file_scope l) 2 n i (2 + i) d (omega (arith, inside, long)) refl in
      subst (λ (s : Scope). unit_of l s < count) (sym here) (omega (arith, inside, long, few))

  pub types_below : (last : Scope) → slice_get (types_of l) (length (types_of l) - 1) ≡ Some last → unit_of l last < count → All (λ s. unit_of l s < count) (types_of l)
  types_below last is most i d inside =
      let n = length l.types in
      let long : length (types_of l) ≡ n = length-map-range_with_len (type_scope l) 0 n in
      let end : ℕ = length (types_of l) - 1 in
      let here : get_or (types_of l) i d ≡ type_scope l i = get_or-map-range_with_len (type_scope l) 0 n i i d (omega (arith, inside, long)) (omega arith) in
      let top : get_or (types_of l) end d ≡ type_scope l end = get_or-map-range_with_len (type_scope l) 0 n end end d (omega (arith, inside, long)) (omega arith) in
      let same : type_scope l end ≡ last = sym top ∙ get_or_from_slice_get (types_of l) end last d is in
      let most : unit_of l (type_scope l end) < count = subst (λ (s : Scope). unit_of l s < count) (sym same) most in
      subst (λ (s : Scope). unit_of l s < count) (sym here) (omega (arith, most, inside))
