-- Packages by their keys, and what is told of each number below n.
use Rattle.std.proofs.Common.{◌≡◌, ℕ, ◌+◌, ◌<◌, Bool, true, false, cond, ◌||◌, List, length, map, take, get_or, refl, sym, ap, ◌∙◌, arith}
use Rattle.std.specs.Prelude.{not}
use Rattle.std.specs.List.{list_any}
use Rattle.std.proofs.lemmas.List.Folds.{list_any_more}
use Rattle.std.proofs.lemmas.List.FromFn.{get_or-map-range_with_len, length-map-range_with_len}
use Rattle.jv_layout.specs.declared.firsts.Key.{Key}
use Rattle.jv_layout.specs.declared.rows.PackageRow.{PackageRow}
use Rattle.jv_layout.specs.Declarations.{package_key, IsPackages}
use Rattle.jv_layout.specs.Duplicates.{is_subpackage}
use Rattle.jv_layout.specs.Keys.{is_key, is_first, repeats}
use Rattle.jv_layout.specs.Skeleton.{below, no_package, parent_scope}
use Rattle.jv_layout.proofs.Keying.{or_swapped}

-- one package more
pub more_packages : (rows : List PackageRow) (old new : List Key) (i : ℕ) (k : Key) → i < length rows
    → k ≡ package_key (parent_scope (get_or rows i no_package).parent) (get_or rows i no_package).name → IsPackages (take i rows) old
    → ((q : Key) → list_any (is_key q) new ≡ cond (is_key k q) true (list_any (is_key q) old)) → IsPackages (take (i + 1) rows) new
more_packages rows old new i k h e so_far u s n =
    let q = package_key s n in
    u q ∙ (or_swapped (is_key k q) (list_any (is_key q) old) ∙ (ap (λ (b : Bool). b || is_key k q) (so_far s n)
    ∙ (ap (λ (z : Key). list_any (is_subpackage s n) (take i rows) || is_key z q) e ∙ sym (list_any_more (is_subpackage s n) rows i no_package h))))

-- a table of what a test says of each number
module _ (f : ℕ → Bool) (n : ℕ) (table : List Bool) (is : table ≡ map f (below n)) where
  pub length-told : length table ≡ n
  length-told = ap length is ∙ length-map-range_with_len f 0 n

  pub told : (i : ℕ) (d : Bool) → i < n → get_or table i d ≡ f i
  told i d h = ap (λ (z : List Bool). get_or z i d) is ∙ get_or-map-range_with_len f 0 n i i d h (omega arith)

-- a place whose flag is down has the first key of its like, and one whose flag is up has not
from_down : (b : Bool) → not b ≡ false → b ≡ true
from_down true e = refl
from_down false e = sym e

from_up : (b : Bool) → not b ≡ true → b ≡ false
from_up true e = sym e
from_up false e = refl

module _ (keys : List Key) (flags : List Bool) (is : flags ≡ repeats keys) (i : ℕ) (h : i < length flags) where
  pub in_keys : i < length keys
  in_keys = omega (arith, h, length-told (λ j. not (is_first keys j)) (length keys) flags is)

  flag : get_or flags i false ≡ not (is_first keys i)
  flag = told (λ j. not (is_first keys j)) (length keys) flags is i false in_keys

  pub first_where_down : get_or flags i false ≡ false → is_first keys i ≡ true
  first_where_down e = from_down (is_first keys i) (sym flag ∙ e)

  pub later_where_up : get_or flags i false ≡ true → is_first keys i ≡ false
  later_where_up e = from_up (is_first keys i) (sym flag ∙ e)
