-- In shallow terminals no more than 200 square brackets follow one another, though the last one may be open.
use Rattle.std.proofs.Common.{ℕ, zero, suc, ◌+◌, ◌≤◌, List, [], ◌∷◌, Option, None, Some, arith}
use Rattle.jv_grammar.specs.declared.terminal.Terminal.{Terminal}
use Rattle.jv_grammar.specs.declared.terminal.Terminal.TheVariants.{Punct}
use Rattle.jv_grammar.specs.Load.{after, first, loads_from, outside, Nesting}
use Rattle.jv_grammar.proofs.Rows.{BeginsWithRow, row_none, row_open, row_pair, HasShortRows, ShallowHasShortRows}
use Rattle.jv_grammar.proofs.Shallow.{AreLow, are_low, behind}

-- each bracket of a row adds one to the load
rows_are_low : {k : ℕ} {ts : List Terminal} (before : Option Terminal) (n : Nesting) → BeginsWithRow (suc k) ts → AreLow (loads_from before n ts)
    → n.load + suc k ≤ 200
rows_are_low before n row_open l = let h = l.0 in omega arith
rows_are_low before n (row_pair inner row_none) l = let h = l.0 in omega arith
rows_are_low {ts = t ∷ ts} before n (row_pair {end = end} inner (row_open {at = at} {ts = vs})) l =
    let b = behind (Some t) (after before t (first ts) n) inner l.1 in
    let h = rows_are_low (Some (Punct end 5)) (record { load = n.load + 1; stack = n.stack }) (row_open {at = at} {ts = vs}) b.low.1 in
    omega arith
rows_are_low {ts = t ∷ ts} before n (row_pair {end = end} inner (row_pair {at = at} {ts = vs} i r)) l =
    let b = behind (Some t) (after before t (first ts) n) inner l.1 in
    let h = rows_are_low (Some (Punct end 5)) (record { load = n.load + 1; stack = n.stack }) (row_pair {at = at} i r) b.low.1 in
    omega arith

row_at : (before : Option Terminal) (n : Nesting) (ts : List Terminal) → AreLow (loads_from before n ts) → (k : ℕ) → BeginsWithRow k ts → k ≤ 200
row_at before n ts l zero p = omega arith
row_at before n ts l (suc k) p = let h = rows_are_low before n p l in omega arith

low_has_short : (before : Option Terminal) (n : Nesting) (ts : List Terminal) → AreLow (loads_from before n ts) → HasShortRows ts
low_has_short before n [] l = tt
low_has_short before n (t ∷ ts) l = (row_at before n (t ∷ ts) l, low_has_short (Some t) (after before t (first ts) n) ts l.1)

pub shallow_has_short : ShallowHasShortRows
shallow_has_short ts h = low_has_short None outside ts (are_low ts h)
