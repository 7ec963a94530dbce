-- How deep a source is nested: its load, terminal by terminal. Keywords and marks have the numbers of docs/JAVA-PROFILE.md.
use Rattle.std.specs.Prelude.{ℕ, suc, ◌+◌, ◌<◌, ◌≤◌, ◌≡◌, Bool, true, false, not, ◌&&◌, ◌||◌, nat_eq, nat_le, List, [], ◌∷◌, Option, None, Some, if◌then◌else◌, slice_get}
use Rattle.jv_grammar.specs.declared.terminal.Terminal.{Terminal}
use Rattle.jv_grammar.specs.declared.terminal.Terminal.TheVariants.{Ident, Keyword, Literal, Minimum, MinimumLong, Punct}
use Rattle.jv_grammar.specs.declared.load.Opening.{Opening}

-- the keyword of a number
abbrev pub is_keyword : ℕ → Terminal → Bool
is_keyword n (Ident i) = false
is_keyword n (Keyword at k) = nat_eq k n
is_keyword n (Literal at k) = false
is_keyword n (Minimum at) = false
is_keyword n (MinimumLong at) = false
is_keyword n (Punct at o) = false

-- the mark of a number
abbrev pub is_mark : ℕ → Terminal → Bool
is_mark n (Ident i) = false
is_mark n (Keyword at k) = false
is_mark n (Literal at k) = false
is_mark n (Minimum at) = false
is_mark n (MinimumLong at) = false
is_mark n (Punct at o) = nat_eq o n

-- an identifier or a literal, a minimum literal, `true`, `false` and `null` among them
abbrev pub is_word_or_literal : Terminal → Bool
is_word_or_literal (Ident i) = true
is_word_or_literal (Keyword at k) = false
is_word_or_literal (Literal at k) = true
is_word_or_literal (Minimum at) = true
is_word_or_literal (MinimumLong at) = true
is_word_or_literal (Punct at o) = false

-- a neighbour is there, and passes
abbrev pub is_there : (Terminal → Bool) → Option Terminal → Bool
is_there passes None = false
is_there passes (Some t) = passes t

-- `(`, `[` and `{`
abbrev pub is_opening : Terminal → Bool
is_opening t = is_mark 0 t || is_mark 4 t || is_mark 2 t

-- `)`, `]` and `}`
abbrev pub is_closing : Terminal → Bool
is_closing t = is_mark 1 t || is_mark 5 t || is_mark 3 t

-- `else` and `while`, which go on with the statement before them
abbrev pub goes_on : Terminal → Bool
goes_on t = is_keyword 14 t || is_keyword 49 t

-- `boolean`, `char`, `int` and `long`
abbrev pub is_primitive : Terminal → Bool
is_primitive t = is_keyword 2 t || is_keyword 7 t || is_keyword 26 t || is_keyword 28 t

-- an operand may end here: an identifier, a literal, `this`, `)` and `]`
abbrev pub ends_operand : Terminal → Bool
ends_operand t = is_word_or_literal t || is_keyword 42 t || is_mark 1 t || is_mark 5 t

-- what follows a cast: an identifier, a literal, `(`, `!`, `~`, `this`, `super` and `new`
abbrev pub follows_cast : Terminal → Bool
follows_cast t =
    is_word_or_literal t || is_mark 0 t || is_mark 15 t || is_mark 16 t || is_keyword 42 t || is_keyword 39 t || is_keyword 30 t

-- `!`, `~`, `?`, `++`, `--`, and the assignment operators: `=` and those from `+=` to `>>>=`
abbrev pub is_chain_mark : Terminal → Bool
is_chain_mark (Ident i) = false
is_chain_mark (Keyword at k) = false
is_chain_mark (Literal at k) = false
is_chain_mark (Minimum at) = false
is_chain_mark (MinimumLong at) = false
is_chain_mark (Punct at o) =
    nat_eq o 15 || nat_eq o 16 || nat_eq o 17 || nat_eq o 26 || nat_eq o 27 || nat_eq o 12 || (nat_le 39 o && nat_le o 49)

-- `else`, `while`, `for` and `do`
abbrev pub is_chain_keyword : Terminal → Bool
is_chain_keyword t = is_keyword 14 t || is_keyword 49 t || is_keyword 20 t || is_keyword 12 t

-- a chain token, between its neighbours: those above; an `if` not directly behind `else`; a sign, `+` or `-`, not directly
-- behind an operand; a `)` that ends a cast; a `]` directly before `[`
abbrev pub is_chain : Option Terminal → Terminal → Option Terminal → Bool
is_chain before t behind =
    is_chain_mark t
    || is_chain_keyword t
    || (is_keyword 22 t && not (is_there (is_keyword 14) before))
    || ((is_mark 28 t || is_mark 29 t) && not (is_there ends_operand before))
    || (is_mark 1 t && (is_there is_primitive before || is_there follows_cast behind))
    || (is_mark 5 t && is_there (is_mark 4) behind)

-- the load, and what the open brackets pushed, the last one first
pub record Nesting : Type 0 where
  pub load : ℕ
  pub stack : List Opening

-- 0 for an empty stack, and else one more than its top
abbrev pub base : List Opening → ℕ
base [] = 0
base (o ∷ os) = o.load + 1

-- a `{` directly behind `]`, which begins the list of a new array
abbrev pub begins_list : Option Terminal → Terminal → Bool
begins_list before t = is_mark 2 t && is_there (is_mark 5) before

-- an opening bracket pushes the load, with whether it begins a list, and adds one
abbrev pub opens : Option Terminal → Terminal → Nesting → Nesting
opens before t n = record { load = n.load + 1; stack = record { load = n.load; is_list = begins_list before t } ∷ n.stack }

-- A closing bracket pops, and the load is what it popped. A `}` then sets the load to the base, unless a `{` directly behind `]`
-- pushed, or `else` or `while` comes next. (Where no bracket is open, `after` decides.)
abbrev pub closes : Terminal → Option Terminal → ℕ → List Opening → Nesting
closes t behind load [] = record { load = load; stack = [] }
closes t behind load (o ∷ os) = record {
  load = if is_mark 3 t && not (o.is_list || is_there goes_on behind) then base os else o.load;
  stack = os;
}

-- a `,` sets the load to the base, and so does a `;` unless `else` or `while` comes next
abbrev pub ends_part : Terminal → Option Terminal → Bool
ends_part t behind = is_mark 7 t || (is_mark 6 t && not (is_there goes_on behind))

-- what brackets, `,` and `;` do
abbrev pub moves : Option Terminal → Terminal → Option Terminal → Nesting → Nesting
moves before t behind n =
    if is_opening t then opens before t n
    else if is_closing t then closes t behind n.load n.stack
    else if ends_part t behind then record { load = base n.stack; stack = n.stack }
    else n

-- no bracket is open
abbrev pub is_empty : List Opening → Bool
is_empty [] = true
is_empty (o ∷ os) = false

-- a closing bracket where no bracket is open
abbrev pub is_unmatched : Terminal → List Opening → Bool
is_unmatched t stack = is_closing t && is_empty stack

-- The load and the stack after a terminal between its neighbours: a chain token adds one after all else. A closing bracket where
-- no bracket is open changes nothing at all.
abbrev pub after : Option Terminal → Terminal → Option Terminal → Nesting → Nesting
after before t behind n =
    if is_unmatched t n.stack then n
    else (
    let m = moves before t behind n in
    record { load = if is_chain before t behind then m.load + 1 else m.load; stack = m.stack })

-- the terminal that comes next
abbrev pub first : List Terminal → Option Terminal
first [] = None
first (t ∷ ts) = Some t

-- the load after each terminal, behind one before them
abbrev pub loads_from : Option Terminal → Nesting → List Terminal → List ℕ
loads_from before n [] = []
loads_from before n (t ∷ ts) = let now = after before t (first ts) n in now.load ∷ loads_from (Some t) now ts

-- the load is 0 before the first terminal, and the stack is empty
abbrev pub outside : Nesting
outside = record { load = 0; stack = [] }

-- the load after each terminal
abbrev pub loads_of : List Terminal → List ℕ
loads_of ts = loads_from None outside ts

-- the load after the terminal of a number, from 0, is 201
abbrev pub IsDeepAt : List Terminal → ℕ → Type 0
IsDeepAt ts i = slice_get (loads_of ts) i ≡ Some 201

-- the number of the first terminal with load 201
pub record IsFirstDeep (ts : List Terminal) (i : ℕ) : Type 0 where
  pub deep : IsDeepAt ts i
  pub first : (j : ℕ) → j < i → IsDeepAt ts j → ⊥

-- no terminal has load 201
abbrev pub IsShallow : List Terminal → Type 0
IsShallow ts = (i : ℕ) → IsDeepAt ts i → ⊥

-- the terminals of the first list that stand before the second, its rest: each bracket among them is closed among them
pub data IsClosed : List Terminal → List Terminal → Type 0 where
  nothing : {ts : List Terminal} → IsClosed ts ts
  terminal : {t : Terminal} {ts us : List Terminal} → is_opening t ≡ false → is_closing t ≡ false → IsClosed ts us → IsClosed (t ∷ ts) us
  group : {t u : Terminal} {ts us vs : List Terminal}
      → is_opening t ≡ true → IsClosed ts (u ∷ us) → is_closing u ≡ true → IsClosed us vs → IsClosed (t ∷ ts) vs

-- a list begins with so many pairs of square brackets, each directly behind the one before; a pair may hold an index
pub data BeginsWithPairs : ℕ → List Terminal → Type 0 where
  none : {ts : List Terminal} → BeginsWithPairs 0 ts
  pair : {n at end : ℕ} {ts us : List Terminal}
      → IsClosed ts (Punct end 5 ∷ us) → BeginsWithPairs n us → BeginsWithPairs (suc n) (Punct at 4 ∷ ts)

-- nowhere do more than 200 pairs of square brackets follow one another
abbrev pub HasFewBrackets : List Terminal → Type 0
HasFewBrackets [] = Unit
HasFewBrackets (t ∷ ts) = ((n : ℕ) → BeginsWithPairs n (t ∷ ts) → n ≤ 200) × HasFewBrackets ts
