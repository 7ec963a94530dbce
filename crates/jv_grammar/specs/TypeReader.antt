-- Reading names and types.
use Rattle.std.specs.Prelude.{ℕ, zero, suc, Bool, true, false, ◌&&◌, ◌||◌, nat_eq, List, [], ◌∷◌, Option, None, Some, Ok, Err, if◌then◌else◌}
use Rattle.jv_tree.specs.declared.name.Ident.{Ident as Identifier}
use Rattle.jv_tree.specs.TypeTree.{BaseTree, boolean, char, int, long, named, TypeTree}
use Rattle.jv_grammar.specs.declared.terminal.Terminal.{Terminal}
use Rattle.jv_grammar.specs.declared.terminal.Terminal.TheVariants.{Ident, Keyword}
use Rattle.jv_grammar.specs.Marks.{bracket_open, bracket_close, dot, word_boolean, word_char, word_int, word_long}
use Rattle.jv_grammar.specs.TypeGrammar.{is_mark, starts}
use Rattle.jv_grammar.specs.Reader.{Reads, ◌>>=◌, rest_of, starts_ident}

-- an identifier in front of the name that is read behind its dot
abbrev pub dotted : Identifier → Reads (List Identifier) → Reads (List Identifier)
dotted i r = r >>= λ x. Ok (i ∷ x.0, x.1)

-- a name: behind each dot has to stand an identifier
unfoldable pub name_of : List Terminal → Reads (List Identifier)
name_of (Ident i ∷ []) = Ok (i ∷ [], [])
name_of (Ident i ∷ x ∷ xs) = if is_mark dot x then dotted i (name_of xs) else Ok (i ∷ [], x ∷ xs)
name_of xs = Err xs

-- the primitive type of a keyword
abbrev pub prim_of : ℕ → Option BaseTree
prim_of k = if nat_eq k word_boolean then Some boolean else if nat_eq k word_char then Some char else if nat_eq k word_int then Some int else if nat_eq k word_long then Some long else None

-- where a primitive type or a name starts, and which it is
abbrev pub prim_or : ℕ → ℕ → List Terminal → Option BaseTree → Reads (ℕ × BaseTree)
prim_or p k xs None = Err (Keyword p k ∷ xs)
prim_or p k xs (Some b) = Ok ((p, b), xs)

-- a type without its brackets, with where it starts
unfoldable pub base_of : List Terminal → Reads (ℕ × BaseTree)
base_of (Keyword p k ∷ xs) = prim_or p k xs (prim_of k)
base_of (Ident i ∷ xs) = name_of (Ident i ∷ xs) >>= λ r. Ok ((i.at, named r.0), r.1)
base_of xs = Err xs

-- how many pairs of brackets there are, of which there is room for so many: behind each `[` has to stand a `]`
unfoldable pub pairs_of : ℕ → List Terminal → Reads ℕ
pairs_of zero xs = if starts bracket_open xs then Err xs else Ok (zero, xs)
pairs_of (suc room) xs =
    if starts bracket_open xs
    then (if starts bracket_close (rest_of xs) then (pairs_of room (rest_of (rest_of xs)) >>= λ r. Ok (suc r.0, r.1)) else Err (rest_of xs))
    else Ok (zero, xs)

-- a type, with at most 200 pairs of brackets
unfoldable pub ty_of : List Terminal → Reads TypeTree
ty_of xs = base_of xs >>= λ r. pairs_of 200 r.1 >>= λ s. Ok (record { at = r.0.0; base = r.0.1; dims = s.0 }, s.1)

-- a type without its brackets is a name
abbrev pub is_named : BaseTree → Bool
is_named (named ids) = true
is_named b = false

-- a type is a primitive type without brackets
abbrev pub is_bare : TypeTree → Bool
is_bare r = if is_named r.base then false else nat_eq r.dims zero

-- a type that is no bare primitive; else what stands behind it is refused
unfoldable pub reference_of : List Terminal → Reads TypeTree
reference_of xs = ty_of xs >>= λ r. if is_bare r.0 then Err r.1 else Ok r

-- the terminals begin with a pair of brackets
abbrev pub starts_pair : List Terminal → Bool
starts_pair xs = starts bracket_open xs && starts bracket_close (rest_of xs)

-- what is read has an identifier or a pair of brackets behind it
abbrev pub is_declared : Reads (List Identifier) → Bool
is_declared (Ok r) = starts_ident r.1 || starts_pair r.1
is_declared (Err e) = false

-- the keyword is that of a primitive type
abbrev pub is_prim : Option BaseTree → Bool
is_prim None = false
is_prim (Some b) = true

-- the terminals begin a declaration: a primitive type, or a name and behind it an identifier or a pair of brackets
unfoldable pub declares : List Terminal → Bool
declares (Keyword p k ∷ xs) = is_prim (prim_of k)
declares (Ident i ∷ xs) = is_declared (name_of (Ident i ∷ xs))
declares xs = false
