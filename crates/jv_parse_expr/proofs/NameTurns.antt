-- Turns of the loops that read a name.
use Rattle.std.proofs.Common.{◌≡◌, Bool, true, false, List, [], ◌∷◌, ◌++◌, ap, sym, ◌∙◌, refl, true≢false, Ok, Err, Some, None, if◌then◌else◌, append_assoc}
use Rattle.std.proofs.lemmas.List.{append-nil}
use Rattle.jv_tree.specs.declared.name.Ident.{Ident as Identifier}
use Rattle.jv_grammar.specs.declared.terminal.Terminal.{Terminal}
use Rattle.jv_grammar.specs.declared.terminal.Terminal.TheVariants.{Ident, Keyword, Literal, Minimum, MinimumLong, Punct}
use Rattle.jv_grammar.specs.Marks.{dot}
use Rattle.jv_grammar.specs.TypeGrammar.{is_mark, starts}
use Rattle.jv_grammar.specs.Reader.{Reads, ◌>>=◌, rest_of, starts_ident}
use Rattle.jv_grammar.specs.TypeReader.{name_of, dotted}
use Rattle.jv_grammar.specs.ExprReader.{run_of}
use Rattle.jv_parse_expr.specs.View.{past, headed}

-- identifiers that are read, with the terminals behind them
abbrev pub some_ids : List Terminal → List Identifier → Reads (List Identifier)
some_ids ys ids = Ok (ids, ys)

-- what stands behind an identifier of a name
abbrev pub dots : List Terminal → Reads (List Identifier)
dots xs = if starts dot xs then name_of (rest_of xs) else some_ids xs []

-- what is read already, in front of what is read behind it
abbrev pub ids_onto : List Identifier → Reads (List Identifier) → Reads (List Identifier)
ids_onto front r = r >>= λ s. Ok (front ++ s.0, s.1)

dotted_if : (b : Bool) (i : Identifier) (r : Reads (List Identifier)) (ys : List Terminal)
    → (if b then dotted i r else some_ids ys (i ∷ [])) ≡ dotted i (if b then r else some_ids ys [])
dotted_if true i r ys = refl
dotted_if false i r ys = refl

pub name_first : (i : Identifier) (xs : List Terminal) → name_of (Ident i ∷ xs) ≡ dotted i (dots xs)
unfolding name_of
name_first i [] = refl
name_first i (x ∷ xs) = dotted_if (is_mark dot x) i (name_of xs) (x ∷ xs)

pub no_name : (xs : List Terminal) → starts_ident xs ≡ false → name_of xs ≡ Err xs
unfolding name_of
no_name [] h = refl
no_name (Ident i ∷ xs) h = absurd (true≢false h)
no_name (Keyword p k ∷ xs) h = refl
no_name (Literal p l ∷ xs) h = refl
no_name (Minimum p ∷ xs) h = refl
no_name (MinimumLong p ∷ xs) h = refl
no_name (Punct p o ∷ xs) h = refl

push_onto : (ids : List Identifier) (i : Identifier) (r : Reads (List Identifier)) → ids_onto (ids ++ i ∷ []) r ≡ ids_onto ids (dotted i r)
push_onto ids i (Ok s) = ap (some_ids s.1) (append_assoc ids (i ∷ []) s.0)
push_onto ids i (Err e) = refl

pub name_begins : (i : Identifier) (xs ys : List Terminal) (ids : List Identifier) → xs ≡ Ident i ∷ ys → ids ≡ i ∷ [] → ids_onto ids (dots ys) ≡ name_of xs
name_begins i xs ys ids at is = rw (at, is) (push_onto [] i (dots ys) ∙ sym (name_first i ys ∙ onto_nil (dotted i (dots ys))))
  where
    onto_nil : (r : Reads (List Identifier)) → r ≡ ids_onto [] r
    onto_nil (Ok s) = refl
    onto_nil (Err e) = refl

pub name_next : (ids : List Identifier) (i : Identifier) (xs ts ys : List Terminal) → starts dot xs ≡ true → ts ≡ rest_of xs → ts ≡ Ident i ∷ ys
    → ids_onto (ids ++ i ∷ []) (dots ys) ≡ ids_onto ids (dots xs)
name_next ids i xs ts ys s at is = push_onto ids i (dots ys) ∙ ap (ids_onto ids) (sym (rw (s, ← at, is) (name_first i ys)))

pub name_refused : (ids : List Identifier) (xs ts : List Terminal) → starts dot xs ≡ true → ts ≡ rest_of xs → starts_ident ts ≡ false → ids_onto ids (dots xs) ≡ Err ts
name_refused ids xs ts s at none = rw (s, ← at, no_name ts none) refl

pub name_done : (ids : List Identifier) (xs : List Terminal) → starts dot xs ≡ false → ids_onto ids (dots xs) ≡ some_ids xs ids
name_done ids xs s = rw s (ap (some_ids xs) (append-nil ids))

-- the terminals behind a name alone
past_dotted : (i : Identifier) (r : Reads (List Identifier)) → past (dotted i r) ≡ past r
past_dotted i (Ok s) = refl
past_dotted i (Err e) = refl

pub past_begins : (i : Identifier) (xs ys : List Terminal) → xs ≡ Ident i ∷ ys → past (dots ys) ≡ past (name_of xs)
past_begins i xs ys at = sym (rw (at, name_first i ys) (past_dotted i (dots ys)))

pub past_next : (i : Identifier) (xs ts ys : List Terminal) → starts dot xs ≡ true → ts ≡ rest_of xs → ts ≡ Ident i ∷ ys → past (dots ys) ≡ past (dots xs)
past_next i xs ts ys s at is = sym (rw (s, ← at, is, name_first i ys) (past_dotted i (dots ys)))

pub past_refused : (xs ts : List Terminal) → starts dot xs ≡ true → ts ≡ rest_of xs → starts_ident ts ≡ false → past (dots xs) ≡ None
past_refused xs ts s at none = rw (s, ← at, no_name ts none) refl

pub past_done : (xs : List Terminal) → starts dot xs ≡ false → past (dots xs) ≡ Some xs
past_done xs s = rw s refl

-- a run of identifiers as a reader's result
abbrev pub run_on : List Identifier × List Terminal → Reads (List Identifier)
run_on r = Ok r

pub run_begins : (i : Identifier) (xs : List Terminal) (ids : List Identifier) → ids ≡ i ∷ [] → ids_onto ids (run_on (run_of xs)) ≡ headed i (run_of xs)
run_begins i xs ids is = rw is refl

pub run_next : (ids : List Identifier) (i : Identifier) (xs ys : List Terminal) → run_of xs ≡ (i ∷ (run_of ys).0, (run_of ys).1)
    → ids_onto (ids ++ i ∷ []) (run_on (run_of ys)) ≡ ids_onto ids (run_on (run_of xs))
run_next ids i xs ys h = push_onto ids i (run_on (run_of ys)) ∙ ap (λ r. ids_onto ids (run_on r)) (sym h)

pub run_done : (ids : List Identifier) (xs : List Terminal) → run_of xs ≡ ([], xs) → ids_onto ids (run_on (run_of xs)) ≡ some_ids xs ids
run_done ids xs h = ap (λ r. ids_onto ids (run_on r)) h ∙ ap (some_ids xs) (append-nil ids)
