-- The numbers of texts among names.
use Rattle.std.proofs.Common.{◌≡◌, ℕ, zero, suc, ◌+◌, ◌<◌, ◌≤◌, Bool, true, false, cond, List, [], ◌∷◌, ◌++◌, map, take, length, get_or, Some, None, Result, Ok, Err, refl, sym, ap, ◌∙◌, subst, arith, true≢false, filter, inl, inr}
use Rattle.std.proofs.Math.Seq.{take-suc}
use Rattle.std.proofs.lemmas.List.{map-append, length-append}
use Rattle.std.proofs.lemmas.Bool.{cases_Bool}
use Rattle.std.proofs.lemmas.Slice.Eq.{bytes_eq-Decides}
use Rattle.std.specs.List.{list_any, fold, All, AllByRecursion}
use Rattle.std.specs.Prelude.{slice_get, nat_eq}
use Rattle.std.proofs.lemmas.List.Elements.{All-head, All-tail}
use Rattle.std.specs.Result.{OnErr}
use Rattle.std.specs.Str.{bytes_eq}
use Rattle.jv_lex.specs.declared.token.Token.{Token}
use Rattle.jv_lex.specs.declared.token.TokenKind.{TokenKind}
use Rattle.jv_lex.specs.declared.token.TokenKind.TheVariants as k
use Rattle.jv_tree.specs.Names.{AreDistinct, with_text}
use Rattle.jv_grammar.specs.declared.terminal.Terminal.{Terminal}
use Rattle.jv_grammar.specs.declared.terminal.LiteralKind.TheVariants as l
use Rattle.jv_grammar.specs.declared.terminal.Terminal.TheVariants as t
use Rattle.jv_parse.specs.Identifiers.{AreNumberedTerminals}
use Rattle.jv_parse.specs.Naming.{text_of, is_identifier, names_with, number_of, terminal_at, terminal_of, IsKnown, IsNamed}

same_text : {x y : List ℕ} → Some x ≡ Some y → x ≡ y
same_text h = cc

none_some : {x : List ℕ} → None ≡ Some x → ⊥
none_some h = cc

number_found : (names : List (List ℕ)) (i : ℕ) (x : List ℕ) → slice_get names i ≡ Some x → slice_get names (number_of names x) ≡ Some x
number_found [] i x h = h
number_found (y ∷ ys) zero x h =
    let e : x ≡ y = sym (same_text h) in
    ap (λ b. slice_get (y ∷ ys) (cond b 0 (suc (number_of ys x)))) ((bytes_eq-Decides x y).1 e) ∙ h
number_found (y ∷ ys) (suc i) x h = elim (cases_Bool (bytes_eq x y)) [
  | inl e ↦ ap (λ b. slice_get (y ∷ ys) (cond b 0 (suc (number_of ys x)))) e ∙ ap Some (sym ((bytes_eq-Decides x y).0 e))
  | inr e ↦ ap (λ b. slice_get (y ∷ ys) (cond b 0 (suc (number_of ys x)))) e ∙ number_found ys i x h
]

-- where no two places hold one text, a place is the number of its text
pub number_is : (names : List (List ℕ)) → AreDistinct names → (i : ℕ) (x : List ℕ) → slice_get names i ≡ Some x → number_of names x ≡ i
number_is names d i x h = d (number_of names x) i x (number_found names i x h) h

-- a known text keeps its number when names come behind
number_front : (names more : List (List ℕ)) (x : List ℕ) → IsKnown names x → number_of (names ++ more) x ≡ number_of names x
number_front [] more x h = absurd (none_some h.1)
number_front (y ∷ ys) more x h = elim (cases_Bool (bytes_eq x y)) [
  | inl e ↦ ap (λ b. cond b 0 (suc (number_of (ys ++ more) x))) e ∙ sym (ap (λ b. cond b 0 (suc (number_of ys x))) e)
  | inr e ↦ ap (λ b. cond b 0 (suc (number_of (ys ++ more) x))) e ∙ ap suc (number_front ys more x (behind h.0 h.1 e)) ∙ sym (ap (λ b. cond b 0 (suc (number_of ys x))) e)
]
  where
    behind : (i : ℕ) → slice_get (y ∷ ys) i ≡ Some x → bytes_eq x y ≡ false → IsKnown ys x
    behind zero h e = absurd (true≢false (sym ((bytes_eq-Decides x y).1 (sym (same_text h))) ∙ e))
    behind (suc i) h e = (i, h)

known_front : (names more : List (List ℕ)) (x : List ℕ) (i : ℕ) → slice_get names i ≡ Some x → slice_get (names ++ more) i ≡ Some x
known_front [] more x i h = absurd (none_some h)
known_front (y ∷ ys) more x zero h = h
known_front (y ∷ ys) more x (suc i) h = known_front ys more x i h

-- what names with one text more keep of a known text
pub number_kept : (names : List (List ℕ)) (t x : List ℕ) → IsKnown names x → number_of (with_text names t) x ≡ number_of names x
number_kept names t x h = elim (cases_Bool (list_any (bytes_eq t) names)) [
  | inl e ↦ ap (λ b. number_of (cond b names (names ++ t ∷ [])) x) e
  | inr e ↦ ap (λ b. number_of (cond b names (names ++ t ∷ [])) x) e ∙ number_front names (t ∷ []) x h
]

pub known_kept : (names : List (List ℕ)) (t x : List ℕ) → IsKnown names x → IsKnown (with_text names t) x
known_kept names t x h = elim (cases_Bool (list_any (bytes_eq t) names)) [
  | inl e ↦ subst (λ (b : Bool). IsKnown (cond b names (names ++ t ∷ [])) x) (sym e) h
  | inr e ↦ subst (λ (b : Bool). IsKnown (cond b names (names ++ t ∷ [])) x) (sym e) (h.0, known_front names (t ∷ []) x h.0 h.1)
]

-- a terminal is the same with another number, unless it is an identifier's
terminal_same : (kind : TokenKind) (at m n : ℕ) → (is_identifier kind ≡ true → m ≡ n) → terminal_at kind at m ≡ terminal_at kind at n
terminal_same k.Ident at m n h = ap (terminal_at k.Ident at) (h refl)
terminal_same (k.Keyword w) at m n h = refl
terminal_same k.Int at m n h = refl
terminal_same k.Long at m n h = refl
terminal_same k.Minimum at m n h = refl
terminal_same k.MinimumLong at m n h = refl
terminal_same k.Char at m n h = refl
terminal_same k.Str at m n h = refl
terminal_same (k.Punct w) at m n h = refl

-- the names with those of one token
abbrev pub names_after : List ℕ → List (List ℕ) → Token → List (List ℕ)
names_after source names x = cond (is_identifier x.kind) (with_text names (text_of source x)) names

pub names_one : (source : List ℕ) (names : List (List ℕ)) (x : Token) → names_with source names (x ∷ []) ≡ names_after source names x
names_one source names x = elim (cases_Bool (is_identifier x.kind)) [
  | inl e ↦ ap (λ b. fold with_text names (map (text_of source) (cond b (x ∷ []) []))) e ∙ sym (ap (λ b. cond b (with_text names (text_of source x)) names) e)
  | inr e ↦ ap (λ b. fold with_text names (map (text_of source) (cond b (x ∷ []) []))) e ∙ sym (ap (λ b. cond b (with_text names (text_of source x)) names) e)
]

names_next : (source : List ℕ) (names : List (List ℕ)) (x : Token) (xs : List Token) → names_with source names (x ∷ xs) ≡ names_with source (names_after source names x) xs
names_next source names x xs = next (is_identifier x.kind)
  where
    next : (b : Bool) → fold with_text names (map (text_of source) (cond b (x ∷ filter (λ y. is_identifier y.kind) xs) (filter (λ y. is_identifier y.kind) xs))) ≡ names_with source (cond b (with_text names (text_of source x)) names) xs
    next true = refl
    next false = refl

-- the names of two stretches of tokens
pub names_append : (source : List ℕ) (names : List (List ℕ)) (xs ys : List Token) → names_with source names (xs ++ ys) ≡ names_with source (names_with source names xs) ys
names_append source names [] ys = refl
names_append source names (x ∷ xs) ys =
    names_next source names x (xs ++ ys) ∙ names_append source (names_after source names x) xs ys
    ∙ ap (λ ns. names_with source ns ys) (sym (names_next source names x xs))

pub terminal_kept : (source : List ℕ) (names : List (List ℕ)) (t : Token) (x : Token) → IsNamed source names x → terminal_of source (names_after source names t) x ≡ terminal_of source names x
terminal_kept source names t x h = kept (is_identifier t.kind)
  where
    kept : (b : Bool) → terminal_of source (cond b (with_text names (text_of source t)) names) x ≡ terminal_of source names x
    kept true = terminal_same x.kind x.start (number_of (with_text names (text_of source t)) (text_of source x)) (number_of names (text_of source x)) (λ e. number_kept names (text_of source t) (text_of source x) (h e))
    kept false = refl

pub named_kept : (source : List ℕ) (names : List (List ℕ)) (t : Token) (x : Token) → IsNamed source names x → IsNamed source (names_after source names t) x
named_kept source names t x h e = kept (is_identifier t.kind)
  where
    kept : (b : Bool) → IsKnown (cond b (with_text names (text_of source t)) names) (text_of source x)
    kept true = known_kept names (text_of source t) (text_of source x) (h e)
    kept false = h e

-- the terminal of a number that the text has
pub terminal_is : (source : List ℕ) (names : List (List ℕ)) (x : Token) (n : ℕ) → (is_identifier x.kind ≡ true → number_of names (text_of source x) ≡ n) → terminal_at x.kind x.start n ≡ terminal_of source names x
terminal_is source names x n h = sym (terminal_same x.kind x.start (number_of names (text_of source x)) n h)

pub identifier_kind : (kind : TokenKind) → is_identifier kind ≡ true → kind ≡ k.Ident
identifier_kind k.Ident e = refl
identifier_kind (k.Keyword w) e = absurd (true≢false (sym e))
identifier_kind k.Int e = absurd (true≢false (sym e))
identifier_kind k.Long e = absurd (true≢false (sym e))
identifier_kind k.Minimum e = absurd (true≢false (sym e))
identifier_kind k.MinimumLong e = absurd (true≢false (sym e))
identifier_kind k.Char e = absurd (true≢false (sym e))
identifier_kind k.Str e = absurd (true≢false (sym e))
identifier_kind (k.Punct w) e = absurd (true≢false (sym e))

-- what a loop over tokens keeps: the names so far, the terminals so far, and that the identifiers so far are named
abbrev pub IsNamedSoFar : List ℕ → List (List ℕ) → List Token → List (List ℕ) → List Terminal → Type 0
IsNamedSoFar source old front names terminals =
    (names ≡ names_with source old front) × (terminals ≡ map (terminal_of source names) front) × AllByRecursion (IsNamed source names) front

terminals_kept : (source : List ℕ) (names : List (List ℕ)) (x : Token) (front : List Token) → AllByRecursion (IsNamed source names) front
    → map (terminal_of source (names_after source names x)) front ≡ map (terminal_of source names) front
terminals_kept source names x [] h = refl
terminals_kept source names x (y ∷ ys) h =
    ap (λ t. t ∷ map (terminal_of source (names_after source names x)) ys) (terminal_kept source names x y h.0)
    ∙ ap (λ ts. terminal_of source names y ∷ ts) (terminals_kept source names x ys h.1)

all_named : (source : List ℕ) (names : List (List ℕ)) (x : Token) (front : List Token) → AllByRecursion (IsNamed source names) front
    → IsNamed source (names_after source names x) x → AllByRecursion (IsNamed source (names_after source names x)) (front ++ x ∷ [])
all_named source names x [] h n = (n, tt)
all_named source names x (y ∷ ys) h n = (named_kept source names x y h.0, all_named source names x ys h.1 n)

one_further : (source : List ℕ) (old names : List (List ℕ)) (front : List Token) (terminals : List Terminal) (x : Token)
    → IsNamedSoFar source old front names terminals → IsNamed source (names_after source names x) x
    → IsNamedSoFar source old (front ++ x ∷ []) (names_after source names x) (terminals ++ terminal_of source (names_after source names x) x ∷ [])
one_further source old names front terminals x h n = (
  sym (names_append source old front (x ∷ []) ∙ ap (λ ns. names_with source ns (x ∷ [])) (sym h.0) ∙ names_one source names x),
  ap (λ ts. ts ++ terminal_of source (names_after source names x) x ∷ []) (h.1 ∙ sym (terminals_kept source names x front h.2))
      ∙ sym (map-append (terminal_of source (names_after source names x)) front (x ∷ [])),
  all_named source names x front h.2 n,
)

pub take-next : (tokens : List Token) (i : ℕ) (d : Token) → i < length tokens → take (i + 1) tokens ≡ take i tokens ++ get_or tokens i d ∷ []
take-next tokens i d below = ap (λ k. take k tokens) (let s : i + 1 ≡ suc i = omega arith in s) ∙ take-suc tokens i d below

-- one token more
pub next_named : (source : List ℕ) (old names new : List (List ℕ)) (tokens : List Token) (i : ℕ) (terminals : List Terminal) (d : Token) (t : Terminal)
    → IsNamedSoFar source old (take i tokens) names terminals → i < length tokens
    → new ≡ names_with source names (get_or tokens i d ∷ []) → IsNamed source new (get_or tokens i d) → t ≡ terminal_of source new (get_or tokens i d)
    → IsNamedSoFar source old (take (i + 1) tokens) new (terminals ++ t ∷ [])
next_named source old names new tokens i terminals d t h below e n is =
    let x : Token = get_or tokens i d in
    let after : new ≡ names_after source names x = e ∙ names_one source names x in
    let front : take (i + 1) tokens ≡ take i tokens ++ x ∷ [] = take-next tokens i d below in
    let named : IsNamed source (names_after source names x) x = subst (λ (ns : List (List ℕ)). IsNamed source ns x) after n in
    let all : IsNamedSoFar source old (take i tokens ++ x ∷ []) (names_after source names x) (terminals ++ terminal_of source (names_after source names x) x ∷ []) = one_further source old names (take i tokens) terminals x h named in
    subst (λ (ys : List Token). IsNamedSoFar source old ys new (terminals ++ t ∷ [])) (sym front)
    (subst (λ (u : Terminal). IsNamedSoFar source old (take i tokens ++ x ∷ []) new (terminals ++ u ∷ [])) (sym is)
    (subst (λ (ns : List (List ℕ)). IsNamedSoFar source old (take i tokens ++ x ∷ []) ns (terminals ++ terminal_of source ns x ∷ [])) (sym after) all))

-- the names have room for one more after each token
pub names_grow : (source : List ℕ) (names new : List (List ℕ)) (x : Token) → new ≡ names_with source names (x ∷ []) → length new ≤ length names + 1
names_grow source names new x e = let g : new ≡ names_after source names x = e ∙ names_one source names x in grown (is_identifier x.kind) (list_any (bytes_eq (text_of source x)) names) g
  where
    grown : (b c : Bool) → new ≡ cond b (cond c names (names ++ text_of source x ∷ [])) names → length new ≤ length names + 1
    grown true true g = let l : length new ≡ length names = ap length g in omega (arith, l)
    grown true false g = let l : length new ≡ length (names ++ text_of source x ∷ []) = ap length g in let m : length (names ++ text_of source x ∷ []) ≡ length names + 1 = length-append names (text_of source x ∷ []) in omega (arith, l, m)
    grown false c g = let l : length new ≡ length names = ap length g in omega (arith, l)

pub on_err : {A E X : Type 0} (r : Result A E) → X → OnErr r X
on_err (Ok a) x = tt
on_err (Err e) x = x

-- the number of a known text is that of a name
some_below : (xs : List (List ℕ)) (i : ℕ) (x : List ℕ) → slice_get xs i ≡ Some x → i < length xs
some_below [] i x h = absurd (none_some h)
some_below (y ∷ ys) zero x h = omega arith
some_below (y ∷ ys) (suc i) x h = omega (arith, some_below ys i x h)

number_below : (names : List (List ℕ)) (x : List ℕ) → IsKnown names x → number_of names x < length names
number_below names x h = some_below names (number_of names x) x (number_found names h.0 x h.1)

-- a terminal in front of numbered ones
numbered_word : (n at w : ℕ) (a b c : Bool) (xs : List Terminal) → AreNumberedTerminals n xs
    → AreNumberedTerminals n (cond a (t.Literal at (l.Bool true)) (cond b (t.Literal at (l.Bool false)) (cond c (t.Literal at l.Null) (t.Keyword at w))) ∷ xs)
numbered_word n at w true b c xs h = h
numbered_word n at w false true c xs h = h
numbered_word n at w false false true xs h = h
numbered_word n at w false false false xs h = h

numbered_front : (kind : TokenKind) (at m n : ℕ) (xs : List Terminal) → (is_identifier kind ≡ true → m < n) → AreNumberedTerminals n xs → AreNumberedTerminals n (terminal_at kind at m ∷ xs)
numbered_front k.Ident at m n xs i h = (i refl, h)
numbered_front (k.Keyword w) at m n xs i h = numbered_word n at w (nat_eq w 50) (nat_eq w 51) (nat_eq w 52) xs h
numbered_front k.Int at m n xs i h = h
numbered_front k.Long at m n xs i h = h
numbered_front k.Minimum at m n xs i h = h
numbered_front k.MinimumLong at m n xs i h = h
numbered_front k.Char at m n xs i h = h
numbered_front k.Str at m n xs i h = h
numbered_front (k.Punct w) at m n xs i h = h

-- where the identifiers among tokens are named, those among their terminals are numbered
pub numbered_terminals : (source : List ℕ) (names : List (List ℕ)) (tokens : List Token) → All (IsNamed source names) tokens
    → AreNumberedTerminals (length names) (map (terminal_of source names) tokens)
numbered_terminals source names [] h = tt
numbered_terminals source names (x ∷ xs) h =
    numbered_front x.kind x.start (number_of names (text_of source x)) (length names) (map (terminal_of source names) xs)
    (λ i. number_below names (text_of source x) (All-head (IsNamed source names) x xs h i))
    (numbered_terminals source names xs (All-tail (IsNamed source names) x xs h))
