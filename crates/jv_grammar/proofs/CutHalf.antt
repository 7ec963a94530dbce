-- A front that ends in a name, behind a dot of it, or behind a `[` or a `)` that stands behind it: a test that looks behind the name may not
-- see what it looks for in the front, and an expression is read to the end of the front.
use Rattle.std.proofs.Common.{◌≡◌, ℕ, ◌⊎◌, inl, inr, ◌&&◌, ◌||◌, not, Bool, true, false, cond, nat_eq, List, [], ◌∷◌, ◌++◌, length, arith, refl, sym, ap, subst, Ok, Err}
use Rattle.jv_tree.specs.declared.name.Ident.{Ident as Identifier}
use Rattle.jv_grammar.specs.declared.terminal.Terminal.{Terminal}
use Rattle.jv_grammar.specs.declared.terminal.Terminal.TheVariants.{Ident, Keyword, Literal, Minimum, MinimumLong, Punct}
use Rattle.jv_grammar.specs.Marks.{paren_open, paren_close, bracket_open, bracket_close, dot}
use Rattle.jv_grammar.specs.TypeGrammar.{is_mark, starts}
use Rattle.jv_grammar.specs.ExprGrammar.{begins_plain}
use Rattle.jv_grammar.specs.Reader.{Reads, rest_of, starts_ident}
use Rattle.jv_grammar.specs.TypeReader.{dotted, name_of, starts_pair, is_declared}
use Rattle.jv_grammar.specs.ExprReader.{run_of, is_cast}
use Rattle.jv_grammar.proofs.Ending.{Ends, IsCut, ends, gives, refuses}
use Rattle.jv_grammar.proofs.Read.{ok_is, err_ok, mark_is}
use Rattle.jv_grammar.proofs.Heads.{Run}

abbrev pub NameRead : Type 0
NameRead = Reads (List Identifier)

abbrev pub reads_as : List Identifier → List Terminal → NameRead
reads_as ids xs = Ok (ids, xs)

left_is : {ids ids' : List Identifier} {xs ys : List Terminal} → reads_as ids xs ≡ reads_as ids' ys → xs ≡ ys
left_is e = ap (λ (z : List Identifier × List Terminal). z.1) (ok_is e)

-- how the name is read; a `)` behind it is of interest to a cast alone
pub data IsHalfRead : Bool → NameRead → Type 0 where
  to_end : {c : Bool} {r : NameRead} → Ends r → IsHalfRead c r
  to_open : {c : Bool} {r : NameRead} {ids : List Identifier} {p : ℕ} → r ≡ reads_as ids (Punct p bracket_open ∷ []) → IsHalfRead c r
  to_close : {r : NameRead} {ids : List Identifier} {p : ℕ} → r ≡ reads_as ids (Punct p paren_close ∷ []) → IsHalfRead true r

-- a test of what is read gives the same of front and whole, or the front is half
abbrev pub IsTold : Bool → (NameRead → Bool) → NameRead → NameRead → Type 0
IsTold c test q r = (test r ≡ test q) ⊎ ((test q ≡ false) × IsHalfRead c q)

no_cast_end : (q : NameRead) → Ends q → is_cast q ≡ false
no_cast_end (Ok r) e = ap (λ z. starts_pair z || (starts paren_close z && begins_plain (rest_of z))) e
no_cast_end (Err e) h = refl

no_decl_end : (q : NameRead) → Ends q → is_declared q ≡ false
no_decl_end (Ok r) e = ap (λ z. starts_ident z || starts_pair z) e
no_decl_end (Err e) h = refl

abbrev one_left : List Identifier → Terminal → NameRead
one_left ids y = Ok (ids, y ∷ [])

alone_cast : (ids : List Identifier) (y : Terminal) (ws : List Terminal) (u v : Bool) → is_mark bracket_open y ≡ u → is_mark paren_close y ≡ v
    → ((u && starts bracket_close ws) || (v && begins_plain ws) ≡ (u && false) || (v && false)) ⊎ (((u && false) || (v && false) ≡ false) × IsHalfRead true (one_left ids y))
alone_cast ids y ws true v e e' = let m = mark_is bracket_open y e in inr (by v, to_open {p = m.0} (ap (one_left ids) m.1))
  where
    by : (v : Bool) → (false || (v && false)) ≡ false
    by true = refl
    by false = refl
alone_cast ids y ws false true e e' = let m = mark_is paren_close y e' in inr (refl, to_close {p = m.0} (ap (one_left ids) m.1))
alone_cast ids y ws false false e e' = inl refl

cast_left : (ids : List Identifier) (ys ws : List Terminal) → IsTold true is_cast (Ok (ids, ys)) (Ok (ids, ys ++ ws))
cast_left ids [] ws = inr (refl, to_end refl)
cast_left ids (y ∷ []) ws = alone_cast ids y ws (is_mark bracket_open y) (is_mark paren_close y) refl refl
cast_left ids (y ∷ z ∷ ys) ws = inl refl

pub told_cast : {ws : List Terminal} {q r : NameRead} → IsCut ws q r → IsTold true is_cast q r
told_cast (ends {q} e l) = inr (no_cast_end q e, to_end e)
told_cast {ws} (gives {x} {ys}) = cast_left x ys ws
told_cast refuses = inl refl

alone_decl : (ids : List Identifier) (y : Terminal) (b u : Bool) → is_mark bracket_open y ≡ u → ((u && b) ≡ (u && false)) ⊎ (((u && false) ≡ false) × IsHalfRead false (one_left ids y))
alone_decl ids y b true e = let m = mark_is bracket_open y e in inr (refl, to_open {p = m.0} (ap (one_left ids) m.1))
alone_decl ids y b false e = inl refl

decl_left : (ids : List Identifier) (ys ws : List Terminal) → IsTold false is_declared (Ok (ids, ys)) (Ok (ids, ys ++ ws))
decl_left ids [] ws = inr (refl, to_end refl)
decl_left ids (Ident i ∷ []) ws = inl refl
decl_left ids (Punct p o ∷ []) ws = alone_decl ids (Punct p o) (starts bracket_close ws) (nat_eq o bracket_open) refl
decl_left ids (Keyword p k ∷ []) ws = inl refl
decl_left ids (Literal p l ∷ []) ws = inl refl
decl_left ids (Minimum p ∷ []) ws = inl refl
decl_left ids (MinimumLong p ∷ []) ws = inl refl
decl_left ids (Ident i ∷ z ∷ ys) ws = inl refl
decl_left ids (Punct p o ∷ z ∷ ys) ws = inl refl
decl_left ids (Keyword p k ∷ z ∷ ys) ws = inl refl
decl_left ids (Literal p l ∷ z ∷ ys) ws = inl refl
decl_left ids (Minimum p ∷ z ∷ ys) ws = inl refl
decl_left ids (MinimumLong p ∷ z ∷ ys) ws = inl refl

pub told_decl : {ws : List Terminal} {q r : NameRead} → IsCut ws q r → IsTold false is_declared q r
told_decl (ends {q} e l) = inr (no_decl_end q e, to_end e)
told_decl {ws} (gives {x} {ys}) = decl_left x ys ws
told_decl refuses = inl refl

-- what stands behind the run of a half name
pub data IsHalfLeft : Bool → List Terminal → Type 0 where
  left_none : {c : Bool} → IsHalfLeft c []
  left_dot : {c : Bool} {p : ℕ} → IsHalfLeft c (Punct p dot ∷ [])
  left_open : {c : Bool} {p : ℕ} → IsHalfLeft c (Punct p bracket_open ∷ [])
  left_close : {p : ℕ} → IsHalfLeft true (Punct p paren_close ∷ [])

abbrev IsHalfRun : Bool → List Terminal → Type 0
IsHalfRun c xs = IsHalfLeft c (run_of xs).1 × (starts paren_open xs ≡ false)

undotted : {c : Bool} (i : Identifier) (r : NameRead) → IsHalfRead c (dotted i r) → IsHalfRead c r
undotted i (Ok r) (to_end e) = to_end e
undotted i (Ok r) (to_open {p} e) = to_open {p = p} (ap (reads_as r.0) (left_is e))
undotted i (Ok r) (to_close {p} e) = to_close {p = p} (ap (reads_as r.0) (left_is e))
undotted i (Err x) (to_end e) = to_end e
undotted i (Err x) (to_open e) = absurd (err_ok e)
undotted i (Err x) (to_close e) = absurd (err_ok e)

-- a name that stops before two terminals is not half, nor is one that is refused
no_two : {x y z : Terminal} {ys : List Terminal} → x ∷ y ∷ ys ≡ z ∷ [] → ⊥
no_two h = let k = ap length h in absurd (omega arith)

two_left : {c : Bool} {ids : List Identifier} (x y : Terminal) (ys : List Terminal) → IsHalfRead c (reads_as ids (x ∷ y ∷ ys)) → ⊥
two_left x y ys (to_end e) = let k = ap length e in absurd (omega arith)
two_left x y ys (to_open e) = no_two (left_is e)
two_left x y ys (to_close e) = no_two (left_is e)

refused_left : {c : Bool} (i : Identifier) (y : Terminal) (ys : List Terminal) → IsHalfRead c (dotted i (Err (y ∷ ys))) → ⊥
refused_left i y ys (to_end e) = let k = ap length e in absurd (omega arith)
refused_left i y ys (to_open e) = err_ok e
refused_left i y ys (to_close e) = err_ok e

first_is : {x y : Terminal} → x ∷ [] ≡ y ∷ [] → x ≡ y
first_is h = cc

lone_left : {c : Bool} (i : Identifier) (x : Terminal) → IsHalfRead c (one_left (i ∷ []) x) → IsHalfLeft c (x ∷ []) × (is_mark paren_open x ≡ false)
lone_left i x (to_end e) = let k = ap length e in absurd (omega arith)
lone_left {c} i x (to_open {ids} {p} e) = let m = first_is (left_is e) in subst (λ z. IsHalfLeft c (z ∷ []) × (is_mark paren_open z ≡ false)) (sym m) (left_open, refl)
lone_left i x (to_close {ids} {p} e) = let m = first_is (left_is e) in subst (λ z. IsHalfLeft true (z ∷ []) × (is_mark paren_open z ≡ false)) (sym m) (left_close, refl)

neither : {c : Bool} (i : Identifier) (x y : Terminal) (ys : List Terminal) (b : Bool) → IsHalfRead c (cond b (dotted i (Err (y ∷ ys))) (reads_as (i ∷ []) (x ∷ y ∷ ys))) → ⊥
neither i x y ys true h = refused_left i y ys h
neither i x y ys false h = two_left x y ys h

pub half_run : {c : Bool} (i : Identifier) (xs : List Terminal) → IsHalfRead c (name_of (Ident i ∷ xs)) → IsHalfRun c xs
unfolding name_of run_of
half_run i [] h = (left_none, refl)
half_run {c} i (x ∷ []) h = by (is_mark dot x) refl h
  where
    by : (b : Bool) → is_mark dot x ≡ b → IsHalfRead c (cond b (Err []) (one_left (i ∷ []) x)) → IsHalfLeft c (x ∷ []) × (is_mark paren_open x ≡ false)
    by true e h' = let m = mark_is dot x e in subst (λ z. IsHalfLeft c (z ∷ []) × (is_mark paren_open z ≡ false)) (sym m.1) (left_dot, refl)
    by false e h' = lone_left i x h'
half_run {c} i (x ∷ Ident j ∷ ys) h = by (is_mark dot x) refl h (λ s. half_run j ys s)
  where
    by : (b : Bool) → is_mark dot x ≡ b → IsHalfRead c (cond b (dotted i (name_of (Ident j ∷ ys))) (reads_as (i ∷ []) (x ∷ Ident j ∷ ys)))
        → (IsHalfRead c (name_of (Ident j ∷ ys)) → IsHalfRun c ys) → IsHalfRun c (x ∷ Ident j ∷ ys)
    by true e h' go =
        let m = mark_is dot x e in
        let r = go (undotted i (name_of (Ident j ∷ ys)) h') in
        subst (λ z. IsHalfRun c (z ∷ Ident j ∷ ys)) (sym m.1) (subst (λ b. IsHalfLeft c (cond {A = Run} (not b) (j ∷ (run_of ys).0, (run_of ys).1) ([], Punct m.0 dot ∷ Ident j ∷ ys)).1) (sym r.1) r.0, refl)
    by false e h' go = absurd (two_left x (Ident j) ys h')
half_run {c} i (x ∷ y ∷ ys) h = absurd (neither i x y ys (is_mark dot x) h)
