-- The name of a head is the longest run of identifiers and dots.
use Rattle.std.proofs.Common.{◌≡◌, ◌&&◌, not, Bool, true, false, cond, List, [], ◌∷◌, refl, sym, ap, ◌∙◌, subst, true≢false}
use Rattle.jv_tree.specs.declared.name.Ident.{Ident as Identifier}
use Rattle.jv_grammar.specs.declared.terminal.Terminal.{Terminal}
use Rattle.jv_grammar.specs.declared.terminal.Terminal.TheVariants.{Ident, Punct}
use Rattle.jv_grammar.specs.Marks.{paren_open, dot}
use Rattle.jv_grammar.specs.TypeGrammar.{is_mark, starts, DerivesName, name_one, name_more}
use Rattle.jv_grammar.specs.ExprGrammar.{goes_on, name_ends}
use Rattle.jv_grammar.specs.Reader.{rest_of}
use Rattle.jv_grammar.specs.ExprReader.{named_on, run_of}
use Rattle.jv_grammar.proofs.Read.{both, not_true, mark_is}

abbrev pub Run : Type 0
Run = List Identifier × List Terminal

abbrev pub halts : List Terminal → Run
halts xs = ([], xs)

abbrev with_rest : List Terminal → List Identifier → Run
with_rest ys ids = (ids, ys)

-- a run stops where a name ends
pub run_ends : (xs : List Terminal) → name_ends xs ≡ true → run_of xs ≡ halts xs
unfolding run_of
run_ends [] h = refl
run_ends (x ∷ []) h = refl
run_ends (x ∷ y ∷ xs) h =
    let no = not_true _ (both (not (is_mark paren_open x)) (not (is_mark dot x && goes_on (y ∷ xs))) h).1 in
    rw no refl

pub ends_open : (xs : List Terminal) → name_ends xs ≡ true → starts paren_open xs ≡ false
ends_open [] h = refl
ends_open (x ∷ xs) h = not_true _ (both (not (is_mark paren_open x)) (not (is_mark dot x && goes_on xs)) h).0

-- what reading a name gives: its first identifier, and the run behind it
pub record Runs (ids : List Identifier) (xs ys : List Terminal) : Type 0 where
  pub i : Identifier
  pub more_ids : List Identifier
  pub behind : List Terminal
  pub first : xs ≡ Ident i ∷ behind
  pub ids_are : ids ≡ i ∷ more_ids
  pub run_is : run_of behind ≡ (more_ids, ys)
  pub no_call : starts paren_open behind ≡ false

pub name_runs : {ids : List Identifier} {xs ys : List Terminal} → DerivesName ids xs ys → name_ends ys ≡ true → Runs ids xs ys
unfolding run_of
name_runs (name_one {i} {ys}) h = record { i = i; more_ids = []; behind = ys; first = refl; ids_are = refl; run_is = run_ends ys h; no_call = ends_open ys h }
name_runs (name_more {i} {ids} {p} {xs} {ys} d) h =
    let r = name_runs d h in
    record {
      i = i;
      more_ids = ids;
      behind = Punct p dot ∷ xs;
      first = refl;
      ids_are = refl;
      run_is =
          ap (λ zs. run_of (Punct p dot ∷ zs)) r.first
          ∙ ap (λ b. cond (not b) (named_on (Ident r.i) (run_of r.behind)) (halts (Punct p dot ∷ Ident r.i ∷ r.behind))) r.no_call
          ∙ ap (named_on (Ident r.i)) r.run_is
          ∙ ap (with_rest ys) (sym r.ids_are);
      no_call = refl;
    }

-- behind a dot the name goes on with an identifier that no `(` follows
pub goes_is : (xs : List Terminal) → goes_on xs ≡ true → (i : Identifier) × (xs ≡ Ident i ∷ rest_of xs) × (starts paren_open (rest_of xs) ≡ false)
goes_is [] h = absurd (true≢false (sym h))
goes_is (Ident i ∷ xs) h = (i, refl, not_true _ h)
goes_is (x ∷ xs) h = absurd (true≢false (sym h))

abbrev first_or : Terminal → List Terminal → Terminal
first_or d [] = d
first_or d (z ∷ zs) = z

abbrev Reached : Identifier → List Terminal → Run → Type 0
Reached i xs z = DerivesName (i ∷ z.0) (Ident i ∷ xs) z.1

-- a run, behind an identifier, is a name
pub run_name : (i : Identifier) (xs : List Terminal) → Reached i xs (run_of xs)
unfolding run_of
run_name i [] = name_one
run_name i (x ∷ []) = name_one
run_name i (x ∷ y ∷ xs) = by (is_mark dot x && goes_on (y ∷ xs)) refl (λ j. run_name j xs)
  where
    by : (b : Bool) → is_mark dot x && goes_on (y ∷ xs) ≡ b → ((j : Identifier) → Reached j xs (run_of xs))
        → Reached i (x ∷ y ∷ xs) (cond b (named_on y (run_of xs)) (halts (x ∷ y ∷ xs)))
    by false e go = name_one
    by true e go =
        let w = both (is_mark dot x) (goes_on (y ∷ xs)) e in
        let m = mark_is dot x w.0 in
        let g = goes_is (y ∷ xs) w.1 in
        let y_is : y ≡ Ident g.0 = ap (λ (z : List Terminal). first_or y z) g.1 in
        subst (λ z. Reached i (z ∷ y ∷ xs) (named_on y (run_of xs))) (sym m.1)
        (subst (λ z. Reached i (Punct m.0 dot ∷ z ∷ xs) (named_on z (run_of xs))) (sym y_is) (name_more (go g.0)))

and_false : (b : Bool) → b && false ≡ false
and_false true = refl
and_false false = refl

-- a run that no `(` follows at once ends as a name does
pub run_stops : (xs : List Terminal) → starts paren_open xs ≡ false → name_ends (run_of xs).1 ≡ true
unfolding run_of
run_stops [] h = refl
run_stops (x ∷ []) h = rw (h, and_false (is_mark dot x)) refl
run_stops (x ∷ y ∷ xs) h = by (is_mark dot x && goes_on (y ∷ xs)) refl (run_stops xs)
  where
    kept : (z : Terminal) (r : Run) → name_ends r.1 ≡ true → name_ends (named_on z r).1 ≡ true
    kept (Ident i) r e = e
    kept z r e = e

    by : (b : Bool) → is_mark dot x && goes_on (y ∷ xs) ≡ b → (starts paren_open xs ≡ false → name_ends (run_of xs).1 ≡ true)
        → name_ends (cond b (named_on y (run_of xs)) (halts (x ∷ y ∷ xs))).1 ≡ true
    by false e go = rw (h, e) refl
    by true e go = kept y (run_of xs) (go (goes_is (y ∷ xs) (both (is_mark dot x) (goes_on (y ∷ xs)) e).1).2)
