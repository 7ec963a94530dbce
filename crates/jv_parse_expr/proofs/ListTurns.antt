-- Turns of the loops that read expressions, the elements of a list, and sizes.
use Rattle.std.proofs.Common.{◌≡◌, ℕ, zero, suc, ◌+◌, ◌-◌, ◌<◌, ◌≤◌, Bool, true, false, List, [], ◌∷◌, ◌++◌, ap, sym, ◌∙◌, refl, arith, Ok, Err, if◌then◌else◌}
use Rattle.jv_tree.specs.declared.expression.Expr.{Expr}
use Rattle.jv_tree.specs.declared.expression.Init.{Init}
use Rattle.jv_tree.specs.ExprTree as t
use Rattle.jv_tree.specs.ExprTree.{ExprTree, ExprTrees, InitTree, InitTrees, expr_tree, init_tree, expr_trees, init_trees}
use Rattle.jv_grammar.specs.declared.form.Form.{Form}
use Rattle.jv_grammar.specs.declared.terminal.Terminal.{Terminal}
use Rattle.jv_grammar.specs.Marks.{bracket_open, bracket_close, brace_close, comma}
use Rattle.jv_grammar.specs.TypeGrammar.{starts}
use Rattle.jv_grammar.specs.Reader.{Reads, ◌>>=◌, rest_of, closed}
use Rattle.jv_grammar.specs.TypeReader.{pairs_of, starts_pair}
use Rattle.jv_grammar.specs.ExprReader.{Parsed, exprs_of, inits_of, sizes_of}
use Rattle.jv_parse_expr.specs.declared.fault.Fault.{Fault}
use Rattle.jv_parse_expr.specs.View.{Fails, separator_of}
use Rattle.jv_parse_expr.proofs.Faults.{fails_bind}

-- trees that are read already, in front of those that are read behind them
abbrev pub exprs_front : List Expr → ExprTrees → ExprTrees
exprs_front [] es = es
exprs_front (x ∷ xs) es = t.exprs (expr_tree x) (exprs_front xs es)

abbrev pub exprs_onto : List Expr → Reads ExprTrees → Reads ExprTrees
exprs_onto front r = r >>= λ s. Ok (exprs_front front s.0, s.1)

abbrev pub inits_front : List Init → InitTrees → InitTrees
inits_front [] is = is
inits_front (x ∷ xs) is = t.inits (init_tree x) (inits_front xs is)

abbrev pub inits_onto : List Init → Reads InitTrees → Reads InitTrees
inits_onto front r = r >>= λ s. Ok (inits_front front s.0, s.1)

abbrev pub sizes_onto : List Expr → Reads (ExprTrees × ℕ) → Reads (ExprTrees × ℕ)
sizes_onto front r = r >>= λ s. Ok ((exprs_front front s.0.0, s.0.1), s.1)

abbrev pub some_exprs : List Terminal → ExprTrees → Reads ExprTrees
some_exprs ys es = Ok (es, ys)

abbrev pub some_inits : List Terminal → InitTrees → Reads InitTrees
some_inits ys is = Ok (is, ys)

abbrev pub some_sizes : List Terminal → ℕ → ExprTrees → Reads (ExprTrees × ℕ)
some_sizes ys n es = Ok ((es, n), ys)

pub exprs_front_none : (xs : List Expr) → exprs_front xs t.no_exprs ≡ expr_trees xs
exprs_front_none [] = refl
exprs_front_none (x ∷ xs) = ap (t.exprs (expr_tree x)) (exprs_front_none xs)

pub exprs_front_push : (xs : List Expr) (x : Expr) (es : ExprTrees) → exprs_front (xs ++ x ∷ []) es ≡ exprs_front xs (t.exprs (expr_tree x) es)
exprs_front_push [] x es = refl
exprs_front_push (y ∷ xs) x es = ap (t.exprs (expr_tree y)) (exprs_front_push xs x es)

pub exprs_push : (xs : List Expr) (x : Expr) (r : Reads ExprTrees) → exprs_onto (xs ++ x ∷ []) r ≡ exprs_onto xs (r >>= λ s. some_exprs s.1 (t.exprs (expr_tree x) s.0))
exprs_push xs x (Ok s) = ap (some_exprs s.1) (exprs_front_push xs x s.0)
exprs_push xs x (Err e) = refl

pub exprs_nil : (r : Reads ExprTrees) → exprs_onto [] r ≡ r
exprs_nil (Ok s) = refl
exprs_nil (Err e) = refl

inits_front_none : (xs : List Init) → inits_front xs t.no_inits ≡ init_trees xs
inits_front_none [] = refl
inits_front_none (x ∷ xs) = ap (t.inits (init_tree x)) (inits_front_none xs)

inits_front_push : (xs : List Init) (x : Init) (is : InitTrees) → inits_front (xs ++ x ∷ []) is ≡ inits_front xs (t.inits (init_tree x) is)
inits_front_push [] x is = refl
inits_front_push (y ∷ xs) x is = ap (t.inits (init_tree y)) (inits_front_push xs x is)

inits_push : (xs : List Init) (x : Init) (r : Reads InitTrees) → inits_onto (xs ++ x ∷ []) r ≡ inits_onto xs (r >>= λ s. some_inits s.1 (t.inits (init_tree x) s.0))
inits_push xs x (Ok s) = ap (some_inits s.1) (inits_front_push xs x s.0)
inits_push xs x (Err e) = refl

inits_nil : (r : Reads InitTrees) → inits_onto [] r ≡ r
inits_nil (Ok s) = refl
inits_nil (Err e) = refl

sizes_push : (xs : List Expr) (x : Expr) (r : Reads (ExprTrees × ℕ)) → sizes_onto (xs ++ x ∷ []) r ≡ sizes_onto xs (r >>= λ s. some_sizes s.1 s.0.1 (t.exprs (expr_tree x) s.0.0))
sizes_push xs x (Ok s) = ap (some_sizes s.1 s.0.1) (exprs_front_push xs x s.0.0)
sizes_push xs x (Err e) = refl

sizes_nil : (r : Reads (ExprTrees × ℕ)) → sizes_onto [] r ≡ r
sizes_nil (Ok s) = refl
sizes_nil (Err e) = refl

-- expressions
abbrev exprs_turn : (List Terminal → Reads Parsed) → ℕ → List Terminal → Reads ExprTrees
exprs_turn expr c xs = expr xs >>= λ r.
    if starts comma r.1
    then (exprs_of expr c (rest_of r.1) >>= λ s. some_exprs s.1 (t.exprs r.0.1 s.0))
    else some_exprs r.1 (t.exprs r.0.1 t.no_exprs)

exprs_at : (expr : List Terminal → Reads Parsed) (c : ℕ) (xs : List Terminal) → exprs_of expr (suc c) xs ≡ exprs_turn expr c xs
unfolding exprs_of
exprs_at expr c xs = refl

abbrev no_turns : List Terminal → Reads ExprTrees
no_turns xs = Err xs

exprs_zero : (expr : List Terminal → Reads Parsed) (xs : List Terminal) → exprs_of expr zero xs ≡ no_turns xs
unfolding exprs_of
exprs_zero expr xs = refl

pub exprs_begin : (expr : List Terminal → Reads Parsed) (items : List Expr) (n : ℕ) (xs : List Terminal) → items ≡ [] → exprs_onto items (exprs_of expr (n - 0) xs) ≡ exprs_of expr n xs
exprs_begin expr items n xs none = let e : n - 0 ≡ n = omega arith in rw (none, e) (exprs_nil (exprs_of expr n xs))

pub exprs_over : (expr : List Terminal → Reads Parsed) (items : List Expr) (n i : ℕ) (xs : List Terminal) → n ≤ i → exprs_onto items (exprs_of expr (n - i) xs) ≡ no_turns xs
exprs_over expr items n i xs h = let e : n - i ≡ zero = omega arith in rw (e, exprs_zero expr xs) refl

module _ (expr : List Terminal → Reads Parsed) (items : List Expr) (n i : ℕ) (xs : List Terminal) (h : i < n) where
  turn : exprs_of expr (n - i) xs ≡ exprs_turn expr (n - (i + 1)) xs
  turn = let e : n - i ≡ suc (n - (i + 1)) = omega arith in ap (λ k. exprs_of expr k xs) e ∙ exprs_at expr (n - (i + 1)) xs

  pub exprs_failed : (e : Fault) → Fails e (expr xs) → Fails e (exprs_onto items (exprs_of expr (n - i) xs))
  exprs_failed e f = rw turn (fails_bind e _ _ (fails_bind e (expr xs) _ f))

  pub exprs_done : (f : Form) (x : Expr) (ys : List Terminal) → expr xs ≡ Ok ((f, expr_tree x), ys) → starts comma ys ≡ false
      → exprs_onto items (exprs_of expr (n - i) xs) ≡ some_exprs ys (expr_trees (items ++ x ∷ []))
  exprs_done f x ys r s = rw (turn, r, s) (ap (some_exprs ys) (sym (exprs_front_push items x t.no_exprs) ∙ exprs_front_none (items ++ x ∷ [])))

  pub exprs_next : (f : Form) (x : Expr) (ys zs : List Terminal) → expr xs ≡ Ok ((f, expr_tree x), ys) → starts comma ys ≡ true → zs ≡ rest_of ys
      → exprs_onto (items ++ x ∷ []) (exprs_of expr (n - (i + 1)) zs) ≡ exprs_onto items (exprs_of expr (n - i) xs)
  exprs_next f x ys zs r s at = exprs_push items x (exprs_of expr (n - (i + 1)) zs) ∙ sym (rw (turn, r, s, ← at) refl)

-- elements
abbrev inits_turn : (List Terminal → Reads InitTree) → ℕ → List Terminal → Reads InitTrees
inits_turn init c xs = init xs >>= λ r.
    if starts comma r.1
    then (if starts brace_close (rest_of r.1) then some_inits (rest_of (rest_of r.1)) (t.inits r.0 t.no_inits)
    else (inits_of init c (rest_of r.1) >>= λ s. some_inits s.1 (t.inits r.0 s.0)))
    else closed brace_close (t.inits r.0 t.no_inits) r.1

inits_at : (init : List Terminal → Reads InitTree) (c : ℕ) (xs : List Terminal) → inits_of init (suc c) xs ≡ inits_turn init c xs
unfolding inits_of
inits_at init c xs = refl

abbrev no_elements : List Terminal → Reads InitTrees
no_elements xs = Err xs

abbrev separated_at : List Terminal → Bool → Reads Bool
separated_at zs g = Ok (g, zs)

abbrev separated_on : (List Terminal → Reads InitTree) → ℕ → InitTree → Bool × List Terminal → Reads InitTrees
separated_on init c x (true, zs) = inits_of init c zs >>= λ s. some_inits s.1 (t.inits x s.0)
separated_on init c x (false, zs) = some_inits zs (t.inits x t.no_inits)

abbrev separated : (List Terminal → Reads InitTree) → ℕ → InitTree → Reads Bool → Reads InitTrees
separated init c x r = r >>= separated_on init c x

-- what stands behind an element, by whether a comma stands first, an end behind it, and an end first
separated_if : (init : List Terminal → Reads InitTree) (c : ℕ) (x : InitTree) (p q u : Bool) (us vs ws zs : List Terminal)
    → (if p then (if q then some_inits us (t.inits x t.no_inits) else (inits_of init c vs >>= λ s. some_inits s.1 (t.inits x s.0)))
    else if u then some_inits ws (t.inits x t.no_inits) else no_elements zs)
    ≡ separated init c x (if p then (if q then separated_at us false else separated_at vs true) else if u then separated_at ws false else Err zs)
separated_if init c x true true u us vs ws zs = refl
separated_if init c x true false u us vs ws zs = refl
separated_if init c x false q true us vs ws zs = refl
separated_if init c x false q false us vs ws zs = refl

inits_zero : (init : List Terminal → Reads InitTree) (xs : List Terminal) → inits_of init zero xs ≡ no_elements xs
unfolding inits_of
inits_zero init xs = refl

pub inits_begin : (init : List Terminal → Reads InitTree) (items : List Init) (n : ℕ) (xs : List Terminal) → items ≡ [] → inits_onto items (inits_of init (n - 0) xs) ≡ inits_of init n xs
inits_begin init items n xs none = let e : n - 0 ≡ n = omega arith in rw (none, e) (inits_nil (inits_of init n xs))

pub inits_over : (init : List Terminal → Reads InitTree) (items : List Init) (n i : ℕ) (xs : List Terminal) → n ≤ i → inits_onto items (inits_of init (n - i) xs) ≡ no_elements xs
inits_over init items n i xs h = let e : n - i ≡ zero = omega arith in rw (e, inits_zero init xs) refl

module _ (init : List Terminal → Reads InitTree) (items : List Init) (n i : ℕ) (xs : List Terminal) (h : i < n) where
  elements_turn : inits_of init (n - i) xs ≡ inits_turn init (n - (i + 1)) xs
  elements_turn = let e : n - i ≡ suc (n - (i + 1)) = omega arith in ap (λ k. inits_of init k xs) e ∙ inits_at init (n - (i + 1)) xs

  pub inits_failed : (e : Fault) → Fails e (init xs) → Fails e (inits_onto items (inits_of init (n - i) xs))
  inits_failed e f = rw elements_turn (fails_bind e _ _ (fails_bind e (init xs) _ f))

  module _ (x : Init) (ys : List Terminal) (r : init xs ≡ Ok (init_tree x, ys)) where
    read_turn : inits_turn init (n - (i + 1)) xs ≡ separated init (n - (i + 1)) (init_tree x) (separator_of ys)
    read_turn = rw r (separated_if init (n - (i + 1)) (init_tree x) (starts comma ys) (starts brace_close (rest_of ys)) (starts brace_close ys) (rest_of (rest_of ys)) (rest_of ys) (rest_of ys) ys)

    pub inits_refused : (e : Fault) → Fails e (separator_of ys) → Fails e (inits_onto items (inits_of init (n - i) xs))
    inits_refused e w = rw (elements_turn, read_turn) (fails_bind e _ _ (fails_bind e (separator_of ys) _ w))

    pub inits_ended : (g : Bool) (zs : List Terminal) → separator_of ys ≡ separated_at zs g → g ≡ false → inits_onto items (inits_of init (n - i) xs) ≡ some_inits zs (init_trees (items ++ x ∷ []))
    inits_ended g zs w stops = rw (elements_turn, read_turn, w, stops) (ap (some_inits zs) (sym (inits_front_push items x t.no_inits) ∙ inits_front_none (items ++ x ∷ [])))

    pub inits_next : (g : Bool) (zs : List Terminal) → separator_of ys ≡ separated_at zs g → g ≡ true
        → inits_onto (items ++ x ∷ []) (inits_of init (n - (i + 1)) zs) ≡ inits_onto items (inits_of init (n - i) xs)
    inits_next g zs w more = inits_push items x (inits_of init (n - (i + 1)) zs) ∙ sym (rw (elements_turn, read_turn, w, more) refl)

-- sizes
abbrev sizes_turn : (List Terminal → Reads Parsed) → ℕ → List Terminal → Reads (ExprTrees × ℕ)
sizes_turn expr c xs =
    if starts_pair xs then (pairs_of (suc c) xs >>= λ r. some_sizes r.1 r.0 t.no_exprs)
    else if starts bracket_open xs
    then (expr (rest_of xs) >>= λ r. closed bracket_close r.0.1 r.1 >>= λ s. sizes_of expr c s.1 >>= λ u. some_sizes u.1 u.0.1 (t.exprs s.0 u.0.0))
    else some_sizes xs zero t.no_exprs

sizes_at : (expr : List Terminal → Reads Parsed) (c : ℕ) (xs : List Terminal) → sizes_of expr (suc c) xs ≡ sizes_turn expr c xs
unfolding sizes_of
sizes_at expr c xs = refl

abbrev no_sizes : List Terminal → Reads (ExprTrees × ℕ)
no_sizes xs = Err xs

sizes_zero : (expr : List Terminal → Reads Parsed) (xs : List Terminal) → sizes_of expr zero xs ≡ (if starts bracket_open xs then no_sizes xs else some_sizes xs zero t.no_exprs)
unfolding sizes_of
sizes_zero expr xs = refl

pub sizes_begin : (expr : List Terminal → Reads Parsed) (items : List Expr) (n : ℕ) (xs : List Terminal) → items ≡ [] → sizes_onto items (sizes_of expr (n - 0) xs) ≡ sizes_of expr n xs
sizes_begin expr items n xs none = let e : n - 0 ≡ n = omega arith in rw (none, e) (sizes_nil (sizes_of expr n xs))

module _ (expr : List Terminal → Reads Parsed) (items : List Expr) (n i : ℕ) (xs : List Terminal) (h : n ≤ i) where
  pub sizes_full : starts bracket_open xs ≡ true → sizes_onto items (sizes_of expr (n - i) xs) ≡ no_sizes xs
  sizes_full s = let e : n - i ≡ zero = omega arith in rw (e, sizes_zero expr xs, s) refl

  pub sizes_last : starts bracket_open xs ≡ false → sizes_onto items (sizes_of expr (n - i) xs) ≡ some_sizes xs 0 (expr_trees items)
  sizes_last s = let e : n - i ≡ zero = omega arith in rw (e, sizes_zero expr xs, s) (ap (some_sizes xs 0) (exprs_front_none items))

module _ (expr : List Terminal → Reads Parsed) (items : List Expr) (n i : ℕ) (xs : List Terminal) (h : i < n) where
  sizes_step : sizes_of expr (n - i) xs ≡ sizes_turn expr (n - (i + 1)) xs
  sizes_step = let e : n - i ≡ suc (n - (i + 1)) = omega arith in ap (λ k. sizes_of expr k xs) e ∙ sizes_at expr (n - (i + 1)) xs

  room_left : suc (n - (i + 1)) ≡ n - i
  room_left = omega arith

  pub sizes_pairs : starts_pair xs ≡ true → (d : ℕ) (ys : List Terminal) → pairs_of (n - i) xs ≡ Ok (d, ys)
      → sizes_onto items (sizes_of expr (n - i) xs) ≡ some_sizes ys d (expr_trees items)
  sizes_pairs s d ys r = rw (sizes_step, s, room_left, r) (ap (some_sizes ys d) (exprs_front_none items))

  pub sizes_no_pairs : starts_pair xs ≡ true → (e : Fault) → Fails e (pairs_of (n - i) xs) → Fails e (sizes_onto items (sizes_of expr (n - i) xs))
  sizes_no_pairs s e f = rw (sizes_step, s, room_left) (fails_bind e _ _ (fails_bind e (pairs_of (n - i) xs) _ f))

  pub sizes_end : starts_pair xs ≡ false → starts bracket_open xs ≡ false → sizes_onto items (sizes_of expr (n - i) xs) ≡ some_sizes xs 0 (expr_trees items)
  sizes_end s s' = rw (sizes_step, s, s') (ap (some_sizes xs 0) (exprs_front_none items))

  module _ (ts : List Terminal) (s : starts_pair xs ≡ false) (s' : starts bracket_open xs ≡ true) (at : ts ≡ rest_of xs) where
    pub size_failed : (e : Fault) → Fails e (expr ts) → Fails e (sizes_onto items (sizes_of expr (n - i) xs))
    size_failed e f = rw (sizes_step, s, s', ← at) (fails_bind e _ _ (fails_bind e (expr ts) _ f))

    pub size_refused : (f : Form) (x : ExprTree) (ys : List Terminal) → expr ts ≡ Ok ((f, x), ys) → starts bracket_close ys ≡ false
        → sizes_onto items (sizes_of expr (n - i) xs) ≡ no_sizes ys
    size_refused f x ys r close = rw (sizes_step, s, s', ← at, r, close) refl

    pub size_next : (f : Form) (x : Expr) (ys zs : List Terminal) → expr ts ≡ Ok ((f, expr_tree x), ys) → starts bracket_close ys ≡ true → zs ≡ rest_of ys
        → sizes_onto (items ++ x ∷ []) (sizes_of expr (n - (i + 1)) zs) ≡ sizes_onto items (sizes_of expr (n - i) xs)
    size_next f x ys zs r close at' = sizes_push items x (sizes_of expr (n - (i + 1)) zs) ∙ sym (rw (sizes_step, s, s', ← at, r, close, ← at') refl)
