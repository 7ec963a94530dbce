-- What begins an expression or an initializer is read to its end, at each depth of nesting.
use Rattle.std.proofs.Common.{ℕ, zero, suc, ◌<◌, ◌≤◌, List, [], ◌∷◌, length, arith, refl, ap, lit<}
use Rattle.jv_tree.specs.declared.name.Ident.{Ident as Identifier}
use Rattle.jv_tree.specs.Shaped.{levels, assignment_operators}
use Rattle.jv_grammar.specs.declared.terminal.Terminal.{Terminal}
use Rattle.jv_grammar.specs.declared.terminal.Terminal.TheVariants.{Punct}
use Rattle.jv_grammar.specs.Marks.{brace_open, bracket_open, dot}
use Rattle.jv_grammar.specs.TypeGrammar.{DerivesName, name_one, name_more}
use Rattle.jv_grammar.specs.ExprGrammar.{links_one, link_operand, link_type, list_none, list_some}
use Rattle.jv_grammar.specs.Reader.{Reads}
use Rattle.jv_grammar.specs.TypeReader.{reference_of}
use Rattle.jv_grammar.specs.ExprReader.{Parsed, Below, list_of, primary_of, steps_of, post_of, unary_of, links_of, bin_of, cond_of, expr_of, init_of, below}
use Rattle.jv_grammar.specs.ExprBegins.{begun_expr_none, begun_expr_assign, begun_expr_cond, begun_expr_whole, begun_cond_none, begun_cond_bin, begun_cond_yes, begun_cond_no, begun_cond_whole, BeginsBin, begun_bin_none, begun_bin_unary, begun_bin_one, begun_bin_chain, begun_bin_whole, BeginsLinks, begun_links_none, begun_links_one, begun_links_more, begun_links_whole, begun_link_none, begun_link_operand, begun_link_type, begun_link_whole, begun_unary_none, begun_init_none, begun_init_expr, begun_init_list, begun_init_whole, begun_list_none, begun_list_empty, begun_list_some, begun_list_end, begun_list_whole, BeginsList}
use Rattle.jv_grammar.proofs.BegunDepth.{begun_deep_bin, begun_deep_links}
use Rattle.jv_grammar.proofs.Rows.{HasShortRows}
use Rattle.jv_grammar.proofs.Ending.{left_of, Ends}
use Rattle.jv_grammar.proofs.GoesLaw.{GoesBelow, GoesCond, GoesExpr, GoesInit, ReadersGo}
use Rattle.jv_grammar.proofs.Depth.{less_bin, less_reference}
use Rattle.jv_grammar.proofs.Read.{Each}
use Rattle.jv_grammar.proofs.Ranks.{starts_apart, AreRanked, IsRanked, levels_ranked, assignments_ranked, ranked}
use Rattle.jv_grammar.proofs.Types.{reads_reference}
use Rattle.jv_grammar.proofs.Few.{IsFlat, AreFlat, levels_flat, closed_expr, closed_bin, closed_primary, closed_reference, few_bin, few_links}
use Rattle.jv_grammar.proofs.Complete.{Comp, mark_seen, c_links, c_bin, c_cond, c_expr, c_init, lift, comp}
use Rattle.jv_grammar.proofs.Goes.{ends_bind}
use Rattle.jv_grammar.proofs.GoesTypes.{goes_reference}
use Rattle.jv_grammar.proofs.BegunRows.{few_rows, rows_behind, low_reference, low_expr, low_cond, low_primary, low_init}
use Rattle.jv_grammar.proofs.BegunStarts.{IsBegunStart, not_begun, begun_expr, links_high}
use Rattle.jv_grammar.proofs.GoesLists.{goes_list}
use Rattle.jv_grammar.proofs.GoesHeads.{goes_bracket}
use Rattle.jv_grammar.proofs.GoesUnaries.{GoesBracket, goes_unary}

links_none : (operand : List Terminal → Reads Parsed) (level : List ℕ) (k : ℕ) → Ends (links_of operand level k [])
unfolding links_of
links_none operand level zero = refl
links_none operand level (suc k) = refl

-- a unary that ends is an expression that does
bin_up : (b : Below) (rest : List (List ℕ)) (xs : List Terminal) → Ends (unary_of b xs) → Ends (bin_of b rest xs)
unfolding bin_of
bin_up b [] xs h = h
bin_up b (level ∷ tighter) xs h = ends_bind (bin_of b tighter xs) _ (bin_up b tighter xs h) (λ x. ends_bind (links_of (bin_of b tighter) level (suc (length xs)) []) _ (links_none (bin_of b tighter) level (suc (length xs))) (λ y. refl))

expr_up : (b : Below) (xs : List Terminal) → Ends (unary_of b xs) → Ends (expr_of b xs)
unfolding expr_of cond_of
expr_up b xs h = ends_bind (cond_of b xs) _ (ends_bind (bin_of b levels xs) _ (bin_up b levels xs h) (λ x. refl)) (λ x. refl)

-- the operators of a level bind as loosely as so many levels do, and are no brackets
pub record AreLevels (level : List ℕ) (tighter : List (List ℕ)) : Type 0 where
  pub ranked : AreRanked (suc (length tighter)) level
  pub tighter_ranked : IsRanked tighter
  pub flat : Each IsFlat level
  pub tighter_flat : AreFlat tighter
  pub few : length tighter ≤ 11

module _ (n : ℕ) (b : Below) (c : Comp n b) (g : GoesBelow n b) (o : GoesBracket n b) where
  abbrev GoesOperands : List (List ℕ) → Type 0
  GoesOperands rest = (xs : List Terminal) (d : BeginsBin rest xs) → begun_deep_bin d ≤ n → HasShortRows xs → Ends (bin_of b rest xs)

  pub goes_links : (level : List ℕ) (tighter : List (List ℕ)) → AreLevels level tighter → GoesOperands tighter
      → (xs : List Terminal) (d : BeginsLinks level tighter xs) (k : ℕ) → begun_deep_links d ≤ n → HasShortRows xs → length xs < k → Ends (links_of (bin_of b tighter) level k xs)
  unfolding links_of
  goes_links level tighter a ih vs d zero l h m = absurd (omega arith)
  goes_links level tighter a ih vs begun_links_none (suc k) l h m = refl
  goes_links level tighter a ih vs (begun_links_one begun_link_none) (suc k) l h m = refl
  goes_links level tighter a ih vs (begun_links_one (begun_link_operand {o = x} {xs} s r)) (suc k) l h m =
      rw (mark_seen level x s) (ends_bind (bin_of b tighter xs) _ (ih xs r l h.1) (λ y. ends_bind (links_of (bin_of b tighter) level k []) _ (links_none (bin_of b tighter) level k) (λ z. refl)))
  goes_links level tighter a ih vs (begun_links_one (begun_link_type {xs} s r)) (suc k) l h m =
      rw s (ends_bind (reference_of xs) _ (goes_reference xs r h.1) (λ y. ends_bind (links_of (bin_of b tighter) level k []) _ (links_none (bin_of b tighter) level k) (λ z. refl)))
  goes_links level tighter a ih vs (begun_links_one (begun_link_whole d)) (suc k) l h m =
      ap left_of (c_links n b c level tighter a.ranked (c_bin n b c tighter a.tighter_ranked) (links_one d) (suc k) l (few_links a.flat a.tighter_flat (few_rows vs h) (links_one d)) (omega (arith, a.few)) m)
  goes_links level tighter a ih vs (begun_links_more {zs} (link_operand {o = x} {xs} s d) r) (suc k) l h m =
      rw (mark_seen level x s) (rw (c_bin n b c tighter a.tighter_ranked _ _ _ _ d (omega arith) (few_bin a.tighter_flat (few_rows xs h.1) d) (let e = links_high _ a.ranked (omega (arith, a.few)) r in omega (arith, e)))
      (ends_bind (links_of (bin_of b tighter) level k zs) _ (goes_links level tighter a ih zs r k (omega arith) (rows_behind (closed_bin a.tighter_flat d) h.1) (omega (arith, less_bin d))) (λ y. refl)))
  goes_links level tighter a ih vs (begun_links_more {zs} (link_type s d) r) (suc k) l h m =
      let e = links_high _ a.ranked (omega (arith, a.few)) r in
      rw s (rw (reads_reference d (low_reference h.1 d) (starts_apart dot zs (omega (arith, e))) (starts_apart bracket_open zs (omega (arith, e))))
      (ends_bind (links_of (bin_of b tighter) level k zs) _ (goes_links level tighter a ih zs r k (omega arith) (rows_behind (closed_reference d) h.1) (omega (arith, less_reference d))) (λ y. refl)))
  goes_links level tighter a ih vs (begun_links_whole d) (suc k) l h m =
      ap left_of (c_links n b c level tighter a.ranked (c_bin n b c tighter a.tighter_ranked) d (suc k) l (few_links a.flat a.tighter_flat (few_rows vs h) d) (omega (arith, a.few)) m)

  bin_none : (rest : List (List ℕ)) → Ends (bin_of b rest [])
  bin_none rest = bin_up b rest [] (goes_unary n b c g o [] begun_unary_none (omega arith) tt)

  pub goes_bin : (rest : List (List ℕ)) → IsRanked rest → AreFlat rest → length rest ≤ 12 → GoesOperands rest
  unfolding bin_of
  goes_bin rest a f m xs begun_bin_none l h = bin_none rest
  goes_bin [] a f m xs (begun_bin_unary r) l h = goes_unary n b c g o xs r l h
  goes_bin (level ∷ tighter) a f m xs (begun_bin_one r) l h =
      ends_bind (bin_of b tighter xs) _ (goes_bin tighter a.1 f.1 (omega arith) xs r l h) (λ x. ends_bind (links_of (bin_of b tighter) level (suc (length xs)) []) _ (links_none (bin_of b tighter) level (suc (length xs))) (λ y. refl))
  goes_bin (level ∷ tighter) a f m xs (begun_bin_chain {zs} d r) l h =
      rw (c_bin n b c tighter a.1 _ _ _ _ d (omega arith) (few_bin f.1 (few_rows xs h) d) (let e = links_high _ a.0 (omega arith) r in omega (arith, e)))
      (ends_bind (links_of (bin_of b tighter) level (suc (length xs)) zs) _
      (goes_links level tighter (record { ranked = a.0; tighter_ranked = a.1; flat = f.0; tighter_flat = f.1; few = omega arith }) (goes_bin tighter a.1 f.1 (omega arith)) zs r (suc (length xs)) (omega arith) (rows_behind (closed_bin f.1 d) h) (omega (arith, less_bin d)))
      (λ x. refl))
  goes_bin rest a f m xs (begun_bin_whole d) l h = ap left_of (c_bin n b c rest a _ _ _ _ d l (few_bin f (few_rows xs h) d) (omega arith))

  pub goes_cond : GoesCond n b
  unfolding cond_of
  goes_cond xs begun_cond_none l h = ends_bind (bin_of b levels []) _ (bin_none levels) (λ x. refl)
  goes_cond xs (begun_cond_bin r) l h = ends_bind (bin_of b levels xs) _ (goes_bin levels levels_ranked levels_flat (omega arith) xs r l h) (λ x. refl)
  goes_cond xs (begun_cond_yes {zs} d r) l h =
      rw (c_bin n b c levels levels_ranked _ _ _ _ d (omega arith) (few_bin levels_flat (few_rows xs h) d) (lit< tt))
      (ends_bind (b.expr zs) _ (g.expr r (omega arith) (rows_behind (closed_bin levels_flat d) h).1) (λ x. refl))
  goes_cond xs (begun_cond_no {ws} d a r) l h =
      let k = (rows_behind (closed_bin levels_flat d) h).1 in
      rw (c_bin n b c levels levels_ranked _ _ _ _ d (omega arith) (few_bin levels_flat (few_rows xs h) d) (lit< tt))
      (rw (c.expr a (omega arith) (low_expr k a) (lit< tt)) (ends_bind (b.cond ws) _ (g.cond r (omega arith) (rows_behind (closed_expr a) k).1) (λ x. refl)))
  goes_cond xs (begun_cond_whole d) l h = ap left_of (c_cond n b c d l (low_cond h d) (lit< tt))

  pub goes_expr : GoesExpr n b
  unfolding expr_of lift
  goes_expr xs begun_expr_none l h = ends_bind (cond_of b []) _ (goes_cond [] begun_cond_none (omega arith) tt) (λ x. refl)
  goes_expr xs (begun_expr_cond r) l h = ends_bind (cond_of b xs) _ (goes_cond xs r l h) (λ x. refl)
  goes_expr xs (begun_expr_assign {o = x} {zs} d s r) l h =
      rw (c_cond n b c (lift n b c d) (omega arith) (low_primary h d) (let k = ranked 12 assignment_operators x assignments_ranked s in omega (arith, k)))
      (rw s (ends_bind (b.expr zs) _ (g.expr r (omega arith) (rows_behind (closed_primary d) h).1) (λ y. refl)))
  goes_expr xs (begun_expr_whole d) l h = ap left_of (c_expr n b c d l (low_expr h d) (lit< tt))

  init_begun : (xs : List Terminal) → IsBegunStart xs → Ends (expr_of b xs) → Ends (init_of b xs)
  unfolding init_of
  init_begun [] s h = ends_bind (expr_of b []) _ h (λ x. refl)
  init_begun (Punct p x ∷ xs) s h = rw (not_begun brace_open (Punct p x ∷ xs) refl s) (ends_bind (expr_of b (Punct p x ∷ xs)) _ h (λ y. refl))
  init_begun (x ∷ xs) s h = ends_bind (expr_of b (x ∷ xs)) _ h (λ y. refl)

  init_list : {xs : List Terminal} → BeginsList xs → Ends (list_of b.init xs) → Ends (init_of b xs)
  unfolding init_of
  init_list begun_list_none h = ends_bind (expr_of b []) _ (goes_expr [] begun_expr_none (omega arith) tt) (λ x. refl)
  init_list (begun_list_empty {p} {xs} r) h = ends_bind (list_of b.init (Punct p brace_open ∷ xs)) _ h (λ x. refl)
  init_list (begun_list_some {p} {xs} r) h = ends_bind (list_of b.init (Punct p brace_open ∷ xs)) _ h (λ x. refl)
  init_list (begun_list_end {p} {xs} d r) h = ends_bind (list_of b.init (Punct p brace_open ∷ xs)) _ h (λ x. refl)
  init_list (begun_list_whole (list_none {p} {xs} d)) h = ends_bind (list_of b.init (Punct p brace_open ∷ xs)) _ h (λ x. refl)
  init_list (begun_list_whole (list_some {p} {xs} d e)) h = ends_bind (list_of b.init (Punct p brace_open ∷ xs)) _ h (λ x. refl)

  pub goes_init : GoesInit n b
  goes_init xs begun_init_none l h = init_begun [] tt (goes_expr [] begun_expr_none (omega arith) tt)
  goes_init xs (begun_init_expr r) l h = init_begun xs (begun_expr r) (goes_expr xs r l h)
  goes_init xs (begun_init_list r) l h = init_list r (goes_list n b c g xs r l h)
  goes_init xs (begun_init_whole d) l h = ap left_of (c_init n b c d l (low_init h d) (lit< tt))

  -- a name with a bracket behind it that is open at the end
  bracket_unary : {ids : List Identifier} {xs : List Terminal} (p : ℕ) → DerivesName ids xs (Punct p bracket_open ∷ []) → Ends (post_of b xs) → Ends (unary_of b xs)
  unfolding unary_of
  bracket_unary p name_one h = h
  bracket_unary p (name_more d) h = h

  pub open_bracket_ends : {ids : List Identifier} {xs : List Terminal} (p : ℕ) → DerivesName ids xs (Punct p bracket_open ∷ []) → Ends (expr_of b xs)
  unfolding post_of steps_of
  open_bracket_ends {xs} p d = expr_up b xs (bracket_unary p d (ends_bind (primary_of b xs) _ (goes_bracket n b c g p d) (λ x. refl)))

-- at each depth of nesting
pub both_go : (n : ℕ) → GoesBelow n (below n) × GoesBracket n (below n)
unfolding below
both_go zero = (
  record {
    no_expr = refl;
    no_cond = refl;
    no_unary = refl;
    no_init = refl;
    expr = λ d l h. absurd (omega arith);
    cond = λ d l h. absurd (omega arith);
    unary = λ d l h. absurd (omega arith);
    init = λ d l h. absurd (omega arith);
  },
  λ l. absurd (omega arith),
)
both_go (suc n) =
    let w = both_go n in (
      record {
        no_expr = goes_expr n (below n) (comp n) w.0 w.1 [] begun_expr_none (omega arith) tt;
        no_cond = goes_cond n (below n) (comp n) w.0 w.1 [] begun_cond_none (omega arith) tt;
        no_unary = goes_unary n (below n) (comp n) w.0 w.1 [] begun_unary_none (omega arith) tt;
        no_init = goes_init n (below n) (comp n) w.0 w.1 [] begun_init_none (omega arith) tt;
        expr = λ d l h. goes_expr n (below n) (comp n) w.0 w.1 _ d (omega arith) h;
        cond = λ d l h. goes_cond n (below n) (comp n) w.0 w.1 _ d (omega arith) h;
        unary = λ d l h. goes_unary n (below n) (comp n) w.0 w.1 _ d (omega arith) h;
        init = λ d l h. goes_init n (below n) (comp n) w.0 w.1 _ d (omega arith) h;
      },
      λ l ids xs p d. open_bracket_ends n (below n) (comp n) w.0 w.1 p d,
    )

pub readers_go : ReadersGo
readers_go n = (both_go n).0
