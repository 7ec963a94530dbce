-- What begins arguments, a list in braces or the sizes of a new array is read to its end.
use Rattle.std.proofs.Common.{ℕ, zero, suc, ◌<◌, ◌≤◌, List, [], ◌∷◌, length, arith, refl, ap, lit<}
use Rattle.jv_tree.specs.ExprTree.{InitTrees}
use Rattle.jv_grammar.specs.declared.terminal.Terminal.{Terminal}
use Rattle.jv_grammar.specs.declared.terminal.Terminal.TheVariants.{Punct}
use Rattle.jv_grammar.specs.Marks.{paren_close, brace_close, bracket_open, bracket_close, comma}
use Rattle.jv_grammar.specs.ExprGrammar.{DerivesInits, inits_one, inits_more, list_end, list_comma_end}
use Rattle.jv_grammar.specs.TypeReader.{pairs_of}
use Rattle.jv_grammar.specs.ExprReader.{Below, exprs_of, args_of, inits_of, list_of, sizes_of}
use Rattle.jv_grammar.specs.Width.{count_dims}
use Rattle.jv_grammar.specs.TypeBegins.{BeginsPairs, begun_pairs_none, begun_pairs_open, begun_pairs_more}
use Rattle.jv_grammar.specs.ExprBegins.{BeginsListEnd, begun_list_end_none, begun_list_end_comma, begun_list_end_whole, BeginsDims, begun_dims_none, begun_dims_size, begun_dims_more, begun_dims_pairs, begun_dims_whole, begun_args_none, begun_args_some, begun_args_whole, begun_exprs_none, begun_exprs_one, begun_exprs_more, begun_exprs_whole, begun_list_none, begun_list_empty, begun_list_some, begun_list_end, begun_list_whole, BeginsInits, begun_inits_none, begun_inits_one, begun_inits_more, begun_inits_whole}
use Rattle.jv_grammar.proofs.BegunDepth.{begun_deep_dims, begun_deep_inits}
use Rattle.jv_grammar.proofs.Rows.{BeginsWithRow, row_none, row_open, row_pair, HasShortRows, begun_count_pairs}
use Rattle.jv_grammar.proofs.Ending.{left_of, Ends}
use Rattle.jv_grammar.proofs.GoesLaw.{GoesBelow, GoesExprs, GoesArgs, GoesList}
use Rattle.jv_grammar.proofs.Depth.{deep_inits, less_expr, less_init}
use Rattle.jv_grammar.proofs.Starts.{not_starts, start_expr}
use Rattle.jv_grammar.proofs.Few.{closed_expr, closed_init, dims_begin}
use Rattle.jv_grammar.proofs.Complete.{Comp, inits_starts, c_exprs, c_args, c_list, c_sizes}
use Rattle.jv_grammar.proofs.Goes.{ends_bind, goes_pairs}
use Rattle.jv_grammar.proofs.Cut.{none_left}
use Rattle.jv_grammar.proofs.BegunRows.{pairs_row, rows_behind, begun_row, low_expr, low_dims, low_args, low_exprs, low_init, low_list}
use Rattle.jv_grammar.proofs.BegunStarts.{not_begun, begun_expr, begun_exprs, inits_apart}

-- how many pairs there are, with an open one
abbrev pub begun_count_dims : {xs : List Terminal} → BeginsDims xs → ℕ
begun_count_dims begun_dims_none = 0
begun_count_dims (begun_dims_size r) = 1
begun_count_dims (begun_dims_more d r) = suc (begun_count_dims r)
begun_count_dims (begun_dims_pairs d r) = suc (begun_count_pairs r)
begun_count_dims (begun_dims_whole d) = count_dims d

pub dims_row : {xs : List Terminal} (d : BeginsDims xs) → BeginsWithRow (begun_count_dims d) xs
dims_row begun_dims_none = row_none
dims_row (begun_dims_size r) = row_open
dims_row (begun_dims_more d r) = row_pair (closed_expr d) (dims_row r)
dims_row (begun_dims_pairs d r) = row_pair (closed_expr d) (begun_row r)
dims_row (begun_dims_whole d) = pairs_row (dims_begin d)

module _ (n : ℕ) (b : Below) (c : Comp n b) (g : GoesBelow n b) where
  pub goes_exprs : GoesExprs n b
  unfolding exprs_of
  goes_exprs xs begun_exprs_none zero l h k = refl
  goes_exprs xs begun_exprs_none (suc m) l h k = ends_bind (b.expr []) _ g.no_expr (λ x. refl)
  goes_exprs xs (begun_exprs_one r) zero l h k = none_left xs k
  goes_exprs xs (begun_exprs_one r) (suc m) l h k = ends_bind (b.expr xs) _ (g.expr r l h) (λ x. refl)
  goes_exprs xs (begun_exprs_more d r) zero l h k = absurd (omega (arith, less_expr d))
  goes_exprs xs (begun_exprs_more {zs} d r) (suc m) l h k =
      rw (c.expr d (omega arith) (low_expr h d) (lit< tt))
      (ends_bind (exprs_of b.expr m zs) _ (goes_exprs zs r m (omega arith) (rows_behind (closed_expr d) h).1 (omega (arith, less_expr d))) (λ x. refl))
  goes_exprs xs (begun_exprs_whole d) m l h k = ap left_of (c_exprs n b c d m l (low_exprs h d) (lit< tt) refl k)

  pub goes_args : GoesArgs n b
  unfolding args_of
  goes_args vs begun_args_none l h = refl
  goes_args vs (begun_args_some {xs} r) l h =
      rw (not_begun paren_close xs refl (begun_exprs r))
      (ends_bind (exprs_of b.expr (suc (length xs)) xs) _ (goes_exprs xs r (suc (length xs)) (omega arith) h.1 (omega arith)) (λ x. refl))
  goes_args vs (begun_args_whole d) l h = ap left_of (c_args n b c d l (low_args h d))

  inits_none : (m : ℕ) → Ends (inits_of b.init m [])
  unfolding inits_of
  inits_none zero = refl
  inits_none (suc m) = ends_bind (b.init []) _ g.no_init (λ x. refl)

  -- elements with what begins the end of the list behind them
  inits_go_end : {is : InitTrees} {xs zs : List Terminal} (d : DerivesInits is xs zs) → BeginsListEnd zs → (m : ℕ) → deep_inits d < n → HasShortRows xs → length xs ≤ m → Ends (inits_of b.init m xs)
  unfolding inits_of
  inits_go_end (inits_one d) e zero l h k = absurd (omega (arith, less_init d))
  inits_go_end (inits_one d) begun_list_end_none (suc m) l h k = rw (c.init d l (low_init h d) (lit< tt)) refl
  inits_go_end (inits_one d) begun_list_end_comma (suc m) l h k =
      rw (c.init d l (low_init h d) (lit< tt)) (ends_bind (inits_of b.init m []) _ (inits_none m) (λ x. refl))
  inits_go_end (inits_one d) (begun_list_end_whole list_end) (suc m) l h k = rw (c.init d l (low_init h d) (lit< tt)) refl
  inits_go_end (inits_one d) (begun_list_end_whole list_comma_end) (suc m) l h k = rw (c.init d l (low_init h d) (lit< tt)) refl
  inits_go_end (inits_more d q) e zero l h k = absurd (omega (arith, less_init d))
  inits_go_end (inits_more {xs} {zs} d q) e (suc m) l h k =
      rw (c.init d (omega arith) (low_init h d) (lit< tt)) (rw (inits_starts brace_close refl refl q)
      (ends_bind (inits_of b.init m zs) _ (inits_go_end q e m (omega arith) (rows_behind (closed_init d) h).1 (omega (arith, less_init d))) (λ x. refl)))

  inits_go : (xs : List Terminal) (d : BeginsInits xs) (m : ℕ) → begun_deep_inits d < n → HasShortRows xs → length xs ≤ m → Ends (inits_of b.init m xs)
  unfolding inits_of
  inits_go xs begun_inits_none m l h k = inits_none m
  inits_go xs (begun_inits_one r) zero l h k = none_left xs k
  inits_go xs (begun_inits_one r) (suc m) l h k = ends_bind (b.init xs) _ (g.init r l h) (λ x. refl)
  inits_go xs (begun_inits_more d r) zero l h k = absurd (omega (arith, less_init d))
  inits_go xs (begun_inits_more {zs} d r) (suc m) l h k =
      rw (c.init d (omega arith) (low_init h d) (lit< tt)) (rw (inits_apart brace_close refl refl r)
      (ends_bind (inits_of b.init m zs) _ (inits_go zs r m (omega arith) (rows_behind (closed_init d) h).1 (omega (arith, less_init d))) (λ x. refl)))
  inits_go xs (begun_inits_whole d) m l h k = inits_go_end d begun_list_end_none m l h k

  pub goes_list : GoesList n b
  unfolding list_of
  goes_list vs begun_list_none l h = refl
  goes_list vs (begun_list_empty begun_list_end_none) l h = inits_none 1
  goes_list vs (begun_list_empty begun_list_end_comma) l h = refl
  goes_list vs (begun_list_empty (begun_list_end_whole list_end)) l h = refl
  goes_list vs (begun_list_empty (begun_list_end_whole list_comma_end)) l h = refl
  goes_list vs (begun_list_some {xs} r) l h =
      rw (inits_apart brace_close refl refl r, inits_apart comma refl refl r) (inits_go xs r (suc (length xs)) (omega arith) h.1 (omega arith))
  goes_list vs (begun_list_end {xs} d e) l h =
      rw (inits_starts brace_close refl refl d, inits_starts comma refl refl d) (inits_go_end d e (suc (length xs)) (omega arith) h.1 (omega arith))
  goes_list vs (begun_list_whole d) l h = ap left_of (c_list n b c d l (low_list h d))

  -- pairs without an expression
  pub sizes_pairs : {xs : List Terminal} (d : BeginsPairs xs) (room : ℕ) → begun_count_pairs d ≤ room → Ends (sizes_of b.expr room xs)
  unfolding sizes_of
  sizes_pairs begun_pairs_none zero l = refl
  sizes_pairs begun_pairs_none (suc m) l = refl
  sizes_pairs begun_pairs_open zero l = absurd (omega arith)
  sizes_pairs begun_pairs_open (suc m) l = ends_bind (b.expr []) _ g.no_expr (λ x. refl)
  sizes_pairs (begun_pairs_more r) zero l = absurd (omega arith)
  sizes_pairs (begun_pairs_more {p} {q} {xs} r) (suc m) l =
      ends_bind (pairs_of (suc m) (Punct p bracket_open ∷ Punct q bracket_close ∷ xs)) _ (goes_pairs (begun_pairs_more {p = p} {q = q} r) (suc m) l) (λ x. refl)

  pub goes_sizes : (xs : List Terminal) (d : BeginsDims xs) (room : ℕ) → begun_deep_dims d ≤ n → HasShortRows xs → begun_count_dims d ≤ room → Ends (sizes_of b.expr room xs)
  unfolding sizes_of
  goes_sizes vs begun_dims_none zero l h k = refl
  goes_sizes vs begun_dims_none (suc m) l h k = refl
  goes_sizes vs (begun_dims_size r) zero l h k = absurd (omega arith)
  goes_sizes vs (begun_dims_size {xs} r) (suc m) l h k =
      rw (not_begun bracket_close xs refl (begun_expr r)) (ends_bind (b.expr xs) _ (g.expr r (omega arith) h.1) (λ x. refl))
  goes_sizes vs (begun_dims_more d r) zero l h k = absurd (omega arith)
  goes_sizes vs (begun_dims_more {xs} {zs} d r) (suc m) l h k =
      rw (not_starts bracket_close xs refl (start_expr d)) (rw (c.expr d (omega arith) (low_expr h.1 d) (lit< tt))
      (ends_bind (sizes_of b.expr m zs) _ (goes_sizes zs r m (omega arith) (rows_behind (closed_expr d) h.1).1 (omega arith)) (λ x. refl)))
  goes_sizes vs (begun_dims_pairs d r) zero l h k = absurd (omega arith)
  goes_sizes vs (begun_dims_pairs {xs} {zs} d r) (suc m) l h k =
      rw (not_starts bracket_close xs refl (start_expr d)) (rw (c.expr d (omega arith) (low_expr h.1 d) (lit< tt))
      (ends_bind (sizes_of b.expr m zs) _ (sizes_pairs r m (omega arith)) (λ x. refl)))
  goes_sizes vs (begun_dims_whole d) m l h k = ap left_of (c_sizes n b c d m (omega arith) (low_dims h d) k refl)
