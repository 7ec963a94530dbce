-- Turns of the loop that reads the operators of a level, and the levels.
use Rattle.std.proofs.Common.{◌≡◌, ℕ, zero, suc, ◌+◌, ◌-◌, ◌<◌, ◌≤◌, Bool, true, false, List, [], ◌∷◌, ◌++◌, length, ap, sym, ◌∙◌, subst, refl, arith, true≢false, nat_eq, drop, Ok, Err, Option, Some, None, if◌then◌else◌, ◌&&◌}
use Rattle.std.specs.List.{list_any}
use Rattle.std.specs.Option.{option_map}
use Rattle.std.proofs.lemmas.List.{drop_more}
use Rattle.jv_tree.specs.declared.expression.Operand.{Operand}
use Rattle.jv_tree.specs.ExprTree as t
use Rattle.jv_tree.specs.ExprTree.{ExprTree, LinkTrees, link_trees, operand_tree}
use Rattle.jv_tree.specs.Shaped.{levels, instance_of}
use Rattle.jv_grammar.specs.declared.form.Form.TheVariants.{Other}
use Rattle.jv_grammar.specs.declared.terminal.Terminal.{Terminal}
use Rattle.jv_grammar.specs.declared.terminal.Terminal.TheVariants.{Ident, Keyword, Literal, Minimum, MinimumLong, Punct}
use Rattle.jv_grammar.specs.Marks.{word_instanceof}
use Rattle.jv_grammar.specs.ExprGrammar.{at_of}
use Rattle.jv_grammar.specs.Reader.{Reads, ◌>>=◌}
use Rattle.jv_grammar.specs.TypeReader.{reference_of}
use Rattle.jv_grammar.specs.ExprReader.{Parsed, Below, links_of, bin_of, unary_of, chained, is_mark_of}
use Rattle.jv_parse_expr.specs.declared.fault.Fault.{Fault}
use Rattle.jv_parse_expr.specs.View.{Fails, Link, no_link, some_link, link_of, link_tree, level_at, tighter_than, HasNoLink, HasNoLinks}
use Rattle.jv_parse_expr.proofs.Faults.{fails_bind}

abbrev pub links_front : List (ℕ × ℕ × Operand) → LinkTrees → LinkTrees
links_front [] ls = ls
links_front (x ∷ xs) ls = t.links x.0 x.1 (operand_tree x.2) (links_front xs ls)

abbrev pub links_onto : List (ℕ × ℕ × Operand) → Reads LinkTrees → Reads LinkTrees
links_onto front r = r >>= λ s. Ok (links_front front s.0, s.1)

abbrev pub some_links : List Terminal → LinkTrees → Reads LinkTrees
some_links ys ls = Ok (ls, ys)

abbrev pub no_links_read : List Terminal → Reads LinkTrees
no_links_read xs = Err xs

links_front_none : (xs : List (ℕ × ℕ × Operand)) → links_front xs t.no_links ≡ link_trees xs
links_front_none [] = refl
links_front_none (x ∷ xs) = ap (t.links x.0 x.1 (operand_tree x.2)) (links_front_none xs)

links_front_push : (xs : List (ℕ × ℕ × Operand)) (x : ℕ × ℕ × Operand) (ls : LinkTrees) → links_front (xs ++ x ∷ []) ls ≡ links_front xs (t.links x.0 x.1 (operand_tree x.2) ls)
links_front_push [] x ls = refl
links_front_push (y ∷ xs) x ls = ap (t.links y.0 y.1 (operand_tree y.2)) (links_front_push xs x ls)

links_push : (xs : List (ℕ × ℕ × Operand)) (x : ℕ × ℕ × Operand) (r : Reads LinkTrees)
    → links_onto (xs ++ x ∷ []) r ≡ links_onto xs (r >>= λ s. some_links s.1 (t.links x.0 x.1 (operand_tree x.2) s.0))
links_push xs x (Ok s) = ap (some_links s.1) (links_front_push xs x s.0)
links_push xs x (Err e) = refl

links_nil : (r : Reads LinkTrees) → links_onto [] r ≡ r
links_nil (Ok s) = refl
links_nil (Err e) = refl

abbrev link_read : List Terminal → Option Link → Reads (Option Link)
link_read ys g = Ok (g, ys)

-- the operators behind one that is read, or the end
abbrev link_step : (List Terminal → Reads Parsed) → List ℕ → ℕ → Option Link × List Terminal → Reads LinkTrees
link_step operand level c (None, ys) = some_links ys t.no_links
link_step operand level c (Some l, ys) = links_of operand level c ys >>= λ s. some_links s.1 (t.links l.0 l.1 l.2 s.0)

abbrev linked : (List Terminal → Reads Parsed) → List ℕ → ℕ → Reads (Option Link) → Reads LinkTrees
linked operand level c r = r >>= link_step operand level c

module _ (operand : List Terminal → Reads Parsed) (level : List ℕ) (c p : ℕ) where
  linked_operand : (o : ℕ) (r : Reads Parsed) → (r >>= λ x. links_of operand level c x.1 >>= λ s. some_links s.1 (t.links p o (t.operand x.0.1) s.0))
      ≡ linked operand level c (r >>= λ x. some_link p o (t.operand x.0.1) x.1)
  linked_operand o (Ok x) = refl
  linked_operand o (Err e) = refl

  linked_mark : (o : ℕ) (b : Bool) (r : Reads Parsed) (xs : List Terminal)
      → (if b then (r >>= λ x. links_of operand level c x.1 >>= λ s. some_links s.1 (t.links p o (t.operand x.0.1) s.0)) else some_links xs t.no_links)
      ≡ linked operand level c (if b then (r >>= λ x. some_link p o (t.operand x.0.1) x.1) else no_link xs)
  linked_mark o true r xs = linked_operand o r
  linked_mark o false r xs = refl

  linked_type : (b : Bool) (r : Reads _) (xs : List Terminal)
      → (if b then (r >>= λ x. links_of operand level c x.1 >>= λ s. some_links s.1 (t.links p instance_of (t.of_type x.0) s.0)) else some_links xs t.no_links)
      ≡ linked operand level c (if b then (r >>= λ x. some_link p instance_of (t.of_type x.0) x.1) else no_link xs)
  linked_type true (Ok x) xs = refl
  linked_type true (Err e) xs = refl
  linked_type false r xs = refl

links_at : (operand : List Terminal → Reads Parsed) (level : List ℕ) (c : ℕ) (xs : List Terminal)
    → links_of operand level (suc c) xs ≡ linked operand level c (link_of operand level xs)
unfolding links_of
links_at operand level c [] = refl
links_at operand level c (Ident i ∷ xs) = refl
links_at operand level c (Keyword p k ∷ xs) = linked_type operand level c p (nat_eq k word_instanceof && list_any (nat_eq instance_of) level) (reference_of xs) (Keyword p k ∷ xs)
links_at operand level c (Literal p l ∷ xs) = refl
links_at operand level c (Minimum p ∷ xs) = refl
links_at operand level c (MinimumLong p ∷ xs) = refl
links_at operand level c (Punct p o ∷ xs) = linked_mark operand level c p o (is_mark_of level o) (operand xs) (Punct p o ∷ xs)

links_zero : (operand : List Terminal → Reads Parsed) (level : List ℕ) (xs : List Terminal) → links_of operand level zero xs ≡ no_links_read xs
unfolding links_of
links_zero operand level xs = refl

module _ (operand : List Terminal → Reads Parsed) (level : List ℕ) (items : List (ℕ × ℕ × Operand)) (n : ℕ) (xs : List Terminal) where
  pub links_begin : items ≡ [] → links_onto items (links_of operand level (n - 0) xs) ≡ links_of operand level n xs
  links_begin none = let e : n - 0 ≡ n = omega arith in rw (none, e) (links_nil (links_of operand level n xs))

  pub links_over : (i : ℕ) → n ≤ i → links_onto items (links_of operand level (n - i) xs) ≡ no_links_read xs
  links_over i h = let e : n - i ≡ zero = omega arith in rw (e, links_zero operand level xs) refl

module _ (operand : List Terminal → Reads Parsed) (level : List ℕ) (items : List (ℕ × ℕ × Operand)) (n i : ℕ) (xs : List Terminal) (h : i < n) where
  links_turn : links_of operand level (n - i) xs ≡ linked operand level (n - (i + 1)) (link_of operand level xs)
  links_turn = let e : n - i ≡ suc (n - (i + 1)) = omega arith in ap (λ k. links_of operand level k xs) e ∙ links_at operand level (n - (i + 1)) xs

  pub links_failed : (e : Fault) → Fails e (link_of operand level xs) → Fails e (links_onto items (links_of operand level (n - i) xs))
  links_failed e f = rw links_turn (fails_bind e _ _ (fails_bind e (link_of operand level xs) _ f))

  pub links_done : (g : Option (ℕ × ℕ × Operand)) (ys : List Terminal) → link_of operand level xs ≡ link_read ys (option_map link_tree g) → g ≡ None
      → links_onto items (links_of operand level (n - i) xs) ≡ some_links ys (link_trees items)
  links_done g ys r none = rw (links_turn, r, none) (ap (some_links ys) (links_front_none items))

  pub links_next : (g : Option (ℕ × ℕ × Operand)) (x : ℕ × ℕ × Operand) (ys : List Terminal) → link_of operand level xs ≡ link_read ys (option_map link_tree g) → g ≡ Some x
      → links_onto (items ++ x ∷ []) (links_of operand level (n - (i + 1)) ys) ≡ links_onto items (links_of operand level (n - i) xs)
  links_next g x ys r some = links_push items x (links_of operand level (n - (i + 1)) ys) ∙ sym (rw (links_turn, r, some) refl)

-- levels
pub no_levels : (b : Below) (xs : List Terminal) → bin_of b [] xs ≡ unary_of b xs
unfolding bin_of
no_levels b xs = refl

abbrev pub bin_turn : Below → List (List ℕ) → List ℕ → List Terminal → Reads Parsed
bin_turn b tighter level xs = bin_of b tighter xs >>= λ r. links_of (bin_of b tighter) level (suc (length xs)) r.1 >>= λ s. Ok (chained r.0 s.0, s.1)

bin_at : (b : Below) (level : List ℕ) (tighter : List (List ℕ)) (xs : List Terminal) → bin_of b (level ∷ tighter) xs ≡ bin_turn b tighter level xs
unfolding bin_of
bin_at b level tighter xs = refl

-- an expression that operators make
abbrev pub other_form : ExprTree → Parsed
other_form x = (Other, x)

pub chained_some : (r : Parsed) (ls : List (ℕ × ℕ × Operand)) → 0 < length ls → chained r (link_trees ls) ≡ other_form (t.expr (at_of r.1) (t.chain r.1 (link_trees ls)))
chained_some r [] h = absurd (omega arith)
chained_some r (x ∷ xs) h = refl

pub pos_of : (n : ℕ) → false ≡ nat_eq n 0 → 0 < n
pos_of zero h = absurd (true≢false (sym h))
pos_of (suc n) h = omega arith

abbrev parsed_at : List Terminal → Parsed → Reads Parsed
parsed_at ys r = Ok (r, ys)

module _ (b : Below) (k : ℕ) (xs : List Terminal) (h : k < 10) where
  pub levels_split : drop k levels ≡ level_at k ∷ tighter_than k
  levels_split = drop_more levels k [] h

  bin_step : bin_of b (drop k levels) xs ≡ bin_turn b (tighter_than k) (level_at k) xs
  bin_step = ap (λ l. bin_of b l xs) levels_split ∙ bin_at b (level_at k) (tighter_than k) xs

  bin_failed : (e : Fault) → Fails e (bin_of b (tighter_than k) xs) → Fails e (bin_of b (drop k levels) xs)
  bin_failed e f = rw bin_step (fails_bind e (bin_of b (tighter_than k) xs) _ f)

  bin_passed : (r : Parsed) (ys : List Terminal) → bin_of b (tighter_than k) xs ≡ parsed_at ys r → HasNoLink k ys → bin_of b (drop k levels) xs ≡ parsed_at ys r
  bin_passed r ys read none = rw (bin_step, read, links_at (bin_of b (tighter_than k)) (level_at k) (length xs) ys, none (bin_of b (tighter_than k))) refl

  module _ (r : Parsed) (ys : List Terminal) (read : bin_of b (tighter_than k) xs ≡ parsed_at ys r) where
    count_is : suc (length xs) ≡ length xs + 1
    count_is = omega arith

    bin_links_failed : (e : Fault) → Fails e (links_of (bin_of b (tighter_than k)) (level_at k) (length xs + 1) ys) → Fails e (bin_of b (drop k levels) xs)
    bin_links_failed e w = rw (bin_step, read, count_is) (fails_bind e (links_of (bin_of b (tighter_than k)) (level_at k) (length xs + 1) ys) _ w)

    bin_linked : (ls : LinkTrees) (zs : List Terminal) → links_of (bin_of b (tighter_than k)) (level_at k) (length xs + 1) ys ≡ some_links zs ls
        → bin_of b (drop k levels) xs ≡ parsed_at zs (chained r ls)
    bin_linked ls zs w = rw (bin_step, read, count_is, w) refl

-- down to a level from one that binds tighter
module _ (b : Below) (k : ℕ) (xs : List Terminal) where
  climb_failed : (d n : ℕ) → n ≡ d + k → n ≤ 10 → (e : Fault) → Fails e (bin_of b (drop n levels) xs) → Fails e (bin_of b (drop k levels) xs)
  climb_failed zero n is h e f = let same : n ≡ k = omega (arith, is) in subst (λ m. Fails e (bin_of b (drop m levels) xs)) same f
  climb_failed (suc d) n is h e f =
      let next : n ≡ d + k + 1 = omega (arith, is) in
      climb_failed d (d + k) refl (omega (arith, h, is)) e (bin_failed b (d + k) xs (omega (arith, h, is)) e (subst (λ m. Fails e (bin_of b (drop m levels) xs)) next f))

  climb_passed : (d n : ℕ) → n ≡ d + k → n ≤ 10 → (r : Parsed) (ys : List Terminal) → bin_of b (drop n levels) xs ≡ parsed_at ys r → HasNoLinks k n ys
      → bin_of b (drop k levels) xs ≡ parsed_at ys r
  climb_passed zero n is h r ys read none = let same : n ≡ k = omega (arith, is) in subst (λ m. bin_of b (drop m levels) xs ≡ parsed_at ys r) same read
  climb_passed (suc d) n is h r ys read none =
      let next : n ≡ d + k + 1 = omega (arith, is) in
      climb_passed d (d + k) refl (omega (arith, h, is)) r ys
      (bin_passed b (d + k) xs (omega (arith, h, is)) r ys (subst (λ m. bin_of b (drop m levels) xs ≡ parsed_at ys r) next read)
      (none (d + k) (omega arith) (omega (arith, is))))
      (λ j low high. none j low (omega (arith, high, is)))

module _ (b : Below) (k n : ℕ) (xs : List Terminal) (h : n ≤ 10) (low : k ≤ n) where
  deep : n ≡ n - k + k
  deep = omega (arith, low)

  pub sunk_failed : (f : Fault) → Fails f (bin_of b (drop n levels) xs) → Fails f (bin_of b (drop k levels) xs)
  sunk_failed f w = climb_failed b k xs (n - k) n deep h f w

  pub sunk : (r : Parsed) (ys : List Terminal) → bin_of b (drop n levels) xs ≡ Ok (r, ys) → HasNoLinks k n ys → bin_of b (drop k levels) xs ≡ Ok (r, ys)
  sunk r ys read none = climb_passed b k xs (n - k) n deep h r ys read none

pub unary_failed : (b : Below) (k : ℕ) (xs : List Terminal) → k ≤ 10 → (f : Fault) → Fails f (unary_of b xs) → Fails f (bin_of b (drop k levels) xs)
unary_failed b k xs h f w = sunk_failed b k 10 xs (omega arith) h f (rw (no_levels b xs) w)

pub unary_read : (b : Below) (xs : List Terminal) (r : Parsed) (ys : List Terminal) → unary_of b xs ≡ Ok (r, ys) → bin_of b (drop 10 levels) xs ≡ Ok (r, ys)
unary_read b xs r ys read = no_levels b xs ∙ read

-- at an operator of the level l, behind what was read with the levels from n on
module _ (b : Below) (l n : ℕ) (xs : List Terminal) (h : n ≤ 10) (low : l < n) (r : Parsed) (ys : List Terminal) (read : bin_of b (drop n levels) xs ≡ Ok (r, ys)) (none : HasNoLinks (l + 1) n ys) where
  tight : bin_of b (tighter_than l) xs ≡ parsed_at ys r
  tight = sunk b (l + 1) n xs h (omega (arith, low)) r ys read none

  pub climbs_failed : (k : ℕ) → k ≤ l → (f : Fault) → Fails f (links_of (bin_of b (tighter_than l)) (level_at l) (length xs + 1) ys) → Fails f (bin_of b (drop k levels) xs)
  climbs_failed k at f w = sunk_failed b k l xs (omega (arith, h, low)) at f (bin_links_failed b l xs (omega (arith, h, low)) r ys tight f w)

  pub climbs : (ls : LinkTrees) (zs : List Terminal) (s : Parsed) → links_of (bin_of b (tighter_than l)) (level_at l) (length xs + 1) ys ≡ Ok (ls, zs) → s ≡ chained r ls
      → bin_of b (drop l levels) xs ≡ Ok (s, zs)
  climbs ls zs s w is = bin_linked b l xs (omega (arith, h, low)) r ys tight ls zs w ∙ ap (parsed_at zs) (sym is)
