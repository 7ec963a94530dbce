-- What the tests ahead see: a cast behind a `(`, and a declaration, of which no expression is the front.
use Rattle.std.proofs.Common.{◌≡◌, ℕ, ◌<◌, ◌||◌, ◌&&◌, not, ◌⊎◌, inl, inr, Bool, true, false, nat_eq, List, [], ◌∷◌, arith, refl, sym, ap, ◌∙◌, subst, true≢false, Ok, Err}
use Rattle.jv_tree.specs.declared.name.Ident.{Ident as Identifier}
use Rattle.jv_tree.specs.TypeTree.{BaseTree, TypeTree}
use Rattle.jv_tree.specs.ExprTree.{ExprTree, OperandTree, ExprTrees, LinkTrees}
use Rattle.jv_tree.specs.Shaped.{instance_of, postfix_operators, assignment_operators}
use Rattle.jv_grammar.specs.declared.terminal.Terminal.{Terminal}
use Rattle.jv_grammar.specs.declared.terminal.Terminal.TheVariants.{Ident, Keyword, Punct}
use Rattle.jv_grammar.specs.declared.form.Form.{Form}
use Rattle.jv_grammar.specs.Marks.{paren_open, paren_close, bracket_open, bracket_close, dot, word_new, word_super, word_this}
use Rattle.jv_grammar.specs.TypeGrammar.{is_mark, starts, DerivesName, name_one, name_more, DerivesPrim, prim_boolean, prim_char, prim_int, prim_long, base_prim, base_name, pairs_none, pairs_more, DerivesTy, ty, DerivesReference, reference_name, reference_prim}
use Rattle.jv_grammar.specs.ExprGrammar.{begins_plain, IsCast, goes_on, name_ends, DerivesExpr, expr_assign, expr_cond, DerivesCond, cond_bin, cond_choice, DerivesBin, bin_unary, bin_one, bin_chain, DerivesLinks, links_one, links_more, DerivesLink, link_operand, link_type, DerivesUnary, unary_sign, unary_step, unary_minimum, unary_minimum_long, unary_cast, unary_post, DerivesCast, cast_prim, cast_reference, DerivesPost, post_primary, post_step, DerivesPrimary, primary_head, primary_field, primary_call, primary_index, DerivesHead, head_literal, head_this, head_paren, head_name, head_call, head_super_field, head_super_call, head_new, head_new_array, head_new_list, DerivesArgs, args_none, args_some}
use Rattle.jv_grammar.specs.Reader.{Reads, rest_of, starts_ident}
use Rattle.jv_grammar.specs.TypeReader.{dotted, name_of, prim_of, is_prim, starts_pair, is_declared, declares}
use Rattle.jv_grammar.specs.ExprReader.{is_cast, cast_ahead}
use Rattle.jv_grammar.proofs.Read.{both, or_either, or_false, not_true, among, mark_is, starts_is}
use Rattle.jv_grammar.proofs.Ranks.{first_rank, starts_apart, ranked, AreRanked, IsRanked, levels_ranked, assignments_ranked}
use Rattle.jv_grammar.proofs.Types.{names_read, reads_name, derives_name}
use Rattle.jv_grammar.proofs.Starts.{IsStart, start_expr, not_starts}

abbrev ReadName : Type 0
ReadName = Reads (List Identifier)

-- no declaration, as far as the name says
abbrev pub IsFree : List Terminal → Type 0
IsFree xs = is_declared (name_of xs) ≡ false

-- a name is no declaration, or ends where the derivation ends
abbrev pub Beyond : List Terminal → List Terminal → Type 0
Beyond xs ys = IsFree xs ⊎ ((ids : List Identifier) × (name_of xs ≡ names_read ids ys))

pub settle : (xs ys : List Terminal) → Beyond xs ys → starts_ident ys ≡ false → starts_pair ys ≡ false → IsFree xs
settle xs ys (inl h) i p = h
settle xs ys (inr h) i p = rw (h.1, i, p) refl

prefixed : (i : Identifier) → (r : ReadName) → is_declared (dotted i r) ≡ is_declared r
prefixed i (Ok r) = refl
prefixed i (Err e) = refl

-- a name goes on behind its dot
name_on : {ids : List Identifier} {xs : List Terminal} {p : ℕ} {zs : List Terminal} → DerivesName ids xs (Punct p dot ∷ zs) → is_declared (name_of xs) ≡ is_declared (name_of zs)
unfolding name_of
name_on {zs} (name_one {i}) = prefixed i (name_of zs)
name_on (name_more {i} {xs} d) = prefixed i (name_of xs) ∙ name_on d

-- what stands behind the dot where a name ends is no declaration
stays_free : (zs : List Terminal) → goes_on zs ≡ false → IsFree zs
unfolding name_of
stays_free [] h = refl
stays_free (Ident i ∷ []) h = refl
stays_free (Ident i ∷ x ∷ xs) h = by (is_mark paren_open x) refl
  where
    by : (b : Bool) → is_mark paren_open x ≡ b → IsFree (Ident i ∷ x ∷ xs)
    by false e = absurd (true≢false (sym (ap not e) ∙ h))
    by true e = let m = mark_is paren_open x e in subst (λ z. IsFree (Ident i ∷ z ∷ xs)) (sym m.1) refl
stays_free (x ∷ xs) h = refl

beyond_name : {ids : List Identifier} {xs ys : List Terminal} → DerivesName ids xs ys → name_ends ys ≡ true → Beyond xs ys
beyond_name {ids} {xs} {ys} d h = by (starts dot ys) refl
  where
    by : (b : Bool) → starts dot ys ≡ b → Beyond xs ys
    by false e = inr (ids, reads_name d e)
    by true e =
        let m = starts_is dot ys e in
        let ends : name_ends (Punct m.0 dot ∷ rest_of ys) ≡ true = subst (λ z. name_ends z ≡ true) m.1 h in
        inl (name_on (subst (DerivesName ids xs) m.1 d) ∙ stays_free (rest_of ys) (not_true _ ends))

beyond_call : (i : Identifier) {es : ExprTrees} {xs ys : List Terminal} → DerivesArgs es xs ys → IsFree (Ident i ∷ xs)
unfolding name_of
beyond_call i args_none = refl
beyond_call i (args_some d) = refl

pub beyond_head : {f : Form} {e : ExprTree} {xs ys : List Terminal} → DerivesHead f e xs ys → Beyond xs ys
unfolding name_of
beyond_head head_literal = inl refl
beyond_head head_this = inl refl
beyond_head (head_paren h d) = inl refl
beyond_head (head_name d h) = beyond_name d h
beyond_head (head_call {i} a) = inl (beyond_call i a)
beyond_head (head_super_field h) = inl refl
beyond_head (head_super_call a) = inl refl
beyond_head (head_new m a) = inl refl
beyond_head (head_new_array m d h) = inl refl
beyond_head (head_new_list m q l) = inl refl

pub beyond_primary : {f : Form} {e : ExprTree} {xs ys : List Terminal} → DerivesPrimary f e xs ys → Beyond xs ys
beyond_primary (primary_head d) = beyond_head d
beyond_primary (primary_field d h) = inl (settle _ _ (beyond_primary d) refl refl)
beyond_primary (primary_call d a) = inl (settle _ _ (beyond_primary d) refl refl)
beyond_primary (primary_index {zs} d x) = inl (settle _ _ (beyond_primary d) refl (not_starts bracket_close zs refl (start_expr x)))

-- an operator is no bracket
no_bracket : (p o : ℕ) (ys : List Terminal) → nat_eq o bracket_open ≡ false → starts_pair (Punct p o ∷ ys) ≡ false
no_bracket p o ys h = rw h refl

pub beyond_post : {f : Form} {e : ExprTree} {xs ys : List Terminal} → DerivesPost f e xs ys → Beyond xs ys
beyond_post (post_primary d) = beyond_primary d
beyond_post (post_step {p} {o} {ys} d h) = inl (settle _ _ (beyond_post d) refl (no_bracket p o ys (among (λ n. nat_eq n bracket_open ≡ false) postfix_operators o (refl, (refl, tt)) h)))

pub beyond_cast : {e : ExprTree} {xs ys : List Terminal} → DerivesCast e xs ys → IsFree xs
unfolding name_of
beyond_cast (cast_prim m d) = refl
beyond_cast (cast_reference m d) = refl

pub beyond_unary : {f : Form} {e : ExprTree} {xs ys : List Terminal} → DerivesUnary f e xs ys → Beyond xs ys
unfolding name_of
beyond_unary (unary_sign h d) = inl refl
beyond_unary (unary_step h d) = inl refl
beyond_unary unary_minimum = inl refl
beyond_unary unary_minimum_long = inl refl
beyond_unary (unary_cast d) = inl (beyond_cast d)
beyond_unary (unary_post d) = beyond_post d

-- the token behind an operand ends it
pub link_rank : {level : List ℕ} {tighter : List (List ℕ)} {p o : ℕ} {x : OperandTree} {xs ys : List Terminal} (k : ℕ) → AreRanked k level → DerivesLink level tighter p o x xs ys → first_rank xs ≡ k
link_rank {level} {o} k r (link_operand h d) = ranked k level o r h.0
link_rank {level} k r (link_type h d) = ranked k level instance_of r h

pub links_rank : {level : List ℕ} {tighter : List (List ℕ)} {ls : LinkTrees} {xs ys : List Terminal} (k : ℕ) → AreRanked k level → DerivesLinks level tighter ls xs ys → first_rank xs ≡ k
links_rank k r (links_one d) = link_rank k r d
links_rank k r (links_more d l) = link_rank k r d

pub link_no_ident : {level : List ℕ} {tighter : List (List ℕ)} {p o : ℕ} {x : OperandTree} {xs ys : List Terminal} → DerivesLink level tighter p o x xs ys → starts_ident xs ≡ false
link_no_ident (link_operand h d) = refl
link_no_ident (link_type h d) = refl

pub links_no_ident : {level : List ℕ} {tighter : List (List ℕ)} {ls : LinkTrees} {xs ys : List Terminal} → DerivesLinks level tighter ls xs ys → starts_ident xs ≡ false
links_no_ident (links_one d) = link_no_ident d
links_no_ident (links_more d l) = link_no_ident d

pub no_pair : (ys : List Terminal) → 0 < first_rank ys → starts_pair ys ≡ false
no_pair ys h = rw (starts_apart bracket_open ys h) refl

pub beyond_bin : {levels : List (List ℕ)} {f : Form} {e : ExprTree} {xs ys : List Terminal} → IsRanked levels → DerivesBin levels f e xs ys → Beyond xs ys
beyond_bin r (bin_unary d) = beyond_unary d
beyond_bin r (bin_one d) = beyond_bin r.1 d
beyond_bin r (bin_chain {zs} d l) =
    inl (settle _ _ (beyond_bin r.1 d) (links_no_ident l) (no_pair zs (let k = links_rank _ r.0 l in omega (arith, k))))

pub beyond_cond : {f : Form} {e : ExprTree} {xs ys : List Terminal} → DerivesCond f e xs ys → Beyond xs ys
beyond_cond (cond_bin d) = beyond_bin levels_ranked d
beyond_cond (cond_choice d a b) = inl (settle _ _ (beyond_bin levels_ranked d) refl refl)

pub beyond_expr : {f : Form} {e : ExprTree} {xs ys : List Terminal} → DerivesExpr f e xs ys → Beyond xs ys
beyond_expr (expr_assign {p} {o} {zs} d h r) = inl (settle _ _ (beyond_primary d) refl (no_pair (Punct p o ∷ zs) (let k = ranked 12 assignment_operators o assignments_ranked h in omega (arith, k))))
beyond_expr (expr_cond d) = beyond_cond d

-- the keywords that begin an expression are no types
no_prim : (k : ℕ) → nat_eq k word_this || nat_eq k word_super || nat_eq k word_new ≡ true → is_prim (prim_of k) ≡ false
no_prim k h = among (λ n. is_prim (prim_of n) ≡ false) (word_this ∷ word_super ∷ word_new ∷ []) k (refl, (refl, (refl, tt))) (in_list (nat_eq k word_this) (nat_eq k word_super) (nat_eq k word_new) h)
  where
    in_list : (a b c : Bool) → a || b || c ≡ true → a || (b || (c || false)) ≡ true
    in_list true b c h' = refl
    in_list false true c h' = refl
    in_list false false true h' = refl
    in_list false false false h' = h'

pub free_declares : (xs : List Terminal) → IsStart xs → IsFree xs → declares xs ≡ false
unfolding declares
free_declares [] s h = refl
free_declares (Ident i ∷ xs) s h = h
free_declares (Keyword p k ∷ xs) s h = no_prim k s
free_declares (x ∷ xs) s h = refl

-- no expression is the front of a declaration
pub no_declares : {f : Form} {e : ExprTree} {xs ys : List Terminal} → DerivesExpr f e xs ys → 0 < first_rank ys → starts_ident ys ≡ false → declares xs ≡ false
no_declares {xs} {ys} d r h = free_declares xs (start_expr d) (settle xs ys (beyond_expr d) h (no_pair ys r))

-- a name with its type's brackets and an identifier behind it begins a declaration
pub prim_declares : {p : ℕ} {b : BaseTree} {xs ys : List Terminal} → DerivesPrim p b xs ys → declares xs ≡ true
unfolding declares
prim_declares prim_boolean = refl
prim_declares prim_char = refl
prim_declares prim_int = refl
prim_declares prim_long = refl

pub name_declares : {ids : List Identifier} {xs ys : List Terminal} → DerivesName ids xs ys → is_declared (name_of xs) ≡ true → declares xs ≡ true
unfolding declares
name_declares name_one h = h
name_declares (name_more d) h = h

no_dot : (ys : List Terminal) → starts_ident ys ≡ true → starts dot ys ≡ false
no_dot [] h = refl
no_dot (Ident i ∷ ys) h = refl
no_dot (x ∷ ys) h = absurd (true≢false (sym h))

pub declares_ty : {r : TypeTree} {xs ys : List Terminal} → DerivesTy r xs ys → starts_ident ys ≡ true → declares xs ≡ true
declares_ty (ty (base_prim d) q) h = prim_declares d
declares_ty (ty (base_name d) (pairs_none {ys})) h = name_declares d (rw (reads_name d (no_dot ys h)) (rw h refl))
declares_ty (ty (base_name d) (pairs_more q)) h = name_declares d (rw (reads_name d refl) refl)

-- The test behind a `(` sees the casts, and no others.
prim_cast : {p : ℕ} {b : BaseTree} {xs ys : List Terminal} → DerivesPrim p b xs ys → cast_ahead xs ≡ true
unfolding cast_ahead
prim_cast prim_boolean = refl
prim_cast prim_char = refl
prim_cast prim_int = refl
prim_cast prim_long = refl

pub name_cast : {ids : List Identifier} {xs ys : List Terminal} → DerivesName ids xs ys → is_cast (name_of xs) ≡ true → cast_ahead xs ≡ true
unfolding cast_ahead
name_cast name_one h = h
name_cast (name_more d) h = h

pub prim_ahead : {p : ℕ} {b : BaseTree} {xs ys : List Terminal} → DerivesPrim p b xs ys → cast_ahead xs ≡ true
prim_ahead d = prim_cast d

pub reference_ahead : {r : TypeTree} {p : ℕ} {xs zs : List Terminal} → DerivesReference r xs (Punct p paren_close ∷ zs) → begins_plain zs ≡ true → cast_ahead xs ≡ true
reference_ahead (reference_prim m q) h = prim_cast m
reference_ahead (reference_name m pairs_none) h = name_cast m (rw (reads_name m refl) h)
reference_ahead (reference_name m (pairs_more q)) h = name_cast m (rw (reads_name m refl) refl)

name_is_cast : (xs : List Terminal) (r : ReadName) → name_of xs ≡ r → is_declared r ≡ false → is_cast r ≡ true → IsCast xs
name_is_cast xs (Err e) n f h = absurd (true≢false (sym h))
name_is_cast xs (Ok r) n f h =
    let no = (or_false (starts_ident r.1) (starts_pair r.1) f).1 in
    elim (or_either (starts_pair r.1) (starts paren_close r.1 && begins_plain (rest_of r.1)) h) [
      | inl w ↦ absurd (true≢false (sym w ∙ no))
      | inr w ↦ (let both_hold = both (starts paren_close r.1) (begins_plain (rest_of r.1)) w in
          let m = starts_is paren_close r.1 both_hold.0 in
          (r.0, m.0, rest_of r.1, subst (DerivesName r.0 xs) m.1 (derives_name xs r n), both_hold.1))
    ]

pub ahead_free : (xs : List Terminal) → IsStart xs → IsFree xs → (IsCast xs → ⊥) → cast_ahead xs ≡ false
unfolding cast_ahead
ahead_free [] s f n = refl
ahead_free (Ident i ∷ xs) s f n = by (is_cast (name_of (Ident i ∷ xs))) refl
  where
    by : (b : Bool) → is_cast (name_of (Ident i ∷ xs)) ≡ b → is_cast (name_of (Ident i ∷ xs)) ≡ false
    by false e = e
    by true e = absurd (n (name_is_cast (Ident i ∷ xs) (name_of (Ident i ∷ xs)) refl f e))
ahead_free (Keyword p k ∷ xs) s f n = no_prim k s
ahead_free (x ∷ xs) s f n = refl

-- behind the `(` of an expression in parentheses the test sees no cast
pub no_cast_ahead : {f : Form} {e : ExprTree} {p : ℕ} {xs ys : List Terminal} → (IsCast xs → ⊥) → DerivesExpr f e xs (Punct p paren_close ∷ ys) → cast_ahead xs ≡ false
no_cast_ahead {xs} n d = ahead_free xs (start_expr d) (settle xs _ (beyond_expr d) refl refl) n

-- a cast by a name is seen
pub cast_seen : (xs : List Terminal) → IsCast xs → cast_ahead xs ≡ true
cast_seen xs (ids, p, zs, d, h) = name_cast d (rw (reads_name d refl) h)
