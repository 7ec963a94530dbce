-- The grammar of expressions. `DerivesX f e xs ys` says that X derives the terminals of xs up to ys, with the tree e of the outermost
-- form f; ys are those that stand behind it. Where a tree starts is where its first terminal starts, a `(` around it too.
use Rattle.std.specs.Prelude.{◌≡◌, ℕ, suc, Bool, true, false, ◌&&◌, ◌||◌, not, nat_eq, List, [], ◌∷◌}
use Rattle.std.specs.List.{list_any}
use Rattle.jv_tree.specs.declared.name.Ident.{Ident as Identifier}
use Rattle.jv_tree.specs.TypeTree.{BaseTree, TypeTree}
use Rattle.jv_tree.specs.ExprTree as t
use Rattle.jv_tree.specs.ExprTree.{ExprTree, KindTree, OperandTree, InitTree, ExprTrees, InitTrees, LinkTrees}
use Rattle.jv_tree.specs.Shaped.{IsOneOf, levels, instance_of, postfix_operators, assignment_operators}
use Rattle.jv_grammar.specs.declared.terminal.Terminal.{Terminal}
use Rattle.jv_grammar.specs.declared.terminal.Terminal.TheVariants.{Ident, Keyword, Literal, Minimum, MinimumLong, Punct}
use Rattle.jv_grammar.specs.declared.terminal.LiteralKind.{LiteralKind}
use Rattle.jv_grammar.specs.declared.terminal.LiteralKind.TheVariants.{Int, Long, Char, Str, Bool as BoolLiteral, Null}
use Rattle.jv_grammar.specs.declared.form.Form.{Form}
use Rattle.jv_grammar.specs.declared.form.Form.TheVariants.{Target, Effect, Other}
use Rattle.jv_grammar.specs.Marks.{paren_open, paren_close, brace_open, brace_close, bracket_open, bracket_close, comma, dot, question_mark, colon, minus_sign, complements, signs, word_instanceof, word_new, word_super, word_this}
use Rattle.jv_grammar.specs.TypeGrammar.{starts, DerivesName, DerivesPrim, DerivesBase, DerivesPairs, DerivesReference}

-- where an expression starts, and what it is
abbrev pub at_of : ExprTree → ℕ
at_of (t.expr at kind) = at

-- what an expression is
abbrev pub kind_of : ExprTree → KindTree
kind_of (t.expr at kind) = kind

-- what a literal is
abbrev pub literal_tree : LiteralKind → KindTree
literal_tree Int = t.int
literal_tree Long = t.long
literal_tree Char = t.char
literal_tree Str = t.str
literal_tree (BoolLiteral b) = t.bool b
literal_tree Null = t.null

-- the mark is an operator of the level; the number of `instanceof` is that of no mark
abbrev pub IsMarkOf : List ℕ → ℕ → Type 0
IsMarkOf level o = IsOneOf level o × (o ≡ instance_of → ⊥)

-- the terminal begins a `plain`: an identifier, a literal, `(`, `!`, `~`, `this`, `super` or `new`
abbrev pub is_plain : Terminal → Bool
is_plain (Ident i) = true
is_plain (Keyword p k) = nat_eq k word_this || nat_eq k word_super || nat_eq k word_new
is_plain (Literal p l) = true
is_plain (Punct p o) = nat_eq o paren_open || list_any (nat_eq o) complements
is_plain x = false

-- the first terminal begins a `plain`
abbrev pub begins_plain : List Terminal → Bool
begins_plain [] = false
begins_plain (x ∷ xs) = is_plain x

-- Behind a `(` stand a name, a `)` and a terminal that begins a `plain`: `(name)` is a cast exactly there.
abbrev pub IsCast : List Terminal → Type 0
IsCast xs = (ids : List Identifier) × (p : ℕ) × (zs : List Terminal) × DerivesName ids xs (Punct p paren_close ∷ zs) × (begins_plain zs ≡ true)

-- behind a dot, the longest name of a head goes on: an identifier, and no `(` behind it
abbrev pub goes_on : List Terminal → Bool
goes_on (Ident i ∷ xs) = not (starts paren_open xs)
goes_on xs = false

-- the longest name of a head ends here; an identifier in front of a `(` is a call's
abbrev pub name_ends : List Terminal → Bool
name_ends [] = true
name_ends (x ∷ xs) = not (starts paren_open (x ∷ xs)) && not (starts dot (x ∷ xs) && goes_on xs)

mutual
  -- expr = target asg expr | cond
  pub data DerivesExpr : Form → ExprTree → List Terminal → List Terminal → Type 0 where
    expr_assign : {g : Form} {x y : ExprTree} {p o : ℕ} {xs zs ys : List Terminal}
        → DerivesPrimary Target x xs (Punct p o ∷ zs) → IsOneOf assignment_operators o → DerivesExpr g y zs ys
        → DerivesExpr Effect (t.expr (at_of x) (t.assign p o x y)) xs ys
    expr_cond : {f : Form} {e : ExprTree} {xs ys : List Terminal} → DerivesCond f e xs ys → DerivesExpr f e xs ys

  -- cond = bin ["?" expr ":" cond]
  pub data DerivesCond : Form → ExprTree → List Terminal → List Terminal → Type 0 where
    cond_bin : {f : Form} {e : ExprTree} {xs ys : List Terminal} → DerivesBin levels f e xs ys → DerivesCond f e xs ys
    cond_choice : {f g h : Form} {x y z : ExprTree} {p q : ℕ} {xs zs ws ys : List Terminal}
        → DerivesBin levels f x xs (Punct p question_mark ∷ zs) → DerivesExpr g y zs (Punct q colon ∷ ws) → DerivesCond h z ws ys
        → DerivesCond Other (t.expr (at_of x) (t.choice x y z)) xs ys

  -- bin: operands joined by operators of one level, each operand of the levels that bind tighter. The levels that are left stand
  -- loosest first; where none is left comes unary.
  pub data DerivesBin : List (List ℕ) → Form → ExprTree → List Terminal → List Terminal → Type 0 where
    bin_unary : {f : Form} {e : ExprTree} {xs ys : List Terminal} → DerivesUnary f e xs ys → DerivesBin [] f e xs ys
    bin_one : {level : List ℕ} {tighter : List (List ℕ)} {f : Form} {e : ExprTree} {xs ys : List Terminal}
        → DerivesBin tighter f e xs ys → DerivesBin (level ∷ tighter) f e xs ys
    bin_chain : {level : List ℕ} {tighter : List (List ℕ)} {f : Form} {e : ExprTree} {ls : LinkTrees} {xs zs ys : List Terminal}
        → DerivesBin tighter f e xs zs → DerivesLinks level tighter ls zs ys
        → DerivesBin (level ∷ tighter) Other (t.expr (at_of e) (t.chain e ls)) xs ys

  -- one or more operators of a level, each with what stands behind it
  pub data DerivesLinks : List ℕ → List (List ℕ) → LinkTrees → List Terminal → List Terminal → Type 0 where
    links_one : {level : List ℕ} {tighter : List (List ℕ)} {p o : ℕ} {x : OperandTree} {xs ys : List Terminal}
        → DerivesLink level tighter p o x xs ys → DerivesLinks level tighter (t.links p o x t.no_links) xs ys
    links_more : {level : List ℕ} {tighter : List (List ℕ)} {p o : ℕ} {x : OperandTree} {ls : LinkTrees} {xs zs ys : List Terminal}
        → DerivesLink level tighter p o x xs zs → DerivesLinks level tighter ls zs ys → DerivesLinks level tighter (t.links p o x ls) xs ys

  -- an operator of a level with its operand, or `instanceof` with a `ty` that isn't a bare primitive, which is an `rty`
  pub data DerivesLink : List ℕ → List (List ℕ) → ℕ → ℕ → OperandTree → List Terminal → List Terminal → Type 0 where
    link_operand : {level : List ℕ} {tighter : List (List ℕ)} {f : Form} {e : ExprTree} {p o : ℕ} {xs ys : List Terminal}
        → IsMarkOf level o → DerivesBin tighter f e xs ys → DerivesLink level tighter p o (t.operand e) (Punct p o ∷ xs) ys
    link_type : {level : List ℕ} {tighter : List (List ℕ)} {r : TypeTree} {p : ℕ} {xs ys : List Terminal}
        → IsOneOf level instance_of → DerivesReference r xs ys
        → DerivesLink level tighter p instance_of (t.of_type r) (Keyword p word_instanceof ∷ xs) ys

  -- unary = ("+" | "-" | "++" | "--" | "!" | "~") unary | "-" Min | cast | post
  pub data DerivesUnary : Form → ExprTree → List Terminal → List Terminal → Type 0 where
    unary_sign : {f : Form} {e : ExprTree} {p o : ℕ} {xs ys : List Terminal}
        → IsOneOf signs o → DerivesUnary f e xs ys → DerivesUnary Other (t.expr p (t.pre p o e)) (Punct p o ∷ xs) ys
    unary_step : {f : Form} {e : ExprTree} {p o : ℕ} {xs ys : List Terminal}
        → IsOneOf postfix_operators o → DerivesUnary f e xs ys → DerivesUnary Effect (t.expr p (t.pre p o e)) (Punct p o ∷ xs) ys
    unary_minimum : {p q : ℕ} {ys : List Terminal}
        → DerivesUnary Other (t.expr p (t.pre p minus_sign (t.expr q t.int))) (Punct p minus_sign ∷ Minimum q ∷ ys) ys
    unary_minimum_long : {p q : ℕ} {ys : List Terminal}
        → DerivesUnary Other (t.expr p (t.pre p minus_sign (t.expr q t.long))) (Punct p minus_sign ∷ MinimumLong q ∷ ys) ys
    unary_cast : {e : ExprTree} {xs ys : List Terminal} → DerivesCast e xs ys → DerivesUnary Other e xs ys
    unary_post : {f : Form} {e : ExprTree} {xs ys : List Terminal} → DerivesPost f e xs ys → DerivesUnary f e xs ys

  -- cast = "(" prim ")" unary | "(" rty ")" plain
  pub data DerivesCast : ExprTree → List Terminal → List Terminal → Type 0 where
    cast_prim : {f : Form} {b : BaseTree} {e : ExprTree} {p q r : ℕ} {xs zs ys : List Terminal}
        → DerivesPrim q b xs (Punct r paren_close ∷ zs) → DerivesUnary f e zs ys
        → DerivesCast (t.expr p (t.cast (record { at = q; base = b; dims = 0 }) e)) (Punct p paren_open ∷ xs) ys
    cast_reference : {f : Form} {r : TypeTree} {e : ExprTree} {p q : ℕ} {xs zs ys : List Terminal}
        → DerivesReference r xs (Punct q paren_close ∷ zs) → DerivesPlain f e zs ys
        → DerivesCast (t.expr p (t.cast r e)) (Punct p paren_open ∷ xs) ys

  -- plain = ("!" | "~") unary | cast | post
  pub data DerivesPlain : Form → ExprTree → List Terminal → List Terminal → Type 0 where
    plain_sign : {f : Form} {e : ExprTree} {p o : ℕ} {xs ys : List Terminal}
        → IsOneOf complements o → DerivesUnary f e xs ys → DerivesPlain Other (t.expr p (t.pre p o e)) (Punct p o ∷ xs) ys
    plain_cast : {e : ExprTree} {xs ys : List Terminal} → DerivesCast e xs ys → DerivesPlain Other e xs ys
    plain_post : {f : Form} {e : ExprTree} {xs ys : List Terminal} → DerivesPost f e xs ys → DerivesPlain f e xs ys

  -- post = primary {"++" | "--"}
  pub data DerivesPost : Form → ExprTree → List Terminal → List Terminal → Type 0 where
    post_primary : {f : Form} {e : ExprTree} {xs ys : List Terminal} → DerivesPrimary f e xs ys → DerivesPost f e xs ys
    post_step : {f : Form} {e : ExprTree} {p o : ℕ} {xs ys : List Terminal}
        → DerivesPost f e xs (Punct p o ∷ ys) → IsOneOf postfix_operators o → DerivesPost Effect (t.expr (at_of e) (t.post p o e)) xs ys

  -- primary = head {"." Id [args] | "[" expr "]"}
  pub data DerivesPrimary : Form → ExprTree → List Terminal → List Terminal → Type 0 where
    primary_head : {f : Form} {e : ExprTree} {xs ys : List Terminal} → DerivesHead f e xs ys → DerivesPrimary f e xs ys
    primary_field : {f : Form} {e : ExprTree} {i : Identifier} {p : ℕ} {xs ys : List Terminal}
        → DerivesPrimary f e xs (Punct p dot ∷ Ident i ∷ ys) → starts paren_open ys ≡ false
        → DerivesPrimary Target (t.expr (at_of e) (t.field e i)) xs ys
    primary_call : {f : Form} {e : ExprTree} {i : Identifier} {es : ExprTrees} {p : ℕ} {xs zs ys : List Terminal}
        → DerivesPrimary f e xs (Punct p dot ∷ Ident i ∷ zs) → DerivesArgs es zs ys
        → DerivesPrimary Effect (t.expr (at_of e) (t.call (t.on e) i es)) xs ys
    primary_index : {f g : Form} {e x : ExprTree} {p q : ℕ} {xs zs ys : List Terminal}
        → DerivesPrimary f e xs (Punct p bracket_open ∷ zs) → DerivesExpr g x zs (Punct q bracket_close ∷ ys)
        → DerivesPrimary Target (t.expr (at_of e) (t.index e x)) xs ys

  -- head = Lit | "this" | "(" expr ")" | Id [args] | "super" "." Id [args]
  --      | "new" name args | "new" (prim | name) dims | "new" (prim | name) "[" "]" {"[" "]"} list
  -- An Id without args begins a name: the longest run of identifiers joined by dots. A `[` behind dims belongs to the dims. What
  -- begins as a cast is none in parentheses.
  pub data DerivesHead : Form → ExprTree → List Terminal → List Terminal → Type 0 where
    head_literal : {l : LiteralKind} {p : ℕ} {ys : List Terminal} → DerivesHead Other (t.expr p (literal_tree l)) (Literal p l ∷ ys) ys
    head_this : {p : ℕ} {ys : List Terminal} → DerivesHead Other (t.expr p t.this) (Keyword p word_this ∷ ys) ys
    head_paren : {f : Form} {e : ExprTree} {p q : ℕ} {xs ys : List Terminal}
        → (IsCast xs → ⊥) → DerivesExpr f e xs (Punct q paren_close ∷ ys)
        → DerivesHead Other (t.expr p (kind_of e)) (Punct p paren_open ∷ xs) ys
    head_name : {i : Identifier} {ids : List Identifier} {xs ys : List Terminal}
        → DerivesName (i ∷ ids) xs ys → name_ends ys ≡ true → DerivesHead Target (t.expr i.at (t.name (i ∷ ids))) xs ys
    head_call : {i : Identifier} {es : ExprTrees} {xs ys : List Terminal}
        → DerivesArgs es xs ys → DerivesHead Effect (t.expr i.at (t.call t.bare i es)) (Ident i ∷ xs) ys
    head_super_field : {i : Identifier} {p q : ℕ} {ys : List Terminal}
        → starts paren_open ys ≡ false
        → DerivesHead Target (t.expr p (t.super_field i)) (Keyword p word_super ∷ Punct q dot ∷ Ident i ∷ ys) ys
    head_super_call : {i : Identifier} {es : ExprTrees} {p q : ℕ} {xs ys : List Terminal}
        → DerivesArgs es xs ys
        → DerivesHead Effect (t.expr p (t.call t.super i es)) (Keyword p word_super ∷ Punct q dot ∷ Ident i ∷ xs) ys
    head_new : {ids : List Identifier} {es : ExprTrees} {p : ℕ} {xs zs ys : List Terminal}
        → DerivesName ids xs zs → DerivesArgs es zs ys → DerivesHead Effect (t.expr p (t.new ids es)) (Keyword p word_new ∷ xs) ys
    head_new_array : {b : BaseTree} {es : ExprTrees} {p q n : ℕ} {xs zs ys : List Terminal}
        → DerivesBase q b xs zs → DerivesDims es n zs ys → starts bracket_open ys ≡ false
        → DerivesHead Other (t.expr p (t.new_array (record { at = q; base = b; dims = n }) es)) (Keyword p word_new ∷ xs) ys
    head_new_list : {b : BaseTree} {is : InitTrees} {p q r n : ℕ} {xs zs ws ys : List Terminal}
        → DerivesBase q b xs zs → DerivesPairs (suc n) zs ws → DerivesList r is ws ys
        → DerivesHead Other (t.expr p (t.new_list (record { at = q; base = b; dims = suc n }) is)) (Keyword p word_new ∷ xs) ys

  -- dims = "[" expr "]" {"[" expr "]"} {"[" "]"}; the number is how many pairs there are without an expression
  pub data DerivesDims : ExprTrees → ℕ → List Terminal → List Terminal → Type 0 where
    dims_one : {f : Form} {e : ExprTree} {p q n : ℕ} {xs zs ys : List Terminal}
        → DerivesExpr f e xs (Punct q bracket_close ∷ zs) → DerivesPairs n zs ys
        → DerivesDims (t.exprs e t.no_exprs) n (Punct p bracket_open ∷ xs) ys
    dims_more : {f : Form} {e : ExprTree} {es : ExprTrees} {p q n : ℕ} {xs zs ys : List Terminal}
        → DerivesExpr f e xs (Punct q bracket_close ∷ zs) → DerivesDims es n zs ys
        → DerivesDims (t.exprs e es) n (Punct p bracket_open ∷ xs) ys

  -- args = "(" [expr {"," expr}] ")"
  pub data DerivesArgs : ExprTrees → List Terminal → List Terminal → Type 0 where
    args_none : {p q : ℕ} {ys : List Terminal} → DerivesArgs t.no_exprs (Punct p paren_open ∷ Punct q paren_close ∷ ys) ys
    args_some : {es : ExprTrees} {p q : ℕ} {xs ys : List Terminal}
        → DerivesExprs es xs (Punct q paren_close ∷ ys) → DerivesArgs es (Punct p paren_open ∷ xs) ys

  -- expr {"," expr}
  pub data DerivesExprs : ExprTrees → List Terminal → List Terminal → Type 0 where
    exprs_one : {f : Form} {e : ExprTree} {xs ys : List Terminal} → DerivesExpr f e xs ys → DerivesExprs (t.exprs e t.no_exprs) xs ys
    exprs_more : {f : Form} {e : ExprTree} {es : ExprTrees} {p : ℕ} {xs zs ys : List Terminal}
        → DerivesExpr f e xs (Punct p comma ∷ zs) → DerivesExprs es zs ys → DerivesExprs (t.exprs e es) xs ys

  -- init = expr | list
  pub data DerivesInit : InitTree → List Terminal → List Terminal → Type 0 where
    init_expr : {f : Form} {e : ExprTree} {xs ys : List Terminal} → DerivesExpr f e xs ys → DerivesInit (t.one e) xs ys
    init_list : {p : ℕ} {is : InitTrees} {xs ys : List Terminal} → DerivesList p is xs ys → DerivesInit (t.list p is) xs ys

  -- list = "{" [init {"," init}] [","] "}"; the number is where it starts
  pub data DerivesList : ℕ → InitTrees → List Terminal → List Terminal → Type 0 where
    list_none : {p : ℕ} {xs ys : List Terminal} → DerivesListEnd xs ys → DerivesList p t.no_inits (Punct p brace_open ∷ xs) ys
    list_some : {is : InitTrees} {p : ℕ} {xs zs ys : List Terminal}
        → DerivesInits is xs zs → DerivesListEnd zs ys → DerivesList p is (Punct p brace_open ∷ xs) ys

  -- init {"," init}
  pub data DerivesInits : InitTrees → List Terminal → List Terminal → Type 0 where
    inits_one : {i : InitTree} {xs ys : List Terminal} → DerivesInit i xs ys → DerivesInits (t.inits i t.no_inits) xs ys
    inits_more : {i : InitTree} {is : InitTrees} {p : ℕ} {xs zs ys : List Terminal}
        → DerivesInit i xs (Punct p comma ∷ zs) → DerivesInits is zs ys → DerivesInits (t.inits i is) xs ys

  -- [","] "}"
  pub data DerivesListEnd : List Terminal → List Terminal → Type 0 where
    list_end : {p : ℕ} {ys : List Terminal} → DerivesListEnd (Punct p brace_close ∷ ys) ys
    list_comma_end : {p q : ℕ} {ys : List Terminal} → DerivesListEnd (Punct p comma ∷ Punct q brace_close ∷ ys) ys
