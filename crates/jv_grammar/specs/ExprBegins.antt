-- What begins an expression, an initializer or a list. `BeginsX xs` says that the terminals of xs, all of them, begin X (see
-- `TypeBegins`). Conditions of the grammar are those of the parts that derive; a part that is only begun is not asked for them, so
-- any begun primary begins a target and any begun expression an effect.
use Rattle.std.specs.Prelude.{ℕ, suc, List, [], ◌∷◌}
use Rattle.jv_tree.specs.declared.name.Ident.{Ident as Identifier}
use Rattle.jv_tree.specs.TypeTree.{BaseTree, TypeTree}
use Rattle.jv_tree.specs.ExprTree.{ExprTree, OperandTree, InitTree, ExprTrees, InitTrees, LinkTrees}
use Rattle.jv_tree.specs.Shaped.{IsOneOf, levels, instance_of, postfix_operators, assignment_operators}
use Rattle.jv_grammar.specs.declared.terminal.Terminal.{Terminal}
use Rattle.jv_grammar.specs.declared.terminal.Terminal.TheVariants.{Ident, Keyword, Punct}
use Rattle.jv_grammar.specs.declared.form.Form.{Form}
use Rattle.jv_grammar.specs.declared.form.Form.TheVariants.{Target}
use Rattle.jv_grammar.specs.Marks.{paren_open, paren_close, brace_open, bracket_open, bracket_close, comma, dot, question_mark, colon, complements, signs, word_instanceof, word_new, word_super}
use Rattle.jv_grammar.specs.TypeGrammar.{DerivesName, DerivesPrim, DerivesBase, DerivesPairs, DerivesReference}
use Rattle.jv_grammar.specs.ExprGrammar.{IsMarkOf, DerivesExpr, DerivesCond, DerivesBin, DerivesLinks, DerivesLink, DerivesUnary, DerivesCast, DerivesPlain, DerivesPost, DerivesPrimary, DerivesHead, DerivesDims, DerivesArgs, DerivesExprs, DerivesInit, DerivesList, DerivesInits, DerivesListEnd}
use Rattle.jv_grammar.specs.TypeBegins.{BeginsName, BeginsBase, BeginsPairs, BeginsReference}

-- [","] "}"
pub data BeginsListEnd : List Terminal → Type 0 where
  begun_list_end_none : BeginsListEnd []
  begun_list_end_comma : {p : ℕ} → BeginsListEnd (Punct p comma ∷ [])
  begun_list_end_whole : {xs : List Terminal} → DerivesListEnd xs [] → BeginsListEnd xs

mutual
  -- expr = target asg expr | cond
  pub data BeginsExpr : List Terminal → Type 0 where
    begun_expr_none : BeginsExpr []
    begun_expr_assign : {x : ExprTree} {p o : ℕ} {xs zs : List Terminal}
        → DerivesPrimary Target x xs (Punct p o ∷ zs) → IsOneOf assignment_operators o → BeginsExpr zs → BeginsExpr xs
    begun_expr_cond : {xs : List Terminal} → BeginsCond xs → BeginsExpr xs
    begun_expr_whole : {f : Form} {e : ExprTree} {xs : List Terminal} → DerivesExpr f e xs [] → BeginsExpr xs

  -- cond = bin ["?" expr ":" cond]
  pub data BeginsCond : List Terminal → Type 0 where
    begun_cond_none : BeginsCond []
    begun_cond_bin : {xs : List Terminal} → BeginsBin levels xs → BeginsCond xs
    begun_cond_yes : {f : Form} {x : ExprTree} {p : ℕ} {xs zs : List Terminal}
        → DerivesBin levels f x xs (Punct p question_mark ∷ zs) → BeginsExpr zs → BeginsCond xs
    begun_cond_no : {f g : Form} {x y : ExprTree} {p q : ℕ} {xs zs ws : List Terminal}
        → DerivesBin levels f x xs (Punct p question_mark ∷ zs) → DerivesExpr g y zs (Punct q colon ∷ ws) → BeginsCond ws → BeginsCond xs
    begun_cond_whole : {f : Form} {e : ExprTree} {xs : List Terminal} → DerivesCond f e xs [] → BeginsCond xs

  -- bin: operands joined by operators of one level, each operand of the levels that bind tighter
  pub data BeginsBin : List (List ℕ) → List Terminal → Type 0 where
    begun_bin_none : {rest : List (List ℕ)} → BeginsBin rest []
    begun_bin_unary : {xs : List Terminal} → BeginsUnary xs → BeginsBin [] xs
    begun_bin_one : {level : List ℕ} {tighter : List (List ℕ)} {xs : List Terminal} → BeginsBin tighter xs → BeginsBin (level ∷ tighter) xs
    begun_bin_chain : {level : List ℕ} {tighter : List (List ℕ)} {f : Form} {e : ExprTree} {xs zs : List Terminal}
        → DerivesBin tighter f e xs zs → BeginsLinks level tighter zs → BeginsBin (level ∷ tighter) xs
    begun_bin_whole : {rest : List (List ℕ)} {f : Form} {e : ExprTree} {xs : List Terminal} → DerivesBin rest f e xs [] → BeginsBin rest xs

  -- one or more operators of a level, each with what stands behind it
  pub data BeginsLinks : List ℕ → List (List ℕ) → List Terminal → Type 0 where
    begun_links_none : {level : List ℕ} {tighter : List (List ℕ)} → BeginsLinks level tighter []
    begun_links_one : {level : List ℕ} {tighter : List (List ℕ)} {xs : List Terminal} → BeginsLink level tighter xs → BeginsLinks level tighter xs
    begun_links_more : {level : List ℕ} {tighter : List (List ℕ)} {p o : ℕ} {x : OperandTree} {xs zs : List Terminal}
        → DerivesLink level tighter p o x xs zs → BeginsLinks level tighter zs → BeginsLinks level tighter xs
    begun_links_whole : {level : List ℕ} {tighter : List (List ℕ)} {ls : LinkTrees} {xs : List Terminal}
        → DerivesLinks level tighter ls xs [] → BeginsLinks level tighter xs

  -- an operator of a level with its operand, or `instanceof` with an `rty`
  pub data BeginsLink : List ℕ → List (List ℕ) → List Terminal → Type 0 where
    begun_link_none : {level : List ℕ} {tighter : List (List ℕ)} → BeginsLink level tighter []
    begun_link_operand : {level : List ℕ} {tighter : List (List ℕ)} {p o : ℕ} {xs : List Terminal}
        → IsMarkOf level o → BeginsBin tighter xs → BeginsLink level tighter (Punct p o ∷ xs)
    begun_link_type : {level : List ℕ} {tighter : List (List ℕ)} {p : ℕ} {xs : List Terminal}
        → IsOneOf level instance_of → BeginsReference xs → BeginsLink level tighter (Keyword p word_instanceof ∷ xs)
    begun_link_whole : {level : List ℕ} {tighter : List (List ℕ)} {p o : ℕ} {x : OperandTree} {xs : List Terminal}
        → DerivesLink level tighter p o x xs [] → BeginsLink level tighter xs

  -- unary = ("+" | "-" | "++" | "--" | "!" | "~") unary | "-" Min | cast | post
  pub data BeginsUnary : List Terminal → Type 0 where
    begun_unary_none : BeginsUnary []
    begun_unary_sign : {p o : ℕ} {xs : List Terminal} → IsOneOf signs o → BeginsUnary xs → BeginsUnary (Punct p o ∷ xs)
    begun_unary_step : {p o : ℕ} {xs : List Terminal} → IsOneOf postfix_operators o → BeginsUnary xs → BeginsUnary (Punct p o ∷ xs)
    begun_unary_cast : {xs : List Terminal} → BeginsCast xs → BeginsUnary xs
    begun_unary_post : {xs : List Terminal} → BeginsPost xs → BeginsUnary xs
    begun_unary_whole : {f : Form} {e : ExprTree} {xs : List Terminal} → DerivesUnary f e xs [] → BeginsUnary xs

  -- cast = "(" prim ")" unary | "(" rty ")" plain
  pub data BeginsCast : List Terminal → Type 0 where
    begun_cast_none : BeginsCast []
    begun_cast_type : {p : ℕ} {xs : List Terminal} → BeginsReference xs → BeginsCast (Punct p paren_open ∷ xs)
    begun_cast_prim : {b : BaseTree} {p q r : ℕ} {xs zs : List Terminal}
        → DerivesPrim q b xs (Punct r paren_close ∷ zs) → BeginsUnary zs → BeginsCast (Punct p paren_open ∷ xs)
    begun_cast_reference : {r : TypeTree} {p q : ℕ} {xs zs : List Terminal}
        → DerivesReference r xs (Punct q paren_close ∷ zs) → BeginsPlain zs → BeginsCast (Punct p paren_open ∷ xs)
    begun_cast_whole : {e : ExprTree} {xs : List Terminal} → DerivesCast e xs [] → BeginsCast xs

  -- plain = ("!" | "~") unary | cast | post
  pub data BeginsPlain : List Terminal → Type 0 where
    begun_plain_none : BeginsPlain []
    begun_plain_sign : {p o : ℕ} {xs : List Terminal} → IsOneOf complements o → BeginsUnary xs → BeginsPlain (Punct p o ∷ xs)
    begun_plain_cast : {xs : List Terminal} → BeginsCast xs → BeginsPlain xs
    begun_plain_post : {xs : List Terminal} → BeginsPost xs → BeginsPlain xs
    begun_plain_whole : {f : Form} {e : ExprTree} {xs : List Terminal} → DerivesPlain f e xs [] → BeginsPlain xs

  -- post = primary {"++" | "--"}
  pub data BeginsPost : List Terminal → Type 0 where
    begun_post_none : BeginsPost []
    begun_post_primary : {xs : List Terminal} → BeginsPrimary xs → BeginsPost xs
    begun_post_whole : {f : Form} {e : ExprTree} {xs : List Terminal} → DerivesPost f e xs [] → BeginsPost xs

  -- primary = head {"." Id [args] | "[" expr "]"}
  pub data BeginsPrimary : List Terminal → Type 0 where
    begun_primary_none : BeginsPrimary []
    begun_primary_head : {xs : List Terminal} → BeginsHead xs → BeginsPrimary xs
    begun_primary_dot : {f : Form} {e : ExprTree} {p : ℕ} {xs : List Terminal} → DerivesPrimary f e xs (Punct p dot ∷ []) → BeginsPrimary xs
    begun_primary_call : {f : Form} {e : ExprTree} {i : Identifier} {p : ℕ} {xs zs : List Terminal}
        → DerivesPrimary f e xs (Punct p dot ∷ Ident i ∷ zs) → BeginsArgs zs → BeginsPrimary xs
    begun_primary_index : {f : Form} {e : ExprTree} {p : ℕ} {xs zs : List Terminal}
        → DerivesPrimary f e xs (Punct p bracket_open ∷ zs) → BeginsExpr zs → BeginsPrimary xs
    begun_primary_whole : {f : Form} {e : ExprTree} {xs : List Terminal} → DerivesPrimary f e xs [] → BeginsPrimary xs

  -- head = Lit | "this" | "(" expr ")" | Id [args] | "super" "." Id [args]
  --      | "new" name args | "new" (prim | name) dims | "new" (prim | name) "[" "]" {"[" "]"} list
  pub data BeginsHead : List Terminal → Type 0 where
    begun_head_none : BeginsHead []
    begun_head_paren : {p : ℕ} {xs : List Terminal} → BeginsExpr xs → BeginsHead (Punct p paren_open ∷ xs)
    begun_head_name : {xs : List Terminal} → BeginsName xs → BeginsHead xs
    begun_head_call : {i : Identifier} {xs : List Terminal} → BeginsArgs xs → BeginsHead (Ident i ∷ xs)
    begun_head_super : {p : ℕ} → BeginsHead (Keyword p word_super ∷ [])
    begun_head_super_dot : {p q : ℕ} → BeginsHead (Keyword p word_super ∷ Punct q dot ∷ [])
    begun_head_super_call : {i : Identifier} {p q : ℕ} {xs : List Terminal}
        → BeginsArgs xs → BeginsHead (Keyword p word_super ∷ Punct q dot ∷ Ident i ∷ xs)
    begun_head_new : {p : ℕ} {xs : List Terminal} → BeginsBase xs → BeginsHead (Keyword p word_new ∷ xs)
    begun_head_new_args : {ids : List Identifier} {p : ℕ} {xs zs : List Terminal}
        → DerivesName ids xs zs → BeginsArgs zs → BeginsHead (Keyword p word_new ∷ xs)
    begun_head_new_dims : {b : BaseTree} {p q : ℕ} {xs zs : List Terminal}
        → DerivesBase q b xs zs → BeginsDims zs → BeginsHead (Keyword p word_new ∷ xs)
    begun_head_new_pairs : {b : BaseTree} {p q : ℕ} {xs zs : List Terminal}
        → DerivesBase q b xs zs → BeginsPairs zs → BeginsHead (Keyword p word_new ∷ xs)
    begun_head_new_list : {b : BaseTree} {p q n : ℕ} {xs zs ws : List Terminal}
        → DerivesBase q b xs zs → DerivesPairs (suc n) zs ws → BeginsList ws → BeginsHead (Keyword p word_new ∷ xs)
    begun_head_whole : {f : Form} {e : ExprTree} {xs : List Terminal} → DerivesHead f e xs [] → BeginsHead xs

  -- dims = "[" expr "]" {"[" expr "]"} {"[" "]"}
  pub data BeginsDims : List Terminal → Type 0 where
    begun_dims_none : BeginsDims []
    begun_dims_size : {p : ℕ} {xs : List Terminal} → BeginsExpr xs → BeginsDims (Punct p bracket_open ∷ xs)
    begun_dims_more : {f : Form} {e : ExprTree} {p q : ℕ} {xs zs : List Terminal}
        → DerivesExpr f e xs (Punct q bracket_close ∷ zs) → BeginsDims zs → BeginsDims (Punct p bracket_open ∷ xs)
    begun_dims_pairs : {f : Form} {e : ExprTree} {p q : ℕ} {xs zs : List Terminal}
        → DerivesExpr f e xs (Punct q bracket_close ∷ zs) → BeginsPairs zs → BeginsDims (Punct p bracket_open ∷ xs)
    begun_dims_whole : {es : ExprTrees} {n : ℕ} {xs : List Terminal} → DerivesDims es n xs [] → BeginsDims xs

  -- args = "(" [expr {"," expr}] ")"
  pub data BeginsArgs : List Terminal → Type 0 where
    begun_args_none : BeginsArgs []
    begun_args_some : {p : ℕ} {xs : List Terminal} → BeginsExprs xs → BeginsArgs (Punct p paren_open ∷ xs)
    begun_args_whole : {es : ExprTrees} {xs : List Terminal} → DerivesArgs es xs [] → BeginsArgs xs

  -- expr {"," expr}
  pub data BeginsExprs : List Terminal → Type 0 where
    begun_exprs_none : BeginsExprs []
    begun_exprs_one : {xs : List Terminal} → BeginsExpr xs → BeginsExprs xs
    begun_exprs_more : {f : Form} {e : ExprTree} {p : ℕ} {xs zs : List Terminal}
        → DerivesExpr f e xs (Punct p comma ∷ zs) → BeginsExprs zs → BeginsExprs xs
    begun_exprs_whole : {es : ExprTrees} {xs : List Terminal} → DerivesExprs es xs [] → BeginsExprs xs

  -- init = expr | list
  pub data BeginsInit : List Terminal → Type 0 where
    begun_init_none : BeginsInit []
    begun_init_expr : {xs : List Terminal} → BeginsExpr xs → BeginsInit xs
    begun_init_list : {xs : List Terminal} → BeginsList xs → BeginsInit xs
    begun_init_whole : {i : InitTree} {xs : List Terminal} → DerivesInit i xs [] → BeginsInit xs

  -- list = "{" [init {"," init}] [","] "}"
  pub data BeginsList : List Terminal → Type 0 where
    begun_list_none : BeginsList []
    begun_list_empty : {p : ℕ} {xs : List Terminal} → BeginsListEnd xs → BeginsList (Punct p brace_open ∷ xs)
    begun_list_some : {p : ℕ} {xs : List Terminal} → BeginsInits xs → BeginsList (Punct p brace_open ∷ xs)
    begun_list_end : {is : InitTrees} {p : ℕ} {xs zs : List Terminal}
        → DerivesInits is xs zs → BeginsListEnd zs → BeginsList (Punct p brace_open ∷ xs)
    begun_list_whole : {p : ℕ} {is : InitTrees} {xs : List Terminal} → DerivesList p is xs [] → BeginsList xs

  -- init {"," init}
  pub data BeginsInits : List Terminal → Type 0 where
    begun_inits_none : BeginsInits []
    begun_inits_one : {xs : List Terminal} → BeginsInit xs → BeginsInits xs
    begun_inits_more : {i : InitTree} {p : ℕ} {xs zs : List Terminal}
        → DerivesInit i xs (Punct p comma ∷ zs) → BeginsInits zs → BeginsInits xs
    begun_inits_whole : {is : InitTrees} {xs : List Terminal} → DerivesInits is xs [] → BeginsInits xs
