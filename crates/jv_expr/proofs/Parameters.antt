-- The parameters of a body, one after another.
use Rattle.std.proofs.Common.{◌≡◌, ℕ, ◌+◌, ◌<◌, ◌≤◌, List, [], ◌∷◌, length, get_or, drop, map, refl, sym, ap, ◌∙◌}
use Rattle.std.proofs.lemmas.List.{at_drop_more, at_drop_all}
use Rattle.jv_diag.specs.Plain.{DiagOf}
use Rattle.jv_instance.specs.declared.ty.Ty.{Ty}
use Rattle.jv_tree.specs.declared.declaration.Param.{Param}
use Rattle.jv_tree.specs.DeclTree.{param_tree}
use Rattle.jv_expr.specs.declared.local.Local.{Local}
use Rattle.jv_expr.specs.Bodies.{params_declared}
use Rattle.jv_expr.specs.ParamTypes.{first_type, rest_types}
use Rattle.jv_expr.specs.Site.{SiteOf}
use Rattle.jv_expr.specs.Statements.{Scoped, declared}

module _ (site : SiteOf) (xs : List Param) (i : ℕ) (ts : List Ty) (vs : List Local) (ds : List DiagOf) (r : Scoped) where
  module _ (x : Param) (below : i < length xs) (is : x ≡ get_or xs i x) where
    here : params_declared site (map param_tree (drop i xs)) ts vs ds ≡ params_declared site (map param_tree (x ∷ drop (i + 1) xs)) ts vs ds
    here =
        at_drop_more (λ (xs : List Param). params_declared site (map param_tree xs) ts vs ds) xs i x below
        ∙ ap (λ (y : Param). params_declared site (map param_tree (y ∷ drop (i + 1) xs)) ts vs ds) (sym is)

    split : (ts : List Ty) → params_declared site (map param_tree (x ∷ drop (i + 1) xs)) ts vs ds
        ≡ params_declared site (map param_tree (drop (i + 1) xs)) (rest_types ts) (declared site x.name (first_type ts) x.is_final vs ds).0 (declared site x.name (first_type ts) x.is_final vs ds).1
    split [] = refl
    split (t ∷ ts) = refl

    pub next_param : (t : Ty) (more : List Ty) (vs' : List Local) (ds' : List DiagOf) → t ≡ first_type ts → more ≡ rest_types ts → ◌≡◌ {A = Scoped} (vs', ds') (declared site x.name t x.is_final vs ds)
        → r ≡ params_declared site (map param_tree (drop (i + 1) xs)) more vs' ds' → r ≡ params_declared site (map param_tree (drop i xs)) ts vs ds
    next_param t more vs' ds' first rest added h =
        h ∙ ap (λ (s : Scoped). params_declared site (map param_tree (drop (i + 1) xs)) more s.0 s.1) added
        ∙ ap (λ (u : Ty). params_declared site (map param_tree (drop (i + 1) xs)) more (declared site x.name u x.is_final vs ds).0 (declared site x.name u x.is_final vs ds).1) first
        ∙ ap (λ (us : List Ty). params_declared site (map param_tree (drop (i + 1) xs)) us (declared site x.name (first_type ts) x.is_final vs ds).0 (declared site x.name (first_type ts) x.is_final vs ds).1) rest
        ∙ sym (here ∙ split ts)

  pub no_more_params : length xs ≤ i → r ≡ (vs, ds) → r ≡ params_declared site (map param_tree (drop i xs)) ts vs ds
  no_more_params past h = h ∙ sym (at_drop_all (λ (xs : List Param). params_declared site (map param_tree xs) ts vs ds) xs i past)

pub ruleset param_steps = (next_param, no_more_params)
