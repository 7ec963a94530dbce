-- Local variables that come into scope, and those that leave it again.
use Rattle.std.proofs.Common.{◌≡◌, ℕ, ◌≤◌, List, [], ◌∷◌, ◌++◌, length, take, drop, sym, ap, ◌∙◌, subst, arith}
use Rattle.std.proofs.Math.Seq.{take-append_seam, take-length}
use Rattle.std.proofs.lemmas.List.{length-take, take-append-drop, take-append-le}
use Rattle.jv_expr.specs.declared.local.Local.{Local}
use Rattle.jv_expr.specs.Locals.{AddsLocals}

pub adds_none : (vs : List Local) → AddsLocals vs vs
adds_none vs = record { first = take-length vs }

pub adds_last : (vs ws : List Local) (v : Local) → ws ≡ vs ++ v ∷ [] → AddsLocals vs ws
adds_last vs ws v e = record { first = ap (λ (us : List Local). take (length vs) us) e ∙ take-append_seam vs (v ∷ []) }

module _ (vs ws : List Local) (h : AddsLocals vs ws) where
  shorter : length vs ≤ length ws
  shorter = omega (arith, length-take (length vs) ws, ap length h.first)

  pub adds_more : (us : List Local) → AddsLocals ws us → AddsLocals vs us
  adds_more us k =
      record {
        first =
            ap (λ (xs : List Local). take (length vs) xs) (sym (take-append-drop (length ws) us))
            ∙ (take-append-le (length vs) (take (length ws) us) (drop (length ws) us) (omega (arith, shorter, ap length k.first))
            ∙ (ap (λ (xs : List Local). take (length vs) xs) k.first ∙ h.first));
      }

  -- cut back to so many as there were
  pub adds_cut : (n : ℕ) (us : List Local) → n ≡ length vs → us ≡ take n ws → us ≡ vs
  adds_cut n us count cut = cut ∙ (ap (λ (k : ℕ). take k ws) count ∙ h.first)

  pub adds_left : (n : ℕ) (us : List Local) → n ≡ length vs → us ≡ take n ws → AddsLocals vs us
  adds_left n us count cut = subst (λ (xs : List Local). AddsLocals vs xs) (sym (adds_cut n us count cut)) (adds_none vs)

pub ruleset local_steps = (adds_none, adds_last, adds_more, adds_left)
