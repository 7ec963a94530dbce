-- The steps by which methods are taken with their signatures.
use Rattle.std.proofs.Common.{◌≡◌, Bool, not, List, [], ◌∷◌, ◌++◌, Option, Some, None, Bor, refl, sym, ap, ◌∙◌}
use Rattle.std.proofs.lemmas.List.{append-nil}
use Rattle.std.specs.List.{list_any}
use Rattle.sg_base.specs.declared.scope.Scope.{Scope}
use Rattle.jv_names.specs.Read.{SignatureOf, same_types}
use Rattle.jv_member.specs.Overriding.{whole_methods, params_differ}

-- where no signature is left, no method is
none_left : (ms : List Scope) → whole_methods ms [] ≡ []
none_left [] = refl
none_left (m ∷ ms) = refl

pub whole_end : (found all : List (Scope × SignatureOf)) (ms : List Scope) (left : List (Option SignatureOf)) → left ≡ [] → found ++ whole_methods ms left ≡ all → found ≡ all
whole_end found all ms left e h =
    sym (append-nil found) ∙ (ap (λ (ws : List (Scope × SignatureOf)). found ++ ws) (sym (none_left ms)) ∙ (ap (λ (ss : List (Option SignatureOf)). found ++ whole_methods ms ss) (sym e) ∙ h))

-- whether parameters differ from those of a first signature
abbrev pub differ_from : Option (Bor SignatureOf) → List (Scope × SignatureOf) → Bool
differ_from None ws = params_differ ws
differ_from (Some s) ws = list_any (λ x. not (same_types s.now.params x.1.params)) ws

pub first_params : (w : Scope × SignatureOf) (s : Bor SignatureOf) (ws : List (Scope × SignatureOf)) → s.now ≡ w.1 → differ_from None (w ∷ ws) ≡ differ_from (Some s) ws
first_params w s ws e = ap (λ (t : SignatureOf). list_any (λ x. not (same_types t.params x.1.params)) ws) (sym e)

pub ruleset whole_steps = (whole_end, first_params)
