-- The rules of units look at no table of kinds.
use Rattle.std.proofs.Common.{◌≡◌, ℕ, ◌-◌, nat_lt, cond, List, [], ◌∷◌, ◌++◌, length, refl, ap, ◌∙◌}
use Rattle.std.proofs.Math.Path.{fun_ext}
use Rattle.sg_base.specs.declared.scope.Scope.{Scope}
use Rattle.sg_reading.specs.Reading.{and_then}
use Rattle.jv_diag.specs.Plain.{DiagOf}
use Rattle.jv_layout.specs.Readers.{file_of, members_of_type}
use Rattle.jv_layout.specs.Scopes.{type_scope}
use Rattle.jv_names.specs.Replies.{Rule}
use Rattle.jv_unit.specs.Checks.{Check, declaration, methods, overriding, meeting, calling, body, checks_of}
use Rattle.jv_unit.specs.Folder.{FolderOf}
use Rattle.jv_unit.specs.MemberBodies.{type_blanks}
use Rattle.jv_unit.specs.Plans.{all_checks, beyond_prelude, check_rule, head_ending, own_file_ending, type_ending, unit_ending, with_checks}
use Rattle.sc_app.specs.FolderRun.{ruled}

module _ (w : FolderOf) (t : ℕ) where
  check_same : (blanks : List Scope) (c : Check) → check_rule w t blanks c ≡ check_rule (ruled w) t blanks c
  unfolding check_rule
  check_same blanks (declaration m) = refl
  check_same blanks methods = refl
  check_same blanks (overriding m) = refl
  check_same blanks meeting = refl
  check_same blanks (calling m) = refl
  check_same blanks (body m) = refl

  checks_same : (blanks : List Scope) (ds : List DiagOf) (cs : List Check) → with_checks w t blanks ds cs ≡ with_checks (ruled w) t blanks ds cs
  unfolding with_checks
  checks_same blanks ds [] = refl
  checks_same blanks ds (c ∷ cs) =
      ap (λ (r : Rule (List DiagOf)). and_then r (λ p. with_checks w t blanks (ds ++ p) cs)) (check_same blanks c)
      ∙ ap (λ (f : List DiagOf → Rule (List DiagOf)). and_then (check_rule (ruled w) t blanks c) f) (fun_ext (λ (p : List DiagOf). checks_same blanks (ds ++ p) cs))

  all_checks_same : (ds : List DiagOf) → all_checks w t ds ≡ all_checks (ruled w) t ds
  all_checks_same ds = checks_same (type_blanks w t) ds (checks_of (members_of_type w.layout t))

  ending_same : type_ending w t ≡ type_ending (ruled w) t
  ending_same = ap (λ (f : List DiagOf → Rule (List DiagOf)). and_then (head_ending w t) f) (fun_ext all_checks_same)

pub unit_ending_same : (w : FolderOf) (u : ℕ) → unit_ending w u ≡ unit_ending (ruled w) u
unit_ending_same w u =
    let t = u - length w.layout.files in
    ap (λ (r : Rule (List DiagOf)). cond (nat_lt u (length w.layout.files)) (own_file_ending w u) (beyond_prelude (file_of w.layout (type_scope w.layout t)) r)) (ending_same w t)
