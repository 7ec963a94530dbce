use Rattle.std.proofs.Common.{[], ◌∷◌, sym, ◌∙◌}
use Rattle.std.proofs.lemmas.Map.Text.{is_eq-slice_cmp}
use Rattle.jv_member.proofs.declaring.is_string_text.Goals as goal

pub returns : goal.returns
returns c = c.eq.ensures ∙ sym (is_eq-slice_cmp c.args.text.now (83 ∷ 116 ∷ 114 ∷ 105 ∷ 110 ∷ 103 ∷ []))
