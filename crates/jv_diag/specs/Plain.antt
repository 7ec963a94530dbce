-- Diagnostics as plain data, which rules speak of.
use Rattle.std.specs.Prelude.{ℕ, Bool, cond, List, [], ◌∷◌}
use Rattle.std.specs.String.{string_bytes}
use Rattle.std.specs.Str.{chars}
use Rattle.jv_diag.specs.declared.diagnostic.Diag.{Diag}
use Rattle.jv_diag.specs.Text.{filled, text_of}

-- the number of a file, the offset of a byte in it, a code, and the bytes of the text
pub record DiagOf : Type 0 where
  pub file : ℕ
  pub at : ℕ
  pub code : ℕ
  pub text : List ℕ

-- the plain data of a diagnostic of the code
abbrev pub diag_of : Diag → DiagOf
diag_of d = record { file = d.file; at = d.at; code = d.code; text = string_bytes d.text }

-- the diagnostic of a code at a place, with these arguments in its text
abbrev pub diagnostic : ℕ → ℕ → ℕ → List (List ℕ) → DiagOf
diagnostic file at code args = record { file = file; at = at; code = code; text = filled (chars (text_of code)) args }

-- a diagnostic where there is a fault
abbrev pub fault_if : Bool → DiagOf → List DiagOf
fault_if b d = cond b (d ∷ []) []
