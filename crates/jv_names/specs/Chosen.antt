-- Which of several methods counts: the first that is not abstract, and the first whose result fits all others (JLS 8.4.8.4, 9.4.1.3, 15.12.2.5).
use Rattle.std.specs.Prelude.{◌||◌, Bool, true, false, cond, List, [], ◌∷◌, Option, None, Some}
use Rattle.sg_base.specs.declared.scope.Scope.{Scope}
use Rattle.sg_reading.specs.Reading.{done, and_then}
use Rattle.jv_instance.specs.declared.ty.Ty.{Ty}
use Rattle.jv_instance.specs.Types.{is_bad}
use Rattle.jv_layout.specs.Folder.{LayoutOf}
use Rattle.jv_layout.specs.Readers.{is_abstract_of}
use Rattle.jv_names.specs.Read.{result_fits}
use Rattle.jv_names.specs.Replies.{Rule}

-- the first method that is not abstract
abbrev pub first_concrete : LayoutOf → List Scope → Option Scope
first_concrete l [] = None
first_concrete l (m ∷ ms) = cond (is_abstract_of l m) (first_concrete l ms) (Some m)

-- a result fits another one, or one of the two is bad
unfoldable pub fits_or_bad : LayoutOf → Ty → Ty → Rule Bool
fits_or_bad l s t = cond (is_bad s || is_bad t) (done true) (result_fits l s t)

-- a result fits each of some others
abbrev pub fits_all : LayoutOf → Ty → List Ty → Rule Bool
fits_all l t [] = done true
fits_all l t (u ∷ us) = and_then (fits_or_bad l t u) (λ ok. cond ok (fits_all l t us) (done false))

-- the first method whose result fits those of all; where there is none, this one
abbrev pub first_fitting : LayoutOf → List Ty → Scope → List Scope → List Ty → Rule Scope
first_fitting l all m [] ts = done m
first_fitting l all m (k ∷ ks) [] = done m
first_fitting l all m (k ∷ ks) (t ∷ ts) = and_then (fits_all l t all) (λ ok. cond ok (done k) (first_fitting l all m ks ts))
