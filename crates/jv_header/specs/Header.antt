-- The header of a type: its supertypes, and the diagnostics at its references (JLS 8.1.4, 8.1.5, 9.1.3).
use Rattle.std.specs.Prelude.{ℕ, List, [], ◌∷◌, ◌++◌, Bool, false, cond}
use Rattle.std.specs.List.{list_any}
use Rattle.sg_base.specs.declared.scope.Scope.{Scope}
use Rattle.sg_base.specs.Scope.{is_scope}
use Rattle.sg_reading.specs.Reading.{done, and_then, each}
use Rattle.jv_diag.specs.declared.codes.TheConstants.{FINAL_SUPERCLASS, NO_CLASS, NO_INTERFACE, REPEATED_INTERFACE}
use Rattle.jv_diag.specs.Plain.{DiagOf, diagnostic, fault_if}
use Rattle.jv_layout.specs.Folder.{LayoutOf}
use Rattle.jv_layout.specs.Readers.{file_of, is_interface_of, is_final_of, object_scope}
use Rattle.jv_layout.specs.Titles.{title_of}
use Rattle.jv_tree.specs.declared.name.Ident.{Ident}
use Rattle.jv_names.specs.declared.meaning.Meaning.{Meaning}
use Rattle.jv_names.specs.declared.meaning.Meaning.TheVariants.{One, Nothing, Ambiguous, TooMany}
use Rattle.jv_names.specs.declared.reference.Reference.{Reference}
use Rattle.jv_names.specs.Bodies.{header_bodies}
use Rattle.jv_names.specs.Reference.{reference, reference_diags}
use Rattle.jv_names.specs.Replies.{Rule}
use Rattle.jv_names.specs.Written.{start_of}
use Rattle.jv_header.specs.declared.header.Header.{Header}

-- ---- supertypes

-- the type that a meaning is, where it is one
abbrev pub one_of : Meaning → List Scope
one_of (One s) = s ∷ []
one_of Nothing = []
one_of Ambiguous = []
one_of TooMany = []

-- the types that references mean
abbrev pub found_types : List Reference → List Scope
found_types [] = []
found_types (r ∷ rs) = one_of r.meaning ++ found_types rs

-- `Object` where no superclass was found (JLS 8.1.4)
abbrev pub or_object : LayoutOf → List Scope → List Scope
or_object l [] = object_scope l ∷ []
or_object l (s ∷ ss) = s ∷ ss

-- the supertypes of a type: those that its references mean, for a class with `Object` in place of a missing superclass; `Object` has none
abbrev pub supertypes : LayoutOf → Scope → List Reference → List Reference → List Scope
supertypes l c es is = cond (is_scope c (object_scope l)) [] (cond (is_interface_of l c) (found_types es) (or_object l (found_types es)) ++ found_types is)

-- ---- diagnostics

-- a code with the title of a type at a reference's first token
abbrev pub at_reference : LayoutOf → List (List ℕ) → ℕ → ℕ → List Ident → Scope → DiagOf
at_reference l names file code ids s = diagnostic file (start_of ids) code (title_of l names s ∷ [])

-- what a class extends is no interface, and is not final
abbrev pub superclass_diags : LayoutOf → List (List ℕ) → ℕ → List Ident → Meaning → List DiagOf
superclass_diags l names file ids (One s) = fault_if (is_interface_of l s) (at_reference l names file NO_CLASS ids s) ++ fault_if (is_final_of l s) (at_reference l names file FINAL_SUPERCLASS ids s)
superclass_diags l names file ids Nothing = []
superclass_diags l names file ids Ambiguous = []
superclass_diags l names file ids TooMany = []

-- a type that a meaning is stands among others
abbrev pub stands_among : List Scope → Meaning → Bool
stands_among earlier (One s) = list_any (is_scope s) earlier
stands_among earlier Nothing = false
stands_among earlier Ambiguous = false
stands_among earlier TooMany = false

-- what a class implements and an interface extends is an interface, and does not stand there again
abbrev pub interface_diags : LayoutOf → List (List ℕ) → ℕ → Bool → List Ident → Meaning → List DiagOf
interface_diags l names file again ids (One s) = cond (is_interface_of l s) (fault_if again (at_reference l names file REPEATED_INTERFACE ids s)) (at_reference l names file NO_INTERFACE ids s ∷ [])
interface_diags l names file again ids Nothing = []
interface_diags l names file again ids Ambiguous = []
interface_diags l names file again ids TooMany = []

-- the diagnostics of the names that a class extends
abbrev pub class_clause : LayoutOf → List (List ℕ) → ℕ → List (List Ident) → List Reference → List DiagOf
class_clause l names file [] rs = []
class_clause l names file (n ∷ ns) [] = []
class_clause l names file (n ∷ ns) (r ∷ rs) = (reference_diags l names file n r ++ superclass_diags l names file n r.meaning) ++ class_clause l names file ns rs

-- the diagnostics of the names that a class implements or an interface extends, behind earlier types of the clause
abbrev pub interface_clause : LayoutOf → List (List ℕ) → ℕ → List Scope → List (List Ident) → List Reference → List DiagOf
interface_clause l names file earlier [] rs = []
interface_clause l names file earlier (n ∷ ns) [] = []
interface_clause l names file earlier (n ∷ ns) (r ∷ rs) =
    (reference_diags l names file n r ++ interface_diags l names file (stands_among earlier r.meaning) n r.meaning) ++ interface_clause l names file (earlier ++ one_of r.meaning) ns rs

-- the diagnostics of what a type extends
abbrev pub extends_diags : LayoutOf → List (List ℕ) → Scope → List (List Ident) → List Reference → List DiagOf
extends_diags l names c ns rs = cond (is_interface_of l c) (interface_clause l names (file_of l c) [] ns rs) (class_clause l names (file_of l c) ns rs)

-- ---- the rule

-- the supertypes and the diagnostics by what the references mean
abbrev pub header_by : LayoutOf → List (List ℕ) → Scope → List (List Ident) → List (List Ident) → List Reference → List Reference → Header
header_by l names c extends implements es is =
    record { row = supertypes l c es is; diags = extends_diags l names c extends es ++ interface_clause l names (file_of l c) [] implements is }

-- a reference in the header of a type, which does not stand in the type's own body
abbrev pub header_reference : LayoutOf → Scope → List Ident → Rule Reference
header_reference l c = reference l (file_of l c) (header_bodies l c)

-- the header of a type: its references are read in order, first those that it extends and then those that it implements
abbrev pub header_rule : LayoutOf → List (List ℕ) → Scope → List (List Ident) → List (List Ident) → Rule Header
header_rule l names c extends implements =
    and_then (each (header_reference l c) extends) (λ es. and_then (each (header_reference l c) implements) (λ is. done (header_by l names c extends implements es is)))

-- the supertypes alone
abbrev pub header_row : LayoutOf → List (List ℕ) → Scope → List (List Ident) → List (List Ident) → Rule (List Scope)
header_row l names c extends implements = and_then (header_rule l names c extends implements) (λ h. done h.row)
