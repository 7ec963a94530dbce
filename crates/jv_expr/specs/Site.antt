-- Where an expression or a statement stands, and what is known there.
use Rattle.std.specs.Prelude.{ℕ, Bool, List, [], ◌∷◌, ◌++◌, Option, cond}
use Rattle.std.specs.List.{list_any}
use Rattle.sg_base.specs.declared.scope.Scope.{Scope}
use Rattle.sg_base.specs.Scope.{is_scope}
use Rattle.jv_diag.specs.Plain.{DiagOf, diagnostic}
use Rattle.jv_instance.specs.declared.ty.Ty.{Ty}
use Rattle.jv_layout.specs.Folder.{LayoutOf, text_of}
use Rattle.jv_layout.specs.Titles.{type_text as text_of_type, title_of}
use Rattle.jv_tree.specs.declared.name.Ident.{Ident}

-- the layout and the texts of names; the file; the type whose body is the innermost one, the bodies around, innermost first, and those of which the
-- place has an instance; the names that the type extends; the blank final fields that may be assigned there; and what a `return` gives, where that is
-- a value
pub record SiteOf : Type 0 where
  pub layout : LayoutOf
  pub names : List (List ℕ)
  pub file : ℕ
  pub class : Scope
  pub bodies : List Scope
  pub instances : List Scope
  pub extends : List (List Ident)
  pub blanks : List Scope
  pub result : Option Ty

-- the place has an instance of the body of this type (JLS 8.1.3, 15.8.3)
abbrev pub has_instance : SiteOf → Scope → Bool
has_instance site b = list_any (is_scope b) site.instances

-- the place has an instance of the innermost body, as `this` asks
abbrev pub has_this : SiteOf → Bool
has_this site = has_instance site site.class

-- ---- diagnostics

-- those so far with one more, of a code at an offset
abbrev pub with_fault : SiteOf → ℕ → ℕ → List (List ℕ) → List DiagOf → List DiagOf
with_fault site at code args ds = ds ++ diagnostic site.file at code args ∷ []

-- with one more where this holds
abbrev pub with_fault_if : Bool → SiteOf → ℕ → ℕ → List (List ℕ) → List DiagOf → List DiagOf
with_fault_if b site at code args ds = cond b (with_fault site at code args ds) ds

-- with one more of a code at an identifier, with its text
abbrev pub with_named : SiteOf → Ident → ℕ → List DiagOf → List DiagOf
with_named site i code ds = with_fault site i.at code (text_of site.names i.id.0 ∷ []) ds

-- with one more of a code at an identifier, with its text, where this holds
abbrev pub with_named_if : Bool → SiteOf → Ident → ℕ → List DiagOf → List DiagOf
with_named_if b site i code ds = cond b (with_named site i code ds) ds

-- a type as it is printed
abbrev pub type_text : SiteOf → Ty → List ℕ
type_text site t = text_of_type site.layout site.names t

-- the printed name of a scope
abbrev pub title : SiteOf → Scope → List ℕ
title site s = title_of site.layout site.names s
