-- What is looked up to tell the clashes of single imports (JLS 7.5.1).
use Rattle.std.specs.Prelude.{◌≡◌, List, Bool, false, not, Option, None, Some}
use Rattle.sg_base.specs.declared.scope.Scope.{Scope}
use Rattle.sg_base.specs.Scope.{is_scope}
use Rattle.jv_tree.specs.declared.names.NameId.{NameId}
use Rattle.jv_tree.specs.DeclTree.{TypeDeclTree}
use Rattle.jv_header.specs.Imports.{declares, is_taken}

-- the scope that was looked up, where there is one, is another one
abbrev pub is_other : Option Scope → Scope → Bool
is_other None s = false
is_other (Some t) s = not (is_scope t s)

-- a name that was looked up tells whether an earlier import that stands brought another type under it
abbrev pub AreBrought : (NameId → Option Scope) → List (NameId × Scope) → Type 0
AreBrought brought singles = (n : NameId) (s : Scope) → is_taken singles n s ≡ is_other (brought n) s

-- a name that was looked up tells whether one of these types has it
abbrev pub AreNamesOf : (NameId → Bool) → List TypeDeclTree → Type 0
AreNamesOf own ds = (n : NameId) → own n ≡ declares ds n
