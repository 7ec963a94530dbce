-- The constructor of the superclass that a constructor calls without a super call (JLS 8.8.7, 8.8.9, 15.9.2).
use Rattle.std.specs.Prelude.{ℕ, not, Bool, true, false, cond, List, [], ◌∷◌, ◌++◌, Option, None, Some}
use Rattle.sg_base.specs.declared.scope.Scope.{Scope}
use Rattle.sg_base.specs.Scope.{is_scope}
use Rattle.sg_reading.specs.Reading.{done, and_then}
use Rattle.jv_diag.specs.declared.codes.TheConstants.{NO_CONSTRUCTOR, NO_ENCLOSING_INSTANCE}
use Rattle.jv_diag.specs.Plain.{DiagOf, diagnostic, fault_if}
use Rattle.jv_layout.specs.Folder.{LayoutOf}
use Rattle.jv_layout.specs.Readers.{file_of, is_interface_of, object_scope, owner_scope}
use Rattle.jv_layout.specs.Titles.{title_of}
use Rattle.jv_tree.specs.declared.name.Ident.{Ident}
use Rattle.jv_tree.specs.ExprTree.{ExprTrees}
use Rattle.jv_names.specs.Access.{member_accessible}
use Rattle.jv_names.specs.Bodies.{member_bodies}
use Rattle.jv_names.specs.Instances.{instance_bodies, has_enclosing}
use Rattle.jv_names.specs.Read.{SignatureOf, signature_of, has_some, ctor_of}
use Rattle.jv_names.specs.Replies.{Rule}
use Rattle.jv_names.specs.Superclass.{superclass}
use Rattle.jv_member.specs.Own.{OwnMember, own_field, own_method, own_ctor, default_ctor}

-- a code with the name of a class at a place of a file
abbrev pub titled_diag : LayoutOf → List (List ℕ) → Scope → ℕ → ℕ → Scope → DiagOf
titled_diag l names c code at s = diagnostic (file_of l c) at code (title_of l names s ∷ [])

-- a signature that takes arguments
abbrev pub takes_some : Option SignatureOf → Bool
takes_some None = false
takes_some (Some s) = has_some s.params

-- whether the constructor of the superclass can be called without arguments there
abbrev pub can_call : LayoutOf → Scope → Option Scope → Rule Bool
can_call l c None = done true
can_call l c (Some k) =
    and_then (signature_of l k) (λ s. cond (takes_some s) (done false) (member_accessible l (file_of l c) (member_bodies l c) k None))

-- the diagnostics of a call that is not possible, or lacks its enclosing instance
abbrev pub call_faults : LayoutOf → List (List ℕ) → Scope → ℕ → Scope → Bool → Bool → List DiagOf
call_faults l names c at s called enclosed = fault_if (not called) (titled_diag l names c NO_CONSTRUCTOR at s) ++ fault_if (not enclosed) (titled_diag l names c NO_ENCLOSING_INSTANCE at s)

-- the diagnostics of the call of the superclass's constructor at a place
unfoldable pub call_diags : LayoutOf → List (List ℕ) → Scope → ℕ → Scope → Rule (List DiagOf)
call_diags l names c at s =
    and_then (ctor_of l s) (λ k. and_then (can_call l c k) (λ called. and_then (has_enclosing l (instance_bodies l c) s (owner_scope l s)) (λ enclosed.
    done (call_faults l names c at s called enclosed))))

-- the superclass where it is a class: under an interface nothing is checked
abbrev pub only_class : LayoutOf → Scope → Option Scope
only_class l s = cond (is_interface_of l s) None (Some s)

-- the diagnostics of the call of the superclass's constructor at a place, where the superclass is a class; else none
abbrev pub call_of : LayoutOf → List (List ℕ) → Scope → ℕ → Option Scope → Rule (List DiagOf)
call_of l names c at None = done []
call_of l names c at (Some s) = call_diags l names c at s

-- where a constructor calls that of the superclass without a super call
abbrev pub implicit_call : Option (ℕ × ExprTrees) → ℕ → Option ℕ
implicit_call None at = Some at
implicit_call (Some x) at = None

-- where a member calls that of the superclass so: a constructor without a super call, and a default one, at the name
abbrev pub calls_at : OwnMember → Option ℕ
calls_at (own_field ms t v) = None
calls_at (own_method m) = None
calls_at (own_ctor k) = implicit_call k.call k.name.at
calls_at (default_ctor name) = Some name.at

-- the diagnostics of a constructor; `Object` calls none
abbrev pub call_at : LayoutOf → List (List ℕ) → Scope → List (List Ident) → Option ℕ → Rule (List DiagOf)
call_at l names c extends None = done []
call_at l names c extends (Some at) = cond (is_scope c (object_scope l)) (done []) (and_then (superclass l c extends) (λ s. call_of l names c at (only_class l s)))

-- the diagnostics of a member of a type, which extends these names, by the constructor that it calls without a super call
unfoldable pub ctor_rule : LayoutOf → List (List ℕ) → Scope → List (List Ident) → OwnMember → Rule (List DiagOf)
ctor_rule l names c extends m = call_at l names c extends (calls_at m)
