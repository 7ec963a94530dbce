-- Enclosing instances (JLS 8.1.3, 15.8.4, 15.9.2).
use Rattle.std.specs.Prelude.{Bool, true, cond, List, [], ◌∷◌, Option, None, Some}
use Rattle.sg_base.specs.declared.scope.Scope.{Scope}
use Rattle.sg_reading.specs.Reading.{done}
use Rattle.jv_layout.specs.Folder.{LayoutOf}
use Rattle.jv_layout.specs.Readers.{is_static_of}
use Rattle.jv_names.specs.Access.{has_super, some_body}
use Rattle.jv_names.specs.Bodies.{header_bodies}
use Rattle.jv_names.specs.Replies.{Rule}

-- of bodies outward from a type, those of which a place in that type has an instance: a static type ends them
abbrev pub instances_from : LayoutOf → Scope → List Scope → List Scope
instances_from l t [] = []
instances_from l t (b ∷ bs) = cond (is_static_of l t) [] (b ∷ instances_from l b bs)

-- of the bodies around a type, those of which a place in it has an instance
abbrev pub instance_bodies : LayoutOf → Scope → List Scope
instance_bodies l c = instances_from l c (header_bodies l c)

-- whether there is the enclosing instance that an instance of a class with this owner needs: that is no inner class, or one of the bodies has the type
-- in which it stands among its supertypes
abbrev pub has_enclosing : LayoutOf → List Scope → Scope → Option Scope → Rule Bool
has_enclosing l bodies s None = done true
has_enclosing l bodies s (Some o) = cond (is_static_of l s) (done true) (some_body (has_super l o) bodies)
