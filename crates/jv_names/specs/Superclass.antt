-- The superclass of a class by the names that it extends (JLS 8.1.4).
use Rattle.std.specs.Prelude.{List, [], ◌∷◌}
use Rattle.sg_base.specs.declared.scope.Scope.{Scope}
use Rattle.sg_reading.specs.Reading.{done, and_then}
use Rattle.jv_layout.specs.Folder.{LayoutOf}
use Rattle.jv_layout.specs.Readers.{file_of, object_scope}
use Rattle.jv_tree.specs.declared.name.Ident.{Ident}
use Rattle.jv_names.specs.declared.meaning.Meaning.{Meaning}
use Rattle.jv_names.specs.declared.meaning.Meaning.TheVariants.{One, Nothing, Ambiguous, TooMany}
use Rattle.jv_names.specs.Bodies.{header_bodies}
use Rattle.jv_names.specs.Replies.{Rule}
use Rattle.jv_names.specs.TypeNames.{type_name}

-- the superclass by what the first name of the extends clause means: that type, even where it is an interface, and `Object` where it means none
abbrev pub meant_superclass : LayoutOf → Meaning → Scope
meant_superclass l (One s) = s
meant_superclass l Nothing = object_scope l
meant_superclass l Ambiguous = object_scope l
meant_superclass l TooMany = object_scope l

-- the superclass of a class by the name that it extends; whether that is accessible is not read
abbrev pub named_superclass : LayoutOf → Scope → List Ident → Rule Scope
named_superclass l c n = and_then (type_name l (file_of l c) (header_bodies l c) n) (λ r. done (meant_superclass l r.meaning))

-- the superclass of a class by the names that it extends, of which the first counts
abbrev pub superclass : LayoutOf → Scope → List (List Ident) → Rule Scope
superclass l c [] = done (object_scope l)
superclass l c (n ∷ ns) = named_superclass l c n
