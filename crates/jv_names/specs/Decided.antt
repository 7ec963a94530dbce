-- The meaning by ends, where there are some.
use Rattle.std.specs.Prelude.{List, [], ◌∷◌, ◌++◌, Option, None, Some}
use Rattle.sg_base.specs.declared.scope.Scope.{Scope}
use Rattle.jv_names.specs.declared.ends.Ends.{Ends}
use Rattle.jv_names.specs.declared.ends.Ends.TheVariants.{Scopes, TooMany}
use Rattle.jv_names.specs.declared.meaning.Meaning.{Meaning}
use Rattle.jv_names.specs.declared.meaning.Meaning.TheVariants.{TooMany as TooManyTypes}
use Rattle.jv_names.specs.Ends.{meaning_of}

-- by some ends
abbrev pub decided : List Scope → Option Meaning
decided [] = None
decided (e ∷ es) = Some (meaning_of (e ∷ es))

-- by static types with some ends
abbrev pub decided_with : List Scope → Ends → Option Meaning
decided_with es TooMany = Some TooManyTypes
decided_with es (Scopes ss) = decided (ss ++ es)
