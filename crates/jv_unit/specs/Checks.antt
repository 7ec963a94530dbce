-- What is checked of a type behind its header, in order.
use Rattle.std.specs.Prelude.{ℕ, List, ◌∷◌, ◌++◌, map}

-- one check of a type, of the member with a number: its declaration with the types in its signature, the methods that the type has, a method against what
-- it is declared over, the methods that meet in the type, the constructor that a constructor calls without a super call, and a body or an initializer
pub data Check : Type 0 where
  declaration : ℕ → Check
  methods : Check
  overriding : ℕ → Check
  meeting : Check
  calling : ℕ → Check
  body : ℕ → Check

-- the checks of these members together, behind their declarations and before their bodies
abbrev pub member_checks : List ℕ → List Check
member_checks ms = methods ∷ (map overriding ms ++ (meeting ∷ map calling ms))

-- all checks of a type with these members: of one kind after another, and in each the members in order
abbrev pub checks_of : List ℕ → List Check
checks_of ms = map declaration ms ++ (member_checks ms ++ map body ms)
