-- The texts of diagnostics, and how arguments are put into them.
use Rattle.std.specs.Prelude.{◌==◌, ℕ, ◌+◌, List, [], ◌∷◌, ◌++◌, codes, drop, slice_index_or, Option, Some, None, if◌then◌else◌}
use Rattle.std.specs.Char.{encode_utf8}
use Rattle.std.specs.Str.{chars}

-- The text of each code, from code 0 on. Each `$` stands for an argument, one after another. A number that is no code has the empty text.
abbrev pub texts : List (List ℕ)
texts =
    codes "" ∷
    codes "not UTF-8" ∷
    codes "syntax error" ∷
    codes "bad literal" ∷
    codes "nested too deep" ∷
    codes "bad token" ∷
    codes "" ∷
    codes "" ∷
    codes "" ∷
    codes "" ∷
    codes "duplicate type $" ∷
    codes "second constructor: overloading is not in this profile" ∷
    codes "cannot find import $" ∷
    codes "import $ clashes with a type of this file" ∷
    codes "import $ clashes with another import" ∷
    codes "" ∷
    codes "$ is a type and a package" ∷
    codes "$ has the name of an enclosing type" ∷
    codes "duplicate field $" ∷
    codes "modifiers of $" ∷
    codes "cannot find type $" ∷
    codes "type $ is ambiguous" ∷
    codes "$ is not accessible" ∷
    codes "" ∷
    codes "" ∷
    codes "$ depends on itself" ∷
    codes "$ is not a class" ∷
    codes "$ is not an interface" ∷
    codes "$ is final" ∷
    codes "$ is repeated" ∷
    codes "header of $ waits for the header of $" ∷
    codes "$: static and instance methods meet" ∷
    codes "$ overrides a final method" ∷
    codes "$ has weaker access" ∷
    codes "$ has another result type" ∷
    codes "must implement $" ∷
    codes "$: overloading is not in this profile" ∷
    codes "body of $" ∷
    codes "no constructor without arguments in $" ∷
    codes "duplicate variable $" ∷
    codes "cannot find $" ∷
    codes "too many paths for $" ∷
    codes "cannot find method $" ∷
    codes "$ is ambiguous" ∷
    codes "$ is not accessible" ∷
    codes "found $, need $" ∷
    codes "operator $ does not take $" ∷
    codes "wrong number of arguments for $" ∷
    codes "$ needs an instance" ∷
    codes "$ is abstract" ∷
    codes "not a variable" ∷
    codes "" ∷
    codes "not in a loop" ∷
    codes "result does not fit the method" ∷
    codes "" ∷
    codes "$ cannot be cast to $" ∷
    codes "$ is final" ∷
    codes "no enclosing instance for $" ∷
    codes "defaults of $ meet" ∷
    codes "$ is a static method of an interface" ∷
    codes "unreachable statement" ∷
    codes "missing return in $" ∷ []

-- the text of a code
abbrev pub text_of : ℕ → List ℕ
text_of code = slice_index_or texts code []

-- how many arguments a text has room for
abbrev pub arity : List ℕ → ℕ
arity [] = 0
arity (c ∷ cs) = if c == 36 then 1 + arity cs else arity cs

-- how many arguments a code with this text takes; a number without a text is no code
abbrev pub taken_by : List ℕ → Option ℕ
taken_by [] = None
taken_by (c ∷ cs) = Some (arity (c ∷ cs))

-- how many arguments a code takes, where the number is a code
abbrev pub takes : ℕ → Option ℕ
takes code = taken_by (text_of code)

-- the bytes of these characters, with the arguments in turn in the places of the marks
abbrev pub filled : List ℕ → List (List ℕ) → List ℕ
filled [] args = []
filled (c ∷ cs) args = if c == 36 then slice_index_or args 0 [] ++ filled cs (drop 1 args) else encode_utf8 c ++ filled cs args
