-- The numbers of the marks and keywords that the grammar names (docs/JAVA-PROFILE.md, section 2).
use Rattle.std.specs.Prelude.{ℕ, List, [], ◌∷◌}

-- `( ) { } [ ] ; , .`
abbrev pub paren_open : ℕ
paren_open = 0

-- `)`
abbrev pub paren_close : ℕ
paren_close = 1

-- `{`
abbrev pub brace_open : ℕ
brace_open = 2

-- `}`
abbrev pub brace_close : ℕ
brace_close = 3

-- `[`
abbrev pub bracket_open : ℕ
bracket_open = 4

-- `]`
abbrev pub bracket_close : ℕ
bracket_close = 5

-- `;`
abbrev pub semicolon : ℕ
semicolon = 6

-- `,`
abbrev pub comma : ℕ
comma = 7

-- `.`
abbrev pub dot : ℕ
dot = 8

-- `=`
abbrev pub equals_sign : ℕ
equals_sign = 12

-- `?`
abbrev pub question_mark : ℕ
question_mark = 17

-- `:`
abbrev pub colon : ℕ
colon = 18

-- `-`
abbrev pub minus_sign : ℕ
minus_sign = 29

-- `*`
abbrev pub star : ℕ
star = 30

-- `! ~`, and with them `+ -`
abbrev pub complements : List ℕ
complements = 15 ∷ 16 ∷ []

-- `+ - ! ~`
abbrev pub signs : List ℕ
signs = 28 ∷ 29 ∷ 15 ∷ 16 ∷ []

-- `boolean`
abbrev pub word_boolean : ℕ
word_boolean = 2

-- `break`
abbrev pub word_break : ℕ
word_break = 3

-- `char`
abbrev pub word_char : ℕ
word_char = 7

-- `class`
abbrev pub word_class : ℕ
word_class = 8

-- `continue`
abbrev pub word_continue : ℕ
word_continue = 10

-- `default`
abbrev pub word_default : ℕ
word_default = 11

-- `do`
abbrev pub word_do : ℕ
word_do = 12

-- `else`
abbrev pub word_else : ℕ
word_else = 14

-- `extends`
abbrev pub word_extends : ℕ
word_extends = 16

-- `final`
abbrev pub word_final : ℕ
word_final = 17

-- `for`
abbrev pub word_for : ℕ
word_for = 20

-- `if`
abbrev pub word_if : ℕ
word_if = 22

-- `implements`
abbrev pub word_implements : ℕ
word_implements = 23

-- `import`
abbrev pub word_import : ℕ
word_import = 24

-- `instanceof`
abbrev pub word_instanceof : ℕ
word_instanceof = 25

-- `int`
abbrev pub word_int : ℕ
word_int = 26

-- `interface`
abbrev pub word_interface : ℕ
word_interface = 27

-- `long`
abbrev pub word_long : ℕ
word_long = 28

-- `new`
abbrev pub word_new : ℕ
word_new = 30

-- `package`
abbrev pub word_package : ℕ
word_package = 31

-- `return`
abbrev pub word_return : ℕ
word_return = 35

-- `static`
abbrev pub word_static : ℕ
word_static = 37

-- `super`
abbrev pub word_super : ℕ
word_super = 39

-- `this`
abbrev pub word_this : ℕ
word_this = 42

-- `void`
abbrev pub word_void : ℕ
word_void = 47

-- `while`
abbrev pub word_while : ℕ
word_while = 49

-- `public protected private static abstract final default`
abbrev pub modifiers : List ℕ
modifiers = 34 ∷ 33 ∷ 32 ∷ 37 ∷ 0 ∷ 17 ∷ 11 ∷ []
