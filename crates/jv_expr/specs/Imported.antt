-- What the static members come to that a file's static imports bring (JLS 6.4.1, 7.5.3, 7.5.4).
use Rattle.std.specs.Prelude.{[], ◌∷◌}
use Rattle.jv_names.specs.declared.ends.Ends.{Ends}
use Rattle.jv_names.specs.declared.ends.Ends.TheVariants.{Scopes, TooMany as TooManyEnds}
use Rattle.jv_names.specs.declared.meaning.Meaning.{Meaning}
use Rattle.jv_names.specs.declared.meaning.Meaning.TheVariants.{One, Nothing, Ambiguous, TooMany}

-- what a name means by the distinct members of it that imports bring: one, none, or several
abbrev pub brought_meaning : Ends → Meaning
brought_meaning TooManyEnds = TooMany
brought_meaning (Scopes []) = Nothing
brought_meaning (Scopes (m ∷ [])) = One m
brought_meaning (Scopes (m ∷ k ∷ ms)) = Ambiguous
