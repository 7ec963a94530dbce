-- Names and keys of data, and what predicates want.
use Rattle.std.specs.Prelude.{ℕ, Bool, true, ◌==◌, Option, Some, None}
use Rattle.jv_instance.specs.declared.datum.JavaDatum.{JavaDatum}
use Rattle.jv_instance.specs.declared.datum.JavaDatum.TheVariants.{Package, TypeName, Member, Signature}
use Rattle.jv_instance.specs.declared.pred.JavaPred.{JavaPred}
use Rattle.jv_instance.specs.declared.pred.JavaPred.TheVariants.{Named, Any}

-- the number of a datum's name, which is its key
abbrev pub name_of : JavaDatum → ℕ
name_of (Package n) = n.0
name_of (TypeName n) = n.0
name_of (Member n) = n.0
name_of (Signature n r ps) = n.0

-- a predicate with a name wants the data of that name, and the other one all data
abbrev pub is_wanted : JavaPred → JavaDatum → Bool
is_wanted (Named n) d = n.0 == name_of d
is_wanted Any d = true

-- the key of a predicate with a name is the number of the name
abbrev pub key_of : JavaPred → Option ℕ
key_of (Named n) = Some n.0
key_of Any = None
