-- What is known of the paths of an answer.
use Rattle.std.specs.Prelude.{◌≡◌, ℕ, ◌<◌, List, true, Option, Some, None, length, slice_index_or}
use Rattle.sg_query.specs.declared.found.Found.{Found}
use Rattle.jv_instance.specs.declared.datum.JavaDatum.{JavaDatum}
use Rattle.jv_layout.specs.Folder.{LayoutOf}
use Rattle.jv_layout.specs.Fits.{fits}
use Rattle.jv_names.specs.declared.known_paths.KnownPaths.{KnownPaths}
use Rattle.jv_names.specs.Inherited.{IsStaying}

-- an index, if there is one, of a path that fits the layout
abbrev pub IsFitting : LayoutOf → List (Found JavaDatum) → Option ℕ → Type 0
IsFitting l fs None = Unit {0}
IsFitting l fs (Some j) = (j < length fs) × ((f : Found JavaDatum) → f ≡ slice_index_or fs j f → fits l f.path ≡ true)

-- both indices are so
pub record AreKnown (l : LayoutOf) (fs : List (Found JavaDatum)) (k : KnownPaths) : Type 0 where
  pub fitting : IsFitting l fs k.fitting
  pub staying : IsStaying l fs k.staying
