-- One part of a name, behind what the parts in front of it mean.
use Rattle.std.specs.Prelude.{List, [], ◌∷◌, ◌++◌, Option, Result, Err}
use Rattle.sg_base.specs.declared.scope.Scope.{Scope}
use Rattle.sg_query.specs.declared.answer.Answer.{Answer}
use Rattle.sg_query.specs.declared.query.Query.{Query}
use Rattle.sg_reading.specs.declared.stop.Stop.{Stop}
use Rattle.sg_reading.specs.Stop.{Reads}
use Rattle.jv_instance.specs.declared.datum.JavaDatum.{JavaDatum}
use Rattle.jv_instance.specs.declared.pred.JavaPred.{JavaPred}
use Rattle.jv_layout.specs.Folder.{LayoutOf}
use Rattle.jv_tree.specs.declared.name.Ident.{Ident}
use Rattle.jv_names.specs.declared.context.Context.{Context}
use Rattle.jv_names.specs.declared.part.Part.{Part}
use Rattle.jv_names.specs.declared.part.Part.TheVariants.{FoundType, FoundPackage, Ends}
use Rattle.jv_names.specs.declared.qualifier.Qualifier.{Qualifier}
use Rattle.jv_names.specs.declared.qualifier.Qualifier.TheVariants.{InPackage, InType}
use Rattle.jv_names.specs.declared.resolved.Resolved.{Resolved}
use Rattle.jv_names.specs.Names.{ended, further_parts}
use Rattle.jv_names.specs.Replies.{Rule}

-- how a name goes on behind a part
abbrev pub behind : LayoutOf → Context → Part → List Scope → List Ident → Rule Resolved
behind l context (FoundType s) types ns = further_parts l context (InType s) (types ++ s ∷ []) ns
behind l context (FoundPackage q) types ns = further_parts l context (InPackage q) types ns
behind l context (Ends m) types ns = ended m types

-- what the name comes to behind the part, it comes to from the part on
unfoldable pub ReadsThrough : (Query JavaPred → Option (Answer JavaDatum)) → LayoutOf → Context → Qualifier → Ident → Part → Type 0
ReadsThrough reply l context at n found =
    (types : List Scope) (ns : List Ident) (x : Result Resolved (Stop (Query JavaPred))) → Reads reply (behind l context found types ns) x → Reads reply (further_parts l context at types (n ∷ ns)) x

-- the name comes to this stop from the part on
unfoldable pub StopsThere : (Query JavaPred → Option (Answer JavaDatum)) → LayoutOf → Context → Qualifier → Ident → Stop (Query JavaPred) → Type 0
StopsThere reply l context at n stop = (types : List Scope) (ns : List Ident) → Reads {U = Resolved} reply (further_parts l context at types (n ∷ ns)) (Err stop)
