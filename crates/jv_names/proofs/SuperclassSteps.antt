-- The steps by which the superclass of a class is found.
use Rattle.std.proofs.Common.{◌≡◌, ◌<◌, ◌≤◌, List, [], ◌∷◌, map, Option, Result, Ok, get_or, length, sym, arith}
use Rattle.sg_base.specs.declared.scope.Scope.{Scope}
use Rattle.sg_query.specs.declared.answer.Answer.{Answer}
use Rattle.sg_query.specs.declared.query.Query.{Query}
use Rattle.sg_reading.specs.declared.stop.Stop.{Stop}
use Rattle.sg_reading.specs.Stop.{Reads}
use Rattle.sg_reading.proofs.Steps.{done_reads, reading_steps}
use Rattle.jv_instance.specs.declared.datum.JavaDatum.{JavaDatum}
use Rattle.jv_instance.specs.declared.pred.JavaPred.{JavaPred}
use Rattle.jv_layout.specs.Folder.{LayoutOf}
use Rattle.jv_layout.specs.Readers.{object_scope}
use Rattle.jv_tree.specs.declared.name.Name.{Name}
use Rattle.jv_tree.specs.TypeTree.{ids_of}
use Rattle.jv_names.specs.Superclass.{named_superclass, superclass}

module _ (reply : Query JavaPred → Option (Answer JavaDatum)) (l : LayoutOf) (c : Scope) where
  -- the first name counts
  pub first_name : (ns : List Name) (d : Name) (x : Result Scope (Stop (Query JavaPred))) → 1 ≤ length ns → Reads reply (named_superclass l c (ids_of (get_or ns 0 d))) x → Reads reply (superclass l c (map ids_of ns)) x
  first_name [] d x some h = absurd (omega (arith, some))
  first_name (n ∷ ns) d x some h = h

  -- no name stands there
  pub no_name : (ns : List Name) (v : Scope) → length ns < 1 → v ≡ object_scope l → Reads reply (superclass l c (map ids_of ns)) (Ok v)
  no_name [] v none e = done_reads reply (object_scope l) v (sym e)
  no_name (n ∷ ns) v none e = absurd (omega (arith, none))

pub ruleset superclass_steps = (reading_steps, first_name, no_name)
