-- What the units of a folder share.
use Rattle.std.specs.Prelude.{◌≡◌, ℕ, ◌<◌, ◌^◌, List, ◌∷◌, length, map}
use Rattle.std.specs.List.{Contains, range_with_len}
use Rattle.sg_query.specs.Query.{KindOf}
use Rattle.jv_instance.specs.declared.pred.JavaPred.{JavaPred}
use Rattle.jv_instance.specs.declared.pred.JavaPred.TheVariants.{Named, Any}
use Rattle.jv_layout.specs.Folder.{LayoutOf, layout_of}
use Rattle.jv_layout.specs.Linked.{IsLinked}
use Rattle.jv_layout.specs.Scopes.{scope_count}
use Rattle.jv_names.specs.Kinds.{AreKinds}
use Rattle.jv_tree.specs.DeclTree.{UnitTree}
use Rattle.jv_tree.specs.Numbered.{IsNumbered}

-- the layout of some files, the texts of the names, the trees of the files, and the table of kinds
pub record FolderOf : Type 0 where
  pub layout : LayoutOf
  pub names : List (List ℕ)
  pub files : List UnitTree
  pub kinds : List KindOf

-- the layout is that of the files, whose identifiers have numbers of names, and the kinds are Java's
pub record IsFolderOf (w : FolderOf) : Type 0 where
  pub layout : w.layout ≡ layout_of w.names w.files
  pub linked : IsLinked w.layout
  pub few : scope_count w.layout < 2 ^ 31
  pub numbered : (u : UnitTree) → Contains w.files u → IsNumbered (length w.names) u
  pub kinds : AreKinds w.kinds

-- the predicates that a unit may ask: any name, and each name
abbrev pub java_preds : List (List ℕ) → List JavaPred
java_preds names = Any ∷ map (λ n. Named (record { 0 = n })) (range_with_len 0 (length names))
