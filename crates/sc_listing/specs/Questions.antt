-- How a question and its answer are printed.
use Rattle.std.specs.Prelude.{ℕ, ◌++◌, List, [], ◌∷◌, codes}
use Rattle.std.specs.List.{flat_map, join_by, slice_index_or}
use Rattle.sg_base.specs.declared.step.Step.{Step}
use Rattle.sg_base.specs.Path.{PathOf}
use Rattle.sg_query.specs.declared.answer.Answer.{Answer}
use Rattle.sg_query.specs.declared.answer.Answer.TheVariants.{Paths, TooMany}
use Rattle.sg_query.specs.declared.found.Found.{Found}
use Rattle.sg_query.specs.declared.query.Query.{Query}
use Rattle.jv_instance.specs.declared.datum.JavaDatum.{JavaDatum}
use Rattle.jv_instance.specs.declared.pred.JavaPred.{JavaPred}
use Rattle.jv_instance.specs.declared.pred.JavaPred.TheVariants.{Named, Any}
use Rattle.jv_layout.specs.Folder.{text_of}
use Rattle.sc_listing.specs.Titles.{ListedOf, title}

-- the names of labels, by their numbers
abbrev pub label_names : List (List ℕ)
label_names =
    codes "PKG" ∷ codes "TYPE" ∷ codes "SELF" ∷ codes "SIMP" ∷ codes "PKGOF" ∷ codes "ODI" ∷ codes "EXT" ∷ codes "FIELD" ∷ codes "METH" ∷ codes "CTOR" ∷ codes "SIG" ∷ []

-- the names of kinds of queries, by their numbers
abbrev pub kind_names : List (List ℕ)
kind_names =
    codes "SUBPKG" ∷ codes "OWNTYPE" ∷ codes "MEMTYPE" ∷ codes "FILETYPE" ∷ codes "FIELDS" ∷ codes "METHODS" ∷ codes "ABOVE" ∷ codes "CTORS" ∷ codes "SIG" ∷ codes "SUPERS" ∷ []

-- the name of the label with this number, and nothing where there is none
abbrev pub label_name : ℕ → List ℕ
label_name l = slice_index_or label_names l []

-- the name of the kind of queries with this number, and nothing where there is none
abbrev pub kind_name : ℕ → List ℕ
kind_name k = slice_index_or kind_names k []

-- what is sought: a name, or anything
abbrev pub pred_text : ListedOf → JavaPred → List ℕ
pred_text w (Named n) = text_of w.names n.0
pred_text w Any = codes "*"

-- a step of a path: the label of its edge, and the title of the scope that it leads to
abbrev pub step_text : ListedOf → Step → List ℕ
step_text w p = codes " " ++ label_name p.label ++ codes " " ++ title w p.to

-- a path: the title of its start, and its steps
abbrev pub path_text : ListedOf → PathOf → List ℕ
path_text w p = title w p.start ++ flat_map (step_text w) p.steps

-- paths that were found; a dash for none
abbrev pub paths_text : ListedOf → List (Found JavaDatum) → List ℕ
paths_text w [] = codes "-"
paths_text w (f ∷ fs) = join_by (λ x. path_text w x.path) (codes "; ") (f ∷ fs)

-- an answer: its paths, or a star where there were too many
abbrev pub answer_text : ListedOf → Answer JavaDatum → List ℕ
answer_text w (Paths fs) = paths_text w fs
answer_text w TooMany = codes "*"

-- a question and its answer: the name of its kind, the title of its start, what it seeks, and the answer
abbrev pub question_line : ListedOf → Query JavaPred → Answer JavaDatum → List ℕ
question_line w q a = kind_name q.kind ++ codes " " ++ title w q.start ++ codes " " ++ pred_text w q.pred ++ codes ": " ++ answer_text w a
