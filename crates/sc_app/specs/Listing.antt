-- What the listings of sources say, by their finished graph.
use Rattle.std.specs.Prelude.{◌≡◌, ℕ, ◌+◌, ◌-◌, ◌<◌, ◌≤◌, ◌++◌, ◌⊎◌, nat_lt, cond, List, [], ◌∷◌, codes, length}
use Rattle.std.specs.Cmp.Lexicographic.{slice_cmp}
use Rattle.std.specs.List.{Contains}
use Rattle.std.specs.Ordering.{nat_cmp}
use Rattle.sg_base.specs.declared.scope.Scope.{Scope}
use Rattle.sg_base.specs.Graph.{GraphOf}
use Rattle.sg_base.specs.List.{IsRising}
use Rattle.sg_query.specs.declared.answer.Answer.{Answer}
use Rattle.sg_query.specs.declared.query.Query.{Query}
use Rattle.sg_reading.specs.Reading.{Asks}
use Rattle.sg_script.specs.Script.{Stage}
use Rattle.jv_header.specs.Header.{header_rule}
use Rattle.jv_header.specs.Imports.{imports_rule}
use Rattle.jv_instance.specs.declared.datum.JavaDatum.{JavaDatum}
use Rattle.jv_instance.specs.declared.pred.JavaPred.{JavaPred}
use Rattle.jv_layout.specs.Folder.{layout_of}
use Rattle.jv_layout.specs.Scopes.{type_scope}
use Rattle.jv_layout.specs.Sizes.{most_types}
use Rattle.jv_names.specs.Law.{InGraph}
use Rattle.jv_tree.specs.DeclTree.{UnitTree}
use Rattle.jv_unit.specs.Folder.{FolderOf}
use Rattle.jv_unit.specs.Plans.{own_file_ending, unit_ending, unit_stages}
use Rattle.jv_unit.specs.Trees.{decl_at, extends_of, implements_of, unit_at}
use Rattle.sc_io.specs.SourceTree.{FileOf}
use Rattle.sc_listing.specs.Answers.{unit_of, unit_text}
use Rattle.sc_listing.specs.Graph.{graph_text}
use Rattle.sc_listing.specs.Questions.{question_line}
use Rattle.sc_listing.specs.Titles.{ListedOf, listed_files, listed_types, title}
use Rattle.sc_app.specs.declared.command.Command.{Command}
use Rattle.sc_app.specs.declared.command.Command.TheVariants.{Answers, Graph}
use Rattle.sc_app.specs.Diagnoses.{HaveTrees, laid_out, types_declared}
use Rattle.sc_app.specs.FolderGraph.{IsWhole}

-- ---- the finished graph

-- sources with these names and trees have this whole graph
pub record IsFinished (ss : List FileOf) (names : List (List ℕ)) (us : List UnitTree) (g : GraphOf JavaDatum) : Type 0 where
  pub have : HaveTrees ss names us
  pub few : types_declared names us ≤ most_types
  pub whole : IsWhole (laid_out names us) g

-- what is listed of sources
abbrev pub listed_in : List FileOf → List (List ℕ) → List UnitTree → ListedOf
listed_in ss names us = record { layout = layout_of names us; names = names; files = ss }

-- ---- answers

-- the unit with a number may ask a query in a graph: one of its rules comes to it there
abbrev pub MayAsk : FolderOf → GraphOf JavaDatum → ℕ → Query JavaPred → Type 0
MayAsk w g u q = ((s : Stage JavaDatum JavaPred) × Contains (unit_stages w u) s × Asks (InGraph g) s.rule q) ⊎ Asks (InGraph g) (unit_ending w u) q

-- its imports, by what they mean or by what single static ones bring, or its header ask a query in a graph
abbrev pub AsksFirst : FolderOf → GraphOf JavaDatum → ℕ → Query JavaPred → Type 0
AsksFirst w g u q =
    ((u < length w.layout.files) × (Asks (InGraph g) (imports_rule w.layout w.names u (unit_at w.files u)) q ⊎ Asks (InGraph g) (own_file_ending w u) q))
    ⊎ ((t : ℕ) × (u ≡ length w.layout.files + t) × (t < length w.layout.types) × Asks (InGraph g) (header_rule w.layout w.names (type_scope w.layout t) (extends_of (decl_at w.files t)) (implements_of (decl_at w.files t))) q)

-- lines of a unit, in the order of their bytes, each once: each is that of a query which the unit may ask, with its answer in the graph, and all queries of
-- its imports or its header are among them
pub record AreLinesIn (w : FolderOf) (l : ListedOf) (g : GraphOf JavaDatum) (u : ℕ) (lines : List (List ℕ)) : Type 0 where
  pub rising : IsRising (slice_cmp nat_cmp) lines
  pub answered : (line : List ℕ) → Contains lines line → (q : Query JavaPred) × (a : Answer JavaDatum) × (line ≡ question_line l q a) × MayAsk w g u q × InGraph g q a
  pub first : (q : Query JavaPred) (a : Answer JavaDatum) → AsksFirst w g u q → InGraph g q a → Contains lines (question_line l q a)

-- the text of units, one after another
abbrev pub AreUnitsIn : FolderOf → ListedOf → GraphOf JavaDatum → List Scope → List ℕ → Type 0
AreUnitsIn w l g [] text = text ≡ []
AreUnitsIn w l g (s ∷ ss) text =
    (lines : List (List ℕ)) × (rest : List ℕ) × AreLinesIn w l g (unit_of l.layout s) lines × AreUnitsIn w l g ss rest × (text ≡ unit_text (title l s) lines ++ rest)

-- the text of the answers in a graph
abbrev pub IsAnswersIn : FolderOf → ListedOf → GraphOf JavaDatum → List ℕ → Type 0
IsAnswersIn w l g text =
    (files : List ℕ) × (types : List ℕ) × AreUnitsIn w l g (listed_files l) files × AreUnitsIn w l g (listed_types l) types × (text ≡ files ++ types ++ codes "end\n")

-- ---- what is listed in place of a report

-- a command lists this of sources, which have a finished graph
pub data Lists (ss : List FileOf) : Command → List ℕ → Type 0 where
  lists_graph : (names : List (List ℕ)) (us : List UnitTree) (g : GraphOf JavaDatum) → IsFinished ss names us g → Lists ss Graph (graph_text (listed_in ss names us) g)
  lists_answers : (names : List (List ℕ)) (us : List UnitTree) (g : GraphOf JavaDatum) (text : List ℕ) → IsFinished ss names us g → IsAnswersIn (laid_out names us) (listed_in ss names us) g text → Lists ss Answers text

-- a command lists nothing of sources: it asks for their report, or they have no finished graph
abbrev pub ListsNothing : List FileOf → Command → Type 0
ListsNothing ss c = (text : List ℕ) → Lists ss c text → ⊥
