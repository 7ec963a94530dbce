-- The ten kinds of Java's queries: the words that each follows, and which labels come before which (JLS 6.4.1, 8.2, 9.2).
use Rattle.std.specs.Prelude.{◌≡◌, ℕ, ◌<◌, List, [], ◌∷◌, Bool, false, ◌==◌, ◌&&◌, ◌||◌, length, slice_index_or}
use Rattle.std.specs.List.{list_any}
use Rattle.sg_base.specs.declared.mark.Mark.{Mark}
use Rattle.sg_base.specs.declared.mark.Mark.TheVariants.{End, Of}
use Rattle.sg_expr.specs.Tree.{ExprOf, no_word, one_label, in_turn, either_of, repeated}
use Rattle.sg_order.specs.Order.{precedes}
use Rattle.sg_query.specs.declared.query.Query.{Query}
use Rattle.sg_query.specs.Query.{KindOf, Asked, kind_of}
use Rattle.jv_instance.specs.Data.{name_of, is_wanted}
use Rattle.jv_instance.specs.declared.datum.JavaDatum.{JavaDatum}
use Rattle.jv_instance.specs.declared.pred.JavaPred.{JavaPred}
use Rattle.jv_instance.specs.declared.labels.TheConstants.{PKG, TYPE, SELF, SIMP, PKGOF, ODI, EXT, FIELD, METH, CTOR, SIG}

-- a kind: the words that it follows, and labels of which each comes before those behind it
pub record JavaKind : Type 0 where
  pub words : ExprOf
  pub labels : List ℕ

-- any number of supertypes, and then this label
abbrev pub above_or_own : ℕ → ExprOf
above_or_own label = in_turn (repeated (one_label EXT)) (one_label label)

-- the types that a file sees by their simple names: its own, those that it imports, those of its package, those imported on demand
abbrev pub of_file : ExprOf
of_file = either_of (one_label SELF) (either_of (one_label SIMP) (either_of (in_turn (one_label PKGOF) (one_label TYPE)) (in_turn (one_label ODI) (one_label TYPE))))

-- the kinds by number: SUBPKG, OWNTYPE, MEMTYPE, FILETYPE, FIELDS, METHODS, ABOVE, CTORS, SIG, SUPERS
abbrev pub kinds : List JavaKind
kinds =
    record { words = one_label PKG; labels = [] }
    ∷ record { words = one_label TYPE; labels = [] }
    ∷ record { words = above_or_own TYPE; labels = TYPE ∷ EXT ∷ [] }
    ∷ record { words = of_file; labels = SELF ∷ SIMP ∷ PKGOF ∷ ODI ∷ [] }
    ∷ record { words = above_or_own FIELD; labels = FIELD ∷ EXT ∷ [] }
    ∷ record { words = above_or_own METH; labels = METH ∷ EXT ∷ [] }
    ∷ record { words = in_turn (one_label EXT) (above_or_own METH); labels = METH ∷ EXT ∷ [] }
    ∷ record { words = one_label CTOR; labels = [] }
    ∷ record { words = one_label SIG; labels = [] }
    ∷ record { words = repeated (one_label EXT); labels = [] }
    ∷ []

-- the kind with a number; where there is none, a kind that follows no word
abbrev pub kind_at : ℕ → JavaKind
kind_at k = slice_index_or kinds k (record { words = no_word; labels = [] })

-- whether the first label stands before the second in a list
abbrev pub stands_before : List ℕ → ℕ → ℕ → Bool
stands_before [] a b = false
stands_before (x ∷ xs) a b = ((x == a) && list_any (λ y. y == b) xs) || stands_before xs a b

-- the order of marks by such a list: no mark comes before or behind the end
abbrev pub mark_before : List ℕ → Mark → Mark → Bool
mark_before labels End m = false
mark_before labels (Of a) End = false
mark_before labels (Of a) (Of b) = stands_before labels a b

-- a kind of a table has the words and the order of a kind of Java
pub record IsKind (java : JavaKind) (k : KindOf) : Type 0 where
  pub words : k.expr ≡ java.words
  pub order : (a b : Mark) → precedes k.order a b ≡ mark_before java.labels a b

-- as many kinds, and each is the one at its place
abbrev pub AllAre : List JavaKind → List KindOf → Type 0
AllAre [] [] = Unit {0}
AllAre [] (k ∷ ks) = ⊥
AllAre (j ∷ js) [] = ⊥
AllAre (j ∷ js) (k ∷ ks) = IsKind j k × AllAre js ks

-- what a query asks of a graph
abbrev pub asked_by : Query JavaPred → Asked JavaDatum
asked_by q = record { start = q.start; expr = (kind_at q.kind).words; order = mark_before (kind_at q.kind).labels; wants = is_wanted q.pred; same = λ a b. name_of a == name_of b }

-- a table has these kinds: as many, and each with its words and its order
pub record AreKinds (table : List KindOf) : Type 0 where
  pub count : length table ≡ length kinds
  pub words : (k : ℕ) → k < length kinds → (kind_of table k).expr ≡ (kind_at k).words
  pub order : (k : ℕ) (a b : Mark) → k < length kinds → precedes (kind_of table k).order a b ≡ mark_before (kind_at k).labels a b
