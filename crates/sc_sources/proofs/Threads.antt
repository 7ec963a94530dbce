-- Sources that several threads read: parts of them one behind another, and what all of them come to.
use Rattle.std.proofs.Common.{◌≡◌, ℕ, zero, suc, ◌+◌, ◌<◌, ◌≤◌, List, [], ◌∷◌, ◌++◌, length, map, take, drop, get_or, Some, Result, refl, sym, ap, ◌∙◌, subst, arith, Ok, Err, append-nil, Bool, true, false, nat_eq, if◌then◌else◌}
use Rattle.std.specs.Prelude.{slice_get, IfOk}
use Rattle.std.specs.List.{All}
use Rattle.std.proofs.lemmas.List.{take_more, take-append-drop, map-append, length-append, length-map, length-take}
use Rattle.std.proofs.lemmas.List.Elements.{All-head, All-tail, All-nil, All-cons}
use Rattle.std.proofs.lemmas.Option.{slice_get-get_or}
use Rattle.jv_diag.specs.Plain.{diagnostic}
use Rattle.jv_lex.specs.declared.token.Token.{Token}
use Rattle.jv_lex.specs.declared.token.TokenKind.{TokenKind}
use Rattle.jv_lex.specs.declared.token.TokenKind.TheVariants as k
use Rattle.jv_tree.specs.declared.declaration.Unit.{Unit as File}
use Rattle.jv_tree.specs.DeclTree.{UnitTree, tree_of}
use Rattle.jv_grammar.specs.declared.terminal.Terminal.{Terminal}
use Rattle.jv_grammar.specs.declared.terminal.Terminal.TheVariants as t
use Rattle.jv_grammar.specs.declared.terminal.LiteralKind.TheVariants as l
use Rattle.jv_grammar.specs.Load.{IsFirstDeep}
use Rattle.jv_parse.specs.Naming.{terminal_at, word_at}
use Rattle.jv_parse.specs.Parse.{terminals_of, HasNoTreeAt, IsTreeOf}
use Rattle.sc_io.specs.declared.source_file.SourceFile.{SourceFile}
use Rattle.sc_io.specs.SourceFile.{source_of, sources_of}
use Rattle.sc_sources.specs.declared.reading.Reading.{Reading}
use Rattle.sc_sources.specs.declared.lexing.Lexed.{Lexed}
use Rattle.sc_sources.specs.declared.naming.Named.{Named}
use Rattle.sc_sources.specs.declared.naming.Named.TheVariants.{Listed, NotListed}
use Rattle.sc_sources.specs.declared.terminals.Terminals.{Terminals}
use Rattle.sc_sources.specs.declared.growing.Grown.{Grown}
use Rattle.sc_sources.specs.Sources.{Outcome, tree, fault, Reads, ReadsAll, nothing, next, start_of, faults_from}
use Rattle.sc_sources.specs.Reading.{IsReading, trees_of}
use Rattle.sc_sources.specs.Threads.{AreSmall, bytes_of, IsLexed, AreLexed, IsNamed, AreNamed, no_more, one_more, place_of, place_in, ComesTo, ComeTo, IsGrown}
use Rattle.sc_sources.proofs.Bounds.{tokens_few, names_few}
use Rattle.sc_sources.proofs.OneSource.{deep_below, tree_comes, deep_comes, none_comes}

-- ---- tokens

pub lexed_count : (fs : List SourceFile) (xs : List Lexed) → AreLexed fs xs → length xs ≡ length fs
lexed_count [] [] h = refl
lexed_count [] (x ∷ xs) h = absurd h
lexed_count (f ∷ fs) [] h = absurd h
lexed_count (f ∷ fs) (x ∷ xs) h = ap suc (lexed_count fs xs h.1)

pub lexed_append : (fs gs : List SourceFile) (xs ys : List Lexed) → AreLexed fs xs → AreLexed gs ys → AreLexed (fs ++ gs) (xs ++ ys)
lexed_append [] gs [] ys h g = g
lexed_append [] gs (x ∷ xs) ys h g = absurd h
lexed_append (f ∷ fs) gs [] ys h g = absurd h
lexed_append (f ∷ fs) gs (x ∷ xs) ys h g = (h.0, lexed_append fs gs xs ys h.1 g)

pub lexed_at : (fs : List SourceFile) (xs : List Lexed) (i : ℕ) (d : SourceFile) (e : Lexed) → i < length fs → AreLexed fs xs → IsLexed (get_or fs i d).bytes.items (get_or xs i e)
lexed_at [] xs i d e l h = absurd (omega (arith, l))
lexed_at (f ∷ fs) [] i d e l h = absurd h
lexed_at (f ∷ fs) (x ∷ xs) zero d e l h = h.0
lexed_at (f ∷ fs) (x ∷ xs) (suc i) d e l h = lexed_at fs xs i d e (omega (arith, l)) h.1

-- a file more
pub lexed_next : (fs : List SourceFile) (xs : List Lexed) (i : ℕ) (d : SourceFile) (x : Lexed) → i < length fs → AreLexed (take i fs) xs → IsLexed (get_or fs i d).bytes.items x
    → AreLexed (take (i + 1) fs) (xs ++ x ∷ [])
lexed_next fs xs i d x l h is =
    subst (λ gs. AreLexed gs (xs ++ x ∷ [])) (sym (take_more fs i d l)) (lexed_append (take i fs) (get_or fs i d ∷ []) xs (x ∷ []) h (is, tt))

pub small_sources : (fs : List SourceFile) → All (λ f. length f.bytes ≤ 1048576) (sources_of fs) → AreSmall fs
small_sources [] a = All-nil (λ (f : SourceFile). length f.bytes.items ≤ 1048576)
small_sources (f ∷ fs) a =
    All-cons (λ (g : SourceFile). length g.bytes.items ≤ 1048576) f fs (All-head (λ g. length g.bytes ≤ 1048576) (source_of f) (sources_of fs) a)
    (small_sources fs (All-tail (λ g. length g.bytes ≤ 1048576) (source_of f) (sources_of fs) a))

-- ---- terminals

pub named_next : {old sources middle : List (List ℕ)} {xs : List Named} (bytes : List ℕ) (new : List (List ℕ)) (x : Named) → AreNamed old sources middle xs → IsNamed bytes middle new x
    → AreNamed old (sources ++ bytes ∷ []) new (xs ++ x ∷ [])
named_next bytes new x no_more is = one_more is no_more
named_next bytes new x (one_more q qs) is = one_more q (named_next bytes new x qs is)

pub named_count : {old sources new : List (List ℕ)} {xs : List Named} → AreNamed old sources new xs → length xs ≡ length sources
named_count no_more = refl
named_count (one_more q qs) = ap suc (named_count qs)

-- a source has no more names than bytes
pub named_few : (bytes : List ℕ) (old new : List (List ℕ)) (x : Named) → IsNamed bytes old new x → length new ≤ length old + length bytes
named_few bytes old new (Listed ts) is = omega (arith, tokens_few bytes is.0 is.1, names_few bytes old is.0, ap length is.2)
named_few bytes old new (NotListed f) is = omega (arith, ap length is.0)

pub bytes_next : (fs : List SourceFile) (i : ℕ) (d : SourceFile) → i < length fs → bytes_of (take (i + 1) fs) ≡ bytes_of (take i fs) ++ (get_or fs i d).bytes.items ∷ []
bytes_next fs i d l = ap bytes_of (take_more fs i d l) ∙ map-append (λ f. f.bytes.items) (take i fs) (get_or fs i d ∷ [])

pub bytes_same : (fs : List SourceFile) → map (λ f. f.bytes) (sources_of fs) ≡ bytes_of fs
bytes_same [] = refl
bytes_same (f ∷ fs) = ap (λ bs. f.bytes.items ∷ bs) (bytes_same fs)

-- ---- outcomes

pub come_append : (xs ys : List Named) (os ps : List Outcome) → ComeTo xs os → ComeTo ys ps → ComeTo (xs ++ ys) (os ++ ps)
come_append [] ys [] ps h g = g
come_append [] ys (o ∷ os) ps h g = absurd h
come_append (x ∷ xs) ys [] ps h g = absurd h
come_append (x ∷ xs) ys (o ∷ os) ps h g = (h.0, come_append xs ys os ps h.1 g)

pub come_count : (xs : List Named) (os : List Outcome) → ComeTo xs os → length os ≡ length xs
come_count [] [] h = refl
come_count [] (o ∷ os) h = absurd h
come_count (x ∷ xs) [] h = absurd h
come_count (x ∷ xs) (o ∷ os) h = ap suc (come_count xs os h.1)

-- each source comes to what its terminals come to
pub all_come : {old sources new : List (List ℕ)} {xs : List Named} (os : List Outcome) → AreNamed old sources new xs → ComeTo xs os → ReadsAll old sources new os
all_come [] no_more h = nothing
all_come (o ∷ os) no_more h = absurd h
all_come [] (one_more q qs) h = absurd h
all_come (o ∷ os) (one_more {bytes} {sources} {old} {middle} q qs) h = next (h.0 bytes old middle q) (all_come os qs h.1)

pub reads_append : {old some middle more new : List (List ℕ)} {xs ys : List Outcome} → ReadsAll old some middle xs → ReadsAll middle more new ys → ReadsAll old (some ++ more) new (xs ++ ys)
reads_append nothing r = r
reads_append (next q qs) r = next q (reads_append qs r)

pub trees_append : (xs ys : List Outcome) → trees_of (xs ++ ys) ≡ trees_of xs ++ trees_of ys
trees_append [] ys = refl
trees_append (tree u ∷ xs) ys = ap (λ us. u ∷ us) (trees_append xs ys)
trees_append (fault at code ∷ xs) ys = trees_append xs ys

pub faults_append : (file number : ℕ) (xs ys : List Outcome) → number ≡ file + length xs → faults_from file (xs ++ ys) ≡ faults_from file xs ++ faults_from number ys
faults_append file number [] ys e = let same : file ≡ number = omega (arith, e) in ap (λ n. faults_from n ys) same
faults_append file number (tree u ∷ xs) ys e = faults_append (suc file) number xs ys (omega (arith, e))
faults_append file number (fault at code ∷ xs) ys e = ap (λ ds. diagnostic file at code [] ∷ ds) (faults_append (suc file) number xs ys (omega (arith, e)))

-- the trees and faults of the ones and then of the others
pub grown_joined : (first second : ℕ) (xs ys : List Named) (one other g : Grown) → IsGrown first xs one → IsGrown second ys other → second ≡ first + length xs
    → g.units.items ≡ one.units.items ++ other.units.items → g.faults ≡ one.faults ++ other.faults → IsGrown first (xs ++ ys) g
grown_joined first second xs ys one other g a b at units faults = record {
  outcomes = a.outcomes ++ b.outcomes;
  come = come_append xs ys a.outcomes b.outcomes a.come b.come;
  trees = ap (map tree_of) units ∙ map-append tree_of one.units.items other.units.items ∙ ap (λ us. us ++ map tree_of other.units.items) a.trees
      ∙ ap (λ us. trees_of a.outcomes ++ us) b.trees ∙ sym (trees_append a.outcomes b.outcomes);
  faults = faults ∙ ap (λ ds. ds ++ other.faults) a.faults ∙ ap (λ ds. faults_from first a.outcomes ++ ds) b.faults
      ∙ sym (faults_append first second a.outcomes b.outcomes (omega (arith, at, come_count xs a.outcomes a.come)));
}

-- the same of so many files of a list and then of the others
pub parts_joined : {E : Type 0} (first size : ℕ) (items front back : List Named) (one other : Grown) (r : Result Grown E) → size ≤ length items → front ≡ take size items → back ≡ drop size items
    → IsGrown first front one → IsGrown (first + size) back other → IfOk r (λ g. g.units.items ≡ one.units.items ++ other.units.items) → IfOk r (λ g. g.faults ≡ one.faults ++ other.faults)
    → IfOk r (IsGrown first items)
parts_joined first size items front back one other (Err e) within f b is are units faults = tt
parts_joined first size items front back one other (Ok g) within f b is are units faults =
    let whole : front ++ back ≡ items = ap (λ xs. xs ++ back) f ∙ ap (λ xs. take size items ++ xs) b ∙ take-append-drop size items in
    let second : first + size ≡ first + length front = omega (arith, ap length f, length-take size items) in
    subst (λ xs. IsGrown first xs g) whole (grown_joined first (first + size) front back one other g is are second units faults)

module _ (first : ℕ) (items : List Named) (x : Named) (old new : Grown) (is : IsGrown first items old) where
  pub tree_grown : (u : File) → ComesTo x (tree (tree_of u)) → new.units.items ≡ old.units.items ++ u ∷ [] → new.faults ≡ old.faults → IsGrown first (items ++ x ∷ []) new
  tree_grown u c units faults = record {
    outcomes = is.outcomes ++ tree (tree_of u) ∷ [];
    come = come_append items (x ∷ []) is.outcomes (tree (tree_of u) ∷ []) is.come (c, tt);
    trees = ap (map tree_of) units ∙ map-append tree_of old.units.items (u ∷ []) ∙ ap (λ us. us ++ tree_of u ∷ []) is.trees ∙ sym (trees_append is.outcomes (tree (tree_of u) ∷ []));
    faults = faults ∙ is.faults ∙ sym (append-nil (faults_from first is.outcomes)) ∙ sym (faults_append first (first + length is.outcomes) is.outcomes (tree (tree_of u) ∷ []) refl);
  }

  pub fault_grown : (number p c : ℕ) → number ≡ first + length items → ComesTo x (fault p c) → new.units.items ≡ old.units.items → new.faults ≡ old.faults ++ diagnostic number p c [] ∷ []
      → IsGrown first (items ++ x ∷ []) new
  fault_grown number p c at comes units faults = record {
    outcomes = is.outcomes ++ fault p c ∷ [];
    come = come_append items (x ∷ []) is.outcomes (fault p c ∷ []) is.come (comes, tt);
    trees = ap (map tree_of) units ∙ is.trees ∙ sym (append-nil (trees_of is.outcomes)) ∙ sym (trees_append is.outcomes (fault p c ∷ []));
    faults = faults ∙ ap (λ ds. ds ++ diagnostic number p c [] ∷ []) is.faults
        ∙ sym (faults_append first number is.outcomes (fault p c ∷ []) (omega (arith, at, come_count items is.outcomes is.come)));
  }

-- the sources so far, and files behind them
pub all_read : (sources : List (List ℕ)) (fs : List SourceFile) (old new : Reading) (items : List Named) (g : Grown) → IsReading sources old
    → AreNamed old.names (bytes_of fs) new.names items → IsGrown old.files items g → length items ≡ length fs
    → new.units.items ≡ old.units.items ++ g.units.items → new.faults ≡ old.faults ++ g.faults → new.files ≡ old.files + length fs
    → IsReading (sources ++ bytes_of fs) new
all_read sources fs old new items g is named grown count units faults files = record {
  outcomes = is.outcomes ++ grown.outcomes;
  reads = reads_append is.reads (all_come grown.outcomes named grown.come);
  trees = ap (map tree_of) units ∙ map-append tree_of old.units.items g.units.items ∙ ap (λ us. us ++ map tree_of g.units.items) is.trees
      ∙ ap (λ us. trees_of is.outcomes ++ us) grown.trees ∙ sym (trees_append is.outcomes grown.outcomes);
  faults = faults ∙ ap (λ ds. ds ++ g.faults) is.faults ∙ ap (λ ds. faults_from 0 is.outcomes ++ ds) grown.faults
      ∙ sym (faults_append 0 old.files is.outcomes grown.outcomes (omega (arith, is.files, counted is.reads)));
  files = omega (arith, files, is.files, length-append sources (bytes_of fs), length-map fs (λ f. f.bytes.items));
}
  where
    counted : {a b c : List (List ℕ)} {os : List Outcome} → ReadsAll a b c os → length os ≡ length b
    counted nothing = refl
    counted (next q qs) = ap suc (counted qs)

-- ---- places

word_place : (n p : ℕ) → place_of (word_at p n) ≡ p
word_place n p = by (nat_eq n 50) (nat_eq n 51) (nat_eq n 52)
  where
    by : (a b c : Bool) → place_of (if a then t.Literal p (l.Bool true) else if b then t.Literal p (l.Bool false) else if c then t.Literal p l.Null else t.Keyword p n) ≡ p
    by true b c = refl
    by false true c = refl
    by false false true = refl
    by false false false = refl

kind_place : (kind : TokenKind) (p n : ℕ) → place_of (terminal_at kind p n) ≡ p
kind_place k.Ident p n = refl
kind_place (k.Keyword m) p n = word_place m p
kind_place k.Int p n = refl
kind_place k.Long p n = refl
kind_place k.Minimum p n = refl
kind_place k.MinimumLong p n = refl
kind_place k.Char p n = refl
kind_place k.Str p n = refl
kind_place (k.Punct m) p n = refl

-- where the terminal of a token stands, the token starts
pub places : (bytes : List ℕ) (names : List (List ℕ)) (ts : List Token) (i : ℕ) → place_in (length bytes) (slice_get (terminals_of bytes names ts) i) ≡ start_of bytes (slice_get ts i)
places bytes names [] i = refl
places bytes names (x ∷ xs) zero = kind_place x.kind x.start _
places bytes names (x ∷ xs) (suc i) = places bytes names xs i

-- ---- what terminals come to

module _ (ts : Terminals) (list : List Terminal) where
  pub listed_tree : (u : UnitTree) → list ≡ ts.list.items → IsTreeOf list u → ComesTo (Listed ts) (tree u)
  listed_tree u same is = λ bytes old new n.
      tree_comes bytes old new n.0 n.1 n.2 u (subst (λ xs. IsTreeOf xs u) (same ∙ n.3) is)

  module _ (i at : ℕ) (same : list ≡ ts.list.items) (is_at : at ≡ place_in ts.end (slice_get list i)) where
    starts : (bytes : List ℕ) (new : List (List ℕ)) (tokens : List Token) → ts.list.items ≡ terminals_of bytes new tokens → ts.end ≡ length bytes → at ≡ start_of bytes (slice_get tokens i)
    starts bytes new tokens listed end =
        is_at ∙ ap (λ e. place_in e (slice_get list i)) end ∙ ap (λ xs. place_in (length bytes) (slice_get xs i)) (same ∙ listed) ∙ places bytes new tokens i

    pub listed_none : HasNoTreeAt list i → ComesTo (Listed ts) (fault at 2)
    listed_none h = λ bytes old new n.
        subst (λ p. Reads bytes old new (fault p 2)) (sym (starts bytes new n.0 n.3 n.4))
        (none_comes bytes old new n.0 n.1 n.2 i (subst (λ xs. HasNoTreeAt xs i) (same ∙ n.3) h))

    pub listed_deep : IsFirstDeep list i → ComesTo (Listed ts) (fault at 4)
    listed_deep h = λ bytes old new n.
        let tokens : List Token = n.0 in
        let d : Token = record { kind = k.Ident; start = 0; end = 0 } in
        let deep : IsFirstDeep (terminals_of bytes new tokens) i = subst (λ xs. IsFirstDeep xs i) (same ∙ n.3) h in
        let there : slice_get tokens i ≡ Some (get_or tokens i d) = slice_get-get_or tokens i d (deep_below bytes new tokens i deep) in
        subst (λ p. Reads bytes old new (fault p 4)) (sym (starts bytes new tokens n.3 n.4 ∙ ap (start_of bytes) there))
        (deep_comes bytes old new tokens n.1 n.2 i (get_or tokens i d) deep there)
