-- References that are read, and the first that waits.
use Rattle.std.proofs.Common.{◌≡◌, Bool, true, false, ℕ, ◌+◌, ◌<◌, List, [], ◌∷◌, ◌++◌, Option, Some, None, map, take, get_or, length, refl, sym, ◌∙◌, subst, ap, arith}
use Rattle.std.proofs.lemmas.List.{length-append, length-map, get_or-append-add, take-append-le, get_or-map, take_more}
use Rattle.std.proofs.Math.ListN.{get_or-append}
use Rattle.std.proofs.Math.Seq.{take-append-add}
use Rattle.sg_base.specs.declared.scope.Scope.{Scope}
use Rattle.sg_query.specs.declared.answer.Answer.{Answer}
use Rattle.sg_query.specs.declared.query.Query.{Query}
use Rattle.sg_reading.specs.Reading.{Reading, done, Gives, Needs, and_then, each}
use Rattle.sg_reading.specs.declared.known.Known.{Known}
use Rattle.sg_reading.specs.declared.known.Known.TheVariants.{Is, Need}
use Rattle.sg_reading.specs.Stop.{Replied, IsKnown}
use Rattle.sg_reading.proofs.Readings.{replied_once, Gives-no_need}
use Rattle.sg_reading.proofs.Sequences.{and_then-gives, gives_in_turn}
use Rattle.jv_instance.specs.declared.datum.JavaDatum.{JavaDatum}
use Rattle.jv_instance.specs.declared.pred.JavaPred.{JavaPred}
use Rattle.jv_layout.specs.Folder.{LayoutOf}
use Rattle.jv_tree.specs.declared.name.Ident.{Ident}
use Rattle.jv_tree.specs.declared.name.Name.{Name}
use Rattle.jv_tree.specs.TypeTree.{ids_of}
use Rattle.jv_names.specs.declared.reference.Reference.{Reference}
use Rattle.jv_names.specs.Written.{start_of}
use Rattle.jv_header.specs.Circular.{IsOpenReference, AreRead, IsFirstOpen, IsOpenOrRead, IsOpenStart, is_missing}
use Rattle.jv_header.specs.Header.{header_reference, header_by, header_rule}

module _ {Q A X U : Type 0} (R : Q → A → Type 0) (f : X → Reading Q A U) where
  -- the rules for all things of a list have values
  abbrev pub HaveValues : List X → Type 0
  HaveValues xs = (vs : List U) × (qs : List Q) × Gives R (each f xs) vs qs

  pub one_has : (x : X) (v : U) (qs : List Q) → Gives R (f x) v qs → HaveValues (x ∷ [])
  one_has x v qs g = (v ∷ [], qs ++ [], and_then-gives R (f x) (λ v. and_then (done []) (λ vs. done (v ∷ vs))) v (v ∷ []) qs [] g (refl, refl))

  pub both_have : (xs ys : List X) → HaveValues xs → HaveValues ys → HaveValues (xs ++ ys)
  both_have [] ys g h = h
  both_have (x ∷ xs) ys g h =
      let first = (gives_in_turn R (f x) (λ v. and_then (each f xs) (λ vs. done (v ∷ vs))) g.0 g.1).0 g.2 in
      let more = (gives_in_turn R (each f xs) (λ vs. done (first.0 ∷ vs)) g.0 first.2).0 first.4 in
      let rest = both_have xs ys (more.0, more.1, more.3) h in (
        first.0 ∷ rest.0,
        first.1 ++ (rest.1 ++ []),
        and_then-gives R (f x) (λ v. and_then (each f (xs ++ ys)) (λ vs. done (v ∷ vs))) first.0 (first.0 ∷ rest.0) first.1 (rest.1 ++ []) first.3
            (and_then-gives R (each f (xs ++ ys)) (λ vs. done (first.0 ∷ vs)) rest.0 (first.0 ∷ rest.0) rest.1 [] rest.2 (refl, refl)),
      )

module _ (R : Query JavaPred → Answer JavaDatum → Type 0) (l : LayoutOf) (c : Scope) where
  -- one more reference of a clause is read
  pub read_more : (clause : List Name) (i : ℕ) (n : Name) (v : Reference) (qs : List (Query JavaPred)) → i < length clause → AreRead R l c (take i (map ids_of clause)) → Gives R (header_reference l c (ids_of (get_or clause i n))) v qs → AreRead R l c (take (i + 1) (map ids_of clause))
  read_more clause i n v qs h g k =
      let place : i < length (map ids_of clause) = subst (λ (m : ℕ). i < m) (sym (length-map clause ids_of)) h in
      let here : get_or (map ids_of clause) i [] ≡ ids_of (get_or clause i n) = get_or-map ids_of clause i n [] h in
      subst (λ (ns : List (List Ident)). AreRead R l c ns) (sym (take_more (map ids_of clause) i [] place ∙ ap (λ (m : List Ident). take i (map ids_of clause) ++ m ∷ []) here))
      (both_have R (header_reference l c) (take i (map ids_of clause)) (ids_of (get_or clause i n) ∷ []) g (one_has R (header_reference l c) (ids_of (get_or clause i n)) v qs k))

  -- the reference at a place of a clause is open
  pub open_here : (clause : List Name) (i : ℕ) (n : Name) (q : Query JavaPred) → i < length clause → AreRead R l c (take i (map ids_of clause)) → Needs R (header_reference l c (ids_of (get_or clause i n))) q → IsOpenReference R l c (map ids_of clause) i
  open_here clause i n q h g k = record {
    within = subst (λ (m : ℕ). i < m) (sym (length-map clause ids_of)) h;
    found = g.0;
    queries = g.1;
    before = g.2;
    query = q;
    needs = subst (λ (m : List Ident). Needs R (header_reference l c m) q) (sym (get_or-map ids_of clause i n [] h)) k;
  }

  -- an open reference of the first of two clauses is one of both
  pub open_first : (ns ms : List (List Ident)) (i : ℕ) → IsOpenReference R l c ns i → IsOpenReference R l c (ns ++ ms) i
  open_first ns ms i o = record {
    within = omega (arith, o.within, length-append ns ms);
    found = o.found;
    queries = o.queries;
    before = subst (λ (ks : List (List Ident)). Gives R (each (header_reference l c) ks) o.found o.queries) (sym (take-append-le i ns ms (omega (arith, o.within)))) o.before;
    query = o.query;
    needs = subst (λ (m : List Ident). Needs R (header_reference l c m) o.query) (sym (get_or-append ns ms [] i o.within)) o.needs;
  }

  -- where the first clause is read, an open reference of the second is one of both
  pub open_second : (ns ms : List (List Ident)) (i : ℕ) → AreRead R l c ns → IsOpenReference R l c ms i → IsOpenReference R l c (ns ++ ms) (length ns + i)
  open_second ns ms i g o =
      let before : AreRead R l c (take (length ns + i) (ns ++ ms)) =
      subst (λ (ks : List (List Ident)). AreRead R l c ks) (sym (take-append-add ns ms i)) (both_have R (header_reference l c) ns (take i ms) g (o.found, o.queries, o.before)) in
      record {
        within = omega (arith, o.within, length-append ns ms);
        found = before.0;
        queries = before.1;
        before = before.2;
        query = o.query;
        needs = subst (λ (m : List Ident). Needs R (header_reference l c m) o.query) (sym (get_or-append-add ns ms i [])) o.needs;
      }

  pub read_on : (clause : List Name) (i : ℕ) (n : Name) (b : Bool) → b ≡ false → i < length clause → AreRead R l c (take i (map ids_of clause)) → IsOpenOrRead R l c (ids_of (get_or clause i n)) b → AreRead R l c (take (i + 1) (map ids_of clause))
  read_on clause i n true e h g k = let z : true ≡ false = e in cc
  read_on clause i n false e h g k = read_more clause i n k.0 k.1 h g k.2

  pub all_read : (ns : List (List Ident)) (o : Option ℕ) → IsFirstOpen R l c ns o → ((i : ℕ) → o ≡ Some i → ⊥) → AreRead R l c ns
  all_read ns None g h = g
  all_read ns (Some i) g h = absurd (h i refl)

  pub open_at : (ns : List (List Ident)) (o : Option ℕ) (i : ℕ) → IsFirstOpen R l c ns o → o ≡ Some i → IsOpenReference R l c ns i
  open_at ns o i g e = subst (λ (p : Option ℕ). IsFirstOpen R l c ns p) e g

  -- where an open reference starts
  pub starts_first : (clause : List Name) (ms : List (List Ident)) (i : ℕ) (n : Name) (at : ℕ) → IsOpenReference R l c (map ids_of clause) i → at ≡ start_of (ids_of (get_or clause i n)) → IsOpenStart R l c (map ids_of clause ++ ms) at
  starts_first clause ms i n at o e = (
    i,
    open_first (map ids_of clause) ms i o,
    e ∙ ap start_of (sym (get_or-append (map ids_of clause) ms [] i o.within ∙ get_or-map ids_of clause i n [] (omega (arith, o.within, length-map clause ids_of)))),
  )

  pub starts_second : (ns : List (List Ident)) (clause : List Name) (i : ℕ) (n : Name) (at : ℕ) → AreRead R l c ns → IsOpenReference R l c (map ids_of clause) i → at ≡ start_of (ids_of (get_or clause i n)) → IsOpenStart R l c (ns ++ map ids_of clause) at
  starts_second ns clause i n at g o e = (
    length ns + i,
    open_second ns (map ids_of clause) i g o,
    e ∙ ap start_of (sym (get_or-append-add ns (map ids_of clause) i [] ∙ get_or-map ids_of clause i n [] (omega (arith, o.within, length-map clause ids_of)))),
  )

-- a header whose references are all read does not wait
pub none_waits : (reply : Query JavaPred → Option (Answer JavaDatum)) (l : LayoutOf) (names : List (List ℕ)) (c : Scope) (es is : List (List Ident)) (q : Query JavaPred) → AreRead (Replied reply) l c es → AreRead (Replied reply) l c is → Needs (Replied reply) (header_rule l names c es is) q → ⊥
none_waits reply l names c es is q g h n =
    let R : Query JavaPred → Answer JavaDatum → Type 0 = Replied reply in
    let f : List Ident → Reading (Query JavaPred) (Answer JavaDatum) Reference = header_reference l c in
    Gives-no_need R (replied_once reply) (header_rule l names c es is) (header_by l names c es is g.0 h.0) (g.1 ++ (h.1 ++ [])) q
    (and_then-gives R (each f es) (λ xs. and_then (each f is) (λ ys. done (header_by l names c es is xs ys))) g.0 (header_by l names c es is g.0 h.0) g.1 (h.1 ++ []) g.2
    (and_then-gives R (each f is) (λ ys. done (header_by l names c es is g.0 ys)) h.0 (header_by l names c es is g.0 h.0) h.1 [] h.2 (refl, refl))) n

-- what is known of a reference says whether it is open
pub known_open : (reply : Query JavaPred → Option (Answer JavaDatum)) (l : LayoutOf) (c : Scope) (ids : List Ident) (k : Known Reference (Query JavaPred)) → IsKnown reply (header_reference l c ids) k → IsOpenOrRead (Replied reply) l c ids (is_missing k)
known_open reply l c ids (Is v) h = (v, h.0, h.1)
known_open reply l c ids (Need q) h = (q, h)
