-- The steps by which the members that static imports bring are found.
use Rattle.std.proofs.Common.{◌≡◌, ℕ, ◌+◌, ◌<◌, ◌≤◌, Bool, true, false, cond, List, [], ◌∷◌, Option, Result, Ok, Err, drop, get_or, length, map, refl, sym, ap, ◌∙◌, subst}
use Rattle.std.proofs.lemmas.List.{at_drop_more, at_drop_all}
use Rattle.sg_base.specs.declared.scope.Scope.{Scope}
use Rattle.sg_query.specs.declared.answer.Answer.{Answer}
use Rattle.sg_query.specs.declared.query.Query.{Query}
use Rattle.sg_reading.specs.declared.stop.Stop.{Stop}
use Rattle.sg_reading.specs.Reading.{done, and_then}
use Rattle.sg_reading.specs.Stop.{Reads}
use Rattle.sg_reading.proofs.Steps.{done_reads, then_ok, then_err, reading_steps}
use Rattle.jv_instance.specs.declared.datum.JavaDatum.{JavaDatum}
use Rattle.jv_instance.specs.declared.pred.JavaPred.{JavaPred}
use Rattle.jv_layout.specs.Folder.{LayoutOf}
use Rattle.jv_layout.specs.Readers.{statics_of}
use Rattle.jv_tree.specs.declared.declaration.Import.{Import}
use Rattle.jv_tree.specs.declared.names.NameId.{NameId}
use Rattle.jv_tree.specs.DeclTree.{ImportTree, import_tree}
use Rattle.jv_names.specs.declared.ends.Ends.{Ends}
use Rattle.jv_names.specs.declared.ends.Ends.TheVariants.{Scopes, TooMany}
use Rattle.jv_names.specs.declared.meaning.Meaning.{Meaning}
use Rattle.jv_names.specs.declared.meaning.Meaning.TheVariants.{One, Nothing, Ambiguous, TooMany as TooManyTypes}
use Rattle.jv_names.specs.declared.resolved.Resolved.{Resolved}
use Rattle.jv_names.specs.declared.static_kind.StaticKind.{StaticKind}
use Rattle.jv_names.specs.declared.static_kind.StaticKind.TheVariants.{Types, Fields, Methods}
use Rattle.jv_names.specs.Names.{import_rule}
use Rattle.jv_names.specs.Replies.{Rule}
use Rattle.jv_names.specs.Statics.{brought_by, brought_from, brought_of, import_brings, is_asked, kind_brought, kind_members, static_members, statics_of_type, together}

abbrev Replies : Type 0
Replies = Query JavaPred → Option (Answer JavaDatum)

-- a query without a reply, or want of memory
abbrev pub Need : Type 0
Need = Stop (Query JavaPred)

module _ (reply : Replies) (l : LayoutOf) (file : ℕ) where
  -- ---- one type

  module _ (k : StaticKind) (t : Scope) (n : NameId) where
    pub brought_ok : (e v : Ends) → Reads reply (kind_members l k t n) (Ok e) → v ≡ brought_of l file e → Reads reply (kind_brought l file k t n) (Ok v)
    unfolding kind_brought
    brought_ok e v g h = then_ok reply (kind_members l k t n) (λ e. done (brought_of l file e)) e (Ok v) g (done_reads reply (brought_of l file e) v (sym h))

    pub brought_err : (e : Need) → Reads {U = Ends} reply (kind_members l k t n) (Err e) → Reads {U = Ends} reply (kind_brought l file k t n) (Err e)
    unfolding kind_brought
    brought_err e g = then_err reply (kind_members l k t n) (λ e. done (brought_of l file e)) e g

  module _ (t : Scope) (n : NameId) where
    -- what follows the types
    abbrev behind_types : Ends → Rule Ends
    behind_types a = and_then (kind_brought l file Fields t n) (λ b. and_then (kind_brought l file Methods t n) (λ c. done (together (together a b) c)))

    -- what follows the fields
    abbrev behind_fields : Ends → Ends → Rule Ends
    behind_fields a b = and_then (kind_brought l file Methods t n) (λ c. done (together (together a b) c))

    pub kinds_ok : (a b c ab v : Ends) → Reads reply (kind_brought l file Types t n) (Ok a) → Reads reply (kind_brought l file Fields t n) (Ok b) → Reads reply (kind_brought l file Methods t n) (Ok c)
        → ab ≡ together a b → v ≡ together ab c → Reads reply (statics_of_type l file t n) (Ok v)
    unfolding statics_of_type
    kinds_ok a b c ab v x y z e h =
        then_ok reply (kind_brought l file Types t n) behind_types a (Ok v) x (then_ok reply (kind_brought l file Fields t n) (behind_fields a) b (Ok v) y
        (then_ok reply (kind_brought l file Methods t n) (λ c. done (together (together a b) c)) c (Ok v) z
        (done_reads reply (together (together a b) c) v (sym (h ∙ ap (λ (w : Ends). together w c) e)))))

    pub types_err : (e : Need) → Reads {U = Ends} reply (kind_brought l file Types t n) (Err e) → Reads {U = Ends} reply (statics_of_type l file t n) (Err e)
    unfolding statics_of_type
    types_err e g = then_err reply (kind_brought l file Types t n) behind_types e g

    pub fields_err : (a : Ends) (e : Need) → Reads reply (kind_brought l file Types t n) (Ok a) → Reads {U = Ends} reply (kind_brought l file Fields t n) (Err e) → Reads {U = Ends} reply (statics_of_type l file t n) (Err e)
    unfolding statics_of_type
    fields_err a e x g = then_ok reply (kind_brought l file Types t n) behind_types a (Err e) x (then_err reply (kind_brought l file Fields t n) (behind_fields a) e g)

    pub methods_err : (a b : Ends) (e : Need) → Reads reply (kind_brought l file Types t n) (Ok a) → Reads reply (kind_brought l file Fields t n) (Ok b) → Reads {U = Ends} reply (kind_brought l file Methods t n) (Err e)
        → Reads {U = Ends} reply (statics_of_type l file t n) (Err e)
    unfolding statics_of_type
    methods_err a b e x y g =
        then_ok reply (kind_brought l file Types t n) behind_types a (Err e) x (then_ok reply (kind_brought l file Fields t n) (behind_fields a) b (Err e) y
        (then_err reply (kind_brought l file Methods t n) (λ c. done (together (together a b) c)) e g))

  -- ---- one import

  module _ (k : StaticKind) (n : NameId) where
    pub meant_one : (m : Meaning) (t : Scope) (x : Result Ends Need) → m ≡ One t → Reads reply (kind_brought l file k t n) x → Reads reply (brought_by l file k n m) x
    meant_one m t x e h = subst (λ (m : Meaning). Reads reply (brought_by l file k n m) x) (sym e) h

    pub meant_nothing : (m : Meaning) (ss : List Scope) → m ≡ Nothing → ss ≡ [] → Reads reply (brought_by l file k n m) (Ok (Scopes ss))
    meant_nothing m ss e h =
        subst (λ (m : Meaning). Reads reply (brought_by l file k n m) (Ok (Scopes ss))) (sym e) (done_reads reply (Scopes []) (Scopes ss) (ap (λ (ss : List Scope). Scopes ss) (sym h)))

    pub meant_ambiguous : (m : Meaning) (ss : List Scope) → m ≡ Ambiguous → ss ≡ [] → Reads reply (brought_by l file k n m) (Ok (Scopes ss))
    meant_ambiguous m ss e h =
        subst (λ (m : Meaning). Reads reply (brought_by l file k n m) (Ok (Scopes ss))) (sym e) (done_reads reply (Scopes []) (Scopes ss) (ap (λ (ss : List Scope). Scopes ss) (sym h)))

    pub meant_too_many : (m : Meaning) → m ≡ TooManyTypes → Reads reply (brought_by l file k n m) (Ok TooMany)
    meant_too_many m e = subst (λ (m : Meaning). Reads reply (brought_by l file k n m) (Ok TooMany)) (sym e) (done_reads reply TooMany TooMany refl)

    pub import_ok : (i : ImportTree) (r : Resolved) (x : Result Ends Need) → Reads reply (import_rule l i) (Ok r) → Reads reply (brought_by l file k n r.meaning) x → Reads reply (import_brings l file k n i) x
    unfolding import_brings
    import_ok i r x g h = then_ok reply (import_rule l i) (λ r. brought_by l file k n r.meaning) r x g h

    pub import_err : (i : ImportTree) (e : Need) → Reads {U = Resolved} reply (import_rule l i) (Err e) → Reads {U = Ends} reply (import_brings l file k n i) (Err e)
    unfolding import_brings
    import_err i e g = then_err reply (import_rule l i) (λ r. brought_by l file k n r.meaning) e g

  -- ---- the imports of a file

  module _ (all : Bool) (k : StaticKind) (n : NameId) where
    -- what the rest of the imports bring, behind what was found
    abbrev rest_of : Ends → List Import → Rule Ends
    rest_of found is = brought_from l file all k n found (map import_tree is)

    pub statics_from : (imports : List Import) (ss : List Scope) (x : Result Ends Need) → map import_tree imports ≡ statics_of l file → ss ≡ []
        → Reads reply (brought_from l file all k n (Scopes ss) (map import_tree imports)) x → Reads reply (static_members l file all k n) x
    unfolding static_members
    statics_from imports ss x e none h =
        subst (λ (is : List ImportTree). Reads reply (brought_from l file all k n (Scopes []) is) x) e
        (subst (λ (ss : List Scope). Reads reply (brought_from l file all k n (Scopes ss) (map import_tree imports)) x) none h)

    module _ (found : Ends) (imports : List Import) (i : ℕ) where
      pub all_brought : length imports ≤ i → Reads reply (brought_from l file all k n found (map import_tree (drop i imports))) (Ok found)
      all_brought past = subst (λ (r : Rule Ends). Reads reply r (Ok found)) (sym (at_drop_all (rest_of found) imports i past)) (done_reads reply found found refl)

      module _ (d : Import) (below : i < length imports) (here : d ≡ get_or imports i d) where
        -- by whether the import is asked
        abbrev by_import : Bool → Rule Ends
        by_import b = cond b (and_then (import_brings l file k n (import_tree d)) (λ e. rest_of (together found e) (drop (i + 1) imports))) (rest_of found (drop (i + 1) imports))

        at_import : rest_of found (drop i imports) ≡ by_import (is_asked all n (import_tree d))
        at_import = at_drop_more (rest_of found) imports i d below ∙ ap (λ (j : Import). rest_of found (j ∷ drop (i + 1) imports)) (sym here)

        from_import : (b : Bool) (x : Result Ends Need) → b ≡ is_asked all n (import_tree d) → Reads reply (by_import b) x → Reads reply (rest_of found (drop i imports)) x
        from_import b x is h = subst (λ (r : Rule Ends). Reads reply r x) (sym (at_import ∙ ap by_import (sym is))) h

        pub brings_more : (b : Bool) (e next : Ends) (x : Result Ends Need) → b ≡ is_asked all n (import_tree d) → b ≡ true → Reads reply (import_brings l file k n (import_tree d)) (Ok e) → next ≡ together found e
            → Reads reply (brought_from l file all k n next (map import_tree (drop (i + 1) imports))) x → Reads reply (brought_from l file all k n found (map import_tree (drop i imports))) x
        brings_more b e next x is asked g same h =
            from_import b x is (subst (λ (b : Bool). Reads reply (by_import b) x) (sym asked)
            (then_ok reply (import_brings l file k n (import_tree d)) (λ e. rest_of (together found e) (drop (i + 1) imports)) e x g (subst (λ (f : Ends). Reads reply (rest_of f (drop (i + 1) imports)) x) same h)))

        pub brings_unknown : (b : Bool) (e : Need) → b ≡ is_asked all n (import_tree d) → b ≡ true → Reads {U = Ends} reply (import_brings l file k n (import_tree d)) (Err e)
            → Reads {U = Ends} reply (brought_from l file all k n found (map import_tree (drop i imports))) (Err e)
        brings_unknown b e is asked g =
            from_import b (Err e) is (subst (λ (b : Bool). Reads {U = Ends} reply (by_import b) (Err e)) (sym asked)
            (then_err reply (import_brings l file k n (import_tree d)) (λ e. rest_of (together found e) (drop (i + 1) imports)) e g))

        pub brings_none : (b : Bool) (x : Result Ends Need) → b ≡ is_asked all n (import_tree d) → b ≡ false
            → Reads reply (brought_from l file all k n found (map import_tree (drop (i + 1) imports))) x → Reads reply (brought_from l file all k n found (map import_tree (drop i imports))) x
        brings_none b x is passed h = from_import b x is (subst (λ (b : Bool). Reads reply (by_import b) x) (sym passed) h)

pub ruleset static_steps = (reading_steps, brought_ok, brought_err, kinds_ok, types_err, fields_err, methods_err, meant_one, meant_nothing, meant_ambiguous, meant_too_many, import_ok, import_err, statics_from, all_brought, brings_more, brings_unknown, brings_none)
