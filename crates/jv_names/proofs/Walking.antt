-- The steps of a loop over the parts of a name.
use Rattle.std.proofs.Common.{◌≡◌, ℕ, ◌+◌, ◌<◌, ◌≤◌, List, [], ◌∷◌, ◌++◌, Option, Result, Ok, Err, MatchResult, drop, get_or, length, refl, sym, ap, subst}
use Rattle.std.specs.Result.{IsErrAnd}
use Rattle.std.proofs.lemmas.List.{at_drop_more, at_drop_all}
use Rattle.sg_base.specs.declared.scope.Scope.{Scope}
use Rattle.sg_query.specs.declared.answer.Answer.{Answer}
use Rattle.sg_query.specs.declared.query.Query.{Query}
use Rattle.sg_reading.specs.declared.stop.Stop.{Stop}
use Rattle.sg_reading.specs.Reading.{and_then}
use Rattle.sg_reading.specs.Stop.{Reads}
use Rattle.sg_reading.proofs.Steps.{then_ok, then_err, done_reads}
use Rattle.jv_instance.specs.declared.datum.JavaDatum.{JavaDatum}
use Rattle.jv_instance.specs.declared.pred.JavaPred.{JavaPred}
use Rattle.jv_layout.specs.Folder.{LayoutOf}
use Rattle.jv_tree.specs.declared.name.Ident.{Ident}
use Rattle.jv_names.specs.declared.context.Context.{Context}
use Rattle.jv_names.specs.declared.meaning.Meaning.{Meaning}
use Rattle.jv_names.specs.declared.meaning.Meaning.TheVariants.{One, Nothing, Ambiguous, TooMany}
use Rattle.jv_names.specs.declared.part.Part.{Part}
use Rattle.jv_names.specs.declared.part.Part.TheVariants.{FoundType, FoundPackage, Ends}
use Rattle.jv_names.specs.declared.qualifier.Qualifier.{Qualifier}
use Rattle.jv_names.specs.declared.qualifier.Qualifier.TheVariants.{InPackage, InType}
use Rattle.jv_names.specs.declared.resolved.Resolved.{Resolved}
use Rattle.jv_names.specs.Names.{on_one, ended, type_part, package_type, subpackage, further_parts, last_meaning}
use Rattle.jv_names.specs.Parts.{behind, ReadsThrough, StopsThere}
use Rattle.jv_names.specs.Replies.{Rule}
use Rattle.jv_names.proofs.Steps.{in_type, in_type_err, in_package, in_package_err}

module _ (reply : Query JavaPred → Option (Answer JavaDatum)) where
  ends_one : (m : Meaning) (types : List Scope) (found : Scope → Rule Resolved) (x : Result Resolved (Stop (Query JavaPred))) → ((s : Scope) → m ≡ One s → ⊥) → Reads reply (ended m types) x → Reads reply (on_one m types found (ended Nothing types)) x
  ends_one (One s) types found x apart h = absurd (apart s refl)
  ends_one Nothing types found x apart h = h
  ends_one Ambiguous types found x apart h = h
  ends_one TooMany types found x apart h = h

  ends_other : (m : Meaning) (types : List Scope) (found : Scope → Rule Resolved) (next : Rule Resolved) (x : Result Resolved (Stop (Query JavaPred))) → ((s : Scope) → m ≡ One s → ⊥) → (m ≡ Nothing → ⊥) → Reads reply (ended m types) x → Reads reply (on_one m types found next) x
  ends_other (One s) types found next x apart none h = absurd (apart s refl)
  ends_other Nothing types found next x apart none h = absurd (none refl)
  ends_other Ambiguous types found next x apart none h = h
  ends_other TooMany types found next x apart none h = h

  module _ (l : LayoutOf) (context : Context) (at : Qualifier) (n : Ident) where
    -- ---- behind a type

    pub type_goes_on : (t s : Scope) (m : Meaning) → at ≡ InType t → Reads reply (type_part l context t n.id) (Ok m) → m ≡ One s → ReadsThrough reply l context at n (FoundType s)
    unfolding ReadsThrough
    type_goes_on t s m here g e = λ types ns x h.
        in_type reply l context at types (n ∷ ns) n ns refl t m x here g (subst (λ (k : Meaning). Reads reply (on_one k types (λ s. further_parts l context (InType s) (types ++ s ∷ []) ns) (ended Nothing types)) x) (sym e) h)

    pub type_ends : (t : Scope) (m : Meaning) → at ≡ InType t → Reads reply (type_part l context t n.id) (Ok m) → ((s : Scope) → m ≡ One s → ⊥) → ReadsThrough reply l context at n (Ends m)
    unfolding ReadsThrough
    type_ends t m here g apart = λ types ns x h.
        in_type reply l context at types (n ∷ ns) n ns refl t m x here g (ends_one m types (λ s. further_parts l context (InType s) (types ++ s ∷ []) ns) x apart h)

    pub type_stops : (t : Scope) (e : Stop (Query JavaPred)) → at ≡ InType t → Reads {U = Meaning} reply (type_part l context t n.id) (Err e) → StopsThere reply l context at n e
    unfolding StopsThere
    type_stops t e here g = λ types ns. in_type_err reply l context at types (n ∷ ns) n ns refl t e here g

    -- ---- behind a package

    module _ (p : Scope) (m : Meaning) (here : at ≡ InPackage p) (g : Reads reply (package_type l p n.id) (Ok m)) where
      pub package_goes_on : (s : Scope) → m ≡ One s → ReadsThrough reply l context at n (FoundType s)
      unfolding ReadsThrough
      package_goes_on s e = λ types ns x h.
          in_package reply l context at types (n ∷ ns) n ns refl p m x here g (subst (λ (k : Meaning). Reads reply (on_one k types (λ s. further_parts l context (InType s) (types ++ s ∷ []) ns) (and_then (subpackage l p n.id) (λ k. on_one k types (λ q. further_parts l context (InPackage q) types ns) (ended Nothing types)))) x) (sym e) h)

      pub package_ends : ((s : Scope) → m ≡ One s → ⊥) → (m ≡ Nothing → ⊥) → ReadsThrough reply l context at n (Ends m)
      unfolding ReadsThrough
      package_ends apart none = λ types ns x h.
          in_package reply l context at types (n ∷ ns) n ns refl p m x here g (ends_other m types (λ s. further_parts l context (InType s) (types ++ s ∷ []) ns) (and_then (subpackage l p n.id) (λ k. on_one k types (λ q. further_parts l context (InPackage q) types ns) (ended Nothing types))) x apart none h)

      module _ (none : m ≡ Nothing) where
        on_subpackage : (types : List Scope) (ns : List Ident) (x : Result Resolved (Stop (Query JavaPred))) → Reads reply (and_then (subpackage l p n.id) (λ k. on_one k types (λ q. further_parts l context (InPackage q) types ns) (ended Nothing types))) x → Reads reply (further_parts l context at types (n ∷ ns)) x
        on_subpackage types ns x h =
            in_package reply l context at types (n ∷ ns) n ns refl p m x here g (subst (λ (k : Meaning). Reads reply (on_one k types (λ s. further_parts l context (InType s) (types ++ s ∷ []) ns) (and_then (subpackage l p n.id) (λ k. on_one k types (λ q. further_parts l context (InPackage q) types ns) (ended Nothing types)))) x) (sym none) h)

        pub subpackage_goes_on : (q : Scope) (k : Meaning) → Reads reply (subpackage l p n.id) (Ok k) → k ≡ One q → ReadsThrough reply l context at n (FoundPackage q)
        unfolding ReadsThrough
        subpackage_goes_on q k gk e = λ types ns x h.
            on_subpackage types ns x (then_ok reply (subpackage l p n.id) (λ k. on_one k types (λ q. further_parts l context (InPackage q) types ns) (ended Nothing types)) k x gk (subst (λ (k : Meaning). Reads reply (on_one k types (λ q. further_parts l context (InPackage q) types ns) (ended Nothing types)) x) (sym e) h))

        pub subpackage_ends : (k : Meaning) → Reads reply (subpackage l p n.id) (Ok k) → ((s : Scope) → k ≡ One s → ⊥) → ReadsThrough reply l context at n (Ends k)
        unfolding ReadsThrough
        subpackage_ends k gk apart = λ types ns x h.
            on_subpackage types ns x (then_ok reply (subpackage l p n.id) (λ k. on_one k types (λ q. further_parts l context (InPackage q) types ns) (ended Nothing types)) k x gk (ends_one k types (λ q. further_parts l context (InPackage q) types ns) x apart h))

        pub subpackage_stops : (e : Stop (Query JavaPred)) → Reads {U = Meaning} reply (subpackage l p n.id) (Err e) → StopsThere reply l context at n e
        unfolding StopsThere
        subpackage_stops e ge = λ types ns.
            on_subpackage types ns (Err e) (then_err reply (subpackage l p n.id) (λ k. on_one k types (λ q. further_parts l context (InPackage q) types ns) (ended Nothing types)) e ge)

    pub package_stops : (p : Scope) (e : Stop (Query JavaPred)) → at ≡ InPackage p → Reads {U = Meaning} reply (package_type l p n.id) (Err e) → StopsThere reply l context at n e
    unfolding StopsThere
    package_stops p e here g = λ types ns. in_package_err reply l context at types (n ∷ ns) n ns refl p e here g

    -- the exit of a `?`
    pub part_stops : (e : Stop (Query JavaPred)) (r : Result Part (Stop (Query JavaPred))) → IsErrAnd r (λ y. y ≡ e) → StopsThere reply l context at n e → MatchResult r (λ found. ReadsThrough reply l context at n found) (λ stop. StopsThere reply l context at n stop)
    part_stops e (Ok v) k h = absurd k
    part_stops e (Err y) k h = subst (λ (z : Stop (Query JavaPred)). StopsThere reply l context at n z) (sym k) h

-- ---- the loop

module _ (reply : Query JavaPred → Option (Answer JavaDatum)) (l : LayoutOf) (context : Context) (at : Qualifier) (types : List Scope) (rest : List Ident) (i : ℕ) where
  module _ (n : Ident) (below : i < length rest) where
    -- what the name comes to from the part on, it comes to from its place on
    from_place : (x : Result Resolved (Stop (Query JavaPred))) → Reads reply (further_parts l context at types (get_or rest i n ∷ drop (i + 1) rest)) x → Reads reply (further_parts l context at types (drop i rest)) x
    from_place x h = subst (λ (r : Rule Resolved). Reads reply r x) (sym (at_drop_more (λ ns. further_parts l context at types ns) rest i n below)) h

    pub goes_through : (found : Part) → ReadsThrough reply l context at (get_or rest i n) found → (x : Result Resolved (Stop (Query JavaPred))) → Reads reply (behind l context found types (drop (i + 1) rest)) x → Reads reply (further_parts l context at types (drop i rest)) x
    unfolding ReadsThrough
    goes_through found through x h = from_place x (through types (drop (i + 1) rest) x h)

    pub stops_here : (e : Stop (Query JavaPred)) → StopsThere reply l context at (get_or rest i n) e → Reads {U = Resolved} reply (further_parts l context at types (drop i rest)) (Err e)
    unfolding StopsThere
    stops_here e there = from_place (Err e) (there types (drop (i + 1) rest))

  pub no_more_parts : (m : Meaning) → length rest ≤ i → m ≡ last_meaning context at → Reads reply (further_parts l context at types (drop i rest)) (Ok (record { meaning = m; types = types }))
  no_more_parts m past e =
      subst (λ (r : Rule Resolved). Reads reply r (Ok (record { meaning = m; types = types }))) (sym (at_drop_all (λ ns. further_parts l context at types ns) rest i past))
      (done_reads reply (record { meaning = last_meaning context at; types = types }) (record { meaning = m; types = types }) (ap (λ (k : Meaning). record { meaning = k; types = types }) (sym e)))

pub ruleset part_steps = (type_goes_on, type_ends, type_stops, package_goes_on, package_ends, package_stops, subpackage_goes_on, subpackage_ends, subpackage_stops, part_stops)
