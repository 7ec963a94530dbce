-- The steps by which a function that reads a rule of names with `?` proves itself.
use Rattle.std.proofs.Common.{◌≡◌, ℕ, ◌+◌, ◌<◌, ◌≤◌, Bool, true, false, cond, List, [], ◌∷◌, ◌++◌, Option, Some, None, Result, Ok, Err, drop, get_or, length, refl, sym, subst}
use Rattle.std.proofs.lemmas.List.{at_drop_more, at_drop_all}
use Rattle.sg_base.specs.declared.scope.Scope.{Scope}
use Rattle.sg_query.specs.declared.answer.Answer.{Answer}
use Rattle.sg_query.specs.declared.query.Query.{Query}
use Rattle.sg_reading.specs.declared.stop.Stop.{Stop}
use Rattle.sg_reading.specs.declared.stop.Stop.TheVariants.{NoReply}
use Rattle.sg_reading.specs.Reading.{done, and_then}
use Rattle.sg_reading.specs.Stop.{Reads}
use Rattle.sg_reading.proofs.Steps.{ask_ok, ask_err, done_reads, then_ok, then_err, reading_steps}
use Rattle.jv_instance.specs.declared.datum.JavaDatum.{JavaDatum}
use Rattle.jv_instance.specs.declared.pred.JavaPred.{JavaPred}
use Rattle.jv_layout.specs.Folder.{LayoutOf}
use Rattle.jv_tree.specs.declared.name.Ident.{Ident}
use Rattle.jv_tree.specs.declared.names.NameId.{NameId}
use Rattle.jv_names.specs.declared.counts.Counts.{Counts}
use Rattle.jv_names.specs.declared.counts.Counts.TheVariants.{Supertypes}
use Rattle.jv_names.specs.declared.context.Context.{Context}
use Rattle.jv_names.specs.declared.ends.Ends.{Ends}
use Rattle.jv_names.specs.declared.kinds.TheConstants.{SUPERS}
use Rattle.jv_names.specs.declared.meaning.Meaning.{Meaning}
use Rattle.jv_names.specs.declared.meaning.Meaning.TheVariants.{One, Nothing, Ambiguous, TooMany}
use Rattle.jv_names.specs.declared.qualifier.Qualifier.{Qualifier}
use Rattle.jv_names.specs.declared.qualifier.Qualifier.TheVariants.{InPackage, InType}
use Rattle.jv_names.specs.declared.resolved.Resolved.{Resolved}
use Rattle.jv_names.specs.Ends.{answer_meaning, answer_ends, has_end}
use Rattle.jv_names.specs.Members.{find_ends}
use Rattle.jv_names.specs.Names.{look_up, or_next, on_one, ended, member_type, type_part, package_type, subpackage, further_parts}
use Rattle.jv_names.specs.Replies.{Rule, for_any}
use Rattle.jv_names.specs.TypeNames.{file_type, simple_type}
use Rattle.jv_names.specs.Access.{has_super, some_body, receiver_fits, body_fits}

abbrev Replies : Type 0
Replies = Query JavaPred → Option (Answer JavaDatum)

-- ---- one query

module _ (reply : Replies) (l : LayoutOf) where
  pub look_up_ok : (c : Counts) (q : Query JavaPred) (a : Answer JavaDatum) (m : Meaning) → reply q ≡ Some a → m ≡ answer_meaning l c a → Reads reply (look_up l c q) (Ok m)
  unfolding look_up
  look_up_ok c q a m e k = ask_ok reply q (λ a. done (answer_meaning l c a)) a (Ok m) e (done_reads reply (answer_meaning l c a) m (sym k))

  pub look_up_err : (c : Counts) (q : Query JavaPred) → reply q ≡ None → Reads {U = Meaning} reply (look_up l c q) (Err (NoReply q))
  unfolding look_up
  look_up_err c q e = ask_err reply q (λ a. done (answer_meaning l c a)) e

  pub find_ends_ok : (c : Counts) (q : Query JavaPred) (a : Answer JavaDatum) (m : Ends) → reply q ≡ Some a → m ≡ answer_ends l c a → Reads reply (find_ends l c q) (Ok m)
  unfolding find_ends
  find_ends_ok c q a m e k = ask_ok reply q (λ a. done (answer_ends l c a)) a (Ok m) e (done_reads reply (answer_ends l c a) m (sym k))

  pub find_ends_err : (c : Counts) (q : Query JavaPred) → reply q ≡ None → Reads {U = Ends} reply (find_ends l c q) (Err (NoReply q))
  unfolding find_ends
  find_ends_err c q e = ask_err reply q (λ a. done (answer_ends l c a)) e

  pub has_super_ok : (d b : Scope) (a : Answer JavaDatum) (v : Bool) → reply (for_any SUPERS b) ≡ Some a → v ≡ has_end l Supertypes d a → Reads reply (has_super l d b) (Ok v)
  unfolding has_super
  has_super_ok d b a v e k = ask_ok reply (for_any SUPERS b) (λ a. done (has_end l Supertypes d a)) a (Ok v) e (done_reads reply (has_end l Supertypes d a) v (sym k))

  pub has_super_err : (d b : Scope) → reply (for_any SUPERS b) ≡ None → Reads {U = Bool} reply (has_super l d b) (Err (NoReply (for_any SUPERS b)))
  unfolding has_super
  has_super_err d b e = ask_err reply (for_any SUPERS b) (λ a. done (has_end l Supertypes d a)) e

  module _ (m d : Scope) (through : Option Scope) (b : Scope) where
    pub body_below : (v : Bool) (x : Result Bool (Stop (Query JavaPred))) → Reads reply (has_super l d b) (Ok v) → v ≡ true → Reads reply (receiver_fits l m b through) x → Reads reply (body_fits l m d through b) x
    unfolding body_fits
    body_below v x g e h =
        then_ok reply (has_super l d b) (λ found. cond found (receiver_fits l m b through) (done false)) v x g (subst (λ (f : Bool). Reads reply (cond f (receiver_fits l m b through) (done false)) x) (sym e) h)

    pub body_apart : (v : Bool) → Reads reply (has_super l d b) (Ok v) → v ≡ false → Reads reply (body_fits l m d through b) (Ok false)
    unfolding body_fits
    body_apart v g e =
        then_ok reply (has_super l d b) (λ found. cond found (receiver_fits l m b through) (done false)) v (Ok false) g (subst (λ (f : Bool). Reads reply (cond f (receiver_fits l m b through) (done false)) (Ok false)) (sym e) (done_reads reply false false refl))

    pub body_unknown : (e : Stop (Query JavaPred)) → Reads {U = Bool} reply (has_super l d b) (Err e) → Reads {U = Bool} reply (body_fits l m d through b) (Err e)
    unfolding body_fits
    body_unknown e g = then_err reply (has_super l d b) (λ found. cond found (receiver_fits l m b through) (done false)) e g

-- ---- some body

module _ (reply : Replies) (f : Scope → Rule Bool) (bodies : List Scope) (i : ℕ) where
  module _ (b : Scope) (below : i < length bodies) where
    some_here : (x : Result Bool (Stop (Query JavaPred))) → Reads reply (and_then (f (get_or bodies i b)) (λ found. cond found (done true) (some_body f (drop (i + 1) bodies)))) x → Reads reply (some_body f (drop i bodies)) x
    some_here x h = subst (λ (r : Rule Bool). Reads reply r x) (sym (at_drop_more (λ (bs : List Scope). some_body f bs) bodies i b below)) h

    pub some_more : (v : Bool) (x : Result Bool (Stop (Query JavaPred))) → Reads reply (f (get_or bodies i b)) (Ok v) → v ≡ false → Reads reply (some_body f (drop (i + 1) bodies)) x → Reads reply (some_body f (drop i bodies)) x
    some_more v x g e h =
        some_here x (then_ok reply (f (get_or bodies i b)) (λ found. cond found (done true) (some_body f (drop (i + 1) bodies))) v x g (subst (λ (k : Bool). Reads reply (cond k (done true) (some_body f (drop (i + 1) bodies))) x) (sym e) h))

    pub some_found : (v : Bool) → Reads reply (f (get_or bodies i b)) (Ok v) → v ≡ true → Reads reply (some_body f (drop i bodies)) (Ok true)
    some_found v g e =
        some_here (Ok true) (then_ok reply (f (get_or bodies i b)) (λ found. cond found (done true) (some_body f (drop (i + 1) bodies))) v (Ok true) g (subst (λ (k : Bool). Reads reply (cond k (done true) (some_body f (drop (i + 1) bodies))) (Ok true)) (sym e) (done_reads reply true true refl)))

    pub some_err : (e : Stop (Query JavaPred)) → Reads {U = Bool} reply (f (get_or bodies i b)) (Err e) → Reads {U = Bool} reply (some_body f (drop i bodies)) (Err e)
    some_err e g = some_here (Err e) (then_err reply (f (get_or bodies i b)) (λ found. cond found (done true) (some_body f (drop (i + 1) bodies))) e g)

  pub some_end : length bodies ≤ i → Reads {U = Bool} reply (some_body f (drop i bodies)) (Ok false)
  some_end past = subst (λ (r : Rule Bool). Reads {U = Bool} reply r (Ok false)) (sym (at_drop_all (λ (bs : List Scope). some_body f bs) bodies i past)) (done_reads reply false false refl)

-- ---- what is not one scope ends the name

module _ (reply : Replies) where
  pub not_one : (m : Meaning) (types : List Scope) (found : Scope → Rule Resolved) → ((s : Scope) → m ≡ One s → ⊥) → Reads reply (on_one m types found (ended Nothing types)) (Ok (record { meaning = m; types = types }))
  not_one (One s) types found h = absurd (h s refl)
  not_one Nothing types found h = done_reads reply (record { meaning = Nothing; types = types }) (record { meaning = Nothing; types = types }) refl
  not_one Ambiguous types found h = done_reads reply (record { meaning = Ambiguous; types = types }) (record { meaning = Ambiguous; types = types }) refl
  not_one TooMany types found h = done_reads reply (record { meaning = TooMany; types = types }) (record { meaning = TooMany; types = types }) refl

  pub others : (m : Meaning) (types : List Scope) (found : Scope → Rule Resolved) (next : Rule Resolved) → ((s : Scope) → m ≡ One s → ⊥) → (m ≡ Nothing → ⊥) → Reads reply (on_one m types found next) (Ok (record { meaning = m; types = types }))
  others (One s) types found next h k = absurd (h s refl)
  others Nothing types found next h k = absurd (k refl)
  others Ambiguous types found next h k = done_reads reply (record { meaning = Ambiguous; types = types }) (record { meaning = Ambiguous; types = types }) refl
  others TooMany types found next h k = done_reads reply (record { meaning = TooMany; types = types }) (record { meaning = TooMany; types = types }) refl

  pub found_next : (m : Meaning) (next : Rule Meaning) → (m ≡ Nothing → ⊥) → Reads reply (or_next m next) (Ok m)
  found_next (One s) next h = done_reads reply (One s) (One s) refl
  found_next Nothing next h = absurd (h refl)
  found_next Ambiguous next h = done_reads reply Ambiguous Ambiguous refl
  found_next TooMany next h = done_reads reply TooMany TooMany refl

  pub nothing_next : (m : Meaning) (next : Rule Meaning) (x : Result Meaning (Stop (Query JavaPred))) → m ≡ Nothing → Reads reply next x → Reads reply (or_next m next) x
  nothing_next m next x e h = subst (λ (m : Meaning). Reads reply (or_next m next) x) (sym e) h

-- ---- simple names

module _ (reply : Replies) (l : LayoutOf) (file : ℕ) (bodies : List Scope) (n : NameId) (i : ℕ) where
  module _ (b : Scope) (below : i < length bodies) where
    pub body_more : (m : Meaning) (x : Result Meaning (Stop (Query JavaPred))) → Reads reply (member_type l (get_or bodies i b) n) (Ok m) → m ≡ Nothing → Reads reply (simple_type l file (drop (i + 1) bodies) n) x → Reads reply (simple_type l file (drop i bodies) n) x
    body_more m x g e h =
        subst (λ (r : Rule Meaning). Reads reply r x) (sym (at_drop_more (λ bs. simple_type l file bs n) bodies i b below))
        (then_ok reply (member_type l (get_or bodies i b) n) (λ m. or_next m (simple_type l file (drop (i + 1) bodies) n)) m x g (nothing_next reply m (simple_type l file (drop (i + 1) bodies) n) x e h))

    pub body_here : (m : Meaning) → Reads reply (member_type l (get_or bodies i b) n) (Ok m) → (m ≡ Nothing → ⊥) → Reads reply (simple_type l file (drop i bodies) n) (Ok m)
    body_here m g e =
        subst (λ (r : Rule Meaning). Reads reply r (Ok m)) (sym (at_drop_more (λ bs. simple_type l file bs n) bodies i b below))
        (then_ok reply (member_type l (get_or bodies i b) n) (λ m. or_next m (simple_type l file (drop (i + 1) bodies) n)) m (Ok m) g (found_next reply m (simple_type l file (drop (i + 1) bodies) n) e))

    pub body_err : (e : Stop (Query JavaPred)) → Reads {U = Meaning} reply (member_type l (get_or bodies i b) n) (Err e) → Reads {U = Meaning} reply (simple_type l file (drop i bodies) n) (Err e)
    body_err e g =
        subst (λ (r : Rule Meaning). Reads {U = Meaning} reply r (Err e)) (sym (at_drop_more (λ bs. simple_type l file bs n) bodies i b below))
        (then_err reply (member_type l (get_or bodies i b) n) (λ m. or_next m (simple_type l file (drop (i + 1) bodies) n)) e g)

  pub no_more_bodies : (x : Result Meaning (Stop (Query JavaPred))) → length bodies ≤ i → Reads reply (file_type l file n) x → Reads reply (simple_type l file (drop i bodies) n) x
  no_more_bodies x past h = subst (λ (r : Rule Meaning). Reads reply r x) (sym (at_drop_all (λ bs. simple_type l file bs n) bodies i past)) h

-- ---- further parts

module _ (reply : Replies) (l : LayoutOf) (context : Context) (at : Qualifier) (types : List Scope) (rest : List Ident) where
  module _ (n : Ident) (ns : List Ident) (split : rest ≡ n ∷ ns) where
    pub in_type : (t : Scope) (m : Meaning) (x : Result Resolved (Stop (Query JavaPred))) → at ≡ InType t → Reads reply (type_part l context t n.id) (Ok m)
        → Reads reply (on_one m types (λ s. further_parts l context (InType s) (types ++ s ∷ []) ns) (ended Nothing types)) x → Reads reply (further_parts l context at types rest) x
    in_type t m x here g h =
        subst (λ (ids : List Ident). Reads reply (further_parts l context at types ids) x) (sym split) (subst (λ (a : Qualifier). Reads reply (further_parts l context a types (n ∷ ns)) x) (sym here)
        (then_ok reply (type_part l context t n.id) (λ m. on_one m types (λ s. further_parts l context (InType s) (types ++ s ∷ []) ns) (ended Nothing types)) m x g h))

    pub in_type_err : (t : Scope) (e : Stop (Query JavaPred)) → at ≡ InType t → Reads {U = Meaning} reply (type_part l context t n.id) (Err e) → Reads {U = Resolved} reply (further_parts l context at types rest) (Err e)
    in_type_err t e here g =
        subst (λ (ids : List Ident). Reads {U = Resolved} reply (further_parts l context at types ids) (Err e)) (sym split) (subst (λ (a : Qualifier). Reads {U = Resolved} reply (further_parts l context a types (n ∷ ns)) (Err e)) (sym here)
        (then_err reply (type_part l context t n.id) (λ m. on_one m types (λ s. further_parts l context (InType s) (types ++ s ∷ []) ns) (ended Nothing types)) e g))

    pub in_package : (p : Scope) (m : Meaning) (x : Result Resolved (Stop (Query JavaPred))) → at ≡ InPackage p → Reads reply (package_type l p n.id) (Ok m)
        → Reads reply (on_one m types (λ s. further_parts l context (InType s) (types ++ s ∷ []) ns) (and_then (subpackage l p n.id) (λ k. on_one k types (λ q. further_parts l context (InPackage q) types ns) (ended Nothing types)))) x
        → Reads reply (further_parts l context at types rest) x
    in_package p m x here g h =
        subst (λ (ids : List Ident). Reads reply (further_parts l context at types ids) x) (sym split) (subst (λ (a : Qualifier). Reads reply (further_parts l context a types (n ∷ ns)) x) (sym here)
        (then_ok reply (package_type l p n.id) (λ m. on_one m types (λ s. further_parts l context (InType s) (types ++ s ∷ []) ns) (and_then (subpackage l p n.id) (λ k. on_one k types (λ q. further_parts l context (InPackage q) types ns) (ended Nothing types)))) m x g h))

    pub in_package_err : (p : Scope) (e : Stop (Query JavaPred)) → at ≡ InPackage p → Reads {U = Meaning} reply (package_type l p n.id) (Err e) → Reads {U = Resolved} reply (further_parts l context at types rest) (Err e)
    in_package_err p e here g =
        subst (λ (ids : List Ident). Reads {U = Resolved} reply (further_parts l context at types ids) (Err e)) (sym split) (subst (λ (a : Qualifier). Reads {U = Resolved} reply (further_parts l context a types (n ∷ ns)) (Err e)) (sym here)
        (then_err reply (package_type l p n.id) (λ m. on_one m types (λ s. further_parts l context (InType s) (types ++ s ∷ []) ns) (and_then (subpackage l p n.id) (λ k. on_one k types (λ q. further_parts l context (InPackage q) types ns) (ended Nothing types)))) e g))

pub ruleset name_steps = (reading_steps, look_up_ok, look_up_err, find_ends_ok, find_ends_err, has_super_ok, has_super_err, body_below, body_apart, body_unknown, some_more, some_found, some_err, some_end, not_one, others, body_more, body_here, body_err, no_more_bodies)
