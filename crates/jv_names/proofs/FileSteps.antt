-- The steps by which a type is found that a file sees.
use Rattle.std.proofs.Common.{◌≡◌, ℕ, true, false, List, [], ◌∷◌, ◌++◌, Option, Some, None, Result, Ok, Err, refl, sym, ◌∙◌, subst}
use Rattle.sg_base.specs.declared.scope.Scope.{Scope}
use Rattle.sg_query.specs.declared.answer.Answer.{Answer}
use Rattle.sg_query.specs.declared.answer.Answer.TheVariants.{Paths, TooMany as TooManyPaths}
use Rattle.sg_query.specs.declared.found.Found.{Found}
use Rattle.sg_query.specs.declared.query.Query.{Query}
use Rattle.sg_reading.specs.declared.stop.Stop.{Stop}
use Rattle.sg_reading.specs.declared.stop.Stop.TheVariants.{NoReply}
use Rattle.sg_reading.specs.Reading.{done}
use Rattle.sg_reading.specs.Stop.{Reads}
use Rattle.sg_reading.proofs.Steps.{ask_ok, ask_err, done_reads, then_ok, then_err, reading_steps}
use Rattle.jv_instance.specs.declared.datum.JavaDatum.{JavaDatum}
use Rattle.jv_instance.specs.declared.labels.TheConstants.{SIMP, PKGOF, ODI}
use Rattle.jv_instance.specs.declared.pred.JavaPred.{JavaPred}
use Rattle.jv_layout.specs.Folder.{LayoutOf}
use Rattle.jv_layout.specs.Scopes.{file_scope}
use Rattle.jv_tree.specs.declared.names.NameId.{NameId}
use Rattle.jv_names.specs.declared.ends.Ends.{Ends}
use Rattle.jv_names.specs.declared.ends.Ends.TheVariants.{Scopes, TooMany}
use Rattle.jv_names.specs.declared.kinds.TheConstants.{FILETYPE}
use Rattle.jv_names.specs.declared.meaning.Meaning.{Meaning}
use Rattle.jv_names.specs.declared.meaning.Meaning.TheVariants.{Nothing, TooMany as TooManyTypes}
use Rattle.jv_names.specs.declared.static_kind.StaticKind.TheVariants.{Types}
use Rattle.jv_names.specs.Decided.{decided, decided_with}
use Rattle.jv_names.specs.Ends.{meaning_of}
use Rattle.jv_names.specs.Replies.{Rule, for_name}
use Rattle.jv_names.specs.Statics.{static_members}
use Rattle.jv_names.specs.TypeNames.{decided_or, ends_by, file_answer, file_type, on_demand_type, single_type, with_statics}

abbrev Replies : Type 0
Replies = Query JavaPred → Option (Answer JavaDatum)

-- a query without a reply, or want of memory
abbrev Need : Type 0
Need = Stop (Query JavaPred)

-- what decides is the meaning, and where nothing does, there is none
meant_some : (es : List Scope) (m : Meaning) → decided es ≡ Some m → meaning_of es ≡ m
meant_some [] m e = absurd (cc)
meant_some (x ∷ xs) m e = cc (e)

meant_none : (es : List Scope) → decided es ≡ None → meaning_of es ≡ Nothing
meant_none [] e = refl
meant_none (x ∷ xs) e = absurd (cc)

module _ (reply : Replies) where
  -- ---- ends that decide

  pub by_ends : (es : List Scope) (next : Rule Meaning) (o : Option Meaning) (m : Meaning) → o ≡ decided es → o ≡ Some m → Reads reply (decided_or es next) (Ok m)
  by_ends [] next o m e k = let none : None ≡ Some m = sym e ∙ k in absurd (cc)
  by_ends (x ∷ xs) next o m e k = done_reads reply (meaning_of (x ∷ xs)) m (meant_some (x ∷ xs) m (sym e ∙ k))

  pub no_ends : (es : List Scope) (next : Rule Meaning) (o : Option Meaning) (x : Result Meaning Need) → o ≡ decided es → o ≡ None → Reads reply next x → Reads reply (decided_or es next) x
  no_ends [] next o x e k h = h
  no_ends (y ∷ ys) next o x e k h = let some : Some (meaning_of (y ∷ ys)) ≡ None = sym e ∙ k in absurd (cc)

  -- ---- with static types

  with_known : (es : List Scope) (e : Ends) (f : List Scope → Rule Meaning) (m : Meaning) → decided_with es e ≡ Some m → ((ss : List Scope) → decided ss ≡ Some m → Reads reply (f ss) (Ok m)) → Reads reply (with_statics es e f) (Ok m)
  with_known es TooMany f m k h = let same : TooManyTypes ≡ m = cc (k) in done_reads reply TooManyTypes m same
  with_known es (Scopes ss) f m k h = h (ss ++ es) k

  with_open : (es : List Scope) (e : Ends) (f : List Scope → Rule Meaning) (x : Result Meaning Need) → decided_with es e ≡ None → ((ss : List Scope) → decided ss ≡ None → Reads reply (f ss) x) → Reads reply (with_statics es e f) x
  with_open es TooMany f x k h = absurd (cc)
  with_open es (Scopes ss) f x k h = h (ss ++ es) k

  module _ (l : LayoutOf) (file : ℕ) (n : NameId) (fs : List (Found JavaDatum)) where
    -- what follows the static types on demand
    abbrev by_demand : Ends → Rule Meaning
    by_demand e = with_statics (ends_by l ODI fs) e (λ ss. done (meaning_of ss))

    -- the package's types, and else those on demand
    abbrev behind_singles : Rule Meaning
    behind_singles = decided_or (ends_by l PKGOF fs) (on_demand_type l file n fs)

    -- what follows the static types of single imports
    abbrev by_single : Ends → Rule Meaning
    by_single e = with_statics (ends_by l SIMP fs) e (λ ss. decided_or ss behind_singles)

    pub demand_known : (e : Ends) (o : Option Meaning) (m : Meaning) → Reads reply (static_members l file true Types n) (Ok e) → o ≡ decided_with (ends_by l ODI fs) e → o ≡ Some m → Reads reply (on_demand_type l file n fs) (Ok m)
    demand_known e o m g is k =
        then_ok reply (static_members l file true Types n) by_demand e (Ok m) g
        (with_known (ends_by l ODI fs) e (λ ss. done (meaning_of ss)) m (sym is ∙ k) (λ ss h. done_reads reply (meaning_of ss) m (meant_some ss m h)))

    pub demand_nothing : (e : Ends) (o : Option Meaning) → Reads reply (static_members l file true Types n) (Ok e) → o ≡ decided_with (ends_by l ODI fs) e → o ≡ None → Reads reply (on_demand_type l file n fs) (Ok Nothing)
    demand_nothing e o g is k =
        then_ok reply (static_members l file true Types n) by_demand e (Ok Nothing) g
        (with_open (ends_by l ODI fs) e (λ ss. done (meaning_of ss)) (Ok Nothing) (sym is ∙ k) (λ ss h. done_reads reply (meaning_of ss) Nothing (meant_none ss h)))

    pub demand_unknown : (e : Need) → Reads {U = Ends} reply (static_members l file true Types n) (Err e) → Reads {U = Meaning} reply (on_demand_type l file n fs) (Err e)
    demand_unknown e g = then_err reply (static_members l file true Types n) by_demand e g

    pub single_known : (e : Ends) (o : Option Meaning) (m : Meaning) → Reads reply (static_members l file false Types n) (Ok e) → o ≡ decided_with (ends_by l SIMP fs) e → o ≡ Some m → Reads reply (single_type l file n fs) (Ok m)
    single_known e o m g is k =
        then_ok reply (static_members l file false Types n) by_single e (Ok m) g
        (with_known (ends_by l SIMP fs) e (λ ss. decided_or ss behind_singles) m (sym is ∙ k) (λ ss h. by_ends ss behind_singles (decided ss) m refl h))

    pub single_open : (e : Ends) (o : Option Meaning) (x : Result Meaning Need) → Reads reply (static_members l file false Types n) (Ok e) → o ≡ decided_with (ends_by l SIMP fs) e → o ≡ None
        → Reads reply (decided_or (ends_by l PKGOF fs) (on_demand_type l file n fs)) x → Reads reply (single_type l file n fs) x
    single_open e o x g is k h =
        then_ok reply (static_members l file false Types n) by_single e x g
        (with_open (ends_by l SIMP fs) e (λ ss. decided_or ss behind_singles) x (sym is ∙ k) (λ ss none. no_ends ss behind_singles (decided ss) x refl none h))

    pub single_unknown : (e : Need) → Reads {U = Ends} reply (static_members l file false Types n) (Err e) → Reads {U = Meaning} reply (single_type l file n fs) (Err e)
    single_unknown e g = then_err reply (static_members l file false Types n) by_single e g

  -- ---- the answer

  module _ (l : LayoutOf) (file : ℕ) (n : NameId) where
    pub paths_answer : (a : Answer JavaDatum) (fs : List (Found JavaDatum)) (x : Result Meaning Need) → a ≡ Paths fs → Reads reply (file_answer l file n (Paths fs)) x → Reads reply (file_answer l file n a) x
    paths_answer a fs x e h = subst (λ (a : Answer JavaDatum). Reads reply (file_answer l file n a) x) (sym e) h

    pub many_answer : (a : Answer JavaDatum) → a ≡ TooManyPaths → Reads reply (file_answer l file n a) (Ok TooManyTypes)
    many_answer a e = subst (λ (a : Answer JavaDatum). Reads reply (file_answer l file n a) (Ok TooManyTypes)) (sym e) (done_reads reply TooManyTypes TooManyTypes refl)

    pub file_ok : (a : Answer JavaDatum) (x : Result Meaning Need) → reply (for_name FILETYPE (file_scope l file) n) ≡ Some a → Reads reply (file_answer l file n a) x → Reads reply (file_type l file n) x
    file_ok a x e h = ask_ok reply (for_name FILETYPE (file_scope l file) n) (file_answer l file n) a x e h

    pub file_err : reply (for_name FILETYPE (file_scope l file) n) ≡ None → Reads {U = Meaning} reply (file_type l file n) (Err (NoReply (for_name FILETYPE (file_scope l file) n)))
    file_err e = ask_err reply (for_name FILETYPE (file_scope l file) n) (file_answer l file n) e

pub ruleset file_steps = (reading_steps, by_ends, no_ends, demand_known, demand_nothing, demand_unknown, single_known, single_open, single_unknown, paths_answer, many_answer, file_ok, file_err)
