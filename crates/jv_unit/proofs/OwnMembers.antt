-- The members of a type by their places among them, and what is read of them.
use Rattle.std.proofs.Common.{◌≡◌, ℕ, ◌==◌, ◌<◌, ◌^◌, Bool, List, [], ◌∷◌, Option, Result, Ok, Err, MatchResult, length, map, get_or, refl, ap, ◌∙◌, subst, arith}
use Rattle.std.specs.Result.{IsErrAnd}
use Rattle.std.proofs.lemmas.List.{length-map, get_or-map}
use Rattle.std.proofs.lemmas.List.Elements.{Contains-get_or}
use Rattle.std.proofs.lemmas.List.FromFn.{length-range_with_len}
use Rattle.std.proofs.lemmas.List.Sums.{count_by-le-length, length-filter}
use Rattle.sg_base.specs.declared.scope.Scope.{Scope}
use Rattle.sg_base.proofs.Finite.{Contains-filter}
use Rattle.sg_query.specs.declared.answer.Answer.{Answer}
use Rattle.sg_query.specs.declared.query.Query.{Query}
use Rattle.sg_reading.specs.declared.stop.Stop.{Stop}
use Rattle.sg_reading.specs.declared.stop.Stop.TheVariants.{OutOfMemory}
use Rattle.sg_reading.specs.Stop.{Reads}
use Rattle.sg_reading.proofs.Steps.{stops}
use Rattle.sg_script.specs.declared.write.Write.{Write}
use Rattle.sg_script.specs.declared.write.Write.TheVariants.{SetDatum}
use Rattle.jv_instance.specs.declared.datum.JavaDatum.{JavaDatum}
use Rattle.jv_instance.specs.declared.pred.JavaPred.{JavaPred}
use Rattle.jv_layout.specs.declared.place.Place.{Place}
use Rattle.jv_layout.specs.declared.place.Place.TheVariants.{Ty, Member}
use Rattle.jv_layout.specs.Folder.{LayoutOf}
use Rattle.jv_layout.specs.Readers.{member_at, members_at, members_of, members_of_type, signature_at, signature_scope}
use Rattle.jv_layout.specs.Scopes.{member_scope, place_of, scope_count, signature_of_member, type_scope}
use Rattle.jv_layout.specs.Skeleton.{below}
use Rattle.jv_layout.proofs.SoundLists.{from_below}
use Rattle.jv_layout.proofs.SoundPlaces.{scopes_have_places}
use Rattle.jv_member.specs.declared.signature.Signature.{Signature}
use Rattle.jv_unit.specs.Folder.{FolderOf}
use Rattle.jv_unit.specs.Plans.{member_signature, signature_stage}
use Rattle.jv_unit.proofs.Steps.{made_twice, stops_twice}

abbrev Replies : Type 0
Replies = Query JavaPred → Option (Answer JavaDatum)

-- ---- which members

-- there are few
pub few_members : (l : LayoutOf) (t : ℕ) → scope_count l < 2 ^ 31 → length (members_of_type l t) < 2 ^ 31
few_members l t few =
    let owned : ℕ → Bool = λ m. (member_at l m).owner == t in
    omega (arith, few, length-filter owned (below (length l.members)), count_by-le-length owned (below (length l.members)), length-range_with_len 0 (length l.members))

module _ (l : LayoutOf) (t : ℕ) (within : t < length l.types) where
  type_is : place_of l (type_scope l t) ≡ Ty t
  type_is = (scopes_have_places l (type_scope l t) (Ty t)).1 (within, refl)

  members_are : members_of l (type_scope l t) ≡ map (member_scope l) (members_of_type l t)
  members_are = ap (members_at l) type_is

  module _ (c : Scope) (ss : List Scope) (type : c ≡ type_scope l t) (given : ss ≡ members_of l c) where
    scopes_are : ss ≡ map (member_scope l) (members_of_type l t)
    scopes_are = given ∙ (ap (members_of l) type ∙ members_are)

    pub count_members : length ss ≡ length (members_of_type l t)
    count_members = ap length scopes_are ∙ length-map (members_of_type l t) (member_scope l)

    pub member_there : (k : ℕ) (s : Scope) → k < length (members_of_type l t) → s ≡ get_or ss k s → s ≡ member_scope l (get_or (members_of_type l t) k 0)
    member_there k s h e = e ∙ (ap (λ (z : List Scope). get_or z k s) scopes_are ∙ get_or-map (member_scope l) (members_of_type l t) k 0 s h)

  module _ (k : ℕ) (h : k < length (members_of_type l t)) where
    pub member_within : get_or (members_of_type l t) k 0 < length l.members
    member_within = from_below (length l.members) (get_or (members_of_type l t) k 0) (Contains-filter _ (below (length l.members)) (get_or (members_of_type l t) k 0) (Contains-get_or (members_of_type l t) k 0 h)).0

    member_place : place_of l (member_scope l (get_or (members_of_type l t) k 0)) ≡ Member (get_or (members_of_type l t) k 0)
    member_place = (scopes_have_places l (member_scope l (get_or (members_of_type l t) k 0)) (Member (get_or (members_of_type l t) k 0))).1 (member_within, refl)

    pub place_is : (s : Scope) (p : Place) → s ≡ member_scope l (get_or (members_of_type l t) k 0) → p ≡ place_of l s → p ≡ Member (get_or (members_of_type l t) k 0)
    place_is s p at e = e ∙ (ap (place_of l) at ∙ member_place)

    pub signature_is : (s d : Scope) → s ≡ member_scope l (get_or (members_of_type l t) k 0) → d ≡ signature_scope l s → d ≡ signature_of_member l (get_or (members_of_type l t) k 0)
    signature_is s d at e = e ∙ (ap (signature_scope l) at ∙ ap (signature_at l (member_scope l (get_or (members_of_type l t) k 0))) member_place)

-- ---- what is read of a member

module _ (reply : Replies) (w : FolderOf) (t m n : ℕ) (number : n ≡ m) where
  signature_read : (x : Result Signature (Stop (Query JavaPred))) → Reads reply (member_signature w t n) x → Reads reply (member_signature w t m) x
  signature_read x h = subst (λ (k : ℕ). Reads reply (member_signature w t k) x) number h

  pub datum_unknown : (e : Stop (Query JavaPred)) (x : Result (List (Write JavaDatum)) (Stop (Query JavaPred))) → IsErrAnd x (λ y. y ≡ e) → Reads {U = Signature} reply (member_signature w t n) (Err e) → Reads reply (signature_stage w t m).rule x
  datum_unknown e x k h = stops reply (signature_stage w t m).rule e x k (stops_twice reply (member_signature w t m) (λ s. s.datum) (λ d. SetDatum (signature_of_member w.layout m) d ∷ []) e (signature_read (Err e) h))

  pub datum_written : (s : Signature) (at : Scope) (x : Result (List (Write JavaDatum)) (Stop (Query JavaPred))) → at ≡ signature_of_member w.layout m → Reads reply (member_signature w t n) (Ok s) → MatchResult x (λ ws. ws ≡ SetDatum at s.datum ∷ []) (λ stop. stop ≡ OutOfMemory) → Reads reply (signature_stage w t m).rule x
  datum_written s at x place h k =
      made_twice reply (member_signature w t m) (λ s. s.datum) (λ d. SetDatum (signature_of_member w.layout m) d ∷ []) s x (signature_read (Ok s) h)
      (subst (λ (z : Scope). MatchResult x (λ ws. ws ≡ SetDatum z s.datum ∷ []) (λ stop. stop ≡ OutOfMemory)) place k)

pub ruleset member_facts = (count_members, member_there, member_within, place_is)
