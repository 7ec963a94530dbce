-- New readers, and three units that follow them.
use Rattle.std.proofs.Common.{◌≡◌, ℕ, zero, suc, List, [], ◌∷◌, Option, Some, None, inl, inr, sym, ap, ◌∙◌, subst, length, map, slice_get}
use Rattle.std.specs.List.{Contains}
use Rattle.sg_base.specs.declared.scope.Scope.{Scope}
use Rattle.sg_base.proofs.Finite.{nothing_in, Contains-head, Contains-tail, Contains-cons}
use Rattle.sg_query.specs.declared.answer.Answer.{Answer}
use Rattle.sg_query.specs.declared.query.Query.{Query}
use Rattle.sg_query.specs.Query.{KindOf}
use Rattle.sg_state.specs.Held.{HeldOf}
use Rattle.sg_unit.specs.declared.op.Op.{Op}
use Rattle.sg_unit.specs.Served.{IsNew, AreNew}
use Rattle.sg_unit.specs.Trace.{Past}
use Rattle.sg_core.specs.Core.{CoreOf}
use Rattle.sg_script.specs.Example.{reply_to}
use Rattle.sg_headers.specs.Small.{first, second, third, three, three_types, pick}
use Rattle.sg_small.specs.Reader.{ReaderOf, reader_plan, AreTypes, IsNewReader}

-- ---- readers

picked : (n : ℕ) → Contains three_types (pick first second third n)
picked zero = Contains-head first (second ∷ third ∷ [])
picked (suc zero) = Contains-tail first second (second ∷ third ∷ []) (Contains-head second (third ∷ []))
picked (suc (suc n)) = Contains-tail first third (second ∷ third ∷ []) (Contains-tail second third (third ∷ []) (Contains-head third []))

all_picked : (ns : List ℕ) → AreTypes (map (pick first second third) ns)
all_picked [] s c = absurd (nothing_in s c)
all_picked (n ∷ ns) s c = elim (Contains-cons (pick first second third n) s (map (pick first second third) ns) c) [
  | inl k ↦ subst (λ (t : Scope). Contains three_types t) (sym k) (picked n)
  | inr k ↦ all_picked ns s k
]

pub reader_is_new : (n : ℕ) (ks : List KindOf) (r : ReaderOf) (looks gives : List ℕ) (ss ts : List Scope)
    → r ≡ record { number = n; kinds = ks; looks = ss; gives = ts; replies = [] } → ss ≡ map (pick first second third) looks → ts ≡ map (pick first second third) gives → IsNewReader n ks r
reader_is_new n ks r looks gives ss ts e f g = record {
  number = ap (λ (x : ReaderOf). x.number) e;
  kinds = ap (λ (x : ReaderOf). x.kinds) e;
  looks = subst AreTypes (sym (ap (λ (x : ReaderOf). x.looks) e ∙ f)) (all_picked looks);
  gives = subst AreTypes (sym (ap (λ (x : ReaderOf). x.gives) e ∙ g)) (all_picked gives);
  replies = ap (λ (x : ReaderOf). x.replies) e;
}

-- a new reader has no reply
pub none_replied : (n : ℕ) (ks : List KindOf) (r : ReaderOf) → IsNewReader n ks r → (q : Query ℕ) → reply_to r.replies q ≡ None
none_replied n ks r new q = ap (λ (l : List (Query ℕ × Answer ℕ)). reply_to l q) new.replies

-- ---- three units that are new

pub three_new : {I R D P V F : Type 0} (number : V → ℕ) (fixed : V → F) (opening : F → HeldOf D) (kinds : F → List KindOf) (stands : V → Past I R D P → Option (Op I R D P) → Type 0) (h : HeldOf D) (t : List KindOf) (v w x : V)
    → length h.made ≡ 3 → IsNew number fixed opening kinds stands h t 0 v → IsNew number fixed opening kinds stands h t 1 w → IsNew number fixed opening kinds stands h t 2 x → AreNew number fixed opening kinds stands h t (v ∷ w ∷ x ∷ [])
three_new {I} {R} {D} {P} {V} {F} number fixed opening kinds stands h t v w x long a b c = (sym long, each)
  where
    some_is : (s t : V) → Some s ≡ Some t → s ≡ t
    some_is s t k = cc

    each : (u : ℕ) (y : V) → slice_get (v ∷ w ∷ x ∷ []) u ≡ Some y → IsNew number fixed opening kinds stands h t u y
    each zero y e = subst (IsNew number fixed opening kinds stands h t 0) (some_is v y e) a
    each (suc zero) y e = subst (IsNew number fixed opening kinds stands h t 1) (some_is w y e) b
    each (suc (suc zero)) y e = subst (IsNew number fixed opening kinds stands h t 2) (some_is x y e) c
    each (suc (suc (suc n))) y e = absurd (cc)

-- three units whose scripts are new readers are new on a core at its opening
pub readers_are_new : {I V : Type 0} (script : V → ReaderOf) (stands : V → Past I ℕ ℕ ℕ → Option (Op I ℕ ℕ ℕ) → Type 0) (c : CoreOf I ℕ ℕ ℕ) (vs : List V) (h : HeldOf ℕ) (t : List KindOf) (v w x : V)
    → c ≡ record { opening = h; kinds = t; log = [] } → h ≡ three → vs ≡ v ∷ w ∷ x ∷ []
    → IsNewReader 0 t (script v) → stands v [] None → IsNewReader 1 t (script w) → stands w [] None → IsNewReader 2 t (script x) → stands x [] None
    → AreNew (λ u. (script u).number) (λ u. reader_plan (script u)) (λ p. p.opening) (λ p. p.kinds) stands c.opening c.kinds vs
readers_are_new {I} {V} script stands c vs h t v w x core begun list nv sv nw sw nx sx =
    let opening : c.opening ≡ three = ap (λ (y : CoreOf I ℕ ℕ ℕ). y.opening) core ∙ begun in
    let kinds : c.kinds ≡ t = ap (λ (y : CoreOf I ℕ ℕ ℕ). y.kinds) core in
    subst (λ (l : List V). AreNew (λ u. (script u).number) (λ u. reader_plan (script u)) (λ p. p.opening) (λ p. p.kinds) stands c.opening c.kinds l) (sym list)
    (three_new (λ u. (script u).number) (λ u. reader_plan (script u)) (λ p. p.opening) (λ p. p.kinds) stands c.opening c.kinds v w x
    (ap (λ (y : HeldOf ℕ). length y.made) opening)
    (nv.number, sym opening, nv.kinds ∙ sym kinds, sv)
    (nw.number, sym opening, nw.kinds ∙ sym kinds, sw)
    (nx.number, sym opening, nx.kinds ∙ sym kinds, sx))
