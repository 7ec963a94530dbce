-- The small units are honest.
use Rattle.std.proofs.Common.{◌≡◌, ℕ, zero, suc, ◌<◌, ◌+◌, List, [], ◌∷◌, Bool, true, false, Option, Some, None, inl, inr, refl, sym, ap, ◌∙◌, subst, arith, length, slice_get}
use Rattle.std.specs.List.{Contains}
use Rattle.sg_base.specs.declared.scope.Scope.{Scope}
use Rattle.sg_base.specs.Graph.{GraphOf}
use Rattle.sg_base.proofs.Finite.{nothing_in, single, Contains-head, Contains-tail, Contains-cons}
use Rattle.sg_query.specs.declared.query.Query.{Query}
use Rattle.sg_query.specs.Query.{KindOf}
use Rattle.sg_state.specs.Held.{HeldOf, RowHold, HoldsRow}
use Rattle.sg_unit.specs.declared.op.Op.{Op}
use Rattle.sg_unit.specs.declared.op.Op.TheVariants.{Fresh, AddEdge, SetDatum, CloseRow, Ask, Advance, Take, End}
use Rattle.sg_unit.specs.declared.reply.Reply.{Reply}
use Rattle.sg_unit.specs.Honest.{Gave, GivesResults}
use Rattle.sg_unit.specs.Run.{Setting}
use Rattle.sg_unit.specs.Trace.{Past, with_last, MayGive, IsHanded}
use Rattle.sg_unit.specs.Served.{IsNew, AreNew}
use Rattle.sg_unit.specs.Unit.{setting_of, CanBeHanded, GoesOn, GivesOwed}
use Rattle.sg_core.specs.Core.{CoreOf}
use Rattle.sg_serial.specs.Example.{first, second, crossed, number_of, own_scope, other_scope, across, worker_op, GaveSo, fixed_part, WorkerStands, IsWorkersEdge, IsWorkersQuery}

-- what holds at these holds at what equals them
at : {X Y : Type 0} (C : X → Y → Type 0) (a : X) (b : Y) → C a b → (x : X) (y : Y) → x ≡ a → y ≡ b → C x y
at {X} {Y} C a b c x y e f = subst (λ (v : X). C v y) (sym e) (subst (λ (w : Y). C a w) (sym f) c)

holds_own : (D : Type 0) (b : Bool) → HoldsRow (crossed {D = D}) (number_of b) (own_scope b) 0
holds_own D false = Contains-head (let k : RowHold = record { scope = first; label = 0; unit = 0 } in k) ((record { scope = second; label = 0; unit = 1 }) ∷ [])
holds_own D true =
    let k : RowHold = record { scope = second; label = 0; unit = 1 } in
    Contains-tail (record { scope = first; label = 0; unit = 0 }) k (k ∷ []) (Contains-head k [])

has_other : (b : Bool) → Contains (first ∷ second ∷ []) (other_scope b)
has_other false = Contains-tail first second (second ∷ []) (Contains-head second [])
has_other true = Contains-head first (second ∷ [])

abbrev crossed_setting : {D P : Type 0} → (P → D → Bool) → (D → D → Bool) → List KindOf → Setting D P
crossed_setting wants same ks = setting_of wants same crossed ks

module _ (I R D P : Type 0) (wants : P → D → Bool) (same : D → D → Bool) (ks : List KindOf) (p : P) (x : R) where
  abbrev op_at : Bool → Bool → ℕ → Op I R D P
  op_at b a n = worker_op b a p x n

  -- ---- conditions

  abbrev May : Bool → Bool → ℕ → Past I R D P → Type 0
  May b a n past = MayGive (crossed_setting wants same ks) (number_of b) past (op_at b a n)

  may_first : (b a : Bool) → 0 < length ks → May b a 0 []
  may_first false true few = (refl, (refl, few, inl (has_other false)))
  may_first true true few = (refl, (refl, few, inl (has_other true)))
  may_first false false few = (refl, (refl, holds_own D false, inl (has_other false)))
  may_first true false few = (refl, (refl, holds_own D true, inl (has_other true)))

  may_second : (b a : Bool) (y : Reply I D P) → May b a 1 ((op_at b a 0, y) ∷ [])
  may_second false true y = (refl, refl)
  may_second true true y = (refl, refl)
  may_second false false y = (refl, (refl, holds_own D false))
  may_second true false y = (refl, (refl, holds_own D true))

  -- a unit that does not ask ends third
  may_third : (b : Bool) (y w : Reply I D P) → May b false 2 ((op_at b false 0, y) ∷ (op_at b false 1, w) ∷ [])
  may_third false y w = (refl, refl)
  may_third true y w = (refl, refl)

  -- nothing is handed to what has ended
  ended : (b : Bool) (past : Past I R D P) (last : Option (Reply I D P)) → IsHanded (crossed_setting wants same ks) (number_of b) past (let o : Option (Op I R D P) = Some (End x) in o) last → ⊥
  ended b past None hand = hand
  ended b past (Some w) hand = hand

  abbrev Goes : Bool → Bool → ℕ → Option (Reply I D P) → Past I R D P → Option (Op I R D P) → Type 0
  Goes b a n last past given =
      IsHanded (crossed_setting wants same ks) (number_of b) past given last → WorkerStands ks b a p x (suc n) (with_last past given last) (Some (op_at b a n)) × MayGive (crossed_setting wants same ks) (number_of b) (with_last past given last) (op_at b a n)

  first_goes : (b a : Bool) → 0 < length ks → (last : Option (Reply I D P)) → Goes b a 0 last [] None
  first_goes b a few last hand = ((few, (refl, refl)), may_first b a few)

  second_goes : (b a : Bool) → 0 < length ks → (last : Option (Reply I D P)) → Goes b a 1 last [] (Some (op_at b a 0))
  second_goes b true few None hand = absurd hand
  second_goes b false few None hand = absurd hand
  second_goes b a few (Some y) hand = ((few, (y, refl, refl)), may_second b a y)

  third_goes : (b : Bool) → 0 < length ks → (y : Reply I D P) (last : Option (Reply I D P)) → Goes b false 2 last ((op_at b false 0, y) ∷ []) (Some (op_at b false 1))
  third_goes b few y None hand = absurd hand
  third_goes b few y (Some w) hand = ((few, (y, w, refl, refl)), may_third b y w)

  pub worker_goes : (b a : Bool) (n : ℕ) (last : Option (Reply I D P)) → GoesOn (crossed_setting wants same ks) (number_of b) (WorkerStands ks b a p x n) (WorkerStands ks b a p x (suc n)) last (op_at b a n)
  worker_goes b a zero last past given s hand = at (Goes b a 0 last) [] None (first_goes b a s.0 last) past given (s.1).0 (s.1).1 hand
  worker_goes b a (suc zero) last past given s hand = at (Goes b a 1 last) [] (Some (op_at b a 0)) (second_goes b a s.0 last) past given (s.1).0 (s.1).1 hand
  worker_goes b true (suc (suc zero)) last past given s hand = absurd (ended b past last (subst (λ (o : Option (Op I R D P)). IsHanded (crossed_setting wants same ks) (number_of b) past o last) (s.1).2 hand))
  worker_goes b false (suc (suc zero)) last past given s hand = at (Goes b false 2 last) ((op_at b false 0, (s.1).0) ∷ []) (Some (op_at b false 1)) (third_goes b s.0 (s.1).0 last) past given (s.1).1 (s.1).2 hand
  worker_goes b true (suc (suc (suc n))) last past given s hand = absurd (ended b past last (subst (λ (o : Option (Op I R D P)). IsHanded (crossed_setting wants same ks) (number_of b) past o last) (s.1).3 hand))
  worker_goes b false (suc (suc (suc n))) last past given s hand = absurd (ended b past last (subst (λ (o : Option (Op I R D P)). IsHanded (crossed_setting wants same ks) (number_of b) past o last) (s.1).3 hand))

  pub worker_ends : (b a : Bool) (n : ℕ) (last : Option (Reply I D P)) → CanBeHanded (crossed_setting wants same ks) (number_of b) (WorkerStands {I = I} {R = R} {D = D} ks b a p x n) last → n < 3
  worker_ends b a zero last h = omega arith
  worker_ends b a (suc zero) last h = omega arith
  worker_ends b a (suc (suc zero)) last h = omega arith
  worker_ends b true (suc (suc (suc n))) last h = absurd (ended b h.0 last (subst (λ (o : Option (Op I R D P)). IsHanded (crossed_setting wants same ks) (number_of b) h.0 o last) ((h.2).1).3 h.3))
  worker_ends b false (suc (suc (suc n))) last h = absurd (ended b h.0 last (subst (λ (o : Option (Op I R D P)). IsHanded (crossed_setting wants same ks) (number_of b) h.0 o last) ((h.2).1).3 h.3))

  -- ---- what it owes

  -- the operations of a unit
  abbrev IsWorkers : Bool → Bool → Op I R D P → Type 0
  IsWorkers b a (Fresh labels datum) = ⊥
  IsWorkers b a (AddEdge from label to) = IsWorkersEdge b a from label to
  IsWorkers b a (SetDatum s d) = ⊥
  IsWorkers b a (CloseRow s l) = a ≡ false
  IsWorkers b a (Ask q) = IsWorkersQuery b a p q
  IsWorkers b a Advance = ⊥
  IsWorkers b a Take = ⊥
  IsWorkers b a (End y) = y ≡ x

  op_is_workers : (b a : Bool) (n : ℕ) → IsWorkers b a (op_at b a n)
  op_is_workers b true zero = refl
  op_is_workers b true (suc n) = refl
  op_is_workers b false zero = (refl, refl, refl)
  op_is_workers b false (suc zero) = refl
  op_is_workers b false (suc (suc n)) = refl

  abbrev Owed : Bool → Bool → Past I R D P → Option (Op I R D P) → Type 0
  Owed b a past last = GivesResults (crossed_setting wants same ks) (number_of b) (IsWorkersEdge b a) (λ s d. ⊥) (IsWorkersQuery b a p) (λ y. y ≡ x) past last

  -- the edge that it owes was given
  gave_row : (b a : Bool) (past : Past I R D P) (last : Option (Op I R D P)) → Gave past last (op_at b a 0) → (s : Scope) (l : ℕ) (t : Scope) → IsWorkersEdge b a s l t → Gave past last (AddEdge s l t)
  gave_row b true past last gave s l t e = absurd e
  gave_row b false past last gave s l t e =
      subst (λ (v : Scope). Gave past last (AddEdge v l t)) (sym e.0) (subst (λ (n : ℕ). Gave past last (AddEdge (own_scope b) n t)) (sym e.1) (subst (λ (v : Scope). Gave past last (AddEdge (own_scope b) 0 v)) (sym e.2) gave))

  owed : (b a : Bool) (past : Past I R D P) (last : Option (Op I R D P)) → ((o : Op I R D P) → Gave past last o → IsWorkers b a o) → Gave past last (op_at b a 0) → Owed b a past last
  owed b a past last all gave = record {
    edge = λ s l t k g. all (AddEdge s l t) g;
    datum = λ s d k g. all (SetDatum s d) g;
    closed = λ s l k g t e. gave_row b a past last gave s l t e;
    asked = λ q g. all (Ask q) g;
    outcome = λ y g. all (End y) g;
    ended_edges = λ y s l g k t e. gave_row b a past last gave s l t e;
    ended_data = λ y s d g k e. absurd e;
  }

  -- what was given last is the unit's, and so is what was given before
  all_given : (b a : Bool) (n : ℕ) (past : Past I R D P) → ((o : Op I R D P) (y : Reply I D P) → Contains past (o, y) → IsWorkers b a o) → (o : Op I R D P) → Gave past (Some (op_at b a n)) o → IsWorkers b a o
  all_given b a n past before o g = elim g [ inl e ↦ subst (IsWorkers b a) (last_is (op_at b a n) o e) (op_is_workers b a n) | inr k ↦ before o k.0 k.1 ]
    where
      last_is : (v o : Op I R D P) → Some v ≡ Some o → v ≡ o
      last_is v o e = cc

  given_is : (b a : Bool) (n : ℕ) (y : Reply I D P) (o : Op I R D P) (w : Reply I D P) → (let m : Op I R D P × Reply I D P = (o, w) in m) ≡ (op_at b a n, y) → IsWorkers b a o
  given_is b a n y o w e = subst (IsWorkers b a) (sym (ap (λ (m : Op I R D P × Reply I D P). m.0) e)) (op_is_workers b a n)

  first_owed : (b a : Bool) → Owed b a [] (Some (op_at b a 0))
  first_owed b a = owed b a [] (Some (op_at b a 0)) (all_given b a 0 [] (λ o y c. absurd (nothing_in (o, y) c))) (inl refl)

  second_owed : (b a : Bool) (y : Reply I D P) → Owed b a ((op_at b a 0, y) ∷ []) (Some (op_at b a 1))
  second_owed b a y = owed b a ((op_at b a 0, y) ∷ []) (Some (op_at b a 1))
      (all_given b a 1 ((op_at b a 0, y) ∷ []) (λ o w c. given_is b a 0 y o w (single (op_at b a 0, y) (o, w) c)))
      (inr (y, Contains-head (op_at b a 0, y) []))

  third_owed : (b a : Bool) (y w : Reply I D P) → Owed b a ((op_at b a 0, y) ∷ (op_at b a 1, w) ∷ []) (Some (op_at b a 2))
  third_owed b a y w = owed b a ((op_at b a 0, y) ∷ (op_at b a 1, w) ∷ []) (Some (op_at b a 2))
      (all_given b a 2 ((op_at b a 0, y) ∷ (op_at b a 1, w) ∷ []) (λ o v c. elim (Contains-cons (op_at b a 0, y) (o, v) ((op_at b a 1, w) ∷ []) c) [
        | inl e ↦ given_is b a 0 y o v e
        | inr m ↦ given_is b a 1 w o v (single (op_at b a 1, w) (o, v) m)
      ]))
      (inr (y, Contains-head (op_at b a 0, y) ((op_at b a 1, w) ∷ [])))

  abbrev Due : Bool → Bool → ℕ → Option (Reply I D P) → Past I R D P → Option (Op I R D P) → Type 0
  Due b a n last past given = IsHanded (crossed_setting wants same ks) (number_of b) past given last → Owed b a (with_last past given last) (Some (op_at b a n))

  second_due : (b a : Bool) (last : Option (Reply I D P)) → Due b a 1 last [] (Some (op_at b a 0))
  second_due b a None hand = absurd hand
  second_due b a (Some y) hand = second_owed b a y

  third_due : (b a : Bool) (y : Reply I D P) (last : Option (Reply I D P)) → Due b a 2 last ((op_at b a 0, y) ∷ []) (Some (op_at b a 1))
  third_due b a y None hand = absurd hand
  third_due b a y (Some w) hand = third_owed b a y w

  pub worker_owes : (b a : Bool) (n : ℕ) (last : Option (Reply I D P)) → GivesOwed (crossed_setting wants same ks) (number_of b) (λ g. IsWorkersEdge b a) (λ g s d. ⊥) (λ g q. IsWorkersQuery b a p q) (λ g y. y ≡ x) (WorkerStands ks b a p x n) last (op_at b a n)
  worker_owes b a zero last past given g s hand alike = at (Due b a 0 last) [] None (λ h. first_owed b a) past given (s.1).0 (s.1).1 hand
  worker_owes b a (suc zero) last past given g s hand alike = at (Due b a 1 last) [] (Some (op_at b a 0)) (second_due b a last) past given (s.1).0 (s.1).1 hand
  worker_owes b a (suc (suc zero)) last past given g s hand alike = at (Due b a 2 last) ((op_at b a 0, (s.1).0) ∷ []) (Some (op_at b a 1)) (third_due b a (s.1).0 last) past given (s.1).1 (s.1).2 hand
  worker_owes b true (suc (suc (suc n))) last past given g s hand alike = absurd (ended b past last (subst (λ (o : Option (Op I R D P)). IsHanded (crossed_setting wants same ks) (number_of b) past o last) (s.1).3 hand))
  worker_owes b false (suc (suc (suc n))) last past given g s hand alike = absurd (ended b past last (subst (λ (o : Option (Op I R D P)). IsHanded (crossed_setting wants same ks) (number_of b) past o last) (s.1).3 hand))

  -- ---- by what the code knows

  pub goes_so : (b a : Bool) (n m : ℕ) (o : Op I R D P) (last : Option (Reply I D P)) → o ≡ op_at b a n → m ≡ n + 1 → GoesOn (crossed_setting wants same ks) (number_of b) (WorkerStands ks b a p x n) (WorkerStands ks b a p x m) last o
  goes_so b a n m o last e f =
      let next : m ≡ suc n = omega (arith, f) in
      subst (λ (v : Op I R D P). GoesOn (crossed_setting wants same ks) (number_of b) (WorkerStands ks b a p x n) (WorkerStands ks b a p x m) last v) (sym e)
      (subst (λ (k : ℕ). GoesOn (crossed_setting wants same ks) (number_of b) (WorkerStands ks b a p x n) (WorkerStands ks b a p x k) last (op_at b a n)) (sym next) (worker_goes b a n last))

  pub owes_so : (b a : Bool) (n : ℕ) (o : Op I R D P) (last : Option (Reply I D P)) → o ≡ op_at b a n → GivesOwed (crossed_setting wants same ks) (number_of b) (λ g. IsWorkersEdge b a) (λ g s d. ⊥) (λ g q. IsWorkersQuery b a p q) (λ g y. y ≡ x) (WorkerStands ks b a p x n) last o
  owes_so b a n o last e = subst (λ (v : Op I R D P). GivesOwed (crossed_setting wants same ks) (number_of b) (λ g. IsWorkersEdge b a) (λ g s d. ⊥) (λ g q. IsWorkersQuery b a p q) (λ g y. y ≡ x) (WorkerStands ks b a p x n) last v) (sym e) (worker_owes b a n last)

-- a new unit
stands_new : (I R D P : Type 0) (ks : List KindOf) (p : P) (x : R) (b a : Bool) (n : ℕ) → n ≡ 0 → 0 < length ks → WorkerStands {I = I} {R = R} {D = D} ks b a p x n [] None
stands_new I R D P ks p x b a n e few = subst (λ (k : ℕ). WorkerStands {I = I} {R = R} {D = D} ks b a p x k [] None) (sym e) (few, (refl, refl))

-- two units that are new
pub two_new : {I R D P V F : Type 0} (number : V → ℕ) (fixed : V → F) (opening : F → HeldOf D) (kinds : F → List KindOf) (stands : V → Past I R D P → Option (Op I R D P) → Type 0) (h : HeldOf D) (t : List KindOf) (v w : V)
    → length h.made ≡ 2 → IsNew number fixed opening kinds stands h t 0 v → IsNew number fixed opening kinds stands h t 1 w → AreNew number fixed opening kinds stands h t (v ∷ w ∷ [])
two_new {I} {R} {D} {P} {V} {F} number fixed opening kinds stands h t v w two a b = (sym two, each)
  where
    each : (u : ℕ) (x : V) → slice_get (v ∷ w ∷ []) u ≡ Some x → IsNew number fixed opening kinds stands h t u x
    each zero x e = subst (IsNew number fixed opening kinds stands h t 0) (some_is v x e) a
      where
        some_is : (s t : V) → Some s ≡ Some t → s ≡ t
        some_is s t k = cc
    each (suc zero) x e = subst (IsNew number fixed opening kinds stands h t 1) (some_is w x e) b
      where
        some_is : (s t : V) → Some s ≡ Some t → s ≡ t
        some_is s t k = cc
    each (suc (suc n)) x e = absurd (cc)

-- both units are new on a core at its opening
pub both_new : {I R D P V : Type 0} (second asks : V → Bool) (given : V → ℕ) (ks : V → List KindOf) (p : P) (x : R) (c : CoreOf I R D P) (v w : V) (vs : List V) (h : HeldOf D) (t : List KindOf)
    → c ≡ record { opening = h; kinds = t; log = [] } → h ≡ crossed → length t ≡ 1 → vs ≡ v ∷ w ∷ [] → second v ≡ false → given v ≡ 0 → ks v ≡ t → second w ≡ true → given w ≡ 0 → ks w ≡ t
    → AreNew {I = I} {R = R} {D = D} {P = P} (λ u. number_of (second u)) (λ u. fixed_part (second u) (asks u) (ks u)) (λ f. crossed) (λ f. f.2) (λ u. WorkerStands (ks u) (second u) (asks u) p x (given u)) c.opening c.kinds vs
both_new {I} {R} {D} {P} {V} second asks given ks p x c v w vs h t core begun one list sv gv kv sw gw kw =
    let opening : c.opening ≡ crossed = ap (λ (y : CoreOf I R D P). y.opening) core ∙ begun in
    let kinds : c.kinds ≡ t = ap (λ (y : CoreOf I R D P). y.kinds) core in
    let few : (u : V) → ks u ≡ t → 0 < length (ks u) = λ u k. subst (λ (l : List KindOf). 0 < length l) (sym k) (omega (arith, one)) in
    subst (λ (l : List V). AreNew {I = I} {R = R} {D = D} {P = P} (λ u. number_of (second u)) (λ u. fixed_part (second u) (asks u) (ks u)) (λ f. crossed) (λ f. f.2) (λ u. WorkerStands (ks u) (second u) (asks u) p x (given u)) c.opening c.kinds l) (sym list)
    (two_new {I = I} {R = R} {D = D} {P = P} (λ u. number_of (second u)) (λ u. fixed_part (second u) (asks u) (ks u)) (λ f. crossed) (λ f. f.2) (λ u. WorkerStands (ks u) (second u) (asks u) p x (given u)) c.opening c.kinds v w
    (ap (λ (y : HeldOf D). length y.made) opening)
    (ap number_of sv, sym opening, kv ∙ sym kinds, stands_new I R D P (ks v) p x (second v) (asks v) (given v) gv (few v kv))
    (ap number_of sw, sym opening, kw ∙ sym kinds, stands_new I R D P (ks w) p x (second w) (asks w) (given w) gw (few w kw)))
