-- Links are honest.
use Rattle.std.proofs.Common.{◌≡◌, ◌⊎◌, ℕ, zero, suc, ◌<◌, ◌+◌, ◌&&◌, List, [], ◌∷◌, ◌++◌, Bool, true, false, IsTrue, cond, eqb, Option, Some, None, inl, inr, refl, sym, ap, ◌∙◌, subst, arith, length, length-append, slice_get, lt-ltb}
use Rattle.std.specs.List.{Contains}
use Rattle.std.specs.Prelude.{IfSome}
use Rattle.sg_base.specs.declared.scope.Scope.{Scope}
use Rattle.sg_base.proofs.Finite.{nothing_in, single}
use Rattle.sg_query.specs.Query.{KindOf}
use Rattle.sg_state.specs.Held.{HeldOf}
use Rattle.sg_unit.specs.declared.entry.Entry.{Entry}
use Rattle.sg_unit.specs.declared.op.Op.{Op}
use Rattle.sg_unit.specs.declared.op.Op.TheVariants.{Fresh, AddEdge, SetDatum, CloseRow, Ask, Advance, Take, End}
use Rattle.sg_unit.specs.declared.reply.Reply.{Reply}
use Rattle.sg_unit.specs.declared.reply.Reply.TheVariants.{Moved, Ready}
use Rattle.sg_unit.specs.Honest.{Gave, GivesResults}
use Rattle.sg_unit.specs.Run.{Setting, Asking, no_ask, run_of}
use Rattle.sg_unit.specs.Served.{AreNew}
use Rattle.sg_unit.specs.Trace.{Past, with_last, MayGive, IsHanded}
use Rattle.sg_unit.specs.Unit.{setting_of, CanBeHanded, GoesOn, GivesOwed}
use Rattle.sg_unit.proofs.Writes.{num_is}
use Rattle.sg_core.specs.Core.{CoreOf}
use Rattle.sg_small.specs.Link.{along, link_op, link_part, GaveSo, CanAsk, LinkStands, IsNewLink, AreNewLinks}

-- what holds at these holds at what equals them
at : {X Y : Type 0} (C : X → Y → Type 0) (a : X) (b : Y) → C a b → (x : X) (y : Y) → x ≡ a → y ≡ b → C x y
at {X} {Y} C a b c x y e f = subst (λ (v : X). C v y) (sym e) (subst (λ (w : Y). C a w) (sym f) c)

-- who is live stays so by an ask, an advance and a take of its own
lives_on : (b l : Bool) → IsTrue l → IsTrue (cond b (cond b (cond b (l && true) l && true) (cond b (l && true) l) && true) (cond b (cond b (l && true) l && true) (cond b (l && true) l)))
lives_on true true t = refl
lives_on true false t = t
lives_on false l t = t

module _ (I R D P : Type 0) (wants : P → D → Bool) (same : D → D → Bool) (begins : HeldOf D) (kinds : List KindOf) (u : ℕ) (s : Scope) (p : P) (x : R) where
  abbrev z : Setting D P
  z = setting_of wants same begins kinds

  abbrev op_at : ℕ → Op I R D P
  op_at n = link_op s p x n

  abbrev Stands : ℕ → Past I R D P → Option (Op I R D P) → Type 0
  Stands n = LinkStands begins kinds u s p x n

  -- ---- conditions

  may_first : CanAsk begins kinds u s → (let past : Past I R D P = [] in MayGive z u past (op_at 0))
  may_first can = (lt-ltb u (length begins.made) can.0, (refl, can.1, inl can.2))

  may_second : CanAsk begins kinds u s → (y : Reply I D P) → MayGive z u ((op_at 0, y) ∷ []) (op_at 1)
  may_second can y =
      let before : List (Entry I R D P) = (record { unit = u; op = Ask (along s p); reply = Moved }) ∷ (record { unit = u; op = Advance; reply = Ready }) ∷ [] in
      (lives_on (eqb u u) _ (lt-ltb u (length begins.made) can.0), ap (λ (b : Bool). let a : Asking P = cond b no_ask ((run_of z before).asks u) in a) (num_is u))

  -- nothing is handed to what has ended
  ended : (past : Past I R D P) (last : Option (Reply I D P)) → IsHanded z u past (let o : Option (Op I R D P) = Some (End x) in o) last → ⊥
  ended past None hand = hand
  ended past (Some w) hand = hand

  abbrev Goes : ℕ → Option (Reply I D P) → Past I R D P → Option (Op I R D P) → Type 0
  Goes n last past given = IsHanded z u past given last → Stands (suc n) (with_last past given last) (Some (op_at n)) × MayGive z u (with_last past given last) (op_at n)

  first_goes : CanAsk begins kinds u s → (last : Option (Reply I D P)) → Goes 0 last [] None
  first_goes can last hand = ((can, (refl, refl)), may_first can)

  second_goes : CanAsk begins kinds u s → (last : Option (Reply I D P)) → Goes 1 last [] (Some (op_at 0))
  second_goes can None hand = absurd hand
  second_goes can (Some y) hand = ((can, (y, refl, refl)), may_second can y)

  link_goes : (n : ℕ) (last : Option (Reply I D P)) → GoesOn z u (Stands n) (Stands (suc n)) last (op_at n)
  link_goes zero last past given st hand = at (Goes 0 last) [] None (first_goes st.0 last) past given (st.1).0 (st.1).1 hand
  link_goes (suc zero) last past given st hand = at (Goes 1 last) [] (Some (op_at 0)) (second_goes st.0 last) past given (st.1).0 (st.1).1 hand
  link_goes (suc (suc n)) last past given st hand = absurd (ended past last (subst (λ (o : Option (Op I R D P)). IsHanded z u past o last) (st.1).2 hand))

  pub link_ends : (n : ℕ) (last : Option (Reply I D P)) → CanBeHanded z u (Stands n) last → n < 2
  link_ends zero last h = omega arith
  link_ends (suc zero) last h = omega arith
  link_ends (suc (suc n)) last h = absurd (ended h.0 last (subst (λ (o : Option (Op I R D P)). IsHanded z u h.0 o last) ((h.2).1).2 h.3))

  -- ---- what it owes

  -- the operations of a link
  abbrev IsLinks : Op I R D P → Type 0
  IsLinks (Fresh labels datum) = ⊥
  IsLinks (AddEdge from label to) = ⊥
  IsLinks (SetDatum t d) = ⊥
  IsLinks (CloseRow t l) = ⊥
  IsLinks (Ask q) = q ≡ along s p
  IsLinks Advance = ⊥
  IsLinks Take = ⊥
  IsLinks (End y) = y ≡ x

  op_is_links : (n : ℕ) → IsLinks (op_at n)
  op_is_links zero = refl
  op_is_links (suc n) = refl

  abbrev Owed : Past I R D P → Option (Op I R D P) → Type 0
  Owed past last = GivesResults z u (λ t l w. ⊥) (λ t d. ⊥) (λ q. q ≡ along s p) (λ y. y ≡ x) past last

  owed : (past : Past I R D P) (last : Option (Op I R D P)) → ((o : Op I R D P) → Gave past last o → IsLinks o) → Owed past last
  owed past last all = record {
    edge = λ t l w k g. all (AddEdge t l w) g;
    datum = λ t d k g. all (SetDatum t d) g;
    closed = λ t l k g w e. absurd e;
    asked = λ q g. all (Ask q) g;
    outcome = λ y g. all (End y) g;
    ended_edges = λ y t l g k w e. absurd e;
    ended_data = λ y t d g k e. absurd e;
  }

  -- what was given last is the link's, and so is what was given before
  all_given : (n : ℕ) (past : Past I R D P) → ((o : Op I R D P) (y : Reply I D P) → Contains past (o, y) → IsLinks o) → (o : Op I R D P) → Gave past (Some (op_at n)) o → IsLinks o
  all_given n past before o g = elim g [ inl e ↦ subst IsLinks (last_is (op_at n) o e) (op_is_links n) | inr k ↦ before o k.0 k.1 ]
    where
      last_is : (v o : Op I R D P) → Some v ≡ Some o → v ≡ o
      last_is v o e = cc

  first_owed : Owed [] (Some (op_at 0))
  first_owed = owed [] (Some (op_at 0)) (all_given 0 [] (λ o y c. absurd (nothing_in (o, y) c)))

  second_owed : (y : Reply I D P) → Owed ((op_at 0, y) ∷ []) (Some (op_at 1))
  second_owed y = owed ((op_at 0, y) ∷ []) (Some (op_at 1)) (all_given 1 ((op_at 0, y) ∷ []) (λ o w c. given_is o w (single (op_at 0, y) (o, w) c)))
    where
      given_is : (o : Op I R D P) (w : Reply I D P) → (let m : Op I R D P × Reply I D P = (o, w) in m) ≡ (op_at 0, y) → IsLinks o
      given_is o w e = subst IsLinks (sym (ap (λ (m : Op I R D P × Reply I D P). m.0) e)) (op_is_links 0)

  abbrev Due : ℕ → Option (Reply I D P) → Past I R D P → Option (Op I R D P) → Type 0
  Due n last past given = IsHanded z u past given last → Owed (with_last past given last) (Some (op_at n))

  second_due : (last : Option (Reply I D P)) → Due 1 last [] (Some (op_at 0))
  second_due None hand = absurd hand
  second_due (Some y) hand = second_owed y

  abbrev Owes : ℕ → Option (Reply I D P) → Op I R D P → Type 0
  Owes n last o = GivesOwed z u (λ g t l w. ⊥) (λ g t d. ⊥) (λ g q. q ≡ along s p) (λ g y. y ≡ x) (Stands n) last o

  link_owes : (n : ℕ) (last : Option (Reply I D P)) → Owes n last (op_at n)
  link_owes zero last past given g st hand alike = at (Due 0 last) [] None (λ h. first_owed) past given (st.1).0 (st.1).1 hand
  link_owes (suc zero) last past given g st hand alike = at (Due 1 last) [] (Some (op_at 0)) (second_due last) past given (st.1).0 (st.1).1 hand
  link_owes (suc (suc n)) last past given g st hand alike = absurd (ended past last (subst (λ (o : Option (Op I R D P)). IsHanded z u past o last) (st.1).2 hand))

  -- ---- by what the code knows

  pub goes_so : (n m : ℕ) (o : Op I R D P) (last : Option (Reply I D P)) → o ≡ op_at n → m ≡ n + 1 → GoesOn z u (Stands n) (Stands m) last o
  goes_so n m o last e f =
      let next : m ≡ suc n = omega (arith, f) in
      subst (λ (v : Op I R D P). GoesOn z u (Stands n) (Stands m) last v) (sym e) (subst (λ (k : ℕ). GoesOn z u (Stands n) (Stands k) last (op_at n)) (sym next) (link_goes n last))

  pub owes_so : (n : ℕ) (o : Op I R D P) (last : Option (Reply I D P)) → o ≡ op_at n → Owes n last o
  owes_so n o last e = subst (λ (v : Op I R D P). Owes n last v) (sym e) (link_owes n last)

-- ---- lists of new links

pub if_some : {X : Type 0} (P : X → Type 0) (o : Option X) (x : X) → o ≡ Some x → IfSome o P → P x
if_some {X} P o x is h = subst (λ (q : Option X). IfSome q P) is h

last_or_before : {X : Type 0} (xs : List X) (x : X) (i : ℕ) (y : X) → slice_get (xs ++ x ∷ []) i ≡ Some y → (slice_get xs i ≡ Some y) ⊎ ((i ≡ length xs) × (y ≡ x))
last_or_before [] x zero y e = inr (refl, (let k : x ≡ y = cc in sym k))
last_or_before [] x (suc i) y e = absurd (cc)
last_or_before (z ∷ xs) x zero y e = inl e
last_or_before (z ∷ xs) x (suc i) y e = elim (last_or_before xs x i y e) [ inl k ↦ inl k | inr k ↦ inr (ap suc k.0, k.1) ]

module _ {I D P V : Type 0} (number : V → ℕ) (looks : V → Scope) (given : V → ℕ) (core : V → CoreOf I ℕ D P) (c : CoreOf I ℕ D P) where
  abbrev Links : ℕ → List V → Type 0
  Links = AreNewLinks number looks given core c

  pub one_more_link : (n : ℕ) (vs new : List V) (v : V) → Links n vs → new ≡ vs ++ v ∷ [] → IsNewLink number looks given core c n v → Links (n + 1) new
  one_more_link n vs new v links is last = (
    ap length is ∙ length-append vs (v ∷ []) ∙ ap (λ (m : ℕ). m + 1) links.0,
    λ u w e. elim (last_or_before vs v u w (ap (λ (l : List V). slice_get l u) (sym is) ∙ e)) [
      | inl k ↦ links.1 u w k
      | inr k ↦ subst (λ (x : V). IsNewLink number looks given core c u x) (sym k.1) (subst (λ (m : ℕ). IsNewLink number looks given core c m v) (sym (k.0 ∙ links.0)) last)
    ],
  )

  -- new links are new units of a run that begins as their core does
  pub links_are_new : (p : P) (vs : List V) → Links (length c.opening.made) vs
      → AreNew {I = I} {R = ℕ} {D = D} {P = P} number (λ v. link_part (number v) (looks v) (core v).opening (core v).kinds) (λ f. f.2) (λ f. f.3) (λ v. LinkStands (core v).opening (core v).kinds (number v) (looks v) p (number v) (given v)) c.opening c.kinds vs
  links_are_new p vs links = (
    links.0,
    λ u v e. let k = links.1 u v e in (
      k.0,
      ap (λ (x : CoreOf I ℕ D P). x.opening) k.1,
      ap (λ (x : CoreOf I ℕ D P). x.kinds) k.1,
      (
        subst (λ (x : CoreOf I ℕ D P). CanAsk x.opening x.kinds (number v) (looks v)) (sym k.1) (subst (λ (m : ℕ). CanAsk c.opening c.kinds m (looks v)) (sym k.0) k.3),
        subst (λ (m : ℕ). let past : Past I ℕ D P = [] in GaveSo (looks v) p (number v) m past None) (sym k.2) (refl, refl),
      ),
    ),
  )
