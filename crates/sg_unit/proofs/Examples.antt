-- The small units are honest.
use Rattle.std.proofs.Common.{◌≡◌, ℕ, zero, suc, ◌<◌, List, [], ◌∷◌, Bool, Option, Some, None, inl, inr, refl, sym, ap, subst, arith, false}
use Rattle.std.specs.List.{Contains}
use Rattle.sg_base.specs.declared.scope.Scope.{Scope}
use Rattle.sg_base.proofs.Finite.{nothing_in, single, Contains-head, Contains-tail, Contains-cons}
use Rattle.sg_query.specs.declared.answer.Answer.TheVariants.{TooMany}
use Rattle.sg_state.specs.Held.{RowHold, HoldsRow}
use Rattle.sg_unit.specs.declared.op.Op.{Op}
use Rattle.sg_unit.specs.declared.op.Op.TheVariants.{Fresh, AddEdge, SetDatum, CloseRow, Ask, Advance, Take, End}
use Rattle.sg_unit.specs.declared.reply.Reply.{Reply}
use Rattle.sg_unit.specs.declared.reply.Reply.TheVariants.{Made, Done, Moved, Ready, Answer as Answered}
use Rattle.sg_unit.specs.Example.{corner, corner_query, one_step, pair, pair_setting, AskerStands, IsAskersEdge, MakerStands, desk_reply}
use Rattle.sg_unit.specs.Honest.{Gave, GivesResults}
use Rattle.sg_unit.specs.Own.{IsAdvanceReply, IsEndReply, CanReply}
use Rattle.sg_unit.specs.Run.{Setting, RunOf}
use Rattle.sg_unit.specs.Trace.{Past, with_last, MayGive, IsHanded}
use Rattle.sg_unit.specs.Unit.{setting_of, CanBeHanded, GoesOn, GivesOwed}

-- what holds at these holds at what equals them
at : {X Y : Type 0} (C : X → Y → Type 0) (a : X) (b : Y) → C a b → (x : X) (y : Y) → (x ≡ a) × (y ≡ b) → C x y
at {X} {Y} C a b c x y e = subst (λ (v : X). C v y) (sym e.0) (subst (λ (w : Y). C a w) (sym e.1) c)

holds_edge : (D : Type 0) → HoldsRow (pair {D = D}) 1 corner 0
holds_edge D = Contains-head (let k : RowHold = record { scope = corner; label = 0; unit = 1 } in k) []

module _ {I R D P : Type 0} (wants : P → D → Bool) (same : D → D → Bool) (p : P) (x : R) where
  abbrev the_ask : Op I R D P
  the_ask = Ask (corner_query p)

  abbrev the_edge : Op I R D P
  the_edge = AddEdge corner 0 corner

  abbrev the_end : Op I R D P
  the_end = End x

  -- what the unit gives after that many operations
  abbrev asker_op : ℕ → Op I R D P
  asker_op zero = the_ask
  asker_op (suc zero) = the_edge
  asker_op (suc (suc n)) = the_end

  abbrev Goal : ℕ → Option (Reply I D P) → Past I R D P → Option (Op I R D P) → Type 0
  Goal n last past given = IsHanded (pair_setting wants same) 1 past given last → AskerStands p x (suc n) (with_last past given last) (Some (asker_op n)) × MayGive (pair_setting wants same) 1 (with_last past given last) (asker_op n)

  first_goes : (last : Option (Reply I D P)) → Goal 0 last [] None
  first_goes last hand = ((refl, refl), (refl, (refl, omega arith, inl (Contains-head corner []))))

  second_goes : (last : Option (Reply I D P)) → Goal 1 last [] (Some the_ask)
  second_goes None hand = absurd hand
  second_goes (Some y) hand = ((y, refl, refl), (refl, (refl, holds_edge D, inl (Contains-head corner []))))

  third_goes : (y : Reply I D P) (last : Option (Reply I D P)) → Goal 2 last ((the_ask, y) ∷ []) (Some the_edge)
  third_goes y None hand = absurd hand
  third_goes y (Some w) hand = ((y, w, refl, refl), (refl, refl))

  no_more : (past : Past I R D P) (last : Option (Reply I D P)) → IsHanded (pair_setting wants same) 1 past (Some the_end) last → ⊥
  no_more past None hand = hand
  no_more past (Some w) hand = hand

  pub asker_goes : (n : ℕ) (last : Option (Reply I D P)) → GoesOn (pair_setting wants same) 1 (AskerStands p x n) (AskerStands p x (suc n)) last (asker_op n)
  asker_goes zero last past given s hand = at (Goal 0 last) [] None (first_goes last) past given s hand
  asker_goes (suc zero) last past given s hand = at (Goal 1 last) [] (Some the_ask) (second_goes last) past given s hand
  asker_goes (suc (suc zero)) last past given s hand = at (Goal 2 last) ((the_ask, s.0) ∷ []) (Some the_edge) (third_goes s.0 last) past given (s.1, s.2) hand
  asker_goes (suc (suc (suc n))) last past given s hand = absurd (no_more past last (subst (λ (o : Option (Op I R D P)). IsHanded (pair_setting wants same) 1 past o last) s.3 hand))

  pub asker_ends : (n : ℕ) (last : Option (Reply I D P)) → CanBeHanded (pair_setting wants same) 1 (AskerStands {I = I} {R = R} {D = D} p x n) last → n < 3
  asker_ends zero last h = omega arith
  asker_ends (suc zero) last h = omega arith
  asker_ends (suc (suc zero)) last h = omega arith
  asker_ends (suc (suc (suc n))) last h = absurd (no_more h.0 last (subst (λ (o : Option (Op I R D P)). IsHanded (pair_setting wants same) 1 h.0 o last) (h.2).3 h.3))

  -- ---- what it owes

  -- the operations of the unit
  abbrev IsAskers : Op I R D P → Type 0
  IsAskers (Fresh labels datum) = ⊥
  IsAskers (AddEdge from label to) = IsAskersEdge from label to
  IsAskers (SetDatum s d) = ⊥
  IsAskers (CloseRow s l) = ⊥
  IsAskers (Ask q) = q ≡ corner_query p
  IsAskers Advance = ⊥
  IsAskers Take = ⊥
  IsAskers (End y) = y ≡ x

  is_askers : (o a : Op I R D P) → IsAskers a → o ≡ a → IsAskers o
  is_askers o a i e = subst IsAskers (sym e) i

  abbrev Owed : Past I R D P → Option (Op I R D P) → Type 0
  Owed past last = GivesResults (pair_setting wants same) 1 IsAskersEdge (λ s d. ⊥) (λ q. q ≡ corner_query p) (λ y. y ≡ x) past last

  owed : (past : Past I R D P) (last : Option (Op I R D P)) → ((o : Op I R D P) → Gave past last o → IsAskers o) → ((y : R) → Gave past last (End y) → Gave past last the_edge) → Owed past last
  owed past last all ended = record {
    edge = λ s l t k g. all (AddEdge s l t) g;
    datum = λ s d k g. all (SetDatum s d) g;
    closed = λ s l k g. absurd (all (CloseRow s l) g);
    asked = λ q g. all (Ask q) g;
    outcome = λ y g. all (End y) g;
    ended_edges = λ y s l g k t e. subst (λ (a : Scope). Gave past last (AddEdge a l t)) (sym e.0) (subst (λ (n : ℕ). Gave past last (AddEdge corner n t)) (sym e.1) (subst (λ (a : Scope). Gave past last (AddEdge corner 0 a)) (sym e.2) (ended y g)));
    ended_data = λ y s d g k e. absurd e;
  }

  last_is : (o a : Op I R D P) → Some a ≡ Some o → o ≡ a
  last_is o a e = cc

  first_owed : Owed [] (Some the_ask)
  first_owed = owed [] (Some the_ask)
      (λ o g. elim g [ inl e ↦ is_askers o the_ask refl (last_is o the_ask e) | inr k ↦ absurd (nothing_in (o, k.0) k.1) ])
      (λ y g. elim g [ inl e ↦ absurd (let b = last_is (End y) the_ask e in cc) | inr k ↦ absurd (nothing_in (let a : Op I R D P = End y in a, k.0) k.1) ])

  given_is : (o a : Op I R D P) (v w : Reply I D P) → (let m : Op I R D P × Reply I D P = (o, v) in m) ≡ (a, w) → o ≡ a
  given_is o a v w e = ap (λ (m : Op I R D P × Reply I D P). m.0) e

  second_owed : (y : Reply I D P) → Owed ((the_ask, y) ∷ []) (Some the_edge)
  second_owed y = owed ((the_ask, y) ∷ []) (Some the_edge)
      (λ o g. elim g [
        | inl e ↦ is_askers o the_edge (refl, refl, refl) (last_is o the_edge e)
        | inr k ↦ is_askers o the_ask refl (given_is o the_ask k.0 y (single (the_ask, y) (o, k.0) k.1))
      ])
      (λ v g. inl refl)

  third_owed : (y w : Reply I D P) → Owed ((the_ask, y) ∷ (the_edge, w) ∷ []) (Some the_end)
  third_owed y w = owed ((the_ask, y) ∷ (the_edge, w) ∷ []) (Some the_end)
      (λ o g. elim g [
        | inl e ↦ is_askers o the_end refl (last_is o the_end e)
        | inr k ↦ elim (Contains-cons (the_ask, y) (o, k.0) ((the_edge, w) ∷ []) k.1) [
          | inl e ↦ is_askers o the_ask refl (given_is o the_ask k.0 y e)
          | inr m ↦ is_askers o the_edge (refl, refl, refl) (given_is o the_edge k.0 w (single (the_edge, w) (o, k.0) m))
        ]
      ])
      (λ v g. inr (w, Contains-tail (the_ask, y) (the_edge, w) ((the_edge, w) ∷ []) (Contains-head (the_edge, w) [])))

  abbrev Due : ℕ → Option (Reply I D P) → Past I R D P → Option (Op I R D P) → Type 0
  Due n last past given = IsHanded (pair_setting wants same) 1 past given last → Owed (with_last past given last) (Some (asker_op n))

  second_due : (last : Option (Reply I D P)) → Due 1 last [] (Some the_ask)
  second_due None hand = absurd hand
  second_due (Some y) hand = second_owed y

  third_due : (y : Reply I D P) (last : Option (Reply I D P)) → Due 2 last ((the_ask, y) ∷ []) (Some the_edge)
  third_due y None hand = absurd hand
  third_due y (Some w) hand = third_owed y w

  pub asker_owes : (n : ℕ) (last : Option (Reply I D P)) → GivesOwed (pair_setting wants same) 1 (λ g. IsAskersEdge) (λ g s d. ⊥) (λ g q. q ≡ corner_query p) (λ g y. y ≡ x) (AskerStands p x n) last (asker_op n)
  asker_owes zero last past given g s hand alike = at (Due 0 last) [] None (λ h. first_owed) past given s hand
  asker_owes (suc zero) last past given g s hand alike = at (Due 1 last) [] (Some the_ask) (second_due last) past given s hand
  asker_owes (suc (suc zero)) last past given g s hand alike = at (Due 2 last) ((the_ask, s.0) ∷ []) (Some the_edge) (third_due s.0 last) past given (s.1, s.2) hand
  asker_owes (suc (suc (suc n))) last past given g s hand alike = absurd (no_more past last (subst (λ (o : Option (Op I R D P)). IsHanded (pair_setting wants same) 1 past o last) s.3 hand))

  -- ---- at a number that is known by tests

  pub goes_second : (n l : ℕ) → n ≡ 1 → l ≡ 0 → (last : Option (Reply I D P)) → GoesOn (pair_setting wants same) 1 (AskerStands p x n) (AskerStands p x 2) last (AddEdge corner l corner)
  goes_second n l e label last =
      subst (λ (k : ℕ). GoesOn (pair_setting wants same) 1 (AskerStands p x n) (AskerStands p x 2) last (let o : Op I R D P = AddEdge corner k corner in o)) (sym label)
      (subst (λ (m : ℕ). GoesOn (pair_setting wants same) 1 (AskerStands p x m) (AskerStands p x 2) last the_edge) (sym e) (asker_goes 1 last))

  pub goes_last : (n : ℕ) → (n ≡ 0 → ⊥) → (n ≡ 1 → ⊥) → (last : Option (Reply I D P)) → GoesOn (pair_setting wants same) 1 (AskerStands p x n) (AskerStands p x 3) last the_end
  goes_last zero a b last = absurd (a refl)
  goes_last (suc zero) a b last = absurd (b refl)
  goes_last (suc (suc zero)) a b last = asker_goes 2 last
  goes_last (suc (suc (suc n))) a b last = λ past given s hand. absurd (no_more past last (subst (λ (o : Option (Op I R D P)). IsHanded (pair_setting wants same) 1 past o last) s.3 hand))

  pub owes_last : (n : ℕ) → (n ≡ 0 → ⊥) → (n ≡ 1 → ⊥) → (last : Option (Reply I D P)) → GivesOwed (pair_setting wants same) 1 (λ g. IsAskersEdge) (λ g s d. ⊥) (λ g q. q ≡ corner_query p) (λ g y. y ≡ x) (AskerStands p x n) last the_end
  owes_last zero a b last = absurd (a refl)
  owes_last (suc zero) a b last = absurd (b refl)
  owes_last (suc (suc n)) a b last = asker_owes (suc (suc n)) last

  -- ---- what it can be handed

  pub handed_done : (woken : List ℕ) → woken ≡ [] → CanBeHanded (pair_setting wants same) 1 (AskerStands {I = I} {R = R} {D = D} p x 2) (Some (Done woken))
  handed_done woken none = ((the_ask, Moved) ∷ [], Some the_edge, (Moved, refl, refl), ap (λ (ws : List ℕ). let y : Reply I D P = Done ws in y) none)

-- ---- the unit that makes scopes

module _ {I R D P : Type 0} (wants : P → D → Bool) (same : D → D → Bool) (x : R) where
  abbrev fresh_one : ℕ → Op I R D P
  fresh_one a = Fresh a false

  abbrev made_end : Op I R D P
  made_end = End x

  abbrev Makes : ℕ → Op I R D P → Option (Reply I D P) → Past I R D P → Option (Op I R D P) → Type 0
  Makes n op last past given = IsHanded (pair_setting wants same) 0 past given last → MakerStands x (suc n) (with_last past given last) (Some op) × MayGive (pair_setting wants same) 0 (with_last past given last) op

  first_made : (a : ℕ) (last : Option (Reply I D P)) → Makes 0 (fresh_one a) last [] None
  first_made a last hand = ((a, refl, refl), (refl, (refl, omega arith)))

  second_made : (a b : ℕ) (last : Option (Reply I D P)) → Makes 1 (fresh_one b) last [] (Some (fresh_one a))
  second_made a b None hand = absurd hand
  second_made a b (Some y) hand = ((a, b, y, refl, refl), (refl, (refl, omega arith)))

  third_made : (a b : ℕ) (y : Reply I D P) (last : Option (Reply I D P)) → Makes 2 made_end last ((fresh_one a, y) ∷ []) (Some (fresh_one b))
  third_made a b y None hand = absurd hand
  third_made a b y (Some w) hand = ((a, b, y, w, refl, refl), (refl, refl))

  over : (past : Past I R D P) (last : Option (Reply I D P)) → IsHanded (pair_setting wants same) 0 past (Some made_end) last → ⊥
  over past None hand = hand
  over past (Some w) hand = hand

  pub makes_first : (n a : ℕ) → n ≡ 0 → (last : Option (Reply I D P)) → GoesOn (pair_setting wants same) 0 (MakerStands x n) (MakerStands x 1) last (fresh_one a)
  makes_first zero a e last past given s hand = at (Makes 0 (fresh_one a) last) [] None (first_made a last) past given s hand
  makes_first (suc n) a e last past given s hand = absurd (cc)

  pub makes_second : (n b : ℕ) → n ≡ 1 → (last : Option (Reply I D P)) → GoesOn (pair_setting wants same) 0 (MakerStands x n) (MakerStands x 2) last (fresh_one b)
  makes_second zero b e last past given s hand = absurd (cc)
  makes_second (suc zero) b e last past given s hand = at (Makes 1 (fresh_one b) last) [] (Some (fresh_one s.0)) (second_made s.0 b last) past given (s.1, s.2) hand
  makes_second (suc (suc n)) b e last past given s hand = absurd (cc)

  pub makes_last : (n : ℕ) → (n ≡ 0 → ⊥) → (n ≡ 1 → ⊥) → (last : Option (Reply I D P)) → GoesOn (pair_setting wants same) 0 (MakerStands x n) (MakerStands x 3) last made_end
  makes_last zero a b last past given s hand = absurd (a refl)
  makes_last (suc zero) a b last past given s hand = absurd (b refl)
  makes_last (suc (suc zero)) a b last past given s hand = at (Makes 2 made_end last) ((fresh_one s.0, s.2) ∷ []) (Some (fresh_one s.1)) (third_made s.0 s.1 s.2 last) past given (s.3, s.4) hand
  makes_last (suc (suc (suc n))) a b last past given s hand = absurd (over past last (subst (λ (o : Option (Op I R D P)). IsHanded (pair_setting wants same) 0 past o last) s.5 hand))

  -- ---- what it owes: nothing but what it comes to

  abbrev IsMakers : Op I R D P → Type 0
  IsMakers (Fresh labels datum) = Unit {0}
  IsMakers (AddEdge from label to) = ⊥
  IsMakers (SetDatum s d) = ⊥
  IsMakers (CloseRow s l) = ⊥
  IsMakers (Ask q) = ⊥
  IsMakers Advance = ⊥
  IsMakers Take = ⊥
  IsMakers (End y) = y ≡ x

  abbrev AllMade : Past I R D P → Option (Op I R D P) → Type 0
  AllMade past last = GivesResults (pair_setting wants same) 0 (λ s l t. ⊥) (λ s d. ⊥) (λ q. ⊥) (λ y. y ≡ x) past last

  made : (past : Past I R D P) (last : Option (Op I R D P)) → ((o : Op I R D P) → Gave past last o → IsMakers o) → AllMade past last
  made past last all = record {
    edge = λ s l t k g. all (AddEdge s l t) g;
    datum = λ s d k g. all (SetDatum s d) g;
    closed = λ s l k g. absurd (all (CloseRow s l) g);
    asked = λ q g. all (Ask q) g;
    outcome = λ y g. all (End y) g;
    ended_edges = λ y s l g k t e. absurd e;
    ended_data = λ y s d g k e. absurd e;
  }

  made_last : (past : Past I R D P) (a : Op I R D P) → IsMakers a → ((o : Op I R D P) (y : Reply I D P) → Contains past (o, y) → IsMakers o) → AllMade past (Some a)
  made_last past a i all = made past (Some a) (λ o g. elim g [ inl e ↦ subst IsMakers (sym (last_of o a e)) i | inr k ↦ all o k.0 k.1 ])
    where
      last_of : (o a : Op I R D P) → Some a ≡ Some o → o ≡ a
      last_of o a e = cc

  fresh_in : (a : ℕ) (y : Reply I D P) (o : Op I R D P) (w : Reply I D P) → (let m : Op I R D P × Reply I D P = (o, w) in m) ≡ (fresh_one a, y) → IsMakers o
  fresh_in a y o w e = subst IsMakers (sym (ap (λ (m : Op I R D P × Reply I D P). m.0) e)) tt

  abbrev MakesDue : Op I R D P → Option (Reply I D P) → Past I R D P → Option (Op I R D P) → Type 0
  MakesDue op last past given = IsHanded (pair_setting wants same) 0 past given last → AllMade (with_last past given last) (Some op)

  after_one : (a : ℕ) (op : Op I R D P) → IsMakers op → (last : Option (Reply I D P)) → MakesDue op last [] (Some (fresh_one a))
  after_one a op i None hand = absurd hand
  after_one a op i (Some y) hand = made_last ((fresh_one a, y) ∷ []) op i (λ o w c. fresh_in a y o w (single (fresh_one a, y) (o, w) c))

  after_two : (a b : ℕ) (y : Reply I D P) (op : Op I R D P) → IsMakers op → (last : Option (Reply I D P)) → MakesDue op last ((fresh_one a, y) ∷ []) (Some (fresh_one b))
  after_two a b y op i None hand = absurd hand
  after_two a b y op i (Some v) hand = made_last ((fresh_one a, y) ∷ (fresh_one b, v) ∷ []) op i (λ o w c. elim (Contains-cons (fresh_one a, y) (o, w) ((fresh_one b, v) ∷ []) c) [
    | inl e ↦ fresh_in a y o w e
    | inr m ↦ fresh_in b v o w (single (fresh_one b, v) (o, w) m)
  ])

  pub maker_owes : (n : ℕ) (op : Op I R D P) → IsMakers op → (last : Option (Reply I D P)) → GivesOwed (pair_setting wants same) 0 (λ g s l t. ⊥) (λ g s d. ⊥) (λ g q. ⊥) (λ g y. y ≡ x) (MakerStands x n) last op
  maker_owes zero op i last past given g s hand alike = at (MakesDue op last) [] None (λ h. made_last [] op i (λ o w c. absurd (nothing_in (o, w) c))) past given s hand
  maker_owes (suc zero) op i last past given g s hand alike = at (MakesDue op last) [] (Some (fresh_one s.0)) (after_one s.0 op i last) past given (s.1, s.2) hand
  maker_owes (suc (suc zero)) op i last past given g s hand alike = at (MakesDue op last) ((fresh_one s.0, s.2) ∷ []) (Some (fresh_one s.1)) (after_two s.0 s.1 s.2 op i last) past given (s.3, s.4) hand
  maker_owes (suc (suc (suc n))) op i last past given g s hand alike = absurd (over past last (subst (λ (o : Option (Op I R D P)). IsHanded (pair_setting wants same) 0 past o last) s.5 hand))

  -- ---- what it can be handed

  pub handed_first : CanBeHanded (pair_setting wants same) 0 (MakerStands {I = I} x 1) (Some (Made (record { unit = 0; serial = 0 })))
  handed_first = ([], Some (fresh_one 0), (0, refl, refl), refl)

  pub handed_second : CanBeHanded (pair_setting wants same) 0 (MakerStands {I = I} x 2) (Some (Made (record { unit = 0; serial = 1 })))
  handed_second = ((fresh_one 0, Moved) ∷ [], Some (fresh_one 0), (0, 0, Moved, refl, refl), refl)

-- ---- the desk

some_reply : {I D P : Type 0} (y w : Reply I D P) → Some y ≡ Some w → w ≡ y
some_reply y w e = cc

module _ {I R D P : Type 0} where
  pub desk_can_reply : (r : RunOf D P) (u : ℕ) (op : Op I R D P) (y : Reply I D P) → desk_reply op ≡ Some y → CanReply r u op y
  desk_can_reply r u (Fresh labels datum) y e = absurd (cc)
  desk_can_reply r u (AddEdge from label to) y e = some_reply (Done []) y e
  desk_can_reply r u (SetDatum s d) y e = ([], some_reply (Done []) y e)
  desk_can_reply r u (CloseRow s l) y e = ([], some_reply (Done []) y e)
  desk_can_reply r u (Ask q) y e = some_reply Moved y e
  desk_can_reply r u Advance y e = subst IsAdvanceReply (sym (some_reply Ready y e)) tt
  desk_can_reply r u Take y e = (TooMany, some_reply (Answered TooMany) y e)
  desk_can_reply r u (End x) y e = subst IsEndReply (sym (some_reply (Done []) y e)) tt
