-- What small runs tell apart.
use Rattle.std.proofs.Common.{◌≡◌, ℕ, ◌<◌, List, [], ◌∷◌, Bool, IsTrue, refl, sym, ap, subst, arith, ltb-true}
use Rattle.std.specs.List.{Contains}
use Rattle.sg_base.specs.List.{MoreThan}
use Rattle.sg_base.specs.State.{IsOpen}
use Rattle.sg_base.proofs.Finite.{nothing_in, single, Contains-head}
use Rattle.sg_query.specs.declared.query.Query.{Query}
use Rattle.sg_query.specs.State.{IsItem, IsSettled, RowBlocks}
use Rattle.sg_state.specs.declared.need.Need.TheVariants.{Row}
use Rattle.sg_state.specs.Held.{HeldOf, RowHold, HoldsRow, state_of, without_row}
use Rattle.sg_state.proofs.Extending.{open_to}
use Rattle.sg_unit.specs.declared.entry.Entry.{Entry}
use Rattle.sg_unit.specs.declared.op.Op.TheVariants.{AddEdge, CloseRow, Ask, Advance, Take, End}
use Rattle.sg_unit.specs.declared.reply.Reply.{Reply}
use Rattle.sg_unit.specs.declared.reply.Reply.TheVariants.{Made, Done, Moved, Ready, Suspended, Answer as Answered, Stuck}
use Rattle.sg_unit.specs.Bound.{item_bound}
use Rattle.sg_unit.specs.Example.{corner, corner_query, lonely, lonely_setting, pair, pair_setting, pair_log}
use Rattle.sg_unit.specs.Law.{LonelyUnitsGetStuck, AskersDoNotEnd, HoldersAloneAdd, WaitersAreWoken, AnswersAreHanded}
use Rattle.sg_unit.specs.Run.{Setting, RunOf, asked_by, opened, after, run_of}
use Rattle.sg_unit.specs.Step.{Advances}
use Rattle.sg_unit.specs.Waiting.{IsStuck, Wakes}
use Rattle.sg_unit.proofs.Falling.{items_are_few}
use Rattle.sg_unit.proofs.Lonely.{lonely_opens, not_settled}
use Rattle.sg_unit.proofs.Steps.{was_live}

-- ---- a unit that waits for itself

module _ (I R D P : Type 0) (wants : P → D → Bool) (same : D → D → Bool) (p : P) where
  abbrev first : Query P
  first = corner_query p

  abbrev asked_run : RunOf D P
  asked_run = after (opened (lonely_setting wants same)) (let e : Entry I R D P = record { unit = 0; op = Ask first; reply = Moved } in e)

  suspended_is_stuck : IsStuck (after asked_run (let e : Entry I R D P = record { unit = 0; op = Advance; reply = Suspended } in e))
  suspended_is_stuck =
      let e1 : Entry I R D P = record { unit = 0; op = Ask first; reply = Moved } in
      let e2 : Entry I R D P = record { unit = 0; op = Advance; reply = Suspended } in
      let start : RunOf D P = opened (lonely_setting wants same) in
      let last : RunOf D P = after (after start e1) e2 in
      let below : (u : ℕ) → IsTrue (last.live u) → u < 1 = λ u l. ltb-true u 1 (was_live (lonely_setting wants same) start e1 u (was_live (lonely_setting wants same) (after start e1) e2 u l)) in
      ((0, refl), (λ u l. let b = below u l in let zero_is : 0 ≡ u = omega (arith, b) in subst (λ (n : ℕ). IsTrue (last.waits n)) zero_is refl))

  few_items : MoreThan 64 (IsItem (state_of (lonely {D = D})) (asked_by (lonely_setting wants same) first)) → ⊥
  few_items more =
      let lt : 64 < item_bound (lonely {D = D}).graph (asked_by (lonely_setting wants same) first).expr =
      items_are_few D (state_of (lonely {D = D})) (asked_by (lonely_setting wants same) first) 64 ((lonely_opens D).held).graph (Contains-head corner []) more in
      let two : 64 < 2 = lt in
      absurd (omega (arith, two))

  replied : (y : Reply I D P) → Advances (lonely_setting wants same) asked_run (after asked_run (let e : Entry I R D P = record { unit = 0; op = Advance; reply = y } in e)) 0 first 0 y → y ≡ Stuck
  replied Ready k = absurd (not_settled wants same p k)
  replied Moved k = absurd (few_items k.1)
  replied Suspended k = absurd (k.1 suspended_is_stuck)
  replied Stuck k = refl
  replied (Made s) k = absurd k
  replied (Done woken) k = absurd k
  replied (Answered a) k = absurd k

pub lonely_get_stuck : (I R D P : Type 0) → LonelyUnitsGetStuck I R D P
lonely_get_stuck I R D P wants same p y run = replied I R D P wants same p y (((run.1).0).replies (corner_query p) 0 refl)

pub askers_do_not_end : (I R D P : Type 0) → AskersDoNotEnd I R D P
askers_do_not_end I R D P wants same p x y run = absurd (let free = (((run.1).0).may).1 in cc)

-- ---- two units

pub holders_alone_add : (I R D P : Type 0) → HoldersAloneAdd I R D P
holders_alone_add I R D P wants same x y = (
  (λ run. let held = (((run.0).may).1).1 in not_held held),
  (λ may. nothing_in (let k : RowHold = record { scope = corner; label = 0; unit = 1 } in k) (may.1).1),
  refl,
)
  where
    not_held : HoldsRow (pair {D = D}) 0 corner 0 → ⊥
    not_held c =
        let e = single (let k : RowHold = record { scope = corner; label = 0; unit = 1 } in k) (record { scope = corner; label = 0; unit = 0 }) c in
        let u : 0 ≡ 1 = ap (λ (k : RowHold). k.unit) e in
        absurd (omega (arith, u))

pub waiters_are_woken : (I R D P : Type 0) → WaitersAreWoken I R D P
waiters_are_woken I R D P wants same p woken is_woken = (is_woken.1 0).1 wakes
  where
    blocks : RowBlocks (state_of (pair {D = D})) (asked_by (pair_setting wants same) (corner_query p)) corner 0
    blocks = ([], ((tt, ((λ c. nothing_in corner c), tt)), tt), refl, ([], refl), open_to (pair {D = D}) 1 corner 0 (Contains-head (let k : RowHold = record { scope = corner; label = 0; unit = 1 } in k) []))

    wakes : Wakes (pair_setting wants same) (run_of (pair_setting wants same) (let log : List (Entry I R D P) = pair_log p in log)) (without_row (pair {D = D}) 1 corner 0) 0
    wakes = (Row corner 0, (refl, (corner_query p, 0, refl, blocks)), (λ open_now. nothing_in (corner, 0) open_now))

pub answers_are_handed : (I R D P : Type 0) → AnswersAreHanded I R D P
answers_are_handed I R D P p a = refl
