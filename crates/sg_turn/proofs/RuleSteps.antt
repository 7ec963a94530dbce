-- Each step of the table keeps the rule.
use Rattle.std.proofs.Common.{◌≡◌, ◌≢◌, ℕ, ◌+◌, ◌%◌, ◌^◌, ◌<◌, ◌≤◌, List, [], ◌∷◌, ◌++◌, length, get_or, set, sym, refl, ap, ◌∙◌, subst, inl, inr, ◌⊎◌, ⊎_elim, arith, length-set, length-append}
use Rattle.std.specs.Prelude.{◌==◌, Option, Some, None, IsSome, All}
use prog.Atomic.{either}
use Rattle.std.proofs.lemmas.List.Elements.{All-cons, All-nil}
use Rattle.std.proofs.lemmas.List.{append-nil}
use Rattle.std.proofs.Math.Nat.{mod-eq_of_lt}
use mathlib.Core.Option as maybe
use mathlib.Core.Option.{some-injective, some-ne-none}
use mathlib.Core.Logic.{dite}
use native.Mathlib.Decide.{ℕ_discrete}
use lib.ListN.{get_elem?}
use Rattle.atomic_table.specs.Table.{State, Me, Step, step, Act, keeps, takes, gives, stepped, Valid, homes_after, carried_after, rest, Allows, Splits, Joins, Final, Seen}
use Rattle.atomic_table.proofs.Lists.{at_set, set_again, set_here, set_else, at_longer, exchanged}
use Rattle.sg_turn.specs.declared.stage.Stage.{Stage}
use Rattle.sg_turn.specs.declared.stage.Stage.TheVariants.{Outside, Drawn, Inside, Spent, Joined}
use Rattle.sg_turn.specs.declared.view.View.{View}
use Rattle.sg_turn.specs.Entries.{Begins, told_by}
use Rattle.sg_turn.specs.Stage.{draws_at, live_at, Has, IsFree}
use Rattle.sg_turn.specs.View.{joined_view, former_maker, new_maker, gathering_view, draw_count, live_count, weight, total}
use Rattle.sg_turn.specs.Rule.{SeatKnows, Knows, IsPlaced, IsRuled, IsInTurn, TicketsFit}
use Rattle.sg_turn.specs.Steps.{Looks, Draws, Ends, Serves, Marks, Gives, StepsKeepRule}
use Rattle.sg_turn.proofs.Lists.{at_below, same_at, at_one, each_set, at_end, at_both}
use Rattle.sg_turn.proofs.EntryLists.{begins_more, told_same, told_other, none_or_some, not_longer, same_behind}
use Rattle.sg_turn.proofs.Views.{draws_one, no_ticket, free_live, total_set, total_snoc, total_le, not_inside, not_joined, alone}
use Rattle.sg_turn.proofs.Slots.{same_slot}

module _ {S E R : Type 0} (entries : S → List E) (root : S → R) (teller : E → ℕ) (base : R) (seats : ℕ) where
  abbrev W : Type 0
  W = View E R

  abbrev Rule : State (Option S) (View E R) → Type 0
  Rule = IsInTurn entries root teller base seats

  -- a ticket that is out is at least the served one, and was drawn
  has_in : (log : List E) (next serving : ℕ) (vs : List (View E R)) (j : ℕ) (v : View E R) (st : Stage) (t : ℕ) → Knows entries root teller base seats log next serving vs j v st → Has st t → serving ≤ next → (serving ≤ t) × (t < next)
  has_in log next serving vs j v Outside t k h o = absurd h
  has_in log next serving vs j v (Drawn u) t k h o = let a = k.1 in let b = k.2 in let e : u ≡ t = h in (omega arith, omega arith)
  has_in log next serving vs j v (Inside u) t k h o = let a = k.1 in let b = k.2 in let e : u ≡ t = h in (omega arith, omega arith)
  has_in log next serving vs j v Spent t k h o = absurd h
  has_in log next serving vs j v Joined t k h o = absurd h

  clash_at : (log : List E) (next serving : ℕ) (vs : List (View E R)) (home : maybe.Option (Option S)) → IsRuled entries root teller base seats log next serving vs home → (i : ℕ) (v : View E R) → get_elem? vs i ≡ maybe.some v
      → (j : ℕ) (x : View E R) (t : ℕ) → j ≢ i → get_elem? vs j ≡ maybe.some x → Has x.stage t → Has v.stage t ⊎ (next ≤ t) → ⊥
  clash_at log next serving vs home r i v at j x t not there h f = ⊎_elim (λ (g : Has v.stage t). not (r.apart j i t x v there at h g))
      (λ (g : next ≤ t). let k = has_in log next serving vs j x x.stage t (r.each j x there) h r.order in omega arith) f

  -- what is known of a seat, from what is known of it whatever its stage
  knows_via : (log : List E) (next serving : ℕ) (vs vs' : List (View E R)) (j : ℕ) (x : View E R) → (SeatKnows entries root teller base log vs j x → SeatKnows entries root teller base log vs' j x)
      → (st : Stage) → Knows entries root teller base seats log next serving vs j x st → Knows entries root teller base seats log next serving vs' j x st
  knows_via log next serving vs vs' j x f Outside k = f k
  knows_via log next serving vs vs' j x f (Drawn t) k = (f k.0, k.1, k.2)
  knows_via log next serving vs vs' j x f (Inside t) k = (f k.0, k.1, k.2, k.3)
  knows_via log next serving vs vs' j x f Spent k = f k
  knows_via log next serving vs vs' j x f Joined k = k

  -- of a live seat
  known_seat : (log : List E) (next serving : ℕ) (vs : List (View E R)) (j : ℕ) (x : View E R) (st : Stage) → IsFree st → Knows entries root teller base seats log next serving vs j x st → SeatKnows entries root teller base log vs j x
  known_seat log next serving vs j x Outside f k = k
  known_seat log next serving vs j x (Drawn t) f k = absurd f
  known_seat log next serving vs j x (Inside t) f k = absurd f
  known_seat log next serving vs j x Spent f k = k
  known_seat log next serving vs j x Joined f k = absurd f

  seat_knows : (log : List E) (next serving : ℕ) (vs : List (View E R)) (j : ℕ) (x : View E R) (st : Stage) → IsFree st → SeatKnows entries root teller base log vs j x → Knows entries root teller base seats log next serving vs j x st
  seat_knows log next serving vs j x Outside f k = k
  seat_knows log next serving vs j x (Drawn t) f k = absurd f
  seat_knows log next serving vs j x (Inside t) f k = absurd f
  seat_knows log next serving vs j x Spent f k = k
  seat_knows log next serving vs j x Joined f k = absurd f

  -- what others know stays when the live seat i, of the view v, moves on to w
  module _ (log log' : List E) (next serving next' serving' : ℕ) (vs : List (View E R)) (i : ℕ) (v w : View E R)
      (at : get_elem? vs i ≡ maybe.some v) (was_live : live_count v ≡ 1) (is_live : live_count w ≡ 1) (own : v.number ≡ i) (same_kept : w.kept ≡ v.kept)
      (begins : (seen : List E) → Begins seen log → Begins seen log')
      (others : (n : ℕ) → n ≢ v.number → told_by teller n log' ≡ told_by teller n log)
      (drawn : (t : ℕ) → ¬ (Has v.stage t) → serving ≤ t → t < next → (serving' ≤ t) × (t < next'))
      (inside : (t : ℕ) → ¬ (Has v.stage t) → t ≡ serving → t < next → (t ≡ serving') × (t < next') × (log ≡ log')) where
    kept_stays : (kept : List (ℕ × List E)) → ((n : ℕ) (es : List E) (q : ℕ) → get_elem? kept q ≡ maybe.some (n, es) → (told_by teller n log ≡ es) × (get_elem? vs n ≡ maybe.some joined_view))
        → (n : ℕ) (es : List E) (q : ℕ) → get_elem? kept q ≡ maybe.some (n, es) → (told_by teller n log' ≡ es) × (get_elem? (set vs i w) n ≡ maybe.some joined_view)
    kept_stays kept k n es q e = let f = k n es q e in
        let other : n ≢ v.number = λ is. let there : get_elem? vs i ≡ maybe.some joined_view = subst (λ (z : ℕ). get_elem? vs z ≡ maybe.some joined_view) (is ∙ own) f.1 in
        let gone = ap live_count (same_at vs i v joined_view at there) in omega arith in
        (others n other ∙ f.0, set_else vs i n w (λ is. other (is ∙ sym own)) ∙ f.1)

    maker_stays : (made j : ℕ) → (0 < made → (made ≡ j + 1) × (made ≡ length vs)) → 0 < made → (made ≡ j + 1) × (made ≡ length (set vs i w))
    maker_stays made j k h = let f = k h in (f.0, f.1 ∙ sym (length-set vs i w))

    seat_stays : (j : ℕ) (x : View E R) → j ≢ i → SeatKnows entries root teller base log vs j x → SeatKnows entries root teller base log' (set vs i w) j x
    seat_stays j x not k = record {
      numbered = k.numbered;
      rooted = k.rooted;
      begins = begins x.seen k.begins;
      own = others x.number (λ e. not (sym k.numbered ∙ (e ∙ own))) ∙ k.own;
      maker = maker_stays x.made j k.maker;
      kept = kept_stays x.kept k.kept;
    }

    knows_stays : (j : ℕ) (x : View E R) → j ≢ i → ((t : ℕ) → Has x.stage t → ¬ (Has v.stage t)) → (st : Stage) → x.stage ≡ st
        → Knows entries root teller base seats log next serving vs j x st → Knows entries root teller base seats log' next' serving' (set vs i w) j x st
    knows_stays j x not apart Outside is k = seat_stays j x not k
    knows_stays j x not apart (Drawn t) is k = let free = apart t (subst (λ (z : Stage). Has z t) (sym is) refl) in let d = drawn t free k.1 k.2 in (seat_stays j x not k.0, d.0, d.1)
    knows_stays j x not apart (Inside t) is k = let free = apart t (subst (λ (z : Stage). Has z t) (sym is) refl) in let d = inside t free k.1 k.2 in (seat_stays j x not k.0, d.0, d.1, k.3 ∙ d.2)
    knows_stays j x not apart Spent is k = seat_stays j x not k
    knows_stays j x not apart Joined is k = k

    -- the rule after the move
    moved : (home home' : maybe.Option (Option S)) → IsRuled entries root teller base seats log next serving vs home
        → serving' ≤ next' → length log' < 2 ^ 63 → next' + length log + draw_count v ≤ next + length log' + draw_count w
        → IsPlaced entries root teller base seats log' next' serving' (set vs i w) home'
        → SeatKnows entries root teller base log vs i v → w.number ≡ v.number → w.root ≡ v.root → w.made ≡ v.made → Begins w.seen log' → told_by teller v.number log' ≡ w.mine
        → (SeatKnows entries root teller base log' (set vs i w) i w → Knows entries root teller base seats log' next' serving' (set vs i w) i w w.stage)
        → ((t : ℕ) → Has w.stage t → Has v.stage t ⊎ (next ≤ t))
        → ((t : ℕ) → serving' ≤ t → t < next' → Has w.stage t ⊎ ((serving ≤ t) × (t < next) × ¬ (Has v.stage t)))
        → IsRuled entries root teller base seats log' next' serving' (set vs i w) home'
    moved home home' r order short drawn place seat number rooted made sees owns knows fresh out = let mine = knows record {
      numbered = number ∙ seat.numbered;
      rooted = rooted ∙ seat.rooted;
      begins = sees;
      own = ap (λ (z : ℕ). told_by teller z log') number ∙ owns;
      maker = subst (λ (z : ℕ). 0 < z → (z ≡ i + 1) × (z ≡ length (set vs i w))) (sym made) (maker_stays v.made i seat.maker);
      kept = kept_stays w.kept (subst (λ (z : List (ℕ × List E)). (n : ℕ) (es : List E) (q : ℕ) → get_elem? z q ≡ maybe.some (n, es) → (told_by teller n log ≡ es) × (get_elem? vs n ≡ maybe.some joined_view)) (sym same_kept) seat.kept);
    } in record {
      order = order;
      short = short;
      few = (subst (λ (z : ℕ). z ≤ seats) (sym (length-set vs i w)) r.few.0, r.few.1);
      weights = let s = total_set weight vs i v w at in let e = ap length same_kept in let l = length-set vs i w in let t = r.weights in omega arith;
      drawn = let s = total_set draw_count vs i v w at in let d = r.drawn in omega arith;
      place = place;
      strangers = λ n h. let s = length-set vs i w in let b = at_below vs i v at in others n (λ e. omega arith) ∙ r.strangers n (omega arith);
      each = each_set (λ j x. Knows entries root teller base seats log' next' serving' (set vs i w) j x x.stage) vs i w mine
          (λ j x not there. knows_stays j x not (λ t h h'. not (r.apart j i t x v there at h h')) x.stage refl (r.each j x there));
      held = λ t a b. ⊎_elim
          (λ (h : Has w.stage t). (i, w, set_here vs i w (at_below vs i v at), h))
          (λ (h : (serving ≤ t) × (t < next) × ¬ (Has v.stage t)). let there = r.held t h.0 h.1 in
          (there.0, there.1, set_else vs i there.0 w (λ e. h.2 (subst (λ (z : View E R). Has z.stage t) (same_at vs i there.1 v (subst (λ (z : ℕ). get_elem? vs z ≡ maybe.some there.1) e there.2) at) there.3)) ∙ there.2, there.3))
          (out t a b);
      apart = λ a b t x y ea eb ha hb. ⊎_elim
          (λ (ta : (a ≡ i) × (w ≡ x)). ⊎_elim (λ (tb : (b ≡ i) × (w ≡ y)). ta.0 ∙ sym tb.0)
          (λ (tb : (b ≢ i) × (get_elem? vs b ≡ maybe.some y)). absurd (clash_at log next serving vs home r i v at b y t tb.0 tb.1 hb (fresh t (subst (λ (z : View E R). Has z.stage t) (sym ta.1) ha)))) (at_set vs i b w y eb))
          (λ (ta : (a ≢ i) × (get_elem? vs a ≡ maybe.some x)). ⊎_elim (λ (tb : (b ≡ i) × (w ≡ y)). absurd (clash_at log next serving vs home r i v at a x t ta.0 ta.1 ha (fresh t (subst (λ (z : View E R). Has z.stage t) (sym tb.1) hb))))
          (λ (tb : (b ≢ i) × (get_elem? vs b ≡ maybe.some y)). r.apart a b t x y ta.1 tb.1 ha hb) (at_set vs i b w y eb))
          (at_set vs i a w x ea);
    }

  -- a step on the table with these words and this slot
  at_table : (s : State (Option S) (View E R)) (r : Rule s) (id i : ℕ) (me : Me (Option S) (View E R)) (f : ℕ → ℕ) (then : ℕ → Me (Option S) (View E R) → Type 0)
      → ((w : View E R) × (a : Act (Option S)) × Valid (r.home ∷ []) me.1 a
      × Rule record { words = set (r.next ∷ r.serving ∷ r.asleep ∷ []) i (f (get_or (r.next ∷ r.serving ∷ r.asleep ∷ []) i 0)); homes = homes_after (r.home ∷ []) me.1 a; views = set s.views id w }
      × then (get_or (r.next ∷ r.serving ∷ r.asleep ∷ []) i 0) (w, carried_after me.1 a))
      → (w : View E R) × (a : Act (Option S)) × Valid s.homes me.1 a × Rule (stepped s i (f (get_or s.words i 0)) id me.1 w a) × then (get_or s.words i 0) (w, carried_after me.1 a)
  at_table s r id i me f then p = subst
      (λ (z : List ℕ × List (maybe.Option (Option S))). (w : View E R) × (a : Act (Option S)) × Valid z.1 me.1 a × Rule record { words = set z.0 i (f (get_or z.0 i 0)); homes = homes_after z.1 me.1 a; views = set s.views id w }
      × then (get_or z.0 i 0) (w, carried_after me.1 a))
      (λ k. (sym r.words k, sym r.slots k)) p

  -- the value stays where it is while the one who has it stays
  place_longer : (log : List E) (next serving : ℕ) (vs vs' : List (View E R)) (home : maybe.Option (Option S)) → ((j : ℕ) (v : View E R) → get_elem? vs j ≡ maybe.some v → v.stage ≡ Inside serving → get_elem? vs' j ≡ maybe.some v)
      → IsPlaced entries root teller base seats log next serving vs home → IsPlaced entries root teller base seats log next serving vs' home
  place_longer log next serving vs vs' maybe.none still p = (p.0, p.1, still p.0 p.1 p.2 p.3, p.3)
  place_longer log next serving vs vs' (maybe.some y) still p = p

  -- 1: making a seat
  pub deals : (id : ℕ) (k : View E R) → k.stage ≡ Outside → 0 < k.made → k.made < seats → Splits Rule id k (former_maker k) (new_maker k)
  deals id k is some few s r at = let vs = s.views in let left : W = former_maker k in let right : W = new_maker k in let vs' = set vs id left ++ right ∷ [] in
      let free : IsFree k.stage = subst IsFree (sym is) tt in
      let known = known_seat r.log r.next r.serving vs id k k.stage free (r.ruled.each id k at) in
      let maker = known.maker some in
      let size : length (set vs id left) ≡ k.made = length-set vs id left ∙ sym maker.1 in
      let whole : length vs' ≡ k.made + 1 = let a = length-append (set vs id left) (right ∷ []) in omega arith in
      let sums : (f : View E R → ℕ) → f left ≡ f k → total f vs' ≡ total f vs + f right = λ f e. let a = total_snoc f (set vs id left) right in let b = total_set f vs id k left at in omega arith in
      -- a seat of the longer list, other than the new one, was there before
      let before : (j : ℕ) (x : View E R) → j ≢ id → get_elem? vs j ≡ maybe.some x → get_elem? vs' j ≡ maybe.some x = λ j x not e. at_longer (set vs id left) (right ∷ []) j x (set_else vs id j left not ∙ e) in
      let kept : (l : List (ℕ × List E)) → ((n : ℕ) (es : List E) (q : ℕ) → get_elem? l q ≡ maybe.some (n, es) → (told_by teller n r.log ≡ es) × (get_elem? vs n ≡ maybe.some joined_view))
      → (n : ℕ) (es : List E) (q : ℕ) → get_elem? l q ≡ maybe.some (n, es) → (told_by teller n r.log ≡ es) × (get_elem? vs' n ≡ maybe.some joined_view) =
      λ l old n es q h. let f = old n es q h in (f.0, before n joined_view (λ same. not_joined k free (same_at vs id k joined_view at (subst (λ (z : ℕ). get_elem? vs z ≡ maybe.some joined_view) same f.1))) f.1) in
      record {
        log = r.log;
        next = r.next;
        serving = r.serving;
        asleep = r.asleep;
        home = r.home;
        words = r.words;
        slots = r.slots;
        ruled = record {
          order = r.ruled.order;
          short = r.ruled.short;
          few = (omega arith, r.ruled.few.1);
          weights = let a = sums weight refl in let d = r.ruled.weights in omega arith;
          drawn = let a = sums draw_count refl in let d = r.ruled.drawn in omega arith;
          place = place_longer r.log r.next r.serving vs vs' r.home (λ j x e inside. before j x (λ same. not_inside k x r.serving free inside (same_at vs id k x at (subst (λ (z : ℕ). get_elem? vs z ≡ maybe.some x) same e))) e) r.ruled.place;
          strangers = λ n h. r.ruled.strangers n (omega arith);
          each = λ j x e. ⊎_elim
              (λ (e' : get_elem? (set vs id left) j ≡ maybe.some x). each_set (λ j x. Knows entries root teller base seats r.log r.next r.serving vs' j x x.stage) vs id left
              (subst (λ (z : Stage). Knows entries root teller base seats r.log r.next r.serving vs' id left z) (sym is)
              record { numbered = known.numbered; rooted = known.rooted; begins = known.begins; own = known.own; maker = λ h. absurd (omega arith); kept = kept k.kept known.kept })
              (λ i y not e. knows_via r.log r.next r.serving vs vs' i y (λ o. record {
                numbered = o.numbered;
                rooted = o.rooted;
                begins = o.begins;
                own = o.own;
                maker = λ h. let m = o.maker h in absurd (not (omega arith));
                kept = kept y.kept o.kept;
              }) y.stage (r.ruled.each i y e)) j x e')
              (λ (e' : (j ≡ length (set vs id left)) × (right ≡ x)). subst (λ (z : ℕ × View E R). Knows entries root teller base seats r.log r.next r.serving vs' z.0 z.1 z.1.stage) (λ q. (sym e'.0 q, e'.1 q)) record {
                numbered = sym size;
                rooted = known.rooted;
                begins = (r.log, refl);
                own = r.ruled.strangers k.made (omega arith);
                maker = λ h. (ap (λ (z : ℕ). z + 1) (sym size), sym whole);
                kept = λ n es q h. absurd (some-ne-none (n, es) (sym h));
              })
              (at_end (set vs id left) right x j e);
          held = λ t a b. let there = r.ruled.held t a b in
              (there.0, there.1, before there.0 there.1 (λ e. no_ticket k.stage t free (subst (λ (z : W). Has z.stage t) (same_at vs id there.1 k (subst (λ (z : ℕ). get_elem? vs z ≡ maybe.some there.1) e there.2) at) there.3)) there.2, there.3);
          apart = λ i j t v w ei ej hi hj. let had : (j : ℕ) (x : W) → get_elem? vs' j ≡ maybe.some x → Has x.stage t → get_elem? vs j ≡ maybe.some x = λ j x e h. ⊎_elim
              (λ (e' : get_elem? (set vs id left) j ≡ maybe.some x). ⊎_elim (λ (a : (j ≡ id) × (left ≡ x)). absurd (no_ticket k.stage t free (subst (λ (z : W). Has z.stage t) (sym a.1) h))) (λ (a : (j ≢ id) × (get_elem? vs j ≡ maybe.some x)). a.1) (at_set vs id j left x e'))
              (λ (e' : (j ≡ length (set vs id left)) × (right ≡ x)). absurd (subst (λ (z : W). Has z.stage t) (sym e'.1) h)) (at_end (set vs id left) right x j e) in
              r.ruled.apart i j t v w (had i v ei hi) (had j w ej hj) hi hj;
        };
        marked = r.marked;
      }

  -- 2: taking a seat back
  pub gathers : (id : ℕ) (k : View E R) (other : ℕ) (w : View E R) → IsFree k.stage → IsFree w.stage → Joins Rule id k other w (gathering_view k w) joined_view
  gathers id k other w free free' s r at apart there = let vs = s.views in let both : W = gathering_view k w in let one = set vs id both in let two = set one other joined_view in
      let there' : get_elem? vs other ≡ maybe.some w = sym (set_else vs id other both apart) ∙ there in
      let known = known_seat r.log r.next r.serving vs id k k.stage free (r.ruled.each id k at) in
      let seat = known_seat r.log r.next r.serving vs other w w.stage free' (r.ruled.each other w there') in
      let size : length two ≡ length vs = length-set one other joined_view ∙ length-set vs id both in
      let live_w : live_count w ≡ 1 = free_live w.stage free' in let few_w = draws_one w.stage in
      let before : (j : ℕ) (x : View E R) → j ≢ id → j ≢ other → get_elem? vs j ≡ maybe.some x → get_elem? two j ≡ maybe.some x = λ j x not not' e. set_else one other j joined_view not' ∙ (set_else vs id j both not ∙ e) in
      let K : ℕ → W → Type 0 = λ j x. Knows entries root teller base seats r.log r.next r.serving two j x x.stage in
      let P : ℕ × List E → Type 0 = λ z. (told_by teller z.0 r.log ≡ z.1) × (get_elem? two z.0 ≡ maybe.some joined_view) in
      let kept : (l : List (ℕ × List E)) → ((n : ℕ) (es : List E) (q : ℕ) → get_elem? l q ≡ maybe.some (n, es) → (told_by teller n r.log ≡ es) × (get_elem? vs n ≡ maybe.some joined_view)) → (q : ℕ) (z : ℕ × List E) → get_elem? l q ≡ maybe.some z → P z =
      λ l old q z h. let f = old z.0 z.1 q h in (
        f.0,
        before z.0 joined_view
            (λ same. not_joined k free (same_at vs id k joined_view at (subst (λ (z : ℕ). get_elem? vs z ≡ maybe.some joined_view) same f.1)))
            (λ same. not_joined w free' (same_at vs other w joined_view there' (subst (λ (z : ℕ). get_elem? vs z ≡ maybe.some joined_view) same f.1))) f.1,
      ) in
      let new : P (w.number, w.mine) = (seat.own, subst (λ (z : ℕ). get_elem? two z ≡ maybe.some joined_view) (sym seat.numbered) (set_here one other joined_view (at_below one other w there))) in
      let maker : (made j : ℕ) → (0 < made → (made ≡ j + 1) × (made ≡ length vs)) → 0 < made → (made ≡ j + 1) × (made ≡ length two) = λ made j f h. let g = f h in (g.0, g.1 ∙ sym size) in
      record {
        log = r.log;
        next = r.next;
        serving = r.serving;
        asleep = r.asleep;
        home = r.home;
        words = r.words;
        slots = r.slots;
        ruled = record {
          order = r.ruled.order;
          short = r.ruled.short;
          few = (subst (λ (z : ℕ). z ≤ seats) (sym size) r.ruled.few.0, r.ruled.few.1);
          weights = let a = total_set weight one other w joined_view there in let b = total_set weight vs id k both at in let d = r.ruled.weights in let e = length-append k.kept w.kept in omega arith;
          drawn = let a = total_set draw_count one other w joined_view there in let b = total_set draw_count vs id k both at in let d = r.ruled.drawn in omega arith;
          place = place_longer r.log r.next r.serving vs two r.home (λ j x e inside. before j x
              (λ same. not_inside k x r.serving free inside (same_at vs id k x at (subst (λ (z : ℕ). get_elem? vs z ≡ maybe.some x) same e)))
              (λ same. not_inside w x r.serving free' inside (same_at vs other w x there' (subst (λ (z : ℕ). get_elem? vs z ≡ maybe.some x) same e))) e) r.ruled.place;
          strangers = λ n h. r.ruled.strangers n (omega arith);
          each = each_set K one other joined_view refl (λ j x not e. each_set K vs id both
              (seat_knows r.log r.next r.serving two id both k.stage free
              record {
                numbered = known.numbered;
                rooted = known.rooted;
                begins = known.begins;
                own = known.own;
                maker = maker k.made id known.maker;
                kept = λ n es q h. at_both P ((w.number, w.mine) ∷ k.kept) w.kept (at_both P ((w.number, w.mine) ∷ []) k.kept (λ q z h. subst P (at_one (w.number, w.mine) z q h) new) (kept k.kept known.kept)) (kept w.kept seat.kept) q (n, es) h;
              })
              (λ i y not e. knows_via r.log r.next r.serving vs two i y (λ o. record { numbered = o.numbered; rooted = o.rooted; begins = o.begins; own = o.own; maker = maker y.made i o.maker; kept = λ n es q h. kept y.kept o.kept q (n, es) h }) y.stage (r.ruled.each i y e)) j x e);
          held = λ t a b. let h = r.ruled.held t a b in (
            h.0,
            h.1,
            before h.0 h.1
                (λ e. no_ticket k.stage t free (subst (λ (z : W). Has z.stage t) (same_at vs id h.1 k (subst (λ (z : ℕ). get_elem? vs z ≡ maybe.some h.1) e h.2) at) h.3))
                (λ e. no_ticket w.stage t free' (subst (λ (z : W). Has z.stage t) (same_at vs other h.1 w (subst (λ (z : ℕ). get_elem? vs z ≡ maybe.some h.1) e h.2) there') h.3)) h.2,
            h.3,
          );
          apart = λ i j t v x ei ej hi hj. let had : (j : ℕ) (x : W) → get_elem? two j ≡ maybe.some x → Has x.stage t → get_elem? vs j ≡ maybe.some x = λ j x e h. ⊎_elim
              (λ (a : (j ≡ other) × (joined_view ≡ x)). absurd (subst (λ (z : W). Has z.stage t) (sym a.1) h))
              (λ (a : (j ≢ other) × (get_elem? one j ≡ maybe.some x)). ⊎_elim (λ (b : (j ≡ id) × (both ≡ x)). absurd (no_ticket k.stage t free (subst (λ (z : W). Has z.stage t) (sym b.1) h))) (λ (b : (j ≢ id) × (get_elem? vs j ≡ maybe.some x)). b.1) (at_set vs id j both x a.1)) (at_set one other j joined_view x e) in
              r.ruled.apart i j t v x (had i v ei hi) (had j x ej hj) hi hj;
        };
        marked = r.marked;
      }

  -- the next ticket still fits its word
  room : (log : List E) (next serving : ℕ) (vs : List (View E R)) (home : maybe.Option (Option S)) → IsRuled entries root teller base seats log next serving vs home → next + 1 < 2 ^ 64
  room log next serving vs home r = let a = r.drawn in let b = r.short in let c = r.few in let d = total_le draw_count (λ v. draws_one v.stage) vs in omega arith

  -- what these steps tell doesn't read the step, but for a draw
  abbrev nothing : Step (Option S)
  nothing = step 0 0 0 0 maybe.none

  -- 3: drawing a ticket
  pub draws_meant : (slots id : ℕ) (st : Step (Option S)) (me : Me (Option S) (View E R)) → me.0.stage ≡ Outside → Allows Rule slots id me 0 (λ n. either (n == st.first) ((st.first + 1) % 2 ^ 64) n) (Draws st me)
  draws_meant slots id st me out s r _ at _ = let u = r.ruled in let v = me.0 in let w : W = record v { stage = Drawn r.next } in
      let seat : SeatKnows entries root teller base r.log s.views id v = subst (λ (z : Stage). Knows entries root teller base seats r.log r.next r.serving s.views id v z) out (u.each id v at) in
      let fits : (r.next + 1) % 2 ^ 64 ≡ r.next + 1 = mod-eq_of_lt (room r.log r.next r.serving s.views r.home u) in
      let d : draw_count v ≡ 0 = ap draws_at out in let order = u.order in
      let new : IsRuled entries root teller base seats r.log (r.next + 1) r.serving (set s.views id w) r.home = moved r.log r.log r.next r.serving (r.next + 1) r.serving s.views id v w at (ap live_at out) refl seat.numbered refl (λ seen b. b) (λ n not. refl)
      (λ t free a b. (a, omega arith)) (λ t free a b. (a, omega arith, refl)) r.home r.home u (omega arith) u.short (omega arith)
      (place_longer r.log r.next r.serving s.views (set s.views id w) r.home (λ j x e inside. set_else s.views id j w (λ same. let f : v ≡ x = same_at s.views id v x at (subst (λ (z : ℕ). get_elem? s.views z ≡ maybe.some x) same e) in let g : v.stage ≡ x.stage = ap (λ (z : W). z.stage) f in cc) ∙ e) u.place)
      seat refl refl refl seat.begins seat.own (λ k. (k, order, omega arith))
      (λ t (h : r.next ≡ t). inr (omega arith))
      (λ t a b. dite (ℕ_discrete r.next t) (λ e. inl e) (λ n. inr (a, omega arith, (λ h. subst (λ (z : Stage). Has z t) out h)))) in
      let F : ℕ → Type 0 = λ z. (w : View E R) × (a : Act (Option S)) × Valid (r.home ∷ []) me.1 a × Rule record { words = z ∷ r.serving ∷ r.asleep ∷ []; homes = homes_after (r.home ∷ []) me.1 a; views = set s.views id w } × Draws st me r.next (w, carried_after me.1 a) in
      at_table s r id 0 me (λ n. either (n == st.first) ((st.first + 1) % 2 ^ 64) n) (Draws st me) (exchanged r.next st.first ((st.first + 1) % 2 ^ 64) F
      (λ hit. (
        w,
        keeps,
        tt,
        record { log = r.log; next = r.next + 1; serving = r.serving; asleep = r.asleep; home = r.home; words = ap (λ (z : ℕ). z ∷ r.serving ∷ r.asleep ∷ []) (ap (λ (z : ℕ). (z + 1) % 2 ^ 64) (sym hit) ∙ fits); slots = refl; ruled = new; marked = r.marked },
        ((λ e. ap (λ (z : ℕ). (record v { stage = Drawn z }, me.1)) e), λ not. absurd (not hit)),
      ))
      (λ miss. (
        v,
        keeps,
        tt,
        record { log = r.log; next = r.next; serving = r.serving; asleep = r.asleep; home = r.home; words = refl; slots = refl; ruled = subst (λ (z : List W). IsRuled entries root teller base seats r.log r.next r.serving z r.home) (sym (set_again s.views id v at)) u; marked = r.marked },
        ((λ e. absurd (miss e)), λ _. refl),
      )))

  -- the value is at home where the served ticket is one that waits
  home_of : (log : List E) (next serving : ℕ) (vs : List (View E R)) (home : maybe.Option (Option S)) → IsRuled entries root teller base seats log next serving vs home → (id : ℕ) (v : View E R) → get_elem? vs id ≡ maybe.some v → v.stage ≡ Drawn serving
      → (h : maybe.Option (Option S)) → IsPlaced entries root teller base seats log next serving vs h → (x : S) × (h ≡ maybe.some (Some x)) × (entries x ≡ log) × (root x ≡ base)
  home_of log next serving vs home r id v at is maybe.none p = let here : p.0 ≡ id = r.apart p.0 id serving p.1 v p.2 at (subst (λ (z : Stage). Has z serving) (sym p.3) refl) (subst (λ (z : Stage). Has z serving) (sym is) refl) in
      let same : p.1 ≡ v = same_at vs id p.1 v (subst (λ (z : ℕ). get_elem? vs z ≡ maybe.some p.1) here p.2) at in let f : p.1.stage ≡ v.stage = ap (λ (z : W). z.stage) same in let g : Inside serving ≡ Drawn serving = sym p.3 ∙ (f ∙ is) in cc
  home_of log next serving vs home r id v at is (maybe.some y) p = (p.0, ap maybe.some p.1, p.2, p.3)

  -- 4: looking at the served ticket
  pub looks : (slots id : ℕ) (me : Me (Option S) (View E R)) (t : ℕ) → me.0.stage ≡ Drawn t → Allows Rule slots id me 1 (λ n. n) (Looks entries root teller nothing me)
  looks slots id me t is s r _ at _ = let u = r.ruled in let v = me.0 in
      let known = subst (λ (z : Stage). Knows entries root teller base seats r.log r.next r.serving s.views id v z) is (u.each id v at) in let seat = known.0 in
      at_table s r id 1 me (λ n. n) (Looks entries root teller nothing me) (dite (ℕ_discrete r.serving t)
      (λ hit. let is' : v.stage ≡ Drawn r.serving = is ∙ ap Drawn (sym hit) in let there = home_of r.log r.next r.serving s.views r.home u id v at is' r.home u.place in let x = there.0 in
      let w : W = record v { stage = Inside t; seen = entries x } in
      let own : (z : ℕ) → Drawn t ≡ Drawn z → t ≡ z = λ z e. (cc) in
      let here : get_elem? (set s.views id w) id ≡ maybe.some w = set_here s.views id w (at_below s.views id v at) in
      let b : t < r.next = known.2 in (
        w,
        takes 0 (Some x),
        ap maybe.some there.1,
        record {
          log = r.log;
          next = r.next;
          serving = r.serving;
          asleep = r.asleep;
          home = maybe.none;
          words = refl;
          slots = refl;
          ruled = moved r.log r.log r.next r.serving r.next r.serving s.views id v w at (ap live_at is) refl seat.numbered refl (λ seen b. b) (λ n not. refl) (λ t free a b. (a, b)) (λ t free a b. (a, b, refl)) r.home maybe.none u u.order u.short
              (let d : draw_count v ≡ 1 = ap draws_at is in omega arith)
              (id, w, here, ap Inside (sym hit))
              seat refl refl refl ([], sym (append-nil (entries x) ∙ there.2)) seat.own (λ k. (k, sym hit, b, there.2))
              (λ z h. inl (subst (λ (q : Stage). Has q z) (sym is) h))
              (λ z a b. dite (ℕ_discrete t z) (λ e. inl e) (λ n. inr (a, b, (λ h. n (subst (λ (q : Stage). Has q z) is h)))));
          marked = r.marked;
        },
        λ t' is''. let e : t ≡ t' = own t' (sym is ∙ is'') in (
          (λ r_is. record { value = x; view = ap (λ (z : ℕ). record v { stage = Inside z; seen = entries x }) e; slot = refl; begins = subst (Begins v.seen) (sym there.2) seat.begins; own = ap (told_by teller v.number) there.2 ∙ seat.own; rooted = seat.rooted ∙ ap Some (sym there.3) }),
          λ not. absurd (not (hit ∙ e)),
        ),
      ))
      (λ miss. (
        v,
        keeps,
        tt,
        record { log = r.log; next = r.next; serving = r.serving; asleep = r.asleep; home = r.home; words = refl; slots = refl; ruled = subst (λ (z : List W). IsRuled entries root teller base seats r.log r.next r.serving z r.home) (sym (set_again s.views id v at)) u; marked = r.marked },
        λ t' is''. let g : Drawn t ≡ Drawn t' = sym is ∙ is'' in let e : t ≡ t' = (cc) in ((λ r_is. absurd (miss (r_is ∙ sym e))), λ _. refl),
      )))

  -- 7: the served ticket moves on by one
  pub serves : (slots id : ℕ) (v : View E R) (c : List (ℕ × Option S)) (t : ℕ) (x : S) → v.stage ≡ Inside t → c ≡ (0, Some x) ∷ [] → length (entries x) < 2 ^ 63 → v.root ≡ Some (root x) → Gives entries teller v x
      → Allows Rule slots id (v, c) 1 (λ n. (n + 1) % 2 ^ 64) (Serves entries nothing (v, c))
  serves slots id v c t x is out short rooted gives_what = subst (λ (c : List (ℕ × Option S)). Allows Rule slots id (v, c) 1 (λ n. (n + 1) % 2 ^ 64) (Serves entries nothing (v, c))) (sym out) (λ s r _ at _. let u = r.ruled in let vs = s.views in
      let known = subst (λ (z : Stage). Knows entries root teller base seats r.log r.next r.serving vs id v z) is (u.each id v at) in let seat = known.0 in
      let there : get_elem? vs id ≡ maybe.some v = at in
      let now : t ≡ r.serving = known.1 in let below : t < r.next = known.2 in let seen : v.seen ≡ r.log = known.3 in
      let small = room r.log r.next r.serving vs r.home u in
      let fits : (r.serving + 1) % 2 ^ 64 ≡ r.serving + 1 = mod-eq_of_lt (omega arith) in
      let base_is : root x ≡ base = let e : Some (root x) ≡ Some base = sym rooted ∙ seat.rooted in (cc) in
      let others_wait : (z : ℕ) → ¬ (Has v.stage z) → z ≢ t = λ z free e. free (subst (λ (q : Stage). Has q z) (sym is) (sym e)) in
      let d : draw_count v ≡ 1 = ap draws_at is in
      let P : View E R → Type 0 = λ w. Rule record { words = r.next ∷ (r.serving + 1) % 2 ^ 64 ∷ r.asleep ∷ []; homes = maybe.some (Some x) ∷ []; views = set vs id w } in
      let done : (w : View E R) → P w → Ends v (entries x) w → (w : View E R) × (a : Act (Option S)) × Valid s.homes ((0, Some x) ∷ []) a × Rule (stepped s 1 ((get_or s.words 1 0 + 1) % 2 ^ 64) id ((0, Some x) ∷ []) w a) × Serves entries nothing (v, (0, Some x) ∷ []) (get_or s.words 1 0) (w, carried_after ((0, Some x) ∷ []) a) =
      λ w p e. at_table s r id 1 (v, (0, Some x) ∷ []) (λ n. (n + 1) % 2 ^ 64) (Serves entries nothing (v, (0, Some x) ∷ [])) (w, gives, tt, p, λ y is_y. (refl, (let f : x ≡ y = same_slot x y is_y in subst (λ (z : S). Ends v (entries z) w) f e))) in
      let move : (w : View E R) → live_count w ≡ 1 → w.kept ≡ v.kept → ((seen : List E) → Begins seen r.log → Begins seen (entries x)) → ((n : ℕ) → n ≢ v.number → told_by teller n (entries x) ≡ told_by teller n r.log) → 1 + length r.log ≤ length (entries x) + draw_count w
      → w.number ≡ v.number → w.root ≡ v.root → w.made ≡ v.made → Begins w.seen (entries x) → told_by teller v.number (entries x) ≡ w.mine → IsFree w.stage → P w = λ w is_live kept begins others count number rooted made sees owns free.
      record {
        log = entries x;
        next = r.next;
        serving = r.serving + 1;
        asleep = r.asleep;
        home = maybe.some (Some x);
        words = ap (λ (z : ℕ). r.next ∷ z ∷ r.asleep ∷ []) fits;
        slots = refl;
        ruled = moved r.log (entries x) r.next r.serving r.next (r.serving + 1) vs id v w at (ap live_at is) is_live seat.numbered kept begins others
            (λ z free a b. let o = others_wait z free in (omega arith, b)) (λ z free a b. absurd (others_wait z free (a ∙ sym now))) r.home (maybe.some (Some x)) u (omega arith) short (omega arith)
            (x, refl, refl, base_is) seat number rooted made sees owns (λ k. seat_knows (entries x) r.next (r.serving + 1) (set vs id w) id w w.stage free k) (λ z h. absurd (no_ticket w.stage z free h))
            (λ z a b. inr (omega arith, b, (λ h. let e : t ≡ z = subst (λ (q : Stage). Has q z) is h in omega arith)));
        marked = r.marked;
      } in
      let more = gives_what.0 in let all = gives_what.2 in
      ⊎_elim
      (λ (none : more ≡ []). let w : W = record v { stage = Spent } in let same : entries x ≡ v.seen = gives_what.1 ∙ (ap (λ l. v.seen ++ l) none ∙ append-nil v.seen) in let is_log : entries x ≡ r.log = same ∙ seen in let size = ap length is_log in
      done w (move w refl refl (λ sn b. subst (Begins sn) (sym is_log) b) (λ n not. ap (told_by teller n) is_log) (omega arith)
      refl refl refl (subst (Begins v.seen) (sym is_log) seat.begins) (ap (told_by teller v.number) is_log ∙ seat.own) tt)
      ((λ _. refl), λ es some longer. absurd (not_longer v.seen es (sym same ∙ longer) some)))
      (λ (some : 0 < length more). let w : W = record v { stage = Outside; seen = entries x; mine = v.mine ++ more } in
      let is_log : entries x ≡ r.log ++ more = gives_what.1 ∙ ap (λ l. l ++ more) seen in let size : length (entries x) ≡ length r.log + length more = ap length is_log ∙ length-append r.log more in
      done w (move w refl refl (λ sn b. subst (Begins sn) (sym is_log) (begins_more sn r.log more b)) (λ n not. ap (told_by teller n) is_log ∙ told_other teller v.number n r.log more all not) (omega arith)
      refl refl refl ([], sym (append-nil (entries x))) (ap (told_by teller v.number) is_log ∙ (told_same teller v.number r.log more all ∙ ap (λ l. l ++ more) seat.own)) tt)
      ((λ same. absurd (not_longer v.seen more (sym same ∙ gives_what.1) some)), λ es _ longer. ap (λ (z : List E). record v { stage = Outside; seen = entries x; mine = v.mine ++ z }) (same_behind v.seen more es (sym gives_what.1 ∙ longer))))
      (none_or_some more))

  pub serves_after : (slots id : ℕ) (me me' : Me (Option S) (View E R)) (t : ℕ) (x : S) → me.0.stage ≡ Inside t → me.1 ≡ (0, None) ∷ [] → me' ≡ (me.0, (0, Some x) ∷ rest me.1) → length (entries x) < 2 ^ 63 → me.0.root ≡ Some (root x) → Gives entries teller me.0 x
      → Allows Rule slots id me' 1 (λ n. (n + 1) % 2 ^ 64) (Serves entries nothing me')
  serves_after slots id me me' t x is holds after short rooted gives_what = subst (λ (z : Me (Option S) (View E R)). Allows Rule slots id z 1 (λ n. (n + 1) % 2 ^ 64) (Serves entries nothing z)) (sym after)
      (serves slots id me.0 ((0, Some x) ∷ rest me.1) t x is (ap (λ (z : List (ℕ × Option S)). (0, Some x) ∷ rest z) holds) short rooted gives_what)

  -- 8: marking whether a thread may be asleep
  pub marks : (slots id : ℕ) (me : Me (Option S) (View E R)) (mark : ℕ) → mark ≤ 1 → Allows Rule slots id me 2 (λ n. mark) (λ n. Marks nothing me mark)
  marks slots id me mark small s r _ at _ = at_table s r id 2 me (λ n. mark) (λ n. Marks nothing me mark) (
    me.0,
    keeps,
    tt,
    record { log = r.log; next = r.next; serving = r.serving; asleep = mark; home = r.home; words = refl; slots = refl; ruled = subst (λ (z : List W). IsRuled entries root teller base seats r.log r.next r.serving z r.home) (sym (set_again s.views id me.0 at)) r.ruled; marked = small },
    refl,
  )

  at_home : (log : List E) (next serving : ℕ) (vs : List (View E R)) (i : ℕ) (v : View E R) → get_elem? vs i ≡ maybe.some v → IsFree v.stage → total weight vs ≤ weight v
      → (h : maybe.Option (Option S)) → IsPlaced entries root teller base seats log next serving vs h → (x : S) × (h ≡ maybe.some (Some x)) × (entries x ≡ log) × (root x ≡ base)
  at_home log next serving vs i v at free most maybe.none p = let here = alone vs i p.0 v p.1 at p.2 most (ap live_at p.3) in
      absurd (not_inside v p.1 serving free p.3 (same_at vs i v p.1 at (subst (λ (z : ℕ). get_elem? vs z ≡ maybe.some p.1) here p.2)))
  at_home log next serving vs i v at free most (maybe.some y) p = (p.0, ap maybe.some p.1, p.2, p.3)

  -- at the end, where one seat took all the others back
  pub closes : (id : ℕ) (k : View E R) (ws : List ℕ) (xs : List (Option S)) → Final (Seen Rule id k) ws xs → IsFree k.stage → length k.kept + 1 ≡ seats
      → (x : S) × (get_elem? xs 0 ≡ maybe.some (Some x)) × (root x ≡ base) × (told_by teller k.number (entries x) ≡ k.mine)
      × ((n : ℕ) (es : List E) (q : ℕ) → get_elem? k.kept q ≡ maybe.some (n, es) → told_by teller n (entries x) ≡ es) × ((n : ℕ) → seats ≤ n → told_by teller n (entries x) ≡ [])
  closes id k ws xs f free all = let s = f.0 in let r = f.1.0 in let at = f.1.1 in let u = r.ruled in
      let known = known_seat r.log r.next r.serving s.views id k k.stage free (u.each id k at) in
      let w = u.weights in let few = u.few.0 in let l = free_live k.stage free in
      let x = at_home r.log r.next r.serving s.views id k at free (omega arith) r.home u.place in (
        x.0,
        f.4 0 (Some x.0) (subst (λ (z : List (maybe.Option (Option S))). get_elem? z 0 ≡ maybe.some (maybe.some (Some x.0))) (sym r.slots) (ap maybe.some x.1)),
        x.3,
        ap (told_by teller k.number) x.2 ∙ known.own,
        (λ n es q e. ap (told_by teller n) x.2 ∙ (known.kept n es q e).0),
        (λ n h. ap (told_by teller n) x.2 ∙ u.strangers n (omega arith)),
      )

  -- the same of what the slot has
  pub closes_with : (id : ℕ) (k : View E R) (ws : List ℕ) (xs : List (Option S)) → Final (Seen Rule id k) ws xs → IsFree k.stage → length k.kept + 1 ≡ seats → (y : S) (r : Option S) → get_elem? xs 0 ≡ maybe.some r → r ≡ Some y
      → (root y ≡ base) × (told_by teller k.number (entries y) ≡ k.mine)
      × ((n : ℕ) (es : List E) (q : ℕ) → get_elem? k.kept q ≡ maybe.some (n, es) → told_by teller n (entries y) ≡ es) × ((n : ℕ) → seats ≤ n → told_by teller n (entries y) ≡ [])
  closes_with id k ws xs f free all y r there' is = let c = closes id k ws xs f free all in let a : Some c.0 ≡ Some y = same_at xs 0 (Some c.0) (Some y) c.1 (there' ∙ ap maybe.some is) in let e : c.0 ≡ y = cc in
      subst (λ (y : S). (root y ≡ base) × (told_by teller k.number (entries y) ≡ k.mine)
      × ((n : ℕ) (es : List E) (q : ℕ) → get_elem? k.kept q ≡ maybe.some (n, es) → told_by teller n (entries y) ≡ es) × ((n : ℕ) → seats ≤ n → told_by teller n (entries y) ≡ [])) e (c.2, c.3, c.4, c.5)

  pub slot_full : (id : ℕ) (k : View E R) (ws : List ℕ) (xs : List (Option S)) → Final (Seen Rule id k) ws xs → IsFree k.stage → length k.kept + 1 ≡ seats → (r : Option S) → get_elem? xs 0 ≡ maybe.some r → IsSome r
  slot_full id k ws xs f free all r there' = let c = closes id k ws xs f free all in subst IsSome (same_at xs 0 (Some c.0) r c.1 there') refl

  fits_all : (s : State (Option S) (View E R)) → Rule s → All (λ n. n + 1 < 2 ^ 64) s.words
  fits_all s r = let u = r.ruled in let n = room r.log r.next r.serving s.views r.home u in let o = u.order in let m = r.marked in
      let P : ℕ → Type 0 = λ n. n + 1 < 2 ^ 64 in
      subst (All P) (sym r.words) (All-cons P r.next (r.serving ∷ r.asleep ∷ []) n (All-cons P r.serving (r.asleep ∷ []) (omega arith) (All-cons P r.asleep [] (omega arith) (All-nil P))))

module _ {S E R : Type 0} (entries : S → List E) (root : S → R) (teller : E → ℕ) where
  pub steps_keep_rule : StepsKeepRule entries root teller
  steps_keep_rule = record {
    makes_seat = λ base seats id v is some few. deals entries root teller base seats id v is some few;
    joins_seat = λ base seats id v other w free free'. gathers entries root teller base seats id v other w free free';
    draws_ticket = λ base seats slots id st m is. draws_meant entries root teller base seats slots id st m is;
    looks_at_serving = λ base seats slots id st m t is. looks entries root teller base seats slots id m t is;
    advances_serving = λ base seats slots id st m t x is out short rooted gives_what. serves entries root teller base seats slots id m.0 m.1 t x is out short rooted gives_what;
    marks_asleep = λ base seats slots id st m mark small. marks entries root teller base seats slots id m mark small;
  }

  pub tickets_fit : TicketsFit entries root teller
  tickets_fit base seats s r = fits_all entries root teller base seats s r
