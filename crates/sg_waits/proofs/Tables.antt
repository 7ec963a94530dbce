-- Tables of units with their listings and counts: what a new standing of a unit does, and what the counts tell.
use Rattle.std.proofs.Common.{◌≡◌, ℕ, zero, suc, ◌+◌, ◌-◌, ◌<◌, ◌^◌, List, [], ◌∷◌, ◌⊎◌, ◌↔◌, Bool, true, false, IsTrue, cond, inl, inr, refl, sym, ap, ◌∙◌, subst, length, fold, replicate, slice_set, count_by, nat_lt, nat_eq, arith}
use Rattle.std.proofs.lemmas.Bool.Decides.{nat_tests}
use Rattle.std.proofs.lemmas.List.Sums.{count_by-le-length}
use Rattle.std.specs.List.{Contains, filter}
use Rattle.sg_base.specs.List.{IsRising}
use Rattle.sg_base.proofs.Finite.{nothing_in, Contains-filter, filter-Contains, Contains-head, Contains-tail, Contains-cons}
use Rattle.sg_state.specs.declared.need.Need.{Need}
use Rattle.sg_state.specs.Need.{need_cmp}
use Rattle.sg_waits.specs.declared.listing.Listing.{Listing}
use Rattle.sg_waits.specs.declared.status.Status.{Status}
use Rattle.sg_waits.specs.declared.status.Status.TheVariants.{Ended, Runs, Waits}
use Rattle.sg_waits.specs.Listing.{listing_cmp, TakesOff, Relists}
use Rattle.sg_waits.specs.Table.{IsStanding, IsTable, listed_of, listed_at}
use Rattle.sg_waits.specs.Waits.{WaitsOf, status_at, is_live, runs, waits, needs_of, needs_at, IsLive, IsWaiting, AllWait, set_running, WaitsForOne, Wakes}
use Rattle.sg_waits.proofs.Listed.{listing_by}
use Rattle.sg_waits.proofs.Standing.{same_number, set_here, set_other, length_set, live_within, needy_within, count_set, counted_within, some_counted, all_counted, none_counted, none_needed, one_of}

-- ---- one standing

waiting_runs : (s : Status) → waits s ≡ true → runs s ≡ false
waiting_runs Ended e = refl
waiting_runs Runs e = absurd (cc)
waiting_runs (Waits ns) e = refl

running_waits : (s : Status) → runs s ≡ true → waits s ≡ false
running_waits Ended e = refl
running_waits Runs e = refl
running_waits (Waits ns) e = absurd (cc)

waiting_lives : (s : Status) → waits s ≡ true → IsTrue (is_live s)
waiting_lives Ended e = absurd (cc)
waiting_lives Runs e = refl
waiting_lives (Waits ns) e = refl

running_lives : (s : Status) → runs s ≡ true → IsTrue (is_live s)
running_lives Ended e = absurd (cc)
running_lives Runs e = refl
running_lives (Waits ns) e = absurd (cc)

pub live_waits : (s : Status) → IsTrue (is_live s) → runs s ≡ false → waits s ≡ true
live_waits Ended l e = absurd (cc)
live_waits Runs l e = absurd (cc)
live_waits (Waits ns) l e = refl

pub live_runs : (s : Status) → IsTrue (is_live s) → waits s ≡ false → s ≡ Runs
live_runs Ended l e = absurd (cc)
live_runs Runs l e = refl
live_runs (Waits ns) l e = absurd (cc)

pub runs_so : (s : Status) → (IsTrue (runs s)) ↔ (s ≡ Runs)
runs_so Ended = ((λ t. absurd (cc)), (λ e. absurd (cc)))
runs_so Runs = ((λ t. refl), (λ e. refl))
runs_so (Waits ns) = ((λ t. absurd (cc)), (λ e. absurd (cc)))

waiting_listed : (s k : Status) → waits s ≡ true → listed_of s k ≡ needs_of s
waiting_listed Ended k e = absurd (cc)
waiting_listed Runs k e = absurd (cc)
waiting_listed (Waits ns) k e = refl

needy_waits : (s : Status) (n : Need) → Contains (needs_of s) n → waits s ≡ true
needy_waits Ended n c = absurd (nothing_in n c)
needy_waits Runs n c = absurd (nothing_in n c)
needy_waits (Waits ns) n c = refl

listed_so : (s k : Status) (n : Need) → Contains (listed_of s k) n → Contains (needs_of s) n ⊎ Contains (needs_of k) n
listed_so Ended k n c = inr c
listed_so Runs k n c = inr c
listed_so (Waits ns) k n c = inl c

listed_within : (ws kept : WaitsOf) → length kept ≡ length ws → (u : ℕ) (n : Need) → Contains (listed_at ws kept u) n → u < length ws
listed_within ws kept e u n c = elim (listed_so (status_at ws u) (status_at kept u) n c) [
  | inl k ↦ needy_within ws u n k
  | inr k ↦ subst (λ (l : ℕ). u < l) e (needy_within kept u n k)
]

stands_idle : Unit {0} × (IsTrue false → 0 < 0)
stands_idle = (tt, (λ h. absurd (cc)))

-- ---- a new standing of a unit

pub off_relists : (ks new : List Listing) (ns : List Need) (unit : ℕ) → ((k : Listing) → k.unit ≡ unit → Contains ks k → Contains ns k.need) → TakesOff ks new ns [] unit → Relists ks new [] unit
off_relists ks new ns unit own off = λ k. (
  (λ c.
      let h = (off k).0 c in
      inl ((λ e. nothing_in k.need (h.1 (e, own k e h.0))), h.0)),
  (λ h. elim h [
    | inl o ↦ (off k).1 (o.1, (λ e. absurd (o.0 e.0)))
    | inr e ↦ absurd (nothing_in k.need e.1)
  ]),
)

module _ (ws kept : WaitsOf) (ks : List Listing) (r w : ℕ) (t : IsTable ws kept ks r w) where
  pub listed_for : (unit : ℕ) (n : Need) → (Contains ks (record { need = n; unit = unit })) ↔ (Contains (listed_at ws kept unit) n)
  listed_for unit n = t.listed (record { need = n; unit = unit })

  own_needs : (unit : ℕ) (k : Listing) → k.unit ≡ unit → Contains ks k → Contains (listed_at ws kept unit) k.need
  own_needs unit k e c = subst (λ (u : ℕ). Contains (listed_at ws kept u) k.need) e ((t.listed k).0 c)

  -- nothing has changed of a unit's listings
  same_listed : (unit : ℕ) (ns : List Need) → listed_at ws kept unit ≡ ns → Relists ks ks ns unit
  same_listed unit ns is k = (
    (λ c. elim (same_number k.unit unit) [
      | inl e ↦ inr (e, subst (λ (l : List Need). Contains l k.need) is (own_needs unit k e c))
      | inr n ↦ inl (n, c)
    ]),
    (λ h. elim h [
      | inl o ↦ o.1
      | inr o ↦ subst (λ (l : Listing). Contains ks l) (sym (listing_by k (record { need = k.need; unit = unit }) refl o.0)) ((listed_for unit k.need).1 (subst (λ (l : List Need). Contains l k.need) (sym is) o.1))
    ]),
  )

  pub few_units : (k : Listing) → Contains ks k → k.unit < 2 ^ 32
  few_units k c =
      let l : k.unit < length ws = listed_within ws kept t.as_many k.unit k.need ((t.listed k).0 c) in
      let f : length ws < 2 ^ 32 = t.few in
      omega arith

  -- the units that wait among those that are listed for a need of a list, by the table
  pub which : (now : WaitsOf) → ws ≡ now → (gone : List Need) (found us : List ℕ) (tab : WaitsOf) → tab ≡ ws → us ≡ filter (λ u. waits (status_at tab u)) found → ((u : ℕ) → (Contains found u) ↔ ((n : Need) × Contains gone n × Contains ks (record { need = n; unit = u }))) → (u : ℕ) → (Contains us u) ↔ (WaitsForOne now u gone)
  which now same gone found us tab table is so =
      let those : us ≡ filter (λ u. waits (status_at ws u)) found = subst (λ (x : WaitsOf). us ≡ filter (λ u. waits (status_at x u)) found) table is in
      subst (λ (x : WaitsOf). (u : ℕ) → (Contains us u) ↔ (WaitsForOne x u gone)) same (subst (λ (l : List ℕ). (u : ℕ) → (Contains l u) ↔ (WaitsForOne ws u gone)) (sym those) (λ u. (
        (λ c.
            let f = Contains-filter (λ (v : ℕ). waits (status_at ws v)) found u c in
            let h = (so u).0 f.0 in
            (h.0, h.1, subst (λ (l : List Need). Contains l h.0) (waiting_listed (status_at ws u) (status_at kept u) f.1) ((listed_for u h.0).0 h.2))),
        (λ h.
            let wait = needy_waits (status_at ws u) h.0 h.2 in
            let listed = subst (λ (l : List Need). Contains l h.0) (sym (waiting_listed (status_at ws u) (status_at kept u) wait)) h.2 in
            filter-Contains (λ (v : ℕ). waits (status_at ws v)) found u ((so u).1 (h.0, h.1, (listed_for u h.0).1 listed)) wait),
      )))

  module _ (unit : ℕ) (s q : Status) (l : unit < length ws) where
    set_listed : (new : List Listing) → Relists ks new (listed_of s q) unit → (k : Listing) → (Contains new k) ↔ (Contains (listed_at (slice_set ws unit s) (slice_set kept unit q) k.unit) k.need)
    set_listed new re k =
        elim (same_number k.unit unit) [
          | inl e ↦
              let here : status_at (slice_set ws unit s) k.unit ≡ s = ap (λ (u : ℕ). status_at (slice_set ws unit s) u) e ∙ set_here ws unit s l in
              let last : status_at (slice_set kept unit q) k.unit ≡ q = ap (λ (u : ℕ). status_at (slice_set kept unit q) u) e ∙ set_here kept unit q (subst (λ (n : ℕ). unit < n) (sym t.as_many) l) in
              let now : listed_at (slice_set ws unit s) (slice_set kept unit q) k.unit ≡ listed_of s q = ap (λ (x : Status). listed_of x (status_at (slice_set kept unit q) k.unit)) here ∙ ap (λ (x : Status). listed_of s x) last in (
                (λ c. elim ((re k).0 c) [
                  | inl o ↦ absurd (o.0 e)
                  | inr o ↦ subst (λ (x : List Need). Contains x k.need) (sym now) o.1
                ]),
                (λ c. (re k).1 (inr (e, subst (λ (x : List Need). Contains x k.need) now c))),
              )
          | inr n ↦
              let now : listed_at (slice_set ws unit s) (slice_set kept unit q) k.unit ≡ listed_at ws kept k.unit = ap (λ (x : Status). listed_of x (status_at (slice_set kept unit q) k.unit)) (set_other ws unit s k.unit n) ∙ ap (λ (x : Status). listed_of (status_at ws k.unit) x) (set_other kept unit q k.unit n) in (
                (λ c. elim ((re k).0 c) [
                  | inl o ↦ subst (λ (x : List Need). Contains x k.need) (sym now) ((t.listed k).0 o.1)
                  | inr o ↦ absurd (n o.0)
                ]),
                (λ c. (re k).1 (inl (n, (t.listed k).1 (subst (λ (x : List Need). Contains x k.need) now c)))),
              )
        ]

    set_standing : IsStanding s → (u : ℕ) → IsStanding (status_at (slice_set ws unit s) u)
    set_standing ok u =
        elim (same_number u unit) [
          | inl e ↦ subst IsStanding (sym (ap (λ (x : ℕ). status_at (slice_set ws unit s) x) e ∙ set_here ws unit s l)) ok
          | inr n ↦ subst IsStanding (sym (set_other ws unit s u n)) (t.standing u)
        ]

    pub table_set : IsStanding s → (new : List Listing) (a b : ℕ) → Relists ks new (listed_of s q) unit → IsRising listing_cmp new → a ≡ count_by runs (slice_set ws unit s) → b ≡ count_by waits (slice_set ws unit s) → IsTable (slice_set ws unit s) (slice_set kept unit q) new a b
    table_set ok new a b re up ra wa = record {
      few = omega (arith, length_set ws unit s, t.few);
      as_many = length_set kept unit q ∙ t.as_many ∙ sym (length_set ws unit s);
      standing = set_standing ok;
      listed = set_listed new re;
      rising = up;
      count_running = ra;
      count_waiting = wa;
    }

  module _ (unit : ℕ) (s : Status) (l : unit < length ws) where
    runs_set : count_by runs (slice_set ws unit s) + cond (runs (status_at ws unit)) 1 0 ≡ r + cond (runs s) 1 0
    runs_set = count_set runs ws unit s l ∙ ap (λ (n : ℕ). n + cond (runs s) 1 0) (sym t.count_running)

    waits_set : count_by waits (slice_set ws unit s) + cond (waits (status_at ws unit)) 1 0 ≡ w + cond (waits s) 1 0
    waits_set = count_set waits ws unit s l ∙ ap (λ (n : ℕ). n + cond (waits s) 1 0) (sym t.count_waiting)

    few_run : count_by runs (slice_set ws unit s) < 2 ^ 32
    few_run = omega (arith, count_by-le-length runs (slice_set ws unit s), length_set ws unit s, t.few)

    few_wait : count_by waits (slice_set ws unit s) < 2 ^ 32
    few_wait = omega (arith, count_by-le-length waits (slice_set ws unit s), length_set ws unit s, t.few)

  module _ (unit : ℕ) (l : unit < length ws) where
    pub some_wait : waits (status_at ws unit) ≡ true → 0 < w
    some_wait e = omega (arith, counted_within waits ws unit l e, t.count_waiting)

    pub some_run : runs (status_at ws unit) ≡ true → 0 < r
    some_run e = omega (arith, counted_within runs ws unit l e, t.count_running)

    -- a waiting unit runs
    pub now_run : waits (status_at ws unit) ≡ true → r + 1 ≡ count_by runs (slice_set ws unit Runs)
    now_run e = omega (arith, runs_set unit Runs l, one_of (runs (status_at ws unit)) false (waiting_runs (status_at ws unit) e))

    pub now_run_few : waits (status_at ws unit) ≡ true → r + 1 < 2 ^ 32
    now_run_few e = omega (arith, now_run e, few_run unit Runs l)

    pub no_more_wait : waits (status_at ws unit) ≡ true → w - 1 ≡ count_by waits (slice_set ws unit Runs)
    no_more_wait e = omega (arith, waits_set unit Runs l, one_of (waits (status_at ws unit)) true e)

    -- a unit that runs ends
    pub no_more_run : runs (status_at ws unit) ≡ true → r - 1 ≡ count_by runs (slice_set ws unit Ended)
    no_more_run e = omega (arith, runs_set unit Ended l, one_of (runs (status_at ws unit)) true e)

    pub wait_as_many : runs (status_at ws unit) ≡ true → w ≡ count_by waits (slice_set ws unit Ended)
    wait_as_many e = omega (arith, waits_set unit Ended l, one_of (waits (status_at ws unit)) false (running_waits (status_at ws unit) e))

    module _ (ns : List Need) where
      -- a unit that runs waits
      pub fewer_run : runs (status_at ws unit) ≡ true → r - 1 ≡ count_by runs (slice_set ws unit (Waits ns))
      fewer_run e = omega (arith, runs_set unit (Waits ns) l, one_of (runs (status_at ws unit)) true e)

      pub now_wait : runs (status_at ws unit) ≡ true → w + 1 ≡ count_by waits (slice_set ws unit (Waits ns))
      now_wait e = omega (arith, waits_set unit (Waits ns) l, one_of (waits (status_at ws unit)) false (running_waits (status_at ws unit) e))

      pub now_wait_few : runs (status_at ws unit) ≡ true → w + 1 < 2 ^ 32
      now_wait_few e = omega (arith, now_wait e, few_wait unit (Waits ns) l)

      -- a waiting unit waits again
      pub run_as_many : waits (status_at ws unit) ≡ true → r ≡ count_by runs (slice_set ws unit (Waits ns))
      run_as_many e = omega (arith, runs_set unit (Waits ns) l, one_of (runs (status_at ws unit)) false (waiting_runs (status_at ws unit) e))

      pub wait_again : waits (status_at ws unit) ≡ true → w ≡ count_by waits (slice_set ws unit (Waits ns))
      wait_again e = omega (arith, waits_set unit (Waits ns) l, one_of (waits (status_at ws unit)) true e)

    -- ---- the table after a write

    pub forgets : waits (status_at ws unit) ≡ true → IsTable (slice_set ws unit Runs) (slice_set kept unit (status_at ws unit)) ks (r + 1) (w - 1)
    forgets e =
        table_set unit Runs (status_at ws unit) l stands_idle ks (r + 1) (w - 1) (same_listed unit (needs_of (status_at ws unit)) (waiting_listed (status_at ws unit) (status_at kept unit) e)) t.rising (now_run e) (no_more_wait e)

    pub ends : (ns : List Need) → ns ≡ needs_at kept unit → (new : List Listing) → status_at ws unit ≡ Runs → TakesOff ks new ns [] unit → IsRising listing_cmp new → IsTable (slice_set ws unit Ended) (slice_set kept unit Runs) new (r - 1) w
    ends ns is new e off up =
        let listed : listed_at ws kept unit ≡ ns = ap (λ (x : Status). listed_of x (status_at kept unit)) e ∙ sym is in
        let own : (k : Listing) → k.unit ≡ unit → Contains ks k → Contains ns k.need = λ k s c. subst (λ (l : List Need). Contains l k.need) listed (own_needs unit k s c) in
        let run : runs (status_at ws unit) ≡ true = ap runs e in
        table_set unit Ended Runs l stands_idle new (r - 1) w (off_relists ks new ns unit own off) up (no_more_run run) (wait_as_many run)

    pub notes_runner : (ns : List Need) → IsRising need_cmp ns → 0 < length ns → (new : List Listing) → runs (status_at ws unit) ≡ true → Relists ks new ns unit → IsRising listing_cmp new → IsTable (slice_set ws unit (Waits ns)) (slice_set kept unit Runs) new (r - 1) (w + 1)
    notes_runner ns up_ns some new e re up = table_set unit (Waits ns) Runs l (up_ns, (λ _. some)) new (r - 1) (w + 1) re up (fewer_run ns e) (now_wait ns e)

    pub notes_waiter : (ns : List Need) → IsRising need_cmp ns → 0 < length ns → (new : List Listing) → waits (status_at ws unit) ≡ true → Relists ks new ns unit → IsRising listing_cmp new → IsTable (slice_set ws unit (Waits ns)) (slice_set kept unit Runs) new r w
    notes_waiter ns up_ns some new e re up = table_set unit (Waits ns) Runs l (up_ns, (λ _. some)) new r w re up (run_as_many ns e) (wait_again ns e)

-- ---- what the counts tell

module _ (ws : WaitsOf) (r w : ℕ) (run_so : r ≡ count_by runs ws) (wait_so : w ≡ count_by waits ws) where
  pub stuck : r ≡ 0 → 0 < w → AllWait ws
  stuck none some =
      let k = some_counted waits ws (omega (arith, some, wait_so)) in
      record {
        some = (k.0, waiting_lives (status_at ws k.0) k.2);
        each = λ u live. each_waits u live (runs (status_at ws u)) refl;
      }
    where
      each_waits : (u : ℕ) → IsLive ws u → (b : Bool) → runs (status_at ws u) ≡ b → IsWaiting ws u
      each_waits u live true e = absurd (omega (arith, counted_within runs ws u (live_within ws u live) e, none, run_so))
      each_waits u live false e = live_waits (status_at ws u) live e

  pub stuck_none : AllWait ws → 0 < r → ⊥
  stuck_none h some =
      let k = some_counted runs ws (omega (arith, some, run_so)) in
      let both : waits (status_at ws k.0) ≡ true = h.each k.0 (running_lives (status_at ws k.0) k.2) in
      let not : waits (status_at ws k.0) ≡ false = running_waits (status_at ws k.0) k.2 in
      cc

  pub stuck_some : AllWait ws → 0 < w
  stuck_some h = omega (arith, counted_within waits ws (h.some).0 (live_within ws (h.some).0 (h.some).1) (h.each (h.some).0 (h.some).1), wait_so)

pub open_table : (n : ℕ) → n < 2 ^ 32 → IsTable (replicate n Runs) (replicate n Runs) [] n 0
open_table n l = record {
  few = omega (arith, length_replicate n);
  as_many = refl;
  standing = idle n;
  listed = λ k. ((λ c. absurd (nothing_in k c)), (λ c. absurd (none_listed n k.unit k.need c)));
  rising = tt;
  count_running = sym (all_counted runs Runs n refl);
  count_waiting = sym (none_counted waits Runs n refl);
}
  where
    none_listed : (n u : ℕ) (m : Need) → Contains (listed_at (replicate n Runs) (replicate n Runs) u) m → ⊥
    none_listed n u m c = elim (listed_so (status_at (replicate n Runs) u) (status_at (replicate n Runs) u) m c) [
      | inl k ↦ nothing_in m (subst (λ (ns : List Need). Contains ns m) (none_needed n u) k)
      | inr k ↦ nothing_in m (subst (λ (ns : List Need). Contains ns m) (none_needed n u) k)
    ]

    idle : (n u : ℕ) → IsStanding (status_at (replicate n Runs) u)
    idle zero u = stands_idle
    idle (suc n) zero = stands_idle
    idle (suc n) (suc u) = idle n u

    length_replicate : (n : ℕ) → length (replicate n Runs) ≡ n
    length_replicate zero = refl
    length_replicate (suc n) = ap suc (length_replicate n)

-- ---- tests of counts

pub above_none : (n : ℕ) → IsTrue (nat_lt 0 n) → 0 < n
above_none n h = grind (arith, nat_tests)

pub some_above : (n : ℕ) → 0 < n → IsTrue (nat_lt 0 n)
some_above n h = grind (arith, nat_tests)

pub none_of : (n : ℕ) → IsTrue (nat_eq n 0) → n ≡ 0
none_of n h = grind (arith, nat_tests)

-- ---- all units of a list run

pub live_stays : (ws : WaitsOf) (us : List ℕ) (u : ℕ) → IsLive ws u → IsLive (fold set_running ws us) u
live_stays ws [] u h = h
live_stays ws (v ∷ us) u h =
    live_stays (set_running ws v) us u (elim (same_number u v) [
      | inl e ↦ subst (λ (s : Status). IsTrue (is_live s)) (sym (ap (λ (x : ℕ). status_at (slice_set ws v Runs) x) e ∙ set_here ws v Runs (subst (λ (x : ℕ). x < length ws) e (live_within ws u h)))) refl
      | inr n ↦ subst (λ (s : Status). IsTrue (is_live s)) (sym (set_other ws v Runs u n)) h
    ])

pub all_length : (ws : WaitsOf) (us : List ℕ) → length (fold set_running ws us) ≡ length ws
all_length ws [] = refl
all_length ws (v ∷ us) = all_length (set_running ws v) us ∙ length_set ws v Runs

runs_on : (ws : WaitsOf) (us : List ℕ) (u : ℕ) → u < length ws → status_at ws u ≡ Runs → status_at (fold set_running ws us) u ≡ Runs
runs_on ws [] u l e = e
runs_on ws (v ∷ us) u l e =
    runs_on (set_running ws v) us u (subst (λ (n : ℕ). u < n) (sym (length_set ws v Runs)) l) (elim (same_number u v) [
      | inl s ↦ ap (λ (x : ℕ). status_at (slice_set ws v Runs) x) s ∙ set_here ws v Runs (subst (λ (x : ℕ). x < length ws) s l)
      | inr n ↦ set_other ws v Runs u n ∙ e
    ])

pub all_run : (ws : WaitsOf) (us : List ℕ) (u : ℕ) → u < length ws → Contains us u → status_at (fold set_running ws us) u ≡ Runs
all_run ws [] u l c = absurd (nothing_in u c)
all_run ws (v ∷ us) u l c =
    let m : u < length (set_running ws v) = subst (λ (n : ℕ). u < n) (sym (length_set ws v Runs)) l in
    elim (Contains-cons v u us c) [
      | inl e ↦ runs_on (set_running ws v) us u m (ap (λ (x : ℕ). status_at (slice_set ws v Runs) x) e ∙ set_here ws v Runs (subst (λ (x : ℕ). x < length ws) e l))
      | inr k ↦ all_run (set_running ws v) us u m k
    ]

pub others_stand : (ws : WaitsOf) (us : List ℕ) (u : ℕ) → (Contains us u → ⊥) → status_at (fold set_running ws us) u ≡ status_at ws u
others_stand ws [] u n = refl
others_stand ws (v ∷ us) u n =
    others_stand (set_running ws v) us u (λ c. n (Contains-tail v u us c)) ∙ set_other ws v Runs u (λ e. n (subst (λ (x : ℕ). Contains (v ∷ us) x) (sym e) (Contains-head v us)))

pub wakes_all : (ws : WaitsOf) (gone : List Need) (us : List ℕ) → ((u : ℕ) → (Contains us u) ↔ (WaitsForOne ws u gone)) → Wakes ws (fold set_running ws us) gone
wakes_all ws gone us which = record {
  units = all_length ws us;
  woken = λ u h. all_run ws us u (needy_within ws u h.0 h.2) ((which u).1 h);
  kept = λ u n. others_stand ws us u (λ c. n ((which u).0 c));
}
