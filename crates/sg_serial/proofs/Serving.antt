-- Units are served: each stands for its entries in the log, by which it is honest, and its reply waits for it.
use Rattle.std.proofs.Common.{◌≡◌, ℕ, zero, suc, ◌+◌, ◌<◌, List, [], ◌∷◌, ◌++◌, Bool, true, false, IsTrue, cond, eqb, Option, Some, None, inl, inr, refl, sym, ap, ◌∙◌, subst, arith, length, slice_get, slice_set, slice_index_or, replicate}
use Rattle.std.proofs.lemmas.Bool.{cases_Bool}
use Rattle.std.proofs.lemmas.List.{length-replicate}
use Rattle.sg_base.specs.declared.scope.Scope.{Scope}
use Rattle.sg_base.specs.Graph.{GraphOf}
use Rattle.sg_query.specs.declared.query.Query.{Query}
use Rattle.sg_query.specs.Query.{KindOf}
use Rattle.sg_state.specs.Held.{HeldOf}
use Rattle.sg_unit.specs.declared.entry.Entry.{Entry}
use Rattle.sg_unit.specs.declared.op.Op.{Op}
use Rattle.sg_unit.specs.declared.op.Op.TheVariants.{Advance, Take}
use Rattle.sg_unit.specs.declared.reply.Reply.{Reply}
use Rattle.sg_unit.specs.Operation.{is_ask}
use Rattle.sg_unit.specs.Own.{own, MayBy, IsOwnRun}
use Rattle.sg_unit.specs.Run.{Setting, opened, run_of, NoAsk}
use Rattle.sg_unit.specs.Served.{AreNew, SomeStands, IsHonestBy, IsServed, waits_next}
use Rattle.sg_unit.specs.Trace.{Past}
use Rattle.sg_unit.specs.Unit.{setting_of, CanBeHanded, GoesOn, GivesOwed}
use Rattle.sg_unit.proofs.Driving.{in_setting, served_new, served_advance, served_take, served_hands, served_may, served_gives}
use Rattle.sg_unit.proofs.Growing.{own_grows, own_stays}
use Rattle.sg_unit.proofs.Telling.{IsAlike, own_within, within_self, own_entries_run, own_allow}
use Rattle.sg_unit.proofs.Writes.{is_num, num_is}
use Rattle.sg_core.specs.Core.{CoreOf, IsCore, IsRunnable, MayDo, Applies, entry, logged, setting, run}
use Rattle.sg_serial.specs.Serial.{IsTeam, sum_of}

-- ---- lists

get_here : {X : Type 0} (xs : List X) (i : ℕ) (x : X) → i < length xs → slice_get (slice_set xs i x) i ≡ Some x
get_here [] i x l = absurd (omega arith)
get_here (y ∷ xs) zero x l = refl
get_here (y ∷ xs) (suc i) x l = get_here xs i x (omega arith)

get_other : {X : Type 0} (xs : List X) (i : ℕ) (x : X) (j : ℕ) → (j ≡ i → ⊥) → slice_get (slice_set xs i x) j ≡ slice_get xs j
get_other [] i x j n = refl
get_other (y ∷ xs) zero x zero n = absurd (n refl)
get_other (y ∷ xs) zero x (suc j) n = refl
get_other (y ∷ xs) (suc i) x zero n = refl
get_other (y ∷ xs) (suc i) x (suc j) n = get_other xs i x j (λ e. n (ap suc e))

get_within : {X : Type 0} (xs : List X) (i : ℕ) (x : X) → slice_get xs i ≡ Some x → i < length xs
get_within [] i x e = absurd (cc)
get_within (y ∷ xs) zero x e = omega arith
get_within (y ∷ xs) (suc i) x e = let k = get_within xs i x e in omega (arith, k)

set_length : {X : Type 0} (xs : List X) (i : ℕ) (x : X) → length (slice_set xs i x) ≡ length xs
set_length [] i x = refl
set_length (y ∷ xs) zero x = refl
set_length (y ∷ xs) (suc i) x = ap suc (set_length xs i x)

pub set_twice : {X : Type 0} (xs : List X) (i : ℕ) (x y : X) → slice_set (slice_set xs i x) i y ≡ slice_set xs i y
set_twice [] i x y = refl
set_twice (z ∷ xs) zero x y = refl
set_twice (z ∷ xs) (suc i) x y = ap (λ ys. z ∷ ys) (set_twice xs i x y)

pub get_of_index : {X : Type 0} (xs : List X) (i : ℕ) (x : X) → i < length xs → x ≡ slice_index_or xs i x → slice_get xs i ≡ Some x
get_of_index [] i x l e = absurd (omega arith)
get_of_index (y ∷ xs) zero x l e = ap Some (sym e)
get_of_index (y ∷ xs) (suc i) x l e = get_of_index xs i x (omega arith) e

pub get_there : {X : Type 0} (xs : List X) (i : ℕ) → i < length xs → (x : X) × (slice_get xs i ≡ Some x)
get_there [] i l = absurd (omega arith)
get_there (y ∷ xs) zero l = (y, refl)
get_there (y ∷ xs) (suc i) l = get_there xs i (omega arith)

pub sum_falls : {V : Type 0} (measure : V → ℕ) (vs : List V) (u : ℕ) (v w : V) → slice_get vs u ≡ Some v → measure w < measure v → sum_of measure (slice_set vs u w) < sum_of measure vs
sum_falls measure [] u v w e l = absurd (cc)
sum_falls measure (x ∷ vs) zero v w e l = let same : x ≡ v = cc in let k : measure x ≡ measure v = ap measure same in omega (arith, k, l)
sum_falls measure (x ∷ vs) (suc u) v w e l = let k = sum_falls measure vs u v w e l in omega (arith, k)

-- ---- replies that wait

pub given_waits : {I R D P : Type 0} (replies : List (Option (Reply I D P))) (u : ℕ) (op : Op I R D P) (y : Reply I D P) (x : Option (Reply I D P)) → is_ask op ≡ false → slice_set replies u (waits_next op y) ≡ slice_set (slice_set replies u x) u (Some y)
given_waits replies u op y x e = ap (λ b. slice_set replies u (cond b None (Some y))) e ∙ sym (set_twice replies u x (Some y))

pub given_none : {I R D P : Type 0} (replies : List (Option (Reply I D P))) (u : ℕ) (op : Op I R D P) (y : Reply I D P) (x : Option (Reply I D P)) → is_ask op ≡ true → x ≡ None → slice_set replies u (waits_next op y) ≡ slice_set replies u x
given_none replies u op y x e n = ap (λ b. slice_set replies u (cond b None (Some y))) e ∙ ap (λ z. slice_set replies u z) (sym n)

-- ---- teams

module _ {I R D P V F : Type 0} (wants : P → D → Bool) (same : D → D → Bool) (opening : F → HeldOf D) (kinds : F → List KindOf) (edges : F → GraphOf D → Scope → ℕ → Scope → Type 0) (data_at : F → GraphOf D → Scope → D → Type 0) (asks : F → GraphOf D → Query P → Type 0) (result : F → GraphOf D → R → Type 0)
    (number : V → ℕ) (fixed : V → F) (stands : V → Past I R D P → Option (Op I R D P) → Type 0) where
  abbrev Serves : List (Entry I R D P) → ℕ → F → V → Option (Reply I D P) → Type 0
  Serves mine u f v y = IsServed wants same opening kinds edges data_at asks result number fixed stands mine u f v y

  abbrev Team : List V → List V → List (Option (Reply I D P)) → CoreOf I R D P → Type 0
  Team start units replies c = IsTeam wants same opening kinds edges data_at asks result number fixed stands start units replies c

  -- the team once the core has one more entry, where its unit is served after it
  team_step : (start units : List V) (replies : List (Option (Reply I D P))) (c d : CoreOf I R D P) (e : Entry I R D P) (v : V) (y : Option (Reply I D P)) → Team start units replies c → d ≡ logged c e
      → ((w : V) → slice_get start e.unit ≡ Some w → Serves (own e.unit c.log ++ e ∷ []) e.unit (fixed w) v y) → Team start (slice_set units e.unit v) (slice_set replies e.unit y) d
  team_step start units replies c d e v y t more own_served =
      subst (λ (x : CoreOf I R D P). Team start (slice_set units e.unit v) (slice_set replies e.unit y) x) (sym more) (record {
        started = t.started;
        counted = set_length units e.unit v ∙ t.counted;
        handed = set_length replies e.unit y ∙ t.handed;
        named = t.named;
        each = λ u w x r at_start at_unit at_reply.
            elim (cases_Bool (eqb e.unit u)) [
              | inl b ↦
                  let at : e.unit ≡ u = is_num e.unit u b in
                  let here : e.unit < length units = subst (λ (n : ℕ). e.unit < n) (set_length units e.unit v) (subst (λ (n : ℕ). n < length (slice_set units e.unit v)) (sym at) (get_within (slice_set units e.unit v) u x at_unit)) in
                  let there : e.unit < length replies = subst (λ (n : ℕ). e.unit < n) (t.counted ∙ sym t.handed) here in
                  let unit_is : v ≡ x = (let g = get_here units e.unit v here in let h = subst (λ (n : ℕ). slice_get (slice_set units e.unit v) n ≡ Some x) (sym at) at_unit in let k = sym g ∙ h in cc) in
                  let reply_is : y ≡ r = (let g = get_here replies e.unit y there in let h = subst (λ (n : ℕ). slice_get (slice_set replies e.unit y) n ≡ Some r) (sym at) at_reply in let k = sym g ∙ h in cc) in
                  let s = own_served w (subst (λ (n : ℕ). slice_get start n ≡ Some w) (sym at) at_start) in
                  subst (λ (n : ℕ). Serves (own n (c.log ++ e ∷ [])) n (fixed w) x r) at
                  (subst (λ (a : V). Serves (own e.unit (c.log ++ e ∷ [])) e.unit (fixed w) a r) unit_is
                  (subst (λ (a : Option (Reply I D P)). Serves (own e.unit (c.log ++ e ∷ [])) e.unit (fixed w) v a) reply_is
                  (subst (λ (es : List (Entry I R D P)). Serves es e.unit (fixed w) v y) (sym (own_grows e.unit c.log e (num_is e.unit))) s)))
              | inr b ↦
                  let out : u ≡ e.unit → ⊥ = λ i. absurd (let k = subst (λ (n : ℕ). eqb e.unit n ≡ false) i b in let g = num_is e.unit in let h = sym g ∙ k in cc) in
                  subst (λ (es : List (Entry I R D P)). Serves es u (fixed w) x r) (sym (own_stays u c.log e b))
                  (t.each u w x r at_start (sym (get_other units e.unit v u out) ∙ at_unit) (sym (get_other replies e.unit y u out) ∙ at_reply))
            ];
      })

  -- where the unit stays as it is
  team_stays : (start units : List V) (replies : List (Option (Reply I D P))) (c d : CoreOf I R D P) (e : Entry I R D P) (y : Option (Reply I D P)) → Team start units replies c → d ≡ logged c e
      → ((w v : V) → slice_get start e.unit ≡ Some w → slice_get units e.unit ≡ Some v → Serves (own e.unit c.log ++ e ∷ []) e.unit (fixed w) v y) → Team start units (slice_set replies e.unit y) d
  team_stays start units replies c d e y t more own_served =
      subst (λ (x : CoreOf I R D P). Team start units (slice_set replies e.unit y) x) (sym more) (record {
        started = t.started;
        counted = t.counted;
        handed = set_length replies e.unit y ∙ t.handed;
        named = t.named;
        each = λ u w x r at_start at_unit at_reply.
            elim (cases_Bool (eqb e.unit u)) [
              | inl b ↦
                  let at : e.unit ≡ u = is_num e.unit u b in
                  let there : e.unit < length replies = subst (λ (n : ℕ). e.unit < n) (set_length replies e.unit y) (subst (λ (n : ℕ). n < length (slice_set replies e.unit y)) (sym at) (get_within (slice_set replies e.unit y) u r at_reply)) in
                  let reply_is : y ≡ r = (let g = get_here replies e.unit y there in let h = subst (λ (n : ℕ). slice_get (slice_set replies e.unit y) n ≡ Some r) (sym at) at_reply in let k = sym g ∙ h in cc) in
                  let s = own_served w x (subst (λ (n : ℕ). slice_get start n ≡ Some w) (sym at) at_start) (subst (λ (n : ℕ). slice_get units n ≡ Some x) (sym at) at_unit) in
                  subst (λ (n : ℕ). Serves (own n (c.log ++ e ∷ [])) n (fixed w) x r) at
                  (subst (λ (a : Option (Reply I D P)). Serves (own e.unit (c.log ++ e ∷ [])) e.unit (fixed w) x a) reply_is
                  (subst (λ (es : List (Entry I R D P)). Serves es e.unit (fixed w) x y) (sym (own_grows e.unit c.log e (num_is e.unit))) s))
              | inr b ↦
                  let out : u ≡ e.unit → ⊥ = λ i. absurd (let k = subst (λ (n : ℕ). eqb e.unit n ≡ false) i b in let g = num_is e.unit in let h = sym g ∙ k in cc) in
                  subst (λ (es : List (Entry I R D P)). Serves es u (fixed w) x r) (sym (own_stays u c.log e b))
                  (t.each u w x r at_start at_unit (sym (get_other replies e.unit y u out) ∙ at_reply))
            ];
      })

  -- ---- a unit that asks nothing is handed its reply

  module _ (start units : List V) (replies : List (Option (Reply I D P))) (c : CoreOf I R D P) (core : IsCore wants same c) (t : Team start units replies c)
      (u : ℕ) (runs : IsRunnable (run wants same c) u) (idle : NoAsk (run wants same c) u) (v : V) (y : Option (Reply I D P)) (at_unit : slice_get units u ≡ Some v) (at_reply : slice_get replies u ≡ Some y) where
    given : (w : V) × (slice_get start u ≡ Some w)
    given = get_there start u (subst (λ (n : ℕ). u < n) (t.counted ∙ sym t.started) (get_within units u v at_unit))

    served : Serves (own u c.log) u (fixed given.0) v y
    served = t.each u given.0 v y given.1 at_unit at_reply

    -- what holds in the run's setting holds in that of the unit, and the other way round
    abbrev setting_at : Setting D P
    setting_at = setting_of wants same (opening (fixed given.0)) (kinds (fixed given.0))

    in_unit : (C : Setting D P → Type 0) → C (setting wants same c) → C setting_at
    in_unit C k = in_setting wants same C c.opening (opening (fixed given.0)) c.kinds (kinds (fixed given.0)) (sym (t.named u given.0 given.1).0) (sym (t.named u given.0 given.1).1) k

    in_run : (C : Setting D P → Type 0) → C setting_at → C (setting wants same c)
    in_run C k = in_setting wants same C (opening (fixed given.0)) c.opening (kinds (fixed given.0)) c.kinds (t.named u given.0 given.1).0 (t.named u given.0 given.1).1 k

    alike : IsAlike u (run wants same c) (run_of (setting wants same c) (own u c.log))
    alike = (own_within u (opened (setting wants same c)) (opened (setting wants same c)) (within_self u (opened (setting wants same c))) c.log).alike

    own_run : IsOwnRun setting_at u (own u c.log)
    own_run = in_unit (λ z. IsOwnRun z u (own u c.log)) (own_entries_run I R D P (setting wants same c) c.log u core.runs)

    free : NoAsk (run_of setting_at (own u c.log)) u
    free = in_unit (λ z. NoAsk (run_of z (own u c.log)) u) (sym alike.asks ∙ idle)

    live : IsTrue ((run_of setting_at (own u c.log)).live u)
    live = in_unit (λ z. IsTrue ((run_of z (own u c.log)).live u)) (sym alike.live ∙ runs.0)

    pub unit_within : u < length units
    unit_within = get_within units u v at_unit

    pub can_hand : CanBeHanded (setting_of wants same (opening (fixed v)) (kinds (fixed v))) (number v) (stands v) y
    can_hand = served_hands wants same opening kinds edges data_at asks result number fixed stands (own u c.log) u (fixed given.0) v y served own_run free live

    module _ (v' : V) (op : Op I R D P) (goes : GoesOn (setting_of wants same (opening (fixed v)) (kinds (fixed v))) (number v) (stands v) (stands v') y op) where
      pub may_give : MayDo wants same c u op
      may_give =
          own_allow I R D P (setting wants same c) c.log u op core.opens core.runs
          (in_run (λ z. MayBy z (own u c.log) u op) (served_may wants same opening kinds edges data_at asks result number fixed stands (own u c.log) u (fixed given.0) v y served own_run free live v' op goes))

      pub team_given : GivesOwed (setting_of wants same (opening (fixed v)) (kinds (fixed v))) (number v) (edges (fixed v)) (data_at (fixed v)) (asks (fixed v)) (result (fixed v)) (stands v) y op → (fixed v' ≡ fixed v) × (number v' ≡ number v) → (reply : Reply I D P) (d : CoreOf I R D P) → Applies wants same c d u op reply → Team start (slice_set units u v') (slice_set replies u (waits_next op reply)) d
      team_given owed stays reply d applied =
          team_step start units replies c d (entry u op reply) v' (waits_next op reply) t applied.0 (λ w at_start.
          let same_start : given.0 ≡ w = (let g = given.1 in let k = sym g ∙ at_start in cc) in
          subst (λ (x : V). Serves (own u c.log ++ entry u op reply ∷ []) u (fixed x) v' (waits_next op reply)) same_start
          (served_gives wants same opening kinds edges data_at asks result number fixed stands (own u c.log) u (fixed given.0) v y served own_run free live v' op goes owed stays reply))

  -- ---- an ask goes on

  set_same : {X : Type 0} (xs : List X) (i : ℕ) (x : X) → slice_get xs i ≡ Some x → slice_set xs i x ≡ xs
  set_same [] i x e = refl
  set_same (y ∷ xs) zero x e = let k : y ≡ x = cc in ap (λ z. z ∷ xs) (sym k)
  set_same (y ∷ xs) (suc i) x e = ap (λ zs. y ∷ zs) (set_same xs i x e)

  pub team_advance : (start units : List V) (replies : List (Option (Reply I D P))) (c d : CoreOf I R D P) (u : ℕ) (y : Reply I D P) → Team start units replies c → u < length c.opening.made → Applies wants same c d u Advance y → Team start units replies d
  team_advance start units replies c d u y t l applied =
      let x = get_there replies u (subst (λ (n : ℕ). u < n) (sym t.handed) l) in
      subst (λ (rs : List (Option (Reply I D P))). Team start units rs d) (set_same replies u x.0 x.1)
      (team_stays start units replies c d (entry u Advance y) x.0 t applied.0 (λ w v at_start at_unit.
      served_advance wants same opening kinds edges data_at asks result number fixed stands (own u c.log) u (fixed w) v x.0 y (t.each u w v x.0 at_start at_unit x.1)))

  pub team_take : (start units : List V) (replies : List (Option (Reply I D P))) (c d : CoreOf I R D P) (u : ℕ) (y : Reply I D P) → Team start units replies c → u < length c.opening.made → Applies wants same c d u Take y → Team start units (slice_set replies u (Some y)) d
  team_take start units replies c d u y t l applied =
      let x = get_there replies u (subst (λ (n : ℕ). u < n) (sym t.handed) l) in
      team_stays start units replies c d (entry u Take y) (Some y) t applied.0 (λ w v at_start at_unit.
      served_take wants same opening kinds edges data_at asks result number fixed stands (own u c.log) u (fixed w) v x.0 y (t.each u w v x.0 at_start at_unit x.1))

  -- ---- the first and the last team

  pub team_new : (start : List V) (replies : List (Option (Reply I D P))) (c : CoreOf I R D P) → AreNew number fixed opening kinds stands c.opening c.kinds start → length replies ≡ length start → ((u : ℕ) (y : Option (Reply I D P)) → slice_get replies u ≡ Some y → y ≡ None) → c.log ≡ [] → Team start start replies c
  team_new start replies c new count none empty = record {
    started = new.0;
    counted = new.0;
    handed = count ∙ new.0;
    named = λ u w at. ((new.1 u w at).1, (new.1 u w at).2);
    each = λ u w v y at_start at_unit at_reply.
        let is : v ≡ w = (let k = sym at_unit ∙ at_start in cc) in
        subst (λ (es : List (Entry I R D P)). Serves (own u es) u (fixed w) v y) (sym empty)
        (subst (λ (x : Option (Reply I D P)). Serves [] u (fixed w) v x) (sym (none u y at_reply))
        (subst (λ (x : V). Serves [] u (fixed x) v None) is
        (served_new wants same opening kinds edges data_at asks result number fixed stands c.opening c.kinds u v (new.1 u v at_unit))));
  }

  module _ (start units : List V) (replies : List (Option (Reply I D P))) (c : CoreOf I R D P) (t : Team start units replies c) (u : ℕ) (w : V) (at : slice_get start u ≡ Some w) where
    last_served : (v : V) × (y : Option (Reply I D P)) × Serves (own u c.log) u (fixed w) v y
    last_served =
        let l = get_within start u w at in
        let v = get_there units u (subst (λ (n : ℕ). u < n) (t.started ∙ sym t.counted) l) in
        let y = get_there replies u (subst (λ (n : ℕ). u < n) (t.started ∙ sym t.handed) l) in
        (v.0, y.0, t.each u w v.0 y.0 at v.1 y.1)

    pub team_stood : SomeStands number fixed stands (own u c.log) u (fixed w)
    team_stood = (last_served.0, last_served.2.numbered, last_served.2.fixed_part, last_served.2.stood)

    pub team_honest : IsHonestBy wants same opening kinds edges data_at asks result (own u c.log) u (fixed w)
    team_honest = last_served.2.honest

  -- no reply waits for any unit
  pub team_begins : (start : List V) (replies : List (Option (Reply I D P))) (c : CoreOf I R D P) → AreNew number fixed opening kinds stands c.opening c.kinds start → (n : ℕ) → n ≡ length start → replies ≡ replicate n None → c.log ≡ [] → Team start start replies c
  team_begins start replies c new n count none empty =
      team_new start replies c new (ap length none ∙ length-replicate n None ∙ count) (λ u y at. all_none n u y (subst (λ (rs : List (Option (Reply I D P))). slice_get rs u ≡ Some y) none at)) empty
    where
      all_none : {Y : Type 0} (n u : ℕ) (y : Option Y) → slice_get (replicate n None) u ≡ Some y → y ≡ None
      all_none zero u y e = absurd (cc)
      all_none (suc n) zero y e = (let k = sym e in cc)
      all_none (suc n) (suc u) y e = all_none n u y e
