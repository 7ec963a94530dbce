use Rattle.std.proofs.Common.{List, ◌≡◌, ◌↔◌, refl, ap, sym, ◌∙◌, subst, slice_set, arith}
use Rattle.std.specs.List.{Contains}
use Rattle.sg_state.specs.declared.need.Need.{Need}
use Rattle.sg_waits.specs.declared.waits.Waits.TheInside.{Inside}
use Rattle.sg_waits.specs.declared.status.Status.TheVariants.{Runs, Waits}
use Rattle.sg_waits.specs.Listing.{Relists}
use Rattle.sg_waits.specs.Block.{IsFlagged}
use Rattle.sg_waits.specs.Table.{IsTable}
use Rattle.sg_waits.specs.Waits.{WaitsOf, status_at}
use Rattle.sg_waits.specs.Table.{listed_at}
use Rattle.sg_waits.proofs.Listed.{as_given}
use Rattle.sg_waits.proofs.Standing.{live_within}
use Rattle.sg_waits.proofs.Tables.{now_wait_few, listed_for, notes_runner, notes_waiter, live_waits}
use Rattle.sg_waits.proofs.waits.Waits.note.Goals as goal
use Rattle.sg_waits.proofs.waits.Waits.note.Goals.{then-runs, else-runs}

pub change-requires-clause-listed : goal.change-requires-clause-listed
change-requires-clause-listed c =
    let needs = c.listed_at-before.ensures.needs ∙ ap (λ (ws : WaitsOf). listed_at ws c.deref-2.result.now c.args.unit) c.deref.ensures.value ∙ ap (λ (ws : WaitsOf). listed_at c.self.inside.units.items ws c.args.unit) c.deref-2.ensures.value in
    subst (λ (ns : List Need). (n : Need) → (Contains c.self.inside.listings.keys (record { need = n; unit = c.args.unit })) ↔ (Contains ns n)) (sym needs) (listed_for c.self.inside.units.items c.self.inside.kept.items c.self.inside.listings.keys c.self.inside.running c.self.inside.waiting c.self.invariant.0 c.args.unit)

pub overflow_add-self : goal.overflow_add-self
overflow_add-self c =
    let live = rw (← c.self.view_is) at c.requires.live in
    let e = rw c.deref-3.ensures.value at (sym c.runs.ensures ∙ c.if-runs.true) in
    omega (arith, now_wait_few c.self.inside.units.items c.self.inside.kept.items c.self.inside.listings.keys c.self.inside.running c.self.inside.waiting c.self.invariant.0 c.args.unit (live_within c.self.inside.units.items c.args.unit live) c.in_ok-list.list e)

pub invariant_of-self-2 : goal.invariant_of-self-2
invariant_of-self-2 c =
    let items = c.self.inside.units.items in
    let keys = c.self.inside.listings.keys in
    let live = rw (← c.self.view_is) at c.requires.live in
    let l = live_within items c.args.unit live in
    let re : Relists keys c.change.new.listings.keys c.in_ok-list.list c.args.unit = subst (λ (ns : List Need). Relists keys c.change.new.listings.keys ns c.args.unit) c.as_slice.ensures.all c.in_ok-change.ensures.ok in
    let up = c.as_slice.ensures.rising in
    let some = c.as_slice.ensures.some in
    let table : IsTable (slice_set c.if-runs.self-inside.units.items c.args.unit (Waits c.in_ok-list.list)) (slice_set c.if-runs.self-inside.kept.items c.args.unit Runs) c.if-runs.self-inside.listings.keys c.if-runs.self-inside.running c.if-runs.self-inside.waiting =
    elim c.if-runs.branch [
      | then-runs w ↦
          let e = rw c.deref-3.ensures.value at (sym c.runs.ensures ∙ w.if-runs.true) in
          subst (λ (i : Inside). IsTable (slice_set i.units.items c.args.unit (Waits c.in_ok-list.list)) (slice_set i.kept.items c.args.unit Runs) i.listings.keys i.running i.waiting) (sym w.self-inside-is)
          (notes_runner items c.self.inside.kept.items keys c.self.inside.running c.self.inside.waiting c.self.invariant.0 c.args.unit l c.in_ok-list.list up some c.change.new.listings.keys e re c.in_ok-change.ensures.rising)
      | else-runs w ↦
          let e = rw c.deref-3.ensures.value at (sym c.runs.ensures ∙ w.if-runs.false) in
          subst (λ (i : Inside). IsTable (slice_set i.units.items c.args.unit (Waits c.in_ok-list.list)) (slice_set i.kept.items c.args.unit Runs) i.listings.keys i.running i.waiting) (sym w.self-inside-is)
          (notes_waiter items c.self.inside.kept.items keys c.self.inside.running c.self.inside.waiting c.self.invariant.0 c.args.unit l c.in_ok-list.list up some c.change.new.listings.keys (live_waits (status_at items c.args.unit) live e) re c.in_ok-change.ensures.rising)
    ]
    in (table, subst (λ (ws : WaitsOf). IsFlagged ws c.refresh.new.flags.items) c.deref-4.ensures.value c.refresh.ensures)

pub returns-clause-rising : goal.returns-clause-rising
returns-clause-rising c = λ r.
    let needs = as_given c.args.needs.now c.in_ok-list.list c.in_ok-list.ensures r in
    let units : c.if-runs.self-inside.units.items ≡ c.args.self.now = elim c.if-runs.branch [
      | then-runs w ↦ ap (λ (i : Inside). i.units.items) w.self-inside-is ∙ c.self.view_is
      | else-runs w ↦ ap (λ (i : Inside). i.units.items) w.self-inside-is ∙ c.self.view_is
    ] in
    rw (needs, units) refl
