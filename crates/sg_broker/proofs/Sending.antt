-- A broker may be shared among threads, and its seats may be sent.
use denote.RattleType.{RattleType}
use denote.Param.Send.{IsSend, IsSync, sendable, struct_send, recorded_send, view_send}
use denote.Struct.Declared.{shape}
use Rattle.std.proofs.Crossing as heap
use Rattle.std.proofs.MapsCrossing as maps
use Rattle.std.proofs.MapsCrossingOver as sets
use Rattle.atomic_table.proofs.shared.Seat.TheSendSync as table_seat
use Rattle.atomic_table.proofs.shared.Shared.TheSendSync as shared
use Rattle.atomic_table.proofs.send_lease.SendLease.TheSendSync as lease
use Rattle.sg_base.specs.declared.instance.Instance as instance
use Rattle.sg_expr.specs.contracts.expr.Expr as expr
use Rattle.sg_expr.proofs.expr.Expr.TheLaws.TheKnot.{send-Expr, sync-Expr}
use Rattle.sg_query.specs.contracts.answer.Answer as answer
use Rattle.sg_query.specs.contracts.kind_table.KindTable as kind_table
use Rattle.sg_engine.specs.contracts.nodes.Nodes as nodes
use Rattle.sg_engine.specs.contracts.search.Search as engine
use Rattle.sg_engine.specs.contracts.tree.Tree as tree
use Rattle.sg_state.specs.contracts.held.Held as held
use Rattle.sg_state.specs.contracts.place.Place as place
use Rattle.sg_state.specs.contracts.row.Row as row
use Rattle.sg_state.specs.contracts.rows.Rows as rows
use Rattle.sg_state.specs.contracts.unit_set.UnitSet as unit_set
use Rattle.sg_waits.specs.contracts.waits.Waits as waits
use Rattle.sg_waits.specs.contracts.shown.Shown as shown
use Rattle.sg_unit.specs.contracts.entry.Entry as entry
use Rattle.sg_core.specs.contracts.ask.Ask as ask
use Rattle.sg_core.specs.contracts.kept.Kept as kept
use Rattle.sg_core.specs.contracts.machine.Core as machine
use Rattle.sg_core.specs.contracts.sight.Sight as sight
use Rattle.sg_core.specs.contracts.keep.Keep as keep
use Rattle.sg_core.specs.contracts.shared_kinds.SharedKinds as shared_kinds
use Rattle.sg_broker.specs.contracts.aside.Aside as aside
use Rattle.sg_broker.specs.contracts.broker.Broker as broker
use Rattle.sg_broker.specs.contracts.unit_seat.UnitSeat as unit_seat
use Rattle.sg_broker.specs.contracts.unit_seat.UnitSeat.TheInside as seat_fields

expr_send : IsSend (expr.the_field).row
expr_send = send-Expr (search sendable depth 20) (λ h s. heap.Box-send h s)

kind_table_send : IsSend kind_table.the_row
kind_table_send = search (expr_send, sendable, heap.crosses, maps.crosses) depth 60 fits 100000

expr_sync : IsSync (expr.the_field).row
expr_sync = sync-Expr (search sendable depth 20) (λ h s. heap.Box-sync h s)

kind_table_sync : IsSync kind_table.the_row
kind_table_sync = search (expr_sync, expr_send, sendable, heap.crosses, maps.crosses) depth 60 fits 100000

kinds_send : IsSend shared_kinds.the_row
kinds_send = search (kind_table_send, kind_table_sync, sendable, heap.crosses) depth 60 fits 100000

waits_send : IsSend waits.the_row
waits_send = search (sendable, heap.crosses, maps.crosses, sets.crosses) depth 40

nodes_send : IsSend nodes.the_row
nodes_send = search (sendable, heap.crosses, sets.crosses, heap.send, heap.frees) depth 60 fits 100000

tree_send : (D : RattleType) → IsSend D → IsSend (tree.the_field D).row
tree_send D d = search (nodes_send, sendable, heap.crosses) depth 60 fits 100000

answer_send : (D : RattleType) → IsSend D → IsSync D → IsSend (answer.the_field D).row
answer_send D d e = search (sendable, heap.crosses) depth 60 fits 100000

unit_set_send : IsSend unit_set.the_row
unit_set_send = search (sendable, heap.crosses) depth 60 fits 100000

row_send : IsSend row.the_field.row
row_send = search (unit_set_send, sendable, heap.crosses) depth 60 fits 100000

rows_send : IsSend rows.the_field.row
rows_send = search (row_send, sendable, heap.crosses) depth 60 fits 100000

place_send : (D : RattleType) → IsSend D → IsSend (place.the_row D)
place_send D d = search (rows_send, sendable, heap.crosses) depth 60 fits 100000

unit_set_sync : IsSync unit_set.the_row
unit_set_sync = search (sendable, heap.crosses) depth 60 fits 100000

row_sync : IsSync row.the_field.row
row_sync = search (unit_set_sync, sendable, heap.crosses) depth 60 fits 100000

rows_sync : IsSync rows.the_field.row
rows_sync = search (row_sync, sendable, heap.crosses) depth 60 fits 100000

place_sync : (D : RattleType) → IsSync D → IsSync (place.the_row D)
place_sync D d = search (rows_sync, sendable, heap.crosses) depth 60 fits 100000

shown_send : IsSend shown.the_row
shown_send = search (sendable, heap.crosses, maps.crosses) depth 40

module _ (I D P : RattleType) (g : instance.Ghosts I.Denot D.Denot P.Denot) (i : IsSend I) (d : IsSend D) (e : IsSync D) (p : IsSend P) where
  held_send : IsSend (held.the_row I D P g)
  held_send = search (place_send, sendable, heap.crosses, maps.crosses, sets.crosses) depth 60 fits 100000

  held_sync : IsSync (held.the_row I D P g)
  held_sync = search (place_sync, sendable, heap.crosses, maps.crosses, sets.crosses) depth 60 fits 100000

  keep_send : IsSend (keep.the_row I D P g)
  keep_send = search (held_send, held_sync, sendable, heap.crosses) depth 60 fits 100000

  sight_send : IsSend (sight.the_row I D P g)
  sight_send = search (held_send, held_sync, kind_table_send, kind_table_sync, sendable, heap.crosses) depth 60 fits 100000

  search_send : IsSend (engine.the_row I D P g)
  search_send = search (tree_send, answer_send, sendable, heap.crosses) depth 60 fits 100000

  ask_send : IsSend (ask.the_row I D P g)
  ask_send = search (search_send, sendable, heap.crosses) depth 60 fits 100000

module _ (I R D P : RattleType) (g : instance.Ghosts I.Denot D.Denot P.Denot) (i : IsSend I) (r : IsSend R) (d : IsSend D) (e : IsSync D) (p : IsSend P) where
  entry_send : IsSend (entry.the_row I R D P)
  entry_send = search (sendable, heap.crosses, maps.crosses) depth 60 fits 100000

  kept_send : IsSend (kept.the_field I R D P).row
  kept_send = search (entry_send, answer_send, sendable, heap.crosses) depth 60 fits 100000

  aside_send : IsSend (aside.the_field I R D P g).row
  aside_send = struct_send (shape (aside.the_type I R D P g)) (search (sight_send, sendable, heap.crosses) depth 60 fits 100000, (search sendable depth 20, (search (kept_send, sendable) depth 20, tt)))

  core_send : IsSend (machine.the_row I R D P g)
  core_send = search (kinds_send, waits_send, shown_send, keep_send, ask_send, entry_send, sendable, heap.crosses) depth 60 fits 100000

  seat_fields_send : IsSend (seat_fields.the_row I R D P g)
  seat_fields_send =
      recorded_send (seat_fields.the_field I R D P g).row _ _ (seat_fields.the_type I R D P g).to_one
      (struct_send (shape (seat_fields.the_type I R D P g)) (search (core_send, table_seat.the_send, sendable, heap.crosses) depth 60 fits 100000, (search sendable depth 20, (search sendable depth 20, (search (aside_send, sendable) depth 20, tt)))))

  pub seat_send : IsSend (unit_seat.the_row I R D P g)
  seat_send = view_send _ _ _ _ _ seat_fields_send

  pub broker_sync : IsSync (broker.the_row I R D P g)
  broker_sync = search (core_send, shared.the_sync, lease.the_sync, sendable, heap.crosses, heap.send, heap.sync) depth 60 fits 100000
