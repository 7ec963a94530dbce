-- The folder that checkers share may be sent to other threads and shared with them.
use denote.Param.Send.{IsSend, IsSync, sendable}
use Rattle.std.proofs.Crossing as heap
use Rattle.std.proofs.MapsCrossing as maps
use Rattle.std.proofs.MapsCrossingOver as sets
use denote.RattleType.{RattleType}
use Rattle.sg_query.specs.contracts.answer.Answer as answer
use Rattle.jv_instance.specs.contracts.datum.JavaDatum as datum
use Rattle.jv_instance.specs.contracts.pred.JavaPred as pred
use Rattle.jv_tree.specs.contracts.names.Names as names
use Rattle.jv_layout.specs.contracts.tables.Layout as layout
use Rattle.jv_layout.specs.contracts.declarations.Declarations as declarations
use Rattle.jv_unit.specs.contracts.decl_paths.DeclPaths as paths
use Rattle.jv_unit.specs.contracts.member_places.MemberPlaces as places
use Rattle.jv_header.specs.contracts.header_progress.HeaderProgress as header
use Rattle.jv_header.specs.contracts.imports_progress.ImportsProgress as imports
use Rattle.jv_header.specs.contracts.statics_progress.StaticsProgress as statics
use Rattle.jv_header.specs.contracts.header.Header as whole_header
use Rattle.jv_header.specs.contracts.dependence.Dependence as found
use Rattle.jv_header.specs.contracts.begun_dependence.BegunDependence as row
use Rattle.jv_header.specs.contracts.dependence_progress.DependenceProgress as dependence
use Rattle.jv_expr.specs.contracts.body_progress.BodyProgress as body
use Rattle.jv_unit.specs.contracts.begun_checks.BegunChecks as checks
use Rattle.jv_unit.specs.contracts.begun_head.BegunHead as head
use Rattle.jv_unit.specs.contracts.begun_type.BegunType as begun
use Rattle.jv_unit.specs.contracts.folder.Folder as folder
use Rattle.jv_unit.specs.contracts.java_script.JavaScript as script
use Rattle.sc_sources.proofs.TreeSending.{tree_send, tree_sync}

names_send : IsSend names.the_row
names_send = search (sendable, heap.crosses, maps.crosses, sets.crosses) depth 60 fits 100000

names_sync : IsSync names.the_row
names_sync = search (sendable, heap.crosses, maps.crosses, sets.crosses) depth 60 fits 100000

layout_send : IsSend layout.the_row
layout_send = search (sendable, heap.crosses, maps.crosses, sets.crosses) depth 60 fits 100000

layout_sync : IsSync layout.the_row
layout_sync = search (sendable, heap.crosses, maps.crosses, sets.crosses) depth 60 fits 100000

declarations_send : IsSend declarations.the_row
declarations_send = search (sendable, heap.crosses, maps.crosses, sets.crosses) depth 60 fits 100000

declarations_sync : IsSync declarations.the_row
declarations_sync = search (sendable, heap.crosses, maps.crosses, sets.crosses) depth 60 fits 100000

paths_send : IsSend paths.the_row
paths_send = search (sendable, heap.crosses) depth 40

paths_sync : IsSync paths.the_row
paths_sync = search (sendable, heap.crosses) depth 40

places_send : IsSend places.the_row
places_send = search (sendable, heap.crosses) depth 40

places_sync : IsSync places.the_row
places_sync = search (sendable, heap.crosses) depth 40

folder_send : IsSend folder.the_row
folder_send = search (tree_send, names_send, layout_send, declarations_send, paths_send, places_send, sendable, heap.crosses) depth 60 fits 100000

folder_sync : IsSync folder.the_row
folder_sync = search (tree_sync, names_sync, layout_sync, declarations_sync, paths_sync, places_sync, sendable, heap.crosses) depth 60 fits 100000

header_send : IsSend header.the_row
header_send = search (sendable, heap.crosses) depth 40

imports_send : IsSend imports.the_row
imports_send = search (sendable, heap.crosses) depth 40

statics_send : IsSend statics.the_row
statics_send = search (sendable, heap.crosses) depth 40

whole_header_send : IsSend whole_header.the_row
whole_header_send = search (sendable, heap.crosses, maps.crosses, sets.crosses) depth 60 fits 1000000

found_send : IsSend found.the_row
found_send = search (sendable, heap.crosses) depth 40 fits 1000000

row_send : IsSend row.the_row
row_send = search (found_send, sendable, heap.crosses) depth 40 fits 1000000

dependence_send : IsSend dependence.the_row
dependence_send = search (row_send, found_send, sendable, heap.crosses) depth 40 fits 1000000

head_send : IsSend head.the_row
head_send = search (whole_header_send, dependence_send, sendable, heap.crosses, maps.crosses, sets.crosses) depth 60 fits 1000000

body_send : IsSend body.the_row
body_send = search (sendable, heap.crosses, maps.crosses, sets.crosses) depth 60 fits 100000

checks_send : IsSend checks.the_row
checks_send = search (body_send, sendable, heap.crosses, maps.crosses, sets.crosses) depth 60 fits 100000

begun_send : IsSend begun.the_row
begun_send = search (head_send, checks_send, sendable, heap.crosses, maps.crosses, sets.crosses) depth 60 fits 1000000

datum_send : IsSend datum.the_row
datum_send = search (sendable, heap.crosses) depth 40 fits 20000

datum_sync : IsSync datum.the_row
datum_sync = search (sendable, heap.crosses) depth 40 fits 20000

pred_send : IsSend pred.the_row
pred_send = search (sendable, heap.crosses) depth 40 fits 20000

answer_send : (D : RattleType) → IsSend D → IsSync D → IsSend (answer.the_row D)
answer_send D d e = search (sendable, heap.crosses) depth 60 fits 100000

java_answer_send : IsSend (answer.the_row datum.the_row)
java_answer_send = answer_send datum.the_row datum_send datum_sync

pub script_send : IsSend script.the_row
script_send = search (java_answer_send, pred_send, folder_send, folder_sync, header_send, imports_send, statics_send, begun_send, sendable, heap.crosses, maps.crosses, sets.crosses) depth 60 fits 1000000
