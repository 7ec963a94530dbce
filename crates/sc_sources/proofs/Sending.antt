-- What files have come to may be sent to other threads.
use denote.Param.Send.{IsSend, sendable}
use Rattle.std.proofs.Crossing as heap
use Rattle.sc_sources.specs.contracts.growing.Grown as grown
use Rattle.sc_sources.proofs.TreeSending.{tree_send}

pub grown_send : IsSend grown.the_row
grown_send = search (tree_send, sendable, heap.crosses) depth 40 fits 20000
