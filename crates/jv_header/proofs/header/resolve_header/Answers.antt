use Rattle.jv_header.proofs.Progress.{header_so_far_new}
use Rattle.jv_header.proofs.header.resolve_header.Goals as goal

pub read_header-requires : goal.read_header-requires
read_header-requires c = record { so_far = header_so_far_new _ _ _ _ _ _ c.new-progress.ensures.extended c.new-progress.ensures.implemented }
