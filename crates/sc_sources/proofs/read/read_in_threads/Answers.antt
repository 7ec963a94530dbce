use Rattle.std.proofs.Common.{ℕ, List, [], ◌∷◌, sym, subst}
use Rattle.sc_io.specs.SourceFile.{sources_of}
use Rattle.sc_sources.specs.Reading.{IsReading}
use Rattle.sc_sources.specs.Sources.{object_source, string_source}
use Rattle.sc_sources.proofs.Folders.{prelude_fits}
use Rattle.sc_sources.proofs.Threads.{bytes_same}
use Rattle.sc_sources.proofs.read.read_in_threads.Goals as goal

pub read_behind-requires-clause-room : goal.read_behind-requires-clause-room
read_behind-requires-clause-room g c κs within = prelude_fits c.in_ok-prelude.prelude c.in_ok-prelude.ensures

pub returns : goal.returns
returns g c =
    c.finish.ensures (sources_of c.args.files.now) c.requires
    (subst (λ (bs : List (List ℕ)). IsReading (object_source ∷ string_source ∷ bs) c.in_ok-read_behind.field-0) (sym (bytes_same c.args.files.now))
    (c.in_ok-read_behind.ensures (object_source ∷ string_source ∷ []) c.in_ok-prelude.ensures))
