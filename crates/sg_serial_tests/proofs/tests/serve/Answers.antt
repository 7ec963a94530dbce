use Rattle.sg_serial_tests.specs.declared.tests.Worker.{Worker}
use Rattle.sg_serial.proofs.Examples.{both_new}
use Rattle.sg_serial_tests.proofs.tests.serve.Goals as goal

pub run_serial-requires-clause-new : goal.run_serial-requires-clause-new
run_serial-requires-clause-new c =
    both_new (λ (w : Worker). w.second) (λ (w : Worker). w.asks) (λ (w : Worker). w.given) (λ (w : Worker). w.kinds.value) 5 7 c.in_ok-core.core c.new-first.result c.new-second.result c.in_ok-units.units.items _ c.args.table
    c.in_ok-core.ensures.opened c.in_ok-o.ensures c.requires c.in_ok-units.ensures c.new-first.ensures.second c.new-first.ensures.given c.new-first.ensures.kinds c.new-second.ensures.second c.new-second.ensures.given c.new-second.ensures.kinds
