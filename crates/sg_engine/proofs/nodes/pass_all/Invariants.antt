use Rattle.std.proofs.Common.{take}
use Rattle.sg_engine.specs.Nodes.{StayPassed, EndsPass}
use Rattle.sg_engine.proofs.nodes.pass_all.Given as goal

abbrev pub invariant-loop-node : goal.invariant-loop-node
invariant-loop-node l = StayPassed l.initial.passed.keys l.passed.keys × EndsPass l.passed.keys (take l.node-index l.nodes)
