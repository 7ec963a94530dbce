use Rattle.jv_grammar.proofs.Turns.{sound_next}
use Rattle.jv_grammar.proofs.tests.loads.Goals as goal

pub loop-i-preserved : goal.loop-i-preserved
loop-i-preserved c = record {
  sound = sound_next c.loop-i.before c.index.result.now c.terminal_at.result _ _ c.step.ensures c.loop-i.invariant.sound;
}
