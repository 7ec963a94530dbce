use Rattle.std.proofs.Common.{◌≡◌, ℕ, ◌+◌, List, Option, get_or, slice_get, ◌<◌, Some, None, length, sym, ◌∙◌, arith}
use Rattle.jv_grammar.specs.Load.{loads_of, after}
use Rattle.jv_grammar.specs.declared.terminal.Terminal.{Terminal}
use Rattle.jv_grammar.specs.declared.load.OpenBrackets.{OpenBrackets}
use Rattle.jv_grammar.specs.Nesting.{nesting_of}
use Rattle.jv_grammar.proofs.Deep.{find_deep, is_first_deep, is_shallow}
use Rattle.jv_grammar.proofs.Turns.{no_terminal, stops, goes, ends, sound_next, low_next}
use Rattle.jv_grammar.proofs.load.first_deep.Goals as goal

-- one turn leads from brackets to brackets
abbrev next : OpenBrackets → Option Terminal → List Terminal → ℕ → OpenBrackets → Type 0
next m before ts i n = nesting_of m ≡ after before (get_or ts i no_terminal) (slice_get ts (i + 1)) (nesting_of n)

-- the first deep terminal is that of this turn
at_turn : (c : goal.Then-nesting) → find_deep 0 (loads_of c.args.terminals.now) ≡ Some c.loop-i.i
at_turn c =
    let l : c.loop-i.i < length c.args.terminals.now = omega arith in
    let e : next c.step.new.nesting c.loop-i.before c.args.terminals.now c.loop-i.i c.loop-i.nesting = rw (← c.terminal_at-behind.ensures) c.step.ensures in
    sym c.loop-i.invariant.goes
    ∙ stops c.args.terminals.now c.loop-i.i no_terminal c.loop-i.before (nesting_of c.loop-i.nesting) (nesting_of c.step.new.nesting) l e c.if-nesting.true

pub returns-then-nesting-clause-deep : goal.returns-then-nesting-clause-deep
returns-then-nesting-clause-deep c = is_first_deep c.args.terminals.now (Some c.loop-i.i) (at_turn c)

pub returns-then-nesting-clause-shallow : goal.returns-then-nesting-clause-shallow
returns-then-nesting-clause-shallow c = is_shallow c.args.terminals.now (Some c.loop-i.i) (at_turn c)

pub loop-i-preserved : goal.loop-i-preserved
loop-i-preserved c =
    let l : c.loop-i.i < length c.args.terminals.now = omega arith in
    let t = get_or c.args.terminals.now c.loop-i.i no_terminal in
    let b = slice_get c.args.terminals.now (c.loop-i.i + 1) in
    let e : next c.step.new.nesting c.loop-i.before c.args.terminals.now c.loop-i.i c.loop-i.nesting = rw (← c.terminal_at-behind.ensures) c.step.ensures in
    record {
      low = low_next c.loop-i.before t b _ _ e c.loop-i.invariant.sound c.loop-i.invariant.low c.if-nesting.false;
      sound = sound_next c.loop-i.before t b _ _ e c.loop-i.invariant.sound;
      goes =
          sym (goes c.args.terminals.now c.loop-i.i no_terminal c.loop-i.before (nesting_of c.loop-i.nesting) (nesting_of c.step.new.nesting) l e c.if-nesting.false)
          ∙ c.loop-i.invariant.goes;
    }

-- no terminal is deep
at_end : (c : goal.After-loop-i) → find_deep 0 (loads_of c.args.terminals.now) ≡ None
at_end c = sym c.loop-i.invariant.goes ∙ ends c.args.terminals.now c.loop-i.i c.loop-i.before (nesting_of c.loop-i.nesting) c.loop-i-test.false

pub returns-clause-deep : goal.returns-clause-deep
returns-clause-deep c = is_first_deep c.args.terminals.now None (at_end c)

pub returns-clause-shallow : goal.returns-clause-shallow
returns-clause-shallow c = is_shallow c.args.terminals.now None (at_end c)
