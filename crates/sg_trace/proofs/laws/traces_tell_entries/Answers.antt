use Rattle.sg_trace.proofs.Telling.{traces_tell_asks as asks_proved, entries_follow_traces as entries_proved, writes_are_entries as writes_proved}
use Rattle.sg_trace.proofs.laws.traces_tell_entries.Goals as goal

pub returns-clause-asks : goal.returns-clause-asks
returns-clause-asks g c = asks_proved _ _ _ _

pub returns-clause-entries : goal.returns-clause-entries
returns-clause-entries g c = entries_proved _ _ _ _

pub returns-clause-writes : goal.returns-clause-writes
returns-clause-writes g c = writes_proved _ _ _ _
