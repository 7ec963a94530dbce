use Rattle.std.proofs.Common.{◌≡◌, ◌+◌, ◌<◌, ◌≤◌}
use Rattle.jv_lex.specs.Place.{count_below, ends_line, begins_character, line_start}
use Rattle.jv_lex.proofs.line_column.Place.moved_to.Given as goal

-- The line counts the line ends so far; the column and the characters before the line are those so far.
abbrev pub invariant-loop-i : goal.invariant-loop-i
invariant-loop-i l = record {
  line : l.at < 4294967295 → l.line ≡ 1 + count_below (ends_line l.source) l.i;
  column : l.at < 4294967295 → l.column + count_below (begins_character l.source) (line_start l.source l.i) ≡ 1 + count_below (begins_character l.source) l.i;
  within : l.line ≤ 1 + l.i;
  across : l.column ≤ 1 + l.i;
  from_one : 1 ≤ l.column;
  below : l.i ≤ l.at;
}
