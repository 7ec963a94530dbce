use Rattle.std.proofs.Common.{◌≡◌, ◌-◌, ◌+◌, ◌≤◌, [], vec_len, vec_capacity}
use Rattle.std.specs.Prelude.{Some}
use Rattle.sg_turn.specs.declared.stage.Stage.TheVariants.{Outside}
use Rattle.sg_turn.specs.Turn.{fresh_seats}
use Rattle.sg_turn.proofs.dealing.deal.Given as goal

abbrev pub invariant-loop-i : goal.invariant-loop-i
invariant-loop-i g l = record {
  count : vec_len l.all + 1 ≡ l.i;
  room : l.seats ≤ vec_capacity l.all;
  made : l.all.items ≡ fresh_seats l.shared.table_id (g.V.Storied.root l.shared.key.value.value) (l.i - 1);
  seat : l.last.table_id ≡ l.shared.table_id;
  last : l.last.me ≡ (record { stage = Outside; number = l.i - 1; root = Some (g.V.Storied.root l.shared.key.value.value); seen = []; mine = []; made = l.i; kept = [] }, []);
}
