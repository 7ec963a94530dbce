use Rattle.jv_names.proofs.Table.{few_kinds, small_kinds, table_is}
use Rattle.jv_names.proofs.kind_table.java_kinds.Goals as goal

pub new-requires-clause-few : goal.new-requires-clause-few
new-requires-clause-few c = few_kinds c.add_further_kinds.new.found.items c.in_ok-add_further_kinds.ensures

pub new-requires-clause-small : goal.new-requires-clause-small
new-requires-clause-small c = small_kinds c.add_further_kinds.new.found.items c.in_ok-add_further_kinds.ensures

pub returns : goal.returns
returns c = table_is c.add_further_kinds.new.found.items c.new.result c.in_ok-add_further_kinds.ensures c.new.ensures
