use Rattle.std.proofs.Common.{◌≡◌, ◌++◌}
use Rattle.jv_member.specs.Signatures.{types_of, diags_of}
use Rattle.jv_member.proofs.written_types.WrittenTypes.put_behind.Given as goal

abbrev pub invariant-loop-written : goal.invariant-loop-written
invariant-loop-written l = record {
  types : l.types.items ++ types_of l.written-iterator.rest.items ≡ l.initial.types.items ++ types_of l.fn.self;
  diags : l.diags ++ diags_of l.written-iterator.rest.items ≡ l.initial.diags ++ diags_of l.fn.self;
}
