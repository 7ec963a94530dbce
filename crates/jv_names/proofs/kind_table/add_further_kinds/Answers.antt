use Rattle.std.proofs.Common.{take}
use Rattle.jv_names.specs.Kinds.{kind_at, kinds}
use Rattle.jv_names.proofs.Table.{added}
use Rattle.jv_names.proofs.kind_table.add_further_kinds.Goals as goal

pub returns : goal.returns
returns c =
    let five = added (take 4 kinds) (kind_at 4) c.args.found.now.items c.push.new.self.items c.in_ok-own_first.field-0 c.requires c.in_ok-own_first.ensures c.in_ok-push.ensures.items in
    let six = added (take 5 kinds) (kind_at 5) c.push.new.self.items c.push-2.new.self.items c.in_ok-own_first-2.field-0 five c.in_ok-own_first-2.ensures c.in_ok-push-2.ensures.items in
    let seven = added (take 6 kinds) (kind_at 6) c.push-2.new.self.items c.push-3.new.self.items c.in_ok-methods_above.field-0 six c.in_ok-methods_above.ensures c.in_ok-push-3.ensures.items in
    let eight = added (take 7 kinds) (kind_at 7) c.push-3.new.self.items c.push-4.new.self.items c.direct.result seven c.direct.ensures c.in_ok-push-4.ensures.items in
    let nine = added (take 8 kinds) (kind_at 8) c.push-4.new.self.items c.push-5.new.self.items c.direct-2.result eight c.direct-2.ensures c.in_ok-push-5.ensures.items in
    added (take 9 kinds) (kind_at 9) c.push-5.new.self.items c.push-6.new.self.items c.in_ok-all_supertypes.field-0 nine c.in_ok-all_supertypes.ensures c.in_ok-push-6.ensures.items
