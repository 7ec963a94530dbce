use Rattle.std.proofs.Common.{[], ◌∷◌, List, map, take, subst, sym}
use Rattle.sg_query.specs.declared.kind.Kind.{Kind}
use Rattle.sg_query.specs.Query.{value_of_kind}
use Rattle.jv_names.specs.Kinds.{AllAre, kind_at, kinds}
use Rattle.jv_names.proofs.Table.{added}
use Rattle.jv_names.proofs.kind_table.add_first_kinds.Goals as goal

pub returns : goal.returns
returns c =
    let none : AllAre (take 0 kinds) (map value_of_kind c.args.found.now.items) = subst (λ (ks : List Kind). AllAre [] (map value_of_kind ks)) (sym c.requires) tt in
    let one = added (take 0 kinds) (kind_at 0) c.args.found.now.items c.push.new.self.items c.direct.result none c.direct.ensures c.in_ok-push.ensures.items in
    let two = added (take 1 kinds) (kind_at 1) c.push.new.self.items c.push-2.new.self.items c.direct-2.result one c.direct-2.ensures c.in_ok-push-2.ensures.items in
    let three = added (take 2 kinds) (kind_at 2) c.push-2.new.self.items c.push-3.new.self.items c.in_ok-own_first.field-0 two c.in_ok-own_first.ensures c.in_ok-push-3.ensures.items in
    added (take 3 kinds) (kind_at 3) c.push-3.new.self.items c.push-4.new.self.items c.in_ok-seen_by_file.field-0 three c.in_ok-seen_by_file.ensures c.in_ok-push-4.ensures.items
