use Rattle.std.specs.String.{string_bytes}
use Rattle.jv_layout.proofs.Naming.{dotted_round}
use Rattle.jv_layout.proofs.titles.dotted.Goals as goal

pub returns-in_ok-add_following-in-Some : goal.returns-in_ok-add_following-in-Some
returns-in_ok-add_following-in-Some c =
    dotted_round c.args.names.now (string_bytes c.new-text.result) (string_bytes c.push_str.new.self) (string_bytes c.add_following.new.text) c.text_of.result.now c.args.ids.items c.pop.new.self.items c.in-Some.first
    c.new-text.ensures.bytes c.in_ok-push_str-in-Some.ensures.bytes c.text_of.ensures c.in_ok-add_following-in-Some.ensures c.in-Some.ensures.items
