use Rattle.std.specs.String.{string_bytes}
use Rattle.jv_names.proofs.Dots.{written_round}
use Rattle.jv_names.proofs.writing.written.Goals as goal

pub returns-in_ok-push_following-in-Some : goal.returns-in_ok-push_following-in-Some
returns-in_ok-push_following-in-Some c =
    written_round c.args.names.now c.args.ids.now c.in-Some.first.now c.in-Some.rest.now (string_bytes c.in_ok-text-in-Some.text) (string_bytes c.push_following.new.text) c.text_of.result.now c.in-Some.ensures.cases.0 c.in_ok-text-in-Some.ensures.ok c.text_of.ensures c.in_ok-push_following-in-Some.ensures
