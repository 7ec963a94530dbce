use Rattle.jv_member.proofs.Grouping.{grown}
use Rattle.jv_member.proofs.groups.Groups.add.Goals as goal

pub returns-in_ok-push-in-Some : goal.returns-in_ok-push-in-Some
returns-in_ok-push-in-Some c =
    rw ((c.get_mut.follows.holds c.push.new.self).0, ← c.self.view_is)
    (grown c.args.l.now c.self.inside.by_name.entries c.args.method c.method_name-name.result c.in-Some.methods.now c.push.new.self c.method_name-name.ensures c.in-Some.ensures.value c.in_ok-push-in-Some.ensures.ok)
